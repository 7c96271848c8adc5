-- What calls of a function read and write, the functions that it calls among them, as its caller can see it (this profile's rule on the order of evaluation).
use Rattle.std.specs.Prelude.{◌↔◌, ℕ, option_and_then, option_map, unwrap_or, List, [], Contains, slice_get}
use Rattle.c_syntax.specs.Program.{TProgramTree}
use Rattle.c_layout.specs.Calls.{PlacedCall, IsChain, chain_end}
use Rattle.c_layout.specs.WellTyped.{IsStaticObject}
use Rattle.c_rules_effects.specs.declared.touch.Touch.{Touch}
use Rattle.c_rules_effects.specs.declared.touch.Touch.TheVariants.{Mem, Object}
use Rattle.c_rules_effects.specs.declared.effects.Effects.{Effects}
use Rattle.c_rules_effects.specs.Effects.{called, effects_in}
use Rattle.c_rules_effects.specs.Joined.{nothing}

-- a touch that the callers of a function can see. An automatic object that a function names is its own (C11 6.2.4p5, 6.2.1p4)
abbrev pub IsSeen : TProgramTree → Touch → Type 0
IsSeen program Mem = Unit {0}
IsSeen program (Object n path) = IsStaticObject program n

-- what the body of a function touches itself
abbrev pub body_effects : TProgramTree → ℕ → Effects
body_effects program f = unwrap_or (option_map (effects_in []) (option_and_then (λ function. function.body) (slice_get program.functions f))) nothing

-- calls lead from the function to one that touches this itself
pub record IsCalledRead (program : TProgramTree) (f : ℕ) (touch : Touch) : Type 0 where
  pub chain : List PlacedCall
  pub calls : IsChain program f chain
  pub made : Contains (body_effects program (chain_end f chain)).reads touch
  pub seen : IsSeen program touch

pub record IsCalledWrite (program : TProgramTree) (f : ℕ) (touch : Touch) : Type 0 where
  pub chain : List PlacedCall
  pub calls : IsChain program f chain
  pub made : Contains (body_effects program (chain_end f chain)).writes touch
  pub seen : IsSeen program touch

-- these are the places that calls of a function read and write
pub record IsEffectsOf (program : TProgramTree) (f : ℕ) (effects : Effects) : Type 0 where
  pub reads : (touch : Touch) → Contains effects.reads touch ↔ IsCalledRead program f touch
  pub writes : (touch : Touch) → Contains effects.writes touch ↔ IsCalledWrite program f touch

-- so for each function, by its number
abbrev pub AreClosed : TProgramTree → List Effects → Type 0
AreClosed program known = (f : ℕ) → IsEffectsOf program f (called known f)
