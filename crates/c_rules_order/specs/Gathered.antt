-- What is gathered of touches where the objects of a program, and what functions do, are at hand.
use Rattle.std.specs.Prelude.{IsTrue, IsSomeAnd, List, Contains, slice_get}
use Rattle.c_syntax.specs.Types.{ObjectTree}
use Rattle.c_layout.specs.Calls.{PlacedCall}
use Rattle.c_rules_effects.specs.declared.touch.Touch.{Touch}
use Rattle.c_rules_effects.specs.declared.touch.Touch.TheVariants.{Mem, Object}
use Rattle.c_rules_effects.specs.declared.effects.Effects.{Effects}
use Rattle.c_rules_effects.specs.Effects.{called}

-- Mem, or a part of an object of static duration
abbrev pub IsSeenObject : List ObjectTree → Touch → Type 0
IsSeenObject objects Mem = Unit {0}
IsSeenObject objects (Object n path) = IsSomeAnd (slice_get objects n) (λ object. IsTrue object.is_static)

-- one of the functions that are called reads it, by what is known of them
abbrev pub HasCalledReads : List Effects → List PlacedCall → Touch → Type 0
HasCalledReads known calls touch = (call : PlacedCall) × Contains calls call × Contains (called known call.callee).reads touch

abbrev pub HasCalledWrites : List Effects → List PlacedCall → Touch → Type 0
HasCalledWrites known calls touch = (call : PlacedCall) × Contains calls call × Contains (called known call.callee).writes touch
