-- What a message says of a valuation.
use Rattle.std.specs.Prelude.{ℤ, pos, negsuc, ◌≡◌, ◌⊎◌, ◌+ℤ◌, ◌*ℤ◌, ◌≤ℤ◌, List, ◌++◌, length, drop, Some, All}
use Rattle.num_api.specs.declared.message.Message.{Message}
use Rattle.num_api.specs.declared.message.Message.TheVariants as messages
use Rattle.num_api.specs.Exprs.{nexpr_tree}
use Rattle.num_api.specs.Ranges.{InRange}
use Rattle.num_api.specs.Residues.{InResidue, IsResidue}
use Rattle.ext_int.specs.Valuation.{value_at}
use Rattle.num_api.specs.Value.{value_of}

-- the message holds in the valuation
abbrev pub Holds : List ℤ → Message → Type 0
Holds v (messages.Between x r) = InRange r (value_at v x.0)
Holds v (messages.Class x r) = InResidue r (value_at v x.0)
Holds v (messages.Equal x e) = value_of v (nexpr_tree e) ≡ Some (value_at v x.0)
Holds v (messages.AtMost sx x sy y bound) = ((sx *ℤ value_at v x.0) +ℤ (sy *ℤ value_at v y.0)) ≤ℤ bound

-- the number is 1 or -1
abbrev pub IsSign : ℤ → Type 0
IsSign s = (s ≡ pos 1) ⊎ (s ≡ negsuc 0)

-- a class has a proper residue, and a bound on two variables has signs of 1 or -1
abbrev pub IsProper : Message → Type 0
IsProper (messages.Between x r) = Unit {0}
IsProper (messages.Class x r) = IsResidue r
IsProper (messages.Equal x e) = Unit {0}
IsProper (messages.AtMost sx x sy y bound) = IsSign sx × IsSign sy

-- the messages that a call put out behind those that were there
abbrev pub put_out : List Message → List Message → List Message
put_out before after = drop (length before) after

-- what was there is still there, and what came behind it is proper
pub record Adds (before after : List Message) : Type 0 where
  pub kept : after ≡ before ++ put_out before after
  pub proper : All IsProper (put_out before after)

-- each message that was put out holds in the valuation
abbrev pub TellsOf : List ℤ → List Message → List Message → Type 0
TellsOf v before after = All (Holds v) (put_out before after)
