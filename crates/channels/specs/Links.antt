-- What the answers of two linked sides allow.
use Rattle.std.specs.Prelude.{◌≡◌, Option, Some, None, ◌⊎◌}
use Rattle.num_api.specs.Exprs.{NExprTree}
use Rattle.num_api.specs.declared.message.Range.{Range}
use Rattle.num_api.specs.Ranges.{NoWider}
use Rattle.num_api.specs.declared.message.Residue.{Residue}
use Rattle.residues.specs.Classes.{Meets}

-- no wider than some range that this side may answer
pub record NoWiderThanSome (may : Range → Type 0) (r : Range) : Type 0 where
  pub of : Range
  pub may_be : may of
  pub inside : NoWider r of

-- an answer of one of the sides, and none only where neither has one
pub record IsOfSides (may_first may_second : Option NExprTree → Type 0) (e : Option NExprTree) : Type 0 where
  pub none : e ≡ None → may_first None × may_second None
  pub some : (t : NExprTree) → e ≡ Some t → may_first (Some t) ⊎ may_second (Some t)

-- the meet of two classes of which each may be answered by its side
pub record MeetsSome (may_first may_second : Residue → Type 0) (r : Residue) : Type 0 where
  pub of_first : Residue
  pub of_second : Residue
  pub may_be_first : may_first of_first
  pub may_be_second : may_second of_second
  pub meets : Meets of_first of_second r
