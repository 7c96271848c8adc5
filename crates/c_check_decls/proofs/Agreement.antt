-- Declarations again, by the place of the first.
use Rattle.std.proofs.Common.{◌≡◌, refl, Bool, true, false, Option, Some, None}
use Rattle.std.specs.Prelude.{◌&&◌, if◌then◌else◌}
use Rattle.c_syntax_written.specs.declared.place.Pos.{Pos}
use Rattle.c_typing.specs.World.{Binding, Linked, Meaning, Outcome, Refused, Redeclared}
use Rattle.c_typing.specs.Names.{unless_declared}
use Rattle.c_typing.specs.Decls.{is_same_entity, unless_other}
use Rattle.c_check_decls.specs.Entities.{agreed, conflict_of}

by_linked : {A : Type 0} (b : Bool) (at first : Pos) (outcome : Outcome A) → (if b then outcome else Refused (Redeclared at first)) ≡ unless_declared at (if b then None else Some first) outcome
by_linked true at first outcome = refl
by_linked false at first outcome = refl

-- what a declaration of a name comes to, where its conflict is known
pub by_conflict : {A : Type 0} (at : Pos) (b : Option Binding) (l : Option Linked) (agrees : Meaning → Bool) (outcome : Option Linked → Outcome A)
    → unless_other at b l agrees outcome ≡ unless_declared at (conflict_of b l (agreed agrees l)) (outcome l)
by_conflict at None None agrees outcome = refl
by_conflict at None (Some l) agrees outcome = by_linked (agrees l.meaning) at l.pos (outcome (Some l))
by_conflict at (Some b) None agrees outcome = refl
by_conflict at (Some b) (Some l) agrees outcome = by_linked (is_same_entity b.meaning l.meaning && agrees l.meaning) at b.pos (outcome (Some l))
