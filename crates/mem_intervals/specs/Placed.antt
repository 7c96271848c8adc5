-- What a set shows of a named place.
use Rattle.std.specs.Prelude.{Option, IfSome}
use Rattle.c_syntax.specs.declared.alarm.Pointers.{Pointers}
use Rattle.c_syntax.specs.declared.alarm.WrongKind.{WrongKind}
use Rattle.c_syntax.specs.declared.alarm.WrongKind.TheVariants as kinds
use Rattle.csharp.specs.Trees.{CsExprTree}
use Rattle.mem_places.specs.ShownPlaces.{IsSetFor, IsShownPlace}

-- the checks that look at one pointer
abbrev pub LooksAtPointer : WrongKind → Type 0
LooksAtPointer kinds.NullUse = Unit {0}
LooksAtPointer kinds.Dangling = Unit {0}
LooksAtPointer kinds.Bounds = Unit {0}
LooksAtPointer kinds.Access = Unit {0}
LooksAtPointer kinds.Alignment = Unit {0}
LooksAtPointer kinds.ReadOnly = Unit {0}
LooksAtPointer kind = ⊥

-- where the check looks at a pointer
pub record IsShownAt (kind : WrongKind) (e : CsExprTree) (shown : Option Pointers) : Type 0 where
  pub set : IfSome shown (λ set. LooksAtPointer kind × IsSetFor e set)
  pub place : LooksAtPointer kind → IsShownPlace e shown
