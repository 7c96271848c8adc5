-- What initialisers store is typed, in the program at the end of the file.
use Rattle.std.specs.Prelude.{◌≡◌, ℕ, Bool, Some, List, All, AllPairs, IsSomeAnd}
use Rattle.c_syntax_written.specs.WrittenDecl.{InitTree}
use Rattle.c_syntax_written.specs.WrittenFile.{OuterTree}
use Rattle.c_syntax.specs.Types.{CTypeTree, Array}
use Rattle.c_syntax.specs.TypedStmt.{TInitTree}
use Rattle.c_layout.specs.Layout.{size_in}
use Rattle.c_layout.specs.ProperTypes.{IsTold}
use Rattle.c_layout.specs.TypedNodes.{Scope, IsTypedInit, AreApart}
use Rattle.c_typing.specs.World.{World, Typed}
use Rattle.c_typing.specs.Context.{Context}
use Rattle.c_typing.specs.Formed.{IsFormed}
use Rattle.c_typing.specs.Operands.{complete_size}
use Rattle.c_typing.specs.CurrentObject.{frame_of, open_frame}
use Rattle.c_typing.specs.Inits.{Initialised, TypesInit, whole_part}
use Rattle.c_typing.specs.Settled.{settled_init}
use Rattle.c_typing.specs.File.{TypesOuters, nothing_yet}
use Rattle.c_typing_laws.specs.ExpressionLaws.{AreUsable, EndsFrom}

-- the items of an initialiser of an object of this type, as they are settled: each fills its part, and no two the same bytes
pub record AreFilled (scope : Scope) (top : CTypeTree) (items : List TInitTree) : Type 0 where
  pub typed : All (λ item. IsTypedInit scope top (settled_init scope.program.objects item)) items
  pub apart : AllPairs (AreApart scope.program.structs) items

-- an initialiser between the declarations of a file, of an object of a complete type (C11 6.7.9)
abbrev pub InitialisersAreTyped : Type 0
InitialisersAreTyped =
    (around : Context) (before : List OuterTree) (w v : World) (scope : Scope) (static : Bool) (ty : CTypeTree) (size : ℕ) (init : InitTree) (by : Initialised)
    → TypesOuters nothing_yet around before (Typed tt w) → AreUsable w scope → IsFormed w.structs ty → complete_size w.structs ty ≡ Some size
    → TypesInit w static ty (frame_of w.structs (whole_part ty)) init (Typed by v) → EndsFrom v scope → AreFilled scope ty by.items

-- one of an array without size, which has as many elements as it fills (C11 6.7.9p22)
abbrev pub OpenInitialisersAreTyped : Type 0
OpenInitialisersAreTyped =
    (around : Context) (before : List OuterTree) (w v : World) (scope : Scope) (static : Bool) (of : CTypeTree) (is_const : Bool) (init : InitTree)
    (by : Initialised)
    → TypesOuters nothing_yet around before (Typed tt w) → AreUsable w scope → IsFormed w.structs of → IsSomeAnd (size_in w.structs of) IsTold
    → TypesInit w static (Array of is_const 0) (open_frame (Array of is_const 0)) init (Typed by v) → EndsFrom v scope
    → AreFilled scope (Array of is_const by.count) by.items
