-- What expressions come to is typed, in the program at the end of the file.
use Rattle.std.specs.Prelude.{◌≡◌, ◌⊎◌, ℕ, IsTrue, IsSome, IsSomeAnd, Some, List, All, Contains, slice_get}
use Rattle.c_syntax_written.specs.Written.{ExprTree}
use Rattle.c_syntax_written.specs.WrittenFile.{OuterTree}
use Rattle.c_syntax.specs.Types.{ObjectTree}
use Rattle.c_syntax.specs.Program.{TFunctionTree}
use Rattle.c_layout.specs.Tables.{IsTypedTable}
use Rattle.c_layout.specs.TypedNodes.{Scope}
use Rattle.c_layout.specs.WellTyped.{IsTypedObject}
use Rattle.c_typing.specs.World.{World, Meaning, Object, Missing, Parameter, TypeName, Enumeration, Typed}
use Rattle.c_typing.specs.World as world
use Rattle.c_typing.specs.Later.{IsLater}
use Rattle.c_typing.specs.Operands.{OperandTree}
use Rattle.c_typing.specs.Typing.{Types}
use Rattle.c_typing.specs.Context.{Context}
use Rattle.c_typing.specs.File.{TypesOuters, nothing_yet}
use Rattle.c_typing.specs.Laws.{IsLastType}
use Rattle.c_typing_laws.specs.TypedValues.{IsTypedOperand}
use Rattle.c_typing_laws.specs.NodeLaws.{IsCallable}

-- what a name stands for may be used where these objects live: an object that is static or lives, or a function that is there;
-- a parameter of a prototype may not
abbrev pub IsUsable : World → Scope → Meaning → Type 0
IsUsable w scope (Object n) = IsSomeAnd (slice_get w.objects n) (λ x. IsTrue x.is_static ⊎ Contains scope.live n)
IsUsable w scope (Missing ty is_const) = Unit {0}
IsUsable w scope (Parameter k ty is_const) = ⊥
IsUsable w scope (world.Function n) = IsSome (slice_get w.functions n)
IsUsable w scope (TypeName form) = Unit {0}
IsUsable w scope (Enumeration n) = Unit {0}

abbrev pub AreUsable : World → Scope → Type 0
AreUsable w scope = All (λ b. IsUsable w scope b.meaning) w.names

-- an object as it stands in the program at the end: typed, as it was but for the size of an array that had none
pub record EndsAs (scope : Scope) (n : ℕ) (x : ObjectTree) : Type 0 where
  pub object : ObjectTree
  pub there : slice_get scope.program.objects n ≡ Some object
  pub typed : IsTypedObject scope.program.structs object
  pub ty : IsLastType x.ty object.ty
  pub read_only : object.read_only ≡ x.read_only
  pub is_static : object.is_static ≡ x.is_static

-- the program at the end goes on from this world
pub record EndsFrom (w : World) (scope : Scope) : Type 0 where
  pub structs : IsLater w.structs scope.program.structs
  pub table : IsTypedTable scope.program.structs
  pub objects : (n : ℕ) (x : ObjectTree) → slice_get w.objects n ≡ Some x → EndsAs scope n x
  pub functions : (n : ℕ) (f : TFunctionTree) → slice_get w.functions n ≡ Some f → IsCallable w scope n

-- an expression between the declarations of a file, where the names in scope may be used (C11 6.5)
abbrev pub ExpressionsAreTyped : Type 0
ExpressionsAreTyped =
    (around : Context) (before : List OuterTree) (w v : World) (scope : Scope) (e : ExprTree) (x : OperandTree)
    → TypesOuters nothing_yet around before (Typed tt w) → AreUsable w scope → Types w e (Typed x v) → EndsFrom v scope → IsTypedOperand scope x
