-- What each statement of a formed program is, in one, and what an expression is.
use Rattle.std.specs.Prelude.{◌≡◌, ℕ, List, [], ◌∷◌, Option, Some, slice_get}
use Rattle.c_syntax.specs.Types.{CTypeTree}
use Rattle.block_mem.specs.declared.types.Scalar.{Scalar}
use Rattle.c_values.specs.Values.{scalar_of}
use Rattle.csharp.specs.Trees.{CsExprTree, CsStmtTree, Return, CsFunctionTree, CsProgramTree}
use Rattle.csharp.specs.Formed.{Around, nothing_around, Each, NamesThere, AreNumbersThere, NamesLive, AreObjectsLive, HasType, AreOperandsTyped, HoldsType, GivesType, IsTyped, IsCheckFormed, StaysOutside, AreCasesFormed}
use Rattle.lower_trees.specs.LowerExpr.{Lowered, Args, held_scalar}

-- the labels of a function, and the type of what it gives
pub record Frame : Type 0 where
  pub names : List ℕ
  pub result : Option Scalar

-- what a return gives has the function's type
abbrev pub GivesAs : CsProgramTree → Option Scalar → CsStmtTree → Type 0
GivesAs q result (Return (Some e)) = (s : Scalar) → result ≡ Some s → HasType q s e
GivesAs q result a = Unit {0}

-- what a formed program asks of a statement where it stands, and its types ask for
pub record Right (q : CsProgramTree) (labels : Frame) (around : Around) (a : CsStmtTree) : Type 0 where
  pub numbers : AreNumbersThere q labels.names around a
  pub live : AreObjectsLive q around a
  pub types : IsTyped q a
  pub checks : IsCheckFormed q a
  pub gotos : StaysOutside around a
  pub gives : GivesAs q labels.result a
  pub cases : AreCasesFormed q a

-- what it names is there and lives, and its operators have operands of their types
pub record Good (q : CsProgramTree) (around : Around) (e : CsExprTree) : Type 0 where
  pub there : NamesThere q e
  pub live : NamesLive q around e
  pub operands : AreOperandsTyped q e

-- code that is right, and a value that is good and has the type
pub record Fine (q : CsProgramTree) (labels : Frame) (around : Around) (ty : Option Scalar) (a : Lowered) : Type 0 where
  pub before : Each (Right q labels) around a.before
  pub good : Good q around a.value
  pub is : (s : Scalar) → ty ≡ Some s → HasType q s a.value

-- ---- calls

abbrev pub AllGood : CsProgramTree → Around → List CsExprTree → Type 0
AllGood q around [] = Unit {0}
AllGood q around (e ∷ es) = Good q around e × AllGood q around es

-- values of these types
abbrev pub TypedAs : CsProgramTree → List CsExprTree → List CTypeTree → Type 0
TypedAs q [] [] = Unit {0}
TypedAs q (e ∷ es) (ty ∷ tys) = ((s : Scalar) → held_scalar ty ≡ Some s → HasType q s e) × TypedAs q es tys
TypedAs q es tys = ⊥

-- temporaries that hold these types
abbrev pub ParamsHold : CsProgramTree → List CTypeTree → List ℕ → Type 0
ParamsHold q [] [] = Unit {0}
ParamsHold q (ty ∷ tys) (d ∷ ds) = ((s : Scalar) → scalar_of ty ≡ Some s → HoldsType q s d) × ParamsHold q tys ds
ParamsHold q tys ds = ⊥

pub record FineArgs (q : CsProgramTree) (labels : Frame) (around : Around) (a : Args) (tys : List CTypeTree) : Type 0 where
  pub before : Each (Right q labels) around a.before
  pub good : AllGood q around a.values
  pub typed : TypedAs q a.values tys

-- a function that may be called with arguments of these types, for a value of this one
pub record Callable (q : CsProgramTree) (g : ℕ) (params : List CTypeTree) (result : Option Scalar) : Type 0 where
  pub low : CsFunctionTree
  pub is : slice_get q.functions g ≡ Some low
  pub holds : ParamsHold q params low.params
  pub gives : (d : ℕ) (ty : Scalar) → result ≡ Some ty → HoldsType q ty d → Each (λ around a. GivesType q (Some d) a) nothing_around low.body
