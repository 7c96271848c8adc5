-- Why places have to stand apart: a program by whose trees a load and a comparison stand at one place, and of which no list of alarms is sound.
use Rattle.std.specs.Prelude.{◌≡◌, ℕ, pos, false, List, [], ◌∷◌, Some, codes}
use Rattle.std.proofs.Common.{rules, refl}
use Rattle.std.proofs.lemmas.List.Elements.{All-contains}
use Rattle.c_syntax_written.specs.declared.place.Pos.{Pos}
use Rattle.c_syntax_written.specs.declared.int_type.IntType.TheVariants as ints
use Rattle.c_syntax.specs.declared.alarm.Alarm.{Alarm}
use Rattle.c_syntax.specs.declared.alarm.WrongKind.TheVariants as kinds
use Rattle.c_syntax.specs.declared.alarm.Spot.TheVariants as spots
use Rattle.c_syntax.specs.declared.operator.Comparison.TheVariants.{Less}
use Rattle.c_syntax.specs.declared.operator.DerefKind.TheVariants as derefs
use Rattle.c_syntax.specs.declared.operator.TBinaryOp.TheVariants as binaries
use Rattle.c_syntax.specs.declared.statement.BlockKind.TheVariants.{Written, Added}
use Rattle.c_syntax.specs.Types.{Int, Pointer}
use Rattle.c_syntax.specs.Operand.{Point, Points}
use Rattle.c_syntax.specs.TypedExpr.{TExprTree, Null, Load, Binary, Any, Deref}
use Rattle.c_syntax.specs.TypedStmt.{TStmtTree, Block, Expr, If, none, more}
use Rattle.c_syntax.specs.Program.{TProgramTree}
use Rattle.std.specs.Int.{int_wrap}
use Rattle.c_layout.specs.MainFunction.{main_of}
use Rattle.c_layout.specs.TypedNodes.{Standing, IsTypedStmt, AreTypedItems, IsTypedExpr, IsTypedPlace}
use Rattle.c_layout.specs.RowTypes.{SameType}
use Rattle.c_steps.specs.Runs.{after, chain_of}
use Rattle.c_steps.specs.Steps.{step}
use Rattle.c_steps.specs.States.{Wrong}
use Rattle.c_steps.specs.Sound.{MainGoesWrong, TellsOf, Covers, IsSound}
use Rattle.alarm_claims.proofs.Forms.{forms_are_apart}

abbrev at : ℕ → Pos
at column = record { file = 0; line = 1; col = column }

abbrev null_pointer : TExprTree
null_pointer = Null (at 30) (Pointer (Int ints.Int) false)

abbrev alone : TExprTree → TStmtTree
alone e = Block (at 20) Added [] (more (Expr (at 20) e) none)

-- an input chooses between a load by a null pointer and a comparison of two, both at column 40
abbrev pub meets : TProgramTree
meets = record {
  structs = [];
  objects = [];
  functions = record {
    name = codes "main";
    pos = at 5;
    params = [];
    result = Int ints.Int;
    body = Some (Block (at 15) Written []
        (more (If (at 16) (Any (at 19) ints.Int)
        (alone (Load (at 40) (Deref (at 40) derefs.Star (Int ints.Int) false null_pointer)))
        (alone (Binary (at 40) (binaries.ComparePointers Less) null_pointer null_pointer))) none));
  } ∷ [];
  initial = [];
}

-- its trees are well typed: no row of typing reads a place
main_body : TStmtTree
main_body = Block (at 15) Written []
    (more (If (at 16) (Any (at 19) ints.Int)
    (alone (Load (at 40) (Deref (at 40) derefs.Star (Int ints.Int) false null_pointer)))
    (alone (Binary (at 40) (binaries.ComparePointers Less) null_pointer null_pointer))) none)

body_typed : (standing : Standing) → IsTypedStmt standing main_body
unfolding main_body IsTypedStmt AreTypedItems IsTypedExpr IsTypedPlace
body_typed standing =
    (((tt, tt), tt, ((((tt, tt), record { target = refl; some = λ e. absurd cc }), tt), tt), tt, (((tt, tt), (tt, tt), (tt, same)), tt)), tt)
  where
    same : SameType (Pointer (Int ints.Int) false) (Pointer (Int ints.Int) false)
    same = search rules

main_is : main_of meets ≡ Some 0
main_is = refl

load_fails : step meets (after meets 0 (pos 1 ∷ []) 19) ≡ Wrong (at 40) kinds.NullUse (Point spots.Null)
unfolding int_wrap
load_fails = refl

load_in_main : chain_of (after meets 0 (pos 1 ∷ []) 19).work ≡ []
unfolding int_wrap
load_in_main = refl

comparison_fails : step meets (after meets 0 (pos 0 ∷ []) 19) ≡ Wrong (at 40) kinds.NullUse (Points spots.Null spots.Null)
unfolding int_wrap
comparison_fails = refl

comparison_in_main : chain_of (after meets 0 (pos 0 ∷ []) 19).work ≡ []
unfolding int_wrap
comparison_in_main = refl

load_wrong : MainGoesWrong meets (pos 1 ∷ []) (after meets 0 (pos 1 ∷ []) 19) [] (at 40) kinds.NullUse (Point spots.Null)
load_wrong = (0, main_is, record { reached = (19, refl); wrong = load_fails; called = load_in_main })

comparison_wrong : MainGoesWrong meets (pos 0 ∷ []) (after meets 0 (pos 0 ∷ []) 19) [] (at 40) kinds.NullUse (Points spots.Null spots.Null)
comparison_wrong = (0, main_is, record { reached = (19, refl); wrong = comparison_fails; called = comparison_in_main })

pub no_list_is_sound : (alarms : List Alarm) → IsSound meets alarms → ⊥
no_list_is_sound alarms sound =
    let r = sound.misses_none (pos 1 ∷ []) [] (at 40) kinds.NullUse (after meets 0 (pos 1 ∷ []) 19, Point spots.Null, load_wrong)
    in let one = All-contains (λ alarm. TellsOf [] (at 40) kinds.NullUse alarm → Covers meets (after meets 0 (pos 1 ∷ []) 19) (Point spots.Null) alarm) alarms r.1
    (sound.shows (pos 1 ∷ []) (after meets 0 (pos 1 ∷ []) 19) [] (at 40) kinds.NullUse (Point spots.Null) load_wrong) (r.0, r.2, r.3) r.4
    in let two = All-contains (λ alarm. TellsOf [] (at 40) kinds.NullUse alarm → Covers meets (after meets 0 (pos 0 ∷ []) 19) (Points spots.Null spots.Null) alarm) alarms r.1
    (sound.shows (pos 0 ∷ []) (after meets 0 (pos 0 ∷ []) 19) [] (at 40) kinds.NullUse (Points spots.Null spots.Null) comparison_wrong) (r.0, r.2, r.3) r.4
    in forms_are_apart [] spots.Null spots.Null spots.Null r.1.shown one.0 two.0
