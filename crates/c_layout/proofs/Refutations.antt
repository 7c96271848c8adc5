-- Why the small programs are not well typed.
use Rattle.std.proofs.Common.{◌≡◌, pos, true, false, [], ◌∷◌, refl, inl, inr, arith}
use Rattle.std.specs.Prelude.{None}
use Rattle.c_syntax_written.specs.declared.int_type.IntType.TheVariants as ints
use Rattle.c_syntax.specs.Types.{ObjectTree}
use Rattle.c_syntax.specs.TypedExpr.{Const}
use Rattle.c_syntax.specs.TypedStmt.{TStmtTree, Store}
use Rattle.c_syntax.specs.Program.{TFunctionTree}
use Rattle.c_layout.specs.TypedNodes.{in_block, IsTypedStmt, AreTypedItems, IsTypedExpr, IsTypedPlace}
use Rattle.c_layout.specs.WellTyped.{IsWellTyped, body_standing}
use Rattle.c_layout.specs.Samples.{function, main_function, main_with, column, variable, int, returns_call, named_twice, holds_incomplete, stores_twice, declares_inside, reads_const, points_to_function, reads_input}

nameless : TFunctionTree
nameless = function [] None

-- the statement in such a main is typed, as an item of the block of object 0
statement_typed : (object : ObjectTree) (statement : TStmtTree) → IsWellTyped (main_with object statement) → IsTypedStmt (in_block (0 ∷ []) (body_standing (main_with object statement) (main_function statement))) statement
unfolding IsTypedStmt AreTypedItems
statement_typed object statement w = (w.functions 0 nameless (omega arith)).body.typed.0

pub unused_call : IsWellTyped (returns_call false) → ⊥
unfolding IsTypedStmt AreTypedItems IsTypedExpr
unused_call w =
    let used : false ≡ true = (w.functions 1 nameless (omega arith)).body.typed.0.0.0 in
    absurd (cc)

pub one_name : IsWellTyped named_twice → ⊥
one_name w = w.names_distinct 0 1 nameless (omega arith) (omega arith) refl

-- the member's size is not there
pub incomplete_member : IsWellTyped holds_incomplete → ⊥
incomplete_member w =
    (w.structs.members 1 (record { tag = []; members = []; size = 0; align = 1 }) (omega arith) 0 (record { name = []; ty = int; offset = 0 }) (omega arith)).size

pub overlap : IsWellTyped stores_twice → ⊥
unfolding IsTypedStmt
overlap w =
    let one = Store 0 int (Const (column 3) ints.Int (pos 1)) in
    elim ((statement_typed _ _ w).1.apart 0 1 one (omega arith) (omega arith)) [ inl h ↦ omega arith | inr h ↦ omega arith ]

-- the inner block lists no object
pub other_block : IsWellTyped declares_inside → ⊥
unfolding IsTypedStmt AreTypedItems
other_block w = let listed = (statement_typed _ _ w).0.0 in omega arith

pub not_const : IsWellTyped reads_const → ⊥
unfolding IsTypedStmt IsTypedExpr IsTypedPlace
not_const w = let marked : true ≡ false = (statement_typed _ _ w).qualified in absurd (cc)

pub function_target : IsWellTyped points_to_function → ⊥
function_target w = (w.objects 0 (variable int 4) (omega arith)).ty

pub input_type : IsWellTyped (reads_input ints.LLong) → ⊥
unfolding IsTypedStmt IsTypedExpr
input_type w = statement_typed _ _ w
