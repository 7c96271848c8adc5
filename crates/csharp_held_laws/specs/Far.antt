-- Pointers that are moved to an offset that is no i64, places that are moved to one that is no i128, and bytes that a check looks at and that cannot be read:
-- what the code does not hold in a formed program (this profile).
use Rattle.std.specs.Prelude.{ℕ, zero, suc, ℤ, neg_ℤ, Bool, false, ◌||◌, if◌then◌else◌, List, [], ◌∷◌, Option, Some, None, slice_get}
use Rattle.std.specs.Option.{option_map_or}
use Rattle.c_syntax.specs.declared.alarm.WrongKind.{WrongKind}
use Rattle.c_syntax.specs.declared.alarm.WrongKind.TheVariants as kinds
use Rattle.c_syntax.specs.declared.operator.TBinaryOp.{TBinaryOp}
use Rattle.c_syntax.specs.declared.operator.TBinaryOp.TheVariants as binaries
use Rattle.block_mem.specs.declared.types.Scalar.{Scalar}
use Rattle.block_mem.specs.declared.types.Value.{Value}
use Rattle.block_mem.specs.declared.types.Value.TheVariants as values
use Rattle.c_values.specs.Operators.{elements}
use Rattle.c_values.specs.Values.{truth}
use Rattle.csharp.specs.Trees.{CsExprTree, Unary, Binary, Convert, CsStmtTree, Set, Load, Store, CopyBytes, Checked, Assume, Sequence, If, Loop, Block, Scope, Switch, Call}
use Rattle.csharp.specs.Trees.{Return, CsStmtTrees, none, more, CsCallTree, CsFunctionTree, CsProgramTree}
use Rattle.csharp.specs.States.{State, first, value_of}
use Rattle.csharp.specs.Actions.{enter, are_free, pass}
use Rattle.csharp.specs.Meaning.{How, Anew, Turn, turns_of, Later, Mark, chosen, is_mark, items, later_by, level}
use Rattle.csharp_state.specs.Unheld.{unheld_bytes, unheld_move, unheld_moved}
use Rattle.csharp_exec.specs.Meets.{Less, behind_goto, behind_normal}

-- an operator moves a pointer to such an offset
abbrev pub is_far : TBinaryOp → Value → Value → Bool
is_far (binaries.PointerPlusInt element) v (values.Int t n) = unheld_move v (elements element n)
is_far (binaries.IntPlusPointer element) (values.Int t n) v = unheld_move v (elements element n)
is_far (binaries.PointerMinusInt element) v (values.Int t n) = unheld_move v (neg_ℤ (elements element n))
is_far op v u = false

-- an operator in the expression does so
abbrev pub moves_far : CsExprTree → State → Bool
moves_far (Unary op e) s = moves_far e s
moves_far (Binary op e f) s =
    moves_far e s || option_map_or (λ v. moves_far f s || option_map_or (is_far op v) (value_of f s) false) (value_of e s) false
moves_far (Convert t e) s = moves_far e s
moves_far e s = false

-- expressions in their order, up to the first that has no value
abbrev pub move_far : List CsExprTree → State → Bool
move_far [] s = false
move_far (e ∷ es) s = moves_far e s || option_map_or (λ v. move_far es s) (value_of e s) false

-- the place of one pointer that a check looks at: where the pointer is moved last of all, the place alone is held
abbrev pub points_far : CsExprTree → State → Bool
points_far (Binary op e f) s =
    moves_far e s || option_map_or (λ v. moves_far f s || option_map_or (unheld_moved op v) (value_of f s) false) (value_of e s) false
points_far e s = moves_far e s

abbrev pub point_far : List CsExprTree → State → Bool
point_far (e ∷ []) s = points_far e s
point_far es s = move_far es s

-- what a check looks at, by its kind
abbrev pub looks_far : WrongKind → List CsExprTree → State → Bool
looks_far kinds.Overflow es s = move_far es s
looks_far kinds.Quotient es s = move_far es s
looks_far kinds.ShiftResult es s = move_far es s
looks_far kinds.DivideByZero es s = move_far es s
looks_far kinds.ShiftAmount es s = move_far es s
looks_far kinds.AssertFailed es s = move_far es s
looks_far kinds.NoValue es s = move_far es s
looks_far kinds.Indeterminate es s = move_far es s
looks_far kinds.Fragment es s = move_far es s
looks_far kind es s = point_far es s

-- a check looks at bytes that cannot be read
abbrev pub looks_at_unread : WrongKind → Option Scalar → List CsExprTree → State → Bool
looks_at_unread kinds.Indeterminate (Some ty) (e ∷ []) s = option_map_or (unheld_bytes s.memory ty) (value_of e s) false
looks_at_unread kinds.Fragment (Some ty) (e ∷ []) s = option_map_or (unheld_bytes s.memory ty) (value_of e s) false
looks_at_unread kind ty es s = false

-- a statement that holds no other and calls nothing
abbrev pub far_action : CsStmtTree → State → Bool
far_action (Set d e) s = moves_far e s
far_action (Load d ty e) s = moves_far e s
far_action (Store ty e f) s = move_far (e ∷ f ∷ []) s
far_action (CopyBytes n to from) s = move_far (to ∷ from ∷ []) s
far_action (Checked c) s = looks_far c.check.kind c.operands s || looks_at_unread c.check.kind c.ty c.operands s
far_action (Assume e) s = moves_far e s
far_action (Return (Some e)) s = moves_far e s
far_action a s = false

-- ---- runs, followed to the first such place

abbrev pub far_within : CsProgramTree → List ℕ → State → (State → Bool) → Bool
far_within q xs s next = if are_free xs s then next (enter q.objects xs s) else false

abbrev pub far_in_call : Less → CsCallTree → CsFunctionTree → State → Bool
far_in_call less c f s = move_far c.args s || option_map_or (λ t. less.statement Anew f.body t) (pass c.args f.params s) false

abbrev mutual
  pub goes_far : (ℕ → Bool) → CsProgramTree → Later → Less → How → CsStmtTree → State → Bool
  goes_far over q later less how (Sequence a b) s =
      goes_far over q later less Anew a s || behind_normal (level over q later Anew a s) (λ t. goes_far over q later less Anew b t)
  goes_far over q later less how (If e a b) s =
      moves_far e s
      || option_map_or (λ v. if truth v then goes_far over q later less Anew a s else goes_far over q later less Anew b s) (value_of e s) false
  goes_far over q later less how (Loop at a) s =
      if over (turns_of how) then false else
      (goes_far over q later less Anew a s
      || behind_normal (level over q later Anew a s) (λ t. less.statement (Turn (suc (turns_of how))) (Loop at a) t))
  goes_far over q later less how (Block a) s = goes_far over q later less Anew a s
  goes_far over q later less how (Scope xs all) s =
      far_within q xs s (λ t. far_among over q later less None all t || behind_goto less all (items over q later None all t))
  goes_far over q later less how (Switch e xs all) s =
      moves_far e s
      || option_map_or (λ v. option_map_or (λ mark. far_within q xs s (λ t. far_among over q later less (Some mark) all t
      || behind_goto less all (items over q later (Some mark) all t))) (chosen v all) false) (value_of e s) false
  goes_far over q later less how (Call c) s = option_map_or (λ f. far_in_call less c f s) (slice_get q.functions c.function) false
  goes_far over q later less how a s = far_action a s

  pub far_among : (ℕ → Bool) → CsProgramTree → Later → Less → Option Mark → CsStmtTrees → State → Bool
  far_among over q later less from none s = false
  far_among over q later less None (more item rest) s =
      goes_far over q later less Anew item s || behind_normal (level over q later Anew item s) (λ t. far_among over q later less None rest t)
  far_among over q later less (Some mark) (more item rest) s = far_among over q later less (if is_mark mark item then None else Some mark) rest s

abbrev pub far_catching : (ℕ → Bool) → CsProgramTree → Later → Less → Option Mark → CsStmtTrees → State → Bool
far_catching over q later less from all s = far_among over q later less from all s || behind_goto less all (items over q later from all s)

abbrev pub nothing_far : Less
nothing_far = record { statement = λ how a s. false; items = λ mark all s. false }

abbrev pub far_by : (ℕ → Bool) → CsProgramTree → ℕ → Less
far_by over q zero = nothing_far
far_by over q (suc n) = record {
  statement = goes_far over q (later_by over q n) (far_by over q n);
  items = λ mark all s. far_catching over q (later_by over q n) (far_by over q n) (Some mark) all s;
}

-- a run of a statement with so much fuel comes to such a place
abbrev pub comes_far : (ℕ → Bool) → CsProgramTree → ℕ → CsStmtTree → State → Bool
comes_far over q fuel a s = goes_far over q (later_by over q fuel) (far_by over q fuel) Anew a s

-- a run of main does so
abbrev pub run_comes_far : (ℕ → Bool) → CsProgramTree → ℕ → List ℤ → Bool
run_comes_far over q fuel inputs = option_map_or (λ f. comes_far over q fuel f.body (first q inputs)) (slice_get q.functions q.main) false
