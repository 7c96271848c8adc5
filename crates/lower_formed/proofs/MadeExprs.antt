-- The checks, calls and inputs of each typed expression, in all its uses, are its own.
use Rattle.std.proofs.Common.{ℕ, suc, ◌*◌, ◌≤◌, List, [], ◌∷◌, ◌++◌, Some, None, Bool, true, false, refl, sym, ap, arith}
use Rattle.std.specs.Prelude.{◌||◌}
use Rattle.std.specs.List.{flat_map}
use Rattle.std.proofs.lemmas.Grind.{flat_map-append}
use Rattle.c_syntax_written.specs.declared.int_type.IntType.TheVariants as ints
use Rattle.c_syntax_written.specs.declared.place.Pos.{Pos}
use Rattle.c_syntax.specs.declared.alarm.WrongKind.TheVariants as kinds
use Rattle.c_syntax.specs.declared.operator.TUnaryOp.{TUnaryOp}
use Rattle.c_syntax.specs.declared.operator.TUnaryOp.TheVariants as unaries
use Rattle.c_syntax.specs.Types.{CTypeTree}
use Rattle.c_syntax.specs.TypedExpr as c
use Rattle.c_syntax.specs.TypedExpr.{TExprTree, TLvalueTree, TExprTrees}
use Rattle.c_syntax.specs.TypedParts.{texpr_type, tlvalue_pos, tlvalue_type, tlvalue_is_const}
use Rattle.c_syntax.specs.GivenType.{given_type}
use Rattle.c_syntax.specs.Program.{TProgramTree}
use Rattle.c_layout.specs.Calls.{PlacedCall, calls_of, calls_at, calls_among}
use Rattle.c_layout.specs.Checks.{PlacedCheck, all_at, plain_check, test_checks, unary_checks, binary_checks, step_checks, load_checks, store_checks, read_checks, write_checks, move_checks, value_checks, source_checks, read_from, checks_of, checks_at, checks_among}
use Rattle.c_layout.specs.MainFunction.{is_main}
use Rattle.c_layout.specs.RowTypes.{IsScalar, UnaryRow, PointsToSize}
use Rattle.c_layout.specs.TypedNodes.{Scope, IsTypedExpr, IsTypedPlace, AreTyped}
use Rattle.c_layout.proofs.Given as given
use Rattle.block_mem.specs.declared.types.Scalar.TheVariants as scalars
use Rattle.c_values.specs.Typed.{IsElement, unary_type, binary_type}
use Rattle.c_values.specs.Values.{plain_type, scalar_of}
use Rattle.c_steps.specs.Bounds.{reads_input, reads_input_at, one_reads_input}
use Rattle.c_steps.specs.Changes.{step_operator}
use Rattle.c_steps_laws.proofs.Rows.{scalar_is, binary_row, compound_row, step_row, store_row}
use Rattle.c_steps_laws.proofs.Expressions.{AreSized}
use Rattle.csharp.specs.Trees.{Const, Null, CsStmtTree, Nothing, Load, Store, CopyBytes, Assume, Sequence}
use Rattle.lower_trees.specs.Temps.{temp_at}
use Rattle.lower_trees.specs.Checking.{load_type, moved, move_operands}
use Rattle.lower_trees.specs.LowerExpr.{lowered, Forms, number, held_scalar, place_scalar, is_kept, wanted, step_one, of_load, of_unary, of_binary, of_convert, of_assign, of_assign_struct, of_compound, of_step, of_cond, of_call, of_input, of_assume, of_assert, of_member, of_unary_forms, unless_and, when_and, unless_or, when_or, of_and, of_or, lower_expr, lower_place, lower_args}
use Rattle.lower_formed.proofs.Depths.{all_more, reads_expr, reads_place, reads_args}
use Rattle.lower_formed.proofs.Exprs.{binary_is}
use Rattle.lower_formed.proofs.Made as made
use Rattle.lower_formed.proofs.Made.{AsksNothing, Ways, tests_same, tests_of, tests_held, tests_pointer, tests_decayed, unary_same, loads_at, stores_at, steps_same}

module _ (P : CsStmtTree → Type 0) (asks : (a : CsStmtTree) → AsksNothing a → P a) (lo : ℕ) (p : TProgramTree) (sized : AreSized p) where
  abbrev pub S : List ℕ → Scope
  S live = record { program = p; live = live }

  abbrev F : TExprTree → ℕ → Type 0
  F e d = made.MadeForms P asks lo p e (lower_expr p d e)

  abbrev T : TExprTree → Pos → List PlacedCheck
  T e at = all_at at (test_checks (texpr_type e))

  abbrev C : TExprTree → List PlacedCheck
  C e = checks_of p e

  abbrev I : TExprTree → Bool
  I e = reads_input e

  abbrev R : ℕ → ℕ → Pos → List PlacedCheck
  R size align at = all_at at (read_checks size align)

  -- `!` is tested as its operand is, and other operators by their value
  op_made : (d : ℕ) (at : Pos) (op : TUnaryOp) (a : TExprTree) → UnaryRow op (given_type a) → made.MadeForms P asks lo p a (lower_expr p d a)
      → made.MadeForms P asks lo p (c.Unary at op a) (lower_expr p d (c.Unary at op a))
  unfolding checks_of calls_of reads_input read_from
  op_made d at unaries.Not a row m =
      let before = λ (w : made.WaysOf P asks lo p (c.Unary at unaries.Not a)).
      made.unary_made P asks lo d at unaries.Not (scalar_of (texpr_type a)) (lower_expr p d a).value (m.value (made.front P asks lo (C a) (T a at) w))
      (made.same_at P asks lo at _ _ (unary_same unaries.Not (texpr_type a)) (made.back P asks lo (C a) (T a at) w)) in
      record {
        value = before;
        unless = λ from k sc w. m.when at k row (made.front P asks lo (C (c.Unary at unaries.Not a)) (all_at from []) w);
        when = λ from k sc w. m.unless at k row (made.front P asks lo (C (c.Unary at unaries.Not a)) (all_at from []) w);
        source = λ size align w. before (made.front P asks lo (C (c.Unary at unaries.Not a)) (flat_map (R size align) (read_from (c.Unary at unaries.Not a))) w);
      }
  op_made d at (unaries.Plus t) a row m =
      made.plain_made P asks lo p (c.Unary at (unaries.Plus t) a) (Some (unary_type (unaries.Plus t))) (of_unary d at (unaries.Plus t) (scalar_of (texpr_type a)) (lower_expr p d a).value)
      (λ w. made.unary_made P asks lo d at (unaries.Plus t) (scalar_of (texpr_type a)) (lower_expr p d a).value (m.value (made.front P asks lo (C a) (all_at at (unary_checks (unaries.Plus t) (texpr_type a))) w))
      (made.same_at P asks lo at _ _ (unary_same (unaries.Plus t) (texpr_type a)) (made.back P asks lo (C a) (all_at at (unary_checks (unaries.Plus t) (texpr_type a))) w))) (λ sc. refl)
  op_made d at (unaries.Minus t) a row m =
      made.plain_made P asks lo p (c.Unary at (unaries.Minus t) a) (Some (unary_type (unaries.Minus t))) (of_unary d at (unaries.Minus t) (scalar_of (texpr_type a)) (lower_expr p d a).value)
      (λ w. made.unary_made P asks lo d at (unaries.Minus t) (scalar_of (texpr_type a)) (lower_expr p d a).value (m.value (made.front P asks lo (C a) (all_at at (unary_checks (unaries.Minus t) (texpr_type a))) w))
      (made.same_at P asks lo at _ _ (unary_same (unaries.Minus t) (texpr_type a)) (made.back P asks lo (C a) (all_at at (unary_checks (unaries.Minus t) (texpr_type a))) w))) (λ sc. refl)
  op_made d at (unaries.Complement t) a row m =
      made.plain_made P asks lo p (c.Unary at (unaries.Complement t) a) (Some (unary_type (unaries.Complement t))) (of_unary d at (unaries.Complement t) (scalar_of (texpr_type a)) (lower_expr p d a).value)
      (λ w. made.unary_made P asks lo d at (unaries.Complement t) (scalar_of (texpr_type a)) (lower_expr p d a).value (m.value (made.front P asks lo (C a) (all_at at (unary_checks (unaries.Complement t) (texpr_type a))) w))
      (made.same_at P asks lo at _ _ (unary_same (unaries.Complement t) (texpr_type a)) (made.back P asks lo (C a) (all_at at (unary_checks (unaries.Complement t) (texpr_type a))) w))) (λ sc. refl)

  -- ---- `&&` and `||`: both parts are tested there
  left_test : (at : Pos) (a b : TExprTree) → Ways P lo (((C a ++ T a at) ++ C b) ++ T b at) (calls_of a ++ calls_of b) (I a || I b) → made.TestWays P asks lo p a at
  left_test at a b w = made.first P asks lo (calls_of a) (calls_of b) (I a) (I b) (made.front P asks lo (C a ++ T a at) (C b) (made.front P asks lo ((C a ++ T a at) ++ C b) (T b at) w))

  right_test : (at : Pos) (a b : TExprTree) → Ways P lo (((C a ++ T a at) ++ C b) ++ T b at) (calls_of a ++ calls_of b) (I a || I b) → made.TestWays P asks lo p b at
  right_test at a b w =
      made.second P asks lo (calls_of a) (calls_of b) (I a) (I b)
      (made.both P asks lo (C b) (T b at) (made.back P asks lo (C a ++ T a at) (C b) (made.front P asks lo ((C a ++ T a at) ++ C b) (T b at) w)) (made.back P asks lo ((C a ++ T a at) ++ C b) (T b at) w))

  and_made : (d : ℕ) (at : Pos) (a b : TExprTree) → IsScalar (given_type a) → IsScalar (given_type b) → F a d → F b d → F (c.And at a b) d
  unfolding checks_of calls_of reads_input read_from
  and_made d at a b sa sb ma mb =
      let la = lower_expr p d a in
      let lb = lower_expr p d b in
      let un = λ (k : ℕ) (w : made.WaysOf P asks lo p (c.And at a b)). made.seq P asks lo _ _ (ma.unless at k sa (left_test at a b w)) (mb.unless at k sb (right_test at a b w)) in
      let wh = λ (k : ℕ) (w : made.WaysOf P asks lo p (c.And at a b)). made.block P asks lo (Sequence (la.unless at 0) (lb.when at (suc k))) (made.seq P asks lo (la.unless at 0) (lb.when at (suc k)) (ma.unless at 0 sa (left_test at a b w)) (mb.when at (suc k) sb (right_test at a b w))) in
      let bit = λ (w : made.WaysOf P asks lo p (c.And at a b)). made.branches P asks lo (unless_and at la lb at 0) _ _ (un 0 w)
      (made.set P asks lo (temp_at d (scalars.Int ints.Int)) (number 1)) (made.set P asks lo (temp_at d (scalars.Int ints.Int)) (number 0)) in
      record {
        value = bit;
        unless = λ from k sc w. un k (made.front P asks lo (C (c.And at a b)) (all_at from []) w);
        when = λ from k sc w. wh k (made.front P asks lo (C (c.And at a b)) (all_at from []) w);
        source = λ size align w. bit (made.front P asks lo (C (c.And at a b)) (flat_map (R size align) (read_from (c.And at a b))) w);
      }

  or_made : (d : ℕ) (at : Pos) (a b : TExprTree) → IsScalar (given_type a) → IsScalar (given_type b) → F a d → F b d → F (c.Or at a b) d
  unfolding checks_of calls_of reads_input read_from
  or_made d at a b sa sb ma mb =
      let la = lower_expr p d a in
      let lb = lower_expr p d b in
      let un = λ (k : ℕ) (w : made.WaysOf P asks lo p (c.Or at a b)). made.block P asks lo (Sequence (la.when at 0) (lb.unless at (suc k))) (made.seq P asks lo (la.when at 0) (lb.unless at (suc k)) (ma.when at 0 sa (left_test at a b w)) (mb.unless at (suc k) sb (right_test at a b w))) in
      let wh = λ (k : ℕ) (w : made.WaysOf P asks lo p (c.Or at a b)). made.seq P asks lo _ _ (ma.when at k sa (left_test at a b w)) (mb.when at k sb (right_test at a b w)) in
      let bit = λ (w : made.WaysOf P asks lo p (c.Or at a b)). made.branches P asks lo (unless_or at la lb at 0) _ _ (un 0 w)
      (made.set P asks lo (temp_at d (scalars.Int ints.Int)) (number 1)) (made.set P asks lo (temp_at d (scalars.Int ints.Int)) (number 0)) in
      record {
        value = bit;
        unless = λ from k sc w. un k (made.front P asks lo (C (c.Or at a b)) (all_at from []) w);
        when = λ from k sc w. wh k (made.front P asks lo (C (c.Or at a b)) (all_at from []) w);
        source = λ size align w. bit (made.front P asks lo (C (c.Or at a b)) (flat_map (R size align) (read_from (c.Or at a b))) w);
      }

  mutual
    unfolding IsTypedExpr checks_of calls_of reads_input read_from

    pub made_expr : (e : TExprTree) (live : List ℕ) (mark : Bool) (d : ℕ) → IsTypedExpr (S live) mark e → lo ≤ d → F e d
    made_expr (c.Const at t k) live mark d h le = made.plain_made P asks lo p (c.Const at t k) (Some (scalars.Int t)) (lowered Nothing (Const t k) d d) (λ w. made.nothing P asks lo) (λ sc. refl)
    made_expr (c.Null at ty) live mark d (tp, pr) le =
        made.plain_made P asks lo p (c.Null at ty) (Some scalars.Pointer) (lowered Nothing Null d d) (λ w. made.nothing P asks lo) (λ sc. tests_pointer ty tp)
    made_expr (c.Load at x) live mark d (tx, sc) le =
        let s = scalar_is (tlvalue_type x) sc in
        let ls = all_at (tlvalue_pos x) (load_checks (tlvalue_type x)) in
        let a = (lower_place p d x) in
        let ty = place_scalar x in
        made.plain_made P asks lo p (c.Load at x) (scalar_of (tlvalue_type x)) (of_load d (tlvalue_pos x) ty a)
        (λ w. made.seq P asks lo a.before _ (made_place x live d tx le (made.front P asks lo (checks_at p x) ls w))
        (made.seq P asks lo _ _ (made.listed P asks lo (tlvalue_pos x) (λ k. load_type ty k.kind) (λ k. a.value ∷ []) (load_checks (plain_type (Some ty)))
        (made.same_at P asks lo (tlvalue_pos x) _ _ (loads_at (tlvalue_type x) s.0 s.1) (made.back P asks lo (checks_at p x) ls w))) (asks (Load (temp_at d ty) ty a.value) tt)))
        (λ k. tests_same (tlvalue_type x))
    made_expr (c.AddressOf at x) live mark d tx le = made.plain_made P asks lo p (c.AddressOf at x) (Some scalars.Pointer) (lower_place p d x) (λ w. made_place x live d tx le w) (λ sc. refl)
    made_expr (c.Decay at x) live mark d (tx, ar) le =
        made.plain_made P asks lo p (c.Decay at x) (Some scalars.Pointer) (lower_place p d x) (λ w. made_place x live d tx le w) (λ sc. tests_decayed (tlvalue_type x) (tlvalue_is_const x) ar)
    made_expr (c.Whole at x) live mark d (tx, st) le = made.source_made P asks lo p (c.Whole at x) (tlvalue_pos x) (lower_place p d x) (λ w. made_place x live d tx le w) refl
    made_expr (c.Unary at op a) live mark d (ta, row) le = op_made d at op a row (made_expr a live true d ta le)
    made_expr (c.Binary at op a b) live mark d (ta, tb, row) le =
        let good : CTypeTree → Type 0 = λ ty. (k : ℕ) → PointsToSize p.structs ty k → IsElement k in
        let r = binary_row p.structs good (λ ty k g e. g k e) op (given_type a) (given_type b) (sized.values (S live) true a refl ta) (sized.values (S live) true b refl tb) row in
        let la = (lower_expr p d a).value in
        let lb = (lower_expr p la.next b).value in
        let up = (reads_expr p a d).value.next in
        let e = binary_is op (given_type a) (given_type b) (texpr_type a) (texpr_type b) (binary_type op) (given.wanted (S live) a ta) (given.wanted (S live) b tb) r.gives in
        let bs = all_at at (binary_checks op) in
        made.plain_made P asks lo p (c.Binary at op a b) (Some (binary_type op)) (of_binary d at (is_kept op a b) op la lb)
        (λ w. let v = made.front P asks lo (C a ++ C b) bs w in
        made.binary_made P asks lo d at (is_kept op a b) op la lb
        ((made_expr a live true d ta le).value (made.first P asks lo (calls_of a) (calls_of b) (I a) (I b) (made.front P asks lo (C a) (C b) v)))
        ((made_expr b live true la.next tb (omega (arith, le, up))).value (made.second P asks lo (calls_of a) (calls_of b) (I a) (I b) (made.back P asks lo (C a) (C b) v)))
        (made.back P asks lo (C a ++ C b) bs w))
        (λ sc. tests_of (texpr_type (c.Binary at op a b)) (binary_type op) e)
    made_expr (c.Convert at ty a) live mark d (ta, pr, row) le =
        made.plain_made P asks lo p (c.Convert at ty a) (scalar_of ty) (of_convert (scalar_of ty) (lower_expr p d a).value)
        (λ w. made.convert_made P asks lo (scalar_of ty) (lower_expr p d a).value ((made_expr a live _ d ta le).value w)) (λ sc. tests_same ty)
    made_expr (c.Assign at x a) live mark d (tx, ta, md, row) le =
        let s = store_row (tlvalue_type x) (given_type a) row in
        let la = lower_place p d x in
        let lb = (lower_expr p la.next a).value in
        let up = (reads_place p x d).next in
        let ty = place_scalar x in
        let ss = all_at (tlvalue_pos x) (store_checks (tlvalue_type x)) in
        made.plain_made P asks lo p (c.Assign at x a) (scalar_of (tlvalue_type x)) (of_assign (tlvalue_pos x) ty la lb)
        (λ w. let v = made.front P asks lo (checks_at p x ++ C a) ss w in
        made.seq P asks lo la.before _ (made_place x live d tx le (made.first P asks lo (calls_at x) (calls_of a) (reads_input_at x) (I a) (made.front P asks lo (checks_at p x) (C a) v)))
        (made.seq P asks lo lb.before _ ((made_expr a live true la.next ta (omega (arith, le, up))).value (made.second P asks lo (calls_at x) (calls_of a) (reads_input_at x) (I a) (made.back P asks lo (checks_at p x) (C a) v)))
        (made.seq P asks lo _ _ (made.listed P asks lo (tlvalue_pos x) (λ k. None) (λ k. la.value ∷ []) (store_checks (plain_type (Some ty)))
        (made.same_at P asks lo (tlvalue_pos x) _ _ (stores_at (tlvalue_type x) s.0 s.1) (made.back P asks lo (checks_at p x ++ C a) ss w))) (asks (Store ty la.value lb.value) tt))))
        (λ sc. tests_same (tlvalue_type x))
    made_expr (c.AssignStruct at extent x a) live mark d (tx, ta, md, row) le =
        let la = lower_place p d x in
        let lb = (lower_expr p la.next a).source extent.size extent.align in
        let up = (reads_place p x d).next in
        let ws = all_at (tlvalue_pos x) (write_checks extent.size extent.align) in
        let rs = source_checks extent a in
        made.source_made P asks lo p (c.AssignStruct at extent x a) (tlvalue_pos x) (of_assign_struct (tlvalue_pos x) extent.size extent.align la lb)
        (λ w. let v = made.front P asks lo ((checks_at p x ++ C a) ++ rs) ws w in
        let u = made.front P asks lo (checks_at p x ++ C a) rs v in
        made.seq P asks lo la.before _ (made_place x live d tx le (made.first P asks lo (calls_at x) (calls_of a) (reads_input_at x) (I a) (made.front P asks lo (checks_at p x) (C a) u)))
        (made.seq P asks lo lb.before _ ((made_expr a live true la.next ta (omega (arith, le, up))).source extent.size extent.align
        (made.second P asks lo (calls_at x) (calls_of a) (reads_input_at x) (I a) (made.both P asks lo (C a) rs (made.back P asks lo (checks_at p x) (C a) u) (made.back P asks lo (checks_at p x ++ C a) rs v))))
        (made.seq P asks lo _ _ (made.listed P asks lo (tlvalue_pos x) (λ k. None) (λ k. la.value ∷ []) (write_checks extent.size extent.align) (made.back P asks lo ((checks_at p x ++ C a) ++ rs) ws w))
        (asks (CopyBytes extent.size la.value lb.value) tt)))) refl
    made_expr (c.Compound at op x a) live mark d (tx, ta, md, row) le =
        let good : CTypeTree → Type 0 = λ ty. (k : ℕ) → PointsToSize p.structs ty k → IsElement k in
        let r = compound_row p.structs good (λ ty k g e. g k e) op (tlvalue_type x) (given_type a) (sized.places (S live) x refl tx) row in
        let la = lower_place p d x in
        let lb = (lower_expr p la.next a).value in
        let up = (reads_place p x d).next in
        let ty = place_scalar x in
        let ls = all_at (tlvalue_pos x) (load_checks (tlvalue_type x)) in
        let bs = all_at at (binary_checks op) in
        let ss = all_at (tlvalue_pos x) (store_checks (tlvalue_type x)) in
        made.plain_made P asks lo p (c.Compound at op x a) (scalar_of (tlvalue_type x)) (of_compound at (tlvalue_pos x) ty op la lb)
        (λ w. let v = made.front P asks lo (((checks_at p x ++ C a) ++ ls) ++ bs) ss w in
        let u = made.front P asks lo ((checks_at p x ++ C a) ++ ls) bs v in
        let t = made.front P asks lo (checks_at p x ++ C a) ls u in
        made.seq P asks lo _ _ (made.seq P asks lo la.before lb.before
        (made_place x live d tx le (made.first P asks lo (calls_at x) (calls_of a) (reads_input_at x) (I a) (made.front P asks lo (checks_at p x) (C a) t)))
        ((made_expr a live true la.next ta (omega (arith, le, up))).value (made.second P asks lo (calls_at x) (calls_of a) (reads_input_at x) (I a) (made.back P asks lo (checks_at p x) (C a) t))))
        (made.change_made P asks lo at (tlvalue_pos x) ty op lb.next la.value lb.value
        (made.same_at P asks lo (tlvalue_pos x) _ _ (loads_at (tlvalue_type x) r.place r.is_place) (made.back P asks lo (checks_at p x ++ C a) ls u))
        (made.back P asks lo ((checks_at p x ++ C a) ++ ls) bs v)
        (made.same_at P asks lo (tlvalue_pos x) _ _ (stores_at (tlvalue_type x) r.place r.is_place) (made.back P asks lo (((checks_at p x ++ C a) ++ ls) ++ bs) ss w))))
        (λ sc. tests_same (tlvalue_type x))
    made_expr (c.Step at time way stride x) live mark d (tx, md, row) le =
        let good : CTypeTree → Type 0 = λ ty. (k : ℕ) → PointsToSize p.structs ty k → IsElement k in
        let r = step_row p.structs good (λ ty k g e. g k e) way stride (tlvalue_type x) (sized.places (S live) x refl tx) row in
        let la = lower_place p d x in
        let ty = place_scalar x in
        let ls = all_at (tlvalue_pos x) (load_checks (tlvalue_type x)) in
        let bs = all_at at (step_checks stride) in
        let ss = all_at (tlvalue_pos x) (store_checks (tlvalue_type x)) in
        made.plain_made P asks lo p (c.Step at time way stride x) (scalar_of (tlvalue_type x)) (of_step at (tlvalue_pos x) ty time way stride la)
        (λ w. let v = made.front P asks lo ((checks_at p x ++ ls) ++ bs) ss w in
        let u = made.front P asks lo (checks_at p x ++ ls) bs v in
        made.seq P asks lo la.before _ (made_place x live d tx le (made.front P asks lo (checks_at p x) ls u))
        (made.change_made P asks lo at (tlvalue_pos x) ty (step_operator way stride) la.next la.value (step_one stride)
        (made.same_at P asks lo (tlvalue_pos x) _ _ (loads_at (tlvalue_type x) r.place r.is_place) (made.back P asks lo (checks_at p x) ls u))
        (made.same_at P asks lo at _ _ (steps_same way stride) (made.back P asks lo (checks_at p x ++ ls) bs v))
        (made.same_at P asks lo (tlvalue_pos x) _ _ (stores_at (tlvalue_type x) r.place r.is_place) (made.back P asks lo ((checks_at p x ++ ls) ++ bs) ss w))))
        (λ sc. tests_same (tlvalue_type x))
    made_expr (c.And at a b) live mark d (ta, tb, row) le = and_made d at a b row.0 row.1 (made_expr a live true d ta le) (made_expr b live true d tb le)
    made_expr (c.Or at a b) live mark d (ta, tb, row) le = or_made d at a b row.0 row.1 (made_expr a live true d ta le) (made_expr b live true d tb le)
    made_expr (c.Cond at ty t a b) live mark d (tt', ta, tb, pr, row) le =
        let mt = made_expr t live true d tt' le in
        let ma = made_expr a live true d ta le in
        let mb = made_expr b live true d tb le in
        let lt = lower_expr p d t in
        let la = lower_expr p d a in
        let lb = lower_expr p d b in
        let test = λ (w : made.WaysOf P asks lo p (c.Cond at ty t a b)). mt.unless at 0 row.condition_scalar
        (made.first P asks lo (calls_of t) (calls_of a) (I t) (I a) (made.first P asks lo (calls_of t ++ calls_of a) (calls_of b) (I t || I a) (I b)
        (made.front P asks lo (C t ++ T t at) (C a) (made.front P asks lo ((C t ++ T t at) ++ C a) (C b) w)))) in
        let wa = λ (w : made.WaysOf P asks lo p (c.Cond at ty t a b)).
        made.second P asks lo (calls_of t) (calls_of a) (I t) (I a) (made.first P asks lo (calls_of t ++ calls_of a) (calls_of b) (I t || I a) (I b)
        (made.back P asks lo (C t ++ T t at) (C a) (made.front P asks lo ((C t ++ T t at) ++ C a) (C b) w))) in
        let wb = λ (w : made.WaysOf P asks lo p (c.Cond at ty t a b)).
        made.second P asks lo (calls_of t ++ calls_of a) (calls_of b) (I t || I a) (I b) (made.back P asks lo ((C t ++ T t at) ++ C a) (C b) w) in
        let plain = made.plain_made P asks lo p (c.Cond at ty t a b) (held_scalar ty) (of_cond d (held_scalar ty) (lt.unless at 0) lt.value.top la.value lb.value)
        (λ w. made.cond_made P asks lo d (held_scalar ty) (lt.unless at 0) lt.value.top la.value lb.value (test w) (ma.value (wa w)) (mb.value (wb w))) (λ sc. tests_held ty sc) in
        record {
          value = plain.value;
          unless = plain.unless;
          when = plain.when;
          source = λ size align w.
              let f = R size align in
              let own = made.front P asks lo (C (c.Cond at ty t a b)) (flat_map f (read_from a ++ read_from b)) w in
              let reads = made.same_checks P asks lo (flat_map f (read_from a) ++ flat_map f (read_from b)) (flat_map f (read_from a ++ read_from b)) (sym (flat_map-append f (read_from a) (read_from b)))
              (made.back P asks lo (C (c.Cond at ty t a b)) (flat_map f (read_from a ++ read_from b)) w) in
              let ra = made.second P asks lo (calls_of t) (calls_of a) (I t) (I a) (made.first P asks lo (calls_of t ++ calls_of a) (calls_of b) (I t || I a) (I b)
              (made.front P asks lo (flat_map f (read_from a)) (flat_map f (read_from b)) reads)) in
              let rb = made.second P asks lo (calls_of t ++ calls_of a) (calls_of b) (I t || I a) (I b) (made.back P asks lo (flat_map f (read_from a)) (flat_map f (read_from b)) reads) in
              made.cond_made P asks lo d (Some scalars.Pointer) (lt.unless at 0) lt.value.top (la.source size align) (lb.source size align) (test own)
              (ma.source size align (made.both P asks lo (C a) (flat_map f (read_from a)) (wa own) ra))
              (mb.source size align (made.both P asks lo (C b) (flat_map f (read_from b)) (wb own) rb));
        }
    made_expr (c.Comma at a b) live mark d (ta, tb) le =
        let ma = made_expr a live false d ta le in
        let mb = made_expr b live true d tb le in
        let la = (lower_expr p d a).value in
        let lb = lower_expr p d b in
        let wa = λ (w : made.WaysOf P asks lo p (c.Comma at a b)). made.first P asks lo (calls_of a) (calls_of b) (I a) (I b) (made.front P asks lo (C a) (C b) w) in
        let wb = λ (w : made.WaysOf P asks lo p (c.Comma at a b)). made.second P asks lo (calls_of a) (calls_of b) (I a) (I b) (made.back P asks lo (C a) (C b) w) in
        let plain = made.plain_made P asks lo p (c.Comma at a b) (scalar_of (texpr_type b)) (Rattle.lower_trees.specs.LowerExpr.behind la lb.value)
        (λ w. made.seq P asks lo la.before lb.value.before (ma.value (wa w)) (mb.value (wb w))) (λ sc. tests_same (texpr_type b)) in
        record {
          value = plain.value;
          unless = plain.unless;
          when = plain.when;
          source = λ size align w.
              let f = R size align in
              let own = made.front P asks lo (C (c.Comma at a b)) (flat_map f (read_from b)) w in
              let reads = made.second P asks lo (calls_of a) (calls_of b) (I a) (I b) (made.back P asks lo (C (c.Comma at a b)) (flat_map f (read_from b)) w) in
              made.seq P asks lo la.before (lb.source size align).before (ma.value (wa own)) (mb.source size align (made.both P asks lo (C b) (flat_map f (read_from b)) (wb own) reads));
        }
    made_expr (c.Call at g ty used args) live mark d (same, ta, there) le =
        let all = lower_args p d args in
        let this : PlacedCall = record { pos = at; callee = g } in
        let vs = all_at at (value_checks p g ty used) in
        made.plain_made P asks lo p (c.Call at g ty used args) (scalar_of ty) (of_call d at g (wanted used ty) (is_main p g) all)
        (λ w. made.call_made P asks lo p d at g ty used all (calls_among args) (wanted used ty) (is_main p g) refl refl
        (made_args args live d ta le (made.calls_first P asks lo (calls_among args) (this ∷ []) (made.front P asks lo (checks_among p args) vs w)))
        (all_more (12 * lo) (12 * d) (omega (arith, le)) all.values (reads_args p args d)) (made.back P asks lo (checks_among p args) vs w))
        (λ sc. tests_same ty)
    made_expr (c.Any at t) live mark d h le = made.plain_made P asks lo p (c.Any at t) (Some (scalars.Int t)) (of_input d t) (λ w. w.inputs refl (temp_at d (scalars.Int t)) t) (λ sc. refl)
    made_expr (c.Assume at a) live mark d (ta, sc) le =
        made.plain_made P asks lo p (c.Assume at a) None (of_assume d at (lower_expr p d a))
        (λ w. made.branches P asks lo _ Nothing (Assume (number 0)) ((made_expr a live true d ta le).unless at 0 sc w) (made.nothing P asks lo) (asks (Assume (number 0)) tt)) (λ s. refl)
    made_expr (c.Assert at a) live mark d (ta, sc) le =
        let la = (lower_expr p d a).value in
        let asked = all_at at (test_checks (texpr_type a) ++ plain_check kinds.AssertFailed ∷ []) in
        made.plain_made P asks lo p (c.Assert at a) None (of_assert d at (scalar_of (texpr_type a)) la)
        (λ w. made.seq P asks lo la.before _ ((made_expr a live true d ta le).value (made.front P asks lo (C a) asked w))
        (made.listed P asks lo at (λ k. None) (λ k. la.value ∷ []) (test_checks (plain_type (scalar_of (texpr_type a))) ++ plain_check kinds.AssertFailed ∷ [])
        (made.same_at P asks lo at _ _ (ap (λ z. z ++ plain_check kinds.AssertFailed ∷ []) (tests_same (texpr_type a))) (made.back P asks lo (C a) asked w)))) (λ s. refl)

    pub made_place : (x : TLvalueTree) (live : List ℕ) (d : ℕ) → IsTypedPlace (S live) x → lo ≤ d → Ways P lo (checks_at p x) (calls_at x) (reads_input_at x) → made.E P asks lo (lower_place p d x).before
    made_place (c.Var at x ty k) live d h le w = made.nothing P asks lo
    made_place (c.Deref at kind ty k e) live d (te, row) le w = (made_expr e live true d te le).value w
    made_place (c.Member at k offset ty is_const x) live d (tx, row) le w =
        let a = lower_place p d x in
        made.seq P asks lo a.before _ (made_place x live d tx le (made.front P asks lo (checks_at p x) (all_at at move_checks) w))
        (made.listed P asks lo at (λ k. None) (λ k. move_operands a.value (moved a.value offset) k.kind) move_checks (made.back P asks lo (checks_at p x) (all_at at move_checks) w))

    pub made_args : (args : TExprTrees) (live : List ℕ) (d : ℕ) → AreTyped (S live) args → lo ≤ d → Ways P lo (checks_among p args) (calls_among args) (one_reads_input args) → made.E P asks lo (lower_args p d args).before
    made_args c.none live d h le w = made.nothing P asks lo
    made_args (c.more e rest) live d (te, tr) le w =
        let la = (lower_expr p d e).value in
        let up = (reads_expr p e d).value.next in
        made.seq P asks lo la.before _ ((made_expr e live true d te le).value (made.first P asks lo (calls_of e) (calls_among rest) (I e) (one_reads_input rest) (made.front P asks lo (C e) (checks_among p rest) w)))
        (made_args rest live la.next tr (omega (arith, le, up)) (made.second P asks lo (calls_of e) (calls_among rest) (I e) (one_reads_input rest) (made.back P asks lo (C e) (checks_among p rest) w)))
