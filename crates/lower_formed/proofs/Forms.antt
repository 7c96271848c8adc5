-- What is put together of fine parts is fine.
use Rattle.std.proofs.Common.{◌≡◌, ℕ, suc, ◌<◌, ◌≤◌, [], ◌∷◌, Option, Some, None, Bool, true, false, pos, max, map, refl, sym, ap, ◌∙◌, subst, arith}
use Rattle.std.specs.Prelude.{slice_get, ◌++◌}
use Rattle.std.proofs.Math.Nat.{le-max_left, le-max_right}
use Rattle.std.proofs.lemmas.Int.{ints as numbers}
use Rattle.c_syntax_written.specs.declared.int_type.IntType.{IntType}
use Rattle.c_syntax_written.specs.declared.int_type.IntType.TheVariants as ints
use Rattle.c_syntax_written.specs.declared.place.Pos.{Pos}
use Rattle.c_syntax_written.specs.Integer.{HasNumber}
use Rattle.c_syntax.specs.declared.alarm.WrongKind.TheVariants as kinds
use Rattle.c_syntax.specs.declared.operator.StepTime.{StepTime}
use Rattle.c_syntax.specs.declared.operator.StepTime.TheVariants as times
use Rattle.c_syntax.specs.declared.operator.Stride.{Stride}
use Rattle.c_syntax.specs.declared.operator.Stride.TheVariants as strides
use Rattle.c_syntax.specs.declared.operator.TUnaryOp.{TUnaryOp}
use Rattle.c_syntax.specs.declared.operator.TBinaryOp.{TBinaryOp}
use Rattle.c_layout.specs.Checks.{plain_check, test_checks}
use Rattle.block_mem.specs.declared.types.Scalar.{Scalar}
use Rattle.block_mem.specs.declared.types.Scalar.TheVariants as scalars
use Rattle.block_mem.specs.Bytes.{IsOf}
use Rattle.c_values.specs.Operators.{one}
use Rattle.c_values.specs.Typed.{binary_type, unary_type}
use Rattle.c_values.specs.Values.{plain_type}
use Rattle.c_steps.specs.Changes.{left_type}
use Rattle.c_steps_laws.specs.Takes.{Changes}
use Rattle.c_steps_laws.specs.Wants.{Operates, OperatesOn, Converts}
use Rattle.csharp.specs.Trees.{CsExprTree, Const, Temp, Unary, Binary, CsStmtTree, Nothing, Set, Load, Store, CopyBytes, Assume, Exit, Sequence, CsProgramTree}
use Rattle.csharp.specs.Formed.{Around, in_block, Each, HasType, IsPointer}
use Rattle.lower_trees.specs.Temps.{temp_at}
use Rattle.lower_trees.specs.Checking.{checks, load_list, store_list, read_list, write_list, binary_list, unary_list, move_list, test_list, test_value, plain_one}
use Rattle.lower_trees.specs.LowerExpr.{Lowered, lowered, Forms, number, unless_value, when_value, spilled, is_kept_alone, to_scalar, of_load, of_unary, of_binary, of_convert, of_assign, of_assign_struct, of_source, changed_left, changed_new, change, given_term, of_change, step_one, of_bit, of_cond, behind, of_input, of_assume, of_assert, of_member}
use Rattle.lower_formed.specs.Right.{Frame, Good, Fine}
use Rattle.lower_formed.proofs.Terms.{R, AllRight, listed, good_binary, good_unary, good_converted, good_const, good_temp, nothing_right, seq_right, exit_right, set_right, load_right, input_right, store_right, copy_right, assume_right, if_right, branch_right, check_one}
use Rattle.lower_formed.proofs.Lists.{load_checked, store_checked, read_checked, write_checked, binary_checked, test_checked, test_good, unary_checked, moved_good, member_checked}

zero_number : HasNumber ints.Int (pos 0)
zero_number = record { sfits = omega (arith, numbers) }

one_number : HasNumber ints.Int (pos 1)
one_number = record { sfits = omega (arith, numbers) }

module _ (q : CsProgramTree) (labels : Frame) (n : ℕ) (there : (d : ℕ) (ty : Scalar) → d < n → slice_get q.temps (temp_at d ty) ≡ Some ty) where
  abbrev F : Around → Option Scalar → Lowered → Type 0
  F around ty a = Fine q labels around ty a

  abbrev E : Around → CsStmtTree → Type 0
  E around a = Each (R q labels) around a

  at_left : (d k : ℕ) → max (suc d) k ≤ n → d < n
  at_left d k h = let le = le-max_left (suc d) k in omega (arith, le, h)

  pub zero_good : (around : Around) → Good q around (number 0)
  zero_good around = good_const q labels ints.Int (pos 0) around zero_number

  -- a value of no type
  pub fine_void : (around : Around) (a : CsStmtTree) (d k : ℕ) → E around a → F around None (lowered a (number 0) d k)
  fine_void around a d k h = record { before = h; good = zero_good around; is = λ s e. absurd (cc) }

  pub fine_as : (around : Around) (ty other : Option Scalar) (a : Lowered) → ty ≡ other → F around ty a → F around other a
  fine_as around ty other a e h = subst (λ t. F around t a) e h

  pub fine_load : (around : Around) (d : ℕ) (at : Pos) (ty : Scalar) (a : Lowered) → max (suc d) a.top ≤ n → F around (Some scalars.Pointer) a → F around (Some ty) (of_load d at ty a)
  fine_load around d at ty a room h =
      let t = there d ty (at_left d a.top room) in
      let p = h.is scalars.Pointer refl in
      record {
        before = seq_right q labels around a.before _ h.before (seq_right q labels around (checks (load_list at ty a.value)) (Load (temp_at d ty) ty a.value)
            (listed q labels around (load_list at ty a.value) (load_checked q labels around at ty a.value h.good p)) (load_right q labels around (temp_at d ty) ty a.value h.good p t));
        good = good_temp q labels around (temp_at d ty) ty t;
        is = λ s e. t ∙ e;
      }

  pub fine_spilled : (around : Around) (kept : Bool) (d : ℕ) (ty : Scalar) (a : Lowered) → (spilled kept d ty a).top ≤ n → F around (Some ty) a → F around (Some ty) (spilled kept d ty a)
  fine_spilled around true d ty a room h = h
  fine_spilled around false d ty a room h =
      let t = there d ty (at_left d a.top room) in
      record {
        before = seq_right q labels around a.before (Set (temp_at d ty) a.value) h.before (set_right q labels around (temp_at d ty) ty a.value h.good (h.is ty refl) t);
        good = good_temp q labels around (temp_at d ty) ty t;
        is = λ s e. t ∙ e;
      }

  -- the rows of what is spilled are enough for it
  pub spilled_top : (kept : Bool) (d : ℕ) (ty : Scalar) (a : Lowered) → (spilled kept d ty a).top ≤ n → a.top ≤ n
  spilled_top true d ty a h = h
  spilled_top false d ty a h = let le = le-max_right (suc d) a.top in omega (arith, le, h)

  pub fine_unary : (around : Around) (d : ℕ) (at : Pos) (op : TUnaryOp) (ty : Scalar) (a : Lowered) → OperatesOn op ty → (of_unary d at op (Some ty) a).top ≤ n → F around (Some ty) a
      → F around (Some (unary_type op)) (of_unary d at op (Some ty) a)
  fine_unary around d at op ty a o room h =
      fine_spilled around (is_kept_alone op) d (unary_type op) (lowered (Sequence a.before (checks (unary_list at op (Some ty) a.value))) (Unary op a.value) a.next a.top) room (record {
        before = seq_right q labels around a.before (checks (unary_list at op (Some ty) a.value)) h.before
            (listed q labels around (unary_list at op (Some ty) a.value) (unary_checked q labels around at op ty a.value o h.good (h.is ty refl)));
        good = good_unary q labels op ty around a.value o h.good (h.is ty refl);
        is = λ s e. e;
      })

  pub fine_binary : {op : TBinaryOp} {l r : Scalar} (around : Around) (d : ℕ) (at : Pos) (kept : Bool) (a b : Lowered) → Operates op l r → (of_binary d at kept op a b).top ≤ n
      → F around (Some l) a → F around (Some r) b → F around (Some (binary_type op)) (of_binary d at kept op a b)
  fine_binary {op} {l} {r} around d at kept a b o room h k =
      fine_spilled around kept d (binary_type op)
      (lowered (Sequence a.before (Sequence b.before (checks (binary_list at op a.value b.value)))) (Binary op a.value b.value) b.next (max a.top b.top)) room (record {
        before = seq_right q labels around a.before _ h.before (seq_right q labels around b.before (checks (binary_list at op a.value b.value)) k.before
            (listed q labels around (binary_list at op a.value b.value) (binary_checked q labels around at a.value b.value o h.good (h.is l refl) k.good (k.is r refl))));
        good = good_binary q labels around a.value b.value o h.good (h.is l refl) k.good (k.is r refl);
        is = λ s e. e;
      })

  pub fine_convert : {from to : Scalar} (around : Around) (a : Lowered) → Converts from to → F around (Some from) a → F around (Some to) (of_convert (Some to) a)
  fine_convert {from} {to} around a c h =
      let g = good_converted q labels around a.value c h.good (h.is from refl) in
      record { before = h.before; good = g.0; is = λ s e. g.1 ∙ e }

  pub fine_assign : (around : Around) (at : Pos) (ty : Scalar) (a b : Lowered) → F around (Some scalars.Pointer) a → F around (Some ty) b → F around (Some ty) (of_assign at ty a b)
  fine_assign around at ty a b h k =
      let p = h.is scalars.Pointer refl in
      record {
        before = seq_right q labels around a.before _ h.before (seq_right q labels around b.before _ k.before (seq_right q labels around (checks (store_list at ty a.value)) (Store ty a.value b.value)
            (listed q labels around (store_list at ty a.value) (store_checked q labels around at ty a.value h.good p)) (store_right q labels around ty a.value b.value h.good p k.good (k.is ty refl))));
        good = k.good;
        is = k.is;
      }

  pub fine_assign_struct : (around : Around) (at : Pos) (size align : ℕ) (a b : Lowered) → 1 ≤ align → F around (Some scalars.Pointer) a → F around (Some scalars.Pointer) b
      → F around (Some scalars.Pointer) (of_assign_struct at size align a b)
  fine_assign_struct around at size align a b le h k =
      let p = h.is scalars.Pointer refl in
      record {
        before = seq_right q labels around a.before _ h.before (seq_right q labels around b.before _ k.before (seq_right q labels around (checks (write_list at size align a.value)) (CopyBytes size a.value b.value)
            (listed q labels around (write_list at size align a.value) (write_checked q labels around at size align a.value le h.good p)) (copy_right q labels around size a.value b.value h.good p k.good (k.is scalars.Pointer refl))));
        good = h.good;
        is = h.is;
      }

  pub fine_source : (around : Around) (at : Pos) (a : Lowered) (size align : ℕ) → 1 ≤ align → F around (Some scalars.Pointer) a → F around (Some scalars.Pointer) (of_source at a size align)
  fine_source around at a size align le h = record {
    before = seq_right q labels around a.before (checks (read_list at size align a.value)) h.before
        (listed q labels around (read_list at size align a.value) (read_checked q labels around at size align a.value le h.good (h.is scalars.Pointer refl)));
    good = h.good;
    is = h.is;
  }

  -- ---- `op=`, `++` and `--`
  left_good : (around : Around) (op : TBinaryOp) (ty left : Scalar) (d : ℕ) → left_type op (Some ty) ≡ Some left → Converts ty left → slice_get q.temps (temp_at d ty) ≡ Some ty
      → Good q around (changed_left op ty d) × HasType q left (changed_left op ty d)
  left_good around op ty left d e c t =
      subst (λ z. Good q around (to_scalar z (Temp (temp_at d ty))) × HasType q left (to_scalar z (Temp (temp_at d ty)))) (sym e)
      (good_converted q labels around (Temp (temp_at d ty)) c (good_temp q labels around (temp_at d ty) ty t) t)

  given_fine : (around : Around) (time : StepTime) (ty : Scalar) (old new : CsExprTree) → Good q around old → HasType q ty old → Good q around new → HasType q ty new
      → Good q around (given_term time old new) × HasType q ty (given_term time old new)
  given_fine around times.Before ty old new g h k l = (k, l)
  given_fine around times.After ty old new g h k l = (g, h)

  pub fine_change : {op : TBinaryOp} {ty right : Scalar} (around : Around) (at at_place : Pos) (time : StepTime) (before : CsStmtTree) (d top : ℕ) (place u : CsExprTree)
      → Changes op ty right → max (suc (suc d)) top ≤ n → E around before → Good q around place → IsPointer q place → Good q around u → HasType q right u
      → F around (Some ty) (of_change at at_place ty op time before d top place u)
  fine_change {op} {ty} {right} around at at_place time before d top place u c room b g h k l =
      let more = le-max_left (suc (suc d)) top in
      let t = there d ty (omega (arith, more, room)) in
      let new = there (suc d) (binary_type op) (omega (arith, more, room)) in
      let old = left_good around op ty c.left d c.is_left c.there t in
      let whole = good_binary q labels around (changed_left op ty d) u c.operates old.0 old.1 k l in
      let back = good_converted q labels around (Temp (temp_at (suc d) (binary_type op))) c.back (good_temp q labels around (temp_at (suc d) (binary_type op)) (binary_type op) new) (new ∙ ap Some c.gives) in
      let given = given_fine around time ty (Temp (temp_at d ty)) (changed_new op ty d) (good_temp q labels around (temp_at d ty) ty t) t back.0 back.1 in
      record {
        before = seq_right q labels around before (change at at_place ty op d place u) b
            (seq_right q labels around (checks (load_list at_place ty place)) _ (listed q labels around (load_list at_place ty place) (load_checked q labels around at_place ty place g h))
            (seq_right q labels around (Load (temp_at d ty) ty place) _ (load_right q labels around (temp_at d ty) ty place g h t)
            (seq_right q labels around (checks (binary_list at op (changed_left op ty d) u)) _ (listed q labels around (binary_list at op (changed_left op ty d) u) (binary_checked q labels around at (changed_left op ty d) u c.operates old.0 old.1 k l))
            (seq_right q labels around (Set (temp_at (suc d) (binary_type op)) (Binary op (changed_left op ty d) u)) _
            (set_right q labels around (temp_at (suc d) (binary_type op)) (binary_type op) (Binary op (changed_left op ty d) u) whole refl new)
            (seq_right q labels around (checks (store_list at_place ty place)) (Store ty place (changed_new op ty d)) (listed q labels around (store_list at_place ty place) (store_checked q labels around at_place ty place g h))
            (store_right q labels around ty place (changed_new op ty d) g h back.0 back.1))))));
        good = given.0;
        is = λ s e. given.1 ∙ e;
      }

  pub one_good : (around : Around) (stride : Stride) (ty : Scalar) → IsOf ty (one stride) → Good q around (step_one stride) × HasType q ty (step_one stride)
  one_good around (strides.Int t) (scalars.Int u) h = (good_const q labels t (pos 1) around (subst (λ x. HasNumber x (pos 1)) (sym h.0) h.1), ap (λ x. Some (scalars.Int x)) h.0)
  one_good around (strides.Element k) (scalars.Int u) h = (good_const q labels ints.Int (pos 1) around one_number, ap (λ x. Some (scalars.Int x)) h.0)
  one_good around (strides.Int t) scalars.Pointer h = absurd h
  one_good around (strides.Element k) scalars.Pointer h = absurd h

  -- ---- tests
  pub unless_right : (around : Around) (ty : Scalar) (a : Lowered) (at : Pos) (k : ℕ) → k < around.exits → F around (Some ty) a → E around (unless_value (Some ty) a at k)
  unless_right around ty a at k lt h =
      let g = test_good q labels around ty a.value h.good (h.is ty refl) in
      seq_right q labels around a.before _ h.before (seq_right q labels around (checks (test_list at (Some ty) a.value)) _
      (listed q labels around (test_list at (Some ty) a.value) (test_checked q labels around at ty a.value h.good (h.is ty refl)))
      (if_right q labels around (test_value (Some ty) a.value) Nothing (Exit k) g.0 g.1 (nothing_right q labels around) (exit_right q labels around k lt)))

  pub when_right : (around : Around) (ty : Scalar) (a : Lowered) (at : Pos) (k : ℕ) → k < around.exits → F around (Some ty) a → E around (when_value (Some ty) a at k)
  when_right around ty a at k lt h =
      let g = test_good q labels around ty a.value h.good (h.is ty refl) in
      seq_right q labels around a.before _ h.before (seq_right q labels around (checks (test_list at (Some ty) a.value)) _
      (listed q labels around (test_list at (Some ty) a.value) (test_checked q labels around at ty a.value h.good (h.is ty refl)))
      (if_right q labels around (test_value (Some ty) a.value) (Exit k) Nothing g.0 g.1 (exit_right q labels around k lt) (nothing_right q labels around)))

  bit_set : (around : Around) (d : ℕ) (v : _) → HasNumber ints.Int v → d < n → E around (Set (temp_at d (scalars.Int ints.Int)) (Const ints.Int v))
  bit_set around d v h lt = set_right q labels around (temp_at d (scalars.Int ints.Int)) (scalars.Int ints.Int) (Const ints.Int v) (good_const q labels ints.Int v around h) refl (there d (scalars.Int ints.Int) lt)

  pub fine_bit : (around : Around) (d : ℕ) (test : CsStmtTree) (top : ℕ) → max (suc d) top ≤ n → E (in_block (in_block around)) test → F around (Some (scalars.Int ints.Int)) (of_bit d test top)
  fine_bit around d test top room h =
      let lt = at_left d top room in
      let t = there d (scalars.Int ints.Int) lt in
      record {
        before = branch_right q labels around test _ _ h (bit_set (in_block (in_block around)) d (pos 1) one_number lt) (bit_set (in_block around) d (pos 0) zero_number lt);
        good = good_temp q labels around (temp_at d (scalars.Int ints.Int)) (scalars.Int ints.Int) t;
        is = λ s e. t ∙ e;
      }

  pub fine_cond : (around : Around) (d : ℕ) (ty : Scalar) (test : CsStmtTree) (top : ℕ) (a b : Lowered) → max (suc d) (max top (max a.top b.top)) ≤ n → E (in_block (in_block around)) test
      → F (in_block (in_block around)) (Some ty) a → F (in_block around) (Some ty) b → F around (Some ty) (of_cond d (Some ty) test top a b)
  fine_cond around d ty test top a b room h k l =
      let lt = at_left d (max top (max a.top b.top)) room in
      let t = there d ty lt in
      record {
        before = branch_right q labels around test _ _ h
            (seq_right q labels (in_block (in_block around)) a.before _ k.before (set_right q labels (in_block (in_block around)) (temp_at d ty) ty a.value k.good (k.is ty refl) t))
            (seq_right q labels (in_block around) b.before _ l.before (set_right q labels (in_block around) (temp_at d ty) ty b.value l.good (l.is ty refl) t));
        good = good_temp q labels around (temp_at d ty) ty t;
        is = λ s e. t ∙ e;
      }

  pub fine_cond_void : (around : Around) (d : ℕ) (test : CsStmtTree) (top : ℕ) (a b : Lowered) → E (in_block (in_block around)) test
      → F (in_block (in_block around)) None a → F (in_block around) None b → F around None (of_cond d None test top a b)
  fine_cond_void around d test top a b h k l = fine_void around _ d (max top (max a.top b.top)) (branch_right q labels around test a.before b.before h k.before l.before)

  pub fine_behind : (around : Around) (ty other : Option Scalar) (a b : Lowered) → F around other a → F around ty b → F around ty (behind a b)
  fine_behind around ty other a b h k = record { before = seq_right q labels around a.before b.before h.before k.before; good = k.good; is = k.is }

  pub fine_input : (around : Around) (d : ℕ) (t : IntType) → suc d ≤ n → F around (Some (scalars.Int t)) (of_input d t)
  fine_input around d t room =
      let h = there d (scalars.Int t) room in
      record { before = input_right q labels around (temp_at d (scalars.Int t)) t h; good = good_temp q labels around (temp_at d (scalars.Int t)) (scalars.Int t) h; is = λ s e. h ∙ e }

  pub fine_assume : (around : Around) (d : ℕ) (at : Pos) (a : Forms) → E (in_block (in_block around)) (a.unless at 0) → F around None (of_assume d at a)
  fine_assume around d at a h =
      fine_void around _ d a.value.top (branch_right q labels around (a.unless at 0) Nothing (Assume (number 0)) h (nothing_right q labels (in_block (in_block around)))
      (assume_right q labels (in_block around) (number 0) (zero_good (in_block around)) (ints.Int, refl)))

  assert_checked : (around : Around) (at : Pos) (ty : Scalar) (e : CsExprTree) → Good q around e → HasType q ty e
      → AllRight q labels around (map (plain_one at e) (test_checks (plain_type (Some ty)) ++ plain_check kinds.AssertFailed ∷ []))
  assert_checked around at (scalars.Int t) e g h = (check_one q labels around at None (plain_check kinds.AssertFailed) e g (rw h refl, refl, refl), tt)
  assert_checked around at scalars.Pointer e g h =
      ((test_checked q labels around at scalars.Pointer e g h).0, (check_one q labels around at None (plain_check kinds.AssertFailed) e g (rw h refl, refl, refl), tt))

  pub fine_assert : (around : Around) (d : ℕ) (at : Pos) (ty : Scalar) (a : Lowered) → F around (Some ty) a → F around None (of_assert d at (Some ty) a)
  fine_assert around d at ty a h =
      fine_void around _ d a.top (seq_right q labels around a.before _ h.before (listed q labels around _ (assert_checked around at ty a.value h.good (h.is ty refl))))

  pub fine_member : (around : Around) (at : Pos) (offset : ℕ) (a : Lowered) → HasNumber ints.Long (pos offset) → F around (Some scalars.Pointer) a → F around (Some scalars.Pointer) (of_member at offset a)
  fine_member around at offset a o h =
      let p = h.is scalars.Pointer refl in
      record {
        before = seq_right q labels around a.before (checks (move_list at a.value offset)) h.before (listed q labels around (move_list at a.value offset) (member_checked q labels around at a.value offset o h.good p));
        good = moved_good q labels around a.value offset o h.good p;
        is = λ s e. e;
      }
