-- What expressions are lowered to sets its own rows, in all uses.
use Rattle.std.proofs.Common.{ℕ, suc, ◌*◌, ◌≤◌, List, [], ◌∷◌, ◌++◌, Option, Some, None, Bool, true, false, max, map, refl, arith}
use Rattle.std.specs.Prelude.{Contains}
use Rattle.std.proofs.Math.Nat.{le-max_left, le-max_right}
use Rattle.std.proofs.lemmas.List.Elements.{Contains-append_left, Contains-append_right}
use Rattle.c_syntax_written.specs.declared.int_type.IntType.TheVariants as ints
use Rattle.c_syntax_written.specs.declared.place.Pos.{Pos}
use Rattle.c_syntax.specs.declared.alarm.WrongKind.TheVariants as kinds
use Rattle.c_syntax.specs.declared.operator.StepTime.{StepTime}
use Rattle.c_syntax.specs.declared.operator.StepTime.TheVariants as times
use Rattle.c_syntax.specs.declared.operator.TUnaryOp.{TUnaryOp}
use Rattle.c_syntax.specs.declared.operator.TUnaryOp.TheVariants as unaries
use Rattle.c_syntax.specs.declared.operator.TBinaryOp.{TBinaryOp}
use Rattle.c_syntax.specs.TypedExpr as c
use Rattle.c_syntax.specs.TypedExpr.{TExprTree, TLvalueTree, TExprTrees}
use Rattle.c_syntax.specs.TypedParts.{texpr_type, tlvalue_pos, tlvalue_type}
use Rattle.c_syntax.specs.Program.{TProgramTree}
use Rattle.c_layout.specs.Calls.{PlacedCall, calls_of, calls_at, calls_among}
use Rattle.c_layout.specs.Checks.{plain_check, test_checks}
use Rattle.c_layout.specs.MainFunction.{is_main}
use Rattle.block_mem.specs.declared.types.Scalar.{Scalar}
use Rattle.block_mem.specs.declared.types.Scalar.TheVariants as scalars
use Rattle.c_values.specs.Typed.{unary_type, binary_type}
use Rattle.c_values.specs.Values.{plain_type, scalar_of}
use Rattle.c_steps.specs.Changes.{step_operator}
use Rattle.csharp.specs.Trees.{CsExprTree, Const, Null, Temp, Unary, Binary, CsStmtTree, Nothing, Sequence}
use Rattle.lower_trees.specs.Temps.{temp_at}
use Rattle.lower_trees.specs.Checking.{checks, load_list, store_list, read_list, write_list, binary_list, unary_list, move_list, test_list, plain_one}
use Rattle.lower_trees.specs.LowerExpr.{Lowered, lowered, Forms, Args, number, held_scalar, plain, with_source, spilled, is_kept, is_kept_alone, to_scalar, place_scalar, changed_left, changed_new, change, given_term, of_load, of_unary, of_unary_forms, of_binary, of_convert, of_assign, of_assign_struct, of_change, of_compound, of_step, step_one, of_bit, unless_and, unless_or, of_and, of_or, of_cond, of_cond_forms, of_comma, of_call, wanted, of_input, of_assume, of_assert, of_member, lower_expr, lower_place, lower_args}
use Rattle.lower_formed.specs.Every.{Every}
use Rattle.lower_quiet.specs.Quiet.{Puts, Below, Quiet}
use Rattle.lower_quiet.proofs.Puts.{wider, below_more, temp_below, temp_in, checks_put}

module _ (Low : ℕ → Type 0) where
  abbrev pub E : ℕ → ℕ → CsStmtTree → Type 0
  E d m a = Every (Puts (12 * d) (12 * m) Low) a

  -- an expression in its uses
  pub record QuietForms (d : ℕ) (a : Forms) : Type 0 where
    pub value : Quiet Low d a.value
    pub unless : (at : Pos) (k : ℕ) → E d a.value.top (a.unless at k)
    pub when : (at : Pos) (k : ℕ) → E d a.value.top (a.when at k)
    pub source : (size align : ℕ) → Quiet Low d (a.source size align)

  pub record QuietArgs (d : ℕ) (a : Args) : Type 0 where
    pub next : d ≤ a.next
    pub top : a.next ≤ a.top
    pub before : E d a.top a.before

  plain_quiet : (d : ℕ) (o : Option Scalar) (a : Lowered) → Quiet Low d a → QuietForms d (plain o a)
  plain_quiet d o a h = record {
    value = h;
    unless = λ at k. (tt, h.before, (tt, checks_put (12 * d) (12 * a.top) Low (test_list at o a.value), (tt, tt, tt)));
    when = λ at k. (tt, h.before, (tt, checks_put (12 * d) (12 * a.top) Low (test_list at o a.value), (tt, tt, tt)));
    source = λ size align. h;
  }

  source_quiet : (d : ℕ) (at : Pos) (a : Lowered) → Quiet Low d a → QuietForms d (with_source at a)
  source_quiet d at a h = record {
    value = h;
    unless = λ from k. (tt, h.before, (tt, tt, (tt, tt, tt)));
    when = λ from k. (tt, h.before, (tt, tt, (tt, tt, tt)));
    source = λ size align. record { next = h.next; top = h.top; before = (tt, h.before, checks_put (12 * d) (12 * a.top) Low (read_list at size align a.value)); value = h.value };
  }

  -- what does nothing before a value that reads nothing
  still : (d : ℕ) (e : CsExprTree) → Below (12 * d) e → Quiet Low d (lowered Nothing e d d)
  still d e h = record { next = omega arith; top = omega arith; before = tt; value = h }

  spilled_quiet : (kept : Bool) (d : ℕ) (ty : Scalar) (a : Lowered) → Quiet Low d a → Quiet Low d (spilled kept d ty a)
  spilled_quiet true d ty a h = h
  spilled_quiet false d ty a h =
      let l = le-max_left (suc d) a.top in
      let r = le-max_right (suc d) a.top in
      record {
        next = omega arith;
        top = l;
        before = (tt, wider Low d a.top d (max (suc d) a.top) (omega arith) r a.before h.before, temp_in d d (max (suc d) a.top) ty (omega arith) l);
        value = temp_below d ty;
      }

  load_quiet : (d : ℕ) (at : Pos) (ty : Scalar) (a : Lowered) → Quiet Low d a → Quiet Low d (of_load d at ty a)
  load_quiet d at ty a h =
      let l = le-max_left (suc d) a.top in
      let r = le-max_right (suc d) a.top in
      record {
        next = omega arith;
        top = l;
        before = (
          tt,
          wider Low d a.top d (max (suc d) a.top) (omega arith) r a.before h.before,
          (tt, checks_put (12 * d) (12 * max (suc d) a.top) Low (load_list at ty a.value), temp_in d d (max (suc d) a.top) ty (omega arith) l),
        );
        value = temp_below d ty;
      }

  unary_quiet : (d : ℕ) (at : Pos) (op : TUnaryOp) (ty : Option Scalar) (a : Lowered) → Quiet Low d a → Quiet Low d (of_unary d at op ty a)
  unary_quiet d at op ty a h =
      spilled_quiet (is_kept_alone op) d (unary_type op) (lowered (Sequence a.before (checks (unary_list at op ty a.value))) (Unary op a.value) a.next a.top)
      (record { next = h.next; top = h.top; before = (tt, h.before, checks_put (12 * d) (12 * a.top) Low (unary_list at op ty a.value)); value = h.value })

  -- two parts, the second behind the first
  both_next : (d : ℕ) (a b : Lowered) → Quiet Low d a → Quiet Low a.next b → (d ≤ b.next) × (b.next ≤ max a.top b.top)
  both_next d a b h k =
      let x = h.next in let y = k.next in let z = k.top in let r = le-max_right a.top b.top in (omega (arith, x, y), omega (arith, z, r))

  first_before : (d : ℕ) (a b : Lowered) → Quiet Low d a → E d (max a.top b.top) a.before
  first_before d a b h = wider Low d a.top d (max a.top b.top) (omega arith) (le-max_left a.top b.top) a.before h.before

  second_before : (d : ℕ) (a b : Lowered) → Quiet Low d a → Quiet Low a.next b → E d (max a.top b.top) b.before
  second_before d a b h k = wider Low a.next b.top d (max a.top b.top) h.next (le-max_right a.top b.top) b.before k.before

  first_value : (d : ℕ) (a b : Lowered) → Quiet Low d a → Quiet Low a.next b → Below (12 * b.next) a.value
  first_value d a b h k = let y = k.next in below_more (12 * a.next) (12 * b.next) (omega (arith, y)) a.value h.value

  binary_quiet : (d : ℕ) (at : Pos) (kept : Bool) (op : TBinaryOp) (a b : Lowered) → Quiet Low d a → Quiet Low a.next b → Quiet Low d (of_binary d at kept op a b)
  binary_quiet d at kept op a b h k =
      let n = both_next d a b h k in
      spilled_quiet kept d (binary_type op) (lowered (Sequence a.before (Sequence b.before (checks (binary_list at op a.value b.value)))) (Binary op a.value b.value) b.next (max a.top b.top))
      (record {
        next = n.0;
        top = n.1;
        before = (tt, first_before d a b h, (tt, second_before d a b h k, checks_put (12 * d) (12 * max a.top b.top) Low (binary_list at op a.value b.value)));
        value = (first_value d a b h k, k.value);
      })

  scalar_below : (hi : ℕ) (o : Option Scalar) (e : CsExprTree) → Below hi e → Below hi (to_scalar o e)
  scalar_below hi None e h = h
  scalar_below hi (Some (scalars.Int t)) e h = h
  scalar_below hi (Some scalars.Pointer) e h = h

  convert_quiet : (d : ℕ) (o : Option Scalar) (a : Lowered) → Quiet Low d a → Quiet Low d (of_convert o a)
  convert_quiet d None a h = record { next = h.next; top = h.top; before = h.before; value = tt }
  convert_quiet d (Some ty) a h = record { next = h.next; top = h.top; before = h.before; value = scalar_below (12 * a.next) (Some ty) a.value h.value }

  assign_quiet : (d : ℕ) (at : Pos) (ty : Scalar) (a b : Lowered) → Quiet Low d a → Quiet Low a.next b → Quiet Low d (of_assign at ty a b)
  assign_quiet d at ty a b h k =
      let n = both_next d a b h k in
      record {
        next = n.0;
        top = n.1;
        before = (tt, first_before d a b h, (tt, second_before d a b h k, (tt, checks_put (12 * d) (12 * max a.top b.top) Low (store_list at ty a.value), tt)));
        value = k.value;
      }

  struct_quiet : (d : ℕ) (at : Pos) (size align : ℕ) (a b : Lowered) → Quiet Low d a → Quiet Low a.next b → Quiet Low d (of_assign_struct at size align a b)
  struct_quiet d at size align a b h k =
      let l = le-max_left a.top b.top in
      let x = h.top in
      record {
        next = h.next;
        top = omega (arith, l, x);
        before = (tt, first_before d a b h, (tt, second_before d a b h k, (tt, checks_put (12 * d) (12 * max a.top b.top) Low (write_list at size align a.value), tt)));
        value = h.value;
      }

  given_below : (time : StepTime) (ty : Scalar) (op : TBinaryOp) (d : ℕ) → Below (12 * suc (suc d)) (given_term time (Temp (temp_at d ty)) (changed_new op ty d))
  given_below times.Before ty op d = scalar_below (12 * suc (suc d)) (Some ty) (Temp (temp_at (suc d) (binary_type op))) (temp_below (suc d) (binary_type op))
  given_below times.After ty op d = let h = temp_below d ty in omega (arith, h)

  change_quiet : (d : ℕ) (at at_place : Pos) (ty : Scalar) (op : TBinaryOp) (time : StepTime) (before : CsStmtTree) (k top : ℕ) (place u : CsExprTree) → d ≤ k → E d top before
      → Quiet Low d (of_change at at_place ty op time before k top place u)
  change_quiet d at at_place ty op time before k top place u le h =
      let m = max (suc (suc k)) top in
      let l = le-max_left (suc (suc k)) top in
      let r = le-max_right (suc (suc k)) top in
      record {
        next = omega (arith, le);
        top = l;
        before = (
          tt,
          wider Low d top d m (omega arith) r before h,
          (
            tt,
            checks_put (12 * d) (12 * m) Low (load_list at_place ty place),
            (
              tt,
              temp_in d k m ty le (omega (arith, l)),
              (
                tt,
                checks_put (12 * d) (12 * m) Low (binary_list at op (changed_left op ty k) u),
                (
                  tt,
                  temp_in d (suc k) m (binary_type op) (omega (arith, le)) l,
                  (tt, checks_put (12 * d) (12 * m) Low (store_list at_place ty place), tt),
                ),
              ),
            ),
          ),
        );
        value = given_below time ty op k;
      }

  bit_quiet : (d : ℕ) (test : CsStmtTree) (top : ℕ) → E d top test → Quiet Low d (of_bit d test top)
  bit_quiet d test top h =
      let m = max (suc d) top in
      let l = le-max_left (suc d) top in
      let r = le-max_right (suc d) top in
      let t = temp_in d d m (scalars.Int ints.Int) (omega arith) l in
      record {
        next = omega arith;
        top = l;
        before = (tt, (tt, (tt, (tt, wider Low d top d m (omega arith) r test h, (tt, t, tt))), t));
        value = temp_below d (scalars.Int ints.Int);
      }

  cond_quiet : (d : ℕ) (o : Option Scalar) (test : CsStmtTree) (top : ℕ) (a b : Lowered) → E d top test → Quiet Low d a → Quiet Low d b → Quiet Low d (of_cond d o test top a b)
  cond_quiet d None test top a b h k l =
      let m = max top (max a.top b.top) in
      let x = le-max_left top (max a.top b.top) in
      let y = le-max_right top (max a.top b.top) in
      let u = le-max_left a.top b.top in
      let v = le-max_right a.top b.top in
      let n = k.next in
      let t = k.top in
      record {
        next = omega arith;
        top = omega (arith, y, u, n, t);
        before = (
          tt,
          (
            tt,
            (tt, (tt, wider Low d top d m (omega arith) x test h, (tt, wider Low d a.top d m (omega arith) (omega (arith, u, y)) a.before k.before, tt))),
            wider Low d b.top d m (omega arith) (omega (arith, v, y)) b.before l.before,
          ),
        );
        value = tt;
      }
  cond_quiet d (Some ty) test top a b h k l =
      let m = max (suc d) (max top (max a.top b.top)) in
      let z = le-max_left (suc d) (max top (max a.top b.top)) in
      let w = le-max_right (suc d) (max top (max a.top b.top)) in
      let x = le-max_left top (max a.top b.top) in
      let y = le-max_right top (max a.top b.top) in
      let u = le-max_left a.top b.top in
      let v = le-max_right a.top b.top in
      let t = temp_in d d m ty (omega arith) z in
      record {
        next = omega arith;
        top = z;
        before = (
          tt,
          (
            tt,
            (
              tt,
              (
                tt,
                wider Low d top d m (omega arith) (omega (arith, x, w)) test h,
                (tt, (tt, wider Low d a.top d m (omega arith) (omega (arith, u, y, w)) a.before k.before, t), tt),
              ),
            ),
            (tt, wider Low d b.top d m (omega arith) (omega (arith, v, y, w)) b.before l.before, t),
          ),
        );
        value = temp_below d ty;
      }

  call_quiet : (d : ℕ) (at : Pos) (g : ℕ) (o : Option Scalar) (main : Bool) (args : Args) → Low g → QuietArgs d args → Quiet Low d (of_call d at g o main args)
  call_quiet d at g None main args low h = let x = h.next in let y = h.top in record { next = omega arith; top = omega (arith, x, y); before = (tt, h.before, (tt, tt, low)); value = tt }
  call_quiet d at g (Some ty) true args low h =
      let l = le-max_left (suc d) args.top in
      let r = le-max_right (suc d) args.top in
      record {
        next = omega arith;
        top = l;
        before = (tt, wider Low d args.top d (max (suc d) args.top) (omega arith) r args.before h.before, (temp_in d d (max (suc d) args.top) ty (omega arith) l, tt, low));
        value = temp_below d ty;
      }
  call_quiet d at g (Some ty) false args low h =
      let m = max (suc (suc d)) args.top in
      let l = le-max_left (suc (suc d)) args.top in
      let r = le-max_right (suc (suc d)) args.top in
      record {
        next = omega arith;
        top = omega (arith, l);
        before = (
          tt,
          wider Low d args.top d m (omega arith) r args.before h.before,
          (tt, (temp_in d d m ty (omega arith) (omega (arith, l)), temp_in d (suc d) m (scalars.Int ints.Int) (omega arith) l, low), (tt, tt, tt)),
        );
        value = temp_below d ty;
      }

  member_quiet : (d : ℕ) (at : Pos) (offset : ℕ) (a : Lowered) → Quiet Low d a → Quiet Low d (of_member at offset a)
  member_quiet d at offset a h =
      record { next = h.next; top = h.top; before = (tt, h.before, checks_put (12 * d) (12 * a.top) Low (move_list at a.value offset)); value = (h.value, tt) }

  unary_forms : (d : ℕ) (at : Pos) (op : TUnaryOp) (ty : Option Scalar) (a : Forms) → QuietForms d a → QuietForms d (of_unary_forms d at op ty a)
  unary_forms d at unaries.Not ty a h = record {
    value = unary_quiet d at unaries.Not ty a.value h.value;
    unless = λ from k. h.when at k;
    when = λ from k. h.unless at k;
    source = λ size align. unary_quiet d at unaries.Not ty a.value h.value;
  }
  unary_forms d at (unaries.Plus t) ty a h = plain_quiet d (Some (unary_type (unaries.Plus t))) (of_unary d at (unaries.Plus t) ty a.value) (unary_quiet d at (unaries.Plus t) ty a.value h.value)
  unary_forms d at (unaries.Minus t) ty a h = plain_quiet d (Some (unary_type (unaries.Minus t))) (of_unary d at (unaries.Minus t) ty a.value) (unary_quiet d at (unaries.Minus t) ty a.value h.value)
  unary_forms d at (unaries.Complement t) ty a h =
      plain_quiet d (Some (unary_type (unaries.Complement t))) (of_unary d at (unaries.Complement t) ty a.value) (unary_quiet d at (unaries.Complement t) ty a.value h.value)

  -- the tests of two parts, in the rows of both and one more
  lift_left : (d : ℕ) (a b : Forms) (code : CsStmtTree) → E d a.value.top code → E d (max a.value.top b.value.top) code
  lift_left d a b code h = wider Low d a.value.top d (max a.value.top b.value.top) (omega arith) (le-max_left a.value.top b.value.top) code h

  lift_right : (d : ℕ) (a b : Forms) (code : CsStmtTree) → E d b.value.top code → E d (max a.value.top b.value.top) code
  lift_right d a b code h = wider Low d b.value.top d (max a.value.top b.value.top) (omega arith) (le-max_right a.value.top b.value.top) code h

  lift_bit : (d : ℕ) (top : ℕ) (code : CsStmtTree) → E d top code → E d (max (suc d) top) code
  lift_bit d top code h = wider Low d top d (max (suc d) top) (omega arith) (le-max_right (suc d) top) code h

  and_quiet : (d : ℕ) (at : Pos) (a b : Forms) → QuietForms d a → QuietForms d b → QuietForms d (of_and d at a b)
  and_quiet d at a b h k =
      let m = max a.value.top b.value.top in
      let un : (j : ℕ) → E d (max a.value.top b.value.top) (unless_and at a b at j) = λ j. (tt, lift_left d a b (a.unless at j) (h.unless at j), lift_right d a b (b.unless at j) (k.unless at j)) in
      let bit = bit_quiet d (unless_and at a b at 0) m (un 0) in
      record {
        value = bit;
        unless = λ from j. lift_bit d m (unless_and at a b from j) (un j);
        when = λ from j. lift_bit d m (Rattle.lower_trees.specs.LowerExpr.when_and at a b from j) (tt, (tt, lift_left d a b (a.unless at 0) (h.unless at 0), lift_right d a b (b.when at (suc j)) (k.when at (suc j))));
        source = λ size align. bit;
      }

  or_quiet : (d : ℕ) (at : Pos) (a b : Forms) → QuietForms d a → QuietForms d b → QuietForms d (of_or d at a b)
  or_quiet d at a b h k =
      let m = max a.value.top b.value.top in
      let un : (j : ℕ) → E d (max a.value.top b.value.top) (unless_or at a b at j) = λ j. (tt, (tt, lift_left d a b (a.when at 0) (h.when at 0), lift_right d a b (b.unless at (suc j)) (k.unless at (suc j)))) in
      let bit = bit_quiet d (unless_or at a b at 0) m (un 0) in
      record {
        value = bit;
        unless = λ from j. lift_bit d m (unless_or at a b from j) (un j);
        when = λ from j. lift_bit d m (Rattle.lower_trees.specs.LowerExpr.when_or at a b from j) (tt, lift_left d a b (a.when at j) (h.when at j), lift_right d a b (b.when at j) (k.when at j));
        source = λ size align. bit;
      }

  behind_quiet : (d : ℕ) (a b : Lowered) → Quiet Low d a → Quiet Low d b → Quiet Low d (Rattle.lower_trees.specs.LowerExpr.behind a b)
  behind_quiet d a b h k =
      let r = le-max_right a.top b.top in
      let x = k.top in
      record {
        next = k.next;
        top = omega (arith, r, x);
        before = (tt, first_before d a b h, wider Low d b.top d (max a.top b.top) (omega arith) r b.before k.before);
        value = k.value;
      }

  abbrev Allowed : List PlacedCall → Type 0
  Allowed ks = (k : PlacedCall) → Contains ks k → Low k.callee

  left : (xs ys : List PlacedCall) → Allowed (xs ++ ys) → Allowed xs
  left xs ys h k m = h k (Contains-append_left xs ys k m)

  right : (xs ys : List PlacedCall) → Allowed (xs ++ ys) → Allowed ys
  right xs ys h k m = h k (Contains-append_right xs ys k m)

  module _ (p : TProgramTree) where
    mutual
      unfolding calls_of

      pub quiet_expr : (e : TExprTree) (d : ℕ) → Allowed (calls_of e) → QuietForms d (lower_expr p d e)
      quiet_expr (c.Const at t k) d may = plain_quiet d (Some (scalars.Int t)) (lowered Nothing (Const t k) d d) (still d (Const t k) tt)
      quiet_expr (c.Null at ty) d may = plain_quiet d (Some scalars.Pointer) (lowered Nothing Null d d) (still d Null tt)
      quiet_expr (c.Load at x) d may =
          plain_quiet d (scalar_of (tlvalue_type x)) (of_load d (tlvalue_pos x) (place_scalar x) (lower_place p d x)) (load_quiet d (tlvalue_pos x) (place_scalar x) (lower_place p d x) (quiet_place x d may))
      quiet_expr (c.AddressOf at x) d may = plain_quiet d (Some scalars.Pointer) (lower_place p d x) (quiet_place x d may)
      quiet_expr (c.Decay at x) d may = plain_quiet d (Some scalars.Pointer) (lower_place p d x) (quiet_place x d may)
      quiet_expr (c.Whole at x) d may = source_quiet d (tlvalue_pos x) (lower_place p d x) (quiet_place x d may)
      quiet_expr (c.Unary at op a) d may = unary_forms d at op (scalar_of (texpr_type a)) (lower_expr p d a) (quiet_expr a d may)
      quiet_expr (c.Binary at op a b) d may =
          let la = (lower_expr p d a).value in
          plain_quiet d (Some (binary_type op)) (of_binary d at (is_kept op a b) op la (lower_expr p la.next b).value)
          (binary_quiet d at (is_kept op a b) op la (lower_expr p la.next b).value (quiet_expr a d (left (calls_of a) (calls_of b) may)).value (quiet_expr b la.next (right (calls_of a) (calls_of b) may)).value)
      quiet_expr (c.Convert at ty a) d may =
          plain_quiet d (scalar_of ty) (of_convert (scalar_of ty) (lower_expr p d a).value) (convert_quiet d (scalar_of ty) (lower_expr p d a).value (quiet_expr a d may).value)
      quiet_expr (c.Assign at x a) d may =
          let la = lower_place p d x in
          plain_quiet d (scalar_of (tlvalue_type x)) (of_assign (tlvalue_pos x) (place_scalar x) la (lower_expr p la.next a).value)
          (assign_quiet d (tlvalue_pos x) (place_scalar x) la (lower_expr p la.next a).value (quiet_place x d (left (calls_at x) (calls_of a) may)) (quiet_expr a la.next (right (calls_at x) (calls_of a) may)).value)
      quiet_expr (c.AssignStruct at extent x a) d may =
          let la = lower_place p d x in
          let lb = (lower_expr p la.next a).source extent.size extent.align in
          source_quiet d (tlvalue_pos x) (of_assign_struct (tlvalue_pos x) extent.size extent.align la lb)
          (struct_quiet d (tlvalue_pos x) extent.size extent.align la lb (quiet_place x d (left (calls_at x) (calls_of a) may)) ((quiet_expr a la.next (right (calls_at x) (calls_of a) may)).source extent.size extent.align))
      quiet_expr (c.Compound at op x a) d may =
          let la = lower_place p d x in
          let lb = (lower_expr p la.next a).value in
          let h = quiet_place x d (left (calls_at x) (calls_of a) may) in
          let k = (quiet_expr a la.next (right (calls_at x) (calls_of a) may)).value in
          plain_quiet d (scalar_of (tlvalue_type x)) (of_compound at (tlvalue_pos x) (place_scalar x) op la lb)
          (change_quiet d at (tlvalue_pos x) (place_scalar x) op times.Before (Sequence la.before lb.before) lb.next (max la.top lb.top) la.value lb.value (both_next d la lb h k).0
          (tt, first_before d la lb h, second_before d la lb h k))
      quiet_expr (c.Step at time way stride x) d may =
          let la = lower_place p d x in
          let h = quiet_place x d may in
          plain_quiet d (scalar_of (tlvalue_type x)) (of_step at (tlvalue_pos x) (place_scalar x) time way stride la)
          (change_quiet d at (tlvalue_pos x) (place_scalar x) (step_operator way stride) time la.before la.next la.top la.value (step_one stride) h.next h.before)
      quiet_expr (c.And at a b) d may = and_quiet d at (lower_expr p d a) (lower_expr p d b) (quiet_expr a d (left (calls_of a) (calls_of b) may)) (quiet_expr b d (right (calls_of a) (calls_of b) may))
      quiet_expr (c.Or at a b) d may = or_quiet d at (lower_expr p d a) (lower_expr p d b) (quiet_expr a d (left (calls_of a) (calls_of b) may)) (quiet_expr b d (right (calls_of a) (calls_of b) may))
      quiet_expr (c.Cond at ty t a b) d may =
          let front = left (calls_of t ++ calls_of a) (calls_of b) may in
          let ht = quiet_expr t d (left (calls_of t) (calls_of a) front) in
          let ha = quiet_expr a d (right (calls_of t) (calls_of a) front) in
          let hb = quiet_expr b d (right (calls_of t ++ calls_of a) (calls_of b) may) in
          let lt = lower_expr p d t in
          let la = lower_expr p d a in
          let lb = lower_expr p d b in
          let plain = plain_quiet d (held_scalar ty) (of_cond d (held_scalar ty) (lt.unless at 0) lt.value.top la.value lb.value)
          (cond_quiet d (held_scalar ty) (lt.unless at 0) lt.value.top la.value lb.value (ht.unless at 0) ha.value hb.value) in
          record {
            value = plain.value;
            unless = plain.unless;
            when = plain.when;
            source = λ size align. cond_quiet d (Some scalars.Pointer) (lt.unless at 0) lt.value.top (la.source size align) (lb.source size align) (ht.unless at 0) (ha.source size align) (hb.source size align);
          }
      quiet_expr (c.Comma at a b) d may =
          let ha = (quiet_expr a d (left (calls_of a) (calls_of b) may)).value in
          let hb = quiet_expr b d (right (calls_of a) (calls_of b) may) in
          let la = (lower_expr p d a).value in
          let lb = lower_expr p d b in
          let plain = plain_quiet d (scalar_of (texpr_type b)) (Rattle.lower_trees.specs.LowerExpr.behind la lb.value) (behind_quiet d la lb.value ha hb.value) in
          record { value = plain.value; unless = plain.unless; when = plain.when; source = λ size align. behind_quiet d la (lb.source size align) ha (hb.source size align) }
      quiet_expr (c.Call at g ty used args) d may =
          let this : PlacedCall = record { pos = at; callee = g } in
          plain_quiet d (scalar_of ty) (of_call d at g (wanted used ty) (is_main p g) (lower_args p d args))
          (call_quiet d at g (wanted used ty) (is_main p g) (lower_args p d args) (may this (Contains-append_right (calls_among args) (this ∷ []) this (0, omega arith, refl)))
          (quiet_args args d (left (calls_among args) (this ∷ []) may)))
      quiet_expr (c.Any at t) d may =
          plain_quiet d (Some (scalars.Int t)) (of_input d t)
          (record { next = omega arith; top = omega arith; before = temp_in d d (suc d) (scalars.Int t) (omega arith) (omega arith); value = temp_below d (scalars.Int t) })
      quiet_expr (c.Assume at a) d may =
          let h = quiet_expr a d may in
          let x = h.value.next in
          let y = h.value.top in
          plain_quiet d None (of_assume d at (lower_expr p d a))
          (record { next = omega arith; top = omega (arith, x, y); before = (tt, (tt, (tt, (tt, h.unless at 0, (tt, tt, tt))), tt)); value = tt })
      quiet_expr (c.Assert at a) d may =
          let h = (quiet_expr a d may).value in
          let x = h.next in
          let y = h.top in
          let la = (lower_expr p d a).value in
          plain_quiet d None (of_assert d at (scalar_of (texpr_type a)) la)
          (record {
            next = omega arith;
            top = omega (arith, x, y);
            before = (tt, h.before, checks_put (12 * d) (12 * la.top) Low (map (plain_one at la.value) (test_checks (plain_type (scalar_of (texpr_type a))) ++ plain_check kinds.AssertFailed ∷ [])));
            value = tt;
          })

      pub quiet_place : (x : TLvalueTree) (d : ℕ) → Allowed (calls_at x) → Quiet Low d (lower_place p d x)
      quiet_place (c.Var at x ty k) d may = record { next = omega arith; top = omega arith; before = tt; value = tt }
      quiet_place (c.Deref at kind ty k e) d may = (quiet_expr e d may).value
      quiet_place (c.Member at k offset ty is_const x) d may = member_quiet d at offset (lower_place p d x) (quiet_place x d may)

      pub quiet_args : (args : TExprTrees) (d : ℕ) → Allowed (calls_among args) → QuietArgs d (lower_args p d args)
      quiet_args c.none d may = record { next = omega arith; top = omega arith; before = tt }
      quiet_args (c.more e rest) d may =
          let la = (lower_expr p d e).value in
          let more = lower_args p la.next rest in
          let h = (quiet_expr e d (left (calls_of e) (calls_among rest) may)).value in
          let k = quiet_args rest la.next (right (calls_of e) (calls_among rest) may) in
          let x = h.next in
          let y = k.next in
          let z = k.top in
          let l = le-max_left la.top more.top in
          let r = le-max_right la.top more.top in
          record {
            next = omega (arith, x, y);
            top = omega (arith, z, r);
            before = (tt, wider Low d la.top d (max la.top more.top) (omega arith) l la.before h.before, wider Low la.next more.top d (max la.top more.top) x r more.before k.before);
          }
