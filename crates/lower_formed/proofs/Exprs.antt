-- What typed expressions are lowered to is fine.
use Rattle.std.proofs.Common.{◌≡◌, ◌⊎◌, inl, inr, ℕ, suc, ◌<◌, ◌≤◌, List, [], ◌∷◌, ◌++◌, Option, Some, None, Bool, true, false, max, refl, sym, ap, ◌∙◌, subst, arith, map}
use Rattle.std.specs.Prelude.{IsSomeAnd, Contains, slice_get}
use Rattle.std.proofs.Math.Nat.{le-max_left, le-max_right}
use Rattle.std.proofs.lemmas.List.Elements.{Contains-append_left, Contains-append_right, Contains-push}
use Rattle.c_syntax_written.specs.declared.place.Pos.{Pos}
use Rattle.c_syntax.specs.declared.operator.TBinaryOp.{TBinaryOp}
use Rattle.c_syntax.specs.Types.{CTypeTree, Void, Int, Pointer, Array, Struct, Function}
use Rattle.c_syntax.specs.TypedExpr as c
use Rattle.c_syntax.specs.TypedExpr.{TExprTree, TLvalueTree, TExprTrees}
use Rattle.c_syntax.specs.TypedParts as parts
use Rattle.c_syntax.specs.TypedParts.{texpr_type, tlvalue_type, tlvalue_pos}
use Rattle.c_syntax.specs.GivenType.{given_type}
use Rattle.c_syntax.specs.Program.{TProgramTree, TFunctionTree}
use Rattle.c_layout.specs.Layout.{align_in}
use Rattle.c_layout.specs.Calls.{PlacedCall, calls_of, calls_at, calls_among}
use Rattle.c_layout.specs.RowTypes.{PointsToSize, IsScalar}
use Rattle.c_layout.specs.TypedNodes.{Scope, IsTypedExpr, IsTypedPlace, AreTyped, IsStruct, CallRow, types_of, object_type}
use Rattle.c_layout.specs.WellTyped.{IsWellTyped, IsTypedFunction}
use Rattle.c_layout.specs.MainFunction.{is_main}
use Rattle.c_layout.proofs.Given as given
use Rattle.block_mem.specs.declared.types.Scalar.{Scalar}
use Rattle.block_mem.specs.declared.types.Scalar.TheVariants as scalars
use Rattle.c_values.specs.Typed.{IsElement, binary_type}
use Rattle.c_values.specs.Values.{scalar_of}
use Rattle.c_steps_laws.specs.Wants.{to_int, to_pointer}
use Rattle.c_steps_laws.proofs.Rows.{Is, pointer_is, integer_is, scalar_is, binary_row, compound_row, step_row, unary_row, store_row}
use Rattle.c_steps_laws.proofs.Expressions.{AreSized}
use Rattle.c_steps_laws.proofs.Sizes.{all_at}
use Rattle.csharp.specs.Trees.{Nothing, Const, Null, CsProgramTree}
use Rattle.csharp.specs.Formed.{Around, in_block}
use Rattle.lower_trees.specs.Temps.{temp_at}
use Rattle.lower_trees.specs.LowerExpr.{Lowered, lowered, Args, held_scalar, is_kept, of_binary, of_convert, of_input, of_assume, of_call, of_assign_struct, lower_expr, lower_place, lower_args}
use Rattle.lower_formed.specs.Right.{Frame, Fine, FineArgs, Callable}
use Rattle.lower_formed.proofs.Terms.{good_const, good_null, nothing_right, seq_right}
use Rattle.lower_formed.proofs.Forms.{fine_void, spilled_top, fine_binary, fine_convert, fine_assign_struct, fine_input, fine_assume, fine_member}
use Rattle.lower_formed.proofs.Nodes.{FineForms, decayed_is, offset_number, plain_forms, source_forms, fine_at, fine_of, load_any, assign_any, compound_any, step_any, assert_any, unary_forms, and_forms, or_forms, cond_forms, comma_forms, fine_var}
use Rattle.lower_formed.proofs.Calling.{fine_dropped, fine_used}

value_is : (scope : Scope) (e : TExprTree) (s : Scalar) → IsTypedExpr scope true e → Is (given_type e) s → scalar_of (texpr_type e) ≡ Some s
value_is scope e s typed is = ap scalar_of (sym (given.wanted scope e typed)) ∙ is

pub binary_is : (op : TBinaryOp) (a b c d : CTypeTree) (s : Scalar) → a ≡ c → b ≡ d → Is (parts.binary_type op a b) s → Is (parts.binary_type op c d) s
binary_is op a b c d s e f is = ap (λ x. scalar_of (parts.binary_type op x d)) (sym e) ∙ ap (λ y. scalar_of (parts.binary_type op a y)) (sym f) ∙ is

is_scalar_of : (ty : CTypeTree) (s : Scalar) → Is ty s → IsScalar ty
is_scalar_of Void s e = absurd (cc)
is_scalar_of (Int t) s e = tt
is_scalar_of (Pointer to k) s e = tt
is_scalar_of (Array of k n) s e = absurd (cc)
is_scalar_of (Struct n) s e = absurd (cc)
is_scalar_of (Function n) s e = absurd (cc)

pub struct_is : (ty : CTypeTree) (k : ℕ) → ty ≡ Struct k → IsStruct ty
struct_is ty k e = subst (λ t. IsStruct t) (sym e) tt

module _ (p : TProgramTree) (ok : IsWellTyped p) (sized : AreSized p) (aligned : (ty : CTypeTree) → 1 ≤ align_in p.structs ty)
    (q : CsProgramTree) (objects : q.objects ≡ p.objects) (labels : Frame) (n : ℕ) (there : (d : ℕ) (ty : Scalar) → d < n → slice_get q.temps (temp_at d ty) ≡ Some ty) where
  abbrev pub S : List ℕ → Scope
  S live = record { program = p; live = live }

  abbrev pub CallableAt : PlacedCall → Type 0
  CallableAt k = (f : TFunctionTree) → slice_get p.functions k.callee ≡ Some f → Callable q k.callee (map (λ x. object_type p x) f.params) (scalar_of f.result)

  -- all these calls are of functions that may be called
  abbrev pub May : List PlacedCall → Type 0
  May cs = (k : PlacedCall) → Contains cs k → CallableAt k

  may_left : (xs ys : List PlacedCall) → May (xs ++ ys) → May xs
  may_left xs ys h k m = h k (Contains-append_left xs ys k m)

  may_right : (xs ys : List PlacedCall) → May (xs ++ ys) → May ys
  may_right xs ys h k m = h k (Contains-append_right xs ys k m)

  abbrev pub Covers : List ℕ → Around → Type 0
  Covers live around = (x : ℕ) → Contains live x → Contains around.live x

  abbrev pub Fits : Around → TExprTree → ℕ → Type 0
  Fits around e d = FineForms p q labels n there around (lower_expr p d e) (given_type e)

  wanted_scalar : (live : List ℕ) (e : TExprTree) → IsTypedExpr (S live) true e → scalar_of (texpr_type e) ≡ scalar_of (given_type e)
  wanted_scalar live e t = ap scalar_of (sym (given.wanted (S live) e t))

  -- ---- calls
  used_call : (around : Around) (d : ℕ) (at : Pos) (g : ℕ) (ty : CTypeTree) (f : TFunctionTree) (args : Args) (ts : List CTypeTree) → CallRow p f ty ts → IsScalar f.result ⊎ (f.result ≡ Void)
      → Callable q g (map (λ x. object_type p x) f.params) (scalar_of f.result) → (of_call d at g (scalar_of ty) (is_main p g) args).top ≤ n → FineArgs q labels around args ts
      → Fine q labels around (held_scalar ty) (of_call d at g (scalar_of ty) (is_main p g) args)
  used_call around d at g ty f args ts row (inl sc) c room h =
      let s = scalar_is f.result sc in
      let e : Is ty s.0 = ap scalar_of row.0 ∙ s.1 in
      fine_of p q labels n there around _ ty s.0 e (subst (λ z. Fine q labels around (Some s.0) (of_call d at g z (is_main p g) args)) (sym e)
      (fine_used q labels n there around d at g (is_main p g) args ts _ s.0 (subst (λ z. Callable q g (map (λ x. object_type p x) f.params) z) s.1 c) row.1
      (subst (λ z. (of_call d at g z (is_main p g) args).top ≤ n) e room) h))
  used_call around d at g ty f args ts row (inr v) c room h =
      let e : ty ≡ Void = row.0 ∙ v in
      subst (λ t. Fine q labels around (held_scalar t) (of_call d at g (scalar_of t) (is_main p g) args)) (sym e)
      (fine_dropped q labels n there around d at g (is_main p g) args ts _ (scalar_of f.result) c row.1 h)

  args_room : (o : Option Scalar) (main : Bool) (args : Args) (d : ℕ) (at : Pos) (g : ℕ) → (of_call d at g o main args).top ≤ n → args.top ≤ n
  args_room None main args d at g h = h
  args_room (Some s) true args d at g h = let x = le-max_right (suc d) args.top in omega (arith, x, h)
  args_room (Some s) false args d at g h = let x = le-max_right (suc (suc d)) args.top in omega (arith, x, h)

  call_forms : (around : Around) (d : ℕ) (at : Pos) (g : ℕ) (ty : CTypeTree) (used : Bool) (args : TExprTrees) (o : Option TFunctionTree) → slice_get p.functions g ≡ o
      → IsSomeAnd o (λ f. CallRow p f ty (types_of args)) → ((f : TFunctionTree) → slice_get p.functions g ≡ Some f → Callable q g (map (λ x. object_type p x) f.params) (scalar_of f.result))
      → ((lower_args p d args).top ≤ n → FineArgs q labels around (lower_args p d args) (types_of args)) → FineForms p q labels n there around (lower_expr p d (c.Call at g ty used args)) (given_type (c.Call at g ty used args))
  call_forms around d at g ty used args None e row may h = absurd row
  call_forms around d at g ty true args (Some f) e row may h =
      plain_forms p q labels n there around (scalar_of ty) _ ty
      (λ room. used_call around d at g ty f (lower_args p d args) (types_of args) row (all_at (IsTypedFunction p) p.functions g f ok.functions e).result (may f e) room (h (args_room (scalar_of ty) (is_main p g) (lower_args p d args) d at g room)))
      (λ sc. refl)
  call_forms around d at g ty false args (Some f) e row may h =
      plain_forms p q labels n there around (scalar_of ty) _ Void
      (λ room. fine_dropped q labels n there around d at g (is_main p g) (lower_args p d args) (types_of args) _ (scalar_of f.result) (may f e) row.1 (h room)) (λ sc. absurd sc)

  binary_rooms : (d : ℕ) (at : Pos) (kept : Bool) (op : TBinaryOp) (a b : Lowered) → (of_binary d at kept op a b).top ≤ n → (a.top ≤ n) × (b.top ≤ n)
  binary_rooms d at kept op a b h =
      let k = spilled_top q labels n there kept d (binary_type op) _ h in
      (let x = le-max_left a.top b.top in omega (arith, x, k), let x = le-max_right a.top b.top in omega (arith, x, k))

  two_rooms : (k l : ℕ) → max k l ≤ n → (k ≤ n) × (l ≤ n)
  two_rooms k l h = (let x = le-max_left k l in omega (arith, x, h), let x = le-max_right k l in omega (arith, x, h))

  behind_room : (k l : ℕ) → max k l ≤ n → l ≤ n
  behind_room k l h = let x = le-max_right k l in omega (arith, x, h)

  mutual
    unfolding IsTypedExpr calls_of types_of

    pub fine_expr : (e : TExprTree) (live : List ℕ) (wanted : Bool) (d : ℕ) → IsTypedExpr (S live) wanted e → May (calls_of e) → (around : Around) → Covers live around → Fits around e d
    fine_expr (c.Const at t k) live wanted d h may around cov =
        plain_forms p q labels n there around (Some (scalars.Int t)) (lowered Nothing (Const t k) d d) (Int t)
        (λ room. record { before = nothing_right q labels around; good = good_const q labels t k around h; is = λ s e. e }) (λ sc. refl)
    fine_expr (c.Null at ty) live wanted d (tp, pr) may around cov =
        plain_forms p q labels n there around (Some scalars.Pointer) (lowered Nothing Null d d) ty
        (λ room. fine_of p q labels n there around _ ty scalars.Pointer (pointer_is ty tp) (record { before = nothing_right q labels around; good = good_null q labels around; is = λ s e. e }))
        (λ sc. sym (pointer_is ty tp))
    fine_expr (c.Load at place) live wanted d (tl, sc) may around cov =
        let s = scalar_is (tlvalue_type place) sc in
        plain_forms p q labels n there around (scalar_of (tlvalue_type place)) _ (tlvalue_type place)
        (λ room. fine_of p q labels n there around _ (tlvalue_type place) s.0 s.1
        (load_any p q labels n there around d (tlvalue_pos place) (scalar_of (tlvalue_type place)) s.0 (lower_place p d place) s.1 room
        (fine_place place live d tl may around cov (behind_room (suc d) (lower_place p d place).top room)))) (λ x. refl)
    fine_expr (c.AddressOf at place) live wanted d tl may around cov =
        plain_forms p q labels n there around (Some scalars.Pointer) (lower_place p d place) _ (λ room. fine_place place live d tl may around cov room) (λ x. refl)
    fine_expr (c.Decay at place) live wanted d (tl, ar) may around cov =
        let e = decayed_is (tlvalue_type place) _ ar in
        plain_forms p q labels n there around (Some scalars.Pointer) (lower_place p d place) _
        (λ room. fine_of p q labels n there around _ _ scalars.Pointer e (fine_place place live d tl may around cov room)) (λ x. sym e)
    fine_expr (c.Whole at place) live wanted d (tl, st) may around cov =
        source_forms p q labels n there around (tlvalue_pos place) (lower_place p d place) (tlvalue_type place) st (λ room. fine_place place live d tl may around cov room)
    fine_expr (c.Unary at op a) live wanted d (ta, row) may around cov =
        let u = unary_row op (given_type a) row in
        unary_forms p q labels n there around d at op (scalar_of (texpr_type a)) u.a (lower_expr p d a) (given_type a) (value_is (S live) a u.a ta u.is) u.is u.operates (is_scalar_of (given_type a) u.a u.is)
        (fine_expr a live true d ta may around cov)
    fine_expr (c.Binary at op a b) live wanted d (ta, tb, row) may around cov =
        let good : CTypeTree → Type 0 = λ ty. (k : ℕ) → PointsToSize p.structs ty k → IsElement k in
        let r = binary_row p.structs good (λ ty k g e. g k e) op (given_type a) (given_type b) (sized.values (S live) true a refl ta) (sized.values (S live) true b refl tb) row in
        let la = (lower_expr p d a).value in
        let lb = (lower_expr p la.next b).value in
        let e = binary_is op (given_type a) (given_type b) (texpr_type a) (texpr_type b) (binary_type op) (given.wanted (S live) a ta) (given.wanted (S live) b tb) r.gives in
        plain_forms p q labels n there around (Some (binary_type op)) (of_binary d at (is_kept op a b) op la lb) (parts.binary_type op (texpr_type a) (texpr_type b))
        (λ room. let rooms = binary_rooms d at (is_kept op a b) op la lb room in
        fine_of p q labels n there around _ _ (binary_type op) e
        (fine_binary q labels n there around d at (is_kept op a b) la lb r.operates room
        (fine_at p q labels n there around la (given_type a) r.a r.is_left ((fine_expr a live true d ta (may_left (calls_of a) (calls_of b) may) around cov).value rooms.0))
        (fine_at p q labels n there around lb (given_type b) r.b r.is_right ((fine_expr b live true la.next tb (may_right (calls_of a) (calls_of b) may) around cov).value rooms.1)))) (λ x. sym e)
    fine_expr (c.Convert at Void a) live wanted d (ta, pr, row) may around cov =
        plain_forms p q labels n there around None (of_convert None (lower_expr p d a).value) Void
        (λ room. fine_void q labels n there around _ _ _ ((fine_expr a live false d ta may around cov).value room).before) (λ x. refl)
    fine_expr (c.Convert at (Int t) a) live wanted d (ta, pr, row) may around cov =
        let s = integer_is (given_type a) row in
        plain_forms p q labels n there around (Some (scalars.Int t)) (of_convert (Some (scalars.Int t)) (lower_expr p d a).value) (Int t)
        (λ room. fine_convert q labels n there around (lower_expr p d a).value (to_int {t = t} {u = s.0})
        (fine_at p q labels n there around _ (given_type a) (scalars.Int s.0) s.1 ((fine_expr a live true d ta may around cov).value room))) (λ x. refl)
    fine_expr (c.Convert at (Pointer to k) a) live wanted d (ta, pr, row) may around cov =
        plain_forms p q labels n there around (Some scalars.Pointer) (of_convert (Some scalars.Pointer) (lower_expr p d a).value) (Pointer to k)
        (λ room. fine_convert q labels n there around (lower_expr p d a).value to_pointer
        (fine_at p q labels n there around _ (given_type a) scalars.Pointer (pointer_is (given_type a) row) ((fine_expr a live true d ta may around cov).value room))) (λ x. refl)
    fine_expr (c.Convert at (Array x k m) a) live wanted d (ta, pr, row) may around cov = absurd row
    fine_expr (c.Convert at (Struct k) a) live wanted d (ta, pr, row) may around cov = absurd row
    fine_expr (c.Convert at (Function k) a) live wanted d (ta, pr, row) may around cov = absurd row
    fine_expr (c.Assign at place a) live wanted d (tl, ta, md, row) may around cov =
        let s = store_row (tlvalue_type place) (given_type a) row in
        let la = lower_place p d place in
        let lb = (lower_expr p la.next a).value in
        plain_forms p q labels n there around (scalar_of (tlvalue_type place)) _ (tlvalue_type place)
        (λ room. let rooms = two_rooms la.top lb.top room in
        fine_of p q labels n there around _ (tlvalue_type place) s.0 s.1
        (assign_any p q labels n there around (tlvalue_pos place) (scalar_of (tlvalue_type place)) s.0 la lb s.1 (fine_place place live d tl (may_left (calls_at place) (calls_of a) may) around cov rooms.0)
        (fine_at p q labels n there around lb (given_type a) s.0 s.2 ((fine_expr a live true la.next ta (may_right (calls_at place) (calls_of a) may) around cov).value rooms.1)))) (λ x. refl)
    fine_expr (c.AssignStruct at extent place a) live wanted d (tl, ta, md, row) may around cov =
        let la = lower_place p d place in
        let lb = (lower_expr p la.next a).source extent.size extent.align in
        let le = subst (λ z. 1 ≤ z) row.align (aligned (tlvalue_type place)) in
        source_forms p q labels n there around (tlvalue_pos place) (of_assign_struct (tlvalue_pos place) extent.size extent.align la lb) (tlvalue_type place) (struct_is (tlvalue_type place) row.number row.target_struct)
        (λ room. let rooms = two_rooms la.top lb.top room in
        fine_assign_struct q labels n there around (tlvalue_pos place) extent.size extent.align la lb le (fine_place place live d tl (may_left (calls_at place) (calls_of a) may) around cov rooms.0)
        ((fine_expr a live true la.next ta (may_right (calls_at place) (calls_of a) may) around cov).source extent.size extent.align le rooms.1 (struct_is (given_type a) row.number row.source_struct)))
    fine_expr (c.Compound at op place a) live wanted d (tl, ta, md, row) may around cov =
        let good : CTypeTree → Type 0 = λ ty. (k : ℕ) → PointsToSize p.structs ty k → IsElement k in
        let r = compound_row p.structs good (λ ty k g e. g k e) op (tlvalue_type place) (given_type a) (sized.places (S live) place refl tl) row in
        let la = lower_place p d place in
        let lb = (lower_expr p la.next a).value in
        plain_forms p q labels n there around (scalar_of (tlvalue_type place)) _ (tlvalue_type place)
        (λ room. let rooms = two_rooms la.top lb.top (behind_room (suc (suc lb.next)) (max la.top lb.top) room) in
        fine_of p q labels n there around _ (tlvalue_type place) r.place r.is_place
        (compound_any p q labels n there around at (tlvalue_pos place) (scalar_of (tlvalue_type place)) r.place la lb r.is_place r.changes room
        (fine_place place live d tl (may_left (calls_at place) (calls_of a) may) around cov rooms.0)
        (fine_at p q labels n there around lb (given_type a) r.right r.is_value ((fine_expr a live true la.next ta (may_right (calls_at place) (calls_of a) may) around cov).value rooms.1)))) (λ x. refl)
    fine_expr (c.Step at time way stride place) live wanted d (tl, md, row) may around cov =
        let good : CTypeTree → Type 0 = λ ty. (k : ℕ) → PointsToSize p.structs ty k → IsElement k in
        let r = step_row p.structs good (λ ty k g e. g k e) way stride (tlvalue_type place) (sized.places (S live) place refl tl) row in
        let la = lower_place p d place in
        plain_forms p q labels n there around (scalar_of (tlvalue_type place)) _ (tlvalue_type place)
        (λ room. fine_of p q labels n there around _ (tlvalue_type place) r.place r.is_place
        (step_any p q labels n there around at (tlvalue_pos place) (scalar_of (tlvalue_type place)) r.place time way stride la r.is_place r.is_one r.changes room
        (fine_place place live d tl may around cov (behind_room (suc (suc la.next)) la.top room)))) (λ x. refl)
    fine_expr (c.And at a b) live wanted d (ta, tb, row) may around cov =
        and_forms p q labels n there around d at (lower_expr p d a) (lower_expr p d b) (given_type a) (given_type b) row.0 row.1
        (λ levels. fine_expr a live true d ta (may_left (calls_of a) (calls_of b) may) (record around { exits = levels }) cov)
        (λ levels. fine_expr b live true d tb (may_right (calls_of a) (calls_of b) may) (record around { exits = levels }) cov)
    fine_expr (c.Or at a b) live wanted d (ta, tb, row) may around cov =
        or_forms p q labels n there around d at (lower_expr p d a) (lower_expr p d b) (given_type a) (given_type b) row.0 row.1
        (λ levels. fine_expr a live true d ta (may_left (calls_of a) (calls_of b) may) (record around { exits = levels }) cov)
        (λ levels. fine_expr b live true d tb (may_right (calls_of a) (calls_of b) may) (record around { exits = levels }) cov)
    fine_expr (c.Cond at ty t a b) live wanted d (tt', ta, tb, pr, row) may around cov =
        let front = may_left (calls_of t ++ calls_of a) (calls_of b) may in
        cond_forms p q labels n there around d (lower_expr p d t) (lower_expr p d a) (lower_expr p d b) (given_type t) (given_type a) (given_type b) row.condition_scalar
        (λ levels. fine_expr t live true d tt' (may_left (calls_of t) (calls_of a) front) (record around { exits = levels }) cov)
        (λ levels. fine_expr a live true d ta (may_right (calls_of t) (calls_of a) front) (record around { exits = levels }) cov)
        (λ levels. fine_expr b live true d tb (may_right (calls_of t ++ calls_of a) (calls_of b) may) (record around { exits = levels }) cov)
        at ty row.kind row.first_type row.second_type
    fine_expr (c.Comma at a b) live wanted d (ta, tb) may around cov =
        comma_forms p q labels n there around (scalar_of (texpr_type b)) (held_scalar (given_type a)) (lower_expr p d a).value (lower_expr p d b) (given_type b)
        (λ room. (fine_expr a live false d ta (may_left (calls_of a) (calls_of b) may) around cov).value room)
        (fine_expr b live true d tb (may_right (calls_of a) (calls_of b) may) around cov) (λ sc. wanted_scalar live b tb)
    fine_expr (c.Call at g ty used args) live wanted d (mark, ta, there') may around cov =
        call_forms around d at g ty used args (slice_get p.functions g) refl there'
        (may (record { pos = at; callee = g }) (Contains-push (calls_among args) (record { pos = at; callee = g })))
        (λ room. fine_args args live d ta (may_left (calls_among args) (record { pos = at; callee = g } ∷ []) may) around cov room)
    fine_expr (c.Any at t) live wanted d h may around cov =
        plain_forms p q labels n there around (Some (scalars.Int t)) (of_input d t) (Int t) (λ room. fine_input q labels n there around d t room) (λ x. refl)
    fine_expr (c.Assume at a) live wanted d (ta, sc) may around cov =
        plain_forms p q labels n there around None (of_assume d at (lower_expr p d a)) Void
        (λ room. fine_assume q labels n there around d at (lower_expr p d a) ((fine_expr a live true d ta may (in_block (in_block around)) cov).unless room sc at 0 (omega arith))) (λ x. refl)
    fine_expr (c.Assert at a) live wanted d (ta, sc) may around cov =
        let s = scalar_is (given_type a) sc in
        plain_forms p q labels n there around None _ Void
        (λ room. assert_any p q labels n there around d at (scalar_of (texpr_type a)) s.0 (lower_expr p d a).value (value_is (S live) a s.0 ta s.1)
        (fine_at p q labels n there around _ (given_type a) s.0 s.1 ((fine_expr a live true d ta may around cov).value room))) (λ x. refl)

    pub fine_place : (place : TLvalueTree) (live : List ℕ) (d : ℕ) → IsTypedPlace (S live) place → May (calls_at place) → (around : Around) → Covers live around → (lower_place p d place).top ≤ n
        → Fine q labels around (Some scalars.Pointer) (lower_place p d place)
    fine_place (c.Var at x ty k) live d h may around cov room = fine_var p q labels n there live around d x ty k objects h (cov x)
    fine_place (c.Deref at kind ty k e) live d (te, row) may around cov room =
        fine_at p q labels n there around _ (given_type e) scalars.Pointer (ap scalar_of row.target) ((fine_expr e live true d te may around cov).value room)
    fine_place (c.Member at k offset ty is_const place) live d (tl, row) may around cov room =
        fine_member q labels n there around at offset (lower_place p d place) (offset_number p.structs ok.structs ty (tlvalue_type place) k offset _ is_const row) (fine_place place live d tl may around cov room)

    pub fine_args : (args : TExprTrees) (live : List ℕ) (d : ℕ) → AreTyped (S live) args → May (calls_among args) → (around : Around) → Covers live around → (lower_args p d args).top ≤ n
        → FineArgs q labels around (lower_args p d args) (types_of args)
    fine_args c.none live d h may around cov room = record { before = nothing_right q labels around; good = tt; typed = tt }
    fine_args (c.more e rest) live d (te, tm) may around cov room =
        let la = (lower_expr p d e).value in
        let rooms = two_rooms la.top (lower_args p la.next rest).top room in
        let first = (fine_expr e live true d te (may_left (calls_of e) (calls_among rest) may) around cov).value rooms.0 in
        let more = fine_args rest live la.next tm (may_right (calls_of e) (calls_among rest) may) around cov rooms.1 in
        record { before = seq_right q labels around la.before (lower_args p la.next rest).before first.before more.before; good = (first.good, more.good); typed = (first.is, more.typed) }
