-- The checks of each typed expression, in all its uses, are made at its sites, and look at what stands there.
use Rattle.std.proofs.Common.{◌≡◌, ℕ, suc, List, [], ◌∷◌, ◌++◌, Some, None, Bool, true, false, max, refl, sym, subst}
use Rattle.c_syntax_written.specs.declared.place.Pos.{Pos}
use Rattle.c_syntax_written.specs.declared.step.StepWay.{StepWay}
use Rattle.c_syntax_written.specs.declared.step.StepWay.TheVariants as ways
use Rattle.c_syntax.specs.declared.alarm.WrongKind.TheVariants as kinds
use Rattle.c_syntax.specs.declared.operator.Stride.{Stride}
use Rattle.c_syntax.specs.declared.operator.Stride.TheVariants as strides
use Rattle.c_syntax.specs.declared.operator.TUnaryOp.{TUnaryOp}
use Rattle.c_syntax.specs.declared.operator.TUnaryOp.TheVariants as unaries
use Rattle.c_syntax.specs.declared.operator.TBinaryOp.{TBinaryOp}
use Rattle.c_syntax.specs.declared.operator.TBinaryOp.TheVariants as binaries
use Rattle.c_syntax.specs.Types.{CTypeTree, Pointer}
use Rattle.c_syntax.specs.TypedExpr as c
use Rattle.c_syntax.specs.TypedExpr.{TExprTree, TLvalueTree, TExprTrees}
use Rattle.c_syntax.specs.TypedParts.{texpr_type, tlvalue_pos, tlvalue_type}
use Rattle.c_syntax.specs.GivenType.{given_type}
use Rattle.c_syntax.specs.Program.{StructDefTree, TProgramTree}
use Rattle.c_layout.specs.Checks.{plain_check, test_checks, load_checks, store_checks, write_checks}
use Rattle.c_layout.specs.MainFunction.{is_main}
use Rattle.c_layout.specs.RowTypes.{CompoundRow}
use Rattle.c_layout.specs.TypedNodes.{Scope, IsTypedExpr, IsTypedPlace, AreTyped}
use Rattle.c_sites.specs.Sites.{InObject, OneOperand, Callee, Site, site, element_in, binary_subject, place_subject, pointer_subject, array_subject, sites_of, sites_at, sites_among}
use Rattle.block_mem.specs.declared.types.Scalar.{Scalar}
use Rattle.block_mem.specs.declared.types.Scalar.TheVariants as scalars
use Rattle.c_values.specs.Typed.{unary_type, binary_type}
use Rattle.c_values.specs.Values.{plain_type, scalar_of}
use Rattle.c_steps.specs.Changes.{step_operator}
use Rattle.csharp.specs.Trees.{CsExprTree, Const, Null, Binary, CsStmtTree, Nothing, Load, Store, CopyBytes, Assume, Sequence}
use Rattle.lower_trees.specs.Temps.{temp_at}
use Rattle.lower_trees.specs.Checking.{load_type}
use Rattle.lower_trees.specs.LowerExpr.{lowered, number, held_scalar, place_scalar, spilled, is_array_use, is_kept, wanted, step_one, of_load, of_unary, of_binary, of_convert, of_assign, of_assign_struct, of_compound, of_step, of_cond, of_call, of_input, of_assume, of_assert, behind, unless_and, unless_or, lower_expr, lower_place, lower_args}
use Rattle.lower_sites_laws.specs.Looks.{Looks}
use Rattle.lower_sites_laws.proofs.Parts as parts
use Rattle.lower_sites_laws.proofs.Parts.{moved_looks, element_looks}

-- an operator of `op=` looks at one operand
compound_single : (structs : List StructDefTree) (op : TBinaryOp) (target value : CTypeTree) → CompoundRow structs op target value → binary_subject op OneOperand ≡ OneOperand
compound_single structs (binaries.Arithmetic op t) target value row = refl
compound_single structs (binaries.Shift way t) target value row = refl
compound_single structs (binaries.CompareInts k t) target value row = refl
compound_single structs (binaries.ComparePointers k) target value row = absurd row
compound_single structs (binaries.PointerPlusInt n) target value row = refl
compound_single structs (binaries.IntPlusPointer n) target value row = refl
compound_single structs (binaries.PointerMinusInt n) target value row = refl
compound_single structs (binaries.PointerMinusPointer n) target value row = absurd row

step_single : (way : StepWay) (stride : Stride) → binary_subject (step_operator way stride) OneOperand ≡ OneOperand
step_single ways.Up (strides.Int t) = refl
step_single ways.Up (strides.Element n) = refl
step_single ways.Down (strides.Int t) = refl
step_single ways.Down (strides.Element n) = refl

-- an array's element is moved to in its value; what is no array's looks at one operand
added_looks : (left : TExprTree) (n d : ℕ) (ty : Scalar) (before : CsStmtTree) (a b : CsExprTree) (next top : ℕ) → Looks (array_subject left) (a ∷ [])
    → Looks (array_subject left) ((spilled (is_array_use left) d ty (lowered before (Binary (binaries.PointerPlusInt n) a b) next top)).value ∷ [])
unfolding array_subject
added_looks (c.Decay at place) n d ty before a b next top h = moved_looks (element_in (place_subject place)) n a b h
added_looks _ n d ty before a b next top h = tt

module _ (all : List Site) (p : TProgramTree) where
  abbrev pub S : List ℕ → Scope
  S live = record { program = p; live = live }

  abbrev F : TExprTree → ℕ → Type 0
  F e d = parts.SitedForms all (lower_expr p d e)

  abbrev E : CsStmtTree → Type 0
  E a = parts.E all a

  abbrev W : List Site → Type 0
  W xs = parts.Within all xs

  -- ---- what places look at
  mutual
    unfolding IsTypedExpr place_subject pointer_subject array_subject

    pub place_looks : (x : TLvalueTree) (live : List ℕ) (d : ℕ) → IsTypedPlace (S live) x → Looks (place_subject x) ((lower_place p d x).value ∷ [])
    place_looks (c.Var at x ty k) live d h = refl
    place_looks (c.Deref at kind ty k e) live d (te, row) = pointer_looks e live true d ty k te row.target
    place_looks (c.Member at k offset ty is_const x) live d (tx, row) = moved_looks (place_subject x) 1 (lower_place p d x).value _ (place_looks x live d tx)

    pointer_looks : (e : TExprTree) (live : List ℕ) (mark : Bool) (d : ℕ) (ty : CTypeTree) (k : Bool) → IsTypedExpr (S live) mark e → given_type e ≡ Pointer ty k
        → Looks (pointer_subject e) ((lower_expr p d e).value.value ∷ [])
    pointer_looks (c.Binary at (binaries.PointerPlusInt n) a b) live mark d ty k (ta, tb, row) is =
        let la = (lower_expr p d a).value in
        let lb = (lower_expr p la.next b).value in
        added_looks a n d (binary_type (binaries.PointerPlusInt n)) _ la.value lb.value lb.next (max la.top lb.top) (array_looks a live true d ta)
    pointer_looks (c.Binary at (binaries.Arithmetic op t) a b) live mark d ty k h is = tt
    pointer_looks (c.Binary at (binaries.Shift way t) a b) live mark d ty k h is = tt
    pointer_looks (c.Binary at (binaries.CompareInts q t) a b) live mark d ty k h is = tt
    pointer_looks (c.Binary at (binaries.ComparePointers q) a b) live mark d ty k h is = absurd (cc)
    pointer_looks (c.Binary at (binaries.IntPlusPointer n) a b) live mark d ty k h is = tt
    pointer_looks (c.Binary at (binaries.PointerMinusInt n) a b) live mark d ty k h is = tt
    pointer_looks (c.Binary at (binaries.PointerMinusPointer n) a b) live mark d ty k h is = absurd (cc)
    pointer_looks _ live mark d ty k h is = tt

    pub array_looks : (e : TExprTree) (live : List ℕ) (mark : Bool) (d : ℕ) → IsTypedExpr (S live) mark e → Looks (array_subject e) ((lower_expr p d e).value.value ∷ [])
    array_looks (c.Decay at x) live mark d (tx, row) = element_looks (place_subject x) (lower_place p d x).value (place_looks x live d tx)
    array_looks _ live mark d h = tt

  -- where a place stands
  place_here : (x : TLvalueTree) → W (sites_at x) → parts.Here all (tlvalue_pos x) (place_subject x)
  unfolding sites_at place_subject
  place_here (c.Var at x ty k) w = parts.head all (site at (InObject x false)) [] w
  place_here (c.Deref at kind ty k e) w = parts.head all (site at (pointer_subject e)) (sites_of e) w
  place_here (c.Member at k offset ty is_const x) w = parts.head all (site at (place_subject x)) (sites_at x) w

  -- ---- `!`, `&&` and `||`
  op_sited : (d : ℕ) (at : Pos) (op : TUnaryOp) (a : TExprTree) → parts.Here all at OneOperand → F a d → F (c.Unary at op a) d
  op_sited d at unaries.Not a here m = record {
    value = parts.unary_sited all d at unaries.Not (scalar_of (texpr_type a)) (lower_expr p d a).value m.value here;
    unless = λ from k there. m.when at k here;
    when = λ from k there. m.unless at k here;
    source = λ size align. parts.unary_sited all d at unaries.Not (scalar_of (texpr_type a)) (lower_expr p d a).value m.value here;
  }
  op_sited d at (unaries.Plus t) a here m = parts.plain_sited all (Some (unary_type (unaries.Plus t))) (of_unary d at (unaries.Plus t) (scalar_of (texpr_type a)) (lower_expr p d a).value)
      (parts.unary_sited all d at (unaries.Plus t) (scalar_of (texpr_type a)) (lower_expr p d a).value m.value here)
  op_sited d at (unaries.Minus t) a here m = parts.plain_sited all (Some (unary_type (unaries.Minus t))) (of_unary d at (unaries.Minus t) (scalar_of (texpr_type a)) (lower_expr p d a).value)
      (parts.unary_sited all d at (unaries.Minus t) (scalar_of (texpr_type a)) (lower_expr p d a).value m.value here)
  op_sited d at (unaries.Complement t) a here m =
      parts.plain_sited all (Some (unary_type (unaries.Complement t))) (of_unary d at (unaries.Complement t) (scalar_of (texpr_type a)) (lower_expr p d a).value)
      (parts.unary_sited all d at (unaries.Complement t) (scalar_of (texpr_type a)) (lower_expr p d a).value m.value here)

  and_sited : (d : ℕ) (at : Pos) (a b : TExprTree) → parts.Here all at OneOperand → F a d → F b d → F (c.And at a b) d
  and_sited d at a b here ma mb =
      let la = lower_expr p d a in
      let lb = lower_expr p d b in
      let un = λ (k : ℕ). parts.seq all (la.unless at k) (lb.unless at k) (ma.unless at k here) (mb.unless at k here) in
      let wh = λ (k : ℕ). parts.block all (Sequence (la.unless at 0) (lb.when at (suc k))) (parts.seq all (la.unless at 0) (lb.when at (suc k)) (ma.unless at 0 here) (mb.when at (suc k) here)) in
      let bit = parts.branches all (unless_and at la lb at 0) _ _ (un 0) (record { is = tt }) (record { is = tt }) in
      record { value = bit; unless = λ from k there. un k; when = λ from k there. wh k; source = λ size align. bit }

  or_sited : (d : ℕ) (at : Pos) (a b : TExprTree) → parts.Here all at OneOperand → F a d → F b d → F (c.Or at a b) d
  or_sited d at a b here ma mb =
      let la = lower_expr p d a in
      let lb = lower_expr p d b in
      let un = λ (k : ℕ). parts.block all (Sequence (la.when at 0) (lb.unless at (suc k))) (parts.seq all (la.when at 0) (lb.unless at (suc k)) (ma.when at 0 here) (mb.unless at (suc k) here)) in
      let wh = λ (k : ℕ). parts.seq all (la.when at k) (lb.when at k) (ma.when at k here) (mb.when at k here) in
      let bit = parts.branches all (unless_or at la lb at 0) _ _ (un 0) (record { is = tt }) (record { is = tt }) in
      record { value = bit; unless = λ from k there. un k; when = λ from k there. wh k; source = λ size align. bit }

  mutual
    unfolding IsTypedExpr sites_of

    pub sited_expr : (e : TExprTree) (live : List ℕ) (mark : Bool) (d : ℕ) → IsTypedExpr (S live) mark e → W (sites_of e) → F e d
    sited_expr (c.Const at t k) live mark d h w = parts.plain_sited all (Some (scalars.Int t)) (lowered Nothing (Const t k) d d) (record { is = tt })
    sited_expr (c.Null at ty) live mark d h w = parts.plain_sited all (Some scalars.Pointer) (lowered Nothing Null d d) (record { is = tt })
    sited_expr (c.Load at x) live mark d (tx, sc) w =
        let a = lower_place p d x in
        let ty = place_scalar x in
        parts.plain_sited all (scalar_of (tlvalue_type x)) (of_load d (tlvalue_pos x) ty a)
        (parts.seq all a.before _ (sited_place x live d tx w)
        (parts.seq all _ (Load (temp_at d ty) ty a.value)
        (parts.listed all (tlvalue_pos x) (place_subject x) (place_here x w) (λ k. load_type ty k.kind) (λ k. a.value ∷ []) (λ k. place_looks x live d tx) (load_checks (plain_type (Some ty)))) (record { is = tt })))
    sited_expr (c.AddressOf at x) live mark d tx w = parts.plain_sited all (Some scalars.Pointer) (lower_place p d x) (sited_place x live d tx w)
    sited_expr (c.Decay at x) live mark d (tx, ar) w = parts.plain_sited all (Some scalars.Pointer) (lower_place p d x) (sited_place x live d tx w)
    sited_expr (c.Whole at x) live mark d (tx, st) w =
        parts.source_sited all (tlvalue_pos x) (place_subject x) (place_here x w) (lower_place p d x) (place_looks x live d tx) (sited_place x live d tx w)
    sited_expr (c.Unary at op a) live mark d (ta, row) w =
        op_sited d at op a (parts.head all (site at OneOperand) (sites_of a) w) (sited_expr a live true d ta (parts.rest all (site at OneOperand) (sites_of a) w))
    sited_expr (c.Binary at op a b) live mark d (ta, tb, row) w =
        let la = (lower_expr p d a).value in
        let lb = (lower_expr p la.next b).value in
        let this = site at (binary_subject op (array_subject a)) in
        let v = parts.rest all this (sites_of a ++ sites_of b) w in
        parts.plain_sited all (Some (binary_type op)) (of_binary d at (is_kept op a b) op la lb)
        (parts.binary_sited all d at (is_kept op a b) op (array_subject a) la lb (array_looks a live true d ta)
        (sited_expr a live true d ta (parts.left all (sites_of a) (sites_of b) v)).value
        (sited_expr b live true la.next tb (parts.right all (sites_of a) (sites_of b) v)).value
        (parts.head all this (sites_of a ++ sites_of b) w))
    sited_expr (c.Convert at ty a) live mark d (ta, pr, row) w =
        parts.plain_sited all (scalar_of ty) (of_convert (scalar_of ty) (lower_expr p d a).value) (parts.convert_sited all (scalar_of ty) (lower_expr p d a).value (sited_expr a live _ d ta w).value)
    sited_expr (c.Assign at x a) live mark d (tx, ta, md, row) w =
        let la = lower_place p d x in
        let lb = (lower_expr p la.next a).value in
        let ty = place_scalar x in
        let wx = parts.left all (sites_at x) (sites_of a) w in
        parts.plain_sited all (scalar_of (tlvalue_type x)) (of_assign (tlvalue_pos x) ty la lb)
        (parts.seq all la.before _ (sited_place x live d tx wx)
        (parts.seq all lb.before _ (sited_expr a live true la.next ta (parts.right all (sites_at x) (sites_of a) w)).value
        (parts.seq all _ (Store ty la.value lb.value)
        (parts.listed all (tlvalue_pos x) (place_subject x) (place_here x wx) (λ k. None) (λ k. la.value ∷ []) (λ k. place_looks x live d tx) (store_checks (plain_type (Some ty)))) (record { is = tt }))))
    sited_expr (c.AssignStruct at extent x a) live mark d (tx, ta, md, row) w =
        let la = lower_place p d x in
        let lb = (lower_expr p la.next a).source extent.size extent.align in
        let wx = parts.left all (sites_at x) (sites_of a) w in
        parts.source_sited all (tlvalue_pos x) (place_subject x) (place_here x wx) (of_assign_struct (tlvalue_pos x) extent.size extent.align la lb) (place_looks x live d tx)
        (parts.seq all la.before _ (sited_place x live d tx wx)
        (parts.seq all lb.before _ ((sited_expr a live true la.next ta (parts.right all (sites_at x) (sites_of a) w)).source extent.size extent.align)
        (parts.seq all _ (CopyBytes extent.size la.value lb.value)
        (parts.listed all (tlvalue_pos x) (place_subject x) (place_here x wx) (λ k. None) (λ k. la.value ∷ []) (λ k. place_looks x live d tx) (write_checks extent.size extent.align)) (record { is = tt }))))
    sited_expr (c.Compound at op x a) live mark d (tx, ta, md, row) w =
        let la = lower_place p d x in
        let lb = (lower_expr p la.next a).value in
        let ty = place_scalar x in
        let this = site at OneOperand in
        let v = parts.rest all this (sites_at x ++ sites_of a) w in
        let wx = parts.left all (sites_at x) (sites_of a) v in
        let here = subst (λ s. parts.Here all at s) (sym (compound_single p.structs op (tlvalue_type x) (given_type a) row)) (parts.head all this (sites_at x ++ sites_of a) w) in
        parts.plain_sited all (scalar_of (tlvalue_type x)) (of_compound at (tlvalue_pos x) ty op la lb)
        (parts.seq all _ _
        (parts.seq all la.before lb.before (sited_place x live d tx wx) (sited_expr a live true la.next ta (parts.right all (sites_at x) (sites_of a) v)).value)
        (parts.change_sited all at (tlvalue_pos x) (place_subject x) ty op lb.next la.value lb.value (place_looks x live d tx) (place_here x wx) here))
    sited_expr (c.Step at time way stride x) live mark d (tx, md, row) w =
        let la = lower_place p d x in
        let ty = place_scalar x in
        let this = site at OneOperand in
        let wx = parts.rest all this (sites_at x) w in
        let here = subst (λ s. parts.Here all at s) (sym (step_single way stride)) (parts.head all this (sites_at x) w) in
        parts.plain_sited all (scalar_of (tlvalue_type x)) (of_step at (tlvalue_pos x) ty time way stride la)
        (parts.seq all la.before _ (sited_place x live d tx wx)
        (parts.change_sited all at (tlvalue_pos x) (place_subject x) ty (step_operator way stride) la.next la.value (step_one stride) (place_looks x live d tx) (place_here x wx) here))
    sited_expr (c.And at a b) live mark d (ta, tb, row) w =
        let this = site at OneOperand in
        let v = parts.rest all this (sites_of a ++ sites_of b) w in
        and_sited d at a b (parts.head all this (sites_of a ++ sites_of b) w) (sited_expr a live true d ta (parts.left all (sites_of a) (sites_of b) v))
        (sited_expr b live true d tb (parts.right all (sites_of a) (sites_of b) v))
    sited_expr (c.Or at a b) live mark d (ta, tb, row) w =
        let this = site at OneOperand in
        let v = parts.rest all this (sites_of a ++ sites_of b) w in
        or_sited d at a b (parts.head all this (sites_of a ++ sites_of b) w) (sited_expr a live true d ta (parts.left all (sites_of a) (sites_of b) v))
        (sited_expr b live true d tb (parts.right all (sites_of a) (sites_of b) v))
    sited_expr (c.Cond at ty t a b) live mark d (tt', ta, tb, pr, row) w =
        let this = site at OneOperand in
        let v = parts.rest all this (sites_of t ++ (sites_of a ++ sites_of b)) w in
        let u = parts.right all (sites_of t) (sites_of a ++ sites_of b) v in
        let mt = sited_expr t live true d tt' (parts.left all (sites_of t) (sites_of a ++ sites_of b) v) in
        let ma = sited_expr a live true d ta (parts.left all (sites_of a) (sites_of b) u) in
        let mb = sited_expr b live true d tb (parts.right all (sites_of a) (sites_of b) u) in
        let lt = lower_expr p d t in
        let la = lower_expr p d a in
        let lb = lower_expr p d b in
        let test = mt.unless at 0 (parts.head all this (sites_of t ++ (sites_of a ++ sites_of b)) w) in
        let plain = parts.plain_sited all (held_scalar ty) (of_cond d (held_scalar ty) (lt.unless at 0) lt.value.top la.value lb.value)
        (parts.cond_sited all d (held_scalar ty) (lt.unless at 0) lt.value.top la.value lb.value test ma.value mb.value) in
        record {
          value = plain.value;
          unless = plain.unless;
          when = plain.when;
          source = λ size align.
              parts.cond_sited all d (Some scalars.Pointer) (lt.unless at 0) lt.value.top (la.source size align) (lb.source size align) test (ma.source size align) (mb.source size align);
        }
    sited_expr (c.Comma at a b) live mark d (ta, tb) w =
        let ma = sited_expr a live false d ta (parts.left all (sites_of a) (sites_of b) w) in
        let mb = sited_expr b live true d tb (parts.right all (sites_of a) (sites_of b) w) in
        let la = (lower_expr p d a).value in
        let lb = lower_expr p d b in
        let plain = parts.plain_sited all (scalar_of (texpr_type b)) (behind la lb.value) (parts.seq all la.before lb.value.before ma.value mb.value) in
        record {
          value = plain.value;
          unless = plain.unless;
          when = plain.when;
          source = λ size align. parts.seq all la.before (lb.source size align).before ma.value (mb.source size align);
        }
    sited_expr (c.Call at g ty used args) live mark d (same, ta, there) w =
        let args_of = lower_args p d args in
        let this = site at (Callee g) in
        parts.plain_sited all (scalar_of ty) (of_call d at g (wanted used ty) (is_main p g) args_of)
        (parts.call_sited all d at g (wanted used ty) (is_main p g) args_of (sited_args args live d ta (parts.rest all this (sites_among args) w)) (parts.head all this (sites_among args) w))
    sited_expr (c.Any at t) live mark d h w = parts.plain_sited all (Some (scalars.Int t)) (of_input d t) (record { is = tt })
    sited_expr (c.Assume at a) live mark d (ta, sc) w =
        let this = site at OneOperand in
        parts.plain_sited all None (of_assume d at (lower_expr p d a))
        (parts.branches all _ Nothing (Assume (number 0)) ((sited_expr a live true d ta (parts.rest all this (sites_of a) w)).unless at 0 (parts.head all this (sites_of a) w)) (record { is = tt }) (record { is = tt }))
    sited_expr (c.Assert at a) live mark d (ta, sc) w =
        let la = (lower_expr p d a).value in
        let this = site at OneOperand in
        parts.plain_sited all None (of_assert d at (scalar_of (texpr_type a)) la)
        (parts.seq all la.before _ (sited_expr a live true d ta (parts.rest all this (sites_of a) w)).value
        (parts.listed all at OneOperand (parts.head all this (sites_of a) w) (λ k. None) (λ k. la.value ∷ []) (λ k. tt) (test_checks (plain_type (scalar_of (texpr_type a))) ++ plain_check kinds.AssertFailed ∷ [])))

    pub sited_place : (x : TLvalueTree) (live : List ℕ) (d : ℕ) → IsTypedPlace (S live) x → W (sites_at x) → E (lower_place p d x).before
    sited_place (c.Var at x ty k) live d h w = record { is = tt }
    sited_place (c.Deref at kind ty k e) live d (te, row) w = (sited_expr e live true d te (parts.rest all (site at (pointer_subject e)) (sites_of e) w)).value
    sited_place (c.Member at k offset ty is_const x) live d (tx, row) w =
        let a = lower_place p d x in
        let this = site at (place_subject x) in
        let looks = place_looks x live d tx in
        parts.seq all a.before _ (sited_place x live d tx (parts.rest all this (sites_at x) w)) (parts.member_sited all at (place_subject x) (parts.head all this (sites_at x) w) a.value offset looks)

    pub sited_args : (args : TExprTrees) (live : List ℕ) (d : ℕ) → AreTyped (S live) args → W (sites_among args) → E (lower_args p d args).before
    sited_args c.none live d h w = record { is = tt }
    sited_args (c.more e rest) live d (te, tr) w =
        let la = (lower_expr p d e).value in
        parts.seq all la.before _ (sited_expr e live true d te (parts.left all (sites_of e) (sites_among rest) w)).value
        (sited_args rest live la.next tr (parts.right all (sites_of e) (sites_among rest) w))
