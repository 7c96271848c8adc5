-- The rows of expressions in a typed run.
use Rattle.std.proofs.Common.{◌≡◌, inl, inr, ℕ, ℤ, Bool, true, false, List, [], ◌∷◌, length, Some, refl, sym, ap, ◌∙◌, subst}
use Rattle.c_syntax_written.specs.declared.int_type.IntType.{IntType}
use Rattle.c_syntax_written.specs.declared.place.Pos.{Pos}
use Rattle.c_syntax.specs.declared.operator.TBinaryOp.{TBinaryOp}
use Rattle.c_syntax.specs.Types.{CTypeTree, Void, Int, Pointer, Array, Struct, Function}
use Rattle.c_syntax.specs.TypedExpr.{TExprTree, Const, Null, Load, AddressOf, Decay, Whole, Unary, Binary, Convert, Assign, AssignStruct, Compound, Step, And, Or, Cond, Comma, Call, Any, Assume, Assert, TLvalueTree, TExprTrees}
use Rattle.c_syntax.specs.TypedParts as parts
use Rattle.c_syntax.specs.TypedParts.{texpr_type, tlvalue_type}
use Rattle.c_syntax.specs.GivenType.{given_type}
use Rattle.c_syntax.specs.Program.{TProgramTree}
use Rattle.c_layout.specs.RowTypes.{PointsToSize, BinaryRow, CompoundRow, StepRow}
use Rattle.c_layout.specs.TypedNodes.{Scope, IsTypedExpr, IsTypedPlace}
use Rattle.c_layout.proofs.Given as given
use Rattle.block_mem.specs.declared.types.Scalar.{Scalar}
use Rattle.block_mem.specs.declared.types.Scalar.TheVariants as scalars
use Rattle.c_values.specs.Places.{ObjectMemory}
use Rattle.c_values.specs.Typed.{IsElement}
use Rattle.c_values.specs.Values.{scalar_of}
use Rattle.c_values.proofs.Settled.{wrapped_is_of}
use Rattle.c_steps.specs.Work.{Item}
use Rattle.c_steps.specs.States.{Held}
use Rattle.c_steps.specs.Expressions.{eval_step, input_step}
use Rattle.c_steps_laws.specs.Wants.{Want, Of, want_of, is_value, Stacked, on_top, to_int, to_pointer}
use Rattle.c_steps_laws.specs.Surroundings.{scope_at}
use Rattle.c_steps_laws.specs.Takes.{Takes, eval, addr, load, store, named, copy, modify, step_at, un, bin, convert, to_void, and_then, or_else, pick, keep, sure, drop}
use Rattle.c_steps_laws.specs.Opens.{Use, Opens, OpensCall}
use Rattle.c_steps_laws.specs.Fits.{AreLive, IsReady, Parted}
use Rattle.c_steps_laws.proofs.Rows.{Is, pointer_is, integer_is, scalar_is, same_want, want_is, struct_want, decays, binary_row, compound_row, step_row, unary_row, store_row}
use Rattle.c_steps_laws.proofs.Rules.{On, fit, as_top, as_two}
use Rattle.c_steps_laws.proofs.Kept.{KeepsIn}

-- the types of expressions and places point to elements that are as large as may be
pub record AreSized (p : TProgramTree) : Type 0 where
  pub values : (scope : Scope) (wanted : Bool) (e : TExprTree) → scope.program ≡ p → IsTypedExpr scope wanted e → (n : ℕ) → PointsToSize p.structs (given_type e) n → IsElement n
  pub places : (scope : Scope) (place : TLvalueTree) → scope.program ≡ p → IsTypedPlace scope place → (n : ℕ) → PointsToSize p.structs (tlvalue_type place) n → IsElement n

-- the scalar of a value that is wanted
value_is : (scope : Scope) (e : TExprTree) (s : Scalar) → IsTypedExpr scope true e → Is (given_type e) s → scalar_of (texpr_type e) ≡ Some s
value_is scope e s typed is = ap scalar_of (sym (given.wanted scope e typed)) ∙ is

binary_want : (op : TBinaryOp) (a b c d : CTypeTree) (s : Scalar) → a ≡ c → b ≡ d → Is (parts.binary_type op a b) s → want_of (parts.binary_type op c d) ≡ Of s
binary_want op a b c d s e f is = ap (λ x. want_of (parts.binary_type op x d)) (sym e) ∙ ap (λ y. want_of (parts.binary_type op a y)) (sym f) ∙ want_is (parts.binary_type op a b) s is

module _ (p : TProgramTree) where
  input_after : (t : IntType) (r : CTypeTree) (w : List Item) (s : List Held) (m : ObjectMemory) (i : List ℤ) (ts : List Want) → Takes p r w (Of (scalars.Int t) ∷ ts)
      → Stacked (length m.blocks) ts s → Parted (OpensCall p) p w → AreLive p w m → KeepsIn p m → On p (input_step t w s m i)
  input_after t r w s m [] ts k d q l h = tt
  input_after t r w s m (v ∷ i) ts k d q l h = fit p r w _ m i _ k (on_top (is_value (refl, wrapped_is_of t v) tt) d) q l h

  abbrev pub CallRows : Type 0
  CallRows = (at : Pos) (g : ℕ) (ty : CTypeTree) (used : Bool) (args : TExprTrees) (wanted : Bool) (r : CTypeTree) (w : List Item) (ts : List Want)
      → IsTypedExpr (scope_at p r w) wanted (Call at g ty used args) → Takes p r w (want_of (given_type (Call at g ty used args)) ∷ ts) → (s : List Held) (m : ObjectMemory)
      (i : List ℤ) → Stacked (length m.blocks) ts s → ((y : Use) → Opens (OpensCall p) (Call at g ty used args) y → IsReady p w y) → Parted (OpensCall p) p w
      → AreLive p w m → KeepsIn p m → On p (eval_step p (Call at g ty used args) w s m i)

  pub eval_row : AreSized p → CallRows → (e : TExprTree) (wanted : Bool) (r : CTypeTree) (w : List Item) (ts : List Want) → (scope_at p r w).program ≡ p
      → IsTypedExpr (scope_at p r w) wanted e → Takes p r w (want_of (given_type e) ∷ ts) → (s : List Held) (m : ObjectMemory) (i : List ℤ)
      → Stacked (length m.blocks) ts s → ((y : Use) → Opens (OpensCall p) e y → IsReady p w y) → Parted (OpensCall p) p w → AreLive p w m → KeepsIn p m
      → On p (eval_step p e w s m i)
  unfolding IsTypedExpr
  eval_row sized calls (Const at ty v) wanted r w ts z t k s m i d f q l h = fit p r w _ m i _ k (on_top (is_value (refl, t) tt) d) q l h
  eval_row sized calls (Null at ty) wanted r w ts z (tp, pr) k s m i d f q l h =
      fit p r w _ m i _ (as_top p r w ts _ _ (sym (want_is ty scalars.Pointer (pointer_is ty tp))) k) (on_top (is_value tt tt) d) q l h
  eval_row sized calls (Load at x) wanted r w ts z (tl, sc) k s m i d f q l h =
      let a = scalar_is (tlvalue_type x) sc in
      rw (a.1) (fit p r _ s m i _ (addr tl (load (as_top p r w ts _ _ (sym (want_is (tlvalue_type x) a.0 a.1)) k))) d (f, tt, ((λ y o. absurd o), tt, q)) l h)
  eval_row sized calls (AddressOf at x) wanted r w ts z tl k s m i d f q l h = fit p r _ s m i _ (addr tl k) d (f, tt, q) l h
  eval_row sized calls (Decay at x) wanted r w ts z (tl, ar) k s m i d f q l h =
      fit p r _ s m i _ (addr tl (as_top p r w ts _ _ (sym (decays (tlvalue_type x) _ ar)) k)) d (f, tt, q) l h
  eval_row sized calls (Whole at x) wanted r w ts z (tl, st) k s m i d f q l h =
      fit p r _ s m i _ (addr tl (named (as_top p r w ts _ _ (sym (struct_want (tlvalue_type x) st)) k))) d (f, tt, ((λ y o. absurd o), tt, q)) l h
  eval_row sized calls (Unary at op a) wanted r w ts z (ta, row) k s m i d f q l h =
      let b = unary_row op (given_type a) row in
      rw (value_is (scope_at p r w) a b.a ta b.is)
      (fit p r _ s m i _ (eval true ta (as_top p r _ ts _ _ (want_is (given_type a) b.a b.is) (un b.operates (as_top p r w ts _ _ (sym b.gives) k)))) d
      (f, tt, ((λ y o. absurd o), tt, q)) l h)
  eval_row sized calls (Binary at op a b) wanted r w ts z (ta, tb, row) k s m i d f q l h =
      let good : CTypeTree → Type 0 = λ ty. (n : ℕ) → PointsToSize p.structs ty n → IsElement n in
      let c = binary_row p.structs good (λ ty n g e. g n e) op (given_type a) (given_type b) (sized.values (scope_at p r w) true a z ta)
      (sized.values (scope_at p r w) true b z tb) (subst (λ (x : TProgramTree). BinaryRow x.structs op (given_type a) (given_type b)) z row) in
      fit p r _ s m i _ (eval true ta (eval true tb (as_two p r _ ts _ _ _ _ (want_is (given_type b) c.b c.is_right) (want_is (given_type a) c.a c.is_left)
      (bin c.operates (as_top p r w ts _ _ (sym (binary_want op (given_type a) (given_type b) (texpr_type a) (texpr_type b) _ (given.wanted (scope_at p r w) a ta)
      (given.wanted (scope_at p r w) b tb) c.gives)) k))))) d
      ((λ y o. f y (inl o)), tt, ((λ y o. f y (inr o)), tt, ((λ y o. absurd o), tt, q))) l h
  eval_row sized calls (Convert at Void a) wanted r w ts z (ta, pr, row) k s m i d f q l h =
      fit p r _ s m i _ (eval false ta (to_void k)) d (f, tt, ((λ y o. absurd o), tt, q)) l h
  eval_row sized calls (Convert at (Int t) a) wanted r w ts z (ta, pr, row) k s m i d f q l h =
      let c = integer_is (given_type a) row in
      fit p r _ s m i _ (eval true ta (as_top p r _ ts _ _ (want_is (given_type a) (scalars.Int c.0) c.1) (convert to_int k))) d (f, tt, ((λ y o. absurd o), tt, q)) l h
  eval_row sized calls (Convert at (Pointer to x) a) wanted r w ts z (ta, pr, row) k s m i d f q l h =
      fit p r _ s m i _ (eval true ta (as_top p r _ ts _ _ (want_is (given_type a) scalars.Pointer (pointer_is (given_type a) row)) (convert to_pointer k))) d
      (f, tt, ((λ y o. absurd o), tt, q)) l h
  eval_row sized calls (Convert at (Array of x n) a) wanted r w ts z (ta, pr, row) k s m i d f q l h = absurd row
  eval_row sized calls (Convert at (Struct n) a) wanted r w ts z (ta, pr, row) k s m i d f q l h = absurd row
  eval_row sized calls (Convert at (Function n) a) wanted r w ts z (ta, pr, row) k s m i d f q l h = absurd row
  eval_row sized calls (Assign at x a) wanted r w ts z (tl, ta, md, row) k s m i d f q l h =
      let c = store_row (tlvalue_type x) (given_type a) row in
      rw (c.1) (fit p r _ s m i _ (addr tl (eval true ta (as_top p r _ _ _ _ (want_is (given_type a) c.0 c.2)
      (store (as_top p r w ts _ _ (sym (want_is (tlvalue_type x) c.0 c.1)) k))))) d
      ((λ y o. f y (inl o)), tt, ((λ y o. f y (inr o)), tt, ((λ y o. absurd o), tt, q))) l h)
  eval_row sized calls (AssignStruct at extent x a) wanted r w ts z (tl, ta, md, row) k s m i d f q l h =
      fit p r _ s m i _ (addr tl (eval true ta (as_top p r _ _ _ _ (ap want_of row.source_struct) (copy (as_top p r w ts _ _ (sym (ap want_of row.target_struct)) k))))) d
      ((λ y o. f y (inl o)), tt, ((λ y o. f y (inr o)), tt, ((λ y o. absurd o), tt, q))) l h
  eval_row sized calls (Compound at op x a) wanted r w ts z (tl, ta, md, row) k s m i d f q l h =
      let good : CTypeTree → Type 0 = λ ty. (n : ℕ) → PointsToSize p.structs ty n → IsElement n in
      let c = compound_row p.structs good (λ ty n g e. g n e) op (tlvalue_type x) (given_type a) (sized.places (scope_at p r w) x z tl)
      (subst (λ (y : TProgramTree). CompoundRow y.structs op (tlvalue_type x) (given_type a)) z row) in
      rw (c.is_place) (fit p r _ s m i _ (addr tl (eval true ta (as_top p r _ _ _ _ (want_is (given_type a) c.right c.is_value)
      (modify c.changes (as_top p r w ts _ _ (sym (want_is (tlvalue_type x) c.place c.is_place)) k))))) d
      ((λ y o. f y (inl o)), tt, ((λ y o. f y (inr o)), tt, ((λ y o. absurd o), tt, q))) l h)
  eval_row sized calls (Step at time way stride x) wanted r w ts z (tl, md, row) k s m i d f q l h =
      let good : CTypeTree → Type 0 = λ ty. (n : ℕ) → PointsToSize p.structs ty n → IsElement n in
      let c = step_row p.structs good (λ ty n g e. g n e) way stride (tlvalue_type x) (sized.places (scope_at p r w) x z tl)
      (subst (λ (y : TProgramTree). StepRow y.structs stride (tlvalue_type x)) z row) in
      rw (c.is_place) (fit p r _ s m i _ (addr tl (step_at c.is_one c.changes (as_top p r w ts _ _ (sym (want_is (tlvalue_type x) c.place c.is_place)) k))) d
      (f, tt, ((λ y o. absurd o), tt, q)) l h)
  eval_row sized calls (And at a b) wanted r w ts z (ta, tb, row) k s m i d f q l h =
      let c = scalar_is (given_type a) row.0 in let e = scalar_is (given_type b) row.1 in
      rw (value_is (scope_at p r w) a c.0 ta c.1) (fit p r _ s m i _ (eval true ta (as_top p r _ _ _ _ (want_is (given_type a) c.0 c.1)
      (and_then tb (value_is (scope_at p r w) b e.0 tb e.1) k))) d ((λ y o. f y (inl o)), tt, ((λ y o. f y (inr o)), tt, q)) l h)
  eval_row sized calls (Or at a b) wanted r w ts z (ta, tb, row) k s m i d f q l h =
      let c = scalar_is (given_type a) row.0 in let e = scalar_is (given_type b) row.1 in
      rw (value_is (scope_at p r w) a c.0 ta c.1) (fit p r _ s m i _ (eval true ta (as_top p r _ _ _ _ (want_is (given_type a) c.0 c.1)
      (or_else tb (value_is (scope_at p r w) b e.0 tb e.1) k))) d ((λ y o. f y (inl o)), tt, ((λ y o. f y (inr o)), tt, q)) l h)
  eval_row sized calls (Cond at ty x a b) wanted r w ts z (tx, ta, tb, pr, row) k s m i d f q l h =
      let c = scalar_is (given_type x) row.condition_scalar in
      let ga = same_want (given_type a) ty row.first_type in let gb = same_want (given_type b) ty row.second_type in
      rw (value_is (scope_at p r w) x c.0 tx c.1) (fit p r _ s m i _ (eval true tx (as_top p r _ _ _ _ (want_is (given_type x) c.0 c.1)
      (pick ta tb (gb ∙ sym ga) (as_top p r _ _ _ _ ga k)))) d ((λ y o. f y (inl o)), tt, ((λ y o. f y (inr o)), tt, q)) l h)
  eval_row sized calls (Comma at a b) wanted r w ts z (ta, tb) k s m i d f q l h =
      fit p r _ s m i _ (eval false ta (drop (eval true tb k))) d ((λ y o. f y (inl o)), tt, ((λ y o. absurd o), tt, ((λ y o. f y (inr o)), tt, q))) l h
  eval_row sized calls (Call at g ty used args) wanted r w ts z t k s m i d f q l h = calls at g ty used args wanted r w ts t k s m i d f q l h
  eval_row sized calls (Any at ty) wanted r w ts z t k s m i d f q l h = input_after ty r w s m i ts k d q l h
  eval_row sized calls (Assume at a) wanted r w ts z (ta, row) k s m i d f q l h =
      let c = scalar_is (given_type a) row in
      rw (value_is (scope_at p r w) a c.0 ta c.1) (fit p r _ s m i _ (eval true ta (as_top p r _ _ _ _ (want_is (given_type a) c.0 c.1) (keep k))) d
      (f, tt, ((λ y o. absurd o), tt, q)) l h)
  eval_row sized calls (Assert at a) wanted r w ts z (ta, row) k s m i d f q l h =
      let c = scalar_is (given_type a) row in
      rw (value_is (scope_at p r w) a c.0 ta c.1) (fit p r _ s m i _ (eval true ta (as_top p r _ _ _ _ (want_is (given_type a) c.0 c.1) (sure k))) d
      (f, tt, ((λ y o. absurd o), tt, q)) l h)
