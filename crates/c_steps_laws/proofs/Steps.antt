-- Each step of a typed run keeps what its states keep, and there is one.
use Rattle.std.proofs.Common.{◌≡◌, inl, inr, ℕ, zero, suc, ℤ, true, false, List, ◌∷◌, length, Some, refl, sym, ap, ◌∙◌, subst}
use Rattle.c_syntax.specs.declared.operator.StepTime.TheVariants.{Before}
use Rattle.c_syntax.specs.declared.operator.Stride.{Stride}
use Rattle.c_syntax.specs.declared.operator.Stride.TheVariants as strides
use Rattle.c_syntax.specs.Types.{CTypeTree}
use Rattle.c_syntax.specs.TypedExpr.{TExprTree}
use Rattle.c_syntax.specs.GivenType.{given_type}
use Rattle.c_layout.specs.TypedNodes.{Scope, IsTypedExpr}
use Rattle.c_layout.proofs.Given as given
use Rattle.c_values.specs.Values.{scalar_of}
use Rattle.block_mem.specs.Proper.{IsMade}
use Rattle.c_syntax.specs.Program.{TProgramTree}
use Rattle.block_mem.specs.declared.types.Scalar.{Scalar}
use Rattle.block_mem.specs.declared.types.Value.{Value}
use Rattle.block_mem.specs.declared.types.Value.TheVariants as values
use Rattle.block_mem.specs.Bytes.{IsOf}
use Rattle.c_values.specs.declared.values.Given.TheVariants as givens
use Rattle.c_values.specs.Operators.{one}
use Rattle.c_values.specs.Values.{bit}
use Rattle.c_values.specs.Places.{ObjectMemory}
use Rattle.c_objects.specs.Opening.{shut_all}
use Rattle.c_steps.specs.Work.{Item, Eval, Truth, Do}
use Rattle.c_steps.specs.States.{Held, Plain, Struct as Bytes, State, Next, Goes, Ended, Waiting, Stopped, Wrong, Stands, goes, held}
use Rattle.c_steps.specs.Changes.{step_operator}
use Rattle.c_steps.specs.Expressions.{value_scalar}
use Rattle.c_steps.specs.Marks.{chosen}
use Rattle.c_steps.specs.Steps.{work_step, step}
use Rattle.c_steps.specs.Runs.{moved_to, goes_on, steps}
use Rattle.c_steps_laws.specs.Wants.{Want, Of, want_of, is_value, is_struct, is_any, Stacked, on_top}
use Rattle.c_steps_laws.specs.Takes.{Takes, eval, addr, load, store, named, copy, modify, step_at, un, bin, convert, to_void, move, and_then, or_else, truth_of, pick, choose, keep, sure, drop, enter, leave, reach, does, close, begin, turn, again, select, switch_end, fill, fill_copy, rest, finish}
use Rattle.c_steps_laws.specs.Opens.{Object, OpensCall}
use Rattle.c_steps_laws.specs.Fits.{AreLive, Parted, Fits}
use Rattle.c_steps_laws.proofs.Accesses.{bit_typed, load_row, store_row, copy_row, un_row, bin_row, move_row, test_after, sure_row, modify_row, convert_row, void_row}
use Rattle.c_steps_laws.proofs.Calls.{AreCallable, call_row}
use Rattle.c_steps_laws.proofs.Expressions.{AreSized, eval_row}
use Rattle.c_steps_laws.proofs.Functions.{AreBodies, enter_row, reach_row}
use Rattle.c_steps_laws.proofs.Initials.{AreFillable, fill_row, fill_copy_row, rest_row}
use Rattle.c_steps_laws.proofs.Jumps.{after_return}
use Rattle.c_steps_laws.proofs.Lives.{all_shut}
use Rattle.c_steps_laws.proofs.Rows.{want_is}
use Rattle.c_steps_laws.proofs.Rules.{On, fit, as_top}
use Rattle.c_steps_laws.proofs.Scope.{scoped, lives_here, addr_row}
use Rattle.c_steps_laws.proofs.Statements.{begin_row, turn_row, again_row, select_row, do_row}
use Rattle.c_steps_laws.proofs.Values.{Has}
use Rattle.c_objects.proofs.Keeping.{keeps_where}
use Rattle.c_steps_laws.proofs.Kept.{KeepsIn}

-- what the rows need of a program
pub record IsRunnable (p : TProgramTree) : Type 0 where
  pub sized : AreSized p
  pub callable : AreCallable p
  pub fillable : AreFillable p
  pub bodies : AreBodies p fillable

abbrev as_has : (n : ℕ) (ty : Scalar) (v : Value) → IsOf ty v → IsMade n v → Has n ty v
as_has n ty v h made = record { typed = h; made = made }

one_made : (n : ℕ) (stride : Stride) → IsMade n (one stride)
one_made n (strides.Int t) = tt
one_made n (strides.Element k) = tt

wanted_is : (scope : Scope) (e : TExprTree) (s : Scalar) → IsTypedExpr scope true e → value_scalar e ≡ Some s → want_of (given_type e) ≡ Of s
wanted_is scope e s typed is = want_is (given_type e) s (ap scalar_of (given.wanted scope e typed) ∙ is)

module _ (p : TProgramTree) (ok : IsRunnable p) where
  row : {r : CTypeTree} {w : List Item} {ts : List Want} → Takes p r w ts → (s : List Held) (m : ObjectMemory) (i : List ℤ) → Stacked (length m.blocks) ts s
      → Parted (OpensCall p) p w → AreLive p w m → KeepsIn p m → On p (work_step p w s m i)
  row (eval {r = r} {e = e} {w = w} wanted t k) s m i d (f, g, q) l h =
      eval_row p ok.sized (call_row p ok.callable) e wanted r w _ (scoped k).program t k s m i d f q l h
  row (addr {r = r} {place = x} {w = w} t k) s m i d (f, g, q) l h = addr_row p x r w _ t k s m i d f q l h
  row (load {r = r} {at = at} {ty = ty} {w = w} k) s m i (on_top {s = z} (is_value {v = v} hv mv) d) (f, g, q) l h =
      load_row p at ty v r w _ k z m i (as_has _ _ v hv mv) d q l h
  row (store {r = r} {at = at} {ty = ty} {w = w} k) s m i (on_top (is_value {v = u} hu mu) (on_top {s = z} (is_value {v = v} hv mv) d)) (f, g, q) l h =
      store_row p at ty v u u r w _ k z m i (as_has _ _ u hu mu) (as_has _ _ u hu mu) (as_has _ _ v hv mv) d q l h
  row (named {r = r} {at = at} {w = w} k) s m i (on_top {s = z} (is_value {v = v} hv mv) d) (f, g, q) l h =
      fit p r w (Bytes at v ∷ z) m i _ k (on_top (is_struct hv mv) d) q l h
  row (copy {r = r} {at = at} {extent = extent} {w = w} k) s m i (on_top (is_struct {at = from} {v = u} hu mu) (on_top {s = z} (is_value {v = v} hv mv) d)) (f, g, q) l h =
      copy_row p at from extent u v r w _ k z m i (as_has _ _ u hu mu) (as_has _ _ v hv mv) d q l h
  row (modify {r = r} {at = at} {at_place = at_place} {ty = ty} {right = right} {op = op} {w = w} c k) s m i
      (on_top (is_value {v = u} hu mu) (on_top {s = z} (is_value {v = v} hv mv) d)) (f, g, q) l h =
      modify_row p at at_place ty right op Before v u r w _ c k z m i (as_has _ _ u hu mu) (as_has _ _ v hv mv) d q l h
  row (step_at {r = r} {at = at} {at_place = at_place} {ty = ty} {right = right} {time = time} {way = way} {stride = stride} {w = w} h1 c k) s m i
      (on_top {s = z} (is_value {v = v} hv mv) d) (f, g, q) l h =
      modify_row p at at_place ty right (step_operator way stride) time v (one stride) r w _ c k z m i (as_has _ _ (one stride) h1 (one_made _ stride)) (as_has _ _ v hv mv) d q l h
  row (un {r = r} {at = at} {op = op} {ty = ty} {w = w} t k) s m i (on_top {s = z} (is_value {v = v} hv mv) d) (f, g, q) l h =
      un_row p at op ty v r w _ t k z m i (as_has _ _ v hv mv) d q l h
  row (bin {r = r} {at = at} {op = op} {left = a} {right = b} {w = w} t k) s m i (on_top (is_value {v = u} hu mu) (on_top {s = z} (is_value {v = v} hv mv) d)) (f, g, q) l h =
      bin_row p at op a b v u r w _ t k z m i (as_has _ _ v hv mv) (as_has _ _ u hu mu) d q l h
  row (convert {r = r} {w = w} c k) s m i (on_top {s = z} (is_value {v = v} hv mv) d) (f, g, q) l h = convert_row p v r w _ c k z m i (as_has _ _ v hv mv) d q l h
  row (to_void {r = r} {w = w} k) s m i (on_top {x = x} {s = z} hx d) (f, g, q) l h = void_row p x r w _ k z m i d q l h
  row (move {r = r} {at = at} {offset = offset} {w = w} k) s m i (on_top {s = z} (is_value {v = v} hv mv) d) (f, g, q) l h =
      move_row p at offset v r w _ k z m i (as_has _ _ v hv mv) d q l h
  row (and_then {r = r} {at = at} {ty = ty} {s = b} {e = e} {w = w} te is k) s m i (on_top {s = z} (is_value {v = v} hv mv) d) (f, g, q) l h =
      test_after p at ty v m (goes (Eval e ∷ Truth at (value_scalar e) ∷ w) z m i) (goes w (held (bit false) ∷ z) m i) (as_has _ _ v hv mv)
      (rw is (fit p r _ z m i _ (eval true te (as_top p r _ _ _ _ (wanted_is _ e b te is) (truth_of k))) d (f, tt, ((λ u o. absurd o), tt, q)) l h))
      (fit p r w (held (bit false) ∷ z) m i _ k (on_top (is_value {v = bit false} (bit_typed false) tt) d) q l h)
  row (or_else {r = r} {at = at} {ty = ty} {s = b} {e = e} {w = w} te is k) s m i (on_top {s = z} (is_value {v = v} hv mv) d) (f, g, q) l h =
      test_after p at ty v m (goes w (held (bit true) ∷ z) m i) (goes (Eval e ∷ Truth at (value_scalar e) ∷ w) z m i) (as_has _ _ v hv mv)
      (fit p r w (held (bit true) ∷ z) m i _ k (on_top (is_value {v = bit true} (bit_typed true) tt) d) q l h)
      (rw is (fit p r _ z m i _ (eval true te (as_top p r _ _ _ _ (wanted_is _ e b te is) (truth_of k))) d (f, tt, ((λ u o. absurd o), tt, q)) l h))
  row (truth_of {r = r} {at = at} {ty = ty} {w = w} k) s m i (on_top {s = z} (is_value {v = v} hv mv) d) (f, g, q) l h =
      test_after p at ty v m (goes w (held (bit true) ∷ z) m i) (goes w (held (bit false) ∷ z) m i) (as_has _ _ v hv mv)
      (fit p r w (held (bit true) ∷ z) m i _ k (on_top (is_value {v = bit true} (bit_typed true) tt) d) q l h)
      (fit p r w (held (bit false) ∷ z) m i _ k (on_top (is_value {v = bit false} (bit_typed false) tt) d) q l h)
  row (pick {r = r} {at = at} {ty = ty} {a = x} {b = y} {w = w} ta tb e k) s m i (on_top {s = z} (is_value {v = v} hv mv) d) (f, g, q) l h =
      test_after p at ty v m (goes (Eval x ∷ w) z m i) (goes (Eval y ∷ w) z m i) (as_has _ _ v hv mv)
      (fit p r _ z m i _ (eval true ta k) d ((λ u o. f u (inl o)), tt, q) l h)
      (fit p r _ z m i _ (eval true tb (as_top p r _ _ _ _ e k)) d ((λ u o. f u (inr o)), tt, q) l h)
  row (choose {r = r} {at = at} {ty = ty} {a = x} {b = y} {w = w} ta tb v' k) s m i (on_top {s = z} (is_value {v = v} hv mv) d) (f, g, q) l h =
      test_after p at ty v m (goes (Do x ∷ w) z m i) (goes (Do y ∷ w) z m i) (as_has _ _ v hv mv)
      (fit p r _ z m i _ (does ta v' k) d ((λ u o. f u (inl o)), g.0, q) l h)
      (fit p r _ z m i _ (does tb v' k) d ((λ u o. f u (inr o)), g.1, q) l h)
  row (keep {r = r} {at = at} {ty = ty} {w = w} k) s m i (on_top {s = z} (is_value {v = v} hv mv) d) (f, g, q) l h =
      test_after p at ty v m (goes w (Plain givens.Nothing ∷ z) m i) Stopped (as_has _ _ v hv mv) (fit p r w (Plain givens.Nothing ∷ z) m i _ k (on_top is_any d) q l h) tt
  row (sure {r = r} {at = at} {ty = ty} {w = w} k) s m i (on_top {s = z} (is_value {v = v} hv mv) d) (f, g, q) l h =
      sure_row p at ty v r w _ k z m i (as_has _ _ v hv mv) d q l h
  row (drop {r = r} {w = w} k) s m i (on_top {s = z} hx d) (f, g, q) l h = fit p r w z m i _ k d q l h
  row (enter {r = r} {at = at} {f = x} {end = end} {function = function} {body = body} {want = want} {w = w} found is gives k) s m i d (f, g, q) l h =
      enter_row p ok.fillable at x end function body want r w _ (ok.bodies x function body found is) found is gives k s m i d f q l h
  row (leave {r = r} v k) s m i (on_top {x = x} {s = z} hx d) (f, g, q) l h = after_return p v k x z m i hx d q l h
  row (reach {q = r} {at = at} {end = end} {w = w} gives k) s m i d (f, g, q) l h = reach_row p ok.fillable at end r w _ gives k s m i d q l h
  row (does {r = r} {statement = b} {w = w} t v k) s m i d (f, g, q) l h = do_row p ok.fillable b r w _ t v k s m i d f g q l h
  row (close {r = r} {objects = xs} {items = items} {w = w} {ts = ts} t v k) s m i d (f, g, q) l h =
      let c = all_shut p w xs items m (λ y o. (f (Object y) (inl o)).1) l h in
      fit p r w s (shut_all m xs) i _ k (subst (λ n. Stacked n ts s) (sym c.blocks) d) q c.live c.kept
  row (begin {r = r} {k = n} {loop = loop} {w = w} t v k) s m i d (f, g, q) l h = begin_row p n loop loop.condition refl r w _ t v k s m i d f g q l h
  row (turn {r = r} {k = n} {loop = loop} {s = ty} {w = w} is t v k) s m i (on_top {s = z} (is_value {v = x} hx mx) d) (f, g, q) l h =
      turn_row p n loop ty x r w _ is t v k z m i (as_has _ _ x hx mx) d f g q l h
  row (again {r = r} {k = n} {loop = loop} {w = w} t v k) s m i d (f, g, q) l h = again_row p n loop loop.step refl r w _ t v k s m i d f g q l h
  row (select {r = r} {t = t} {objects = xs} {items = items} {w = w} ti v k) s m i (on_top {s = z} (is_value {v = values.Int u n} hx mx) d) (f, g, q) l h =
      select_row p (chosen n items) xs items r w _ ti v k z m i d f g q l h
  row (select ti v k) s m i (on_top (is_value {v = values.Ptr x} hx mx) d) (f, g, q) l h = absurd hx
  row (select ti v k) s m i (on_top (is_value {v = values.Null} hx mx) d) (f, g, q) l h = absurd hx
  row (switch_end {r = r} {w = w} v k) s m i d (f, g, q) l h = fit p r w s m i _ k d q l h
  row (fill {r = r} {x = x} {offset = offset} {part = part} {ty = ty} {w = w} lives at is k) s m i (on_top {s = z} (is_value {v = v} hv mv) d) (f, g, q) l h =
      fill_row p ok.fillable x offset part ty v r w _ (lives_here k x lives) at is k z m i (as_has _ _ v hv mv) d q l h
  row (fill_copy {r = r} {x = x} {offset = offset} {part = part} {source = source} {extent = extent} {w = w} lives at c k) s m i
      (on_top {s = z} (is_struct {at = from} {v = v} hv mv) d) (f, g, q) l h =
      fill_copy_row p ok.fillable x offset part source extent from v r w _ (lives_here k x lives) at c k z m i (as_has _ _ v hv mv) d q l h
  row (rest {r = r} {x = x} {inits = inits} {w = w} lives k) s m i d (f, g, q) l h = rest_row p ok.fillable x inits r w _ (lives_here k x lives) k s m i d q l h
  row finish s m i (on_top (is_value {v = values.Int u n} hx mx) d) q l h = tt
  row finish s m i (on_top (is_value {v = values.Ptr x} hx mx) d) q l h = absurd hx
  row finish s m i (on_top (is_value {v = values.Null} hx mx) d) q l h = absurd hx

  pub step_keeps : (s : State) → Fits p s → On p (step p s)
  step_keeps s h = row h.takes s.stack s.memory s.inputs h.stacked h.parted h.live (keeps_where _ p.objects s.memory h.kept h.whole)

  next_fits : (s : State) (next : Next) → Fits p s → On p next → Fits p (moved_to s next)
  next_fits s (Goes t) h e = e
  next_fits s (Ended n) h e = h
  next_fits s Waiting h e = h
  next_fits s Stopped h e = h
  next_fits s (Wrong at k x) h e = h
  next_fits s Stands h e = h

  pub steps_keep : (n : ℕ) (s : State) → Fits p s → Fits p (steps p n s)
  steps_keep zero s h = h
  steps_keep (suc n) s h = steps_keep n (goes_on p s) (next_fits s (step p s) h (step_keeps s h))

  stands_not : (next : Next) → On p next → next ≡ Stands → ⊥
  stands_not (Goes t) h e = absurd (cc)
  stands_not (Ended n) h e = absurd (cc)
  stands_not Waiting h e = absurd (cc)
  stands_not Stopped h e = absurd (cc)
  stands_not (Wrong at k x) h e = absurd (cc)
  stands_not Stands h e = h

  pub fits_goes : (s : State) → Fits p s → step p s ≡ Stands → ⊥
  fits_goes s h e = stands_not (step p s) (step_keeps s h) e
