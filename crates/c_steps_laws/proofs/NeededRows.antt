-- What each item finds, by the rule by which the work takes values there.
use Rattle.std.proofs.Common.{◌<◌, inl, inr, ℕ, ℤ, List, [], ◌∷◌, length, refl, sym, subst}
use Rattle.std.specs.Prelude.{Contains, slice_get}
use Rattle.c_syntax_written.specs.declared.int_type.IntType.{IntType}
use Rattle.c_syntax_written.specs.declared.int_type.IntType.TheVariants as ints
use Rattle.c_syntax.specs.declared.operator.Stride.{Stride}
use Rattle.c_syntax.specs.declared.operator.Stride.TheVariants as strides
use Rattle.c_syntax.specs.declared.operator.TBinaryOp.{TBinaryOp}
use Rattle.c_syntax.specs.Types.{CTypeTree}
use Rattle.c_syntax.specs.TypedExpr.{TLvalueTree, Var, Deref, Member}
use Rattle.c_syntax.specs.TypedStmt.{TStmtTree}
use Rattle.c_syntax.specs.TypedStmt as stmts
use Rattle.c_syntax.specs.Program.{TProgramTree}
use Rattle.c_layout.specs.Jumps.{GotosStay}
use Rattle.c_layout.specs.TypedNodes.{IsTypedExpr, IsTypedPlace, IsTypedStmt}
use Rattle.c_layout.specs.WellTyped.{IsWellTyped}
use Rattle.block_mem.specs.declared.types.Scalar.{Scalar}
use Rattle.block_mem.specs.declared.types.Scalar.TheVariants as scalars
use Rattle.block_mem.specs.declared.types.Value.{Value}
use Rattle.block_mem.specs.declared.types.Value.TheVariants as values
use Rattle.block_mem.specs.Bytes.{IsOf}
use Rattle.block_mem.specs.Proper.{IsMade}
use Rattle.c_values.specs.Operators.{one}
use Rattle.c_values.specs.Places.{ObjectMemory}
use Rattle.c_objects.proofs.Keeping.{keeps_where}
use Rattle.c_steps.specs.Work.{Item}
use Rattle.c_steps.specs.States.{Held, state, held}
use Rattle.c_steps.specs.Changes.{step_operator}
use Rattle.c_steps_laws.specs.Wants.{Want, is_value, is_struct, Stacked, on_top}
use Rattle.c_steps_laws.specs.Surroundings.{around, scope_at, TypedStmt}
use Rattle.c_steps_laws.specs.Takes as rules
use Rattle.c_steps_laws.specs.Takes.{IsLevel, Changes, Takes, eval, addr, load, store, named, copy, modify, step_at, un, bin, convert, to_void, move, and_then, or_else, truth_of, pick, choose, keep, sure, drop, enter, leave, reach, close, begin, turn, again, select, switch_end, fill, fill_copy, rest, finish}
use Rattle.c_steps_laws.specs.Opens.{Use, Object, OpensStmt, OpensCall}
use Rattle.c_steps_laws.specs.Fits.{AreLive, IsReady, Parted, Fits}
use Rattle.c_steps_laws.proofs.Kept.{KeepsIn}
use Rattle.c_steps_laws.proofs.Scope.{scoped, lives_case, lives_here}
use Rattle.c_steps_laws.proofs.Values.{Has, both_taken, taken_alone}
use Rattle.c_steps_laws.specs.Needs.{AddrNeeds, AreThere, ChangeNeeds, DoNeeds, FinishNeeds, Needs, TestNeeds}
use Rattle.c_steps_laws.proofs.Changed.{stores, copies}
use Rattle.c_steps_laws.proofs.Entered.{is_entered}
use Rattle.c_steps_laws.proofs.Filled.{filled_with, copied_into, has_offset}
use Rattle.c_steps_laws.proofs.NeededJumps.{can_break, can_continue, can_go_to, can_return, all_of, ends_there}
use Rattle.c_steps_laws.proofs.Modified.{convertible, is_modified}
use Rattle.c_steps_laws.proofs.Sound.{are_small, fillable}

abbrev as_has : (n : ℕ) (ty : Scalar) (v : Value) → IsOf ty v → IsMade n v → Has n ty v
as_has n ty v h made = record { typed = h; made = made }

one_made : (n : ℕ) (stride : Stride) → IsMade n (one stride)
one_made n (strides.Int t) = tt
one_made n (strides.Element k) = tt

-- of the first item
abbrev FirstNeeds : TProgramTree → List Item → List Held → ObjectMemory → Type 0
FirstNeeds p [] s m = ⊥
FirstNeeds p (item ∷ work) s m = Needs p item work s m

module _ (p : TProgramTree) (ok : IsWellTyped p) where
  -- objects that are ready are there
  are_there : (m : ObjectMemory) (w : List Item) (xs : List ℕ) → KeepsIn p m → ((y : ℕ) → Contains xs y → IsReady p w (Object y)) → AreThere m xs
  are_there m w xs k f = all_of _ xs (λ y c. subst (λ n. y < n) (sym k.counted) (f y c).0)

  addr_needs : (x : TLvalueTree) (r : CTypeTree) (w : List Item) (ts : List Want) → IsTypedPlace (scope_at p r w) x → Takes p r w ts → (m : ObjectMemory) → AreLive p w m
      → AddrNeeds m x
  unfolding IsTypedExpr
  addr_needs (Var at x ty c) r w ts t k m l = l.0 x (lives_case p r w (around p r w).standing x ty c (scoped k) (slice_get (scope_at p r w).program.objects x) refl t)
  addr_needs (Deref at kind ty c e) r w ts t k m l = tt
  addr_needs (Member at n offset ty c x) r w ts t k m l = tt

  change_needs : (m : ObjectMemory) (op : TBinaryOp) (ty right : Scalar) (v u : Value) → KeepsIn p m → Changes op ty right → Has (length m.blocks) scalars.Pointer v
      → Has (length m.blocks) right u → ChangeNeeds p.objects m ty op v u
  change_needs m op ty right v u k c hv hu =
      ((hv.typed, hv.made), hu.made, is_modified c u hu.typed, (λ x h. stores p.objects m k ty v x hv (as_has _ ty x h.0 h.1)))

  do_needs : (b : TStmtTree) (r : CTypeTree) (w : List Item) (ts : List Want) → TypedStmt (around p r w) b → IsLevel w → Takes p r w ts → (m : ObjectMemory)
      → ((u : Use) → OpensStmt (OpensCall p) b u → IsReady p w u) → AreLive p w m → KeepsIn p m → DoNeeds m b w
  unfolding IsTypedStmt GotosStay
  do_needs (stmts.Block at kind xs items) r w ts t v k m f l h = are_there m w xs h (λ y c. f (Object y) (inl c))
  do_needs (stmts.Declare at x inits z) r w ts ((here, typed), y) v k m f l h = let sc = scoped k in l.0 x (inr (sc.lives x (sc.block x here)))
  do_needs (stmts.For at xs head c e b) r w ts t v k m f l h = are_there m w xs h (λ y g. f (Object y) (inl g))
  do_needs (stmts.Break at) r w ts (t, x) v k m f l h = (can_break v k t, ends_there p m w l)
  do_needs (stmts.Continue at) r w ts (t, x) v k m f l h = (can_continue v k t, ends_there p m w l)
  do_needs (stmts.Goto at j) r w ts (x, t) v k m f l h = (can_go_to v k j t, ends_there p m w l)
  do_needs (stmts.Empty at) r w ts t v k m f l h = tt
  do_needs (stmts.Expr at e) r w ts t v k m f l h = tt
  do_needs (stmts.Static at x) r w ts t v k m f l h = tt
  do_needs (stmts.If at c a b) r w ts t v k m f l h = tt
  do_needs (stmts.While at c b) r w ts t v k m f l h = tt
  do_needs (stmts.DoWhile at b c) r w ts t v k m f l h = tt
  do_needs (stmts.Switch at e kind xs items) r w ts t v k m f l h = tt
  do_needs (stmts.Return at e) r w ts t v k m f l h = tt
  do_needs (stmts.Label at j) r w ts t v k m f l h = tt
  do_needs (stmts.Case at n) r w ts t v k m f l h = tt
  do_needs (stmts.Default at) r w ts t v k m f l h = tt

  finish_needs : (t : IntType) (n : ℤ) (s : List Held) → IsOf (scalars.Int ints.Int) (values.Int t n) → FinishNeeds [] (held (values.Int t n) ∷ s)
  finish_needs t n s h = h

  row : {r : CTypeTree} {w : List Item} {ts : List Want} → Takes p r w ts → (s : List Held) (m : ObjectMemory) → Stacked (length m.blocks) ts s
      → Parted (OpensCall p) p w → AreLive p w m → KeepsIn p m → FirstNeeds p w s m
  row (eval wanted t k) s m d q l h = tt
  row (addr {r = r} {place = x} {w = w} t k) s m d q l h = addr_needs x r w _ t k m l
  row (load k) s m (on_top (is_value hv mv) d) q l h = (refl, (hv, mv))
  row (store {ty = ty} k) s m (on_top (is_value {v = u} hu mu) (on_top (is_value {v = v} hv mv) d)) q l h =
      ((hv, mv), (hu, mu), stores p.objects m h ty v u (as_has _ _ v hv mv) (as_has _ _ u hu mu))
  row (named k) s m (on_top (is_value hv mv) d) q l h = (hv, mv)
  row (copy {extent = extent} k) s m (on_top (is_struct {v = u} hu mu) (on_top (is_value {v = v} hv mv) d)) q l h =
      ((hu, mu), (hv, mv), copies p.objects m h extent v u (as_has _ _ v hv mv) (as_has _ _ u hu mu))
  row (modify {ty = ty} {right = right} {op = op} c k) s m (on_top (is_value {v = u} hu mu) (on_top (is_value {v = v} hv mv) d)) q l h =
      change_needs m op ty right v u h c (as_has _ _ v hv mv) (as_has _ _ u hu mu)
  row (step_at {ty = ty} {right = right} {way = way} {stride = stride} is_one c k) s m (on_top (is_value {v = v} hv mv) d) q l h =
      change_needs m (step_operator way stride) ty right v (one stride) h c (as_has _ _ v hv mv) (as_has _ _ (one stride) is_one (one_made _ stride))
  row (un {op = op} {ty = ty} t k) s m (on_top (is_value {v = v} hv mv) d) q l h = (taken_alone op ty v t hv, mv)
  row (bin t k) s m (on_top (is_value {v = u} hu mu) (on_top (is_value {v = v} hv mv) d)) q l h = (both_taken t v u hv hu, mv, mu)
  row (convert c k) s m (on_top (is_value {v = v} hv mv) d) q l h = convertible c v hv
  row (to_void k) s m d q l h = tt
  row (move k) s m (on_top (is_value hv mv) d) q l h = (hv, mv)
  row (and_then te is k) s m (on_top (is_value hv mv) d) q l h = (hv, mv)
  row (or_else te is k) s m (on_top (is_value hv mv) d) q l h = (hv, mv)
  row (truth_of k) s m (on_top (is_value hv mv) d) q l h = (hv, mv)
  row (pick ta tb e k) s m (on_top (is_value hv mv) d) q l h = (hv, mv)
  row (choose ta tb v k) s m (on_top (is_value hv mv) d) q l h = (hv, mv)
  row (keep k) s m (on_top (is_value hv mv) d) q l h = (hv, mv)
  row (sure k) s m (on_top (is_value hv mv) d) q l h = (hv, mv)
  row (drop k) s m d q l h = tt
  row (enter {f = f} {function = function} {body = body} {w = w} {ts = ts} found is gives k) s m d (may, g, q) l h =
      is_entered p ok f function body w ts found is s m d may l h
  row (leave {w = w} v k) s m d q l h = (can_return v k, ends_there p m w l)
  row (reach gives k) s m d q l h = tt
  row (rules.does {r = r} {statement = b} {w = w} t v k) s m d (f, g, q) l h = do_needs b r w _ t v k m f l h
  row (close {objects = xs} {w = w} t v k) s m d (f, g, q) l h = are_there m w xs h (λ y c. f (Object y) (inl c))
  row (begin t v k) s m d q l h = tt
  row (turn {s = ty} is t v k) s m (on_top {s = z} (is_value {v = x} hx mx) d) q l h = subst (λ o. TestNeeds m o (held x ∷ z)) (sym is) (hx, mx)
  row (again t v k) s m d q l h = tt
  row (select {objects = xs} {w = w} t v k) s m d (f, g, q) l h = are_there m w xs h (λ y c. f (Object y) (inl c))
  row (switch_end v k) s m d q l h = tt
  row (fill {x = x} {offset = offset} {part = part} {ty = ty} lives at is k) s m (on_top (is_value {v = v} hv mv) d) q l h =
      filled_with p ok m h x offset part ty v (l.0 x (lives_here k x lives)) at is (as_has _ _ v hv mv)
  row (fill_copy {x = x} {offset = offset} {part = part} {source = source} {extent = extent} lives at c k) s m (on_top (is_struct {v = v} hv mv) d) q l h =
      let here = l.0 x (lives_here k x lives) in
      ((hv, mv), has_offset p ok m h x offset extent.size part here at c.size, copied_into p ok m h x offset part source extent v here at c (as_has _ _ v hv mv))
  row (rest {x = x} lives k) s m d q l h = fillable p.objects m h (are_small p ok) x (l.0 x (lives_here k x lives))
  row finish s m (on_top {s = z} (is_value {v = values.Int t n} hx mx) d) q l h = finish_needs t n z hx
  row finish s m (on_top (is_value {v = values.Ptr x} hx mx) d) q l h = absurd hx
  row finish s m (on_top (is_value {v = values.Null} hx mx) d) q l h = absurd hx

pub needs : {p : TProgramTree} → IsWellTyped p → {item : Item} {w : List Item} {s : List Held} {m : ObjectMemory} {i : List ℤ} → Fits p (state (item ∷ w) s m i) → Needs p item w s m
needs {p = p} ok {s = s} {m = m} h = row p ok h.takes s m h.stacked h.parted h.live (keeps_where _ p.objects m h.kept h.whole)
