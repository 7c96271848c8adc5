-- Initialisers in a typed run: their items, what they fill, and the rest.
use Rattle.std.proofs.Common.{◌≡◌, ◌<◌, ◌≤◌, ◌+◌, ◌%◌, inl, inr, ℕ, zero, suc, ℤ, pos, Bool, true, false, List, [], ◌∷◌, length, Option, Some, None, refl, sym, ap, ◌∙◌, subst}
use Rattle.std.specs.Prelude.{◌==◌, if◌then◌else◌, IsSome, IsSomeAnd, All, Contains, slice_get, slice_index_or, option_map, option_and_then, unwrap_or}
use Rattle.std.proofs.lemmas.Bool.{eq-eqb}
use Rattle.std.proofs.lemmas.List.{length-set}
use Rattle.std.proofs.lemmas.List.Elements.{All-head, All-tail}
use Rattle.c_syntax_written.specs.declared.place.Pos.{Pos}
use Rattle.c_syntax.specs.declared.operator.Extent.{Extent}
use Rattle.c_syntax_written.specs.declared.int_type.IntType.{IntType}
use Rattle.c_syntax_written.specs.declared.int_type.IntType.TheVariants as ints
use Rattle.c_syntax.specs.Types.{CTypeTree, Void, Int, Pointer, Array, Struct, Function, ObjectTree}
use Rattle.c_syntax.specs.TypedExpr.{TExprTree}
use Rattle.c_syntax.specs.TypedStmt.{TInitTree, Store, Copy}
use Rattle.c_syntax.specs.GivenType.{given_type}
use Rattle.c_syntax.specs.Program.{StructDefTree, TProgramTree}
use Rattle.c_layout.specs.Layout.{size_in, align_in}
use Rattle.c_layout.specs.ProperTypes.{PartAt}
use Rattle.c_layout.specs.RowTypes.{CopyRow}
use Rattle.c_layout.specs.Tables.{PartsLieInside, PartsAreAligned}
use Rattle.c_layout.specs.TypedNodes.{Scope, IsTypedExpr, IsTypedInit, object_type}
use Rattle.block_mem.specs.declared.types.Pointer.{Pointer as Address}
use Rattle.block_mem.specs.declared.types.Scalar.{Scalar}
use Rattle.block_mem.specs.declared.types.Scalar.TheVariants as scalars
use Rattle.block_mem.specs.declared.types.Value.{Value}
use Rattle.block_mem.specs.declared.types.Value.TheVariants as values
use Rattle.block_mem.specs.Block.{BlockView}
use Rattle.block_mem.specs.Blocks.{block_at, wrong_access, with_undefined}
use Rattle.block_mem.specs.Bytes.{size_of}
use Rattle.c_values.specs.Accesses.{read_looks}
use Rattle.c_values.specs.Looks.{judge, Passes}
use Rattle.c_values.specs.Values.{scalar_of}
use Rattle.c_values.specs.Places.{ObjectMemory, place_of}
use Rattle.c_objects.specs.Opening.{address, undefined}
use Rattle.c_objects.specs.Writing.{with_blocks, copied_at, is_named, zero_at, zeroed, rest}
use Rattle.c_objects.proofs.Writes.{keeps_undefined, keeps_rest}
use Rattle.c_steps.specs.Work.{Item, Fill, FillCopy, Eval}
use Rattle.c_steps.specs.States.{Held, goes, with_some}
use Rattle.c_steps.specs.Changes.{stored, fill_step, fill_copy_step}
use Rattle.c_steps.specs.Statements.{init_items, rest_items}
use Rattle.c_steps_laws.specs.Wants.{Want, want_of, Stacked}
use Rattle.c_steps_laws.specs.Surroundings.{Around, around, scope_at}
use Rattle.c_steps_laws.specs.Takes as rules
use Rattle.c_steps_laws.specs.Takes.{LivesAt, Takes, eval, fill, fill_copy}
use Rattle.c_steps_laws.specs.Opens.{Use, Object, Function as Called, OpensInits, OpensCall}
use Rattle.c_steps_laws.specs.Fits.{Closes, Lives, AreLive, IsReady, Parted, Fits}
use Rattle.c_steps.specs.Steps.{rest_step}
use Rattle.c_steps_laws.proofs.Memory.{IsChanged, changed, passes_at, passes_bytes, store_changes, copy_changes, read_passes, read_has}
use Rattle.c_steps_laws.proofs.Rows.{Is, want_is, store_row}
use Rattle.c_steps_laws.proofs.Rules.{On, fit, as_top}
use Rattle.c_steps_laws.proofs.Values.{Has, judged_after}
use Rattle.c_steps_laws.proofs.Kept.{KeepsIn}
use Rattle.c_objects.proofs.Keeping.{Keeps}
use Rattle.c_objects.specs.Statics.{AreWholeInitials}

-- ---- what a part of an object is in memory

-- what the fills of a program need: its objects have their types' sizes, and parts lie inside, at multiples of their alignments
pub record AreFillable (p : TProgramTree) : Type 0 where
  pub inside : PartsLieInside p.structs
  pub aligned : PartsAreAligned p.structs
  pub sizes : (x : ℕ) (object : ObjectTree) → slice_get p.objects x ≡ Some object → size_in p.structs object.ty ≡ Some object.size

int_size : (structs : List StructDefTree) (t : IntType) → (size_in structs (Int t) ≡ Some (size_of (scalars.Int t))) × (align_in structs (Int t) ≡ size_of (scalars.Int t))
int_size structs ints.Char = (refl, refl)
int_size structs ints.SChar = (refl, refl)
int_size structs ints.UChar = (refl, refl)
int_size structs ints.Short = (refl, refl)
int_size structs ints.UShort = (refl, refl)
int_size structs ints.Int = (refl, refl)
int_size structs ints.UInt = (refl, refl)
int_size structs ints.Long = (refl, refl)
int_size structs ints.ULong = (refl, refl)
int_size structs ints.LLong = (refl, refl)
int_size structs ints.ULLong = (refl, refl)

-- the size and the alignment of a scalar
pub scalar_size : (structs : List StructDefTree) (ty : CTypeTree) (s : Scalar) → Is ty s → (size_in structs ty ≡ Some (size_of s)) × (align_in structs ty ≡ size_of s)
scalar_size structs Void s e = absurd (cc)
scalar_size structs (Int t) s e = let same : scalars.Int t ≡ s = cc in subst (λ z. (size_in structs (Int t) ≡ Some (size_of z)) × (align_in structs (Int t) ≡ size_of z)) same (int_size structs t)
scalar_size structs (Pointer to c) s e = let same : scalars.Pointer ≡ s = cc in subst (λ z. (size_in structs (Pointer to c) ≡ Some (size_of z)) × (align_in structs (Pointer to c) ≡ size_of z)) same (refl, refl)
scalar_size structs (Array of c n) s e = absurd (cc)
scalar_size structs (Struct n) s e = absurd (cc)
scalar_size structs (Function n) s e = absurd (cc)

-- where the object of a part is, and that the part lies inside its block, at a multiple of its alignment
pub record Room (m : ObjectMemory) (b offset size align : ℕ) : Type 0 where
  pub made : b < length m.blocks
  pub live : (block_at m.blocks b).live ≡ true
  pub inside : offset + size ≤ length (block_at m.blocks b).bytes
  pub aligned : offset % align ≡ 0

whole_size : (o : Option ObjectTree) (x : ObjectTree) → o ≡ Some x → unwrap_or (option_map (λ object. object.ty) o) Void ≡ x.ty
whole_size o x e = rw e refl

at_most : (o : Option ℕ) (n k : ℕ) → o ≡ Some n → IsSomeAnd o (λ z. k ≤ z) → k ≤ n
at_most None n k e h = absurd h
at_most (Some z) n k e h = let same : z ≡ n = cc in subst (λ y. k ≤ y) same h

pub room : (p : TProgramTree) (m : ObjectMemory) (x b offset size : ℕ) (part : CTypeTree) → AreFillable p → KeepsIn p m → place_of m x ≡ Some b
    → PartAt p.structs (object_type p x) offset part → size_in p.structs part ≡ Some size → Room m b offset size (align_in p.structs part)
room p m x b offset size part ok k here at is =
    let placed = k.placed x b here in
    let fits = k.fits b placed.made in
    let own : slice_get p.objects x ≡ Some fits.object = subst (λ y. slice_get p.objects y ≡ Some fits.object) placed.owner fits.is in
    let whole : object_type p x ≡ fits.object.ty = whole_size (slice_get p.objects x) fits.object own in
    let total : size_in p.structs (object_type p x) ≡ Some fits.object.size = ap (λ ty. size_in p.structs ty) whole ∙ ok.sizes x fits.object own in
    let within : offset + size ≤ fits.object.size = at_most (size_in p.structs (object_type p x)) fits.object.size (offset + size) total (ok.inside (object_type p x) part offset size at is) in
    record {
      made = placed.made;
      live = placed.live;
      inside = subst (λ n. offset + size ≤ n) fits.size within;
      aligned = ok.aligned (object_type p x) part offset at;
    }

-- an access to it passes
access_passes : (m : ObjectMemory) (b offset size align : ℕ) → Room m b offset size align → wrong_access m.blocks (record { block = b; offset = pos offset }) size align false ≡ None
access_passes m b offset size align h =
    let even : (offset % align == 0) ≡ true = eq-eqb (offset % align) 0 h.aligned in
    passes_at m.blocks (record { block = b; offset = pos offset }) size align h.live refl h.inside even

bytes_pass : (m : ObjectMemory) (b offset size align : ℕ) → Room m b offset size align → wrong_access m.blocks (record { block = b; offset = pos offset }) size 1 false ≡ None
bytes_pass m b offset size align h = passes_bytes m.blocks (record { block = b; offset = pos offset }) size align false (access_passes m b offset size align h)

-- ---- fills

-- a scalar that fills a part of an object that lives
pub filled_some : (p : TProgramTree) (m : ObjectMemory) (x offset : ℕ) (part : CTypeTree) (ty : Scalar) (v : Value) (o : Option ℕ) → place_of m x ≡ o → IsSome o → AreFillable p
    → KeepsIn p m → PartAt p.structs (object_type p x) offset part → Is part ty → Has (length m.blocks) ty v
    → IsChanged (AreWholeInitials p.initial) p.objects m (option_and_then (λ place. stored m (Some ty) place v) (option_map (λ b. values.Ptr (record { block = b; offset = pos offset })) o))
filled_some p m x offset part ty v None here lives ok k at is hv = absurd (cc)
filled_some p m x offset part ty v (Some b) here lives ok k at is hv =
    let z = scalar_size p.structs part ty is in
    let h = room p m x b offset (size_of ty) part ok k here at z.0 in
    store_changes p.objects m ty (record { block = b; offset = pos offset }) v k h.made hv
    (subst (λ a. wrong_access m.blocks (record { block = b; offset = pos offset }) (size_of ty) a false ≡ None) z.1 (access_passes m b offset (size_of ty) (align_in p.structs part) h))

copied_some : (p : TProgramTree) (m : ObjectMemory) (x offset : ℕ) (part source : CTypeTree) (extent : Extent) (from : Address) (o : Option ℕ) → place_of m x ≡ o → IsSome o
    → AreFillable p → KeepsIn p m → PartAt p.structs (object_type p x) offset part → CopyRow p.structs extent part source
    → wrong_access m.blocks from extent.size 1 false ≡ None
    → IsChanged (AreWholeInitials p.initial) p.objects m (option_and_then (λ target. copied_at m target (values.Ptr from) extent.size) (option_map (λ b. values.Ptr (record { block = b; offset = pos offset })) o))
copied_some p m x offset part source extent from None here lives ok k at row read = absurd (cc)
copied_some p m x offset part source extent from (Some b) here lives ok k at row read =
    let h = room p m x b offset extent.size part ok k here at row.size in
    copy_changes p.objects m (record { block = b; offset = pos offset }) from extent.size k h.made read (bytes_pass m b offset extent.size (align_in p.structs part) h)

pub copied_value : (p : TProgramTree) (m : ObjectMemory) (x offset : ℕ) (part source : CTypeTree) (extent : Extent) (v : Value) → IsSome (place_of m x) → AreFillable p
    → KeepsIn p m → PartAt p.structs (object_type p x) offset part → CopyRow p.structs extent part source → Has (length m.blocks) scalars.Pointer v
    → judge p.objects (read_looks m v extent.size extent.align) ≡ Passes
    → IsChanged (AreWholeInitials p.initial) p.objects m (option_and_then (λ target. copied_at m target v extent.size) (address m x offset))
copied_value p m x offset part source extent (values.Ptr from) lives ok k at row hv e =
    copied_some p m x offset part source extent from (place_of m x) refl lives ok k at row (read_passes p.objects m k from extent hv e)
copied_value p m x offset part source extent values.Null lives ok k at row hv e = absurd (cc)
copied_value p m x offset part source extent (values.Int t z) lives ok k at row hv e = absurd hv.typed

-- memory after its bytes lost their values, and after the rest became 0
undefined_some : {W : Type 0} (objects : List ObjectTree) (m : ObjectMemory) (x : ℕ) (o : Option ℕ) → place_of m x ≡ o → IsSome o → Keeps W objects m
    → IsChanged W objects m (option_map (λ b. record m { blocks = with_undefined m.blocks b }) o)
undefined_some objects m x None e h k = absurd (cc)
undefined_some objects m x (Some b) e h k =
    changed (record m { blocks = with_undefined m.blocks b }) (keeps_undefined _ objects m k x _ (ap (option_map (λ b. record m { blocks = with_undefined m.blocks b })) e)) (length-set _ _ _) refl

zero_count : (z : Bool) (b k : ℕ) (m : List BlockView) → length (if z then m else zero_at b k m) ≡ length m
zero_count true b k m = refl
zero_count false b k m = length-set _ _ _

zeroed_count : (named : ℕ → Bool) (b k : ℕ) (m : List BlockView) → length (zeroed named b k m) ≡ length m
zeroed_count named b zero m = refl
zeroed_count named b (suc k) m = zero_count (named k) b k (zeroed named b k m) ∙ zeroed_count named b k m

rest_some : {W : Type 0} (objects : List ObjectTree) (m : ObjectMemory) (x : ℕ) (inits : List TInitTree) (o : Option ℕ) → place_of m x ≡ o → IsSome o → Keeps W objects m
    → IsChanged W objects m (option_map (λ b. with_blocks m (zeroed (is_named inits) b (length (block_at m.blocks b).bytes) m.blocks)) o)
rest_some objects m x inits None e h k = absurd (cc)
rest_some objects m x inits (Some b) e h k =
    let bytes = length (block_at m.blocks b).bytes in
    let is : rest m x inits ≡ Some (with_blocks m (zeroed (is_named inits) b bytes m.blocks)) =
    ap (option_map (λ c. with_blocks m (zeroed (is_named inits) c (length (block_at m.blocks c).bytes) m.blocks))) e in
    changed (with_blocks m (zeroed (is_named inits) b bytes m.blocks)) (keeps_rest _ objects m x inits _ k is) (zeroed_count (is_named inits) b bytes m.blocks) refl

-- ---- the items of an initialiser

around_inits : (p : TProgramTree) (r : CTypeTree) (x : ℕ) (inits : List TInitTree) (w : List Item) → around p r (init_items x inits w) ≡ around p r w
around_inits p r x [] w = refl
around_inits p r x (Store offset ty e ∷ inits) w = around_inits p r x inits w
around_inits p r x (Copy offset extent e ∷ inits) w = around_inits p r x inits w

abbrev pub IsTypedIn : TProgramTree → Scope → ℕ → TInitTree → Type 0
IsTypedIn p scope x init = IsTypedInit scope (object_type p x) init

module _ (p : TProgramTree) (r : CTypeTree) (x : ℕ) (w : List Item) (ts : List Want) where
  store_item : (offset : ℕ) (ty : CTypeTree) (e : TExprTree) (rest : List Item) → around p r rest ≡ around p r w → (scope_at p r w).program ≡ p → LivesAt p r w x
      → IsTypedIn p (scope_at p r w) x (Store offset ty e) → Takes p r rest ts → Takes p r (Eval e ∷ Fill x offset (scalar_of ty) ∷ rest) ts
  store_item offset ty e behind same z lives (te, at, row) k =
      let c = store_row ty (given_type e) row in
      let at_p = subst (λ (q : TProgramTree). PartAt q.structs (object_type p x) offset ty) z at in
      let here = subst (λ (a : Around). Contains a.standing.scope.live x) (sym same) lives in
      rw (c.1) (eval true (subst (λ (a : Around). IsTypedExpr a.standing.scope true e) (sym same) te)
      (as_top p r _ _ _ _ (want_is (given_type e) c.0 c.2) (fill here at_p c.1 k)))

  copy_item : (offset : ℕ) (extent : Extent) (e : TExprTree) (rest : List Item) → around p r rest ≡ around p r w → (scope_at p r w).program ≡ p → LivesAt p r w x
      → IsTypedIn p (scope_at p r w) x (Copy offset extent e) → Takes p r rest ts → Takes p r (Eval e ∷ FillCopy x offset extent ∷ rest) ts
  copy_item offset extent e behind same z lives (te, part, at, row) k =
      let at_p = subst (λ (q : TProgramTree). PartAt q.structs (object_type p x) offset part) z at in
      let row_p = subst (λ (q : TProgramTree). CopyRow q.structs extent part (given_type e)) z row in
      let here = subst (λ (a : Around). Contains a.standing.scope.live x) (sym same) lives in
      eval true (subst (λ (a : Around). IsTypedExpr a.standing.scope true e) (sym same) te)
      (as_top p r _ _ _ _ (ap want_of row.source_struct) (fill_copy here at_p row_p k))

  pub takes_inits : (inits : List TInitTree) → (scope_at p r w).program ≡ p → LivesAt p r w x → All (IsTypedIn p (scope_at p r w) x) inits → Takes p r w ts
      → Takes p r (init_items x inits w) ts
  takes_inits [] z lives h k = k
  takes_inits (Store offset ty e ∷ inits) z lives h k =
      store_item offset ty e (init_items x inits w) (around_inits p r x inits w) z lives (All-head (IsTypedIn p (scope_at p r w) x) (Store offset ty e) inits h)
      (takes_inits inits z lives (All-tail (IsTypedIn p (scope_at p r w) x) (Store offset ty e) inits h) k)
  takes_inits (Copy offset extent e ∷ inits) z lives h k =
      copy_item offset extent e (init_items x inits w) (around_inits p r x inits w) z lives (All-head (IsTypedIn p (scope_at p r w) x) (Copy offset extent e) inits h)
      (takes_inits inits z lives (All-tail (IsTypedIn p (scope_at p r w) x) (Copy offset extent e) inits h) k)

closes_inits : (x : ℕ) (inits : List TInitTree) (w : List Item) (y : ℕ) → Closes (init_items x inits w) y → Closes w y
closes_inits x [] w y h = h
closes_inits x (Store offset ty e ∷ inits) w y h = closes_inits x inits w y h
closes_inits x (Copy offset extent e ∷ inits) w y h = closes_inits x inits w y h

inits_closes : (x : ℕ) (inits : List TInitTree) (w : List Item) (y : ℕ) → Closes w y → Closes (init_items x inits w) y
inits_closes x [] w y h = h
inits_closes x (Store offset ty e ∷ inits) w y h = inits_closes x inits w y h
inits_closes x (Copy offset extent e ∷ inits) w y h = inits_closes x inits w y h

lives_inits : (p : TProgramTree) (x : ℕ) (inits : List TInitTree) (w : List Item) (y : ℕ) → Lives p (init_items x inits w) y → Lives p w y
lives_inits p x inits w y (inl g) = inl g
lives_inits p x inits w y (inr g) = inr (closes_inits x inits w y g)

inits_lives : (p : TProgramTree) (x : ℕ) (inits : List TInitTree) (w : List Item) (y : ℕ) → Lives p w y → Lives p (init_items x inits w) y
inits_lives p x inits w y (inl g) = inl g
inits_lives p x inits w y (inr g) = inr (inits_closes x inits w y g)

pub live_inits : (p : TProgramTree) (x : ℕ) (inits : List TInitTree) (w : List Item) (m : ObjectMemory) → AreLive p w m → AreLive p (init_items x inits w) m
live_inits p x inits w m l = ((λ y g. l.0 y (lives_inits p x inits w y g)), (λ y h. inits_lives p x inits w y (l.1 y h)))

ready_inits : (p : TProgramTree) (x : ℕ) (inits : List TInitTree) (w : List Item) (u : Use) → IsReady p w u → IsReady p (init_items x inits w) u
ready_inits p x inits w (Object y) (lt, f) = (lt, λ g. f (lives_inits p x inits w y g))
ready_inits p x inits w (Called g) h = h

pub parted_inits : (p : TProgramTree) (x : ℕ) (inits : List TInitTree) (w : List Item) → ((u : Use) → OpensInits (OpensCall p) inits u → IsReady p w u)
    → Parted (OpensCall p) p w → Parted (OpensCall p) p (init_items x inits w)
parted_inits p x [] w f q = q
parted_inits p x (Store offset ty e ∷ inits) w f q =
    ((λ u o. ready_inits p x inits w u (f u (inl o))), tt, ((λ u o. absurd o), tt, parted_inits p x inits w (λ u o. f u (inr o)) q))
parted_inits p x (Copy offset extent e ∷ inits) w f q =
    ((λ u o. ready_inits p x inits w u (f u (inl o))), tt, ((λ u o. absurd o), tt, parted_inits p x inits w (λ u o. f u (inr o)) q))

-- ---- rows

module _ (p : TProgramTree) (ok : AreFillable p) where
  -- what comes behind a change of memory that gives nothing to the stack
  pub goes_after : (m : ObjectMemory) {o : Option ObjectMemory} (r : CTypeTree) (w : List Item) (ts : List Want) (s : List Held) (i : List ℤ)
      → IsChanged (AreWholeInitials p.initial) p.objects m o → Takes p r w ts → Stacked (length m.blocks) ts s → Parted (OpensCall p) p w → AreLive p w m → On p (with_some o (λ n. goes w s n i))
  goes_after m r w ts s i (changed n kept blocks places) k d q l =
      fit p r w s n i _ k (subst (λ c. Stacked c ts s) (sym blocks) d) q (
        (λ y o. subst (λ (ps : List (Option ℕ)). IsSome (slice_index_or ps y None)) (sym places) (l.0 y o)),
        (λ y o. l.1 y (subst (λ (ps : List (Option ℕ)). IsSome (slice_index_or ps y None)) places o)),
      ) kept

  pub fill_row : (x offset : ℕ) (part : CTypeTree) (ty : Scalar) (v : Value) (r : CTypeTree) (w : List Item) (ts : List Want) → Lives p w x
      → PartAt p.structs (object_type p x) offset part → Is part ty → Takes p r w ts → (s : List Held) (m : ObjectMemory) (i : List ℤ) → Has (length m.blocks) ty v
      → Stacked (length m.blocks) ts s → Parted (OpensCall p) p w → AreLive p w m → KeepsIn p m → On p (fill_step x offset (Some ty) v w s m i)
  fill_row x offset part ty v r w ts lives at is k s m i hv d q l h =
      goes_after m r w ts s i (filled_some p m x offset part ty v (place_of m x) refl (l.0 x lives) ok h at is hv) k d q l

  pub fill_copy_row : (x offset : ℕ) (part source : CTypeTree) (extent : Extent) (from : Pos) (v : Value) (r : CTypeTree) (w : List Item) (ts : List Want) → Lives p w x
      → PartAt p.structs (object_type p x) offset part → CopyRow p.structs extent part source → Takes p r w ts → (s : List Held) (m : ObjectMemory) (i : List ℤ)
      → Has (length m.blocks) scalars.Pointer v → Stacked (length m.blocks) ts s → Parted (OpensCall p) p w → AreLive p w m → KeepsIn p m
      → On p (fill_copy_step p.objects x offset extent from v w s m i)
  fill_copy_row x offset part source extent from v r w ts lives at row k s m i hv d q l h =
      judged_after (Fits p) (judge p.objects (read_looks m v extent.size extent.align)) from
      (with_some (option_and_then (λ target. copied_at m target v extent.size) (address m x offset)) (λ n. goes w s n i))
      (read_has p.objects m h v extent.size extent.align hv)
      (λ e. goes_after m r w ts s i (copied_value p m x offset part source extent v (l.0 x lives) ok h at row hv e) k d q l)

  pub rest_row : (x : ℕ) (inits : List TInitTree) (r : CTypeTree) (w : List Item) (ts : List Want) → Lives p w x → Takes p r w ts → (s : List Held) (m : ObjectMemory)
      (i : List ℤ) → Stacked (length m.blocks) ts s → Parted (OpensCall p) p w → AreLive p w m → KeepsIn p m → On p (rest_step (rest m x inits) w s i)
  rest_row x inits r w ts lives k s m i d q l h = goes_after m r w ts s i (rest_some p.objects m x inits (place_of m x) refl (l.0 x lives) h) k d q l

  -- the declaration of an object: it loses its value, and then its items are done
  takes_rest : (x : ℕ) (inits : List TInitTree) (z : Bool) (r : CTypeTree) (w : List Item) (ts : List Want) → LivesAt p r w x → Takes p r w ts
      → Takes p r (rest_items x inits z w) ts
  takes_rest x inits true r w ts lives k = rules.rest lives k
  takes_rest x inits false r w ts lives k = k

  around_rest : (x : ℕ) (inits : List TInitTree) (z : Bool) (r : CTypeTree) (w : List Item) → around p r (rest_items x inits z w) ≡ around p r w
  around_rest x inits true r w = refl
  around_rest x inits false r w = refl

  ready_rest : (x : ℕ) (inits : List TInitTree) (z : Bool) (w : List Item) (u : Use) → IsReady p w u → IsReady p (rest_items x inits z w) u
  ready_rest x inits true w u h = h
  ready_rest x inits false w u h = h

  parted_rest : (x : ℕ) (inits : List TInitTree) (z : Bool) (w : List Item) → Parted (OpensCall p) p w → Parted (OpensCall p) p (rest_items x inits z w)
  parted_rest x inits true w q = ((λ u o. absurd o), tt, q)
  parted_rest x inits false w q = q

  live_rest : (x : ℕ) (inits : List TInitTree) (z : Bool) (w : List Item) (m : ObjectMemory) → AreLive p w m → AreLive p (rest_items x inits z w) m
  live_rest x inits true w m l = l
  live_rest x inits false w m l = l

  pub declare_row : (x : ℕ) (inits : List TInitTree) (z : Bool) (r : CTypeTree) (w : List Item) (ts : List Want) → (scope_at p r w).program ≡ p → Lives p w x
      → LivesAt p r w x → All (IsTypedIn p (scope_at p r w) x) inits → Takes p r w ts → (s : List Held) (m : ObjectMemory) (i : List ℤ) → Stacked (length m.blocks) ts s
      → ((u : Use) → OpensInits (OpensCall p) inits u → IsReady p w u) → Parted (OpensCall p) p w → AreLive p w m → KeepsIn p m
      → On p (with_some (undefined m x) (λ n. goes (init_items x inits (rest_items x inits z w)) s n i))
  declare_row x inits z r w ts same lives here typed k s m i d f q l h =
      let a = around_rest x inits z r w in
      goes_after m r (init_items x inits (rest_items x inits z w)) ts s i (undefined_some p.objects m x (place_of m x) refl (l.0 x lives) h)
      (takes_inits p r x (rest_items x inits z w) ts inits (subst (λ (b : Around). b.standing.scope.program ≡ p) (sym a) same)
      (subst (λ (b : Around). Contains b.standing.scope.live x) (sym a) here) (subst (λ (b : Around). All (IsTypedIn p b.standing.scope x) inits) (sym a) typed)
      (takes_rest x inits z r w ts here k)) d
      (parted_inits p x inits (rest_items x inits z w) (λ u o. ready_rest x inits z w u (f u o)) (parted_rest x inits z w q))
      (live_inits p x inits (rest_items x inits z w) m (live_rest x inits z w m l))
