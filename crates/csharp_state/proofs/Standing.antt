-- What the code's memory answers, and what is read of its blocks.
use Rattle.std.proofs.Common.{◌≡◌, ℕ, ◌<◌, ◌≤◌, Bool, true, false, refl, sym, subst, ap, ◌∙◌, List, length, Option, Some, None, inl, inr, ◌⊎◌}
use Rattle.std.specs.Prelude.{Result, Ok, Err, is_some, not}
use Rattle.std.proofs.lemmas.Bool.{cases_lt}
use Rattle.std.proofs.lemmas.List.{get_or_past}
use Rattle.c_syntax.specs.declared.alarm.Spot.{Spot}
use Rattle.c_syntax.specs.declared.alarm.WrongKind.{WrongKind}
use Rattle.c_syntax.specs.declared.alarm.WrongKind.TheVariants as kinds
use Rattle.c_syntax.specs.Types.{ObjectTree}
use Rattle.c_syntax.specs.Operand.{Operand, LoadMark, Point, Mark}
use Rattle.c_syntax.specs.Operand as operands
use Rattle.block_mem.specs.declared.types.Byte.{Byte}
use Rattle.block_mem.specs.declared.types.Pointer.{Pointer}
use Rattle.block_mem.specs.declared.types.Scalar.{Scalar}
use Rattle.block_mem.specs.declared.types.Value.{Value}
use Rattle.block_mem.specs.declared.types.Value.TheVariants as values
use Rattle.block_mem.specs.Block.{BlockView, wrong_in}
use Rattle.block_mem.specs.Blocks.{no_block, wrong_access, bytes_at, loaded, load, after_access}
use Rattle.block_mem.specs.Bytes.{size_of, has_undef, value_of, mark_of}
use Rattle.c_values.specs.Accesses.{load_at, mark, ok_of, read_looks}
use Rattle.c_values.specs.Looks.{Passes, FailsAs, Gives, GoesWrong, judge}
use Rattle.c_values.specs.Memory.{found, load_outcome}
use Rattle.c_values.specs.Places.{ObjectMemory, spot_at}
use Rattle.c_values.proofs.Accesses.{reads, loads}
use Rattle.c_objects.specs.Kept.{FitsAt}
use Rattle.csharp.specs.Actions.{loaded_at}
use Rattle.csharp_state.specs.Belongs.{HasObjects}
use Rattle.csharp_state.specs.Reading.{can_read}

-- an access of a block that was not made
pub unmade : (bs : List BlockView) (p : Pointer) (n align : ℕ) → length bs ≤ p.block → wrong_access bs p n align false ≡ Some kinds.Dangling
unmade bs p n align h = ap (λ (b : BlockView). wrong_in b p.offset n align false) (get_or_past bs p.block no_block h)

pub unread : (m : ObjectMemory) (p : Pointer) (n align : ℕ) → length m.blocks ≤ p.block → can_read m (values.Ptr p) n align ≡ false
unread m p n align h = ap (λ (w : Option WrongKind). not (is_some w)) (unmade m.blocks p n align h)

pub unloaded : (m : ObjectMemory) (p : Pointer) (ty : Scalar) → length m.blocks ≤ p.block → loaded_at m ty (values.Ptr p) ≡ None
unloaded m p ty h =
    ap (λ (w : Option WrongKind). ok_of (after_access w (loaded ty (bytes_at m.blocks p (size_of ty))))) (unmade m.blocks p (size_of ty) (size_of ty) h)

passing : (x : Operand) (w : Option WrongKind) → found x w ≡ Passes → not (is_some w) ≡ true
passing x None e = refl
passing x (Some k) e = absurd (cc)

failing : (x y : Operand) (k : WrongKind) (w : Option WrongKind) → found x w ≡ FailsAs k y → not (is_some w) ≡ false
failing x y k None e = absurd (cc)
failing x y k (Some l) e = refl

pub readable : (m : ObjectMemory) (p : Pointer) (n align : ℕ) → HasObjects m → p.block < length m.blocks
    → ((objects : List ObjectTree) → FitsAt objects m (values.Ptr p) → judge objects (read_looks m (values.Ptr p) n align) ≡ Passes)
    → can_read m (values.Ptr p) n align ≡ true
readable m p n align h made e =
    let f = h.1.fits p.block made in
    passing (Point (spot_at m p)) (wrong_access m.blocks p n align false) (sym (reads h.0 m p n align f) ∙ e h.0 f)

pub unreadable : (m : ObjectMemory) (p : Pointer) (n align : ℕ) (k : WrongKind) (x : Operand) → HasObjects m → p.block < length m.blocks
    → ((objects : List ObjectTree) → FitsAt objects m (values.Ptr p) → judge objects (read_looks m (values.Ptr p) n align) ≡ FailsAs k x)
    → can_read m (values.Ptr p) n align ≡ false
unreadable m p n align k x h made e =
    let f = h.1.fits p.block made in
    failing (Point (spot_at m p)) x k (wrong_access m.blocks p n align false) (sym (reads h.0 m p n align f) ∙ e h.0 f)

gives : (s : Spot) (r : Result Value WrongKind) (v : Value) → load_outcome s r ≡ Gives v → r ≡ Ok v
gives s (Ok u) v e = let same : u ≡ v = cc in ap Ok same
gives s (Err k) v e = absurd (cc)

goes_wrong : (s : Spot) (r : Result Value WrongKind) (k : WrongKind) (x : Operand) → load_outcome s r ≡ GoesWrong k x → r ≡ Err k
goes_wrong s (Ok u) k x e = absurd (cc)
goes_wrong s (Err l) k x e = let same : l ≡ k = cc in ap Err same

pub loads_value : (m : ObjectMemory) (p : Pointer) (ty : Scalar) (v : Value) → HasObjects m → p.block < length m.blocks
    → ((objects : List ObjectTree) → FitsAt objects m (values.Ptr p) → load_at objects m (Some ty) (values.Ptr p) ≡ Gives v)
    → load m.blocks p ty ≡ Ok v
loads_value m p ty v h made e =
    let f = h.1.fits p.block made in gives (spot_at m p) (load m.blocks p ty) v (sym (loads h.0 m p ty f) ∙ e h.0 f)

pub loads_nothing : (m : ObjectMemory) (p : Pointer) (ty : Scalar) (k : WrongKind) (x : Operand) → HasObjects m → p.block < length m.blocks
    → ((objects : List ObjectTree) → FitsAt objects m (values.Ptr p) → load_at objects m (Some ty) (values.Ptr p) ≡ GoesWrong k x)
    → load m.blocks p ty ≡ Err k
loads_nothing m p ty k x h made e =
    let f = h.1.fits p.block made in goes_wrong (spot_at m p) (load m.blocks p ty) k x (sym (loads h.0 m p ty f) ∙ e h.0 f)

-- ---- marks

value_marked : (ty : Scalar) (bs : List Byte) (v : Value) (u : Bool) (r : Option Value) → has_undef bs ≡ u → value_of ty bs ≡ r → loaded ty bs ≡ Ok v
    → mark_of ty bs ≡ operands.HasValue
value_marked ty bs v true r e f h = let no = rw e at h in absurd (cc)
value_marked ty bs v false None e f h = let no = rw (e, f) at h in absurd (cc)
value_marked ty bs v false (Some w) e f h = rw e (rw f refl)

undef_marked : (ty : Scalar) (bs : List Byte) (u : Bool) (r : Option Value) → has_undef bs ≡ u → value_of ty bs ≡ r → loaded ty bs ≡ Err kinds.Indeterminate
    → mark_of ty bs ≡ operands.Undef
undef_marked ty bs true r e f h = rw e refl
undef_marked ty bs false None e f h = let no = rw (e, f) at h in absurd (cc)
undef_marked ty bs false (Some w) e f h = let no = rw (e, f) at h in absurd (cc)

broken_marked : (ty : Scalar) (bs : List Byte) (u : Bool) (r : Option Value) → has_undef bs ≡ u → value_of ty bs ≡ r → loaded ty bs ≡ Err kinds.Fragment
    → mark_of ty bs ≡ operands.Broken
broken_marked ty bs true r e f h = let no = rw e at h in absurd (cc)
broken_marked ty bs false None e f h = rw e (rw f refl)
broken_marked ty bs false (Some w) e f h = let no = rw (e, f) at h in absurd (cc)

-- what is wrong with bytes is that one has no value, or that they are no value of the type
wrong_bytes : (ty : Scalar) (bs : List Byte) (k : WrongKind) (u : Bool) (r : Option Value) → has_undef bs ≡ u → value_of ty bs ≡ r → loaded ty bs ≡ Err k
    → (k ≡ kinds.Indeterminate → ⊥) → (k ≡ kinds.Fragment → ⊥) → ⊥
wrong_bytes ty bs k true r e f h nor neither = let is = rw e at h in nor (cc)
wrong_bytes ty bs k false None e f h nor neither = let is = rw (e, f) at h in neither (cc)
wrong_bytes ty bs k false (Some w) e f h nor neither = let is = rw (e, f) at h in absurd (cc)

unwrong : (w : Option WrongKind) → not (is_some w) ≡ true → w ≡ None
unwrong None e = refl
unwrong (Some k) e = absurd (cc)

module _ (m : ObjectMemory) (p : Pointer) (ty : Scalar) (h : HasObjects m) (r : can_read m (values.Ptr p) (size_of ty) (size_of ty) ≡ true) where
  none_wrong : wrong_access m.blocks p (size_of ty) (size_of ty) false ≡ None
  none_wrong = unwrong (wrong_access m.blocks p (size_of ty) (size_of ty) false) r

  made_case : (p.block < length m.blocks) ⊎ (length m.blocks ≤ p.block) → p.block < length m.blocks
  made_case (inl made) = made
  made_case (inr past) = let no : None ≡ Some kinds.Dangling = sym none_wrong ∙ unmade m.blocks p (size_of ty) (size_of ty) past in absurd (cc)

  pub read_made : p.block < length m.blocks
  read_made = made_case (cases_lt p.block (length m.blocks))

  bs : List Byte
  bs = bytes_at m.blocks p (size_of ty)

  is_loaded : load m.blocks p ty ≡ loaded ty (bytes_at m.blocks p (size_of ty))
  is_loaded = ap (λ (w : Option WrongKind). after_access w (loaded ty (bytes_at m.blocks p (size_of ty)))) none_wrong

  pub marks_value : (v : Value) → ((objects : List ObjectTree) → FitsAt objects m (values.Ptr p) → load_at objects m (Some ty) (values.Ptr p) ≡ Gives v)
      → mark m (Some ty) (values.Ptr p) ≡ Some (Mark operands.HasValue)
  marks_value v e = ap (λ (k : LoadMark). Some (Mark k))
      (value_marked ty (bytes_at m.blocks p (size_of ty)) v _ _ refl refl (sym is_loaded ∙ loads_value m p ty v h read_made e))

  pub marks_undef : (k : WrongKind) (x : Operand) → k ≡ kinds.Indeterminate
      → ((objects : List ObjectTree) → FitsAt objects m (values.Ptr p) → load_at objects m (Some ty) (values.Ptr p) ≡ GoesWrong k x)
      → mark m (Some ty) (values.Ptr p) ≡ Some (Mark operands.Undef)
  marks_undef k x is e = ap (λ (k : LoadMark). Some (Mark k))
      (undef_marked ty (bytes_at m.blocks p (size_of ty)) _ _ refl refl (sym is_loaded ∙ loads_nothing m p ty k x h read_made e ∙ ap Err is))

  pub marks_broken : (k : WrongKind) (x : Operand) → k ≡ kinds.Fragment
      → ((objects : List ObjectTree) → FitsAt objects m (values.Ptr p) → load_at objects m (Some ty) (values.Ptr p) ≡ GoesWrong k x)
      → mark m (Some ty) (values.Ptr p) ≡ Some (Mark operands.Broken)
  marks_broken k x is e = ap (λ (k : LoadMark). Some (Mark k))
      (broken_marked ty (bytes_at m.blocks p (size_of ty)) _ _ refl refl (sym is_loaded ∙ loads_nothing m p ty k x h read_made e ∙ ap Err is))

  pub marks_some : (k : WrongKind) (x : Operand) → (k ≡ kinds.Indeterminate → ⊥) → (k ≡ kinds.Fragment → ⊥)
      → ((objects : List ObjectTree) → FitsAt objects m (values.Ptr p) → load_at objects m (Some ty) (values.Ptr p) ≡ GoesWrong k x) → ⊥
  marks_some k x nor neither e =
      wrong_bytes ty (bytes_at m.blocks p (size_of ty)) k _ _ refl refl (sym is_loaded ∙ loads_nothing m p ty k x h read_made e) nor neither

-- ---- the same, where the code names memory and the place otherwise

module _ (m n : ObjectMemory) (place : Value) (p : Pointer) (e : m ≡ n) (is : place ≡ values.Ptr p) (h : HasObjects m) where
  objects_there : HasObjects n
  objects_there = subst HasObjects e h

  pub readable_at : (size align : ℕ) → p.block < length n.blocks
      → ((objects : List ObjectTree) → FitsAt objects n (values.Ptr p) → judge objects (read_looks n (values.Ptr p) size align) ≡ Passes)
      → true ≡ can_read m place size align
  readable_at size align made f =
      subst (λ (x : ObjectMemory). true ≡ can_read x place size align) (sym e)
      (subst (λ (v : Value). true ≡ can_read n v size align) (sym is) (sym (readable n p size align objects_there made f)))

  pub unreadable_at : (size align : ℕ) (k : WrongKind) (x : Operand) → p.block < length n.blocks
      → ((objects : List ObjectTree) → FitsAt objects n (values.Ptr p) → judge objects (read_looks n (values.Ptr p) size align) ≡ FailsAs k x)
      → false ≡ can_read m place size align
  unreadable_at size align k x made f =
      subst (λ (y : ObjectMemory). false ≡ can_read y place size align) (sym e)
      (subst (λ (v : Value). false ≡ can_read n v size align) (sym is) (sym (unreadable n p size align k x objects_there made f)))

  pub value_at : (ty : Scalar) (v : Value) → p.block < length n.blocks
      → ((objects : List ObjectTree) → FitsAt objects n (values.Ptr p) → load_at objects n (Some ty) (values.Ptr p) ≡ Gives v)
      → Some v ≡ loaded_at m ty place
  value_at ty v made f =
      subst (λ (y : ObjectMemory). Some v ≡ loaded_at y ty place) (sym e)
      (subst (λ (u : Value). Some v ≡ loaded_at n ty u) (sym is) (sym (ap ok_of (loads_value n p ty v objects_there made f))))

  pub nothing_at : (ty : Scalar) (k : WrongKind) (x : Operand) → p.block < length n.blocks
      → ((objects : List ObjectTree) → FitsAt objects n (values.Ptr p) → load_at objects n (Some ty) (values.Ptr p) ≡ GoesWrong k x)
      → None ≡ loaded_at m ty place
  nothing_at ty k x made f =
      subst (λ (y : ObjectMemory). None ≡ loaded_at y ty place) (sym e)
      (subst (λ (u : Value). None ≡ loaded_at n ty u) (sym is) (sym (ap ok_of (loads_nothing n p ty k x objects_there made f))))

module _ (m n : ObjectMemory) (p : Pointer) (ty : Scalar) (size : ℕ) (e : m ≡ n) (h : HasObjects m) (s : size ≡ size_of ty)
    (r : can_read m (values.Ptr p) size size ≡ true) where
  read_there : can_read m (values.Ptr p) (size_of ty) (size_of ty) ≡ true
  read_there = subst (λ k. can_read m (values.Ptr p) k k ≡ true) s r

  pub value_mark : (v : Value) → ((objects : List ObjectTree) → FitsAt objects n (values.Ptr p) → load_at objects n (Some ty) (values.Ptr p) ≡ Gives v)
      → mark m (Some ty) (values.Ptr p) ≡ Some (Mark operands.HasValue)
  value_mark v f = marks_value m p ty h read_there v
      (subst (λ (y : ObjectMemory). (objects : List ObjectTree) → FitsAt objects y (values.Ptr p) → load_at objects y (Some ty) (values.Ptr p) ≡ Gives v) (sym e) f)

  pub undef_mark : (k : WrongKind) (x : Operand) → k ≡ kinds.Indeterminate
      → ((objects : List ObjectTree) → FitsAt objects n (values.Ptr p) → load_at objects n (Some ty) (values.Ptr p) ≡ GoesWrong k x)
      → mark m (Some ty) (values.Ptr p) ≡ Some (Mark operands.Undef)
  undef_mark k x is f = marks_undef m p ty h read_there k x is
      (subst (λ (y : ObjectMemory). (objects : List ObjectTree) → FitsAt objects y (values.Ptr p) → load_at objects y (Some ty) (values.Ptr p) ≡ GoesWrong k x)
      (sym e) f)

  pub broken_mark : (k : WrongKind) (x : Operand) → k ≡ kinds.Fragment
      → ((objects : List ObjectTree) → FitsAt objects n (values.Ptr p) → load_at objects n (Some ty) (values.Ptr p) ≡ GoesWrong k x)
      → mark m (Some ty) (values.Ptr p) ≡ Some (Mark operands.Broken)
  broken_mark k x is f = marks_broken m p ty h read_there k x is
      (subst (λ (y : ObjectMemory). (objects : List ObjectTree) → FitsAt objects y (values.Ptr p) → load_at objects y (Some ty) (values.Ptr p) ≡ GoesWrong k x)
      (sym e) f)

  pub some_mark : (k : WrongKind) (x : Operand) → (k ≡ kinds.Indeterminate → ⊥) → (k ≡ kinds.Fragment → ⊥)
      → ((objects : List ObjectTree) → FitsAt objects n (values.Ptr p) → load_at objects n (Some ty) (values.Ptr p) ≡ GoesWrong k x) → ⊥
  some_mark k x nor neither f = marks_some m p ty h read_there k x nor neither
      (subst (λ (y : ObjectMemory). (objects : List ObjectTree) → FitsAt objects y (values.Ptr p) → load_at objects y (Some ty) (values.Ptr p) ≡ GoesWrong k x)
      (sym e) f)
