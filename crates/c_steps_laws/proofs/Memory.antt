-- Loads, stores and copies in a memory that keeps what it keeps.
use Rattle.std.proofs.Common.{◌≡◌, ◌<◌, ◌≤◌, ◌+◌, ◌%◌, ℕ, ℤ, pos, Bool, true, false, List, length, Option, Some, None, refl, sym, ap, ◌∙◌, subst, arith}
use Rattle.std.specs.Prelude.{nat_le, ◌==◌}
use Rattle.std.proofs.lemmas.Bool.{le-leb, eq-eqb}
use Rattle.std.proofs.lemmas.List.{length-set}
use Rattle.c_syntax.specs.declared.alarm.WrongKind.{WrongKind}
use Rattle.c_syntax.specs.declared.operator.Extent.{Extent}
use Rattle.c_syntax.specs.Types.{ObjectTree}
use Rattle.c_syntax.specs.Operand.{Operand, Point}
use Rattle.block_mem.specs.declared.types.Pointer.{Pointer}
use Rattle.block_mem.specs.declared.types.Scalar.{Scalar}
use Rattle.block_mem.specs.declared.types.Scalar.TheVariants as scalars
use Rattle.block_mem.specs.declared.types.Value.{Value}
use Rattle.block_mem.specs.declared.types.Value.TheVariants as values
use Rattle.block_mem.specs.Block.{BlockView, place_of, is_inside, is_aligned}
use Rattle.block_mem.specs.Blocks.{block_at, wrong_access, store, copy, place}
use Rattle.block_mem.specs.Bytes.{size_of}
use Rattle.block_mem.proofs.StoreLaws.{passing}
use Rattle.c_values.specs.Accesses.{read_looks, write_looks, store_looks}
use Rattle.c_values.specs.Looks.{Passes, NoOperand, judge}
use Rattle.c_values.specs.Memory.{found}
use Rattle.c_values.specs.Places.{ObjectMemory, spot_at}
use Rattle.c_values.proofs.Accesses.{reads, writes, stores}
use Rattle.c_objects.specs.Writing.{with_blocks, unless_wrong, stored_at, copied_at}
use Rattle.c_objects.proofs.Writes.{keeps_stored, keeps_copied}
use Rattle.c_steps.specs.Changes.{stored}
use Rattle.c_steps_laws.proofs.Values.{Has}
use Rattle.c_objects.proofs.Keeping.{Keeps}

-- ---- looks at accesses are never without an operand

pub found_passes : (x : Operand) (w : Option WrongKind) → found x w ≡ Passes → w ≡ None
found_passes x None h = refl
found_passes x (Some kind) h = absurd (cc)

found_has : (x : Operand) (w : Option WrongKind) → found x w ≡ NoOperand → ⊥
found_has x None h = absurd (cc)
found_has x (Some kind) h = absurd (cc)

module _ {W : Type 0} (objects : List ObjectTree) (m : ObjectMemory) (kept : Keeps W objects m) where
  pub read_has : (v : Value) (size align : ℕ) → Has (length m.blocks) scalars.Pointer v → judge objects (read_looks m v size align) ≡ NoOperand → ⊥
  read_has (values.Ptr p) size align hv h =
      found_has (Point (spot_at m p)) (wrong_access m.blocks p size align false) (sym (reads objects m p size align (kept.fits p.block hv.made)) ∙ h)
  read_has values.Null size align hv h = absurd (cc)
  read_has (values.Int t z) size align hv h = absurd hv.typed

  pub write_has : (v : Value) (size align : ℕ) → Has (length m.blocks) scalars.Pointer v → judge objects (write_looks m v size align) ≡ NoOperand → ⊥
  write_has (values.Ptr p) size align hv h =
      found_has (Point (spot_at m p)) (wrong_access m.blocks p size align true) (sym (writes objects m p size align (kept.fits p.block hv.made)) ∙ h)
  write_has values.Null size align hv h = absurd (cc)
  write_has (values.Int t z) size align hv h = absurd hv.typed

  pub store_has : (ty : Scalar) (v : Value) → Has (length m.blocks) scalars.Pointer v → judge objects (store_looks m (Some ty) v) ≡ NoOperand → ⊥
  store_has ty (values.Ptr p) hv h =
      found_has (Point (spot_at m p)) (wrong_access m.blocks p (size_of ty) (size_of ty) true) (sym (stores objects m p ty (kept.fits p.block hv.made)) ∙ h)
  store_has ty values.Null hv h = absurd (cc)
  store_has ty (values.Int t z) hv h = absurd hv.typed

-- ---- an access that passes

-- an access inside its block, at a multiple of its alignment
pub passes_at : (m : List BlockView) (p : Pointer) (n align : ℕ) → (block_at m p.block).live ≡ true → p.offset ≡ pos (place p)
    → place p + n ≤ length (block_at m p.block).bytes → is_aligned (place_of p.offset) align ≡ true → wrong_access m p n align false ≡ None
passes_at m p n align live at inside aligned =
    let fits : nat_le (place p + n) (length (block_at m p.block).bytes) ≡ true = le-leb (place p + n) (length (block_at m p.block).bytes) inside in
    let within : is_inside (place_of p.offset) n (length (block_at m p.block).bytes) ≡ true =
    subst (λ (o : ℤ). is_inside (place_of o) n (length (block_at m p.block).bytes) ≡ true) (sym at) fits in
    rw live (rw within (rw aligned refl))

-- of an access that passes the same bytes may be read one by one
pub passes_bytes : (m : List BlockView) (p : Pointer) (n align : ℕ) (write : Bool) → wrong_access m p n align write ≡ None → wrong_access m p n 1 false ≡ None
passes_bytes m p n align write h =
    let a = passing m p n align write h in
    let one : place p % 1 ≡ 0 = omega arith in
    let even : (place p % 1 == 0) ≡ true = eq-eqb (place p % 1) 0 one in
    passes_at m p n 1 a.live a.offset a.inside (subst (λ (o : ℤ). is_aligned (place_of o) 1 ≡ true) (sym a.offset) even)

-- ---- memory after a change

-- the change is made; blocks stay as many, and objects where they are
pub data IsChanged (W : Type 0) (objects : List ObjectTree) (m : ObjectMemory) : Option ObjectMemory → Type 0 where
  changed : (n : ObjectMemory) → Keeps W objects n → length n.blocks ≡ length m.blocks → n.places ≡ m.places → IsChanged W objects m (Some n)

pub store_changes : {W : Type 0} (objects : List ObjectTree) (m : ObjectMemory) (ty : Scalar) (p : Pointer) (v : Value) → Keeps W objects m → p.block < length m.blocks
    → Has (length m.blocks) ty v → wrong_access m.blocks p (size_of ty) (size_of ty) false ≡ None → IsChanged W objects m (stored_at m ty (values.Ptr p) v)
store_changes {W = W} objects m ty p v kept made hv none =
    let is : stored_at m ty (values.Ptr p) v ≡ Some (with_blocks m (store m.blocks p v)) = ap (λ w. unless_wrong w (Some (with_blocks m (store m.blocks p v)))) none in
    subst (λ o. IsChanged W objects m o) (sym is)
    (changed (with_blocks m (store m.blocks p v)) (keeps_stored W objects m kept ty (values.Ptr p) v _ made hv.typed hv.made is) (length-set _ _ _) refl)

pub copy_changes : {W : Type 0} (objects : List ObjectTree) (m : ObjectMemory) (to from : Pointer) (n : ℕ) → Keeps W objects m → to.block < length m.blocks
    → wrong_access m.blocks from n 1 false ≡ None → wrong_access m.blocks to n 1 false ≡ None
    → IsChanged W objects m (copied_at m (values.Ptr to) (values.Ptr from) n)
copy_changes {W = W} objects m to from n kept made source target =
    let done = Some (with_blocks m (copy m.blocks to from n)) in
    let is : copied_at m (values.Ptr to) (values.Ptr from) n ≡ done = ap (λ w. unless_wrong w (unless_wrong (wrong_access m.blocks to n 1 false) done)) source
    ∙ ap (λ w. unless_wrong w done) target in
    subst (λ o. IsChanged W objects m o) (sym is)
    (changed (with_blocks m (copy m.blocks to from n)) (keeps_copied W objects m kept (values.Ptr to) (values.Ptr from) n _ made is) (length-set _ _ _) refl)

module _ {W : Type 0} (objects : List ObjectTree) (m : ObjectMemory) (kept : Keeps W objects m) where
  -- where the looks of a read pass, its bytes may be read
  pub read_passes : (p : Pointer) (extent : Extent) → Has (length m.blocks) scalars.Pointer (values.Ptr p)
      → judge objects (read_looks m (values.Ptr p) extent.size extent.align) ≡ Passes → wrong_access m.blocks p extent.size 1 false ≡ None
  read_passes p extent hv h =
      passes_bytes m.blocks p extent.size extent.align false (found_passes (Point (spot_at m p)) (wrong_access m.blocks p extent.size extent.align false)
      (sym (reads objects m p extent.size extent.align (kept.fits p.block hv.made)) ∙ h))

  -- where the looks of a store pass, it is made
  pub store_passes : (ty : Scalar) (v u : Value) → Has (length m.blocks) scalars.Pointer v → Has (length m.blocks) ty u
      → judge objects (store_looks m (Some ty) v) ≡ Passes → IsChanged W objects m (stored m (Some ty) v u)
  store_passes ty (values.Ptr p) u hv hu h =
      let none = found_passes (Point (spot_at m p)) (wrong_access m.blocks p (size_of ty) (size_of ty) true)
      (sym (stores objects m p ty (kept.fits p.block hv.made)) ∙ h) in
      let a = passing m.blocks p (size_of ty) (size_of ty) true none in
      store_changes objects m ty p u kept hv.made hu
      (passes_at m.blocks p (size_of ty) (size_of ty) a.live a.offset a.inside a.aligned)
  store_passes ty values.Null u hv hu h = absurd (cc)
  store_passes ty (values.Int t z) u hv hu h = absurd hv.typed

  -- and a copy
  pub copy_passes : (extent : Extent) (to from : Value) → Has (length m.blocks) scalars.Pointer to → Has (length m.blocks) scalars.Pointer from
      → judge objects (read_looks m from extent.size extent.align) ≡ Passes → judge objects (write_looks m to extent.size extent.align) ≡ Passes
      → IsChanged W objects m (copied_at m to from extent.size)
  copy_passes extent (values.Ptr to) (values.Ptr from) ht hf r w =
      let source = found_passes (Point (spot_at m from)) (wrong_access m.blocks from extent.size extent.align false)
      (sym (reads objects m from extent.size extent.align (kept.fits from.block hf.made)) ∙ r) in
      let target = found_passes (Point (spot_at m to)) (wrong_access m.blocks to extent.size extent.align true)
      (sym (writes objects m to extent.size extent.align (kept.fits to.block ht.made)) ∙ w) in
      copy_changes objects m to from extent.size kept ht.made (passes_bytes m.blocks from extent.size extent.align false source)
      (passes_bytes m.blocks to extent.size extent.align true target)
  copy_passes extent (values.Ptr to) values.Null ht hf r w = absurd (cc)
  copy_passes extent values.Null from ht hf r w = absurd (cc)
  copy_passes extent (values.Int t z) from ht hf r w = absurd ht.typed
  copy_passes extent (values.Ptr to) (values.Int t z) ht hf r w = absurd hf.typed
