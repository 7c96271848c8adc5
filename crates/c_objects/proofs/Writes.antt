-- What is kept where bytes are written.
use Rattle.std.proofs.Common.{◌≡◌, ℕ, zero, suc, ◌<◌, ◌≤◌, pos, Bool, true, false, refl, sym, subst, ◌∙◌, arith, List, length, replicate, Option}
use Rattle.std.proofs.Common.{Some, None}
use Rattle.std.specs.Prelude.{option_map, if◌then◌else◌}
use Rattle.std.proofs.lemmas.List.{length-replicate}
use Rattle.c_syntax_written.specs.declared.int_type.IntType.TheVariants as ints
use Rattle.c_syntax.specs.declared.alarm.WrongKind.{WrongKind}
use Rattle.c_syntax.specs.Types.{ObjectTree}
use Rattle.c_syntax.specs.TypedStmt.{TInitTree}
use Rattle.block_mem.specs.declared.types.Byte.TheVariants.{Undef}
use Rattle.block_mem.specs.declared.types.Pointer as pointers
use Rattle.block_mem.specs.declared.types.Scalar.{Scalar}
use Rattle.block_mem.specs.declared.types.Scalar.TheVariants as scalars
use Rattle.block_mem.specs.declared.types.Value.{Value}
use Rattle.block_mem.specs.declared.types.Value.TheVariants as values
use Rattle.block_mem.specs.Blocks.{block_at, place, store, copy, wrong_access, with_undefined}
use Rattle.block_mem.specs.Bytes.{IsOf, size_of, bytes_of}
use Rattle.block_mem.specs.Proper.{IsMade}
use Rattle.block_mem.proofs.Laws.{length-stored}
use Rattle.block_mem.proofs.Proper.{proper-store, proper-copy, proper-undefine}
use Rattle.block_mem.proofs.StoreLaws.{passing}
use Rattle.block_mem.proofs.Whole.{whole-store, whole-copy, whole_set, whole-undefined}
use Rattle.c_values.specs.Places.{ObjectMemory, place_of}
use Rattle.c_objects.specs.Opening.{undefined}
use Rattle.c_objects.specs.Writing.{with_blocks, unless_wrong, stored_at, copied_at, zero_at, zeroed, is_named, rest}
use Rattle.c_objects.proofs.Keeping.{Keeps, SameShape, same_shape, same_blocks, shape_then, keeps_blocks}
use Rattle.c_objects.proofs.Zeroed.{byte_inside}
use Rattle.block_mem.specs.Pieces.{taken}
use Rattle.std.proofs.lemmas.Int.{ints as int_facts}

-- what is given where nothing is wrong
allowed : (w : Option WrongKind) (m : Option ObjectMemory) (n : ObjectMemory) → unless_wrong w m ≡ Some n → (w ≡ None) × (m ≡ Some n)
allowed None m n h = (refl, h)
allowed (Some kind) m n h = absurd (cc)

module _ (W : Type 0) (objects : List ObjectTree) (m : ObjectMemory) (k : Keeps W objects m) where
  keeps_store : (at : pointers.Pointer) (ty : Scalar) (v : Value) (align : ℕ) → at.block < length m.blocks → IsOf ty v → IsMade (length m.blocks) v
      → wrong_access m.blocks at (size_of ty) align false ≡ None
      → Keeps W objects (with_blocks m (store m.blocks at v))
  keeps_store at ty v align made typed own h =
      let p = passing m.blocks at (size_of ty) align false h in
      keeps_blocks W objects m (store m.blocks at v) k (same_shape m.blocks at.block _ made
      (length-stored (block_at m.blocks at.block).bytes (place at) (bytes_of v)))
      (proper-store m.blocks at ty v made typed own p.inside k.proper)
      (λ w. (whole-store m.blocks at ty v made typed p.inside).whole (k.whole w))

  pub keeps_stored : (ty : Scalar) (to v : Value) (n : ObjectMemory) → IsMade (length m.blocks) to → IsOf ty v → IsMade (length m.blocks) v
      → stored_at m ty to v ≡ Some n → Keeps W objects n
  keeps_stored ty (values.Ptr at) v n made typed own h =
      let a = allowed (wrong_access m.blocks at (size_of ty) (size_of ty) false) (Some (with_blocks m (store m.blocks at v))) n h in
      let same : with_blocks m (store m.blocks at v) ≡ n = cc in
      subst (λ (x : ObjectMemory). Keeps W objects x) same (keeps_store at ty v (size_of ty) made typed own a.0)
  keeps_stored ty (values.Int t i) v n made typed own h = absurd (cc)
  keeps_stored ty values.Null v n made typed own h = absurd (cc)

  pub keeps_copied : (to from : Value) (size : ℕ) (n : ObjectMemory) → IsMade (length m.blocks) to → copied_at m to from size ≡ Some n → Keeps W objects n
  keeps_copied (values.Ptr to) (values.Ptr from) size n made h =
      let source = allowed (wrong_access m.blocks from size 1 false) (unless_wrong (wrong_access m.blocks to size 1 false)
      (Some (with_blocks m (copy m.blocks to from size)))) n h in
      let target = allowed (wrong_access m.blocks to size 1 false) (Some (with_blocks m (copy m.blocks to from size))) n source.1 in
      let same : with_blocks m (copy m.blocks to from size) ≡ n = cc in
      let shape = same_shape m.blocks to.block _ made (length-stored (block_at m.blocks to.block).bytes (place to)
      (taken (block_at m.blocks from.block).bytes (place from) size)) in
      subst (λ (x : ObjectMemory). Keeps W objects x) same
      (keeps_blocks W objects m (copy m.blocks to from size) k shape (proper-copy m.blocks to from size made target.0 source.0 k.proper)
      (λ w. (whole-copy m.blocks to from size made target.0 source.0).whole (k.whole w)))
  keeps_copied (values.Ptr to) (values.Int t i) size n made h = absurd (cc)
  keeps_copied (values.Ptr to) values.Null size n made h = absurd (cc)
  keeps_copied (values.Int t i) from size n made h = absurd (cc)
  keeps_copied values.Null from size n made h = absurd (cc)

  undefined_at : (x : ℕ) (n : ObjectMemory) (o : Option ℕ) → place_of m x ≡ o → option_map (λ b. record m { blocks = with_undefined m.blocks b }) o ≡ Some n
      → Keeps W objects n
  undefined_at x n None e h = absurd (cc)
  undefined_at x n (Some b) e h =
      let p = k.placed x b e in
      let empty = replicate (length (block_at m.blocks b).bytes) Undef in
      let same : with_blocks m (with_undefined m.blocks b) ≡ n = cc in
      subst (λ (y : ObjectMemory). Keeps W objects y) same
      (keeps_blocks W objects m (with_undefined m.blocks b) k (same_shape m.blocks b empty p.made (length-replicate (length (block_at m.blocks b).bytes) Undef))
      (proper-undefine m.blocks b p.made k.proper)
      (λ w. whole_set m.blocks b (record (block_at m.blocks b) { bytes = empty }) p.made (k.whole w) (whole-undefined (length (block_at m.blocks b).bytes))))

  pub keeps_undefined : (x : ℕ) (n : ObjectMemory) → undefined m x ≡ Some n → Keeps W objects n
  keeps_undefined x n h = undefined_at x n (place_of m x) refl h

-- one byte more that becomes 0, or stays
filled : (W : Type 0) (objects : List ObjectTree) (m : ObjectMemory) (named : Bool) (b k : ℕ) → Keeps W objects m → b < length m.blocks → (block_at m.blocks b).live
    ≡ true → k < length (block_at m.blocks b).bytes
    → Keeps W objects (with_blocks m (if named then m.blocks else zero_at b k m.blocks)) × SameShape m.blocks (if named then m.blocks else zero_at b k m.blocks)
filled W objects m true b k kept made live h = (kept, same_blocks m.blocks)
filled W objects m false b k kept made live h = (
  keeps_store W objects m kept (record { block = b; offset = pos k }) (scalars.Int ints.UChar) (values.Int ints.UChar (pos 0)) 1 made
      (refl, (omega (arith, int_facts), omega (arith, int_facts))) tt (byte_inside m.blocks b k live h),
  same_shape m.blocks b _ made (length-stored (block_at m.blocks b).bytes k (bytes_of (values.Int ints.UChar (pos 0)))),
)

zeroes : (W : Type 0) (objects : List ObjectTree) (m : ObjectMemory) (named : ℕ → Bool) (b k : ℕ) → Keeps W objects m → b < length m.blocks → (block_at m.blocks b).live
    ≡ true → k ≤ length (block_at m.blocks b).bytes
    → Keeps W objects (with_blocks m (zeroed named b k m.blocks)) × SameShape m.blocks (zeroed named b k m.blocks)
zeroes W objects m named b zero kept made live h = (kept, same_blocks m.blocks)
zeroes W objects m named b (suc k) kept made live h =
    let before = zeroes W objects m named b k kept made live (omega arith) in
    let shape = before.1 in
    let one = filled W objects (with_blocks m (zeroed named b k m.blocks)) (named k) b k before.0 (subst (λ n. b < n) (sym shape.count) made) (shape.live b
    ∙ live) (subst (λ n. k < n) (sym (shape.size b)) (omega arith)) in
    (one.0, shape_then m.blocks (zeroed named b k m.blocks) (zeroed named b (suc k) m.blocks) shape one.1)

rest_at : (W : Type 0) (objects : List ObjectTree) (m : ObjectMemory) (x : ℕ) (inits : List TInitTree) (n : ObjectMemory) (o : Option ℕ) → Keeps W objects m
    → place_of m x ≡ o
    → option_map (λ b. with_blocks m (zeroed (is_named inits) b (length (block_at m.blocks b).bytes) m.blocks)) o ≡ Some n → Keeps W objects n
rest_at W objects m x inits n None kept e h = absurd (cc)
rest_at W objects m x inits n (Some b) kept e h =
    let p = kept.placed x b e in
    let same : with_blocks m (zeroed (is_named inits) b (length (block_at m.blocks b).bytes) m.blocks) ≡ n = cc in
    subst (λ (y : ObjectMemory). Keeps W objects y) same (zeroes W objects m (is_named inits) b (length (block_at m.blocks b).bytes) kept p.made p.live
    (omega arith)).0

pub keeps_rest : (W : Type 0) (objects : List ObjectTree) (m : ObjectMemory) (x : ℕ) (inits : List TInitTree) (n : ObjectMemory) → Keeps W objects m → rest m x inits
    ≡ Some n → Keeps W objects n
keeps_rest W objects m x inits n kept h = rest_at W objects m x inits n (place_of m x) kept refl h
