-- What is judged at an access is what block memory says of it.
use Rattle.std.proofs.Common.{◌≡◌, ℕ, ◌+◌, ◌<◌, ◌≤◌, ℤ, pos, negsuc, Bool, true, false, refl, arith, List, [], ◌∷◌, length, Option, Some, None, inl, inr, ◌⊎◌}
use Rattle.std.specs.Prelude.{int_lt, nat_lt, nat_le, ◌+ℤ◌, not, ◌||◌, if◌then◌else◌}
use Rattle.std.proofs.lemmas.Bool.{cases_lt, lt-ltb, le-ltb, lt-leb, le-leb}
use Rattle.c_syntax_written.specs.declared.int_type.IntType.TheVariants.{Char, SChar, UChar, Short, UShort, Int, UInt, Long, ULong, LLong, ULLong}
use Rattle.c_syntax.specs.declared.alarm.Spot.{Spot}
use Rattle.c_syntax.specs.declared.alarm.Spot.TheVariants as spots
use Rattle.c_syntax.specs.declared.alarm.WrongKind.{WrongKind}
use Rattle.c_syntax.specs.declared.alarm.WrongKind.TheVariants as kinds
use Rattle.c_syntax.specs.Types.{ObjectTree}
use Rattle.c_syntax.specs.Operand.{Operand, Point, Mark}
use Rattle.c_syntax.specs.Failing.{is_multiple}
use Rattle.c_layout.specs.Checks.{scalar_bytes, plain_check}
use Rattle.block_mem.specs.declared.types.Byte.{Byte}
use Rattle.block_mem.specs.declared.types.Pointer as pointers
use Rattle.block_mem.specs.declared.types.Scalar.{Scalar}
use Rattle.block_mem.specs.declared.types.Scalar.TheVariants as scalars
use Rattle.block_mem.specs.declared.types.Value.{Value}
use Rattle.block_mem.specs.declared.types.Value.TheVariants as values
use Rattle.block_mem.specs.Block.{place_of, is_inside, is_aligned}
use Rattle.block_mem.specs.Blocks.{block_at, bytes_at, wrong_access, after_access, load, loaded}
use Rattle.block_mem.specs.Bytes.{size_of, has_undef, value_of, mark_of}
use Rattle.c_values.specs.Accesses.{read_looks, write_looks, store_looks, load_at, ok_of}
use Rattle.c_values.specs.Looks.{judge, Judged, Passes, FailsAs, outcome}
use Rattle.c_values.specs.Memory.{Fits, found, load_outcome}
use Rattle.c_values.specs.Places.{ObjectMemory, owner_of, spot_at}
use Rattle.c_values.specs.Values.{plain_type}

low : (k : ℕ) → int_lt (pos k) (pos 0) ≡ false
low k = le-ltb k 0 (omega arith)

high_case : (n m : ℕ) → (m < n) ⊎ (n ≤ m) → nat_lt m n ≡ not (nat_le n m)
high_case n m (inl h) = rw (lt-ltb m n h) (rw (lt-leb n m h) refl)
high_case n m (inr h) = rw (le-ltb m n h) (rw (le-leb n m h) refl)

high : (n m : ℕ) → nat_lt m n ≡ not (nat_le n m)
high n m = high_case n m (cases_lt m n)

access_at : (d : ℤ) (n size : ℕ) → (int_lt d (pos 0) || int_lt (pos size) (d +ℤ pos n)) ≡ not (is_inside (place_of d) n size)
access_at (pos k) n size = rw (low k) (high (k + n) size)
access_at (negsuc k) n size = refl

-- an access at a spot of a live object of this size: outside, then not aligned, then what comes behind
module _ (x : Operand) where
  choose : (za zb : Bool) (j : Judged) (k : Option WrongKind) → j ≡ found x k
      → (if za then FailsAs kinds.Access x else (if zb then FailsAs kinds.Alignment x else j))
      ≡ found x (if za then Some kinds.Access else (if zb then Some kinds.Alignment else k))
  choose true zb j k e = refl
  choose false true j k e = refl
  choose false false j k e = e

  placed : (d : ℤ) (n align size : ℕ) (j : Judged) (k : Option WrongKind) → j ≡ found x k
      → (if int_lt d (pos 0) || int_lt (pos size) (d +ℤ pos n) then FailsAs kinds.Access x else
      (if not (is_multiple align d) then FailsAs kinds.Alignment x else j))
      ≡ found x (if not (is_inside (place_of d) n size) then Some kinds.Access else (if not (is_aligned (place_of d) align) then Some kinds.Alignment else k))
  placed (pos i) n align size j k e = rw (access_at (pos i) n size) (choose _ _ j k e)
  placed (negsuc i) n align size j k e = refl

  last : (b : Bool) → (if b then FailsAs kinds.ReadOnly x else Passes) ≡ found x (if b then Some kinds.ReadOnly else None)
  last true = refl
  last false = refl

module _ (objects : List ObjectTree) (m : ObjectMemory) (p : pointers.Pointer) (n align : ℕ) (f : Fits objects m p.block) where
  reads_at : (live : Bool) → (block_at m.blocks p.block).live ≡ live → judge objects (read_looks m (values.Ptr p) n align)
      ≡ found (Point (spot_at m p)) (wrong_access m.blocks p n align false)
  reads_at false e = rw e refl
  reads_at true e = rw e (rw (f.is) (rw (f.size) (placed (Point (spots.At (owner_of m p.block) p.offset)) p.offset n align
      (length (block_at m.blocks p.block).bytes) Passes None refl)))

  pub reads : judge objects (read_looks m (values.Ptr p) n align) ≡ found (Point (spot_at m p)) (wrong_access m.blocks p n align false)
  reads = reads_at (block_at m.blocks p.block).live refl

  writes_at : (live : Bool) → (block_at m.blocks p.block).live ≡ live → judge objects (write_looks m (values.Ptr p) n align)
      ≡ found (Point (spot_at m p)) (wrong_access m.blocks p n align true)
  writes_at false e = rw e refl
  writes_at true e = rw e (rw (f.is) (rw (f.size) (rw (f.mark)
      (placed (Point (spots.At (owner_of m p.block) p.offset)) p.offset n align (length (block_at m.blocks p.block).bytes) _ _
      (last (Point (spots.At (owner_of m p.block) p.offset)) (block_at m.blocks p.block).read_only)))))

  pub writes : judge objects (write_looks m (values.Ptr p) n align) ≡ found (Point (spot_at m p)) (wrong_access m.blocks p n align true)
  writes = writes_at (block_at m.blocks p.block).live refl

pub bytes_of_type : (ty : Scalar) → scalar_bytes (plain_type (Some ty)) ≡ size_of ty
bytes_of_type (scalars.Int Char) = refl
bytes_of_type (scalars.Int SChar) = refl
bytes_of_type (scalars.Int UChar) = refl
bytes_of_type (scalars.Int Short) = refl
bytes_of_type (scalars.Int UShort) = refl
bytes_of_type (scalars.Int Int) = refl
bytes_of_type (scalars.Int UInt) = refl
bytes_of_type (scalars.Int Long) = refl
bytes_of_type (scalars.Int ULong) = refl
bytes_of_type (scalars.Int LLong) = refl
bytes_of_type (scalars.Int ULLong) = refl
bytes_of_type scalars.Pointer = refl

pub stores : (objects : List ObjectTree) (m : ObjectMemory) (p : pointers.Pointer) (ty : Scalar) → Fits objects m p.block
    → judge objects (store_looks m (Some ty) (values.Ptr p)) ≡ found (Point (spot_at m p)) (wrong_access m.blocks p (size_of ty) (size_of ty) true)
stores objects m p ty f = rw (bytes_of_type ty) (writes objects m p (size_of ty) (size_of ty) f)

-- the marks of bytes that a load may read
marks_at : (objects : List ObjectTree) (s : Spot) (ty : Scalar) (bs : List Byte) (u : Bool) (r : Option Value) → has_undef bs ≡ u → value_of ty bs ≡ r
    → outcome (judge objects (record { check = plain_check kinds.Indeterminate; operand = Some (Mark (mark_of ty bs)) } ∷ record
    { check = plain_check kinds.Fragment; operand = Some (Mark (mark_of ty bs)) } ∷ [])) (ok_of (loaded ty bs))
    ≡ load_outcome s (loaded ty bs)
marks_at objects s ty bs true r e f = rw e refl
marks_at objects s ty bs false None e f = rw e (rw f refl)
marks_at objects s ty bs false (Some v) e f = rw e (rw f refl)

-- a load, by what comes behind its access
module _ (objects : List ObjectTree) (s : Spot) (ty : Scalar) (bs : List Byte) where
  after : (marks : Judged) → outcome marks (ok_of (loaded ty bs)) ≡ load_outcome s (loaded ty bs) → (za zb : Bool)
      → outcome (if za then FailsAs kinds.Access (Point s) else (if zb then FailsAs kinds.Alignment (Point s) else marks)) (ok_of (loaded ty bs))
      ≡ load_outcome s (after_access (if za then Some kinds.Access else (if zb then Some kinds.Alignment else None)) (loaded ty bs))
  after marks e true zb = refl
  after marks e false true = refl
  after marks e false false = e

  load_placed : (marks : Judged) → outcome marks (ok_of (loaded ty bs)) ≡ load_outcome s (loaded ty bs) → (d : ℤ) (n align size : ℕ)
      → outcome (if int_lt d (pos 0) || int_lt (pos size) (d +ℤ pos n) then FailsAs kinds.Access (Point s) else
      (if not (is_multiple align d) then FailsAs kinds.Alignment (Point s) else marks)) (ok_of (loaded ty bs))
      ≡ load_outcome s (after_access (if not (is_inside (place_of d) n size) then Some kinds.Access else
      (if not (is_aligned (place_of d) align) then Some kinds.Alignment else None)) (loaded ty bs))
  load_placed marks e (pos i) n align size = rw (access_at (pos i) n size) (after marks e _ _)
  load_placed marks e (negsuc i) n align size = refl

loads_at : (objects : List ObjectTree) (m : ObjectMemory) (p : pointers.Pointer) (ty : Scalar) → Fits objects m p.block → (live : Bool)
    → (block_at m.blocks p.block).live ≡ live
    → load_at objects m (Some ty) (values.Ptr p) ≡ load_outcome (spot_at m p) (load m.blocks p ty)
loads_at objects m p ty f false e = rw e refl
loads_at objects m p ty f true e =
    let bs = bytes_at m.blocks p (size_of ty) in
    rw (bytes_of_type ty) (rw e (rw (f.is) (rw (f.size)
    (load_placed objects (spots.At (owner_of m p.block) p.offset) ty bs _ (marks_at objects (spots.At (owner_of m p.block) p.offset) ty bs (has_undef bs)
    (value_of ty bs) refl refl)
    p.offset (size_of ty) (size_of ty) (length (block_at m.blocks p.block).bytes)))))

pub loads : (objects : List ObjectTree) (m : ObjectMemory) (p : pointers.Pointer) (ty : Scalar) → Fits objects m p.block
    → load_at objects m (Some ty) (values.Ptr p) ≡ load_outcome (spot_at m p) (load m.blocks p ty)
loads objects m p ty f = loads_at objects m p ty f (block_at m.blocks p.block).live refl
