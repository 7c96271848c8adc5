-- Memory after a store.
use Rattle.std.proofs.Common.{ℕ, ℤ, pos, negsuc, ◌≡◌, ◌+◌, ◌-◌, ◌*◌, ◌/◌, ◌%◌, ◌^◌, ◌<◌, ◌≤◌, Bool, true, false, cond, not, ◌&&◌, ◌⊎◌, List, length, take, drop, get_or, Option, Some, None, Ok, Err, refl, sym, subst, ap, ◌∙◌, arith, option_map, unwrap_or, MatchOption}
use Rattle.std.specs.Int.{byte_len}
use Rattle.std.specs.Option.{ok_or}
use Rattle.std.proofs.lemmas.Bool.{leb-true}
use Rattle.std.proofs.lemmas.List.{drop-take, take-take, drop-drop}
use Rattle.c_syntax_written.specs.declared.int_type.IntType.{IntType}
use Rattle.c_syntax.specs.declared.alarm.WrongKind.{WrongKind}
use Rattle.c_syntax.specs.declared.alarm.WrongKind.TheVariants.{Dangling, Access, Alignment, ReadOnly, Fragment, Indeterminate}
use Rattle.block_mem.specs.declared.types.Byte.{Byte}
use Rattle.block_mem.specs.declared.types.Byte.TheVariants.{Undef}
use Rattle.block_mem.specs.declared.types.Pointer.{Pointer}
use Rattle.block_mem.specs.declared.types.Value.{Value}
use Rattle.block_mem.specs.declared.types.Value.TheVariants as values
use Rattle.block_mem.specs.declared.types.Scalar.{Scalar}
use Rattle.block_mem.specs.declared.types.Scalar.TheVariants as scalars
use Rattle.c_syntax_written.specs.Integer.{std_width}
use Rattle.block_mem.specs.Numbers.{bits_in, number_in, low_bytes}
use Rattle.block_mem.specs.Pieces.{get_bytes, stored, taken, cut_byte}
use Rattle.block_mem.specs.Bytes.{size_of, IsOf, bytes_of, value_of}
use Rattle.block_mem.specs.Block.{BlockView, place_of, is_inside, is_aligned, wrong_in}
use Rattle.block_mem.specs.Blocks.{block_at, with_bytes, place, bytes_at, wrong_access, loaded, after_access, load, store, copy}
use Rattle.block_mem.specs.AfterStore.{ReadsParts, KeepsElsewhere}
use Rattle.block_mem.specs.Passing.{IsPassing}
use Rattle.block_mem.proofs.Copies.{block-same, block-other, bytes-same}
use Rattle.block_mem.proofs.Puts.{length-taken}
use Rattle.block_mem.proofs.Laws.{number-part, defined-low_bytes, defined-part, value-bytes, defined-value, length-value, get-stored, length-stored, get-stored_outside}

-- the first of four tests that fails
abbrev first_wrong : Bool → Bool → Bool → Bool → Option WrongKind
first_wrong live inside aligned kept = cond (not live) (Some Dangling) (cond (not inside) (Some Access) (cond (not aligned) (Some Alignment) (cond kept (Some ReadOnly) None)))

passes_read : (live inside aligned read_only : Bool) → first_wrong live inside aligned (true && read_only) ≡ None → first_wrong live inside aligned (false && read_only) ≡ None
passes_read false i a r h = h
passes_read true false a r h = h
passes_read true true false r h = h
passes_read true true true r h = refl

passes_inside : (live inside aligned kept : Bool) → first_wrong live inside aligned kept ≡ None → inside ≡ true
passes_inside false i a r h = cc
passes_inside true false a r h = cc
passes_inside true true a r h = refl

passes_live : (live inside aligned kept : Bool) → first_wrong live inside aligned kept ≡ None → live ≡ true
passes_live false i a r h = cc
passes_live true i a r h = refl

passes_aligned : (live inside aligned kept : Bool) → first_wrong live inside aligned kept ≡ None → aligned ≡ true
passes_aligned false i a r h = cc
passes_aligned true false a r h = cc
passes_aligned true true false r h = cc
passes_aligned true true true r h = refl

inside_place : (o : ℤ) (n size : ℕ) → is_inside (place_of o) n size ≡ true → o ≡ pos (unwrap_or (place_of o) 0)
inside_place (pos k) n size h = refl
inside_place (negsuc k) n size h = cc

inside_is : (p : Option ℕ) (n size : ℕ) → is_inside p n size ≡ true → unwrap_or p 0 + n ≤ size
inside_is None n size h = cc
inside_is (Some k) n size h = leb-true (k + n) size h

-- an access that passes is inside its block
pub inside_access : (b : BlockView) (o : ℤ) (n a : ℕ) (write : Bool) → wrong_in b o n a write ≡ None → unwrap_or (place_of o) 0 + n ≤ length b.bytes
inside_access b o n a write h = inside_is (place_of o) n (length b.bytes) (passes_inside b.live (is_inside (place_of o) n (length b.bytes)) (is_aligned (place_of o) a) (write && b.read_only) h)

-- what an access that passes is
pub passing : (m : List BlockView) (at : Pointer) (n align : ℕ) (write : Bool) → wrong_access m at n align write ≡ None → IsPassing m at n align
passing m at n align write h =
    let b = block_at m at.block in
    let inside = is_inside (place_of at.offset) n (length b.bytes) in
    let aligned = is_aligned (place_of at.offset) align in
    record {
      live = passes_live b.live inside aligned (write && b.read_only) h;
      offset = inside_place at.offset n (length b.bytes) (passes_inside b.live inside aligned (write && b.read_only) h);
      inside = inside_access b at.offset n align write h;
      aligned = passes_aligned b.live inside aligned (write && b.read_only) h;
    }

-- where a write passes, a read does, also after other bytes were put in
read_after : (b : BlockView) (bs : List Byte) (o : ℤ) (n a : ℕ) → length bs ≡ length b.bytes → wrong_in b o n a true ≡ None → wrong_in (record b { bytes = bs }) o n a false ≡ None
read_after b bs o n a same h =
    ap (λ size. first_wrong b.live (is_inside (place_of o) n size) (is_aligned (place_of o) a) (false && b.read_only)) same
    ∙ passes_read b.live (is_inside (place_of o) n (length b.bytes)) (is_aligned (place_of o) a) b.read_only h

-- what the bytes of a value are loaded as
pub loaded-value : (ty : Scalar) (v : Value) → IsOf ty v → loaded ty (bytes_of v) ≡ Ok v
loaded-value ty v h =
    ap (λ u. cond u (Err Indeterminate) (ok_or (value_of ty (bytes_of v)) Fragment)) (defined-value v)
    ∙ ap (λ found. ok_or found Fragment) (value-bytes ty v h)

stored_bytes : (m : List BlockView) (at : Pointer) (ty : Scalar) (v : Value) → at.block < length m → IsOf ty v → place at + size_of ty ≤ length (block_at m at.block).bytes → bytes_at (store m at v) at (size_of ty) ≡ bytes_of v
stored_bytes m at ty v made of inside =
    let size : length (bytes_of v) ≡ size_of ty = length-value ty v of in
    ap (λ bs. get_bytes bs (place at) (size_of ty)) (bytes-same m at.block (stored (block_at m at.block).bytes (place at) (bytes_of v)) made)
    ∙ ap (get_bytes (stored (block_at m at.block).bytes (place at) (bytes_of v)) (place at)) (sym size)
    ∙ get-stored (block_at m at.block).bytes (place at) (bytes_of v) (omega (arith, size))

-- what was put in stands there, whatever else is asked of the access
pub loaded-store : (m : List BlockView) (at : Pointer) (ty : Scalar) (v : Value) → at.block < length m → IsOf ty v → place at + size_of ty ≤ length (block_at m at.block).bytes → loaded ty (bytes_at (store m at v) at (size_of ty)) ≡ Ok v
loaded-store m at ty v made of inside = ap (loaded ty) (stored_bytes m at ty v made of inside) ∙ loaded-value ty v of

-- what was stored is loaded
pub load-store : (m : List BlockView) (at : Pointer) (ty : Scalar) (v : Value) → at.block < length m → IsOf ty v → wrong_access m at (size_of ty) (size_of ty) true ≡ None → load (store m at v) at ty ≡ Ok v
load-store m at ty v made of passes =
    let b = block_at m at.block in
    let bs = stored b.bytes (place at) (bytes_of v) in
    let right : wrong_access (store m at v) at (size_of ty) (size_of ty) false ≡ None =
    ap (λ (x : BlockView). wrong_in x at.offset (size_of ty) (size_of ty) false) (block-same m at.block bs made)
    ∙ read_after b bs at.offset (size_of ty) (size_of ty) (length-stored b.bytes (place at) (bytes_of v)) passes in
    ap (λ w. after_access w (loaded ty (bytes_at (store m at v) at (size_of ty)))) right
    ∙ loaded-store m at ty v made of (inside_access b at.offset (size_of ty) (size_of ty) true passes)

-- some of some bytes
pub get-get : (bs : List Byte) (p s i k : ℕ) → i + k ≤ s → get_bytes bs (p + i) k ≡ get_bytes (get_bytes bs p s) i k
get-get bs p s i k h =
    let e : s ≡ i + (s - i) = omega arith in
    sym (ap (λ n. take k (drop i (take n (drop p bs)))) e
    ∙ ap (take k) (drop-take i (s - i) (drop p bs))
    ∙ take-take k (s - i) (drop i (drop p bs)) (omega arith)
    ∙ ap (take k) (drop-drop i p bs))

part_of : (m : List BlockView) (at : Pointer) (t u : IntType) (n : ℤ) (i : ℕ) → bytes_at m at (byte_len (std_width t)) ≡ low_bytes (byte_len (std_width t)) (bits_in t n) → i + byte_len (std_width u) ≤ byte_len (std_width t)
    → loaded (scalars.Int u) (get_bytes (block_at m at.block).bytes (place at + i) (byte_len (std_width u))) ≡ Ok (values.Int u (number_in u (bits_in t n / 2 ^ (8 * i) % 2 ^ (8 * byte_len (std_width u)))))
part_of m at t u n i whole h =
    let s = byte_len (std_width t) in
    let k = byte_len (std_width u) in
    let all = low_bytes s (bits_in t n) in
    ap (loaded (scalars.Int u)) (get-get (block_at m at.block).bytes (place at) s i k h ∙ ap (λ bs. get_bytes bs i k) whole)
    ∙ ap (λ d. cond d (Err Indeterminate) (ok_or (value_of (scalars.Int u) (get_bytes all i k)) Fragment)) (defined-part all i k (defined-low_bytes s (bits_in t n)))
    ∙ ap (λ found. ok_or (option_map (λ x. values.Int u (number_in u x)) found) Fragment) (number-part s (bits_in t n) i k h)

-- parts of a stored number are read
pub parts-store : (m : List BlockView) (at : Pointer) (ty : Scalar) (v : Value) → at.block < length m → IsOf ty v → wrong_access m at (size_of ty) (size_of ty) true ≡ None → ReadsParts (store m at v) at v
parts-store m at (scalars.Int w) (values.Int t n) made of passes =
    λ u i h. part_of (store m at (values.Int t n)) at t u n i
    (subst (λ s. bytes_at (store m at (values.Int t n)) at (byte_len (std_width s)) ≡ bytes_of (values.Int t n)) (sym of.0)
    (stored_bytes m at (scalars.Int w) (values.Int t n) made of (inside_access (block_at m at.block) at.offset (byte_len (std_width w)) (byte_len (std_width w)) true passes)))
    h
parts-store m at scalars.Pointer (values.Int t n) made of passes = absurd of
parts-store m at ty (values.Ptr p) made of passes = tt
parts-store m at ty values.Null made of passes = tt

-- bytes that are written change nothing elsewhere
elsewhere-stored : (m : List BlockView) (at : Pointer) (n : ℕ) (new : List Byte) → at.block < length m → length new ≡ n → KeepsElsewhere m (with_bytes m at.block (stored (block_at m at.block).bytes (place at) new)) at n
elsewhere-stored m at n new made size = record {
  blocks = λ b apart. block-other m at.block b (stored (block_at m at.block).bytes (place at) new) apart;
  bytes = λ q l apart.
      ap (λ bs. get_or bs q Undef) (bytes-same m at.block (stored (block_at m at.block).bytes (place at) new) made)
      ∙ get-stored_outside (block_at m at.block).bytes (place at) new q l (subst (λ k. (q < place at) ⊎ (place at + k ≤ q)) (sym size) apart)
      ∙ ap (λ k. cut_byte (place at) k q (get_or (block_at m at.block).bytes q Undef)) size;
}

pub elsewhere-store : (m : List BlockView) (at : Pointer) (ty : Scalar) (v : Value) → at.block < length m → IsOf ty v → KeepsElsewhere m (store m at v) at (size_of ty)
elsewhere-store m at ty v made of = elsewhere-stored m at (size_of ty) (bytes_of v) made (length-value ty v of)

pub elsewhere-copy : (m : List BlockView) (to from : Pointer) (n : ℕ) → to.block < length m → wrong_access m from n 1 false ≡ None → KeepsElsewhere m (copy m to from n) to n
elsewhere-copy m to from n made passes = elsewhere-stored m to n (taken (block_at m from.block).bytes (place from) n) made (length-taken (block_at m from.block).bytes (place from) n (inside_access (block_at m from.block) from.offset n 1 false passes))

-- where a byte may be read, there is one
pub has_byte : (b : BlockView) (o : ℤ) (a : ℕ) (write : Bool) → wrong_in b o 1 a write ≡ None → MatchOption (place_of o) ⊥ (λ k. k < length b.bytes)
has_byte b (pos k) a write h = let inside : k + 1 ≤ length b.bytes = inside_access b (pos k) 1 a write h in omega arith
has_byte b (negsuc k) a write h =
    let no : false ≡ true = passes_inside b.live false false (write && b.read_only) h in cc
