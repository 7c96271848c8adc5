-- Numbers and spots of cells, as loads give them.
use Rattle.std.proofs.Common.{◌≡◌, ℕ, ℤ, suc, ◌+◌, ◌-◌, ◌*◌, ◌<◌, ◌≤◌, ◌^◌, pos, Bool, true, false, refl, sym, subst, ap, ◌∙◌, arith, List, [], ◌∷◌}
use Rattle.std.proofs.Common.{length, Option, Some, None, inl, inr, ◌⊎◌, to_z}
use Rattle.std.specs.Prelude.{◌-ℤ◌, ◌==◌, ◌↔◌, ltb, nat_le, if◌then◌else◌, IsSomeAnd, slice_get, option_map, option_and_then, Result, Ok, Err}
use Rattle.std.specs.Int.{byte_len, cast_signed}
use mir.Syntax.{Width}
use mir.Val.{bits, hbits}
use Rattle.std.specs.Option.{ok_or}
use Rattle.std.proofs.lemmas.Bool.{cases_lt, le-leb, le-ltb, lt-leb, eq-eqb}
use Rattle.std.proofs.lemmas.Int.{ints, to_z_pos}
use Rattle.std.proofs.lemmas.Nat.{pow-add}
use Rattle.c_syntax_written.specs.declared.int_type.IntType.{IntType}
use Rattle.c_syntax_written.specs.declared.int_type.IntType.TheVariants.{Char, SChar, UChar, Short, UShort, Int, UInt, Long, ULong, LLong, ULLong}
use Rattle.c_syntax_written.specs.Integer.{std_width, is_signed, bytes}
use Rattle.c_syntax.specs.declared.alarm.Cell.{Cell}
use Rattle.c_syntax.specs.declared.alarm.WrongKind.{WrongKind}
use Rattle.c_syntax.specs.declared.alarm.WrongKind.TheVariants.{Indeterminate, Fragment}
use Rattle.c_syntax.specs.Types.{CTypeTree, ObjectTree}
use Rattle.c_syntax.specs.Types as types
use Rattle.c_syntax.specs.Program.{StructDefTree}
use Rattle.c_layout.specs.LaidOut.{IsLaidOut}
use Rattle.c_layout.specs.Scalars.{IsScalarAt}
use Rattle.block_mem.specs.declared.types.Byte.{Byte}
use Rattle.block_mem.specs.declared.types.Byte.TheVariants.{Undef, Num, Frag}
use Rattle.block_mem.specs.declared.types.Pointer.{Pointer}
use Rattle.block_mem.specs.declared.types.Scalar.TheVariants as scalars
use Rattle.block_mem.specs.declared.types.Value.{Value}
use Rattle.block_mem.specs.declared.types.Value.TheVariants as values
use Rattle.block_mem.specs.Block.{BlockView}
use Rattle.block_mem.specs.Blocks.{block_at, bytes_at, place, load, loaded, after_access, wrong_access}
use Rattle.block_mem.specs.Bytes.{value_of, has_undef}
use Rattle.block_mem.specs.Numbers.{number_in, number_of, low_first}
use Rattle.block_mem.specs.Pieces.{get_bytes}
use Rattle.block_mem.specs.Proper.{AreProper, AreProperBytes, IsProper}
use Rattle.block_mem.proofs.Proper.{proper-part}
use Rattle.block_mem.proofs.Puts.{length-get}
use Rattle.block_mem.proofs.StoreLaws.{passing}
use Rattle.c_values.specs.Places.{ObjectMemory, place_of, spot}
use Rattle.c_objects.specs.Cells.{with_sign, whole_number, cell_number, cell_spot, spot_loaded, is_read_signed, IsFoundAt, IsCellNumber, StandsInCell, LoadsFrom}
use Rattle.c_objects.proofs.OneScalar.{found_at}

-- ---- bytes as a number of a type

high_half : (w : Width) (x : ℕ) → 2 ^ hbits w ≤ x → x < 2 ^ bits w → pos x -ℤ pos (2 ^ bits w) ≡ to_z w x
high_half w x h l = let g : ltb x (2 ^ hbits w) ≡ false = le-ltb _ _ h in rw g (omega (arith, ints, l))

sign_case : (w : Width) (size x : ℕ) → 8 * size ≡ bits w → 8 * size - 1 ≡ hbits w → x < 2 ^ bits w → (x < 2 ^ hbits w) ⊎ (2 ^ hbits w ≤ x)
    → with_sign true size x ≡ to_z w x
sign_case w size x whole half l (inl low) =
    let f : nat_le (2 ^ hbits w) x ≡ false = lt-leb _ _ low in rw half (rw f (sym (to_z_pos w x low)))
sign_case w size x whole half l (inr high) =
    let f : nat_le (2 ^ hbits w) x ≡ true = le-leb _ _ high in rw half (rw whole (rw f (high_half w x high l)))

eight_bits : (t : IntType) → (8 * byte_len (std_width t) ≡ bits (std_width t)) × (8 * byte_len (std_width t) - 1 ≡ hbits (std_width t)) × (bytes t
    ≡ byte_len (std_width t))
eight_bits Char = (refl, refl, refl)
eight_bits SChar = (refl, refl, refl)
eight_bits UChar = (refl, refl, refl)
eight_bits Short = (refl, refl, refl)
eight_bits UShort = (refl, refl, refl)
eight_bits Int = (refl, refl, refl)
eight_bits UInt = (refl, refl, refl)
eight_bits Long = (refl, refl, refl)
eight_bits ULong = (refl, refl, refl)
eight_bits LLong = (refl, refl, refl)
eight_bits ULLong = (refl, refl, refl)

by_sign : (t : IntType) (s : Bool) (x : ℕ) → x < 2 ^ bits (std_width t) → with_sign s (byte_len (std_width t)) x
    ≡ (if s then cast_signed (std_width t) x else pos x)
by_sign t true x l =
    let e = eight_bits t in sign_case (std_width t) (byte_len (std_width t)) x e.0 e.1 l (cases_lt x (2 ^ hbits (std_width t)))
by_sign t false x l = refl

-- ---- how large the number of bytes is

low_case : (b : Byte) (rest : Option ℕ) (x : ℕ) → low_first b rest ≡ Some x → (n m : ℕ) × (b ≡ Num n) × (rest ≡ Some m) × (x ≡ n + 256 * m)
low_case Undef rest x e = absurd (cc)
low_case (Num n) None x e = absurd (cc)
low_case (Num n) (Some m) x e = let same : x ≡ n + 256 * m = cc in (n, m, refl, refl, same)
low_case (Frag p k) rest x e = absurd (cc)

more_bits : (l : ℕ) → 2 ^ (8 * suc l) ≡ 256 * 2 ^ (8 * l)
more_bits l = let e : 8 * suc l ≡ 8 * l + 8 = omega arith in ap (λ n. 2 ^ n) e ∙ pow-add 2 (8 * l) 8 ∙ omega arith

number_below : (made : ℕ) (bs : List Byte) (x : ℕ) → AreProperBytes made bs → number_of bs ≡ Some x → x < 2 ^ (8 * length bs)
number_below made [] x h e = let same : 0 ≡ x = cc in subst (λ n. n < 1) same (omega arith)
number_below made (b ∷ bs) x h e =
    let c = low_case b (number_of bs) x e in
    let small : c.0 < 256 = subst (λ (y : Byte). IsProper made y) c.2 (h 0) in
    let rest : c.1 < 2 ^ (8 * length bs) = number_below made bs c.1 (λ q. h (suc q)) c.3 in
    subst (λ p. x < p) (sym (more_bits (length bs))) (omega (arith, small, rest, c.4))

-- ---- what a load of a number gives

passed : (w : Option WrongKind) (r : Result Value WrongKind) (v : Value) → after_access w r ≡ Ok v → r ≡ Ok v
passed None r v h = h
passed (Some k) r v h = absurd (cc)

has_value : (undef : Bool) (o : Option Value) (v : Value) → (if undef then Err Indeterminate else ok_or o Fragment) ≡ Ok v → o ≡ Some v
has_value true o v h = absurd (cc)
has_value false None v h = absurd (cc)
has_value false (Some u) v h = let same : u ≡ v = cc in ap (λ x. Some x) same

typed_value : (t : IntType) (o : Option ℕ) (v : Value) → option_map (λ m. values.Int t (number_in t m)) o ≡ Some v
    → (x : ℕ) × (o ≡ Some x) × (v ≡ values.Int t (number_in t x))
typed_value t None v h = absurd (cc)
typed_value t (Some x) v h = let same : values.Int t (number_in t x) ≡ v = cc in (x, refl, sym same)

some_same : {A : Type 0} (a b : A) → Some a ≡ Some b → a ≡ b
some_same a b h = cc

at_place : (o : Option ℕ) (P : ℕ → Type 0) → IsSomeAnd o P → (b : ℕ) × (o ≡ Some b) × P b
at_place None P h = absurd h
at_place (Some b) P h = (b, refl, h)

in_object : (o : Option ObjectTree) (P : ObjectTree → Type 0) → IsSomeAnd o P → (object : ObjectTree) × (o ≡ Some object) × P object
in_object None P h = absurd h
in_object (Some x) P h = (x, refl, h)

-- an integer that stands in a cell has the cell's size
size_is : (structs : List StructDefTree) (objects : List ObjectTree) (cell : Cell) (t : IntType) → StandsInCell structs objects cell (types.Int t)
    → byte_len (std_width t) ≡ cell.size
size_is structs objects cell t h =
    let o = in_object (slice_get objects cell.object) (λ object. IsScalarAt structs object.ty cell.offset cell.size (types.Int t)) h in
    sym (eight_bits t).2 ∙ some_same (bytes t) cell.size o.2.bytes

pub pointer_size : (structs : List StructDefTree) (objects : List ObjectTree) (cell : Cell) (to : CTypeTree) (is_const : Bool)
    → StandsInCell structs objects cell (types.Pointer to is_const) → cell.size ≡ 8
pointer_size structs objects cell to is_const h =
    let o = in_object (slice_get objects cell.object) (λ object. IsScalarAt structs object.ty cell.offset cell.size (types.Pointer to is_const)) h in
    sym (some_same 8 cell.size o.2.bytes)

-- bytes that a load of so many can read are so many
read_size : (m : List BlockView) (at : Pointer) (n align : ℕ) → wrong_access m at n align false ≡ None
    → length (bytes_at m at n) ≡ n
read_size m at n align h =
    let p = passing m at n align false h in
    length-get (block_at m at.block).bytes (place at) n p.inside

allowed_load : (w : Option WrongKind) (r : Result Value WrongKind) (v : Value) → after_access w r ≡ Ok v → w ≡ None
allowed_load None r v h = refl
allowed_load (Some k) r v h = absurd (cc)

whole_is : (s : Bool) (n x : ℕ) (bs : List Byte) → length bs ≡ n → number_of bs ≡ Some x → whole_number s n bs ≡ Some (with_sign s n x)
whole_is s n x bs size e = let same : (length bs == n) ≡ true = eq-eqb (length bs) n size in rw same (rw e refl)

module _ (structs : List StructDefTree) (objects : List ObjectTree) (m : ObjectMemory) (cell : Cell) where
  pub number_loaded : (t : IntType) (v : Value) → StandsInCell structs objects cell (types.Int t) → AreProper m.blocks → LoadsFrom m cell (scalars.Int t) v
      → (n : ℤ) × (v ≡ values.Int t n) × (cell_number (is_signed t) m cell ≡ Some n)
  number_loaded t v stands proper h =
      let size = size_is structs objects cell t stands in
      let p = at_place (place_of m cell.object) (λ b. load m.blocks (record { block = b; offset = pos cell.offset }) (scalars.Int t) ≡ Ok v) h in
      let at : Pointer = record { block = p.0; offset = pos cell.offset } in
      let k = byte_len (std_width t) in
      let bs = get_bytes (block_at m.blocks p.0).bytes cell.offset k in
      let access = wrong_access m.blocks at k k false in
      let given = loaded (scalars.Int t) bs in
      let value = typed_value t (number_of bs) v (has_value (has_undef bs) (value_of (scalars.Int t) bs) v (passed access given v p.2)) in
      let long : length bs ≡ k = read_size m.blocks at k k (allowed_load access given v p.2) in
      let e = eight_bits t in
      let wide : 8 * length bs ≡ bits (std_width t) = ap (λ n. 8 * n) long ∙ e.0 in
      let below : value.0 < 2 ^ bits (std_width t) = subst (λ n. value.0 < 2 ^ n) wide
      (number_below (length m.blocks) bs value.0 (proper-part (length m.blocks) (block_at m.blocks p.0).bytes cell.offset k (proper p.0)) value.1) in
      let number : whole_number (is_signed t) k bs ≡ Some (number_in t value.0) =
      whole_is (is_signed t) k value.0 bs long value.1 ∙ ap (λ n. Some n) (by_sign t (is_signed t) value.0 below) in
      let sized : whole_number (is_signed t) cell.size (get_bytes (block_at m.blocks p.0).bytes cell.offset cell.size) ≡ Some (number_in t value.0) =
      subst (λ n. whole_number (is_signed t) n (get_bytes (block_at m.blocks p.0).bytes cell.offset n) ≡ Some (number_in t value.0)) size number in (
        number_in t value.0,
        value.2,
        ap (λ (o : Option ℕ). option_and_then (λ b. whole_number (is_signed t) cell.size
            (get_bytes (block_at m.blocks b).bytes cell.offset cell.size)) o) p.1 ∙ sized,
      )

  -- ---- a cell is read at what stands in it

  one_found : (whole : CTypeTree) (offset size : ℕ) (a b : Option CTypeTree) → IsFoundAt structs whole offset size a → IsFoundAt structs whole offset size b
      → a ≡ b
  one_found whole offset size None None f g = refl
  one_found whole offset size (Some x) None f g = absurd (g.only x f.there)
  one_found whole offset size None (Some y) f g = absurd (f.only y g.there)
  one_found whole offset size (Some x) (Some y) f g = ap (λ t. Some t) (g.only x f.there)

  pub number_at : (object : ObjectTree) (found : Option CTypeTree) (n : ℤ) → slice_get objects cell.object ≡ Some object
      → IsFoundAt structs object.ty cell.offset cell.size found → IsCellNumber structs objects m cell n → cell_number (is_read_signed found) m cell ≡ Some n
  number_at object found n e f c =
      let same : c.object ≡ object = some_same c.object object (sym c.is ∙ e) in
      let there = subst (λ (o : ObjectTree). IsFoundAt structs o.ty cell.offset cell.size c.found) same c.scalar in
      ap (λ (o : Option CTypeTree). cell_number (is_read_signed o) m cell) (one_found object.ty cell.offset cell.size found c.found f there) ∙ c.number

  pub number_found : (object : ObjectTree) (found : Option CTypeTree) (n : ℤ) → slice_get objects cell.object ≡ Some object
      → IsFoundAt structs object.ty cell.offset cell.size found → IsCellNumber structs objects m cell n ↔ (cell_number (is_read_signed found) m cell ≡ Some n)
  number_found object found n e f = (number_at object found n e f, λ h. record { object = object; is = e; found = found; scalar = f; number = h })

  pub number_typed : (t : IntType) (n : ℤ) → IsLaidOut structs → StandsInCell structs objects cell (types.Int t)
      → IsCellNumber structs objects m cell n ↔ (cell_number (is_signed t) m cell ≡ Some n)
  number_typed t n is h =
      let o = in_object (slice_get objects cell.object) (λ object. IsScalarAt structs object.ty cell.offset cell.size (types.Int t)) h in
      number_found o.0 (Some (types.Int t)) n o.1 (found_at structs is o.0.ty cell.offset cell.size (types.Int t) o.2)

  pub number_one : (n k : ℤ) → IsCellNumber structs objects m cell n → IsCellNumber structs objects m cell k → n ≡ k
  number_one n k c d = some_same n k (sym c.number ∙ number_at c.object c.found k c.is c.scalar d)

pub spot_loads : (m : ObjectMemory) (cell : Cell) (v : Value) → LoadsFrom m cell scalars.Pointer v → cell_spot m cell ≡ spot m v
spot_loads m cell v h =
    let p = at_place (place_of m cell.object) (λ b. load m.blocks (record { block = b; offset = pos cell.offset }) scalars.Pointer ≡ Ok v) h in
    ap (λ (o : Option ℕ). option_and_then (λ b. spot_loaded m (load m.blocks (record { block = b; offset = pos cell.offset }) scalars.Pointer)) o) p.1
    ∙ ap (λ (r : Result Value WrongKind). spot_loaded m r) p.2
