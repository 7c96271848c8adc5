-- The first state of a formed program is typed.
use Rattle.std.proofs.Common.{◌≡◌, ℕ, zero, suc, ◌+◌, ◌<◌, ◌≤◌, pos, List, [], ◌∷◌, length, length-set, map, Option, Some, refl, sym, ap, ◌∙◌, subst, arith, ℤ}
use Rattle.std.specs.Prelude.{All, slice_get, slice_set, unwrap_or}
use Rattle.std.proofs.lemmas.Int.{ints as int_facts}
use Rattle.std.proofs.lemmas.List.{length-map}
use Rattle.std.proofs.lemmas.List.Elements.{All-cons, All-head, All-nil, All-tail}
use Rattle.c_syntax_written.specs.declared.int_type.IntType.{IntType}
use Rattle.c_syntax_written.specs.declared.int_type.IntType.TheVariants as ints
use Rattle.c_syntax_written.specs.Integer.{HasNumber}
use Rattle.c_syntax.specs.declared.program.InitByte.{InitByte}
use Rattle.c_syntax.specs.declared.program.InitByte.TheVariants as bytes
use Rattle.c_syntax.specs.declared.program.Initial.{Initial}
use Rattle.c_syntax.specs.Types.{ObjectTree}
use Rattle.block_mem.specs.declared.types.Pointer.{Pointer}
use Rattle.block_mem.specs.declared.types.Scalar.{Scalar}
use Rattle.block_mem.specs.declared.types.Scalar.TheVariants as scalars
use Rattle.block_mem.specs.Blocks.{block_at, set_byte}
use Rattle.block_mem.specs.Proper.{IsProper}
use Rattle.block_mem.proofs.Proper.{proper-byte}
use Rattle.c_values.specs.Places.{ObjectMemory, place_of}
use Rattle.c_objects.specs.Statics.{AreEightBits, HasEightBits, block_of, initial_at, initial_byte, opened_statics, put_from, start, with_initial, with_initials}
use Rattle.c_objects.specs.Writing.{with_blocks}
use Rattle.c_objects.proofs.Beginning.{opened_kept, static_placed}
use Rattle.c_objects.proofs.Keeping.{Keeps, keeps_blocks, keeps_objects, objects_keep, same_shape}
use Rattle.csharp.specs.Trees.{CsProgramTree}
use Rattle.csharp.specs.States.{first, first_value}
use Rattle.csharp.specs.Formed.{IsFormedByte, IsFormedInitial, IsStatic}
use Rattle.csharp_typed_laws.specs.TypedStates.{AreTempsTyped, IsTypedValue}
use Rattle.csharp_typed_laws.proofs.Actions.{Typed}
use Rattle.csharp_typed_laws.proofs.Values.{given, some_with}

-- ---- temporaries

zero_number : (t : IntType) → HasNumber t (pos 0)
zero_number ints.Char = omega (arith, int_facts)
zero_number ints.SChar = omega (arith, int_facts)
zero_number ints.UChar = (omega (arith, int_facts), omega (arith, int_facts))
zero_number ints.Short = omega (arith, int_facts)
zero_number ints.UShort = (omega (arith, int_facts), omega (arith, int_facts))
zero_number ints.Int = omega (arith, int_facts)
zero_number ints.UInt = (omega (arith, int_facts), omega (arith, int_facts))
zero_number ints.Long = omega (arith, int_facts)
zero_number ints.ULong = (omega (arith, int_facts), omega (arith, int_facts))
zero_number ints.LLong = omega (arith, int_facts)
zero_number ints.ULLong = (omega (arith, int_facts), omega (arith, int_facts))

first_is : (n : ℕ) (ty : Scalar) → IsTypedValue n ty (first_value ty)
first_is n (scalars.Int t) = record { typed = (refl, zero_number t); of_made = tt }
first_is n scalars.Pointer = record { typed = tt; of_made = tt }

first_temps : (n : ℕ) (types : List Scalar) → AreTempsTyped types n (map first_value types)
first_temps n [] d ty e = absurd (cc)
first_temps n (t ∷ ts) zero ty e = given (λ u. IsTypedValue n u (first_value t)) t ty e (first_is n t)
first_temps n (t ∷ ts) (suc d) ty e = first_temps n ts d ty e

-- ---- initial bytes, one by one

abbrev AllProper : ObjectMemory → ℕ → List InitByte → Type 0
AllProper old n bs = All (λ y. IsProper n (initial_byte old y)) bs

module _ (objects : List ObjectTree) where
  bytes_keep : (old m : ObjectMemory) (b k : ℕ) (ys : List InitByte) → Keeps ⊥ objects m → b < length m.blocks
      → k + length ys ≤ length (block_at m.blocks b).bytes → AllProper old (length m.blocks) ys
      → Keeps ⊥ objects (with_blocks m (put_from old b k ys m.blocks))
  bytes_keep old m b k [] keeps made inside proper = keeps
  bytes_keep old m b k (y ∷ ys) keeps made inside proper =
      let at : Pointer = record { block = b; offset = pos k } in
      let byte = initial_byte old y in
      let shape = same_shape m.blocks b (slice_set (block_at m.blocks b).bytes k byte) made (length-set (block_at m.blocks b).bytes k byte) in
      let here = All-head (λ z. IsProper (length m.blocks) (initial_byte old z)) y ys proper in
      let next = keeps_blocks ⊥ objects m (set_byte m.blocks at byte) keeps shape
      (proper-byte m.blocks at byte made (omega (arith, inside)) here keeps.proper) (λ no. absurd no) in
      let count = shape.count in
      let size = shape.size b in
      bytes_keep old (with_blocks m (set_byte m.blocks at byte)) b (suc k) ys next (omega (arith, made, count)) (omega (arith, inside, size))
      (subst (λ n. AllProper old n ys) (sym count) (All-tail (λ z. IsProper (length m.blocks) (initial_byte old z)) y ys proper))

-- ---- initial values, one by one

module _ (q : CsProgramTree) where
  -- memory keeps what it keeps, and each static object has its block
  record IsBegun (m : ObjectMemory) : Type 0 where
    keeps : Keeps ⊥ q.objects m
    placed : (x : ℕ) → IsStatic q x → (b : ℕ) × (place_of m x ≡ Some b)

  proper_byte : (m : ObjectMemory) (y : InitByte) → IsBegun m → IsFormedByte q y → HasEightBits y → IsProper (length m.blocks) (initial_byte m y)
  proper_byte m (bytes.Num n) s formed bits = bits
  proper_byte m (bytes.Piece object offset k) s formed bits =
      let p = s.placed object formed.0 in
      let is : p.0 ≡ block_of m object = sym (ap (λ (o : Option ℕ). unwrap_or o 0) p.1) in
      subst (λ n. n < length m.blocks) is (s.keeps.placed object p.0 p.1).made

  proper_bytes : (m : ObjectMemory) (ys : List InitByte) → IsBegun m → All (IsFormedByte q) ys → All HasEightBits ys → AllProper m (length m.blocks) ys
  proper_bytes m [] s formed bits = All-nil (λ z. IsProper (length m.blocks) (initial_byte m z))
  proper_bytes m (y ∷ ys) s formed bits =
      All-cons (λ z. IsProper (length m.blocks) (initial_byte m z)) y ys
      (proper_byte m y s (All-head (IsFormedByte q) y ys formed) (All-head HasEightBits y ys bits))
      (proper_bytes m ys s (All-tail (IsFormedByte q) y ys formed) (All-tail HasEightBits y ys bits))

  one_initial : (m : ObjectMemory) (i : Initial) → IsBegun m → IsFormedInitial q i → All HasEightBits i.bytes → IsBegun (with_initial m i)
  one_initial m i s formed bits =
      let p = s.placed i.object formed.object in
      let here = s.keeps.placed i.object p.0 p.1 in
      let fits = s.keeps.fits p.0 here.made in
      let own : slice_get q.objects i.object ≡ Some fits.object = ap (slice_get q.objects) (sym here.owner) ∙ fits.is in
      let long = some_with (λ (o : ObjectTree). length i.bytes ≡ o.size) (slice_get q.objects i.object) fits.object formed.size own in
      let size = fits.size in
      let keeps = bytes_keep q.objects m m p.0 0 i.bytes s.keeps here.made (omega (arith, long, size)) (proper_bytes m i.bytes s formed.pieces bits) in
      subst (λ (o : Option ℕ). IsBegun (initial_at m o i.bytes)) (sym p.1) (record { keeps = keeps; placed = s.placed })

  all_initials : (m : ObjectMemory) (is : List Initial) → IsBegun m → All (IsFormedInitial q) is → AreEightBits is → IsBegun (with_initials m is)
  all_initials m [] s formed bits = s
  all_initials m (i ∷ is) s formed bits =
      all_initials (with_initial m i) is
      (one_initial m i s (All-head (IsFormedInitial q) i is formed) (All-head (λ j. All HasEightBits j.bytes) i is bits))
      (All-tail (IsFormedInitial q) i is formed) (All-tail (λ j. All HasEightBits j.bytes) i is bits)

  pub start_keeps : All (IsFormedInitial q) q.initial → AreEightBits q.initial → Keeps ⊥ q.objects (start q.objects q.initial)
  start_keeps formed bits =
      let opened = opened_kept q.objects in
      let begun : IsBegun (opened_statics q.objects) = record {
        keeps = objects_keep q.objects (opened_statics q.objects) (keeps_objects (Unit {0}) q.objects (opened_statics q.objects) opened);
        placed = static_placed q.objects;
      } in
      (all_initials (opened_statics q.objects) q.initial begun formed bits).keeps

  pub first_typed : (inputs : List ℤ) → All (IsFormedInitial q) q.initial → AreEightBits q.initial → Typed ⊥ q (first q inputs)
  first_typed inputs formed bits = record {
    count = length-map q.temps first_value;
    temps = first_temps (length (start q.objects q.initial).blocks) q.temps;
    memory = start_keeps formed bits;
  }
