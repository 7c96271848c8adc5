-- The number of all bytes of an object, and what loads from its first byte give.
use mir.Syntax.{Width}
use mir.Val.{bits, hbits}
use Rattle.std.proofs.Common.{◌≡◌, ℕ, ℤ, ◌+◌, ◌-◌, ◌*◌, ◌<◌, ◌≤◌, ◌^◌, pos, Bool, true, false, refl, sym, subst, ap, ◌∙◌, arith, List, [], ◌∷◌}
use Rattle.std.proofs.Common.{length, min, Option, Some, None, inl, inr, ◌⊎◌, to_z}
use Rattle.std.specs.Prelude.{◌-ℤ◌, ◌==◌, ◌%◌, ltb, nat_le, if◌then◌else◌, FitsSigned, IfSome, IsSomeAnd, option_map, option_and_then, Result, Ok, Err}
use Rattle.std.specs.Int.{byte_len, cast_signed, w128}
use Rattle.std.specs.Option.{ok_or}
use Rattle.std.proofs.lemmas.Bool.{cases_lt, le-leb, le-ltb, lt-leb, eq-eqb, eqb-true}
use Rattle.std.proofs.lemmas.Int.{ints, to_z_pos}
use Rattle.std.proofs.lemmas.List.{length-take}
use Rattle.c_syntax_written.specs.declared.int_type.IntType.{IntType}
use Rattle.c_syntax_written.specs.declared.int_type.IntType.TheVariants.{Char, SChar, UChar, Short, UShort, Int, UInt, Long, ULong, LLong, ULLong}
use Rattle.c_syntax_written.specs.Integer.{std_width, is_signed, bytes, HasNumber}
use Rattle.c_syntax.specs.declared.alarm.WrongKind.{WrongKind}
use Rattle.c_syntax.specs.declared.alarm.WrongKind.TheVariants.{Indeterminate, Fragment}
use Rattle.block_mem.specs.declared.types.Byte.{Byte}
use Rattle.block_mem.specs.declared.types.Byte.TheVariants.{Undef, Num, Frag}
use Rattle.block_mem.specs.declared.types.Pointer.{Pointer}
use Rattle.block_mem.specs.declared.types.Scalar.TheVariants as scalars
use Rattle.block_mem.specs.declared.types.Value.{Value}
use Rattle.block_mem.specs.declared.types.Value.TheVariants as values
use Rattle.block_mem.specs.Block.{BlockView, wrong_in}
use Rattle.block_mem.specs.Blocks.{block_at, load, loaded, after_access, wrong_access}
use Rattle.block_mem.specs.Bytes.{value_of, has_undef}
use Rattle.block_mem.specs.Numbers.{number_in, number_of, low_first}
use Rattle.block_mem.specs.Pieces.{get_bytes}
use Rattle.block_mem.proofs.Puts.{length-get}
use Rattle.block_mem.proofs.StoreLaws.{passing}
use Rattle.c_values.specs.Places.{ObjectMemory, place_of}
use Rattle.c_objects.specs.Cells.{with_sign, whole_number}
use Rattle.mem_one_state.specs.Telling.{unsigned_of, Loads, HasWhole, AreLive}

-- ---- bytes as a number of a type

high_half : (w : Width) (x : ℕ) → 2 ^ hbits w ≤ x → x < 2 ^ bits w → pos x -ℤ pos (2 ^ bits w) ≡ to_z w x
high_half w x h l = let g : ltb x (2 ^ hbits w) ≡ false = le-ltb _ _ h in rw g (omega (arith, ints, l))

sign_case : (w : Width) (size x : ℕ) → 8 * size ≡ bits w → 8 * size - 1 ≡ hbits w → x < 2 ^ bits w → (x < 2 ^ hbits w) ⊎ (2 ^ hbits w ≤ x)
    → with_sign true size x ≡ to_z w x
sign_case w size x whole half l (inl low) =
    let f : nat_le (2 ^ hbits w) x ≡ false = lt-leb _ _ low in rw half (rw f (sym (to_z_pos w x low)))
sign_case w size x whole half l (inr high) =
    let f : nat_le (2 ^ hbits w) x ≡ true = le-leb _ _ high in rw half (rw whole (rw f (high_half w x high l)))

record HasSize (t : IntType) : Type 0 where
  whole : 8 * byte_len (std_width t) ≡ bits (std_width t)
  half : 8 * byte_len (std_width t) - 1 ≡ hbits (std_width t)
  bytes_are : bytes t ≡ byte_len (std_width t)
  aligned : (0 % byte_len (std_width t) == 0) ≡ true
  like : std_width (unsigned_of t) ≡ std_width t
  plain : (y : ℕ) → HasNumber (unsigned_of t) (number_in (unsigned_of t) y) → y < 2 ^ bits (std_width t)

size : (t : IntType) → HasSize t
size Char = record { whole = refl; half = refl; bytes_are = refl; aligned = refl; like = refl; plain = λ y h. omega (arith, ints, h) }
size SChar = record { whole = refl; half = refl; bytes_are = refl; aligned = refl; like = refl; plain = λ y h. omega (arith, ints, h) }
size UChar = record { whole = refl; half = refl; bytes_are = refl; aligned = refl; like = refl; plain = λ y h. omega (arith, ints, h) }
size Short = record { whole = refl; half = refl; bytes_are = refl; aligned = refl; like = refl; plain = λ y h. omega (arith, ints, h) }
size UShort = record { whole = refl; half = refl; bytes_are = refl; aligned = refl; like = refl; plain = λ y h. omega (arith, ints, h) }
size Int = record { whole = refl; half = refl; bytes_are = refl; aligned = refl; like = refl; plain = λ y h. omega (arith, ints, h) }
size UInt = record { whole = refl; half = refl; bytes_are = refl; aligned = refl; like = refl; plain = λ y h. omega (arith, ints, h) }
size Long = record { whole = refl; half = refl; bytes_are = refl; aligned = refl; like = refl; plain = λ y h. omega (arith, ints, h) }
size ULong = record { whole = refl; half = refl; bytes_are = refl; aligned = refl; like = refl; plain = λ y h. omega (arith, ints, h) }
size LLong = record { whole = refl; half = refl; bytes_are = refl; aligned = refl; like = refl; plain = λ y h. omega (arith, ints, h) }
size ULLong = record { whole = refl; half = refl; bytes_are = refl; aligned = refl; like = refl; plain = λ y h. omega (arith, ints, h) }

by_sign : (t : IntType) (s : Bool) (x : ℕ) → x < 2 ^ bits (std_width t) → with_sign s (byte_len (std_width t)) x
    ≡ (if s then cast_signed (std_width t) x else pos x)
by_sign t true x l =
    let e = size t in sign_case (std_width t) (byte_len (std_width t)) x e.whole e.half l (cases_lt x (2 ^ hbits (std_width t)))
by_sign t false x l = refl

-- ---- bytes that are a number have values

some_same : {A : Type 0} (a b : A) → Some a ≡ Some b → a ≡ b
some_same a b h = cc

then_defined : (k : ℕ) (bs : List Byte) (y : ℕ) (r : Option ℕ) → number_of bs ≡ r → ((m : ℕ) → number_of bs ≡ Some m → has_undef bs ≡ false)
    → low_first (Num k) (number_of bs) ≡ Some y → has_undef bs ≡ false
then_defined k bs y None g each h = let none : None ≡ Some y = sym (ap (low_first (Num k)) g) ∙ h in absurd (cc)
then_defined k bs y (Some m) g each h = each m g

defined : (bs : List Byte) (y : ℕ) → number_of bs ≡ Some y → has_undef bs ≡ false
defined [] y h = refl
defined (Undef ∷ bs) y h = absurd (cc)
defined (Frag p k ∷ bs) y h = absurd (cc)
defined (Num k ∷ bs) y h = then_defined k bs y (number_of bs) refl (λ m g. defined bs m g) h

-- ---- what is read of an object

-- so many bytes of an object that lives are this number, without a sign
record IsRead (m : ObjectMemory) (x many b y : ℕ) : Type 0 where
  place : place_of m x ≡ Some b
  long : length (get_bytes (block_at m.blocks b).bytes 0 many) ≡ many
  number : number_of (get_bytes (block_at m.blocks b).bytes 0 many) ≡ Some y

one_number : (m : ObjectMemory) (x many b y c z : ℕ) → IsRead m x many b y → IsRead m x many c z → y ≡ z
one_number m x many b y c z f g =
    let same : b ≡ c = some_same b c (sym f.place ∙ g.place) in
    some_same y z (sym f.number ∙ ap (λ (d : ℕ). number_of (get_bytes (block_at m.blocks d).bytes 0 many)) same ∙ g.number)

passed : (w : Option WrongKind) (r : Result Value WrongKind) (v : Value) → after_access w r ≡ Ok v → (w ≡ None) × (r ≡ Ok v)
passed None r v h = (refl, h)
passed (Some k) r v h = absurd (cc)

has_value : (undef : Bool) (o : Option Value) (v : Value) → (if undef then Err Indeterminate else ok_or o Fragment) ≡ Ok v → o ≡ Some v
has_value true o v h = absurd (cc)
has_value false None v h = absurd (cc)
has_value false (Some u) v h = let same : u ≡ v = cc in ap (λ x. Some x) same

typed_value : (t : IntType) (o : Option ℕ) (n : ℤ) → option_map (λ m. values.Int t (number_in t m)) o ≡ Some (values.Int t n)
    → (y : ℕ) × (o ≡ Some y) × (n ≡ number_in t y)
typed_value t None n h = absurd (cc)
typed_value t (Some y) n h = let same : values.Int t (number_in t y) ≡ values.Int t n = cc in let number : number_in t y ≡ n = cc in (y, refl, sym number)

at_place : (o : Option ℕ) (P : ℕ → Type 0) → IsSomeAnd o P → (b : ℕ) × (o ≡ Some b) × P b
at_place None P h = absurd h
at_place (Some b) P h = (b, refl, h)

from_place : (o : Option ℕ) (P : ℕ → Type 0) (b : ℕ) → o ≡ Some b → P b → IsSomeAnd o P
from_place o P b e h = subst (λ p. IsSomeAnd p P) (sym e) h

-- a load gives the number of the bytes
read_by : (m : ObjectMemory) (x : ℕ) (t : IntType) (n : ℤ) → Loads m x t n
    → (b y : ℕ) × IsRead m x (byte_len (std_width t)) b y × (n ≡ number_in t y)
read_by m x t n h =
    let p = at_place (place_of m x) (λ b. load m.blocks (record { block = b; offset = pos 0 }) (scalars.Int t) ≡ Ok (values.Int t n)) h in
    let at : Pointer = record { block = p.0; offset = pos 0 } in
    let k = byte_len (std_width t) in
    let bs = get_bytes (block_at m.blocks p.0).bytes 0 k in
    let given = passed (wrong_access m.blocks at k k false) (loaded (scalars.Int t) bs) (values.Int t n) p.2 in
    let value = typed_value t (number_of bs) n (has_value (has_undef bs) (value_of (scalars.Int t) bs) (values.Int t n) given.1) in
    let inside = passing m.blocks at k k false given.0 in
    (p.0, value.0, record { place = p.1; long = length-get (block_at m.blocks p.0).bytes 0 k inside.inside; number = value.1 }, value.2)

enough : (bs : List Byte) (k : ℕ) → length (get_bytes bs 0 k) ≡ k → k ≤ length bs
enough bs k e = let taken : length (get_bytes bs 0 k) ≡ min k (length bs) = length-take k bs in omega (arith, e, taken)

allowed : (b : BlockView) (t : IntType) → b.live ≡ true → byte_len (std_width t) ≤ length b.bytes
    → wrong_in b (pos 0) (byte_len (std_width t)) (byte_len (std_width t)) false ≡ None
allowed b t live inside =
    let k = byte_len (std_width t) in
    let none : 0 + k ≡ k = omega arith in
    let fits : nat_le (0 + k) (length b.bytes) ≡ true = le-leb (0 + k) (length b.bytes) (subst (λ n. n ≤ length b.bytes) (sym none) inside) in
    let even = (size t).aligned in
    rw live (rw fits (rw even refl))

given_value : (t : IntType) (undef : Bool) (o : Option ℕ) (y : ℕ) → undef ≡ false → o ≡ Some y
    → (if undef then Err Indeterminate else ok_or (option_map (λ m. values.Int t (number_in t m)) o) Fragment) ≡ Ok (values.Int t (number_in t y))
given_value t undef o y e f = rw e (rw f refl)

-- and where the bytes are a number, a load gives it
loads_read : (m : ObjectMemory) (x : ℕ) (t : IntType) (b y : ℕ) → AreLive m → IsRead m x (byte_len (std_width t)) b y → Loads m x t (number_in t y)
loads_read m x t b y live r =
    let k = byte_len (std_width t) in
    let bs = get_bytes (block_at m.blocks b).bytes 0 k in
    let free = allowed (block_at m.blocks b) t (live x b r.place) (enough (block_at m.blocks b).bytes k r.long) in
    from_place (place_of m x) (λ c. load m.blocks (record { block = c; offset = pos 0 }) (scalars.Int t) ≡ Ok (values.Int t (number_in t y))) b r.place
    (ap (λ (w : Option WrongKind). after_access w (loaded (scalars.Int t) bs)) free
    ∙ given_value t (has_undef bs) (number_of bs) y (defined bs y r.number) r.number)

-- ---- the number of a whole object

whole_from : (s : Bool) (many : ℕ) (bs : List Byte) (even : Bool) (o : Option ℕ) (n : ℤ) → (length bs == many) ≡ even → number_of bs ≡ o
    → (if even then option_map (with_sign s many) o else None) ≡ Some n → (y : ℕ) × (length bs ≡ many) × (number_of bs ≡ Some y) × (with_sign s many y ≡ n)
whole_from s many bs false o n e f h = absurd (cc)
whole_from s many bs true None n e f h = absurd (cc)
whole_from s many bs true (Some y) n e f h = let same : with_sign s many y ≡ n = cc in (y, eqb-true (length bs) many e, f, same)

cell_from : (s : Bool) (m : ObjectMemory) (x many : ℕ) (o : Option ℕ) (n : ℤ) → place_of m x ≡ o
    → option_and_then (λ b. whole_number s many (get_bytes (block_at m.blocks b).bytes 0 many)) o ≡ Some n
    → (b y : ℕ) × IsRead m x many b y × (with_sign s many y ≡ n)
cell_from s m x many None n e h = absurd (cc)
cell_from s m x many (Some b) n e h =
    let bs = get_bytes (block_at m.blocks b).bytes 0 many in
    let w = whole_from s many bs (length bs == many) (number_of bs) n refl refl h in
    (b, w.0, record { place = e; long = w.1; number = w.2 }, w.3)

cell_to : (s : Bool) (m : ObjectMemory) (x many b y : ℕ) → IsRead m x many b y
    → option_and_then (λ c. whole_number s many (get_bytes (block_at m.blocks c).bytes 0 many)) (place_of m x) ≡ Some (with_sign s many y)
cell_to s m x many b y r =
    let even : (length (get_bytes (block_at m.blocks b).bytes 0 many) == many) ≡ true = eq-eqb _ many r.long in
    ap (λ (o : Option ℕ). option_and_then (λ c. whole_number s many (get_bytes (block_at m.blocks c).bytes 0 many)) o) r.place
    ∙ rw even (rw r.number refl)

-- two loads tell it, one of them at the type without a sign
pub whole_loaded : (m : ObjectMemory) (x : ℕ) (t : IntType) (z n : ℤ) → Loads m x (unsigned_of t) z → HasNumber (unsigned_of t) z → Loads m x t n
    → HasWhole m x t n
whole_loaded m x t z n f has g =
    let e = size t in
    let first = read_by m x (unsigned_of t) z f in
    let second = read_by m x t n g in
    let wide = subst (λ (w : Width). IsRead m x (byte_len w) first.0 first.1) e.like first.2 in
    let same : first.1 ≡ second.1 = one_number m x (byte_len (std_width t)) first.0 first.1 second.0 second.1 wide second.2 in
    let small = e.plain first.1 (subst (HasNumber (unsigned_of t)) first.3 has) in
    let below : second.1 < 2 ^ bits (std_width t) = subst (λ k. k < 2 ^ bits (std_width t)) same small in
    let whole = cell_to (is_signed t) m x (byte_len (std_width t)) second.0 second.1 second.2 in
    let sized = subst (λ k. option_and_then (λ c. whole_number (is_signed t) k (get_bytes (block_at m.blocks c).bytes 0 k)) (place_of m x)
    ≡ Some (with_sign (is_signed t) (byte_len (std_width t)) second.1)) (sym e.bytes_are) whole in
    sized ∙ ap (λ k. Some k) (by_sign t (is_signed t) second.1 below ∙ sym second.3)

-- and where there is one, both loads give it
pub loads_whole : (m : ObjectMemory) (x : ℕ) (t : IntType) (n : ℤ) → AreLive m → HasWhole m x t n
    → (z : ℤ) × Loads m x (unsigned_of t) z × (HasNumber (unsigned_of t) z → Loads m x t n)
loads_whole m x t n live h =
    let e = size t in
    let r = cell_from (is_signed t) m x (bytes t) (place_of m x) n refl h in
    let own : IsRead m x (byte_len (std_width t)) r.0 r.1 = subst (λ k. IsRead m x k r.0 r.1) e.bytes_are r.2 in
    let other = subst (λ (w : Width). IsRead m x (byte_len w) r.0 r.1) (sym e.like) own in
    let number : with_sign (is_signed t) (byte_len (std_width t)) r.1 ≡ n = subst (λ k. with_sign (is_signed t) k r.1 ≡ n) e.bytes_are r.3 in (
      number_in (unsigned_of t) r.1,
      loads_read m x (unsigned_of t) r.0 r.1 live other,
      λ has. subst (Loads m x t) (sym (by_sign t (is_signed t) r.1 (e.plain r.1 has)) ∙ number) (loads_read m x t r.0 r.1 live own),
    )

-- ---- what two loads answer

pub number_fits : (t : IntType) (n : ℤ) → HasNumber t n → FitsSigned w128 n
number_fits Char n h = omega (arith, ints, h)
number_fits SChar n h = omega (arith, ints, h)
number_fits UChar n h = omega (arith, ints, h)
number_fits Short n h = omega (arith, ints, h)
number_fits UShort n h = omega (arith, ints, h)
number_fits Int n h = omega (arith, ints, h)
number_fits UInt n h = omega (arith, ints, h)
number_fits Long n h = omega (arith, ints, h)
number_fits ULong n h = omega (arith, ints, h)
number_fits LLong n h = omega (arith, ints, h)
number_fits ULLong n h = omega (arith, ints, h)

module _ (m : ObjectMemory) (x : ℕ) (t u : IntType) (is : u ≡ unsigned_of t) where
  pub told_by : (first second : Option ℤ) (z : ℤ) → IfSome first (λ k. Loads m x u k × HasNumber u k) → first ≡ Some z
      → IfSome second (λ n. Loads m x t n × HasNumber t n) → IfSome second (HasWhole m x t)
  told_by first None z f e g = tt
  told_by first (Some n) z f e g =
      let own : Loads m x u z × HasNumber u z = subst (λ o. IfSome o (λ k. Loads m x u k × HasNumber u k)) e f in
      whole_loaded m x t z n (subst (λ w. Loads m x w z) is own.0) (subst (λ w. HasNumber w z) is own.1) g.0

  pub first_by : (first : Option ℤ) → AreLive m → IfSome first (λ k. Loads m x u k × HasNumber u k) → ((z : ℤ) → Loads m x u z → first ≡ Some z) → (n : ℤ)
      → HasWhole m x t n → (z : ℤ) × (first ≡ Some z) × Loads m x t n
  first_by first live told each n h =
      let w = loads_whole m x t n live h in
      let here : first ≡ Some w.0 = each w.0 (subst (λ v. Loads m x v w.0) (sym is) w.1) in
      let own : Loads m x u w.0 × HasNumber u w.0 = subst (λ o. IfSome o (λ k. Loads m x u k × HasNumber u k)) here told in
      (w.0, here, w.2 (subst (λ v. HasNumber v w.0) is own.1))
