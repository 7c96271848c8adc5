-- Bytes of numbers, and what they give back.
use Rattle.std.proofs.Common.{ℕ, zero, suc, ◌≡◌, ◌+◌, ◌-◌, ◌*◌, ◌/◌, ◌%◌, ◌^◌, ◌<◌, ◌≤◌, List, [], ◌∷◌, ◌++◌, length, take, drop, get_or, Option, Some, None, refl, sym, subst, ap, ◌∙◌, arith, append_assoc, drop-cons}
use Rattle.std.proofs.lemmas.List.{take_more_set, append-nil, take_all}
use Rattle.std.proofs.Math.Nat.{pow-suc, pow-le-pow_right}
use Rattle.std.proofs.Math.ListN.{set}
use Rattle.block_mem.specs.declared.types.Byte.{Byte}
use Rattle.block_mem.specs.declared.types.Byte.TheVariants.{Undef, Num, Frag}
use Rattle.block_mem.specs.Numbers.{low_bytes, low_first, number_of}

-- one more byte is written
pub low_bytes_more : (bytes : List Byte) (i m k rest : ℕ) (all : List Byte) → i < length bytes → m ≡ suc k → take i bytes ++ low_bytes m rest ≡ all → take (i + 1) (set bytes i (Num (rest % 256))) ++ low_bytes k (rest / 256) ≡ all
unfolding low_bytes
low_bytes_more bytes i m k rest all h next e =
    let was : take i bytes ++ low_bytes (suc k) rest ≡ all = subst (λ n. take i bytes ++ low_bytes n rest ≡ all) next e in
    ap (λ (front : List Byte). front ++ low_bytes k (rest / 256)) (take_more_set bytes i (Num (rest % 256)) h) ∙ append_assoc (take i bytes) (Num (rest % 256) ∷ []) (low_bytes k (rest / 256)) ∙ was

-- all bytes are written
pub low_bytes_whole : (bytes : List Byte) (i m rest : ℕ) (all : List Byte) → length bytes ≤ i → m ≡ 0 → take i bytes ++ low_bytes m rest ≡ all → bytes ≡ all
unfolding low_bytes
low_bytes_whole bytes i m rest all h none e =
    let was : take i bytes ++ [] ≡ all = subst (λ n. take i bytes ++ low_bytes n rest ≡ all) none e in
    sym (append-nil (take i bytes) ∙ take_all i bytes h) ∙ was

-- one more number is read
pub number_more : (bytes : List Byte) (i low number : ℕ) (d : Byte) → i < length bytes → get_or bytes i d ≡ Num low → number_of (drop (suc i) bytes) ≡ Some number → number_of (drop i bytes) ≡ Some (low + 256 * number)
number_more bytes i low number d h is rest = ap number_of (drop-cons bytes i d h) ∙ ap (λ b. low_first b (number_of (drop (suc i) bytes))) is ∙ ap (low_first (Num low)) rest

pub low_first-none : (b : Byte) (rest : Option ℕ) → rest ≡ None → low_first b rest ≡ None
low_first-none b None h = low_first_nothing b
  where
    low_first_nothing : (c : Byte) → low_first c None ≡ None
    low_first_nothing Undef = refl
    low_first_nothing (Num n) = refl
    low_first_nothing (Frag p k) = refl
low_first-none b (Some m) h = absurd (cc)

-- bytes of which the last ones are no number are none
pub number-none : (bytes : List Byte) (i : ℕ) → number_of (drop i bytes) ≡ None → number_of bytes ≡ None
number-none bytes zero h = h
number-none [] (suc i) h = h
number-none (b ∷ bytes) (suc i) h = low_first-none b (number_of bytes) (number-none bytes i h)

not_number : (b : Byte) (rest : Option ℕ) → ((n : ℕ) → b ≡ Num n → ⊥) → low_first b rest ≡ None
not_number Undef rest h = refl
not_number (Num n) rest h = absurd (h n refl)
not_number (Frag p k) rest h = refl

pub number_stops : (bytes : List Byte) (i : ℕ) (d : Byte) → i < length bytes → ((n : ℕ) → get_or bytes i d ≡ Num n → ⊥) → number_of bytes ≡ None
number_stops bytes i d h other = number-none bytes i (ap number_of (drop-cons bytes i d h) ∙ not_number (get_or bytes i d) (number_of (drop (suc i) bytes)) other)

-- a further byte keeps the number below the power
pub number_below : (i n low number : ℕ) → suc i ≤ n → low < 256 → number < 256 ^ (n - suc i) → low + 256 * number < 256 ^ (n - i)
number_below i n low number h l b =
    let e : n - i ≡ suc (n - suc i) = omega arith in
    subst (λ p. low + 256 * number < 256 ^ p) (sym e) (subst (λ p. low + 256 * number < p) (sym (pow-suc 256 (n - suc i))) (omega arith))

-- and within 64 bits
pub number_fits : (k number : ℕ) → k < 8 → number < 256 ^ k → 256 * number + 255 < 2 ^ 64
number_fits k number h b =
    let top : 256 ^ k ≤ 256 ^ 7 = pow-le-pow_right {n = 256} (omega arith) {i = k} {j = 7} (omega arith) in omega (arith, top)
