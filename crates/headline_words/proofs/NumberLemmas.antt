-- Digits that no number is read from.
use Rattle.std.proofs.Common.{◌≡◌, ◌<◌, refl, arith, ℕ, Bool, true, false, [], ◌∷◌, length, None}
use Rattle.std.specs.Prelude.{◌&&◌, ◌==◌, nat_le}
use Rattle.std.specs.List.{list_all}
use Rattle.std.specs.Char.{digit_value}
use Rattle.std.specs.Str.Parse.{AllDigits, IsNumeral, digits_value, without_leading_plus}
use Rattle.headline_words.specs.Command.{Text, is_digit, number_in}

digit_below : (b : ℕ) → is_digit b ≡ true → digit_value b < 10
digit_below b h = search (arith, h)

and_first : (a b : Bool) → (a && b) ≡ true → a ≡ true
and_first true b h = refl
and_first false b h = absurd (cc)

and_second : (a b : Bool) → (a && b) ≡ true → b ≡ true
and_second true b h = h
and_second false b h = absurd (cc)

all_digits : (text : Text) → list_all is_digit text ≡ true → AllDigits 10 text
all_digits [] h = tt
all_digits (b ∷ bs) h = (digit_below b (and_first (is_digit b) (list_all is_digit bs) h), all_digits bs (and_second (is_digit b) (list_all is_digit bs) h))

no_plus : (b : ℕ) (bs : Text) → is_digit b ≡ true → without_leading_plus (b ∷ bs) ≡ b ∷ bs
no_plus b bs h = let e : (b == 43) ≡ false = search (arith, h) in rw e refl

too_many : (a b c : Bool) → (a && (b && (c && false))) ≡ false
too_many false b c = refl
too_many true false c = refl
too_many true true false = refl
too_many true true true = refl

none_above : (most : ℕ) (text : Text) → nat_le (digits_value 10 text) most ≡ false → None ≡ number_in most text
none_above most text h = rw (h, too_many (nat_le 1 (length text)) (nat_le (length text) 5) (list_all is_digit text)) refl

none_at : (most : ℕ) (b : ℕ) (bs : Text) → most < 4294967296 → list_all is_digit (b ∷ bs) ≡ true
    → ((IsNumeral 10 (b ∷ bs) × (digits_value 10 (b ∷ bs) < 4294967296)) → ⊥) → (d : Bool) → nat_le (digits_value 10 (b ∷ bs)) most ≡ d → None ≡ number_in most (b ∷ bs)
none_at most b bs small all never true h =
    let below : digits_value 10 (b ∷ bs) < 4294967296 = search (arith, h, small) in
    absurd (never ((omega arith, all_digits (b ∷ bs) all), below))
none_at most b bs small all never false h = none_above most (b ∷ bs) h

pub none_number : (most : ℕ) (text : Text) → most < 4294967296 → list_all is_digit text ≡ true
    → ((IsNumeral 10 (without_leading_plus text) × (digits_value 10 (without_leading_plus text) < 4294967296)) → ⊥) → None ≡ number_in most text
none_number most [] small all never = refl
none_number most (b ∷ bs) small all never =
    none_at most b bs small all (rw (no_plus b bs (and_first (is_digit b) (list_all is_digit bs) all)) at never) (nat_le (digits_value 10 (b ∷ bs)) most) refl
