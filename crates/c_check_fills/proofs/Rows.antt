-- Rows of bytes, one by one.
use Rattle.std.proofs.Common.{◌≡◌, ◌∙◌, ap, sym, refl, ℕ, ℤ, suc, ◌+◌, ◌%◌, ◌/◌, List, [], ◌∷◌, ◌++◌, map, append_assoc}
use Rattle.std.proofs.lemmas.List.{append-nil}
use Rattle.c_syntax.specs.declared.program.InitByte.{InitByte}
use Rattle.c_syntax.specs.declared.program.InitByte.TheVariants.{Num, Piece}
use Rattle.block_mem.specs.Numbers.{low_bytes}
use Rattle.c_typing.specs.Inits.{number_byte, piece_bytes}

first_low : (k m : ℕ) → map number_byte (low_bytes (suc k) m) ≡ Num (m % 256) ∷ map number_byte (low_bytes k (m / 256))
unfolding low_bytes
first_low k m = refl

none_low : (m : ℕ) → map number_byte (low_bytes 0 m) ≡ []
unfolding low_bytes
none_low m = refl

-- one more low byte
pub next_low : (done : List InitByte) (k m : ℕ) → (done ++ Num (m % 256) ∷ []) ++ map number_byte (low_bytes k (m / 256)) ≡ done ++ map number_byte (low_bytes (suc k) m)
next_low done k m = append_assoc done (Num (m % 256) ∷ []) (map number_byte (low_bytes k (m / 256))) ∙ ap (λ rest. done ++ rest) (sym (first_low k m))

pub no_low : (done : List InitByte) (m : ℕ) → done ++ map number_byte (low_bytes 0 m) ≡ done
no_low done m = ap (λ rest. done ++ rest) (none_low m) ∙ append-nil done

first_piece : (n : ℕ) (offset : ℤ) (k left : ℕ) → piece_bytes n offset k (suc left) ≡ Piece n offset k ∷ piece_bytes n offset (k + 1) left
unfolding piece_bytes
first_piece n offset k left = refl

none_piece : (n : ℕ) (offset : ℤ) (k : ℕ) → piece_bytes n offset k 0 ≡ []
unfolding piece_bytes
none_piece n offset k = refl

-- one more piece
pub next_piece : (done : List InitByte) (n : ℕ) (offset : ℤ) (k left : ℕ)
    → (done ++ Piece n offset k ∷ []) ++ piece_bytes n offset (k + 1) left ≡ done ++ piece_bytes n offset k (suc left)
next_piece done n offset k left =
    append_assoc done (Piece n offset k ∷ []) (piece_bytes n offset (k + 1) left) ∙ ap (λ rest. done ++ rest) (sym (first_piece n offset k left))

pub no_piece : (done : List InitByte) (n : ℕ) (offset : ℤ) (k : ℕ) → done ++ piece_bytes n offset k 0 ≡ done
no_piece done n offset k = ap (λ rest. done ++ rest) (none_piece n offset k) ∙ append-nil done
