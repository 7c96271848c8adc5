-- The temporary of a type at a depth is there, and has that type.
use Rattle.std.proofs.Common.{◌≡◌, ℕ, zero, suc, ◌*◌, ◌<◌, List, ◌++◌, length, Some, refl, subst, ◌∙◌, arith}
use Rattle.std.specs.Prelude.{slice_get}
use Rattle.c_syntax_written.specs.declared.int_type.IntType.TheVariants.{Char, SChar, UChar, Short, UShort, Int, UInt, Long, ULong, LLong, ULLong}
use Rattle.block_mem.specs.declared.types.Scalar.{Scalar}
use Rattle.block_mem.specs.declared.types.Scalar.TheVariants as scalars
use Rattle.lower_trees.specs.Temps.{scalar_place, temp_at, row, rows}

first_row : (xs : List Scalar) (ty : Scalar) → slice_get (row ++ xs) (scalar_place ty) ≡ Some ty
first_row xs (scalars.Int Char) = refl
first_row xs (scalars.Int SChar) = refl
first_row xs (scalars.Int UChar) = refl
first_row xs (scalars.Int Short) = refl
first_row xs (scalars.Int UShort) = refl
first_row xs (scalars.Int Int) = refl
first_row xs (scalars.Int UInt) = refl
first_row xs (scalars.Int Long) = refl
first_row xs (scalars.Int ULong) = refl
first_row xs (scalars.Int LLong) = refl
first_row xs (scalars.Int ULLong) = refl
first_row xs scalars.Pointer = refl

-- behind a row
later_row : (xs : List Scalar) (m : ℕ) → slice_get (row ++ xs) (suc (suc (suc (suc (suc (suc (suc (suc (suc (suc (suc (suc m)))))))))))) ≡ slice_get xs m
later_row xs m = refl

pub temp_there : (n d : ℕ) (ty : Scalar) → d < n → slice_get (rows n) (temp_at d ty) ≡ Some ty
temp_there zero d ty h = absurd (omega (arith, h))
temp_there (suc n) zero ty h =
    let e : scalar_place ty ≡ temp_at 0 ty = omega arith in
    subst (λ i. slice_get (row ++ rows n) i ≡ Some ty) e (first_row (rows n) ty)
temp_there (suc n) (suc d) ty h =
    let e : suc (suc (suc (suc (suc (suc (suc (suc (suc (suc (suc (suc (temp_at d ty)))))))))))) ≡ temp_at (suc d) ty = omega arith in
    subst (λ i. slice_get (row ++ rows n) i ≡ Some ty) e
    (later_row (rows n) (temp_at d ty) ∙ temp_there n d ty (omega (arith, h)))

pub rows_count : (n : ℕ) → length (rows n) ≡ 12 * n
rows_count zero = refl
rows_count (suc n) = let h = rows_count n in omega (arith, h)
