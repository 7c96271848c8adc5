use Rattle.std.proofs.Common.{◌≡◌, ℕ, zero, suc, ◌-◌, ◌*◌, ◌≤◌, List, [], ◌∷◌, take, drop, false, refl, ap, sym, ◌∙◌, arith}
use Rattle.std.specs.Prelude.{nat_le, find}
use Rattle.c_syntax_written.specs.declared.int_type.IntType.{IntType}
use Rattle.c_syntax_written.specs.declared.int_type.IntType.TheVariants.{Int, UInt, Long, ULong, LLong, ULLong}
use Rattle.c_syntax_written.specs.Integer.{greatest}
use Rattle.c_layout.specs.Conversion.{literal_type_of}
use Rattle.c_layout.proofs.integer.literal_type.Goals as goal

abbrev row_from : ℕ → List IntType
row_from longs = take (6 - 2 * longs) (drop (2 * longs) (Int ∷ UInt ∷ Long ∷ ULong ∷ LLong ∷ ULLong ∷ []))

-- the types of a constant in base 8 or 16 without `u`, by how many times it has an `l`
either_sign : (value longs : ℕ) → longs ≤ 2 → find (λ t. nat_le value (greatest t)) (row_from longs) ≡ literal_type_of value false false longs
either_sign value zero h = refl
either_sign value (suc zero) h = refl
either_sign value (suc (suc zero)) h = refl
either_sign value (suc (suc (suc longs))) h = absurd (omega arith)

pub returns-else-decimal : goal.returns-else-decimal
returns-else-decimal c =
    c.first_with-else-decimal.ensures
    ∙ ap (λ longs. find (λ t. nat_le c.args.value (greatest t)) (row_from longs)) c.from-from.ensures
    ∙ either_sign c.args.value c.args.longs c.requires
    ∙ ap (λ decimal. literal_type_of c.args.value decimal false c.args.longs) (sym c.if-decimal.false)
    ∙ ap (λ unsigned. literal_type_of c.args.value c.args.decimal unsigned c.args.longs) (sym c.if-unsigned.false)
