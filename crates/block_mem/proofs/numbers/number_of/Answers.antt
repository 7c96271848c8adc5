use Rattle.std.proofs.Common.{◌≡◌, ◌-◌, ◌<◌, ◌^◌, ◌∙◌, ap, sym, subst, suc, arith, length, rules, drop, get_or, Some, ℕ}
use Rattle.block_mem.specs.declared.types.Byte.TheVariants.{Undef, Num}
use Rattle.block_mem.specs.Numbers.{number_of}
use Rattle.block_mem.proofs.ByteNumbers.{number_more, number_stops, number_below, number_fits}
use Rattle.block_mem.proofs.numbers.number_of.Goals as goal

pub overflow_mul-number : goal.overflow_mul-number
overflow_mul-number c = let h = number_fits _ _ (omega arith) c.loop-left.invariant.2 in search (rules, h)

pub overflow_add-number : goal.overflow_add-number
overflow_add-number c = let h = number_fits _ _ (omega arith) c.loop-left.invariant.2 in search (rules, h)

pub loop-left-preserved : goal.loop-left-preserved
loop-left-preserved c =
    let bytes = c.args.bytes.now in
    let i : ℕ = c.loop-left.left - 1 in
    let next : c.loop-left.left ≡ suc i = omega arith in
    let is : get_or bytes i Undef ≡ Num c.from.result = c.in-Num.is ∙ ap (λ n. Num n) (sym c.from.ensures) in
    let rest : number_of (drop (suc i) bytes) ≡ Some c.loop-left.number = subst (λ n. number_of (drop n bytes) ≡ Some c.loop-left.number) next c.loop-left.invariant.1 in
    let below : c.loop-left.number < 256 ^ (length bytes - suc i) = subst (λ n. c.loop-left.number < 256 ^ (length bytes - n)) next c.loop-left.invariant.2 in
    let low : c.from.result < 256 = search rules in
    (omega arith, number_more bytes i c.from.result c.loop-left.number Undef (omega arith) is rest, number_below i (length bytes) c.from.result c.loop-left.number (omega arith) low below)

pub returns-in_default : goal.returns-in_default
returns-in_default c = record { value = sym (number_stops c.args.bytes.now (c.loop-left.left - 1) Undef (omega arith) c.in_default.not-Num); bound = tt }
