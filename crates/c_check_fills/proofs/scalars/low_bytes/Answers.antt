use Rattle.std.proofs.Common.{◌≡◌, ◌+◌, ◌-◌, ◌/◌, ◌++◌, suc, ap, sym, ◌∙◌, arith, map}
use Rattle.block_mem.specs.Numbers.{low_bytes}
use Rattle.c_typing.specs.Inits.{number_byte}
use Rattle.c_check_fills.proofs.Rows.{next_low, no_low}
use Rattle.c_check_fills.proofs.scalars.low_bytes.Goals as goal

pub each-preserved : goal.each-preserved
each-preserved c =
    let done = c.each.bytes.items in
    let left = c.args.count - (c.each.counter + 1) in
    let one_less : suc left ≡ c.args.count - c.each.counter = omega (arith, c.each-test.true) in
    ap (λ bytes. bytes ++ map number_byte (low_bytes left (c.each.rest / 256))) c.in_ok-push.ensures.items ∙ next_low done left c.each.rest
    ∙ ap (λ k. done ++ map number_byte (low_bytes k c.each.rest)) one_less ∙ c.each.invariant

pub returns : goal.returns
returns c =
    let none : c.args.count - c.each.counter ≡ 0 = omega arith in
    sym (no_low c.each.bytes.items c.each.rest) ∙ ap (λ k. c.each.bytes.items ++ map number_byte (low_bytes k c.each.rest)) (sym none) ∙ c.each.invariant
