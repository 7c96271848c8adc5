use Rattle.std.proofs.Common.{◌≡◌, ◌<◌, ap, sym, ◌∙◌, [], length, vec_len, arith}
use Rattle.std.specs.Option.{option_or}
use Rattle.std.proofs.lemmas.Grind.{common_steps}
use Rattle.c_check_functions.proofs.Tables.{after_put, found, given_to, or_none}
use Rattle.c_check_functions.proofs.initials.by_number.Goals as goal

pub each-init : goal.each-init
each-init c = (
  c.in_ok-table.ensures.count,
  λ n h. ap (option_or (given_to c.args.given.items n)) (c.in_ok-table.ensures.nothing n) ∙ or_none (given_to c.args.given.items n),
)

pub each-preserved : goal.each-preserved
each-preserved c =
    let places : vec_len c.each.table ≡ length c.each.table.items = omega (arith, c.each.table.ok) in (
      c.put.ensures.count ∙ c.each.invariant.0,
      λ n h. let below : n < vec_len c.each.table = omega (arith, h, c.each.invariant.0) in
          after_put c.each.left.items c.pop.new.self.items c.in-Some.initial c.each.table.items c.put.new.table.items (vec_len c.each.table) n
          c.in-Some.ensures.items places below c.put.ensures.place ∙ c.each.invariant.1 n h,
    )

pub returns : goal.returns
returns c =
    let none : c.each.left.items ≡ [] = grind (arith, common_steps, c.in_default.ensures) in
    record {
      count = c.each.invariant.0;
      first = λ n h. ap (λ xs. found xs c.each.table.items n) (sym none) ∙ c.each.invariant.1 n h;
    }
