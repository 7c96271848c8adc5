use Rattle.std.proofs.Common.{◌≡◌, ◌+◌, ◌<◌, ap, sym, ◌∙◌, subst, length, map, drop, get_or, vec_len, arith}
use Rattle.std.specs.Prelude.{None, reverse}
use Rattle.std.proofs.lemmas.Grind.{common_steps}
use Rattle.c_syntax.specs.Types.{object_tree}
use Rattle.c_typing.specs.File.{initials_from}
use Rattle.c_check_functions.proofs.Tables.{given_to, next_one, nothing_left, place_before, place_last}
use Rattle.c_check_functions.proofs.initials.from_table.Goals as goal

pub each-init : goal.each-init
each-init c = (
  omega (arith, c.requires),
  λ given h. (
    ap reverse c.new-all.ensures.items ∙ nothing_left given c.args.objects.now (vec_len c.args.table) c.requires,
    λ n k. let below : n < length c.args.objects.now = omega (arith, k, c.requires) in h n below,
  ),
)

pub each-preserved : goal.each-preserved
each-preserved c =
    let count : vec_len c.each.left ≡ vec_len c.pop.new.self + 1 = omega (arith, c.in-Some.ensures.len) in
    let places : vec_len c.pop.new.self ≡ length c.pop.new.self.items = omega (arith, c.pop.new.self.ok) in
    let below : vec_len c.pop.new.self < length c.args.objects.now = omega (arith, count, c.each.invariant.0) in (
      omega (arith, below),
      λ given h.
          let held = c.each.invariant.1 given h in
          let last : vec_len c.pop.new.self < vec_len c.each.left = omega (arith, count) in
          let found = sym (ap (λ xs. get_or xs (vec_len c.pop.new.self) None) c.in-Some.ensures.items ∙ place_last c.pop.new.self.items c.in-Some.given (vec_len c.pop.new.self) places)
          ∙ held.1 (vec_len c.pop.new.self) last in
          let place : c.len-n.result < length c.args.objects.now = omega (arith, below, c.len-n.ensures) in
          let next : vec_len c.each.left ≡ c.len-n.result + 1 = omega (arith, count, c.len-n.ensures) in (
            subst (λ k. reverse c.add_initial.new.all.items ≡ initials_from given k (map object_tree (drop k c.args.objects.now))) c.len-n.ensures
                (next_one given c.args.objects.now c.len-n.result (vec_len c.each.left) c.index-objects-n.result c.each.all.items c.add_initial.new.all.items c.in-Some.given
                c.index-objects-n.is place (found ∙ ap (given_to given) (sym c.len-n.ensures)) next c.in_ok-add_initial.ensures held.0),
            λ n k. let inside : n < length c.pop.new.self.items = omega (arith, k, places) in
                let before : n < vec_len c.each.left = omega (arith, k, count) in
                sym (ap (λ xs. get_or xs n None) c.in-Some.ensures.items ∙ place_before c.pop.new.self.items c.in-Some.given n inside) ∙ held.1 n before,
          ),
    )

pub returns : goal.returns
returns c = λ given h.
    let none : vec_len c.each.left ≡ 0 = grind (arith, common_steps, c.in_default.ensures) in
    c.reverse.ensures.items ∙ (c.each.invariant.1 given h).0
    ∙ ap (λ k. initials_from given k (map object_tree (drop k c.args.objects.now))) none
