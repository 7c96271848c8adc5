use Rattle.std.proofs.Common.{◌≡◌, ◌<◌, ap, length, get_or, suc, refl, ◌∙◌, sym, subst, arith}
use Rattle.csharp.specs.Trees.{csfunction_tree}
use Rattle.lower_program.proofs.Orders.{length_push, nothing_more, nothing_tree, no_rows_more}
use Rattle.lower_program.proofs.order.Done.new.Goals as goal

pub loop-alloc-preserved : goal.loop-alloc-preserved
loop-alloc-preserved c =
    let functions = c.loop-alloc.functions.items in
    let tops = c.loop-alloc.tops.items in
    let before = c.loop-alloc.invariant in
    let longer = ap length c.in_ok-push.ensures.items ∙ length_push functions _ in
    record {
      same = longer ∙ ap suc before.same ∙ sym (ap length c.in_ok-push-2.ensures.items ∙ length_push tops 0);
      few = omega (arith, longer);
      empty = λ f d below.
          ap (λ xs. csfunction_tree (get_or xs f d)) c.in_ok-push.ensures.items
          ∙ nothing_more functions _ f d (nothing_tree c.new.result c.new.ensures) before.empty (subst (λ xs. f < length xs) c.in_ok-push.ensures.items below);
      none = λ f. ap (λ xs. get_or xs f 0) c.in_ok-push-2.ensures.items ∙ no_rows_more tops f before.none;
    }

pub returns : goal.returns
returns c =
    let before = c.loop-alloc.invariant in
    let same = before.same in
    let few = before.few in
    let many : length c.loop-alloc.functions.items ≡ c.args.count = omega arith in
    record {
      many = many;
      tops_many = omega arith;
      functions = λ f d below. before.empty f d (omega arith);
      tops = before.none;
      highest = refl;
    }
