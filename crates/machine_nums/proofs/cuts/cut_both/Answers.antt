use Rattle.std.proofs.Common.{sym, subst}
use Rattle.num_api.specs.Exprs.{nexpr_tree}
use Rattle.num_api.specs.Plain.{Standing, cut, turned}
use Rattle.num_api.specs.Ranges.{NoWider}
use Rattle.num_api.specs.Spans.{range_of}
use Rattle.num_api.specs.Standings.{standing_of, Stands}
use Rattle.num_api.proofs.Parts.{wider}
use Rattle.num_api.proofs.Truths.{turned_stands}
use Rattle.machine_nums.specs.MExprs.{mexpr_tree}
use Rattle.machine_nums.specs.Rule.{value_span, side_variable}
use Rattle.machine_nums.proofs.Cutting.{cut_holds, read_cut, sides_under}
use Rattle.machine_nums.proofs.cuts.cut_both.Goals as goal

pub returns-clause-holds : goal.returns-clause-holds
returns-clause-holds g c = λ v x y a p q h.
    let how = standing_of c.args.how in
    let first = c.in_ok-left.ensures.holds v x a p in let second = c.in_ok-right.ensures.holds v y a q in
    let stand = subst (λ (s : Standing). Stands s y x) (sym c.turned.ensures) (turned_stands how x y h) in
    record {
      left = cut_holds c.cut_of.result (nexpr_tree c.in_ok-left.left.plain) c.standing_range.result v x c.cut_of.ensures.holds first.value
          (c.standing_range.ensures.holds x y first.holds second.holds h);
      right = cut_holds c.cut_of-2.result (nexpr_tree c.in_ok-right.right.plain) c.standing_range-2.result v y c.cut_of-2.ensures.holds second.value
          (c.standing_range-2.ensures.holds y x second.holds first.holds stand);
    }

pub returns-clause-plain : goal.returns-clause-plain
returns-clause-plain g c = λ given known ex u w cuts.
    let a = mexpr_tree c.args.a.now in let b = mexpr_tree c.args.b.now in let how = standing_of c.args.how in
    let s = value_span given a in let t = value_span given b in
    let first = c.in_ok-left.ensures.plain given ex u in let second = c.in_ok-right.ensures.plain given ex u in
    let other = subst (λ (h : Standing). NoWider c.standing_range-2.result (range_of (cut h t s))) c.turned.ensures
    (c.standing_range-2.ensures.plain t s second first) in
    sides_under known given (side_variable given a) (side_variable given b) how s t w
    (λ x e. wider (known x) c.standing_range.result (range_of (cut how s t))
    (read_cut known c.cut_of.result x c.standing_range.result (c.cut_of.ensures.read x (c.in_ok-left.ensures.variable given x ex u e)) cuts.left)
    (c.standing_range.ensures.plain s t first second))
    (λ x e. wider (known x) c.standing_range-2.result (range_of (cut (turned how) t s))
    (read_cut known c.cut_of-2.result x c.standing_range-2.result (c.cut_of-2.ensures.read x (c.in_ok-right.ensures.variable given x ex u e)) cuts.right) other)
