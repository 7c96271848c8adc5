use Rattle.std.proofs.Common.{subst, sym}
use Rattle.std.specs.Prelude.{option_map}
use Rattle.std.proofs.lemmas.Result.{IfOk-weaker}
use Rattle.machine_nums.specs.MExprs.{mexpr_tree}
use Rattle.csharp.specs.Trees.{csexpr_tree}
use Rattle.mem_cell_exprs.specs.Known.{IsPlaceFor}
use Rattle.mem_cell_exprs.proofs.Options.{some-at}
use Rattle.mem_cell_shows.proofs.Keeping.{all-kept, base-points, points-base}
use Rattle.mem_cell_shows.proofs.passes.keep_without.Goals as goal

pub returns-in_default-clause-stands : goal.returns-in_default-clause-stands
returns-in_default-clause-stands g c = λ objects s st h. all-kept g.D.Oracle.admits objects c.args.known.now s st

pub returns-clause-stands : goal.returns-clause-stands
returns-clause-stands g c =
    let admits = g.D.Oracle.admits in let known = c.args.known.now in let e = csexpr_tree c.args.e.now in let place = c.in-Some.place in let set = c.to_targets-set.result in
    let at : IsPlaceFor admits known e set (option_map mexpr_tree place.offset) = subst (λ x. IsPlaceFor admits known e x (option_map mexpr_tree place.offset)) (sym c.to_targets-set.ensures)
    (some-at (λ p. IsPlaceFor admits known e p.set (option_map mexpr_tree p.offset)) c.in_ok-place.field-0 place c.in-Some.is c.in_ok-place.ensures) in
    IfOk-weaker c.keep_set.result _ _
    (λ live stands objects s st h. stands objects s st (
      h.0,
      h.1,
      h.2,
      base-points s.memory c.without-left.result h.0
          (λ b k. c.without-left.ensures b (points-base s.memory set h.0 b (at objects s st h.0 h.1).0 k) (h.3 b k)),
    )) c.keep_set.ensures.stands
