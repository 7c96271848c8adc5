use Rattle.std.proofs.Common.{◌≡◌, ◌+◌, take, sym, ◌∙◌}
use Rattle.std.specs.List.{flat_map}
use Rattle.c_rules_order.specs.Firsts.{all_reads, all_touches, all_writes}
use Rattle.c_rules_order.proofs.FirstFound.{more_pairs, or_none}
use Rattle.c_rules_order.proofs.Together.{done_with, more_done, skipped, told_together, together}
use Rattle.c_rules_order.proofs.compare.compare_all.Goals as goal
use Rattle.c_rules_order.proofs.compare.compare_all.Goals.{else-clashes, then-clashes+in_ok-compare_with}

pub loop-at-init : goal.loop-at-init
loop-at-init c = record {
  found = sym (or_none c.args.known.now c.args.found.now);
  done = c.new-earlier.ensures c.as_slice-taken.result.now;
  same = c.as_slice-taken.ensures.value;
}

pub loop-at-preserved : goal.loop-at-preserved
loop-at-preserved c =
    let known = c.args.known.now in
    let functions = c.args.known.now.functions.items in
    let sides = c.args.sides.now in
    let i = c.loop-at.at in
    let front = take c.loop-at.at c.args.sides.now in
    let side = c.index-sides-at.result in
    let written = flat_map (all_writes functions) front in
    let touched = flat_map (all_touches functions) front in
    let told : c.clashes.result ≡ together known front side = told_together known front side c.clashes.result c.as_slice-taken.result.now
    c.in_ok-effects.effects c.loop-at.invariant.same c.in_ok-effects.ensures.reads c.in_ok-effects.ensures.writes
    (c.clashes.ensures written touched c.loop-at.invariant.done) in
    record {
      found = elim c.if-clashes.branch [
        | then-clashes+in_ok-compare_with w ↦ more_pairs known c.args.pos c.args.found.now c.loop-at.found c.if-clashes.found sides i side c.loop-at-test.true
            c.index-sides-at.is c.loop-at.invariant.found (w.found-is ∙ w.in_ok-compare_with.ensures)
        | else-clashes w ↦ more_pairs known c.args.pos c.args.found.now c.loop-at.found c.if-clashes.found sides i side c.loop-at-test.true
            c.index-sides-at.is c.loop-at.invariant.found (w.found-is ∙ skipped known c.args.pos front side c.loop-at.found (sym told ∙ w.if-clashes.false))
      ];
      done = done_with c.add.new.self c.as_slice-taken.result.now written (flat_map (all_writes functions) (take (i + 1) sides))
          touched (flat_map (all_touches functions) (take (i + 1) sides))
          c.in_ok-effects.effects.reads c.in_ok-effects.effects.writes (all_reads functions side) (all_writes functions side)
          c.in_ok-effects.ensures.reads c.in_ok-effects.ensures.writes
          (more_done (all_writes functions) sides i side c.loop-at-test.true c.index-sides-at.is)
          (more_done (all_touches functions) sides i side c.loop-at-test.true c.index-sides-at.is)
          (c.in_ok-add.ensures written touched c.loop-at.invariant.done);
      same = c.loop-at.invariant.same;
    }
