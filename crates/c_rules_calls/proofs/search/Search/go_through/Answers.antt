use Rattle.std.proofs.Common.{refl, sym, subst, ◌∙◌, arith}
use Rattle.std.proofs.lemmas.List.{get_or_read}
use Rattle.c_rules_calls.specs.Placed.{placed}
use Rattle.c_rules_calls.specs.Search.{IsUnderWay}
use Rattle.c_rules_calls.specs.declared.search.Progress.TheVariants.{New}
use Rattle.c_rules_calls.proofs.Steps.{callee_among, callee_inside, falls_in, keeps_in, order_in, way_in, way_on}
use Rattle.c_rules_calls.proofs.search.Search.go_through.Goals as goal

pub index-requires : goal.index-requires
index-requires c =
    let s = c.args.self.now in
    let within = callee_inside c.args.graph.now s.progress.items s.order.items s.root s.made (placed c.args.call) c.requires.defined c.requires.ordered c.requires.at_call in
    omega (arith, within, s.progress.ok)

pub closed-requires-clause-among : goal.closed-requires-clause-among
closed-requires-clause-among c =
    let s = c.args.self.now in
    let within = callee_inside c.args.graph.now s.progress.items s.order.items s.root s.made (placed c.args.call) c.requires.defined c.requires.ordered c.requires.at_call in
    callee_among c.args.graph.now s.progress.items s.order.items s.root s.made (placed c.args.call) c.requires.defined c.requires.ordered c.requires.at_call c.in-Open.next
    (sym (get_or_read s.progress.items c.args.call.callee c.index.result.now within c.index.ensures New) ∙ c.in-Open.is)

pub index_mut-requires : goal.index_mut-requires
index_mut-requires c =
    let s = c.args.self.now in
    let within = callee_inside c.args.graph.now s.progress.items s.order.items s.root s.made (placed c.args.call) c.requires.defined c.requires.ordered c.requires.at_call in
    omega (arith, within, s.progress.ok)

pub returns-in-Done-clause-turn : goal.returns-in-Done-clause-turn
returns-in-Done-clause-turn c =
    let s = c.args.self.now in
    let within = callee_inside c.args.graph.now s.progress.items s.order.items s.root s.made (placed c.args.call) c.requires.defined c.requires.ordered c.requires.at_call in
    record {
      ordered = c.requires.ordered;
      way = way_on c.args.graph.now s.progress.items s.order.items s.root s.made (placed c.args.call) c.requires.defined c.requires.ordered c.requires.at_call
          (sym (get_or_read s.progress.items c.args.call.callee c.index.result.now within c.index.ensures New) ∙ c.in-Done.is);
      falls = omega arith;
      keeps = λ f d. d;
      root = refl;
    }

pub returns-in_ok-push-in-New-clause-turn : goal.returns-in_ok-push-in-New-clause-turn
returns-in_ok-push-in-New-clause-turn c =
    let s = c.args.self.now in
    let graph = c.args.graph.now in
    let within = callee_inside graph s.progress.items s.order.items s.root s.made (placed c.args.call) c.requires.defined c.requires.ordered c.requires.at_call in
    let new = sym (get_or_read s.progress.items c.args.call.callee c.index.result.now within c.index.ensures New) ∙ c.in-New.is in record {
      ordered = order_in graph s.progress.items s.order.items s.root s.made (placed c.args.call) c.requires.defined c.requires.ordered c.requires.at_call new;
      way = subst (IsUnderWay graph _ s.root) (sym c.in_ok-push-in-New.ensures)
          (way_in graph s.progress.items s.order.items s.root s.made (placed c.args.call) c.requires.defined c.requires.ordered c.requires.at_call new);
      falls = falls_in graph s.progress.items s.order.items s.root s.made (placed c.args.call) c.requires.defined c.requires.ordered c.requires.at_call new;
      keeps = keeps_in graph s.progress.items s.order.items s.root s.made (placed c.args.call) c.requires.defined c.requires.ordered c.requires.at_call new;
      root = refl;
    }
