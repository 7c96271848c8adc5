use Rattle.std.proofs.Common.{sym, subst, List}
use Rattle.num_api.specs.declared.message.Range.{Range}
use Rattle.num_api.specs.Exprs.{nexpr_tree}
use Rattle.num_api.specs.Ranges.{NoWider}
use Rattle.num_api.specs.Spans.{range_of}
use Rattle.env_lift.specs.declared.entries.Entry.{Entry}
use Rattle.env_lift.specs.Evaluation.{IsValue}
use Rattle.env_lift.specs.Laws.{first_flag}
use Rattle.env_lift.proofs.state.EnvOracle.range.Goals as goal

pub returns-in-Some-clause-plain : goal.returns-in-Some-clause-plain
returns-in-Some-clause-plain g c = λ given s x u p e.
    let D = g.V.ValueDomain in
    let value = subst (λ (state : List (Entry g.row.V.Denot)). IsValue D.admits D.known D.class D.exact D.folds state (nexpr_tree c.args.e.now) c.in-Some.value) c.self.view_is c.in-Some.ensures.some in
    subst (λ (r : Range). NoWider r (range_of s)) (sym c.range.ensures.value) (value.plain given s (first_flag D.exact D.folds x) u p e)
