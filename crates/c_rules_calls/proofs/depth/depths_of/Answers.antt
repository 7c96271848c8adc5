use Rattle.std.proofs.Common.{length, get_or, sym, subst, ap, ◌∙◌, arith, length-set}
use Rattle.std.specs.Prelude.{All}
use Rattle.std.proofs.lemmas.List.{take_all}
use Rattle.std.proofs.lemmas.List.Elements.{All-get_or}
use Rattle.c_rules_calls.specs.Graph.{calls_from, IsDefined, IsOrderOf}
use Rattle.c_rules_calls.specs.Depths.{IsDepth}
use Rattle.c_rules_calls.proofs.Steps.{defined_inside}
use Rattle.c_rules_calls.proofs.Deep.{all_known, calls_inside, one_more}
use Rattle.c_rules_calls.proofs.depth.depths_of.Goals as goal

pub depth_of-requires : goal.depth_of-requires
depth_of-requires c = record {
  inside = λ k d less.
      let function = get_or c.as_slice-function-items.result.now c.loop-function.function-index 0 in
      let inside = calls_inside c.args.graph.now function c.calls.result.now c.requires.known c.calls.ensures k d less in
      omega (arith, inside, c.loop-function.invariant.0, c.deref.ensures.len, ap length c.deref.ensures.value);
}

pub index_mut-requires : goal.index_mut-requires
index_mut-requires c =
    let order = c.as_slice-function-items.result.now in
    let o : IsOrderOf c.args.graph.now order = subst (IsOrderOf c.args.graph.now) (sym c.as_slice-function-items.ensures) c.requires.order in
    let inside = defined_inside c.args.graph.now (get_or order c.loop-function.function-index 0)
    (All-get_or (IsDefined c.args.graph.now) order c.loop-function.function-index 0 c.loop-function-test.true o.defined) in
    omega (arith, inside, c.loop-function.invariant.0, c.loop-function.depths.ok)

pub loop-function-preserved : goal.loop-function-preserved
loop-function-preserved c =
    let graph = c.args.graph.now in
    let order = c.as_slice-function-items.result.now in
    let depths = c.loop-function.depths.items in
    let i = c.loop-function.function-index in
    let o : IsOrderOf graph order = subst (IsOrderOf graph) (sym c.as_slice-function-items.ensures) c.requires.order in
    let inside = defined_inside graph (get_or order i 0) (All-get_or (IsDefined graph) order i 0 c.loop-function-test.true o.defined) in
    let depth : IsDepth depths (calls_from graph (get_or order i 0)) c.depth_of.result =
    subst (λ d. IsDepth d (calls_from graph (get_or order i 0)) c.depth_of.result) c.deref.ensures.value
    (subst (λ calls. IsDepth c.deref.result.now calls c.depth_of.result) c.calls.ensures c.depth_of.ensures) in (
      length-set depths (get_or order i 0) c.depth_of.result ∙ c.loop-function.invariant.0,
      one_more graph order o i c.loop-function-test.true depths c.depth_of.result (omega (arith, inside, c.loop-function.invariant.0)) depth
          c.loop-function.invariant.1,
    )

pub returns : goal.returns
returns c =
    let graph = c.args.graph.now in
    let order = c.as_slice-function-items.result.now in
    let depths = c.loop-function.depths.items in
    let o : IsOrderOf graph order = subst (IsOrderOf graph) (sym c.as_slice-function-items.ensures) c.requires.order in (
      all_known graph order o depths
          (subst (All (λ f. IsDepth depths (calls_from graph f) (get_or depths f 0)))
          (take_all c.loop-function.function-index order (omega (arith, c.loop-function-test.false))) c.loop-function.invariant.1),
      c.loop-function.invariant.0,
    )
