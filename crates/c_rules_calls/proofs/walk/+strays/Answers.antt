use Rattle.std.proofs.Common.{◌≡◌, None, Some, sym, ap, ◌∙◌}
use Rattle.std.specs.Prelude.{slice_get}
use Rattle.c_syntax.specs.TypedStmt.{tstmt_tree}
use Rattle.c_rules_calls.specs.Gotos.{around_of, strays, strays_among}
use Rattle.c_rules_calls.proofs.Lists.{found_at, none_first, still_none}
use Rattle.c_rules_calls.proofs.walk.+strays.Goals as goal

pub stray_among-loop-item-preserved : goal.stray_among-loop-item-preserved
stray_among-loop-item-preserved t c =
    let around = around_of c.args.blocks.now.items in
    let first : None ≡ slice_get (strays around (tstmt_tree c.item-item.result)) 0 =
    sym c.in-None.is ∙ c.in_ok-place.ensures.found
    ∙ ap (λ blocks. slice_get (strays (around_of blocks) (tstmt_tree c.item-item.result)) 0) c.loop-item.invariant.0 in (
      c.in_ok-place.ensures.back ∙ c.loop-item.invariant.0,
      still_none around c.as_slice-item-items.result.now c.loop-item.item-index c.item-item.result c.loop-item-test.true c.item-item.is c.loop-item.invariant.1
          (none_first (strays around (tstmt_tree c.item-item.result)) first),
    )

pub stray_among-returns-in-Some-clause-found : goal.stray_among-returns-in-Some-clause-found
stray_among-returns-in-Some-clause-found t c =
    let around = around_of c.args.blocks.now.items in
    let first : Some c.in-Some.place ≡ slice_get (strays around (tstmt_tree c.item-item.result)) 0 =
    sym c.in-Some.is ∙ c.in_ok-place.ensures.found
    ∙ ap (λ blocks. slice_get (strays (around_of blocks) (tstmt_tree c.item-item.result)) 0) c.loop-item.invariant.0 in
    found_at around c.as_slice-item-items.result.now c.loop-item.item-index c.item-item.result c.in-Some.place c.loop-item-test.true c.item-item.is
    c.loop-item.invariant.1 first ∙ ap (λ tree. slice_get (strays_among around tree) 0) c.as_slice-item-items.ensures
