use Rattle.std.proofs.Common.{◌∷◌, ap, length, subst, ◌∙◌}
use Rattle.c_syntax.specs.Program.{tfunction_tree, tprogram_tree}
use Rattle.c_rules_calls.specs.Graph.{calls_from}
use Rattle.lower_trees.specs.LowerProgram.{behind_calls}
use Rattle.lower_program.specs.Order.{AreDone, placed_tree}
use Rattle.lower_program.proofs.Orders.{calls_same, none_placed, some_placed}
use Rattle.lower_program.proofs.program.lower_one.Goals as goal

pub returns-in-None : goal.returns-in-None
returns-in-None c = λ all before.
    none_placed (tprogram_tree c.args.program.now) (length c.args.program.now.functions) c.args.f c.args.done.now all c.in-None.ensures.found
    c.in-None.ensures.inside before

pub returns-in_ok-placed-in-Some : goal.returns-in_ok-placed-in-Some
returns-in_ok-placed-in-Some c = λ all before.
    let p = tprogram_tree c.args.program.now in
    let f = c.args.f in
    let row =
    c.behind-d.ensures all before.tops ∙ ap (behind_calls all) (c.calls.ensures ∙ ap (λ graph. calls_from graph f) c.requires.graph ∙ calls_same p f) in
    subst (λ placed. AreDone (length c.args.program.now.functions) c.put.new.self (placed ∷ all))
    (some_placed p f c.behind-d.result (tfunction_tree c.in-Some.function.now) all (placed_tree f c.in_ok-placed-in-Some.placed) c.in-Some.ensures.found row
    c.in_ok-placed-in-Some.ensures)
    (c.put.ensures (length c.args.program.now.functions) all c.in-Some.ensures.inside before)
