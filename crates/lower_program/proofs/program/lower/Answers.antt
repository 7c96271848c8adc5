use Rattle.std.proofs.Common.{◌≡◌, ◌<◌, ◌+◌, [], map, length, sym, subst, ap, ◌∙◌, arith}
use Rattle.std.proofs.lemmas.List.{length-map}
use Rattle.c_syntax.specs.Program.{tfunction_tree, tprogram_tree}
use Rattle.csharp.specs.Trees.{csfunction_tree}
use Rattle.lower_trees.specs.LowerProgram as programs
use Rattle.lower_trees.specs.Temps.{rows}
use Rattle.lower_program.specs.Order.{AreDone}
use Rattle.lower_program.proofs.Orders.{functions_same, same_program}
use Rattle.lower_program.proofs.program.lower.Goals as goal

pub returns : goal.returns
returns c =
    let p = tprogram_tree c.args.program.now in
    let functions = c.args.program.now.functions in
    let all = programs.lower_order p c.args.plan.now.order [] in
    let done : AreDone (length functions) c.in_ok-done.done all =
    subst (λ order. AreDone (length functions) c.in_ok-done.done (programs.lower_order p order [])) c.as_slice.ensures c.in_ok-done.ensures in
    let many : length (map tfunction_tree functions) ≡ length functions = simp length-map in
    same_program _ _ _ _ _ _ _ _ _ _ c.args.plan.now.main c.in_ok-structs.ensures c.in_ok-objects.ensures c.in_ok-initial.ensures
    (ap (map csfunction_tree) c.from_vec.ensures
    ∙ functions_same c.in_ok-done.done.functions.items all 0 (map tfunction_tree functions) (done.many ∙ sym many)
    (λ i d below. let first : i ≡ 0 + i = omega arith in
    done.functions i d (subst (λ n. i < n) many below) ∙ ap (programs.function_in all) first))
    (c.in_ok-temps.ensures ∙ ap rows done.highest)
