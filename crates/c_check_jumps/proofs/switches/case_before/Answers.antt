use Rattle.std.proofs.Common.{FitsSigned, sym, ap, ◌∙◌}
use Rattle.std.specs.Int.{w128}
use Rattle.std.specs.Ordering.{int_eq}
use Rattle.std.proofs.lemmas.Int.{to_z-of_z}
use Rattle.c_check_names.specs.Firsts.{first_case}
use Rattle.c_check_names.specs.Trees.{case_tree}
use Rattle.c_check_names.proofs.Found.{first_tree}
use Rattle.c_check_jumps.proofs.switches.case_before.Goals as goal

pub returns : goal.returns
returns c =
    let fits : FitsSigned w128 c.args.n = c.ranges.n in
    c.first.ensures ∙ ap (λ n. first_case n c.args.world.now.cases) (to_z-of_z w128 c.args.n fits)
    ∙ sym (first_tree case_tree (λ case. case.pos) (λ case. int_eq case.value c.args.n) 0 c.args.world.now.cases)
