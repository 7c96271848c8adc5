use Rattle.std.proofs.Common.{◌≡◌, ◌∙◌, FitsSigned, ap, pos, rules, subst, sym, to_z}
use Rattle.std.specs.Int.{w128}
use Rattle.std.proofs.lemmas.Int.{to_z-of_z}
use Rattle.mem_cell_shows.specs.Ends.{LiesIn}
use Rattle.mem_cell_shows.proofs.Points.{class-point}
use Rattle.mem_cell_shows.proofs.ends.Ends.of.Goals as goal

pub returns-then-class-eq0-clause-holds : goal.returns-then-class-eq0-clause-holds
returns-then-class-eq0-clause-holds c = λ n inside of.
    let class = c.args.class in
    let fits_modulus : FitsSigned w128 class.modulus = search rules in
    let fits_rem : FitsSigned w128 class.rem = search rules in
    let zero : class.modulus ≡ pos 0 = sym (to_z-of_z w128 class.modulus fits_modulus) ∙ ap (to_z w128) c.if-class-eq0.true in
    subst (LiesIn c.point_ends.result) (to_z-of_z w128 class.rem fits_rem ∙ sym (class-point n class.rem of.0 class.modulus of.1 zero)) c.point_ends.ensures.holds
