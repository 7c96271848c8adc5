use Rattle.std.proofs.Common.{sym, subst, FitsSigned}
use Rattle.std.proofs.lemmas.Int.{to_z-of_z}
use mir.Syntax.{w128}
use Rattle.intervals.specs.Interval.{IsPoint}
use Rattle.num_api.specs.declared.message.Residue.{Residue}
use Rattle.num_api.specs.Residues.{InResidue}
use Rattle.residues.proofs.Operators.{point_admits}
use Rattle.std.proofs.Common.{refl, ◌∙◌}
use Rattle.residues.proofs.ClassBounds.{point_class}
use Rattle.residues.proofs.class.operators.at_numbers.Goals as goal

pub returns-clause-holds : goal.returns-clause-holds
returns-clause-holds c =
    let f : FitsSigned w128 c.args.x = c.ranges.x in
    let g : FitsSigned w128 c.args.y = c.ranges.y in
    let p : IsPoint c.point.result c.args.x = simp to_z-of_z at c.point.ensures in
    let q : IsPoint c.point-2.result c.args.y = simp to_z-of_z at c.point-2.ensures in
    λ n v. subst (λ (r : Residue). InResidue r n) (sym c.new.ensures)
    (c.residue.ensures.holds n (c.binary-value.ensures.holds c.args.x c.args.y n (point_admits c.point.result c.args.x p) (point_admits c.point-2.result c.args.y q) v))

pub returns-clause-value : goal.returns-clause-value
returns-clause-value c = λ n e fits.
    let f : FitsSigned w128 c.args.x = c.ranges.x in
    let g : FitsSigned w128 c.args.y = c.ranges.y in
    let p : IsPoint c.point.result c.args.x = simp to_z-of_z at c.point.ensures in
    let q : IsPoint c.point-2.result c.args.y = simp to_z-of_z at c.point-2.ensures in
    c.new.ensures ∙ c.residue.ensures.value
    ∙ point_class c.binary-value.result n (c.binary-value.ensures.point c.args.x c.args.y n refl (record { low = p.0; high = p.1 }) (record { low = q.0; high = q.1 }) e fits)
