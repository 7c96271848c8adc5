use Rattle.std.proofs.Common.{rules, ℕ, ℤ, List, FitsSigned, sym, subst, ◌≡◌, ◌∙◌}
use Rattle.std.proofs.lemmas.Int.{to_z-of_z}
use mir.Syntax.{w128}
use Rattle.ext_int.specs.declared.Ext.TheVariants.{Fin}
use Rattle.octagons_pack.specs.Packs.{place_in}
use Rattle.octagons_changes.specs.States.{StandsBefore}
use Rattle.octagons_changes.specs.Lowerings.{sum_lowering}
use Rattle.octagons_changes.proofs.Bounding.{told-entry}
use Rattle.octagons_changes.proofs.relations.Relations.accept_sum.Goals as goal

pub returns-clause-entry : goal.returns-clause-entry
returns-clause-entry c =
    let here = c.lower.new.self in
    let fits : FitsSigned w128 c.args.bound = search rules in
    let e = c.in_ok-live.ensures in
    let value = subst (λ (z : ℤ). c.sum_lowering.result ≡ sum_lowering c.args.s.negated (place_in c.args.s.var c.pack.result.now) c.args.t.negated (place_in c.args.t.var c.pack.result.now) (Fin z)) (to_z-of_z w128 c.args.bound fits) c.sum_lowering.ensures.value in
    let same : c.pack.result.now ≡ here.pack = c.pack.ensures.value ∙ sym e.pack in
    let s = subst (StandsBefore 2 c.args.s.var) (sym e.pack) c.in_ok-bring_known-2.ensures.first in
    let t = subst (StandsBefore 3 c.args.t.var) (sym e.pack) (c.in_ok-bring_known-2.ensures.stays c.args.t.var c.in_ok-bring_known.ensures.first) in
    told-entry here c.args.s c.args.t s.0 t.0 (Fin c.args.bound) c.sum_lowering.result
    (subst (λ (l : List ℕ). c.sum_lowering.result ≡ sum_lowering c.args.s.negated (place_in c.args.s.var l) c.args.t.negated (place_in c.args.t.var l) (Fin c.args.bound)) same value)
    s.1 t.1 e.lowered
