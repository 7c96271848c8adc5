use Rattle.std.proofs.Common.{ℤ, ◌≤ℤ◌, ◌∙◌, FitsSigned, ap, map, rules, subst, sym}
use Rattle.std.specs.Int.{w128}
use Rattle.std.proofs.lemmas.Int.{to_z-of_z}
use Rattle.std.proofs.lemmas.Result.{IfOk-weaker}
use Rattle.csharp.specs.Trees.{csexpr_tree}
use Rattle.mem_cell_shows.specs.Changes.{HasExactIn}
use Rattle.mem_cell_shows.proofs.Keeping.{all-kept}
use Rattle.mem_cell_shows.proofs.Looks.{first-same}
use Rattle.mem_cell_shows.proofs.passes.keep_result.Goals as goal

pub returns-in-Some-clause-stands : goal.returns-in-Some-clause-stands
returns-in-Some-clause-stands g c =
    let e = csexpr_tree c.in-Some.e.now in
    let fits_lo : FitsSigned w128 c.args.lo = search rules in
    let fits_hi : FitsSigned w128 c.args.hi = search rules in
    IfOk-weaker c.keep_exact.result _ _
    (λ live stands objects s st h.
    let r = subst (λ x. HasExactIn x c.args.lo c.args.hi s) (sym (first-same e h.0 (sym (ap (map csexpr_tree) c.in-Some.ensures) ∙ h.1))) h.2 in
    stands objects s st (r.0, r.1, subst (λ (x : ℤ). x ≤ℤ r.0) (sym (to_z-of_z w128 c.args.lo fits_lo)) r.2, subst (λ (x : ℤ). r.0 ≤ℤ x) (sym (to_z-of_z w128 c.args.hi fits_hi)) r.3))
    c.keep_exact.ensures.stands

pub returns-in-None-clause-stands : goal.returns-in-None-clause-stands
returns-in-None-clause-stands g c = λ objects s st h. all-kept g.D.Oracle.admits objects c.args.known.now s st
