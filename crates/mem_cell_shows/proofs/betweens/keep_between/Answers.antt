use Rattle.std.proofs.Common.{ℤ, ◌≡◌, ◌≤ℤ◌, ◌∙◌, FitsSigned, Some, ap, rules, subst, sym}
use Rattle.std.specs.Int.{w128}
use Rattle.std.proofs.lemmas.Int.{to_z-of_z}
use Rattle.std.proofs.lemmas.Result.{IfOk-weaker}
use Rattle.machine_nums.specs.MExprs.{mexpr_tree}
use Rattle.machine_nums.specs.Machine.{machine_value}
use Rattle.mem_cell_shows.specs.Changes.{IsKept}
use Rattle.mem_cell_shows.proofs.Keeping.{kept-then}
use Rattle.mem_cell_shows.proofs.betweens.keep_between.Goals as goal

pub returns-in-Live-clause-stands : goal.returns-in-Live-clause-stands
returns-in-Live-clause-stands g c =
    let fits_lo : FitsSigned w128 c.args.lo = search rules in
    let fits_hi : FitsSigned w128 c.args.hi = search rules in
    IfOk-weaker c.keep_to.result _ _
    (λ live stands objects s st h.
    let first = c.in_ok-keep_from.ensures.stands objects s st
    (h.0, ap (machine_value st.v) c.in_ok-copy.ensures ∙ h.1, subst (λ (x : ℤ). x ≤ℤ h.0) (sym (to_z-of_z w128 c.args.lo fits_lo)) h.2) in
    let here : machine_value first.stands.v (mexpr_tree c.args.m) ≡ Some h.0 = ap (λ v. machine_value v (mexpr_tree c.args.m)) first.same ∙ h.1 in
    kept-then g.D.Oracle.admits objects c.args.known.now c.keep_from.new.known c.keep_to.new.known s st c.in_ok-keep_from.field-0 live first
    (stands objects s first.stands (h.0, here, subst (λ (x : ℤ). h.0 ≤ℤ x) (sym (to_z-of_z w128 c.args.hi fits_hi)) h.3))) c.keep_to.ensures.stands

pub returns-in-Dead-clause-stands : goal.returns-in-Dead-clause-stands
returns-in-Dead-clause-stands g c = λ objects s st h.
    let fits_lo : FitsSigned w128 c.args.lo = search rules in
    subst (IsKept g.D.Oracle.admits objects c.args.known.now c.keep_from.new.known s st) c.in-Dead.is
    (c.in_ok-keep_from.ensures.stands objects s st (h.0, ap (machine_value st.v) c.in_ok-copy.ensures ∙ h.1, subst (λ (x : ℤ). x ≤ℤ h.0) (sym (to_z-of_z w128 c.args.lo fits_lo)) h.2))
