use Rattle.std.proofs.Common.{ℤ, ◌≤ℤ◌, ◌∙◌, FitsSigned, ap, map, rules, subst, sym}
use Rattle.std.specs.Int.{w128}
use Rattle.std.proofs.lemmas.Int.{to_z-of_z}
use Rattle.std.proofs.lemmas.Result.{IfOk-weaker}
use Rattle.machine_nums.specs.MExprs.{mexpr_tree}
use Rattle.csharp.specs.Trees.{csexpr_tree}
use Rattle.mem_cell_exprs.specs.Exprs.{IsNumberFor}
use Rattle.mem_cell_exprs.proofs.Moves.{numbered-of}
use Rattle.mem_cell_exprs.proofs.Options.{some-at}
use Rattle.mem_cell_shows.specs.Changes.{HasNumberIn}
use Rattle.mem_cell_shows.proofs.Keeping.{all-kept}
use Rattle.mem_cell_shows.proofs.Looks.{first-same}
use Rattle.mem_cell_shows.proofs.Passing.{amount-lies}
use Rattle.mem_cell_shows.proofs.passes.keep_amount.Goals as goal

pub returns-in_default-clause-stands : goal.returns-in_default-clause-stands
returns-in_default-clause-stands g c = λ objects s st h. all-kept g.D.Oracle.admits objects c.args.known.now s st

pub returns-in-Some-2-clause-stands : goal.returns-in-Some-2-clause-stands
returns-in-Some-2-clause-stands g c =
    let known = c.args.known.now in let e = csexpr_tree c.in-Some.e.now in let m = c.in-Some-2.m in
    let fits_lo : FitsSigned w128 c.args.lo = search rules in
    let fits_hi : FitsSigned w128 c.args.hi = search rules in
    let number : IsNumberFor known.types e (mexpr_tree m) =
    subst (λ types. IsNumberFor types e (mexpr_tree m)) c.as_slice.ensures
    (some-at (λ x. IsNumberFor c.as_slice.result.now e (mexpr_tree x)) c.in_ok-m.field-0 m c.in-Some-2.is c.in_ok-m.ensures) in
    IfOk-weaker c.keep_between.result _ _
    (λ live stands objects s st h.
    let own = subst (λ x. HasNumberIn x c.args.lo c.args.hi s) (sym (first-same e h.0 (sym (ap (map csexpr_tree) c.in-Some.ensures) ∙ h.1))) h.2 in
    let r = amount-lies known.types e (mexpr_tree m) c.args.lo c.args.hi st.v s number (numbered-of g.D.Oracle.admits known objects s st) own in
    stands objects s st (r.0, r.1, subst (λ (x : ℤ). x ≤ℤ r.0) (sym (to_z-of_z w128 c.args.lo fits_lo)) r.2, subst (λ (x : ℤ). r.0 ≤ℤ x) (sym (to_z-of_z w128 c.args.hi fits_hi)) r.3))
    c.keep_between.ensures.stands

pub returns-in-None-clause-stands : goal.returns-in-None-clause-stands
returns-in-None-clause-stands g c = λ objects s st h. all-kept g.D.Oracle.admits objects c.args.known.now s st
