use Rattle.std.proofs.Common.{ℤ, ◌≤ℤ◌, FitsSigned, rules, subst, sym}
use Rattle.std.specs.Int.{w128}
use Rattle.std.proofs.lemmas.Int.{to_z-of_z}
use Rattle.std.proofs.lemmas.Result.{IfOk-weaker}
use Rattle.machine_nums.specs.MExprs.{mexpr_tree}
use Rattle.csharp.specs.Trees.{csexpr_tree}
use Rattle.mem_cell_exprs.proofs.Moves.{numbered-of}
use Rattle.mem_cell_exprs.proofs.Options.{some-at}
use Rattle.mem_cell_shows.specs.Exacts.{IsExactFor}
use Rattle.mem_cell_shows.proofs.Keeping.{all-kept}
use Rattle.mem_cell_shows.proofs.Widening.{exact-lies}
use Rattle.mem_cell_shows.proofs.widens.keep_exact.Goals as goal

pub returns-in_default-clause-stands : goal.returns-in_default-clause-stands
returns-in_default-clause-stands g c = λ objects s st h. all-kept g.D.Oracle.admits objects c.args.known.now s st

pub returns-in_default-widened-clause-stands : goal.returns-in_default-widened-clause-stands
returns-in_default-widened-clause-stands g c = λ objects s st h. all-kept g.D.Oracle.admits objects c.args.known.now s st

pub returns-then-not-branch-clause-stands : goal.returns-then-not-branch-clause-stands
returns-then-not-branch-clause-stands g c = λ objects s st h. all-kept g.D.Oracle.admits objects c.args.known.now s st

pub returns-clause-stands : goal.returns-clause-stands
returns-clause-stands g c =
    let known = c.args.known.now in let e = csexpr_tree c.args.e.now in let m = c.in-Some.m in let w = c.in-Some-widened.wide in
    let fits_lo : FitsSigned w128 c.args.lo = search rules in
    let fits_hi : FitsSigned w128 c.args.hi = search rules in
    let exact : IsExactFor known.types e (mexpr_tree m) =
    subst (λ types. IsExactFor types e (mexpr_tree m)) c.as_slice.ensures
    (some-at (λ x. IsExactFor c.as_slice.result.now e (mexpr_tree x)) c.in_ok-m.field-0 m c.in-Some.is c.in_ok-m.ensures) in
    IfOk-weaker c.keep_between.result _ _
    (λ live stands objects s st h.
    let r = exact-lies known.types e (mexpr_tree m) (mexpr_tree w) c.args.lo c.args.hi st.v s exact (numbered-of g.D.Oracle.admits known objects s st) (c.in-Some-widened.ensures.exact st.v)
    c.in-Some-widened.ensures.long (λ n k. c.in_ok-is_long.ensures c.if-not-branch.false st.v n st.admitted k) h in
    stands objects s st (r.0, r.1, subst (λ (x : ℤ). x ≤ℤ r.0) (sym (to_z-of_z w128 c.args.lo fits_lo)) r.2, subst (λ (x : ℤ). r.0 ≤ℤ x) (sym (to_z-of_z w128 c.args.hi fits_hi)) r.3))
    c.keep_between.ensures.stands
