use Rattle.std.proofs.Common.{◌≡◌, ℤ, true, ◌∙◌, sym, subst, rules, FitsSigned}
use Rattle.std.proofs.lemmas.Bool.{false≢true}
use Rattle.std.proofs.lemmas.Int.{to_z-of_z}
use mir.Syntax.{w128}
use Rattle.num_api.specs.Exprs.{NExprTree}
use Rattle.num_api.specs.Fold as folds
use Rattle.num_api.specs.Fold.{IsAlignment}
use Rattle.num_api.specs.Ranges.{NoWider}
use Rattle.num_api.specs.Residues.{IsMultiple, IsFoldResidue}
use Rattle.num_api.proofs.Multiples.{zero_multiple}
use Rattle.machine_nums.specs.MExprs.{mexpr_tree, untyped}
use Rattle.machine_nums.proofs.Alignments.{fold_untyped}
use Rattle.machine_nums.proofs.Machines.{fold_coarser}
use Rattle.machine_nums.proofs.Results.{own_map}
use Rattle.machine_nums.proofs.machine.Machine.check_range.Goals as goal

pub returns-then-self-clause-fold : goal.returns-then-self-clause-fold
returns-then-self-clause-fold g c = λ d ex one h. record { rem = zero_multiple d; modulus = zero_multiple d }

pub returns-then-part-clause-own : goal.returns-then-part-clause-own
returns-then-part-clause-own g c = λ void.
    let part = c.in_ok-part.part in let e = mexpr_tree c.args.e.now in let s = c.args.self.now.state in
    own_map (g.D.Oracle.may_range s) e (λ r. (part.is_kept ≡ true) × NoWider part.range r)
    (λ r. NoWider part.range r × g.D.Oracle.may_residue s (untyped e) c.residue-class.result)
    (λ r p. (
      p.1,
      subst (λ (t : NExprTree). g.D.Oracle.may_residue s t c.residue-class.result)
          (c.in_ok-part.ensures.kept p.0) c.residue-class.ensures.answer,
    )) c.in_ok-part.ensures.own

pub returns-then-part-clause-fold : goal.returns-then-part-clause-fold
returns-then-part-clause-fold g c = λ d ex one h.
    c.residue-class.ensures.fold d ex one (subst (folds.IsFold d) (sym (c.in_ok-part.ensures.kept c.if-part.true)) (fold_untyped d (mexpr_tree c.args.e.now) h))

pub returns-clause-holds : goal.returns-clause-holds
returns-clause-holds g c = λ v n ad q.
    let fits : FitsSigned w128 c.fold_of.result = search rules in
    let tells = c.in_ok-part.ensures.holds v n ad.1 q in (
      tells.holds,
      c.multiples.ensures.holds n (c.residue-class.ensures.holds v n ad.1 tells.value)
          (subst (λ (k : ℤ). IsMultiple k n) (sym (to_z-of_z w128 c.fold_of.result fits)) (c.fold_of.ensures.divides v n q)),
    )

pub returns-clause-point : goal.returns-clause-point
returns-clause-point g c = λ v n ex ad on fit own q. (c.in_ok-part.ensures.shows v n ex ad.1 on fit own q).point

pub returns-clause-plain : goal.returns-clause-plain
returns-clause-plain g c = λ given s ex u q f. c.in_ok-part.ensures.plain given s ex (u c.if-self.false) q f

pub returns-clause-own : goal.returns-clause-own
returns-clause-own g c = λ void.
    let part = c.in_ok-part.part in let e = mexpr_tree c.args.e.now in let s = c.args.self.now.state in
    own_map (g.D.Oracle.may_range s) e (λ r. (part.is_kept ≡ true) × NoWider part.range r)
    (λ r. NoWider part.range r × g.D.Oracle.may_residue s (untyped e) c.multiples.result)
    (λ r p. absurd (false≢true (sym c.if-part.false ∙ p.0))) c.in_ok-part.ensures.own

pub returns-clause-fold : goal.returns-clause-fold
returns-clause-fold g c = λ d ex one h.
    let fits : FitsSigned w128 c.fold_of.result = search rules in
    let same = to_z-of_z w128 c.fold_of.result fits in
    fold_coarser d c.fold_of.result c.multiples.result (c.fold_of.ensures.greatest d one h)
    (subst (λ (k : ℤ). IsFoldResidue k c.multiples.result) same c.multiples.ensures.fold)

pub multiples-requires : goal.multiples-requires
multiples-requires g c =
    let fits : FitsSigned w128 c.fold_of.result = search rules in
    record { proper = c.residue-class.ensures.proper; one = subst IsAlignment (sym (to_z-of_z w128 c.fold_of.result fits)) c.fold_of.ensures.one }
