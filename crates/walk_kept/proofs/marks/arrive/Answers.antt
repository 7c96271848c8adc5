use Rattle.std.specs.Int.{w128}
use Rattle.std.proofs.Common.{◌≡◌, inl, of_z, refl, rules, sym, ap, subst, to_z, ◌∙◌}
use Rattle.walk_owes.specs.declared.marks.Mark.TheVariants as marks
use Rattle.walk_owes.specs.declared.way.Way.TheVariants as ways
use Rattle.walk_owes.specs.Owes.{InSome}
use Rattle.walk_owes.specs.Exactly.{HeadAlone}
use Rattle.walk_owes.proofs.Arriving.{at_case, at_default, at_label, case_no_label, case_only, default_no_label, default_only, label_number, label_only}
use Rattle.walk_owes.proofs.Entering.{no_label_here, no_mark, stays_kept}
use Rattle.walk_kept.proofs.marks.arrive.Goals as goal

pub join_jumps-requires : goal.join_jumps-requires
join_jumps-requires g c =
    let q = c.requires.one.0 in
    record { one = (q, c.in_ok-begun-in-Label.ensures.is_for q c.requires.one.1 c.requires.one.2, c.in_ok-taken-in-Label.ensures.is_for q c.requires.one.3) }

pub returns-in_ok-after-in-Label-clause-is_for : goal.returns-in_ok-after-in-Label-clause-is_for
returns-in_ok-after-in-Label-clause-is_for g c = λ q f h k.
    c.in_ok-after-in-Label.ensures.is_for q (c.in_ok-begun-in-Label.ensures.is_for q f h) (c.in_ok-taken-in-Label.ensures.is_for q k)

pub returns-in_ok-after-in-Case-clause-is_for : goal.returns-in_ok-after-in-Case-clause-is_for
returns-in_ok-after-in-Case-clause-is_for g c = λ q f h k. c.in_ok-after-in-Case.ensures.is_for q f h

pub returns-in_ok-after-in-Default-clause-is_for : goal.returns-in_ok-after-in-Default-clause-is_for
returns-in_ok-after-in-Default-clause-is_for g c = λ q f h k. c.in_ok-after-in-Default.ensures.is_for q f h

pub returns-in_default : goal.returns-in_default
returns-in_default g c = record {
  is_for = λ q f h k. f;
  kept_for = λ q k. k;
  flow = λ s h. h;
  heads = λ mark s h e. absurd (no_mark c.args.item.now mark c.in_default.not-Label c.in_default.not-Case c.in_default.not-Default e);
  gone = λ w s h. h;
  came = λ l s h. inl h;
  stays = λ w s h. stays_kept g.M.MemDomain.stands c.args.gone.now.items c.args.kept.now.items w s h;
  flows = λ b e. (refl, e);
  enters = λ mark s m h f e. absurd (no_mark c.args.item.now mark c.in_default.not-Label c.in_default.not-Case c.in_default.not-Default m);
  jumps = λ b l x e w m f. absurd (no_label_here c.args.item.now l c.in_default.not-Label m);
  passes = λ b x e n. (refl, e);
}

pub returns-in_ok-after-in-Label-clause-flows : goal.returns-in_ok-after-in-Label-clause-flows
returns-in_ok-after-in-Label-clause-flows g c = λ b e.
    let here = at_label c.args.item.now c.in-Label.pos c.in-Label.label c.in-Label.is in
    let t = c.in_ok-taken-in-Label.ensures.none e in
    (c.in_ok-after-in-Label.ensures.none t.0 ∙ c.in_ok-begun-in-Label.ensures.bare (b (marks.Label c.in-Label.label) here), t.1)

pub returns-in_ok-after-in-Label-clause-enters : goal.returns-in_ok-after-in-Label-clause-enters
returns-in_ok-after-in-Label-clause-enters g c = λ mark s m h f e.
    let same = label_only c.args.item.now c.in-Label.pos c.in-Label.label c.in-Label.is mark m in
    let a = c.in_ok-begun-in-Label.ensures.alone s (subst (λ z. HeadAlone g.M.MemDomain.sharp c.args.heads.now z s) same h) f in
    let t = c.in_ok-taken-in-Label.ensures.none e in
    (subst (λ z. InSome g.M.MemDomain.sharp z s) (sym (c.in_ok-after-in-Label.ensures.none t.0)) a, t.1)

pub returns-in_ok-after-in-Label-clause-jumps : goal.returns-in_ok-after-in-Label-clause-jumps
returns-in_ok-after-in-Label-clause-jumps g c = λ b l x e w m f.
    let here = at_label c.args.item.now c.in-Label.pos c.in-Label.label c.in-Label.is in
    let same = label_number c.args.item.now c.in-Label.pos c.in-Label.label c.in-Label.is l m in
    let t = c.in_ok-taken-in-Label.ensures.hit x e (w ∙ ap ways.Goto same) in
    (c.in_ok-after-in-Label.ensures.alone (c.in_ok-begun-in-Label.ensures.bare (b (marks.Label c.in-Label.label) here) ∙ f) ∙ t.0, t.1)

pub returns-in_ok-after-in-Label-clause-passes : goal.returns-in_ok-after-in-Label-clause-passes
returns-in_ok-after-in-Label-clause-passes g c = λ b x e n.
    let here = at_label c.args.item.now c.in-Label.pos c.in-Label.label c.in-Label.is in
    let t = c.in_ok-taken-in-Label.ensures.miss x e (n c.in-Label.label here) in
    (c.in_ok-after-in-Label.ensures.none t.0 ∙ c.in_ok-begun-in-Label.ensures.bare (b (marks.Label c.in-Label.label) here), t.1)

pub returns-in_ok-after-in-Case-clause-flows : goal.returns-in_ok-after-in-Case-clause-flows
returns-in_ok-after-in-Case-clause-flows g c = λ b e.
    let same : to_z w128 (of_z w128 c.in-Case.value) ≡ c.in-Case.value = search rules in
    (c.in_ok-after-in-Case.ensures.bare (rw same (b (marks.Case c.in-Case.value) (at_case c.args.item.now c.in-Case.value c.in-Case.is))), e)

pub returns-in_ok-after-in-Case-clause-enters : goal.returns-in_ok-after-in-Case-clause-enters
returns-in_ok-after-in-Case-clause-enters g c = λ mark s m h f e.
    let back : to_z w128 (of_z w128 c.in-Case.value) ≡ c.in-Case.value = search rules in
    let same = case_only c.args.item.now c.in-Case.value c.in-Case.is mark m in
    (c.in_ok-after-in-Case.ensures.alone s (rw back (subst (λ z. HeadAlone g.M.MemDomain.sharp c.args.heads.now z s) same h)) f, e)

pub returns-in_ok-after-in-Case-clause-jumps : goal.returns-in_ok-after-in-Case-clause-jumps
returns-in_ok-after-in-Case-clause-jumps g c = λ b l x e w m f. absurd (case_no_label c.args.item.now c.in-Case.value c.in-Case.is l m)

pub returns-in_ok-after-in-Case-clause-passes : goal.returns-in_ok-after-in-Case-clause-passes
returns-in_ok-after-in-Case-clause-passes g c = λ b x e n.
    let same : to_z w128 (of_z w128 c.in-Case.value) ≡ c.in-Case.value = search rules in
    (c.in_ok-after-in-Case.ensures.bare (rw same (b (marks.Case c.in-Case.value) (at_case c.args.item.now c.in-Case.value c.in-Case.is))), e)

pub returns-in_ok-after-in-Default-clause-flows : goal.returns-in_ok-after-in-Default-clause-flows
returns-in_ok-after-in-Default-clause-flows g c = λ b e.
    (c.in_ok-after-in-Default.ensures.bare (b marks.Default (at_default c.args.item.now c.in-Default.is)), e)

pub returns-in_ok-after-in-Default-clause-enters : goal.returns-in_ok-after-in-Default-clause-enters
returns-in_ok-after-in-Default-clause-enters g c = λ mark s m h f e.
    let same = default_only c.args.item.now c.in-Default.is mark m in
    (c.in_ok-after-in-Default.ensures.alone s (subst (λ z. HeadAlone g.M.MemDomain.sharp c.args.heads.now z s) same h) f, e)

pub returns-in_ok-after-in-Default-clause-jumps : goal.returns-in_ok-after-in-Default-clause-jumps
returns-in_ok-after-in-Default-clause-jumps g c = λ b l x e w m f. absurd (default_no_label c.args.item.now c.in-Default.is l m)

pub returns-in_ok-after-in-Default-clause-passes : goal.returns-in_ok-after-in-Default-clause-passes
returns-in_ok-after-in-Default-clause-passes g c = λ b x e n.
    (c.in_ok-after-in-Default.ensures.bare (b marks.Default (at_default c.args.item.now c.in-Default.is)), e)
