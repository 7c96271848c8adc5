use Rattle.std.proofs.Common.{inl, inr, ⊎_elim, sym, subst, ◌∙◌}
use Rattle.walk_owes.specs.Owes.{InSome}
use Rattle.walk_kept.proofs.marks.join_heads.Goals as goal

pub join_head-requires : goal.join_head-requires
join_head-requires g c =
    let q = c.requires.one.0 in
    let i = c.loop-head.invariant.is_for q c.requires.one.1 c.requires.one.2 in
    let all = rw c.in-Some.ensures.cases.0 at i.1 in
    record { one = (q, i.0, all.0) }

pub loop-head-preserved : goal.loop-head-preserved
loop-head-preserved g c = record {
  is_for = λ q f h.
      let i = c.loop-head.invariant.is_for q f h in
      let all = rw c.in-Some.ensures.cases.0 at i.1 in
      (c.in_ok-all.ensures.is_for q i.0 all.0, all.1);
  flow = λ s h. c.in_ok-all.ensures.flow s (c.loop-head.invariant.flow s h);
  heads = λ s h.
      let i = rw c.in-Some.ensures.cases.0 at c.loop-head.invariant.heads s h in
      ⊎_elim (λ a. ⊎_elim (λ e. inr (c.in_ok-all.ensures.head s e.0 e.1)) inl a) (λ b. inr (c.in_ok-all.ensures.flow s b)) i;
  bare = λ b.
      let i = c.loop-head.invariant.bare b in
      let r = rw c.in-Some.ensures.cases.0 at i.0 in
      (r.1, c.in_ok-all.ensures.bare r.0 ∙ i.1);
  alone = λ s h e.
      let i = rw c.in-Some.ensures.cases.0 at c.loop-head.invariant.alone s h e in
      ⊎_elim
      (λ a. ⊎_elim
      (λ b. inr (subst (λ m. InSome g.M.MemDomain.sharp m s) (sym (c.in_ok-all.ensures.alone b.0 a.0)) b.1, b.2))
      (λ b. inl (c.in_ok-all.ensures.bare b.0 ∙ a.0, b.1)) a.1)
      (λ a. inr (subst (λ m. InSome g.M.MemDomain.sharp m s) (sym (c.in_ok-all.ensures.bare a.1.0)) a.0, a.1.1)) i;
}

pub returns-clause-is_for : goal.returns-clause-is_for
returns-clause-is_for g c = λ q f h. (c.loop-head.invariant.is_for q f h).0
