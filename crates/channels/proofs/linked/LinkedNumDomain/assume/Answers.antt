use Rattle.std.proofs.Common.{refl, sym, subst, ap, ◌∙◌, ◌++◌}
use Rattle.std.specs.Prelude.{All, IsTrue}
use Rattle.std.proofs.lemmas.Bool.{true_from_ne_false, true≢false, false≢true}
use Rattle.std.proofs.lemmas.List.Elements.{All-append}
use Rattle.num_api.specs.Value.{has_truth}
use Rattle.num_api.specs.Lives.{is_live}
use Rattle.num_api.specs.Plain.{tested}
use Rattle.num_api.specs.Exprs.{nexpr_tree}
use Rattle.num_api.proofs.PutOut.{told_all, put_out_two}
use Rattle.channels.specs.Hearing.{IsHeard}
use Rattle.channels.proofs.HeardLemmas.{heard_still}
use Rattle.channels.proofs.linked.LinkedNumDomain.assume.Goals as goal

pub returns-in-Dead-3-clause-after : goal.returns-in-Dead-3-clause-after
returns-in-Dead-3-clause-after g c = λ v n a o e t.
    let b_told = c.in_ok-assume.ensures.told v n a.1 (o, a.0) e t in
    let b_after = c.in_ok-assume.ensures.after v n a.1 (o, a.0) e t in
    let a_told = c.in_ok-assume-2.ensures.told v n a.0 o e t in
    let a_after = c.in_ok-assume-2.ensures.after v n a.0 o e t in
    let both = c.in_ok-exchange.ensures.after v a_after.1 b_after.1 (told_all v _ _ _ c.new-from_first.ensures c.as_slice.ensures a_told) (told_all v _ _ _ c.new-from_second.ensures c.as_slice-2.ensures b_told) in
    absurd (false≢true (sym (ap is_live c.in-Dead-3.is) ∙ both.0))

pub returns-clause-after : goal.returns-clause-after
returns-clause-after g c = λ v n a o e t.
    let b_told = c.in_ok-assume.ensures.told v n a.1 (o, a.0) e t in
    let b_after = c.in_ok-assume.ensures.after v n a.1 (o, a.0) e t in
    let a_told = c.in_ok-assume-2.ensures.told v n a.0 o e t in
    let a_after = c.in_ok-assume-2.ensures.after v n a.0 o e t in
    let both = c.in_ok-exchange.ensures.after v a_after.1 b_after.1 (told_all v _ _ _ c.new-from_first.ensures c.as_slice.ensures a_told) (told_all v _ _ _ c.new-from_second.ensures c.as_slice-2.ensures b_told) in
    let again = c.in_ok-live.ensures.after v both.1 (told_all v _ _ _ c.new-from_first.ensures c.as_slice-3.ensures a_told) in
    (again.0, (again.1, both.2))

pub returns-clause-told : goal.returns-clause-told
returns-clause-told g c = λ v n a o e t.
    let b_told = c.in_ok-assume.ensures.told v n a.1 (o, a.0) e t in
    let a_told = c.in_ok-assume-2.ensures.told v n a.0 o e t in
    c.in_ok-put_out.ensures.told v (told_all v _ _ _ c.new-from_first.ensures refl a_told) (told_all v _ _ _ c.new-from_second.ensures refl b_told)

pub returns-clause-sharp_live : goal.returns-clause-sharp_live
returns-clause-sharp_live g c = λ v n y x a o s f e l h.
    let lives = ap is_live c.in-Live-2.is in
    let dead = c.in_ok-assume-2.ensures.sharp_dead v n x a.0 o s f e in
    let t = true_from_ne_false (has_truth c.args.truth n) (λ q. true≢false (sym lives ∙ dead q)) in
    let b_told = told_all v _ _ _ c.new-from_second.ensures c.as_slice-2.ensures (c.in_ok-assume.ensures.told v n a.1 (o, a.0) e t) in
    let b_after = c.in_ok-assume.ensures.after v n a.1 (o, a.0) e t in
    let a_told = c.in_ok-assume-2.ensures.told v n a.0 o e t in
    let a_after = c.in_ok-assume-2.ensures.after v n a.0 o e t in
    let both = c.in_ok-exchange.ensures.after v a_after.1 b_after.1 (told_all v _ _ _ c.new-from_first.ensures c.as_slice.ensures a_told) b_told in
    c.in_ok-live.ensures.sharp v y x both.1 (told_all v _ _ _ c.new-from_first.ensures c.as_slice-3.ensures a_told)
    (c.in_ok-exchange.ensures.sharp v y x a_after.1 b_told (c.in_ok-assume-2.ensures.sharp_live v n y x a.0 o s f e lives h))

pub returns-clause-plain_live : goal.returns-clause-plain_live
returns-clause-plain_live g c = λ given x u p l.
    let behind = tested given (nexpr_tree c.args.e.now) c.args.truth in
    c.in_ok-live.ensures.plain behind x (c.in_ok-exchange.ensures.plain behind x (c.in_ok-assume-2.ensures.plain_live given x u p (ap is_live c.in-Live-2.is)))

pub returns-clause-narrows : goal.returns-clause-narrows
returns-clause-narrows g c = λ given x u l.
    c.in_ok-live.ensures.plain given x (c.in_ok-exchange.ensures.plain given x (c.in_ok-assume-2.ensures.narrows given x u (ap is_live c.in-Live-2.is)))

pub returns-clause-heard : goal.returns-clause-heard
returns-clause-heard g c = λ l x.
    let from_first = c.assume-2.new.out in let from_second = c.assume.new.out in
    let known = g.A.Oracle.known c.deliver_ranges.new.state in
    let are = put_out_two c.args.out.now (c.args.out.now ++ from_first) c.put_out.new.out from_first from_second refl c.in_ok-put_out.ensures.all in
    let firsts = subst (All (IsHeard known)) c.as_slice-3.ensures (c.in_ok-live.ensures.heard x l) in
    let seconds = heard_still (g.A.Oracle.known c.exchange.new.first) known from_second (λ given u. c.in_ok-live.ensures.plain given x u)
    (subst (All (IsHeard (g.A.Oracle.known c.exchange.new.first))) c.as_slice-2.ensures (c.in_ok-exchange.ensures.by_first x (ap is_live c.in-Live-3.is))) in
    subst (All (IsHeard known)) (sym are) (All-append (IsHeard known) from_first from_second firsts seconds)
