use Rattle.std.proofs.Common.{ℤ, refl, sym, subst, ap, ◌∙◌, ◌++◌}
use Rattle.std.specs.Prelude.{All}
use Rattle.std.proofs.lemmas.List.Elements.{All-append}
use Rattle.num_api.specs.Ranges.{with_range, all_numbers, IsPoint}
use Rattle.num_api.specs.Spans.{range_of}
use Rattle.num_api.proofs.Sets.{with_value, is_set}
use Rattle.num_api.proofs.PutOut.{told_all, put_out_two}
use Rattle.channels.specs.Hearing.{IsHeard}
use Rattle.channels.proofs.HeardLemmas.{heard_still}
use Rattle.channels.proofs.linked.LinkedNumDomain.assign.Goals as goal

pub returns-clause-plain : goal.returns-clause-plain
returns-clause-plain g c = λ given s x u p m e.
    let behind = with_range given c.args.x.0 (range_of s) in
    c.in_ok-_again.ensures.plain behind x (c.in_ok-_live.ensures.plain behind x (c.in_ok-assign-2.ensures.plain given s x u p m e))

pub returns-clause-others : goal.returns-clause-others
returns-clause-others g c = λ given x u.
    let behind = with_range given c.args.x.0 all_numbers in
    c.in_ok-_again.ensures.plain behind x (c.in_ok-_live.ensures.plain behind x (c.in_ok-assign-2.ensures.others given x u))

pub returns-clause-after : goal.returns-clause-after
returns-clause-after g c = λ v w n a o e t.
    let b_told = c.in_ok-assign.ensures.told v w n a.1 (o, a.0) e t in
    let b_after = c.in_ok-assign.ensures.after v w n a.1 (o, a.0) e t in
    let a_told = c.in_ok-assign-2.ensures.told v w n a.0 o e t in
    let a_after = c.in_ok-assign-2.ensures.after v w n a.0 o e t in
    let both = c.in_ok-_live.ensures.after w a_after b_after (told_all w _ _ _ c.new-from_first.ensures c.as_slice.ensures a_told) (told_all w _ _ _ c.new-from_second.ensures c.as_slice-2.ensures b_told) in
    ((c.in_ok-_again.ensures.after w both.1 (told_all w _ _ _ c.new-from_first.ensures c.as_slice-3.ensures a_told)).1, both.2)

pub returns-clause-told : goal.returns-clause-told
returns-clause-told g c = λ v w n a o e t.
    let b_told = c.in_ok-assign.ensures.told v w n a.1 (o, a.0) e t in
    let a_told = c.in_ok-assign-2.ensures.told v w n a.0 o e t in
    c.in_ok-put_out.ensures.told w (told_all w _ _ _ c.new-from_first.ensures refl a_told) (told_all w _ _ _ c.new-from_second.ensures refl b_told)

pub returns-clause-sharp_here : goal.returns-clause-sharp_here
returns-clause-sharp_here g c = λ v n x a o s f e.
    let w = with_value v c.args.x.0 n in
    let t = is_set v c.args.x.0 n in
    let b_told = told_all w _ _ _ c.new-from_second.ensures c.as_slice-2.ensures (c.in_ok-assign.ensures.told v w n a.1 (o, a.0) e t) in
    let b_after = c.in_ok-assign.ensures.after v w n a.1 (o, a.0) e t in
    let a_told = c.in_ok-assign-2.ensures.told v w n a.0 o e t in
    let a_after = c.in_ok-assign-2.ensures.after v w n a.0 o e t in
    let both = c.in_ok-_live.ensures.after w a_after b_after (told_all w _ _ _ c.new-from_first.ensures c.as_slice.ensures a_told) b_told in
    let point = c.in_ok-assign-2.ensures.sharp_here v n x a.0 o s f e in
    let sharp = subst (λ (z : ℤ). IsPoint (g.A.Oracle.known c.assign-2.new.self c.args.x.0) z) (sym t.here) point in
    subst (λ (z : ℤ). IsPoint (g.A.Oracle.known c.deliver_ranges.new.state c.args.x.0) z) t.here
    (c.in_ok-_again.ensures.sharp w c.args.x.0 x both.1 (told_all w _ _ _ c.new-from_first.ensures c.as_slice-3.ensures a_told)
    (c.in_ok-_live.ensures.sharp w c.args.x.0 x a_after b_told sharp))

pub returns-clause-sharp_others : goal.returns-clause-sharp_others
returns-clause-sharp_others g c = λ v n y x a o s f e p q.
    let w = with_value v c.args.x.0 n in
    let t = is_set v c.args.x.0 n in
    let b_told = told_all w _ _ _ c.new-from_second.ensures c.as_slice-2.ensures (c.in_ok-assign.ensures.told v w n a.1 (o, a.0) e t) in
    let b_after = c.in_ok-assign.ensures.after v w n a.1 (o, a.0) e t in
    let a_told = c.in_ok-assign-2.ensures.told v w n a.0 o e t in
    let a_after = c.in_ok-assign-2.ensures.after v w n a.0 o e t in
    let both = c.in_ok-_live.ensures.after w a_after b_after (told_all w _ _ _ c.new-from_first.ensures c.as_slice.ensures a_told) b_told in
    let point = c.in_ok-assign-2.ensures.sharp_others v n y x a.0 o s f e p q in
    let sharp = subst (λ (z : ℤ). IsPoint (g.A.Oracle.known c.assign-2.new.self y) z) (sym (t.others y p)) point in
    subst (λ (z : ℤ). IsPoint (g.A.Oracle.known c.deliver_ranges.new.state y) z) (t.others y p)
    (c.in_ok-_again.ensures.sharp w y x both.1 (told_all w _ _ _ c.new-from_first.ensures c.as_slice-3.ensures a_told)
    (c.in_ok-_live.ensures.sharp w y x a_after b_told sharp))

pub returns-clause-heard : goal.returns-clause-heard
returns-clause-heard g c = λ v w n x a o e t.
    let from_first = c.assign-2.new.out in let from_second = c.assign.new.out in
    let known = g.A.Oracle.known c.deliver_ranges.new.state in
    let b_told = c.in_ok-assign.ensures.told v w n a.1 (o, a.0) e t in
    let b_after = c.in_ok-assign.ensures.after v w n a.1 (o, a.0) e t in
    let a_told = c.in_ok-assign-2.ensures.told v w n a.0 o e t in
    let a_after = c.in_ok-assign-2.ensures.after v w n a.0 o e t in
    let both = c.in_ok-_live.ensures.after w a_after b_after (told_all w _ _ _ c.new-from_first.ensures c.as_slice.ensures a_told) (told_all w _ _ _ c.new-from_second.ensures c.as_slice-2.ensures b_told) in
    let again = c.in_ok-_again.ensures.after w both.1 (told_all w _ _ _ c.new-from_first.ensures c.as_slice-3.ensures a_told) in
    let are = put_out_two c.args.out.now (c.args.out.now ++ from_first) c.put_out.new.out from_first from_second refl c.in_ok-put_out.ensures.all in
    let firsts = subst (All (IsHeard known)) c.as_slice-3.ensures (c.in_ok-_again.ensures.heard x again.0) in
    let seconds = heard_still (g.A.Oracle.known c.exchange.new.first) known from_second (λ given u. c.in_ok-_again.ensures.plain given x u)
    (subst (All (IsHeard (g.A.Oracle.known c.exchange.new.first))) c.as_slice-2.ensures (c.in_ok-_live.ensures.by_first x both.0)) in
    subst (All (IsHeard known)) (sym are) (All-append (IsHeard known) from_first from_second firsts seconds)
