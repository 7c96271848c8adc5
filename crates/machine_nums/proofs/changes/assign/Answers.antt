use Rattle.std.proofs.Common.{refl, sym, subst}
use Rattle.std.proofs.lemmas.Result.{IfOk-weaker}
use Rattle.num_api.specs.Ranges.{InRange, IsPoint, all_numbers, with_range}
use Rattle.num_api.proofs.Sets.{with_value, is_set}
use Rattle.machine_nums.proofs.Both.{ok_both}
use Rattle.machine_nums.proofs.Cutting.{under_elsewhere, with_under}
use Rattle.machine_nums.proofs.changes.assign.Goals as goal

pub returns-clause-after : goal.returns-clause-after
returns-clause-after g c = IfOk-weaker c.accept.result _ _ (λ live h v w n ad tells set.
    h w (c.in_ok-assign.ensures.after v w n ad tt tells.value set) (subst (InRange c.args.part.now.range) (sym set.here) tells.holds)) c.accept.ensures.after

pub returns-clause-sharp_here : goal.returns-clause-sharp_here
returns-clause-sharp_here g c = IfOk-weaker c.accept.result _ _ (λ live h v n ex ad tells shown.
    let x = c.args.x.0 in let w = with_value v x n in let set = is_set v x n in
    let after = c.in_ok-assign.ensures.after v w n ad tt tells.value set in
    let here = c.in_ok-assign.ensures.sharp_here v n ex ad tt shown.sharp shown.fits tells.value in
    let known = g.D.Oracle.known in
    subst (IsPoint (known c.accept.new.self x)) set.here
    (h w x ex after (subst (InRange c.args.part.now.range) (sym set.here) tells.holds)
    (subst (IsPoint (known c.assign.new.self x)) (sym set.here) here))) c.accept.ensures.sharp

pub returns-clause-sharp_others : goal.returns-clause-sharp_others
returns-clause-sharp_others g c = IfOk-weaker c.accept.result _ _ (λ live h v n y ex ad tells shown apart s.
    let x = c.args.x.0 in let w = with_value v x n in let set = is_set v x n in
    let after = c.in_ok-assign.ensures.after v w n ad tt tells.value set in
    let here = c.in_ok-assign.ensures.sharp_others v n y ex ad tt shown.sharp shown.fits tells.value apart s in
    let known = g.D.Oracle.known in
    subst (IsPoint (known c.accept.new.self y)) (set.others y apart)
    (h w y ex after (subst (InRange c.args.part.now.range) (sym set.here) tells.holds)
    (subst (IsPoint (known c.assign.new.self y)) (sym (set.others y apart)) here))) c.accept.ensures.sharp

pub returns-clause-plain : goal.returns-clause-plain
returns-clause-plain g c = ok_both _ _ _ c.accept.result c.accept.ensures.plain c.accept.ensures.cut (λ live plain cut given ex u is.
    let x = c.args.x in let known = g.D.Oracle.known c.accept.new.self in
    with_under known given x.0 c.args.part.now.range
    (λ y q. under_elsewhere known given x.0 all_numbers y (plain (with_range given x.0 all_numbers) ex (c.in_ok-assign.ensures.others given ex u)) q)
    (cut x c.args.part.now.range ex refl is))
