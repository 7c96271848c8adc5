use Rattle.std.proofs.Common.{ℕ, List, subst, sym, refl, ◌≤◌, ◌∙◌, length, arith}
use Rattle.std.proofs.lemmas.Result.{on_ok_weaker}
use Rattle.ext_int.specs.Valuation.{value_at}
use Rattle.octagons_pack.specs.Packs.{picked}
use Rattle.octagons_changes.specs.States.{StandsBefore}
use Rattle.octagons_changes.proofs.Packing.{brought-length, brought-first, brought-stays}
use Rattle.octagons_changes.proofs.relations.Relations.bring.Goals as goal

pub redraw-requires : goal.redraw-requires
redraw-requires c = subst (λ (l : List ℕ). length l ≤ 24) (sym c.in_ok-brought-in-Some-2.ensures) (brought-length c.args.x c.pack-in-Some-2-2.result.now)

pub returns-in_ok-brought-in-Some-2-clause-first : goal.returns-in_ok-brought-in-Some-2-clause-first
returns-in_ok-brought-in-Some-2-clause-first c =
    on_ok_weaker c.redraw.result
    (λ e. subst (StandsBefore 2 c.args.x) (sym (e ∙ c.in_ok-brought-in-Some-2.ensures)) (brought-first 2 c.args.x c.pack-in-Some-2-2.result.now (omega arith)))
    c.redraw.ensures.pack

pub returns-in_ok-brought-in-Some-2-clause-stays : goal.returns-in_ok-brought-in-Some-2-clause-stays
returns-in_ok-brought-in-Some-2-clause-stays c =
    on_ok_weaker c.redraw.result
    (λ e y s. subst (StandsBefore 3 y) (sym (e ∙ c.in_ok-brought-in-Some-2.ensures)) (brought-stays c.args.x y c.pack-in-Some-2-2.result.now (subst (StandsBefore 2 y) (sym c.pack-in-Some-2-2.ensures.value) s)))
    c.redraw.ensures.pack

pub returns-in-None-clause-stays : goal.returns-in-None-clause-stays
returns-in-None-clause-stays c =
    on_ok_weaker c.set.result (λ e y s. subst (StandsBefore 3 y) (sym e) (brought-stays c.args.x y c.args.self.now.pack s)) c.set.ensures.pack

pub returns-in-None-clause-points : goal.returns-in-None-clause-points
returns-in-None-clause-points c =
    on_ok_weaker c.set.result
    (λ p v h r. p v v (value_at v c.args.x) h (c.ranged.ensures (picked v c.args.self.now.pack) (value_at v c.args.x) r) (record { here = refl; others = λ y d. refl }))
    c.set.ensures.points
