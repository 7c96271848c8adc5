use Rattle.std.proofs.Common.{refl}
use Rattle.num_api.proofs.Parts.{wider}
use Rattle.machine_nums.proofs.evaluation.told.Goals as goal

pub returns : goal.returns
returns g c = record {
  tree = refl;
  kept = refl;
  inside = c.meet-range.ensures.first;
  holds = λ v n a h. record { value = h.value; holds = c.meet-range.ensures.holds n h.holds (c.range.ensures.holds v n a h.value) };
  answer = (c.range.result, c.range.ensures.answer, c.meet-range.ensures.second);
  variable = λ x e q. wider c.meet-range.result c.range.result _ c.meet-range.ensures.second (c.range.ensures.known x e q);
}
