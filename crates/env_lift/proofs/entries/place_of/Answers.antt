use Rattle.std.proofs.Common.{rules, ap, ◌∙◌, ◌≡◌, get_or}
use Rattle.std.proofs.lemmas.List.{get_or_default}
use Rattle.env_lift.proofs.Rising.{place_above}
use Rattle.env_lift.proofs.entries.place_of.Goals as goal

pub returns-else-entry-x-clause-absent : goal.returns-else-entry-x-clause-absent
returns-else-entry-x-clause-absent g c = record {
  within = c.count_below-at.ensures.few;
  below = c.count_below-at.ensures.below;
  above = place_above c.args.entries.now c.args.x.0 c.count_below-at.result c.requires c.count_below-at.ensures.from (λ d l s.
      let es = c.args.entries.now in
      let is : c.in-Some.entry.now ≡ get_or es c.count_below-at.result c.in-Some.entry.now = search rules in
      c.if-entry-x.false (ap (λ e. e.var.0) (is ∙ get_or_default es c.count_below-at.result c.in-Some.entry.now d l) ∙ s));
}
