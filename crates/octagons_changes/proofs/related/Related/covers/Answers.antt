use Rattle.std.proofs.Common.{rules, ℕ, sym, subst, ◌≡◌}
use Rattle.octagons_sources.specs.Seen.{place_at}
use Rattle.octagons_pack.specs.Packs.{picked, places_in}
use Rattle.octagons_changes.specs.States.{OctagonView, Admits}
use Rattle.octagons_changes.proofs.Seeing.{picked-seen}
use Rattle.octagons_changes.proofs.related.Related.covers.Goals as goal

pub returns-clause-included : goal.returns-clause-included
returns-clause-included c = λ t v h.
    let own = c.self.inside in let theirs = c.other.inside in
    let same : (k : ℕ) → place_at c.places_in-places.result k ≡ place_at (places_in own.pack.items theirs.pack.items) k = search rules in
    subst (λ (o : OctagonView). Admits o v) c.self.view_is
    (c.covers.ensures.included t (picked v theirs.pack.items) (picked v own.pack.items) (subst (λ (o : OctagonView). Admits o v) (sym c.other.view_is) h)
    (picked-seen own.pack.items theirs.pack.items c.places_in-places.result own.bounds.vars v c.self.invariant.size same))
