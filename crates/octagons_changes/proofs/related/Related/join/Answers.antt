use Rattle.std.proofs.Common.{rules, ℕ, sym, subst, ◌≡◌, ◌∙◌}
use Rattle.octagons_sources.specs.Seen.{place_at}
use Rattle.octagons_pack.specs.Packs.{picked, places_in}
use Rattle.octagons_changes.specs.States.{OctagonView, Admits}
use Rattle.octagons_changes.proofs.Seeing.{picked-seen}
use Rattle.octagons_changes.proofs.related.Related.join.Goals as goal

pub returns-clause-right : goal.returns-clause-right
returns-clause-right c = λ v h.
    let own = c.self.inside in let theirs = c.other.inside in
    let same : (k : ℕ) → place_at c.places_in-places.result k ≡ place_at (places_in own.pack.items theirs.pack.items) k = search rules in
    let closed = (c.close-live-2.ensures.points (picked v theirs.pack.items) (subst (λ (o : OctagonView). Admits o v) (sym c.other.view_is) h)).1 in
    c.join.ensures.right (picked v theirs.pack.items) (picked v own.pack.items) closed
    (picked-seen own.pack.items theirs.pack.items c.places_in-places.result c.close-live.new.self.vars v (c.self.invariant.size ∙ sym c.close-live.ensures.vars) same)
