use Rattle.std.proofs.Common.{rules, ℕ, sym, subst, ◌≡◌, ◌<◌, ◌*◌, ◌∙◌, false}
use Rattle.bound_matrix.specs.Bound.{bound_at}
use Rattle.octagons_sources.specs.Seen.{place_at}
use Rattle.octagons_pack.specs.Packs.{picked, places_in}
use Rattle.octagons_changes.specs.States.{OctagonView, Admits, includes, openness}
use Rattle.octagons_changes.proofs.Seeing.{picked-seen, cover-places}
use Rattle.octagons_changes.proofs.related.Related.widen.Goals as goal

pub returns-clause-right : goal.returns-clause-right
returns-clause-right g c = λ v h.
    let own = c.self.inside in let theirs = c.next.inside in
    let same : (k : ℕ) → place_at c.places_in-places.result k ≡ place_at (places_in own.pack.items theirs.pack.items) k = search rules in
    c.widen.ensures.right (picked v theirs.pack.items) (picked v own.pack.items) (subst (λ (o : OctagonView). Admits o v) (sym c.next.view_is) h)
    (picked-seen own.pack.items theirs.pack.items c.places_in-places.result own.bounds.vars v c.self.invariant.size same)

pub returns-clause-falls : goal.returns-clause-falls
returns-clause-falls g c = λ e.
    let own = c.self.inside in let theirs = c.next.inside in
    let same : (k : ℕ) → place_at c.places_in-places.result k ≡ place_at (places_in own.pack.items theirs.pack.items) k = search rules in
    let before : OctagonView = record { pack = own.pack.items; matrix = own.bounds } in
    let other : OctagonView = record { pack = theirs.pack.items; matrix = theirs.bounds } in
    let f : includes before other ≡ false = subst (λ (o : OctagonView). includes o other ≡ false) (sym c.self.view_is) (subst (λ (o : OctagonView). includes c.args.self.now o ≡ false) (sym c.next.view_is) e) in
    subst (λ (o : OctagonView). openness g.S.Steps.list (record { pack = own.pack.items; matrix = c.widen.new.self }) < openness g.S.Steps.list o) c.self.view_is
    (c.widen.ensures.falls (cover-places (2 * own.bounds.vars) (bound_at own.bounds) (bound_at theirs.bounds) c.places_in-places.result (places_in own.pack.items theirs.pack.items) same ∙ f))
