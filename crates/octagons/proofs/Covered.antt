-- Comparing bound by bound is exact.
use Rattle.std.proofs.Common.{ℕ, zero, suc, ◌≡◌, ◌*◌, refl, true}
use Rattle.ext_int.specs.Ext.{AtMost}
use Rattle.ext_int.specs.declared.Ext.{Ext}
use Rattle.bound_matrix.specs.Bound.{bound_at}
use Rattle.octagons_sources.specs.Seen.{seen}
use Rattle.octagons_bounds.specs.Passes.{row_covers, all_cover}
use Rattle.octagons_bounds.proofs.Widened.{true-AtMost, covered-over}
use Rattle.octagons_pack.specs.Packs.{places_in}
use Rattle.octagons_changes.specs.States.{OctagonView, includes}
use Rattle.octagons.specs.Entries.{Covers}

row-holds : (n : ℕ) (f g : ℕ → Ext) → ((q : ℕ) → AtMost (g q) (f q)) → row_covers n f g ≡ true
row-holds zero f g h = refl
row-holds (suc n) f g h = rw (row-holds n f g h, true-AtMost (g n) (f n) (h n)) refl

all-hold : (r n : ℕ) (f g : ℕ → ℕ → Ext) → ((p q : ℕ) → AtMost (g p q) (f p q)) → all_cover r n f g ≡ true
all-hold zero n f g h = refl
all-hold (suc r) n f g h = rw (all-hold r n f g h, row-holds n (f r) (g r) (h r)) refl

pub covers-then : (o other : OctagonView) → includes o other ≡ true → Covers o other
covers-then o other e = covered-over (2 * o.matrix.vars) o.matrix (seen (places_in o.pack other.pack) (bound_at other.matrix)) refl e

pub covers-if : (o other : OctagonView) → Covers o other → includes o other ≡ true
covers-if o other h = all-hold (2 * o.matrix.vars) (2 * o.matrix.vars) (bound_at o.matrix) (seen (places_in o.pack other.pack) (bound_at other.matrix)) h
