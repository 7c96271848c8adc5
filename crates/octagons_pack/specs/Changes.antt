-- What happens to a valuation where one variable is set.
use Rattle.std.specs.Prelude.{ℕ, ℤ, ◌≡◌, List, Option, None, Some}
use Rattle.ext_int.specs.Valuation.{value_at}
use Rattle.num_api.specs.Valuation.{SetTo}
use Rattle.octagons_sources.specs.Sources.{IsDrawn}
use Rattle.octagons_pack.specs.declared.changes.Change.{Change}
use Rattle.octagons_pack.specs.Packs.{picked}

-- w is v with the changed variable set to what its source makes of the pack's numbers; where nothing changes they agree
abbrev pub Changes : Option Change → List ℕ → List ℤ → List ℤ → Type 0
Changes None pack v w = (z : ℕ) → value_at w z ≡ value_at v z
Changes (Some c) pack v w = (n : ℤ) × SetTo c.var n v w × IsDrawn c.source (picked v pack) n
