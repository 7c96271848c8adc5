-- Ranges that lie in others, and what that says of a state that knows them.
use Rattle.std.proofs.Common.{ℕ, ◌≡◌, false, refl, sym, ◌∙◌}
use Rattle.std.specs.Prelude.{IsTrue}
use Rattle.std.proofs.lemmas.Bool.{false≢true}
use Rattle.ext_int.specs.declared.Live.{Live as LiveOrDead}
use Rattle.ext_int.specs.declared.Live.TheVariants.{Live, Dead}
use Rattle.ext_int.specs.declared.Ext.TheVariants.{Fin}
use Rattle.ext_int.proofs.Ends.{AtMost_trans, AtMost-from_below, Below-from_at_most, AtMost-from_above, Above-from_at_most, number_between, holds_number_from, lesser_greatest, greater_least}
use Rattle.num_api.specs.declared.message.Range.{Range}
use Rattle.num_api.specs.Ranges.{NoWider, IsUnder, common, holds_some}
use Rattle.num_api.specs.Lives.{is_live}

-- what lies in two ranges lies in their common numbers
pub in_common : (r s t : Range) → NoWider r s → NoWider r t → NoWider r (common s t)
in_common r s t h k = record { low = greater_least r.lo s.lo t.lo h.low k.low; high = lesser_greatest r.hi s.hi t.hi h.high k.high }

pub some_held : (r s : Range) → NoWider r s → IsTrue (holds_some r) → IsTrue (holds_some s)
some_held r s h some =
    let n = number_between r.lo r.hi some in
    holds_number_from s.lo s.hi n.0 (Below-from_at_most s.lo n.0 (AtMost_trans s.lo r.lo (Fin n.0) h.low (AtMost-from_below r.lo n.0 n.1)))
    (Above-from_at_most s.hi n.0 (AtMost_trans (Fin n.0) r.hi s.hi (AtMost-from_above r.hi n.0 n.2) h.high))

-- a state that knows some number of a variable is dead where nothing is left of it
pub none_left : (live : LiveOrDead) (known left : ℕ → Range) (x : ℕ) → IsTrue (holds_some (known x)) → holds_some (left x) ≡ false
    → (IsTrue (is_live live) → IsUnder known left) → is_live live ≡ false
none_left Dead known left x some none under = refl
none_left Live known left x some none under = absurd (false≢true (sym none ∙ some_held (known x) (left x) (under refl x) some))
