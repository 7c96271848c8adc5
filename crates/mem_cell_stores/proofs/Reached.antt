-- Where a store leads, as the code finds it.
use Rattle.std.proofs.Common.{ℕ, ℤ, ◌≡◌, ◌+◌, ◌-◌, ◌*◌, ◌<◌, ◌≤◌, false, List, Option, None, Some, sym, ap, ◌∙◌, arith}
use Rattle.std.specs.Prelude.{IfSome, SomeIff}
use Rattle.std.proofs.Math.Nat.{mul-le-mul_right}
use Rattle.c_values.specs.Places.{owner_of, place_of}
use Rattle.block_mem.specs.declared.types.Pointer.{Pointer}
use Rattle.block_mem.specs.Blocks.{wrong_access}
use Rattle.csharp.specs.Trees.{CsExprTree}
use Rattle.csharp.specs.States.{State}
use Rattle.mem_cell_bytes.specs.Stands.{Has}
use Rattle.mem_cell_exprs.specs.declared.known.Known.{Known}
use Rattle.mem_cell_loads.specs.declared.reach.Reach.{Reach}
use Rattle.mem_cell_loads.specs.Places.{LeadsThere}
use Rattle.mem_cell_stores.specs.declared.spots.Spot.{Spot}
use Rattle.mem_cell_stores.specs.Changes.{IsAmong, LeadsTo}

-- a sum that there may be
pub if-added : (o : Option ℕ) (P : Type 0) (v w : ℕ) → v ≡ w → SomeIff o P v → IfSome o (λ n. n ≡ w)
if-added None P v w same h = tt
if-added (Some x) P v w same h = h.1 ∙ same

module _ {D : Type 0} (admits : D → List ℤ → Type 0) (k : Known D) (e : CsExprTree) where
  pub leads-to : (size : ℕ) (r : Reach) (spot : Spot) → LeadsThere admits k e size r
      → ((o i : ℕ) → Has r.objects.items o → r.first ≤ i → i < r.end → (spot.object ≡ o) × (spot.at ≡ i * r.step)) → LeadsTo admits k e size spot
  leads-to size r spot leads only objects s st p is passes =
      let l = leads objects s st p is passes in
      let both = only (owner_of s.memory p.block) l.index l.object l.first l.end in
      (ap (place_of s.memory) both.0 ∙ l.lives, l.place_is ∙ sym both.1)

  -- the bytes of one place
  pub spot-among : (size : ℕ) (spot : Spot) (os : List ℕ) → Has os spot.object → LeadsTo admits k e size spot → IsAmong admits k e size size os spot.at size
  spot-among size spot os has leads objects s st p is passes =
      let l = leads objects s st p is passes in let place_is = l.1 in
      (spot.object, has, l.0, omega (arith, place_is), omega (arith, place_is))

  -- the bytes of a reach, up to n of them from its last place on
  pub reach-among : (r : Reach) (size n from count : ℕ) → from ≡ r.first * r.step → count ≡ r.end * r.step - r.first * r.step - r.step + n
      → ((s : State) (p : Pointer) → wrong_access s.memory.blocks p n size false ≡ None → wrong_access s.memory.blocks p size size false ≡ None)
      → LeadsThere admits k e size r → IsAmong admits k e n size r.objects.items from count
  reach-among r size n from count from_is count_is less leads objects s st p is passes =
      let l = leads objects s st p is (less s p passes) in
      let place_is = l.place_is in let first = l.first in let end = l.end in
      let next : l.index + 1 ≤ r.end = omega (arith, end) in
      let low = mul-le-mul_right r.step first in
      let high = mul-le-mul_right r.step next in
      (owner_of s.memory p.block, l.object, l.lives, omega (arith, low, place_is, from_is), omega (arith, low, high, place_is, from_is, count_is))
