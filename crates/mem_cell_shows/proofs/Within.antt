-- Offsets that are inside of objects.
use Rattle.std.proofs.Common.{ℕ, ℤ, zero, suc, pos, ◌≡◌, ◌≤◌, ◌<◌, ◌≤ℤ◌, ◌+ℤ◌, ◌-◌, ◌||◌, Bool, true, false, List, [], ◌∷◌, length, map, Option, Some, None, slice_get, get_or, refl, sym, subst, ◌∙◌, arith}
use Rattle.std.specs.Prelude.{IsSomeAnd, int_lt}
use Rattle.std.proofs.lemmas.Int.{ints}
use Rattle.c_syntax.specs.Types.{ObjectTree}
use Rattle.c_syntax.specs.Failing.{asked_of}
use Rattle.pointsets.specs.declared.Base.TheVariants.{Dead, Object}
use Rattle.pointsets.specs.Targets.{Among, Any, BaseSet, has_base, has_name, names_of}
use Rattle.block_mem.specs.declared.types.Pointer.{Pointer}
use Rattle.block_mem.specs.declared.types.Value.{Value}
use Rattle.block_mem.specs.declared.types.Value.TheVariants as values
use Rattle.block_mem.specs.Blocks.{block_at}
use Rattle.c_values.specs.Places.{ObjectMemory, owner_of}
use Rattle.mem_cell_bytes.specs.Cells.{Points, number_of}
use Rattle.mem_cell_shows.specs.Addresses.{IsAddress}
use Rattle.mem_cell_shows.specs.Insides.{IsRoom, IsSmallAt}
use Rattle.mem_cell_shows.proofs.Between.{or-false}

pub small-index : {X : Type 0} (f : X → ObjectTree) (xs : List X) (i : ℕ) (x : X) (size : ℕ) → i < length xs → x ≡ get_or xs i x → (f x).size ≤ size → IsSmallAt (map f xs) i size
small-index f [] i x size h e s = absurd (omega arith)
small-index f (y ∷ xs) zero x size h e s = subst (λ z. (f z).size ≤ size) e s
small-index f (y ∷ xs) (suc i) x size h e s = small-index f xs i x size (omega (arith, h)) e s

pub small-more : (objects : List ObjectTree) (o few most : ℕ) → few ≤ most → IsSmallAt objects o few → IsSmallAt objects o most
small-more objects o few most h s = by (slice_get objects o) s where
  by : (x : Option ObjectTree) → IsSomeAnd x (λ object. object.size ≤ few) → IsSomeAnd x (λ object. object.size ≤ most)
  by None k = k
  by (Some object) k = omega (arith, h, k)

-- an offset with room in a small object
pub room-to : (objects : List ObjectTree) (o : ℕ) (d : ℤ) (n most : ℕ) → n ≤ most → IsSmallAt objects o most → IsRoom objects o d n → (pos 0 ≤ℤ d) × (d ≤ℤ pos (most - n))
room-to objects o d n most few small room = by (slice_get objects o) small room where
  by : (x : Option ObjectTree) → IsSomeAnd x (λ object. object.size ≤ most) → asked_of x (λ object. int_lt d (pos 0) || int_lt (pos object.size) (d +ℤ pos n)) ≡ false
      → (pos 0 ≤ℤ d) × (d ≤ℤ pos (most - n))
  by None s r = absurd s
  by (Some object) s r =
      let q = or-false (int_lt d (pos 0)) (int_lt (pos object.size) (d +ℤ pos n)) r in let a = q.0 in let b = q.1 in
      let low : pos 0 ≤ℤ d = omega (arith, ints, a) in
      let high : (d +ℤ pos n) ≤ℤ pos object.size = omega (arith, ints, b) in
      (low, omega (arith, ints, high, s, few))

-- a set without dead pointers names its objects
named : (set : BaseSet) (o : ℕ) → has_base set Dead ≡ false → has_base set (Object o) ≡ true → has_name (names_of set) o ≡ true
named Any o none h = cc
named (Among names null dead) o none h = h

pub offset-to : (m : ObjectMemory) (objects : List ObjectTree) (set : BaseSet) (n most : ℕ) (u : Value) → n ≤ most → has_base set Dead ≡ false
    → ((o : ℕ) → has_name (names_of set) o ≡ true → IsSmallAt objects o most) → Points m set u → IsAddress u
    → ((p : Pointer) → u ≡ values.Ptr p → (block_at m.blocks p.block).live ≡ true → IsRoom objects (owner_of m p.block) p.offset n)
    → (pos 0 ≤ℤ number_of u) × (number_of u ≤ℤ pos (most - n))
offset-to m objects set n most (values.Int t i) few none small points address room = absurd address
offset-to m objects set n most values.Null few none small points address room = (omega (arith, ints), omega (arith, ints))
offset-to m objects set n most (values.Ptr p) few none small points address room = by ((block_at m.blocks p.block).live) refl where
  by : (live : Bool) → (block_at m.blocks p.block).live ≡ live → (pos 0 ≤ℤ p.offset) × (p.offset ≤ℤ pos (most - n))
  by true e = room-to objects (owner_of m p.block) p.offset n most few (small (owner_of m p.block) (named set (owner_of m p.block) none (points.live e))) (room p refl e)
  by false e = let k : true ≡ false = sym (points.dead e) ∙ none in cc
