-- What is so of the memory of every state of a typed run.
use Rattle.std.proofs.Common.{◌≡◌, ◌<◌, ◌≤◌, ◌^◌, ℕ, true, List, length, Option, Some, None, refl, subst, arith}
use Rattle.std.specs.Prelude.{IfSome, IsSome, IsSomeAnd, slice_get}
use Rattle.c_syntax.specs.Types.{ObjectTree}
use Rattle.c_syntax.specs.Program.{TProgramTree}
use Rattle.c_layout.specs.WellTyped.{IsTypedObject, IsWellTyped}
use Rattle.block_mem.specs.declared.types.Value.{Value}
use Rattle.block_mem.specs.declared.types.Value.TheVariants as values
use Rattle.block_mem.specs.Blocks.{block_at}
use Rattle.block_mem.specs.Proper.{IsMade}
use Rattle.c_values.specs.Memory as memory
use Rattle.c_values.specs.Places.{ObjectMemory, place_of, owner_of}
use Rattle.c_objects.specs.Kept.{AreSmall, FitsAt, IsFillable}
use Rattle.c_objects.proofs.Keeping.{Keeps, objects_keep}
use Rattle.c_steps.specs.States.{State}
use Rattle.c_steps_laws.specs.Fits.{Fits}
use Rattle.c_steps_laws.proofs.Sizes.{all_at, element_of}
use Rattle.c_steps_laws.specs.Laws.{IsSound}

small_case : (p : TProgramTree) → IsWellTyped p → (x : ℕ) (o : Option ObjectTree) → slice_get p.objects x ≡ o → IfSome o (λ object. object.size ≤ 2 ^ 62)
small_case p w x None e = tt
small_case p w x (Some object) e =
    let t = all_at (IsTypedObject p.structs) p.objects x object w.objects e in
    let size = (element_of p.structs w.structs object.ty object.size t.ty t.size).1 in omega (arith, size)

pub are_small : (p : TProgramTree) → IsWellTyped p → AreSmall p.objects
are_small p w x = small_case p w x (slice_get p.objects x) refl

-- a value that was made fits its object
pub fits_at : {W : Type 0} (objects : List ObjectTree) (m : ObjectMemory) → Keeps W objects m → (v : Value) → IsMade (length m.blocks) v → FitsAt objects m v
fits_at objects m k (values.Int t n) h = tt
fits_at objects m k (values.Ptr p) h = k.fits p.block h
fits_at objects m k values.Null h = tt

-- the block of an object has fewer bytes than a pointer has offsets
size_below : (objects : List ObjectTree) (m : ObjectMemory) (b : ℕ) → AreSmall objects → memory.Fits objects m b → length (block_at m.blocks b).bytes < 2 ^ 63
size_below objects m b small f =
    let at : f.object.size ≤ 2 ^ 62 = subst (λ o. IfSome o (λ object. object.size ≤ 2 ^ 62)) f.is (small (owner_of m b)) in
    let same = f.size in omega (arith, at, same)

pub block_small : {W : Type 0} (objects : List ObjectTree) (m : ObjectMemory) → Keeps W objects m → AreSmall objects → (b : ℕ) → b < length m.blocks
    → length (block_at m.blocks b).bytes < 2 ^ 63
block_small objects m k small b h = size_below objects m b small (k.fits b h)

fillable_case : {W : Type 0} (objects : List ObjectTree) (m : ObjectMemory) → Keeps W objects m → AreSmall objects → (x : ℕ) (o : Option ℕ) → place_of m x ≡ o → IsSome o
    → IsSomeAnd o (λ b. ((block_at m.blocks b).live ≡ true) × (length (block_at m.blocks b).bytes < 2 ^ 63))
fillable_case objects m k small x None e h = absurd (cc)
fillable_case objects m k small x (Some b) e h = let p = k.placed x b e in (p.live, block_small objects m k small b p.made)

pub fillable : {W : Type 0} (objects : List ObjectTree) (m : ObjectMemory) → Keeps W objects m → AreSmall objects → (x : ℕ) → IsSome (place_of m x) → IsFillable m x
fillable objects m k small x h = fillable_case objects m k small x (place_of m x) refl h

pub sound : (p : TProgramTree) → IsWellTyped p → (s : State) → Fits p s → IsSound p s.memory
sound p w s h = record {
  fits = h.kept.fits;
  small = are_small p w;
  counted = h.kept.counted;
  fits_at = fits_at p.objects s.memory (objects_keep p.objects s.memory h.kept);
}
