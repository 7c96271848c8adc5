-- What is left of a machine behind a change, and how far it can still be widened.
use Rattle.std.proofs.Common.{◌≡◌, ◌+◌, ◌≤◌, ◌<◌, ℕ, ℤ, Bool, true, false, arith, if◌then◌else◌, ◌&&◌, refl, sym}
use Rattle.std.specs.Prelude.{not, ◌||◌}
use Rattle.std.proofs.lemmas.Bool.{false≢true}
use Rattle.ext_int.proofs.Ends.{lesser_first, lesser_second, greater_first, greater_second}
use Rattle.num_api.specs.declared.message.Range.{Range}
use Rattle.num_api.specs.declared.message.Residue.{Residue}
use Rattle.num_api.specs.Ranges.{NoWider, IsUnder, with_range, hull}
use Rattle.num_api.specs.Residues.{IsMultiple, IsFoldResidue}
use Rattle.num_api.proofs.Multiples.{multiple_trans}
use Rattle.num_api.proofs.Parts.{wider}
use Rattle.machine_nums.proofs.Cutting.{with_under, under_elsewhere, under_here}

pub hull_first : (r s q : Range) → NoWider r s → NoWider r (hull s q)
hull_first r s q w = wider r s (hull s q) w (record { low = lesser_first s.lo q.lo; high = greater_first s.hi q.hi })

pub hull_second : (r s q : Range) → NoWider r s → NoWider r (hull q s)
hull_second r s q w = wider r s (hull q s) w (record { low = lesser_second q.lo s.lo; high = greater_second q.hi s.hi })

-- a wider range at the variable that was set
pub set_under : (known given : ℕ → Range) (x : ℕ) (r s : Range) → IsUnder known (with_range given x r) → NoWider r s → IsUnder known (with_range given x s)
set_under known given x r s u w = with_under known given x s (λ y q. under_elsewhere known given x r y u q)
    (wider (known x) r s (under_here known given x r u) w)

-- what a void machine is widened to weighs less
pub weight_stays : (a b : ℕ) (v : Bool) → a ≤ b → (a + 0) ≤ (b + (if v then 1 else 0))
weight_stays a b true h = omega arith
weight_stays a b false h = omega arith

pub weight_falls : (a b : ℕ) (v h : Bool) → a ≤ b → (h ≡ false → a < b) → (not v && h) ≡ false → (a + 0) < (b + (if v then 1 else 0))
weight_falls a b true h w f e = omega arith
weight_falls a b false h w f e = let k = f e in omega arith

pub fold_coarser : (c d : ℤ) (r : Residue) → IsMultiple c d → IsFoldResidue d r → IsFoldResidue c r
fold_coarser c d r h f = record { rem = multiple_trans c d r.rem h f.rem; modulus = multiple_trans c d r.modulus h f.modulus }

-- ---- whether a machine holds another one

pub void_held : (w x : Bool) → w ≡ true → (w || x) ≡ false → ⊥
void_held true x e f = false≢true (sym f)
void_held false x e f = false≢true e

pub not_void_held : (w x : Bool) → w ≡ false → (w || x) ≡ false → x ≡ false
not_void_held false x e f = f
not_void_held true x e f = absurd (false≢true (sym e))

pub held_first : (w x : Bool) → w ≡ true → true ≡ (w || x)
held_first true x e = refl
held_first false x e = absurd (false≢true e)

pub held_second : (w v x : Bool) → w ≡ false → v ≡ true → false ≡ (w || (not v && x))
held_second false true x e f = refl
held_second false false x e f = absurd (false≢true f)
held_second true v x e f = absurd (false≢true (sym e))

pub held_third : (w v x : Bool) → w ≡ false → v ≡ false → x ≡ (w || (not v && x))
held_third false false x e f = refl
held_third false true x e f = absurd (false≢true (sym f))
held_third true v x e f = absurd (false≢true (sym e))
