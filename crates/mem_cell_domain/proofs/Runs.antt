-- Stretches of equal initial bytes.
use Rattle.std.proofs.Common.{ℕ, ◌≡◌, ◌+◌, ◌<◌, ◌≤◌, ◌++◌, List, [], ◌∷◌, slice_get, Some, refl, sym, ap, subst, ◌∙◌, arith, inl, inr}
use Rattle.std.proofs.lemmas.Bool.{cases_lt}
use Rattle.c_syntax.specs.declared.program.InitByte.{InitByte}
use Rattle.c_syntax.specs.declared.program.InitByte.TheVariants as inits
use Rattle.mem_cell_bytes.specs.declared.entry.FillByte.{FillByte}
use Rattle.mem_cell_bytes.specs.declared.entry.FillByte.TheVariants as fills
use Rattle.mem_cell_bytes.specs.declared.entry.Stretch.{Stretch}
use Rattle.mem_cell_bytes.specs.Stands.{IsInStretch}
use Rattle.mem_cell_grid.proofs.Cutting.{in-push, none-in}
use Rattle.mem_cell_domain.specs.Starts.{AreFrom, AreRunning, IsNumberAt}

pub run-pushed : (bytes : List InitByte) (old new : List Stretch) (run : Stretch) → new ≡ old ++ run ∷ [] → AreRunning bytes old run → AreFrom bytes new
run-pushed bytes old new run is r = λ i x h. elim (in-push old run i x (subst (λ xs. IsInStretch xs i x) is h)) [ inl was ↦ r.known i x was | inr here ↦ r.run i x here ]

number-there : (bytes : List InitByte) (at n i : ℕ) (x : FillByte) → slice_get bytes at ≡ Some (inits.Num n) → at ≤ i → i < at + 1 → fills.Num n ≡ x → IsNumberAt bytes i x
number-there bytes at n i x is low high same = let here : i ≡ at = omega (arith, low, high) in (n, ap (slice_get bytes) here ∙ is, sym same)

pub run-grown : (bytes : List InitByte) (stretches : List Stretch) (run : Stretch) (at n : ℕ) → run.to ≡ at → run.byte ≡ fills.Num n → slice_get bytes at ≡ Some (inits.Num n)
    → AreRunning bytes stretches run → AreRunning bytes stretches (record { from = run.from; to = at + 1; byte = fills.Num n })
run-grown bytes stretches run at n to byte is r = record {
  known = r.known;
  run = λ i x h. elim (cases_lt i at) [
    | inl low ↦ r.run i x (h.0, subst (λ k. i < k) (sym to) low, byte ∙ h.2)
    | inr high ↦ number-there bytes at n i x is high h.1 h.2
  ];
}

pub run-begun : (bytes : List InitByte) (stretches : List Stretch) (at n : ℕ) → slice_get bytes at ≡ Some (inits.Num n) → AreFrom bytes stretches
    → AreRunning bytes stretches (record { from = at; to = at + 1; byte = fills.Num n })
run-begun bytes stretches at n is from = record { known = from; run = λ i x h. number-there bytes at n i x is h.0 h.1 h.2 }

pub run-none : (bytes : List InitByte) (stretches : List Stretch) (at : ℕ) (y : FillByte) → AreFrom bytes stretches → AreRunning bytes stretches (record { from = at; to = at; byte = y })
run-none bytes stretches at y from = record { known = from; run = λ i x h. absurd (let low = h.0 in let high = h.1 in omega (arith, low, high)) }

pub run-first : (bytes : List InitByte) (stretches : List Stretch) → stretches ≡ [] → AreRunning bytes stretches (record { from = 0; to = 0; byte = fills.Undef })
run-first bytes stretches is = run-none bytes stretches 0 fills.Undef (λ i x h. none-in i x stretches is h)

-- where it has no byte it is as if it was not there
pub run-empty : (bytes : List InitByte) (stretches : List Stretch) (run : Stretch) → AreRunning bytes stretches run → AreFrom bytes stretches
run-empty bytes stretches run r = r.known
