-- What a run has left falls at each part of a statement and at each call.
use Rattle.std.proofs.Common.{◌≡◌, ℕ, zero, suc, ◌+◌, ◌*◌, ◌<◌, ◌≤◌, List, [], ◌∷◌, Some, ap, arith}
use Rattle.std.specs.Prelude.{slice_get}
use Rattle.std.proofs.Math.Nat.{mul-le-mul_right}
use Rattle.csharp.specs.Trees.{CsFunctionTree, CsProgramTree}
use Rattle.csharp.specs.Sizes.{csstmt_size}

-- the sizes of all bodies
pub total : List CsFunctionTree → ℕ
total [] = 0
total (f ∷ fs) = csstmt_size f.body + total fs

body_within : (fs : List CsFunctionTree) (i : ℕ) (f : CsFunctionTree) → slice_get fs i ≡ Some f → csstmt_size f.body ≤ total fs
unfolding total
body_within [] i f e = absurd (cc)
body_within (g ∷ fs) zero f e = let same : g ≡ f = cc in let sizes = ap (λ (h : CsFunctionTree). csstmt_size h.body) same in omega (arith, sizes)
body_within (g ∷ fs) (suc i) f e = let rest = body_within fs i f e in omega (arith, rest)

-- what units of fuel are worth
pub worth : CsProgramTree → ℕ → ℕ
worth q fuel = fuel * (8 * total q.functions + 8)

pub worth_le : (q : CsProgramTree) (n m : ℕ) → n ≤ m → worth q n ≤ worth q m
unfolding worth
worth_le q n m h = mul-le-mul_right (8 * total q.functions + 8) h

pub call_falls : (q : CsProgramTree) (n i : ℕ) (f : CsFunctionTree) → slice_get q.functions i ≡ Some f
    → worth q n + 8 * csstmt_size f.body + 1 < worth q (suc n) + 2
unfolding worth
call_falls q n i f e = let within = body_within q.functions i f e in omega (arith, within)
