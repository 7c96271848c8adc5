-- Closing bounds by pivots, and by halves.
use Rattle.std.specs.Prelude.{ℕ, ℤ, pos, ◌+ℤ◌, ◌≤ℤ◌}
use Rattle.std.proofs.Common.{arith}
use Rattle.std.proofs.lemmas.Int.{ints}
use Rattle.bound_matrix.specs.Rel.{Through, Within, NotBelowZero}
use Rattle.bound_matrix.proofs.Ways.{Up, Added, old, via}

module _ (L : ℕ → ℕ → ℤ → Type 0) (u : Up L) where
  -- a pivot that composed still does
  joined-still : (a b : ℕ) (c : ℤ) → ((x : ℤ) → L b a x → pos 0 ≤ℤ (c +ℤ x)) → (p : ℕ) → Through L p → (i j : ℕ) (x y : ℤ) → Added L a b c i p x → Added L a b c p j y → Added L a b c i j (x +ℤ y)
  joined-still a b c n p t i j x y (old l) (old m) = old (t.joined i j x y l m)
  joined-still a b c n p t i j x y (old l) (via q r m s h) = via (x +ℤ q) r (t.joined i a x q l m) s (omega (arith, ints))
  joined-still a b c n p t i j x y (via q r l m h) (old s) = via q (r +ℤ y) l (t.joined b j r y m s) (omega (arith, ints))
  joined-still a b c n p t i j x y (via q r l m h) (via v w s o g) = let k = n (r +ℤ v) (t.joined b a r v m s) in via q w l o (omega (arith, ints))

  -- the new pivot composes
  joined-now : (k : ℕ) → ((x : ℤ) → L k k x → pos 0 ≤ℤ x) → (i j : ℕ) (x y : ℤ) → Added L k k (pos 0) i k x → Added L k k (pos 0) k j y → Added L k k (pos 0) i j (x +ℤ y)
  joined-now k n i j x y (old l) (old m) = via x y l m (omega (arith, ints))
  joined-now k n i j x y (old l) (via q r m s h) = let e = n q m in via x r l s (omega (arith, ints))
  joined-now k n i j x y (via q r l m h) (old s) = let e = n r m in via q y l s (omega (arith, ints))
  joined-now k n i j x y (via q r l m h) (via v w s o g) = let e = n r m in let f = n v s in via q w l o (omega (arith, ints))

pub Added-through : {L : ℕ → ℕ → ℤ → Type 0} {a b p : ℕ} {c : ℤ} → Up L → ((x : ℤ) → L b a x → pos 0 ≤ℤ (c +ℤ x)) → Through L p → Through (Added L a b c) p
Added-through {L} {a} {b} {p} {c} u n t = record { joined = joined-still L u a b c n p t }

pub Added-through_new : {L : ℕ → ℕ → ℤ → Type 0} {k : ℕ} → Up L → NotBelowZero L → Through (Added L k k (pos 0)) k
Added-through_new {L} {k} u n = record { joined = joined-now L u k (n.zero_up k) }

-- what is closed and within holds what is added
added-within : (L C : ℕ → ℕ → ℤ → Type 0) (a b : ℕ) (c : ℤ) → Within L C → Up C → Through C a → Through C b → C a b c → (i j : ℕ) (x : ℤ) → Added L a b c i j x → C i j x
added-within L C a b c w u t s k i j x (old l) = w.into i j x l
added-within L C a b c w u t s k i j x (via y z l m h) = u.up i j ((y +ℤ c) +ℤ z) x (s.joined i j (y +ℤ c) z (t.joined i b y c (w.into i a y l) k) (w.into b j z m)) h

pub Added-within : {L C : ℕ → ℕ → ℤ → Type 0} {a b : ℕ} {c : ℤ} → Within L C → Up C → Through C a → Through C b → C a b c → Within (Added L a b c) C
Added-within {L} {C} {a} {b} {c} w u t s k = record { into = added-within L C a b c w u t s k }
