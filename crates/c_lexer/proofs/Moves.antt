-- Places after bytes.
use Rattle.std.proofs.Common.{◌≡◌, ℕ, zero, suc, ◌+◌, ◌<◌, ◌≤◌, List, [], ◌∷◌, length, get_or, drop, refl, sym, ap, ◌∙◌, arith, add-one, drop-cons}
use Rattle.c_syntax_written.specs.declared.place.Pos.{Pos}
use Rattle.c_lexer.specs.Cut.{moved_of, step}

drop_all : (s : List ℕ) (i : ℕ) → length s ≤ i → drop i s ≡ []
drop_all [] zero h = refl
drop_all [] (suc i) h = refl
drop_all (x ∷ s) zero h = absurd (omega arith)
drop_all (x ∷ s) (suc i) h = drop_all s i (omega arith)

pub moved_drop : (at : Pos) (s : List ℕ) (i : ℕ) → i < length s → moved_of (step at (get_or s i 0)) (drop (i + 1) s) ≡ moved_of at (drop i s)
unfolding moved_of
moved_drop at s i h = ap (λ n. moved_of (step at (get_or s i 0)) (drop n s)) (add-one i) ∙ sym (ap (moved_of at) (drop-cons s i 0 h))

pub moved_end : (at : Pos) (s : List ℕ) (i : ℕ) → length s ≤ i → moved_of at (drop i s) ≡ at
unfolding moved_of
moved_end at s i h = ap (moved_of at) (drop_all s i h)
