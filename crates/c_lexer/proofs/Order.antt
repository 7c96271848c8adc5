-- The tokens of a text stand in order.
use Rattle.std.proofs.Common.{◌≡◌, ℕ, zero, suc, ◌<◌, ◌≤◌, ◌⊎◌, inr, List, [], ◌∷◌, length, get_or, refl, arith}
use Rattle.std.proofs.lemmas.Bool.Decides.{nat_tests}
use Rattle.c_syntax_written.specs.declared.place.Pos.{Pos}
use Rattle.c_syntax_written.specs.declared.token.Placed.{Placed}
use Rattle.c_lexer.specs.Cut.{step, moved_of, Front, here, white, token, IsBefore, StandInOrder}
use Rattle.c_lexer.proofs.Forms.{form_long}

-- one place is another, or before it
abbrev IsNotAfter : Pos → Pos → Type 0
IsNotAfter p q = (p.line < q.line) ⊎ ((p.line ≡ q.line) × (p.col ≤ q.col))

same_not_after : (p : Pos) → IsNotAfter p p
same_not_after p = inr (refl, omega arith)

not_after_then : (p q r : Pos) → IsNotAfter p q → IsNotAfter q r → IsNotAfter p r
not_after_then p q r h i = grind arith

before_then : (p q r : Pos) → IsBefore p q → IsNotAfter q r → IsBefore p r
before_then p q r h i = grind arith

step_before : (p : Pos) (b : ℕ) → IsBefore p (step p b)
step_before p b = grind (arith, nat_tests)

before_not_after : (p q : Pos) → IsBefore p q → IsNotAfter p q
before_not_after p q h = grind arith

moved_on : (p : Pos) (s : List ℕ) → IsNotAfter p (moved_of p s)
unfolding moved_of
moved_on p [] = same_not_after p
moved_on p (b ∷ s) = not_after_then p (step p b) (moved_of (step p b) s) (before_not_after p (step p b) (step_before p b)) (moved_on (step p b) s)

moved_past : (p : Pos) (s : List ℕ) → 0 < length s → IsBefore p (moved_of p s)
unfolding moved_of
moved_past p [] h = absurd (omega arith)
moved_past p (b ∷ s) h = before_then p (step p b) (moved_of (step p b) s) (step_before p b) (moved_on (step p b) s)

-- no token of a front is before its place
from_place : {text last : List ℕ} {at to : Pos} {ts : List Placed} → Front text at ts last to → (j : ℕ) (d : Placed) → j < length ts → IsNotAfter at (get_or ts j d).pos
from_place here j d h = absurd (omega arith)
from_place {at = at} {ts = ts} (white s rest e w f) j d h = not_after_then at (moved_of at s) (get_or ts j d).pos (moved_on at s) (from_place f j d h)
from_place {at = at} (token s rest e n f) zero d h = same_not_after at
from_place {at = at} (token {ts = us} s rest e n f) (suc j) d h = not_after_then at (moved_of at s) (get_or us j d).pos (moved_on at s) (from_place f j d (omega arith))

pub in_order : {text last : List ℕ} {at to : Pos} {ts : List Placed} → Front text at ts last to → StandInOrder ts
in_order here i j d h k = absurd (omega arith)
in_order (white s rest e w f) i j d h k = in_order f i j d h k
in_order (token s rest e n f) i zero d h k = absurd (omega arith)
in_order {at = at} (token {ts = us} {t = t} s rest e n f) zero (suc j) d h k = before_then at (moved_of at s) (get_or us j d).pos (moved_past at s (form_long s n.is_longest.form)) (from_place f j d (omega arith))
in_order (token s rest e n f) (suc i) (suc j) d h k = in_order f i j d (omega arith) (omega arith)
