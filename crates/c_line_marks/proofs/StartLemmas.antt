-- Marks as they are kept: where one is found, and what one more makes of them.
use Rattle.std.proofs.Common.{◌≡◌, ℕ, zero, suc, ◌+◌, ◌<◌, ◌≤◌, nat_le, Bool, true, false, List, [], ◌∷◌, length, map, get_or, Option, Some, None, refl, ap, ◌∙◌, arith, if◌then◌else◌}
use Rattle.std.specs.Prelude.{All, option_map}
use Rattle.std.specs.Option.{option_or}
use Rattle.c_line_marks.specs.Presumed.{mark_at, last_name}
use Rattle.c_line_marks.specs.Starts.{name_in, mark_of, last_names_from, start_at}
use Rattle.c_line_marks.specs.declared.marks.Start.{Start}

abbrev found : Option Start → Start → Bool → Option Start
found behind s b = option_or behind (if b then Some s else None)

none_at : (starts : List Start) (line : ℕ) → ((k : ℕ) (d : Start) → k < length starts → nat_le (get_or starts k d).line line ≡ false) → start_at starts line ≡ None
unfolding start_at
none_at [] line h = refl
none_at (s ∷ ss) line h =
    ap (λ x. found x s (nat_le s.line line)) (none_at ss line (λ k d l. h (suc k) d (omega arith))) ∙ ap (λ b. found None s b) (h 0 s (omega arith))

some_at :
    (starts : List Start) (line i : ℕ) (d : Start) → i < length starts → ((k : ℕ) (e : Start) → k ≤ i → nat_le (get_or starts k e).line line ≡ true)
    → ((k : ℕ) (e : Start) → i < k → k < length starts → nat_le (get_or starts k e).line line ≡ false) → start_at starts line ≡ Some (get_or starts i d)
unfolding start_at
some_at [] line i d l t f = absurd (omega arith)
some_at (s ∷ ss) line zero d l t f =
    ap (λ x. found x s (nat_le s.line line)) (none_at ss line (λ k e m. f (suc k) e (omega arith) (omega arith))) ∙ ap (λ b. found None s b) (t 0 s (omega arith))
some_at (s ∷ ss) line (suc i) d l t f =
    ap (λ x. found x s (nat_le s.line line))
    (some_at ss line i d (omega arith) (λ k e m. t (suc k) e (omega arith)) (λ k e m n. f (suc k) e (omega arith) (omega arith)))

-- where the marks up to a line are so many
pub none_before : (starts : List Start) (line i : ℕ) → i ≡ 0 → ((k : ℕ) (d : Start) → i ≤ k → k < length starts → nat_le (get_or starts k d).line line ≡ false) → start_at starts line ≡ None
none_before starts line i e f = none_at starts line (λ k d l. f k d (omega arith) l)

pub last_before :
    (starts : List Start) (line i j : ℕ) (d : Start) → i ≡ j + 1 → i ≤ length starts → ((k : ℕ) (e : Start) → 0 ≤ k → k < i → nat_le (get_or starts k e).line line ≡ true)
    → ((k : ℕ) (e : Start) → i ≤ k → k < length starts → nat_le (get_or starts k e).line line ≡ false) → start_at starts line ≡ Some (get_or starts j d)
last_before starts line i j d e l t f = some_at starts line j d (omega arith) (λ k x m. t k x (omega arith) (omega arith)) (λ k x m n. f k x (omega arith) n)

both : (names : List (List ℕ)) (o : Option Start) (s : Start) (b : Bool) → option_or (option_map (mark_of names) o) (if b then Some (mark_of names s) else None) ≡ option_map (mark_of names) (found o s b)
both names None s true = refl
both names None s false = refl
both names (Some x) s b = refl

pub mark_found : (names : List (List ℕ)) (starts : List Start) (line : ℕ) → mark_at (map (mark_of names) starts) line ≡ option_map (mark_of names) (start_at starts line)
unfolding mark_at start_at
mark_found names [] line = refl
mark_found names (s ∷ ss) line =
    ap (λ x. option_or x (if nat_le s.line line then Some (mark_of names s) else None)) (mark_found names ss line) ∙ both names (start_at ss line) s (nat_le s.line line)

-- names behind those that are there change no mark
pub marks_kept :
    (names more : List (List ℕ)) (starts : List Start) → ((n : ℕ) → n ≤ length names → name_in more n ≡ name_in names n) → All (λ start. start.names ≤ length names) starts
    → map (mark_of more) starts ≡ map (mark_of names) starts
marks_kept names more [] k h = refl
marks_kept names more (s ∷ ss) k h =
    ap (λ x. record { line = s.line; presumed = s.presumed; name = x } ∷ map (mark_of more) ss) (k s.names (h 0 s (omega arith)))
    ∙ ap (λ z. mark_of names s ∷ z) (marks_kept names more ss k (λ j d l. h (suc j) d (omega arith)))

pub last_name_is : (names : List (List ℕ)) (n : ℕ) (starts : List Start) → last_name (name_in names n) (map (mark_of names) starts) ≡ name_in names (last_names_from n starts)
unfolding last_name
last_name_is names n [] = refl
last_name_is names n (s ∷ ss) = last_name_is names s.names ss

pub last_within : (starts : List Start) (n most : ℕ) → n ≤ most → All (λ start. start.names ≤ most) starts → last_names_from n starts ≤ most
last_within [] n most l h = l
last_within (s ∷ ss) n most l h = last_within ss s.names most (h 0 s (omega arith)) (λ k d m. h (suc k) d (omega arith))

pub last_get : (starts : List Start) (n k : ℕ) (d : Start) → k + 1 ≡ length starts → last_names_from n starts ≡ (get_or starts k d).names
last_get [] n k d e = absurd (omega arith)
last_get (s ∷ []) n zero d e = refl
last_get (s ∷ []) n (suc k) d e = absurd (omega arith)
last_get (s ∷ (t ∷ ss)) n zero d e = absurd (omega arith)
last_get (s ∷ (t ∷ ss)) n (suc k) d e = last_get (t ∷ ss) s.names k d (omega arith)

pub lines_before : (names : List (List ℕ)) (starts : List Start) (line : ℕ) → All (λ m. m.line ≤ line) (map (mark_of names) starts) → All (λ start. start.line ≤ line) starts
lines_before names [] line h k d l = absurd (omega arith)
lines_before names (s ∷ ss) line h zero d l = h 0 (mark_of names s) (omega arith)
lines_before names (s ∷ ss) line h (suc k) d l = lines_before names ss line (λ j e m. h (suc j) e (omega arith)) k d (omega arith)
