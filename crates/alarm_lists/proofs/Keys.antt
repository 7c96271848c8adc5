-- Keys of alarms, compared place by place.
use Rattle.std.proofs.Common.{◌≡◌, ◌<◌, ⊎_elim, inl, inr, ℕ, List, [], ◌∷◌, ◌++◌, refl, sym, ap, subst, ◌∙◌, arith}
use Rattle.std.specs.Prelude.{slice_index_or}
use Rattle.std.specs.List.{flat_map}
use Rattle.std.specs.Ordering.{nat_cmp, ordering_then}
use Rattle.std.specs.Cmp.Lexicographic.{slice_cmp}
use Rattle.std.specs.declared.cmp.Ordering.{Ordering}
use Rattle.std.specs.declared.cmp.Ordering.TheVariants.{Less, Equal, Greater}
use Rattle.std.proofs.lemmas.Cmp.{by_ranked, ranked}
use Rattle.c_syntax_written.specs.declared.place.Pos.{Pos}
use Rattle.c_syntax.specs.declared.alarm.Alarm.{Alarm}
use Rattle.c_syntax.specs.declared.alarm.WrongKind.{WrongKind}
use Rattle.c_syntax.specs.declared.alarm.WrongKind.TheVariants as kinds
use Rattle.c_steps.specs.Order.{IsBefore, kind_number, order_key, place_key}
use Rattle.alarm_lists.specs.Lists.{AreAlike, order_of}

-- three numbers, and what is behind them
behind_three : (o p q r : Ordering) → ordering_then o (ordering_then p (ordering_then q r)) ≡ ordering_then (ordering_then o (ordering_then p (ordering_then q Equal))) r
behind_three Less p q r = refl
behind_three Greater p q r = refl
behind_three Equal Less q r = refl
behind_three Equal Greater q r = refl
behind_three Equal Equal Less r = refl
behind_three Equal Equal Greater r = refl
behind_three Equal Equal Equal r = refl

-- a place, and what is behind it
pub behind_place : (x y : Pos) (xs ys : List ℕ)
    → slice_cmp nat_cmp (place_key x ++ xs) (place_key y ++ ys) ≡ ordering_then (slice_cmp nat_cmp (place_key x) (place_key y)) (slice_cmp nat_cmp xs ys)
behind_place x y xs ys = behind_three (nat_cmp x.file y.file) (nat_cmp x.line y.line) (nat_cmp x.col y.col) (slice_cmp nat_cmp xs ys)

then_more : (o p r : Ordering) → ordering_then o (ordering_then p r) ≡ ordering_then (ordering_then o p) r
then_more Less p r = refl
then_more Equal p r = refl
then_more Greater p r = refl

-- a place, a number, and what is behind them
pub behind_kind : (x y : Pos) (k j : ℕ) (xs ys : List ℕ) (o : Ordering) → o ≡ ordering_then (slice_cmp nat_cmp (place_key x) (place_key y)) (nat_cmp k j)
    → ordering_then o (slice_cmp nat_cmp xs ys) ≡ slice_cmp nat_cmp (place_key x ++ (k ∷ xs)) (place_key y ++ (j ∷ ys))
behind_kind x y k j xs ys o h =
    rw (h, behind_place x y (k ∷ xs) (j ∷ ys), then_more (slice_cmp nat_cmp (place_key x) (place_key y)) (nat_cmp k j) (slice_cmp nat_cmp xs ys)) refl

-- ---- what the order of two lists of numbers says

module _ (x y : ℕ) (r : Ordering) {G : Type 0} where
  -- of two lists by their first numbers
  by_first : (o : Ordering) → ordering_then (nat_cmp x y) r ≡ o → (x < y → Less ≡ o → G) → (x ≡ y → r ≡ o → G) → (y < x → Greater ≡ o → G) → G
  by_first o h less same more =
      by_ranked (x < y) (x ≡ y) (y < x) (nat_cmp x y) (ranked x y (nat_cmp x y) refl)
      (λ e l. less l (subst (λ z. ordering_then z r ≡ o) e h))
      (λ e l. same l (subst (λ z. ordering_then z r ≡ o) e h))
      (λ e l. more l (subst (λ z. ordering_then z r ≡ o) e h))

pub before_of : (xs ys : List ℕ) → slice_cmp nat_cmp xs ys ≡ Less → IsBefore xs ys
before_of [] [] h = absurd (cc)
before_of [] (y ∷ ys) h = tt
before_of (x ∷ xs) [] h = absurd (cc)
before_of (x ∷ xs) (y ∷ ys) h =
    by_first x y (slice_cmp nat_cmp xs ys) Less h (λ l e. inl l) (λ l e. inr (l, before_of xs ys e)) (λ l e. absurd (cc))

pub same_numbers : (xs ys : List ℕ) → slice_cmp nat_cmp xs ys ≡ Equal → xs ≡ ys
same_numbers [] [] h = refl
same_numbers [] (y ∷ ys) h = absurd (cc)
same_numbers (x ∷ xs) [] h = absurd (cc)
same_numbers (x ∷ xs) (y ∷ ys) h =
    by_first x y (slice_cmp nat_cmp xs ys) Equal h (λ l e. absurd (cc)) (λ l e. let s = same_numbers xs ys e in cc) (λ l e. absurd (cc))

pub before_both : (xs ys zs : List ℕ) → IsBefore xs ys → IsBefore ys zs → IsBefore xs zs
before_both xs [] zs h k = absurd h
before_both xs (y ∷ ys) [] h k = absurd k
before_both [] (y ∷ ys) (z ∷ zs) h k = tt
before_both (x ∷ xs) (y ∷ ys) (z ∷ zs) h k =
    ⊎_elim
    (λ l. ⊎_elim (λ m. inl (omega (l, m, arith))) (λ m. let e : y ≡ z = m.0 in inl (omega (l, e, arith))) k)
    (λ l. let d : x ≡ y = l.0 in
    ⊎_elim (λ m. inl (omega (d, m, arith))) (λ m. let e : y ≡ z = m.0 in inr (omega (d, e, arith), before_both xs ys zs l.1 m.1)) k)
    h

-- ---- what a key says

place_same : (p q : Pos) → p.file ≡ q.file → p.line ≡ q.line → p.col ≡ q.col → p ≡ q
place_same p q e f g =
    let with : ℕ → ℕ → ℕ → Pos = λ a b c. record { file = a; line = b; col = c } in
    ap (λ z. with z p.line p.col) e ∙ ap (λ z. with q.file z p.col) f ∙ ap (λ z. with q.file q.line z) g

head_same : (x y : ℕ) (xs ys : List ℕ) → x ∷ xs ≡ y ∷ ys → (x ≡ y) × (xs ≡ ys)
head_same x y xs ys h = (cc, cc)

-- a place, and what is behind it
place_first : (p q : Pos) (xs ys : List ℕ) → place_key p ++ xs ≡ place_key q ++ ys → (p ≡ q) × (xs ≡ ys)
place_first p q xs ys h =
    let file = head_same p.file q.file (p.line ∷ p.col ∷ xs) (q.line ∷ q.col ∷ ys) h in
    let line = head_same p.line q.line (p.col ∷ xs) (q.col ∷ ys) file.1 in
    let col = head_same p.col q.col xs ys line.1 in
    (place_same p q file.0 line.0 col.0, col.1)

chain_same : (xs ys : List Pos) → flat_map place_key xs ≡ flat_map place_key ys → xs ≡ ys
chain_same [] [] h = refl
chain_same [] (y ∷ ys) h = absurd (cc)
chain_same (x ∷ xs) [] h = absurd (cc)
chain_same (x ∷ xs) (y ∷ ys) h =
    let f = place_first x y (flat_map place_key xs) (flat_map place_key ys) h in
    let r = chain_same xs ys f.1 in
    ap (λ z. z ∷ xs) f.0 ∙ ap (λ z. y ∷ z) r

-- the kind of a number
kind_of : ℕ → WrongKind
kind_of n = slice_index_or (kinds.AssertFailed ∷ kinds.Overflow ∷ kinds.DivideByZero ∷ kinds.Quotient ∷ kinds.ShiftAmount ∷ kinds.ShiftResult ∷ kinds.Indeterminate ∷ kinds.Fragment
    ∷ kinds.NullUse ∷ kinds.Dangling ∷ kinds.Bounds ∷ kinds.Access ∷ kinds.Alignment ∷ kinds.ReadOnly ∷ kinds.Unrelated ∷ kinds.NoValue ∷ []) n kinds.AssertFailed

kind_is : (k : WrongKind) → kind_of (kind_number k) ≡ k
unfolding kind_of
kind_is kinds.Overflow = refl
kind_is kinds.DivideByZero = refl
kind_is kinds.Quotient = refl
kind_is kinds.ShiftAmount = refl
kind_is kinds.ShiftResult = refl
kind_is kinds.Indeterminate = refl
kind_is kinds.Fragment = refl
kind_is kinds.NullUse = refl
kind_is kinds.Dangling = refl
kind_is kinds.Bounds = refl
kind_is kinds.Access = refl
kind_is kinds.Alignment = refl
kind_is kinds.ReadOnly = refl
kind_is kinds.Unrelated = refl
kind_is kinds.NoValue = refl
kind_is kinds.AssertFailed = refl

pub alike_of : (x y : Alarm) → order_of x y ≡ Equal → AreAlike x y
alike_of x y h =
    let place = place_first x.pos y.pos _ _ (same_numbers (order_key x) (order_key y) h) in
    let kind = head_same (kind_number x.kind) (kind_number y.kind) _ _ place.1 in
    (chain_same x.chain y.chain kind.1, place.0, sym (kind_is x.kind) ∙ ap kind_of kind.0 ∙ kind_is y.kind)

pub key_of : (x y : Alarm) → AreAlike x y → order_key x ≡ order_key y
key_of x y h =
    ap (λ z. place_key z ++ (kind_number x.kind ∷ flat_map place_key x.chain)) h.1
    ∙ ap (λ z. place_key y.pos ++ (kind_number z ∷ flat_map place_key x.chain)) h.2
    ∙ ap (λ z. place_key y.pos ++ (kind_number y.kind ∷ flat_map place_key z)) h.0
