use Rattle.std.proofs.Common.{rules, arith, suc, ◌≡◌, ◌<◌, ◌++◌, ◌+◌, List, ℕ, length, take, append-nil, length-append, ap, sym, ◌∙◌, zero}
use Rattle.outside_io.specs.Io.{IsFront}
use Rattle.outside_io.proofs.reading.read_all.Goals as goal

-- no bytes more
none_more : (xs ys : List ℕ) (k : ℕ) → k ≡ 0 → xs ++ take k ys ≡ xs
none_more xs ys zero e = append-nil xs
none_more xs ys (suc k) e = cc

-- a front is no longer than the whole
front_length : (front all : List ℕ) (n : ℕ) → IsFront front all → n < length front → n < length all
front_length front all n (rest, e) h = let l : length all ≡ length front + length rest = ap length e ∙ length-append front rest in omega arith

pub returns-then-count-eq0-clause-ok : goal.returns-then-count-eq0-clause-ok
returns-then-count-eq0-clause-ok g c = λ b h.
    let zero_read : c.in-Ok-read.count ≡ 0 = search rules in
    let given = c.in-Ok-read.ensures.given _ (c.loop-turn.invariant.given b h) in
    let all = c.in-Ok-read.ensures.end zero_read (search rules) _ b _ c.loop-turn.invariant.«open» (c.loop-turn.invariant.told _ ∙ h) given in
    c.from_vec.ensures ∙ (sym (none_more _ _ _ zero_read) ∙ all)

-- more than n bytes, where as many were counted
counted : (n k : ℕ) (xs ys : List ℕ) → n < k → k ≡ length xs → xs ≡ ys → n < length ys
counted n k xs ys h e s = let l : length xs ≡ length ys = ap length s in omega arith

pub returns-then-total-gt-MAX_BYTES-clause-too_large : goal.returns-then-total-gt-MAX_BYTES-clause-too_large
returns-then-total-gt-MAX_BYTES-clause-too_large g c = λ _ b h.
    let given = c.in-Ok-read.ensures.given _ (c.loop-turn.invariant.given b h) in
    let front = c.in-Ok-read.ensures.front _ b _ c.loop-turn.invariant.«open» (c.loop-turn.invariant.told _ ∙ h) given in
    front_length _ _ _ front (counted _ _ _ _ c.if-total-gt-MAX_BYTES.true c.in_ok-total.ensures.len c.in_ok-total.ensures.items)
