-- The slots that entries stand for, and what comes into use or goes out of it.
use Rattle.std.proofs.Common.{◌≡◌, ◌≢◌, ℕ, zero, suc, ◌<◌, ◌≤◌, ◌==◌, ◌&&◌, nat_lt, Bool, true, false, List, [], ◌∷◌, length, None, Some, slice_get, refl, sym, ap, subst, ◌∙◌, arith, rules}
use Rattle.std.specs.List.{position_or_len, position}
use Rattle.std.specs.Map.{keys_of, values_of}
use Rattle.indexmap.specs.IndexMap.{insert_entry, set_value_at}
use Rattle.std.proofs.lemmas.Grind.{common_steps}
use Rattle.c_syntax.specs.declared.alarm.Cell.{Cell}
use Rattle.cell_table.specs.Cells.{Slot, same_cell, cell_at, used_at, number_of, in_use_with, in_use_without}
use Rattle.cell_table.specs.Kept.{cell_of, slots_of}

pub by_bool : {P : Type 0} (b : Bool) → (b ≡ true → P) → (b ≡ false → P) → P
by_bool true f g = f refl
by_bool false f g = g refl

-- two keys are the same
abbrev pub key_eq : ℕ × ℕ × ℕ → ℕ × ℕ × ℕ → Bool
key_eq k l = ((k.0 == l.0) && (k.1 == l.1)) && (k.2 == l.2)

pub length-slots_of : (es : List ((ℕ × ℕ × ℕ) × Bool)) → length (slots_of es) ≡ length es
length-slots_of [] = refl
length-slots_of (e ∷ es) = ap suc (length-slots_of es)

pub cell_at-slots_of : (es : List ((ℕ × ℕ × ℕ) × Bool)) (n : ℕ) (e : (ℕ × ℕ × ℕ) × Bool) → slice_get es n ≡ Some e → cell_at (slots_of es) n ≡ Some (cell_of e.0)
cell_at-slots_of [] n e h = cc
cell_at-slots_of (d ∷ es) zero e h = let same : d ≡ e = cc in ap (λ (x : (ℕ × ℕ × ℕ) × Bool). Some (cell_of x.0)) same
cell_at-slots_of (d ∷ es) (suc n) e h = cell_at-slots_of es n e h

pub used_at-slots_of : (es : List ((ℕ × ℕ × ℕ) × Bool)) (n : ℕ) (e : (ℕ × ℕ × ℕ) × Bool) → slice_get es n ≡ Some e → used_at (slots_of es) n ≡ Some e.1
used_at-slots_of [] n e h = cc
used_at-slots_of (d ∷ es) zero e h = let same : d ≡ e = cc in ap (λ (x : (ℕ × ℕ × ℕ) × Bool). Some x.1) same
used_at-slots_of (d ∷ es) (suc n) e h = used_at-slots_of es n e h

pub used_at-values : (es : List ((ℕ × ℕ × ℕ) × Bool)) (n : ℕ) → used_at (slots_of es) n ≡ slice_get (values_of es) n
used_at-values [] n = refl
used_at-values (e ∷ es) zero = refl
used_at-values (e ∷ es) (suc n) = used_at-values es n

pub slots_of-set : (es : List ((ℕ × ℕ × ℕ) × Bool)) (n : ℕ) → slots_of (set_value_at es n false) ≡ in_use_without (slots_of es) n
slots_of-set [] n = refl
slots_of-set (e ∷ es) zero = refl
slots_of-set (e ∷ es) (suc n) = ap (λ (ss : List Slot). record { cell = cell_of e.0; used = e.1 } ∷ ss) (slots_of-set es n)

pub slots_of-insert : (es : List ((ℕ × ℕ × ℕ) × Bool)) (key : ℕ × ℕ × ℕ) → slots_of (insert_entry key_eq es key true) ≡ in_use_with (slots_of es) (cell_of key)
slots_of-insert [] key = refl
slots_of-insert (e ∷ es) key =
    by_bool (key_eq key e.0) (λ q. rw q refl)
    (λ q. rw q (ap (λ (ss : List Slot). record { cell = cell_of e.0; used = e.1 } ∷ ss) (slots_of-insert es key)))

pub number_of-slots_of : (es : List ((ℕ × ℕ × ℕ) × Bool)) (key : ℕ × ℕ × ℕ) → number_of (slots_of es) (cell_of key) ≡ position_or_len (key_eq key) (keys_of es)
number_of-slots_of [] key = refl
number_of-slots_of (e ∷ es) key =
    by_bool (key_eq key e.0) (λ q. rw q refl)
    (λ q. rw q (omega (arith, number_of-slots_of es key)))

pub number-within : (ss : List Slot) (c : Cell) → number_of ss c ≤ length ss
number-within [] c = omega arith
number-within (s ∷ ss) c = by_bool (same_cell c s.cell) (λ q. rw q (omega arith)) (λ q. rw q (omega (arith, number-within ss c)))

-- the number of a cell is its index, or else the count
pub number-found : (es : List ((ℕ × ℕ × ℕ) × Bool)) (key : ℕ × ℕ × ℕ) (i : ℕ) → position (key_eq key) (keys_of es) ≡ Some i → number_of (slots_of es) (cell_of key) ≡ i
number-found es key i h =
    let n = position_or_len (key_eq key) (keys_of es) in
    let same = number_of-slots_of es key in
    by_bool (nat_lt n (length (keys_of es))) (λ q. let e : Some n ≡ Some i = rw q at h in same ∙ cc) (λ q. let e : None ≡ Some i = rw q at h in cc)

length-keys_of : (es : List ((ℕ × ℕ × ℕ) × Bool)) → length (keys_of es) ≡ length es
length-keys_of [] = refl
length-keys_of (e ∷ es) = ap suc (length-keys_of es)

pub number-new : (es : List ((ℕ × ℕ × ℕ) × Bool)) (key : ℕ × ℕ × ℕ) → position (key_eq key) (keys_of es) ≡ None → number_of (slots_of es) (cell_of key) ≡ length es
number-new es key h =
    let n = position_or_len (key_eq key) (keys_of es) in
    let same = number_of-slots_of es key in
    by_bool (nat_lt n (length (keys_of es))) (λ q. let e : Some n ≡ None = rw q at h in cc)
    (λ q. let past : length (keys_of es) ≤ n = search rules in
    omega (arith, same, past, number-within (slots_of es) (cell_of key), length-slots_of es, length-keys_of es))

pub same_cell-true : (c d : Cell) → same_cell c d ≡ true → d ≡ c
same_cell-true c d h = grind (arith, common_steps)

pub same_cell-self : (c : Cell) → same_cell c c ≡ true
same_cell-self c = grind (arith, common_steps)

pub cell-with : (ss : List Slot) (c : Cell) → cell_at (in_use_with ss c) (number_of ss c) ≡ Some c
cell-with [] c = refl
cell-with (s ∷ ss) c =
    by_bool (same_cell c s.cell) (λ q. rw q (ap (λ (d : Cell). Some d) (same_cell-true c s.cell q)))
    (λ q. rw q (cell-with ss c))

pub used-with : (ss : List Slot) (c : Cell) → used_at (in_use_with ss c) (number_of ss c) ≡ Some true
used-with [] c = refl
used-with (s ∷ ss) c = by_bool (same_cell c s.cell) (λ q. rw q refl) (λ q. rw q (used-with ss c))

pub cell-with_other : (ss : List Slot) (c : Cell) (n : ℕ) → n ≢ number_of ss c → cell_at (in_use_with ss c) n ≡ cell_at ss n
cell-with_other [] c zero h = absurd (h refl)
cell-with_other [] c (suc n) h = refl
cell-with_other (s ∷ ss) c zero h = by_bool (same_cell c s.cell) (λ q. rw q refl) (λ q. rw q refl)
cell-with_other (s ∷ ss) c (suc n) h =
    by_bool (same_cell c s.cell) (λ q. rw q refl)
    (λ q. rw q (cell-with_other ss c n (λ e. h (rw q (ap suc e)))))

pub used-with_other : (ss : List Slot) (c : Cell) (n : ℕ) → n ≢ number_of ss c → used_at (in_use_with ss c) n ≡ used_at ss n
used-with_other [] c zero h = absurd (h refl)
used-with_other [] c (suc n) h = refl
used-with_other (s ∷ ss) c zero h = by_bool (same_cell c s.cell) (λ q. absurd (h (rw q refl))) (λ q. rw q refl)
used-with_other (s ∷ ss) c (suc n) h =
    by_bool (same_cell c s.cell) (λ q. rw q refl)
    (λ q. rw q (used-with_other ss c n (λ e. h (rw q (ap suc e)))))

-- a cell that is there is there at its number
pub cell-number : (ss : List Slot) (c : Cell) (n : ℕ) → cell_at ss n ≡ Some c → cell_at ss (number_of ss c) ≡ Some c
cell-number [] c n h = cc
cell-number (s ∷ ss) c zero h =
    let same : s.cell ≡ c = cc in
    let q : same_cell c s.cell ≡ true = subst (λ (d : Cell). same_cell c d ≡ true) (sym same) (same_cell-self c) in
    rw q h
cell-number (s ∷ ss) c (suc n) h =
    by_bool (same_cell c s.cell) (λ q. rw q (ap (λ (d : Cell). Some d) (same_cell-true c s.cell q)))
    (λ q. rw q (cell-number ss c n h))

-- no other cell is at its number
pub cell-number_only : (ss : List Slot) (c d : Cell) → cell_at ss (number_of ss c) ≡ Some d → d ≡ c
cell-number_only [] c d h = cc
cell-number_only (s ∷ ss) c d h =
    by_bool (same_cell c s.cell)
    (λ q. let e : Some s.cell ≡ Some d = rw q at h in let f : s.cell ≡ d = cc in sym f ∙ same_cell-true c s.cell q)
    (λ q. cell-number_only ss c d (rw q at h))

pub cell-without : (ss : List Slot) (n m : ℕ) → cell_at (in_use_without ss n) m ≡ cell_at ss m
cell-without [] n m = refl
cell-without (s ∷ ss) zero zero = refl
cell-without (s ∷ ss) zero (suc m) = refl
cell-without (s ∷ ss) (suc n) zero = refl
cell-without (s ∷ ss) (suc n) (suc m) = cell-without ss n m

pub used-without_other : (ss : List Slot) (n m : ℕ) → m ≢ n → used_at (in_use_without ss n) m ≡ used_at ss m
used-without_other [] n m h = refl
used-without_other (s ∷ ss) zero zero h = absurd (h refl)
used-without_other (s ∷ ss) zero (suc m) h = refl
used-without_other (s ∷ ss) (suc n) zero h = refl
used-without_other (s ∷ ss) (suc n) (suc m) h = used-without_other ss n m (λ e. h (ap suc e))

pub used-without : (ss : List Slot) (n : ℕ) → used_at (in_use_without ss n) n ≡ Some true → ⊥
used-without [] n h = cc
used-without (s ∷ ss) zero h = cc
used-without (s ∷ ss) (suc n) h = used-without ss n h

pub used-within : (ss : List Slot) (n : ℕ) (b : Bool) → used_at ss n ≡ Some b → n < length ss
used-within [] n b h = cc
used-within (s ∷ ss) zero b h = omega arith
used-within (s ∷ ss) (suc n) b h = omega (arith, used-within ss n b h)

pub cell-within : (ss : List Slot) (n : ℕ) (c : Cell) → cell_at ss n ≡ Some c → n < length ss
cell-within [] n c h = cc
cell-within (s ∷ ss) zero c h = omega arith
cell-within (s ∷ ss) (suc n) c h = omega (arith, cell-within ss n c h)

-- two numbers are one or two
pub by_nat : {P : Type 0} (a b : ℕ) → (a ≡ b → P) → (a ≢ b → P) → P
by_nat zero zero f g = f refl
by_nat zero (suc b) f g = g (λ e. omega arith)
by_nat (suc a) zero f g = g (λ e. omega arith)
by_nat (suc a) (suc b) f g = by_nat a b (λ e. f (ap suc e)) (λ h. g (λ e. h (omega arith)))
