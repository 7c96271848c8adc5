-- Readings of one place, and of several.
use Rattle.std.proofs.Common.{ℕ, ℤ, ◌≡◌, ◌+◌, ◌*◌, ◌<◌, ◌⊎◌, ◌||◌, Bool, true, false, List, [], ◌∷◌, ◌++◌, Option, Some, None, sym, ap, subst, ◌∙◌, arith, inl, inr}
use Rattle.std.specs.Prelude.{IfSome}
use Rattle.std.proofs.lemmas.Bool.{cases_lt}
use Rattle.c_syntax.specs.Admission.{IsMarkIn}
use Rattle.c_syntax.specs.Operand.{LoadMark, HasValue, Broken}
use Rattle.c_syntax.specs.Operand as operand
use Rattle.num_api.specs.declared.message.Range.{Range}
use Rattle.num_api.specs.Ranges.{InRange}
use Rattle.pointsets.specs.Targets.{BaseSet, has_base, joined}
use Rattle.pointsets.proofs.Bases.{joined-left, joined-right}
use Rattle.block_mem.specs.declared.types.Scalar.{Scalar}
use Rattle.block_mem.specs.Bytes.{mark_of}
use Rattle.mem_cell_bytes.specs.Cells.{number_of}
use Rattle.mem_cell_bytes.proofs.Steps.{has-push}
use Rattle.mem_cell_bytes.proofs.Wider.{points-wider}
use Rattle.mem_cell_exprs.specs.declared.known.Known.{Known}
use Rattle.mem_cell_loads.specs.declared.reading.Marks.{Marks}
use Rattle.mem_cell_loads.specs.declared.reading.Reading.{Reading}
use Rattle.mem_cell_loads.specs.Found.{AllowsAll, AreEither, AreMarksAt, IsRangeAt, IsReadingAt, IsSetAt}
use Rattle.mem_cell_loads.specs.Places.{IsReadAlong, IsReadIn}

pub if-some : {X : Type 0} (P : X → Type 0) (o : Option X) (x : X) → o ≡ Some x → IfSome o P → P x
if-some P None x e h = cc
if-some P (Some y) x e h = let same : y ≡ x = cc in subst P same h

pub read-at : {D : Type 0} (admits : D → List ℤ → Type 0) (k : Known D) (o at : ℕ) (ty : Scalar) (range : Range) (set : Option BaseSet) (marks : Marks)
    → IsRangeAt admits k o at ty range → IfSome set (IsSetAt admits k o at ty) → AreMarksAt admits k o at ty marks
    → IsReadingAt admits k o at ty (record { range = range; set = set; marks = marks })
read-at admits k o at ty range set marks in_range points has objects s st b here = record {
  mark = has objects s st b here;
  number = λ u given. in_range objects s st b u here given;
  points = λ u t is given. if-some (IsSetAt admits k o at ty) set t is points objects s st b u here given;
}

-- ---- two readings

or-left : (a b c : Bool) → c ≡ (a || b) → a ≡ true → c ≡ true
or-left a b c e h = e ∙ ap (λ (x : Bool). x || b) h

or-right : (a b c : Bool) → c ≡ (a || b) → b ≡ true → c ≡ true
or-right true b c e h = e
or-right false b c e h = e ∙ h

mark-more : (k l : Marks) (mark : LoadMark) → (k.undef ≡ true → l.undef ≡ true) → (k.value ≡ true → l.value ≡ true) → (k.broken ≡ true → l.broken ≡ true)
    → IsMarkIn k.undef k.value k.broken mark → IsMarkIn l.undef l.value l.broken mark
mark-more k l operand.Undef undef value broken h = undef h
mark-more k l HasValue undef value broken h = value h
mark-more k l Broken undef value broken h = broken h

abbrev Joins : Option BaseSet → Option BaseSet → Option BaseSet → Type 0
Joins a b c = IfSome c (λ s. (x : BaseSet) × (y : BaseSet) × (a ≡ Some x) × (b ≡ Some y) × (s ≡ joined x y))

pub allows-first : (a b c : Reading) → ((n : ℤ) → InRange a.range n → InRange c.range n) → Joins a.set b.set c.set → AreEither a.marks b.marks c.marks → AllowsAll a c
allows-first a b c range set marks m ty bs h = record {
  mark = mark-more a.marks c.marks (mark_of ty bs) (or-left a.marks.undef b.marks.undef c.marks.undef marks.undef) (or-left a.marks.value b.marks.value c.marks.value marks.value)
      (or-left a.marks.broken b.marks.broken c.marks.broken marks.broken) h.mark;
  number = λ u given. range (number_of u) (h.number u given);
  points = λ u t is given. let j = if-some (λ s. (x : BaseSet) × (y : BaseSet) × (a.set ≡ Some x) × (b.set ≡ Some y) × (s ≡ joined x y)) c.set t is set in
      points-wider m j.0 t u (λ base has. subst (λ (z : BaseSet). has_base z base ≡ true) (sym j.4) (joined-left j.0 j.1 base has)) (h.points u j.0 j.2 given);
}

pub allows-second : (a b c : Reading) → ((n : ℤ) → InRange b.range n → InRange c.range n) → Joins a.set b.set c.set → AreEither a.marks b.marks c.marks → AllowsAll b c
allows-second a b c range set marks m ty bs h = record {
  mark = mark-more b.marks c.marks (mark_of ty bs) (or-right a.marks.undef b.marks.undef c.marks.undef marks.undef) (or-right a.marks.value b.marks.value c.marks.value marks.value)
      (or-right a.marks.broken b.marks.broken c.marks.broken marks.broken) h.mark;
  number = λ u given. range (number_of u) (h.number u given);
  points = λ u t is given. let j = if-some (λ s. (x : BaseSet) × (y : BaseSet) × (a.set ≡ Some x) × (b.set ≡ Some y) × (s ≡ joined x y)) c.set t is set in
      points-wider m j.1 t u (λ base has. subst (λ (z : BaseSet). has_base z base ≡ true) (sym j.4) (joined-right j.0 j.1 base has)) (h.points u j.1 j.3 given);
}

-- ---- several places

last-or-below : (j i : ℕ) → j < i + 1 → (j < i) ⊎ (j ≡ i)
last-or-below j i h = elim (cases_lt j i) [ inl below ↦ inl below | inr not ↦ inr (omega (arith, h, not)) ]

module _ {D : Type 0} (admits : D → List ℤ → Type 0) (k : Known D) where
  pub read-more : (o at : ℕ) (ty : Scalar) (r all : Reading) → AllowsAll r all → IsReadingAt admits k o at ty r → IsReadingAt admits k o at ty all
  read-more o at ty r all more h objects s st b here = more s.memory ty _ (h objects s st b here)

  -- one place more
  pub along-more : (o first i step at : ℕ) (ty : Scalar) (r next all : Reading) → at ≡ i * step → AllowsAll r all → AllowsAll next all
      → IsReadAlong admits k o first i step ty r → IsReadingAt admits k o at ty next → IsReadAlong admits k o first (i + 1) step ty all
  along-more o first i step at ty r next all place old new rs h j low high = by (last-or-below j i high)
    where
      by : (j < i) ⊎ (j ≡ i) → IsReadingAt admits k o (j * step) ty all
      by (inl below) = read-more o (j * step) ty r all old (rs j low below)
      by (inr same) = subst (λ n. IsReadingAt admits k o n ty all) (place ∙ ap (λ n. n * step) (sym same)) (read-more o at ty next all new h)

  -- one object more
  pub objects-more : (os : List ℕ) (o first end step : ℕ) (ty : Scalar) (r next all : Reading) → AllowsAll r all → AllowsAll next all
      → IsReadIn admits k os first end step ty r → IsReadAlong admits k o first end step ty next → IsReadIn admits k (os ++ o ∷ []) first end step ty all
  objects-more os o first end step ty r next all old new rs h x has i low high = has-push os o x has
      (λ was. read-more x (i * step) ty r all old (rs x was i low high))
      (λ is. subst (λ n. IsReadingAt admits k n (i * step) ty all) (sym is) (read-more o (i * step) ty next all new (h i low high)))
