-- What the operators make of ranges of a type.
use Rattle.std.proofs.Common.{◌≡◌, ◌^◌, ◌-◌, ◌/◌, ◌⊎◌, inl, inr, ⊎_elim, ◌≤ℤ◌, ℕ, ℤ, pos, negsuc, arith, refl, sym, subst, ◌*ℤ◌}
use Rattle.std.specs.Prelude.{Bool, true, false, Option, Some, None}
use Rattle.std.specs.Int.{int_div_euclid}
use Rattle.std.specs.Int.RustNames.{FitsSigned}
use mir.Syntax.{w128}
use Rattle.std.proofs.lemmas.Int.{ints}
use Rattle.std.proofs.lemmas.Bool.{and_parts}
use Rattle.std.proofs.lemmas.Option.{none-some}
use Rattle.std.proofs.Math.Nat.{div-le_self}
use Rattle.c_syntax_written.specs.declared.int_type.IntType.{IntType}
use Rattle.c_syntax_written.specs.declared.int_type.IntType.TheVariants.{Char, SChar, UChar, Short, UShort, Int, UInt, Long, ULong, LLong, ULLong}
use Rattle.c_syntax_written.specs.Integer.{HasNumber, least}
use Rattle.ext_int.specs.declared.Ext.{Ext}
use Rattle.ext_int.specs.declared.Ext.TheVariants.{Low, Fin, High}
use Rattle.ext_int.specs.Ext.{AtMost}
use Rattle.ext_int.proofs.Ends.{AtMost_trans, fits_between}
use Rattle.num_api.specs.declared.message.Range.{Range}
use Rattle.num_api.specs.declared.expr.NOp.{NOp}
use Rattle.num_api.specs.declared.expr.NOp.TheVariants.{Shr, And, Or, Xor}
use Rattle.num_api.specs.Ranges.{InRange, IsPoint, NoWider}
use Rattle.num_api.specs.Spans.{Span, range_of, FitsSpan, binary_span, corners}
use Rattle.num_api.specs.Value.{binary_value}
use Rattle.num_api.proofs.Parts.{wider}
use Rattle.intervals.specs.Bits.{IsLogical}
use Rattle.intervals.specs.Bounds.{IsNatural, HasBits, BitBounds, IsBounded}
use Rattle.machine_nums.specs.Rule.{type_span, fits, stays, or_type, typed_span}
use Rattle.machine_nums.proofs.ExprTypes.{has_between, between_has, least_low}
use Rattle.machine_nums.proofs.Rules.{fits_inside}
use Rattle.intervals.specs.declared.Interval.{Interval}
use Rattle.intervals.specs.Interval.{Admits, ends_of}
use Rattle.machine_nums.proofs.Wrapped.{in_between, point_holds, point_from}

-- a range with no number lies inside each other
above_all : (e : Ext) → AtMost e High
above_all Low = tt
above_all (Fin n) = tt
above_all High = tt

pub none_inside : (r s : Range) → r.lo ≡ High → r.hi ≡ Low → NoWider r s
none_inside r s e f = record { low = subst (λ (x : Ext). AtMost s.lo x) (sym e) (above_all s.lo); high = subst (λ (x : Ext). AtMost x s.hi) (sym f) tt }

-- what an interval within a range knows of a point
pub within_point : (a : Interval) (r : Range) (x : ℤ) → ((n : ℤ) → InRange r n → Admits a n) → NoWider (ends_of a) r → IsPoint r x → IsPoint (ends_of a) x
within_point a r x some w p = let i = some x (point_holds r x p) in point_from (ends_of a) r x x (record { low = i.0; high = i.1 }) w p

-- ---- operators on bits

bits_range : ℕ → Range
bits_range k = record { lo = Fin (negsuc (2 ^ k - 1)); hi = Fin (pos (2 ^ k - 1)) }

natural_range : ℕ → Range
natural_range k = record { lo = Fin (pos 0); hi = Fin (pos (2 ^ k - 1)) }

-- the numbers of a type have so many bits and a sign, or so many bits
IsOfBits : Range → Type 0
IsOfBits r = (k : ℕ) × ((r ≡ bits_range k) ⊎ (r ≡ natural_range k))

of_bits : (t : IntType) → IsOfBits (range_of (type_span t))
unfolding bits_range natural_range IsOfBits
of_bits Char = (7, inl refl)
of_bits SChar = (7, inl refl)
of_bits UChar = (8, inr refl)
of_bits Short = (15, inl refl)
of_bits UShort = (16, inr refl)
of_bits Int = (31, inl refl)
of_bits UInt = (32, inr refl)
of_bits Long = (63, inl refl)
of_bits ULong = (64, inr refl)
of_bits LLong = (63, inl refl)
of_bits ULLong = (64, inr refl)

has_bits : (k : ℕ) (r : Range) → NoWider r (bits_range k) → HasBits k r
unfolding bits_range
has_bits k r w = record { low = w.low; high = w.high }

bits_inside_back : (k : ℕ) (r : Range) → HasBits k r → NoWider r (bits_range k)
unfolding bits_range
bits_inside_back k r h = record { low = h.low; high = h.high }

natural_is : (k : ℕ) (r : Range) → NoWider r (natural_range k) → IsNatural r
unfolding natural_range
natural_is k r w = w.low

natural_bits : (k : ℕ) (r : Range) → NoWider r (natural_range k) → HasBits k r
unfolding natural_range
natural_bits k r w = record { low = AtMost_trans (Fin (negsuc (2 ^ k - 1))) (Fin (pos 0)) r.lo (omega (arith, ints)) w.low; high = w.high }

natural_back : (k : ℕ) (r : Range) → IsNatural r → HasBits k r → NoWider r (natural_range k)
unfolding natural_range
natural_back k r n h = record { low = n; high = h.high }

natural_result : (op : NOp) (a b r : Range) → IsLogical op → BitBounds op a b r → IsNatural a → IsNatural b → IsNatural r
natural_result And a b r l h m n = (h.first m).0
natural_result Or a b r l h m n = AtMost_trans (Fin (pos 0)) a.lo r.lo m (h.natural m n).0
natural_result Xor a b r l h m n = h.natural m n
natural_result op a b r l h m n = absurd l

bits_result : (op : NOp) (a b r : Range) (k : ℕ) → IsLogical op → BitBounds op a b r → HasBits k a → HasBits k b → HasBits k r
bits_result And a b r k l h m n = h.bits k m n
bits_result Or a b r k l h m n = h.bits k m n
bits_result Xor a b r k l h m n = h.bits k m n
bits_result op a b r k l h m n = absurd l

inside_by : (op : NOp) (a b r s : Range) → IsLogical op → BitBounds op a b r → IsOfBits s → NoWider a s → NoWider b s → NoWider r s
unfolding IsOfBits
inside_by op a b r s l h (k, inl e) u w = subst (NoWider r) (sym e)
    (bits_inside_back k r (bits_result op a b r k l h (has_bits k a (subst (NoWider a) e u)) (has_bits k b (subst (NoWider b) e w))))
inside_by op a b r s l h (k, inr e) u w =
    let p = subst (NoWider a) e u in let q = subst (NoWider b) e w in
    subst (NoWider r) (sym e) (natural_back k r (natural_result op a b r l h (natural_is k a p) (natural_is k b q)) (bits_result op a b r k l h (natural_bits k a p) (natural_bits k b q)))

-- of numbers of a type the operators on bits give numbers of it
pub bits_inside : (op : NOp) (t : IntType) (a b r : Range) → IsLogical op → BitBounds op a b r → NoWider a (range_of (type_span t))
    → NoWider b (range_of (type_span t)) → NoWider r (range_of (type_span t))
bits_inside op t a b r l h u w = inside_by op a b r (range_of (type_span t)) l h (of_bits t) u w

-- ---- shifts to the right

quotient_between : (t : IntType) (x : ℤ) (m : ℕ) → HasNumber t x → least t ≤ℤ pos 0 → HasNumber t (int_div_euclid x (pos m))
quotient_between t (pos a) m h low = let ends = between_has t (pos a) h in let below = div-le_self a m in has_between t (pos (a / m))
    (omega (arith, ints, low)) (omega (arith, ints, below, ends.1))
quotient_between t (negsuc a) m h low = let ends = between_has t (negsuc a) h in let below = div-le_self a m in has_between t (negsuc (a / m))
    (omega (arith, ints, below, ends.0)) (omega (arith, ints))

pub shifted_has : (t : IntType) (x y n : ℤ) → HasNumber t x → binary_value Shr x y ≡ Some n → HasNumber t n
shifted_has t x (pos k) n h e = let same : int_div_euclid x (pos (2 ^ k)) ≡ n = cc in subst (HasNumber t) same (quotient_between t x (2 ^ k) h (least_low t))
shifted_has t x (negsuc k) n h e = absurd (none-some n e)

-- ---- the rule at a type

of_cases : (b : Bool) (t : IntType) (o : Option Span) (u : Span) → or_type b t o ≡ Some u → (o ≡ Some u) ⊎ ((b ≡ true) × (u ≡ type_span t))
of_cases b t (Some s) u e = inl e
of_cases true t None u e = let same : type_span t ≡ u = cc in inr (refl, sym same)
of_cases false t None u e = absurd (none-some u e)

stays_cases : (op : NOp) (t : IntType) (p q : Span) → stays op t p q ≡ true
    → (IsLogical op × (fits t p ≡ true) × (fits t q ≡ true)) ⊎ ((op ≡ Shr) × (fits t p ≡ true))
stays_cases And t p q e = let both = and_parts (fits t p) (fits t q) e in inl (tt, both.0, both.1)
stays_cases Or t p q e = let both = and_parts (fits t p) (fits t q) e in inl (tt, both.0, both.1)
stays_cases Xor t p q e = let both = and_parts (fits t p) (fits t q) e in inl (tt, both.0, both.1)
stays_cases Shr t p q e = inr (refl, e)
stays_cases op t p q e = absurd (cc)

-- the rule is that on whole numbers, or leaves the numbers of the type
pub typed_under : (op : NOp) (t : IntType) (r s found : Range) (p q u : Span) → NoWider r (range_of p) → NoWider s (range_of q) → typed_span op t p q ≡ Some u
    → (binary_span op p q ≡ Some u → NoWider found (range_of u))
    → (IsLogical op → NoWider r (range_of (type_span t)) → NoWider s (range_of (type_span t)) → NoWider found (range_of (type_span t)))
    → (op ≡ Shr → NoWider r (range_of (type_span t)) → NoWider found (range_of (type_span t)))
    → NoWider found (range_of u)
typed_under op t r s found p q u w k e whole bits shift = ⊎_elim whole
    (λ (h : (stays op t p q ≡ true) × (u ≡ type_span t)). subst (λ (v : Span). NoWider found (range_of v)) (sym h.1) (⊎_elim
    (λ (g : IsLogical op × (fits t p ≡ true) × (fits t q ≡ true)). bits g.0 (wider r (range_of p) (range_of (type_span t)) w (fits_inside t p g.1))
    (wider s (range_of q) (range_of (type_span t)) k (fits_inside t q g.2)))
    (λ (g : (op ≡ Shr) × (fits t p ≡ true)). shift g.0 (wider r (range_of p) (range_of (type_span t)) w (fits_inside t p g.1)))
    (stays_cases op t p q h.0)))
    (of_cases (stays op t p q) t (binary_span op p q) u e)

pub logical_bounds : (op : NOp) (a b r : Interval) → IsLogical op → IsBounded op a b r → BitBounds op (ends_of a) (ends_of b) (ends_of r)
logical_bounds And a b r l h = h
logical_bounds Or a b r l h = h
logical_bounds Xor a b r l h = h
logical_bounds op a b r l h = absurd l

-- products of 64-bit numbers with a sign are i128s
pub wide_products : FitsSpan (corners ◌*ℤ◌ (type_span LLong) (type_span LLong))
wide_products = record { low = omega (arith, ints); high = omega (arith, ints) }

pub product_fits : (r : Range) (n : ℤ) → NoWider r (range_of (corners ◌*ℤ◌ (type_span LLong) (type_span LLong))) → InRange r n → FitsSigned w128 n
product_fits r n w i =
    let u = corners ◌*ℤ◌ (type_span LLong) (type_span LLong) in
    let ends = in_between r (range_of u) n u.lo u.hi w refl refl i in
    fits_between u.lo u.hi n wide_products.low wide_products.high ends.0 ends.1
