-- The offsets of addresses that are moved by constants.
use Rattle.std.proofs.Common.{◌≡◌, ◌≤ℤ◌, ◌^◌, ℕ, ℤ, pos, ◌+ℤ◌, ◌-ℤ◌, ◌*ℤ◌, neg_ℤ, Bool, true, false, arith, refl, sym, subst, ap, ◌∙◌, Option, Some, None}
use Rattle.std.specs.Prelude.{option_map}
use Rattle.std.proofs.lemmas.Int.{ints}
use Rattle.block_mem.specs.declared.types.Value.{Value}
use Rattle.block_mem.specs.declared.types.Value.TheVariants as values
use Rattle.c_syntax_written.specs.declared.int_type.IntType.{IntType}
use Rattle.c_syntax_written.specs.declared.int_type.IntType.TheVariants as types
use Rattle.c_syntax_written.specs.Integer.{HasNumber}
use Rattle.c_syntax.specs.declared.operator.TBinaryOp.TheVariants as binaries
use Rattle.c_values.specs.Operators.{moved}
use Rattle.num_api.specs.Residues.{IsMultiple}
use Rattle.num_api.proofs.Multiples.{zero_multiple, multiple_along, multiple_add, multiple_neg}
use Rattle.csharp.specs.Trees.{CsExprTree, Const, Address, Binary, CsProgramTree}
use Rattle.csharp.specs.Formed.{AreOperandsTyped}
use Rattle.csharp.specs.States.{State, value_of}
use Rattle.mem_api.specs.Named.{Fixed, IsNamed, fixed_at}
use Rattle.mem_places.specs.Places.{PointsTo, constant_of, signed, step_at, offset_of, both_offsets, Adds}
use Rattle.mem_places.proofs.Moving.{Moves, points_moved, address_points, plus_moves, minus_moves, turned_moves}

-- ---- constants

bounded : (t : IntType) (n : ℤ) → HasNumber t n → (neg_ℤ (pos (2 ^ 64)) ≤ℤ n) × (n ≤ℤ pos (2 ^ 64))
bounded types.Char n h = (omega (arith, ints), omega (arith, ints))
bounded types.SChar n h = (omega (arith, ints), omega (arith, ints))
bounded types.UChar n h = (omega (arith, ints), omega (arith, ints))
bounded types.Short n h = (omega (arith, ints), omega (arith, ints))
bounded types.UShort n h = (omega (arith, ints), omega (arith, ints))
bounded types.Int n h = (omega (arith, ints), omega (arith, ints))
bounded types.UInt n h = (omega (arith, ints), omega (arith, ints))
bounded types.Long n h = (omega (arith, ints), omega (arith, ints))
bounded types.ULong n h = (omega (arith, ints), omega (arith, ints))
bounded types.LLong n h = (omega (arith, ints), omega (arith, ints))
bounded types.ULLong n h = (omega (arith, ints), omega (arith, ints))

pub constant_bounded : (q : CsProgramTree) (e : CsExprTree) (n : ℤ) → AreOperandsTyped q e → constant_of e ≡ Some n
    → (neg_ℤ (pos (2 ^ 64)) ≤ℤ n) × (n ≤ℤ pos (2 ^ 64))
constant_bounded q (Const t m) n typed h =
    let same : m ≡ n = cc in subst (λ (k : ℤ). (neg_ℤ (pos (2 ^ 64)) ≤ℤ k) × (k ≤ℤ pos (2 ^ 64))) same (bounded t m typed)
constant_bounded q e n typed h = absurd (cc)

-- ---- offsets of moved addresses

-- an address moved by so many bytes
abbrev along : ℤ → Fixed → Fixed
along k f = record f { offset = f.offset +ℤ k }

with_offset : (k : ℤ) (o : Option Fixed) → option_map Fixed.offset (option_map (along k) o) ≡ both_offsets (option_map Fixed.offset o) (Some k)
with_offset k None = refl
with_offset k (Some f) = refl

no_step : (o : Option ℤ) → None ≡ both_offsets o None
no_step None = refl
no_step (Some k) = refl

pub plus_offset : (size : ℕ) (a b : CsExprTree) → offset_of (Binary (binaries.PointerPlusInt size) a b) ≡ both_offsets (offset_of a) (step_at false size b)
plus_offset size a (Const t n) = with_offset (pos size *ℤ n) (fixed_at a)
plus_offset size a b = no_step (offset_of a)

pub turned_offset : (size : ℕ) (a b : CsExprTree) → offset_of (Binary (binaries.IntPlusPointer size) a b) ≡ both_offsets (offset_of b) (step_at false size a)
turned_offset size (Const t n) b = with_offset (pos size *ℤ n) (fixed_at b)
turned_offset size a b = no_step (offset_of b)

below_zero : (k : ℤ) → (pos 0 -ℤ k) ≡ neg_ℤ k
below_zero k = omega (arith, ints)

pub minus_offset : (size : ℕ) (a b : CsExprTree) → offset_of (Binary (binaries.PointerMinusInt size) a b) ≡ both_offsets (offset_of a) (step_at true size b)
minus_offset size a (Const t n) =
    with_offset (pos 0 -ℤ (pos size *ℤ n)) (fixed_at a) ∙ ap (λ (k : ℤ). both_offsets (offset_of a) (Some k)) (below_zero (pos size *ℤ n))
minus_offset size a b = no_step (offset_of a)

-- ---- one more step

pub added : (base count : Option ℤ) (n before mid after : ℤ) → Adds base before true mid → count ≡ Some n → after ≡ (mid +ℤ n) → Adds (both_offsets base count) before true after
added None count n before mid after h is e = absurd (cc)
added (Some k) None n before mid after h is e = absurd (cc)
added (Some k) (Some m) n before mid after h is e = let same : m ≡ n = cc in let sum = h.1 in (refl, omega (arith, ints))

pub not_added : (base count : Option ℤ) (before mid after : ℤ) → Adds base before false mid → Adds (both_offsets base count) before false after
not_added None count before mid after h = refl
not_added (Some k) count before mid after h = absurd (cc (h.0))

pub no_constant : (base count : Option ℤ) (before after : ℤ) → count ≡ None → Adds (both_offsets base count) before false after
no_constant None count before after is = refl
no_constant (Some k) None before after is = refl
no_constant (Some k) (Some m) before after is = absurd (cc)

-- ---- the end

pub no_offset : (o : Option Fixed) (before after : ℤ) → Adds (option_map Fixed.offset o) before false after → (f : Fixed) → o ≡ Some f → ⊥
no_offset None before after h f e = absurd (cc)
no_offset (Some g) before after h f e = absurd (cc (h.0))

pub its_offset : (o : Option Fixed) (before after : ℤ) → before ≡ pos 0 → Adds (option_map Fixed.offset o) before true after → (f : Fixed) × (o ≡ Some f) × (f.offset ≡ after)
its_offset None before after z h = absurd (cc)
its_offset (Some g) before after z h = (g, refl, (let sum = h.1 in omega (arith, ints)))

-- ---- addresses at constant offsets

-- moved by a constant, an address at a constant offset is at another one
moved_from : (k : ℤ) (o : Option Fixed) (f : Fixed) → option_map (along k) o ≡ Some f
    → (g : Fixed) × (o ≡ Some g) × (record g { offset = g.offset +ℤ k } ≡ f)
moved_from k None f h = absurd (cc)
moved_from k (Some g) f h = (g, refl, cc)

module _ (s : State) where
  moved_points : (e base : CsExprTree) (size : ℕ) (down : Bool) (t : IntType) (n : ℤ) → Moves e base (Const t n) size down → (v : Value) → value_of e s ≡ Some v
      → ((u : Value) (g : Fixed) → fixed_at base ≡ Some g → value_of base s ≡ Some u → PointsTo s g.object g.offset u) → (k : ℤ) → k ≡ signed down (pos size *ℤ n)
      → (f : Fixed) → option_map (along k) (fixed_at base) ≡ Some f → PointsTo s f.object f.offset v
  moved_points e base size down t n m v g at k is f h =
      let b = moved_from k (fixed_at base) f h in
      let r = m.value s v g in
      let number : n ≡ r.2 = same r.1 r.2 r.4 in
      let step : moved r.0 k ≡ Some v = ap (moved r.0) (is ∙ ap (λ (x : ℤ). signed down (pos size *ℤ x)) number) ∙ r.5 in
      subst (λ (y : Fixed). PointsTo s y.object y.offset v) b.2 (points_moved s b.0.object b.0.offset k r.0 v (at r.0 b.0 b.1 r.3) step)
    where
      same : (ty : IntType) (x : ℤ) → Some (values.Int t n) ≡ Some (values.Int ty x) → n ≡ x
      same ty x e = cc

-- an address at a constant offset points there
pub fixed_points : (e : CsExprTree) (s : State) (v : Value) (f : Fixed) → fixed_at e ≡ Some f → value_of e s ≡ Some v → PointsTo s f.object f.offset v
fixed_points (Address x) s v f h g =
    let same : record { object = x; offset = pos 0 } ≡ f = cc in subst (λ (y : Fixed). PointsTo s y.object y.offset v) same (address_points s x v g)
fixed_points (Binary (binaries.PointerPlusInt size) a (Const t n)) s v f h g =
    moved_points s (Binary (binaries.PointerPlusInt size) a (Const t n)) a size false t n (plus_moves size a (Const t n)) v g (λ u k i j. fixed_points a s u k i j)
    (pos size *ℤ n) refl f h
fixed_points (Binary (binaries.IntPlusPointer size) (Const t n) b) s v f h g =
    moved_points s (Binary (binaries.IntPlusPointer size) (Const t n) b) b size false t n (turned_moves size (Const t n) b) v g (λ u k i j. fixed_points b s u k i j)
    (pos size *ℤ n) refl f h
fixed_points (Binary (binaries.PointerMinusInt size) a (Const t n)) s v f h g =
    moved_points s (Binary (binaries.PointerMinusInt size) a (Const t n)) a size true t n (minus_moves size a (Const t n)) v g (λ u k i j. fixed_points a s u k i j)
    (pos 0 -ℤ (pos size *ℤ n)) (below_zero (pos size *ℤ n)) f h
fixed_points e s v f h g = absurd (cc)

one_divides : (n : ℤ) → IsMultiple (pos 1) n
one_divides n = (n, omega (arith, ints))

-- it is a named one
pub fixed_named : (e : CsExprTree) (f : Fixed) → fixed_at e ≡ Some f → IsNamed f.object 1 e
fixed_named (Address x) f h = let same : record { object = x; offset = pos 0 } ≡ f = cc in ap (λ (y : Fixed). y.object) same
fixed_named (Binary (binaries.PointerPlusInt size) a (Const t n)) f h =
    let b = moved_from (pos size *ℤ n) (fixed_at a) f h in
    (subst (λ (y : Fixed). IsNamed y.object 1 a) b.2 (fixed_named a b.0 b.1), one_divides (pos size *ℤ n))
fixed_named (Binary (binaries.IntPlusPointer size) (Const t n) b) f h =
    let g = moved_from (pos size *ℤ n) (fixed_at b) f h in
    (subst (λ (y : Fixed). IsNamed y.object 1 b) g.2 (fixed_named b g.0 g.1), one_divides (pos size *ℤ n))
fixed_named (Binary (binaries.PointerMinusInt size) a (Const t n)) f h =
    let b = moved_from (pos 0 -ℤ (pos size *ℤ n)) (fixed_at a) f h in
    (subst (λ (y : Fixed). IsNamed y.object 1 a) b.2 (fixed_named a b.0 b.1), one_divides (pos size *ℤ n))
fixed_named e f h = absurd (cc)

-- and its offset is a multiple of what its steps are
offset_along : (c k : ℤ) (g f : Fixed) → record g { offset = g.offset +ℤ k } ≡ f → IsMultiple c g.offset → IsMultiple c k → IsMultiple c f.offset
offset_along c k g f is m j = subst (λ (y : Fixed). IsMultiple c y.offset) is (multiple_add c g.offset k m j)

pub fixed_multiple : (e : CsExprTree) (f : Fixed) (o c : ℕ) → fixed_at e ≡ Some f → IsNamed o c e → IsMultiple (pos c) f.offset
fixed_multiple (Address x) f o c h named =
    let same : record { object = x; offset = pos 0 } ≡ f = cc in subst (λ (y : Fixed). IsMultiple (pos c) y.offset) same (zero_multiple (pos c))
fixed_multiple (Binary (binaries.PointerPlusInt size) a (Const t n)) f o c h named =
    let b = moved_from (pos size *ℤ n) (fixed_at a) f h in
    offset_along (pos c) (pos size *ℤ n) b.0 f b.2 (fixed_multiple a b.0 o c b.1 named.0) named.1
fixed_multiple (Binary (binaries.IntPlusPointer size) (Const t n) b) f o c h named =
    let g = moved_from (pos size *ℤ n) (fixed_at b) f h in
    offset_along (pos c) (pos size *ℤ n) g.0 f g.2 (fixed_multiple b g.0 o c g.1 named.0) named.1
fixed_multiple (Binary (binaries.PointerMinusInt size) a (Const t n)) f o c h named =
    let b = moved_from (pos 0 -ℤ (pos size *ℤ n)) (fixed_at a) f h in
    offset_along (pos c) (pos 0 -ℤ (pos size *ℤ n)) b.0 f b.2 (fixed_multiple a b.0 o c b.1 named.0)
    (multiple_along (pos c) (neg_ℤ (pos size *ℤ n)) (pos 0 -ℤ (pos size *ℤ n)) (sym (below_zero (pos size *ℤ n))) (multiple_neg (pos c) (pos size *ℤ n) named.1))
fixed_multiple e f o c h named = absurd (cc)
