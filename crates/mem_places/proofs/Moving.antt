-- Addresses that are moved by elements.
use Rattle.std.proofs.Common.{◌≡◌, ◌≤ℤ◌, inl, inr, ℕ, ℤ, pos, ◌+ℤ◌, ◌*ℤ◌, Bool, true, false, arith, refl, sym, subst, ap, ◌∙◌, Option, Some, None}
use Rattle.std.specs.Prelude.{IfSome, IsSomeAnd, option_map, option_and_then}
use Rattle.std.proofs.lemmas.Int.{ints}
use Rattle.std.proofs.lemmas.Option.{option_and_then_some}
use Rattle.block_mem.specs.declared.types.Value.{Value}
use Rattle.block_mem.specs.declared.types.Value.TheVariants as values
use Rattle.c_syntax_written.specs.declared.int_type.IntType.{IntType}
use Rattle.c_syntax.specs.declared.operator.TBinaryOp.TheVariants as binaries
use Rattle.c_values.specs.Places.{place_of}
use Rattle.c_values.specs.Operators.{binary_result, moved}
use Rattle.num_api.specs.Fold.{IsAlignment}
use Rattle.num_api.specs.Residues.{IsMultiple}
use Rattle.num_api.proofs.Multiples.{zero_multiple, multiple_add, multiple_neg, times_multiple, multiple_trans}
use Rattle.csharp.specs.Trees.{CsExprTree, Const, Null, Temp, Address, Unary, Binary, Convert, CsProgramTree}
use Rattle.csharp.specs.Formed.{NamesThere}
use Rattle.csharp.specs.States.{State, value_of, if_taken}
use Rattle.mem_api.specs.Named.{IsNamed, IsStep}
use Rattle.mem_places.specs.Units.{IsUnit}
use Rattle.mem_places.specs.declared.places.NamedPlace.{NamedPlace}
use Rattle.mem_places.specs.Places.{PointsTo, IsPlaceOf, NamesPlace, constant_of, signed, IsUnitOf, IsCommonUnit, IsMovedBy}

-- ---- steps

unit_constant : (size : ℕ) (t : IntType) (n u : ℤ) → IsUnit (pos size *ℤ n) u → IsUnitOf size (Const t n) u
unit_constant size t n u f = record {
  alignment = f.alignment;
  divides = λ s ty m h. let same : n ≡ m = cc in subst (λ (k : ℤ). IsMultiple u (pos size *ℤ k)) same f.divides;
  greatest = λ c a step. f.greatest (pos c) a step;
}

pub unit_of_constant : (size : ℕ) (e : CsExprTree) (n u : ℤ) → constant_of e ≡ Some n → IsUnit (pos size *ℤ n) u → IsUnitOf size e u
unit_of_constant size (Const t m) n u h f = let same : n ≡ m = cc in unit_constant size t m u (subst (λ (k : ℤ). IsUnit (pos size *ℤ k) u) same f)
unit_of_constant size e n u h f = absurd (cc)

unit_any : (size : ℕ) (e : CsExprTree) (u : ℤ) → IsUnit (pos size) u → ((c : ℕ) → IsStep c size e → IsMultiple (pos c) (pos size)) → IsUnitOf size e u
unit_any size e u f step = record {
  alignment = f.alignment;
  divides = λ s t n h. times_multiple u (pos size) n f.divides;
  greatest = λ c a h. f.greatest (pos c) a (step c h);
}

pub unit_of_size : (size : ℕ) (e : CsExprTree) (u : ℤ) → constant_of e ≡ None → IsUnit (pos size) u → IsUnitOf size e u
unit_of_size size (Const t n) u h f = absurd (cc)
unit_of_size size Null u h f = unit_any size Null u f (λ c step. step)
unit_of_size size (Temp d) u h f = unit_any size (Temp d) u f (λ c step. step)
unit_of_size size (Address x) u h f = unit_any size (Address x) u f (λ c step. step)
unit_of_size size (Unary op e) u h f = unit_any size (Unary op e) u f (λ c step. step)
unit_of_size size (Binary op a b) u h f = unit_any size (Binary op a b) u f (λ c step. step)
unit_of_size size (Convert t e) u h f = unit_any size (Convert t e) u f (λ c step. step)

-- ---- two alignments

divided : (c : ℤ) (a b : ℤ) (k : ℤ) → a ≡ c → b ≡ k *ℤ c → IsMultiple a b
divided c a b k e f = (k, f ∙ ap (λ (x : ℤ). k *ℤ x) (sym e))

lesser_divides : (a b : ℤ) → IsAlignment a → IsAlignment b → a ≤ℤ b → IsMultiple a b
lesser_divides a b (inl e) k h = divided (pos 1) a b b e (omega (arith, ints))
lesser_divides a b (inr (inl e)) (inl f) h = absurd (omega (arith, ints))
lesser_divides a b (inr (inl e)) (inr (inl f)) h = divided (pos 2) a b (pos 1) e f
lesser_divides a b (inr (inl e)) (inr (inr (inl f))) h = divided (pos 2) a b (pos 2) e f
lesser_divides a b (inr (inl e)) (inr (inr (inr f))) h = divided (pos 2) a b (pos 4) e f
lesser_divides a b (inr (inr (inl e))) (inl f) h = absurd (omega (arith, ints))
lesser_divides a b (inr (inr (inl e))) (inr (inl f)) h = absurd (omega (arith, ints))
lesser_divides a b (inr (inr (inl e))) (inr (inr (inl f))) h = divided (pos 4) a b (pos 1) e f
lesser_divides a b (inr (inr (inl e))) (inr (inr (inr f))) h = divided (pos 4) a b (pos 2) e f
lesser_divides a b (inr (inr (inr e))) (inl f) h = absurd (omega (arith, ints))
lesser_divides a b (inr (inr (inr e))) (inr (inl f)) h = absurd (omega (arith, ints))
lesser_divides a b (inr (inr (inr e))) (inr (inr (inl f))) h = absurd (omega (arith, ints))
lesser_divides a b (inr (inr (inr e))) (inr (inr (inr f))) h = divided (pos 8) a b (pos 1) e f

itself : (a : ℤ) → IsMultiple a a
itself a = (pos 1, omega (arith, ints))

pub first_common : (a b : ℤ) → a ≤ℤ b → IsCommonUnit a b a
first_common a b h = record {
  one = λ j k. j;
  first = λ j k. itself a;
  second = λ j k. lesser_divides a b j k h;
  greatest = λ c j k. j;
}

pub second_common : (a b : ℤ) → b ≤ℤ a → IsCommonUnit a b b
second_common a b h = record {
  one = λ j k. k;
  first = λ j k. lesser_divides b a k j h;
  second = λ j k. itself b;
  greatest = λ c j k. k;
}

-- ---- moves

-- an expression is the base moved by so many elements
pub record Moves (e base count : CsExprTree) (size : ℕ) (down : Bool) : Type 0 where
  pub value : (s : State) (r : Value) → value_of e s ≡ Some r → (v : Value) × (t : IntType) × (n : ℤ) × (value_of base s ≡ Some v)
      × (value_of count s ≡ Some (values.Int t n)) × (moved v (signed down (pos size *ℤ n)) ≡ Some r)
  pub there : (q : CsProgramTree) → NamesThere q e → NamesThere q base
  pub named : (o c : ℕ) → IsNamed o c e → IsNamed o c base × IsStep c size count

pub plus_moves : (size : ℕ) (a b : CsExprTree) → Moves (Binary (binaries.PointerPlusInt size) a b) a b size false
plus_moves size a b = record {
  value = λ s r h. option_and_then_some (λ v. option_and_then (if_taken (binaries.PointerPlusInt size) (binary_result (binaries.PointerPlusInt size)) v) (value_of b s))
      (value_of a s) r h (λ v f g. option_and_then_some (if_taken (binaries.PointerPlusInt size) (binary_result (binaries.PointerPlusInt size)) v) (value_of b s) r g
      (λ u j k. by s r v u f j k));
  there = λ q h. h.0;
  named = λ o c h. h;
}
  where
    by : (s : State) (r v u : Value) → value_of a s ≡ Some v → value_of b s ≡ Some u → binary_result (binaries.PointerPlusInt size) v u ≡ Some r
        → (v : Value) × (t : IntType) × (n : ℤ) × (value_of a s ≡ Some v) × (value_of b s ≡ Some (values.Int t n))
        × (moved v (signed false (pos size *ℤ n)) ≡ Some r)
    by s r v (values.Int t n) f j k = (v, t, n, f, j, k)
    by s r v (values.Ptr p) f j k = absurd (cc)
    by s r v values.Null f j k = absurd (cc)

pub minus_moves : (size : ℕ) (a b : CsExprTree) → Moves (Binary (binaries.PointerMinusInt size) a b) a b size true
minus_moves size a b = record {
  value = λ s r h. option_and_then_some (λ v. option_and_then (if_taken (binaries.PointerMinusInt size) (binary_result (binaries.PointerMinusInt size)) v) (value_of b s))
      (value_of a s) r h (λ v f g. option_and_then_some (if_taken (binaries.PointerMinusInt size) (binary_result (binaries.PointerMinusInt size)) v) (value_of b s) r g
      (λ u j k. by s r v u f j k));
  there = λ q h. h.0;
  named = λ o c h. h;
}
  where
    by : (s : State) (r v u : Value) → value_of a s ≡ Some v → value_of b s ≡ Some u → binary_result (binaries.PointerMinusInt size) v u ≡ Some r
        → (v : Value) × (t : IntType) × (n : ℤ) × (value_of a s ≡ Some v) × (value_of b s ≡ Some (values.Int t n))
        × (moved v (signed true (pos size *ℤ n)) ≡ Some r)
    by s r v (values.Int t n) f j k = (v, t, n, f, j, k)
    by s r v (values.Ptr p) f j k = absurd (cc)
    by s r v values.Null f j k = absurd (cc)

pub turned_moves : (size : ℕ) (a b : CsExprTree) → Moves (Binary (binaries.IntPlusPointer size) a b) b a size false
turned_moves size a b = record {
  value = λ s r h. option_and_then_some (λ v. option_and_then (if_taken (binaries.IntPlusPointer size) (binary_result (binaries.IntPlusPointer size)) v) (value_of b s))
      (value_of a s) r h (λ v f g. option_and_then_some (if_taken (binaries.IntPlusPointer size) (binary_result (binaries.IntPlusPointer size)) v) (value_of b s) r g
      (λ u j k. by s r v u f j k));
  there = λ q h. h.1;
  named = λ o c h. h;
}
  where
    by : (s : State) (r v u : Value) → value_of a s ≡ Some v → value_of b s ≡ Some u → binary_result (binaries.IntPlusPointer size) v u ≡ Some r
        → (v : Value) × (t : IntType) × (n : ℤ) × (value_of b s ≡ Some v) × (value_of a s ≡ Some (values.Int t n))
        × (moved v (signed false (pos size *ℤ n)) ≡ Some r)
    by s r (values.Int t n) u f j k = (u, t, n, j, f, k)
    by s r (values.Ptr p) u f j k = absurd (cc)
    by s r values.Null u f j k = absurd (cc)

-- ---- places

pub points_moved : (s : State) (o : ℕ) (k d : ℤ) (v r : Value) → PointsTo s o k v → moved v d ≡ Some r → PointsTo s o (k +ℤ d) r
points_moved s o k d v r (b, there, is) h =
    let e : Some (values.Ptr (record { block = b; offset = k +ℤ d })) ≡ Some r = ap (λ (x : Value). moved x d) (sym is) ∙ h in (b, there, cc)

pub address_points : (s : State) (x : ℕ) (v : Value) → value_of (Address x) s ≡ Some v → PointsTo s x (pos 0) v
address_points s x v h = by (place_of s.memory x) refl h
  where
    by : (o : Option ℕ) → place_of s.memory x ≡ o → option_map (λ b. values.Ptr (record { block = b; offset = pos 0 })) o ≡ Some v → PointsTo s x (pos 0) v
    by None e h = absurd (cc)
    by (Some b) e h = (b, e, cc)

pub address_place : (x : ℕ) → IsPlaceOf (Address x) x (pos 8)
address_place x = record {
  alignment = inr (inr (inr refl));
  points = λ s v h. (pos 0, address_points s x v h, zero_multiple (pos 8));
  there = λ q h. h;
}

pub signed_multiple : (w k : ℤ) (down : Bool) → IsMultiple w k → IsMultiple w (signed down k)
signed_multiple w k false m = m
signed_multiple w k true m = multiple_neg w k m

module _ (e base count : CsExprTree) (size : ℕ) (down : Bool) (m : Moves e base count size down) (step : ℤ) (f : IsUnitOf size count step) where
  place_moved : (o : ℕ) (u w : ℤ) → IsPlaceOf base o u → IsCommonUnit u step w → IsPlaceOf e o w
  place_moved o u w p common = record {
    alignment = common.one p.alignment f.alignment;
    points = λ s r h.
        let g = m.value s r h in
        let at = p.points s g.0 g.3 in
        let d = signed down (pos size *ℤ g.2) in (
          at.0 +ℤ d,
          points_moved s o at.0 d g.0 r at.1 g.5,
          multiple_add w at.0 d (multiple_trans w u at.0 (common.first p.alignment f.alignment) at.2)
              (signed_multiple w (pos size *ℤ g.2) down
              (multiple_trans w step (pos size *ℤ g.2) (common.second p.alignment f.alignment) (f.divides s g.1 g.2 g.4))),
        );
    there = λ q h. p.there q (m.there q h);
  }

  pub found_place : (place found : Option NamedPlace) → IfSome place (λ p. IsPlaceOf base p.object p.unit) → IsMovedBy place step found
      → IfSome found (λ p. IsPlaceOf e p.object p.unit)
  found_place None None p by = tt
  found_place None (Some r) p by = absurd (cc)
  found_place (Some k) None p by = absurd by
  found_place (Some k) (Some r) p by = subst (λ (o : ℕ). IsPlaceOf e o r.unit) (sym by.0) (place_moved k.object k.unit r.unit p by.1)

  pub found_name : (place found : Option NamedPlace) → NamesPlace base place → IsMovedBy place step found → NamesPlace e found
  found_name place found names by o c a named =
      let parts = m.named o c named in took place found (names o c a parts.0) by (f.greatest c a parts.1)
    where
      took : (place found : Option NamedPlace) → IsSomeAnd place (λ p. (p.object ≡ o) × IsMultiple (pos c) p.unit) → IsMovedBy place step found
          → IsMultiple (pos c) step → IsSomeAnd found (λ p. (p.object ≡ o) × IsMultiple (pos c) p.unit)
      took None found h by k = absurd h
      took (Some p) None h by k = absurd by
      took (Some p) (Some r) h by k = (by.0 ∙ h.0, by.1.greatest (pos c) h.1 k)

pub address_name : (x : ℕ) → NamesPlace (Address x) (Some (record { object = x; unit = pos 8 }))
address_name x o c (inl e) h = (h, (pos 8, ap (λ (k : ℤ). pos 8 *ℤ k) (sym e)))
address_name x o c (inr (inl e)) h = (h, (pos 4, ap (λ (k : ℤ). pos 4 *ℤ k) (sym e)))
address_name x o c (inr (inr (inl e))) h = (h, (pos 2, ap (λ (k : ℤ). pos 2 *ℤ k) (sym e)))
address_name x o c (inr (inr (inr e))) h = (h, (pos 1, ap (λ (k : ℤ). pos 1 *ℤ k) (sym e)))
