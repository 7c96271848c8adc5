-- Of the one state of a sharp set each state of the set is like it; and what is under one side of a hull is under the hull.
use Rattle.std.specs.Prelude.{◌≡◌, ℕ, List, Option, Some, slice_get}
use Rattle.std.proofs.Common.{refl, sym, subst, ap, ◌∙◌}
use Rattle.ext_int.specs.declared.Ext.TheVariants.{Fin}
use Rattle.ext_int.proofs.Ends.{lesser_first, lesser_second, greater_first, greater_second}
use Rattle.num_api.specs.declared.message.Range.{Range}
use Rattle.num_api.specs.Ranges.{NoWider}
use Rattle.num_api.specs.Spans.{Span, range_of}
use Rattle.num_api.proofs.Parts.{wider}
use Rattle.block_mem.specs.declared.types.Byte.{Byte}
use Rattle.block_mem.specs.declared.types.Byte.TheVariants as bytes
use Rattle.block_mem.specs.Blocks.{block_at}
use Rattle.block_mem.specs.declared.types.Scalar.{Scalar}
use Rattle.block_mem.specs.declared.types.Value.{Value}
use Rattle.block_mem.specs.declared.types.Value.TheVariants as values
use Rattle.c_values.specs.Places.{ObjectMemory, place_of, spot}
use Rattle.csharp.specs.States.{State}
use Rattle.mem_api.specs.Likeness.{AreLike, AreLikeBytes, IsAlike}
use Rattle.plain_runs.specs.States.{Plain, hull, hull_span}
use Rattle.mem_temps.specs.Ranges.{range_at}
use Rattle.mem_intervals.specs.Passed.{Remembered}
use Rattle.mem_intervals.specs.Under.{IsUnderPlain}

-- ---- states with the same temporaries and memory

like_itself : (m : ObjectMemory) (v u : Value) → v ≡ u → AreLike m v m u
like_itself m (values.Int t n) u e = sym e
like_itself m (values.Ptr p) u e = ap (λ (w : Value). spot m w) e
like_itself m values.Null u e = ap (λ (w : Value). spot m w) e

like_byte : (m : ObjectMemory) (y z : Byte) → y ≡ z → AreLikeBytes m y m z
like_byte m bytes.Undef z e = e
like_byte m (bytes.Num n) z e = e
like_byte m (bytes.Frag p k) z e = subst (AreLikeBytes m (bytes.Frag p k) m) e (refl, refl)

-- of values and bytes at the same places
pub sharp_is_alike : (s t : State) → s.temps ≡ t.temps → s.memory ≡ t.memory → IsAlike s t
sharp_is_alike s t temps memory = same s.temps t.temps temps s.memory t.memory memory where
  in_one : (a b : List Value) (m : ObjectMemory) → a ≡ b → (d : ℕ) (v u : Value) → slice_get a d ≡ Some v → slice_get b d ≡ Some u → AreLike m v m u
  in_one a b m e d v u f g = let both : Some v ≡ Some u = sym f ∙ ap (λ (l : List Value). slice_get l d) e ∙ g in like_itself m v u (cc)

  same : (a b : List Value) → a ≡ b → (m n : ObjectMemory) → m ≡ n → IsAlike (record s { temps = a; memory = m }) (record t { temps = b; memory = n })
  same a b e m n f = subst (λ (k : ObjectMemory). IsAlike (record s { temps = a; memory = m }) (record t { temps = b; memory = k })) f (record {
    temps = λ d v u g h. in_one a b m e d v u g h;
    live = λ x. refl;
    bytes = λ x b c k y z g h i j. byte x b c k y z g h i j;
  })
    where
      byte : (x b c k : ℕ) (y z : Byte) → place_of m x ≡ Some b → place_of m x ≡ Some c → slice_get (block_at m.blocks b).bytes k ≡ Some y
          → slice_get (block_at m.blocks c).bytes k ≡ Some z → AreLikeBytes m y m z
      byte x b c k y z g h i j =
          let place : Some b ≡ Some c = sym g ∙ h in
          let one : b ≡ c = cc in
          let both : Some y ≡ Some z = sym i ∙ ap (λ (l : ℕ). slice_get (block_at m.blocks l).bytes k) one ∙ j in
          like_byte m y z (cc)

-- ---- hulls

wider_first : (r : Range) (s t : Span) → NoWider r (range_of s) → NoWider r (range_of (hull_span s t))
wider_first r s t w = wider r (range_of s) (range_of (hull_span s t)) w
    (record { low = lesser_first (Fin s.lo) (Fin t.lo); high = greater_first (Fin s.hi) (Fin t.hi) })

wider_second : (r : Range) (s t : Span) → NoWider r (range_of t) → NoWider r (range_of (hull_span s t))
wider_second r s t w = wider r (range_of t) (range_of (hull_span s t)) w
    (record { low = lesser_second (Fin s.lo) (Fin t.lo); high = greater_second (Fin s.hi) (Fin t.hi) })

pub under_first : (types : List Scalar) (ranges : List Range) (passed : Option Remembered) (p q : Plain) → IsUnderPlain types ranges passed p
    → IsUnderPlain types ranges passed (hull p q)
under_first types ranges passed p q h = record {
  inside = h.inside;
  under = λ d t g. wider_first (range_at ranges d) (p.temps d) (q.temps d) (h.under d t g);
  passes = λ r e. absurd (cc);
}

pub under_second : (types : List Scalar) (ranges : List Range) (passed : Option Remembered) (p q : Plain) → IsUnderPlain types ranges passed q
    → IsUnderPlain types ranges passed (hull p q)
under_second types ranges passed p q h = record {
  inside = h.inside;
  under = λ d t g. wider_second (range_at ranges d) (p.temps d) (q.temps d) (h.under d t g);
  passes = λ r e. absurd (cc);
}
