-- Parts wrapped into a type, and products of numbers that are like those of two parts.
use Rattle.std.proofs.Common.{◌≡◌, ◌^◌, ◌+ℤ◌, ◌-ℤ◌, ◌*ℤ◌, ◌-◌, ℕ, ℤ, pos, List, false, arith, Option, Some, refl, sym, subst, ap, ◌∙◌}
use Rattle.std.specs.Int.RustNames.{FitsSigned}
use Rattle.std.proofs.lemmas.Int.{ints}
use Rattle.std.proofs.lemmas.Bool.{false≢true}
use mir.Syntax.{w128}
use Rattle.c_syntax_written.specs.declared.int_type.IntType.{IntType}
use Rattle.c_syntax_written.specs.declared.int_type.IntType.TheVariants.{LLong}
use Rattle.c_syntax_written.specs.Integer.{width, least, wrapped}
use Rattle.num_api.specs.declared.expr.NOp.TheVariants.{Add, Sub, Mul, And}
use Rattle.num_api.specs.declared.message.Range.{Range}
use Rattle.num_api.specs.Exprs.{NExprTree, nexpr_tree}
use Rattle.num_api.specs.Exprs as plain
use Rattle.num_api.specs.Ranges.{InRange, IsPoint, NoWider}
use Rattle.num_api.specs.Spans.{Span, FitsSpan, range_of, corners, binary_span}
use Rattle.num_api.specs.Known.{IsSharpOn}
use Rattle.num_api.specs.Value.{value_of, AllFit, of_two, binary_value}
use Rattle.num_api.proofs.Multiples.{multiple_along}
use Rattle.machine_nums.specs.Machine.{wrapped_value}
use Rattle.machine_nums.specs.Rule.{type_span}
use Rattle.machine_nums.specs.Parts.{Tells, Shows, IsWrappedPart, IsLike}
use Rattle.machine_nums.specs.Wrapping.{IsWrapping}
use Rattle.machine_nums.specs.declared.parts.Part.{Part}
use Rattle.machine_nums.specs.declared.wrapping.Way.{Way}
use Rattle.machine_nums.specs.declared.wrapping.Way.TheVariants.{Kept, Shifted, Only, ByBits}
use Rattle.machine_nums.proofs.Values.{wrapped-has}
use Rattle.machine_nums.proofs.ExprTypes.{is_wrapped, wrapped_fits}
use Rattle.machine_nums.proofs.Bits.{bits_result}
use Rattle.machine_nums.proofs.Results.{some_fits}
use Rattle.machine_nums.proofs.Rules.{type_span_fits}
use Rattle.machine_nums.proofs.Typed.{wide_products, product_fits}
use Rattle.machine_nums.proofs.Wrapped.{inside_has}

-- ---- the ways

pub part_kept : (t : IntType) (part : Part) → NoWider part.range (range_of (type_span t)) → IsWrappedPart t part part
part_kept t part w =
    let same : (v : List ℤ) (n : ℤ) → Tells v part n → n ≡ wrapped t n = λ v n h. sym (wrapped-has t n (inside_has t part.range n w h.holds)) in
    record {
      tells = λ v n h. subst (Tells v part) (same v n h) h;
      shows = λ known v n h s. subst (Shows known v part) (same v n h) s;
      inside = w;
      kept = λ i. (refl, refl, refl);
      as_it_was = λ h. (refl, h);
    }

shift_apart : (s : ℤ) → Shifted s ≡ Kept → ⊥
shift_apart s e = cc

only_apart : (m : ℤ) → Only m ≡ Kept → ⊥
only_apart m e = cc

bits_apart : ByBits ≡ Kept → ⊥
bits_apart e = cc

module _ (t : IntType) (before after : Part) (never : after.is_kept ≡ false) where
  -- what is wrapped otherwise than by being kept did not lie in the type
  by_value : (way : Way) → IsWrapping t before.range way after.range → (way ≡ Kept → ⊥)
      → ((v : List ℤ) (n : ℤ) → Tells v before n → value_of v (nexpr_tree after.plain) ≡ Some (wrapped t n))
      → ((known : ℕ → Range) (v : List ℤ) (n : ℤ) → Tells v before n → Shows known v before n → AllFit v (nexpr_tree after.plain) × IsSharpOn known v
      (nexpr_tree after.plain))
      → IsWrappedPart t before after
  by_value way w apart value shown = record {
    tells = λ v n h. record { value = value v n h; holds = w.takes.holds n h.holds };
    shows = λ known v n h s. let both = shown known v n h s in record { point = w.point n s.point; fits = both.0; sharp = both.1 };
    inside = w.takes.inside;
    kept = λ i. absurd (apart (w.kept i).0);
    as_it_was = λ h. absurd (false≢true (sym never ∙ h));
  }

  pub part_shifted : (s : ℤ) → nexpr_tree after.plain ≡ plain.Binary Add (nexpr_tree before.plain) (plain.Const s) → FitsSigned w128 s
      → IsWrapping t before.range (Shifted s) after.range → IsWrappedPart t before after
  part_shifted s tree fit w =
      let value : (v : List ℤ) (n : ℤ) → Tells v before n → value_of v (plain.Binary Add (nexpr_tree before.plain) (plain.Const s)) ≡ Some
      (wrapped t n) = λ v n h.
      ap (λ (o : Option ℤ). of_two (binary_value Add) o (Some s)) h.value
      ∙ ap Some (is_wrapped t n (n +ℤ s) (multiple_along (pos (2 ^ width t)) s ((n +ℤ s) -ℤ n) (omega (arith, ints)) w.takes.right.0)
      (w.takes.right.1 n h.holds)) in
      by_value (Shifted s) w (shift_apart s)
      (λ v n h. ap (value_of v) tree ∙ value v n h)
      (λ known v n h shown. (
        subst (AllFit v) (sym tree) (
          some_fits (value_of v (plain.Binary Add (nexpr_tree before.plain) (plain.Const s))) (wrapped t n) (value v n h)
              (wrapped_fits t n),
          shown.fits,
          fit,
        ),
        subst (IsSharpOn known v) (sym tree) (shown.sharp, tt),
      ))

  pub part_only : (m : ℤ) → nexpr_tree after.plain ≡ plain.Const m → FitsSigned w128 m → IsWrapping t before.range (Only m) after.range
      → IsWrappedPart t before after
  part_only m tree fit w = by_value (Only m) w (only_apart m)
      (λ v n h. ap (value_of v) tree ∙ ap Some (sym (w.takes.right n h.holds)))
      (λ known v n h shown. (subst (AllFit v) (sym tree) fit, subst (IsSharpOn known v) (sym tree) tt))

  pub part_by_bits : nexpr_tree after.plain ≡ plain.Binary Add
      (plain.Binary And (plain.Binary Sub (nexpr_tree before.plain) (plain.Const (least t))) (plain.Const (pos (2 ^ width t - 1)))) (plain.Const (least t))
      → IsWrapping t before.range ByBits after.range → IsWrappedPart t before after
  part_by_bits tree w = by_value ByBits w bits_apart
      (λ v n h. ap (value_of v) tree ∙ bits_result t (value_of v (nexpr_tree before.plain)) ∙ ap (wrapped_value t) h.value)
      (λ known v n h shown. absurd (w.takes.right n shown.point))

-- ---- products of numbers that are like those of two parts

tells_copy : (part copy : Part) (v : List ℤ) (n : ℤ) → nexpr_tree copy.plain ≡ nexpr_tree part.plain → copy.range ≡ part.range → Tells v part n → Tells v copy n
tells_copy part copy v n tree range h = record { value = ap (value_of v) tree ∙ h.value; holds = subst (λ (r : Range). InRange r n) (sym range) h.holds }

shows_copy : (part copy : Part) (known : ℕ → Range) (v : List ℤ) (n : ℤ) → nexpr_tree copy.plain ≡ nexpr_tree part.plain → copy.range ≡ part.range
    → Shows known v part n → Shows known v copy n
shows_copy part copy known v n tree range h = record {
  point = subst (λ (r : Range). IsPoint r n) (sym range) h.point;
  fits = subst (AllFit v) (sym tree) h.fits;
  sharp = subst (IsSharpOn known v) (sym tree) h.sharp;
}

pub like_parts : (left right first second a b like : Part)
    → nexpr_tree first.plain ≡ nexpr_tree left.plain → first.range ≡ left.range → nexpr_tree second.plain ≡ nexpr_tree right.plain → second.range ≡ right.range
    → IsWrappedPart LLong first a → IsWrappedPart LLong second b → nexpr_tree like.plain ≡ plain.Binary Mul (nexpr_tree a.plain) (nexpr_tree b.plain)
    → like.is_kept ≡ false
    → ((x y n : ℤ) → InRange a.range x → InRange b.range y → binary_value Mul x y ≡ Some n → InRange like.range n)
    → ((x y n : ℤ) → IsPoint a.range x → IsPoint b.range y → binary_value Mul x y ≡ Some n → FitsSigned w128 n → IsPoint like.range n)
    → ((p q u : Span) → NoWider a.range (range_of p) → FitsSpan p → NoWider b.range (range_of q) → FitsSpan q → binary_span Mul p q ≡ Some u → FitsSpan u
    → NoWider like.range (range_of u))
    → IsLike left right like
like_parts left right first second a b like tree_a range_a tree_b range_b wa wb tree never holds points rule =
    let t = type_span LLong in
    let under = rule t t (corners ◌*ℤ◌ t t) wa.inside (type_span_fits LLong) wb.inside (type_span_fits LLong) refl wide_products in
    let firsts : (v : List ℤ) (x : ℤ) → Tells v left x → Tells v a (wrapped LLong x) = λ v x h. wa.tells v x (tells_copy left first v x tree_a range_a h) in
    let seconds : (v : List ℤ) (y : ℤ) → Tells v right y → Tells v b (wrapped LLong y) = λ v y h. wb.tells v y (tells_copy right second v y tree_b range_b h) in
    let value : (v : List ℤ) (x y : ℤ) → Tells v left x → Tells v right y → value_of v (plain.Binary Mul (nexpr_tree a.plain) (nexpr_tree b.plain)) ≡ Some
    (wrapped LLong x *ℤ wrapped LLong y) = λ v x y h k.
    ap (λ (o : Option ℤ). of_two (binary_value Mul) o (value_of v (nexpr_tree b.plain))) (firsts v x h).value ∙ ap
    (of_two (binary_value Mul) (Some (wrapped LLong x))) (seconds v y k).value in
    let inside : (v : List ℤ) (x y : ℤ) → Tells v left x → Tells v right y → InRange like.range (wrapped LLong x *ℤ wrapped LLong y) = λ v x y h k.
    holds (wrapped LLong x) (wrapped LLong y) (wrapped LLong x *ℤ wrapped LLong y) (firsts v x h).holds (seconds v y k).holds refl in
    record {
      tells = λ v x y h k. record { value = ap (value_of v) tree ∙ value v x y h k; holds = inside v x y h k };
      shows = λ known v x y h k s r.
          let n = wrapped LLong x *ℤ wrapped LLong y in
          let fit = product_fits like.range n under (inside v x y h k) in
          let one = wa.shows known v x (tells_copy left first v x tree_a range_a h) (shows_copy left first known v x tree_a range_a s) in
          let two = wb.shows known v y (tells_copy right second v y tree_b range_b k) (shows_copy right second known v y tree_b range_b r) in
          record {
            point = points (wrapped LLong x) (wrapped LLong y) n one.point two.point refl fit;
            fits = subst (AllFit v) (sym tree)
                (some_fits (value_of v (plain.Binary Mul (nexpr_tree a.plain) (nexpr_tree b.plain))) n (value v x y h k) fit, one.fits, two.fits);
            sharp = subst (IsSharpOn known v) (sym tree) (one.sharp, two.sharp);
          };
      never = never;
    }
