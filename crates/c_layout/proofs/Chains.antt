-- Where a walk down an array of arrays ends, and one more step of it.
use Rattle.std.proofs.Common.{◌≡◌, ℕ, ◌*◌, refl, ap, ◌∙◌}
use Rattle.std.proofs.Math.Nat.{mul_assoc}
use Rattle.std.specs.declared.rc.Rc.{Rc}
use Rattle.std.specs.declared.alloc.Global.{Global}
use Rattle.c_syntax.specs.declared.types.Target.{Target}
use Rattle.c_syntax.specs.declared.types.CType.{CType}
use Rattle.c_syntax.specs.declared.types.CType.TheVariants as types
use Rattle.c_syntax.specs.Types.{ctype_tree}
use Rattle.c_layout.specs.Kept.{element, element_count, kept}
use Rattle.c_layout.proofs.Keeping.{kept-mul_same, kept_twice}

pub no_array-element : (b : CType) → ((box : Rc Target Global) (n : ℕ) → b ≡ types.Array box n → ⊥) → element (ctype_tree b) ≡ ctype_tree b
unfolding ctype_tree
no_array-element types.Void other = refl
no_array-element (types.Int t) other = refl
no_array-element (types.Pointer' place ty is_const) other = refl
no_array-element (types.Array' place ty is_const n) other = absurd (other (record { ptr = place.ptr; value = record { ty = ty; is_const = is_const } }) n refl)
no_array-element (types.Struct n) other = refl
no_array-element (types.Function n) other = refl

pub no_array-count : (b : CType) → ((box : Rc Target Global) (n : ℕ) → b ≡ types.Array box n → ⊥) → element_count (ctype_tree b) ≡ 1
unfolding ctype_tree
no_array-count types.Void other = refl
no_array-count (types.Int t) other = refl
no_array-count (types.Pointer' place ty is_const) other = refl
no_array-count (types.Array' place ty is_const n) other = absurd (other (record { ptr = place.ptr; value = record { ty = ty; is_const = is_const } }) n refl)
no_array-count (types.Struct n) other = refl
no_array-count (types.Function n) other = refl

-- one more factor, from the outside in
pub kept_step : (r count n e : ℕ) → r ≡ kept (count * n) → kept (r * e) ≡ kept (count * (n * e))
kept_step r count n e h = ap (λ x. kept (x * e)) h ∙ kept-mul_same (kept (count * n)) e (count * n) e (kept_twice (count * n)) refl ∙ ap kept (mul_assoc count n e)
