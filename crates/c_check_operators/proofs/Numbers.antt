-- Numbers of types as the code passes them on.
use Rattle.std.proofs.Common.{◌≡◌, ℤ, FitsSigned, to_z, of_z, ap, sym, subst, ◌∙◌}
use Rattle.std.specs.Int.{w128}
use Rattle.std.proofs.lemmas.Int.{to_z-of_z}
use Rattle.c_syntax_written.specs.declared.int_type.IntType.{IntType}
use Rattle.c_syntax_written.specs.Integer.{HasNumber, wrapped}
use Rattle.c_values.proofs.Settled.{wrapped_is_of}

-- a number that was wrapped to a type
pub passed_is : (t : IntType) (n m : ℤ) → FitsSigned w128 n → FitsSigned w128 m → m ≡ wrapped t (to_z w128 (of_z w128 n))
    → to_z w128 (of_z w128 m) ≡ wrapped t n
passed_is t n m small fits e = to_z-of_z w128 m fits ∙ e ∙ ap (wrapped t) (to_z-of_z w128 n small)

pub passed : (t : IntType) (n m : ℤ) → FitsSigned w128 n → FitsSigned w128 m → m ≡ wrapped t (to_z w128 (of_z w128 n))
    → HasNumber t (to_z w128 (of_z w128 m))
passed t n m small fits e = subst (HasNumber t) (sym (passed_is t n m small fits e)) (wrapped_is_of t n)
