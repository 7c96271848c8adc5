-- Conversions, and the operators of `op=`, `++` and `--`.
use Rattle.std.proofs.Common.{◌≡◌, Some, refl, subst}
use Rattle.c_syntax.specs.declared.operator.TBinaryOp.{TBinaryOp}
use Rattle.block_mem.specs.declared.types.Scalar.{Scalar}
use Rattle.block_mem.specs.declared.types.Scalar.TheVariants as scalars
use Rattle.block_mem.specs.declared.types.Value.{Value}
use Rattle.block_mem.specs.declared.types.Value.TheVariants as values
use Rattle.block_mem.specs.Bytes.{IsOf}
use Rattle.c_values.specs.declared.values.Given.TheVariants as givens
use Rattle.c_values.specs.Typed.{IsConvertible}
use Rattle.c_values.specs.Values.{converted_to}
use Rattle.c_values.proofs.Settled.{wrapped_is_of}
use Rattle.c_syntax_written.specs.Integer.{wrapped}
use Rattle.c_steps_laws.specs.Wants.{Converts, to_int, to_pointer}
use Rattle.c_steps_laws.specs.Takes.{Changes}
use Rattle.c_steps_laws.proofs.Values.{both_taken}
use Rattle.c_steps_laws.specs.Needs.{IsModified}

pub convertible : {a b : Scalar} → Converts a b → (v : Value) → IsOf a v → IsConvertible (Some b) (givens.Value v)
convertible to_int (values.Int u z) h = tt
convertible to_int (values.Ptr p) h = absurd h
convertible to_int values.Null h = absurd h
convertible to_pointer (values.Int u z) h = absurd h
convertible to_pointer (values.Ptr p) h = tt
convertible to_pointer values.Null h = tt

-- what a conversion gives is of the type
pub converted_is : {a b : Scalar} → Converts a b → (v new : Value) → IsOf a v → converted_to b v ≡ Some new → IsOf b new
converted_is (to_int {t = t}) (values.Int u z) new h e = let same : values.Int t (wrapped t z) ≡ new = cc in
    let given : IsOf (scalars.Int t) (values.Int t (wrapped t z)) = (refl, wrapped_is_of t z) in subst (λ x. IsOf (scalars.Int t) x) same given
converted_is to_int (values.Ptr p) new h e = absurd h
converted_is to_int values.Null new h e = absurd h
converted_is to_pointer (values.Int u z) new h e = absurd h
converted_is to_pointer (values.Ptr p) new h e = let same : values.Ptr p ≡ new = cc in subst (λ x. IsOf scalars.Pointer x) same tt
converted_is to_pointer values.Null new h e = let same : values.Null ≡ new = cc in subst (λ x. IsOf scalars.Pointer x) same tt

pub is_modified : {op : TBinaryOp} {ty right : Scalar} → Changes op ty right → (u : Value) → IsOf right u → IsModified ty op u
is_modified c u h = record {
  left = c.left;
  is_left = c.is_left;
  gives = c.gives;
  there = λ old g. convertible c.there old g;
  becomes = λ old new g e. converted_is c.there old new g e;
  takes = λ v g. both_taken c.operates v u g h;
  back = λ result g. convertible c.back result g;
  stored = λ result new g e. converted_is c.back result new g e;
}
