-- `k + 1` after `int k;` is typed, by the law of expressions.
use Rattle.std.proofs.Common.{◌≡◌, ℕ, zero, suc, [], ◌∷◌, refl, subst, inl, arith}
use Rattle.std.proofs.lemmas.Bool.{false≢true}
use Rattle.std.specs.Prelude.{Some, slice_get}
use Rattle.std.proofs.lemmas.Option.{same_Some}
use Rattle.std.proofs.lemmas.List.Elements.{All-nil, All-cons}
use Rattle.c_syntax.specs.Types.{ObjectTree}
use Rattle.c_layout.specs.WellTyped.{IsTypedObject}
use Rattle.c_typing.specs.World.{Typed, goes_on}
use Rattle.c_typing.specs.Typing.{Types, TypesSpecs, TypesSpec, TypesDeclarator}
use Rattle.c_typing.specs.Declarators.{laid}
use Rattle.c_typing.specs.Decls.{TypesInitDeclarators}
use Rattle.c_typing.specs.Context.{name_in, is_plain_name, is_function_declarator, has_storage}
use Rattle.c_typing.specs.File.{TypesOuters, nothing_yet}
use Rattle.c_typing.specs.Laws.{same}
use Rattle.c_typing.specs.Later.{IsLater}
use Rattle.c_typing.proofs.FormsGo.{no_some}
use Rattle.c_typing.proofs.MadeTables.{made_nothing}
use Rattle.c_typing.proofs.Adds as adds
use Rattle.c_typing_laws.specs.ExpressionLaws.{IsUsable, EndsAs, EndsFrom, AreUsable}
use Rattle.c_typing_laws.specs.LawSamples.{SamplesAreTyped, int_k, around_k, object_k, world_k, scope_k, k_plus_one}
use Rattle.c_typing_laws.proofs.WholeExpressions.{expressions_are_typed}

declared_k : TypesOuters nothing_yet around_k int_k (Typed tt world_k)
unfolding TypesSpecs TypesSpec TypesDeclarator TypesInitDeclarators TypesOuters laid name_in is_plain_name is_function_declarator has_storage
declared_k = goes_on (goes_on (goes_on (goes_on refl refl) (goes_on refl (goes_on refl (goes_on refl (goes_on refl refl))))) refl) refl

object_typed : IsTypedObject [] object_k
object_typed = record { ty = tt; size = refl; elements = refl; literal = λ e. absurd (false≢true e) }

there_k : (n : ℕ) (x : ObjectTree) → slice_get (object_k ∷ []) n ≡ Some x → EndsAs scope_k n x
there_k zero x e = subst (EndsAs scope_k 0) (same_Some object_k x e) (record { object = object_k; there = refl; typed = object_typed; ty = same object_k.ty; read_only = refl; is_static = refl })
there_k (suc n) x e = no_some x e

nothing_later : IsLater [] []
nothing_later = record { laid_out = made_nothing.laid_out; still = made_nothing.laid_out; longer = omega arith; same = λ n c. refl }

ends_k : EndsFrom world_k scope_k
ends_k = record {
  structs = nothing_later;
  table = adds.structs_are_typed around_k int_k world_k declared_k;
  objects = there_k;
  functions = λ n f e. no_some f e;
}

usable_k : AreUsable world_k scope_k
usable_k = All-cons (λ b. IsUsable world_k scope_k b.meaning) _ [] (inl refl) (All-nil (λ b. IsUsable world_k scope_k b.meaning))

pub samples_are_typed : SamplesAreTyped
unfolding Types
samples_are_typed = record {
  operand = _;
  declared = declared_k;
  usable = usable_k;
  types = goes_on (goes_on refl refl) (goes_on (goes_on refl refl) refl);
  ends = ends_k;
  typed = expressions_are_typed around_k int_k world_k world_k scope_k k_plus_one _ declared_k usable_k (goes_on (goes_on refl refl) (goes_on (goes_on refl refl) refl)) ends_k;
}
