-- What complete types take stays as it is, and types that are formed stay formed.
use Rattle.std.proofs.Common.{◌≡◌, ℕ, List, [], refl, ap, sym, subst, ◌∙◌, arith}
use Rattle.std.specs.Prelude.{Option, None, Some, IsSomeAnd, IsTrue, All, option_map, unwrap_or}
use Rattle.std.proofs.lemmas.List.Elements.{All-weaker}
use Rattle.c_syntax.specs.Types.{CTypeTree, Void, Int, Pointer, Array, Struct, Function}
use Rattle.c_syntax.specs.Program.{StructDefTree}
use Rattle.c_layout.specs.Layout.{members_of, laid_out, size_in, align_in, space_of}
use Rattle.c_layout.specs.ProperTypes.{IsTold}
use Rattle.c_layout.specs.Heights.{held}
use Rattle.c_layout.proofs.Unfolding.{some_map}
use Rattle.c_typing.specs.World.{Form, Plain, Unsized, Callable, Meaning, Object, Missing, Parameter, TypeName, Enumeration, TagMeaning, StructTag, EnumTag, OpenEnumTag}
use Rattle.c_typing.specs.World as world
use Rattle.c_typing.specs.Operands.{complete_size}
use Rattle.c_typing.specs.Later.{is_complete, IsLater}
use Rattle.c_typing.specs.Formed.{IsFormed, IsFormedForm, IsFormedMeaning, IsFormedTag}
use Rattle.c_typing.proofs.MadeTables.{IsHeldComplete, space_held, told_kept}
use Rattle.c_typing.proofs.MadeMembers.{size_held, complete_is_size}

struct_later : (a b : List StructDefTree) → IsLater a b → (n : ℕ) → IsTrue (is_complete a n) → laid_out b n ≡ laid_out a n
struct_later a b later n c = sym (later.still.spaces n) ∙ told_kept a b n (later.same n c) ∙ later.laid_out.spaces n

space_later : (a b : List StructDefTree) → IsLater a b → (ty : CTypeTree) → IsHeldComplete a ty → space_of b ty ≡ space_of a ty
space_later a b later ty h =
    space_held (laid_out b) (laid_out a) ty (some_map (held ty) (λ k. IsTrue (is_complete a k)) (λ k. laid_out b k ≡ laid_out a k) (λ k c. struct_later a b later k c) h)

pub later_size : (a b : List StructDefTree) → IsLater a b → (ty : CTypeTree) (size : ℕ) → size_in a ty ≡ Some size → size_in b ty ≡ Some size
later_size a b later ty size e = ap (λ s. s.size) (space_later a b later ty (size_held a ty size e)) ∙ e

pub size_later : (a b : List StructDefTree) → IsLater a b → (ty : CTypeTree) (size : ℕ) → complete_size a ty ≡ Some size → size_in b ty ≡ Some size
size_later a b later ty size e = later_size a b later ty size (complete_is_size a ty size e)

pub align_later : (a b : List StructDefTree) → IsLater a b → (ty : CTypeTree) (size : ℕ) → complete_size a ty ≡ Some size → align_in b ty ≡ align_in a ty
align_later a b later ty size e = ap (λ s. s.align) (space_later a b later ty (size_held a ty size (complete_is_size a ty size e)))

pub members_later : (a b : List StructDefTree) → IsLater a b → (n : ℕ) → IsTrue (is_complete a n) → members_of b n ≡ members_of a n
members_later a b later n c = ap (λ o. unwrap_or (option_map (λ d. d.members) o) []) (later.same n c)

told_later : (a b : List StructDefTree) → IsLater a b → (ty : CTypeTree) (o : Option ℕ) → size_in a ty ≡ o → IsSomeAnd o IsTold → IsSomeAnd (size_in b ty) IsTold
told_later a b later ty None e h = absurd h
told_later a b later ty (Some size) e h = subst (λ o. IsSomeAnd o IsTold) (sym (later_size a b later ty size e)) h

pub formed_later : (a b : List StructDefTree) → IsLater a b → (ty : CTypeTree) → IsFormed a ty → IsFormed b ty
formed_later a b later Void f = tt
formed_later a b later (Int t) f = tt
formed_later a b later (Pointer to c) f = formed_later a b later to f
formed_later a b later (Array of c n) f = (formed_later a b later of f.0, f.1, told_later a b later (Array of c n) (size_in a (Array of c n)) refl f.2)
formed_later a b later (Struct n) f = let l = later.longer in omega arith
formed_later a b later (Function n) f = f

pub all_later : (a b : List StructDefTree) → IsLater a b → (types : List CTypeTree) → All (IsFormed a) types → All (IsFormed b) types
all_later a b later types all = All-weaker (IsFormed a) (IsFormed b) (λ ty f. formed_later a b later ty f) types all

pub form_later : (a b : List StructDefTree) → IsLater a b → (form : Form) → IsFormedForm a form → IsFormedForm b form
form_later a b later (Plain ty c) f = formed_later a b later ty f
form_later a b later (Unsized of c) f = (formed_later a b later of f.0, told_later a b later of (size_in a of) refl f.1)
form_later a b later (Callable params result) f = (all_later a b later params f.0, formed_later a b later result f.1)

pub meaning_later : (a b : List StructDefTree) → IsLater a b → (m : Meaning) → IsFormedMeaning a m → IsFormedMeaning b m
meaning_later a b later (Object n) f = tt
meaning_later a b later (Missing ty c) f = tt
meaning_later a b later (Parameter k ty c) f = formed_later a b later ty f
meaning_later a b later (world.Function n) f = tt
meaning_later a b later (TypeName form) f = form_later a b later form f
meaning_later a b later (Enumeration n) f = f

pub tag_later : (a b : List StructDefTree) → IsLater a b → (m : TagMeaning) → IsFormedTag a m → IsFormedTag b m
tag_later a b later (StructTag n) f = let l = later.longer in omega arith
tag_later a b later EnumTag f = tt
tag_later a b later OpenEnumTag f = tt
