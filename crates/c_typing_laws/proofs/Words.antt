-- The storage words of a declaration are those that are written.
use Rattle.std.proofs.Common.{◌≡◌, ℕ, true, false, List, [], ◌∷◌, ◌++◌, refl, ap, sym, ◌∙◌}
use Rattle.std.specs.Prelude.{Bool, ◌||◌, if◌then◌else◌, is_some, Option, None, Some, find}
use Rattle.c_syntax_written.specs.declared.place.Pos.{Pos}
use Rattle.c_syntax_written.specs.declared.written.StorageWord.{StorageWord}
use Rattle.c_syntax_written.specs.Written as written
use Rattle.c_typing.specs.World.{World, Meaning, Object, Missing, Parameter, Function, TypeName, Enumeration, Typed}
use Rattle.c_typing.specs.Names.{meaning_of}
use Rattle.c_typing.specs.Specifiers.{SpecsTree, SpecPart, StoragePart, ConstPart, WordPart, TypePart, with_part, no_specs_yet}
use Rattle.c_typing.specs.Typing.{TypesSpecs, TypesSpec, typedef_named}
use Rattle.c_typing.specs.Context.{is_storage, has_storage}
use Rattle.c_typing.specs.Decls.{is_word}
use Rattle.c_typing_laws.proofs.Outcomes.{TypedAs, typed_as, refused_as, typed_from, AllTyped, as_it_is, then_as, is_as, as_made}

or_none : (b : Bool) → b || false ≡ b
or_none true = refl
or_none false = refl

or_then : (a b c : Bool) → (a || b) || c ≡ a || (b || c)
or_then true b c = refl
or_then false b c = refl

-- one word more
word_last : (word y : StorageWord) (xs : List StorageWord) → is_word word (xs ++ y ∷ []) ≡ is_word word xs || is_storage word y
word_last word y [] = by (is_storage word y)
  where
    by : (b : Bool) → is_some (if b then Some y else None) ≡ b
    by true = refl
    by false = refl
word_last word y (x ∷ xs) = by (is_storage word x) (word_last word y xs)
  where
    by :
        (b : Bool) → is_word word (xs ++ y ∷ []) ≡ is_word word xs || is_storage word y
        → is_some (if b then Some x else find (is_storage word) (xs ++ y ∷ [])) ≡ is_some (if b then Some x else find (is_storage word) xs) || is_storage word y
    by true e = refl
    by false e = e

-- no storage word
abbrev IsOther : SpecPart → Type 0
IsOther (StoragePart word) = ⊥
IsOther ConstPart = Unit {0}
IsOther (WordPart word) = Unit {0}
IsOther (TypePart form) = Unit {0}

-- what a spec adds to the words
abbrev Adds : written.SpecTree → SpecPart → Type 0
Adds (written.Storage at word) part = part ≡ StoragePart word
Adds spec part = IsOther part

named_adds : (w : World) (at : Pos) (name : List ℕ) (m : Option Meaning) → TypedAs (λ part v. Adds (written.TypedefName at name) part) (typedef_named w at m)
named_adds w at name None = refused_as
named_adds w at name (Some (Object n)) = refused_as
named_adds w at name (Some (Missing ty c)) = refused_as
named_adds w at name (Some (Parameter k ty c)) = refused_as
named_adds w at name (Some (Function n)) = refused_as
named_adds w at name (Some (TypeName form)) = typed_as tt
named_adds w at name (Some (Enumeration n)) = refused_as

spec_adds : (w : World) (alone : Bool) (spec : written.SpecTree) → AllTyped (λ part v. Adds spec part) (TypesSpec w alone spec)
unfolding TypesSpec
spec_adds w alone (written.Storage at word) = is_as (typed_as refl)
spec_adds w alone (written.Const at) = is_as (typed_as tt)
spec_adds w alone (written.Basic at word) = is_as (typed_as tt)
spec_adds w alone (written.TypedefName at name) = is_as (named_adds w at name (meaning_of w name))
spec_adds w alone (written.Struct at tag) = then_as (as_it_is _) (λ n v p. is_as (typed_as tt))
spec_adds w alone (written.StructBody at tag fields) = then_as (as_it_is _) (λ n v p. then_as (as_it_is _) (λ done u q. is_as (typed_as tt)))
spec_adds w alone (written.Enum at tag) = then_as (as_it_is _) (λ n v p. is_as (typed_as tt))
spec_adds w alone (written.EnumBody at tag list) = then_as (as_it_is _) (λ n v p. then_as (as_it_is _) (λ next u q. is_as (typed_as tt)))

abbrev is_this_word : StorageWord → written.SpecTree → Bool
is_this_word word (written.Storage at w) = is_storage word w
is_this_word word spec = false

has_first : (word : StorageWord) (spec : written.SpecTree) (rest : written.SpecTrees) → has_storage word (written.more_specs spec rest) ≡ is_this_word word spec || has_storage word rest
unfolding has_storage
has_first word (written.Storage at w) rest = refl
has_first word (written.Const at) rest = refl
has_first word (written.Basic at w) rest = refl
has_first word (written.TypedefName at name) rest = refl
has_first word (written.Struct at tag) rest = refl
has_first word (written.StructBody at tag fields) rest = refl
has_first word (written.Enum at tag) rest = refl
has_first word (written.EnumBody at tag list) rest = refl

other_words : (word : StorageWord) (done : SpecsTree) (part : SpecPart) → IsOther part → is_word word (with_part done part).storage ≡ is_word word done.storage || false
other_words word done (StoragePart x) a = absurd a
other_words word done ConstPart a = sym (or_none (is_word word done.storage))
other_words word done (WordPart x) a = sym (or_none (is_word word done.storage))
other_words word done (TypePart form) a = sym (or_none (is_word word done.storage))

part_words : (word : StorageWord) (done : SpecsTree) (spec : written.SpecTree) (part : SpecPart) → Adds spec part → is_word word (with_part done part).storage ≡ is_word word done.storage || is_this_word word spec
part_words word done (written.Storage at w) part a = ap (λ p. is_word word (with_part done p).storage) a ∙ word_last word w done.storage
part_words word done (written.Const at) part a = other_words word done part a
part_words word done (written.Basic at w) part a = other_words word done part a
part_words word done (written.TypedefName at name) part a = other_words word done part a
part_words word done (written.Struct at tag) part a = other_words word done part a
part_words word done (written.StructBody at tag fields) part a = other_words word done part a
part_words word done (written.Enum at tag) part a = other_words word done part a
part_words word done (written.EnumBody at tag list) part a = other_words word done part a

all_words :
    (word : StorageWord) (w : World) (alone : Bool) (done : SpecsTree) (specs : written.SpecTrees)
    → AllTyped (λ s v. is_word word s.storage ≡ is_word word done.storage || has_storage word specs) (TypesSpecs w alone done specs)
unfolding TypesSpecs has_storage
all_words word w alone done written.no_specs = is_as (typed_as (sym (or_none (is_word word done.storage))))
all_words word w alone done (written.more_specs spec rest) =
    then_as (spec_adds w alone spec) (λ part v a o p. as_made (λ s u e.
    e ∙ ap (λ b. b || has_storage word rest) (part_words word done spec part a)
    ∙ or_then (is_word word done.storage) (is_this_word word spec) (has_storage word rest)
    ∙ ap (λ b. is_word word done.storage || b) (sym (has_first word spec rest))) (all_words word v alone (with_part done part) rest o p))

-- the words of specs are those that are written
pub words_are : (word : StorageWord) (w v : World) (alone : Bool) (specs : written.SpecTrees) (s : SpecsTree) → TypesSpecs w alone no_specs_yet specs (Typed s v) → is_word word s.storage ≡ has_storage word specs
words_are word w v alone specs s t = typed_from (all_words word w alone no_specs_yet specs (Typed s v) t)
