-- Types of expressions, specs and declarators only make the changes of Reaches.
use Rattle.std.proofs.Common.{◌≡◌, refl, sym, ap, subst, ⊎_elim, arith}
use Rattle.std.specs.Prelude.{ℕ, ◌≤◌, IsSomeAnd, ◌+◌, ◌^◌, ◌<◌, nat_lt, ◌||◌, ◌+ℤ◌, ℤ, pos, negsuc, Bool, true, false, if◌then◌else◌, Option, Some, None, option_map, List, [], ◌∷◌, ◌++◌, length, take, drop, reverse, find, All, bytes_eq}
use Rattle.std.proofs.lemmas.Bool.{ltb-true, ltb-false}
use Rattle.std.proofs.lemmas.List.Elements.{All-nil, All-push, All-drop, All-map, All-weaker}
use Rattle.std.proofs.lemmas.List.{map-append, length-append, length-set}
use Rattle.c_syntax_written.specs.declared.place.Pos.{Pos}
use Rattle.c_syntax_written.specs.declared.written.Tag.{Tag}
use Rattle.c_syntax_written.specs.Written as written
use Rattle.c_syntax.specs.Types.{CTypeTree, Void, Int, Pointer, Array, Struct, Function}
use Rattle.c_typing.proofs.Changes.{Changes, within, may_constant, NamesAny, names_within}
use Rattle.c_typing.specs.World.{World, Form, Plain, Unsized, Callable, Meaning, Object, Missing, Parameter, TypeName, Enumeration, TagMeaning, StructTag, EnumTag, OpenEnumTag, Binding, TagBinding, Refusal, NotConstant, ObjectTooLarge, Unsupported, Outcome, Typed, Refused, Then, goes_on, stops, Is}
use Rattle.c_syntax_written.specs.declared.construct.Construct.TheVariants as constructs
use Rattle.c_layout.specs.RowTypes.{has_const_elements}
use Rattle.c_typing.specs.World as world
use Rattle.c_typing.specs.Names as names
use Rattle.c_typing.specs.Operands.{OperandTree, complete_size}
use Rattle.c_typing.specs.Specifiers as specifiers
use Rattle.c_typing.specs.Declarators as declarators
use Rattle.c_typing.specs.Declarators.{DeclaredName, ParameterTree, Step, PointerTo, ArrayOf, OpenArray, FunctionOf, Shape}
use Rattle.c_typing.specs.Typing as typing
use Rattle.c_typing.specs.Typing.{Types, TypesArgs, TypesSpecs, TypesSpec, TypesMembers, TypesMemberNames, TypesEnumerators, TypesDeclarator, TypesParams, Valued, MemberMade}
use Rattle.c_syntax_written.specs.WrittenParts.{expr_pos}
use Rattle.c_typing.specs.Constants.{constant_value}
use Rattle.c_typing.proofs.Reaches as reaches
use Rattle.c_typing.proofs.Opens.{Opens, IsOpen, open_either, open_drop, open_apart, distinct_drop, found_open, found_closed}
use Rattle.c_typing.proofs.MadeTables.{AreMade, IsIncomplete, get_last, complete_below, made_kept, empty_struct}
use Rattle.c_layout.specs.ProperTypes.{IsTold}
use Rattle.c_layout.specs.Layout.{size_in, align_in, padded}
use Rattle.c_typing.proofs.MadeMembers.{nothing_made, made_more, last_ends, complete_held, complete_is_size, complete_is_told}
use Rattle.c_typing.proofs.SoundTables.{AreSound, sound_nothing_yet, sound_kept, sound_more, some_bytes, typed_table}
use Rattle.c_typing.proofs.Good.{Good, Frame, IsBegun, IsAside, frame_then, frame_same, frame_closed, frame_keeps, aside_kept, is_later, good_closed}
use Rattle.c_typing.proofs.Reaches.{Reaches, Kept, kept, Goes, typed, refused, goes_same, goes_if, goes_unless, goes_after, AllGo, then_goes, scope_goes, is_goes, enters, GoesWith, typed_so, refused_so, with_after, with_if, AllWith, all_forget, is_with, then_with, so_with, list_with}
use Rattle.c_typing.specs.Later.{IsLater}
use Rattle.c_typing.specs.Formed.{IsFormed, IsFormedForm, IsFormedMeaning, IsFormedTag}
use Rattle.c_typing.proofs.Later.{formed_later, all_later, form_later, meaning_later}
use Rattle.c_typing.proofs.FormsGo.{FormAt, formed_at, unformed, found_each, mapped, all_reverse, type_told_at, IsFormedStep, AreFormedSteps, laid_at, parameter_formed, int_is}
use Rattle.c_typing.proofs.NodesGo as nodes_go

-- ---- names and tags

pub unless_declared : {may : Changes} {A : Type 0} {w : World} (at : Pos) (first : Option Pos) {o : Outcome A} → Goes may w o → Goes may w (names.unless_declared at first o)
unless_declared at None p = p
unless_declared at (Some first) p = refused

pub new_struct : {may : Changes} (w : World) (tag : Tag) (defined : Option Pos) → Goes may w (names.new_struct w tag defined)
new_struct w tag defined = typed (reaches.new_struct w tag defined)

-- a struct by its number, in the world that is left
abbrev pub NumberIn : ℕ → World → Type 0
NumberIn n v = n < length v.structs

new_in : {may : Changes} (w : World) (tag : Tag) (defined : Option Pos) → GoesWith may w NumberIn (names.new_struct w tag defined)
new_in w tag defined = typed_so (reaches.new_struct w tag defined) (rw length-append (omega arith))

outside_if : {may : Changes} (w : World) (tag : Tag) (n : ℕ) (alone : Bool) → n < length w.structs → GoesWith may w NumberIn (if alone then names.new_struct w tag None else Typed n w)
outside_if w tag n true h = new_in w tag None
outside_if w tag n false h = typed_so (reaches.stays w) h

outside_in :
    {may : Changes} (w : World) (alone : Bool) (tag : Tag) (m : Option TagMeaning) → ((meaning : TagMeaning) → m ≡ Some meaning → IsFormedTag w.structs meaning)
    → GoesWith may w NumberIn (names.struct_from_outside w alone tag m)
outside_in w alone tag None f = new_in w tag None
outside_in w alone tag (Some (StructTag n)) f = outside_if w tag n alone (f (StructTag n) refl)
outside_in w alone tag (Some EnumTag) f = new_in w tag None
outside_in w alone tag (Some OpenEnumTag) f = new_in w tag None

here_in : {may : Changes} (w : World) (tag : Tag) (b : TagBinding) (m : TagMeaning) → IsFormedTag w.structs m → GoesWith may w NumberIn (names.struct_here w tag b m)
here_in w tag b (StructTag n) f = typed_so (reaches.stays w) f
here_in w tag b EnumTag f = refused_so
here_in w tag b OpenEnumTag f = refused_so

found_in :
    {may : Changes} (w : World) (alone : Bool) (tag : Tag) (o : Option TagBinding) → Good w → names.tag_here w tag.name ≡ o → GoesWith may w NumberIn (names.struct_found w alone tag o)
found_in w alone tag None good e =
    outside_in w alone tag (option_map (λ b. b.meaning) (names.tag_in_scope w tag.name)) (λ meaning r.
    mapped (λ b. b.meaning) (names.tag_in_scope w tag.name) meaning (IsFormedTag w.structs) (λ b q.
    found_each (λ c. IsFormedTag w.structs c.meaning) (λ c. bytes_eq c.tag tag.name) (reverse w.tags) b (all_reverse (λ c. IsFormedTag w.structs c.meaning) w.tags good.formed.tags) q) r)
found_in w alone tag (Some b) good e =
    here_in w tag b b.meaning (found_each (λ c. IsFormedTag w.structs c.meaning) (λ c. bytes_eq c.tag tag.name) (drop w.first_tag w.tags) b
    (All-drop (λ c. IsFormedTag w.structs c.meaning) w.first_tag w.tags good.formed.tags) e)

pub struct_found : {may : Changes} (w : World) (alone : Bool) (tag : Tag) → Good w → GoesWith may w NumberIn (names.struct_named w alone tag)
struct_found w alone tag good = found_in w alone tag (names.tag_here w tag.name) good refl

-- a struct between its braces, in the world in which they open
abbrev Begins : World → ℕ → World → Type 0
Begins w n v = IsBegun w v n

-- no tag has the number of a struct to come
not_yet : (w : World) → Good w → IsOpen (length w.structs) w.tags → ⊥
not_yet w good p = let bare = good.incomplete (length w.structs) p in absurd (omega (arith, complete_below w.structs (length w.structs) bare.def bare.there))

last_incomplete : (w : World) (tag : List ℕ) → IsIncomplete (names.with_struct w tag).structs (length w.structs)
last_incomplete w tag = record { def = empty_struct tag; there = get_last w.structs (empty_struct tag); empty = refl }

begins_new : {may : Changes} (w : World) (tag : Tag) → Good w → GoesWith may w (Begins w) (names.new_struct w tag (Some tag.pos))
begins_new w tag good = typed_so (reaches.new_struct w tag (Some tag.pos)) (record {
  incomplete = last_incomplete w tag.name;
  shut = λ p. ⊎_elim (not_yet w good) (λ r. ⊎_elim (λ a. let u : Some tag.pos ≡ None = a.undefined in absurd cc) (λ none. none) r) (open_either (length w.structs) w.tags _ p);
  from = λ h c. absurd (omega arith);
})

begins_found :
    {may : Changes} (w : World) (tag : Tag) (b : TagBinding) (n : ℕ) → Good w → names.tag_here w tag.name ≡ Some b → b.meaning ≡ StructTag n → b.defined ≡ None
    → GoesWith may w (Begins w) (Typed n (names.with_tag_become w tag.name (Some tag.pos) (StructTag n)))
begins_found w tag b n good e m d = typed_so (reaches.tag_changed w tag.name tag.pos (StructTag n) (complete_below w.structs n now.def now.there)) (record {
  incomplete = good.incomplete n (open_drop n w.first_tag w.tags here);
  shut = λ p. ⊎_elim (λ l. open_apart n w.first_tag w.tags good.distinct l here)
      (λ r. found_closed n tag.pos (StructTag n) tag.name (drop w.first_tag w.tags) b (distinct_drop w.first_tag w.tags good.distinct) e opens r)
      (open_either n (take w.first_tag w.tags) _ p);
  from = λ h c. c (open_drop n w.first_tag w.tags here);
})
  where
    now : IsIncomplete w.structs n
    now = good.incomplete n (open_drop n w.first_tag w.tags (found_open n tag.name (drop w.first_tag w.tags) b e (record { declared = m; undefined = d })))

    opens : Opens n b
    opens = record { declared = m; undefined = d }

    here : IsOpen n (drop w.first_tag w.tags)
    here = found_open n tag.name (drop w.first_tag w.tags) b e opens

begins_defined :
    {may : Changes} (w : World) (tag : Tag) (b : TagBinding) (n : ℕ) (before : Option Pos) → Good w → names.tag_here w tag.name ≡ Some b → b.meaning ≡ StructTag n → b.defined ≡ before
    → GoesWith may w (Begins w) (names.struct_defined w tag n before)
begins_defined w tag b n None good e m d = begins_found w tag b n good e m d
begins_defined w tag b n (Some first) good e m d = refused_so

begins_begun :
    {may : Changes} (w : World) (tag : Tag) (b : TagBinding) (meaning : TagMeaning) → Good w → names.tag_here w tag.name ≡ Some b → b.meaning ≡ meaning
    → GoesWith may w (Begins w) (names.struct_begun w tag b meaning)
begins_begun w tag b (StructTag n) good e m = begins_defined w tag b n b.defined good e m refl
begins_begun w tag b EnumTag good e m = refused_so
begins_begun w tag b OpenEnumTag good e m = refused_so

begins_at : {may : Changes} (w : World) (tag : Tag) (found : Option TagBinding) → Good w → names.tag_here w tag.name ≡ found → GoesWith may w (Begins w) (names.struct_begins w tag found)
begins_at w tag None good e = begins_new w tag good
begins_at w tag (Some b) good e = begins_begun w tag b b.meaning good e refl

pub struct_opened : {may : Changes} (w : World) (tag : Option Tag) → Good w → GoesWith may w (Begins w) (names.struct_opened w tag)
struct_opened w None good = typed_so (reaches.struct w []) (record {
  incomplete = last_incomplete w [];
  shut = not_yet w good;
  from = λ h c. absurd (omega arith);
})
struct_opened w (Some tag) good = begins_at w tag _ good refl

pub enum_from_outside : {may : Changes} (w : World) (tag : Tag) (m : Option TagMeaning) → Goes may w (names.enum_from_outside w tag m)
enum_from_outside w tag None = refused
enum_from_outside w tag (Some (StructTag n)) = refused
enum_from_outside w tag (Some EnumTag) = goes_same
enum_from_outside w tag (Some OpenEnumTag) = refused

pub enum_here : {may : Changes} (w : World) (tag : Tag) (b : TagBinding) (m : TagMeaning) → Goes may w (names.enum_here w tag b m)
enum_here w tag b (StructTag n) = refused
enum_here w tag b EnumTag = goes_same
enum_here w tag b OpenEnumTag = refused

pub enum_found : {may : Changes} (w : World) (tag : Tag) (b : Option TagBinding) → Goes may w (names.enum_found w tag b)
enum_found w tag None = enum_from_outside w tag _
enum_found w tag (Some b) = enum_here w tag b _

pub enum_begins : {may : Changes} (w : World) (tag : Tag) (b : Option TagBinding) → Goes may w (names.enum_begins w tag b)
enum_begins w tag None = typed (reaches.enumeration w tag _)
enum_begins w tag (Some b) = refused

pub enum_opened : {may : Changes} (w : World) (tag : Option Tag) → Goes may w (names.enum_opened w tag)
enum_opened w None = goes_same
enum_opened w (Some tag) = enum_begins w tag _

pub enum_closes : {may : Changes} (w : World) (tag : Option Tag) → Reaches may w (names.enum_closed w tag)
enum_closes w None = reaches.stays w
enum_closes w (Some tag) = reaches.tag_changed w tag.name tag.pos _ tt

-- ---- specs

pub or_undeclared : {may : Changes} (at : Pos) (form : Option Form) (w : World) → Goes may w (specifiers.or_undeclared at form w)
or_undeclared at None w = refused
or_undeclared at (Some form) w = goes_same

pub type_told : {may : Changes} (place : specifiers.Place) (at : Pos) (s : specifiers.SpecsTree) (w : World) → Goes may w (specifiers.type_told place at s w)
type_told place at s w = goes_if _ (or_undeclared at _ w) refused

-- a type in the world that is left
abbrev pub FormIn : Form → World → Type 0
FormIn form v = IsFormedForm v.structs form

pub form_in : {may : Changes} {w : World} (o : Outcome Form) → FormAt w o → GoesWith may w FormIn o
form_in (Typed form v) (formed_at _ f) = typed_so (reaches.stays _) f
form_in (Refused r) f = refused_so

-- the types that specs have so far
abbrev pub SpecsIn : specifiers.SpecsTree → World → Type 0
SpecsIn s v = All (IsFormedForm v.structs) s.types

abbrev pub PartIn : specifiers.SpecPart → World → Type 0
PartIn (specifiers.StoragePart word) v = Unit {0}
PartIn specifiers.ConstPart v = Unit {0}
PartIn (specifiers.WordPart word) v = Unit {0}
PartIn (specifiers.TypePart form) v = IsFormedForm v.structs form

pub with_part : (v : World) (s : specifiers.SpecsTree) (part : specifiers.SpecPart) → SpecsIn s v → PartIn part v → SpecsIn (specifiers.with_part s part) v
with_part v s (specifiers.StoragePart word) all p = all
with_part v s specifiers.ConstPart all p = all
with_part v s (specifiers.WordPart word) all p = all
with_part v s (specifiers.TypePart form) all p = All-push (IsFormedForm v.structs) s.types form all p

pub specs_after : (w v : World) (s : specifiers.SpecsTree) → IsLater w.structs v.structs → SpecsIn s w → SpecsIn s v
specs_after w v s later all = All-weaker (IsFormedForm w.structs) (IsFormedForm v.structs) (λ form f. form_later w.structs v.structs later form f) s.types all

-- what a name means is formed
pub meaning_formed : (w : World) (name : List ℕ) (m : Meaning) → Good w → names.meaning_of w name ≡ Some m → IsFormedMeaning w.structs m
meaning_formed w name m good e =
    mapped (λ b. b.meaning) (find (λ b. bytes_eq b.name name) (reverse w.names)) m (IsFormedMeaning w.structs) (λ b q.
    found_each (λ c. IsFormedMeaning w.structs c.meaning) (λ c. bytes_eq c.name name) (reverse w.names) b (all_reverse (λ c. IsFormedMeaning w.structs c.meaning) w.names good.formed.names) q) e

pub typedef_named : {may : Changes} (w : World) (at : Pos) (m : Option Meaning) → ((meaning : Meaning) → m ≡ Some meaning → IsFormedMeaning w.structs meaning) → GoesWith may w PartIn (typing.typedef_named w at m)
typedef_named w at None f = refused_so
typedef_named w at (Some (Object n)) f = refused_so
typedef_named w at (Some (Missing ty is_const)) f = refused_so
typedef_named w at (Some (Parameter k ty is_const)) f = refused_so
typedef_named w at (Some (world.Function n)) f = refused_so
typedef_named w at (Some (TypeName form)) f = typed_so (reaches.stays w) (f (TypeName form) refl)
typedef_named w at (Some (Enumeration n)) f = refused_so

-- ---- declarators, laid

pub if_sized : {may : Changes} {A : Type 0} {w : World} (r : Refusal) (outcome : ℕ → Outcome A) (size : Option ℕ) → ((n : ℕ) → Goes may w (outcome n)) → Goes may w (declarators.if_sized r outcome size)
if_sized r outcome None f = refused
if_sized r outcome (Some n) f = f n

pub pointer_form : {may : Changes} (w : World) (at : Pos) (is_const : Bool) (form : Form) → Goes may w (declarators.pointer_form w at is_const form)
pointer_form w at is_const (Plain ty c) = goes_same
pointer_form w at is_const (Unsized ty c) = refused
pointer_form w at is_const (Callable params result) = refused

pub sized_array : {may : Changes} (w : World) (size_at : Pos) (n : ℕ) (ty : CTypeTree) (c : Bool) (size : ℕ) → Goes may w (declarators.sized_array w size_at n ty c size)
sized_array w size_at n ty c size = goes_if _ refused goes_same

pub array_form : {may : Changes} (w : World) (at size_at : Pos) (n : ℕ) (form : Form) → Goes may w (declarators.array_form w at size_at n form)
array_form w at size_at n (Plain ty c) = if_sized _ _ _ (sized_array w size_at n ty c)
array_form w at size_at n (Unsized ty c) = refused
array_form w at size_at n (Callable params result) = refused

pub open_form : {may : Changes} (w : World) (at : Pos) (form : Form) → Goes may w (declarators.open_form w at form)
open_form w at (Plain ty c) = if_sized _ _ _ (λ size. goes_same)
open_form w at (Unsized ty c) = refused
open_form w at (Callable params result) = refused

pub result_form : {may : Changes} (w : World) (at : Pos) (params : List CTypeTree) (ty : CTypeTree) → Goes may w (declarators.result_form w at params ty)
result_form w at params Void = goes_same
result_form w at params (Int t) = goes_same
result_form w at params (Pointer to c) = goes_same
result_form w at params (Array of c n) = refused
result_form w at params (Struct n) = refused
result_form w at params (Function n) = goes_same

pub function_form : {may : Changes} (w : World) (at : Pos) (params : List CTypeTree) (form : Form) → Goes may w (declarators.function_form w at params form)
function_form w at params (Plain ty c) = result_form w at params ty
function_form w at params (Unsized ty c) = refused
function_form w at params (Callable types result) = refused

pub step_form : {may : Changes} (w : World) (at : Pos) (step : Step) (form : Form) → Goes may w (declarators.step_form w at step form)
step_form w at (PointerTo is_const) form = pointer_form w at is_const form
step_form w at (ArrayOf size_at n) form = array_form w at size_at n form
step_form w at OpenArray form = open_form w at form
step_form w at (FunctionOf params names tags) form = function_form w at _ form

pub after_step : {may : Changes} (w : World) (at : Pos) (step : Step) (o : Outcome Form) → Goes may w (declarators.after_step w at step o)
after_step w at step (Typed form v) = step_form w at step form
after_step w at step (Refused r) = refused

pub laid : {may : Changes} (w : World) (at : Pos) (steps : List Step) (base : Form) → Goes may w (declarators.laid w at steps base)
unfolding declarators.laid
laid w at [] base = goes_same
laid w at (step ∷ rest) base = after_step w at step _

sized_in : {w : World} (first : Pos) (o : Outcome Form) → FormAt w o → FormAt w (typing.sized_name first o)
sized_in first (Typed (Plain ty c) w) p = p
sized_in first (Typed (Unsized ty c) w) p = unformed
sized_in first (Typed (Callable params result) w) p = p
sized_in first (Refused r) p = unformed

unnamed_in : {w : World} (name : Option DeclaredName) (o : Outcome Form) → FormAt w o → FormAt w (typing.unnamed name o)
unnamed_in None o p = p
unnamed_in (Some named) o p = unformed

pub type_name :
    {may : Changes} (w : World) (first : Pos) (base : Form) (shape : Shape) → AreFormedSteps w.structs shape.steps → IsFormedForm w.structs base → GoesWith may w FormIn (typing.type_name w first base shape)
type_name w first base shape s f = form_in _ (unnamed_in shape.name _ (sized_in first _ (laid_at w first shape.steps base s f)))

-- ---- members, enumerators, parameters

pub enumerator : {may : Changes} (w : World) (at value_at : Pos) (name : List ℕ) (n : Option ℤ) → Goes may w (typing.enumerator w at value_at name n)
enumerator w at value_at name None = refused
enumerator {may = may} w at value_at name (Some n) = by (typing.is_int n) refl
  where
    by : (b : Bool) → typing.is_int n ≡ b → Goes may w (if b then names.unless_declared at (names.first_here w at name) (Typed (n +ℤ pos 1) (names.with_name w at name (Enumeration n))) else Refused (NotConstant value_at))
    by true e = unless_declared at _ (typed (reaches.named w at name (Enumeration n) (int_is n e) (may_constant may n)))
    by false e = refused

-- ---- the tags that parameter lists leave aside

aside_none : (t v : World) → IsAside t v []
aside_none t v = record { incomplete = λ n p. absurd p; apart = λ n p q. p; distinct = tt; formed = All-nil (λ b. IsFormedTag v.structs b.meaning); from = λ n p h c. p }

-- a parameter list: its parameters and names are formed, and its tags stand aside
pub record ListIn (t v : World) (params : List ParameterTree) (names : List Binding) (tags : List TagBinding) : Type 0 where
  pub types : All (IsFormed v.structs) (declarators.types_of_params params)
  pub formed : All (λ b. IsFormedMeaning v.structs b.meaning) names
  pub aside : IsAside t v tags

abbrev pub StepIn : World → World → Step → Type 0
StepIn t v (PointerTo c) = Unit {0}
StepIn t v (ArrayOf at n) = 0 < n
StepIn t v OpenArray = Unit {0}
StepIn t v (FunctionOf params names tags) = ListIn t v params names tags

abbrev pub AreAside : World → World → List Step → Type 0
AreAside t v [] = Unit {0}
AreAside t v (step ∷ rest) = StepIn t v step × AreAside t v rest

-- a declarator whose parameter lists leave tags aside, from the world in which it begins
abbrev pub ShapeIn : World → Shape → World → Type 0
ShapeIn t shape v = AreAside t v shape.steps

step_kept : (t u v : World) (step : Step) → Frame u v → IsLater u.structs v.structs → StepIn t u step → StepIn t v step
step_kept t u v (PointerTo c) f later a = a
step_kept t u v (ArrayOf at n) f later a = a
step_kept t u v OpenArray f later a = a
step_kept t u v (FunctionOf params names tags) f later a = record {
  types = all_later u.structs v.structs later (declarators.types_of_params params) a.types;
  formed = All-weaker (λ b. IsFormedMeaning u.structs b.meaning) (λ b. IsFormedMeaning v.structs b.meaning) (λ b g. meaning_later u.structs v.structs later b.meaning g) names a.formed;
  aside = aside_kept t u v tags f later a.aside;
}

pub asides_kept : (t u v : World) (steps : List Step) → Frame u v → IsLater u.structs v.structs → AreAside t u steps → AreAside t v steps
asides_kept t u v [] f later a = tt
asides_kept t u v (step ∷ rest) f later a = (step_kept t u v step f later a.0, asides_kept t u v rest f later a.1)

asides_then : (t v : World) (steps : List Step) (step : Step) → AreAside t v steps → StepIn t v step → AreAside t v (steps ++ step ∷ [])
asides_then t v [] step a b = (b, tt)
asides_then t v (x ∷ rest) step a b = (a.0, asides_then t v rest step a.1 b)

step_formed : (t v : World) (step : Step) → StepIn t v step → IsFormedStep v.structs step
step_formed t v (PointerTo c) a = tt
step_formed t v (ArrayOf at n) a = a
step_formed t v OpenArray a = tt
step_formed t v (FunctionOf params names tags) a = a.types

pub steps_formed : (t v : World) (steps : List Step) → AreAside t v steps → AreFormedSteps v.structs steps
steps_formed t v [] a = tt
steps_formed t v (step ∷ rest) a = (step_formed t v step a.0, steps_formed t v rest a.1)

array_sized : {may : Changes} (t w : World) (size_at : Pos) (shape : Shape) (n : Option ℤ) → AreAside t w shape.steps → GoesWith may w (ShapeIn t) (typing.array_sized w size_at shape n)
array_sized t w size_at shape None a = refused_so
array_sized {may = may} t w size_at shape (Some (pos n)) a = by (nat_lt 0 n) refl
  where
    by : (b : Bool) → nat_lt 0 n ≡ b → GoesWith may w (ShapeIn t) (if b then Typed (typing.with_step shape (ArrayOf size_at n)) w else Refused (NotConstant size_at))
    by true e = typed_so (reaches.stays w) (asides_then t w shape.steps (ArrayOf size_at n) a (ltb-true 0 n e))
    by false e = refused_so
array_sized t w size_at shape (Some (negsuc n)) a = refused_so

-- the tags of a parameter list, when its scope ends
list_aside : (t u v : World) → Frame t u → Frame (names.opened u) v → Good v → IsAside t (names.closed u v) (drop (length u.tags) v.tags)
list_aside t u v f g good = record {
  incomplete = λ n p. good.incomplete n (open_drop n (length u.tags) v.tags p);
  apart = λ n p q. open_apart n (length u.tags) v.tags good.distinct q p;
  distinct = distinct_drop (length u.tags) v.tags good.distinct;
  formed = All-drop (λ b. IsFormedTag v.structs b.meaning) (length u.tags) v.tags good.formed.tags;
  from = λ n p h c. (frame_then t (names.opened u) v (frame_then t u (names.opened u) f (frame_same u (names.opened u) refl refl)) g).shut n h c
      (open_drop n (length u.tags) v.tags p);
}

-- the members so far, in the world that they leave
pub record MadeIn (done : List MemberMade) (v : World) : Type 0 where
  pub made : AreMade v.structs (typing.members_made done)
  pub sound : AreSound v.structs (typing.members_made done)

pub no_members_yet : (v : World) → MadeIn [] v
no_members_yet v = record { made = nothing_made v.structs; sound = sound_nothing_yet v.structs }

pub made_after : (w v : World) (done : List MemberMade) → Good w → Good v → Frame w v → MadeIn done w → MadeIn done v
made_after w v done good after f m = record {
  made = made_kept w.structs v.structs (frame_keeps w v good f) (typing.members_made done) m.made;
  sound = sound_kept w.structs v.structs (is_later w v good after f) (typing.members_made done) m.made.complete m.sound;
}

pub with_unless : {may : Changes} {A : Type 0} {w : World} {P : A → World → Type 0} (b : Bool) (r : Refusal) {x : Outcome A} → GoesWith may w P x → GoesWith may w P (world.unless b r x)
with_unless b r p = with_if b refused_so p

pub with_declared : {may : Changes} {A : Type 0} {w : World} {P : A → World → Type 0} (at : Pos) (first : Option Pos) {o : Outcome A} → GoesWith may w P o → GoesWith may w P (names.unless_declared at first o)
with_declared at None p = p
with_declared at (Some first) p = refused_so

member_typed :
    (w : World) (named : DeclaredName) (ty : CTypeTree) (done : List MemberMade) (size : ℕ) → Good w → MadeIn done w → IsFormed w.structs ty → complete_size w.structs ty ≡ Some size
    → typing.next_offset w done ty + size ≤ 2 ^ 40 → MadeIn (typing.with_member w named ty done) w
member_typed w named ty done size good m f e h = record {
  made = subst (λ members. AreMade w.structs members) (sym (map-append (λ x. x.member) done _))
      (made_more w.structs good.made (typing.members_made done) _ m.made (complete_held w.structs ty size e) (ap (λ end. padded end (align_in w.structs ty)) (last_ends w done m.made)));
  sound = subst (λ members. AreSound w.structs members) (sym (map-append (λ x. x.member) done _))
      (sound_more w.structs good.made (typing.members_made done) _ size m.sound (record { formed = f; size = subst (λ o. IsSomeAnd o (λ s. (0 < s) × IsTold s)) (sym is) (some, told) }) is
      (subst (λ end. padded end (align_in w.structs ty) + size ≤ 2 ^ 40) (last_ends w done m.made) h));
}
  where
    is : size_in w.structs ty ≡ Some size
    is = complete_is_size w.structs ty size e

    told : IsTold size
    told = complete_is_told w.structs ty size e

    some : 0 < size
    some = some_bytes w.structs (typed_table w.structs good.made good.sound) ty size f is

within_so :
    {may : Changes} {A : Type 0} {w : World} {P : A → World → Type 0} (large : Bool) (r : Refusal) {x : Outcome A} → (large ≡ false → GoesWith may w P x)
    → GoesWith may w P (world.unless large r x)
within_so true r f = refused_so
within_so false r f = f refl

pub member_sized : {may : Changes}
    (w : World) (named : DeclaredName) (ty : CTypeTree) (is_const : Bool) (done : List MemberMade) (size : ℕ) → Good w → MadeIn done w → IsFormed w.structs ty
    → complete_size w.structs ty ≡ Some size → GoesWith may w MadeIn (typing.member_sized w named ty is_const done size)
member_sized w named ty is_const done size good made f e =
    with_declared named.pos _
    (within_so (nat_lt (2 ^ 40) (typing.next_offset w done ty + size)) (ObjectTooLarge named.pos (2 ^ 40)) (λ h.
    with_unless (is_const || has_const_elements ty) (Unsupported named.pos constructs.ConstMember)
    (typed_so (reaches.stays w) (member_typed w named ty done size good made f e (ltb-false (2 ^ 40) (typing.next_offset w done ty + size) h)))))

pub with_size :
    {may : Changes} {A : Type 0} {w : World} {P : A → World → Type 0} (r : Refusal) (outcome : ℕ → Outcome A) (size : Option ℕ)
    → ((n : ℕ) → size ≡ Some n → GoesWith may w P (outcome n)) → GoesWith may w P (declarators.if_sized r outcome size)
with_size r outcome None f = refused_so
with_size r outcome (Some n) f = f n refl

pub member_of : {may : Changes} (w : World) (named : DeclaredName) (form : Form) (done : List MemberMade) → Good w → MadeIn done w → IsFormedForm w.structs form → GoesWith may w MadeIn (typing.member_of w named form done)
member_of w named (Plain ty c) done good made f = with_size _ _ (complete_size w.structs ty) (λ n e. member_sized w named ty c done n good made f e)
member_of w named (Unsized ty c) done good made f = refused_so
member_of w named (Callable params result) done good made f = refused_so

pub member_laid : {may : Changes}
    {w : World} (named : DeclaredName) (done : List MemberMade) (o : Outcome Form) → Good w → MadeIn done w → FormAt w o → GoesWith may w MadeIn (typing.member_laid named done o)
member_laid named done (Typed form v) good made (formed_at _ f) = member_of v named form done good made f
member_laid named done (Refused q) good made p = refused_so

pub its_name :
    {may : Changes} {A : Type 0} {w : World} {P : A → World → Type 0} (first : Pos) (name : Option DeclaredName) (outcome : DeclaredName → Outcome A)
    → ((named : DeclaredName) → GoesWith may w P (outcome named)) → GoesWith may w P (typing.with_its_name first name outcome)
its_name first None outcome f = refused_so
its_name first (Some named) outcome f = f named

pub member_made : {may : Changes}
    (w : World) (first : Pos) (base : Form) (done : List MemberMade) (shape : Shape) → Good w → MadeIn done w → AreFormedSteps w.structs shape.steps → IsFormedForm w.structs base
    → GoesWith may w MadeIn (typing.member_made w first base done shape)
member_made w first base done shape good made s f = its_name first shape.name _ (λ named. member_laid named done _ good made (laid_at w named.pos shape.steps base s f))

pub unless_named_before : {may : Changes} {A : Type 0} (w : World) (name : Option DeclaredName) {o : Outcome A} → Goes may w o → Goes may w (typing.unless_named_before w name o)
unless_named_before w None p = p
unless_named_before w (Some named) p = unless_declared named.pos _ p

-- a parameter of a formed type, in the world that is left
abbrev pub ParamIn : ParameterTree → World → Type 0
ParamIn param v = IsFormed v.structs param.ty

with_before : {may : Changes} (w : World) (name : Option DeclaredName) {o : Outcome ParameterTree} → GoesWith may w ParamIn o → GoesWith may w ParamIn (typing.unless_named_before w name o)
with_before w None p = p
with_before w (Some named) p = with_declared named.pos _ p

pub with_parameter : {may : Changes} (w : World) (name : Option DeclaredName) (k : ℕ) (ty : CTypeTree) (c : Bool) → NamesAny may → IsFormed w.structs ty → Reaches may w (typing.with_parameter w name (Parameter k ty c))
with_parameter w None k ty c any f = reaches.stays w
with_parameter w (Some named) k ty c any f = reaches.named w named.pos named.name (Parameter k ty c) f (any (Parameter k ty c))

with_kept : (w : World) (name : Option DeclaredName) (k : ℕ) (ty : CTypeTree) (c : Bool) → IsFormed w.structs ty → IsFormed (typing.with_parameter w name (Parameter k ty c)).structs ty
with_kept w None k ty c f = f
with_kept w (Some named) k ty c f = f

one_parameter :
    {may : Changes} (w : World) (at : Pos) (name : Option DeclaredName) (k : ℕ) (ty : CTypeTree) (c : Bool) → NamesAny may → IsFormed w.structs ty
    → GoesWith may w ParamIn (typing.unless_named_before w name (Typed (typing.parameter_tree at name ty c) (typing.with_parameter w name (Parameter k ty c))))
one_parameter w at name k ty c any f = with_before w name (typed_so (with_parameter w name k ty c any f) (with_kept w name k ty c f))

pub parameter_sized : {may : Changes} (w : World) (at : Pos) (name : Option DeclaredName) (k : ℕ) (ty : CTypeTree) (c : Bool) → NamesAny may → IsFormed w.structs ty → GoesWith may w ParamIn (typing.parameter_sized w at name k ty c)
parameter_sized w at name k (Struct n) c any f = with_before w name refused_so
parameter_sized w at name k Void c any f = one_parameter w at name k Void c any f
parameter_sized w at name k (Int t) c any f = one_parameter w at name k (Int t) c any f
parameter_sized w at name k (Pointer to d) c any f = one_parameter w at name k (Pointer to d) c any f
parameter_sized w at name k (Array of d n) c any f = one_parameter w at name k (Array of d n) c any f
parameter_sized w at name k (Function n) c any f = absurd f

pub parameter_of : {may : Changes} (w : World) (at : Pos) (name : Option DeclaredName) (k : ℕ) (form : Form) → NamesAny may → IsFormedForm w.structs form → GoesWith may w ParamIn (typing.parameter_of w at name k form)
parameter_of w at name k (Plain ty c) any f = with_size _ _ (complete_size w.structs ty) (λ size e. parameter_sized w at name k ty c any f)
parameter_of w at name k (Unsized ty c) any f = with_before w name refused_so
parameter_of w at name k (Callable params result) any f = with_before w name refused_so

pub parameter_laid : {may : Changes} {w : World} (at : Pos) (name : Option DeclaredName) (k : ℕ) (o : Outcome Form) → NamesAny may → FormAt w o → GoesWith may w ParamIn (typing.parameter_laid at name k o)
parameter_laid at name k (Typed form v) any (formed_at _ f) = parameter_of v at name k (declarators.parameter_type form) any (parameter_formed v.structs form f)
parameter_laid at name k (Refused q) any p = refused_so

pub parameter_made :
    {may : Changes} (w : World) (first : Pos) (base : Form) (k : ℕ) (shape : Shape) → NamesAny may → AreFormedSteps w.structs shape.steps → IsFormedForm w.structs base → GoesWith may w ParamIn (typing.parameter_made w first base k shape)
parameter_made w first base k shape any s f = parameter_laid _ shape.name k _ any (laid_at w _ shape.steps base s f)

-- ---- the relation

pub valued : {may : Changes} {w : World} {first : Outcome OperandTree → Type 0} → AllGo may w first → AllGo may w (Valued first)
valued f = then_goes f (λ x v r. is_goes goes_same)

pub of_type_name :
    {may : Changes} {w : World} (first : Pos) {specs : Outcome specifiers.SpecsTree → Type 0} {declarator : World → Outcome Shape → Type 0}
    → AllWith may w SpecsIn specs → ((v : World) → AllWith may v (ShapeIn v) (declarator v)) → AllWith may w FormIn (typing.OfTypeName first specs declarator)
of_type_name first f g =
    so_with f (λ s v r p k. so_with (is_with (λ good. form_in _ (type_told_at specifiers.OfPlainType first s v p))) (λ base v2 r2 b k2.
    so_with (g v2) (λ shape v3 r3 a k3. is_with (λ good.
    type_name v3 first base shape (steps_formed v2 v3 shape.steps a) (form_later v2.structs v3.structs (is_later v2 v3 k2.good k3.good k3.frame) base b)))))

pub of_parameter :
    {may : Changes} {w : World} (k : ℕ) (first : Pos) {specs : Outcome specifiers.SpecsTree → Type 0} {declarator : World → Outcome Shape → Type 0}
    → NamesAny may → AllWith may w SpecsIn specs → ((v : World) → AllWith may v (ShapeIn v) (declarator v)) → AllWith may w ParamIn (typing.OfParameter k first specs declarator)
of_parameter n first any f g =
    so_with f (λ s v r p k. so_with (is_with (λ good. form_in _ (type_told_at specifiers.OfParameter first s v p))) (λ base v2 r2 b k2.
    so_with (g v2) (λ shape v3 r3 a k3. is_with (λ good.
    parameter_made v3 first base n shape any (steps_formed v2 v3 shape.steps a) (form_later v2.structs v3.structs (is_later v2 v3 k2.good k3.good k3.frame) base b)))))

-- nothing so far
pub none_yet : (w : World) → SpecsIn specifiers.no_specs_yet w
none_yet w = All-nil (IsFormedForm w.structs)

abbrev pub ParamsIn : List ParameterTree → World → Type 0
ParamsIn params v = All (λ param. IsFormed v.structs param.ty) params

pub no_params_yet : (w : World) → ParamsIn [] w
no_params_yet w = All-nil (λ param. IsFormed w.structs param.ty)

pub params_after : (w v : World) (params : List ParameterTree) → IsLater w.structs v.structs → ParamsIn params w → ParamsIn params v
params_after w v params later all = All-weaker (λ x. IsFormed w.structs x.ty) (λ x. IsFormed v.structs x.ty) (λ x f. formed_later w.structs v.structs later x.ty f) params all

-- ---- a struct in its braces

closes : {may : Changes} {w v u : World} {n : ℕ} {done : List MemberMade} → Reaches may w v → IsBegun w v n → Kept v u → GoesWith may v MadeIn (Typed done u) → GoesWith may w PartIn (typing.struct_made u n done)
closes {w = w} {v = v} {u = u} {n = n} {done = done} r begun k (typed_so s made) =
    let h = complete_below v.structs n begun.incomplete.def begun.incomplete.there in let l = k.frame.longer in
    typed_so (reaches.body w v u n (typing.members_made done) r begun s made.made made.sound) (rw length-set (omega arith))

kept_made : {may : Changes} {v u : World} {done : List MemberMade} → Good v → GoesWith may v MadeIn (Typed done u) → Kept v u
kept_made {v = v} {u = u} good (typed_so s made) = kept v u s good

in_braces :
    {may : Changes} {w v : World} {n : ℕ} {types : Outcome (List MemberMade) → Type 0} → Good w → GoesWith may w (Begins w) (Typed n v) → AllWith may v MadeIn types
    → (o : Outcome specifiers.SpecPart) → Then types (λ done u. Is (typing.struct_made u n done)) o → GoesWith may w PartIn o
in_braces {may = may} {w = w} {v = v} good (typed_so r begun) f o (goes_on p e) =
    let here = (kept w v r good).good in let s = f here _ p in subst (λ z. GoesWith may w PartIn z) (sym e) (closes r begun (kept_made here s) s)
in_braces good h f _ (stops p) = refused_so

body_goes :
    {may : Changes} {w : World} {x : Outcome ℕ} {types : World → Outcome (List MemberMade) → Type 0} → (Good w → GoesWith may w (Begins w) x) → ((v : World) → AllWith may v MadeIn (types v))
    → AllWith may w PartIn (Then (Is x) (λ n v. Then (types v) (λ done u. Is (typing.struct_made u n done))))
body_goes {may = may} {w = w} b f good o (goes_on {a = n} {w = v} p s) = in_braces good (subst (λ z. GoesWith may w (Begins w) z) (sym p) (b good)) (f v) o s
body_goes b f good _ (stops p) = refused_so

mutual
  unfolding Types TypesArgs TypesSpecs TypesSpec TypesMembers TypesMemberNames TypesEnumerators TypesDeclarator TypesParams

  pub go : {may : Changes} (w : World) (e : written.ExprTree) → AllGo may w (Types w e)
  go w (written.Word at name) = is_goes (nodes_go.word w at name)
  go w (written.Number at c) = is_goes (goes_if _ (nodes_go.given _ _ w) refused)
  go w (written.Character at byte) = is_goes goes_same
  go w (written.Strings at bytes) = is_goes (nodes_go.literal_node w at bytes)
  go w (written.Enclosed at e) = go w e
  go w (written.Index at a b) = then_goes (valued (go w a)) (λ x v r. then_goes (valued (go v b)) (λ y v2 r2. is_goes (nodes_go.given_place _ _ v2)))
  go w (written.Call at name args) = then_goes (go_list w _ args) (λ values v r. is_goes (nodes_go.called_or_read v at name values _))
  go w (written.Dot at a member) = then_goes (go w a) (λ x v r. is_goes (nodes_go.member v at member x))
  go w (written.Arrow at a member) = then_goes (valued (go w a)) (λ x v r. is_goes (nodes_go.given_place _ _ v))
  go w (written.PostStep at way a) = then_goes (go w a) (λ x v r. is_goes (nodes_go.changed _ at x _ _ v))
  go w (written.PreStep at way a) = then_goes (go w a) (λ x v r. is_goes (nodes_go.changed _ at x _ _ v))
  go w (written.Unary at op a) = then_goes (go w a) (λ x v r. is_goes (nodes_go.unary v at op x))
  go w (written.SizeofExpr at a) = then_goes (go w a) (λ x v r. is_goes (nodes_go.given _ _ v))
  go w (written.SizeofType at specs declarator) =
      then_goes (all_forget (of_type_name _ (go_specs w _ _ specs (none_yet w)) (λ v. go_declarator v declarator))) (λ form v r. is_goes (nodes_go.size_of_form v at form))
  go w (written.Cast at specs declarator a) =
      then_goes (all_forget (of_type_name _ (go_specs w _ _ specs (none_yet w)) (λ v. go_declarator v declarator)))
      (λ form v r. then_goes (valued (go v a)) (λ x v2 r2. is_goes (nodes_go.cast v2 at form x)))
  go w (written.Binary at op a b) = then_goes (valued (go w a)) (λ x v r. then_goes (valued (go v b)) (λ y v2 r2. is_goes (nodes_go.given _ _ v2)))
  go w (written.Cond at c a b) =
      then_goes (valued (go w c)) (λ z v r. then_goes (valued (go v a)) (λ x v2 r2. then_goes (valued (go v2 b)) (λ y v3 r3. is_goes (nodes_go.conditional v3 at z x y))))
  go w (written.Assign at a b) = then_goes (go w a) (λ x v r. then_goes (valued (go v b)) (λ y v2 r2. is_goes (nodes_go.changed _ at x _ _ v2)))
  go w (written.Compound at op a b) = then_goes (go w a) (λ x v r. then_goes (valued (go v b)) (λ y v2 r2. is_goes (nodes_go.changed _ at x _ _ v2)))
  go w (written.Comma at a b) = then_goes (valued (go w a)) (λ x v r. then_goes (valued (go v b)) (λ y v2 r2. is_goes goes_same))

  pub go_list : {may : Changes} (w : World) (done : _) (es : written.ExprTrees) → AllGo may w (TypesArgs w done es)
  go_list w done written.no_exprs = is_goes goes_same
  go_list w done (written.more_exprs e es) = then_goes (valued (go w e)) (λ x v r. go_list v _ es)

  pub go_specs : {may : Changes} (w : World) (alone : Bool) (done : _) (specs : written.SpecTrees) → SpecsIn done w → AllWith may w SpecsIn (TypesSpecs w alone done specs)
  go_specs w alone done written.no_specs all good = is_with (λ g. typed_so (reaches.stays w) all) good
  go_specs w alone done (written.more_specs spec rest) all good =
      so_with (go_spec w alone spec) (λ part v r p k. go_specs v alone _ rest (with_part v done part (specs_after w v done (is_later w v good k.good k.frame) all) p)) good

  pub go_spec : {may : Changes} (w : World) (alone : Bool) (spec : written.SpecTree) → AllWith may w PartIn (TypesSpec w alone spec)
  go_spec w alone (written.Storage at word) = is_with (λ good. typed_so (reaches.stays w) tt)
  go_spec w alone (written.Const at) = is_with (λ good. typed_so (reaches.stays w) tt)
  go_spec w alone (written.Basic at word) = is_with (λ good. typed_so (reaches.stays w) tt)
  go_spec w alone (written.TypedefName at name) = is_with (λ good. typedef_named w at _ (λ m e. meaning_formed w name m good e))
  go_spec w alone (written.Struct at tag) = so_with (is_with (λ good. struct_found w alone tag good)) (λ n v r p k. is_with (λ good. typed_so (reaches.stays v) p))
  go_spec w alone (written.StructBody at tag members) = body_goes (struct_opened w tag) (λ v. go_members v [] members (no_members_yet v))
  go_spec w alone (written.Enum at tag) = then_with (is_goes (enum_found w tag _)) (λ unit v r k. is_with (λ good. typed_so (reaches.stays v) tt))
  go_spec w alone (written.EnumBody at tag list) =
      then_with (is_goes (enum_opened w tag)) (λ unit v r k. then_with (go_enumerators v _ list) (λ next v2 r2 k2. is_with (λ good. typed_so (enum_closes v2 tag) tt)))

  pub go_members : {may : Changes} (w : World) (done : _) (members : written.MemberDeclTrees) → MadeIn done w → AllWith may w MadeIn (TypesMembers w done members)
  go_members w done written.no_members made good = is_with (λ g. typed_so (reaches.stays w) made) good
  go_members w done (written.more_members (written.Members at specs list) rest) made good =
      so_with (go_specs w _ _ specs (none_yet w)) (λ s v r p k.
      so_with (is_with (λ g. form_in _ (type_told_at specifiers.OfPlainType (typing.first_of at specs) s v p))) (λ base v2 r2 f k2.
      so_with (go_names v2 _ base done list f (made_after v v2 done k.good k2.good k2.frame (made_after w v done good k.good k.frame made)))
      (λ members v3 r3 made3 k3. go_members v3 _ rest made3))) good

  pub go_names : {may : Changes} (w : World) (first : Pos) (base : Form) (done : _) (list : written.DeclaratorTrees) → IsFormedForm w.structs base → MadeIn done w
      → AllWith may w MadeIn (TypesMemberNames w first base done list)
  go_names w first base done written.no_declarators f made good = is_with (λ g. typed_so (reaches.stays w) made) good
  go_names w first base done (written.more_declarators declarator rest) f made good =
      so_with (go_declarator w declarator) (λ shape v r a k.
      so_with (is_with (λ after. member_made v first base done shape after (made_after w v done good k.good k.frame made) (steps_formed w v shape.steps a)
      (form_later w.structs v.structs (is_later w v good k.good k.frame) base f)))
      (λ members v2 r2 made2 k2. go_names v2 first base _ rest
      (form_later v.structs v2.structs (is_later v v2 k.good k2.good k2.frame) base (form_later w.structs v.structs (is_later w v good k.good k.frame) base f)) made2)) good

  pub go_enumerators : {may : Changes} (w : World) (next : ℤ) (list : written.EnumeratorTrees) → AllGo may w (TypesEnumerators w next list)
  go_enumerators w next written.no_enumerators = is_goes goes_same
  go_enumerators w next (written.more_enumerators (written.Plain at name) rest) = then_goes (is_goes (enumerator w at at name (Some next))) (λ n v r. go_enumerators v n rest)
  go_enumerators w next (written.more_enumerators (written.Valued at name value) rest) =
      then_goes (valued (go w value)) (λ x v r. then_goes (is_goes (enumerator v at (expr_pos value) name (constant_value x))) (λ n v2 r2. go_enumerators v2 n rest))

  pub go_declarator : {may : Changes} (w : World) (declarator : written.DeclaratorTree) → AllWith may w (ShapeIn w) (TypesDeclarator w declarator)
  go_declarator w written.Absent = is_with (λ good. typed_so (reaches.stays w) tt)
  go_declarator w (written.Name at name) = is_with (λ good. typed_so (reaches.stays w) tt)
  go_declarator w (written.Grouped at inner) = go_declarator w inner
  go_declarator w (written.Pointer at is_const inner) =
      so_with (go_declarator w inner) (λ shape v r a k. is_with (λ good. typed_so (reaches.stays v) (asides_then w v shape.steps (PointerTo is_const) a tt)))
  go_declarator w (written.Array at inner size) =
      so_with (go_declarator w inner) (λ shape v r a k. then_with (valued (go v size)) (λ x v2 r2 k2.
      is_with (λ good. array_sized w v2 (expr_pos size) shape (constant_value x) (asides_kept w v v2 shape.steps k2.frame (is_later v v2 k.good k2.good k2.frame) a))))
  go_declarator w (written.OpenArray at inner) =
      so_with (go_declarator w inner) (λ shape v r a k. is_with (λ good. typed_so (reaches.stays v) (asides_then w v shape.steps OpenArray a tt)))
  go_declarator {may = may} w (written.Function at inner params) =
      so_with (go_declarator w inner) (λ shape v r a k. list_with (within may) (names.opened v) enters (go_params (names_within may) (names.opened v) [] params (no_params_yet (names.opened v))) (λ list v2 r2 p k2.
      is_with (λ good. typed_so (reaches.scoped v v2 r2)
      (asides_then w (names.closed v v2) shape.steps (FunctionOf list (drop (length v.names) v2.names) (drop (length v.tags) v2.tags))
      (asides_kept w v _ shape.steps (frame_closed v v2 k2.frame) (is_later v (names.closed v v2) k.good (good_closed v v2 k2.good) (frame_closed v v2 k2.frame)) a)
      (record {
        types = All-map (IsFormed v2.structs) (λ param. param.ty) list p;
        formed = All-drop (λ b. IsFormedMeaning v2.structs b.meaning) (length v.names) v2.names k2.good.formed.names;
        aside = list_aside w v v2 k.frame k2.frame k2.good;
      })))))
  go_declarator w (written.VoidFunction at inner) =
      so_with (go_declarator w inner) (λ shape v r a k. is_with (λ good. typed_so (reaches.stays v) (asides_then w v shape.steps (FunctionOf [] [] []) a
      (record { types = All-nil (IsFormed v.structs); formed = All-nil (λ b. IsFormedMeaning v.structs b.meaning); aside = aside_none w v }))))

  pub go_params : {may : Changes} → NamesAny may → (w : World) (done : _) (params : written.ParamTrees) → ParamsIn done w → AllWith may w ParamsIn (TypesParams w done params)
  go_params any w done written.no_params all good = is_with (λ g. typed_so (reaches.stays w) all) good
  go_params any w done (written.more_params (written.Named at specs declarator) rest) all good =
      so_with (of_parameter _ _ any (go_specs w _ _ specs (none_yet w)) (λ v. go_declarator v declarator))
      (λ param v r p k. go_params any v _ rest (All-push (λ x. IsFormed v.structs x.ty) done param (params_after w v done (is_later w v good k.good k.frame) all) p)) good
  go_params any w done (written.more_params (written.Abstract at specs declarator) rest) all good =
      so_with (of_parameter _ _ any (go_specs w _ _ specs (none_yet w)) (λ v. go_declarator v declarator))
      (λ param v r p k. go_params any v _ rest (All-push (λ x. IsFormed v.structs x.ty) done param (params_after w v done (is_later w v good k.good k.frame) all) p)) good
