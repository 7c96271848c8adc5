-- How results are passed on, and parts of parts.
use Rattle.std.proofs.Common.{◌≡◌, Bor, refl, sym, subst}
use Rattle.std.specs.Option.{option_copied, option_map}
use Rattle.std.specs.Prelude.{ℤ, Bool, false, List, Option, Some, None, IfSome, Result, Ok, Err}
use Rattle.std.proofs.lemmas.Option.{IfSome_then}
use Rattle.c_syntax_written.specs.declared.place.Pos.{Pos}
use Rattle.c_syntax_written.specs.Written as written
use Rattle.c_syntax_written.specs.Written.{DeclaratorTree, DeclaratorTrees, EnumeratorTree, ExprTree, MemberDeclTree, SpecTree, SpecTrees}
use Rattle.c_typing.specs.Declarators.{DeclaredName, Shape}
use Rattle.c_typing.specs.Operands.{OperandTree}
use Rattle.c_typing.specs.Specifiers.{SpecPart, no_specs_yet, OfPlainType, type_told}
use Rattle.c_typing.specs.Typing.{Types, TypesSpec, TypesSpecs, TypesMemberNames, TypesDeclarator, MemberMade, first_of}
use Rattle.c_typing.specs.World.{World, Outcome, Typed, Refused, Then, Is, goes_on, stops}
use Rattle.c_check_names.specs.declared.type_error.TypeError.{TypeError}
use Rattle.c_check_names.specs.Views.{Answers, refusal_of}
use Rattle.c_check_exprs.specs.Views.{ConstantForm, MemberLine, inside}

-- a result that is an outcome of one kind is one of another
pub by : {A V : Type 0} (P Q : Outcome V → Type 0) (view : A → V) (w : World) (res : Result A TypeError) → Answers P view w res → ((o : Outcome V)
    → P o → Q o) → Answers Q view w res
by P Q view w (Ok a) p f = f _ p
by P Q view w (Err e) p f = IfSome_then (refusal_of e) p (λ r. f (Refused r))

-- a part of a part
pub apart : {A B C : Type 0} {first : Outcome A → Type 0} {next : A → World → Outcome B → Type 0} {last : B → World → Outcome C → Type 0} {o : Outcome C}
    → Then (Then first next) last o → Then first (λ x w. Then (next x w) last) o
apart (goes_on (goes_on p q) r) = goes_on p (goes_on q r)
apart (stops (goes_on p q)) = goes_on p (stops q)
apart (stops (stops p)) = stops p

-- and a part of that
pub deeper : {A B C D : Type 0} {first : Outcome A → Type 0} {middle : A → World → Outcome B → Type 0} {next : A → World → B → World → Outcome C → Type 0}
    {last : C → World → Outcome D → Type 0} {o : Outcome D}
    → Then (Then first (λ x w. Then (middle x w) (next x w))) last o → Then first (λ x w. Then (middle x w) (λ y v. Then (next x w y v) last)) o
deeper (goes_on (goes_on p (goes_on q r)) s) = goes_on p (goes_on q (goes_on r s))
deeper (stops (goes_on p (goes_on q r))) = goes_on p (goes_on q (stops r))
deeper (stops (goes_on p (stops q))) = goes_on p (stops q)
deeper (stops (stops p)) = stops p

-- a declarator of this name
abbrev pub renamed : Option DeclaredName → Outcome Shape → Outcome Shape
renamed name (Typed shape w) = Typed (record shape { name = name }) w
renamed name (Refused r) = Refused r

-- ---- trees of a form

pub as_form : (w : World) (t u : ExprTree) (o : Outcome OperandTree) → t ≡ u → Types w u o → Types w t o
as_form w t u o e p = subst (λ t. Types w t o) (sym e) p

pub shaped : {A : Type 0} (w : World) (t u : ExprTree) (view : A → OperandTree) (v : World) (res : Result A TypeError) → t ≡ u
    → Answers (Types w u) view v res → Answers (Types w t) view v res
shaped w t u view v res e p = subst (λ t. Answers (Types w t) view v res) (sym e) p

pub as_spec : (w : World) (alone : Bool) (t u : SpecTree) (o : Outcome SpecPart) → t ≡ u → TypesSpec w alone u o → TypesSpec w alone t o
as_spec w alone t u o e p = subst (λ t. TypesSpec w alone t o) (sym e) p

pub spec_shaped : {A : Type 0} (w : World) (alone : Bool) (t u : SpecTree) (view : A → SpecPart) (v : World) (res : Result A TypeError) → t ≡ u
    → Answers (TypesSpec w alone u) view v res → Answers (TypesSpec w alone t) view v res
spec_shaped w alone t u view v res e p = subst (λ t. Answers (TypesSpec w alone t) view v res) (sym e) p

pub as_constant : (w : World) (next : ℤ) (t u : EnumeratorTree) (o : Outcome ℤ) → t ≡ u → ConstantForm w next u o → ConstantForm w next t o
as_constant w next t u o e p = subst (λ t. ConstantForm w next t o) (sym e) p

-- members that are declared together, whose first token is this
pub as_line : (w : World) (done : List MemberMade) (t : MemberDeclTree) (at first : Pos) (specs : SpecTrees) (names : DeclaratorTrees) (o : Outcome
    (List MemberMade))
    → t ≡ written.Members at specs names → first ≡ first_of at specs
    → Then (TypesSpecs w false no_specs_yet specs) (λ s w1. Then (Is (type_told OfPlainType first s w1))
    (λ base w2. TypesMemberNames w2 first base done names)) o
    → MemberLine w done t o
as_line w done t at first specs names o e f p =
    subst (λ t. MemberLine w done t o) (sym e)
    (subst (λ (g : Pos). Then (TypesSpecs w false no_specs_yet specs) (λ s w1. Then (Is (type_told OfPlainType g s w1))
    (λ base w2. TypesMemberNames w2 g base done names)) o) f p)

-- a form of a declarator around what is typed
pub around : (w : World) (t u : DeclaratorTree) (s o : Outcome Shape) → t ≡ u → (TypesDeclarator w (inside u) s → TypesDeclarator w u o)
    → TypesDeclarator w (inside t) s → TypesDeclarator w t o
around w t u s o e f p = subst (λ d. TypesDeclarator w d o) (sym e) (f (subst (λ d. TypesDeclarator w (inside d) s) e p))

-- what is borrowed, as it is copied
pub copied_now : {A : Type 0} (o : Option (Bor A)) → option_map (λ x. x.now) o ≡ option_copied o
copied_now None = refl
copied_now (Some x) = refl
