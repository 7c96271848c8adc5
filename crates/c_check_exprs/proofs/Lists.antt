-- What typing is of a list from a place on: the item there, and those behind it.
use Rattle.std.proofs.Common.{◌≡◌, ℕ, zero, suc, ◌+◌, ◌<◌, ◌≤◌, List, [], ◌∷◌, ◌++◌, refl, sym, ap, ◌∙◌, subst, drop, length, get_or, drop-cons, add-one, arith}
use Rattle.std.specs.Prelude.{ℤ, Bool}
use Rattle.c_syntax_written.specs.declared.place.Pos.{Pos}
use Rattle.c_syntax_written.specs.declared.written.Expr.{Expr}
use Rattle.c_syntax_written.specs.declared.written.Spec.{Spec}
use Rattle.c_syntax_written.specs.declared.written.MemberDecl.{MemberDecl}
use Rattle.c_syntax_written.specs.declared.written.Enumerator.{Enumerator}
use Rattle.c_syntax_written.specs.declared.written.Declarator.{Declarator}
use Rattle.c_syntax_written.specs.declared.written.Param.{Param}
use Rattle.c_syntax_written.specs.Written.{expr_tree, exprs_from, spec_tree, specs_from, memberdecl_tree, memberdecls_from, enumerator_tree, enumerators_from, declarator_tree, declarators_from, param_tree, params_from}
use Rattle.c_syntax_written.proofs.WrittenTrees.{exprs_nil, exprs_cons, specs_nil, specs_cons, memberdecls_nil, memberdecls_cons, enumerators_nil, enumerators_cons, declarators_nil, declarators_cons, params_nil, params_cons}
use Rattle.c_syntax.specs.TypedExpr.{TExprTrees, texprs_then}
use Rattle.c_typing.specs.Declarators.{ParameterTree}
use Rattle.c_typing.specs.Specifiers.{SpecsTree, with_part}
use Rattle.c_typing.specs.Typing.{Types, TypesArgs, TypesSpecs, TypesSpec, TypesMembers, TypesMemberNames, TypesEnumerators, TypesDeclarator, TypesParams, Valued, MemberMade, member_made}
use Rattle.c_typing.specs.World.{World, Form, Outcome, Typed, Then, Is}
use Rattle.c_check_exprs.specs.Views.{MemberLine, ConstantForm, ParamForm}
use Rattle.c_check_exprs.proofs.Lines.{no_args_line, args_line, no_specs_line, specs_line, no_members_line, members_line, no_names_line, names_line, no_enumerators_line, enumerators_line, no_params_line, params_line}

falls : {A : Type 0} (xs : List A) (k : ℕ) (x : A) → x ≡ get_or xs k x → k < length xs → drop k xs ≡ x ∷ drop (k + 1) xs
falls xs k x e h = rw add-one (drop-cons xs k x h ∙ ap (λ y. y ∷ drop (suc k) xs) (sym e))

drop_past : {A : Type 0} (xs : List A) (k : ℕ) → length xs ≤ k → drop k xs ≡ []
drop_past [] zero h = refl
drop_past [] (suc k) h = refl
drop_past (x ∷ xs) zero h = absurd (omega (arith, h))
drop_past (x ∷ xs) (suc k) h = drop_past xs k (omega arith)

-- arguments
pub next_arg : (w : World) (done : TExprTrees) (xs : List Expr) (k : ℕ) (x : Expr) (o : Outcome TExprTrees) → x ≡ get_or xs k x → k < length xs
    → Then (Valued (Types w (expr_tree x))) (λ y w1. TypesArgs w1 (texprs_then done y) (exprs_from (drop (k + 1) xs))) o
    → TypesArgs w done (exprs_from (drop k xs)) o
next_arg w done xs k x o e h p =
    subst (λ es. TypesArgs w done es o) (sym (ap exprs_from (falls xs k x e h) ∙ exprs_cons x (drop (k + 1) xs)))
    (args_line w done (expr_tree x) (exprs_from (drop (k + 1) xs)) o p)

pub last_arg : (w : World) (done : TExprTrees) (xs : List Expr) (k : ℕ) (o : Outcome TExprTrees) → length xs ≤ k → o ≡ Typed done w
    → TypesArgs w done (exprs_from (drop k xs)) o
last_arg w done xs k o h p = subst (λ es. TypesArgs w done es o) (sym (ap exprs_from (drop_past xs k h) ∙ exprs_nil)) (no_args_line w done o p)

-- specs
pub next_spec : (w : World) (alone : Bool) (done : SpecsTree) (xs : List Spec) (k : ℕ) (x : Spec) (o : Outcome SpecsTree) → x ≡ get_or xs k x
    → k < length xs
    → Then (TypesSpec w alone (spec_tree x)) (λ part w1. TypesSpecs w1 alone (with_part done part) (specs_from (drop (k + 1) xs))) o
    → TypesSpecs w alone done (specs_from (drop k xs)) o
next_spec w alone done xs k x o e h p =
    subst (λ ss. TypesSpecs w alone done ss o) (sym (ap specs_from (falls xs k x e h) ∙ specs_cons x (drop (k + 1) xs)))
    (specs_line w alone done (spec_tree x) (specs_from (drop (k + 1) xs)) o p)

pub last_spec : (w : World) (alone : Bool) (done : SpecsTree) (xs : List Spec) (k : ℕ) (o : Outcome SpecsTree) → length xs ≤ k → o ≡ Typed done w
    → TypesSpecs w alone done (specs_from (drop k xs)) o
last_spec w alone done xs k o h p = subst (λ ss. TypesSpecs w alone done ss o) (sym (ap specs_from (drop_past xs k h)
    ∙ specs_nil)) (no_specs_line w alone done o p)

-- members, line by line
pub next_line : (w : World) (done : List MemberMade) (xs : List MemberDecl) (k : ℕ) (x : MemberDecl) (o : Outcome (List MemberMade))
    → x ≡ get_or xs k x → k < length xs
    → Then (MemberLine w done (memberdecl_tree x)) (λ members w1. TypesMembers w1 members (memberdecls_from (drop (k + 1) xs))) o
    → TypesMembers w done (memberdecls_from (drop k xs)) o
next_line w done xs k x o e h p =
    subst (λ ls. TypesMembers w done ls o) (sym (ap memberdecls_from (falls xs k x e h) ∙ memberdecls_cons x (drop (k + 1) xs)))
    (members_line w done (memberdecl_tree x) (memberdecls_from (drop (k + 1) xs)) o p)

pub last_line : (w : World) (done : List MemberMade) (xs : List MemberDecl) (k : ℕ) (o : Outcome (List MemberMade)) → length xs ≤ k
    → o ≡ Typed done w → TypesMembers w done (memberdecls_from (drop k xs)) o
last_line w done xs k o h p = subst (λ ls. TypesMembers w done ls o) (sym (ap memberdecls_from (drop_past xs k h)
    ∙ memberdecls_nil)) (no_members_line w done o p)

-- members of one line
pub next_name : (w : World) (first : Pos) (base : Form) (done : List MemberMade) (xs : List Declarator) (k : ℕ) (x : Declarator) (o : Outcome
    (List MemberMade))
    → x ≡ get_or xs k x → k < length xs
    → Then (TypesDeclarator w (declarator_tree x))
    (λ shape w1. Then (Is (member_made w1 first base done shape))
    (λ members w2. TypesMemberNames w2 first base members (declarators_from (drop (k + 1) xs)))) o
    → TypesMemberNames w first base done (declarators_from (drop k xs)) o
next_name w first base done xs k x o e h p =
    subst (λ ds. TypesMemberNames w first base done ds o) (sym (ap declarators_from (falls xs k x e h) ∙ declarators_cons x (drop (k + 1) xs)))
    (names_line w first base done (declarator_tree x) (declarators_from (drop (k + 1) xs)) o p)

pub last_name : (w : World) (first : Pos) (base : Form) (done : List MemberMade) (xs : List Declarator) (k : ℕ) (o : Outcome (List MemberMade))
    → length xs ≤ k
    → o ≡ Typed done w → TypesMemberNames w first base done (declarators_from (drop k xs)) o
last_name w first base done xs k o h p =
    subst (λ ds. TypesMemberNames w first base done ds o) (sym (ap declarators_from (drop_past xs k h)
    ∙ declarators_nil)) (no_names_line w first base done o p)

-- enumeration constants
pub next_constant : (w : World) (n : ℤ) (xs : List Enumerator) (k : ℕ) (x : Enumerator) (o : Outcome ℤ) → x ≡ get_or xs k x → k < length xs
    → Then (ConstantForm w n (enumerator_tree x)) (λ m w1. TypesEnumerators w1 m (enumerators_from (drop (k + 1) xs))) o
    → TypesEnumerators w n (enumerators_from (drop k xs)) o
next_constant w n xs k x o e h p =
    subst (λ es. TypesEnumerators w n es o) (sym (ap enumerators_from (falls xs k x e h) ∙ enumerators_cons x (drop (k + 1) xs)))
    (enumerators_line w n (enumerator_tree x) (enumerators_from (drop (k + 1) xs)) o p)

pub last_constant : (w : World) (n : ℤ) (xs : List Enumerator) (k : ℕ) (o : Outcome ℤ) → length xs ≤ k → o ≡ Typed n w
    → TypesEnumerators w n (enumerators_from (drop k xs)) o
last_constant w n xs k o h p = subst (λ es. TypesEnumerators w n es o) (sym (ap enumerators_from (drop_past xs k h)
    ∙ enumerators_nil)) (no_enumerators_line w n o p)

-- parameters
pub next_param : (w : World) (done : List ParameterTree) (xs : List Param) (k : ℕ) (x : Param) (o : Outcome (List ParameterTree)) → x ≡ get_or xs k x
    → k < length xs
    → Then (ParamForm w (length done) (param_tree x)) (λ param w1. TypesParams w1 (done ++ param ∷ []) (params_from (drop (k + 1) xs))) o
    → TypesParams w done (params_from (drop k xs)) o
next_param w done xs k x o e h p =
    subst (λ ps. TypesParams w done ps o) (sym (ap params_from (falls xs k x e h) ∙ params_cons x (drop (k + 1) xs)))
    (params_line w done (param_tree x) (params_from (drop (k + 1) xs)) o p)

pub last_param : (w : World) (done : List ParameterTree) (xs : List Param) (k : ℕ) (o : Outcome (List ParameterTree)) → length xs ≤ k
    → o ≡ Typed done w → TypesParams w done (params_from (drop k xs)) o
last_param w done xs k o h p = subst (λ ps. TypesParams w done ps o) (sym (ap params_from (drop_past xs k h) ∙ params_nil)) (no_params_line w done o p)
