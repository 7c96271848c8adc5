-- Definitions by their parts.
use Rattle.std.proofs.Common.{◌≡◌, refl, sym, ap, ◌∙◌, subst, ℕ, Bool, true, false, List, [], ◌∷◌, ◌++◌, length, map, None}
use Rattle.std.specs.Prelude.{Result, reverse, ⊤}
use Rattle.std.proofs.lemmas.List.{reverse-append, reverse-reverse}
use Rattle.c_syntax_written.specs.declared.written.StorageWord.{StorageWord}
use Rattle.c_syntax_written.specs.declared.written.StorageWord.TheVariants.{Typedef}
use Rattle.c_syntax.specs.declared.op.Op.TheVariants as ops
use Rattle.c_syntax.specs.Types.{CTypeTree}
use Rattle.c_typing.specs.World.{World, Form, Plain, Unsized, Callable, Binding, TagBinding, Outcome, Typed, Refused, no_rule}
use Rattle.c_typing.specs.Declarators.{DeclaredName, ParameterTree, Step, PointerTo, ArrayOf, OpenArray, FunctionOf, shown}
use Rattle.c_typing.specs.Context.{Context}
use Rattle.c_typing.specs.Decls.{is_word, numbers_from}
use Rattle.c_typing.specs.File.{Begun, with_function_at, defined_function, in_body, body_in, body_begins, definition_laid, definition_of}
use Rattle.c_check_declarators.specs.declared.shape.Step as code
use Rattle.c_check_declarators.specs.Views.{step_tree}
use Rattle.c_check_names.specs.declared.type_error.TypeError.{TypeError}
use Rattle.c_check_names.proofs.Steps.{when_true, when_false}
use Rattle.c_check_functions.specs.declared.begun.Begun as held
use Rattle.c_check_functions.specs.Views.{ComesToBody, by_list, list_in, own_list}

-- an outcome that is this one
pub comes : (o q : Outcome Begun) (w : World) (res : Result held.Begun TypeError) → o ≡ q → ComesToBody o w res → ComesToBody q w res
comes o q w res e p = subst (λ o. ComesToBody o w res) e p

-- ---- the declarator's own list

-- the steps turned round are none
pub own_none : (steps left : List code.Step) → left ≡ reverse steps → left ≡ [] → None ≡ own_list (map step_tree steps)
own_none steps left e f =
    let all : [] ≡ steps = sym (ap reverse (sym e ∙ f)) ∙ reverse-reverse steps in
    ap (λ ss. own_list (map step_tree ss)) all

-- or end in the first one
pub own_first : (steps left rest : List code.Step) (step : code.Step) → left ≡ reverse steps → left ≡ rest ++ step ∷ []
    → list_in (step_tree step) ≡ own_list (map step_tree steps)
own_first steps left rest step e f =
    let all : step ∷ reverse rest ≡ steps = sym (ap reverse f ∙ reverse-append rest (step ∷ [])) ∙ ap reverse e ∙ reverse-reverse steps in
    ap (λ ss. own_list (map step_tree ss)) all

module _ (w : World) (around : Context) (named : DeclaredName) where
  -- a function has its list
  pub by_own_list : (steps : List Step) (types : List CTypeTree) (result : CTypeTree)
      → by_list w around named types result (own_list steps) ≡ definition_of w around named steps (Callable types result)
  by_own_list [] types result = refl
  by_own_list (PointerTo is_const ∷ rest) types result = refl
  by_own_list (ArrayOf at n ∷ rest) types result = refl
  by_own_list (OpenArray ∷ rest) types result = refl
  by_own_list (FunctionOf params names tags ∷ rest) types result = refl

  -- what is no function has no body
  pub no_function_plain : (steps : List Step) (ty : CTypeTree) (is_const : Bool)
      → Refused (no_rule w named.pos ops.Init (shown w (Plain ty is_const)) None) ≡ definition_of w around named steps (Plain ty is_const)
  no_function_plain [] ty is_const = refl
  no_function_plain (PointerTo c ∷ rest) ty is_const = refl
  no_function_plain (ArrayOf at n ∷ rest) ty is_const = refl
  no_function_plain (OpenArray ∷ rest) ty is_const = refl
  no_function_plain (FunctionOf params names tags ∷ rest) ty is_const = refl

  pub no_function_unsized : (steps : List Step) (ty : CTypeTree) (is_const : Bool)
      → Refused (no_rule w named.pos ops.Init (shown w (Unsized ty is_const)) None) ≡ definition_of w around named steps (Unsized ty is_const)
  no_function_unsized [] ty is_const = refl
  no_function_unsized (PointerTo c ∷ rest) ty is_const = refl
  no_function_unsized (ArrayOf at n ∷ rest) ty is_const = refl
  no_function_unsized (OpenArray ∷ rest) ty is_const = refl
  no_function_unsized (FunctionOf params names tags ∷ rest) ty is_const = refl

  -- a typedef has no body, and what is none goes on
  module _ (storage : List StorageWord) (steps : List Step) (form : Form) (told : Outcome Form) (e : Typed form w ≡ told) (b : Bool) (f : b ≡ is_word Typedef storage) where
    pub typedef_refused : b ≡ true → Refused (no_rule w named.pos ops.Init (shown w form) None) ≡ definition_laid around named storage steps told
    typedef_refused t =
        when_true {c = is_word Typedef storage} (Refused (no_rule w named.pos ops.Init (shown w form) None)) (definition_of w around named steps form) t f
        ∙ ap (definition_laid around named storage steps) e

    pub goes_to : b ≡ false → definition_of w around named steps form ≡ definition_laid around named storage steps told
    goes_to t =
        when_false {c = is_word Typedef storage} (Refused (no_rule w named.pos ops.Init (shown w form) None)) (definition_of w around named steps form) t f
        ∙ ap (definition_laid around named storage steps) e

-- ---- the body

abbrev typed_in : World → Outcome ⊤
typed_in w = Typed tt w

abbrev begun_in : ℕ → CTypeTree → World → World → Outcome Begun
begun_in n result outside after = Typed (record { number = n; result = result; outside = outside }) after

-- where it begins
pub begun_by : (n first : ℕ) (named : DeclaredName) (result : CTypeTree) (params : List ParameterTree) (names : List Binding) (tags : List TagBinding)
    (w outside after : World) (numbers : List ℕ) (told : Outcome ⊤) → typed_in w ≡ told → numbers ≡ numbers_from first (length params)
    → outside ≡ with_function_at w n (defined_function named numbers) → after ≡ in_body outside first names tags
    → begun_in n result outside after ≡ body_begins n first named result params names tags told
begun_by n first named result params names tags w outside after numbers told e f g h =
    ap (begun_in n result outside) h
    ∙ ap (λ o. body_in o n result first names tags) (g ∙ ap (λ ks. with_function_at w n (defined_function named ks)) f)
    ∙ ap (body_begins n first named result params names tags) e
