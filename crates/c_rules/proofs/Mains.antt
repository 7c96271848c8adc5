-- The function named main is the first of its name.
use Rattle.std.proofs.Common.{◌≡◌, inl, inr, ℕ, ◌+◌, ◌<◌, ◌≤◌, Bool, true, false, cond, List, [], ◌∷◌, MatchBool, map, length, get_or, Some, None, refl, sym, subst, ap, ◌∙◌, arith}
use Rattle.std.specs.Prelude.{◌↔◌, ◌==◌, Option, IsSome, IsSomeAnd, IsTrue, is_some, nat_lt, not, option_map, slice_get}
use Rattle.std.specs.List.{position, position_or_len}
use Rattle.std.proofs.lemmas.Bool.{cases_eq}
use Rattle.std.proofs.lemmas.Bool.Decides.{nat_tests}
use Rattle.std.proofs.lemmas.List.{get_or_default, get_or-map, length-map}
use Rattle.std.proofs.lemmas.List.Sums.{position_or_len_is}
use Rattle.std.proofs.lemmas.Option.{slice_get-map, slice_get-get_or}
use Rattle.c_syntax_written.specs.declared.int_type.IntType.TheVariants as ints
use Rattle.c_syntax.specs.Types as types
use Rattle.c_syntax.specs.declared.program.TFunction.{TFunction}
use Rattle.c_syntax.specs.declared.statement.TStmt.{TStmt}
use Rattle.c_syntax.specs.TypedStmt.{tstmt_tree}
use Rattle.c_syntax.specs.Program.{TFunctionTree, TProgramTree, tfunction_tree}
use Rattle.c_layout.specs.MainFunction.{is_named_main, main_of}
use Rattle.c_layout.specs.Plans.{IsStart}
use Rattle.c_rules.specs.Rules.{Begins, IsMain}

placed : (p n i : ℕ) → p ≡ i → i < n → cond (nat_lt p n) (Some p) None ≡ Some i
placed p n i e less = let test : nat_lt p n ≡ true = grind (arith, nat_tests) in ap (λ b. cond b (Some p) None) test ∙ ap Some e

past : (p n : ℕ) → p ≡ n → cond (nat_lt p n) (Some p) None ≡ None
past p n e = let test : nat_lt p n ≡ false = grind (arith, nat_tests) in ap (λ b. cond b (Some p) None) test

module _ (functions : List TFunction) where
  abbrev trees : List TFunctionTree
  trees = map tfunction_tree functions

  none_before : (i : ℕ) (d : TFunction) → i ≤ length functions → ((k : ℕ) → k < i → is_named_main (tfunction_tree (get_or functions k d)) ≡ false)
      → (k : ℕ) → k < i → is_named_main (get_or trees k (tfunction_tree d)) ≡ false
  none_before i d inside before k less =
      ap is_named_main (get_or-map tfunction_tree functions k d (tfunction_tree d) (omega (arith, less, inside))) ∙ before k less

  pub named_at : (i : ℕ) (function : TFunction) → i < length functions → function ≡ get_or functions i function
      → ((k : ℕ) (d : TFunction) → k < i → is_named_main (tfunction_tree (get_or functions k d)) ≡ false)
      → is_named_main (tfunction_tree function) ≡ true → Some i ≡ position is_named_main trees
  named_at i function less is before named =
      let size : length trees ≡ length functions = length-map functions tfunction_tree in
      let place : position_or_len is_named_main trees ≡ i = position_or_len_is is_named_main trees i (tfunction_tree function)
      (omega (arith, less, size)) (none_before i function (omega (arith, less)) (λ k. before k function))
      (λ inside. ap is_named_main (get_or-map tfunction_tree functions i function (tfunction_tree function) less ∙ ap tfunction_tree (sym is)) ∙ named) in
      sym (placed (position_or_len is_named_main trees) (length trees) i place (omega (arith, less, size)))

  pub named_nowhere : (i : ℕ) (d : TFunction) → length functions ≤ i
      → ((k : ℕ) (d : TFunction) → k < i → is_named_main (tfunction_tree (get_or functions k d)) ≡ false) → None ≡ position is_named_main trees
  named_nowhere i d more before =
      let size : length trees ≡ length functions = length-map functions tfunction_tree in
      let place : position_or_len is_named_main trees ≡ length trees = position_or_len_is is_named_main trees (length trees) (tfunction_tree d)
      (omega arith) (none_before (length trees) d (omega (arith, size)) (λ k less. before k d (omega (arith, less, more, size))))
      (λ inside. absurd (omega (arith, inside))) in
      sym (past (position_or_len is_named_main trees) (length trees) place)

  -- what stands at its number
  pub function_at : (i : ℕ) (d : TFunction) → i < length functions → slice_get trees i ≡ Some (tfunction_tree (get_or functions i d))
  function_at i d less = slice_get-map tfunction_tree functions i ∙ ap (option_map tfunction_tree) (slice_get-get_or functions i d less)

pub none_named : (functions : List TFunction) (i : ℕ) → length functions ≤ i
    → ((k : ℕ) (d : TFunction) → k < i → is_named_main (tfunction_tree (get_or functions k d)) ≡ false)
    → None ≡ position is_named_main (map tfunction_tree functions)
none_named [] i more before = refl
none_named (f ∷ functions) i more before = named_nowhere (f ∷ functions) i f more before

-- one function more that has another name
pub still_unnamed : (functions : List TFunction) (i : ℕ) (function : TFunction) → i < length functions → function ≡ get_or functions i function
    → ((k : ℕ) (d : TFunction) → k < i → is_named_main (tfunction_tree (get_or functions k d)) ≡ false) → is_named_main (tfunction_tree function) ≡ false
    → (k : ℕ) (d : TFunction) → k < i + 1 → is_named_main (tfunction_tree (get_or functions k d)) ≡ false
still_unnamed functions i function less is before here k d below = elim (cases_eq k i) [
  | inl e ↦
      ap (λ at. is_named_main (tfunction_tree (get_or functions at d))) e
      ∙ ap (λ f. is_named_main (tfunction_tree f)) (get_or_default functions i d function less ∙ sym is) ∙ here
  | inr apart ↦ before k d (omega (arith, below, apart))
]

pub body_there : (body : Option TStmt) (none : Bool) → is_some body ≡ not none → none ≡ false → IsSome (option_map tstmt_tree body)
body_there None none e f = e ∙ ap not f
body_there (Some b) none e f = refl

pub no_params : (params given : List ℕ) (empty : Bool) → given ≡ params → empty ≡ (length given == 0) → not empty ≡ false → params ≡ []
no_params params given empty same e f = sym same ∙ none given empty e f where
  none : (xs : List ℕ) (b : Bool) → b ≡ (length xs == 0) → not b ≡ false → xs ≡ []
  none [] b e n = refl
  none (x ∷ xs) true e n = absurd (let none : length (x ∷ xs) ≡ 0 = grind (arith, nat_tests, e) in omega (arith, none))
  none (x ∷ xs) false e n = absurd (cc)

pub start_told : (function : TFunctionTree) (told : Bool) → IsSome function.body → function.params ≡ [] → (IsTrue told ↔ (function.result ≡ types.Int ints.Int))
    → MatchBool told (IsStart function) (IsStart function → ⊥)
start_told function true body params result = record { body = body; params = params; result = result.0 refl }
start_told function false body params result = λ start. differ (result.1 start.result) where
  differ : false ≡ true → ⊥
  differ e = cc

some_same : {A : Type 0} {a b : A} → Some a ≡ Some b → a ≡ b
some_same e = cc

no_some : {A : Type 0} {a : A} → None ≡ Some a → ⊥
no_some e = cc

pub one_main : (program : TProgramTree) (m n : ℕ) → IsMain program m → IsMain program n → m ≡ n
one_main program m n a b = some_same (sym a.0 ∙ b.0)

pub no_main : (program : TProgramTree) → None ≡ main_of program → Begins program → ⊥
no_main program none b = no_some (none ∙ b.1.0)

pub main_is : (program : TProgramTree) (m : ℕ) (function : TFunctionTree) → Some m ≡ main_of program → slice_get program.functions m ≡ Some function
    → IsStart function
    → IsMain program m
main_is program m function named at start = (sym named, subst (λ (o : Option TFunctionTree). IsSomeAnd o IsStart) (sym at) start)

pub main_is_not : (program : TProgramTree) (m : ℕ) (function : TFunctionTree) → Some m ≡ main_of program → slice_get program.functions m ≡ Some function
    → (IsStart function → ⊥) → Begins program → ⊥
main_is_not program m function named at not_start b =
    let same : b.0 ≡ m = some_same (sym b.1.0 ∙ sym named) in
    not_start (subst (λ (o : Option TFunctionTree). IsSomeAnd o IsStart) (ap (slice_get program.functions) same ∙ at) b.1.1)
