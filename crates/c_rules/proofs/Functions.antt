-- The functions of a program, one by one.
use Rattle.std.proofs.Common.{◌≡◌, ℕ, ◌<◌, ◌≤◌, List, [], ◌∷◌, map, length, get_or, Some, None, refl, sym, ap, ◌∙◌, arith}
use Rattle.std.specs.Prelude.{Option, MatchOption, option_and_then, option_map, slice_get, unwrap_or}
use Rattle.std.proofs.lemmas.List.{length-map}
use Rattle.std.proofs.lemmas.Option.{slice_get-map, slice_get-get_or, slice_get_past}
use Rattle.c_syntax_written.specs.declared.place.Pos.{Pos}
use Rattle.c_syntax.specs.declared.program.TFunction.{TFunction}
use Rattle.c_syntax.specs.TypedStmt.{TStmtTree}
use Rattle.c_syntax.specs.Program.{TFunctionTree, TProgramTree, tfunction_tree}
use Rattle.c_rules_calls.specs.Gotos.{strays}
use Rattle.c_rules_order.specs.Sides.{compared_in_stmt}
use Rattle.c_rules.specs.Earliest.{IsEarliest}
use Rattle.c_rules.specs.Rules.{IsFirstStray, IsStrayOf, strays_by}
use Rattle.c_rules.specs.Sequenced.{compared_by}

-- what is taken of the body of a function
abbrev by_body : {A : Type 0} → (TStmtTree → List A) → Option TFunctionTree → List A
by_body of function = unwrap_or (option_map of (option_and_then (λ function. function.body) function)) []

module _ (program : TProgramTree) (functions : List TFunction) (trees : program.functions ≡ map tfunction_tree functions) where
  entry : (i : ℕ) (function : TFunction) → i < length functions → function ≡ get_or functions i function
      → slice_get program.functions i ≡ Some (tfunction_tree function)
  entry i function less is =
      ap (λ xs. slice_get xs i) trees ∙ slice_get-map tfunction_tree functions i
      ∙ ap (option_map tfunction_tree) (slice_get-get_or functions i function less ∙ ap Some (sym is))

  no_entry : (i : ℕ) → length functions ≤ i → slice_get program.functions i ≡ None
  no_entry i past =
      ap (λ xs. slice_get xs i) trees ∙ slice_get_past (map tfunction_tree functions) i (omega (arith, past, length-map functions tfunction_tree))

  pub strays_at : (i : ℕ) (function : TFunction) → i < length functions → function ≡ get_or functions i function
      → unwrap_or (option_map (strays []) (tfunction_tree function).body) [] ≡ strays_by program i
  strays_at i function less is = sym (ap (by_body (strays [])) (entry i function less is))

  pub no_strays : (i : ℕ) (a : Pos) → length functions ≤ i → IsStrayOf program i a → ⊥
  no_strays i a past is = differ (sym (ap (λ x. slice_get (by_body (strays []) x) 0) (no_entry i past)) ∙ is) where
    differ : None ≡ Some a → ⊥
    differ e = cc

  pub compared_here : (i : ℕ) (function : TFunction) → i < length functions → function ≡ get_or functions i function
      → unwrap_or (option_map compared_in_stmt (tfunction_tree function).body) [] ≡ compared_by program i
  compared_here i function less is = sym (ap (by_body compared_in_stmt) (entry i function less is))

  pub none_compared : (i : ℕ) → length functions ≤ i → compared_by program i ≡ []
  none_compared i past = ap (by_body compared_in_stmt) (no_entry i past)

-- the first of a list of places is one alone
pub only_stray : (program : TProgramTree) (n : ℕ) (next : Option Pos) → next ≡ slice_get (strays_by program n) 0
    → MatchOption next ((a : Pos) → IsStrayOf program n a → ⊥) (λ a. IsStrayOf program n a × ((b : Pos) → IsStrayOf program n b → b ≡ a))
only_stray program n None e = λ a is. differ (e ∙ is) where
  differ : {a : Pos} → None ≡ Some a → ⊥
  differ e = cc
only_stray program n (Some a) e = (sym e, λ b is. same (sym is ∙ sym e)) where
  same : {a b : Pos} → Some b ≡ Some a → b ≡ a
  same e = cc

none_of : (list : List Pos) → ((a : Pos) → slice_get list 0 ≡ Some a → ⊥) → list ≡ []
none_of [] h = refl
none_of (x ∷ xs) h = absurd (h x refl)

pub all_stay : (program : TProgramTree) → ((f : ℕ) (a : Pos) → IsStrayOf program f a → ⊥) → (f : ℕ) → strays_by program f ≡ []
all_stay program h f = none_of (strays_by program f) (h f)

pub stray_answer : (program : TProgramTree) (found : Option Pos)
    → MatchOption found ((f : ℕ) (a : Pos) → IsStrayOf program f a → ⊥) (IsEarliest (λ at. at) (IsStrayOf program))
    → MatchOption found ((f : ℕ) → strays_by program f ≡ []) (IsFirstStray program)
stray_answer program None h = all_stay program h
stray_answer program (Some at) h = h
