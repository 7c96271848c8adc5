-- Arguments are passed by their values.
use Rattle.std.proofs.Common.{◌≡◌, ℕ, suc, refl, sym, ap, ◌∙◌, arith, List, [], ◌∷◌, ◌++◌, length, Option, Some, None}
use Rattle.std.specs.Prelude.{option_and_then, option_map}
use Rattle.block_mem.specs.declared.types.Value.{Value}
use Rattle.csharp.specs.Trees.{CsExprTree}
use Rattle.csharp.specs.States.{State, value_of}
use Rattle.csharp.specs.Actions.{args_from, put}
use Rattle.csharp_state.specs.Passing.{put_all, values_of}

then_put : (d : ℕ) (ds : List ℕ) (v : Value) (s : State) (o : Option (List Value))
    → option_map (λ (vs : List Value). put_all ds vs (put s d v)) o ≡ option_map (λ (vs : List Value). put_all (d ∷ ds) vs s) (option_map (λ (vs : List Value). v ∷ vs) o)
then_put d ds v s None = refl
then_put d ds v s (Some vs) = refl

first_passed : (from : State) (es : List CsExprTree) (d : ℕ) (ds : List ℕ) (s : State) (o : Option Value)
    → ((t : State) → args_from from es ds t ≡ option_map (λ (vs : List Value). put_all ds vs t) (values_of es from))
    → option_and_then (λ v. args_from from es ds (put s d v)) o
    ≡ option_map (λ (vs : List Value). put_all (d ∷ ds) vs s) (option_and_then (λ v. option_map (λ (vs : List Value). v ∷ vs) (values_of es from)) o)
first_passed from es d ds s None h = refl
first_passed from es d ds s (Some v) h = h (put s d v) ∙ then_put d ds v s (values_of es from)

pub passed : (from : State) (es : List CsExprTree) (ds : List ℕ) → length es ≡ length ds → (s : State)
    → args_from from es ds s ≡ option_map (λ (vs : List Value). put_all ds vs s) (values_of es from)
passed from [] [] h s = refl
passed from [] (d ∷ ds) h s = absurd (omega arith)
passed from (e ∷ es) [] h s = absurd (omega arith)
passed from (e ∷ es) (d ∷ ds) h s = first_passed from es d ds s (value_of e from) (passed from es ds (omega arith))

first_unlike : (from : State) (es : List CsExprTree) (d : ℕ) (ds : List ℕ) (s : State) (o : Option Value)
    → ((t : State) → args_from from es ds t ≡ None) → option_and_then (λ v. args_from from es ds (put s d v)) o ≡ None
first_unlike from es d ds s None h = refl
first_unlike from es d ds s (Some v) h = h (put s d v)

pub unlike : (from : State) (es : List CsExprTree) (ds : List ℕ) → (length es ≡ length ds → ⊥) → (s : State) → args_from from es ds s ≡ None
unlike from [] [] h s = absurd (h refl)
unlike from [] (d ∷ ds) h s = refl
unlike from (e ∷ es) [] h s = refl
unlike from (e ∷ es) (d ∷ ds) h s = first_unlike from es d ds s (value_of e from) (unlike from es ds (λ e. h (ap suc e)))

more_values : (n : ℕ) (v : Value) (o : Option (List Value)) (vs : List Value) → ((us : List Value) → o ≡ Some us → length us ≡ n)
    → option_map (λ (us : List Value). v ∷ us) o ≡ Some vs → length vs ≡ suc n
more_values n v None vs h e = absurd (cc)
more_values n v (Some us) vs h e = let same : v ∷ us ≡ vs = cc in sym (ap length same) ∙ ap suc (h us refl)

first_value : (n : ℕ) (o : Option Value) (rest : Option (List Value)) (vs : List Value) → ((us : List Value) → rest ≡ Some us → length us ≡ n)
    → option_and_then (λ (v : Value). option_map (λ (us : List Value). v ∷ us) rest) o ≡ Some vs → length vs ≡ suc n
first_value n None rest vs h e = absurd (cc)
first_value n (Some v) rest vs h e = more_values n v rest vs h e

pub as_many : (es : List CsExprTree) (s : State) (vs : List Value) → values_of es s ≡ Some vs → length vs ≡ length es
as_many [] s vs e = let same : [] ≡ vs = cc in ap length (sym same)
as_many (x ∷ es) s vs e = first_value (length es) (value_of x s) (values_of es s) vs (λ us f. as_many es s us f) e

pub put_memory : (ds : List ℕ) (vs : List Value) (s : State) → (put_all ds vs s).memory ≡ s.memory
put_memory [] vs s = refl
put_memory (d ∷ ds) [] s = refl
put_memory (d ∷ ds) (v ∷ vs) s = put_memory ds vs (put s d v)

-- one value more
after : (xs : List Value) (v : Value) (vs : List Value) → (xs ++ v ∷ []) ++ vs ≡ xs ++ v ∷ vs
after [] v vs = refl
after (x ∷ xs) v vs = ap (λ (ys : List Value). x ∷ ys) (after xs v vs)

pub more : (xs : List Value) (v : Value) (o : Option (List Value))
    → option_map (λ (vs : List Value). (xs ++ v ∷ []) ++ vs) o ≡ option_map (λ (vs : List Value). xs ++ vs) (option_map (λ (vs : List Value). v ∷ vs) o)
more xs v None = refl
more xs v (Some vs) = ap Some (after xs v vs)
