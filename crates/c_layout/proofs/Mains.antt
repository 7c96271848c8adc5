-- The function named main is the first of that name.
use Rattle.std.proofs.Common.{◌≡◌, ℕ, zero, suc, ◌<◌, Bool, true, false, cond, not, List, [], ◌∷◌, length, get_or, refl, sym, ap, ◌∙◌, arith}
use Rattle.std.specs.Prelude.{Option, None, Some, option_map, unwrap_or, codes, nat_lt, slice_get}
use Rattle.std.specs.List.{prefix_len}
use Rattle.std.proofs.lemmas.Bool.Decides.{nat_tests}
use Rattle.std.proofs.lemmas.Option.{slice_get_within, slice_get-get_or}
use Rattle.std.proofs.lemmas.Slice.Eq.{bytes_eq-Decides}
use Rattle.c_syntax.specs.Program.{TFunctionTree, TProgramTree}
use Rattle.c_layout.specs.MainFunction.{is_named_main, main_of, is_main}
use Rattle.c_layout.specs.WellTyped.{IsWellTyped}

front : {X : Type 0} (test : X → Bool) (xs : List X) (f : ℕ) (d : X) → f < length xs → test (get_or xs f d) ≡ false → ((k : ℕ) → k < f → test (get_or xs k d) ≡ true) → prefix_len test xs ≡ f
front test [] f d h e all = absurd (omega arith)
front test (x ∷ xs) zero d h e all = let here : test x ≡ false = e in rw here refl
front test (x ∷ xs) (suc f) d h e all =
    let passes : test x ≡ true = all 0 (omega arith) in
    let rest = front test xs f d (omega arith) e (λ k lt. all (suc k) (omega arith)) in
    rw passes (omega arith)

is_not : (b : Bool) → (b ≡ true → ⊥) → not b ≡ true
is_not true h = absurd (h refl)
is_not false h = refl

other_name : (a b : TFunctionTree) → (a.name ≡ b.name → ⊥) → is_named_main b ≡ true → not (is_named_main a) ≡ true
other_name a b ne named =
    is_not (is_named_main a) (λ h. ne ((bytes_eq-Decides a.name (codes "main")).0 h ∙ sym ((bytes_eq-Decides b.name (codes "main")).0 named)))

named_there : (o : Option TFunctionTree) → unwrap_or (option_map is_named_main o) false ≡ true → (x : TFunctionTree) × (o ≡ Some x) × (is_named_main x ≡ true)
named_there None e = absurd (cc)
named_there (Some x) e = (x, refl, e)

some_is : {X : Type 0} {a b : X} → Some a ≡ Some b → a ≡ b
some_is e = cc

placed : (p n f : ℕ) → p ≡ f → f < n → cond (nat_lt p n) (Some p) None ≡ Some f
placed p n f e h =
    let test : nat_lt p n ≡ true = grind (arith, nat_tests) in
    rw test (ap Some e)

pub main_first : (program : TProgramTree) → IsWellTyped program → (f : ℕ) → is_main program f ≡ true → main_of program ≡ Some f
main_first program w f e =
    let functions = program.functions in
    let there = named_there (slice_get functions f) e in
    let lt = slice_get_within functions f there.0 there.1 in
    let at : get_or functions f there.0 ≡ there.0 = some_is (sym (slice_get-get_or functions f there.0 lt) ∙ there.1) in
    let named : is_named_main (get_or functions f there.0) ≡ true = ap is_named_main at ∙ there.2 in
    let first = front (λ x. not (is_named_main x)) functions f there.0 lt (ap not named)
    (λ k below. other_name (get_or functions k there.0) (get_or functions f there.0) (w.names_distinct k f there.0 below lt) named) in
    placed _ (length functions) f first lt
