use Rattle.std.proofs.Common.{◌≡◌, ℕ, ℤ, pos, zero, suc, ◌≤◌, List, [], ◌∷◌, length, get_or, refl, sym, ◌∙◌, arith, rules, FitsSigned}
use Rattle.std.proofs.lemmas.Int.{to_z-of_z}
use mir.Syntax.{w128}
use Rattle.ext_int.specs.Valuation.{value_at}
use Rattle.trial_numbers.proofs.boxes.number_of.Goals as goal

at_index : (xs : List ℤ) (k : ℕ) → value_at xs k ≡ get_or xs k (pos 0)
at_index [] zero = refl
at_index [] (suc k) = refl
at_index (x ∷ xs) zero = refl
at_index (x ∷ xs) (suc k) = at_index xs k

past : (xs : List ℤ) (k : ℕ) → length xs ≤ k → value_at xs k ≡ pos 0
past [] k h = refl
past (x ∷ xs) zero h = absurd (omega arith)
past (x ∷ xs) (suc k) h = past xs k (omega arith)

pub returns-then-at-numbers : goal.returns-then-at-numbers
returns-then-at-numbers c =
    let n = get_or c.args.numbers.now c.args.x (pos 0) in
    let f : FitsSigned w128 n = search rules in
    to_z-of_z w128 n f ∙ sym (at_index c.args.numbers.now c.args.x)

pub returns-else-at-numbers : goal.returns-else-at-numbers
returns-else-at-numbers c = sym (past c.args.numbers.now c.args.x c.if-at-numbers.false)
