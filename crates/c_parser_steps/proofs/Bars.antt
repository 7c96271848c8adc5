-- Why a token is refused that bears a construct of its place.
use Rattle.std.proofs.Common.{◌≡◌, refl, sym, subst, ap, ℕ, ◌+◌, ◌<◌, ◌≤◌, arith, nat_lt, Bool, true, false, List, [], ◌∷◌}
use Rattle.std.proofs.lemmas.Bool.{ltb-true}
use Rattle.std.specs.Prelude.{if◌then◌else◌}
use Rattle.c_syntax_written.specs.declared.construct.Construct.{Construct}
use Rattle.c_syntax_written.specs.declared.token.Placed.{Placed}
use Rattle.c_syntax_written.specs.Written.{ExprTree}
use Rattle.c_grammar.specs.Parts.{Initialiser, AnExpr, Suffixes}
use Rattle.c_grammar.specs.Ahead.{is_open}
use Rattle.c_grammar.specs.Refused.{Unsupported, TooDeep, is_bracket, forms_of_bracket, nesting_limit, first_is}
use Rattle.c_grammar.specs.Descent.{barred}

pub bar_at : (d : ℕ) (c : Construct) (t : Placed) {rest ts : List Placed} {b : Bool} → ts ≡ t ∷ rest → b ≡ nat_lt nesting_limit (d + forms_of_bracket (is_bracket t.token)) → (if b then TooDeep else Unsupported c) ≡ barred Initialiser d c ts
bar_at d c t {rest} {ts} {b} e f =
    subst (λ v. (if b then TooDeep else Unsupported c) ≡ barred Initialiser d c v) (sym e) (ap (λ v. if v then TooDeep else Unsupported c) f)

pub bar_call : (d : ℕ) (c : Construct) (base : ExprTree) (ts : List Placed) {b : Bool} → first_is is_open ts ≡ true → b ≡ nat_lt nesting_limit (d + 2) → (if b then TooDeep else Unsupported c) ≡ barred (AnExpr (Suffixes base)) d c ts
bar_call d c base [] {b} e f = absurd (let h : false ≡ true = e in cc)
bar_call d c base (t ∷ ts) {b} e f = ap (λ v. if v then TooDeep else Unsupported c) f

above_cases : (n : ℕ) (b : Bool) → b ≡ nat_lt nesting_limit n → n ≤ nesting_limit → b ≡ false
above_cases n true e h = let l : nesting_limit < n = ltb-true nesting_limit n (sym e) in absurd (omega arith)
above_cases n false e h = refl

pub not_above : (n : ℕ) → n ≤ nesting_limit → nat_lt nesting_limit n ≡ false
not_above n h = above_cases n (nat_lt nesting_limit n) refl h
