-- What the rules tell of a program: nothing where it is admitted, and else one refusal but for its calls, in one line.
use Rattle.std.proofs.Common.{arith, ◌≡◌, ◌≢◌, ℕ, zero, suc, List, [], Option, Some, None, refl, sym, ap, ◌∙◌}
use Rattle.std.specs.Prelude.{IfSome, option_and_then, option_map}
use Rattle.c_syntax_written.specs.declared.place.Pos.{Pos}
use Rattle.c_rules.specs.declared.error.RuleError.{RuleError}
use Rattle.c_rules.specs.declared.error.RuleError.TheVariants as errors
use Rattle.c_rules.specs.Outcomes.{IsSameRefusal, question, told_place, told_size}
use Rattle.report.specs.RuleRefusals.{RuleRefusal, Unsequenced, Recursion, NoMain, UndefinedFunction, TooDeepCalls, TooLarge, GotoIntoBlock, refusal_of}
use Rattle.report.specs.RuleText.{rule_pos, rule_text}
use Rattle.report.specs.Refusal.{rule_without_calls}
use Rattle.report.specs.RefusalText.{line_at}

-- an error that tells a refusal answers a question
pub asked : (e : RuleError) (r : RuleRefusal) → refusal_of e ≡ Some r → question e ≢ 0
asked (errors.Unsequenced at left right) r is = λ none. absurd (omega (arith, none))
asked (errors.Recursion calls) r is = λ none. absurd (omega (arith, none))
asked errors.NoMain r is = λ none. absurd (omega (arith, none))
asked (errors.UndefinedFunction at) r is = λ none. absurd (omega (arith, none))
asked (errors.TooDeepCalls calls) r is = λ none. absurd (omega (arith, none))
asked (errors.TooLarge size) r is = λ none. absurd (omega (arith, none))
asked (errors.GotoIntoBlock at) r is = λ none. absurd (omega (arith, none))
asked errors.NoMemory r is = cc

-- the refusal that the number of a question, a place and a size tell
abbrev told_by : ℕ → Option Pos → Option ℕ → Option RuleRefusal
told_by (suc zero) at size = Some NoMain
told_by (suc (suc zero)) at size = option_map UndefinedFunction at
told_by (suc (suc (suc zero))) at size = Some (Recursion [])
told_by (suc (suc (suc (suc zero)))) at size = Some (TooDeepCalls [])
told_by (suc (suc (suc (suc (suc zero))))) at size = option_map TooLarge size
told_by (suc (suc (suc (suc (suc (suc zero)))))) at size = option_map GotoIntoBlock at
told_by (suc (suc (suc (suc (suc (suc (suc zero))))))) at size = option_map Unsequenced at
told_by n at size = None

told_is : (e : RuleError) → option_map rule_without_calls (refusal_of e) ≡ told_by (question e) (told_place e) (told_size e)
told_is (errors.Unsequenced at left right) = refl
told_is (errors.Recursion calls) = refl
told_is errors.NoMain = refl
told_is (errors.UndefinedFunction at) = refl
told_is (errors.TooDeepCalls calls) = refl
told_is (errors.TooLarge size) = refl
told_is (errors.GotoIntoBlock at) = refl
told_is errors.NoMemory = refl

some_is : (r s : RuleRefusal) → Some r ≡ Some s → r ≡ s
some_is r s is = cc

-- two errors that answer one question, at one place and with one size, tell one refusal
pub one_told : (a b : RuleError) (r s : RuleRefusal) → IsSameRefusal a b → refusal_of a ≡ Some r → refusal_of b ≡ Some s → rule_without_calls r ≡ rule_without_calls s
one_told a b r s same first second =
    let told : told_by (question a) (told_place a) (told_size a) ≡ told_by (question b) (told_place b) (told_size b) =
    ap (λ n. told_by n (told_place a) (told_size a)) same.question_is ∙ ap (λ at. told_by (question b) at (told_size a)) same.place
    ∙ ap (told_by (question b) (told_place b)) same.size in
    some_is (rule_without_calls r) (rule_without_calls s)
    (ap (option_map rule_without_calls) (sym first) ∙ told_is a ∙ told ∙ sym (told_is b) ∙ ap (option_map rule_without_calls) second)

-- the line of a refusal, where what is told of it and its place are given
pub line_told : (name : List ℕ) (names : List (List ℕ)) (found : Option RuleRefusal) (at : Option Pos) (text line : List ℕ)
    → at ≡ option_and_then rule_pos found → IfSome found (λ r. text ≡ rule_text names r) → line ≡ line_at name at text
    → IfSome found (λ r. line ≡ line_at name (rule_pos r) (rule_text names r))
line_told name names None at text line place words is = tt
line_told name names (Some r) at text line place words is = is ∙ ap (λ a. line_at name a text) place ∙ ap (line_at name (rule_pos r)) words
