-- What follows the parts of the productions of expressions.
use Rattle.std.proofs.Common.{◌≡◌, refl, true, not, lit≤}
use Rattle.c_syntax_written.specs.Written.{ExprTree}
use Rattle.c_grammar.specs.declared.parts.Level.{Level}
use Rattle.c_grammar.specs.declared.parts.Level.TheVariants.{Commas, Ors}
use Rattle.c_grammar.specs.declared.parts.Closing.{Closing}
use Rattle.c_grammar.specs.declared.parts.Closing.TheVariants.{BySemicolon as by_semicolon, ByParenthesis as by_parenthesis, ByBracket as by_bracket, ByColon as by_colon}
use Rattle.c_grammar.specs.Parts.{Scene, Part, More, AnExpr, Value}
use Rattle.c_grammar.specs.declared.class.Class.TheVariants.{Sign as sign}
use Rattle.c_grammar.specs.Classes.{closing_sign}
use Rattle.c_grammar.specs.Process.{Process}
use Rattle.c_grammar.specs.Ahead.{is_spec_word}
use Rattle.c_grammar.specs.ExprRules.{ExprRule, operand}
use Rattle.c_grammar.specs.ExprRules as exprs
use Rattle.c_grammar.specs.Refused.{is_bracket}
use Rattle.c_grammar.proofs.Table.{WellFollowed, well_give, well_only}
use Rattle.c_grammar.proofs.Sets.{covers, apart, inside}
use Rattle.c_grammar.proofs.Firsts.{firsts, expr_nexts, run_nexts, begins, continues, by_token}
use Rattle.c_grammar.proofs.Followed.{ahead, between, silent, last, closed, plain, nested}
use Rattle.c_grammar.proofs.Own.{never}

-- a joint of a rank continues none of its operands
joint_apart : (l : Level) (left : ExprTree) → apart (firsts (AnExpr (More l left))) (expr_nexts (operand l)) ≡ true
joint_apart Commas left = refl
joint_apart Ors left = refl
joint_apart _ left = refl

operand_inside : (l : Level) → inside (expr_nexts (operand l)) (run_nexts l) ≡ true
operand_inside Commas = refl
operand_inside Ors = refl
operand_inside _ = refl

run_itself : (l : Level) → inside (run_nexts l) (run_nexts l) ≡ true
run_itself Commas = refl
run_itself _ = refl

closing_plain : (p : Closing) → covers (λ c. not (by_token is_bracket c)) (sign (closing_sign p)) ≡ true
closing_plain by_semicolon = refl
closing_plain by_parenthesis = refl
closing_plain by_bracket = refl
closing_plain by_colon = refl

closing_misses : (p : Closing) → covers (λ c. not (run_nexts Commas c)) (sign (closing_sign p)) ≡ true
closing_misses by_semicolon = refl
closing_misses by_parenthesis = refl
closing_misses by_bracket = refl
closing_misses by_colon = refl

pub expr_follows : {w : Scene} {p : Part} {q : Process (Value p)} → ExprRule w p q → WellFollowed begins continues w p q
unfolding is_spec_word
expr_follows (exprs.run {l}) = between refl (λ a. (refl, joint_apart l a, λ b e. tt)) (λ a v. operand_inside l) (λ a. lit≤ tt) (λ a. last refl (λ b. run_itself l))
expr_follows exprs.run_end = well_give
expr_follows (exprs.run_more {l} j e) = nested (lit≤ tt) (λ t f. between refl (λ a. (refl, joint_apart l a, λ b e. tt)) (λ a v. operand_inside l) (λ a. lit≤ tt) (λ a. last refl (λ b. run_itself l)))
expr_follows exprs.assignment = between refl (λ a. (refl, refl, λ b e. tt)) (λ a v. refl) (λ a. lit≤ tt) (λ a. last refl (λ b. refl))
expr_follows exprs.not_assigned = well_give
expr_follows exprs.assigned = nested (lit≤ tt) (λ t f. last refl (λ a. refl))
expr_follows (exprs.compound op) = nested (lit≤ tt) (λ t f. last refl (λ a. refl))
expr_follows exprs.conditional = between refl (λ a. (refl, refl, λ b e. tt)) (λ a v. refl) (λ a. lit≤ tt) (λ a. last refl (λ b. refl))
expr_follows exprs.not_chosen = well_give
expr_follows exprs.chosen = nested (lit≤ tt) (λ t f. ahead refl (λ a. (refl, refl, λ b e. never e)) (λ a. refl) (λ a. lit≤ tt) (λ a. silent (λ b c. refl) (λ b. lit≤ tt) (λ b. last refl (λ d. refl))))
expr_follows exprs.cast = well_only (nested (lit≤ tt) (λ t f. between refl (λ a. (refl, refl, λ b e. (refl, refl, λ c g. never g))) (λ a v. refl) (λ a. lit≤ tt) (λ a. ahead refl (λ b. (refl, refl, λ c e. never e)) (λ b. refl) (λ b. lit≤ tt) (λ b. silent (λ c d. refl) (λ c. lit≤ tt) (λ c. last refl (λ d. refl))))))
expr_follows exprs.no_cast = well_only (last refl (λ a. refl))
expr_follows exprs.operand_cast = last refl (λ a. refl)
expr_follows (exprs.unary op) = nested (lit≤ tt) (λ t f. last refl (λ a. refl))
expr_follows (exprs.pre_step way) = nested (lit≤ tt) (λ t f. last refl (λ a. refl))
expr_follows exprs.size_of = plain refl (λ t f. last refl (λ a. refl))
expr_follows exprs.size_of_type = well_only (nested (lit≤ tt) (λ t f. between refl (λ a. (refl, refl, λ b e. (refl, refl, λ c g. never g))) (λ a v. refl) (λ a. lit≤ tt) (λ a. ahead refl (λ b. (refl, refl, λ c e. never e)) (λ b. refl) (λ b. lit≤ tt) (λ b. silent (λ c d. refl) (λ c. lit≤ tt) (λ c. last refl (λ d. refl))))))
expr_follows exprs.size_of_expr = well_only (last refl (λ a. refl))
expr_follows exprs.after_type = well_give
expr_follows exprs.no_prefix = last refl (λ a. refl)
expr_follows exprs.postfix = between refl (λ a. (refl, refl, λ b e. tt)) (λ a v. refl) (λ a. lit≤ tt) (λ a. last refl (λ b. refl))
expr_follows exprs.no_suffix = well_give
expr_follows exprs.index = nested (lit≤ tt) (λ t f. ahead refl (λ a. (refl, refl, λ b e. never e)) (λ a. refl) (λ a. lit≤ tt) (λ a. silent (λ b c. refl) (λ b. lit≤ tt) (λ b. last refl (λ d. refl))))
expr_follows exprs.call = nested (lit≤ tt) (λ t f. silent (λ a c. refl) (λ a. lit≤ tt) (λ a. last refl (λ b. refl)))
expr_follows exprs.dot = plain refl (λ t f. silent (λ a c. refl) (λ a. lit≤ tt) (λ a. last refl (λ b. refl)))
expr_follows exprs.arrow = plain refl (λ t f. silent (λ a c. refl) (λ a. lit≤ tt) (λ a. last refl (λ b. refl)))
expr_follows (exprs.post_step way) = nested (lit≤ tt) (λ t f. last refl (λ a. refl))
expr_follows exprs.no_arguments = plain refl (λ t f. well_give)
expr_follows exprs.arguments = ahead refl (λ a. (refl, refl, λ b e. never e)) (λ a. refl) (λ a. lit≤ tt) (λ a. closed (λ b c. refl))
expr_follows exprs.arguments_end = plain refl (λ t f. well_give)
expr_follows exprs.arguments_more = plain refl (λ t f. ahead refl (λ a. (refl, refl, λ b e. never e)) (λ a. refl) (λ a. lit≤ tt) (λ a. closed (λ b c. refl)))
expr_follows exprs.a_word = plain refl (λ t f. well_give)
expr_follows exprs.a_number = plain refl (λ t f. well_give)
expr_follows exprs.a_character = plain refl (λ t f. well_give)
expr_follows exprs.a_text = plain refl (λ t f. last refl (λ a. refl))
expr_follows exprs.texts_end = well_give
expr_follows exprs.texts_more = plain refl (λ t f. last refl (λ a. refl))
expr_follows exprs.enclosed = nested (lit≤ tt) (λ t f. ahead refl (λ a. (refl, refl, λ b e. never e)) (λ a. refl) (λ a. lit≤ tt) (λ a. closed (λ b c. refl)))
expr_follows (exprs.closes {p}) = plain (closing_plain p) (λ t f. well_give)
expr_follows exprs.member_name = plain refl (λ t f. well_give)
expr_follows (exprs.nothing_before {p}) = plain (closing_plain p) (λ t f. well_give)
expr_follows (exprs.something_before {p}) = ahead refl (λ a. closing_misses p) (λ a. refl) (λ a. tt) (λ a. plain (closing_plain p) (λ t f. well_give))
