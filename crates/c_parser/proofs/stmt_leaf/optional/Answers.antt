use Rattle.c_grammar.specs.Parts.{Optionally}
use Rattle.std.proofs.Common.{refl, sym, ap, ◌∙◌, arith}
use Rattle.c_grammar.specs.Refused.{first_is}
use Rattle.c_parser_steps.proofs.Steps.{if_false, if_true, sign_is}
use Rattle.c_parser_steps.proofs.Paths.{after, begin, behind, ends, halts_after, halts_behind}
use Rattle.c_parser_steps.specs.Answers.{halted}
use Rattle.c_parser.proofs.stmt_leaf.optional.Goals as goal

pub returns-in-Err-clause-goes : goal.returns-in-Err-clause-goes
returns-in-Err-clause-goes c = halted (halts_after (begin {p = Optionally c.args.closing} (λ o g. g) refl (if_true _ (ap (λ f. first_is f c.args.tokens.now) (sym c.lookahead_of.ensures) ∙ sym c.comes.ensures ∙ c.if-comes.true))) (sign_is c.sign.ensures c.in-Err.ensures.goes))

pub returns-then-comes-clause-goes : goal.returns-then-comes-clause-goes
returns-then-comes-clause-goes c = ends (after (begin {p = Optionally c.args.closing} (λ o g. g) refl (if_true _ (ap (λ f. first_is f c.args.tokens.now) (sym c.lookahead_of.ensures) ∙ sym c.comes.ensures ∙ c.if-comes.true))) (sign_is c.sign.ensures c.in-Ok.ensures.goes)) refl

pub returns-in-Err-joined_operands-clause-goes : goal.returns-in-Err-joined_operands-clause-goes
returns-in-Err-joined_operands-clause-goes c = halted (halts_behind (begin {p = Optionally c.args.closing} (λ o g. g) refl (if_false _ (ap (λ f. first_is f c.args.tokens.now) (sym c.lookahead_of.ensures) ∙ sym c.comes.ensures ∙ c.if-comes.false))) c.in-Err-joined_operands.ensures.goes)

pub returns-in-Err-taken-clause-goes : goal.returns-in-Err-taken-clause-goes
returns-in-Err-taken-clause-goes c = halted (halts_after (behind (begin {p = Optionally c.args.closing} (λ o g. g) refl (if_false _ (ap (λ f. first_is f c.args.tokens.now) (sym c.lookahead_of.ensures) ∙ sym c.comes.ensures ∙ c.if-comes.false))) c.in-Ok-joined_operands.ensures.goes) (sign_is c.sign.ensures c.in-Err-taken.ensures.goes))

pub returns-clause-goes : goal.returns-clause-goes
returns-clause-goes c = ends (after (behind (begin {p = Optionally c.args.closing} (λ o g. g) refl (if_false _ (ap (λ f. first_is f c.args.tokens.now) (sym c.lookahead_of.ensures) ∙ sym c.comes.ensures ∙ c.if-comes.false))) c.in-Ok-joined_operands.ensures.goes) (sign_is c.sign.ensures c.in-Ok-taken.ensures.goes)) refl

pub returns-clause-shorter : goal.returns-clause-shorter
returns-clause-shorter c = omega (arith, c.in-Ok-joined_operands.ensures.shorter, c.in-Ok-taken.ensures.shorter)
