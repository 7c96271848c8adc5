use Rattle.std.proofs.Common.{arith}
use Rattle.c_lexer.proofs.PunctuatorLemmas.{longest_punctuator, no_punctuator}
use Rattle.c_lexer.proofs.punctuation.punctuator.Goals as goal

pub returns-in-Some : goal.returns-in-Some
returns-in-Some c = longest_punctuator c.args.bytes.now 3 c.in-Some.found c.in-Some.ensures (omega arith) (λ k. absurd (omega arith)) (λ k. absurd (omega arith))

pub returns-in-Some-two : goal.returns-in-Some-two
returns-in-Some-two c = longest_punctuator c.args.bytes.now 2 c.in-Some-two.found c.in-Some-two.ensures (omega arith) (λ k. c.in_default.ensures) (λ k. absurd (omega arith))

pub returns-in-Some-one : goal.returns-in-Some-one
returns-in-Some-one c = longest_punctuator c.args.bytes.now 1 c.in-Some-one.found c.in-Some-one.ensures (omega arith) (λ k. c.in_default.ensures) (λ k. c.in_default-two.ensures)

pub returns-in_default-one : goal.returns-in_default-one
returns-in_default-one c = no_punctuator c.args.bytes.now c.in_default.ensures c.in_default-two.ensures c.in_default-one.ensures
