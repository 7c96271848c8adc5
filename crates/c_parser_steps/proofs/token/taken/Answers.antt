use Rattle.std.proofs.Common.{refl, sym, arith}
use Rattle.c_parser_steps.specs.Answers.{syntax, unsupported, too_deep, taken, refused}
use Rattle.c_parser_steps.proofs.Steps.{stopped, left_none, left_some, deep_at, borne_at, taken_at}
use Rattle.c_parser_steps.proofs.token.taken.Goals as goal

pub returns-in-None-clause-goes : goal.returns-in-None-clause-goes
returns-in-None-clause-goes c = refused (syntax (left_none c.in-None.ensures))

pub returns-then-not-fits-clause-goes : goal.returns-then-not-fits-clause-goes
returns-then-not-fits-clause-goes c =
    refused (stopped c.refused.ensures (left_some c.in-Some.ensures (λ h. let e = c.if-not-fits.ensures.1 h in cc)))

pub returns-then-count-forms-clause-goes : goal.returns-then-count-forms-clause-goes
returns-then-count-forms-clause-goes c =
    refused (too_deep (deep_at c.in-Some.ensures (c.if-not-fits.ensures.0 refl) (omega arith)))

pub returns-in-Some-token_construct-clause-goes : goal.returns-in-Some-token_construct-clause-goes
returns-in-Some-token_construct-clause-goes c =
    refused (unsupported (borne_at c.in-Some.ensures (c.if-not-fits.ensures.0 refl) (omega arith) (sym (c.in-Some-token_construct.ensures c.args.context.now.types.now))))

pub returns-in-None-token_construct-clause-goes : goal.returns-in-None-token_construct-clause-goes
returns-in-None-token_construct-clause-goes c =
    taken (taken_at c.in-Some.ensures (c.if-not-fits.ensures.0 refl) (omega arith) (sym (c.in-None-token_construct.ensures c.args.context.now.types.now)))
