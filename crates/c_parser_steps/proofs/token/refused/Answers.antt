use Rattle.std.proofs.Common.{◌≡◌, refl, sym, subst}
use Rattle.c_grammar.specs.Refused.{Syntax}
use Rattle.c_grammar.specs.Descent.{refusal}
use Rattle.c_parser_steps.specs.Answers.{syntax, unsupported, too_deep}
use Rattle.c_parser_steps.specs.Views.{scene_of}
use Rattle.c_parser_steps.proofs.Steps.{refusal_at}
use Rattle.c_parser_steps.proofs.token.refused.Goals as goal

pub returns-in-None : goal.returns-in-None
returns-in-None c = syntax (subst (λ v. Syntax ≡ refusal (scene_of c.args.context.now) c.args.count v) (sym c.in-None.ensures) refl, refl)

pub returns-then-opens_too_deep : goal.returns-then-opens_too_deep
returns-then-opens_too_deep c = too_deep (refusal_at (scene_of c.args.context.now) _ _ c.in-Some.ensures c.if-opens_too_deep.ensures refl, refl)

pub returns-in-Some-token_construct : goal.returns-in-Some-token_construct
returns-in-Some-token_construct c =
    unsupported (refusal_at (scene_of c.args.context.now) _ _ c.in-Some.ensures c.if-opens_too_deep.ensures (c.in-Some-token_construct.ensures c.args.context.now.types.now), refl)

pub returns-in-None-token_construct : goal.returns-in-None-token_construct
returns-in-None-token_construct c =
    syntax (refusal_at (scene_of c.args.context.now) _ _ c.in-Some.ensures c.if-opens_too_deep.ensures (c.in-None-token_construct.ensures c.args.context.now.types.now), refl)
