use Rattle.std.proofs.Common.{◌≡◌, refl, sym, subst}
use Rattle.c_grammar.specs.Parts.{Initialiser}
use Rattle.c_grammar.specs.Refused.{Unsupported}
use Rattle.c_grammar.specs.Descent.{barred}
use Rattle.c_parser_steps.specs.Answers.{unsupported, too_deep}
use Rattle.c_parser_steps.proofs.Bars.{bar_at}
use Rattle.c_parser_steps.proofs.token.barred.Goals as goal

pub returns-in-None : goal.returns-in-None
returns-in-None c = unsupported (subst (λ v. Unsupported c.args.construct ≡ barred Initialiser c.args.count c.args.construct v) (sym c.in-None.ensures) refl, refl)

pub returns-then-is_too_deep : goal.returns-then-is_too_deep
returns-then-is_too_deep c = too_deep (bar_at _ _ _ c.in-Some.ensures c.if-is_too_deep.ensures, refl)

pub returns-else-is_too_deep : goal.returns-else-is_too_deep
returns-else-is_too_deep c = unsupported (bar_at _ _ _ c.in-Some.ensures c.if-is_too_deep.ensures, refl)
