use Rattle.std.proofs.Common.{ap, ◌∙◌}
use Rattle.std.specs.Result.{is_ok}
use Rattle.c_parser_steps.proofs.Steps.{if_true}
use Rattle.c_parser_steps.proofs.KnownNames.{one_more}
use Rattle.c_parser_steps.proofs.type_names.TypeNames.with.Goals as goal

pub invariant_of-result : goal.invariant_of-result
invariant_of-result c = one_more (λ k. k.items) (λ s. s.value.items) _ _ _ _ _ _ c.self.invariant c.in_ok-insert.ensures.keys (c.push.ensures.items ∙ if_true _ (ap is_ok c.in_ok-push.was)) (ap (λ v. v.items) c.of.ensures)
