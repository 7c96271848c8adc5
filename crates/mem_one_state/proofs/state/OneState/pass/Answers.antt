use Rattle.std.proofs.Common.{sym, ap, ◌∙◌, map}
use Rattle.c_syntax.specs.Types.{object_tree}
use Rattle.csharp.specs.Trees.{cscheck_tree}
use Rattle.csharp_state.specs.Answers.{judged, operand_of}
use Rattle.mem_one_state.proofs.Findings.{passes_not}
use Rattle.mem_one_state.proofs.state.OneState.pass.Goals as goal

pub returns-in-Ok-Fails-clause-stands : goal.returns-in-Ok-Fails-clause-stands
returns-in-Ok-Fails-clause-stands c s h g = absurd
    (passes_not (map object_tree c.args.objects.now) (cscheck_tree c.args.check.now) c.args.self.now c.in-Some.state c.in-Ok-Fails.field-0-0
    (operand_of c.in-Ok-Fails.field-0-1) (sym c.self.view_is ∙ c.in-Some.is) (sym (ap judged c.in-Ok-Fails.field-0-is) ∙ c.in-Ok-Fails.ensures.is) s h g)
