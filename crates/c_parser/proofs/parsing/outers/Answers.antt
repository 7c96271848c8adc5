use Rattle.std.proofs.Common.{sym, ap, ◌∙◌}
use Rattle.std.specs.Result.{is_ok}
use Rattle.c_parser_steps.proofs.Steps.{if_true}
use Rattle.c_parser_steps.specs.Answers.{no_memory}
use Rattle.c_parser.proofs.Answered.{fault_passed, outers_begin, outers_end, outers_more, outer_added}
use Rattle.c_parser_steps.proofs.Paths.{halts_behind}
use Rattle.c_parser.proofs.parsing.outers.Goals as goal

pub loop-rest-init : goal.loop-rest-init
loop-rest-init c = λ o g. outers_begin _ c.new-types.ensures c.new-outers.ensures.items g

pub returns-in_err-next : goal.returns-in_err-next
returns-in_err-next c = fault_passed _ _ _ c.from_residual.ensures.1 (halts_behind (outers_more c.loop-rest.invariant (sym c.is_empty.ensures ∙ c.loop-rest-test.true)) c.in_err-next.ensures.goes)

pub returns-in_err-types : goal.returns-in_err-types
returns-in_err-types c = fault_passed _ _ _ c.from_residual-in_err-types.ensures.1 no_memory

pub returns-in_err-push : goal.returns-in_err-push
returns-in_err-push c = fault_passed _ _ _ c.from_residual-in_err-push.ensures.1 no_memory

pub loop-rest-preserved : goal.loop-rest-preserved
loop-rest-preserved c = λ o g. outer_added _ _ (outers_more c.loop-rest.invariant (sym c.is_empty.ensures ∙ c.loop-rest-test.true)) c.in_ok-next.ensures.goes c.in_ok-types.ensures (c.push.ensures.items ∙ if_true _ (ap is_ok c.in_ok-push.was)) g

pub returns : goal.returns
returns c = c.loop-rest.invariant _ (outers_end (sym c.is_empty.ensures ∙ c.loop-rest-test.false))
