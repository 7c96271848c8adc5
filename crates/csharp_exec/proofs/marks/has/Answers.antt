use Rattle.std.proofs.Common.{sym, ◌∙◌, arith}
use Rattle.csharp_exec.specs.Told.{mark_of}
use Rattle.csharp_exec.proofs.Rows.{found, passed, none_found}
use Rattle.csharp_exec.proofs.marks.has.Goals as goal

pub returns-then-is_mark : goal.returns-then-is_mark
returns-then-is_mark c =
    sym (sym c.loop-item.invariant ∙ found c.args.items.now c.loop-item.item-index c.item-item.result (omega arith) c.item-item.is (mark_of c.args.mark)
    (sym c.is_mark.ensures ∙ c.if-is_mark.true))

pub loop-item-preserved : goal.loop-item-preserved
loop-item-preserved c =
    sym (passed c.args.items.now c.loop-item.item-index c.item-item.result (omega arith) c.item-item.is (mark_of c.args.mark)
    (sym c.is_mark.ensures ∙ c.if-is_mark.false)) ∙ c.loop-item.invariant

pub returns : goal.returns
returns c = sym (sym c.loop-item.invariant ∙ none_found c.args.items.now c.loop-item.item-index (mark_of c.args.mark) (omega arith))
