use Rattle.std.proofs.Common.{◌+◌, sym, ◌∙◌, arith}
use Rattle.c_objects.specs.Writing.{is_named}
use Rattle.lower_zeros.proofs.Marks.{none_named_false}
use Rattle.lower_zeros.proofs.zeros.none_marked.Goals as goal

pub returns-then-marks-byte : goal.returns-then-marks-byte
returns-then-marks-byte c = λ inits marked.
    sym (none_named_false (is_named inits) c.args.byte c.loop-k.k c.args.size c.loop-k-test.true
    (sym (marked (c.args.byte + c.loop-k.k) (omega arith)) ∙ c.if-marks-byte.true))
