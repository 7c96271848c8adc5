use Rattle.std.proofs.Common.{rules}
use Rattle.std.specs.Prelude.{IsTrue}
use Rattle.c_syntax.specs.Admission.{IsBetween, IsInClass}
use Rattle.mem_intervals.proofs.membership.has_number.Goals as goal

pub returns-then-is_between : goal.returns-then-is_between
returns-then-is_between c =
    let between : IsBetween c.args.lo c.args.hi c.args.n = search rules in
    let there : IsTrue c.is_in_class.result → IsInClass c.args.modulus c.args.rem c.args.n = search rules in
    let back : IsInClass c.args.modulus c.args.rem c.args.n → IsTrue c.is_in_class.result = search rules in
    (λ inside. (between, there inside), λ both. back both.1)
