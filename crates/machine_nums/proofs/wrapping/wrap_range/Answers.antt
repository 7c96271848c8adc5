use Rattle.std.proofs.Common.{refl}
use Rattle.machine_nums.proofs.Wrapped.{taken_kept, kept_point}
use Rattle.machine_nums.proofs.wrapping.wrap_range.Goals as goal

pub returns-then-lies_in : goal.returns-then-lies_in
returns-then-lies_in c =
    let inside = c.if-lies_in.ensures.0 refl in
    record { takes = taken_kept c.args.t c.args.r inside; kept = λ i. (refl, refl); point = λ n p. kept_point c.args.t c.args.r n inside p }
