use Rattle.mem_temps.proofs.Showed.{any_set, null_set}
use Rattle.mem_temps.proofs.shows.shown_set.Goals as goal

pub returns-then-is_zero : goal.returns-then-is_zero
returns-then-is_zero c = null_set c.args.r c.null_pointer.result (c.is_zero.ensures.0 c.if-is_zero.true) c.null_pointer.ensures

pub returns : goal.returns
returns c = any_set c.args.r c.any_pointer.result (λ p. let yes = c.is_zero.ensures.1 p in let no = c.if-is_zero.false in absurd (cc)) c.any_pointer.ensures
