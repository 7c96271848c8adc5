-- What the system's files say of a call gives what all files say of one.
use Rattle.std.proofs.Common.{refl, ◌∙◌}
use Rattle.std.proofs.lemmas.Result.{on_err_weaker}
use Rattle.outside_io.proofs.Counts.{rose_at_err, true_at_ok, untold, always_ok, always_err}
use Rattle.outside_io.proofs.host.HostFilesFiles.TheImpl.Goals as goal

pub begin-tells : goal.begin-tells
begin-tells g c = record {
  told = λ n. refl;
  later = λ n. c.ensures.later;
  «open» = true_at_ok c.result c.new.self.now.is_open c.ensures.«open»;
  closed = always_ok c.result (λ _ n b o e. untold b e);
  given = always_ok c.result (λ _ b e. untold b e);
  there = λ n b o e. untold b e;
  failed = rose_at_err c.result c.args.self.now.faults c.new.self.now.faults c.ensures.faults;
}

pub read-tells : goal.read-tells
read-tells g c = record {
  told = λ n. refl;
  later = λ n. c.ensures.later;
  «open» = λ n o. c.ensures.«open» ∙ o;
  count = c.ensures.count;
  given = always_ok c.result (λ k b e. untold b e);
  kept = always_err c.result refl;
  there = λ n b o e. untold b e;
  front = λ n b g o e. untold b e;
  end = always_ok c.result (λ k none some n b g o e. untold b e);
  failed = on_err_weaker c.result (λ rose n o. rose) (rose_at_err c.result c.args.self.now.faults c.new.self.now.faults c.ensures.faults);
}
