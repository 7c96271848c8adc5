-- What the standard output says of a write gives what each sink says of one.
use Rattle.std.proofs.Common.{refl}
use Rattle.std.proofs.lemmas.Result.{IfOk-weaker, on_err_weaker}
use Rattle.outside_io.proofs.Counts.{raised_rose, untold, always_ok, always_err}
use Rattle.outside_io.proofs.host.HostOutSink.TheImpl.Goals as goal

pub write-tells : goal.write-tells
write-tells g c = record {
  later = c.ensures.later;
  count = c.ensures.count;
  taken = always_ok c.result (λ k w e. untold w e);
  nothing = always_err c.result refl;
  zero = IfOk-weaker c.result _ _ (λ k up none some. raised_rose _ _ (up none some)) c.ensures.none;
  failed = on_err_weaker c.result (raised_rose _ _) c.ensures.failed;
}
