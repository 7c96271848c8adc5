-- What the sink in memory says of a write gives what each sink says of one.
use Rattle.std.proofs.Common.{arith, ap, ◌≡◌, ◌++◌, ℕ, List, Some, take}
use Rattle.std.proofs.lemmas.Result.{IfOk-weaker, on_err_weaker}
use Rattle.outside_io.proofs.Counts.{raised_rose}
use Rattle.outside_io.proofs.memory_sink.MemSinkSink.TheImpl.Goals as goal

appended : (bytes piece after w : List ℕ) (k : ℕ) → after ≡ bytes ++ take k piece → Some bytes ≡ Some w → Some after ≡ Some (w ++ take k piece)
appended bytes piece after w k e h = grind arith

pub write-tells : goal.write-tells
write-tells c = record {
  later = c.ensures.later;
  count = IfOk-weaker c.result _ _ (λ k e. omega arith) c.ensures.count;
  taken = IfOk-weaker c.result _ _ (λ k e w h. appended _ _ _ _ _ e h) c.ensures.taken;
  nothing = on_err_weaker c.result (ap (λ (x : List ℕ). Some x)) c.ensures.nothing;
  zero = IfOk-weaker c.result _ _ (λ k full none some. raised_rose _ _ (full none some)) c.ensures.full;
  failed = on_err_weaker c.result (raised_rose _ _) c.ensures.raised;
}
