use Rattle.std.proofs.lemmas.Result.{on_ok_weaker}
use Rattle.octagons_pack.specs.Packs.{picked}
use Rattle.octagons_changes.proofs.relations.Relations.set_within.Goals as goal

pub returns-then-says_something : goal.returns-then-says_something
returns-then-says_something c = record { points = on_ok_weaker c.set.result (λ p v w n h r s. p v w n h (c.ranged.ensures (picked v c.args.self.now.pack) n r) s) c.set.ensures.points }
