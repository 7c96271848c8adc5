use Rattle.std.proofs.lemmas.Result.{on_ok_weaker}
use Rattle.octagons_changes.proofs.Bounding.{drawn-by}
use Rattle.octagons_changes.proofs.relations.Relations.set_from.Goals as goal

pub returns : goal.returns
returns c = record {
  points = on_ok_weaker c.redraw.result
      (λ p v w n h r s. p v w (n, s, drawn-by v c.args.self.now.pack c.args.s c.args.k c.args.r n c.requires.place c.requires.here r) h)
      c.redraw.ensures.points;
}
