use Rattle.outside_io.proofs.Fronts.{taken_front}
use Rattle.outside_io.proofs.host.write_piece.Goals as goal

pub returns-in-Err-flush-clause-cut : goal.returns-in-Err-flush-clause-cut
returns-in-Err-flush-clause-cut g c =
    let contents = g.W.Write.contents in
    taken_front (contents c.args.sink.now) (contents c.write.new.self) (contents c.flush.new.self) c.in-Ok.count c.args.piece.now
    c.in-Ok.ensures.bytes c.flush.ensures.bytes
