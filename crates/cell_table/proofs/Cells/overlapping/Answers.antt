use Rattle.std.proofs.Common.{◌≡◌, ◌++◌, subst, rules}
use Rattle.cell_table.specs.Cells.{Table, AreOverlapping}
use Rattle.cell_table.specs.Kept.{slots_of}
use Rattle.cell_table.specs.Places.{numbers_in}
use Rattle.cell_table.proofs.Overlaps.{are-overlapping}
use Rattle.cell_table.proofs.Cells.overlapping.Goals as goal

pub returns : goal.returns
returns c =
    let numbers = numbers_in c.args.object c.args.from c.args.to c.self.inside.places.entries in
    let appended : c.from_vec.result ≡ c.args.out.now ++ numbers = search rules in
    record {
      numbers = numbers;
      appended = appended;
      are = subst (λ (t : Table). AreOverlapping t.slots c.args.object c.args.from c.args.to numbers) c.self.view_is
          (are-overlapping (slots_of c.self.inside.cells.entries) c.self.inside.places c.self.invariant c.in_ok-push_overlapping.ensures.ordered c.args.object c.args.from c.args.to);
    }
