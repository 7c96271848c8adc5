use Rattle.std.proofs.lemmas.Result.{IfOk-weaker}
use Rattle.machine_nums.specs.Machines.{Admits}
use Rattle.mem_cell_bytes.specs.Cells.{number_of}
use Rattle.mem_cell_shows.proofs.Spots.{offsets-hold}
use Rattle.mem_cell_shows.proofs.sets.offset_ends.Goals as goal

pub returns-in-Some : goal.returns-in-Some
returns-in-Some g c =
    IfOk-weaker c.value_ends.result _ _ (λ w h. offsets-hold (Admits g.D.Oracle.admits c.args.known.now.nums) c.in-Some.m c.args.offset w c.in-Some.is h) c.value_ends.ensures

pub returns-in-None : goal.returns-in-None
returns-in-None g c = record { holds = λ v u a k. c.all.ensures.holds (number_of u); proper = c.all.ensures.proper }
