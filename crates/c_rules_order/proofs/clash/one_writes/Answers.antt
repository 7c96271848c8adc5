use Rattle.std.proofs.Common.{[], ◌++◌}
use Rattle.c_rules_order.proofs.Sidewise.{told_so}
use Rattle.c_rules_order.proofs.clash.one_writes.Goals as goal

pub returns : goal.returns
returns c =
    let taken = c.as_slice-taken.result.now in
    let reads = c.as_slice.result.now in
    let writes = c.as_slice-2.result.now in
    let first = c.in_ok-insert_all.ensures [] (c.new-touched.ensures taken) in
    let second = c.in_ok-insert_all-2.ensures reads first in
    told_so c.one_met.result taken c.args.known.now.taken.items reads c.args.b.now.reads writes c.args.b.now.writes c.as_slice-3.result.now c.args.a.now.writes
    c.as_slice-taken.ensures.value c.as_slice.ensures c.as_slice-2.ensures c.as_slice-3.ensures (c.one_met.ensures (reads ++ writes) second)
