use Rattle.std.proofs.Common.{map}
use Rattle.c_syntax.specs.Types.{object_tree}
use Rattle.mem_cell_domain.proofs.Begun.{begun-more}
use Rattle.mem_cell_domain.proofs.lives.blank_all.Goals as goal

pub loop-name-preserved : goal.loop-name-preserved
loop-name-preserved c =
    begun-more (map object_tree c.args.objects.now) c.args.grid.now c.loop-name.grid c.put.new.self c.args.names.now c.loop-name.name-index c.size_at.result
    c.in_ok-held.held c.loop-name-test.true c.loop-name.invariant c.size_at.ensures c.in_ok-held.ensures c.put.ensures
