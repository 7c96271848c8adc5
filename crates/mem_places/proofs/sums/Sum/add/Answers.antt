use Rattle.std.proofs.Common.{rules}
use mir.Syntax.{w128}
use Rattle.std.proofs.lemmas.Int.{to_z-of_z}
use Rattle.mem_places.proofs.Balance.{pushed_up, pushed_down}
use Rattle.mem_places.proofs.sums.Sum.add.Goals as goal

pub returns-in_ok-push : goal.returns-in_ok-push
returns-in_ok-push c = pushed_up c.self.inside.up.items c.push.new.self.items c.self.inside.down.items _ c.args.n c.args.self.now c.in_ok-push.ensures.items
    (to_z-of_z w128 c.args.n (search rules)) c.self.view_is

pub returns-in_ok-push-2 : goal.returns-in_ok-push-2
returns-in_ok-push-2 c = pushed_down c.self.inside.up.items c.self.inside.down.items c.push-else-n-ge0.new.self.items _ c.args.n c.args.self.now
    c.in_ok-push-2.ensures.items (to_z-of_z w128 c.args.n (search rules)) c.self.view_is
