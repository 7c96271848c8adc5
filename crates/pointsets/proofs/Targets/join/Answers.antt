use Rattle.std.proofs.Common.{◌≡◌, ◌||◌, rules}
use Rattle.pointsets.specs.Targets.{Among, with_objects}
use Rattle.pointsets.proofs.Sets.{joined-is}
use Rattle.pointsets.proofs.Targets.join.Goals as goal

pub returns : goal.returns
returns c =
    let mine = c.self.inside in
    let theirs = c.other.inside in
    let left : c.args.self.now ≡ Among mine.names.items mine.null mine.dead = search rules in
    let right : c.args.other.now ≡ Among theirs.names.items theirs.null theirs.dead = search rules in
    let null : c.if-self-2.null ≡ (mine.null || theirs.null) = search rules in
    let dead : c.if-self-3.dead ≡ (mine.dead || theirs.dead) = search rules in
    let after : c.with_objects.new.self ≡ with_objects (Among mine.names.items c.if-self-2.null c.if-self-3.dead) theirs.names.items = search rules in
    rw (left, right, after, null, dead)
    (joined-is mine.names.items theirs.names.items mine.null mine.dead theirs.null theirs.dead c.self.invariant.few)
