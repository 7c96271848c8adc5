use Rattle.std.proofs.Common.{◌<◌, ◌-◌, map, subst, arith}
use Rattle.c_syntax.specs.Program.{structdef_tree, member_tree}
use Rattle.c_layout.specs.Layout.{members_of}
use Rattle.c_layout.proofs.ScalarMembers.{IsFront, has_type, members_rise, last_found, all_behind, members_same, members_none}
use Rattle.c_layout.proofs.scalars.member_at.Goals as goal

pub count_from-count-requires : goal.count_from-count-requires
count_from-count-requires c = members_rise _ c.requires.laid_out c.args.n c.members_of-members.result.now c.members_of-members.ensures

pub returns-then-count-eq0-clause-none : goal.returns-then-count-eq0-clause-none
returns-then-count-eq0-clause-none c none =
    let structs = map structdef_tree c.args.structs.now in
    let front = subst (IsFront c.args.offset c.members_of-members.result.now) c.if-count-eq0.true c.count_from-count.ensures.front in
    members_none structs c.requires.laid_out c.args.n c.args.offset (all_behind structs c.args.n c.args.offset c.members_of-members.result.now c.members_of-members.ensures front)

pub overflow_sub-result : goal.overflow_sub-result
overflow_sub-result c =
    let some : 0 < c.count_from-count.result = omega arith in
    (last_found (map structdef_tree c.args.structs.now) c.args.n c.args.offset c.count_from-count.result c.members_of-members.result.now c.index-members-count.result c.members_of-members.ensures c.count_from-count.ensures.front some c.count_from-count.ensures.few c.index-members-count.is).from

pub returns-clause-member : goal.returns-clause-member
returns-clause-member c =
    let structs = map structdef_tree c.args.structs.now in
    let some : 0 < c.count_from-count.result = omega arith in
    let last = last_found structs c.args.n c.args.offset c.count_from-count.result c.members_of-members.result.now c.index-members-count.result c.members_of-members.ensures c.count_from-count.ensures.front some c.count_from-count.ensures.few c.index-members-count.is in
    (c.count_from-count.result - 1, has_type (members_of structs c.args.n) (c.count_from-count.result - 1) (member_tree c.index-members-count.result) last.there)

pub returns-clause-same : goal.returns-clause-same
returns-clause-same c =
    let structs = map structdef_tree c.args.structs.now in
    let some : 0 < c.count_from-count.result = omega arith in
    let last = last_found structs c.args.n c.args.offset c.count_from-count.result c.members_of-members.result.now c.index-members-count.result c.members_of-members.ensures c.count_from-count.ensures.front some c.count_from-count.ensures.few c.index-members-count.is in
    members_same structs c.requires.laid_out c.args.n c.args.offset (c.count_from-count.result - 1) (member_tree c.index-members-count.result) last
