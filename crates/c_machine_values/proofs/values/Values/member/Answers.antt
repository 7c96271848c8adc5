use Rattle.std.proofs.Common.{map}
use Rattle.c_syntax.specs.Types.{object_tree}
use Rattle.c_machine_values.proofs.Done.{member_wrong}
use Rattle.c_machine_values.proofs.values.Values.member.Goals as goal

pub returns-in_ok-put_value-in-Err : goal.returns-in_ok-put_value-in-Err
returns-in_ok-put_value-in-Err c =
    member_wrong (map object_tree c.args.objects.now) c.args.self.now.memory _ _ _ c.args.pos c.args.offset c.take_value-place.result _ _
    c.take_value-place.ensures c.in_ok-put_value-in-Err.ensures c.in-Err.ensures.answer
