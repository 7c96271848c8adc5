use Rattle.std.proofs.Common.{map}
use Rattle.c_syntax.specs.Types.{object_tree}
use Rattle.c_machine_values.proofs.Modifying.{comes_back, converted_made, taken_left}
use Rattle.c_machine_values.proofs.values.Values.changed.Goals as goal

pub binary-requires-clause-typed : goal.binary-requires-clause-typed
binary-requires-clause-typed c =
    taken_left c.args.change.ty c.args.change.op c.args.operand c.requires.changes c.left_type.result c.args.old c.as_scalar-left.result c.left_type.ensures
    c.requires.old.0 c.as_scalar-left.ensures

pub as_scalar-requires : goal.as_scalar-requires
as_scalar-requires c =
    let h = c.requires.changes in
    let taken = taken_left c.args.change.ty c.args.change.op c.args.operand h c.left_type.result c.args.old c.as_scalar-left.result c.left_type.ensures
    c.requires.old.0 c.as_scalar-left.ensures in
    h.back c.in-Ok.new (comes_back (map object_tree c.args.objects.now) c.args.self.now.memory c.args.change.ty c.args.change.op c.args.operand h
    c.as_scalar-left.result c.in-Ok.new taken c.in-Ok.ensures.answer)

pub returns-in-Ok-clause-typed : goal.returns-in-Ok-clause-typed
returns-in-Ok-clause-typed c =
    let h = c.requires.changes in
    let taken = taken_left c.args.change.ty c.args.change.op c.args.operand h c.left_type.result c.args.old c.as_scalar-left.result c.left_type.ensures
    c.requires.old.0 c.as_scalar-left.ensures in (
      h.stored c.in-Ok.new c.as_scalar.result (comes_back (map object_tree c.args.objects.now) c.args.self.now.memory c.args.change.ty c.args.change.op
          c.args.operand h c.as_scalar-left.result c.in-Ok.new taken c.in-Ok.ensures.answer) c.as_scalar.ensures,
      converted_made _ c.args.change.ty c.in-Ok.new c.as_scalar.result c.as_scalar.ensures c.in-Ok.ensures.made,
    )
