use Rattle.std.proofs.Common.{refl, ap, ◌∙◌}
use Rattle.std.specs.Prelude.{Option, Some, None}
use Rattle.c_syntax.specs.declared.op.Op.TheVariants as ops
use Rattle.c_syntax.specs.Types.{CTypeTree, ctype_tree}
use Rattle.c_typing.specs.World.{no_rule}
use Rattle.c_check_names.proofs.Steps.{told_as, when_true, when_false}
use Rattle.c_check_names.specs.Worlds.{world_of}
use Rattle.c_check_fills.proofs.values.no_store.Goals as goal

pub returns-then-is_scalar : goal.returns-then-is_scalar
returns-then-is_scalar c =
    let w = world_of c.args.world.now in
    told_as c.no_rule.result (ap (λ (right : Option CTypeTree). no_rule w c.args.at ops.Init (ctype_tree c.args.ty) right)
    (when_true (Some (ctype_tree c.args.from)) None c.if-is_scalar.true c.is_scalar.ensures)) (c.no_rule.ensures w refl)

pub returns-else-is_scalar : goal.returns-else-is_scalar
returns-else-is_scalar c =
    let w = world_of c.args.world.now in
    told_as c.no_init.result (ap (λ (right : Option CTypeTree). no_rule w c.args.at ops.Init (ctype_tree c.args.ty) right)
    (when_false (Some (ctype_tree c.args.from)) None c.if-is_scalar.false c.is_scalar.ensures)) c.no_init.ensures
