use Rattle.std.proofs.Common.{◌<◌, sym, ◌∙◌, length, arith}
use Rattle.c_check_names.specs.Worlds.{world_of}
use Rattle.c_check_decls.proofs.ParameterForms.{numbers_none, parameters_none, parameters_more, numbers_next}
use Rattle.c_check_decls.proofs.parameters.add_parameters.Goals as goal

pub each-init : goal.each-init
each-init c =
    let w = world_of c.args.world.now in
    (c.new-numbers.ensures.items ∙ sym (numbers_none (length w.objects)), parameters_none w)

pub each-preserved : goal.each-preserved
each-preserved c =
    let w = world_of c.args.world.now in
    let v = world_of c.each.world in
    let within : c.each.param-index < length c.args.params.now = omega arith in (
      numbers_next w v c.args.params.now c.each.param-index within c.each.invariant.1 c.each.numbers.items c.push.new.self.items c.in_ok-number.number
          c.each.invariant.0 c.in_ok-number.ensures.number c.in_ok-push.ensures.items,
      parameters_more w v c.args.params.now c.each.param-index within c.each.invariant.1 (world_of c.add_parameter.new.world) c.param-item.result c.param-item.is
          c.in_ok-number.ensures.object,
    )
