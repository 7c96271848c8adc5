use Rattle.std.proofs.Common.{◌≡◌, ◌+◌, ◌<◌, ◌≤◌, refl, ap, sym, ◌∙◌, map, length, arith}
use Rattle.std.proofs.lemmas.Option.{IfSome_then}
use Rattle.std.proofs.lemmas.List.{length-map}
use Rattle.c_typing.specs.Decls.{numbers_from}
use Rattle.c_check_decls.proofs.ParameterForms.{numbers_none}
use Rattle.c_check_declarators.specs.Views.{parameter_tree}
use Rattle.c_check_names.specs.Views.{refusal_of}
use Rattle.c_check_names.specs.Worlds.{world_of}
use Rattle.c_check_functions.proofs.Counting.{next_counted, next_halts, none_left, next_number}
use Rattle.c_check_functions.proofs.parameters.count_parameters.Goals as goal

pub each-init : goal.each-init
each-init c =
    let w = world_of c.args.world.now in
    record {
      numbers = c.new-numbers.ensures.items ∙ sym (numbers_none (length w.objects));
      grown = omega arith;
      left = refl;
    }

pub each-preserved : goal.each-preserved
each-preserved c =
    let first = length (world_of c.args.world.now).objects in
    let v = world_of c.each.world in
    let u = world_of c.count_parameter.new.world in
    let params = c.args.params.now in
    let k = c.each.param-index in
    let within : k < length params = omega arith in
    let before : length v.objects ≡ first + k = c.each.invariant.grown in
    let after : length u.objects ≡ length v.objects + 1 = c.in-Ok.ensures.grown in
    record {
      numbers = next_number first k c.in-Ok.number c.each.numbers.items c.push.new.self.items c.each.invariant.numbers (c.in-Ok.ensures.number ∙ before) c.in_ok-push-in-Ok.ensures.items;
      grown = omega (arith, before, after);
      left = next_counted v params k c.param-item.result c.param-item.is within u c.in-Ok.ensures.counted ∙ c.each.invariant.left;
    }

pub returns-in-Err : goal.returns-in-Err
returns-in-Err c = record {
  numbers = tt;
  counted = IfSome_then (refusal_of c.in-Err.error) c.in-Err.ensures.counted (λ r p.
      next_halts (world_of c.each.world) c.args.params.now c.each.param-index c.param-item.result c.param-item.is (omega arith) r p ∙ c.each.invariant.left);
}

pub returns : goal.returns
returns c =
    let first = length (world_of c.args.world.now).objects in
    let params = c.args.params.now in
    let k = c.each.param-index in
    let past : length params ≤ k = omega (arith, c.each-test.false) in
    let all : k ≡ length (map parameter_tree params) = omega (arith, length-map params parameter_tree) in
    record {
      numbers = c.from_vec.ensures ∙ c.each.invariant.numbers ∙ ap (numbers_from first) all;
      counted = none_left (world_of c.each.world) params k past ∙ c.each.invariant.left;
    }
