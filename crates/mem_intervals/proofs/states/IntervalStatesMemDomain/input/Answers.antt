use Rattle.std.proofs.Common.{◌∙◌, map, refl, ap, None}
use Rattle.std.specs.Prelude.{slice_set}
use Rattle.c_syntax.specs.Types.{object_tree}
use Rattle.mem_intervals.proofs.UnderSteps.{renamed, input_leaves}
use Rattle.num_api.specs.Spans.{range_of}
use Rattle.machine_nums.specs.Rule.{type_span}
use Rattle.mem_intervals.proofs.InSteps.{like, input_in}
use Rattle.mem_intervals.proofs.states.IntervalStatesMemDomain.input.Goals as goal

pub returns-clause-plain : goal.returns-clause-plain
returns-clause-plain c = λ p r h g.
    renamed (map object_tree c.args.self.now.objects) c.args.self.now.temps.types c.put.new.self.types c.put.new.self.ranges c.put.new.self.ranges
    c.put.new.self.passed c.args.self.now.cells c.put-2.new.self r c.put.ensures.types refl
    (input_leaves c.requires.0 (map object_tree c.args.self.now.objects) c.args.self.now.temps.types c.args.self.now.temps.ranges c.put.new.self.ranges
    c.args.self.now.temps.passed c.put.new.self.passed c.args.self.now.cells c.args.self.now.copies c.put-2.new.self c.args.temp c.args.ty c.requires.1.1
    (c.put.ensures.ranges ∙ ap (slice_set c.args.self.now.temps.ranges c.args.temp) c.type_range.ensures.value) c.put-2.ensures c.requires.2 p r h g)

pub returns-clause-stands : goal.returns-clause-stands
returns-clause-stands c =
    let m = c.args.self.now in let os = map object_tree m.objects in
    λ s t h g. like os m.temps.types c.put.new.self.types (slice_set m.temps.ranges c.args.temp (range_of (type_span c.args.ty))) c.put.new.self.ranges None
    c.put.new.self.passed
    m.cells m.cells (slice_set m.copies c.args.temp None) c.put-2.new.self None c.forget.new.self t
    c.put.ensures.types (c.put.ensures.ranges ∙ ap (slice_set m.temps.ranges c.args.temp) c.type_range.ensures.value) c.put.ensures.passed refl
    c.put-2.ensures c.forget.ensures
    (input_in os m.temps.types m.temps.ranges m.temps.passed m.cells m.copies m.one m.one c.requires.0 c.args.temp c.args.ty c.requires.1.1 c.requires.2 s t
    h g)
