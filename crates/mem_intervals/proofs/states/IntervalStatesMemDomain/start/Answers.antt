use Rattle.std.proofs.Common.{◌∙◌, ℕ, List, length, None, Option, pos, map, replicate, sym, ap, refl, [], ℤ}
use Rattle.std.proofs.lemmas.List.{length-map}
use Rattle.block_mem.specs.declared.types.Scalar.{Scalar}
use Rattle.c_syntax.specs.Types.{object_tree}
use Rattle.c_syntax.specs.declared.types.Object.{Object}
use Rattle.num_api.specs.Spans.{point, range_of}
use Rattle.csharp.specs.Trees.{csprogram_tree}
use Rattle.mem_objects.specs.Cells.{read_at}
use Rattle.mem_intervals.proofs.UnderSteps.{start_leaves}
use Rattle.c_values.specs.Places.{ObjectMemory}
use Rattle.csharp.specs.States.{first}
use Rattle.mem_one_state.specs.One.{IsOf}
use Rattle.mem_intervals.specs.Sets.{IsIn}
use Rattle.mem_intervals.proofs.InSteps.{itself, start_at}
use Rattle.mem_intervals.proofs.states.IntervalStatesMemDomain.start.Goals as goal

pub returns-clause-plain : goal.returns-clause-plain
returns-clause-plain c = λ exact.
    start_leaves (csprogram_tree c.args.program.now) (map object_tree c.in_ok-objects.objects) c.in_ok-temps.temps.types c.in_ok-temps.temps.ranges
    c.in_ok-temps.temps.passed c.in_ok-cells-in-Some.cells c.in_ok-copies.copies c.in_ok-one.one c.in-Some.state.now c.memory.result.now
    c.in_ok-objects.ensures (c.in_ok-temps.ensures.types ∙ c.as_slice.ensures)
    (c.in_ok-temps.ensures.ranges ∙ ap (λ (ts : List Scalar). replicate (length ts) (range_of (point (pos 0)))) c.as_slice.ensures)
    c.in_ok-one.ensures.sharp c.in_ok-one.ensures.objects c.in-Some.ensures c.memory.ensures
    (c.in_ok-cells-in-Some.ensures.size ∙ ap (λ (os : List Object). length os) c.as_slice-in-Some.ensures ∙ sym (length-map c.in_ok-objects.objects object_tree))
    (λ x. c.in_ok-cells-in-Some.ensures.read x ∙ ap (λ (os : List Object). read_at (map object_tree os) c.memory.result.now x) c.as_slice-in-Some.ensures)
    c.in_ok-cells-in-Some.ensures.inside
    (c.in_ok-copies.ensures ∙ ap (λ (ts : List Scalar). replicate {A = Option ℕ} (length ts) None) c.as_slice-2.ensures) exact

begun : (c : goal.In_ok-cells-in-Some) (inputs : List ℤ) → IsOf c.in_ok-one.one (first (csprogram_tree c.args.program.now) inputs)
    → IsIn (map object_tree c.in_ok-objects.objects) c.in_ok-temps.temps.types c.in_ok-temps.temps.ranges c.in_ok-temps.temps.passed
    c.in_ok-cells-in-Some.cells c.in_ok-copies.copies c.in_ok-one.one (first (csprogram_tree c.args.program.now) inputs)
begun c inputs is =
    let ts = c.in_ok-temps.temps in
    let os = map object_tree c.in_ok-objects.objects in
    start_at (csprogram_tree c.args.program.now) inputs os ts.types ts.ranges ts.passed c.in_ok-cells-in-Some.cells c.in_ok-copies.copies c.in_ok-one.one _
    c.in-Some.state.now c.in_ok-objects.ensures (c.in_ok-temps.ensures.types ∙ c.as_slice.ensures)
    (c.in_ok-temps.ensures.ranges ∙ ap (λ (xs : List Scalar). replicate (length xs) (range_of (point (pos 0)))) (sym c.in_ok-temps.ensures.types))
    c.in_ok-temps.ensures.passed c.in_ok-copies.ensures c.in-Some.ensures c.in_ok-one.ensures.sharp
    (λ x. c.in_ok-cells-in-Some.ensures.read x ∙ ap (λ (l : List Object). read_at (map object_tree l) c.memory.result.now x) c.as_slice-in-Some.ensures
    ∙ ap (λ (memory : ObjectMemory). read_at os memory x) c.memory.ensures) is

pub returns-clause-stands : goal.returns-clause-stands
returns-clause-stands c = λ inputs. begun c inputs (c.in_ok-one.ensures.stands inputs)

pub returns-clause-sharp : goal.returns-clause-sharp
returns-clause-sharp c = λ exact.
    let one = c.in_ok-one.ensures.sharp in (one, refl, begun c [] (itself c.in_ok-one.one (first (csprogram_tree c.args.program.now) []) one))
