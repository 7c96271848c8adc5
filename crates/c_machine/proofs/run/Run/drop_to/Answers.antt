use Rattle.std.proofs.Common.{◌≡◌, ◌∷◌, length, sym, ap, ◌∙◌, subst, arith}
use Rattle.c_values.specs.Places.{ObjectMemory}
use Rattle.c_steps_laws.specs.Needs.{EndsThere}
use Rattle.c_machine_work.specs.Views.{item_of}
use Rattle.c_machine_work.specs.Works.{work_of}
use Rattle.c_machine.specs.Landing.{memory_at, rest_at}
use Rattle.c_machine.proofs.Landing.{closed_places, first_there, memory_here, memory_on, rest_here, rest_on, rest_there, still_there}
use Rattle.c_machine.proofs.run.Run.drop_to.Goals as goal

pub returns-then-ends-clause-work : goal.returns-then-ends-clause-work
returns-then-ends-clause-work c =
    sym c.loop-item.invariant.rest ∙ ap (rest_at c.args.way) c.in-Some.ensures
    ∙ rest_here c.args.way (item_of c.in-Some.item) (work_of c.take.new.self) (sym c.ends.ensures ∙ c.if-ends.true)

pub returns-then-ends-clause-memory : goal.returns-then-ends-clause-memory
returns-then-ends-clause-memory c =
    let m = c.loop-item.self.values.memory in
    sym (memory_here c.args.way (item_of c.in-Some.item) (work_of c.take.new.self) m (sym c.ends.ensures ∙ c.if-ends.true))
    ∙ sym (ap (λ w. memory_at c.args.way w m) c.in-Some.ensures) ∙ c.loop-item.invariant.memory

pub close-requires : goal.close-requires
close-requires c =
    let m = c.loop-item.self.values.memory in
    first_there m (item_of c.in-Some.item) (work_of c.take.new.self) (subst (EndsThere m) c.in-Some.ensures c.loop-item.invariant.there)

pub loop-item-preserved : goal.loop-item-preserved
loop-item-preserved c =
    let m = c.loop-item.self.values.memory in
    let n = c.close.new.memory in
    let way = c.args.way in
    let item = item_of c.in-Some.item in
    let rest = work_of c.take.new.self in
    let goes_on = sym c.ends.ensures ∙ c.if-ends.false in
    record {
      rest = sym (rest_on way item rest goes_on) ∙ sym (ap (rest_at way) c.in-Some.ensures) ∙ c.loop-item.invariant.rest;
      memory = ap (λ (x : ObjectMemory). memory_at way rest x) c.close.ensures ∙ sym (memory_on way item rest m goes_on)
          ∙ sym (ap (λ w. memory_at way w m) c.in-Some.ensures) ∙ c.loop-item.invariant.memory;
      there = still_there m n rest (ap (λ (x : ObjectMemory). length x.places) c.close.ensures ∙ closed_places m item)
          (rest_there m item rest (subst (EndsThere m) c.in-Some.ensures c.loop-item.invariant.there));
      stack = c.loop-item.invariant.stack;
      inputs = c.loop-item.invariant.inputs;
    }

pub loop-item-smaller : goal.loop-item-smaller
loop-item-smaller c = let e : length (work_of c.loop-item.self.work) ≡ length (item_of c.in-Some.item ∷ work_of c.take.new.self) = ap length c.in-Some.ensures in omega (arith, e)

pub unreachable-requires : goal.unreachable-requires
unreachable-requires c = c.requires.lands (sym c.loop-item.invariant.rest ∙ ap (rest_at c.args.way) c.in_default.ensures.0)
