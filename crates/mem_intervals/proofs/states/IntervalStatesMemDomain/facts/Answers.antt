use Rattle.std.proofs.Common.{◌∙◌, sym, ap, map, List}
use Rattle.std.proofs.lemmas.Result.{on_ok_weaker}
use Rattle.c_syntax.specs.declared.types.Object.{Object}
use Rattle.c_syntax.specs.Types.{object_tree}
use Rattle.mem_intervals.proofs.InSteps.{facts_in}
use Rattle.mem_intervals.proofs.states.IntervalStatesMemDomain.facts.Goals as goal

pub returns-clause-told : goal.returns-clause-told
returns-clause-told c =
    let m = c.args.self.now in let os = map object_tree m.objects in
    on_ok_weaker c.facts.result (λ told q same. facts_in q os m.temps.types m.temps.ranges m.temps.passed m.cells m.copies m.one c.args.out.now c.facts.new.out
    (told q (sym same.0 ∙ ap (λ (l : List Object). map object_tree l) (sym c.as_slice.ensures)))) c.facts.ensures.told

pub returns-clause-sharp : goal.returns-clause-sharp
returns-clause-sharp c =
    on_ok_weaker c.facts.result (λ tells q s same h. tells q s (sym same.0 ∙ ap (λ (l : List Object). map object_tree l) (sym c.as_slice.ensures)) h.0)
    c.facts.ensures.sharp
