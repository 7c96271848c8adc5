use Rattle.std.proofs.Common.{◌∙◌, [], subst, sym}
use Rattle.c_objects.specs.Statics.{AreEightBits}
use Rattle.csharp.specs.Trees.{csprogram_tree}
use Rattle.csharp.specs.States.{first}
use Rattle.walk_owes.specs.Owes.{HasTyped}
use Rattle.walk.specs.Behind.{set_behind}
use Rattle.alarm_claims.specs.Analyzed.{ListsAll}
use Rattle.analyzer.proofs.Found.{all_admitted, analyzed, found_forms, found_proper, lists_all, main_there}
use Rattle.analyzer.proofs.Straight.{bodies_of, exact_for, leads_of}
use Rattle.analyzer.proofs.analysis.analyze.Goals as goal

pub in_order-requires-clause-form : goal.in_order-requires-clause-form
in_order-requires-clause-form g c =
    let q = csprogram_tree c.args.program.now in
    let main = main_there q c.requires.formed in
    found_forms q main.0 main.1 c.into_vec.result.items
    (all_admitted q main.0 c.new-found.result c.function.new.out c.into_vec.result.items c.new-found.ensures c.into_vec.ensures
    (c.in_ok-function.ensures.gains main.0 main.1))
    c.requires.sites

pub in_order-requires-clause-proper : goal.in_order-requires-clause-proper
in_order-requires-clause-proper g c =
    let q = csprogram_tree c.args.program.now in
    let main = main_there q c.requires.formed in
    found_proper q main.0 main.1 c.into_vec.result.items
    (all_admitted q main.0 c.new-found.result c.function.new.out c.into_vec.result.items c.new-found.ensures c.into_vec.ensures
    (c.in_ok-function.ensures.gains main.0 main.1))

pub returns-clause-whole : goal.returns-clause-whole
returns-clause-whole g c =
    let q = csprogram_tree c.args.program.now in
    let main = main_there q c.requires.formed in
    let admitted = all_admitted q main.0 c.new-found.result c.function.new.out c.into_vec.result.items c.new-found.ensures c.into_vec.ensures
    (c.in_ok-function.ensures.gains main.0 main.1) in
    let bits : AreEightBits q.initial = subst AreEightBits c.as_slice.ensures c.initials_have_eight_bits.ensures in
    let all = lists_all (HasTyped g.M.MemDomain.stands q) q main.0 c.new-walk.result.state (set_behind c.in_ok-function.field-0 c.function.new.self.state)
    c.function.new.self.kept.items c.function.new.out main.1 (c.in_ok-function.ensures.sound main.0 main.1)
    (λ inputs. (
      subst (λ m. g.M.MemDomain.stands m (first q inputs)) (sym c.new-walk.ensures.state) (c.in_ok-state.ensures.stands inputs),
      c.first_states_are_typed.ensures q inputs c.requires.formed bits,
    )) in
    analyzed q main.0 main.1 c.into_vec.result.items admitted c.in_ok-alarms.alarms (subst (ListsAll q) (sym c.into_vec.ensures) all) c.in_ok-alarms.ensures.order

pub returns-clause-exact : goal.returns-clause-exact
returns-clause-exact g c = λ sharp forward once.
    let q = csprogram_tree c.args.program.now in
    let main = main_there q c.requires.formed in
    let bits : AreEightBits q.initial = subst AreEightBits c.as_slice.ensures c.initials_have_eight_bits.ensures in
    exact_for q g.M.MemDomain.sharp main.0 c.new-walk.result.unroll c.args.unroll c.new-walk.result.state
    (set_behind c.in_ok-function.field-0 c.function.new.self.state) c.new-walk.result.kept.items c.function.new.self.kept.items c.new-found.result
    c.function.new.out c.in_ok-alarms.alarms c.new-walk.ensures.unroll main.1 (bodies_of q c.requires.formed forward once)
    (leads_of q c.requires.formed forward once q.main main.0 main.1) c.new-walk.ensures.kept c.new-found.ensures
    (subst (λ m. g.M.MemDomain.sharp m (first q [])) (sym c.new-walk.ensures.state) (c.in_ok-state.ensures.sharp sharp))
    (c.first_states_are_typed.ensures q [] c.requires.formed bits) (c.in_ok-function.ensures.exact main.0 main.1)
    (λ e. c.in_ok-alarms.ensures.none (c.into_vec.ensures ∙ e)) (λ x e. c.in_ok-alarms.ensures.one x (c.into_vec.ensures ∙ e))
