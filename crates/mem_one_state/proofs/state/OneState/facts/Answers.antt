use Rattle.std.proofs.Common.{sym, ◌∙◌, map}
use Rattle.c_syntax.specs.Types.{object_tree}
use Rattle.mem_one_state.proofs.Told.{facts_hold, facts_sharp}
use Rattle.mem_one_state.proofs.state.OneState.facts.Goals as goal

pub returns-clause-told : goal.returns-clause-told
returns-clause-told c q own =
    facts_hold q (map object_tree c.args.objects.now) c.args.self.now c.in-Some.state c.memory.result.now own (sym c.self.view_is ∙ c.in-Some.is)
    c.memory.ensures c.args.out.now c.into_vec-facts.result.items c.put_facts.new.facts.items c.from_vec.result
    (c.into_vec-facts.ensures ∙ c.replace.ensures.value) c.from_vec.ensures c.in_ok-put_facts.ensures.told

pub returns-clause-sharp : goal.returns-clause-sharp
returns-clause-sharp c q s own is =
    facts_sharp q (map object_tree c.args.objects.now) c.args.self.now c.in-Some.state c.memory.result.now own (sym c.self.view_is ∙ c.in-Some.is)
    c.memory.ensures c.put_facts.new.facts.items c.from_vec.result c.from_vec.ensures c.in_ok-put_facts.ensures.each s is
