use Rattle.std.proofs.Common.{subst, sym, ap, ◌∙◌, map}
use Rattle.c_syntax.specs.Admission.{IsInShown, IsProper}
use Rattle.csharp.specs.Trees.{csexpr_tree}
use Rattle.mem_api.specs.Owned.{IsOwned, anything}
use Rattle.mem_api.proofs.Anything.{anything_shown, anything_proper}
use Rattle.tests_layers.proofs.all_states.EverythingMemDomain.show.Goals as goal

pub returns-clause-holds : goal.returns-clause-holds
returns-clause-holds c = λ q s x same k h.
    let check = c.args.check.now in
    subst (λ w. IsInShown q.objects x w) (ap (λ es. anything check.check.kind (map csexpr_tree es)) (sym c.as_slice.ensures) ∙ sym c.anything.ensures)
    (anything_shown c.requires.0 q s (subst (λ n. IsOwned n s.memory) (sym same) k) check.check.kind check.ty (map csexpr_tree check.operands) x c.requires.2.check.0 h)

pub returns-clause-proper : goal.returns-clause-proper
returns-clause-proper c = subst IsProper (sym c.anything.ensures) (anything_proper c.args.check.now.check.kind (map csexpr_tree c.as_slice.result.now))
