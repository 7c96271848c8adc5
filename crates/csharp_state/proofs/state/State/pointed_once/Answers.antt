use Rattle.std.proofs.Common.{rules, ◌≡◌, ◌∙◌, Some, sym, ap}
use Rattle.std.specs.Prelude.{option_and_then}
use Rattle.c_values.specs.Places.{point}
use Rattle.csharp.specs.Trees.{csexpr_tree, Binary, CsExprTree}
use Rattle.csharp.specs.States.{value_of}
use Rattle.csharp.proofs.CodeTrees.{the_code_trees}
use Rattle.csharp_state.proofs.Spots.{moved_point}
use Rattle.csharp_state.proofs.state.State.pointed_once.Goals as goal

pub returns-in_ok-moved_spot-in-Some-2-clause-is : goal.returns-in_ok-moved_spot-in-Some-2-clause-is
returns-in_ok-moved_spot-in-Some-2-clause-is c =
    let s = c.args.self.now in
    let e = csexpr_tree c.deref.result.now in
    let f = csexpr_tree c.deref-in-Some.result.now in
    let tree : csexpr_tree c.args.operand.now ≡ Binary c.in-Binary.op e f = rw c.in-Binary.is (search (rules, the_code_trees)) in
    let first : value_of e s ≡ Some c.in-Some.v = sym c.in_ok-v-in-Binary.ensures.is ∙ c.in-Some.is in
    let second : value_of f s ≡ Some c.in-Some-2.u = sym c.in_ok-u-in-Some.ensures.is ∙ c.in-Some-2.is in
    c.point.ensures.is
    ∙ moved_point s.memory c.in-Binary.op e f s c.in-Some.v c.in-Some-2.u c.in_ok-moved_spot-in-Some-2.field-0 first second c.in_ok-moved_spot-in-Some-2.ensures.is
    ∙ ap (λ (x : CsExprTree). option_and_then (point s.memory) (value_of x s)) (sym tree)
