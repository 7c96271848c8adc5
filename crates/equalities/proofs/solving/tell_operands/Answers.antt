use Rattle.std.proofs.Common.{◌≡◌, subst, ap, ◌∙◌, Some}
use Rattle.ext_int.specs.Valuation.{value_at}
use Rattle.num_api.specs.Exprs.{NExprTree, Binary, nexpr_tree}
use Rattle.num_api.specs.Value.{value_of}
use Rattle.num_api.proofs.PutOut.{adds_twice, tells_twice}
use Rattle.num_api.proofs.Trees.{nexpr_binary}
use Rattle.equalities.proofs.Inverses.{at_parts}
use Rattle.equalities.proofs.solving.tell_operands.Goals as goal

pub returns-in_ok-tell_right-in-Binary-clause-kept : goal.returns-in_ok-tell_right-in-Binary-clause-kept
returns-in_ok-tell_right-in-Binary-clause-kept c = adds_twice _ _ _ c.in_ok-tell_left-in-Binary.ensures.kept c.in_ok-tell_right-in-Binary.ensures.kept

pub returns-in_ok-tell_right-in-Binary-clause-told : goal.returns-in_ok-tell_right-in-Binary-clause-told
returns-in_ok-tell_right-in-Binary-clause-told c = λ v h.
    let op = c.in-Binary.op in let a = c.in-Binary.a.value in let b = c.in-Binary.b.value in
    let whole : value_of v (Binary op (nexpr_tree a) (nexpr_tree b)) ≡ Some (value_at v c.args.x.0) = subst (λ (r : NExprTree). value_of v r ≡ Some (value_at v c.args.x.0)) (ap nexpr_tree c.in-Binary.is ∙ nexpr_binary op c.in-Binary.a c.in-Binary.b) h in
    tells_twice v _ _ _ c.in_ok-tell_left-in-Binary.ensures.kept c.in_ok-tell_right-in-Binary.ensures.kept
    (c.in_ok-tell_left-in-Binary.ensures.told v (at_parts v op a b c.deref.result.now c.deref-in-Binary.result.now (Some (value_at v c.args.x.0)) c.deref.ensures c.deref-in-Binary.ensures whole))
    (c.in_ok-tell_right-in-Binary.ensures.told v (at_parts v op a b c.deref-in-Binary-2.result.now c.deref-in-Binary-3.result.now (Some (value_at v c.args.x.0)) c.deref-in-Binary-2.ensures c.deref-in-Binary-3.ensures whole))
