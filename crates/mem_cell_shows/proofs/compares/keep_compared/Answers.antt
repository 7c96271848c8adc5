use Rattle.std.proofs.Common.{subst, sym}
use Rattle.std.specs.Prelude.{option_map}
use Rattle.std.proofs.lemmas.Result.{IfOk-weaker}
use Rattle.machine_nums.specs.MExprs.{mexpr_tree}
use Rattle.csharp.specs.Trees.{csexpr_tree}
use Rattle.mem_cell_exprs.specs.Known.{IsPlaceFor}
use Rattle.mem_cell_exprs.proofs.Options.{some-at}
use Rattle.mem_cell_shows.specs.Compares.{AreRelated}
use Rattle.mem_cell_shows.proofs.Comparing.{order-of, relation-of}
use Rattle.mem_cell_shows.proofs.Keeping.{all-kept}
use Rattle.mem_cell_shows.proofs.compares.keep_compared.Goals as goal

pub returns-in_default-clause-stands : goal.returns-in_default-clause-stands
returns-in_default-clause-stands g c = λ objects s st h. all-kept g.D.Oracle.admits objects c.args.known.now s st

pub returns-in_default-2-clause-stands : goal.returns-in_default-2-clause-stands
returns-in_default-2-clause-stands g c = λ objects s st h. all-kept g.D.Oracle.admits objects c.args.known.now s st

pub returns-then-have_one_object-clause-stands : goal.returns-then-have_one_object-clause-stands
returns-then-have_one_object-clause-stands g c =
    let admits = g.D.Oracle.admits in let known = c.args.known.now in let e = csexpr_tree c.args.left.now in let f = csexpr_tree c.args.right.now in
    let a = c.in-Some.a in let b = c.in-Some-2.b in let set = c.to_targets-set.result in let other = c.to_targets-other.result in
    let at : IsPlaceFor admits known e set (option_map mexpr_tree a.offset) = subst (λ x. IsPlaceFor admits known e x (option_map mexpr_tree a.offset)) (sym c.to_targets-set.ensures)
    (some-at (λ p. IsPlaceFor admits known e p.set (option_map mexpr_tree p.offset)) c.in_ok-a.field-0 a c.in-Some.is c.in_ok-a.ensures) in
    let also : IsPlaceFor admits known f other (option_map mexpr_tree b.offset) = subst (λ x. IsPlaceFor admits known f x (option_map mexpr_tree b.offset)) (sym c.to_targets-other.ensures)
    (some-at (λ p. IsPlaceFor admits known f p.set (option_map mexpr_tree p.offset)) c.in_ok-b.field-0 b c.in-Some-2.is c.in_ok-b.ensures) in
    IfOk-weaker c.keep_order.result _ _
    (λ live stands objects s st h. stands objects s st (order-of admits known e f set other (option_map mexpr_tree a.offset) (option_map mexpr_tree b.offset) at also c.args.c c.args.truth objects s st h
    (c.have_one_object.ensures c.if-have_one_object.true))) c.keep_order.ensures.stands

pub returns-clause-stands : goal.returns-clause-stands
returns-clause-stands g c =
    let admits = g.D.Oracle.admits in let known = c.args.known.now in let e = csexpr_tree c.args.left.now in let f = csexpr_tree c.args.right.now in
    let a = c.in-Some.a in let b = c.in-Some-2.b in let set = c.to_targets-set.result in let other = c.to_targets-other.result in
    let at : IsPlaceFor admits known e set (option_map mexpr_tree a.offset) = subst (λ x. IsPlaceFor admits known e x (option_map mexpr_tree a.offset)) (sym c.to_targets-set.ensures)
    (some-at (λ p. IsPlaceFor admits known e p.set (option_map mexpr_tree p.offset)) c.in_ok-a.field-0 a c.in-Some.is c.in_ok-a.ensures) in
    let also : IsPlaceFor admits known f other (option_map mexpr_tree b.offset) = subst (λ x. IsPlaceFor admits known f x (option_map mexpr_tree b.offset)) (sym c.to_targets-other.ensures)
    (some-at (λ p. IsPlaceFor admits known f p.set (option_map mexpr_tree p.offset)) c.in_ok-b.field-0 b c.in-Some-2.is c.in_ok-b.ensures) in
    IfOk-weaker c.keep_relation.result _ _
    (λ live stands objects s st h. stands objects s st (subst (λ r. AreRelated r e f set other s) (sym c.said_by.ensures)
    (relation-of admits known e f set other (option_map mexpr_tree a.offset) (option_map mexpr_tree b.offset) at also c.args.c c.args.truth objects s st h))) c.keep_relation.ensures.stands
