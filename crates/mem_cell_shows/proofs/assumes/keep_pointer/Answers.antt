use Rattle.std.proofs.Common.{subst, sym}
use Rattle.std.specs.Prelude.{option_map}
use Rattle.std.proofs.lemmas.Result.{IfOk-weaker}
use Rattle.machine_nums.specs.MExprs.{mexpr_tree}
use Rattle.csharp.specs.Trees.{csexpr_tree}
use Rattle.mem_cell_exprs.specs.Known.{IsPlaceFor}
use Rattle.mem_cell_exprs.proofs.Moves.{numbered-of}
use Rattle.mem_cell_exprs.proofs.Options.{some-at}
use Rattle.mem_cell_shows.specs.Addresses.{IsAddressFor}
use Rattle.mem_cell_shows.proofs.Assuming.{pointer-left}
use Rattle.mem_cell_shows.proofs.Keeping.{all-kept}
use Rattle.mem_cell_shows.proofs.assumes.keep_pointer.Goals as goal

pub returns-then-not-is_address-clause-stands : goal.returns-then-not-is_address-clause-stands
returns-then-not-is_address-clause-stands g c = λ objects s st h. all-kept g.D.Oracle.admits objects c.args.known.now s st

pub returns-in_default-clause-stands : goal.returns-in_default-clause-stands
returns-in_default-clause-stands g c = λ objects s st h. all-kept g.D.Oracle.admits objects c.args.known.now s st

pub returns-clause-stands : goal.returns-clause-stands
returns-clause-stands g c =
    let admits = g.D.Oracle.admits in let known = c.args.known.now in let e = csexpr_tree c.args.e.now in let place = c.in-Some.place in let set = c.to_targets-set.result in
    let at : IsPlaceFor admits known e set (option_map mexpr_tree place.offset) = subst (λ x. IsPlaceFor admits known e x (option_map mexpr_tree place.offset)) (sym c.to_targets-set.ensures)
    (some-at (λ p. IsPlaceFor admits known e p.set (option_map mexpr_tree p.offset)) c.in_ok-place.field-0 place c.in-Some.is c.in_ok-place.ensures) in
    let address : IsAddressFor known.types e = subst (λ types. IsAddressFor types e) c.as_slice.ensures (c.is_address.ensures c.if-not-is_address.false) in
    IfOk-weaker c.keep_set.result _ _
    (λ live stands objects s st h.
    let own = address st.v s h.0 (numbered-of admits known objects s st) h.1 in
    stands objects s st (h.0, h.1, own, pointer-left s.memory set c.of_truth-left.result h.0 c.args.truth own (at objects s st h.0 h.1).0 h.2 c.of_truth-left.ensures)) c.keep_set.ensures.stands
