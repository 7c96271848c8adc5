use Rattle.std.proofs.Common.{refl}
use Rattle.std.specs.Prelude.{option_map}
use Rattle.machine_nums.specs.MExprs.{mexpr_tree}
use Rattle.csharp.specs.Trees.{csexpr_tree}
use Rattle.mem_cell_exprs.specs.Known.{IsPlaceFor}
use Rattle.mem_cell_exprs.proofs.Options.{some-at}
use Rattle.mem_cell_shows.specs.Addresses.{IsAddressFor}
use Rattle.std.proofs.Common.{subst}
use Rattle.mem_cell_shows.proofs.Truthful.{both-truths, pointer-truths}
use Rattle.mem_cell_shows.proofs.truths.of_pointer.Goals as goal

pub returns-then-not-is_address : goal.returns-then-not-is_address
returns-then-not-is_address g c = both-truths g.D.Oracle.admits c.args.known.now (csexpr_tree c.args.e.now) c.both.result c.both.ensures.yes c.both.ensures.no

pub returns-in-Some : goal.returns-in-Some
returns-in-Some g c =
    let known = c.args.known.now in let e = csexpr_tree c.args.e.now in let place = c.in-Some.place in
    let at : IsPlaceFor g.D.Oracle.admits known e place.set (option_map mexpr_tree place.offset) =
    some-at (λ p. IsPlaceFor g.D.Oracle.admits known e p.set (option_map mexpr_tree p.offset)) c.in_ok-place.field-0 place c.in-Some.is c.in_ok-place.ensures in
    let address : IsAddressFor known.types e = subst (λ types. IsAddressFor types e) c.as_slice.ensures (c.is_address.ensures c.if-not-is_address.false) in
    pointer-truths g.D.Oracle.admits known e place.set _ (option_map mexpr_tree place.offset) address at refl c.holds.ensures

pub returns-in-None : goal.returns-in-None
returns-in-None g c = both-truths g.D.Oracle.admits c.args.known.now (csexpr_tree c.args.e.now) c.both-in-None.result c.both-in-None.ensures.yes c.both-in-None.ensures.no
