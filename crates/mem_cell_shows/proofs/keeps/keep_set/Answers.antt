use Rattle.std.proofs.Common.{◌≡◌, ◌∙◌, Some, ap, slice_get, slice_set, subst, sym}
use Rattle.ext_int.specs.declared.Live.TheVariants.{Live}
use Rattle.csharp.specs.Trees.{csexpr_tree}
use Rattle.csharp.specs.States.{value_of}
use Rattle.block_mem.specs.declared.types.Value.{Value}
use Rattle.mem_cell_bytes.specs.Cells.{Points}
use Rattle.mem_cell_bytes.proofs.Steps.{Some-same}
use Rattle.mem_cell_shows.specs.Changes.{IsKept}
use Rattle.mem_cell_shows.proofs.Keeping.{address-base, all-kept, own-temp, points-base, set-kept}
use Rattle.mem_cell_shows.proofs.keeps.keep_set.Goals as goal

pub returns-then-is_nothing-clause-stands : goal.returns-then-is_nothing-clause-stands
returns-then-is_nothing-clause-stands g c = λ objects s st h.
    let b = address-base s.memory h.0 h.2 in absurd (c.is_nothing.ensures c.if-is_nothing.true b.0 (points-base s.memory c.args.set h.0 b.0 h.3 b.1))

pub returns-in_ok-shared-in-Some-clause-stands : goal.returns-in_ok-shared-in-Some-clause-stands
returns-in_ok-shared-in-Some-clause-stands g c = λ objects s st h.
    let known = c.args.known.now in let d = c.in-Some.temp in let set = c.args.set in let e = csexpr_tree c.args.e.now in
    let is = own-temp e d (sym c.temp_of.ensures ∙ c.in-Some.is) in
    let at : (u : Value) → slice_get s.temps d ≡ Some u → Points s.memory set u =
    λ u got. subst (Points s.memory set) (Some-same h.0 u (sym h.1 ∙ ap (λ x. value_of x s) is ∙ got)) h.3 in
    let put : c.put.new.self ≡ slice_set known.pointers d (Some set) = c.put.ensures ∙ ap (λ t. slice_set known.pointers d (Some t)) c.in_ok-shared-in-Some.ensures in
    subst (λ ps. IsKept g.D.Oracle.admits objects known (record known { pointers = ps }) s st Live) (sym put) (set-kept g.D.Oracle.admits objects known s st d set at)

pub returns-in-None-clause-stands : goal.returns-in-None-clause-stands
returns-in-None-clause-stands g c = λ objects s st h. all-kept g.D.Oracle.admits objects c.args.known.now s st
