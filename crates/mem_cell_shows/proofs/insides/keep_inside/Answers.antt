use Rattle.std.proofs.Common.{◌≡◌, ◌∙◌, false, map, subst, sym, ℕ, true}
use Rattle.std.specs.Prelude.{option_map}
use Rattle.std.proofs.lemmas.Result.{IfOk-weaker}
use Rattle.c_syntax.specs.Types.{object_tree}
use Rattle.pointsets.specs.declared.Base.TheVariants.{Dead}
use Rattle.pointsets.specs.Targets.{has_base, has_name, names_of}
use Rattle.machine_nums.specs.MExprs.{mexpr_tree}
use Rattle.csharp.specs.Trees.{csexpr_tree}
use Rattle.mem_cell_exprs.specs.Known.{IsPlaceFor}
use Rattle.mem_cell_exprs.proofs.Options.{some-at}
use Rattle.mem_cell_shows.specs.Insides.{IsSmallAt}
use Rattle.mem_cell_shows.proofs.Keeping.{all-kept}
use Rattle.mem_cell_shows.proofs.Within.{offset-to}
use Rattle.mem_cell_shows.proofs.insides.keep_inside.Goals as goal

pub returns-in_default-clause-stands : goal.returns-in_default-clause-stands
returns-in_default-clause-stands g c = λ objects s st h. all-kept g.D.Oracle.admits objects c.args.known.now s st

pub returns-then-holds-clause-stands : goal.returns-then-holds-clause-stands
returns-then-holds-clause-stands g c = λ objects s st h. all-kept g.D.Oracle.admits objects c.args.known.now s st

pub returns-in_default-most_size-clause-stands : goal.returns-in_default-most_size-clause-stands
returns-in_default-most_size-clause-stands g c = λ objects s st h. all-kept g.D.Oracle.admits objects c.args.known.now s st

pub returns-then-most-count-clause-stands : goal.returns-then-most-count-clause-stands
returns-then-most-count-clause-stands g c = λ objects s st h. all-kept g.D.Oracle.admits objects c.args.known.now s st

pub returns-clause-stands : goal.returns-clause-stands
returns-clause-stands g c =
    let admits = g.D.Oracle.admits in let known = c.args.known.now in let e = csexpr_tree c.args.e.now in let place = c.in-Some.place in let set = c.to_targets-set.result in
    let at : IsPlaceFor admits known e set (option_map mexpr_tree place.offset) = subst (λ x. IsPlaceFor admits known e x (option_map mexpr_tree place.offset)) (sym c.to_targets-set.ensures)
    (some-at (λ p. IsPlaceFor admits known e p.set (option_map mexpr_tree p.offset)) c.in_ok-place.field-0 place c.in-Some.is c.in_ok-place.ensures) in
    let most = c.in-Some-most_size.most in
    let dead : has_base set Dead ≡ false = sym c.holds.ensures ∙ c.if-holds.false in
    let small : (o : ℕ) → has_name (names_of set) o ≡ true → IsSmallAt (map object_tree c.args.objects.now) o most =
    subst (λ ns. (o : ℕ) → has_name ns o ≡ true → IsSmallAt (map object_tree c.args.objects.now) o most) c.names.ensures.names c.in-Some-most_size.ensures in
    IfOk-weaker c.keep_offset.result _ _
    (λ live stands objects s st h.
    let p = at objects s st h.1.0 h.1.1 in
    let r = offset-to s.memory objects set c.args.count most h.1.0 c.if-most-count.false dead (λ o k. subst (λ os. IsSmallAt os o most) (sym h.0) (small o k)) p.0 h.1.2 h.1.3 in
    stands objects s st (h.1.0, p.1, r.0, r.1)) c.keep_offset.ensures.stands
