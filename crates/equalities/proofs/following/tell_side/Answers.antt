use Rattle.std.proofs.Common.{ℤ, ◌≡◌, ap, sym, subst, Some, ◌∙◌}
use Rattle.std.proofs.lemmas.Option.{same_Some}
use Rattle.ext_int.specs.Valuation.{value_at}
use Rattle.num_api.specs.Exprs.{nexpr_tree}
use Rattle.num_api.specs.Ranges.{InRange}
use Rattle.num_api.specs.Value.{value_of}
use Rattle.num_api.proofs.PutOut.{tells_one, adds_none, tells_none}
use Rattle.equalities.proofs.Lemmas.{read_of}
use Rattle.equalities.proofs.following.tell_side.Goals as goal

pub returns-clause-told : goal.returns-clause-told
returns-clause-told g c = λ v m n a e f s.
    let out = c.args.out.now in
    let is = read_of (nexpr_tree c.args.a.now) c.in-Some.x.0 c.in-Some.ensures.some in
    let number : m ≡ value_at v c.in-Some.x.0 = same_Some m (value_at v c.in-Some.x.0) (sym e ∙ ap (value_of v) is) in
    let within = c.cut_range-r.ensures.holds m n (c.range_of.ensures v m a e) (c.range_of-2.ensures v n a f) s in
    tells_one v out out c.push.new.self _ (adds_none out) c.in_ok-push.ensures.ok (tells_none v out) (subst (InRange c.cut_range-r.result) number within)
