use Rattle.std.proofs.Common.{ap}
use Rattle.num_api.specs.Exprs.{nexpr_tree}
use Rattle.num_api.specs.Lives.{is_live}
use Rattle.num_api.specs.Plain.{plain, cut, turned}
use Rattle.num_api.specs.Spans.{range_of}
use Rattle.env_lift.specs.States.{known_in}
use Rattle.num_api.proofs.Parts.{wider}
use Rattle.num_api.specs.Standings.{standing_of}
use Rattle.env_lift.specs.Changes.{LiesIn, Compare}
use Rattle.env_lift.proofs.Changing.{ok_map, ok_both, cut_twice}
use Rattle.env_lift.proofs.Cutting.{left_plain, sides_under}
use Rattle.env_lift.proofs.cuts.keep_compared.Goals as goal

pub returns-clause-cut : goal.returns-clause-cut
returns-clause-cut g c =
    let D = g.V.ValueDomain in let a = nexpr_tree c.args.a.now in let b = nexpr_tree c.args.b.now in
    ok_map _ _ c.keep_within-2.result c.keep_within-2.ensures.cut
    (λ answer second. cut_twice D.admits D.known D.exact c.args.state.now c.keep_within.new.state c.keep_within-2.new.state
    (LiesIn D.admits a c.in-Some.cut.0) (LiesIn D.admits b c.in-Some.cut.1) (Compare a b (standing_of c.args.how)) c.in_ok-keep_within.field-0 answer c.in_ok-keep_within.ensures.cut second
    (λ v p q. let both = c.in-Some.ensures.some v q.0 q.1 p q.2 q.3 q.4 in ((q.0, q.2, both.0), (q.1, q.3, both.1))))

pub returns-clause-plain : goal.returns-clause-plain
returns-clause-plain g c =
    let D = g.V.ValueDomain in let a = nexpr_tree c.args.a.now in let b = nexpr_tree c.args.b.now in let how = standing_of c.args.how in
    let K = known_in D.known c.args.state.now in let L = known_in D.known c.keep_within.new.state in let M = known_in D.known c.keep_within-2.new.state in
    ok_both _ _ _ c.keep_within-2.result c.keep_within-2.ensures.cut c.keep_within-2.ensures.read
    (λ answer second read given x u p q is.
    let s = left_plain given a p in
    let t = left_plain given b q in
    let first = c.in_ok-keep_within.ensures.cut in
    let told = c.in-Some.ensures.plain given s.0 t.0 x u p q s.1 t.1 in
    sides_under M given a b how (plain given a) (plain given b) s.0 t.0 s.1 t.1
    (λ y. wider (M y) (L y) (given y) (second.narrows x y) (wider (L y) (K y) (given y) (first.narrows x y) (u y)))
    (λ y e. wider (M y) (L y) (range_of (cut how s.0 t.0)) (second.narrows x y)
    (wider (L y) (D.known c.in-Some.cut.0) (range_of (cut how s.0 t.0)) (c.in_ok-keep_within.ensures.read y x e (ap is_live c.in-Live.is)) told.0))
    (λ y e. wider (M y) (D.known c.in-Some.cut.1) (range_of (cut (turned how) t.0 s.0)) (read y x e is) told.1))
