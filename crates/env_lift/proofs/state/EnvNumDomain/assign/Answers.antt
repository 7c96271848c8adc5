use Rattle.std.proofs.Common.{sym, subst, List, Some}
use Rattle.num_api.specs.declared.message.Range.{Range}
use Rattle.num_api.specs.Exprs.{nexpr_tree}
use Rattle.num_api.specs.Ranges.{IsPoint, IsUnder}
use Rattle.num_api.specs.Spans.{range_of}
use Rattle.env_lift.specs.declared.entries.Entry.{Entry}
use Rattle.env_lift.specs.States.{AllAdmit, known_in}
use Rattle.env_lift.specs.Evaluation.{IsValue}
use Rattle.num_api.proofs.Parts.{wider, still_point}
use Rattle.env_lift.specs.Laws.{first_flag}
use Rattle.env_lift.proofs.Changing.{known_here, changed_under, changed_admits}
use Rattle.env_lift.proofs.state.EnvNumDomain.assign.Goals as goal

pub returns-clause-sharp_here : goal.returns-clause-sharp_here
returns-clause-sharp_here g c = λ v n claimed p asked s f e.
    let D = g.V.ValueDomain in let x = first_flag D.exact D.folds claimed in let r = c.met-value.result in
    let value = subst (λ (state : List (Entry g.row.V.Denot)). IsValue D.admits D.known D.class D.exact D.folds state (nexpr_tree c.args.e.now) c.in-Some.value) c.self.view_is c.in-Some.ensures.some in
    let point = still_point (D.known r) (D.known c.in-Some.value) n (D.known_some r x) (c.met-value.ensures.plain x) (value.point v n x p s f e) in
    subst (λ (k : Range). IsPoint k n) (sym (known_here D.known c.args.x.0 (Some r) c.self.inside.state c.set.new.self c.in_ok-set.ensures.ok)) point

pub returns-clause-plain : goal.returns-clause-plain
returns-clause-plain g c = λ given s claimed u p d e.
    let D = g.V.ValueDomain in let x = first_flag D.exact D.folds claimed in let r = c.met-value.result in
    let value = subst (λ (state : List (Entry g.row.V.Denot)). IsValue D.admits D.known D.class D.exact D.folds state (nexpr_tree c.args.e.now) c.in-Some.value) c.self.view_is c.in-Some.ensures.some in
    let before = subst (λ (state : List (Entry g.row.V.Denot)). IsUnder (known_in D.known state) given) (sym c.self.view_is) u in
    changed_under D.known c.args.x.0 (Some r) c.self.inside.state c.set.new.self given (range_of s) c.in_ok-set.ensures.ok before
    (wider (D.known r) (D.known c.in-Some.value) (range_of s) (c.met-value.ensures.plain x) (value.plain given s x u p e))

pub returns-clause-after : goal.returns-clause-after
returns-clause-after g c = λ v w n p asked e set.
    let D = g.V.ValueDomain in let r = c.met-value.result in
    let value = subst (λ (state : List (Entry g.row.V.Denot)). IsValue D.admits D.known D.class D.exact D.folds state (nexpr_tree c.args.e.now) c.in-Some.value) c.self.view_is c.in-Some.ensures.some in
    let before = subst (λ (state : List (Entry g.row.V.Denot)). AllAdmit D.admits state v) (sym c.self.view_is) p in
    let admitted = c.met-value.ensures.holds n (value.holds v n p e) (c.range.ensures.holds v n asked e) (c.residue.ensures.holds v n asked e) in
    changed_admits D.admits c.args.x.0 (Some r) c.self.inside.state c.set.new.self v w n c.in_ok-set.ensures.ok set before admitted

pub returns-clause-told : goal.returns-clause-told
returns-clause-told g c = λ v w n p asked e set.
    let D = g.V.ValueDomain in let r = c.met-value.result in
    let value = subst (λ (state : List (Entry g.row.V.Denot)). IsValue D.admits D.known D.class D.exact D.folds state (nexpr_tree c.args.e.now) c.in-Some.value) c.self.view_is c.in-Some.ensures.some in
    let admitted = c.met-value.ensures.holds n (value.holds v n p e) (c.range.ensures.holds v n asked e) (c.residue.ensures.holds v n asked e) in
    c.in_ok-tell.ensures.told w (subst (D.admits r) (sym set.here) admitted)
