use Rattle.std.proofs.Common.{◌≡◌, Some, ap, arith, length, subst}
use Rattle.std.specs.Prelude.{slice_get}
use Rattle.std.proofs.lemmas.List.{length-map}
use Rattle.csharp.specs.Trees.{CsFunctionTree, csfunction_tree, csprogram_tree, csstmt_tree}
use Rattle.alarm_claims.specs.Admitted.{Gains}
use Rattle.csharp.specs.Meaning.{beyond}
use Rattle.walk_owes.specs.Exactly.{Exact}
use Rattle.walk_owes.specs.Owes.{HasTyped, Sound}
use Rattle.walk_owes.specs.Walkable.{nowhere}
use Rattle.walk_owes.proofs.Fuel.{function_there}
use Rattle.walk.specs.Behind.{set_behind}
use Rattle.walk.proofs.Parts.{own_part}
use Rattle.walk.proofs.walking.Walk.function.Goals as goal

pub statement-requires-clause-part : goal.statement-requires-clause-part
statement-requires-clause-part g c =
    let q = csprogram_tree c.args.program.now in
    let there : slice_get q.functions c.args.f ≡ Some (csfunction_tree c.index-as_slice-f.result) =
    function_there c.as_slice.result.now c.args.program.now.functions c.args.f c.index-as_slice-f.result c.as_slice.ensures
    (omega (c.requires.function, length-map c.args.program.now.functions csfunction_tree, ap length c.as_slice.ensures, arith)) c.index-as_slice-f.is in
    (c.args.f, csfunction_tree c.index-as_slice-f.result, there, own_part (csstmt_tree c.index-as_slice-f.result.body))

pub returns-clause-sound : goal.returns-clause-sound
returns-clause-sound g c = λ function e.
    let q = csprogram_tree c.args.program.now in
    let there : slice_get q.functions c.args.f ≡ Some (csfunction_tree c.index-as_slice-f.result) =
    function_there c.as_slice.result.now c.args.program.now.functions c.args.f c.index-as_slice-f.result c.as_slice.ensures
    (omega (c.requires.function, length-map c.args.program.now.functions csfunction_tree, ap length c.as_slice.ensures, arith)) c.index-as_slice-f.is in
    let same : csfunction_tree c.index-as_slice-f.result ≡ function = cc in
    subst (λ (h : CsFunctionTree). Sound (HasTyped g.M.MemDomain.stands q) q nowhere h.body (Some c.args.self.now.state)
    (set_behind c.in_ok-live.live c.statement.new.self.state) c.statement.new.self.kept.items c.statement.new.out) same c.in_ok-live.ensures.sound

pub returns-clause-gains : goal.returns-clause-gains
returns-clause-gains g c = λ function e.
    let q = csprogram_tree c.args.program.now in
    let there : slice_get q.functions c.args.f ≡ Some (csfunction_tree c.index-as_slice-f.result) =
    function_there c.as_slice.result.now c.args.program.now.functions c.args.f c.index-as_slice-f.result c.as_slice.ensures
    (omega (c.requires.function, length-map c.args.program.now.functions csfunction_tree, ap length c.as_slice.ensures, arith)) c.index-as_slice-f.is in
    let same : csfunction_tree c.index-as_slice-f.result ≡ function = cc in
    subst (λ (h : CsFunctionTree). Gains q h.body c.args.out.now c.statement.new.out) same c.in_ok-live.ensures.gains

pub returns-clause-exact : goal.returns-clause-exact
returns-clause-exact g c = λ function e.
    let q = csprogram_tree c.args.program.now in
    let there : slice_get q.functions c.args.f ≡ Some (csfunction_tree c.index-as_slice-f.result) =
    function_there c.as_slice.result.now c.args.program.now.functions c.args.f c.index-as_slice-f.result c.as_slice.ensures
    (omega (c.requires.function, length-map c.args.program.now.functions csfunction_tree, ap length c.as_slice.ensures, arith)) c.index-as_slice-f.is in
    let same : csfunction_tree c.index-as_slice-f.result ≡ function = cc in
    subst (λ (h : CsFunctionTree). Exact (HasTyped g.M.MemDomain.sharp q) (beyond c.args.self.now.unroll) q nowhere h.body (Some c.args.self.now.state)
    (set_behind c.in_ok-live.live c.statement.new.self.state) c.args.self.now.kept.items c.args.out.now c.statement.new.self.kept.items c.statement.new.out) same
    c.in_ok-live.ensures.exact
