use Rattle.std.proofs.Common.{subst, ◌∙◌, List, true}
use Rattle.env_lift.specs.declared.entries.Entry.{Entry}
use Rattle.env_lift.specs.Passes.{AllMet}
use Rattle.env_lift.proofs.map.VarMap.all_met.Goals as goal

pub returns-clause-met : goal.returns-clause-met
returns-clause-met g c = λ h.
    let R = λ (a b : g.row.T.Denot). goal.F-post g c.args.test a b true in
    subst (λ (l : List (Entry g.row.T.Denot)). AllMet R l c.args.other.now) (c.deref.ensures.value ∙ c.self.view_is)
    (subst (λ (l : List (Entry g.row.T.Denot)). AllMet R c.deref.result.now l) (c.deref-2.ensures.value ∙ c.other.view_is) (c.all_pass.ensures.met h))
