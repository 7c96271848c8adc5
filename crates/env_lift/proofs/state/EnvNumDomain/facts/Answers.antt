use Rattle.std.proofs.Common.{subst, ◌∙◌, List, ℤ}
use Rattle.std.specs.Prelude.{OnOk}
use Rattle.num_api.specs.Messages.{TellsOf}
use Rattle.env_lift.specs.declared.entries.Entry.{Entry}
use Rattle.env_lift.specs.States.{AllAdmit}
use Rattle.env_lift.proofs.state.EnvNumDomain.facts.Goals as goal

pub returns-clause-told : goal.returns-clause-told
returns-clause-told g c =
    subst (λ (state : List (Entry g.row.V.Denot)). OnOk c.put_facts.result ((v : List ℤ) → AllAdmit g.V.ValueDomain.admits state v → TellsOf v c.args.out.now c.put_facts.new.out))
    (c.entries.ensures.value ∙ c.self.view_is) c.put_facts.ensures.told
