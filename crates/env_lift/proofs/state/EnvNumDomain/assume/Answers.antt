use Rattle.std.proofs.Common.{sym, subst, List}
use Rattle.env_lift.specs.declared.entries.Entry.{Entry}
use Rattle.env_lift.specs.States.{AllAdmit}
use Rattle.env_lift.proofs.state.EnvNumDomain.assume.Goals as goal

pub returns-clause-told : goal.returns-clause-told
returns-clause-told g c = λ v n p asked e h.
    let before = subst (λ (state : List (Entry g.row.V.Denot)). AllAdmit g.V.ValueDomain.admits state v) (sym c.self.view_is) p in
    c.in_ok-tell_read.ensures.told v (c.in_ok-keep_rounds.ensures.cut.keeps v before (n, e, h)).1
