use Rattle.ext_int.proofs.Ends.{number_between}
use Rattle.env_lift.proofs.state.EnvNumDomain.havoc.Goals as goal

pub returns-in-None-clause-sharp_here : goal.returns-in-None-clause-sharp_here
returns-in-None-clause-sharp_here g c =
    let number = number_between c.args.r.lo c.args.r.hi c.requires in
    absurd (c.in-None.ensures.none number.0 (record { low = number.1; high = number.2 }))

pub returns-in-None-clause-plain : goal.returns-in-None-clause-plain
returns-in-None-clause-plain g c =
    let number = number_between c.args.r.lo c.args.r.hi c.requires in
    absurd (c.in-None.ensures.none number.0 (record { low = number.1; high = number.2 }))
