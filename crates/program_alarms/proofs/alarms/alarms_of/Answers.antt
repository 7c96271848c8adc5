use Rattle.std.proofs.Common.{subst}
use Rattle.c_syntax.specs.Program.{TProgramTree, tprogram_tree}
use Rattle.c_objects.specs.Statics.{AreEightBits}
use Rattle.csharp.specs.Trees.{csprogram_tree}
use Rattle.program_alarms.proofs.Lowered.{carried, exactly, runs_of, sites}
use Rattle.program_alarms.proofs.alarms.alarms_of.Goals as goal

pub lowered-requires : goal.lowered-requires
lowered-requires c =
    let p : TProgramTree = tprogram_tree c.args.program.now in
    let bits : AreEightBits p.initial = subst AreEightBits c.as_slice.ensures c.initials_have_eight_bits.ensures in
    runs_of p c.args.plan.now c.requires bits

pub analyzed-requires-clause-sites : goal.analyzed-requires-clause-sites
analyzed-requires-clause-sites c =
    let p : TProgramTree = tprogram_tree c.args.program.now in
    let bits : AreEightBits p.initial = subst AreEightBits c.as_slice.ensures c.initials_have_eight_bits.ensures in
    sites c.lowered_checks_are_of_one_form.ensures c.lowered_calls_agree.ensures p c.args.plan.now (csprogram_tree c.in_ok-lowered.lowered) c.requires bits
    c.in_ok-lowered.ensures.tree

pub returns-clause-alarms : goal.returns-clause-alarms
returns-clause-alarms c =
    let p : TProgramTree = tprogram_tree c.args.program.now in
    let bits : AreEightBits p.initial = subst AreEightBits c.as_slice.ensures c.initials_have_eight_bits.ensures in
    carried c.lowering_is_right.ensures c.analyses_carry_over.ensures p c.args.plan.now (csprogram_tree c.in_ok-lowered.lowered) c.in_ok-alarms.alarms
    c.requires bits c.in_ok-lowered.ensures.tree c.in_ok-alarms.ensures.whole

pub returns-clause-exact : goal.returns-clause-exact
returns-clause-exact c =
    let p : TProgramTree = tprogram_tree c.args.program.now in
    let bits : AreEightBits p.initial = subst AreEightBits c.as_slice.ensures c.initials_have_eight_bits.ensures in
    exactly c.lowering_is_right.ensures c.exact_analyses_carry_over.ensures p c.args.plan.now (csprogram_tree c.in_ok-lowered.lowered) c.args.unroll
    c.in_ok-alarms.alarms c.requires bits c.in_ok-lowered.ensures.tree c.in_ok-alarms.ensures.exact
