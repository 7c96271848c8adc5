use Rattle.std.proofs.Common.{[], subst}
use Rattle.csharp.specs.Trees.{csprogram_tree}
use Rattle.c_syntax.specs.Admission.{Fails}
use Rattle.alarm_claims.specs.Analyzed.{Listed}
use Rattle.alarm_claims.specs.ExactFor.{ListedAlone}
use Rattle.csharp.specs.Trees as code
use Rattle.csharp.specs.Trees.{cscheck_tree}
use Rattle.walk_owes.proofs.Admits.{gains_none}
use Rattle.walk_alarms.proofs.Judging.{failed, fields_of, passed}
use Rattle.walk_alarms.proofs.alarms.judge.Goals as goal

pub decide-requires-clause-fields : goal.decide-requires-clause-fields
decide-requires-clause-fields g c = fields_of c.args.check.now.check.kind _ c.args.check.now.check c.requires.given.check.2

pub returns-in-Holds-clause-fails : goal.returns-in-Holds-clause-fails
returns-in-Holds-clause-fails g c = λ s k x h j.
    let f = failed _ c.args.check.now.check _ k x j in
    let d = rw c.as_slice.ensures at c.in-Holds.ensures in
    absurd (d x (record { shown_there = c.in_ok-shown.ensures.holds (csprogram_tree c.args.program.now) s x c.requires.is_for h f.there; fails = f.bad }))

pub returns-in_ok-raise-in-May-clause-fails : goal.returns-in_ok-raise-in-May-clause-fails
returns-in_ok-raise-in-May-clause-fails g c = λ s k x h j.
    let f = failed _ c.args.check.now.check _ k x j in
    subst (λ w. Listed (csprogram_tree c.args.program.now) c.raise.new.out.items [] c.args.check.now.pos w x s.memory) f.kind
    (c.in_ok-raise-in-May.ensures.new s x h (c.in_ok-shown.ensures.holds (csprogram_tree c.args.program.now) s x c.requires.is_for h f.there))

pub returns-in-Holds-clause-gains : goal.returns-in-Holds-clause-gains
returns-in-Holds-clause-gains g c = gains_none (csprogram_tree c.args.program.now) (code.Checked (cscheck_tree c.args.check.now)) c.args.out.now.items

pub returns-in-Holds-clause-alone : goal.returns-in-Holds-clause-alone
returns-in-Holds-clause-alone g c = λ s k x h j e.
    let f = failed _ c.args.check.now.check _ k x j in
    let d = rw c.as_slice.ensures at c.in-Holds.ensures in
    let only = c.in_ok-shown.ensures.sharp (csprogram_tree c.args.program.now) s x c.requires.is_for h f.there in
    absurd (d x (record { shown_there = only.there; fails = f.bad }))

pub returns-in_ok-raise-in-May-clause-alone : goal.returns-in_ok-raise-in-May-clause-alone
returns-in_ok-raise-in-May-clause-alone g c = λ s k x h j e.
    let f = failed _ c.args.check.now.check _ k x j in
    subst (λ w. ListedAlone (csprogram_tree c.args.program.now) c.raise.new.out.items [] c.args.check.now.pos w x s.memory) f.kind
    (c.in_ok-raise-in-May.ensures.alone s x h (c.in_ok-shown.ensures.sharp (csprogram_tree c.args.program.now) s x c.requires.is_for h f.there) e)

pub returns-in_ok-raise-in-May-clause-passes : goal.returns-in_ok-raise-in-May-clause-passes
returns-in_ok-raise-in-May-clause-passes g c = λ s h j.
    let p = passed _ c.args.check.now.check _ j in
    let d = rw c.as_slice.ensures at c.in-May.ensures in
    let only = c.in_ok-shown.ensures.sharp (csprogram_tree c.args.program.now) s p.operand c.requires.is_for h p.there in
    absurd (p.good (subst (Fails _ c.args.check.now.check) (only.only _ d.shown_there) d.fails))
