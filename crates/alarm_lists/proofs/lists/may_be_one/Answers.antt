use Rattle.std.proofs.Common.{◌≡◌, arith, sym}
use Rattle.alarm_lists.specs.Lists.{form_number}
use Rattle.alarm_lists.proofs.Keys.{alike_of}
use Rattle.alarm_lists.proofs.Forms.{form_of_number}
use Rattle.alarm_lists.proofs.lists.may_be_one.Goals as goal

pub returns-in-Equal-clause-alike : goal.returns-in-Equal-clause-alike
returns-in-Equal-clause-alike c = λ h.
    let same : form_number c.args.a.now.shown ≡ form_number c.args.b.now.shown = grind (arith, h, c.form_number-in-Equal.ensures, c.form_number.ensures) in
    (alike_of c.args.a.now c.args.b.now (sym c.in-Equal.ensures), form_of_number c.args.a.now.shown c.args.b.now.shown same)
