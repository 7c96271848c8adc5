use Rattle.std.proofs.Common.{◌≡◌, ◌∙◌, Some, ap, length, refl, slice_get, sym}
use Rattle.std.proofs.lemmas.Option.{slice_get_read}
use Rattle.report_alarms.specs.ReportText.{function_name}
use Rattle.report_alarms.proofs.Names.{name_at, names_of}
use Rattle.report_alarms.proofs.alarms.name_of.Goals as goal

pub returns-in-Some-get : goal.returns-in-Some-get
returns-in-Some-get c =
    let fs = c.args.functions.now in
    let there : slice_get fs c.in-Some.number ≡ Some c.in-Some-get.function.now =
    slice_get_read fs (length fs) c.in-Some.number c.in-Some-get.function.now refl c.in-Some-get.ensures.lookup.3.0 c.in-Some-get.ensures.lookup.1 in
    c.as_slice.ensures ∙ sym (name_at fs c.in-Some.number c.in-Some-get.function.now there) ∙ ap (function_name (names_of fs)) (sym c.in-Some.is)
