use Rattle.std.proofs.Common.{◌+◌, sym, ap, ◌∙◌}
use Rattle.std.specs.Prelude.{option_map}
use Rattle.c_line_marks.specs.Presumed.{mark_at, line_by}
use Rattle.c_line_marks.specs.Starts.{mark_of, start_at}
use Rattle.c_line_marks.proofs.StartLemmas.{mark_found}
use Rattle.c_line_marks.proofs.marks.LineMarks.line.Goals as goal

pub returns-in-None : goal.returns-in-None
returns-in-None c =
    let e = ap (λ v. mark_at v c.args.line) (sym c.self.view_is) ∙ mark_found c.self.inside.names.items c.self.inside.starts.items c.args.line
    ∙ ap (option_map (mark_of c.self.inside.names.items)) (ap (λ v. start_at v c.args.line) (sym c.as_slice.ensures.value) ∙ sym c.start_at.ensures.at ∙ c.in-None.is) in
    c.from.ensures ∙ sym (ap (λ o. line_by o c.args.line) e)

pub returns-in-Some : goal.returns-in-Some
returns-in-Some c =
    let e = ap (λ v. mark_at v c.args.line) (sym c.self.view_is) ∙ mark_found c.self.inside.names.items c.self.inside.starts.items c.args.line
    ∙ ap (option_map (mark_of c.self.inside.names.items)) (ap (λ v. start_at v c.args.line) (sym c.as_slice.ensures.value) ∙ sym c.start_at.ensures.at ∙ c.in-Some.is) in
    ap (λ n. n + c.from-in-Some-2.result) c.from-in-Some.ensures ∙ ap (λ n. c.in-Some.start.presumed + n) c.from-in-Some-2.ensures ∙ sym (ap (λ o. line_by o c.args.line) e)
