use Rattle.std.proofs.Common.{sym, ap, ◌∙◌}
use Rattle.std.specs.Prelude.{option_map}
use Rattle.c_line_marks.specs.Presumed.{mark_at, name_by, name_or_word}
use Rattle.c_line_marks.specs.Starts.{mark_of, start_at, name_in}
use Rattle.c_line_marks.proofs.StartLemmas.{mark_found}
use Rattle.c_line_marks.proofs.marks.LineMarks.name.Goals as goal

pub returns-in-None : goal.returns-in-None
returns-in-None c =
    let e = ap (λ v. mark_at v c.args.line) (sym c.self.view_is) ∙ mark_found c.self.inside.names.items c.self.inside.starts.items c.args.line
    ∙ ap (option_map (mark_of c.self.inside.names.items)) (ap (λ v. start_at v c.args.line) (sym c.as_slice.ensures.value) ∙ sym c.start_at.ensures.at ∙ c.in-None.is) in
    sym (ap (λ o. name_by o c.args.word.now) e)

pub returns-in-Some : goal.returns-in-Some
returns-in-Some c =
    let e = ap (λ v. mark_at v c.args.line) (sym c.self.view_is) ∙ mark_found c.self.inside.names.items c.self.inside.starts.items c.args.line
    ∙ ap (option_map (mark_of c.self.inside.names.items)) (ap (λ v. start_at v c.args.line) (sym c.as_slice.ensures.value) ∙ sym c.start_at.ensures.at ∙ c.in-Some.is) in
    c.name_or_word.ensures ∙ ap (λ n. name_or_word n c.args.word.now) (c.name_in.ensures ∙ ap (λ v. name_in v c.in-Some.start.names) c.as_slice-in-Some.ensures.value)
    ∙ sym (ap (λ o. name_by o c.args.word.now) e)
