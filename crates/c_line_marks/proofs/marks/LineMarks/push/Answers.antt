use Rattle.std.proofs.Common.{◌≤◌, ◌-◌, [], ◌∷◌, ◌++◌, length, map, sym, ap, ◌∙◌, subst, arith}
use Rattle.std.specs.Prelude.{All, unwrap_or}
use Rattle.std.proofs.lemmas.List.{map-append}
use Rattle.std.proofs.lemmas.List.Elements.{All-push, All-weaker}
use Rattle.std.proofs.lemmas.List.Sorted.{IsNonDecreasingBy-push}
use Rattle.c_line_marks.specs.Presumed.{last_name}
use Rattle.c_line_marks.specs.Starts.{AreStarts, mark_of, name_in, last_names}
use Rattle.c_line_marks.proofs.StartLemmas.{marks_kept, last_name_is, last_within, lines_before}
use Rattle.c_line_marks.proofs.marks.LineMarks.push.Goals as goal

pub add_name-requires : goal.add_name-requires
add_name-requires c =
    subst (λ n. n ≤ length c.self.inside.names.items) (sym (c.last_names-before.ensures ∙ ap last_names c.as_slice.ensures.value))
    (last_within c.self.inside.starts.items 0 (length c.self.inside.names.items) (omega arith) c.self.invariant.within)

pub invariant_of-self-2 : goal.invariant_of-self-2
invariant_of-self-2 c =
    let before = lines_before c.self.inside.names.items c.self.inside.starts.items c.args.line (subst (All (λ m. m.line ≤ c.args.line)) (sym c.self.view_is) c.requires) in
    subst (AreStarts c.add_name.new.names.items) (sym c.in_ok-push.ensures.items) (record {
      rising = IsNonDecreasingBy-push (λ start. start.line) c.self.inside.starts.items _ c.self.invariant.rising (λ d l. before (length c.self.inside.starts.items - 1) d (omega arith));
      within = All-push (λ start. start.names ≤ length c.add_name.new.names.items) c.self.inside.starts.items _
          (All-weaker (λ start. start.names ≤ length c.self.inside.names.items) (λ start. start.names ≤ length c.add_name.new.names.items)
          (λ start h. omega (arith, h, c.add_name.ensures.more)) c.self.inside.starts.items c.self.invariant.within)
          c.in_ok-names.ensures.within;
    })

pub returns : goal.returns
returns c =
    let old = c.self.inside.names.items in
    let starts = c.self.inside.starts.items in
    let new = c.add_name.new.names.items in
    let same = marks_kept old new starts c.add_name.ensures.kept c.self.invariant.within ∙ c.self.view_is in
    let before = c.last_names-before.ensures ∙ ap last_names c.as_slice.ensures.value in
    let last = ap (name_in old) before ∙ sym (last_name_is old 0 starts) ∙ ap (last_name []) c.self.view_is in
    let name = c.in_ok-names.ensures.name ∙ ap (unwrap_or c.args.name) last in
    ap (map (mark_of new)) c.in_ok-push.ensures.items ∙ map-append (mark_of new) starts _
    ∙ ap (λ v. v ++ record { line = c.args.line; presumed = c.args.presumed; name = name_in new c.in_ok-names.names } ∷ []) same
    ∙ ap (λ n. c.args.self.now ++ record { line = c.args.line; presumed = c.args.presumed; name = n } ∷ []) name
