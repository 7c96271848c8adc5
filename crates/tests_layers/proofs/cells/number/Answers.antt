use Rattle.std.proofs.Common.{◌≡◌, ◌<◌, ◌++◌, ℕ, List, [], true, Some, length, get_or, ap, sym, ◌∙◌, subst, rules}
use Rattle.c_syntax.specs.declared.alarm.Cell.{Cell}
use Rattle.std.proofs.lemmas.Grind.{get_or_default_zero}
use Rattle.cell_table.specs.Cells.{cell_at}
use Rattle.cell_table.proofs.Overlaps.{apart-overlapping}
use Rattle.tests_layers.proofs.cells.number.Goals as goal

pub number-requires-clause-apart : goal.number-requires-clause-apart
number-requires-clause-apart g c =
    let ss = c.args.cells.now.slots in
    let cell : Cell = record { object = c.args.arg4.0; offset = c.args.arg4.1; size = c.args.arg4.2 } in
    let all = c.in_ok-overlapping.ensures in
    let ns = all.numbers in
    let none : c.new-near.result ≡ [] = c.new-near.ensures in
    let near : c.as_slice.result.now ≡ ns = c.as_slice.ensures ∙ all.appended ∙ ap (λ (xs : List ℕ). xs ++ ns) none in
    let tested : c.is_only.result ≡ true = search rules in
    apart-overlapping ss cell ns all.are
    (λ n h.
    let within : h.0 < length c.as_slice.result.now = subst (λ (xs : List ℕ). h.0 < length xs) (sym near) h.1 in
    let one : cell_at ss (get_or c.as_slice.result.now h.0 0) ≡ Some cell = c.is_only.ensures tested h.0 within in
    let there : get_or c.as_slice.result.now h.0 0 ≡ n = ap (λ (xs : List ℕ). get_or xs h.0 0) near ∙ sym (get_or_default_zero ns h.0 n h.1) ∙ h.2 in
    subst (λ (m : ℕ). cell_at ss m ≡ Some cell) there one)
