use Rattle.std.proofs.Common.{◌≡◌, ◌+◌, ◌-◌, ℕ, List, [], ◌∷◌, ◌++◌, Some, refl, ap, sym, ◌∙◌, subst, append_assoc, arith, rules, length, slice_get, ◌<◌}
use Rattle.std.proofs.lemmas.List.{append-nil}
use Rattle.c_syntax.specs.declared.alarm.Cell.{Cell}
use Rattle.cell_table.specs.Cells.{Slot, IsInUse, in_use_with, in_use_with_all, number_of, numbers_of, byte_cells, HasNumberInUse}
use Rattle.cell_table.proofs.Bytes.{in_use-each, byte-at, get-behind}
use Rattle.cell_table.proofs.Slots.{used-within}
use Rattle.cell_table.proofs.Splits.{IsClear, byte_cell, clear-without, apart-clear, clear-with, byte_cells-from, one-byte}
use Rattle.cell_table.proofs.Cells.split.Goals as goal

pub cell-whole-requires : goal.cell-whole-requires
cell-whole-requires c = used-within c.args.self.now.slots c.args.n _ c.requires

pub loop-offset-init : goal.loop-offset-init
loop-offset-init c =
    let whole = c.cell-whole.result in
    let in_use : IsInUse c.args.self.now.slots c.args.n whole = record { cell = c.cell-whole.ensures.cell; used = c.requires } in
    let count : whole.offset + whole.size - whole.offset ≡ whole.size = omega arith in
    record {
      end = refl;
      clear = subst (λ (ss : List Slot). IsClear ss whole.object whole.offset (whole.offset + whole.size)) (sym c.retire.ensures)
          (clear-without c.args.self.now.slots c.args.n whole c.cell-whole.ensures.table in_use);
      slots = rw count refl;
      numbers = rw count refl;
    }

pub number-requires-clause-apart : goal.number-requires-clause-apart
number-requires-clause-apart c =
    apart-clear c.loop-offset.self.slots c.cell-whole.result.object c.loop-offset.offset (c.cell-whole.result.offset + c.cell-whole.result.size) c.loop-offset-test.true c.loop-offset.invariant.clear

pub loop-offset-preserved : goal.loop-offset-preserved
loop-offset-preserved c =
    let whole = c.cell-whole.result in
    let from = c.loop-offset.offset in
    let to = whole.offset + whole.size in
    let ss = c.loop-offset.self.slots in
    let items = c.loop-offset.numbers.items in
    let byte : Cell = byte_cell whole.object from in
    let left = byte_cells whole.object (from + 1) (to - (from + 1)) in
    let step = byte_cells-from whole.object from to c.loop-offset-test.true in
    let slots : c.number.new.self.slots ≡ in_use_with ss byte = c.in_ok-number.ensures.slots in
    let number : c.in_ok-number.field-0 ≡ number_of ss byte = c.in_ok-number.ensures.number in
    let pushed : c.push.new.self.items ≡ items ++ c.in_ok-number.field-0 ∷ [] = c.in_ok-push.ensures.items in
    record {
      end = refl;
      clear = subst (λ (us : List Slot). IsClear us whole.object (from + 1) to) (sym slots) (clear-with ss whole.object from to c.loop-offset.invariant.clear);
      slots = ap (λ (us : List Slot). in_use_with_all us left) slots ∙ ap (in_use_with_all ss) (sym step) ∙ c.loop-offset.invariant.slots;
      numbers = ap (λ (ns : List ℕ). ns ++ numbers_of c.number.new.self.slots left) pushed
          ∙ ap (λ (us : List Slot). (items ++ c.in_ok-number.field-0 ∷ []) ++ numbers_of us left) slots
          ∙ append_assoc items (c.in_ok-number.field-0 ∷ []) (numbers_of (in_use_with ss byte) left)
          ∙ ap (λ (m : ℕ). items ++ m ∷ numbers_of (in_use_with ss byte) left) number
          ∙ ap (λ (cs : List Cell). items ++ numbers_of ss cs) (sym step) ∙ c.loop-offset.invariant.numbers;
    }

pub returns-clause-one_byte : goal.returns-clause-one_byte
returns-clause-one_byte c = λ d at one.
    let whole = c.cell-whole.result in
    let none : whole.offset + whole.size - c.loop-offset.offset ≡ 0 = omega arith in
    let done : c.loop-offset.self.slots ≡ in_use_with_all c.retire.new.self.slots (byte_cells whole.object whole.offset whole.size) = rw none at c.loop-offset.invariant.slots in
    let both : Some whole ≡ Some d = sym c.cell-whole.ensures.cell ∙ at in
    let same : whole ≡ d = cc in
    let in_use : IsInUse c.args.self.now.slots c.args.n whole = record { cell = c.cell-whole.ensures.cell; used = c.requires } in
    done ∙ ap (λ (ss : List Slot). in_use_with_all ss (byte_cells whole.object whole.offset whole.size)) c.retire.ensures
    ∙ one-byte c.args.self.now.slots c.args.n whole c.cell-whole.ensures.table in_use (ap (λ (e : Cell). e.size) same ∙ one)

pub returns-clause-each : goal.returns-clause-each
returns-clause-each c = λ d i at l.
    let whole = c.cell-whole.result in
    let both : Some whole ≡ Some d = sym c.cell-whole.ensures.cell ∙ at in
    let same : whole ≡ d = cc in
    let all = byte_cells whole.object whole.offset whole.size in
    let ss = c.retire.new.self.slots in
    let none : whole.offset + whole.size - c.loop-offset.offset ≡ 0 = omega arith in
    let done : c.loop-offset.self.slots ≡ in_use_with_all ss all = rw none at c.loop-offset.invariant.slots in
    let items : c.loop-offset.numbers.items ++ [] ≡ c.into_vec-numbers.result.items ++ numbers_of ss all = rw none at c.loop-offset.invariant.numbers in
    let old : c.into_vec-numbers.result.items ≡ c.args.out.now = search rules in
    let made : c.from_vec.result ≡ c.loop-offset.numbers.items = search rules in
    let out : c.from_vec.result ≡ c.args.out.now ++ numbers_of ss all =
    made ∙ sym (append-nil c.loop-offset.numbers.items) ∙ items ∙ ap (λ (ns : List ℕ). ns ++ numbers_of ss all) old in
    let inside : i < whole.size = subst (λ (e : Cell). i < e.size) (sym same) l in
    let each = in_use-each ss all i (byte_cell whole.object (whole.offset + i)) (byte-at whole.object whole.offset whole.size i inside) in
    let found : slice_get c.from_vec.result (length c.args.out.now + i) ≡ Some each.0 =
    ap (λ (ns : List ℕ). slice_get ns (length c.args.out.now + i)) out ∙ get-behind c.args.out.now (numbers_of ss all) i ∙ each.1 in
    let used : IsInUse c.loop-offset.self.slots each.0 (byte_cell whole.object (whole.offset + i)) =
    subst (λ (us : List Slot). IsInUse us each.0 (byte_cell whole.object (whole.offset + i))) (sym done) each.2 in
    (each.0, found, subst (λ (e : Cell). IsInUse c.loop-offset.self.slots each.0 (byte_cell e.object (e.offset + i))) same used)
