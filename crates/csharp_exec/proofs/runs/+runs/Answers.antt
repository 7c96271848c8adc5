use Rattle.std.proofs.Common.{◌≡◌, ◌<◌, ◌≤◌, suc, ◌-◌, map, length, false, sym, subst, ap, ◌∙◌, arith, Some, None}
use Rattle.std.specs.Prelude.{option_map, slice_get}
use Rattle.c_syntax.specs.Types.{object_tree}
use Rattle.csharp.specs.Trees.{cscall_tree, csfunction_tree, csprogram_tree, csstmt_tree, csstmts_from}
use Rattle.csharp.specs.Sizes.{csstmt_size}
use Rattle.csharp.specs.States.{State}
use Rattle.csharp.specs.Outcomes.{ByGoto, Leaves, Normal}
use Rattle.csharp.specs.Meaning.{later_by}
use Rattle.csharp.proofs.CodeTrees.{csstmts_item}
use Rattle.csharp_state.specs.Belongs.{Belongs}
use Rattle.csharp_exec.specs.declared.outcome.Outcome.{Outcome}
use Rattle.csharp_exec.specs.Told.{mark_of, over_of, told}
use Rattle.csharp_exec.proofs.Calls.{along, barred_past, call_stuck, called_ends, called_past, function_there}
use Rattle.csharp_exec.proofs.Fuel.{call_falls, worth, worth_le}
use Rattle.csharp_exec.proofs.Rows.{left_done, next_done, next_marked, past_all, past_done, past_item, past_left, past_marked, row_ends}
use Rattle.csharp_exec.proofs.Turns.{lands_back, lands_past, loop_next, past_next}
use Rattle.csharp_exec.proofs.runs.+runs.Goals as goal
use Rattle.csharp_exec.proofs.runs.+runs.Goals.{exec_row-in-Some, exec_row-in-None+in_ok-outcome-in-None+else-not-is_normal+in-Fails-1}
use Rattle.csharp_exec.proofs.runs.+runs.Goals.{exec_row-in-None+in_ok-outcome-in-None+else-not-is_normal+in-Normal-1}

pub exec_call-exec-requires : goal.exec_call-exec-requires
exec_call-exec-requires t c =
    let q = csprogram_tree c.args.program.now in
    let n = c.args.limits.fuel - 1 in
    let looked = c.in-Some.ensures.lookup in
    let there : slice_get (map csfunction_tree c.args.program.now.functions) c.args.call.now.function ≡ Some (csfunction_tree c.in-Some.function.now) =
    function_there c.as_slice.result.now c.args.program.now.functions c.args.call.now.function c.in-Some.function.now c.as_slice.ensures looked.3.0
    (looked.3.1 c.in-Some.function.now) in
    let more : suc n ≡ c.args.limits.fuel = omega (arith, c.if-limits-eq0.false) in
    let falls = call_falls q n c.args.call.now.function (csfunction_tree c.in-Some.function.now) there in
    let worths = ap (worth q) more in (
      omega (arith, falls, worths, c.decreases),
      subst (Belongs (map object_tree c.args.program.now.objects)) (sym c.in_ok-pass.ensures.memory) c.requires,
    )

pub exec_call-returns-in_ok-at_call-in-Done-clause-told : goal.exec_call-returns-in_ok-at_call-in-Done-clause-told
exec_call-returns-in_ok-at_call-in-Done-clause-told t c =
    let q = csprogram_tree c.args.program.now in
    let n = c.args.limits.fuel - 1 in
    let looked = c.in-Some.ensures.lookup in
    let there : slice_get (map csfunction_tree c.args.program.now.functions) c.args.call.now.function ≡ Some (csfunction_tree c.in-Some.function.now) =
    function_there c.as_slice.result.now c.args.program.now.functions c.args.call.now.function c.in-Some.function.now c.as_slice.ensures looked.3.0
    (looked.3.1 c.in-Some.function.now) in
    let more : c.args.limits.fuel ≡ suc n = omega (arith, c.if-limits-eq0.false) in
    let took = rw c.in-Done.is at c.in_ok-pass.ensures.took in
    let passed = rw (c.as_slice-2.ensures, c.as_slice-3.ensures) at took in
    c.in_ok-at_call-in-Done.ensures.told ∙ sym (called_ends (over_of c.args.limits.turns) q c.args.limits.fuel n (cscall_tree c.args.call.now)
    (csfunction_tree c.in-Some.function.now) c.args.state.now c.pass.new.self (told c.in_ok-outcome-in-Done.outcome c.exec.new.state) more there passed
    c.in_ok-outcome-in-Done.ensures.told)

pub exec_call-returns-in_ok-at_call-in-Done-clause-past : goal.exec_call-returns-in_ok-at_call-in-Done-clause-past
exec_call-returns-in_ok-at_call-in-Done-clause-past t c =
    let q = csprogram_tree c.args.program.now in
    let n = c.args.limits.fuel - 1 in
    let looked = c.in-Some.ensures.lookup in
    let there : slice_get (map csfunction_tree c.args.program.now.functions) c.args.call.now.function ≡ Some (csfunction_tree c.in-Some.function.now) =
    function_there c.as_slice.result.now c.args.program.now.functions c.args.call.now.function c.in-Some.function.now c.as_slice.ensures looked.3.0
    (looked.3.1 c.in-Some.function.now) in
    let more : c.args.limits.fuel ≡ suc n = omega (arith, c.if-limits-eq0.false) in
    let took = rw c.in-Done.is at c.in_ok-pass.ensures.took in
    let passed = rw (c.as_slice-2.ensures, c.as_slice-3.ensures) at took in
    let held = rw (c.as_slice-2.ensures, c.as_slice-3.ensures) at c.in_ok-pass.ensures.unheld in
    called_past (over_of c.args.limits.turns) q c.args.limits.fuel (cscall_tree c.args.call.now) (csfunction_tree c.in-Some.function.now) c.args.state.now there held n c.pass.new.self more passed
    ∙ c.in_ok-outcome-in-Done.ensures.past

pub exec_call-returns-in_err-outcome-in-Done-clause-past : goal.exec_call-returns-in_err-outcome-in-Done-clause-past
exec_call-returns-in_err-outcome-in-Done-clause-past t c =
    let q = csprogram_tree c.args.program.now in
    let n = c.args.limits.fuel - 1 in
    let looked = c.in-Some.ensures.lookup in
    let there : slice_get (map csfunction_tree c.args.program.now.functions) c.args.call.now.function ≡ Some (csfunction_tree c.in-Some.function.now) =
    function_there c.as_slice.result.now c.args.program.now.functions c.args.call.now.function c.in-Some.function.now c.as_slice.ensures looked.3.0
    (looked.3.1 c.in-Some.function.now) in
    let more : c.args.limits.fuel ≡ suc n = omega (arith, c.if-limits-eq0.false) in
    let took = rw c.in-Done.is at c.in_ok-pass.ensures.took in
    let passed = rw (c.as_slice-2.ensures, c.as_slice-3.ensures) at took in
    let held = rw (c.as_slice-2.ensures, c.as_slice-3.ensures) at c.in_ok-pass.ensures.unheld in
    along Outcome _ _ _ _ _ (λ met. called_past (over_of c.args.limits.turns) q c.args.limits.fuel (cscall_tree c.args.call.now) (csfunction_tree c.in-Some.function.now) c.args.state.now there held n
    c.pass.new.self more passed ∙ met) c.from_residual-in_err-outcome-in-Done.ensures.1 c.in_err-outcome-in-Done.ensures.past

pub exec_call-returns-in-Barred-clause-past : goal.exec_call-returns-in-Barred-clause-past
exec_call-returns-in-Barred-clause-past t c =
    let q = csprogram_tree c.args.program.now in
    let looked = c.in-Some.ensures.lookup in
    let there : slice_get (map csfunction_tree c.args.program.now.functions) c.args.call.now.function ≡ Some (csfunction_tree c.in-Some.function.now) =
    function_there c.as_slice.result.now c.args.program.now.functions c.args.call.now.function c.in-Some.function.now c.as_slice.ensures looked.3.0
    (looked.3.1 c.in-Some.function.now) in
    let took = rw c.in-Barred.is at c.in_ok-pass.ensures.took in
    let barred = took.0 in
    let passed = rw (c.as_slice-2.ensures, c.as_slice-3.ensures) at barred in
    let held = rw (c.as_slice-2.ensures, c.as_slice-3.ensures) at c.in_ok-pass.ensures.unheld in
    barred_past (over_of c.args.limits.turns) q c.args.limits.fuel (cscall_tree c.args.call.now) (csfunction_tree c.in-Some.function.now) c.args.state.now there held passed

pub exec_call-returns-in-Barred-clause-told : goal.exec_call-returns-in-Barred-clause-told
exec_call-returns-in-Barred-clause-told t c =
    let q = csprogram_tree c.args.program.now in
    let looked = c.in-Some.ensures.lookup in
    let there : slice_get (map csfunction_tree c.args.program.now.functions) c.args.call.now.function ≡ Some (csfunction_tree c.in-Some.function.now) =
    function_there c.as_slice.result.now c.args.program.now.functions c.args.call.now.function c.in-Some.function.now c.as_slice.ensures looked.3.0
    (looked.3.1 c.in-Some.function.now) in
    let took = rw c.in-Barred.is at c.in_ok-pass.ensures.took in
    let barred = took.0 in
    let passed = rw (c.as_slice-2.ensures, c.as_slice-3.ensures) at barred in
    call_stuck (later_by (over_of c.args.limits.turns) q c.args.limits.fuel) q (cscall_tree c.args.call.now) (csfunction_tree c.in-Some.function.now)
    c.args.state.now there passed

pub exec_items-exec_row-requires : goal.exec_items-exec_row-requires
exec_items-exec_row-requires t c =
    let less = worth_le (csprogram_tree c.args.program.now) c.loop-outcome.left.fuel c.args.limits.fuel c.loop-outcome.invariant.fuel in
    (omega (arith, less, c.decreases), c.loop-outcome.invariant.objects)

pub exec_loop-exec-requires : goal.exec_loop-exec-requires
exec_loop-exec-requires t c =
    let left : c.loop-alloc.left.fuel ≤ c.args.limits.fuel = omega (arith, c.loop-alloc.invariant.fuel) in
    let less = worth_le (csprogram_tree c.args.program.now) c.loop-alloc.left.fuel c.args.limits.fuel left in
    (omega (arith, less, c.decreases), c.loop-alloc.invariant.objects)

pub exec_loop-loop-alloc-preserved : goal.exec_loop-loop-alloc-preserved
exec_loop-loop-alloc-preserved t c =
    let q = csprogram_tree c.args.program.now in
    let normal = c.is_normal.ensures.normal c.if-not-is_normal.false in
    let ends : Normal c.exec.new.state ≡ told c.in_ok-outcome.outcome c.exec.new.state = sym (ap (λ o. told o c.exec.new.state) normal) in
    let comes = rw c.loop-alloc.invariant.bound at c.in_ok-outcome.ensures.told in
    let unmet = rw c.loop-alloc.invariant.bound at c.in_ok-outcome.ensures.past in
    let less : c.loop-alloc.left.fuel ≡ suc (c.loop-alloc.left.fuel - 1) = omega (arith, c.if-left-eq0.false) in
    let goes : over_of c.args.limits.turns c.loop-alloc.turns ≡ false = sym c.is_over.ensures ∙ c.if-is_over.false in
    record {
      fuel = omega (arith, c.loop-alloc.invariant.fuel, c.if-left-eq0.false);
      bound = c.loop-alloc.invariant.bound;
      objects = c.in_ok-outcome.ensures.objects;
      same = λ at. sym (loop_next (over_of c.args.limits.turns) q at (csstmt_tree c.args.body.now) c.loop-alloc.left.fuel (c.loop-alloc.left.fuel - 1)
          c.loop-alloc.turns c.loop-alloc.state c.exec.new.state less goes (ends ∙ comes)) ∙ c.loop-alloc.invariant.same at;
      past = λ at. sym (past_next (over_of c.args.limits.turns) q at (csstmt_tree c.args.body.now) c.loop-alloc.left.fuel (c.loop-alloc.left.fuel - 1)
          c.loop-alloc.turns c.loop-alloc.state c.exec.new.state less goes unmet (ends ∙ comes)) ∙ c.loop-alloc.invariant.past at;
    }

pub exec_row-exec-requires : goal.exec_row-exec-requires
exec_row-exec-requires t c =
    let here : c.loop-item.item-index < length c.args.list.now = omega arith in
    let less = csstmts_item c.args.list.now c.loop-item.item-index c.item-item.result here in
    let same = ap (λ item. csstmt_size (csstmt_tree item)) c.item-item.is in
    (omega (arith, less, same, c.decreases), c.loop-item.invariant.objects)

pub exec_row-returns-then-not-is_normal-clause-told : goal.exec_row-returns-then-not-is_normal-clause-told
exec_row-returns-then-not-is_normal-clause-told t c =
    let here : c.loop-item.item-index < length c.args.list.now = omega arith in
    left_done (over_of c.args.limits.turns) (csprogram_tree c.args.program.now) c.args.limits.fuel c.args.list.now c.loop-item.item-index c.item-item.result here
    c.item-item.is _ (option_map mark_of c.loop-item.from) None c.loop-item.state c.exec.new.state
    (told c.in_ok-outcome-in-None.outcome c.exec.new.state) (ap (option_map mark_of) c.in-None.is) c.in_ok-outcome-in-None.ensures.told
    (λ go. c.is_normal.ensures.other c.if-not-is_normal.true c.exec.new.state go) c.loop-item.invariant.same

pub exec_row-loop-item-preserved : goal.exec_row-loop-item-preserved
exec_row-loop-item-preserved t c =
    let here : c.loop-item.item-index < length c.args.list.now = omega arith in
    elim c.match-from.branch [
      | exec_row-in-Some w ↦ record {
        objects = subst (λ (s : State). Belongs (map object_tree c.args.program.now.objects) s.memory) (sym w.state-is) c.loop-item.invariant.objects;
        same = next_marked (over_of c.args.limits.turns) (csprogram_tree c.args.program.now) c.args.limits.fuel c.args.list.now c.loop-item.item-index
            c.item-item.result here c.item-item.is _ (option_map mark_of c.loop-item.from) (option_map mark_of c.match-from.from) c.loop-item.state
            c.match-from.state (mark_of w.in-Some.mark) w.state-is (ap (option_map mark_of) w.from-is ∙ w.behind-from.ensures)
            (ap (option_map mark_of) w.in-Some.is) c.loop-item.invariant.same;
        past = past_marked (over_of c.args.limits.turns) (csprogram_tree c.args.program.now) c.args.limits.fuel c.args.list.now c.loop-item.item-index
            c.item-item.result here c.item-item.is _ (option_map mark_of c.loop-item.from) (option_map mark_of c.match-from.from) c.loop-item.state
            c.match-from.state (mark_of w.in-Some.mark) w.state-is (ap (option_map mark_of) w.from-is ∙ w.behind-from.ensures)
            (ap (option_map mark_of) w.in-Some.is) c.loop-item.invariant.past;
      }
      | exec_row-in-None+in_ok-outcome-in-None+else-not-is_normal+in-Fails-1 w ↦
          let normal = w.is_normal.ensures.normal w.if-not-is_normal.false in
          let none : c.match-from.from ≡ None = cc in
          record {
            objects = subst (λ (s : State). Belongs (map object_tree c.args.program.now.objects) s.memory) (sym w.state-is)
                w.in_ok-outcome-in-None.ensures.objects;
            same = next_done (over_of c.args.limits.turns) (csprogram_tree c.args.program.now) c.args.limits.fuel c.args.list.now c.loop-item.item-index
                c.item-item.result here c.item-item.is _ (option_map mark_of c.loop-item.from) (option_map mark_of c.match-from.from) c.loop-item.state
                c.match-from.state w.exec.new.state w.state-is (ap (option_map mark_of) none) (ap (option_map mark_of) w.in-None.is)
                (sym (ap (λ o. told o w.exec.new.state) normal) ∙ w.in_ok-outcome-in-None.ensures.told) c.loop-item.invariant.same;
            past = past_done (over_of c.args.limits.turns) (csprogram_tree c.args.program.now) c.args.limits.fuel c.args.list.now c.loop-item.item-index
                c.item-item.result here c.item-item.is _ (option_map mark_of c.loop-item.from) (option_map mark_of c.match-from.from) c.loop-item.state
                c.match-from.state w.exec.new.state w.state-is (ap (option_map mark_of) none) (ap (option_map mark_of) w.in-None.is)
                w.in_ok-outcome-in-None.ensures.past
                (sym (ap (λ o. told o w.exec.new.state) normal) ∙ w.in_ok-outcome-in-None.ensures.told) c.loop-item.invariant.past;
          }
      | exec_row-in-None+in_ok-outcome-in-None+else-not-is_normal+in-Normal-1 w ↦
          let normal = w.is_normal.ensures.normal w.if-not-is_normal.false in
          let none : c.match-from.from ≡ None = cc in
          record {
            objects = subst (λ (s : State). Belongs (map object_tree c.args.program.now.objects) s.memory) (sym w.state-is)
                w.in_ok-outcome-in-None.ensures.objects;
            same = next_done (over_of c.args.limits.turns) (csprogram_tree c.args.program.now) c.args.limits.fuel c.args.list.now c.loop-item.item-index
                c.item-item.result here c.item-item.is _ (option_map mark_of c.loop-item.from) (option_map mark_of c.match-from.from) c.loop-item.state
                c.match-from.state w.exec.new.state w.state-is (ap (option_map mark_of) none) (ap (option_map mark_of) w.in-None.is)
                (sym (ap (λ o. told o w.exec.new.state) normal) ∙ w.in_ok-outcome-in-None.ensures.told) c.loop-item.invariant.same;
            past = past_done (over_of c.args.limits.turns) (csprogram_tree c.args.program.now) c.args.limits.fuel c.args.list.now c.loop-item.item-index
                c.item-item.result here c.item-item.is _ (option_map mark_of c.loop-item.from) (option_map mark_of c.match-from.from) c.loop-item.state
                c.match-from.state w.exec.new.state w.state-is (ap (option_map mark_of) none) (ap (option_map mark_of) w.in-None.is)
                w.in_ok-outcome-in-None.ensures.past
                (sym (ap (λ o. told o w.exec.new.state) normal) ∙ w.in_ok-outcome-in-None.ensures.told) c.loop-item.invariant.past;
          }
    ]

pub exec_row-returns-clause-told : goal.exec_row-returns-clause-told
exec_row-returns-clause-told t c =
    sym (row_ends (over_of c.args.limits.turns) (csprogram_tree c.args.program.now) c.args.limits.fuel c.args.list.now c.loop-item.item-index
    (option_map mark_of c.loop-item.from) c.loop-item.state (omega arith)) ∙ c.loop-item.invariant.same

pub exec_row-returns-then-not-is_normal-clause-past : goal.exec_row-returns-then-not-is_normal-clause-past
exec_row-returns-then-not-is_normal-clause-past t c =
    let here : c.loop-item.item-index < length c.args.list.now = omega arith in
    past_left (over_of c.args.limits.turns) (csprogram_tree c.args.program.now) c.args.limits.fuel c.args.list.now c.loop-item.item-index c.item-item.result here
    c.item-item.is _ (option_map mark_of c.loop-item.from) None c.loop-item.state c.exec.new.state
    (told c.in_ok-outcome-in-None.outcome c.exec.new.state) (ap (option_map mark_of) c.in-None.is) c.in_ok-outcome-in-None.ensures.past
    c.in_ok-outcome-in-None.ensures.told (λ go. c.is_normal.ensures.last c.if-not-is_normal.true c.exec.new.state go) c.loop-item.invariant.past

pub exec_row-returns-clause-past : goal.exec_row-returns-clause-past
exec_row-returns-clause-past t c =
    sym c.loop-item.invariant.past
    ∙ past_all (over_of c.args.limits.turns) (csprogram_tree c.args.program.now) c.args.limits.fuel c.args.list.now c.loop-item.item-index
    (option_map mark_of c.loop-item.from) c.loop-item.state (omega arith)

pub exec_row-returns-in_err-outcome-in-None-clause-past : goal.exec_row-returns-in_err-outcome-in-None-clause-past
exec_row-returns-in_err-outcome-in-None-clause-past t c =
    let here : c.loop-item.item-index < length c.args.list.now = omega arith in
    along Outcome _ _ _ _ _ (λ met. past_item (over_of c.args.limits.turns) (csprogram_tree c.args.program.now) c.args.limits.fuel c.args.list.now c.loop-item.item-index
    c.item-item.result here c.item-item.is _ (option_map mark_of c.loop-item.from) None c.loop-item.state c.loop-item.state
    (ap (option_map mark_of) c.in-None.is) met c.loop-item.invariant.past) c.from_residual.ensures.1 c.in_err-outcome-in-None.ensures.past

pub exec_items-loop-outcome-preserved : goal.exec_items-loop-outcome-preserved
exec_items-loop-outcome-preserved t c =
    let q = csprogram_tree c.args.program.now in
    let all = csstmts_from c.args.list.now in
    let lands = c.in-Some.ensures.lands in
    let ends : Leaves (ByGoto c.in-Some.label) c.exec_row.new.state ≡ told c.in_ok-outcome.outcome c.exec_row.new.state =
    sym (ap (λ o. told o c.exec_row.new.state) lands.0) in
    let comes = rw c.loop-outcome.invariant.bound at c.in_ok-outcome.ensures.told in
    let unmet = rw c.loop-outcome.invariant.bound at c.in_ok-outcome.ensures.past in
    let less : c.loop-outcome.left.fuel ≡ suc (c.loop-outcome.left.fuel - 1) = omega (arith, c.if-left-eq0.false) in
    record {
      fuel = omega (arith, c.loop-outcome.invariant.fuel);
      bound = c.loop-outcome.invariant.bound;
      objects = c.in_ok-outcome.ensures.objects;
      same = sym (lands_back (over_of c.args.limits.turns) q all c.loop-outcome.left.fuel (c.loop-outcome.left.fuel - 1)
          (option_map mark_of c.loop-outcome.from) c.loop-outcome.state c.exec_row.new.state c.in-Some.label less (ends ∙ comes) lands.1)
          ∙ c.loop-outcome.invariant.same;
      past = sym (lands_past (over_of c.args.limits.turns) q all c.loop-outcome.left.fuel (option_map mark_of c.loop-outcome.from)
          c.loop-outcome.state (c.loop-outcome.left.fuel - 1) c.in-Some.label c.exec_row.new.state less unmet (ends ∙ comes) lands.1)
          ∙ c.loop-outcome.invariant.past;
    }
