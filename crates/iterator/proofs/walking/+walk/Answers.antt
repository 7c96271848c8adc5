use Rattle.std.proofs.Common.{◌≡◌, ◌∙◌, ⊎_elim, suc, ◌-◌, [], true, false, Some, None, refl, ap, subst, arith, rules}
use Rattle.std.specs.Prelude.{slice_get}
use Rattle.csharp.specs.Meaning.{beyond}
use Rattle.csharp.specs.Outcomes.{ByExit, ByGoto}
use Rattle.csharp.specs.Trees.{Block, Exit, Goto, If, Loop, Scope, Sequence, Switch, cscall_tree, csexpr_tree, csfunction_tree, csprogram_tree, csstmt_tree, csstmts_from}
use Rattle.csharp.specs.Trees.{csstmts_tree}
use Rattle.csharp.specs.Sizes.{csstmts_size}
use Rattle.csharp.proofs.CodeTrees.{csstmt_exit, csstmt_goto, csstmt_loop, csstmts_cons, csstmts_nil}
use Rattle.walk_owes.specs.declared.way.Way.TheVariants as ways
use Rattle.walk_owes.specs.Heads.{IsMore}
use Rattle.walk_owes.specs.Items.{Begins, CoveredAll}
use Rattle.walk_owes.proofs.Closing.{plain_pass}
use Rattle.walk_owes.proofs.Heads.{begins_more}
use Rattle.walk_owes.specs.Exactly.{ExactAll}
use Rattle.walk_owes.proofs.Alone.{head_typed, head_untyped}
use Rattle.walk_owes.proofs.Exactly.{block_exact, dead_exact, if_exact, leaves_exact, sequence_exact, stays_none, stays_some}
use Rattle.walk_owes.proofs.Going.{behind_more, behind_start, goes_begin}
use Rattle.walk_owes.proofs.Turning.{rest_exact, rolled_dead, rolled_none, whole_exact}
use Rattle.iterator.specs.Begun.{BeginsOn}
use Rattle.iterator.proofs.Begun.{all_closed, all_from, all_plain, begins_both, begins_labels, begins_same, begins_wider}
use Rattle.iterator.proofs.Lifting.{call_exact_typed, goes_more_typed, scope_exact_typed, side_dead_typed, side_walked_typed, switch_exact_typed}
use Rattle.iterator.proofs.Settling.{closed_is, more_is, not_new, not_wider}
use Rattle.iterator.proofs.Turns.{beyond_next, fell_not, loop_into, rolled_next, rolled_over, turn_descends, turn_stays, turns_again, turns_last, turns_on, turns_start}
use Rattle.walk_owes.specs.Owes.{AllFor, HasTyped, SomeFor}
use Rattle.walk_owes.specs.Walkable.{AreArgsReady, IsWalkable, target_of, worth}
use Rattle.walk_owes.proofs.Admits.{all_into, block_admits, else_admits, first_admits, gained, gains_both, gains_into, gains_none, item_admits, loop_admits}
use Rattle.walk_owes.proofs.Admits.{rest_admits, scope_admits, second_admits, switch_admits, then_admits}
use Rattle.walk_owes.proofs.Entering.{nil_of}
use Rattle.walk_owes.proofs.Fuel.{call_falls, callable, callee_is, function_there}
use Rattle.walk_owes.proofs.Scopes.{passes_begin, passes_end}
use Rattle.walk_owes.proofs.Steps.{block_sound, grows_both, grows_none, if_sound, loop_sound, reached, sequence_sound}
use Rattle.walk_owes.proofs.Steps.{unrolled_dead, unrolled_end, unrolled_more, unrolled_none, whole_loop}
use Rattle.walk_owes.proofs.Typed.{head_on, keeps_with, leaves_with, some_of, some_on}
use Rattle.walk_owes.proofs.Typing.{call_typed, closed_typed, grows_with, passes_typed, scope_typed, side_dead, side_sound, switch_typed}
use Rattle.iterator.proofs.walking.+walk.Goals as goal

pub walk-returns-in_ok-walk_loop-in-Loop-clause-sound : goal.walk-returns-in_ok-walk_loop-in-Loop-clause-sound
walk-returns-in_ok-walk_loop-in-Loop-clause-sound g t c =
    let x = rw c.deref-in-Loop.ensures at c.in_ok-walk_loop-in-Loop.ensures.sound in
    rw (c.in-Loop.is, csstmt_loop c.in-Loop.pos c.in-Loop.body) (whole_loop (HasTyped g.M.MemDomain.stands (csprogram_tree c.args.program.now)) _ _ c.in-Loop.pos (csstmt_tree c.in-Loop.body.value) c.args.state _ _ (x c.in-Loop.pos))

pub walk_sequence-returns-clause-sound : goal.walk_sequence-returns-clause-sound
walk_sequence-returns-clause-sound g t c =
    sequence_sound (HasTyped g.M.MemDomain.stands (csprogram_tree c.args.program.now)) _ _ (csstmt_tree c.args.first.now) (csstmt_tree c.args.second.now) (Some c.args.state) c.in_ok-mid.mid
    c.in_ok-after.after c.walk.new.kept.items c.walk_live.new.kept.items c.walk.new.out.items c.walk_live.new.out.items c.in_ok-mid.ensures.sound c.in_ok-after.ensures.grows c.in_ok-after.ensures.sound

pub walk_if-returns-clause-is_for : goal.walk_if-returns-clause-is_for
walk_if-returns-clause-is_for g t c =
    c.in_ok-after.ensures.is_for (csprogram_tree c.args.program.now) c.in_ok-first.ensures.is_for c.in_ok-second.ensures.is_for

pub walk_if-returns-clause-sound : goal.walk_if-returns-clause-sound
walk_if-returns-clause-sound g t c =
    let y = c.in_ok-second.ensures.sound in
    if_sound (HasTyped g.M.MemDomain.stands (csprogram_tree c.args.program.now)) _ _ (csexpr_tree c.args.condition.now) (csstmt_tree c.args.then.now) (csstmt_tree c.args.otherwise.now) c.args.state
    c.in_ok-first.first c.in_ok-second.second c.in_ok-after.after _ _ _ _ c.in_ok-first.ensures.sound c.in_ok-second.ensures.grows (rw c.in_ok-other.ensures at y) (some_on g.M.MemDomain.stands (csprogram_tree c.args.program.now) _ _ c.in_ok-after.ensures.first)
    (some_on g.M.MemDomain.stands (csprogram_tree c.args.program.now) _ _ c.in_ok-after.ensures.second)

pub walk_block-returns-clause-is_for : goal.walk_block-returns-clause-is_for
walk_block-returns-clause-is_for g t c =
    c.in_ok-after.ensures.is_for (csprogram_tree c.args.program.now) c.in_ok-mid.ensures.kept_for c.in_ok-mid.ensures.is_for

pub walk_block-returns-clause-kept_for : goal.walk_block-returns-clause-kept_for
walk_block-returns-clause-kept_for g t c =
    c.in_ok-after.ensures.kept_for (csprogram_tree c.args.program.now) c.in_ok-mid.ensures.kept_for c.requires.kept_for

pub walk_block-returns-clause-sound : goal.walk_block-returns-clause-sound
walk_block-returns-clause-sound g t c =
    block_sound (HasTyped g.M.MemDomain.stands (csprogram_tree c.args.program.now)) _ _ (csstmt_tree c.args.body.now) (Some c.args.state) c.in_ok-mid.mid c.in_ok-after.after _ _ _ c.in_ok-mid.ensures.sound
    (some_on g.M.MemDomain.stands (csprogram_tree c.args.program.now) _ _ c.in_ok-after.ensures.after) (leaves_with g.M.MemDomain.stands (csprogram_tree c.args.program.now) _ _ _ c.in_ok-after.ensures.exits)

pub settle-returns-then-not-branch-clause-reaches : goal.settle-returns-then-not-branch-clause-reaches
settle-returns-then-not-branch-clause-reaches g t c =
    let q = csprogram_tree c.args.program.now in
    let a = csstmt_tree c.args.body.now in
    let b : c.in_ok-widen_by.field-0 ≡ false = search rules in
    let e = c.in_ok-widen_by.ensures.same b in
    rw e (reached (HasTyped g.M.MemDomain.stands q) q c.args.to a c.args.head c.loop-head.head (λ s i. (c.loop-head.invariant.entry s i.0, i.1))
    (turn_stays (HasTyped g.M.MemDomain.stands q) q c.args.to a c.loop-head.head c.in_ok-pass.pass.after c.in_ok-pass.pass.kept.items c.in_ok-pass.pass.out.items c.in_ok-pass.ensures.sound
    (λ s h. let y = some_of g.M.MemDomain.stands q c.in_ok-pass.pass.after s h in (rw e at (c.in_ok-widen_by.ensures.right s y.0), y.1))))

pub narrow-returns-then-branch-clause-sound : goal.narrow-returns-then-branch-clause-sound
narrow-returns-then-branch-clause-sound g t c = λ at.
    let q = csprogram_tree c.args.program.now in
    loop_sound (HasTyped g.M.MemDomain.stands q) q c.args.to at (csstmt_tree c.args.body.now) c.args.entry.now c.loop-steps.head c.loop-steps.pass.after c.loop-steps.pass.kept.items c.loop-steps.pass.out.items c.loop-steps.invariant.reaches c.loop-steps.invariant.sound

pub narrow-loop-steps-preserved : goal.narrow-loop-steps-preserved
narrow-loop-steps-preserved g t c =
    let q = csprogram_tree c.args.program.now in
    record {
      is_for = c.in_ok-next.ensures.is_for q c.requires.entry_for c.loop-steps.invariant.pass_for.0;
      pass_for = c.in_ok-pass.ensures.pass_for;
      reaches = turn_descends (HasTyped g.M.MemDomain.stands q) q c.args.to (csstmt_tree c.args.body.now) c.args.entry.now c.loop-steps.head c.loop-steps.pass.after
          c.loop-steps.pass.kept.items c.loop-steps.pass.out.items c.in_ok-next.next c.loop-steps.invariant.reaches c.loop-steps.invariant.sound (λ s h. (c.in_ok-next.ensures.entry s h.0, h.1))
          (λ s h. let y = some_of g.M.MemDomain.stands q c.loop-steps.pass.after s h in (c.in_ok-next.ensures.next s y.0, y.1));
      sound = c.in_ok-pass.ensures.sound;
      gains = c.in_ok-pass.ensures.gains;
      last = turns_again (HasTyped g.M.MemDomain.sharp q) (beyond c.args.set.now.unroll) q c.args.to (csstmt_tree c.args.body.now) c.args.entry.now c.in_ok-next.next c.loop-steps.pass.after c.in_ok-pass.pass.after
          c.loop-steps.pass.kept.items c.in_ok-pass.pass.kept.items c.loop-steps.pass.out.items c.in_ok-pass.pass.out.items c.loop-steps.invariant.last c.in_ok-next.ensures.alone c.in_ok-pass.ensures.exact;
    }

pub narrow-returns-clause-sound : goal.narrow-returns-clause-sound
narrow-returns-clause-sound g t c = λ at.
    let q = csprogram_tree c.args.program.now in
    loop_sound (HasTyped g.M.MemDomain.stands q) q c.args.to at (csstmt_tree c.args.body.now) c.args.entry.now c.loop-steps.head c.loop-steps.pass.after c.loop-steps.pass.kept.items c.loop-steps.pass.out.items c.loop-steps.invariant.reaches c.loop-steps.invariant.sound

pub walk_loop-returns-in-None-clause-sound : goal.walk_loop-returns-in-None-clause-sound
walk_loop-returns-in-None-clause-sound g t c = λ at.
    let x = c.in_ok-walk.ensures.sound in
    unrolled_dead (HasTyped g.M.MemDomain.stands (csprogram_tree c.args.program.now)) _ _ at (csstmt_tree c.args.body.now) c.args.state c.loop-turns.head c.loop-turns.kept.items c.walk.new.kept.items
    c.loop-turns.out.items c.walk.new.out.items (c.loop-turns.invariant.unrolled at) (rw c.in-None.is at x) c.in_ok-walk.ensures.grows

pub walk_loop-loop-turns-preserved : goal.walk_loop-loop-turns-preserved
walk_loop-loop-turns-preserved g t c =
    let q = csprogram_tree c.args.program.now in
    let x = c.in_ok-walk.ensures.sound in
    let exact = c.in_ok-walk.ensures.exact in
    let i = c.in_ok-walk.ensures.is_for in
    record {
      is_for = rw c.in-Some.is at i;
      kept_for = c.in_ok-walk.ensures.kept_for;
      unrolled = λ at. unrolled_more (HasTyped g.M.MemDomain.stands (csprogram_tree c.args.program.now)) _ _ at (csstmt_tree c.args.body.now) c.args.state c.loop-turns.head c.in-Some.next _ _ _ _
          (c.loop-turns.invariant.unrolled at) (rw c.in-Some.is at x) c.in_ok-walk.ensures.grows;
      gains = gains_both (csprogram_tree c.args.program.now) (csstmt_tree c.args.body.now) _ _ _ c.loop-turns.invariant.gains c.in_ok-walk.ensures.gains;
      grows = grows_both (HasTyped g.M.MemDomain.stands (csprogram_tree c.args.program.now)) _ c.args.to _ _ _ _ _ _ c.loop-turns.invariant.grows c.in_ok-walk.ensures.grows;
      rolled = λ at. rolled_next (HasTyped g.M.MemDomain.sharp q) (beyond c.args.set.now.unroll) q c.args.to at (csstmt_tree c.args.body.now)
          c.args.state c.loop-turns.turns _ c.loop-turns.head c.in-Some.next _ _ _ _ _ _ (omega arith) (c.loop-turns.invariant.rolled at) (rw c.in-Some.is at exact);
      within = omega (arith, c.loop-turns-test.true);
    }

pub walk_loop-returns-clause-sound : goal.walk_loop-returns-clause-sound
walk_loop-returns-clause-sound g t c = λ at.
    unrolled_end (HasTyped g.M.MemDomain.stands (csprogram_tree c.args.program.now)) _ _ at (csstmt_tree c.args.body.now) c.args.state c.loop-turns.head c.loop-turns.kept.items c.walk_rest.new.kept.items
    c.loop-turns.out.items c.walk_rest.new.out.items (c.loop-turns.invariant.unrolled at) (c.in_ok-walk_rest.ensures.sound at) c.in_ok-walk_rest.ensures.grows

pub walk_rest-returns-clause-kept_for : goal.walk_rest-returns-clause-kept_for
walk_rest-returns-clause-kept_for g t c = c.in_ok-keep_all.ensures.is_for (csprogram_tree c.args.program.now) c.in_ok-pass.ensures.kept_for c.requires.kept_for

pub walk_rest-returns-clause-sound : goal.walk_rest-returns-clause-sound
walk_rest-returns-clause-sound g t c = λ at.
    let q = csprogram_tree c.args.program.now in
    loop_into (HasTyped g.M.MemDomain.stands q) q c.args.to at (csstmt_tree c.args.body.now) c.args.entry c.in_ok-pass.pass.kept.items c.keep_all.new.kept.items c.in_ok-pass.pass.out.items c.add_alarms.new.out.items (c.in_ok-pass.ensures.sound at)
    (grows_with g.M.MemDomain.stands q c.args.to _ _ _ _ c.in_ok-keep_all.ensures.new (c.in_ok-add_alarms.ensures.new q))

pub walk_rest-returns-clause-grows : goal.walk_rest-returns-clause-grows
walk_rest-returns-clause-grows g t c =
    let q = csprogram_tree c.args.program.now in
    grows_with g.M.MemDomain.stands q c.args.to _ _ _ _ c.in_ok-keep_all.ensures.old (c.in_ok-add_alarms.ensures.old q)

pub walk_rest-returns-clause-gains : goal.walk_rest-returns-clause-gains
walk_rest-returns-clause-gains g t c =
    let q = csprogram_tree c.args.program.now in
    let a = csstmt_tree c.args.body.now in
    c.in_ok-add_alarms.ensures.gains q a (gained q a _ c.in_ok-pass.ensures.gains)

pub walk_call-walk-requires : goal.walk_call-walk-requires
walk_call-walk-requires g t c =
    let q = csprogram_tree c.args.program.now in
    let looked = c.in-Some.ensures.lookup in
    let there : slice_get q.functions c.args.call.now.function ≡ Some (csfunction_tree c.in-Some.function.now) =
    function_there c.as_slice.result.now c.args.program.now.functions c.args.call.now.function c.in-Some.function.now c.as_slice.ensures looked.3.0 (looked.3.1 c.in-Some.function.now) in
    let less : c.args.depth ≡ suc (c.args.depth - 1) = omega (arith, c.if-depth-eq0.false) in
    let callee = callable q c.args.depth (c.args.depth - 1) c.args.to (cscall_tree c.args.call.now) less c.requires.walkable in
    let same = callee_is q (c.args.depth - 1) (cscall_tree c.args.call.now) (csfunction_tree c.in-Some.function.now) there callee in
    let more : suc (c.args.depth - 1) ≡ c.args.depth = omega (arith, c.if-depth-eq0.false) in
    let falls = call_falls q (c.args.depth - 1) c.args.call.now.function (csfunction_tree c.in-Some.function.now) there in
    let worths = ap (worth q) more in
    λ κs le. (omega (arith, falls, worths, c.decreases), (le.0, (le.1.0, (le.1.1, (c.requires.ramp, (subst (λ f. IsWalkable q (c.args.depth - 1) (target_of (cscall_tree c.args.call.now)) f.body) same callee.body, (callee.target, (c.in_ok-pass_args.ensures.is_for q c.requires.is_for, rw c.new-inner.ensures.items tt))))))))

pub walk_call-give_none-requires : goal.walk_call-give_none-requires
walk_call-give_none-requires g t c =
    let q = csprogram_tree c.args.program.now in
    let less : c.args.depth ≡ suc (c.args.depth - 1) = omega (arith, c.if-depth-eq0.false) in
    let callee = callable q c.args.depth (c.args.depth - 1) c.args.to (cscall_tree c.args.call.now) less c.requires.walkable in
    record { given = (q, c.in_ok-mid.ensures.is_for, callee.target) }

pub walk_call-take_returns-requires : goal.walk_call-take_returns-requires
walk_call-take_returns-requires g t c = record { one = (csprogram_tree c.args.program.now, c.in_ok-mid.ensures.kept_for) }

pub walk_call-merge_either-requires : goal.walk_call-merge_either-requires
walk_call-merge_either-requires g t c =
    let q = csprogram_tree c.args.program.now in
    record { one = (q, c.in_ok-fallen.ensures.is_for q c.in_ok-mid.ensures.is_for, c.in_ok-given.ensures.is_for q c.in_ok-mid.ensures.kept_for) }

pub walk_call-returns-clause-is_for : goal.walk_call-returns-clause-is_for
walk_call-returns-clause-is_for g t c =
    let q = csprogram_tree c.args.program.now in
    c.in_ok-after.ensures.is_for q (c.in_ok-fallen.ensures.is_for q c.in_ok-mid.ensures.is_for) (c.in_ok-given.ensures.is_for q c.in_ok-mid.ensures.kept_for)

pub walk_call-returns-clause-sound : goal.walk_call-returns-clause-sound
walk_call-returns-clause-sound g t c =
    let q = csprogram_tree c.args.program.now in
    let looked = c.in-Some.ensures.lookup in
    let there : slice_get q.functions c.args.call.now.function ≡ Some (csfunction_tree c.in-Some.function.now) =
    function_there c.as_slice.result.now c.args.program.now.functions c.args.call.now.function c.in-Some.function.now c.as_slice.ensures looked.3.0 (looked.3.1 c.in-Some.function.now) in
    let less : c.args.depth ≡ suc (c.args.depth - 1) = omega (arith, c.if-depth-eq0.false) in
    let callee = callable q c.args.depth (c.args.depth - 1) c.args.to (cscall_tree c.args.call.now) less c.requires.walkable in
    let same = callee_is q (c.args.depth - 1) (cscall_tree c.args.call.now) (csfunction_tree c.in-Some.function.now) there callee in
    let ready = subst (λ f. AreArgsReady q (cscall_tree c.args.call.now).args f.params) same callee.args in
    let passed = rw (c.as_slice-2.ensures, c.as_slice-3.ensures) at c.in_ok-pass_args.ensures.stands in
    call_typed g.M.MemDomain.stands q c.args.to c.actions_keep_states_typed.ensures.set (cscall_tree c.args.call.now) (csfunction_tree c.in-Some.function.now)
    c.args.state c.pass_args.new.state c.in_ok-mid.mid c.in_ok-fallen.fallen c.in_ok-given.given c.in_ok-after.after c.walk.new.kept.items _ c.walk.new.out.items _
    there ready callee.target passed c.in_ok-mid.ensures.sound c.in_ok-fallen.ensures.none c.in_ok-given.ensures.taken c.in_ok-after.ensures.first c.in_ok-after.ensures.second (c.in_ok-prefix.ensures.new q)

pub walk_call-returns-clause-gains : goal.walk_call-returns-clause-gains
walk_call-returns-clause-gains g t c =
    let q = csprogram_tree c.args.program.now in
    let looked = c.in-Some.ensures.lookup in
    let there : slice_get q.functions c.args.call.now.function ≡ Some (csfunction_tree c.in-Some.function.now) =
    function_there c.as_slice.result.now c.args.program.now.functions c.args.call.now.function c.in-Some.function.now c.as_slice.ensures looked.3.0 (looked.3.1 c.in-Some.function.now) in
    let found = rw c.new-found.ensures.items at c.in_ok-mid.ensures.gains in
    c.in_ok-prefix.ensures.gains q (cscall_tree c.args.call.now) (csfunction_tree c.in-Some.function.now) refl there (gained q (csstmt_tree c.in-Some.function.now.body) _ found)

-- ---- what alarms are gained

pub walk_sequence-returns-clause-gains : goal.walk_sequence-returns-clause-gains
walk_sequence-returns-clause-gains g t c =
    let q = csprogram_tree c.args.program.now in
    let a = csstmt_tree c.args.first.now in
    let b = csstmt_tree c.args.second.now in
    gains_both q (Sequence a b) _ _ _ (gains_into q a (Sequence a b) _ _ (first_admits q a b) c.in_ok-mid.ensures.gains) (gains_into q b (Sequence a b) _ _ (second_admits q a b) c.in_ok-after.ensures.gains)

pub walk_if-returns-clause-gains : goal.walk_if-returns-clause-gains
walk_if-returns-clause-gains g t c =
    let q = csprogram_tree c.args.program.now in
    let e = csexpr_tree c.args.condition.now in
    let a = csstmt_tree c.args.then.now in
    let b = csstmt_tree c.args.otherwise.now in
    gains_both q (If e a b) _ _ _ (gains_into q a (If e a b) _ _ (then_admits q e a b) c.in_ok-first.ensures.gains) (gains_into q b (If e a b) _ _ (else_admits q e a b) c.in_ok-second.ensures.gains)

pub walk_block-returns-clause-gains : goal.walk_block-returns-clause-gains
walk_block-returns-clause-gains g t c =
    let q = csprogram_tree c.args.program.now in
    gains_into q (csstmt_tree c.args.body.now) (Block (csstmt_tree c.args.body.now)) _ _ (block_admits q (csstmt_tree c.args.body.now)) c.in_ok-mid.ensures.gains

pub walk_block-returns-clause-grows : goal.walk_block-returns-clause-grows
walk_block-returns-clause-grows g t c =
    grows_with g.M.MemDomain.stands (csprogram_tree c.args.program.now) c.args.to _ _ _ _ c.in_ok-after.ensures.old c.in_ok-mid.ensures.grows.lists

pub walk_side-returns-in-Dead-clause-gains : goal.walk_side-returns-in-Dead-clause-gains
walk_side-returns-in-Dead-clause-gains g t c = gains_none (csprogram_tree c.args.program.now) (csstmt_tree c.args.a.now) c.args.out.now.items

pub walk_live-returns-in-None-clause-gains : goal.walk_live-returns-in-None-clause-gains
walk_live-returns-in-None-clause-gains g t c = gains_none (csprogram_tree c.args.program.now) (csstmt_tree c.args.a.now) c.args.out.now.items

pub walk_side-returns-in_ok-after-in-Live-clause-sound : goal.walk_side-returns-in_ok-after-in-Live-clause-sound
walk_side-returns-in_ok-after-in-Live-clause-sound g t c =
    side_sound g.M.MemDomain.stands (csprogram_tree c.args.program.now) c.args.to (csexpr_tree c.args.condition.now) c.args.truth (csstmt_tree c.args.a.now)
    c.args.state c.assume.new.self c.in_ok-after-in-Live.after _ _ (λ s v h i k. (c.in_ok-assume.ensures.stands s v h i k).1) c.in_ok-after-in-Live.ensures.sound

pub walk_side-returns-in-Dead-clause-sound : goal.walk_side-returns-in-Dead-clause-sound
walk_side-returns-in-Dead-clause-sound g t c =
    side_dead g.M.MemDomain.stands (csprogram_tree c.args.program.now) c.args.to (csexpr_tree c.args.condition.now) c.args.truth (csstmt_tree c.args.a.now) c.args.state None _ _
    (λ s v h i k. let z = (c.in_ok-assume.ensures.stands s v h i k).0 in let y : false ≡ true = rw c.in-Dead.is at z in absurd (cc))

pub walk_loop-returns-in-None-clause-gains : goal.walk_loop-returns-in-None-clause-gains
walk_loop-returns-in-None-clause-gains g t c =
    gains_both (csprogram_tree c.args.program.now) (csstmt_tree c.args.body.now) _ _ _ c.loop-turns.invariant.gains c.in_ok-walk.ensures.gains

pub walk_loop-returns-clause-gains : goal.walk_loop-returns-clause-gains
walk_loop-returns-clause-gains g t c =
    gains_both (csprogram_tree c.args.program.now) (csstmt_tree c.args.body.now) _ _ _ c.loop-turns.invariant.gains c.in_ok-walk_rest.ensures.gains

pub walk-returns-in_ok-walk_loop-in-Loop-clause-gains : goal.walk-returns-in_ok-walk_loop-in-Loop-clause-gains
walk-returns-in_ok-walk_loop-in-Loop-clause-gains g t c =
    let x = rw c.deref-in-Loop.ensures at c.in_ok-walk_loop-in-Loop.ensures.gains in
    rw (c.in-Loop.is, csstmt_loop c.in-Loop.pos c.in-Loop.body) (gains_into (csprogram_tree c.args.program.now) (csstmt_tree c.in-Loop.body.value) (Loop c.in-Loop.pos (csstmt_tree c.in-Loop.body.value)) _ _
    (loop_admits (csprogram_tree c.args.program.now) c.in-Loop.pos (csstmt_tree c.in-Loop.body.value)) x)

-- ---- scopes and switches

pub walk_scope-returns-clause-is_for : goal.walk_scope-returns-clause-is_for
walk_scope-returns-clause-is_for g t c = c.in_ok-after.ensures.is_for (csprogram_tree c.args.program.now) c.in_ok-pass.ensures.is_for.0

pub walk_scope-returns-clause-kept_for : goal.walk_scope-returns-clause-kept_for
walk_scope-returns-clause-kept_for g t c =
    c.in_ok-leave_scope.ensures.kept_for (csprogram_tree c.args.program.now) c.in_ok-pass.ensures.is_for.1 c.requires.kept_for

pub walk_scope-returns-clause-sound : goal.walk_scope-returns-clause-sound
walk_scope-returns-clause-sound g t c =
    let q = csprogram_tree c.args.program.now in
    let all = csstmts_tree c.args.items.now in
    let pass = rw (c.as_slice.ensures, c.new-heads.ensures.items) at c.in_ok-pass.ensures.sound in
    let enters = rw c.as_slice-names.ensures at c.in_ok-enter.ensures.stands in
    let behind = rw c.as_slice-names.ensures at c.in_ok-after.ensures.after in
    let left = rw c.as_slice-names.ensures at c.in_ok-leave_scope.ensures.left in
    scope_typed g.M.MemDomain.stands q c.args.to c.actions_keep_states_typed.ensures.enter c.actions_keep_states_typed.ensures.leave c.args.objects.now all []
    c.args.state c.enter.new.self c.in_ok-pass.pass.after c.in_ok-after.after _ _ _ _ c.requires.walkable.0.numbers.2 (λ s i h. enters q s c.requires.is_for i h) pass (c.in_ok-add_alarms.ensures.new q) behind left

pub walk_scope-returns-clause-grows : goal.walk_scope-returns-clause-grows
walk_scope-returns-clause-grows g t c =
    grows_with g.M.MemDomain.stands (csprogram_tree c.args.program.now) c.args.to _ _ _ _ c.in_ok-leave_scope.ensures.old (c.in_ok-add_alarms.ensures.old (csprogram_tree c.args.program.now))

pub walk_scope-returns-clause-gains : goal.walk_scope-returns-clause-gains
walk_scope-returns-clause-gains g t c =
    let q = csprogram_tree c.args.program.now in
    let all = csstmts_tree c.args.items.now in
    let found = rw c.as_slice.ensures at c.in_ok-pass.ensures.gains in
    c.in_ok-add_alarms.ensures.gains q (Scope c.args.objects.now all) (all_into q (Scope [] all) (Scope c.args.objects.now all) _ (scope_admits q c.args.objects.now all) (gained q (Scope [] all) _ found))

pub walk_switch-returns-clause-gains : goal.walk_switch-returns-clause-gains
walk_switch-returns-clause-gains g t c =
    let q = csprogram_tree c.args.program.now in
    let all = csstmts_tree c.args.items.now in
    let e = csexpr_tree c.args.value.now in
    let found = rw c.as_slice-3.ensures at c.in_ok-pass.ensures.gains in
    c.in_ok-add_alarms.ensures.gains q (Switch e c.args.objects.now all) (all_into q (Scope [] all) (Switch e c.args.objects.now all) _ (switch_admits q e c.args.objects.now all) (gained q (Scope [] all) _ found))

pub walk_switch-returns-clause-grows : goal.walk_switch-returns-clause-grows
walk_switch-returns-clause-grows g t c =
    grows_with g.M.MemDomain.stands (csprogram_tree c.args.program.now) c.args.to _ _ _ _ c.in_ok-leave_scope.ensures.old (c.in_ok-add_alarms.ensures.old (csprogram_tree c.args.program.now))

-- ---- passes

pub one_pass-loop-item-init : goal.one_pass-loop-item-init
one_pass-loop-item-init g t c =
    let q = csprogram_tree c.args.program.now in
    record {
      walkable = c.requires.walkable;
      size = omega arith;
      after_for = c.requires.flow_for;
      kept_for = rw c.new-kept.ensures.items tt;
      passes = rw (c.new-gone.ensures.items, c.new-kept.ensures.items, c.new-out.ensures.items)
          (passes_begin (HasTyped g.M.MemDomain.stands q) q c.args.to (csstmts_from c.args.items.now) c.args.heads.now c.args.flow [] [] []);
      gains = rw c.new-out.ensures.items (gains_none q (Scope [] (csstmts_from c.args.items.now)) []);
      among = λ x h. h;
      behind = behind_start (beyond c.args.set.now.unroll) q (csstmts_from c.args.items.now);
      goes = rw (c.new-kept.ensures.items, c.new-out.ensures.items)
          (goes_begin (HasTyped g.M.MemDomain.sharp q) (beyond c.args.set.now.unroll) q c.args.to (csstmts_from c.args.items.now) c.args.heads.now c.args.flow [] [] refl refl);
    }

pub one_pass-walk_live-requires : goal.one_pass-walk_live-requires
one_pass-walk_live-requires g t c =
    let q = csprogram_tree c.args.program.now in
    let own = rw (c.in-Some.ensures.cases.0, csstmts_cons c.in-Some.item.now c.in-Some.more.now) at c.loop-item.invariant.walkable in
    let size = ap csstmts_size (ap csstmts_from c.in-Some.ensures.cases.0 ∙ csstmts_cons c.in-Some.item.now c.in-Some.more.now) in
    let within = c.loop-item.invariant.size in
    λ κs le. (omega (arith, size, within, c.decreases), (le.0, (le.1.0, (le.1.1, (c.requires.ramp, (own.0, (c.requires.target, (c.in_ok-begun.ensures.is_for q c.loop-item.invariant.after_for c.requires.heads_for c.loop-item.invariant.kept_for, c.in_ok-begun.ensures.kept_for q c.loop-item.invariant.kept_for))))))))

pub one_pass-loop-item-preserved : goal.one_pass-loop-item-preserved
one_pass-loop-item-preserved g t c =
    let q = csprogram_tree c.args.program.now in
    let all = csstmts_from c.args.items.now in
    let item = csstmt_tree c.in-Some.item.now in
    let more1 = csstmts_from c.in-Some.more.now in
    let own = rw (c.in-Some.ensures.cases.0, csstmts_cons c.in-Some.item.now c.in-Some.more.now) at c.loop-item.invariant.walkable in
    let size = ap csstmts_size (ap csstmts_from c.in-Some.ensures.cases.0 ∙ csstmts_cons c.in-Some.item.now c.in-Some.more.now) in
    let within = c.loop-item.invariant.size in
    let passes = rw (c.in-Some.ensures.cases.0, csstmts_cons c.in-Some.item.now c.in-Some.more.now) at c.loop-item.invariant.passes in
    let among = rw (c.in-Some.ensures.cases.0, csstmts_cons c.in-Some.item.now c.in-Some.more.now) at c.loop-item.invariant.among in
    let behind = rw (c.in-Some.ensures.cases.0, csstmts_cons c.in-Some.item.now c.in-Some.more.now) at c.loop-item.invariant.behind in
    let goes = rw (c.in-Some.ensures.cases.0, csstmts_cons c.in-Some.item.now c.in-Some.more.now) at c.loop-item.invariant.goes in
    record {
      walkable = own.2;
      size = omega (arith, size, within);
      after_for = c.in_ok-after.ensures.is_for;
      kept_for = c.in_ok-after.ensures.kept_for;
      passes = passes_typed g.M.MemDomain.stands q c.args.to all item more1 c.args.heads.now c.args.flow c.loop-item.after c.in_ok-begun.begun c.in_ok-after.after
          [] _ _ _ _ _ _ _ passes own.1 c.in_ok-begun.ensures.flow c.in_ok-begun.ensures.heads c.in_ok-begun.ensures.came c.in_ok-begun.ensures.gone c.in_ok-begun.ensures.stays c.in_ok-after.ensures.sound c.in_ok-after.ensures.grows;
      gains = gains_both q (Scope [] all) [] _ _ c.loop-item.invariant.gains
          (gains_into q item (Scope [] all) _ _ (λ x d. among x (item_admits q item more1 x d)) c.in_ok-after.ensures.gains);
      among = λ x d. among x (rest_admits q item more1 x d);
      behind = behind_more (beyond c.args.set.now.unroll) q all item more1 behind;
      goes = goes_more_typed g.M.MemDomain.sharp (beyond c.args.set.now.unroll) q c.args.to all c.args.heads.now item more1 behind c.args.flow c.loop-item.after
          c.in_ok-begun.begun c.in_ok-after.after _ _ _ _ _ c.in_ok-begun.ensures.flows c.in_ok-begun.ensures.enters c.in_ok-begun.ensures.jumps c.in_ok-begun.ensures.passes c.in_ok-after.ensures.exact c.in_ok-after.ensures.stays goes;
    }

pub one_pass-returns-clause-sound : goal.one_pass-returns-clause-sound
one_pass-returns-clause-sound g t c =
    let q = csprogram_tree c.args.program.now in
    let passes = rw (nil_of c.loop-item.rest.now c.in_default.ensures.cases, csstmts_nil) at c.loop-item.invariant.passes in (
      c.loop-item.gone.items,
      passes_end (HasTyped g.M.MemDomain.stands q) q c.args.to (csstmts_from c.args.items.now) c.args.heads.now c.args.flow c.loop-item.after [] _ _ _ passes,
    )

-- ---- states that leave

pub walk-returns-in_ok-keep-in-Exit-clause-sound : goal.walk-returns-in_ok-keep-in-Exit-clause-sound
walk-returns-in_ok-keep-in-Exit-clause-sound g t c =
    rw (c.in-Exit.is, csstmt_exit c.in-Exit.level)
    (record {
      by = λ over n s h. keeps_with g.M.MemDomain.stands (csprogram_tree c.args.program.now) _ (ways.Exit c.in-Exit.level) s
          (c.in_ok-keep-in-Exit.ensures.new s h.0) h.1;
    })

pub walk-returns-in_ok-keep-in-Exit-clause-grows : goal.walk-returns-in_ok-keep-in-Exit-clause-grows
walk-returns-in_ok-keep-in-Exit-clause-grows g t c =
    grows_with g.M.MemDomain.stands (csprogram_tree c.args.program.now) c.args.to _ _ _ _ c.in_ok-keep-in-Exit.ensures.old (λ d at k x m h. h)

pub walk-returns-in_ok-keep-in-Exit-clause-gains : goal.walk-returns-in_ok-keep-in-Exit-clause-gains
walk-returns-in_ok-keep-in-Exit-clause-gains g t c = gains_none (csprogram_tree c.args.program.now) (csstmt_tree c.args.a.now) c.args.out.now.items

pub walk-returns-in_ok-keep-in-Goto-clause-sound : goal.walk-returns-in_ok-keep-in-Goto-clause-sound
walk-returns-in_ok-keep-in-Goto-clause-sound g t c =
    rw (c.in-Goto.is, csstmt_goto c.in-Goto.label)
    (record {
      by = λ over n s h. keeps_with g.M.MemDomain.stands (csprogram_tree c.args.program.now) _ (ways.Goto c.in-Goto.label) s
          (c.in_ok-keep-in-Goto.ensures.new s h.0) h.1;
    })

pub walk-returns-in_ok-keep-in-Goto-clause-grows : goal.walk-returns-in_ok-keep-in-Goto-clause-grows
walk-returns-in_ok-keep-in-Goto-clause-grows g t c =
    grows_with g.M.MemDomain.stands (csprogram_tree c.args.program.now) c.args.to _ _ _ _ c.in_ok-keep-in-Goto.ensures.old (λ d at k x m h. h)

pub walk-returns-in_ok-keep-in-Goto-clause-gains : goal.walk-returns-in_ok-keep-in-Goto-clause-gains
walk-returns-in_ok-keep-in-Goto-clause-gains g t c = gains_none (csprogram_tree c.args.program.now) (csstmt_tree c.args.a.now) c.args.out.now.items

pub walk-returns-in_ok-after-in-Set-clause-gains : goal.walk-returns-in_ok-after-in-Set-clause-gains
walk-returns-in_ok-after-in-Set-clause-gains g t c = gains_none (csprogram_tree c.args.program.now) (csstmt_tree c.args.a.now) c.args.out.now.items

pub walk-returns-in_ok-after-in-Load-clause-gains : goal.walk-returns-in_ok-after-in-Load-clause-gains
walk-returns-in_ok-after-in-Load-clause-gains g t c = gains_none (csprogram_tree c.args.program.now) (csstmt_tree c.args.a.now) c.args.out.now.items

pub walk-returns-in_ok-after-in-Store-clause-gains : goal.walk-returns-in_ok-after-in-Store-clause-gains
walk-returns-in_ok-after-in-Store-clause-gains g t c = gains_none (csprogram_tree c.args.program.now) (csstmt_tree c.args.a.now) c.args.out.now.items

pub walk-returns-in_ok-after-in-CopyBytes-clause-gains : goal.walk-returns-in_ok-after-in-CopyBytes-clause-gains
walk-returns-in_ok-after-in-CopyBytes-clause-gains g t c = gains_none (csprogram_tree c.args.program.now) (csstmt_tree c.args.a.now) c.args.out.now.items

pub walk-returns-in_ok-after-in-Undefine-clause-gains : goal.walk-returns-in_ok-after-in-Undefine-clause-gains
walk-returns-in_ok-after-in-Undefine-clause-gains g t c = gains_none (csprogram_tree c.args.program.now) (csstmt_tree c.args.a.now) c.args.out.now.items

pub walk-returns-in_ok-after-in-Input-clause-gains : goal.walk-returns-in_ok-after-in-Input-clause-gains
walk-returns-in_ok-after-in-Input-clause-gains g t c = gains_none (csprogram_tree c.args.program.now) (csstmt_tree c.args.a.now) c.args.out.now.items

pub walk-returns-in_ok-after-in-Assume-clause-gains : goal.walk-returns-in_ok-after-in-Assume-clause-gains
walk-returns-in_ok-after-in-Assume-clause-gains g t c = gains_none (csprogram_tree c.args.program.now) (csstmt_tree c.args.a.now) c.args.out.now.items

pub walk-returns-in_ok-walk_return-in-Return-clause-gains : goal.walk-returns-in_ok-walk_return-in-Return-clause-gains
walk-returns-in_ok-walk_return-in-Return-clause-gains g t c = gains_none (csprogram_tree c.args.program.now) (csstmt_tree c.args.a.now) c.args.out.now.items

pub walk-returns-in-Label-clause-gains : goal.walk-returns-in-Label-clause-gains
walk-returns-in-Label-clause-gains g t c = gains_none (csprogram_tree c.args.program.now) (csstmt_tree c.args.a.now) c.args.out.now.items

pub walk-returns-in-Nothing-clause-gains : goal.walk-returns-in-Nothing-clause-gains
walk-returns-in-Nothing-clause-gains g t c = gains_none (csprogram_tree c.args.program.now) (csstmt_tree c.args.a.now) c.args.out.now.items

pub walk-returns-in_ok-walk_return-in-Return-clause-grows : goal.walk-returns-in_ok-walk_return-in-Return-clause-grows
walk-returns-in_ok-walk_return-in-Return-clause-grows g t c =
    grows_with g.M.MemDomain.stands (csprogram_tree c.args.program.now) c.args.to _ _ _ _ c.in_ok-walk_return-in-Return.ensures.keeps (λ d at k x m h. h)

pub walk_loop-loop-turns-init : goal.walk_loop-loop-turns-init
walk_loop-loop-turns-init g t c =
    let q = csprogram_tree c.args.program.now in
    record {
      is_for = c.requires.is_for;
      kept_for = c.requires.kept_for;
      unrolled = λ at. unrolled_none (HasTyped g.M.MemDomain.stands q) q c.args.to at (csstmt_tree c.args.body.now) c.args.state c.args.kept.now.items c.args.out.now.items;
      grows = grows_none (HasTyped g.M.MemDomain.stands q) q c.args.to c.args.kept.now.items c.args.out.now.items;
      gains = gains_none q (csstmt_tree c.args.body.now) c.args.out.now.items;
      rolled = λ at. rolled_none (HasTyped g.M.MemDomain.sharp q) (beyond c.args.set.now.unroll) q c.args.to at (csstmt_tree c.args.body.now) c.args.state c.args.kept.now.items c.args.out.now.items;
      within = omega arith;
    }

-- ---- heads

pub settle_heads-returns-in-Same-clause-is_for : goal.settle_heads-returns-in-Same-clause-is_for
settle_heads-returns-in-Same-clause-is_for g t c = λ p e.
    let q = csprogram_tree c.args.program.now in
    subst (λ r. SomeFor g.M.MemDomain.is_for q r.after × AllFor g.M.MemDomain.is_for q r.kept.items) (closed_is _ p e) (c.in_ok-pass.ensures.is_for.0, c.in_ok-next.ensures.kept_for q c.in_ok-pass.ensures.is_for.1)

pub settle_heads-returns-in-Same-clause-sound : goal.settle_heads-returns-in-Same-clause-sound
settle_heads-returns-in-Same-clause-sound g t c = λ p e.
    let q = csprogram_tree c.args.program.now in
    let all = csstmts_from c.args.items.now in
    let pass = rw (c.as_slice.ensures.value, c.in_ok-start.ensures) at c.in_ok-pass.ensures.sound in
    subst (λ r. CoveredAll (HasTyped g.M.MemDomain.stands q) q c.args.to all (Begins (HasTyped g.M.MemDomain.stands q) all c.args.heads.items c.args.flow.now) r.after r.kept.items r.out.items) (closed_is _ p e)
    (closed_typed g.M.MemDomain.stands q c.args.to all c.args.heads.items c.loop-heads.heads.items c.args.flow.now c.in_ok-pass.pass.after pass.0 _ _ _
    c.loop-heads.invariant.labels c.loop-heads.invariant.among c.loop-heads.invariant.old pass.1 (c.in_ok-next.ensures.closed c.in-Same.is) c.in_ok-next.ensures.left)

pub settle_heads-returns-in-New-clause-more : goal.settle_heads-returns-in-New-clause-more
settle_heads-returns-in-New-clause-more g t c = λ h e.
    let q = csprogram_tree c.args.program.now in
    let less = c.in_ok-next.ensures.new c.in-New.is in
    let within = c.loop-heads.invariant.fewer in
    subst (λ r. IsMore g.M.MemDomain.is_for g.M.MemDomain.stands q (csstmts_from c.args.items.now) c.args.heads.items r.items) (more_is _ h e)
    (record {
      is_for = c.in_ok-next.ensures.heads_for q c.loop-heads.invariant.heads_for c.in_ok-pass.ensures.is_for.1;
      labels = λ l d. c.in_ok-next.ensures.there l (c.loop-heads.invariant.labels l d);
      among = λ l d. c.loop-heads.invariant.among l (c.in_ok-next.ensures.only l d);
      fewer = omega (arith, less, within);
      old = λ mark s k. c.in_ok-next.ensures.old mark s (c.loop-heads.invariant.old mark s k);
    })

pub settle_heads-loop-heads-preserved-in-Wider : goal.settle_heads-loop-heads-preserved-in-Wider
settle_heads-loop-heads-preserved-in-Wider g t c =
    let q = csprogram_tree c.args.program.now in
    let less = c.in_ok-next.ensures.fewer in
    let within = c.loop-heads.invariant.fewer in
    let goes = rw (c.as_slice.ensures.value, c.in_ok-start.ensures) at c.in_ok-pass.ensures.goes in
    record {
      heads_for = c.in_ok-next.ensures.heads_for q c.loop-heads.invariant.heads_for c.in_ok-pass.ensures.is_for.1;
      labels = λ l d. c.in_ok-next.ensures.there l (c.loop-heads.invariant.labels l d);
      among = λ l d. c.loop-heads.invariant.among l (c.in_ok-next.ensures.only l d);
      old = λ mark s k. c.in_ok-next.ensures.old mark s (c.loop-heads.invariant.old mark s k);
      fewer = omega (arith, less, within);
      begins = begins_both (HasTyped g.M.MemDomain.sharp q) (beyond c.args.set.now.unroll) q c.args.to (csstmts_from c.args.items.now) c.args.heads.items c.loop-heads.heads.items _ c.args.flow.now
          c.loop-heads.invariant.begins (begins_wider (HasTyped g.M.MemDomain.sharp q) (beyond c.args.set.now.unroll) q c.args.to (csstmts_from c.args.items.now) c.loop-heads.heads.items _ c.args.flow.now c.in_ok-pass.pass.after
          c.in_ok-pass.pass.kept.items c.in_ok-pass.pass.out.items (λ e. not_wider (c.in_ok-next.ensures.none e).0 c.in-Wider.is) (λ x e f. not_wider (c.in_ok-next.ensures.one x e (λ l j. f l (c.loop-heads.invariant.among l j))).0 c.in-Wider.is) goes);
    }

pub settle_heads-loop-heads-preserved : goal.settle_heads-loop-heads-preserved
settle_heads-loop-heads-preserved g t c =
    let q = csprogram_tree c.args.program.now in
    let less = c.in_ok-next.ensures.fewer in
    let within = c.loop-heads.invariant.fewer in
    let goes = rw (c.as_slice.ensures.value, c.in_ok-start.ensures) at c.in_ok-pass.ensures.goes in
    record {
      heads_for = c.in_ok-next.ensures.heads_for q c.loop-heads.invariant.heads_for c.in_ok-pass.ensures.is_for.1;
      labels = λ l d. c.in_ok-next.ensures.there l (c.loop-heads.invariant.labels l d);
      among = λ l d. c.loop-heads.invariant.among l (c.in_ok-next.ensures.only l d);
      old = λ mark s k. c.in_ok-next.ensures.old mark s (c.loop-heads.invariant.old mark s k);
      fewer = omega (arith, less, within);
      begins = begins_both (HasTyped g.M.MemDomain.sharp q) (beyond c.args.set.now.unroll) q c.args.to (csstmts_from c.args.items.now) c.args.heads.items c.loop-heads.heads.items _ c.args.flow.now
          c.loop-heads.invariant.begins (begins_wider (HasTyped g.M.MemDomain.sharp q) (beyond c.args.set.now.unroll) q c.args.to (csstmts_from c.args.items.now) c.loop-heads.heads.items _ c.args.flow.now c.in_ok-pass.pass.after
          c.in_ok-pass.pass.kept.items c.in_ok-pass.pass.out.items (λ e. not_wider (c.in_ok-next.ensures.none e).0 (search rules)) (λ x e f. not_wider (c.in_ok-next.ensures.one x e (λ l j. f l (c.loop-heads.invariant.among l j))).0 (search rules)) goes);
    }

pub walk_all-returns-then-not-has_label-clause-sound : goal.walk_all-returns-then-not-has_label-clause-sound
walk_all-returns-then-not-has_label-clause-sound g t c =
    let q = csprogram_tree c.args.program.now in
    let pass = rw c.as_slice.ensures.value at c.in_ok-pass.ensures.sound in
    let none : c.has_label.result ≡ false = search rules in
    plain_pass (HasTyped g.M.MemDomain.stands q) q c.args.to (csstmts_from c.args.items.now) c.args.heads.items c.args.flow c.in_ok-pass.pass.after pass.0 _ _ (c.has_label.ensures none) pass.1

pub walk_all-loop-flow-init : goal.walk_all-loop-flow-init
walk_all-loop-flow-init g t c = record {
  heads_for = c.in_ok-add_labels.ensures.is_for (csprogram_tree c.args.program.now) c.requires.heads_for;
  labels = c.in_ok-add_labels.ensures.labels;
  among = λ l h. ⊎_elim (λ a. absurd (c.requires.no_labels l a)) (λ e. e) (c.in_ok-add_labels.ensures.only l h);
  old = c.in_ok-add_labels.ensures.old;
  same_flow = refl;
  begins =
      let q = csprogram_tree c.args.program.now in
      begins_labels (HasTyped g.M.MemDomain.sharp q) (beyond c.args.set.now.unroll) q c.args.to (csstmts_from c.args.items.now) c.args.heads.items c.add_labels.new.heads.items c.args.flow c.in_ok-add_labels.ensures.bare
      (λ mark s h. let y = head_untyped g.M.MemDomain.sharp q c.args.heads.items mark s h in
      head_typed g.M.MemDomain.sharp q c.add_labels.new.heads.items mark s (c.in_ok-add_labels.ensures.alone mark s y.0) y.1);
}

pub walk_all-settle_heads-requires : goal.walk_all-settle_heads-requires
walk_all-settle_heads-requires g t c = λ κs le. (omega (arith, c.decreases), (le.0, (le.1.0, (le.1.1, (c.requires.ramp, (c.requires.walkable, (c.requires.target, (rw c.loop-flow.invariant.same_flow c.requires.flow_for, (c.loop-flow.invariant.heads_for, (c.loop-flow.invariant.labels, c.loop-flow.invariant.among))))))))))

pub walk_all-returns-in-Closed-clause-sound : goal.walk_all-returns-in-Closed-clause-sound
walk_all-returns-in-Closed-clause-sound g t c = λ over n from s h.
    let q = csprogram_tree c.args.program.now in
    let all = csstmts_from c.args.items.now in
    let sound = rw c.loop-flow.invariant.same_flow at c.in_ok-pass-2.ensures.sound in
    sound c.in-Closed.pass c.in-Closed.is over n from s (begins_more (HasTyped g.M.MemDomain.stands q) all c.args.heads.items c.loop-flow.heads.items c.args.flow
    (head_on g.M.MemDomain.stands q c.args.heads.items c.loop-flow.heads.items c.loop-flow.invariant.old) from s h)

pub walk_all-loop-flow-preserved : goal.walk_all-loop-flow-preserved
walk_all-loop-flow-preserved g t c =
    let q = csprogram_tree c.args.program.now in
    let more1 = c.in_ok-pass-2.ensures.more c.in-More.more c.in-More.is in
    let begins = rw c.loop-flow.invariant.same_flow at c.in_ok-pass-2.ensures.begins in
    record {
      heads_for = more1.is_for;
      labels = more1.labels;
      among = more1.among;
      old = λ mark s k. more1.old mark s (c.loop-flow.invariant.old mark s k);
      same_flow = c.loop-flow.invariant.same_flow;
      begins = begins_both (HasTyped g.M.MemDomain.sharp q) (beyond c.args.set.now.unroll) q c.args.to (csstmts_from c.args.items.now) c.args.heads.items c.loop-flow.heads.items _ c.args.flow
          c.loop-flow.invariant.begins (begins c.in-More.more c.in-More.is);
    }

pub walk_switch-merge_either-requires : goal.walk_switch-merge_either-requires
walk_switch-merge_either-requires g t c =
    let q = csprogram_tree c.args.program.now in
    record { one = (q, c.in_ok-ended.ensures.is_for q c.in_ok-pass.ensures.is_for.0, c.in_ok-heads.ensures.left_for) }

pub walk_switch-returns-clause-is_for : goal.walk_switch-returns-clause-is_for
walk_switch-returns-clause-is_for g t c =
    let q = csprogram_tree c.args.program.now in
    c.in_ok-after.ensures.is_for q (c.in_ok-ended.ensures.is_for q c.in_ok-pass.ensures.is_for.0) c.in_ok-heads.ensures.left_for

pub walk_switch-returns-clause-kept_for : goal.walk_switch-returns-clause-kept_for
walk_switch-returns-clause-kept_for g t c =
    c.in_ok-leave_scope.ensures.kept_for (csprogram_tree c.args.program.now) c.in_ok-pass.ensures.is_for.1 c.requires.kept_for

pub walk_switch-returns-clause-sound : goal.walk_switch-returns-clause-sound
walk_switch-returns-clause-sound g t c =
    let q = csprogram_tree c.args.program.now in
    let all = csstmts_tree c.args.items.now in
    let parted = rw (c.as_slice.ensures, c.as_slice-names.ensures) at c.in_ok-cases.ensures.parted in
    let entered = rw (c.as_slice-2.ensures, c.as_slice-names.ensures) at c.in_ok-heads.ensures.entered in
    let past = rw c.as_slice-2.ensures at c.in_ok-heads.ensures.behind in
    let pass = rw c.as_slice-3.ensures at c.in_ok-pass.ensures.sound in
    let behind = rw c.as_slice-names.ensures at c.in_ok-ended.ensures.after in
    let left = rw c.as_slice-names.ensures at c.in_ok-leave_scope.ensures.left in
    switch_typed g.M.MemDomain.stands q c.args.to c.actions_keep_states_typed.ensures.enter c.actions_keep_states_typed.ensures.leave c.values_are_typed.ensures
    (csexpr_tree c.args.value.now) c.args.objects.now all c.args.state _ _ _ _ _ c.in_ok-ended.ended c.in_ok-after.after _ _ _ _ c.requires.walkable.1
    c.requires.walkable.0.numbers.2 parted c.in_ok-heads.ensures.old entered past pass (c.in_ok-add_alarms.ensures.new q) behind left c.in_ok-after.ensures.first c.in_ok-after.ensures.second

-- ---- from sets of one state alone

pub walk-returns-in_ok-walk_loop-in-Loop-clause-exact : goal.walk-returns-in_ok-walk_loop-in-Loop-clause-exact
walk-returns-in_ok-walk_loop-in-Loop-clause-exact g t c =
    let q = csprogram_tree c.args.program.now in
    let x = rw c.deref-in-Loop.ensures at c.in_ok-walk_loop-in-Loop.ensures.exact in
    rw (c.in-Loop.is, csstmt_loop c.in-Loop.pos c.in-Loop.body) (whole_exact (HasTyped g.M.MemDomain.sharp q) (beyond c.args.set.now.unroll) q c.args.to c.in-Loop.pos (csstmt_tree c.in-Loop.body.value) c.args.state _ _ _ _ (x c.in-Loop.pos))

pub walk-returns-in_ok-keep-in-Exit-clause-exact : goal.walk-returns-in_ok-keep-in-Exit-clause-exact
walk-returns-in_ok-keep-in-Exit-clause-exact g t c =
    let q = csprogram_tree c.args.program.now in
    rw (c.in-Exit.is, csstmt_exit c.in-Exit.level) (leaves_exact (HasTyped g.M.MemDomain.sharp q) q c.args.to (beyond c.args.set.now.unroll) (Exit c.in-Exit.level) (ByExit c.in-Exit.level) c.args.state _ _ _ (λ n s. refl)
    (λ s h i. (record { way = ways.Exit c.in-Exit.level; state = c.args.state }, c.in_ok-keep-in-Exit.ensures.alone i, refl, h)))

pub walk-returns-in_ok-keep-in-Goto-clause-exact : goal.walk-returns-in_ok-keep-in-Goto-clause-exact
walk-returns-in_ok-keep-in-Goto-clause-exact g t c =
    let q = csprogram_tree c.args.program.now in
    rw (c.in-Goto.is, csstmt_goto c.in-Goto.label) (leaves_exact (HasTyped g.M.MemDomain.sharp q) q c.args.to (beyond c.args.set.now.unroll) (Goto c.in-Goto.label) (ByGoto c.in-Goto.label) c.args.state _ _ _ (λ n s. refl)
    (λ s h i. (record { way = ways.Goto c.in-Goto.label; state = c.args.state }, c.in_ok-keep-in-Goto.ensures.alone i, refl, h)))

pub walk_sequence-returns-clause-exact : goal.walk_sequence-returns-clause-exact
walk_sequence-returns-clause-exact g t c =
    let q = csprogram_tree c.args.program.now in
    sequence_exact (HasTyped g.M.MemDomain.sharp q) q c.args.to (beyond c.args.set.now.unroll) (csstmt_tree c.args.first.now) (csstmt_tree c.args.second.now) (Some c.args.state) c.in_ok-mid.mid c.in_ok-after.after _ _ _ _ _ _
    c.in_ok-mid.ensures.exact c.in_ok-after.ensures.exact c.in_ok-after.ensures.stays

pub walk_if-returns-clause-exact : goal.walk_if-returns-clause-exact
walk_if-returns-clause-exact g t c =
    let q = csprogram_tree c.args.program.now in
    if_exact (HasTyped g.M.MemDomain.sharp q) q c.args.to (beyond c.args.set.now.unroll) (csexpr_tree c.args.condition.now) (csstmt_tree c.args.then.now) (csstmt_tree c.args.otherwise.now) c.args.state c.in_ok-other.other c.in_ok-first.first
    c.in_ok-second.second c.in_ok-after.after _ _ _ _ _ _ c.in_ok-other.ensures c.in_ok-first.ensures.exact c.in_ok-second.ensures.exact c.in_ok-after.ensures.first_alone c.in_ok-after.ensures.second_alone

pub walk_block-returns-clause-exact : goal.walk_block-returns-clause-exact
walk_block-returns-clause-exact g t c =
    let q = csprogram_tree c.args.program.now in
    block_exact (HasTyped g.M.MemDomain.sharp q) q c.args.to (beyond c.args.set.now.unroll) (csstmt_tree c.args.body.now) (Some c.args.state) c.in_ok-mid.mid c.in_ok-after.after _ _ _ _ _ _ c.new-inner.ensures.items
    c.in_ok-mid.ensures.exact c.in_ok-after.ensures.none c.in_ok-after.ensures.one

pub walk_live-returns-in-None-clause-exact : goal.walk_live-returns-in-None-clause-exact
walk_live-returns-in-None-clause-exact g t c =
    let q = csprogram_tree c.args.program.now in
    rw c.in-None.is (dead_exact (HasTyped g.M.MemDomain.sharp q) q c.args.to (beyond c.args.set.now.unroll) (csstmt_tree c.args.a.now) None _ _ _ _)

pub walk_live-returns-in-None-clause-stays : goal.walk_live-returns-in-None-clause-stays
walk_live-returns-in-None-clause-stays g t c = rw c.in-None.is (stays_none _ _)

pub walk_live-returns-in_ok-after-in-Some-clause-stays : goal.walk_live-returns-in_ok-after-in-Some-clause-stays
walk_live-returns-in_ok-after-in-Some-clause-stays g t c = rw c.in-Some.is (stays_some c.in-Some.state _ _ _ _ _)

pub walk_side-returns-in_ok-after-in-Live-clause-exact : goal.walk_side-returns-in_ok-after-in-Live-clause-exact
walk_side-returns-in_ok-after-in-Live-clause-exact g t c =
    let q = csprogram_tree c.args.program.now in
    side_walked_typed g.M.MemDomain.sharp (beyond c.args.set.now.unroll) q c.args.to (csexpr_tree c.args.condition.now) c.args.truth (csstmt_tree c.args.a.now) c.args.state c.assume.new.self c.in_ok-after-in-Live.after _ _ _ _
    (λ s v h i k. c.in_ok-assume.ensures.sharp s v h i k) (λ s v h i k. let z = c.in_ok-assume.ensures.dead s v h i k in let y : true ≡ false = rw c.in-Live.is at z in absurd (cc)) c.in_ok-after-in-Live.ensures.exact

pub walk_side-returns-in-Dead-clause-exact : goal.walk_side-returns-in-Dead-clause-exact
walk_side-returns-in-Dead-clause-exact g t c =
    let q = csprogram_tree c.args.program.now in
    side_dead_typed g.M.MemDomain.sharp (beyond c.args.set.now.unroll) q c.args.to (csexpr_tree c.args.condition.now) c.args.truth (csstmt_tree c.args.a.now) c.args.state _ _
    (λ s v h i k. let z = (c.in_ok-assume.ensures.stands s v (g.met.M.MemDomain.sharp_stands c.args.state s h) i k).0 in
    let y : false ≡ true = rw c.in-Dead.is at z in absurd (cc))

pub walk_loop-returns-in-None-clause-exact : goal.walk_loop-returns-in-None-clause-exact
walk_loop-returns-in-None-clause-exact g t c = λ at.
    let q = csprogram_tree c.args.program.now in
    let x = c.in_ok-walk.ensures.exact in
    rolled_dead (HasTyped g.M.MemDomain.sharp q) (beyond c.args.set.now.unroll) q c.args.to at (csstmt_tree c.args.body.now) c.args.state c.loop-turns.turns c.loop-turns.head _ _ _ _ _ _ (c.loop-turns.invariant.rolled at) (rw c.in-None.is at x)

pub walk_loop-returns-clause-exact : goal.walk_loop-returns-clause-exact
walk_loop-returns-clause-exact g t c = λ at.
    let q = csprogram_tree c.args.program.now in
    let same : c.loop-turns.turns ≡ c.args.set.now.unroll = omega (arith, c.loop-turns-test.false, c.loop-turns.invariant.within) in
    rolled_over (HasTyped g.M.MemDomain.sharp q) (beyond c.args.set.now.unroll) q c.args.to at (csstmt_tree c.args.body.now) c.args.state c.loop-turns.turns c.args.set.now.unroll c.loop-turns.head _ _ _ _ _ _ same
    (c.loop-turns.invariant.rolled at) (c.in_ok-walk_rest.ensures.exact at)

pub walk_rest-returns-clause-exact : goal.walk_rest-returns-clause-exact
walk_rest-returns-clause-exact g t c = λ at.
    let q = csprogram_tree c.args.program.now in
    rest_exact (HasTyped g.M.MemDomain.sharp q) (beyond c.args.set.now.unroll) q c.args.to at (csstmt_tree c.args.body.now) c.args.set.now.unroll c.args.entry c.in_ok-pass.pass.after c.in_ok-pass.pass.kept.items _ _ c.in_ok-pass.pass.out.items _ _
    (beyond_next c.args.set.now.unroll) c.in_ok-pass.ensures.last c.in_ok-keep_all.ensures.none c.in_ok-keep_all.ensures.one c.in_ok-add_alarms.ensures.alone

pub settle-loop-head-init : goal.settle-loop-head-init
settle-loop-head-init g t c =
    let q = csprogram_tree c.args.program.now in
    record {
      is_for = c.requires.is_for;
      entry = λ s h. h;
      rests = turns_start (HasTyped g.M.MemDomain.sharp q) (beyond c.args.set.now.unroll) q c.args.to (csstmt_tree c.args.body.now) c.args.head;
    }

pub settle-loop-head-preserved : goal.settle-loop-head-preserved
settle-loop-head-preserved g t c =
    let q = csprogram_tree c.args.program.now in
    record {
      is_for = c.in_ok-widen_by.ensures.is_for q c.loop-head.invariant.is_for;
      entry = λ s h. c.in_ok-widen_by.ensures.left s (c.loop-head.invariant.entry s h);
      rests = turns_on (HasTyped g.M.MemDomain.sharp q) (beyond c.args.set.now.unroll) q c.args.to (csstmt_tree c.args.body.now) c.args.head _ c.in_ok-pass.pass.after c.in_ok-pass.pass.kept.items c.in_ok-pass.pass.out.items
          (turns_last (HasTyped g.M.MemDomain.sharp q) (beyond c.args.set.now.unroll) q c.args.to (csstmt_tree c.args.body.now) c.args.head c.loop-head.head c.in_ok-pass.pass.after c.in_ok-pass.pass.kept.items c.in_ok-pass.pass.out.items
          c.loop-head.invariant.rests c.in_ok-pass.ensures.exact) (λ e. fell_not c.in_ok-widen_by.field-0 c.if-not-branch.false (c.in_ok-widen_by.ensures.none e));
    }

pub settle-returns-then-not-branch-clause-last : goal.settle-returns-then-not-branch-clause-last
settle-returns-then-not-branch-clause-last g t c =
    let q = csprogram_tree c.args.program.now in
    turns_last (HasTyped g.M.MemDomain.sharp q) (beyond c.args.set.now.unroll) q c.args.to (csstmt_tree c.args.body.now) c.args.head c.loop-head.head c.in_ok-pass.pass.after c.in_ok-pass.pass.kept.items c.in_ok-pass.pass.out.items
    c.loop-head.invariant.rests c.in_ok-pass.ensures.exact

pub walk_scope-returns-clause-exact : goal.walk_scope-returns-clause-exact
walk_scope-returns-clause-exact g t c =
    let q = csprogram_tree c.args.program.now in
    let all = csstmts_tree c.args.items.now in
    let pass = rw (c.as_slice.ensures, c.new-heads.ensures.items) at c.in_ok-pass.ensures.exact in
    let enters = rw c.as_slice-names.ensures at c.in_ok-enter.ensures.sharp in
    let behind = rw c.as_slice-names.ensures at c.in_ok-after.ensures.sharp in
    let left = rw c.as_slice-names.ensures at c.in_ok-leave_scope.ensures.one in
    scope_exact_typed g.M.MemDomain.sharp (beyond c.args.set.now.unroll) q c.args.to c.actions_keep_states_typed.ensures.enter c.actions_keep_states_typed.ensures.leave c.args.objects.now all c.args.state c.enter.new.self []
    c.in_ok-pass.pass.after c.in_ok-after.after _ _ _ _ _ _ c.requires.walkable.0.numbers.2 (λ s i h. enters q s c.requires.is_for i h) (λ mark. tt) pass behind c.in_ok-after.ensures.none c.in_ok-leave_scope.ensures.none left c.in_ok-add_alarms.ensures.alone

pub walk_switch-returns-clause-exact : goal.walk_switch-returns-clause-exact
walk_switch-returns-clause-exact g t c =
    let q = csprogram_tree c.args.program.now in
    let all = csstmts_tree c.args.items.now in
    let parted = rw (c.as_slice.ensures, c.as_slice-names.ensures) at c.in_ok-cases.ensures.alone in
    let entered = rw (c.as_slice-2.ensures, c.as_slice-names.ensures) at c.in_ok-heads.ensures.alone in
    let stays = rw c.as_slice-2.ensures at c.in_ok-heads.ensures.stays in
    let pass = rw c.as_slice-3.ensures at c.in_ok-pass.ensures.exact in
    let behind = rw c.as_slice-names.ensures at c.in_ok-ended.ensures.sharp in
    let left = rw c.as_slice-names.ensures at c.in_ok-leave_scope.ensures.one in
    switch_exact_typed g.M.MemDomain.sharp (beyond c.args.set.now.unroll) q c.args.to c.actions_keep_states_typed.ensures.enter c.actions_keep_states_typed.ensures.leave c.values_are_typed.ensures
    (csexpr_tree c.args.value.now) c.args.objects.now all c.args.state _ _ _ _ _ c.in_ok-ended.ended c.in_ok-after.after _ _ _ _ _ _ c.requires.walkable.1
    c.requires.walkable.0.numbers.2 parted entered stays c.in_ok-heads.ensures.gone pass behind c.in_ok-ended.ensures.none c.in_ok-leave_scope.ensures.none left c.in_ok-add_alarms.ensures.alone c.in_ok-after.ensures.first_alone c.in_ok-after.ensures.second_alone

pub one_pass-returns-clause-goes : goal.one_pass-returns-clause-goes
one_pass-returns-clause-goes g t c = rw (nil_of c.loop-item.rest.now c.in_default.ensures.cases, csstmts_nil) at c.loop-item.invariant.goes

pub walk_all-returns-then-not-has_label-clause-exact : goal.walk_all-returns-then-not-has_label-clause-exact
walk_all-returns-then-not-has_label-clause-exact g t c =
    let q = csprogram_tree c.args.program.now in
    let pass = rw c.as_slice.ensures.value at c.in_ok-pass.ensures.goes in
    all_plain (HasTyped g.M.MemDomain.sharp q) (beyond c.args.set.now.unroll) q c.args.to (csstmts_from c.args.items.now) c.args.heads.items c.args.flow c.in_ok-pass.pass.after _ _ pass

pub walk_all-returns-in-Closed-clause-exact : goal.walk_all-returns-in-Closed-clause-exact
walk_all-returns-in-Closed-clause-exact g t c =
    let q = csprogram_tree c.args.program.now in
    let exact = rw c.loop-flow.invariant.same_flow at c.in_ok-pass-2.ensures.exact in
    all_from (HasTyped g.M.MemDomain.sharp q) (beyond c.args.set.now.unroll) q c.args.to (csstmts_from c.args.items.now) c.args.heads.items c.loop-flow.heads.items c.args.flow _ _ _ c.loop-flow.invariant.begins (exact c.in-Closed.pass c.in-Closed.is)

pub settle_heads-loop-heads-init : goal.settle_heads-loop-heads-init
settle_heads-loop-heads-init g t c =
    let q = csprogram_tree c.args.program.now in
    record {
      heads_for = c.requires.heads_for;
      labels = c.requires.labels;
      among = c.requires.among;
      old = λ mark s h. h;
      fewer = omega arith;
      begins = begins_same (HasTyped g.M.MemDomain.sharp q) (beyond c.args.set.now.unroll) q c.args.to (csstmts_from c.args.items.now) c.args.heads.items c.args.flow.now;
    }

pub settle_heads-returns-in-Same-clause-exact : goal.settle_heads-returns-in-Same-clause-exact
settle_heads-returns-in-Same-clause-exact g t c = λ p e.
    let q = csprogram_tree c.args.program.now in
    let all = csstmts_from c.args.items.now in
    let goes = rw (c.as_slice.ensures.value, c.in_ok-start.ensures) at c.in_ok-pass.ensures.goes in
    subst (λ r. ExactAll (HasTyped g.M.MemDomain.sharp q) (beyond c.args.set.now.unroll) q c.args.to all c.args.heads.items c.args.flow.now r.after r.kept.items r.out.items) (closed_is _ p e)
    (all_from (HasTyped g.M.MemDomain.sharp q) (beyond c.args.set.now.unroll) q c.args.to all c.args.heads.items c.loop-heads.heads.items c.args.flow.now c.in_ok-pass.pass.after _ _ c.loop-heads.invariant.begins
    (all_closed (HasTyped g.M.MemDomain.sharp q) (beyond c.args.set.now.unroll) q c.args.to all c.loop-heads.heads.items c.args.flow.now c.in_ok-pass.pass.after _ _ _ c.loop-heads.invariant.among goes
    (λ i. (c.in_ok-next.ensures.none i).1) (λ x i f. (c.in_ok-next.ensures.one x i f).1)))

pub settle_heads-returns-in-New-clause-begins : goal.settle_heads-returns-in-New-clause-begins
settle_heads-returns-in-New-clause-begins g t c = λ h e.
    let q = csprogram_tree c.args.program.now in
    let all = csstmts_from c.args.items.now in
    let goes = rw (c.as_slice.ensures.value, c.in_ok-start.ensures) at c.in_ok-pass.ensures.goes in
    subst (λ r. BeginsOn (HasTyped g.M.MemDomain.sharp q) (beyond c.args.set.now.unroll) q all c.args.heads.items c.args.flow.now r.items) (more_is _ h e)
    (begins_both (HasTyped g.M.MemDomain.sharp q) (beyond c.args.set.now.unroll) q c.args.to all c.args.heads.items c.loop-heads.heads.items _ c.args.flow.now c.loop-heads.invariant.begins
    (begins_wider (HasTyped g.M.MemDomain.sharp q) (beyond c.args.set.now.unroll) q c.args.to all c.loop-heads.heads.items _ c.args.flow.now c.in_ok-pass.pass.after c.in_ok-pass.pass.kept.items c.in_ok-pass.pass.out.items
    (λ i. not_new (c.in_ok-next.ensures.none i).0 c.in-New.is) (λ x i f. not_new (c.in_ok-next.ensures.one x i (λ l j. f l (c.loop-heads.invariant.among l j))).0 c.in-New.is) goes))

pub walk_call-returns-clause-exact : goal.walk_call-returns-clause-exact
walk_call-returns-clause-exact g t c =
    let q = csprogram_tree c.args.program.now in
    let looked = c.in-Some.ensures.lookup in
    let there : slice_get q.functions c.args.call.now.function ≡ Some (csfunction_tree c.in-Some.function.now) =
    function_there c.as_slice.result.now c.args.program.now.functions c.args.call.now.function c.in-Some.function.now c.as_slice.ensures looked.3.0 (looked.3.1 c.in-Some.function.now) in
    let less : c.args.depth ≡ suc (c.args.depth - 1) = omega (arith, c.if-depth-eq0.false) in
    let callee = callable q c.args.depth (c.args.depth - 1) c.args.to (cscall_tree c.args.call.now) less c.requires.walkable in
    let same = callee_is q (c.args.depth - 1) (cscall_tree c.args.call.now) (csfunction_tree c.in-Some.function.now) there callee in
    let ready = subst (λ f. AreArgsReady q (cscall_tree c.args.call.now).args f.params) same callee.args in
    let passed = rw (c.as_slice-2.ensures, c.as_slice-3.ensures) at c.in_ok-pass_args.ensures.sharp in
    call_exact_typed g.M.MemDomain.sharp (beyond c.args.set.now.unroll) q c.args.to c.actions_keep_states_typed.ensures.set (cscall_tree c.args.call.now) (csfunction_tree c.in-Some.function.now)
    c.args.state c.pass_args.new.state c.in_ok-mid.mid c.in_ok-fallen.fallen c.in_ok-given.given c.in_ok-after.after _ _ _ _ _ _ _ there ready callee.target passed c.new-inner.ensures.items c.new-found.ensures.items c.in_ok-mid.ensures.exact c.in_ok-prefix.ensures.none
    c.in_ok-prefix.ensures.one c.in_ok-fallen.ensures.sharp_none c.in_ok-fallen.ensures.dead c.in_ok-given.ensures.none c.in_ok-given.ensures.one c.in_ok-after.ensures.first_alone c.in_ok-after.ensures.second_alone
