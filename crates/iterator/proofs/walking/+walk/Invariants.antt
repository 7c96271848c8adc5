use Rattle.std.proofs.Common.{◌≡◌, ◌-◌, ◌+◌, ◌*◌, ◌≤◌, [], length, Some}
use Rattle.c_syntax_written.specs.declared.place.Pos.{Pos}
use Rattle.c_syntax.specs.declared.alarm.Alarm.{Alarm}
use Rattle.csharp.specs.Trees.{Scope, csprogram_tree, csstmt_tree, csstmts_from, csstmts_tree}
use Rattle.csharp.specs.Sizes.{csstmt_size, csstmts_size}
use Rattle.csharp.specs.States.{State}
use Rattle.alarm_claims.specs.Admitted.{Gains, IsAdmittedIn}
use Rattle.walk_owes.specs.declared.marks.Mark.{Mark}
use Rattle.csharp.specs.Meaning.{beyond}
use Rattle.walk_owes.specs.Exactly.{Behind, GoesOn, LastPass, Rests, Rolled}
use Rattle.walk_owes.specs.Owes.{AllFor, Grows, HasTyped, SomeFor, Sound}
use Rattle.walk_owes.specs.Loops.{Reaches, Unrolled}
use Rattle.walk_owes.specs.Items.{HasHead, HeadsFor, PassesOn}
use Rattle.walk_owes.specs.Heads.{HeadsAmong, LabelsHave, missing, weigh}
use Rattle.walk_owes.specs.Walkable.{AreWalkable, worth}
use Rattle.iterator.specs.Begun.{BeginsOn}
use Rattle.iterator.proofs.walking.+walk.Given as goal

abbrev pub decreases-walk : goal.decreases-walk
decreases-walk g l = worth (csprogram_tree l.program.now) l.depth + 8 * csstmt_size (csstmt_tree l.a.now) + 1

abbrev pub decreases-walk_live : goal.decreases-walk_live
decreases-walk_live g l = worth (csprogram_tree l.program.now) l.depth + 8 * csstmt_size (csstmt_tree l.a.now) + 2

abbrev pub decreases-walk_side : goal.decreases-walk_side
decreases-walk_side g l = worth (csprogram_tree l.program.now) l.depth + 8 * csstmt_size (csstmt_tree l.a.now) + 2

abbrev pub decreases-turn_from : goal.decreases-turn_from
decreases-turn_from g l = worth (csprogram_tree l.program.now) l.depth + 8 * csstmt_size (csstmt_tree l.body.now) + 2

abbrev pub decreases-settle : goal.decreases-settle
decreases-settle g l = worth (csprogram_tree l.program.now) l.depth + 8 * csstmt_size (csstmt_tree l.body.now) + 3

abbrev pub decreases-narrow : goal.decreases-narrow
decreases-narrow g l = worth (csprogram_tree l.program.now) l.depth + 8 * csstmt_size (csstmt_tree l.body.now) + 3

abbrev pub decreases-walk_rest : goal.decreases-walk_rest
decreases-walk_rest g l = worth (csprogram_tree l.program.now) l.depth + 8 * csstmt_size (csstmt_tree l.body.now) + 4

abbrev pub decreases-walk_loop : goal.decreases-walk_loop
decreases-walk_loop g l = worth (csprogram_tree l.program.now) l.depth + 8 * csstmt_size (csstmt_tree l.body.now) + 5

abbrev pub decreases-walk_sequence : goal.decreases-walk_sequence
decreases-walk_sequence g l = worth (csprogram_tree l.program.now) l.depth + 8 * (csstmt_size (csstmt_tree l.first.now) + csstmt_size (csstmt_tree l.second.now)) + 3

abbrev pub decreases-walk_if : goal.decreases-walk_if
decreases-walk_if g l = worth (csprogram_tree l.program.now) l.depth + 8 * (csstmt_size (csstmt_tree l.then.now) + csstmt_size (csstmt_tree l.otherwise.now)) + 3

abbrev pub decreases-walk_block : goal.decreases-walk_block
decreases-walk_block g l = worth (csprogram_tree l.program.now) l.depth + 8 * (csstmt_size (csstmt_tree l.body.now)) + 3

abbrev pub decreases-walk_call : goal.decreases-walk_call
decreases-walk_call g l = worth (csprogram_tree l.program.now) l.depth + 2

abbrev pub invariant-settle-loop-head : goal.invariant-settle-loop-head
invariant-settle-loop-head g l = record {
  is_for : g.M.MemDomain.is_for l.head (csprogram_tree l.program);
  entry : (s : State) → g.M.MemDomain.stands l.initial.head s → g.M.MemDomain.stands l.head s;
  rests : Rests (HasTyped g.M.MemDomain.sharp (csprogram_tree l.program)) (beyond l.set.unroll) (csprogram_tree l.program) (csstmt_tree l.body) l.initial.head l.head;
}

abbrev pub decreases-settle-loop-head : goal.decreases-settle-loop-head
decreases-settle-loop-head g l = g.M.MemDomain.weight g.S.Steps.list l.head

abbrev pub invariant-walk_loop-loop-turns : goal.invariant-walk_loop-loop-turns
invariant-walk_loop-loop-turns g l = record {
  is_for : g.M.MemDomain.is_for l.head (csprogram_tree l.program);
  kept_for : AllFor g.M.MemDomain.is_for (csprogram_tree l.program) l.kept.items;
  unrolled : (at : Pos) → Unrolled (HasTyped g.M.MemDomain.stands (csprogram_tree l.program)) (csprogram_tree l.program) l.to at (csstmt_tree l.body) l.fn.state l.head l.kept.items l.out.items;
  grows : Grows (HasTyped g.M.MemDomain.stands (csprogram_tree l.program)) (csprogram_tree l.program) l.fn.kept.items l.fn.out.items l.kept.items l.out.items;
  gains : Gains (csprogram_tree l.program) (csstmt_tree l.body) l.fn.out.items l.out.items;
  rolled : (at : Pos) → Rolled (HasTyped g.M.MemDomain.sharp (csprogram_tree l.program)) (beyond l.set.unroll) (csprogram_tree l.program) at (csstmt_tree l.body) l.fn.state l.turns l.head l.fn.kept.items l.fn.out.items l.kept.items l.out.items;
  within : l.turns ≤ l.set.unroll;
}

abbrev pub invariant-narrow-loop-steps : goal.invariant-narrow-loop-steps
invariant-narrow-loop-steps g l = record {
  is_for : g.M.MemDomain.is_for l.head (csprogram_tree l.program);
  pass_for : SomeFor g.M.MemDomain.is_for (csprogram_tree l.program) l.pass.after × AllFor g.M.MemDomain.is_for (csprogram_tree l.program) l.pass.kept.items;
  reaches : Reaches (HasTyped g.M.MemDomain.stands (csprogram_tree l.program)) (csprogram_tree l.program) (csstmt_tree l.body) l.entry l.head;
  sound : Sound (HasTyped g.M.MemDomain.stands (csprogram_tree l.program)) (csprogram_tree l.program) l.to (csstmt_tree l.body) (Some l.head) l.pass.after l.pass.kept.items l.pass.out.items;
  gains : Gains (csprogram_tree l.program) (csstmt_tree l.body) [] l.pass.out.items;
  last : LastPass (HasTyped g.M.MemDomain.sharp (csprogram_tree l.program)) (beyond l.set.unroll) (csprogram_tree l.program) l.to (csstmt_tree l.body) l.entry l.pass.after l.pass.kept.items l.pass.out.items;
}

abbrev pub decreases-walk_loop-loop-turns : goal.decreases-walk_loop-loop-turns
decreases-walk_loop-loop-turns g l = l.unroll - l.turns

abbrev pub decreases-narrow-loop-steps : goal.decreases-narrow-loop-steps
decreases-narrow-loop-steps g l = l.most - l.steps

abbrev pub decreases-one_pass : goal.decreases-one_pass
decreases-one_pass g l = worth (csprogram_tree l.program.now) l.depth + 8 * csstmts_size (csstmts_from l.items.now) + 3

abbrev pub decreases-settle_heads : goal.decreases-settle_heads
decreases-settle_heads g l = worth (csprogram_tree l.program.now) l.depth + 8 * csstmts_size (csstmts_from l.items.now) + 4

abbrev pub decreases-walk_all : goal.decreases-walk_all
decreases-walk_all g l = worth (csprogram_tree l.program.now) l.depth + 8 * csstmts_size (csstmts_from l.items.now) + 5

abbrev pub decreases-walk_scope : goal.decreases-walk_scope
decreases-walk_scope g l = worth (csprogram_tree l.program.now) l.depth + 8 * csstmts_size (csstmts_tree l.items.now) + 6

abbrev pub decreases-walk_switch : goal.decreases-walk_switch
decreases-walk_switch g l = worth (csprogram_tree l.program.now) l.depth + 8 * csstmts_size (csstmts_tree l.items.now) + 6

abbrev pub invariant-one_pass-loop-item : goal.invariant-one_pass-loop-item
invariant-one_pass-loop-item g l = record {
  walkable : AreWalkable (csprogram_tree l.program) l.depth l.to (csstmts_from l.rest);
  size : csstmts_size (csstmts_from l.rest) ≤ csstmts_size (csstmts_from l.items);
  after_for : SomeFor g.M.MemDomain.is_for (csprogram_tree l.program) l.after;
  kept_for : AllFor g.M.MemDomain.is_for (csprogram_tree l.program) l.kept.items;
  passes : PassesOn (HasTyped g.M.MemDomain.stands (csprogram_tree l.program)) (csprogram_tree l.program) l.to (csstmts_from l.items) (csstmts_from l.rest)
      l.heads l.fn.flow [] l.after l.gone.items l.kept.items l.out.items;
  gains : Gains (csprogram_tree l.program) (Scope [] (csstmts_from l.items)) [] l.out.items;
  among : (x : Alarm) → IsAdmittedIn (csprogram_tree l.program) (Scope [] (csstmts_from l.rest)) x
      → IsAdmittedIn (csprogram_tree l.program) (Scope [] (csstmts_from l.items)) x;
  behind : Behind (beyond l.set.unroll) (csprogram_tree l.program) (csstmts_from l.items) (csstmts_from l.rest);
  goes : GoesOn (HasTyped g.M.MemDomain.sharp (csprogram_tree l.program)) (beyond l.set.unroll) (csprogram_tree l.program) l.to (csstmts_from l.items) (csstmts_from l.rest) l.heads l.fn.flow l.after l.kept.items l.out.items;
}

abbrev pub decreases-one_pass-loop-item : goal.decreases-one_pass-loop-item
decreases-one_pass-loop-item g l = length l.rest

abbrev pub invariant-walk_all-loop-flow : goal.invariant-walk_all-loop-flow
invariant-walk_all-loop-flow g l = record {
  heads_for : HeadsFor g.M.MemDomain.is_for (csprogram_tree l.program) l.heads.items;
  labels : LabelsHave (csstmts_from l.items) l.heads.items;
  among : HeadsAmong (csstmts_from l.items) l.heads.items;
  old : (mark : Mark) (s : State) → HasHead g.M.MemDomain.stands l.fn.heads.items mark s → HasHead g.M.MemDomain.stands l.heads.items mark s;
  same_flow : l.flow ≡ l.fn.flow;
  begins : BeginsOn (HasTyped g.M.MemDomain.sharp (csprogram_tree l.program)) (beyond l.set.unroll) (csprogram_tree l.program) (csstmts_from l.items) l.fn.heads.items l.fn.flow l.heads.items;
}

abbrev pub decreases-walk_all-loop-flow : goal.decreases-walk_all-loop-flow
decreases-walk_all-loop-flow g l = missing l.heads.items

abbrev pub invariant-settle_heads-loop-heads : goal.invariant-settle_heads-loop-heads
invariant-settle_heads-loop-heads g l = record {
  heads_for : HeadsFor g.M.MemDomain.is_for (csprogram_tree l.program) l.heads.items;
  labels : LabelsHave (csstmts_from l.items) l.heads.items;
  among : HeadsAmong (csstmts_from l.items) l.heads.items;
  old : (mark : Mark) (s : State) → HasHead g.M.MemDomain.stands l.fn.heads.items mark s → HasHead g.M.MemDomain.stands l.heads.items mark s;
  fewer : missing l.heads.items ≤ missing l.fn.heads.items;
  begins : BeginsOn (HasTyped g.M.MemDomain.sharp (csprogram_tree l.program)) (beyond l.set.unroll) (csprogram_tree l.program) (csstmts_from l.items) l.fn.heads.items l.flow l.heads.items;
}

abbrev pub decreases-settle_heads-loop-heads : goal.decreases-settle_heads-loop-heads
decreases-settle_heads-loop-heads g l = weigh (g.M.MemDomain.weight g.S.Steps.list) l.heads.items
