use Rattle.std.proofs.Common.{◌≡◌, ◌≤◌, ◌+◌, ◌*◌, drop}
use Rattle.std.specs.Prelude.{option_map}
use Rattle.c_syntax_written.specs.declared.place.Pos.{Pos}
use Rattle.csharp.specs.Trees.{csprogram_tree, csstmt_tree, csstmts_from, csstmts_tree}
use Rattle.csharp.specs.Trees as trees
use Rattle.csharp.specs.Sizes.{csstmt_size, csstmts_size}
use Rattle.csharp.specs.Meaning.{Turn, bounded_exec, later_by, level}
use Rattle.csharp_state.specs.Belongs.{Belongs}
use Rattle.csharp_exec.specs.Meets.{comes_past, less_by, meets, met_by_gotos, met_row}
use Rattle.csharp_exec.specs.Stages.{catching, row}
use Rattle.csharp_exec.specs.Told.{mark_of, over_of}
use Rattle.csharp_exec.proofs.Fuel.{worth}
use Rattle.csharp_exec.proofs.runs.+runs.Given as goal

abbrev pub decreases-exec : goal.decreases-exec
decreases-exec l = worth (csprogram_tree l.program.now) l.limits.fuel + 8 * csstmt_size (csstmt_tree l.stmt.now) + 1

abbrev pub decreases-in_turn : goal.decreases-in_turn
decreases-in_turn l =
    worth (csprogram_tree l.program.now) l.limits.fuel + 8 * (csstmt_size (csstmt_tree l.first.now) + csstmt_size (csstmt_tree l.second.now)) + 2

abbrev pub decreases-exec_if : goal.decreases-exec_if
decreases-exec_if l =
    worth (csprogram_tree l.program.now) l.limits.fuel + 8 * (csstmt_size (csstmt_tree l.then.now) + csstmt_size (csstmt_tree l.otherwise.now)) + 2

abbrev pub decreases-exec_loop : goal.decreases-exec_loop
decreases-exec_loop l = worth (csprogram_tree l.program.now) l.limits.fuel + 8 * csstmt_size (csstmt_tree l.body.now) + 2

abbrev pub decreases-exec_block : goal.decreases-exec_block
decreases-exec_block l = worth (csprogram_tree l.program.now) l.limits.fuel + 8 * csstmt_size (csstmt_tree l.body.now) + 2

abbrev pub decreases-exec_scope : goal.decreases-exec_scope
decreases-exec_scope l = worth (csprogram_tree l.program.now) l.limits.fuel + 8 * csstmts_size (csstmts_tree l.list.now) + 4

abbrev pub decreases-exec_switch : goal.decreases-exec_switch
decreases-exec_switch l = worth (csprogram_tree l.program.now) l.limits.fuel + 8 * csstmts_size (csstmts_tree l.list.now) + 5

abbrev pub decreases-exec_items : goal.decreases-exec_items
decreases-exec_items l = worth (csprogram_tree l.program.now) l.limits.fuel + 8 * csstmts_size (csstmts_from l.list.now) + 3

abbrev pub decreases-exec_row : goal.decreases-exec_row
decreases-exec_row l = worth (csprogram_tree l.program.now) l.limits.fuel + 8 * csstmts_size (csstmts_from l.list.now) + 2

abbrev pub decreases-exec_call : goal.decreases-exec_call
decreases-exec_call l = worth (csprogram_tree l.program.now) l.limits.fuel + 2

-- a turn of the loop with the fuel that is left comes to what the loop comes to
abbrev pub invariant-exec_loop-loop-alloc : goal.invariant-exec_loop-loop-alloc
invariant-exec_loop-loop-alloc l = record {
  fuel : l.left.fuel + l.turns ≡ l.limits.fuel;
  bound : l.left.turns ≡ l.limits.turns;
  objects : Belongs (csprogram_tree l.program).objects l.state.memory;
  same : (at : Pos) → level (over_of l.limits.turns) (csprogram_tree l.program) (later_by (over_of l.limits.turns) (csprogram_tree l.program) l.left.fuel)
      (Turn l.turns) (trees.Loop at (csstmt_tree l.body)) l.state
      ≡ bounded_exec (over_of l.limits.turns) (csprogram_tree l.program) l.limits.fuel (trees.Loop at (csstmt_tree l.body)) l.fn.state;
  past : (at : Pos) → meets (over_of l.limits.turns) (csprogram_tree l.program) (later_by (over_of l.limits.turns) (csprogram_tree l.program) l.left.fuel)
      (less_by (over_of l.limits.turns) (csprogram_tree l.program) l.left.fuel) (Turn l.turns) (trees.Loop at (csstmt_tree l.body)) l.state
      ≡ comes_past (over_of l.limits.turns) (csprogram_tree l.program) l.limits.fuel (trees.Loop at (csstmt_tree l.body)) l.fn.state;
}

abbrev pub decreases-exec_loop-loop-alloc : goal.decreases-exec_loop-loop-alloc
decreases-exec_loop-loop-alloc l = l.left.fuel

-- the items from a mark on, with the fuel that is left, come to what they come to
abbrev pub invariant-exec_items-loop-outcome : goal.invariant-exec_items-loop-outcome
invariant-exec_items-loop-outcome l = record {
  fuel : l.left.fuel ≤ l.fn.limits.fuel;
  bound : l.left.turns ≡ l.fn.limits.turns;
  objects : Belongs (csprogram_tree l.program).objects l.state.memory;
  same : catching (over_of l.fn.limits.turns) (csprogram_tree l.program) l.left.fuel (option_map mark_of l.from) (csstmts_from l.list) l.state
      ≡ catching (over_of l.fn.limits.turns) (csprogram_tree l.program) l.fn.limits.fuel (option_map mark_of l.fn.from) (csstmts_from l.list) l.fn.state;
  past : met_by_gotos (over_of l.fn.limits.turns) (csprogram_tree l.program) l.left.fuel (option_map mark_of l.from) (csstmts_from l.list) l.state
      ≡ met_by_gotos (over_of l.fn.limits.turns) (csprogram_tree l.program) l.fn.limits.fuel (option_map mark_of l.fn.from) (csstmts_from l.list) l.fn.state;
}

abbrev pub decreases-exec_items-loop-outcome : goal.decreases-exec_items-loop-outcome
decreases-exec_items-loop-outcome l = l.left.fuel

abbrev pub invariant-exec_row-loop-item : goal.invariant-exec_row-loop-item
invariant-exec_row-loop-item l = record {
  objects : Belongs (csprogram_tree l.program).objects l.state.memory;
  same : row (over_of l.limits.turns) (csprogram_tree l.program) l.limits.fuel (option_map mark_of l.from) (csstmts_from (drop l.item-index l.list)) l.state
      ≡ row (over_of l.limits.turns) (csprogram_tree l.program) l.limits.fuel (option_map mark_of l.fn.from) (csstmts_from l.list) l.fn.state;
  past : met_row (over_of l.limits.turns) (csprogram_tree l.program) l.limits.fuel (option_map mark_of l.from) (csstmts_from (drop l.item-index l.list)) l.state
      ≡ met_row (over_of l.limits.turns) (csprogram_tree l.program) l.limits.fuel (option_map mark_of l.fn.from) (csstmts_from l.list) l.fn.state;
}
