use Rattle.std.proofs.Common.{◌≡◌, ◌++◌, drop, map, List}
use Rattle.std.specs.Prelude.{option_map}
use Rattle.block_mem.specs.declared.types.Value.{Value}
use Rattle.csharp.specs.Trees.{csexpr_tree}
use Rattle.csharp_state.specs.Passing.{values_of}
use Rattle.csharp_state.specs.Unheld.{unheld_all}
use Rattle.csharp_state.proofs.state.State.values.Given as goal

-- the expressions that are left decide for all
abbrev pub invariant-loop-expr : goal.invariant-loop-expr
invariant-loop-expr l = record {
  are : option_map (λ (vs : List Value). l.values.items ++ vs) (values_of (map csexpr_tree (drop l.expr-index l.exprs)) l.self)
      ≡ values_of (map csexpr_tree l.exprs) l.self;
  unheld : unheld_all (map csexpr_tree (drop l.expr-index l.exprs)) l.self ≡ unheld_all (map csexpr_tree l.exprs) l.self;
}
