use Rattle.std.proofs.Common.{◌≡◌}
use Rattle.std.specs.Prelude.{map, drop}
use Rattle.c_syntax.specs.Program.{tprogram_tree}
use Rattle.c_syntax.specs.TypedStmt.{tinit_tree}
use Rattle.csharp.specs.Trees.{CsStmtTrees, Undefine, more}
use Rattle.lower_trees.specs.LowerStmt.{inits_code, inits_top}
use Rattle.lower_stmt.specs.Views.{listed_before}
use Rattle.lower_stmt.proofs.inits.lower_inits.Given as goal

-- what was lowered and what is left make the whole, in front of other items
abbrev pub invariant-loop-init : goal.invariant-loop-init
invariant-loop-init l = (rest : CsStmtTrees)
    → listed_before l.listed (record {
      items = inits_code (tprogram_tree l.program) l.d l.object (map tinit_tree (drop l.init-index l.init-items)) rest;
      top = inits_top (tprogram_tree l.program) l.d l.object (map tinit_tree (drop l.init-index l.init-items));
    })
    ≡ record {
      items = more (Undefine l.object) (inits_code (tprogram_tree l.program) l.d l.object (map tinit_tree l.init-items) rest);
      top = inits_top (tprogram_tree l.program) l.d l.object (map tinit_tree l.init-items);
    }
