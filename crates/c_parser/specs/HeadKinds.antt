-- How what stands before the statement of a `for`, and a statement that is a part of another one, are read.
use Rattle.std.specs.Prelude.{ℕ, Bool, false, List, Result}
use Rattle.std.specs.declared.alloc.Global.{Global}
use Rattle.std.specs.declared.boxed.Box.{Box}
use Rattle.std.proofs.Common.{Bor}
use Rattle.c_syntax_written.specs.declared.file.Stmt.{Stmt}
use Rattle.c_syntax_written.specs.declared.token.Placed.{Placed}
use Rattle.c_syntax_written.specs.WrittenFile.{StmtTree, For, forstart_tree, optional_tree, stmt_tree}
use Rattle.c_grammar.specs.declared.parts.Setting.{Setting}
use Rattle.c_grammar.specs.Parts.{Scene, within, Statement, AStmt, Part, Value}
use Rattle.c_grammar.specs.FileRules.{substatement}
use Rattle.c_grammar.specs.Process.{Process, give}
use Rattle.c_grammar.specs.Descent.{Goes, Follows}
use Rattle.c_parser_steps.specs.declared.fault.Fault.{Fault}
use Rattle.c_parser_steps.specs.Answers.{Steps}
use Rattle.c_parser.specs.declared.head.ForOpening.{ForOpening}

-- the tree of a statement that another one holds
abbrev pub boxed_tree : Box Stmt Global → StmtTree
boxed_tree s = stmt_tree s.value

-- what is left of a for behind its opening
abbrev pub for_rest : Scene → ForOpening → Process StmtTree
for_rest scene opening = substatement (within scene) false (λ body. give (For opening.pos (forstart_tree opening.head.value.start)
    (optional_tree opening.head.value.condition) (optional_tree opening.head.value.step) body))

-- The result is how the descent reads a statement that is a part of another one, where the tokens stand so.
abbrev pub Substatements : ℕ → Scene → Setting → Bool → List Placed → Result (Box Stmt Global × Bor (List Placed)) Fault → Type 0
Substatements count scene setting is_of_switch tokens r = (p : Part) (k : StmtTree → Process (Value p)) →
    Steps (λ o. Follows count scene p (substatement (record { types = scene.types; setting = setting }) is_of_switch k) tokens o)
    (λ s rest o. Follows count scene p (k (boxed_tree s)) rest o) r

-- The result is how the descent reads what stands before the statement of a for.
abbrev pub ForOpenings : ℕ → Scene → List Placed → Result (ForOpening × Bor (List Placed)) Fault → Type 0
ForOpenings count scene tokens r = (b : Bool) → Steps (λ o. Goes count scene (AStmt (Statement b)) tokens o)
    (λ opening rest o. Follows count scene (AStmt (Statement b)) (for_rest scene opening) rest o) r
