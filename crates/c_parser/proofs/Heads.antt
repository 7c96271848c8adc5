-- What is left of a `for` behind its opening.
use Rattle.std.proofs.Common.{◌≡◌, ℕ, List, subst}
use Rattle.std.specs.Prelude.{Bool, false}
use Rattle.c_syntax_written.specs.declared.file.ForHead.{ForHead}
use Rattle.c_syntax_written.specs.declared.place.Pos.{Pos}
use Rattle.c_syntax_written.specs.declared.token.Placed.{Placed}
use Rattle.c_syntax_written.specs.WrittenFile.{StmtTree, For, forstart_tree, optional_tree}
use Rattle.c_grammar.specs.Parts.{Scene, within, Statement, AStmt}
use Rattle.c_grammar.specs.FileRules.{substatement}
use Rattle.c_grammar.specs.Process.{Process, give}
use Rattle.c_grammar.specs.Descent.{Outcome, Follows}

abbrev pub rest_of : Scene → Pos → ForHead → Process StmtTree
rest_of w at head = substatement (within w) false (λ body. give (For at (forstart_tree head.start) (optional_tree head.condition) (optional_tree head.step) body))

-- it is the same where the head is
pub same_rest : {b : Bool} {d : ℕ} {w : Scene} {at : Pos} {head boxed : ForHead} {ts : List Placed} {o : Outcome StmtTree} → boxed ≡ head → Follows d w (AStmt (Statement b)) (rest_of w at boxed) ts o → Follows d w (AStmt (Statement b)) (rest_of w at head) ts o
same_rest {b} {d} {w} {at} {ts = ts} {o} e g = subst (λ (v : ForHead). Follows d w (AStmt (Statement b)) (rest_of w at v) ts o) e g
