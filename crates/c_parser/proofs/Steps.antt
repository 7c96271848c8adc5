-- Ways through the productions of statements and blocks.
use Rattle.std.proofs.Common.{◌≡◌, ℕ, List, subst, Bor}
use Rattle.std.specs.Prelude.{Bool, Result, Ok, Err}
use Rattle.c_syntax_written.specs.declared.token.Placed.{Placed}
use Rattle.c_syntax_written.specs.WrittenFile.{BlockItemTrees, StmtTree}
use Rattle.c_syntax_written.specs.declared.file.Stmt.{Stmt}
use Rattle.std.specs.declared.alloc.Global.{Global}
use Rattle.std.specs.declared.boxed.Box.{Box}
use Rattle.c_grammar.specs.declared.parts.Setting.{Setting}
use Rattle.c_grammar.specs.Parts.{Scene, Statement, AStmt, Items, Part, Value}
use Rattle.c_grammar.specs.FileRules.{substatement}
use Rattle.c_grammar.specs.Process.{Process}
use Rattle.c_grammar.specs.Descent.{Outcome, Stop, Goes, Follows}
use Rattle.c_parser_steps.specs.declared.fault.Fault.{Fault}
use Rattle.c_parser_steps.specs.Answers.{Halts}
use Rattle.c_parser_steps.proofs.Paths.{Path}
use Rattle.c_parser_steps.proofs.Steps.{halts, stall, step}
use Rattle.c_parser.specs.declared.head.ForOpening.{ForOpening}
use Rattle.c_parser.specs.HeadKinds.{ForOpenings, Substatements, boxed_tree, for_rest}

-- the items before are these
pub same_items : {b c : BlockItemTrees} {d : ℕ} {w : Scene} {ts : List Placed} {o : Outcome BlockItemTrees} → b ≡ c → Goes d w (Items b) ts o → Goes d w (Items c) ts o
same_items {d = d} {w} {ts} {o} e g = subst (λ (v : BlockItemTrees). Goes d w (Items v) ts o) e g

-- the scene is the same
pub in_scene : {b : BlockItemTrees} {d : ℕ} {v w : Scene} {ts : List Placed} {o : Outcome BlockItemTrees} → v ≡ w → Goes d v (Items b) ts o → Goes d w (Items b) ts o
in_scene {b} {d} {v} {w} {ts} {o} e g = subst (λ (s : Scene). Goes d s (Items b) ts o) e g

-- a statement that is a part of another one was read
pub held : {p : Part} {goes : Outcome (Value p) → Type 0} {d : ℕ} {w : Scene} {g : Setting} {b : Bool} {k : StmtTree → Process (Value p)} {ts : List Placed} {x : Box Stmt Global × Bor (List Placed)} → Path p goes d w (substatement (record { types = w.types; setting = g }) b k) ts → Substatements d w g b ts (Ok x) → Path p goes d w (k (boxed_tree x.0)) x.1.now
held {p} {k = k} path h = record { run = λ o f. path.run o (step (h p k) o f) }

pub halts_held : {p : Part} {goes : Outcome (Value p) → Type 0} {d : ℕ} {w : Scene} {g : Setting} {b : Bool} {k : StmtTree → Process (Value p)} {ts : List Placed} {f : Fault} → Path p goes d w (substatement (record { types = w.types; setting = g }) b k) ts → Substatements d w g b ts (Err f) → Halts (λ why rest. goes (Stop why rest)) f
halts_held {p = p} {k = k} path h = halts (stall (h p k)) (λ why rest j. path.run _ j)

-- it is in its box
pub same_statement : {d : ℕ} {w : Scene} {p : Part} (k : StmtTree → Process (Value p)) {a b : StmtTree} {ts : List Placed} {o : Outcome (Value p)} → a ≡ b → Follows d w p (k a) ts o → Follows d w p (k b) ts o
same_statement {d} {w} {p} k {a} {b} {ts} {o} e f = subst (λ v. Follows d w p (k v) ts o) e f

-- what stands before the statement of a for was read
pub for_led : {b : Bool} {d : ℕ} {w : Scene} {ts : List Placed} {x : ForOpening × Bor (List Placed)} → ForOpenings d w ts (Ok x) → Path (AStmt (Statement b)) (λ o. Goes d w (AStmt (Statement b)) ts o) d w (for_rest w x.0) x.1.now
for_led {b} h = record { run = λ o g. step (h b) o g }
