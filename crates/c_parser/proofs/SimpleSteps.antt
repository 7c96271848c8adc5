-- A condition between parentheses, on the way through a statement.
use Rattle.std.proofs.Common.{◌≡◌, ℕ, List, Bor}
use Rattle.std.specs.Prelude.{Result, Ok, Err}
use Rattle.c_syntax_written.specs.declared.token.Placed.{Placed}
use Rattle.std.specs.declared.alloc.Global.{Global}
use Rattle.std.specs.declared.boxed.Box.{Box}
use Rattle.c_syntax_written.specs.declared.written.Expr.{Expr}
use Rattle.c_parser_steps.specs.Views.{boxed_expr}
use Rattle.c_syntax_written.specs.Written.{ExprTree}
use Rattle.c_grammar.specs.Parts.{Scene, Part, Value}
use Rattle.c_grammar.specs.Process.{Process}
use Rattle.c_grammar.specs.Descent.{Outcome, Stop, Follows}
use Rattle.c_parser_steps.specs.declared.fault.Fault.{Fault}
use Rattle.c_parser_steps.specs.Answers.{Halts}
use Rattle.c_parser_steps.proofs.Paths.{Path}
use Rattle.c_parser_steps.proofs.Steps.{halts}
use Rattle.c_parser.specs.SimpleKinds.{Conditions, tested, untested, in_parentheses}

-- the expression between parentheses was read
pub tried : {p : Part} {goes : Outcome (Value p) → Type 0} {d : ℕ} {w : Scene} {k : ExprTree → Process (Value p)} {ts : List Placed} {x : Box Expr Global × Bor (List Placed)} → Path p goes d w (in_parentheses w k) ts → Conditions d w ts (Ok x) → Path p goes d w (k (boxed_expr x.0)) x.1.now
tried {p} {k = k} path (tested t) = record { run = λ o g. path.run o (t p k o g) }

not_in_parentheses : {d : ℕ} {w : Scene} {ts : List Placed} {f : Fault} → Conditions d w ts (Err f) → Halts (λ why rest. (p : Part) (k : ExprTree → Process (Value p)) → Follows d w p (in_parentheses w k) ts (Stop why rest)) f
not_in_parentheses (untested h) = h

pub halts_tried : {p : Part} {goes : Outcome (Value p) → Type 0} {d : ℕ} {w : Scene} {k : ExprTree → Process (Value p)} {ts : List Placed} {f : Fault} → Path p goes d w (in_parentheses w k) ts → Conditions d w ts (Err f) → Halts (λ why rest. goes (Stop why rest)) f
halts_tried {p = p} {k = k} path h = halts (not_in_parentheses h) (λ why rest g. path.run _ (g p k))
