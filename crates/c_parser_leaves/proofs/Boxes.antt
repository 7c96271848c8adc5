-- What was put in a box is what the production asks for.
use Rattle.std.proofs.Common.{◌≡◌, subst, ap, ◌∙◌, ℕ, List, Bor}
use Rattle.std.specs.Prelude.{Result, Ok, Err, IfOk}
use Rattle.std.specs.declared.alloc.AllocError.{AllocError}
use Rattle.std.specs.declared.alloc.Global.{Global}
use Rattle.std.specs.declared.boxed.Box.{Box}
use Rattle.c_syntax_written.specs.declared.place.Pos.{Pos}
use Rattle.c_syntax_written.specs.declared.token.Placed.{Placed}
use Rattle.c_syntax_written.specs.declared.written.Declarator.{Declarator}
use Rattle.c_syntax_written.specs.declared.written.Declarator.TheVariants as declarators
use Rattle.c_syntax_written.specs.declared.written.Expr.{Expr}
use Rattle.c_syntax_written.specs.Written.{DeclaratorTree, ExprTree, Name, expr_tree}
use Rattle.c_grammar.specs.Parts.{Scene, Part, Value}
use Rattle.c_grammar.specs.Process.{Process}
use Rattle.c_grammar.specs.Descent.{Outcome, Follows}
use Rattle.c_parser_steps.specs.declared.fault.Fault.{Fault}
use Rattle.c_parser_steps.specs.Answers.{no_memory, Steps, stepped, stalled}
use Rattle.c_parser_steps.specs.Views.{boxed_declarator, boxed_expr}
use Rattle.c_parser_leaves.specs.Ends.{Hands, handed, unmade}
use Rattle.c_parser_leaves.proofs.DeclaratorSteps.{name_so}

-- the tree of an expression in its box
pub boxed_so : (x : Expr) {v : ExprTree} (m : Result (Box Expr Global) AllocError) → IfOk m (λ b. b.value ≡ x) → expr_tree x ≡ v → IfOk m (λ b. boxed_expr b ≡ v)
boxed_so x (Ok b) h e = ap expr_tree h ∙ e
boxed_so x (Err f) h e = tt

-- the declarator of this word
pub named_so : {d : ℕ} {w : Scene} {p : Part} {goes : Outcome (Value p) → Type 0} (k : DeclaratorTree → Process (Value p)) {place : Pos} {a b : List ℕ} {ts : List Placed} {m : Result (Box Declarator Global) AllocError} {r : Result (Box Declarator Global × Bor (List Placed)) Fault} → ((o : Outcome (Value p)) → Follows d w p (k (Name place b)) ts o → goes o) → IfOk m (λ x. x.value ≡ declarators.Name place a) → a ≡ b → Hands ts m r → Steps goes (λ x rest o. Follows d w p (k (boxed_declarator x)) rest o) r
named_so {d = d} {w = w} {p = p} k {place = place} {b = b} f h e (handed q) = stepped (λ o g. f o (subst (λ t. Follows d w p (k (Name place b)) t o) q (name_so k h e g)))
named_so k f h e unmade = stalled no_memory
