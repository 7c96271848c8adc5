-- What kind of statement comes, and how a condition is read.
use Rattle.std.specs.Prelude.{◌≡◌, ℕ, false, List, [], ◌∷◌, Result, Ok, Err}
use Rattle.std.specs.declared.alloc.Global.{Global}
use Rattle.std.specs.declared.boxed.Box.{Box}
use Rattle.std.proofs.Common.{Bor}
use Rattle.c_syntax_written.specs.declared.token.Keyword.{Keyword}
use Rattle.c_syntax_written.specs.declared.token.Keyword.TheVariants as keywords
use Rattle.c_syntax_written.specs.declared.token.Placed.{Placed}
use Rattle.c_syntax_written.specs.declared.token.Punctuator.TheVariants as signs
use Rattle.c_syntax_written.specs.declared.token.Token.{Token}
use Rattle.c_syntax_written.specs.declared.token.Token.TheVariants as kinds
use Rattle.c_syntax_written.specs.declared.written.Expr.{Expr}
use Rattle.c_syntax_written.specs.Written.{ExprTree}
use Rattle.c_grammar.specs.declared.parts.Closing.TheVariants.{ByParenthesis as by_parenthesis}
use Rattle.c_grammar.specs.Parts.{Scene, AnExpr, Close, Part, Value}
use Rattle.c_grammar.specs.Ahead.{label_ahead}
use Rattle.c_grammar.specs.declared.class.Class.TheVariants.{Sign as sign}
use Rattle.c_grammar.specs.Process.{Process, token, part}
use Rattle.c_grammar.specs.ExprRules.{Expression}
use Rattle.c_grammar.specs.Descent.{Outcome, Stop, Follows}
use Rattle.c_parser_steps.specs.declared.fault.Fault.{Fault}
use Rattle.c_parser_steps.specs.Views.{boxed_expr}
use Rattle.c_parser_steps.specs.Answers.{Halts}
use Rattle.c_parser.specs.declared.stmt_kind.StatementKind.{StatementKind}
use Rattle.c_parser.specs.declared.stmt_kind.StatementKind.TheVariants as statements

abbrev pub statement_of_word : Keyword → StatementKind
statement_of_word keywords.Case = statements.Case
statement_of_word keywords.Default = statements.Default
statement_of_word keywords.If = statements.If
statement_of_word keywords.Switch = statements.Switch
statement_of_word keywords.While = statements.While
statement_of_word keywords.Do = statements.Do
statement_of_word keywords.For = statements.For
statement_of_word keywords.Goto = statements.Goto
statement_of_word keywords.Continue = statements.Continue
statement_of_word keywords.Break = statements.Break
statement_of_word keywords.Return = statements.Return
statement_of_word _ = statements.Expression

abbrev pub statement_of : Token → StatementKind
statement_of (kinds.Keyword k) = statement_of_word k
statement_of (kinds.Punctuator signs.LeftBrace) = statements.Block
statement_of (kinds.Punctuator signs.Semicolon) = statements.Empty
statement_of _ = statements.Expression

abbrev pub statement_at : List Placed → StatementKind
statement_at [] = statements.Expression
statement_at (t ∷ ts) = statement_of t.token

-- a statement of this kind comes, which has no label
abbrev pub StatementStarts : Scene → List Placed → StatementKind → Type 0
StatementStarts scene tokens kind = (label_ahead scene tokens ≡ false) × (statement_at tokens ≡ kind)

-- an expression between parentheses, and what follows it
abbrev pub in_parentheses : {A : Type 0} → Scene → (ExprTree → Process A) → Process A
in_parentheses scene k = token 1 (sign signs.LeftParenthesis)
    (λ opening. part 1 scene (AnExpr Expression) (λ value. part 1 scene (Close by_parenthesis) (λ close. k value)))

-- The result is how the descent reads an expression between parentheses.
pub data Conditions (count : ℕ) (scene : Scene) (tokens : List Placed) : Result (Box Expr Global × Bor (List Placed)) Fault → Type 0 where
  tested : {x : Box Expr Global × Bor (List Placed)}
      → ((p : Part) (k : ExprTree → Process (Value p)) (o : Outcome (Value p)) → Follows count scene p (k (boxed_expr x.0)) x.1.now o
      → Follows count scene p (in_parentheses scene k) tokens o) → Conditions count scene tokens (Ok x)
  untested : {f : Fault}
      → Halts (λ why rest. (p : Part) (k : ExprTree → Process (Value p)) → Follows count scene p (in_parentheses scene k) tokens (Stop why rest)) f
      → Conditions count scene tokens (Err f)
