-- Which production of a statement the descent takes where its first token is known.
use Rattle.std.proofs.Common.{◌≡◌, ℕ, Bool, List, [], ◌∷◌, refl, ap, ◌∙◌}
use Rattle.std.specs.Prelude.{Option, Some}
use Rattle.c_syntax_written.specs.declared.token.Placed.{Placed}
use Rattle.c_syntax_written.specs.declared.token.Keyword.{Keyword}
use Rattle.c_syntax_written.specs.declared.token.Keyword.TheVariants as keywords
use Rattle.c_syntax_written.specs.declared.token.Punctuator.{Punctuator}
use Rattle.c_syntax_written.specs.declared.token.Punctuator.TheVariants as signs
use Rattle.c_syntax_written.specs.declared.token.Token.{Token}
use Rattle.c_syntax_written.specs.declared.token.Token.TheVariants as kinds
use Rattle.c_grammar.specs.Parts.{Scene, AStmt, Statement, Value}
use Rattle.c_grammar.specs.Process.{Process}
use Rattle.c_grammar.specs.Grammar.{Produces, file_rule}
use Rattle.c_grammar.specs.FileRules as files
use Rattle.c_grammar.specs.Choice.{ARule, this, choose, statement_choice, statement_word_choice}
use Rattle.c_grammar.specs.Descent.{Goes}
use Rattle.c_parser_steps.proofs.Steps.{if_false}
use Rattle.c_parser.specs.declared.stmt_kind.StatementKind.{StatementKind}
use Rattle.c_parser.specs.declared.stmt_kind.StatementKind.TheVariants as statements
use Rattle.c_parser.specs.SimpleKinds.{StatementStarts, statement_of, statement_of_word}
use Rattle.c_parser_steps.proofs.Paths.{Path, begin}

-- the production of a statement of the kind
abbrev pub rule_of : (w : Scene) (b : Bool) → StatementKind → Option (ARule w (AStmt (Statement b)))
rule_of w b statements.Case = this (file_rule files.case)
rule_of w b statements.Default = this (file_rule files.default_statement)
rule_of w b statements.If = this (file_rule files.if_statement)
rule_of w b statements.Switch = this (file_rule files.switch_statement)
rule_of w b statements.While = this (file_rule files.while_loop)
rule_of w b statements.Do = this (file_rule files.do_loop)
rule_of w b statements.For = this (file_rule files.for_loop)
rule_of w b statements.Goto = this (file_rule files.jump)
rule_of w b statements.Continue = this (file_rule files.continue_statement)
rule_of w b statements.Break = this (file_rule files.break_statement)
rule_of w b statements.Return = this (file_rule files.return_statement)
rule_of w b statements.Block = this (file_rule files.block)
rule_of w b statements.Empty = this (file_rule files.empty)
rule_of w b statements.Expression = this (file_rule files.expression)

word_rule : (w : Scene) (b : Bool) (k : Keyword) → statement_word_choice w b k ≡ rule_of w b (statement_of_word k)
word_rule w b keywords.Case = refl
word_rule w b _ = refl

sign_rule : (w : Scene) (b : Bool) (p : Punctuator) → statement_choice w b (kinds.Punctuator p) ≡ rule_of w b (statement_of (kinds.Punctuator p))
sign_rule w b signs.LeftBrace = refl
sign_rule w b _ = refl

token_rule : (w : Scene) (b : Bool) (t : Token) → statement_choice w b t ≡ rule_of w b (statement_of t)
token_rule w b (kinds.Keyword k) = word_rule w b k
token_rule w b (kinds.Punctuator p) = sign_rule w b p
token_rule w b _ = refl

pub statement_rule : (w : Scene) (b : Bool) (ts : List Placed) (kind : StatementKind) → StatementStarts w ts kind → choose w (AStmt (Statement b)) ts ≡ rule_of w b kind
statement_rule w b [] kind h = ap (rule_of w b) h.1
statement_rule w b (t ∷ ts) kind h = if_false _ h.0 ∙ token_rule w b t.token ∙ ap (rule_of w b) h.1

-- the way into a statement of the kind
pub statement_begins : {b : Bool} {d : ℕ} {w : Scene} {ts : List Placed} {q : Process (Value (AStmt (Statement b)))} {rule : Produces w (AStmt (Statement b)) q} (kind : StatementKind) → StatementStarts w ts kind → rule_of w b kind ≡ Some (q, rule) → Path (AStmt (Statement b)) (λ o. Goes d w (AStmt (Statement b)) ts o) d w q ts
statement_begins {b} {d} {w} {ts} kind h e = begin (λ o g. g) refl (statement_rule w b ts kind h ∙ e)
