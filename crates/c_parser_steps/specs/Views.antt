-- What the grammar sees of what the descent knows.
use Rattle.std.specs.Prelude.{Bool, true, false}
use Rattle.std.specs.declared.alloc.Global.{Global}
use Rattle.std.specs.declared.boxed.Box.{Box}
use Rattle.c_syntax_written.specs.declared.written.Declarator.{Declarator}
use Rattle.c_syntax_written.specs.declared.written.Expr.{Expr}
use Rattle.c_syntax_written.specs.Written.{DeclaratorTree, ExprTree, declarator_tree, expr_tree}
use Rattle.c_syntax_written.specs.declared.token.Punctuator.TheVariants as signs
use Rattle.c_syntax_written.specs.declared.token.Token.{Token}
use Rattle.c_syntax_written.specs.declared.token.Token.TheVariants as kinds
use Rattle.c_grammar.specs.Parts.{Scene}
use Rattle.c_grammar.specs.Ahead.{is_open, is_close, is_colon}
use Rattle.c_grammar.specs.Refused.{is_brace, is_right_bracket}
use Rattle.c_grammar.specs.Choice.{is_right_brace, is_semicolon, is_assign, is_star, is_const_word, is_else_word}
use Rattle.c_parser_steps.specs.declared.context.Context.{Context}
use Rattle.c_parser_steps.specs.declared.look.Lookahead.{Lookahead}
use Rattle.c_parser_steps.specs.declared.look.Lookahead.TheVariants as lookaheads

-- the scene of the tokens
abbrev pub scene_of : Context → Scene
scene_of context = record { types = context.types.now; setting = context.setting }

-- the trees of what stands in a box of its own
abbrev pub boxed_expr : Box Expr Global → ExprTree
boxed_expr e = expr_tree e.value

abbrev pub boxed_declarator : Box Declarator Global → DeclaratorTree
boxed_declarator d = declarator_tree d.value

abbrev pub is_question : Token → Bool
is_question (kinds.Punctuator signs.Question) = true
is_question _ = false

abbrev pub is_text : Token → Bool
is_text (kinds.Text bytes) = true
is_text _ = false

-- the token is the one that is looked for
abbrev pub lookahead_test : Lookahead → Token → Bool
lookahead_test lookaheads.Open = is_open
lookahead_test lookaheads.Close = is_close
lookahead_test lookaheads.RightBracket = is_right_bracket
lookahead_test lookaheads.Brace = is_brace
lookahead_test lookaheads.RightBrace = is_right_brace
lookahead_test lookaheads.Semicolon = is_semicolon
lookahead_test lookaheads.Colon = is_colon
lookahead_test lookaheads.Assign = is_assign
lookahead_test lookaheads.Star = is_star
lookahead_test lookaheads.Question = is_question
lookahead_test lookaheads.Const = is_const_word
lookahead_test lookaheads.Else = is_else_word
lookahead_test lookaheads.Text = is_text
