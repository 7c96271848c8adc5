-- The descent takes the production of expressions whose first token comes.
use Rattle.std.proofs.Common.{◌≡◌, refl, ◌∙◌, ap, subst, true, false, List, ◌∷◌, Some}
use Rattle.c_syntax_written.specs.declared.step.StepWay.{StepWay}
use Rattle.c_syntax_written.specs.declared.step.StepWay.TheVariants as ways
use Rattle.c_syntax_written.specs.declared.token.Placed.{Placed}
use Rattle.c_syntax_written.specs.declared.token.Punctuator.TheVariants as signs
use Rattle.c_syntax_written.specs.declared.token.Token.{Token}
use Rattle.c_syntax_written.specs.declared.token.Token.TheVariants as kinds
use Rattle.c_syntax_written.specs.declared.written.AssignOp.{AssignOp}
use Rattle.c_syntax_written.specs.declared.written.AssignOp.TheVariants as assigns
use Rattle.c_syntax_written.specs.declared.written.UnaryOp.{UnaryOp}
use Rattle.c_syntax_written.specs.declared.written.UnaryOp.TheVariants as unaries
use Rattle.c_syntax_written.specs.Written.{ExprTree}
use Rattle.c_grammar.specs.declared.parts.Level.{Level}
use Rattle.c_grammar.specs.declared.parts.Level.TheVariants.{Commas}
use Rattle.c_grammar.specs.declared.parts.Closing.{Closing}
use Rattle.c_grammar.specs.declared.parts.Closing.TheVariants.{BySemicolon as by_semicolon, ByParenthesis as by_parenthesis, ByBracket as by_bracket, ByColon as by_colon}
use Rattle.c_grammar.specs.Parts.{Scene, Part, AnExpr, More, Assigned, Suffixes, Unary, Run, Assignment, Optionally, Value}
use Rattle.c_grammar.specs.declared.class.Class.TheVariants.{Word as word, Number as number, Character as character, Text as text}
use Rattle.c_grammar.specs.Classes.{Fits, unary_sign, step_sign, closing_sign, level_of, assign_sign}
use Rattle.c_grammar.specs.Process.{Process}
use Rattle.c_grammar.specs.Ahead.{type_ahead}
use Rattle.c_grammar.specs.ExprRules.{ExprRule}
use Rattle.c_grammar.specs.ExprRules as exprs
use Rattle.c_grammar.specs.Grammar.{expr_rule}
use Rattle.c_grammar.specs.Choice.{this, choose, same_level, more_choice, more_rule, assigned_choice, unary_choice, suffix_choice, word_choice, primary_choice, texts_choice, is_closing}
use Rattle.c_grammar.proofs.Table.{Leads, IsChoice}
use Rattle.c_grammar.proofs.Sets.{class_of, not_true}
use Rattle.c_grammar.proofs.Firsts.{begins, primary_first}
use Rattle.c_grammar.proofs.Own.{never, joint_read}
use Rattle.c_grammar.proofs.Led.{led, full_begins, seen, pick, skip, not_close, not_semicolon, not_right_bracket, not_colon}

same_itself : (a : Level) → same_level a a ≡ Some refl
same_itself Commas = refl
same_itself _ = refl

same_some : (a b : Level) → a ≡ b → (e : a ≡ b) × (same_level a b ≡ Some e)
same_some a b h = subst (λ b. (e : a ≡ b) × (same_level a b ≡ Some e)) h (refl, same_itself a)

compound_read : (w : Scene) (left : ExprTree) (op : AssignOp) → assigned_choice w left (kinds.Punctuator (assign_sign op)) ≡ this (expr_rule (exprs.compound op))
compound_read w left assigns.Plus = refl
compound_read w left _ = refl

unary_read : (w : Scene) (op : UnaryOp) → unary_choice w (kinds.Punctuator (unary_sign op)) ≡ this (expr_rule (exprs.unary op))
unary_read w unaries.Plus = refl
unary_read w _ = refl

pre_step_read : (w : Scene) (way : StepWay) → unary_choice w (kinds.Punctuator (step_sign way)) ≡ this (expr_rule (exprs.pre_step way))
pre_step_read w ways.Up = refl
pre_step_read w ways.Down = refl

post_step_read : (w : Scene) (base : ExprTree) (way : StepWay) → suffix_choice w base (kinds.Punctuator (step_sign way)) ≡ this (expr_rule (exprs.post_step way))
post_step_read w base ways.Up = refl
post_step_read w base ways.Down = refl

-- what begins a primary expression is no prefix
prefix_none : (w : Scene) (t : Token) → primary_first (class_of w t) ≡ true → unary_choice w t ≡ this (expr_rule exprs.no_prefix)
prefix_none w (kinds.Punctuator signs.LeftParenthesis) h = refl
prefix_none w (kinds.Punctuator _) h = never h
prefix_none w (kinds.Keyword k) h = never h
prefix_none w _ h = refl

word_read : (w : Scene) (t : Token) → Fits w word t → primary_choice w t ≡ this (expr_rule exprs.a_word)
word_read w (kinds.Word name) h = ap (word_choice w) h
word_read w _ h = absurd h

number_read : (w : Scene) (t : Token) → Fits w number t → primary_choice w t ≡ this (expr_rule exprs.a_number)
number_read w (kinds.Number c) h = refl
number_read w _ h = absurd h

character_read : (w : Scene) (t : Token) → Fits w character t → primary_choice w t ≡ this (expr_rule exprs.a_character)
character_read w (kinds.Character n) h = refl
character_read w _ h = absurd h

text_read : (w : Scene) (t : Token) → Fits w text t → primary_choice w t ≡ this (expr_rule exprs.a_text)
text_read w (kinds.Text bytes) h = refl
text_read w _ h = absurd h

texts_read : (w : Scene) (at : _) (before : _) (t : Token) → Fits w text t → texts_choice w at before t ≡ this (expr_rule exprs.texts_more)
texts_read w at before (kinds.Text bytes) h = refl
texts_read w at before _ h = absurd h

nothing_read : (w : Scene) (p : Closing) (t : Placed) (ts : List Placed) → t.token ≡ kinds.Punctuator (closing_sign p) → choose w (Optionally p) (t ∷ ts) ≡ this (expr_rule exprs.nothing_before)
nothing_read w by_semicolon t ts e = seen w (Optionally by_semicolon) t ts e
nothing_read w by_parenthesis t ts e = seen w (Optionally by_parenthesis) t ts e
nothing_read w by_bracket t ts e = seen w (Optionally by_bracket) t ts e
nothing_read w by_colon t ts e = seen w (Optionally by_colon) t ts e

not_closing : (w : Scene) (p : Closing) (t : Token) → begins w (AnExpr (Run Commas)) t ≡ true → is_closing p t ≡ false
not_closing w by_semicolon t h = not_semicolon (begins w (AnExpr (Run Commas))) refl t h
not_closing w by_parenthesis t h = not_close (begins w (AnExpr (Run Commas))) refl t h
not_closing w by_bracket t h = not_right_bracket (begins w (AnExpr (Run Commas))) refl t h
not_closing w by_colon t h = not_colon (begins w (AnExpr (Run Commas))) refl t h

pub expr_predicts : {w : Scene} {p : Part} {q : Process (Value p)} → ExprRule w p q → (t : Placed) (ts : List Placed) → Leads begins w p q (t ∷ ts) → IsChoice w p (t ∷ ts) q
expr_predicts exprs.run t ts l = (expr_rule exprs.run, refl)
expr_predicts exprs.run_end t ts l = absurd (led l)
expr_predicts (exprs.run_more {w} {l = a} {left} j e) t ts l =
    let s : (e : level_of j ≡ a) × (same_level (level_of j) a ≡ Some e) = same_some (level_of j) a e in
    (expr_rule (exprs.run_more j s.0), seen w (AnExpr (More a left)) t ts (led l) ∙ (ap (more_choice w a left) (joint_read j) ∙ ap (more_rule w a left j) s.1))
expr_predicts exprs.assignment t ts l = (expr_rule exprs.assignment, refl)
expr_predicts exprs.not_assigned t ts l = absurd (led l)
expr_predicts (exprs.compound {w} {left} op) t ts l = (expr_rule (exprs.compound op), seen w (AnExpr (Assigned left)) t ts (led l) ∙ compound_read w left op)
expr_predicts exprs.conditional t ts l = (expr_rule exprs.conditional, refl)
expr_predicts exprs.not_chosen t ts l = absurd (led l)
expr_predicts exprs.cast t ts l = (expr_rule exprs.cast, pick _ _ _ (led l).0)
expr_predicts (exprs.no_cast {w}) t ts l = (expr_rule exprs.no_cast, skip _ _ _ (not_true (type_ahead w (t ∷ ts)) (led l).0))
expr_predicts exprs.operand_cast t ts l = (expr_rule exprs.operand_cast, refl)
expr_predicts (exprs.unary {w} op) t ts l = (expr_rule (exprs.unary op), seen w (AnExpr Unary) t ts (led l) ∙ unary_read w op)
expr_predicts (exprs.pre_step {w} way) t ts l = (expr_rule (exprs.pre_step way), seen w (AnExpr Unary) t ts (led l) ∙ pre_step_read w way)
expr_predicts exprs.size_of_type t ts l = (expr_rule exprs.size_of_type, pick _ _ _ (led l).0)
expr_predicts (exprs.size_of_expr {w}) t ts l = (expr_rule exprs.size_of_expr, skip _ _ _ (not_true (type_ahead w (t ∷ ts)) (led l).0))
expr_predicts exprs.after_type t ts l = absurd (led l)
expr_predicts (exprs.no_prefix {w}) t ts l = (expr_rule exprs.no_prefix, prefix_none w t.token (full_begins refl l))
expr_predicts exprs.postfix t ts l = (expr_rule exprs.postfix, refl)
expr_predicts exprs.no_suffix t ts l = absurd (led l)
expr_predicts (exprs.post_step {w} {base} way) t ts l = (expr_rule (exprs.post_step way), seen w (AnExpr (Suffixes base)) t ts (led l) ∙ post_step_read w base way)
expr_predicts (exprs.arguments {w}) t ts l = (expr_rule exprs.arguments, skip _ _ _ (not_close (begins w (AnExpr Assignment)) refl t.token (full_begins refl l)))
expr_predicts (exprs.a_word {w}) t ts l = (expr_rule exprs.a_word, word_read w t.token (led l))
expr_predicts (exprs.a_number {w}) t ts l = (expr_rule exprs.a_number, number_read w t.token (led l))
expr_predicts (exprs.a_character {w}) t ts l = (expr_rule exprs.a_character, character_read w t.token (led l))
expr_predicts (exprs.a_text {w}) t ts l = (expr_rule exprs.a_text, text_read w t.token (led l))
expr_predicts exprs.texts_end t ts l = absurd (led l)
expr_predicts (exprs.texts_more {w} {at} {before}) t ts l = (expr_rule exprs.texts_more, texts_read w at before t.token (led l))
expr_predicts exprs.closes t ts l = (expr_rule exprs.closes, refl)
expr_predicts exprs.member_name t ts l = (expr_rule exprs.member_name, refl)
expr_predicts (exprs.nothing_before {w} {p}) t ts l = (expr_rule exprs.nothing_before, nothing_read w p t ts (led l))
expr_predicts (exprs.something_before {w} {p}) t ts l = (expr_rule exprs.something_before, skip _ _ _ (not_closing w p t.token (full_begins refl l)))
expr_predicts {w} {p} r t ts l = (expr_rule r, seen w p t ts (led l))
