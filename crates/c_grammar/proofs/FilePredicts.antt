-- The descent takes the production of initialisers, declarations, statements and files whose first token comes.
use Rattle.std.proofs.Common.{◌≡◌, refl, ◌∙◌, ap, Bool, true, not, ◌&&◌, List, [], ◌∷◌, None}
use Rattle.c_syntax_written.specs.declared.token.Keyword.TheVariants as keywords
use Rattle.c_syntax_written.specs.declared.token.Placed.{Placed}
use Rattle.c_syntax_written.specs.declared.token.Punctuator.TheVariants as signs
use Rattle.c_syntax_written.specs.declared.token.Token.{Token}
use Rattle.c_syntax_written.specs.declared.token.Token.TheVariants as kinds
use Rattle.c_grammar.specs.declared.parts.Level.TheVariants.{Commas}
use Rattle.c_grammar.specs.declared.parts.Role.TheVariants.{Naming}
use Rattle.c_grammar.specs.Parts.{Scene, Part, Assignment, AnExpr, ADeclarator, ADecl, Declarator, Declaration, Initial, Ending, Initialiser, Item, Run, Value}
use Rattle.c_grammar.specs.Process.{Process}
use Rattle.c_grammar.specs.Made.{ends_open}
use Rattle.c_grammar.specs.Ahead.{is_spec_word, spec_ahead, label_ahead}
use Rattle.c_grammar.specs.FileRules.{FileRule}
use Rattle.c_grammar.specs.FileRules as files
use Rattle.c_grammar.specs.Grammar.{Produces, expr_rule, type_rule, file_rule}
use Rattle.c_grammar.specs.Refused.{part_construct}
use Rattle.c_grammar.specs.Choice.{this, statement_choice, is_else_word}
use Rattle.c_grammar.proofs.Table.{Leads, IsChoice}
use Rattle.c_grammar.proofs.Sets.{class_of, not_true}
use Rattle.c_grammar.proofs.Firsts.{begins, expr_first}
use Rattle.c_grammar.proofs.Own.{never}
use Rattle.c_grammar.proofs.Led.{leads_nothing, led, full_begins, seen, pick, skip, not_brace, not_right_brace, not_semicolon, not_assign}
use Rattle.c_grammar.proofs.ExprPredicts.{expr_predicts}
use Rattle.c_grammar.proofs.TypePredicts.{type_predicts}

-- what begins an expression begins no other statement
expression_read : (w : Scene) (b : Bool) (t : Token) → expr_first (class_of w t) ≡ true → statement_choice w b t ≡ this (file_rule files.expression)
expression_read w b (kinds.Punctuator signs.LeftBrace) h = never h
expression_read w b (kinds.Punctuator signs.Semicolon) h = never h
expression_read w b (kinds.Punctuator _) h = refl
expression_read w b (kinds.Keyword keywords.Sizeof) h = refl
expression_read w b (kinds.Keyword _) h = never h
expression_read w b _ h = refl

both : (a b : Bool) → a ≡ true → b ≡ true → (a && b) ≡ true
both a b e f = ap (λ x. x && b) e ∙ f

pub file_predicts : {w : Scene} {p : Part} {q : Process (Value p)} → FileRule w p q → (t : Placed) (ts : List Placed) → Leads begins w p q (t ∷ ts) → IsChoice w p (t ∷ ts) q
unfolding is_spec_word
file_predicts (files.value {w}) t ts l = (file_rule files.value, skip _ _ _ (not_brace (begins w (AnExpr Assignment)) refl t.token (full_begins refl l)))
file_predicts files.initialisers t ts l = (file_rule files.initialisers, refl)
file_predicts (files.initialisers_next {w}) t ts l = (file_rule files.initialisers_next, skip _ _ _ (not_right_brace (begins w Initialiser) refl t.token (full_begins refl l)))
file_predicts files.declaration t ts l = (file_rule files.declaration, refl)
file_predicts (files.declared {w}) t ts l = (file_rule files.declared, skip _ _ _ (not_semicolon (begins w (ADeclarator (Declarator Naming))) refl t.token (full_begins refl l)))
file_predicts (files.not_initialised {w} {s} {before} {d}) t ts l = (file_rule files.not_initialised, skip _ _ _ (not_assign (begins w (ADecl (Ending s before))) refl t.token (full_begins refl l)))
file_predicts files.label t ts l = (file_rule files.label, pick _ _ _ (led l).0)
file_predicts (files.expression {w} {b}) t ts l = (file_rule files.expression, skip _ _ _ (not_true (label_ahead w (t ∷ ts)) (led l).0) ∙ expression_read w b t.token (full_begins refl (led l).1))
file_predicts files.no_else t ts l = absurd (led l)
file_predicts (files.with_else {first}) t ts l = (file_rule files.with_else, pick _ _ _ (both (is_else_word t.token) (not (ends_open first)) (ap is_else_word (led (led l).1)) (led l).0))
file_predicts (files.for_declares {w}) t ts l = (file_rule files.for_declares, skip _ _ _ (not_semicolon (begins w (ADecl Declaration)) refl t.token (full_begins refl (led l).1)) ∙ pick _ _ _ (led l).0)
file_predicts (files.for_value {w}) t ts l = (file_rule files.for_value, skip _ _ _ (not_semicolon (begins w (AnExpr (Run Commas))) refl t.token (full_begins refl (led l).1)) ∙ skip _ _ _ (not_true (spec_ahead w (t ∷ ts)) (led l).0))
file_predicts (files.items_more {w}) t ts l = (file_rule files.items_more, skip _ _ _ (not_right_brace (begins w Item) refl t.token (full_begins refl l)))
file_predicts files.item_declares t ts l = (file_rule files.item_declares, pick _ _ _ (led l).0)
file_predicts (files.item_does {w}) t ts l = (file_rule files.item_does, skip _ _ _ (not_true (spec_ahead w (t ∷ ts)) (led l).0))
file_predicts files.outer t ts l = (file_rule files.outer, refl)
file_predicts (files.outer_declared {w}) t ts l = (file_rule files.outer_declared, skip _ _ _ (not_semicolon (begins w (ADeclarator (Declarator Naming))) refl t.token (full_begins refl l)))
file_predicts (files.outer_initial {w} {s} {d}) t ts l = (file_rule files.outer_initial, skip _ _ _ (not_brace (begins w (ADecl (Initial s [] d))) refl t.token (full_begins refl l)))
file_predicts files.file_end t ts l = absurd (led (led l).1)
file_predicts files.file_more t ts l = (file_rule files.file_more, refl)
file_predicts {w} {p} r t ts l = (file_rule r, seen w p t ts (led l))

rule_predicts : {w : Scene} {p : Part} {q : Process (Value p)} → Produces w p q → (t : Placed) (ts : List Placed) → Leads begins w p q (t ∷ ts) → part_construct w p (t ∷ ts) ≡ None → IsChoice w p (t ∷ ts) q
rule_predicts (expr_rule r) t ts l n = expr_predicts r t ts l
rule_predicts (type_rule r) t ts l n = type_predicts r t ts l n
rule_predicts (file_rule r) t ts l n = file_predicts r t ts l

pub predicts : {w : Scene} {p : Part} {q : Process (Value p)} → Produces w p q → (ts : List Placed) → Leads begins w p q ts → part_construct w p ts ≡ None → IsChoice w p ts q
predicts rule [] l n = leads_nothing l
predicts rule (t ∷ ts) l n = rule_predicts rule t ts l n
