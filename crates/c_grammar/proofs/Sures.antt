-- The descent has a production for a part that may be empty, and that production does not fail at its first token.
use Rattle.std.proofs.Common.{◌≡◌, refl, sym, ◌∙◌, ap, subst, Bool, true, false, not, ◌&&◌, ◌||◌, if◌then◌else◌, List, [], ◌∷◌, Option, Some, None}
use Rattle.c_syntax_written.specs.declared.token.Keyword.TheVariants as keywords
use Rattle.c_syntax_written.specs.declared.token.Placed.{Placed}
use Rattle.c_syntax_written.specs.declared.token.Punctuator.{Punctuator}
use Rattle.c_syntax_written.specs.declared.token.Punctuator.TheVariants as signs
use Rattle.c_syntax_written.specs.declared.token.Token.{Token}
use Rattle.c_syntax_written.specs.declared.token.Token.TheVariants as kinds
use Rattle.c_syntax_written.specs.Written.{ExprTree, DeclaratorTree, SpecTrees}
use Rattle.c_syntax_written.specs.Written as trees
use Rattle.c_grammar.specs.declared.parts.Level.{Level}
use Rattle.c_grammar.specs.declared.parts.Joint.{Joint}
use Rattle.c_grammar.specs.declared.parts.Role.{Role}
use Rattle.c_grammar.specs.declared.parts.Role.TheVariants.{OfParameter, OfTypeName}
use Rattle.c_grammar.specs.Parts.{Scene, ExprPart, More, Assigned, Chosen, Suffixes, Texts, Part, AnExpr, ASpec, ADeclarator, AStmt, Spec, StructureTagged, EnumerationTagged, DeclaratorPart, Declarator, Pointed, Direct, Tails, Else, AfterType, MoreSpecs, EnumeratorValue, Value}
use Rattle.c_grammar.specs.declared.class.Class.TheVariants.{Word as word, TypeName as type_name, Text as text}
use Rattle.c_grammar.specs.Classes.{Fits, joint_sign, level_of, names_type}
use Rattle.c_grammar.specs.Process.{Process}
use Rattle.c_grammar.specs.Made.{ends_open}
use Rattle.c_grammar.specs.Ahead.{is_open, is_spec_word, begins_spec, no_group_ahead, spec_ahead, close_ahead}
use Rattle.c_grammar.specs.TypeRules as types
use Rattle.c_grammar.specs.FileRules as files
use Rattle.c_grammar.specs.Grammar.{Produces, type_rule, file_rule}
use Rattle.c_grammar.specs.Refused.{part_construct, may_be_empty, may_omit, is_brace}
use Rattle.c_grammar.specs.Choice.{ARule, this, choose, joint_of, joint_of_sign, same_level, more_rule, more_choice, assigned_choice, chosen_choice, call_choice, suffix_choice, texts_choice, name_choice, spec_token_choice, direct_word_choice, direct_choice, tails_choice, is_star, is_const_word, is_assign, is_else_word}
use Rattle.c_grammar.proofs.Table.{Sure, sure_give, sure_token, sure_part, sure_chain, sure_only}
use Rattle.c_grammar.proofs.Own.{never}

-- there is a choice, and it does not fail at its first token
abbrev SureOf : (w : Scene) (p : Part) → List Placed → Option (ARule w p) → Type 0
SureOf w p ts (Some rule) = Sure w p rule.0 ts
SureOf w p ts None = ⊥

-- the punctuator is how the joint is written
abbrev Writes : Punctuator → Option Joint → Type 0
Writes p (Some j) = p ≡ joint_sign j
Writes p None = Unit {0}

sign_written : (p : Punctuator) → Writes p (joint_of_sign p)
sign_written signs.Comma = refl
sign_written signs.Star = refl
sign_written signs.Slash = refl
sign_written signs.Percent = refl
sign_written signs.Plus = refl
sign_written signs.Minus = refl
sign_written signs.ShiftLeft = refl
sign_written signs.ShiftRight = refl
sign_written signs.Less = refl
sign_written signs.Greater = refl
sign_written signs.LessEqual = refl
sign_written signs.GreaterEqual = refl
sign_written signs.Equal = refl
sign_written signs.NotEqual = refl
sign_written signs.Ampersand = refl
sign_written signs.Caret = refl
sign_written signs.Bar = refl
sign_written signs.And = refl
sign_written signs.Or = refl
sign_written _ = tt

rule_sure : (w : Scene) (l : Level) (left : ExprTree) (t : Placed) (ts : List Placed) (j : Joint) → t.token ≡ kinds.Punctuator (joint_sign j) → (o : Option (level_of j ≡ l)) → SureOf w (AnExpr (More l left)) (t ∷ ts) (more_rule w l left j o)
rule_sure w l left t ts j e (Some same) = sure_token e
rule_sure w l left t ts j e None = sure_give

joint_sure : (w : Scene) (l : Level) (left : ExprTree) (t : Placed) (ts : List Placed) (p : Punctuator) → t.token ≡ kinds.Punctuator p → (o : Option Joint) → Writes p o → SureOf w (AnExpr (More l left)) (t ∷ ts) (more_choice w l left o)
joint_sure w l left t ts p e (Some j) h = rule_sure w l left t ts j (e ∙ ap kinds.Punctuator h) (same_level (level_of j) l)
joint_sure w l left t ts p e None h = sure_give

more_sure : (w : Scene) (l : Level) (left : ExprTree) (t : Placed) (ts : List Placed) (k : Token) → t.token ≡ k → SureOf w (AnExpr (More l left)) (t ∷ ts) (more_choice w l left (joint_of k))
more_sure w l left t ts (kinds.Punctuator p) e = joint_sure w l left t ts p e (joint_of_sign p) (sign_written p)
more_sure w l left t ts _ e = sure_give

assigned_sure : (w : Scene) (left : ExprTree) (t : Placed) (ts : List Placed) (k : Token) → t.token ≡ k → SureOf w (AnExpr (Assigned left)) (t ∷ ts) (assigned_choice w left k)
assigned_sure w left t ts (kinds.Punctuator signs.Assign) e = sure_token e
assigned_sure w left t ts (kinds.Punctuator signs.MultiplyAssign) e = sure_token e
assigned_sure w left t ts (kinds.Punctuator signs.DivideAssign) e = sure_token e
assigned_sure w left t ts (kinds.Punctuator signs.RemainderAssign) e = sure_token e
assigned_sure w left t ts (kinds.Punctuator signs.AddAssign) e = sure_token e
assigned_sure w left t ts (kinds.Punctuator signs.SubtractAssign) e = sure_token e
assigned_sure w left t ts (kinds.Punctuator signs.ShiftLeftAssign) e = sure_token e
assigned_sure w left t ts (kinds.Punctuator signs.ShiftRightAssign) e = sure_token e
assigned_sure w left t ts (kinds.Punctuator signs.AndAssign) e = sure_token e
assigned_sure w left t ts (kinds.Punctuator signs.XorAssign) e = sure_token e
assigned_sure w left t ts (kinds.Punctuator signs.OrAssign) e = sure_token e
assigned_sure w left t ts _ e = sure_give

chosen_sure : (w : Scene) (condition : ExprTree) (t : Placed) (ts : List Placed) (k : Token) → t.token ≡ k → SureOf w (AnExpr (Chosen condition)) (t ∷ ts) (chosen_choice w condition k)
chosen_sure w condition t ts (kinds.Punctuator signs.Question) e = sure_token e
chosen_sure w condition t ts _ e = sure_give

call_sure : (w : Scene) (base : ExprTree) (t : Placed) (ts : List Placed) → t.token ≡ kinds.Punctuator signs.LeftParenthesis → SureOf w (AnExpr (Suffixes base)) (t ∷ ts) (call_choice w base)
call_sure w (trees.Word at name) t ts e = sure_token e
call_sure w _ t ts e = sure_give

suffix_sure : (w : Scene) (base : ExprTree) (t : Placed) (ts : List Placed) (k : Token) → t.token ≡ k → SureOf w (AnExpr (Suffixes base)) (t ∷ ts) (suffix_choice w base k)
suffix_sure w base t ts (kinds.Punctuator signs.LeftParenthesis) e = call_sure w base t ts e
suffix_sure w base t ts (kinds.Punctuator signs.LeftBracket) e = sure_token e
suffix_sure w base t ts (kinds.Punctuator signs.Dot) e = sure_token e
suffix_sure w base t ts (kinds.Punctuator signs.Arrow) e = sure_token e
suffix_sure w base t ts (kinds.Punctuator signs.Increment) e = sure_token e
suffix_sure w base t ts (kinds.Punctuator signs.Decrement) e = sure_token e
suffix_sure w base t ts _ e = sure_give

texts_sure : (w : Scene) (at : _) (before : _) (t : Placed) (ts : List Placed) (k : Token) → t.token ≡ k → SureOf w (AnExpr (Texts at before)) (t ∷ ts) (texts_choice w at before k)
texts_sure w at before t ts (kinds.Text bytes) e = sure_token (subst (Fits w text) (sym e) tt)
texts_sure w at before t ts _ e = sure_give

expr_sure : (w : Scene) (p : ExprPart) (ts : List Placed) → may_be_empty (AnExpr p) ≡ true → SureOf w (AnExpr p) ts (choose w (AnExpr p) ts)
expr_sure w (More l left) [] h = sure_give
expr_sure w (More l left) (t ∷ ts) h = more_sure w l left t ts t.token refl
expr_sure w (Assigned left) [] h = sure_give
expr_sure w (Assigned left) (t ∷ ts) h = assigned_sure w left t ts t.token refl
expr_sure w (Chosen condition) [] h = sure_give
expr_sure w (Chosen condition) (t ∷ ts) h = chosen_sure w condition t ts t.token refl
expr_sure w (Suffixes base) [] h = sure_give
expr_sure w (Suffixes base) (t ∷ ts) h = suffix_sure w base t ts t.token refl
expr_sure w (Texts at before) [] h = sure_give
expr_sure w (Texts at before) (t ∷ ts) h = texts_sure w at before t ts t.token refl
expr_sure w _ ts h = never h

if_sure : (w : Scene) (p : Part) (ts : List Placed) (x y : Option (ARule w p)) (b : Bool) → (b ≡ true → SureOf w p ts x) → (b ≡ false → SureOf w p ts y) → SureOf w p ts (if b then x else y)
if_sure w p ts x y true f g = f refl
if_sure w p ts x y false f g = g refl

brace_token : (k : Token) → is_brace k ≡ true → k ≡ kinds.Punctuator signs.LeftBrace
brace_token (kinds.Punctuator signs.LeftBrace) h = refl
brace_token _ h = never h

assign_token : (k : Token) → is_assign k ≡ true → k ≡ kinds.Punctuator signs.Assign
assign_token (kinds.Punctuator signs.Assign) h = refl
assign_token _ h = never h

star_token : (k : Token) → is_star k ≡ true → k ≡ kinds.Punctuator signs.Star
star_token (kinds.Punctuator signs.Star) h = refl
star_token _ h = never h

const_token : (k : Token) → is_const_word k ≡ true → k ≡ kinds.Keyword keywords.Const
const_token (kinds.Keyword keywords.Const) h = refl
const_token _ h = never h

else_token : (k : Token) → is_else_word k ≡ true → k ≡ kinds.Keyword keywords.Else
else_token (kinds.Keyword keywords.Else) h = refl
else_token _ h = never h

no_group : (w : Scene) (t : Placed) (ts : List Placed) (k : Token) → t.token ≡ k → is_open k ≡ false → no_group_ahead w (t ∷ ts) ≡ true
no_group w t ts k e h = ap (λ b. not b || (b && (spec_ahead w ts || close_ahead ts))) (ap is_open e ∙ h)

parameter_word : (w : Scene) (t : Placed) (ts : List Placed) (name : _) → t.token ≡ kinds.Word name → (b : Bool) → names_type w name ≡ b → SureOf w (ADeclarator (Direct OfParameter)) (t ∷ ts) (direct_word_choice w OfParameter b)
parameter_word w t ts name e true h = sure_only (no_group w t ts (kinds.Word name) e refl) (sure_chain refl)
parameter_word w t ts name e false h = sure_token (subst (Fits w word) (sym e) h)

parameter_sure : (w : Scene) (t : Placed) (ts : List Placed) (k : Token) → t.token ≡ k → SureOf w (ADeclarator (Direct OfParameter)) (t ∷ ts) (direct_choice w OfParameter k)
parameter_sure w t ts (kinds.Word name) e = parameter_word w t ts name e (names_type w name) refl
parameter_sure w t ts (kinds.Punctuator signs.LeftParenthesis) e = sure_token e
parameter_sure w t ts (kinds.Punctuator p) e = sure_only (no_group w t ts (kinds.Punctuator p) e refl) (sure_chain refl)
parameter_sure w t ts k e = sure_only (no_group w t ts k e refl) (sure_chain refl)

type_name_word : (w : Scene) (t : Placed) (ts : List Placed) (name : _) → t.token ≡ kinds.Word name → (b : Bool) → SureOf w (ADeclarator (Direct OfTypeName)) (t ∷ ts) (direct_word_choice w OfTypeName b)
type_name_word w t ts name e true = sure_only (no_group w t ts (kinds.Word name) e refl) (sure_chain refl)
type_name_word w t ts name e false = sure_only (no_group w t ts (kinds.Word name) e refl) (sure_chain refl)

type_name_sure : (w : Scene) (t : Placed) (ts : List Placed) (k : Token) → t.token ≡ k → SureOf w (ADeclarator (Direct OfTypeName)) (t ∷ ts) (direct_choice w OfTypeName k)
type_name_sure w t ts (kinds.Word name) e = type_name_word w t ts name e (names_type w name)
type_name_sure w t ts (kinds.Punctuator signs.LeftParenthesis) e = sure_token e
type_name_sure w t ts (kinds.Punctuator p) e = sure_only (no_group w t ts (kinds.Punctuator p) e refl) (sure_chain refl)
type_name_sure w t ts k e = sure_only (no_group w t ts k e refl) (sure_chain refl)

direct_sure : (w : Scene) (r : Role) (ts : List Placed) → may_omit r ≡ true → SureOf w (ADeclarator (Direct r)) ts (choose w (ADeclarator (Direct r)) ts)
direct_sure w OfParameter [] h = sure_only refl (sure_chain refl)
direct_sure w OfParameter (t ∷ ts) h = parameter_sure w t ts t.token refl
direct_sure w OfTypeName [] h = sure_only refl (sure_chain refl)
direct_sure w OfTypeName (t ∷ ts) h = type_name_sure w t ts t.token refl
direct_sure w _ ts h = never h

tails_sure : (w : Scene) (r : Role) (is_plain : Bool) (d : DeclaratorTree) (t : Placed) (ts : List Placed) (k : Token) → t.token ≡ k → SureOf w (ADeclarator (Tails r is_plain d)) (t ∷ ts) (tails_choice w r is_plain d k)
tails_sure w r is_plain d t ts (kinds.Punctuator signs.LeftBracket) e = sure_token e
tails_sure w r is_plain d t ts (kinds.Punctuator signs.LeftParenthesis) e = sure_token e
tails_sure w r is_plain d t ts _ e = sure_give

declarator_sure : (w : Scene) (p : DeclaratorPart) (ts : List Placed) → may_be_empty (ADeclarator p) ≡ true → SureOf w (ADeclarator p) ts (choose w (ADeclarator p) ts)
declarator_sure w (Declarator r) [] h = sure_chain h
declarator_sure w (Declarator r) (t ∷ ts) h = if_sure w (ADeclarator (Declarator r)) (t ∷ ts) _ _ (is_star t.token) (λ e. sure_token (star_token t.token e)) (λ e. sure_chain h)
declarator_sure w (Pointed r at is_const) [] h = sure_chain h
declarator_sure w (Pointed r at is_const) (t ∷ ts) h = if_sure w (ADeclarator (Pointed r at is_const)) (t ∷ ts) _ _ (is_const_word t.token) (λ e. sure_token (const_token t.token e)) (λ e. sure_chain h)
declarator_sure w (Direct r) ts h = direct_sure w r ts h
declarator_sure w (Tails r is_plain d) [] h = sure_give
declarator_sure w (Tails r is_plain d) (t ∷ ts) h = tails_sure w r is_plain d t ts t.token refl
declarator_sure w _ ts h = never h

name_sure : (w : Scene) (t : Placed) (ts : List Placed) (name : _) → t.token ≡ kinds.Word name → (b : Bool) → names_type w name ≡ b → b ≡ true → SureOf w (ASpec Spec) (t ∷ ts) (name_choice w b)
name_sure w t ts name e true h i = sure_token (subst (Fits w type_name) (sym e) h)
name_sure w t ts name e false h i = never i

spec_sure : (w : Scene) (t : Placed) (ts : List Placed) (k : Token) → t.token ≡ k → begins_spec w k ≡ true → SureOf w (ASpec Spec) (t ∷ ts) (spec_token_choice w k)
unfolding is_spec_word
spec_sure w t ts (kinds.Word name) e h = name_sure w t ts name e (names_type w name) refl h
spec_sure w t ts (kinds.Keyword keywords.Typedef) e h = sure_token e
spec_sure w t ts (kinds.Keyword keywords.Extern) e h = sure_token e
spec_sure w t ts (kinds.Keyword keywords.Static) e h = sure_token e
spec_sure w t ts (kinds.Keyword keywords.Auto) e h = sure_token e
spec_sure w t ts (kinds.Keyword keywords.Register) e h = sure_token e
spec_sure w t ts (kinds.Keyword keywords.Const) e h = sure_token e
spec_sure w t ts (kinds.Keyword keywords.Void) e h = sure_token e
spec_sure w t ts (kinds.Keyword keywords.Char) e h = sure_token e
spec_sure w t ts (kinds.Keyword keywords.Short) e h = sure_token e
spec_sure w t ts (kinds.Keyword keywords.Int) e h = sure_token e
spec_sure w t ts (kinds.Keyword keywords.Long) e h = sure_token e
spec_sure w t ts (kinds.Keyword keywords.Signed) e h = sure_token e
spec_sure w t ts (kinds.Keyword keywords.Unsigned) e h = sure_token e
spec_sure w t ts (kinds.Keyword keywords.Struct) e h = sure_token e
spec_sure w t ts (kinds.Keyword keywords.Enum) e h = sure_token e
spec_sure w t ts _ e h = never h

-- a choice that is sure is one
found : (w : Scene) (p : Part) (ts : List Placed) (o : Option (ARule w p)) → SureOf w p ts o → (rule : ARule w p) × (o ≡ Some rule) × Sure w p rule.0 ts
found w p ts (Some rule) h = (rule, refl, h)
found w p ts None h = absurd h

specs_sure : (w : Scene) (before : SpecTrees) (t : Placed) (ts : List Placed) → begins_spec w t.token ≡ true → SureOf w (MoreSpecs before) (t ∷ ts) (this (type_rule types.specs_more))
specs_sure w before t ts h = let f = found w (ASpec Spec) (t ∷ ts) (spec_token_choice w t.token) (spec_sure w t ts t.token refl h) in sure_part f.0.1 f.1 f.2

more_specs_sure : (w : Scene) (before : SpecTrees) (ts : List Placed) → SureOf w (MoreSpecs before) ts (choose w (MoreSpecs before) ts)
more_specs_sure w before [] = sure_only refl sure_give
more_specs_sure w before (t ∷ ts) = if_sure w (MoreSpecs before) (t ∷ ts) _ _ (begins_spec w t.token) (λ e. specs_sure w before t ts e) (λ e. sure_only (ap not e) sure_give)

else_sure : (w : Scene) (at : _) (condition : ExprTree) (first : _) (t : Placed) (ts : List Placed) (b c : Bool) → is_else_word t.token ≡ b → not (ends_open first) ≡ c → SureOf w (AStmt (Else at condition first)) (t ∷ ts) (if b && c then this (file_rule files.with_else) else this (file_rule files.no_else))
else_sure w at condition first t ts true true e f = sure_only f (sure_token (else_token t.token e))
else_sure w at condition first t ts true false e f = sure_give
else_sure w at condition first t ts false c e f = sure_give

choice_sure : (w : Scene) (p : Part) (ts : List Placed) → may_be_empty p ≡ true → SureOf w p ts (choose w p ts)
choice_sure w (AnExpr p) ts h = expr_sure w p ts h
choice_sure w (ASpec (StructureTagged at tag)) [] h = sure_give
choice_sure w (ASpec (StructureTagged at tag)) (t ∷ ts) h = if_sure w (ASpec (StructureTagged at tag)) (t ∷ ts) _ _ (is_brace t.token) (λ e. sure_token (brace_token t.token e)) (λ e. sure_give)
choice_sure w (ASpec (EnumerationTagged at tag)) [] h = sure_give
choice_sure w (ASpec (EnumerationTagged at tag)) (t ∷ ts) h = if_sure w (ASpec (EnumerationTagged at tag)) (t ∷ ts) _ _ (is_brace t.token) (λ e. sure_token (brace_token t.token e)) (λ e. sure_give)
choice_sure w (ASpec _) ts h = never h
choice_sure w (ADeclarator p) ts h = declarator_sure w p ts h
choice_sure w (AStmt (Else at condition first)) [] h = sure_give
choice_sure w (AStmt (Else at condition first)) (t ∷ ts) h = else_sure w at condition first t ts (is_else_word t.token) (not (ends_open first)) refl refl
choice_sure w (AStmt _) ts h = never h
choice_sure w AfterType ts h = sure_give
choice_sure w (MoreSpecs before) ts h = more_specs_sure w before ts
choice_sure w (EnumeratorValue at name) [] h = sure_give
choice_sure w (EnumeratorValue at name) (t ∷ ts) h = if_sure w (EnumeratorValue at name) (t ∷ ts) _ _ (is_assign t.token) (λ e. sure_token (assign_token t.token e)) (λ e. sure_give)
choice_sure w _ ts h = never h

pub sure : {w : Scene} {p : Part} {q : Process (Value p)} (ts : List Placed) (rule : Produces w p q) → may_be_empty p ≡ true → part_construct w p ts ≡ None → choose w p ts ≡ Some (q, rule) → Sure w p q ts
sure {w} {p} ts rule h n e = subst (SureOf w p ts) e (choice_sure w p ts h)

empty_chosen : (w : Scene) (p : Part) (ts : List Placed) → choose w p ts ≡ None → (b : Bool) → may_be_empty p ≡ b → b ≡ false
empty_chosen w p ts e true h = absurd (subst (SureOf w p ts) e (choice_sure w p ts h))
empty_chosen w p ts e false h = refl

pub no_choice : (w : Scene) (p : Part) (ts : List Placed) → choose w p ts ≡ None → may_be_empty p ≡ false
no_choice w p ts e = empty_chosen w p ts e (may_be_empty p) refl
