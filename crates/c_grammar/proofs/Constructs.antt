-- Tokens that bear a construct of a part begin it, and none bears one of itself; nor does one that continues a part.
use Rattle.std.proofs.Common.{◌≡◌, refl, sym, subst, Bool, true, false, not, ◌&&◌, ◌||◌, List, ◌∷◌, Option, Some, None}
use Rattle.c_syntax_written.specs.declared.construct.Construct.{Construct}
use Rattle.c_syntax_written.specs.declared.token.Keyword.{Keyword}
use Rattle.c_syntax_written.specs.declared.token.Placed.{Placed}
use Rattle.c_syntax_written.specs.declared.token.Token.{Token}
use Rattle.c_syntax_written.specs.declared.token.Token.TheVariants as kinds
use Rattle.c_grammar.specs.declared.parts.Setting.{Setting}
use Rattle.c_grammar.specs.declared.parts.Setting.TheVariants.{AtFile, InBlock, InSwitch}
use Rattle.c_grammar.specs.declared.parts.Level.{Level}
use Rattle.c_grammar.specs.declared.parts.Level.TheVariants.{Commas}
use Rattle.c_grammar.specs.Parts.{Scene, ExprPart, Run, More, Operand, Unary, Suffixes, DeclaratorPart, Declarator, Direct, Tails, Size, Part, AnExpr, ASpec, ADeclarator, AStmt, AfterType, Specs, MoreSpecs, MoreDeclarators, AnEnumerator, EnumeratorValue, Parameter, Initialiser, Item, Value}
use Rattle.c_grammar.specs.declared.class.Class.{Class}
use Rattle.c_grammar.specs.declared.class.Class.TheVariants.{Keyword as keyword, Sign as sign}
use Rattle.c_grammar.specs.Classes.{names_type}
use Rattle.c_grammar.specs.Made.{is_word, has_type, is_given, ends_open}
use Rattle.c_grammar.specs.Ahead.{is_open, is_colon, is_plain_word, is_spec_word, spec_ahead, close_ahead, params_ahead}
use Rattle.c_grammar.specs.Refused.{token_construct, keyword_construct, sign_construct, part_construct, where_true, may_name, may_omit, in_member, is_brace, begins_designator, is_right_bracket, is_type_name}
use Rattle.c_grammar.specs.Choice.{is_else_word}
use Rattle.c_grammar.proofs.Sweep.{and_left, and_right}
use Rattle.c_grammar.proofs.Sets.{class_of, word_class, inside, inside_true, not_true}
use Rattle.c_grammar.proofs.Firsts.{by_token, is_given_option, is_typedef_name, is_plain, firsts, nexts, expr_nexts, run_nexts, declarator_nexts, begins, continues}
use Rattle.c_grammar.proofs.Own.{never}

abbrev pub IsNone : Option Construct → Type 0
IsNone None = Unit {0}
IsNone (Some c) = ⊥

pub none_some : (c : Construct) → None ≡ Some c → ⊥
none_some c e = subst IsNone e tt

where_some : (b : Bool) (c d : Construct) → where_true b c ≡ Some d → b ≡ true
where_some true c d e = refl
where_some false c d e = absurd (none_some d e)

-- the classes that bear a construct of the part
abbrev pub bearing_expr : ExprPart → Class → Bool
bearing_expr Operand c = by_token is_brace c
bearing_expr (Suffixes base) c = by_token is_open c
bearing_expr _ c = false

abbrev pub bearing_declarator : DeclaratorPart → Class → Bool
bearing_declarator (Declarator r) c = is_typedef_name c
bearing_declarator (Direct r) c = by_token is_open c
bearing_declarator (Tails r is_plain d) c = by_token is_open c
bearing_declarator (Size r at d) c = by_token is_right_bracket c
bearing_declarator _ c = false

abbrev pub bearing : Part → Class → Bool
bearing (AnExpr p) c = bearing_expr p c
bearing (ADeclarator p) c = bearing_declarator p c
bearing AfterType c = by_token is_brace c
bearing (MoreSpecs before) c = is_typedef_name c
bearing (MoreDeclarators s before) c = by_token is_colon c
bearing Initialiser c = by_token begins_designator c
bearing Parameter c = is_plain c
bearing _ c = false

brace_class : (w : Scene) (t : Token) → is_brace t ≡ true → by_token is_brace (class_of w t) ≡ true
brace_class w (kinds.Punctuator p) h = h
brace_class w _ h = never h

open_class : (w : Scene) (t : Token) → is_open t ≡ true → by_token is_open (class_of w t) ≡ true
open_class w (kinds.Punctuator p) h = h
open_class w _ h = never h

bracket_class : (w : Scene) (t : Token) → is_right_bracket t ≡ true → by_token is_right_bracket (class_of w t) ≡ true
bracket_class w (kinds.Punctuator p) h = h
bracket_class w _ h = never h

colon_class : (w : Scene) (t : Token) → is_colon t ≡ true → by_token is_colon (class_of w t) ≡ true
colon_class w (kinds.Punctuator p) h = h
colon_class w _ h = never h

designator_class : (w : Scene) (t : Token) → begins_designator t ≡ true → by_token begins_designator (class_of w t) ≡ true
designator_class w (kinds.Punctuator p) h = h
designator_class w _ h = never h

typedef_class : (w : Scene) (t : Token) → is_type_name w t ≡ true → is_typedef_name (class_of w t) ≡ true
typedef_class w (kinds.Word name) h = subst (λ b. is_typedef_name (word_class b) ≡ true) (sym h) refl
typedef_class w _ h = never h

plain_class : (w : Scene) (t : Token) → is_plain_word w t ≡ true → is_plain (class_of w t) ≡ true
plain_class w (kinds.Word name) h = subst (λ b. is_plain (word_class b) ≡ true) (sym (not_true (names_type w name) h)) refl
plain_class w _ h = never h

pub bears_class : (w : Scene) (p : Part) (t : Placed) (ts : List Placed) (c : Construct) → part_construct w p (t ∷ ts) ≡ Some c → bearing p (class_of w t.token) ≡ true
bears_class w (AnExpr Operand) t ts c e = brace_class w t.token (where_some (is_brace t.token) _ c e)
bears_class w (AnExpr (Suffixes base)) t ts c e = open_class w t.token (and_left (is_open t.token) (not (is_word base)) (where_some (is_open t.token && not (is_word base)) _ c e))
bears_class w (AnExpr Unary) t ts c e = absurd (none_some c e)
bears_class w (AnExpr _) t ts c e = absurd (none_some c e)
bears_class w (ADeclarator (Declarator r)) t ts c e = typedef_class w t.token (and_left (is_type_name w t.token) (may_name r) (where_some (is_type_name w t.token && may_name r) _ c e))
bears_class w (ADeclarator (Direct r)) t ts c e = open_class w t.token (and_left (is_open t.token) (spec_ahead w ts || close_ahead ts) (and_right (may_omit r) (params_ahead w (t ∷ ts)) (where_some (may_omit r && params_ahead w (t ∷ ts)) _ c e)))
bears_class w (ADeclarator (Tails r is_plain d)) t ts c e = open_class w t.token (and_left (is_open t.token) (not is_plain && is_given d) (where_some (is_open t.token && (not is_plain && is_given d)) _ c e))
bears_class w (ADeclarator (Size r at d)) t ts c e = bracket_class w t.token (and_left (is_right_bracket t.token) (in_member r) (where_some (is_right_bracket t.token && in_member r) _ c e))
bears_class w (ADeclarator _) t ts c e = absurd (none_some c e)
bears_class w AfterType t ts c e = brace_class w t.token (where_some (is_brace t.token) _ c e)
bears_class w (MoreSpecs before) t ts c e = typedef_class w t.token (and_left (is_type_name w t.token) (has_type before) (where_some (is_type_name w t.token && has_type before) _ c e))
bears_class w (MoreDeclarators s before) t ts c e = colon_class w t.token (where_some (is_colon t.token) _ c e)
bears_class w Initialiser t ts c e = designator_class w t.token (where_some (begins_designator t.token) _ c e)
bears_class w Parameter t ts c e = plain_class w t.token (where_some (is_plain_word w t.token) _ c e)
bears_class w _ t ts c e = absurd (none_some c e)

expr_bearing : (p : ExprPart) → inside (bearing_expr p) (firsts (AnExpr p)) ≡ true
expr_bearing Operand = refl
expr_bearing (Run l) = refl
expr_bearing _ = refl

declarator_bearing : (p : DeclaratorPart) → inside (bearing_declarator p) (firsts (ADeclarator p)) ≡ true
declarator_bearing (Declarator r) = refl
declarator_bearing _ = refl

bearing_first : (p : Part) (c : Class) → bearing p c ≡ true → firsts p c ≡ true
unfolding is_spec_word
bearing_first (AnExpr p) c h = inside_true (bearing_expr p) (firsts (AnExpr p)) (expr_bearing p) c h
bearing_first (ADeclarator p) c h = inside_true (bearing_declarator p) (firsts (ADeclarator p)) (declarator_bearing p) c h
bearing_first AfterType c h = h
bearing_first (MoreSpecs before) c h = inside_true is_typedef_name (firsts (MoreSpecs before)) refl c h
bearing_first (MoreDeclarators s before) c h = inside_true (by_token is_colon) (firsts (MoreDeclarators s before)) refl c h
bearing_first Initialiser c h = inside_true (by_token begins_designator) (firsts Initialiser) refl c h
bearing_first Parameter c h = inside_true is_plain (firsts Parameter) refl c h
bearing_first _ c h = never h

pub construct_begins : (w : Scene) (p : Part) (t : Placed) (ts : List Placed) (c : Construct) → part_construct w p (t ∷ ts) ≡ Some c → begins w p t.token ≡ true
construct_begins w p t ts c e = bearing_first p (class_of w t.token) (bears_class w p t ts c e)

-- the keyword bears no construct, wherever it stands
abbrev silent_keyword : Keyword → Bool
silent_keyword k = not (is_given_option (keyword_construct AtFile k)) && (not (is_given_option (keyword_construct InBlock k)) && not (is_given_option (keyword_construct InSwitch k)))

abbrev silent : Class → Bool
silent (keyword k) = silent_keyword k
silent (sign p) = not (is_given_option (sign_construct p))
silent _ = true

not_given : (o : Option Construct) → not (is_given_option o) ≡ true → o ≡ None
not_given (Some c) h = never h
not_given None h = refl

keyword_silent : (s : Setting) (k : Keyword) → silent_keyword k ≡ true → keyword_construct s k ≡ None
keyword_silent AtFile k h = not_given (keyword_construct AtFile k) (and_left _ (not (is_given_option (keyword_construct InBlock k)) && not (is_given_option (keyword_construct InSwitch k))) h)
keyword_silent InBlock k h = not_given (keyword_construct InBlock k) (and_left _ (not (is_given_option (keyword_construct InSwitch k))) (and_right (not (is_given_option (keyword_construct AtFile k))) _ h))
keyword_silent InSwitch k h = not_given (keyword_construct InSwitch k) (and_right (not (is_given_option (keyword_construct InBlock k))) _ (and_right (not (is_given_option (keyword_construct AtFile k))) _ h))

token_silent : (w s : Scene) (t : Token) → silent (class_of w t) ≡ true → token_construct s t ≡ None
token_silent w s (kinds.Keyword k) h = keyword_silent s.setting k h
token_silent w s (kinds.Punctuator p) h = not_given (sign_construct p) h
token_silent w s _ h = refl

bearing_silent_expr : (p : ExprPart) → inside (bearing_expr p) silent ≡ true
unfolding keyword_construct
bearing_silent_expr Operand = refl
bearing_silent_expr (Run l) = refl
bearing_silent_expr _ = refl

bearing_silent_declarator : (p : DeclaratorPart) → inside (bearing_declarator p) silent ≡ true
unfolding keyword_construct
bearing_silent_declarator (Declarator r) = refl
bearing_silent_declarator _ = refl

bearing_silent : (p : Part) (c : Class) → bearing p c ≡ true → silent c ≡ true
unfolding keyword_construct
bearing_silent (AnExpr p) c h = inside_true (bearing_expr p) silent (bearing_silent_expr p) c h
bearing_silent (ADeclarator p) c h = inside_true (bearing_declarator p) silent (bearing_silent_declarator p) c h
bearing_silent AfterType c h = inside_true (by_token is_brace) silent refl c h
bearing_silent (MoreSpecs before) c h = inside_true is_typedef_name silent refl c h
bearing_silent (MoreDeclarators s before) c h = inside_true (by_token is_colon) silent refl c h
bearing_silent Initialiser c h = inside_true (by_token begins_designator) silent refl c h
bearing_silent Parameter c h = inside_true is_plain silent refl c h
bearing_silent _ c h = never h

pub one_construct : (w s : Scene) (p : Part) (t : Placed) (ts : List Placed) (c : Construct) → part_construct w p (t ∷ ts) ≡ Some c → token_construct s t.token ≡ None
one_construct w s p t ts c e = token_silent w s t.token (bearing_silent p (class_of w t.token) (bears_class w p t ts c e))

run_silent : (l : Level) → inside (run_nexts l) silent ≡ true
unfolding keyword_construct
run_silent Commas = refl
run_silent _ = refl

expr_silent : (p : ExprPart) → inside (expr_nexts p) silent ≡ true
unfolding keyword_construct
expr_silent (Run l) = run_silent l
expr_silent (More l left) = run_silent l
expr_silent _ = refl

declarator_silent : (p : DeclaratorPart) → inside (declarator_nexts p) silent ≡ true
unfolding keyword_construct
declarator_silent (Declarator r) = refl
declarator_silent _ = refl

nexts_silent : (p : Part) (v : Value p) (c : Class) → nexts p v c ≡ true → silent c ≡ true
unfolding keyword_construct
nexts_silent (AnExpr p) v c h = inside_true (expr_nexts p) silent (expr_silent p) c h
nexts_silent (ASpec p) v c h = inside_true (by_token is_brace) silent refl c h
nexts_silent (ADeclarator p) v c h = inside_true (declarator_nexts p) silent (declarator_silent p) c h
nexts_silent (AStmt p) v c h = inside_true (by_token is_else_word) silent refl c (and_left (by_token is_else_word c) (ends_open v) h)
nexts_silent AfterType v c h = inside_true (by_token is_brace) silent refl c h
nexts_silent Specs v c h = inside_true (by_token is_brace) silent refl c h
nexts_silent (MoreSpecs before) v c h = inside_true (by_token is_brace) silent refl c h
nexts_silent AnEnumerator v c h = inside_true (nexts AnEnumerator v) silent refl c h
nexts_silent (EnumeratorValue at name) v c h = inside_true (nexts (EnumeratorValue at name) v) silent refl c h
nexts_silent Parameter v c h = inside_true (nexts Parameter v) silent refl c h
nexts_silent Initialiser v c h = inside_true (nexts Initialiser v) silent refl c h
nexts_silent Item v c h = inside_true (by_token is_else_word) silent refl c h
nexts_silent _ v c h = never h

pub no_construct : (w s : Scene) (p : Part) (v : Value p) (t : Token) → continues w p v t ≡ true → token_construct s t ≡ None
no_construct w s p v t h = token_silent w s t (nexts_silent p v (class_of w t) h)
