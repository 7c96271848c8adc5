-- Constructs of a part that reads nothing, of the end, and of a part that comes first in another.
use Rattle.std.proofs.Common.{◌≡◌, refl, sym, ◌∙◌, ap, Bool, true, false, not, ◌&&◌, ◌||◌, List, [], ◌∷◌, Some, None, true≢false}
use Rattle.c_syntax_written.specs.declared.construct.Construct.{Construct}
use Rattle.c_syntax_written.specs.declared.construct.Construct.TheVariants as constructs
use Rattle.c_syntax_written.specs.declared.token.Placed.{Placed}
use Rattle.c_syntax_written.specs.declared.token.Token.{Token}
use Rattle.c_syntax_written.specs.declared.token.Token.TheVariants as kinds
use Rattle.c_grammar.specs.declared.parts.Level.{Level}
use Rattle.c_grammar.specs.declared.parts.Level.TheVariants.{Commas}
use Rattle.c_grammar.specs.declared.parts.Role.{Role}
use Rattle.c_grammar.specs.declared.parts.Role.TheVariants.{Naming, OfParameter}
use Rattle.c_grammar.specs.Parts.{Scene, Operand, Suffixes, Declarator, Pointed, Direct, Tails, Size, Parameters, Declared, OuterDeclared, Part, AnExpr, ADeclarator, ADecl, AnOuter, AfterType, MoreSpecs, MoreDeclarators, Parameter, Initialiser, Initialisers, NextInitialiser, Value}
use Rattle.c_grammar.specs.declared.class.Class.{Class}
use Rattle.c_grammar.specs.Process.{Process}
use Rattle.c_grammar.specs.Ahead.{is_open, is_spec_word, begins_spec, spec_ahead, close_ahead, params_ahead}
use Rattle.c_grammar.specs.ExprRules.{ExprRule, operand}
use Rattle.c_grammar.specs.ExprRules as exprs
use Rattle.c_grammar.specs.TypeRules.{TypeRule}
use Rattle.c_grammar.specs.TypeRules as types
use Rattle.c_grammar.specs.FileRules.{FileRule}
use Rattle.c_grammar.specs.FileRules as files
use Rattle.c_grammar.specs.Grammar.{Produces, expr_rule, type_rule, file_rule, Spells, by}
use Rattle.c_grammar.specs.Refused.{part_construct, where_true, first_is, is_type_name, may_name, may_omit}
use Rattle.c_grammar.proofs.Table.{AtFirst}
use Rattle.c_grammar.proofs.Sweep.{and_left, and_right}
use Rattle.c_grammar.proofs.Sets.{class_of, inside_true, not_true}
use Rattle.c_grammar.proofs.Firsts.{by_token, by_sign, is_given_option, is_typedef_name, is_tail, spec_first, suffix_next, declarator_next, direct_next, nexts, continues}
use Rattle.c_grammar.proofs.Constructs.{bearing, bears_class, none_some}
use Rattle.c_grammar.proofs.Led.{spec_seen}
use Rattle.c_grammar.proofs.Own.{never}
use Rattle.c_grammar.proofs.Spelled.{can_be_empty, derives_none, spelled, no_spelling}

abbrev is_more_specs : Part → Bool
is_more_specs (MoreSpecs before) = true
is_more_specs _ = false

-- what bears a construct of a part that may be empty, but of further specs, continues it
bearing_next : (p : Part) (v : Value p) (c : Class) → bearing p c ≡ true → can_be_empty p ≡ true → is_more_specs p ≡ false → nexts p v c ≡ true
bearing_next (AnExpr (Suffixes base)) v c h e m = inside_true (by_token is_open) suffix_next refl c h
bearing_next (AnExpr Operand) v c h e m = never e
bearing_next (AnExpr _) v c h e m = never h
bearing_next (ADeclarator (Declarator r)) v c h e m = inside_true is_typedef_name declarator_next refl c h
bearing_next (ADeclarator (Direct r)) v c h e m = inside_true (by_token is_open) direct_next refl c h
bearing_next (ADeclarator (Tails r is_plain d)) v c h e m = inside_true (by_token is_open) (by_sign is_tail) refl c h
bearing_next (ADeclarator (Size r at d)) v c h e m = never e
bearing_next (ADeclarator _) v c h e m = never h
bearing_next AfterType v c h e m = h
bearing_next (MoreSpecs before) v c h e m = never (sym m)
bearing_next (MoreDeclarators s before) v c h e m = never e
bearing_next Parameter v c h e m = never e
bearing_next Initialiser v c h e m = never e
bearing_next _ v c h e m = never h

no_specs_of_expr : {w : Scene} {p : Part} {q : Process (Value p)} → ExprRule w p q → is_more_specs p ≡ false
no_specs_of_expr exprs.run = refl
no_specs_of_expr _ = refl

no_specs_of_file : {w : Scene} {p : Part} {q : Process (Value p)} → FileRule w p q → is_more_specs p ≡ false
no_specs_of_file files.value = refl
no_specs_of_file _ = refl

continued : {w : Scene} {p : Part} {q : Process (Value p)} → Produces w p q → (t : Placed) (ts : List Placed) (v : Value p) → Spells w p q (t ∷ ts) (t ∷ ts) v → (c : Construct) → part_construct w p (t ∷ ts) ≡ Some c → is_more_specs p ≡ false → continues w p v t.token ≡ true
continued {w} {p} rule t ts v s c e m = bearing_next p v (class_of w t.token) (bears_class w p t ts c e) (derives_none (by rule s) refl) m

-- specs end before no typedef name
specs_clash : (w : Scene) (t : Token) → not (begins_spec w t) ≡ true → is_typedef_name (class_of w t) ≡ true → ⊥
unfolding is_spec_word
specs_clash w t h e = true≢false (sym (spec_seen w t (inside_true is_typedef_name spec_first refl (class_of w t) e)) ∙ not_true (begins_spec w t) h)

type_continued : {w : Scene} {p : Part} {q : Process (Value p)} → TypeRule w p q → (t : Placed) (ts : List Placed) (v : Value p) → Spells w p q (t ∷ ts) (t ∷ ts) v → (c : Construct) → part_construct w p (t ∷ ts) ≡ Some c → continues w p v t.token ≡ true
type_continued (types.specs_end {w} {before}) t ts v s c e = absurd (specs_clash w t.token (spelled s).0 (bears_class w (MoreSpecs before) t ts c e))
type_continued types.specs_more t ts v s c e = no_spelling refl s
type_continued r t ts v s c e = continued (type_rule r) t ts v s c e refl

pub construct_continues : {w : Scene} {p : Part} {q : Process (Value p)} → Produces w p q → (t : Placed) (ts : List Placed) (v : Value p) → Spells w p q (t ∷ ts) (t ∷ ts) v → (c : Construct) → part_construct w p (t ∷ ts) ≡ Some c → continues w p v t.token ≡ true
construct_continues (expr_rule r) t ts v s c e = continued (expr_rule r) t ts v s c e (no_specs_of_expr r)
construct_continues (type_rule r) t ts v s c e = type_continued r t ts v s c e
construct_continues (file_rule r) t ts v s c e = continued (file_rule r) t ts v s c e (no_specs_of_file r)

no_end_direct : (w : Scene) (r : Role) → part_construct w (ADeclarator (Direct r)) [] ≡ None
no_end_direct w OfParameter = refl
no_end_direct w _ = refl

pub no_end_construct : (w : Scene) (p : Part) → part_construct w p [] ≡ None
no_end_construct w (AnExpr Operand) = refl
no_end_construct w (AnExpr (Suffixes base)) = refl
no_end_construct w (AnExpr _) = refl
no_end_construct w (ADeclarator (Direct r)) = no_end_direct w r
no_end_construct w (ADeclarator (Tails r is_plain d)) = refl
no_end_construct w (ADeclarator _) = refl
no_end_construct w _ = refl

-- the tokens bear a construct of the part itself
abbrev pub bears_itself : Scene → Part → List Placed → Bool
bears_itself w p ts = is_given_option (part_construct w p ts)

abbrev declarator_bears : Scene → Role → List Placed → Bool
declarator_bears w r ts = bears_itself w (ADeclarator (Declarator r)) ts || bears_itself w (ADeclarator (Direct r)) ts

-- the tokens bear a construct of the part, or of one that may be the first in it
abbrev pub bears : Scene → Part → List Placed → Bool
bears w (ADeclarator (Declarator r)) ts = declarator_bears w r ts
bears w (ADeclarator (Pointed r at is_const)) ts = declarator_bears w r ts
bears w (ADeclarator (Parameters at d)) ts = bears_itself w Parameter ts
bears w (ADecl (Declared s)) ts = declarator_bears w Naming ts
bears w (AnOuter (OuterDeclared s)) ts = declarator_bears w Naming ts
bears w Initialisers ts = bears_itself w Initialiser ts
bears w (NextInitialiser before) ts = bears_itself w Initialiser ts
bears w p ts = bears_itself w p ts

pub bears_own : (w : Scene) (p : Part) (ts : List Placed) (c : Construct) → part_construct w p ts ≡ Some c → bears w p ts ≡ true
bears_own w (ADeclarator (Declarator r)) ts c e = ap (λ o. is_given_option o || bears_itself w (ADeclarator (Direct r)) ts) e
bears_own w (ADeclarator (Pointed r at is_const)) ts c e = absurd (none_some c e)
bears_own w (ADeclarator (Parameters at d)) ts c e = absurd (none_some c e)
bears_own w (ADecl (Declared s)) ts c e = absurd (none_some c e)
bears_own w (AnOuter (OuterDeclared s)) ts c e = absurd (none_some c e)
bears_own w Initialisers ts c e = absurd (none_some c e)
bears_own w (NextInitialiser before) ts c e = absurd (none_some c e)
bears_own w _ ts c e = ap is_given_option e

operand_bears : (w : Scene) (l : Level) (ts : List Placed) → bears w (AnExpr (operand l)) ts ≡ false
operand_bears w Commas ts = refl
operand_bears w _ ts = refl

where_given : (b : Bool) (c : Construct) → is_given_option (where_true b c) ≡ true → b ≡ true
where_given true c h = refl
where_given false c h = h

-- a parenthesis is no typedef name
open_no_type : (w : Scene) (ts : List Placed) → params_ahead w ts ≡ true → first_is (is_type_name w) ts ≡ false
open_no_type w [] h = refl
open_no_type w (t ∷ ts) h = go t.token (and_left (is_open t.token) (spec_ahead w ts || close_ahead ts) h)
  where
    go : (t : Token) → is_open t ≡ true → is_type_name w t ≡ false
    go (kinds.Word name) h = never h
    go _ h = refl

direct_bears : (w : Scene) (r : Role) (ts : List Placed) → bears_itself w (ADeclarator (Direct r)) ts ≡ true → part_construct w (ADeclarator (Declarator r)) ts ≡ None
direct_bears w r ts h = ap (λ b. where_true (b && may_name r) constructs.TypedefAgain) (open_no_type w ts (and_right (may_omit r) (params_ahead w ts) (where_given (may_omit r && params_ahead w ts) constructs.FunctionPointer h)))

nameless_bears : {A : Type 0} (b : Bool) (c : Construct) → is_given_option (where_true (b && false) c) ≡ true → A
nameless_bears true c h = never h
nameless_bears false c h = never h

-- the part comes first and bears, so that the whole does, and not by itself
abbrev FirstBears : {A : Type 0} → Scene → List Placed → Process A → Type 0
FirstBears w ts q = AtFirst (λ i. bears w i ts ≡ true) q

-- the whole bears, but not by itself
abbrev BearsBy : Scene → Part → List Placed → Type 0
BearsBy w p ts = (bears w p ts ≡ true) × (part_construct w p ts ≡ None)

expr_bears_first : {w : Scene} {p : Part} {q : Process (Value p)} → ExprRule w p q → (ts : List Placed) → FirstBears w ts q → BearsBy w p ts
expr_bears_first (exprs.run {w} {l}) ts h = never (sym (operand_bears w l ts) ∙ h)
expr_bears_first exprs.assignment ts h = never h
expr_bears_first exprs.conditional ts h = never h
expr_bears_first exprs.no_cast ts h = never h
expr_bears_first exprs.operand_cast ts h = never h
expr_bears_first exprs.size_of_expr ts h = never h
expr_bears_first exprs.no_prefix ts h = never h
expr_bears_first exprs.postfix ts h = never h
expr_bears_first exprs.arguments ts h = never h
expr_bears_first exprs.something_before ts h = never h
expr_bears_first _ ts h = absurd h

type_bears_first : {w : Scene} {p : Part} {q : Process (Value p)} → TypeRule w p q → (ts : List Placed) → FirstBears w ts q → BearsBy w p ts
type_bears_first types.specs ts h = never h
type_bears_first types.specs_more ts h = never h
type_bears_first types.members ts h = never h
type_bears_first types.members_more ts h = never h
type_bears_first types.member ts h = never h
type_bears_first types.enumerators ts h = never h
type_bears_first types.enumerators_next ts h = never h
type_bears_first types.pointed ts h = (h, refl)
type_bears_first (types.direct {w} {r}) ts h = (ap (λ o. is_given_option o || bears_itself w (ADeclarator (Direct r)) ts) (direct_bears w r ts h) ∙ h, direct_bears w r ts h)
type_bears_first (types.no_name o) ts h = nameless_bears (first_is is_open ts) constructs.FunctionPointer h
type_bears_first types.size ts h = never h
type_bears_first types.parameters ts h = (h, refl)
type_bears_first types.parameter ts h = never h
type_bears_first _ ts h = absurd h

file_bears_first : {w : Scene} {p : Part} {q : Process (Value p)} → FileRule w p q → (ts : List Placed) → FirstBears w ts q → BearsBy w p ts
file_bears_first files.value ts h = never h
file_bears_first files.initialisers ts h = (h, refl)
file_bears_first files.initialisers_next ts h = (h, refl)
file_bears_first files.declaration ts h = never h
file_bears_first files.declared ts h = (h, refl)
file_bears_first files.not_initialised ts h = never h
file_bears_first files.expression ts h = never h
file_bears_first files.for_declares ts h = never h
file_bears_first files.for_value ts h = never h
file_bears_first files.items_more ts h = never h
file_bears_first files.item_declares ts h = never h
file_bears_first files.item_does ts h = never h
file_bears_first files.outer ts h = never h
file_bears_first files.outer_declared ts h = (h, refl)
file_bears_first files.outer_initial ts h = never h
file_bears_first files.file_more ts h = never h
file_bears_first _ ts h = absurd h

pub bears_first : {w : Scene} {p : Part} {q : Process (Value p)} → Produces w p q → (ts : List Placed) → AtFirst (λ i. bears w i ts ≡ true) q → (bears w p ts ≡ true) × (part_construct w p ts ≡ None)
bears_first (expr_rule r) ts h = expr_bears_first r ts h
bears_first (type_rule r) ts h = type_bears_first r ts h
bears_first (file_rule r) ts h = file_bears_first r ts h
