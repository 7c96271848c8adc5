-- How many forms a token begins at most as the first of a part; the one production of a part that may be empty.
use Rattle.std.proofs.Common.{◌≡◌, refl, sym, ◌∙◌, subst, ℕ, ◌≤◌, Bool, true, false, List, ◌∷◌, Some, lit≤, le_refl, zero-le}
use Rattle.c_syntax_written.specs.declared.construct.Construct.{Construct}
use Rattle.c_syntax_written.specs.declared.step.StepWay.{StepWay}
use Rattle.c_syntax_written.specs.declared.step.StepWay.TheVariants as ways
use Rattle.c_syntax_written.specs.declared.token.Placed.{Placed}
use Rattle.c_syntax_written.specs.declared.token.Punctuator.{Punctuator}
use Rattle.c_syntax_written.specs.declared.token.Punctuator.TheVariants as signs
use Rattle.c_syntax_written.specs.declared.token.Token.{Token}
use Rattle.c_syntax_written.specs.declared.token.Token.TheVariants as kinds
use Rattle.c_syntax_written.specs.declared.written.AssignOp.{AssignOp}
use Rattle.c_syntax_written.specs.declared.written.AssignOp.TheVariants as assigns
use Rattle.c_syntax_written.specs.declared.written.BinaryOp.TheVariants as binaries
use Rattle.c_syntax_written.specs.declared.written.UnaryOp.{UnaryOp}
use Rattle.c_syntax_written.specs.declared.written.UnaryOp.TheVariants as unaries
use Rattle.c_syntax_written.specs.Written as written
use Rattle.c_syntax_written.specs.WrittenFile as trees
use Rattle.c_syntax_written.specs.WrittenFile.{OuterTree}
use Rattle.c_grammar.specs.declared.parts.Level.{Level}
use Rattle.c_grammar.specs.declared.parts.Level.TheVariants.{Commas}
use Rattle.c_grammar.specs.declared.parts.Joint.{Joint}
use Rattle.c_grammar.specs.declared.parts.Joint.TheVariants.{Comma as comma, Binary as binary}
use Rattle.c_grammar.specs.Parts.{Scene, ExprPart, Run, More, Assigned, Chosen, Operand, Suffixes, Texts, StructureTagged, EnumerationTagged, DeclaratorPart, Declarator, Pointed, Direct, Tails, Else, Part, AnExpr, ASpec, ADeclarator, AStmt, AfterType, MoreSpecs, MoreDeclarators, EnumeratorValue, Parameter, Initialiser, Outers, Value}
use Rattle.c_grammar.specs.declared.class.Class.{Class}
use Rattle.c_grammar.specs.declared.class.Class.TheVariants.{Sign as sign, Word as word, TypeName as type_name}
use Rattle.c_grammar.specs.Classes.{joint_sign, assign_sign, unary_sign, step_sign}
use Rattle.c_grammar.specs.Process.{Process, give, part, only}
use Rattle.c_grammar.specs.Ahead.{at_end, no_spec_ahead, no_group_ahead, is_colon}
use Rattle.c_grammar.specs.ExprRules.{ExprRule, operand}
use Rattle.c_grammar.specs.ExprRules as exprs
use Rattle.c_grammar.specs.TypeRules.{TypeRule}
use Rattle.c_grammar.specs.TypeRules as types
use Rattle.c_grammar.specs.FileRules.{FileRule}
use Rattle.c_grammar.specs.FileRules as files
use Rattle.c_grammar.specs.Grammar.{Produces, expr_rule, type_rule, file_rule}
use Rattle.c_grammar.specs.Front.{a_part}
use Rattle.c_grammar.specs.Refused.{part_construct, forms_begun, forms_of_bracket, is_bracket, is_brace, begins_designator}
use Rattle.c_grammar.proofs.Table.{FirstForms, Empties, FileShape, file_ends, file_goes_on}
use Rattle.c_grammar.proofs.Sets.{class_of, inside, inside_true}
use Rattle.c_grammar.proofs.Firsts.{by_token, is_plain, is_typedef_name}
use Rattle.c_grammar.proofs.Constructs.{bearing, bearing_expr, bearing_declarator, bears_class}
use Rattle.c_grammar.proofs.Own.{never}
use Rattle.c_grammar.proofs.Shapes.{operand_full}

abbrev sign_forms : Punctuator → ℕ
sign_forms signs.RightBracket = 0
sign_forms signs.Colon = 0
sign_forms signs.Dot = 0
sign_forms _ = 1

abbrev token_forms : Token → ℕ
token_forms (kinds.Word name) = 0
token_forms (kinds.Punctuator p) = sign_forms p
token_forms _ = 1

abbrev expr_forms : ExprPart → Token → ℕ
expr_forms (Suffixes base) t = 2
expr_forms _ t = token_forms t

-- so many forms the token begins at most, where it is the first of the part
abbrev pub forms : Scene → Part → Token → ℕ
forms w (AnExpr p) t = expr_forms p t
forms w _ t = token_forms t

operand_forms : (w : Scene) (l : Level) (t : Token) → forms w (AnExpr (operand l)) t ≤ token_forms t
operand_forms w Commas t = le_refl _
operand_forms w _ t = le_refl _

-- a sign that is known begins a form
one_form : (t : Token) (p : Punctuator) → t ≡ kinds.Punctuator p → 1 ≤ sign_forms p → 1 ≤ token_forms t
one_form t p e h = subst (λ t. 1 ≤ token_forms t) (sym e) h

joint_forms : (j : Joint) → 1 ≤ sign_forms (joint_sign j)
joint_forms comma = lit≤ tt
joint_forms (binary binaries.Plus) = lit≤ tt
joint_forms (binary _) = lit≤ tt

assign_forms : (op : AssignOp) → 1 ≤ sign_forms (assign_sign op)
assign_forms assigns.Plus = lit≤ tt
assign_forms _ = lit≤ tt

unary_forms : (op : UnaryOp) → 1 ≤ sign_forms (unary_sign op)
unary_forms unaries.Plus = lit≤ tt
unary_forms _ = lit≤ tt

step_forms : (way : StepWay) → 1 ≤ sign_forms (step_sign way)
step_forms ways.Up = lit≤ tt
step_forms ways.Down = lit≤ tt

expr_forms_first : {w : Scene} {p : Part} {q : Process (Value p)} → ExprRule w p q → (t : Token) → FirstForms forms w t (forms w p t) q
expr_forms_first (exprs.run {w} {l}) t = operand_forms w l t
expr_forms_first exprs.run_end t = tt
expr_forms_first (exprs.run_more j e) t = λ f. one_form t (joint_sign j) f (joint_forms j)
expr_forms_first exprs.assignment t = le_refl _
expr_forms_first exprs.not_assigned t = tt
expr_forms_first exprs.assigned t = λ f. one_form t signs.Assign f (lit≤ tt)
expr_forms_first (exprs.compound op) t = λ f. one_form t (assign_sign op) f (assign_forms op)
expr_forms_first exprs.conditional t = le_refl _
expr_forms_first exprs.not_chosen t = tt
expr_forms_first exprs.chosen t = λ f. one_form t signs.Question f (lit≤ tt)
expr_forms_first exprs.cast t = λ f. one_form t signs.LeftParenthesis f (lit≤ tt)
expr_forms_first exprs.no_cast t = le_refl _
expr_forms_first exprs.operand_cast t = le_refl _
expr_forms_first (exprs.unary op) t = λ f. one_form t (unary_sign op) f (unary_forms op)
expr_forms_first (exprs.pre_step way) t = λ f. one_form t (step_sign way) f (step_forms way)
expr_forms_first exprs.size_of t = λ f. subst (λ t. 1 ≤ token_forms t) (sym f) (lit≤ tt)
expr_forms_first exprs.size_of_type t = λ f. one_form t signs.LeftParenthesis f (lit≤ tt)
expr_forms_first exprs.size_of_expr t = le_refl _
expr_forms_first exprs.after_type t = tt
expr_forms_first exprs.no_prefix t = le_refl _
expr_forms_first exprs.postfix t = le_refl _
expr_forms_first exprs.no_suffix t = tt
expr_forms_first exprs.index t = λ f. lit≤ tt
expr_forms_first exprs.call t = λ f. lit≤ tt
expr_forms_first exprs.dot t = λ f. lit≤ tt
expr_forms_first exprs.arrow t = λ f. lit≤ tt
expr_forms_first (exprs.post_step way) t = λ f. lit≤ tt
expr_forms_first exprs.arguments t = le_refl _
expr_forms_first exprs.texts_end t = tt
expr_forms_first exprs.enclosed t = λ f. one_form t signs.LeftParenthesis f (lit≤ tt)
expr_forms_first exprs.something_before t = le_refl _
expr_forms_first _ t = λ f. zero-le

type_forms_first : {w : Scene} {p : Part} {q : Process (Value p)} → TypeRule w p q → (t : Token) → FirstForms forms w t (forms w p t) q
type_forms_first types.specs t = le_refl _
type_forms_first types.specs_end t = tt
type_forms_first types.specs_more t = le_refl _
type_forms_first types.structure_body t = λ f. one_form t signs.LeftBrace f (lit≤ tt)
type_forms_first types.structure_named t = tt
type_forms_first types.structure_tagged_body t = λ f. one_form t signs.LeftBrace f (lit≤ tt)
type_forms_first types.members t = le_refl _
type_forms_first types.members_more t = le_refl _
type_forms_first types.member t = le_refl _
type_forms_first types.enumeration_body t = λ f. one_form t signs.LeftBrace f (lit≤ tt)
type_forms_first types.enumeration_named t = tt
type_forms_first types.enumeration_tagged_body t = λ f. one_form t signs.LeftBrace f (lit≤ tt)
type_forms_first types.enumerators t = le_refl _
type_forms_first types.enumerators_next t = le_refl _
type_forms_first types.enumerator_plain t = tt
type_forms_first types.enumerator_valued t = λ f. one_form t signs.Assign f (lit≤ tt)
type_forms_first types.pointer t = λ f. one_form t signs.Star f (lit≤ tt)
type_forms_first types.pointed t = le_refl _
type_forms_first types.direct t = le_refl _
type_forms_first types.grouped t = λ f. one_form t signs.LeftParenthesis f (lit≤ tt)
type_forms_first (types.no_name o) t = le_refl _
type_forms_first types.tails_end t = tt
type_forms_first types.array t = λ f. one_form t signs.LeftBracket f (lit≤ tt)
type_forms_first types.size t = le_refl _
type_forms_first types.function t = λ f. one_form t signs.LeftParenthesis f (lit≤ tt)
type_forms_first types.parameters t = le_refl _
type_forms_first types.parameter t = le_refl _
type_forms_first _ t = λ f. zero-le

file_forms_first : {w : Scene} {p : Part} {q : Process (Value p)} → FileRule w p q → (t : Token) → FirstForms forms w t (forms w p t) q
file_forms_first files.value t = le_refl _
file_forms_first files.braces t = λ f. one_form t signs.LeftBrace f (lit≤ tt)
file_forms_first files.initialisers t = le_refl _
file_forms_first files.initialisers_next t = le_refl _
file_forms_first files.declaration t = le_refl _
file_forms_first files.declared t = le_refl _
file_forms_first files.not_initialised t = le_refl _
file_forms_first files.initialised t = λ f. one_form t signs.Assign f (lit≤ tt)
file_forms_first files.block t = λ f. one_form t signs.LeftBrace f (lit≤ tt)
file_forms_first files.expression t = le_refl _
file_forms_first files.no_else t = tt
file_forms_first files.for_declares t = le_refl _
file_forms_first files.for_value t = le_refl _
file_forms_first files.items_more t = le_refl _
file_forms_first files.item_declares t = le_refl _
file_forms_first files.item_does t = le_refl _
file_forms_first files.outer t = le_refl _
file_forms_first files.outer_declared t = le_refl _
file_forms_first files.outer_initial t = le_refl _
file_forms_first files.outer_function t = λ f. one_form t signs.LeftBrace f (lit≤ tt)
file_forms_first files.file_end t = tt
file_forms_first files.file_more t = le_refl _
file_forms_first _ t = λ f. zero-le

pub forms_first : {w : Scene} {p : Part} {q : Process (Value p)} → Produces w p q → (t : Token) → FirstForms forms w t (forms w p t) q
forms_first (expr_rule r) t = expr_forms_first r t
forms_first (type_rule r) t = type_forms_first r t
forms_first (file_rule r) t = file_forms_first r t

-- tokens that begin no more forms than a bracket does, or none
abbrev light_sign : Punctuator → Bool
light_sign signs.LeftParenthesis = true
light_sign signs.LeftBracket = true
light_sign signs.LeftBrace = true
light_sign signs.RightBracket = true
light_sign signs.Colon = true
light_sign signs.Dot = true
light_sign _ = false

abbrev light : Class → Bool
light word = true
light type_name = true
light (sign p) = light_sign p
light _ = false

sign_light : (p : Punctuator) → light_sign p ≡ true → sign_forms p ≤ forms_of_bracket (is_bracket (kinds.Punctuator p))
sign_light signs.LeftParenthesis h = lit≤ tt
sign_light signs.LeftBracket h = lit≤ tt
sign_light signs.LeftBrace h = lit≤ tt
sign_light signs.RightBracket h = lit≤ tt
sign_light signs.Colon h = lit≤ tt
sign_light signs.Dot h = lit≤ tt
sign_light _ h = never h

token_light : (w : Scene) (t : Token) → light (class_of w t) ≡ true → token_forms t ≤ forms_of_bracket (is_bracket t)
token_light w (kinds.Word name) h = lit≤ tt
token_light w (kinds.Punctuator p) h = sign_light p h
token_light w _ h = never h

expr_light : (p : ExprPart) → inside (bearing_expr p) (λ c. light c) ≡ true
expr_light Operand = refl
expr_light (Run l) = refl
expr_light _ = refl

declarator_light : (p : DeclaratorPart) → inside (bearing_declarator p) light ≡ true
declarator_light (Declarator r) = refl
declarator_light _ = refl

bearing_light : (p : Part) (c : Class) → bearing p c ≡ true → light c ≡ true
bearing_light (AnExpr p) c h = inside_true (bearing_expr p) light (expr_light p) c h
bearing_light (ADeclarator p) c h = inside_true (bearing_declarator p) light (declarator_light p) c h
bearing_light AfterType c h = inside_true (by_token is_brace) light refl c h
bearing_light (MoreSpecs before) c h = inside_true is_typedef_name light refl c h
bearing_light (MoreDeclarators s before) c h = inside_true (by_token is_colon) light refl c h
bearing_light Initialiser c h = inside_true (by_token begins_designator) light refl c h
bearing_light Parameter c h = inside_true is_plain light refl c h
bearing_light _ c h = never h

place_light : (p : Part) (w : Scene) (t : Token) → light (class_of w t) ≡ true → forms w p t ≤ forms_begun (a_part p) t
place_light (AnExpr (Suffixes base)) w t h = lit≤ tt
place_light (AnExpr _) w t h = token_light w t h
place_light _ w t h = token_light w t h

pub forms_place : (w : Scene) (p : Part) (t : Placed) (ts : List Placed) (c : Construct) → part_construct w p (t ∷ ts) ≡ Some c → forms w p t.token ≤ forms_begun (a_part p) t.token
forms_place w p t ts c e = place_light p w t.token (bearing_light p (class_of w t.token) (bears_class w p t ts c e))

-- the production of a part that may have no token, and the other where there is none
abbrev the_empty : (w : Scene) (p : Part) → Process (Value p) → Process (Value p)
the_empty w (AnExpr (More l left)) q = give left
the_empty w (AnExpr (Assigned left)) q = give left
the_empty w (AnExpr (Chosen condition)) q = give condition
the_empty w (AnExpr (Suffixes base)) q = give base
the_empty w (AnExpr (Texts at before)) q = give (written.Strings at before)
the_empty w AfterType q = give tt
the_empty w (MoreSpecs before) q = only (no_spec_ahead w) (give before)
the_empty w (ASpec (StructureTagged at tag)) q = give (written.Struct at tag)
the_empty w (ASpec (EnumerationTagged at tag)) q = give (written.Enum at tag)
the_empty w (EnumeratorValue at name) q = give (written.Plain at name)
the_empty w (ADeclarator (Pointed r at is_const)) q = part 0 w (ADeclarator (Declarator r)) (λ inner. give (written.Pointer at is_const inner))
the_empty w (ADeclarator (Declarator r)) q = part 0 w (ADeclarator (Direct r)) give
the_empty w (ADeclarator (Direct r)) q = only (no_group_ahead w) (part 0 w (ADeclarator (Tails r false written.Absent)) give)
the_empty w (ADeclarator (Tails r is_plain d)) q = give d
the_empty w (AStmt (Else at condition first)) q = give (trees.If at condition first)
the_empty w (Outers before) q = only at_end (give before)
the_empty w p q = q

expr_the_empty : {w : Scene} {p : Part} {q : Process (Value p)} → ExprRule w p q → (r : Process (Value p)) → Empties q → the_empty w p r ≡ q
expr_the_empty exprs.run_end r e = refl
expr_the_empty exprs.not_assigned r e = refl
expr_the_empty exprs.not_chosen r e = refl
expr_the_empty exprs.after_type r e = refl
expr_the_empty exprs.no_suffix r e = refl
expr_the_empty exprs.texts_end r e = refl
expr_the_empty (exprs.run {l}) r e = never (sym (operand_full l) ∙ e)
expr_the_empty exprs.assignment r e = never e
expr_the_empty exprs.conditional r e = never e
expr_the_empty exprs.no_cast r e = never e
expr_the_empty exprs.operand_cast r e = never e
expr_the_empty exprs.size_of_expr r e = never e
expr_the_empty exprs.no_prefix r e = never e
expr_the_empty exprs.postfix r e = never e
expr_the_empty exprs.arguments r e = never e
expr_the_empty exprs.something_before r e = never e
expr_the_empty _ r e = absurd e

type_the_empty : {w : Scene} {p : Part} {q : Process (Value p)} → TypeRule w p q → (r : Process (Value p)) → Empties q → the_empty w p r ≡ q
type_the_empty types.specs_end r e = refl
type_the_empty types.structure_named r e = refl
type_the_empty types.enumeration_named r e = refl
type_the_empty types.enumerator_plain r e = refl
type_the_empty types.pointed r e = refl
type_the_empty types.direct r e = refl
type_the_empty (types.no_name o) r e = refl
type_the_empty types.tails_end r e = refl
type_the_empty types.specs r e = never e
type_the_empty types.specs_more r e = never e
type_the_empty types.members r e = never e
type_the_empty types.members_more r e = never e
type_the_empty types.member r e = never e
type_the_empty types.enumerators r e = never e
type_the_empty types.enumerators_next r e = never e
type_the_empty types.size r e = never e
type_the_empty types.parameters r e = never e
type_the_empty types.parameter r e = never e
type_the_empty _ r e = absurd e

file_the_empty : {w : Scene} {p : Part} {q : Process (Value p)} → FileRule w p q → (r : Process (Value p)) → Empties q → the_empty w p r ≡ q
file_the_empty files.no_else r e = refl
file_the_empty files.file_end r e = refl
file_the_empty files.value r e = never e
file_the_empty files.initialisers r e = never e
file_the_empty files.initialisers_next r e = never e
file_the_empty files.declaration r e = never e
file_the_empty files.declared r e = never e
file_the_empty files.not_initialised r e = never e
file_the_empty files.expression r e = never e
file_the_empty files.for_declares r e = never e
file_the_empty files.for_value r e = never e
file_the_empty files.items_more r e = never e
file_the_empty files.item_declares r e = never e
file_the_empty files.item_does r e = never e
file_the_empty files.outer r e = never e
file_the_empty files.outer_declared r e = never e
file_the_empty files.outer_initial r e = never e
file_the_empty files.file_more r e = never e
file_the_empty _ r e = absurd e

rule_the_empty : {w : Scene} {p : Part} {q : Process (Value p)} → Produces w p q → (r : Process (Value p)) → Empties q → the_empty w p r ≡ q
rule_the_empty (expr_rule rule) r e = expr_the_empty rule r e
rule_the_empty (type_rule rule) r e = type_the_empty rule r e
rule_the_empty (file_rule rule) r e = file_the_empty rule r e

pub one_empty : {w : Scene} {p : Part} {q r : Process (Value p)} → Produces w p q → Produces w p r → Empties q → Empties r → q ≡ r
one_empty {q} first second e f = sym (rule_the_empty first q e) ∙ rule_the_empty second q f

pub file_shape : {w : Scene} {before : List OuterTree} {q : Process (List OuterTree)} → Produces w (Outers before) q → FileShape w before q
file_shape (file_rule files.file_end) = file_ends
file_shape (file_rule files.file_more) = file_goes_on
file_shape (expr_rule r) = elim r [ ]
file_shape (type_rule r) = elim r [ ]
