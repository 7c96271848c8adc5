-- What a production begins with, its part begins with.
use Rattle.std.proofs.Common.{◌≡◌, refl, sym, ◌∙◌, subst, Bool, true, List, [], ◌∷◌}
use Rattle.c_syntax_written.specs.declared.token.Placed.{Placed}
use Rattle.c_grammar.specs.declared.parts.Level.{Level}
use Rattle.c_grammar.specs.declared.parts.Level.TheVariants.{Commas}
use Rattle.c_grammar.specs.Parts.{Scene, Part, AnExpr, Value}
use Rattle.c_grammar.specs.declared.class.Class.{Class}
use Rattle.c_grammar.specs.Process.{Process, give, token, part, only}
use Rattle.c_grammar.specs.Ahead.{is_spec_word}
use Rattle.c_grammar.specs.ExprRules.{ExprRule, operand}
use Rattle.c_grammar.specs.ExprRules as exprs
use Rattle.c_grammar.specs.TypeRules.{TypeRule}
use Rattle.c_grammar.specs.TypeRules as types
use Rattle.c_grammar.specs.FileRules.{FileRule}
use Rattle.c_grammar.specs.FileRules as files
use Rattle.c_grammar.specs.Grammar.{Produces, expr_rule, type_rule, file_rule}
use Rattle.c_grammar.specs.Refused.{may_be_empty}
use Rattle.c_grammar.proofs.Table.{Leads, leads_token, leads_part, leads_behind, leads_only}
use Rattle.c_grammar.proofs.Sets.{class_of, same_class, covers, fits_covers, inside, inside_true}
use Rattle.c_grammar.proofs.Firsts.{firsts, begins, expr_first}
use Rattle.c_grammar.proofs.Shapes.{operand_full}
use Rattle.c_grammar.proofs.Own.{never, joint_own, assign_own, unary_own, pre_step_own, post_step_own, closing_own, close_own, storage_own, type_word_own}

-- what is left of a production begins in the set
abbrev pub Enters : {A : Type 0} → Scene → (Class → Bool) → Process A → Type 0
Enters w f (give v) = Unit {0}
Enters w f (token n c k) = covers f c ≡ true
Enters w f (part n s i k) = (s.types ≡ w.types) × (inside (firsts i) f ≡ true) × ((a : Value i) → may_be_empty i ≡ true → Enters w f (k a))
Enters w f (only g q) = (ts : List Placed) → g ts ≡ true → Enters w f q

-- the first token is of the set
abbrev pub FirstIn : Scene → (Class → Bool) → List Placed → Type 0
FirstIn w f [] = Unit {0}
FirstIn w f (t ∷ ts) = f (class_of w t.token) ≡ true

enters : {w : Scene} {p : Part} {q : Process (Value p)} {ts : List Placed} → Leads begins w p q ts → (f : Class → Bool) → Enters w f q → FirstIn w f ts
enters (leads_token {w} {c} {t} fits) f h = fits_covers w c t.token f fits h
enters (leads_part {w} {s} {i} {t} e) f h = subst (λ c. f c ≡ true) (same_class s w t.token h.0) (inside_true (firsts i) f h.1 (class_of s t.token) e)
enters (leads_behind a e l) f h = enters l f (h.2 a e)
enters (leads_only {ts} e l) f h = enters l f (h ts e)

operand_first : (l : Level) → inside (firsts (AnExpr (operand l))) expr_first ≡ true
operand_first Commas = refl
operand_first _ = refl

expr_enters : {w : Scene} {p : Part} {q : Process (Value p)} → ExprRule w p q → Enters w (firsts p) q
expr_enters (exprs.run {l}) = (refl, operand_first l, λ a e. never (sym (operand_full l) ∙ e))
expr_enters exprs.run_end = tt
expr_enters (exprs.run_more {l} j e) = joint_own l j e
expr_enters exprs.assignment = (refl, refl, λ a e. never e)
expr_enters exprs.not_assigned = tt
expr_enters (exprs.compound op) = assign_own op
expr_enters exprs.conditional = (refl, refl, λ a e. never e)
expr_enters exprs.not_chosen = tt
expr_enters exprs.cast = λ ts h. refl
expr_enters exprs.no_cast = λ ts h. (refl, refl, λ a e. never e)
expr_enters exprs.operand_cast = (refl, refl, λ a e. never e)
expr_enters (exprs.unary op) = unary_own op
expr_enters (exprs.pre_step way) = pre_step_own way
expr_enters exprs.size_of_type = λ ts h. refl
expr_enters exprs.size_of_expr = λ ts h. (refl, refl, λ a e. never e)
expr_enters exprs.after_type = tt
expr_enters exprs.no_prefix = (refl, refl, λ a e. never e)
expr_enters exprs.postfix = (refl, refl, λ a e. never e)
expr_enters exprs.no_suffix = tt
expr_enters (exprs.post_step way) = post_step_own way
expr_enters exprs.arguments = (refl, refl, λ a e. never e)
expr_enters exprs.texts_end = tt
expr_enters (exprs.closes {p}) = close_own p
expr_enters (exprs.nothing_before {p}) = closing_own p
expr_enters exprs.something_before = (refl, refl, λ a e. never e)
expr_enters _ = refl

type_enters : {w : Scene} {p : Part} {q : Process (Value p)} → TypeRule w p q → Enters w (firsts p) q
unfolding is_spec_word
type_enters types.specs = (refl, refl, λ a e. never e)
type_enters types.specs_end = λ ts h. tt
type_enters types.specs_more = (refl, refl, λ a e. never e)
type_enters (types.storage s) = storage_own s
type_enters (types.basic s) = type_word_own s
type_enters types.structure_named = tt
type_enters types.members = (refl, refl, λ a e. never e)
type_enters types.members_more = (refl, refl, λ a e. never e)
type_enters types.member = (refl, refl, λ a e. never e)
type_enters types.enumeration_named = tt
type_enters types.enumerators = (refl, refl, λ a e. never e)
type_enters types.enumerators_next = (refl, refl, λ a e. never e)
type_enters types.enumerator_plain = tt
type_enters types.pointed = (refl, refl, λ a e. tt)
type_enters types.direct = (refl, refl, λ a e. tt)
type_enters types.group_end = λ ts i. refl
type_enters (types.no_name h) = λ ts i. (refl, refl, λ a e. tt)
type_enters types.tails_end = tt
type_enters types.size = (refl, refl, λ a e. never e)
type_enters types.parameters = (refl, refl, λ a e. never e)
type_enters types.parameter = (refl, refl, λ a e. never e)
type_enters _ = refl

file_enters : {w : Scene} {p : Part} {q : Process (Value p)} → FileRule w p q → Enters w (firsts p) q
unfolding is_spec_word
file_enters files.value = (refl, refl, λ a e. never e)
file_enters files.initialisers = (refl, refl, λ a e. never e)
file_enters files.initialisers_next = (refl, refl, λ a e. never e)
file_enters files.declaration = (refl, refl, λ a e. never e)
file_enters files.declared = (refl, refl, λ a e. never e)
file_enters files.not_initialised = (refl, refl, λ a e. never e)
file_enters files.label = λ ts h. refl
file_enters files.expression = λ ts h. (refl, refl, λ a e. never e)
file_enters files.no_else = tt
file_enters files.with_else = λ ts h. h
file_enters files.for_declares = λ ts h. (refl, refl, λ a e. never e)
file_enters files.for_value = λ ts h. (refl, refl, λ a e. never e)
file_enters files.items_more = (refl, refl, λ a e. never e)
file_enters files.item_declares = λ ts h. (refl, refl, λ a e. never e)
file_enters files.item_does = λ ts h. (refl, refl, λ a e. never e)
file_enters files.outer = (refl, refl, λ a e. never e)
file_enters files.outer_declared = (refl, refl, λ a e. never e)
file_enters files.outer_initial = (refl, refl, λ a e. never e)
file_enters files.file_end = λ ts h. tt
file_enters files.file_more = (refl, refl, λ a e. never e)
file_enters _ = refl

rule_enters : {w : Scene} {p : Part} {q : Process (Value p)} → Produces w p q → Enters w (firsts p) q
rule_enters (expr_rule r) = expr_enters r
rule_enters (type_rule r) = type_enters r
rule_enters (file_rule r) = file_enters r

pub rule_begins : {w : Scene} {p : Part} {q : Process (Value p)} → Produces w p q → (t : Placed) (ts : List Placed) → Leads begins w p q (t ∷ ts) → begins w p t.token ≡ true
rule_begins {p} rule t ts l = enters l (firsts p) (rule_enters rule)
