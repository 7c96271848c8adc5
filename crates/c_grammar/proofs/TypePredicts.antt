-- The descent takes the production of specs and declarators whose first token comes.
use Rattle.std.proofs.Common.{◌≡◌, refl, sym, ◌∙◌, ap, subst, Bool, true, not, ◌&&◌, ◌||◌, List, ◌∷◌, None, true≢false}
use Rattle.c_syntax_written.specs.declared.construct.Construct.TheVariants as constructs
use Rattle.c_syntax_written.specs.declared.place.Pos.{Pos}
use Rattle.c_syntax_written.specs.declared.token.Placed.{Placed}
use Rattle.c_syntax_written.specs.declared.token.Punctuator.TheVariants as signs
use Rattle.c_syntax_written.specs.declared.token.Token.{Token}
use Rattle.c_syntax_written.specs.declared.token.Token.TheVariants as kinds
use Rattle.c_syntax_written.specs.declared.written.StorageWord.{StorageWord}
use Rattle.c_syntax_written.specs.declared.written.StorageWord.TheVariants as storages
use Rattle.c_syntax_written.specs.declared.written.TypeWord.{TypeWord}
use Rattle.c_syntax_written.specs.declared.written.TypeWord.TheVariants as type_words
use Rattle.c_grammar.specs.declared.parts.Role.{Role}
use Rattle.c_grammar.specs.Parts.{Scene, Part, Conditional, AnExpr, ASpec, ADeclarator, Spec, Declarator, Direct, AMember, AnEnumerator, Parameter, Value}
use Rattle.c_grammar.specs.declared.class.Class.TheVariants.{TypeName as type_name, AnyWord as any_word, Word as word}
use Rattle.c_grammar.specs.Classes.{Fits, storage_word, type_word, names_type}
use Rattle.c_grammar.specs.Process.{Process}
use Rattle.c_grammar.specs.Ahead.{is_open, is_spec_word, spec_ahead, close_ahead}
use Rattle.c_grammar.specs.TypeRules.{TypeRule, MayName, MayOmit}
use Rattle.c_grammar.specs.TypeRules as types
use Rattle.c_grammar.specs.Grammar.{type_rule}
use Rattle.c_grammar.specs.Refused.{part_construct, where_true, may_omit}
use Rattle.c_grammar.specs.Choice.{this, name_choice, spec_word_choice, spec_token_choice, structure_choice, enumeration_choice, nameless_choice, named_choice, direct_word_choice, direct_choice}
use Rattle.c_grammar.proofs.Table.{Leads, IsChoice}
use Rattle.c_grammar.proofs.Sets.{class_of}
use Rattle.c_grammar.proofs.Firsts.{begins, by_sign, is_tail}
use Rattle.c_grammar.proofs.Constructs.{IsNone}
use Rattle.c_grammar.proofs.Own.{never}
use Rattle.c_grammar.proofs.Led.{led, full_begins, chain_begins, seen, pick, skip, not_close, not_right_brace, not_right_bracket, not_star, not_const, spec_seen, word_no_sign}

storage_read : (w : Scene) (s : StorageWord) → spec_word_choice w (storage_word s) ≡ this (type_rule (types.storage s))
storage_read w storages.Typedef = refl
storage_read w _ = refl

basic_read : (w : Scene) (s : TypeWord) → spec_word_choice w (type_word s) ≡ this (type_rule (types.basic s))
basic_read w type_words.Void = refl
basic_read w _ = refl

typedef_read : (w : Scene) (t : Token) → Fits w type_name t → spec_token_choice w t ≡ this (type_rule types.typedef_name)
typedef_read w (kinds.Word name) h = ap (name_choice w) h
typedef_read w _ h = absurd h

tag_read : (w : Scene) (at : Pos) (t : Token) → Fits w any_word t → structure_choice w at t ≡ this (type_rule types.structure_tag)
tag_read w at (kinds.Word name) h = refl
tag_read w at _ h = absurd h

enumeration_read : (w : Scene) (at : Pos) (t : Token) → Fits w any_word t → enumeration_choice w at t ≡ this (type_rule types.enumeration_tag)
enumeration_read w at (kinds.Word name) h = refl
enumeration_read w at _ h = absurd h

named_read : (w : Scene) (r : Role) (h : MayName r) → named_choice w r ≡ this (type_rule (types.declared_name h))
named_read w r types.naming = refl
named_read w r types.of_member = refl
named_read w r types.of_parameter = refl

direct_read : (w : Scene) (r : Role) (h : MayName r) (t : Token) → Fits w word t → direct_choice w r t ≡ this (type_rule (types.declared_name h))
direct_read w r h (kinds.Word name) e = ap (direct_word_choice w r) e ∙ named_read w r h
direct_read w r h _ e = absurd e

pub nameless_read : (w : Scene) (r : Role) (h : MayOmit r) → nameless_choice w r ≡ this (type_rule (types.no_name h))
nameless_read w r types.of_parameter = refl
nameless_read w r types.of_type_name = refl

omits : (r : Role) → MayOmit r → may_omit r ≡ true
omits r types.of_parameter = refl
omits r types.of_type_name = refl

-- brackets behind no name, where a parenthesis opens parameters, which is a construct
tail_read : (w : Scene) (r : Role) (h : MayOmit r) (t : Token) (x : Bool) → by_sign is_tail (class_of w t) ≡ true → (not (is_open t) || (is_open t && x)) ≡ true → where_true (may_omit r && (is_open t && x)) constructs.FunctionPointer ≡ None → direct_choice w r t ≡ this (type_rule (types.no_name h))
tail_read w r h (kinds.Punctuator signs.LeftParenthesis) x b e n = absurd (subst IsNone (sym (ap (λ y. where_true (y && (true && x)) constructs.FunctionPointer) (sym (omits r h)) ∙ n) ∙ ap (λ y. where_true y constructs.FunctionPointer) e) tt)
tail_read w r h (kinds.Punctuator signs.LeftBracket) x b e n = nameless_read w r h
tail_read w r h (kinds.Punctuator _) x b e n = never b
tail_read w r h (kinds.Word name) x b e n = absurd (true≢false (sym b ∙ word_no_sign is_tail (names_type w name)))
tail_read w r h _ x b e n = never b

pub type_predicts : {w : Scene} {p : Part} {q : Process (Value p)} → TypeRule w p q → (t : Placed) (ts : List Placed) → Leads begins w p q (t ∷ ts) → part_construct w p (t ∷ ts) ≡ None → IsChoice w p (t ∷ ts) q
unfolding is_spec_word
type_predicts types.specs t ts l n = (type_rule types.specs, refl)
type_predicts types.specs_end t ts l n = absurd (led (led l).1)
type_predicts (types.specs_more {w}) t ts l n = (type_rule types.specs_more, pick _ _ _ (spec_seen w t.token (full_begins refl l)))
type_predicts (types.storage {w} s) t ts l n = (type_rule (types.storage s), seen w (ASpec Spec) t ts (led l) ∙ storage_read w s)
type_predicts (types.basic {w} s) t ts l n = (type_rule (types.basic s), seen w (ASpec Spec) t ts (led l) ∙ basic_read w s)
type_predicts (types.typedef_name {w}) t ts l n = (type_rule types.typedef_name, typedef_read w t.token (led l))
type_predicts (types.structure_tag {w} {at}) t ts l n = (type_rule types.structure_tag, tag_read w at t.token (led l))
type_predicts types.structure_named t ts l n = absurd (led l)
type_predicts types.members t ts l n = (type_rule types.members, refl)
type_predicts (types.members_more {w}) t ts l n = (type_rule types.members_more, skip _ _ _ (not_right_brace (begins w AMember) refl t.token (full_begins refl l)))
type_predicts types.member t ts l n = (type_rule types.member, refl)
type_predicts (types.enumeration_tag {w} {at}) t ts l n = (type_rule types.enumeration_tag, enumeration_read w at t.token (led l))
type_predicts types.enumeration_named t ts l n = absurd (led l)
type_predicts types.enumerators t ts l n = (type_rule types.enumerators, refl)
type_predicts (types.enumerators_next {w}) t ts l n = (type_rule types.enumerators_next, skip _ _ _ (not_right_brace (begins w AnEnumerator) refl t.token (full_begins refl l)))
type_predicts types.enumerator t ts l n = (type_rule types.enumerator, refl)
type_predicts types.enumerator_plain t ts l n = absurd (led l)
type_predicts (types.pointed {w} {r}) t ts l n = (type_rule types.pointed, skip _ _ _ (not_const (begins w (ADeclarator (Declarator r))) refl t.token (chain_begins l)))
type_predicts (types.direct {w} {r}) t ts l n = (type_rule types.direct, skip _ _ _ (not_star (begins w (ADeclarator (Direct r))) refl t.token (chain_begins l)))
type_predicts (types.declared_name {w} {r} h) t ts l n = (type_rule (types.declared_name h), direct_read w r h t.token (led l))
type_predicts types.group_end t ts l n = (type_rule types.group_end, refl)
type_predicts (types.no_name {w} {r} h) t ts l n = (type_rule (types.no_name h), tail_read w r h t.token (spec_ahead w ts || close_ahead ts) (chain_begins (led l).1) (led l).0 n)
type_predicts types.tails_end t ts l n = absurd (led l)
type_predicts (types.size {w}) t ts l n = (type_rule types.size, skip _ _ _ (not_right_bracket (begins w (AnExpr Conditional)) refl t.token (full_begins refl l)))
type_predicts (types.parameters {w}) t ts l n = (type_rule types.parameters, skip _ _ _ (not_close (begins w Parameter) refl t.token (full_begins refl l)))
type_predicts types.parameter t ts l n = (type_rule types.parameter, refl)
type_predicts {w} {p} r t ts l n = (type_rule r, seen w p t ts (led l))
