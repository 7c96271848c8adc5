-- Steps of the descent through specs, members and enumerators.
use Rattle.std.proofs.Common.{◌≡◌, refl, sym, subst, ap, ◌∙◌, ℕ, Bool, true, false, ◌&&◌, ◌||◌, List, [], ◌∷◌, Bor}
use Rattle.std.specs.Prelude.{Ok, None}
use Rattle.c_syntax_written.specs.declared.place.Pos.{Pos}
use Rattle.c_syntax_written.specs.declared.token.Placed.{Placed}
use Rattle.c_syntax_written.specs.declared.token.Keyword.{Keyword}
use Rattle.c_syntax_written.specs.declared.token.Keyword.TheVariants as keywords
use Rattle.c_syntax_written.specs.declared.token.Punctuator.TheVariants as signs
use Rattle.c_syntax_written.specs.declared.token.Token.{Token}
use Rattle.c_syntax_written.specs.declared.token.Token.TheVariants as kinds
use Rattle.c_syntax_written.specs.declared.written.Specs.{Specs}
use Rattle.c_syntax_written.specs.declared.written.Declarators.{Declarators}
use Rattle.c_syntax_written.specs.declared.written.Spec.TheVariants as spec_nodes
use Rattle.c_syntax_written.specs.declared.written.MemberDecl.TheVariants as lines
use Rattle.c_syntax_written.proofs.WrittenTrees.{spec_typedef_name, memberdecl_members}
use Rattle.c_syntax_written.specs.Written as trees
use Rattle.c_syntax_written.specs.Written.{SpecTree, SpecTrees, no_specs, more_specs, specs_then, DeclaratorTree, DeclaratorTrees, declarators_then, MemberDeclTree, MemberDeclTrees, memberdecls_then, EnumeratorTree, EnumeratorTrees, enumerators_then, spec_tree, specs_tree, memberdecl_tree, declarators_tree}
use Rattle.c_grammar.specs.Parts.{Scene, Spec, Structure, StructureTagged, Enumeration, EnumerationTagged, ASpec, MoreSpecs, MoreMembers, MoreDeclarators, MoreEnumerators, NextEnumerator, EnumeratorValue}
use Rattle.c_grammar.specs.declared.class.Class.TheVariants.{Sign as sign}
use Rattle.c_grammar.specs.Classes.{names_type}
use Rattle.c_grammar.specs.Grammar.{type_rule}
use Rattle.c_grammar.specs.TypeRules as types
use Rattle.c_grammar.specs.Ahead.{is_colon}
use Rattle.c_grammar.specs.Made.{has_type, is_type}
use Rattle.c_grammar.specs.Refused.{first_is}
use Rattle.c_grammar.specs.Choice.{choose, name_choice, is_right_brace, is_semicolon}
use Rattle.c_grammar.specs.Descent.{Outcome, Goes}
use Rattle.c_parser_steps.specs.declared.type_kind.SpecKind.{SpecKind}
use Rattle.c_parser_steps.specs.declared.type_kind.SpecKind.TheVariants as specs
use Rattle.c_parser_steps.specs.declared.type_kind.TagKind.{TagKind}
use Rattle.c_parser_steps.specs.declared.type_kind.TagKind.TheVariants as tags
use Rattle.c_parser_steps.specs.Answers.{Takes}
use Rattle.c_parser_steps.specs.Kinds.{spec_at, spec_of, spec_of_word, tag_at, tag_of}
use Rattle.c_parser_steps.proofs.Choices.{Chosen}
use Rattle.c_parser_steps.proofs.Steps.{by, take, if_false}
use Rattle.c_parser_steps.proofs.Last.{same, last_part}

abbrev at_token : Pos → Token → List Placed → List Placed
at_token at k ts = record { pos = at; token = k } ∷ ts

-- specs
abbrev pub SpecTells : Scene → List Placed → SpecKind → Type 0
SpecTells w ts specs.TypedefName = Chosen (type_rule (types.typedef_name {w = w})) ts
SpecTells w ts (specs.Storage s) = Chosen (type_rule (types.storage {w = w} s)) ts
SpecTells w ts specs.Const = Chosen (type_rule (types.constant {w = w})) ts
SpecTells w ts (specs.Basic s) = Chosen (type_rule (types.basic {w = w} s)) ts
SpecTells w ts specs.Structure = Chosen (type_rule (types.structure {w = w})) ts
SpecTells w ts specs.Enumeration = Chosen (type_rule (types.enumeration {w = w})) ts
SpecTells w ts specs.Neither = choose w (ASpec Spec) ts ≡ None

spec_word : (w : Scene) (at : Pos) (name : List ℕ) (ts : List Placed) (b : Bool) → names_type w name ≡ b → SpecTells w (at_token at (kinds.Word name) ts) (spec_of_word b)
spec_word w at name ts true e = ap (λ v. name_choice w v) e
spec_word w at name ts false e = ap (λ v. name_choice w v) e

spec_keyword : (w : Scene) (at : Pos) (k : Keyword) (ts : List Placed) → SpecTells w (at_token at (kinds.Keyword k) ts) (spec_of w (kinds.Keyword k))
spec_keyword w at keywords.Typedef ts = refl
spec_keyword w at _ ts = refl

spec_token : (w : Scene) (at : Pos) (k : Token) (ts : List Placed) → SpecTells w (at_token at k ts) (spec_of w k)
spec_token w at (kinds.Word name) ts = spec_word w at name ts (names_type w name) refl
spec_token w at (kinds.Keyword k) ts = spec_keyword w at k ts
spec_token w at _ ts = refl

spec_tells : (w : Scene) (ts : List Placed) → SpecTells w ts (spec_at w ts)
spec_tells w [] = refl
spec_tells w (t ∷ ts) = spec_token w t.pos t.token ts

pub spec_is : (w : Scene) (ts : List Placed) {k : SpecKind} → spec_at w ts ≡ k → SpecTells w ts k
spec_is w ts e = subst (λ v. SpecTells w ts v) e (spec_tells w ts)

-- what follows `struct`
abbrev pub StructureTells : Scene → Pos → List Placed → TagKind → Type 0
StructureTells w at ts tags.Tag = Chosen (type_rule (types.structure_tag {w = w} {at = at})) ts
StructureTells w at ts tags.Body = Chosen (type_rule (types.structure_body {w = w} {at = at})) ts
StructureTells w at ts tags.Neither = choose w (ASpec (Structure at)) ts ≡ None

structure_token : (w : Scene) (at place : Pos) (k : Token) (ts : List Placed) → StructureTells w at (at_token place k ts) (tag_of k)
structure_token w at place (kinds.Punctuator signs.LeftBrace) ts = refl
structure_token w at place _ ts = refl

structure_tells : (w : Scene) (at : Pos) (ts : List Placed) → StructureTells w at ts (tag_at ts)
structure_tells w at [] = refl
structure_tells w at (t ∷ ts) = structure_token w at t.pos t.token ts

pub structure_is : (w : Scene) (at : Pos) (ts : List Placed) {k : TagKind} → tag_at ts ≡ k → StructureTells w at ts k
structure_is w at ts e = subst (λ v. StructureTells w at ts v) e (structure_tells w at ts)

-- what follows `enum`
abbrev pub EnumerationTells : Scene → Pos → List Placed → TagKind → Type 0
EnumerationTells w at ts tags.Tag = Chosen (type_rule (types.enumeration_tag {w = w} {at = at})) ts
EnumerationTells w at ts tags.Body = Chosen (type_rule (types.enumeration_body {w = w} {at = at})) ts
EnumerationTells w at ts tags.Neither = choose w (ASpec (Enumeration at)) ts ≡ None

enumeration_token : (w : Scene) (at place : Pos) (k : Token) (ts : List Placed) → EnumerationTells w at (at_token place k ts) (tag_of k)
enumeration_token w at place (kinds.Punctuator signs.LeftBrace) ts = refl
enumeration_token w at place _ ts = refl

enumeration_tells : (w : Scene) (at : Pos) (ts : List Placed) → EnumerationTells w at ts (tag_at ts)
enumeration_tells w at [] = refl
enumeration_tells w at (t ∷ ts) = enumeration_token w at t.pos t.token ts

pub enumeration_is : (w : Scene) (at : Pos) (ts : List Placed) {k : TagKind} → tag_at ts ≡ k → EnumerationTells w at ts k
enumeration_is w at ts e = subst (λ v. EnumerationTells w at ts v) e (enumeration_tells w at ts)

-- what was read before is this
pub specs_at : {d : ℕ} {w : Scene} {a b : SpecTrees} {ts : List Placed} {o : Outcome SpecTrees} → a ≡ b → Goes d w (MoreSpecs a) ts o → Goes d w (MoreSpecs b) ts o
specs_at {d} {w} {a} {b} {ts} {o} e g = subst (λ v. Goes d w (MoreSpecs v) ts o) e g

pub members_at : {d : ℕ} {w : Scene} {a b : MemberDeclTrees} {ts : List Placed} {o : Outcome MemberDeclTrees} → a ≡ b → Goes d w (MoreMembers a) ts o → Goes d w (MoreMembers b) ts o
members_at {d} {w} {a} {b} {ts} {o} e g = subst (λ v. Goes d w (MoreMembers v) ts o) e g

pub declarators_at : {d : ℕ} {w : Scene} {s : SpecTrees} {a b : DeclaratorTrees} {ts : List Placed} {o : Outcome MemberDeclTree} → a ≡ b → Goes d w (MoreDeclarators s a) ts o → Goes d w (MoreDeclarators s b) ts o
declarators_at {d} {w} {s} {a} {b} {ts} {o} e g = subst (λ v. Goes d w (MoreDeclarators s v) ts o) e g

pub enumerators_at : {d : ℕ} {w : Scene} {a b : EnumeratorTrees} {ts : List Placed} {o : Outcome EnumeratorTrees} → a ≡ b → Goes d w (MoreEnumerators a) ts o → Goes d w (MoreEnumerators b) ts o
enumerators_at {d} {w} {a} {b} {ts} {o} e g = subst (λ v. Goes d w (MoreEnumerators v) ts o) e g

pub structure_tagged_at : {d : ℕ} {w : Scene} {at place : Pos} {a b : List ℕ} {ts : List Placed} {o : Outcome SpecTree} → a ≡ b → Goes d w (ASpec (StructureTagged at (record { pos = place; name = a }))) ts o → Goes d w (ASpec (StructureTagged at (record { pos = place; name = b }))) ts o
structure_tagged_at {d} {w} {at} {place} {a} {b} {ts} {o} e g = subst (λ v. Goes d w (ASpec (StructureTagged at (record { pos = place; name = v }))) ts o) e g

pub enumeration_tagged_at : {d : ℕ} {w : Scene} {at place : Pos} {a b : List ℕ} {ts : List Placed} {o : Outcome SpecTree} → a ≡ b → Goes d w (ASpec (EnumerationTagged at (record { pos = place; name = a }))) ts o → Goes d w (ASpec (EnumerationTagged at (record { pos = place; name = b }))) ts o
enumeration_tagged_at {d} {w} {at} {place} {a} {b} {ts} {o} e g = subst (λ v. Goes d w (ASpec (EnumerationTagged at (record { pos = place; name = v }))) ts o) e g

pub value_at : {d : ℕ} {w : Scene} {at : Pos} {a b : List ℕ} {ts : List Placed} {o : Outcome EnumeratorTree} → a ≡ b → Goes d w (EnumeratorValue at a) ts o → Goes d w (EnumeratorValue at b) ts o
value_at {d} {w} {at} {a} {b} {ts} {o} e g = subst (λ v. Goes d w (EnumeratorValue at v) ts o) e g

-- what follows a comma between enumerators
pub next_step : {d : ℕ} {w : Scene} {before : EnumeratorTrees} {p : Bor Placed × Bor (List Placed)} {ts : List Placed} (o : Outcome EnumeratorTrees) → first_is is_right_brace ts ≡ false → Takes d w 0 (sign signs.Comma) ts (Ok p) → Goes d w (NextEnumerator before) p.1.now o → Goes d w (MoreEnumerators before) ts o
next_step {d} {w} {before} {p} {ts} o e t k = by (type_rule types.enumerators_more) refl (if_false _ e) (take t (last_part same o k))

-- whether specs tell a type
or_false : (b : Bool) → (b || false) ≡ b
or_false true = refl
or_false false = refl

or_or : (a b c : Bool) → ((a || b) || c) ≡ (a || (b || c))
or_or true b c = refl
or_or false b c = refl

-- a typedef name comes behind specs that tell a type, or not
pub again_is : {a c d : Bool} (b : Bool) → a ≡ c → (b && a) ≡ d → (b && c) ≡ d
again_is {a} {c} {d} b e f = subst (λ v. (b && v) ≡ d) e f

then_type : (before : SpecTrees) (next : SpecTree) → (has_type before || is_type next) ≡ has_type (specs_then before next)
unfolding has_type specs_then
then_type no_specs next = sym (or_false (is_type next))
then_type (more_specs spec rest) next = or_or (is_type spec) (has_type rest) (is_type next) ∙ ap (λ v. is_type spec || v) (then_type rest next)

pub more_type : {a b : Bool} {longer : SpecTrees} (before : SpecTrees) (next : SpecTree) → b ≡ (a || is_type next) → a ≡ has_type before → longer ≡ specs_then before next → b ≡ has_type longer
more_type {a} {b} {longer} before next e f g = e ∙ ap (λ v. v || is_type next) f ∙ then_type before next ∙ ap has_type (sym g)

-- where a semicolon comes, no colon does
semicolon_token : (k : Token) → is_semicolon k ≡ true → is_colon k ≡ false
semicolon_token (kinds.Punctuator signs.Colon) e = absurd (let h : false ≡ true = e in cc)
semicolon_token _ e = refl

pub no_colon : (ts : List Placed) → first_is is_semicolon ts ≡ true → first_is is_colon ts ≡ false
no_colon [] e = refl
no_colon (t ∷ ts) e = semicolon_token t.token e

-- the trees of nodes whose fields are known by equations
pub typedef_name_is : {at : Pos} {a b : List ℕ} → a ≡ b → spec_tree (spec_nodes.TypedefName at a) ≡ trees.TypedefName at b
typedef_name_is {at} {a} {b} e = spec_typedef_name at a ∙ ap (trees.TypedefName at) e

pub members_are : {at place : Pos} {list : DeclaratorTrees} (specs : Specs) (declarators : Declarators) → at ≡ place → declarators_tree declarators ≡ list → memberdecl_tree (lines.Members at specs declarators) ≡ trees.Members place (specs_tree specs) list
members_are {at} {place} {list} specs declarators e f =
    memberdecl_members at specs declarators ∙ ap (λ v. trees.Members v (specs_tree specs) (declarators_tree declarators)) e ∙ ap (trees.Members place (specs_tree specs)) f
