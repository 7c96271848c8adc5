-- Steps of the descent through what begins a struct or an enumeration.
use Rattle.std.proofs.Common.{◌≡◌, refl, subst, ℕ, true, false, List, [], ◌∷◌}
use Rattle.std.specs.Prelude.{Option, Some, None, IfSome}
use Rattle.c_syntax_written.specs.declared.place.Pos.{Pos}
use Rattle.c_syntax_written.specs.declared.token.Placed.{Placed}
use Rattle.c_syntax_written.specs.declared.token.Punctuator.{Punctuator}
use Rattle.c_syntax_written.specs.declared.token.Punctuator.TheVariants as signs
use Rattle.c_syntax_written.specs.declared.token.Token.{Token}
use Rattle.c_syntax_written.specs.declared.token.Token.TheVariants as kinds
use Rattle.c_syntax_written.specs.declared.written.Tag.{Tag}
use Rattle.c_syntax_written.specs.Written as trees
use Rattle.c_syntax_written.specs.Written.{SpecTree}
use Rattle.c_grammar.specs.Parts.{Scene, ASpec, Members, Enumerators}
use Rattle.c_grammar.specs.Process.{give, token, part}
use Rattle.c_grammar.specs.declared.class.Class.TheVariants.{Sign as sign, AnyWord as any_word}
use Rattle.c_grammar.specs.Classes.{name_of}
use Rattle.c_grammar.specs.Grammar.{type_rule}
use Rattle.c_grammar.specs.TypeRules as types
use Rattle.c_grammar.specs.Refused.{first_is, is_brace}
use Rattle.c_grammar.specs.Descent.{Outcome, Done, Stop, Goes, Follows, no_rule, refusal}
use Rattle.c_parser_steps.specs.declared.type_kind.TagKind.TheVariants as tags
use Rattle.c_parser_steps.specs.Kinds.{tag_at, tag_of}
use Rattle.c_parser_steps.proofs.Steps.{by, done, if_true, if_false}
use Rattle.c_parser_steps.proofs.TypeSteps.{structure_is, enumeration_is}
use Rattle.c_parser_leaves.specs.Tags.{Owner, of_structure, of_enumeration, tagged, NamesOrBraces}

-- a tag comes
pub tag_comes : {d : ℕ} {w : Scene} {ts : List Placed} {o : Outcome SpecTree} (owner : Owner) (at : Pos) → tag_at ts ≡ tags.Tag → Follows d w (ASpec (tagged owner at None)) (token 0 any_word (λ t. part 0 w (ASpec (tagged owner at (Some (record { pos = t.pos; name = name_of t.token })))) give)) ts o → Goes d w (ASpec (tagged owner at None)) ts o
tag_comes of_structure at h f = by (type_rule types.structure_tag) refl (structure_is _ _ _ h) f
tag_comes of_enumeration at h f = by (type_rule types.enumeration_tag) refl (enumeration_is _ _ _ h) f

-- neither a tag nor braces come
pub no_tag : {d : ℕ} {w : Scene} {ts : List Placed} (owner : Owner) (at : Pos) → tag_at ts ≡ tags.Neither → Goes d w (ASpec (tagged owner at None)) ts (Stop (refusal w d ts) ts)
no_tag of_structure at h = no_rule refl (structure_is _ _ _ h)
no_tag of_enumeration at h = no_rule refl (enumeration_is _ _ _ h)

-- its tag is this
pub tagged_at : {d : ℕ} {w : Scene} (owner : Owner) (at place : Pos) {a b : List ℕ} {ts : List Placed} {o : Outcome SpecTree} → a ≡ b → Goes d w (ASpec (tagged owner at (Some (record { pos = place; name = a })))) ts o → Goes d w (ASpec (tagged owner at (Some (record { pos = place; name = b })))) ts o
tagged_at {d} {w} owner at place {a} {b} {ts} {o} e g = subst (λ v. Goes d w (ASpec (tagged owner at (Some (record { pos = place; name = v })))) ts o) e g

brace_sign : (p : Punctuator) → is_brace (kinds.Punctuator p) ≡ true → tag_of (kinds.Punctuator p) ≡ tags.Body
brace_sign signs.LeftBrace h = refl
brace_sign _ h = absurd (let f : false ≡ true = h in cc)

brace_token : (k : Token) → is_brace k ≡ true → tag_of k ≡ tags.Body
brace_token (kinds.Punctuator p) h = brace_sign p h
brace_token _ h = absurd (let f : false ≡ true = h in cc)

-- a brace comes
pub body_comes : (ts : List Placed) → first_is is_brace ts ≡ true → tag_at ts ≡ tags.Body
body_comes [] h = absurd (let f : false ≡ true = h in cc)
body_comes (t ∷ ts) h = brace_token t.token h

no_body_sign : (p : Punctuator) → is_brace (kinds.Punctuator p) ≡ false → tag_of (kinds.Punctuator p) ≡ tags.Body → ⊥
no_body_sign signs.LeftBrace h e = let f : true ≡ false = h in cc
no_body_sign _ h e = let f : tags.Neither ≡ tags.Body = e in cc

no_body_token : (k : Token) → is_brace k ≡ false → tag_of k ≡ tags.Body → ⊥
no_body_token (kinds.Punctuator p) h e = no_body_sign p h e
no_body_token (kinds.Word name) h e = let f : tags.Tag ≡ tags.Body = e in cc
no_body_token _ h e = let f : tags.Neither ≡ tags.Body = e in cc

pub no_body : (ts : List Placed) → first_is is_brace ts ≡ false → tag_at ts ≡ tags.Body → ⊥
no_body [] h e = let f : tags.Neither ≡ tags.Body = e in cc
no_body (t ∷ ts) h e = no_body_token t.token h e

-- members between braces
pub structure_braces : {d : ℕ} {w : Scene} {at : Pos} {ts : List Placed} {o : Outcome SpecTree} (tag : Option Tag) → first_is is_brace ts ≡ true → Follows d w (ASpec (tagged of_structure at tag)) (token 1 (sign signs.LeftBrace) (λ t. part 1 w Members (λ members. give (trees.StructBody at tag members)))) ts o → Goes d w (ASpec (tagged of_structure at tag)) ts o
structure_braces {ts = ts} None h f = by (type_rule types.structure_body) refl (structure_is _ _ _ (body_comes ts h)) f
structure_braces (Some tag) h f = by (type_rule types.structure_tagged_body) refl (if_true _ h) f

-- constants between braces
pub enumeration_braces : {d : ℕ} {w : Scene} {at : Pos} {ts : List Placed} {o : Outcome SpecTree} (tag : Option Tag) → first_is is_brace ts ≡ true → Follows d w (ASpec (tagged of_enumeration at tag)) (token 1 (sign signs.LeftBrace) (λ t. part 1 w Enumerators (λ enumerators. give (trees.EnumBody at tag enumerators)))) ts o → Goes d w (ASpec (tagged of_enumeration at tag)) ts o
enumeration_braces {ts = ts} None h f = by (type_rule types.enumeration_body) refl (enumeration_is _ _ _ (body_comes ts h)) f
enumeration_braces (Some tag) h f = by (type_rule types.enumeration_tagged_body) refl (if_true _ h) f

-- a tag alone
pub structure_alone : {d : ℕ} {w : Scene} (at : Pos) {ts : List Placed} {v : SpecTree} (tag : Option Tag) → NamesOrBraces tag ts → first_is is_brace ts ≡ false → IfSome tag (λ t. v ≡ trees.Struct at t) → Goes d w (ASpec (tagged of_structure at tag)) ts (Done v ts)
structure_alone at {ts = ts} None b h e = absurd (no_body ts h b)
structure_alone at (Some tag) b h e = by (type_rule types.structure_named) refl (if_false _ h) (done e)

pub enumeration_alone : {d : ℕ} {w : Scene} (at : Pos) {ts : List Placed} {v : SpecTree} (tag : Option Tag) → NamesOrBraces tag ts → first_is is_brace ts ≡ false → IfSome tag (λ t. v ≡ trees.Enum at t) → Goes d w (ASpec (tagged of_enumeration at tag)) ts (Done v ts)
enumeration_alone at {ts = ts} None b h e = absurd (no_body ts h b)
enumeration_alone at (Some tag) b h e = by (type_rule types.enumeration_named) refl (if_false _ h) (done e)
