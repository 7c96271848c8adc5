-- Steps of the descent through declarators and parameters.
use Rattle.std.proofs.Common.{◌≡◌, refl, sym, subst, ap, ◌∙◌, ℕ, Bool, true, false, not, ◌&&◌, List, [], ◌∷◌, Bor}
use Rattle.std.specs.Prelude.{Ok, None}
use Rattle.c_syntax_written.specs.declared.place.Pos.{Pos}
use Rattle.c_syntax_written.specs.declared.token.Placed.{Placed}
use Rattle.c_syntax_written.specs.declared.token.Keyword.TheVariants as keywords
use Rattle.c_syntax_written.specs.declared.token.Punctuator.TheVariants as signs
use Rattle.c_syntax_written.specs.declared.token.Token.{Token}
use Rattle.c_syntax_written.specs.declared.token.Token.TheVariants as kinds
use Rattle.c_syntax_written.specs.declared.written.Declarator.{Declarator}
use Rattle.c_syntax_written.specs.declared.written.Declarator.TheVariants as declarators
use Rattle.c_syntax_written.proofs.WrittenTrees.{declarator_absent, declarator_name}
use Rattle.c_syntax_written.specs.Written.{DeclaratorTree, Absent, Name, declarator_tree, ParamTrees}
use Rattle.c_grammar.specs.declared.parts.Role.{Role}
use Rattle.c_grammar.specs.declared.parts.Role.TheVariants.{Naming, OfMember, OfParameter, OfTypeName}
use Rattle.c_grammar.specs.Parts.{Scene, Part, Value, Pointed, Direct, Tails, MoreParameters, ADeclarator, DeclaratorPart}
use Rattle.c_grammar.specs.Process.{Process, give, token}
use Rattle.c_grammar.specs.declared.class.Class.{Class}
use Rattle.c_grammar.specs.declared.class.Class.TheVariants.{Keyword as keyword}
use Rattle.c_grammar.specs.Classes.{names_type}
use Rattle.c_grammar.specs.Made.{function_of, is_given}
use Rattle.c_grammar.specs.Grammar.{type_rule}
use Rattle.c_grammar.specs.TypeRules as types
use Rattle.c_grammar.specs.TypeRules.{MayName, MayOmit}
use Rattle.c_grammar.specs.Ahead.{no_group_ahead}
use Rattle.c_grammar.specs.Refused.{first_is}
use Rattle.c_grammar.specs.Choice.{choose, direct_word_choice, is_const_word}
use Rattle.c_grammar.specs.Descent.{Outcome, Goes, Follows}
use Rattle.c_parser_steps.specs.declared.type_kind.DirectKind.{DirectKind}
use Rattle.c_parser_steps.specs.declared.type_kind.DirectKind.TheVariants as directs
use Rattle.c_parser_steps.specs.declared.type_kind.TailKind.{TailKind}
use Rattle.c_parser_steps.specs.declared.type_kind.TailKind.TheVariants as tails
use Rattle.c_parser_steps.specs.Answers.{Takes}
use Rattle.c_parser_steps.specs.Views.{boxed_declarator}
use Rattle.std.specs.declared.alloc.Global.{Global}
use Rattle.std.specs.declared.boxed.Box.{Box}
use Rattle.c_parser_steps.specs.Kinds.{direct_at, direct_of, direct_of_word, is_no_tail, tail_at, tail_of, sign_of}
use Rattle.c_parser_steps.proofs.Choices.{Chosen}
use Rattle.c_parser_steps.proofs.Steps.{by, take, if_true}
use Rattle.c_parser_steps.proofs.Last.{same, last_part}

abbrev at_token : Pos → Token → List Placed → List Placed
at_token at k ts = record { pos = at; token = k } ∷ ts

-- a declarator behind its stars
abbrev pub DirectTells : Scene → Role → List Placed → DirectKind → Type 0
DirectTells w r ts directs.Name = (m : MayName r) × Chosen (type_rule (types.declared_name {w = w} m)) ts
DirectTells w r ts directs.Grouped = Chosen (type_rule (types.grouped {w = w} {r = r})) ts
DirectTells w r ts directs.Nameless = (m : MayOmit r) × Chosen (type_rule (types.no_name {w = w} m)) ts × (no_group_ahead w ts ≡ true)
DirectTells w r ts directs.Neither = choose w (ADeclarator (Direct r)) ts ≡ None

direct_word : (w : Scene) (r : Role) (at : Pos) (name : List ℕ) (ts : List Placed) (b : Bool) → names_type w name ≡ b → DirectTells w r (at_token at (kinds.Word name) ts) (direct_of_word r b)
direct_word w Naming at name ts true e = ap (λ v. direct_word_choice w Naming v) e
direct_word w OfMember at name ts true e = ap (λ v. direct_word_choice w OfMember v) e
direct_word w OfParameter at name ts true e = (types.of_parameter, ap (λ v. direct_word_choice w OfParameter v) e, refl)
direct_word w OfTypeName at name ts true e = (types.of_type_name, ap (λ v. direct_word_choice w OfTypeName v) e, refl)
direct_word w Naming at name ts false e = (types.naming, ap (λ v. direct_word_choice w Naming v) e)
direct_word w OfMember at name ts false e = (types.of_member, ap (λ v. direct_word_choice w OfMember v) e)
direct_word w OfParameter at name ts false e = (types.of_parameter, ap (λ v. direct_word_choice w OfParameter v) e)
direct_word w OfTypeName at name ts false e = (types.of_type_name, ap (λ v. direct_word_choice w OfTypeName v) e, refl)

direct_naming : (w : Scene) (at : Pos) (k : Token) (ts : List Placed) → DirectTells w Naming (at_token at k ts) (direct_of w Naming k)
direct_naming w at (kinds.Word name) ts = direct_word w Naming at name ts (names_type w name) refl
direct_naming w at (kinds.Punctuator signs.LeftParenthesis) ts = refl
direct_naming w at _ ts = refl

direct_member : (w : Scene) (at : Pos) (k : Token) (ts : List Placed) → DirectTells w OfMember (at_token at k ts) (direct_of w OfMember k)
direct_member w at (kinds.Word name) ts = direct_word w OfMember at name ts (names_type w name) refl
direct_member w at (kinds.Punctuator signs.LeftParenthesis) ts = refl
direct_member w at _ ts = refl

direct_parameter : (w : Scene) (at : Pos) (k : Token) (ts : List Placed) → DirectTells w OfParameter (at_token at k ts) (direct_of w OfParameter k)
direct_parameter w at (kinds.Word name) ts = direct_word w OfParameter at name ts (names_type w name) refl
direct_parameter w at (kinds.Punctuator signs.LeftParenthesis) ts = refl
direct_parameter w at _ ts = (types.of_parameter, refl, refl)

direct_type_name : (w : Scene) (at : Pos) (k : Token) (ts : List Placed) → DirectTells w OfTypeName (at_token at k ts) (direct_of w OfTypeName k)
direct_type_name w at (kinds.Word name) ts = direct_word w OfTypeName at name ts (names_type w name) refl
direct_type_name w at (kinds.Punctuator signs.LeftParenthesis) ts = refl
direct_type_name w at _ ts = (types.of_type_name, refl, refl)

direct_tells : (w : Scene) (r : Role) (ts : List Placed) → DirectTells w r ts (direct_at w r ts)
direct_tells w Naming [] = refl
direct_tells w OfMember [] = refl
direct_tells w OfParameter [] = (types.of_parameter, refl, refl)
direct_tells w OfTypeName [] = (types.of_type_name, refl, refl)
direct_tells w Naming (t ∷ ts) = direct_naming w t.pos t.token ts
direct_tells w OfMember (t ∷ ts) = direct_member w t.pos t.token ts
direct_tells w OfParameter (t ∷ ts) = direct_parameter w t.pos t.token ts
direct_tells w OfTypeName (t ∷ ts) = direct_type_name w t.pos t.token ts

pub direct_is : (w : Scene) (r : Role) (ts : List Placed) {k : DirectKind} → direct_at w r ts ≡ k → DirectTells w r ts k
direct_is w r ts e = subst (λ v. DirectTells w r ts v) e (direct_tells w r ts)

-- brackets and parameters
abbrev pub TailTells : Scene → Role → Bool → DeclaratorTree → List Placed → TailKind → Type 0
TailTells w r p d ts tails.Array = Chosen (type_rule (types.array {w = w} {r = r} {is_plain = p} {d = d})) ts
TailTells w r p d ts tails.Function = Chosen (type_rule (types.function {w = w} {r = r} {is_plain = p} {d = d})) ts
TailTells w r p d ts tails.Nothing = Chosen (type_rule (types.tails_end {w = w} {r = r} {is_plain = p} {d = d})) ts

tail_token : (w : Scene) (r : Role) (p : Bool) (d : DeclaratorTree) (at : Pos) (k : Token) (ts : List Placed) → TailTells w r p d (at_token at k ts) (tail_of (sign_of k))
tail_token w r p d at (kinds.Punctuator signs.LeftBracket) ts = refl
tail_token w r p d at (kinds.Punctuator signs.LeftParenthesis) ts = refl
tail_token w r p d at _ ts = refl

tail_tells : (w : Scene) (r : Role) (p : Bool) (d : DeclaratorTree) (ts : List Placed) → TailTells w r p d ts (tail_at ts)
tail_tells w r p d [] = refl
tail_tells w r p d (t ∷ ts) = tail_token w r p d t.pos t.token ts

pub tail_is : (w : Scene) (r : Role) (p : Bool) (d : DeclaratorTree) (ts : List Placed) {k : TailKind} → tail_at ts ≡ k → TailTells w r p d ts k
tail_is w r p d ts e = subst (λ v. TailTells w r p d ts v) e (tail_tells w r p d ts)

-- what was read before is this
pub tails_at : {d : ℕ} {w : Scene} {r : Role} {p : Bool} {a b : DeclaratorTree} {ts : List Placed} {o : Outcome DeclaratorTree} → a ≡ b → Goes d w (ADeclarator (Tails r p a)) ts o → Goes d w (ADeclarator (Tails r p b)) ts o
tails_at {d} {w} {r} {p} {a} {b} {ts} {o} e g = subst (λ v. Goes d w (ADeclarator (Tails r p v)) ts o) e g

-- the declarator of this word
pub name_so : {d : ℕ} {w : Scene} {p : Part} (k : DeclaratorTree → Process (Value p)) {place : Pos} {a b : List ℕ} {v : Declarator} {ts : List Placed} {o : Outcome (Value p)} → v ≡ declarators.Name place a → a ≡ b → Follows d w p (k (declarator_tree v)) ts o → Follows d w p (k (Name place b)) ts o
name_so {d} {w} {p} k {place} {a} {b} {v} {ts} {o} h e g = subst (λ u. Follows d w p (k u) ts o) (ap declarator_tree h ∙ declarator_name place a ∙ ap (Name place) e) g

pub tails_absent : {d : ℕ} {w : Scene} {r : Role} {p : Bool} {v : Declarator} {ts : List Placed} {o : Outcome DeclaratorTree} → v ≡ declarators.Absent → Goes d w (ADeclarator (Tails r p (declarator_tree v))) ts o → Goes d w (ADeclarator (Tails r p Absent)) ts o
tails_absent h g = tails_at (ap declarator_tree h ∙ declarator_absent) g

pub parameters_at : {d : ℕ} {w : Scene} {at : Pos} {inner : DeclaratorTree} {a b : ParamTrees} {ts : List Placed} {o : Outcome DeclaratorTree} → a ≡ b → Goes d w (ADeclarator (MoreParameters at inner a)) ts o → Goes d w (ADeclarator (MoreParameters at inner b)) ts o
parameters_at {d} {w} {at} {inner} {a} {b} {ts} {o} e g = subst (λ v. Goes d w (ADeclarator (MoreParameters at inner v)) ts o) e g

-- what its parameters stand behind, and these, are the same
pub function_so : {d n : ℕ} {w : Scene} {x : DeclaratorPart} {c : Class} (at : Pos) {a b : Box Declarator Global} {params all : ParamTrees} {ts : List Placed} {o : Outcome DeclaratorTree} → a ≡ b → params ≡ all → Follows d w (ADeclarator x) (token n c (λ t. give (function_of at (boxed_declarator a) params))) ts o → Follows d w (ADeclarator x) (token n c (λ t. give (function_of at (boxed_declarator b) all))) ts o
function_so {d} {n} {w} {x} {c} at {a} {b} {params} {all} {ts} {o} e f g = subst (λ u. Follows d w (ADeclarator x) (token n c (λ t. give (function_of at (boxed_declarator b) u))) ts o) f (subst (λ v. Follows d w (ADeclarator x) (token n c (λ t. give (function_of at (boxed_declarator v) params))) ts o) e g)

-- a word `const` behind a star
pub const_step : {d : ℕ} {w : Scene} {r : Role} {at : Pos} {before : Bool} {p : Bor Placed × Bor (List Placed)} {ts : List Placed} (o : Outcome DeclaratorTree) → first_is is_const_word ts ≡ true → Takes d w 0 (keyword keywords.Const) ts (Ok p) → Goes d w (ADeclarator (Pointed r at true)) p.1.now o → Goes d w (ADeclarator (Pointed r at before)) ts o
const_step o e t k = by (type_rule types.pointer_const) refl (if_true _ e) (take t (last_part same o k))

pub both_true : {a b : Bool} → a ≡ true → b ≡ true → (a && b) ≡ true
both_true {a} {b} e f = subst (λ v. (v && b) ≡ true) (sym e) f

pub first_false : {a : Bool} (b : Bool) → a ≡ false → (a && b) ≡ false
first_false {a} b e = subst (λ v. (v && b) ≡ false) (sym e) refl

pub second_false : (a : Bool) {b : Bool} → b ≡ false → (a && b) ≡ false
second_false true e = e
second_false false e = refl

pub no_tail : (k : TailKind) → is_no_tail k ≡ true → k ≡ tails.Nothing
no_tail tails.Nothing e = refl
no_tail tails.Array e = absurd (let h : false ≡ true = e in cc)
no_tail tails.Function e = absurd (let h : false ≡ true = e in cc)

-- what was asked of a borrowed declarator holds of the declarator
pub regiven : {b : Bool} {v u : Declarator} → v ≡ u → b ≡ is_given (declarator_tree v) → is_given (declarator_tree u) ≡ b
regiven {b} {v} {u} e h = sym (h ∙ ap (λ x. is_given (declarator_tree x)) e)

pub renamed : (a p : Bool) {b : Bool} {v u : Declarator} → v ≡ u → b ≡ (a && (not p && is_given (declarator_tree v))) → (a && (not p && is_given (declarator_tree u))) ≡ b
renamed a p {b} {v} {u} e h = sym (h ∙ ap (λ x. a && (not p && is_given (declarator_tree x))) e)
