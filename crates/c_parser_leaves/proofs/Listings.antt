-- Lists that are read part by part.
use Rattle.std.proofs.Common.{◌≡◌, refl, sym, subst, ap, ℕ, true, false, List, Bor}
use Rattle.std.specs.Prelude.{[], None, Ok, Err}
use Rattle.c_syntax_written.specs.declared.place.Pos.{Pos}
use Rattle.c_syntax_written.specs.declared.token.Placed.{Placed}
use Rattle.c_syntax_written.specs.declared.token.Punctuator.TheVariants as signs
use Rattle.c_syntax_written.specs.declared.written.Expr.{Expr}
use Rattle.c_syntax_written.specs.declared.written.Enumerator.{Enumerator}
use Rattle.c_syntax_written.specs.declared.written.MemberDecl.{MemberDecl}
use Rattle.c_syntax_written.specs.declared.written.Param.{Param}
use Rattle.c_syntax_written.specs.declared.written.Spec.{Spec}
use Rattle.c_syntax_written.specs.declared.written.Declarator.{Declarator}
use Rattle.c_syntax_written.specs.Written.{DeclaratorTree, DeclaratorTrees, EnumeratorTrees, ExprTrees, MemberDeclTree, MemberDeclTrees, ParamTrees, SpecTrees, declarators_from, declarators_then, enumerators_from, enumerators_then, exprs_from, exprs_then, memberdecls_from, memberdecls_then, params_from, params_then, specs_from, specs_then}
use Rattle.c_grammar.specs.Parts as parts
use Rattle.c_grammar.specs.declared.parts.Role.TheVariants.{OfMember}
use Rattle.c_grammar.specs.Parts.{Scene, Part, Value, AnExpr, Assignment, Arguments, MoreArguments, Members, AMember, MoreMembers, Enumerators, AnEnumerator, MoreEnumerators, NextEnumerator, ADeclarator, ASpec, MoreSpecs, MoreDeclarators, Parameter, Parameters, MoreParameters}
use Rattle.c_grammar.specs.declared.class.Class.TheVariants.{Sign as sign}
use Rattle.c_grammar.specs.Ahead.{is_close, is_colon, spec_ahead}
use Rattle.c_grammar.specs.Choice.{is_right_brace, is_semicolon}
use Rattle.c_grammar.specs.Made.{has_type}
use Rattle.c_grammar.specs.Process.{Process, part}
use Rattle.c_grammar.specs.Refused.{Why, first_is, part_construct}
use Rattle.c_grammar.specs.Descent.{Outcome, Done, Stop, Goes, Follows}
use Rattle.c_parser_steps.specs.declared.fault.Fault.{Fault}
use Rattle.c_parser_steps.specs.Answers.{Gives, given, halted, Takes}
use Rattle.c_parser_steps.proofs.Steps.{halts, here, if_false, if_true, stops_here, unborne}
use Rattle.c_parser_steps.proofs.Last.{same, last_part}
use Rattle.c_parser_steps.proofs.Paths.{Path, after, begin, behind}
use Rattle.c_parser_steps.proofs.TypeSteps.{declarators_at, enumerators_at, members_at, next_step, specs_at}
use Rattle.c_parser_leaves.proofs.DeclaratorSteps.{parameters_at}
use Rattle.c_parser_leaves.proofs.ExprSteps.{arguments_at}

-- Where the descent has come in a list: a part is read next, and what is left behind it decides for all.
pub record Listing {V : Type 0} (item : Part) (goes : Outcome V → Type 0) (d : ℕ) (w : Scene) (more : Value item → List Placed → Outcome V → Type 0) (ts : List Placed) : Type 0 where
  pub read : (v : Value item) (after : List Placed) (o : Outcome V) → Goes d w item ts (Done v after) → more v after o → goes o
  pub stop : (why : Why) (rest : List Placed) → Goes d w item ts (Stop why rest) → goes (Stop why rest)

-- the part was read
pub goes_behind : {A V : Type 0} {item : Part} {goes : Outcome V → Type 0} {d : ℕ} {w : Scene} {more : Value item → List Placed → Outcome V → Type 0} {ts : List Placed} {view : A → Value item} {x : A × Bor (List Placed)} → Listing item goes d w more ts → Gives (λ o. Goes d w item ts o) view (Ok x) → (o : Outcome V) → more (view x.0) x.1.now o → goes o
goes_behind list (given g) o h = list.read _ _ o g h

-- the part was not read
pub not_read : {A B V : Type 0} {item : Part} {goes : Outcome V → Type 0} {d : ℕ} {w : Scene} {more : Value item → List Placed → Outcome V → Type 0} {ts : List Placed} {view : A → Value item} {seen : B → V} {f : Fault} → Listing item goes d w more ts → Gives (λ o. Goes d w item ts o) view (Err f) → Gives goes seen (Err f)
not_read list (halted h) = halted (halts h list.stop)

-- the way through a production has come to a part of the list
pub listed : {p item : Part} {goes : Outcome (Value p) → Type 0} {d : ℕ} {w : Scene} {k : Value item → Process (Value p)} {more : Value item → List Placed → Outcome (Value p) → Type 0} {ts : List Placed} → Path p goes d w (part 0 w item k) ts → ((v : Value item) (after : List Placed) (o : Outcome (Value p)) → more v after o → Follows d w p (k v) after o) → Listing item goes d w more ts
listed path f = record {
  read = λ v after o g h. path.run o (here g (f v after o h));
  stop = λ why rest g. path.run _ (stops_here g);
}

-- specs
pub first_spec : {d : ℕ} {w : Scene} {ts : List Placed} {items : List Spec} → items ≡ [] → Listing (ASpec parts.Spec) (λ (o : Outcome SpecTrees). Goes d w parts.Specs ts o) d w (λ v after o. Goes d w (MoreSpecs (specs_then (specs_from items) v)) after o) ts
unfolding specs_then specs_from
first_spec {w = w} empty = listed (begin {p = parts.Specs} (λ o g. g) refl refl) (λ v after o h. last_part same o (specs_at (ap (λ l. specs_then (specs_from l) v) empty) h))

pub next_spec : {goes : Outcome SpecTrees → Type 0} {d : ℕ} {w : Scene} {ts : List Placed} {before longer : SpecTrees} → part_construct w (MoreSpecs before) ts ≡ None → spec_ahead w ts ≡ true → longer ≡ before → ((o : Outcome SpecTrees) → Goes d w (MoreSpecs before) ts o → goes o) → Listing (ASpec parts.Spec) goes d w (λ v after o. Goes d w (MoreSpecs (specs_then longer v)) after o) ts
next_spec {before = before} n e eq f = listed (begin {p = MoreSpecs before} f n (if_true _ e)) (λ v after o h. last_part same o (specs_at (ap (λ l. specs_then l v) eq) h))

-- no spec tells a type yet
pub no_type : {items : List Spec} → items ≡ [] → false ≡ has_type (specs_from items)
unfolding has_type specs_from
no_type empty = sym (ap (λ l. has_type (specs_from l)) empty)

-- declarators of members
pub first_declarator : {A : Type 0} {d : ℕ} {w : Scene} {ts : List Placed} {view : A → SpecTrees} {x : A × Bor (List Placed)} {items : List Declarator} → Gives (λ o. Goes d w parts.Specs ts o) view (Ok x) → items ≡ [] → Listing (ADeclarator (parts.Declarator OfMember)) (λ (o : Outcome MemberDeclTree). Goes d w AMember ts o) d w (λ v after o. Goes d w (MoreDeclarators (view x.0) (declarators_then (declarators_from items) v)) after o) x.1.now
unfolding declarators_then declarators_from
first_declarator {view = view} {x = x} words empty = listed (behind (begin {p = AMember} (λ o g. g) refl refl) words) (λ v after o h. last_part same o (declarators_at {s = view x.0} (ap (λ l. declarators_then (declarators_from l) v) empty) h))

pub next_declarator : {goes : Outcome MemberDeclTree → Type 0} {d : ℕ} {w : Scene} {s : SpecTrees} {ts : List Placed} {p : Bor Placed × Bor (List Placed)} {before longer : DeclaratorTrees} → first_is is_colon ts ≡ false → first_is is_semicolon ts ≡ false → Takes d w 0 (sign signs.Comma) ts (Ok p) → longer ≡ before → ((o : Outcome MemberDeclTree) → Goes d w (MoreDeclarators s before) ts o → goes o) → Listing (ADeclarator (parts.Declarator OfMember)) goes d w (λ v after o. Goes d w (MoreDeclarators s (declarators_then longer v)) after o) p.1.now
next_declarator {s = s} {before = before} n e t eq f = listed (after (begin {p = MoreDeclarators s before} f (unborne _ n) (if_false _ e)) t) (λ v after o h. last_part same o (declarators_at {s = s} (ap (λ l. declarators_then l v) eq) h))

-- arguments of a call
pub first_argument : {d : ℕ} {w : Scene} {ts : List Placed} {items : List Expr} → first_is is_close ts ≡ false → items ≡ [] → Listing (AnExpr Assignment) (λ (o : Outcome ExprTrees). Goes d w Arguments ts o) d w (λ v after o. Goes d w (MoreArguments (exprs_then (exprs_from items) v)) after o) ts
unfolding exprs_then exprs_from
first_argument e empty = listed (begin {p = Arguments} (λ o g. g) refl (if_false _ e)) (λ v after o h. last_part same o (arguments_at (ap (λ l. exprs_then (exprs_from l) v) empty) h))

pub next_argument : {goes : Outcome ExprTrees → Type 0} {d : ℕ} {w : Scene} {ts : List Placed} {p : Bor Placed × Bor (List Placed)} {before longer : ExprTrees} → first_is is_close ts ≡ false → Takes d w 0 (sign signs.Comma) ts (Ok p) → longer ≡ before → ((o : Outcome ExprTrees) → Goes d w (MoreArguments before) ts o → goes o) → Listing (AnExpr Assignment) goes d w (λ v after o. Goes d w (MoreArguments (exprs_then longer v)) after o) p.1.now
next_argument {before = before} e t eq f = listed (after (begin {p = MoreArguments before} f refl (if_false _ e)) t) (λ v after o h. last_part same o (arguments_at (ap (λ l. exprs_then l v) eq) h))

-- members of a struct
pub first_member : {d : ℕ} {w : Scene} {ts : List Placed} {items : List MemberDecl} → items ≡ [] → Listing AMember (λ (o : Outcome MemberDeclTrees). Goes d w Members ts o) d w (λ v after o. Goes d w (MoreMembers (memberdecls_then (memberdecls_from items) v)) after o) ts
unfolding memberdecls_then memberdecls_from
first_member empty = listed (begin {p = Members} (λ o g. g) refl refl) (λ v after o h. last_part same o (members_at (ap (λ l. memberdecls_then (memberdecls_from l) v) empty) h))

pub next_member : {goes : Outcome MemberDeclTrees → Type 0} {d : ℕ} {w : Scene} {ts : List Placed} {before longer : MemberDeclTrees} → first_is is_right_brace ts ≡ false → longer ≡ before → ((o : Outcome MemberDeclTrees) → Goes d w (MoreMembers before) ts o → goes o) → Listing AMember goes d w (λ v after o. Goes d w (MoreMembers (memberdecls_then longer v)) after o) ts
next_member {before = before} e eq f = listed (begin {p = MoreMembers before} f refl (if_false _ e)) (λ v after o h. last_part same o (members_at (ap (λ l. memberdecls_then l v) eq) h))

-- constants of an enumeration
pub first_enumerator : {d : ℕ} {w : Scene} {ts : List Placed} {items : List Enumerator} → items ≡ [] → Listing AnEnumerator (λ (o : Outcome EnumeratorTrees). Goes d w Enumerators ts o) d w (λ v after o. Goes d w (MoreEnumerators (enumerators_then (enumerators_from items) v)) after o) ts
unfolding enumerators_then enumerators_from
first_enumerator empty = listed (begin {p = Enumerators} (λ o g. g) refl refl) (λ v after o h. last_part same o (enumerators_at (ap (λ l. enumerators_then (enumerators_from l) v) empty) h))

pub next_enumerator : {goes : Outcome EnumeratorTrees → Type 0} {d : ℕ} {w : Scene} {ts : List Placed} {before longer : EnumeratorTrees} → first_is is_right_brace ts ≡ false → longer ≡ before → ((o : Outcome EnumeratorTrees) → Goes d w (NextEnumerator before) ts o → goes o) → Listing AnEnumerator goes d w (λ v after o. Goes d w (MoreEnumerators (enumerators_then longer v)) after o) ts
next_enumerator {before = before} e eq f = listed (begin {p = NextEnumerator before} f refl (if_false _ e)) (λ v after o h. last_part same o (enumerators_at (ap (λ l. enumerators_then l v) eq) h))

-- a comma behind an enumerator
pub comma_behind : {d : ℕ} {w : Scene} {before longer : EnumeratorTrees} {p : Bor Placed × Bor (List Placed)} {ts : List Placed} (o : Outcome EnumeratorTrees) → first_is is_right_brace ts ≡ false → Takes d w 0 (sign signs.Comma) ts (Ok p) → longer ≡ before → Goes d w (NextEnumerator longer) p.1.now o → Goes d w (MoreEnumerators before) ts o
comma_behind {d} {w} {p = p} o e t eq g = next_step o e t (subst (λ v. Goes d w (NextEnumerator v) p.1.now o) eq g)

-- parameters
pub first_parameter : {d : ℕ} {w : Scene} {at : Pos} {inner : DeclaratorTree} {ts : List Placed} {items : List Param} → first_is is_close ts ≡ false → items ≡ [] → Listing Parameter (λ (o : Outcome DeclaratorTree). Goes d w (ADeclarator (Parameters at inner)) ts o) d w (λ v after o. Goes d w (ADeclarator (MoreParameters at inner (params_then (params_from items) v))) after o) ts
unfolding params_then params_from
first_parameter {at = at} {inner = inner} e empty = listed (begin {p = ADeclarator (Parameters at inner)} (λ o g. g) refl (if_false _ e)) (λ v after o h. last_part same o (parameters_at (ap (λ l. params_then (params_from l) v) empty) h))

pub next_parameter : {goes : Outcome DeclaratorTree → Type 0} {d : ℕ} {w : Scene} {at : Pos} {inner : DeclaratorTree} {ts : List Placed} {p : Bor Placed × Bor (List Placed)} {before longer : ParamTrees} → first_is is_close ts ≡ false → Takes d w 0 (sign signs.Comma) ts (Ok p) → longer ≡ before → ((o : Outcome DeclaratorTree) → Goes d w (ADeclarator (MoreParameters at inner before)) ts o → goes o) → Listing Parameter goes d w (λ v after o. Goes d w (ADeclarator (MoreParameters at inner (params_then longer v))) after o) p.1.now
next_parameter {at = at} {inner = inner} {before = before} e t eq f = listed (after (begin {p = ADeclarator (MoreParameters at inner before)} f refl (if_false _ e)) t) (λ v after o h. last_part same o (parameters_at (ap (λ l. params_then l v) eq) h))
