-- Statements, functions and files only make the changes of Reaches.
use Rattle.std.proofs.Common.{sym, subst, refl}
use Rattle.std.specs.Prelude.{ℕ, ℤ, Bool, true, false, if◌then◌else◌, Option, Some, None, List, [], ◌∷◌, length, map, All, ⊤}
use Rattle.c_syntax_written.specs.declared.place.Pos.{Pos}
use Rattle.c_syntax_written.specs.declared.int_type.IntType.{IntType}
use Rattle.c_syntax_written.specs.declared.written.StorageWord.{StorageWord}
use Rattle.c_syntax_written.specs.declared.written.StorageWord.TheVariants.{Typedef}
use Rattle.c_syntax_written.specs.Written as written
use Rattle.c_syntax_written.specs.WrittenParts.{expr_pos}
use Rattle.c_syntax_written.specs.WrittenFile as files
use Rattle.c_syntax_written.specs.WrittenFile.{StmtTree, BlockItemTrees, ForStartTree, OuterTree}
use Rattle.c_syntax.specs.Types.{CTypeTree, Void, Int, Pointer, Array, Struct, Function}
use Rattle.c_syntax.specs.TypedExpr.{TExprTree}
use Rattle.c_syntax.specs.TypedStmt.{TStmtTree, TStmtTrees}
use Rattle.c_typing.proofs.Changes.{Any}
use Rattle.c_typing.specs.World.{World, Form, Plain, Unsized, Callable, Binding, TagBinding, Outcome, Typed, Refused, Then, Is, goes_on, stops}
use Rattle.c_typing.specs.Names.{opened, closed}
use Rattle.c_typing.specs.Constants.{constant_value}
use Rattle.c_typing.specs.Specifiers as specifiers
use Rattle.c_typing.specs.Declarators.{DeclaredName, ParameterTree, Step, PointerTo, ArrayOf, OpenArray, FunctionOf, Shape}
use Rattle.c_typing.specs.Typing as typing
use Rattle.c_typing.specs.Context.{Context, in_function, inside_block, inside_loop, inside_switch}
use Rattle.c_typing.specs.Decls.{Made, nothing_made, is_word}
use Rattle.c_typing.specs.Stmts as stmts
use Rattle.c_typing.specs.Stmts.{TypesStmt, without_cases}
use Rattle.c_typing.specs.File as whole
use Rattle.c_typing.specs.File.{Begun, TypesOuter, TypesOuters}
use Rattle.c_typing.proofs.Reaches as reaches
use Rattle.std.proofs.lemmas.List.Elements.{All-weaker}
use Rattle.c_typing.specs.Formed.{IsFormedMeaning}
use Rattle.c_typing.proofs.Later.{meaning_later}
use Rattle.c_typing.proofs.Good.{Good, IsAside, good_in, aside_kept, is_later}
use Rattle.c_typing.proofs.Reaches.{Reaches, Kept, kept, Goes, typed, refused, goes_same, goes_if, goes_unless, goes_after, AllGo, then_goes, scope_goes, is_goes, enters, GoesWith, typed_so, AllWith, all_forget}
use Rattle.c_typing.proofs.NodesGo.{within_limits, tested}
use Rattle.c_typing.proofs.TypesGo.{unless_declared, laid, type_told, none_yet, AreAside, ShapeIn, asides_kept, valued, go, go_specs, go_declarator}
use Rattle.c_typing.proofs.DeclsGo.{function_declared, decl}

-- ---- statements

pub labelled : (w : World) (at : Pos) (name : List ℕ) → Goes Any w (stmts.labelled w at name)
labelled w at name = unless_declared at _ (typed (reaches.labelled w _))

pub jumped : (w : World) (at : Pos) (label : Option ℕ) → Goes Any w (stmts.jumped w at label)
jumped w at None = refused
jumped w at (Some label) = goes_same

pub case_value : (w : World) (at value_at : Pos) (t : IntType) (n : Option ℤ) → Goes Any w (stmts.case_value w at value_at t n)
case_value w at value_at t None = refused
case_value w at value_at t (Some n) = unless_declared at _ (typed (reaches.cased w _ w.default))

pub case_of : (w : World) (at value_at : Pos) (t : Option IntType) (n : Option ℤ) → Goes Any w (stmts.case_of w at value_at t n)
case_of w at value_at None n = refused
case_of w at value_at (Some t) n = case_value w at value_at t n

pub default_of : (w : World) (at : Pos) (t : Option IntType) → Goes Any w (stmts.default_of w at t)
default_of w at None = refused
default_of w at (Some t) = unless_declared at w.default (typed (reaches.cased w w.cases (Some at)))

pub allowed : (w : World) (at : Pos) (b : Bool) (s : TStmtTree) → Goes Any w (stmts.allowed w at b s)
allowed w at true s = goes_same
allowed w at false s = refused

pub returned_as : (w : World) (at : Pos) (result : CTypeTree) (e : TExprTree) (value : Option TExprTree) → Goes Any w (stmts.returned_as w at result e value)
returned_as w at result e None = refused
returned_as w at result e (Some value) = goes_same

pub returned_bare : (w : World) (at : Pos) (result : CTypeTree) → Goes Any w (stmts.returned_bare w at result)
returned_bare w at Void = goes_same
returned_bare w at (Int t) = refused
returned_bare w at (Pointer to c) = refused
returned_bare w at (Array of c n) = refused
returned_bare w at (Struct n) = refused
returned_bare w at (Function n) = refused

pub condition : (w : World) (at : Pos) (e : written.ExprTree) → AllGo Any w (stmts.Condition w at e)
condition w at e = then_goes (valued (go w e)) (λ x v r. is_goes (tested v at x))

pub dropped : (w : World) (e : written.ExprTree) → AllGo Any w (stmts.Dropped w e)
dropped w e = then_goes (valued (go w e)) (λ x v r. is_goes goes_same)

pub perhaps : (w : World) {types : World → written.ExprTree → Outcome TExprTree → Type 0} → ((v : World) (e : written.ExprTree) → AllGo Any v (types v e)) → (e : Option written.ExprTree) → AllGo Any w (stmts.Perhaps w types e)
perhaps w f None = is_goes goes_same
perhaps w f (Some e) = then_goes (f w e) (λ x v r. is_goes goes_same)

pub substatement : (w : World) (at : Pos) {types : World → Outcome TStmtTrees → Type 0} → ((v : World) → AllGo Any v (types v)) → AllGo Any w (stmts.OfSubstatement w at types)
substatement w at f = scope_goes enters (f (opened w)) (λ items v r. is_goes (typed (reaches.scoped w v r)))

pub block : (w : World) {types : World → Outcome Made → Type 0} (node : Made → TStmtTree) → ((v : World) → AllGo Any v (types v)) → AllGo Any w (stmts.OfBlock w types node)
block w node f = scope_goes enters (f (opened w)) (λ made v r. is_goes (typed (reaches.scoped w v r)))

pub switched_by : (w : World) (at : Pos) (e : TExprTree) (ty : CTypeTree) → Goes Any w (stmts.switched_by w at e ty)
switched_by w at e Void = refused
switched_by w at e (Int t) = goes_same
switched_by w at e (Pointer to c) = refused
switched_by w at e (Array of c n) = refused
switched_by w at e (Struct n) = refused
switched_by w at e (Function n) = refused

pub switch_value : (w : World) (at : Pos) (e : written.ExprTree) → AllGo Any w (stmts.SwitchValue w at e)
switch_value w at e = then_goes (valued (go w e)) (λ x v r. is_goes (switched_by v at x _))

pub start : (w : World) (around : Context) (s : ForStartTree) → AllGo Any w (stmts.TypesStart w around s)
start w around files.Nothing = is_goes goes_same
start w around (files.Value e) = then_goes (dropped w e) (λ x v r. is_goes goes_same)
start w around (files.Declares d) = decl w around d

-- what follows in a scope of its own, whose end is known
pub in_scope : {A : Type 0} {w v : World} {a : A} → Reaches Any (opened w) v → Goes Any w (Typed a (closed w v))
in_scope {w = w} {v = v} r = typed (reaches.scoped w v r)

-- without the cases of a switch, and then with those around it again
pub with_cases : {A : Type 0} {w v : World} {a : A} → Reaches Any (opened w) v → Goes Any w (Typed a (stmts.with_cases_of w (closed w v)))
with_cases {w = w} {v = v} r = typed (reaches.after _ _ _ (reaches.scoped w v r) (reaches.cased _ w.cases w.default))

-- one part after the other inside a scope that the last one closes
pub inside : {A B : Type 0} {w v : World} {first : Outcome A → Type 0} {next : A → World → Outcome B → Type 0} → Reaches Any (opened w) v → AllGo Any v first → ((a : A) (x : World) → Reaches Any (opened w) x → AllGo Any w (next a x)) → AllGo Any w (Then first next)
inside {w = w} {v = v} r f g = scope_goes (λ good. (kept (opened w) v r (enters good)).good) f (λ a x s. g a x (reaches.after _ _ _ r s))

-- from a switch to the statement that it has
to_cases : {u v : World} → Reaches Any u v → Reaches Any u (opened (without_cases v))
to_cases {v = v} r = reaches.after _ _ _ r (reaches.after _ _ _ (reaches.cased v [] None) (reaches.opens _))

mutual
  unfolding TypesStmt stmts.TypesItems

  pub go_stmt : (w : World) (around : Context) (s : StmtTree) → AllGo Any w (TypesStmt w around s)
  go_stmt w around (files.Label at name body) = then_goes (is_goes (labelled w at name)) (λ label v r. then_goes (go_stmt v around body) (λ items v2 r2. is_goes goes_same))
  go_stmt w around (files.Case at value body) =
      then_goes (valued (go w value)) (λ x v r. then_goes (is_goes (case_of v at (expr_pos value) around.switch (constant_value x))) (λ n v2 r2.
      then_goes (go_stmt v2 around body) (λ items v3 r3. is_goes goes_same)))
  go_stmt w around (files.Default at body) =
      then_goes (is_goes (default_of w at around.switch)) (λ label v r. then_goes (go_stmt v around body) (λ items v2 r2. is_goes goes_same))
  go_stmt w around (files.Block at items) = block w _ (λ v. go_items v (inside_block around) nothing_made items)
  go_stmt w around (files.Empty at) = is_goes goes_same
  go_stmt w around (files.Expression at e) = then_goes (dropped w e) (λ x v r. is_goes goes_same)
  go_stmt w around (files.If at c first) =
      scope_goes enters (condition (opened w) at c) (λ x v r. inside r (substatement v _ (λ u. go_stmt u (inside_block around) first)) (λ a v2 r2. is_goes (in_scope r2)))
  go_stmt w around (files.IfElse at c first second) =
      scope_goes enters (condition (opened w) at c) (λ x v r. inside r (substatement v _ (λ u. go_stmt u (inside_block around) first)) (λ a v2 r2.
      inside r2 (substatement v2 _ (λ u. go_stmt u (inside_block around) second)) (λ b v3 r3. is_goes (in_scope r3))))
  go_stmt w around (files.Switch at value (files.Block block_at items)) =
      scope_goes enters (switch_value (opened w) at value) (λ s v r. inside (reaches.after _ _ _ r (reaches.cased v [] None))
      (block (without_cases v) _ (λ u. go_items u (inside_switch s.ty around) nothing_made items)) (λ made v2 r2. is_goes (with_cases r2)))
  go_stmt w around (files.Switch at value body) =
      scope_goes enters (switch_value (opened w) at value) (λ s v r. scope_goes (λ good. (kept _ _ (to_cases r) (enters good)).good) (go_stmt (opened (without_cases v)) (inside_switch s.ty around) body) (λ items v2 r2.
      is_goes (with_cases (reaches.after _ _ _ (to_cases r) r2))))
  go_stmt w around (files.While at c body) =
      scope_goes enters (condition (opened w) at c) (λ x v r. inside r (substatement v _ (λ u. go_stmt u (inside_loop around) body)) (λ b v2 r2. is_goes (in_scope r2)))
  go_stmt w around (files.DoWhile at body c) =
      scope_goes enters (substatement (opened w) _ (λ u. go_stmt u (inside_loop around) body)) (λ b v r. inside r (condition v at c) (λ x v2 r2. is_goes (in_scope r2)))
  go_stmt w around (files.For at s c step body) =
      scope_goes enters (start (opened w) (inside_block around) s) (λ made v r. inside r (perhaps v (λ u e. condition u at e) c) (λ x v2 r2.
      inside r2 (perhaps v2 dropped step) (λ y v3 r3. inside r3 (substatement v3 _ (λ u. go_stmt u (inside_loop around) body)) (λ b v4 r4. is_goes (in_scope r4)))))
  go_stmt w around (files.Goto at name) = is_goes (jumped w at _)
  go_stmt w around (files.Continue at) = is_goes (allowed w at around.continues _)
  go_stmt w around (files.Break at) = is_goes (allowed w at around.breaks _)
  go_stmt w around (files.Return at None) = is_goes (returned_bare w at around.result)
  go_stmt w around (files.Return at (Some e)) = then_goes (valued (go w e)) (λ x v r. is_goes (returned_as v at around.result x _))

  pub go_items : (w : World) (around : Context) (done : Made) (items : BlockItemTrees) → AllGo Any w (stmts.TypesItems w around done items)
  go_items w around done files.none = is_goes goes_same
  go_items w around done (files.more (files.Declaration d) rest) = then_goes (decl w around d) (λ made v r. go_items v around _ rest)
  go_items w around done (files.more (files.Statement s) rest) = then_goes (go_stmt w around s) (λ items v r. go_items v around _ rest)

-- ---- functions with bodies

-- the head of a definition leaves the scope of its body, with the tags that its parameter list left aside; all from the world before its declarator
pub data Heads (t : World) : Outcome Begun → Type 0 where
  heads : (begun : Begun) (first : ℕ) (names : List Binding) (tags : List TagBinding) → Reaches Any t begun.outside → IsAside t begun.outside tags → All (λ b. IsFormedMeaning begun.outside.structs b.meaning) names → Heads t (Typed begun (whole.in_body begun.outside first names tags))
  no_head : {r : _} → Heads t (Refused r)

pub with_counted : (params : List ParameterTree) (w : World) → Goes Any w (whole.with_counted w params)
unfolding whole.with_counted
with_counted [] w = goes_same
with_counted (param ∷ rest) w =
    within_limits param.pos _ w (goes_after (reaches.after _ _ _ (reaches.object w _) (reaches.counted _ _)) (with_counted rest _))

-- a world behind the declarator, and the tags aside
record Behind (t w : World) (bindings : List Binding) (tags : List TagBinding) : Type 0 where
  reached : Reaches Any t w
  aside : IsAside t w tags
  names : All (λ b. IsFormedMeaning w.structs b.meaning) bindings
  good : Good w

behind_then : {t w v : World} {names : List Binding} {tags : List TagBinding} → Behind t w names tags → Reaches Any w v → Behind t v names tags
behind_then {t = t} {w = w} {v = v} {names = names} {tags = tags} b r =
    let k = kept w v r b.good in
    let later = is_later w v b.good k.good k.frame in record {
      reached = reaches.after t w v b.reached r;
      aside = aside_kept t w v tags k.frame later b.aside;
      names = All-weaker (λ x. IsFormedMeaning w.structs x.meaning) (λ x. IsFormedMeaning v.structs x.meaning) (λ x f. meaning_later w.structs v.structs later x.meaning f) names b.names;
      good = k.good;
    }

body_begins : {t w : World} (n first : ℕ) (named : DeclaredName) (result : CTypeTree) (params : List ParameterTree) (names : List Binding) (tags : List TagBinding) (o : Outcome ⊤) → Behind t w names tags → Goes Any w o → Heads t (whole.body_begins n first named result params names tags o)
body_begins n first named result params names tags (Typed unit v) b (typed r) =
    let last = behind_then b (reaches.after _ _ _ r (reaches.function_changed v n _ (λ f. record { name = refl; result = refl }))) in
    heads _ first names tags last.reached last.aside last.names
body_begins n first named result params names tags (Refused q) b p = no_head

definition_begins : {t w : World} (named : DeclaredName) (result : CTypeTree) (params : List ParameterTree) (names : List Binding) (tags : List TagBinding) (o : Outcome (Option ℕ)) → Behind t w names tags → Goes Any w o → Heads t (whole.definition_begins w named result params names tags o)
definition_begins named result params names tags (Typed (Some n) v) b (typed r) =
    body_begins n (length v.objects) named result params names tags _ (behind_then b r) (with_counted params v)
definition_begins named result params names tags (Typed None v) b p = no_head
definition_begins named result params names tags (Refused q) b p = no_head

definition_of : (t w : World) (around : Context) (named : DeclaredName) (steps : List Step) (form : Form) → Good w → Reaches Any t w → AreAside t w steps → Heads t (whole.definition_of w around named steps form)
definition_of t w around named [] form good r a = no_head
definition_of t w around named (PointerTo c ∷ rest) form good r a = no_head
definition_of t w around named (ArrayOf at n ∷ rest) form good r a = no_head
definition_of t w around named (OpenArray ∷ rest) form good r a = no_head
definition_of t w around named (FunctionOf params names tags ∷ rest) (Plain ty c) good r a = no_head
definition_of t w around named (FunctionOf params names tags ∷ rest) (Unsized ty c) good r a = no_head
definition_of t w around named (FunctionOf params names tags ∷ rest) (Callable types result) good r a =
    definition_begins named result params names tags _ (record { reached = r; aside = a.0.aside; names = a.0.formed; good = good }) (function_declared w around named params types result true)

heads_if : {t : World} (b : Bool) {x y : Outcome Begun} → Heads t x → Heads t y → Heads t (if b then x else y)
heads_if true p q = p
heads_if false p q = q

definition_laid : (t w : World) (around : Context) (named : DeclaredName) (storage : List StorageWord) (steps : List Step) (o : Outcome Form) → Good w → Reaches Any t w → AreAside t w steps → Goes Any w o → Heads t (whole.definition_laid around named storage steps o)
definition_laid t w around named storage steps (Typed form v) good r a (typed s) =
    let k = kept w v s good in
    heads_if (is_word Typedef storage) no_head (definition_of t v around named steps form k.good (reaches.after t w v r s) (asides_kept t w v steps k.frame (is_later w v good k.good k.frame) a))
definition_laid t w around named storage steps (Refused q) good r a p = no_head

pub definition : (t w : World) (around : Context) (first : Pos) (storage : List StorageWord) (steps : List Step) (base : Form) (name : Option DeclaredName) → Good w → Reaches Any t w → AreAside t w steps → Heads t (whole.definition_named w around first storage steps base name)
definition t w around first storage steps base None good r a = no_head
definition t w around first storage steps base (Some named) good r a = definition_laid t w around named storage steps _ good r a (laid w named.pos steps base)

-- the scope of the body
pub in_scope_of : {t : World} {begun : Begun} {v : World} → Good t → Heads t (Typed begun v) → Good v
in_scope_of {t = t} good (heads begun first names tags r aside f) =
    good_in t begun.outside _ (map (whole.with_object_meaning first) names) tags refl refl refl (reaches.as_objects begun.outside.structs first names f) aside (kept t begun.outside r good).good

-- from the head of a definition to its end
pub ended : {t v u : World} {begun : Begun} (brace : Pos) (made : Made) → Heads t (Typed begun v) → Reaches Any v u → Reaches Any t (whole.definition_ends begun brace made u)
ended {u = u} {begun = begun} brace made (heads _ first names tags r aside f) s =
    reaches.after _ _ _ (reaches.in_body _ begun.outside u first names tags r aside f s) (reaches.function_changed _ begun.number _ (λ f. record { name = refl; result = refl }))

-- a head, its body and what comes behind it
head_goes :
    {t : World} {x : Outcome Begun} {items : Begun → World → Outcome Made → Type 0} (brace : Pos) → Good t → Heads t x → ((begun : Begun) (v : World) → AllGo Any v (items begun v))
    → (o : Outcome ⊤) → Then (Is x) (λ begun v. Then (items begun v) (λ made u. Is (Typed (tt {0}) (whole.definition_ends begun brace made u)))) o → Goes Any t o
head_goes {t = t} brace good h f o (goes_on {a = begun} {w = v} p s) =
    let head = subst (λ z. Heads t z) (sym p) h in
    scope_goes (λ g. in_scope_of g head) (f begun v) (λ made u r. is_goes (typed (ended brace made head r))) good o s
head_goes brace good h f _ (stops p) = refused

-- a declarator, and the definition that it heads
definition_goes :
    {t : World} {first : Outcome Shape → Type 0} {x : Shape → World → Outcome Begun} {items : Begun → World → Outcome Made → Type 0} (brace : Pos)
    → AllWith Any t (ShapeIn t) first
    → ((shape : Shape) (w : World) → Good w → Reaches Any t w → AreAside t w shape.steps → Heads t (x shape w)) → ((begun : Begun) (v : World) → AllGo Any v (items begun v))
    → AllGo Any t (Then first (λ shape w. Then (Is (x shape w)) (λ begun v. Then (items begun v) (λ made u. Is (Typed (tt {0}) (whole.definition_ends begun brace made u))))))
definition_goes {t = t} {x = x} brace f g h good o (goes_on {a = shape} {w = w} p s) = by (f good _ p)
  where
    by : GoesWith Any t (ShapeIn t) (Typed shape w) → Goes Any t o
    by (typed_so r a) = head_goes brace good (g shape w (kept t w r good).good r a) h o s
definition_goes brace f g h good _ (stops p) = refused

-- ---- the file

pub outer : (w : World) (around : Context) (tree : OuterTree) → AllGo Any w (TypesOuter w around tree)
outer w around (files.Declared d) = then_goes (decl w around d) (λ made v r. is_goes goes_same)
outer w around (files.Function at specs declarator brace body) =
    then_goes (all_forget (go_specs w _ _ specs (none_yet w))) (λ s v r.
    then_goes (is_goes (type_told specifiers.OfDeclaration (typing.first_of at specs) s v)) (λ base v2 r2.
    definition_goes brace (go_declarator v2 declarator)
    (λ shape v3 good r3 a. definition v2 v3 around (typing.first_of at specs) s.storage shape.steps base shape.name good r3 a)
    (λ begun v4. go_items v4 (in_function begun.result body around) nothing_made body)))

pub outers : (w : World) (around : Context) (list : List OuterTree) → AllGo Any w (TypesOuters w around list)
unfolding TypesOuters
outers w around [] = is_goes goes_same
outers w around (tree ∷ rest) = then_goes (outer w around tree) (λ unit v r. outers v around rest)
