-- Initialisers, declarations, statements and files have an outcome.
use Rattle.std.proofs.Common.{◌≡◌, ℕ, zero, suc, ◌<◌, ◌≤◌, refl, ap, subst, arith}
use Rattle.std.specs.Prelude.{Bool, true, false, not, ◌||◌, Option, Some, None, IfSome, List, [], ◌∷◌, All, slice_get, ⊤}
use Rattle.std.proofs.lemmas.List.Elements.{All-head}
use Rattle.c_syntax_written.specs.Written as written
use Rattle.c_syntax_written.specs.WrittenParts.{expr_pos}
use Rattle.c_syntax_written.specs.WrittenDecl as inits
use Rattle.c_syntax_written.specs.WrittenDecl.{InitTree, InitTrees, DeclTree, InitDeclaratorTree}
use Rattle.c_syntax_written.specs.WrittenFile as files
use Rattle.c_syntax_written.specs.WrittenFile.{StmtTree, BlockItemTrees, ForStartTree, OuterTree}
use Rattle.c_syntax.specs.Types.{CTypeTree, Void, Int, Pointer, Array, Struct, Function}
use Rattle.c_syntax.specs.Program.{MemberTree, StructDefTree}
use Rattle.c_syntax.specs.TypedExpr.{TExprTree}
use Rattle.c_syntax.specs.TypedStmt.{TStmtTree, TStmtTrees}
use Rattle.c_layout.specs.Layout.{members_of}
use Rattle.c_layout.specs.Heights.{held, Falls}
use Rattle.c_typing.proofs.Changes.{Any}
use Rattle.c_typing.specs.World.{World, Outcome, Typed, Refused, Then, goes_on, stops, Is}
use Rattle.c_typing.specs.Constants.{constant_value}
use Rattle.c_typing.specs.SameTypes.{is_same}
use Rattle.c_typing.specs.CurrentObject.{Part, Aggregates, part_of, frame_of, begun, member_part, is_aggregate, takes_value, takes_text, is_text, Fills, whole, inside}
use Rattle.c_typing.specs.Inits.{AtPart, Either, Into, TypedAndRefused, WithText, TypesItems, TypesInBraces, ByValue, TypesInit, whole_part}
use Rattle.c_typing.specs.Specifiers as specifiers
use Rattle.c_typing.specs.Declarators.{Shape}
use Rattle.c_typing.specs.Typing as typing
use Rattle.c_typing.specs.Context.{Context, file_context, in_function, inside_block, inside_loop, inside_switch}
use Rattle.c_typing.specs.Decls.{nothing_made, frame_for, Declares, AnObject, NoObject, TypesInitOf, TypesInitDeclarators, TypesDecl, Made}
use Rattle.c_typing.specs.Stmts.{without_cases, Condition, Dropped, Perhaps, OfSubstatement, OfBlock, SwitchValue, TypesStart, TypesStmt}
use Rattle.c_typing.specs.Stmts as stmts
use Rattle.c_typing.specs.Names.{opened}
use Rattle.c_typing.specs.File.{Begun, TypesOuter, TypesOuters, nothing_yet, outcome_of}
use Rattle.c_typing.specs.Laws.{FilesHaveSome}
use Rattle.c_typing.proofs.MadeTables.{IsMade}
use Rattle.c_typing.specs.Formed.{IsFormedForm}
use Rattle.c_typing.proofs.Later.{form_later}
use Rattle.c_typing.proofs.FormsGo.{type_told_at}
use Rattle.c_typing.proofs.Good.{Good, is_later}
use Rattle.c_typing.proofs.Reaches as reaches
use Rattle.c_typing.proofs.Reaches.{Reaches, Kept, kept, AllGo, is_goes, enters, GoesWith, typed_so, AllWith, all_forget, is_with}
use Rattle.c_typing.proofs.TypesGo as types_go
use Rattle.c_typing.proofs.TypesGo.{AreAside, ShapeIn, steps_formed, none_yet, valued, go, go_specs, go_declarator}
use Rattle.c_typing.proofs.DeclsGo as decls_go
use Rattle.c_typing.proofs.FileGo as file_go
use Rattle.c_typing.proofs.FileGo.{Heads}
use Rattle.c_typing.proofs.Adds.{nothing_good}
use Rattle.c_typing.proofs.Some.{Has, is_has, then_has, so_has, value, some, some_specs, some_declarator}

-- ---- which part an item fills

abbrev HasPart : List StructDefTree → (CTypeTree → Bool) → Part → Aggregates → Type 0
HasPart structs takes part a = (p : Part) × (b : Aggregates) × Fills structs takes part a p b

-- whatever has no parts is taken
abbrev TakesScalars : (CTypeTree → Bool) → Type 0
TakesScalars takes = (ty : CTypeTree) → is_aggregate ty ≡ false → takes ty ≡ true

abbrev Below : (ℕ → ℕ) → ℕ → CTypeTree → Type 0
Below height top ty = IfSome (held ty) (λ n. height n < top)

-- where the first part in it has such a part, so has an aggregate
in_first : (structs : List StructDefTree) (takes : CTypeTree → Bool) (part : Part) (a : Aggregates) → HasPart structs takes (part_of structs (frame_of structs part)) (begun structs part a) → HasPart structs takes part a
in_first structs takes part a f = by (takes part.ty) refl
  where
    by : (b : Bool) → takes part.ty ≡ b → HasPart structs takes part a
    by true e = (part, a, whole part a e)
    by false e = (f.0, f.1, inside part f.0 a f.1 e f.2)

-- by the type, where the first members of structs below this height are known to have such a part
in_type :
    (structs : List StructDefTree) (takes : CTypeTree → Bool) (height : ℕ → ℕ) (top : ℕ) → TakesScalars takes
    → ((n : ℕ) → height n < top → (offset : ℕ) (a : Aggregates) → HasPart structs takes (member_part offset (slice_get (members_of structs n) 0)) a)
    → (ty : CTypeTree) → Below height top ty → (offset : ℕ) (a : Aggregates) → HasPart structs takes (record { ty = ty; offset = offset }) a
in_type structs takes height top scalars again Void below offset a = (_, _, whole _ _ (scalars Void refl))
in_type structs takes height top scalars again (Int t) below offset a = (_, _, whole _ _ (scalars (Int t) refl))
in_type structs takes height top scalars again (Pointer to c) below offset a = (_, _, whole _ _ (scalars (Pointer to c) refl))
in_type structs takes height top scalars again (Array of c n) below offset a =
    in_first structs takes _ a (in_type structs takes height top scalars again of below _ _)
in_type structs takes height top scalars again (Struct n) below offset a = in_first structs takes _ a (again n below offset _)
in_type structs takes height top scalars again (Function n) below offset a = (_, _, whole _ _ (scalars (Function n) refl))

first_falls : (height : ℕ → ℕ) (top : ℕ) (members : List MemberTree) (m : MemberTree) → All (λ member. Below height top member.ty) members → slice_get members 0 ≡ Some m → Below height top m.ty
first_falls height top [] m all e = absurd cc
first_falls height top (x ∷ rest) m all e = let same : x ≡ m = cc in subst (λ y. Below height top y.ty) same (All-head (λ member. Below height top member.ty) x rest all)

raised : (height : ℕ → ℕ) (low top : ℕ) → low ≤ top → (o : Option ℕ) → IfSome o (λ n. height n < low) → IfSome o (λ n. height n < top)
raised height low top h None b = tt
raised height low top h (Some n) b = omega arith

first_member :
    (structs : List StructDefTree) (takes : CTypeTree → Bool) (height : ℕ → ℕ) → Falls structs height → TakesScalars takes → (top n : ℕ) → height n < suc top
    → ((ty : CTypeTree) → Below height top ty → (offset : ℕ) (a : Aggregates) → HasPart structs takes (record { ty = ty; offset = offset }) a)
    → (offset : ℕ) (a : Aggregates) (o : Option MemberTree) → slice_get (members_of structs n) 0 ≡ o → HasPart structs takes (member_part offset o) a
first_member structs takes height falls scalars top n h again offset a None e = (_, _, whole _ _ (scalars Void refl))
first_member structs takes height falls scalars top n h again offset a (Some m) e =
    again m.ty (raised height (height n) top (omega arith) (held m.ty) (first_falls height (height n) (members_of structs n) m (falls n) e)) _ a

has_part :
    (structs : List StructDefTree) (takes : CTypeTree → Bool) (height : ℕ → ℕ) → Falls structs height → TakesScalars takes
    → (top : ℕ) (ty : CTypeTree) → Below height top ty → (offset : ℕ) (a : Aggregates) → HasPart structs takes (record { ty = ty; offset = offset }) a
has_part structs takes height falls scalars zero = in_type structs takes height zero scalars (λ n h offset a. absurd (omega arith))
has_part structs takes height falls scalars (suc top) =
    in_type structs takes height (suc top) scalars (λ n h offset a. first_member structs takes height falls scalars top n h (has_part structs takes height falls scalars top) offset a (slice_get (members_of structs n) 0) refl)

top_of : (height : ℕ → ℕ) (o : Option ℕ) → (top : ℕ) × IfSome o (λ n. height n < top)
top_of height None = (0, tt)
top_of height (Some n) = (suc (height n), omega arith)

into_has :
    {A : Type 0} {structs : List StructDefTree} {takes : CTypeTree → Bool} {part : Part} {a : Aggregates} {next : Part → Aggregates → Outcome A → Type 0}
    → IsMade structs → TakesScalars takes → ((p : Part) (b : Aggregates) → Has (next p b)) → Has (Into structs takes part a next)
into_has {A} {structs} {takes} {part} {a} {next} made scalars f =
    let top = top_of made.height (held part.ty) in
    let fit = has_part structs takes made.height made.falls scalars top.0 part.ty top.1 part.offset a in
    let s = f fit.0 fit.1 in (s.0, record { part2 = fit.0; after = fit.1; fills = fit.2; goes = s.1 })

value_scalars : (ty : CTypeTree) → TakesScalars (takes_value ty)
value_scalars Void part e = ap not e
value_scalars (Int t) part e = ap not e
value_scalars (Pointer to c) part e = ap not e
value_scalars (Array of c n) part e = ap not e
value_scalars (Struct n) part e = ap (λ b. not b || is_same part (Struct n)) e
value_scalars (Function n) part e = ap not e

text_scalars : TakesScalars takes_text
text_scalars part e = ap (λ b. not b || is_text part) e

-- ---- initialisers

at_has : {A : Type 0} (part : Option Part) {full : Outcome A → Type 0} {next : Part → Outcome A → Type 0} → Has full → ((p : Part) → Has (next p)) → Has (AtPart part full next)
unfolding AtPart
at_has None f g = f
at_has (Some p) f g = g p

either_has : {A : Type 0} (b : Bool) {x y : Outcome A → Type 0} → Has x → Has y → Has (Either b x y)
unfolding Either
either_has true f g = f
either_has false f g = g

text_has : (w : World) (static : Bool) (part : Part) (at : _) (text : _) → Good w → Has (WithText w static part at text)
text_has w static part at text good =
    either_has _ (is_has _) (value w (written.Strings at text) good (some w (written.Strings at text) good) (λ x v k.
    then_has k.good (is_goes (decls_go.filled_by v static part at _ _)) (is_has _) (λ item v2 k2. is_has _)))

refused_has : {A : Type 0} (w : World) (e : written.ExprTree) (refusal : _) → Good w → Has (TypedAndRefused {A = A} w e refusal)
refused_has w e refusal good = value w e good (some w e good) (λ x v k. is_has _)

mutual
  unfolding TypesItems TypesInBraces

  some_inits : (w : World) (static : Bool) (all : CTypeTree) (done : _) (items : InitTrees) → Good w → Has (TypesItems w static all done items)
  some_inits w static all done inits.no_inits good = is_has _
  some_inits w static all done (inits.more_inits (inits.Braces at inner) rest) good =
      at_has _ (is_has _) (λ part. either_has _ (some_in_braces w _ at inner good)
      (then_has good (decls_go.go_inits w static _ _ inner) (some_inits w static _ _ inner good) (λ filled v k. some_inits v static all _ rest k.good)))
  some_inits w static all done (inits.more_inits (inits.Value (written.Strings at text)) rest) good =
      either_has _ (then_has good (is_goes (decls_go.fill_text w _ _ at text)) (is_has _) (λ items v k. some_inits v static all _ rest k.good))
      (at_has _ (refused_has w _ _ good) (λ part. into_has good.made text_scalars (λ inner after.
      then_has good (decls_go.with_text w static inner at text) (text_has w static inner at text good) (λ items v k. some_inits v static all _ rest k.good))))
  some_inits w static all done (inits.more_inits (inits.Value e) rest) good =
      at_has _ (refused_has w e _ good) (λ part. value w e good (some w e good) (λ x v k. into_has k.good.made (value_scalars _) (λ inner after.
      then_has k.good (is_goes (decls_go.filled_by v static inner (expr_pos e) _ _)) (is_has _) (λ item v2 k2. some_inits v2 static all _ rest k2.good))))

  some_in_braces : (w : World) (refusal : _) (at : _) (items : InitTrees) → Good w → Has (TypesInBraces w refusal at items)
  some_in_braces w refusal at inits.no_inits good = is_has _
  some_in_braces w refusal at (inits.more_inits (inits.Braces inner_at inner) rest) good = some_in_braces w refusal inner_at inner good
  some_in_braces w refusal at (inits.more_inits (inits.Value e) rest) good = refused_has w e _ good

by_value_has : (w : World) (static : Bool) (ty : CTypeTree) (e : written.ExprTree) → Good w → Has (ByValue w static ty e)
by_value_has w static ty e good =
    value w e good (some w e good) (λ x v k. then_has k.good (is_goes (decls_go.filled_by v static (whole_part ty) (expr_pos e) _ _)) (is_has _) (λ item v2 k2. is_has _))

init_has : (w : World) (static : Bool) (ty : CTypeTree) (frame : _) (init : InitTree) → Good w → Has (TypesInit w static ty frame init)
init_has w static ty frame (inits.Braces at items) good = then_has good (decls_go.go_inits w static ty _ items) (some_inits w static ty _ items good) (λ filled v k. is_has _)
init_has w static ty frame (inits.Value (written.Strings at text)) good =
    either_has _ (then_has good (is_goes (decls_go.fill_text w _ _ at text)) (is_has _) (λ items v k. is_has _)) (by_value_has w static ty (written.Strings at text) good)
init_has w static ty frame (inits.Value e) good = by_value_has w static ty e good

-- ---- declarations

init_of_has : (w : World) (what : Declares) (init : Option InitTree) → Good w → Has (TypesInitOf w what init)
init_of_has w NoObject init good = is_has _
init_of_has w (AnObject object) None good = is_has _
init_of_has w (AnObject object) (Some init) good =
    then_has good (decls_go.init w object.is_static object.ty (frame_for w object) init) (init_has w object.is_static object.ty (frame_for w object) init good) (λ by v k. is_has _)

declarators_has : (w : World) (around : Context) (first storage base : _) (done : Made) (items : List InitDeclaratorTree) → IsFormedForm w.structs base → Good w → Has (TypesInitDeclarators w around first storage base done items)
unfolding TypesInitDeclarators
declarators_has w around first storage base done [] f good = is_has _
declarators_has w around first storage base done (item ∷ rest) f good =
    so_has good (go_declarator w item.declarator) (some_declarator w item.declarator good) (λ shape v k a.
    let one = form_later w.structs v.structs (is_later w v good k.good k.frame) base f in
    so_has k.good (is_with (λ g. decls_go.declared v around first storage base _ shape (steps_formed w v shape.steps a) one)) (is_has _) (λ what v2 k2 is.
    let two = form_later v.structs v2.structs (is_later v v2 k.good k2.good k2.frame) base one in
    then_has k2.good (decls_go.init_of v2 what item.init is) (init_of_has v2 what item.init k2.good) (λ made v3 k3.
    declarators_has v3 around first storage base _ rest (form_later v2.structs v3.structs (is_later v2 v3 k2.good k3.good k3.frame) base two) k3.good)))

decl_has : (w : World) (around : Context) (decl : DeclTree) → Good w → Has (TypesDecl w around decl)
decl_has w around decl good =
    so_has good (go_specs w _ _ decl.specs (none_yet w)) (some_specs w _ _ decl.specs good) (λ s v k p.
    so_has k.good (is_with (λ g. types_go.form_in _ (type_told_at specifiers.OfDeclaration (typing.first_of decl.pos decl.specs) s v p))) (is_has _) (λ base v2 k2 f.
    declarators_has v2 around _ _ base _ decl.inits f k2.good))

-- ---- statements

condition_has : (w : World) (at : _) (e : written.ExprTree) → Good w → Has (Condition w at e)
condition_has w at e good = value w e good (some w e good) (λ x v k. is_has _)

dropped_has : (w : World) (e : written.ExprTree) → Good w → Has (Dropped w e)
dropped_has w e good = value w e good (some w e good) (λ x v k. is_has _)

perhaps_has :
    (w : World) {types : World → written.ExprTree → Outcome TExprTree → Type 0} → Good w → ((v : World) (e : written.ExprTree) → AllGo Any v (types v e))
    → ((v : World) (e : written.ExprTree) → Good v → Has (types v e)) → (e : Option written.ExprTree) → Has (Perhaps w types e)
perhaps_has w good g f None = is_has _
perhaps_has w good g f (Some e) = then_has good (g w e) (f w e good) (λ x v k. is_has _)

substatement_has :
    (w : World) (at : _) {types : World → Outcome TStmtTrees → Type 0} → Good w → ((v : World) → AllGo Any v (types v)) → ((v : World) → Good v → Has (types v)) → Has (OfSubstatement w at types)
substatement_has w at good g f = then_has (enters good) (g (opened w)) (f (opened w) (enters good)) (λ items v k. is_has _)

block_has :
    (w : World) {types : World → Outcome Made → Type 0} (node : Made → TStmtTree) → Good w → ((v : World) → AllGo Any v (types v)) → ((v : World) → Good v → Has (types v)) → Has (OfBlock w types node)
block_has w node good g f = then_has (enters good) (g (opened w)) (f (opened w) (enters good)) (λ made v k. is_has _)

switch_has : (w : World) (at : _) (e : written.ExprTree) → Good w → Has (SwitchValue w at e)
switch_has w at e good = value w e good (some w e good) (λ x v k. is_has _)

start_has : (w : World) (around : Context) (start : ForStartTree) → Good w → Has (TypesStart w around start)
start_has w around files.Nothing good = is_has _
start_has w around (files.Value e) good = then_has good (file_go.dropped w e) (dropped_has w e good) (λ x v k. is_has _)
start_has w around (files.Declares decl) good = decl_has w around decl good

-- no case yet
uncased : {v : World} → Good v → Good (without_cases v)
uncased {v = v} good = (kept {may = Any} v _ (reaches.cased v [] None) good).good

mutual
  unfolding TypesStmt stmts.TypesItems

  some_stmt : (w : World) (around : Context) (s : StmtTree) → Good w → Has (TypesStmt w around s)
  some_stmt w around (files.Label at name body) good =
      then_has good (is_goes (file_go.labelled w at name)) (is_has _) (λ label v k. then_has k.good (file_go.go_stmt v around body) (some_stmt v around body k.good) (λ items v2 k2. is_has _))
  some_stmt w around (files.Case at e body) good =
      value w e good (some w e good) (λ x v k. then_has k.good (is_goes (file_go.case_of v at (expr_pos e) around.switch (constant_value x))) (is_has _) (λ n v2 k2.
      then_has k2.good (file_go.go_stmt v2 around body) (some_stmt v2 around body k2.good) (λ items v3 k3. is_has _)))
  some_stmt w around (files.Default at body) good =
      then_has good (is_goes (file_go.default_of w at around.switch)) (is_has _) (λ label v k.
      then_has k.good (file_go.go_stmt v around body) (some_stmt v around body k.good) (λ items v2 k2. is_has _))
  some_stmt w around (files.Block at items) good =
      block_has w _ good (λ v. file_go.go_items v (inside_block around) nothing_made items) (λ v g. some_items v (inside_block around) nothing_made items g)
  some_stmt w around (files.Empty at) good = is_has _
  some_stmt w around (files.Expression at e) good = then_has good (file_go.dropped w e) (dropped_has w e good) (λ x v k. is_has _)
  some_stmt w around (files.If at c first) good =
      then_has (enters good) (file_go.condition _ at c) (condition_has _ at c (enters good)) (λ x v k.
      then_has k.good (file_go.substatement v _ (λ u. file_go.go_stmt u (inside_block around) first))
      (substatement_has v _ k.good (λ u. file_go.go_stmt u (inside_block around) first) (λ u g. some_stmt u (inside_block around) first g)) (λ a v2 k2. is_has _))
  some_stmt w around (files.IfElse at c first second) good =
      then_has (enters good) (file_go.condition _ at c) (condition_has _ at c (enters good)) (λ x v k.
      then_has k.good (file_go.substatement v _ (λ u. file_go.go_stmt u (inside_block around) first))
      (substatement_has v _ k.good (λ u. file_go.go_stmt u (inside_block around) first) (λ u g. some_stmt u (inside_block around) first g)) (λ a v2 k2.
      then_has k2.good (file_go.substatement v2 _ (λ u. file_go.go_stmt u (inside_block around) second))
      (substatement_has v2 _ k2.good (λ u. file_go.go_stmt u (inside_block around) second) (λ u g. some_stmt u (inside_block around) second g)) (λ b v3 k3. is_has _)))
  some_stmt w around (files.Switch at e (files.Block block_at items)) good =
      then_has (enters good) (file_go.switch_value _ at e) (switch_has _ at e (enters good)) (λ s v k.
      then_has (uncased k.good) (file_go.block (without_cases v) _ (λ u. file_go.go_items u (inside_switch s.ty around) nothing_made items))
      (block_has (without_cases v) _ (uncased k.good) (λ u. file_go.go_items u (inside_switch s.ty around) nothing_made items)
      (λ u g. some_items u (inside_switch s.ty around) nothing_made items g)) (λ made v2 k2. is_has _))
  some_stmt w around (files.Switch at e body) good =
      then_has (enters good) (file_go.switch_value _ at e) (switch_has _ at e (enters good)) (λ s v k.
      then_has (enters (uncased k.good)) (file_go.go_stmt _ (inside_switch s.ty around) body) (some_stmt _ (inside_switch s.ty around) body (enters (uncased k.good))) (λ items v2 k2. is_has _))
  some_stmt w around (files.While at c body) good =
      then_has (enters good) (file_go.condition _ at c) (condition_has _ at c (enters good)) (λ x v k.
      then_has k.good (file_go.substatement v _ (λ u. file_go.go_stmt u (inside_loop around) body))
      (substatement_has v _ k.good (λ u. file_go.go_stmt u (inside_loop around) body) (λ u g. some_stmt u (inside_loop around) body g)) (λ b v2 k2. is_has _))
  some_stmt w around (files.DoWhile at body c) good =
      then_has (enters good) (file_go.substatement _ _ (λ u. file_go.go_stmt u (inside_loop around) body))
      (substatement_has _ _ (enters good) (λ u. file_go.go_stmt u (inside_loop around) body) (λ u g. some_stmt u (inside_loop around) body g)) (λ b v k.
      then_has k.good (file_go.condition v at c) (condition_has v at c k.good) (λ x v2 k2. is_has _))
  some_stmt w around (files.For at s c step body) good =
      then_has (enters good) (file_go.start _ (inside_block around) s) (start_has _ (inside_block around) s (enters good)) (λ made v k.
      then_has k.good (file_go.perhaps v (λ u e. file_go.condition u at e) c) (perhaps_has v k.good (λ u e. file_go.condition u at e) (λ u e g. condition_has u at e g) c) (λ x v2 k2.
      then_has k2.good (file_go.perhaps v2 file_go.dropped step) (perhaps_has v2 k2.good file_go.dropped dropped_has step) (λ y v3 k3.
      then_has k3.good (file_go.substatement v3 _ (λ u. file_go.go_stmt u (inside_loop around) body))
      (substatement_has v3 _ k3.good (λ u. file_go.go_stmt u (inside_loop around) body) (λ u g. some_stmt u (inside_loop around) body g)) (λ b v4 k4. is_has _))))
  some_stmt w around (files.Goto at name) good = is_has _
  some_stmt w around (files.Continue at) good = is_has _
  some_stmt w around (files.Break at) good = is_has _
  some_stmt w around (files.Return at None) good = is_has _
  some_stmt w around (files.Return at (Some e)) good = value w e good (some w e good) (λ x v k. is_has _)

  some_items : (w : World) (around : Context) (done : Made) (items : BlockItemTrees) → Good w → Has (stmts.TypesItems w around done items)
  some_items w around done files.none good = is_has _
  some_items w around done (files.more (files.Declaration d) rest) good =
      then_has good (decls_go.decl w around d) (decl_has w around d good) (λ made v k. some_items v around _ rest k.good)
  some_items w around done (files.more (files.Statement s) rest) good =
      then_has good (file_go.go_stmt w around s) (some_stmt w around s good) (λ items v k. some_items v around _ rest k.good)

-- ---- files

head_has :
    {t : World} {next : Begun → World → Outcome ⊤ → Type 0} (o : Outcome Begun) → Good t → Heads t o → ((begun : Begun) (v : World) → Good v → Has (next begun v)) → Has (Then (Is o) next)
head_has (Typed begun v) good h f = let s = f begun v (file_go.in_scope_of good h) in (s.0, goes_on refl s.1)
head_has (Refused r) good h f = (Refused r, stops refl)

definition_has :
    {t : World} {first : Outcome Shape → Type 0} {x : Shape → World → Outcome Begun} {next : Begun → World → Outcome ⊤ → Type 0}
    → Good t → AllWith Any t (ShapeIn t) first → Has first
    → ((shape : Shape) (w : World) → Good w → Reaches Any t w → AreAside t w shape.steps → Heads t (x shape w)) → ((begun : Begun) (v : World) → Good v → Has (next begun v))
    → Has (Then first (λ shape w. Then (Is (x shape w)) next))
definition_has {t} {first} {x} {next} good f h g d = by h.0 h.1
  where
    at : (shape : Shape) (w : World) → first (Typed shape w) → GoesWith Any t (ShapeIn t) (Typed shape w) → Has (Then first (λ y v. Then (Is (x y v)) next))
    at shape w p (typed_so r a) = let s = head_has (x shape w) good (g shape w (kept t w r good).good r a) d in (s.0, goes_on p s.1)

    by : (o : Outcome Shape) → first o → Has (Then first (λ y v. Then (Is (x y v)) next))
    by (Typed shape w) p = at shape w p (f good _ p)
    by (Refused r) p = (Refused r, stops p)

outer_has : (w : World) (around : Context) (tree : OuterTree) → Good w → Has (TypesOuter w around tree)
outer_has w around (files.Declared d) good = then_has good (decls_go.decl w around d) (decl_has w around d good) (λ made v k. is_has _)
outer_has w around (files.Function at specs declarator brace body) good =
    then_has good (all_forget (go_specs w _ _ specs (none_yet w))) (some_specs w _ _ specs good) (λ s v k.
    then_has k.good (is_goes (types_go.type_told specifiers.OfDeclaration (typing.first_of at specs) s v)) (is_has _) (λ base v2 k2.
    definition_has k2.good (go_declarator v2 declarator) (some_declarator v2 declarator k2.good)
    (λ shape v3 g r a. file_go.definition v2 v3 around (typing.first_of at specs) s.storage shape.steps base shape.name g r a)
    (λ begun v4 g. then_has g (file_go.go_items v4 (in_function begun.result body around) nothing_made body) (some_items v4 (in_function begun.result body around) nothing_made body g)
    (λ made v5 k5. is_has _))))

outers_has : (w : World) (around : Context) (list : List OuterTree) → Good w → Has (TypesOuters w around list)
unfolding TypesOuters
outers_has w around [] good = is_has _
outers_has w around (tree ∷ rest) good = then_has good (file_go.outer w around tree) (outer_has w around tree good) (λ unit v k. outers_has v around rest k.good)

pub files_have_some : FilesHaveSome
files_have_some file =
    let s = outers_has nothing_yet (file_context file) file.outers nothing_good in (outcome_of s.0, record { last = s.0; types = s.1; is = refl })
