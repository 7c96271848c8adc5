-- Initialisers, declarations, statements and files have one outcome.
use Rattle.std.proofs.Common.{◌≡◌, sym, ◌∙◌, subst, ap, refl}
use Rattle.std.specs.Prelude.{Bool, true, false, Option, Some, None, List, [], ◌∷◌}
use Rattle.c_syntax_written.specs.Written as written
use Rattle.c_syntax_written.specs.WrittenDecl as inits
use Rattle.c_syntax_written.specs.WrittenDecl.{InitTree, InitTrees, DeclTree, InitDeclaratorTree}
use Rattle.c_syntax_written.specs.WrittenFile as files
use Rattle.c_syntax_written.specs.WrittenFile.{StmtTree, BlockItemTrees, ForStartTree, OuterTree}
use Rattle.c_syntax.specs.Types.{CTypeTree}
use Rattle.c_syntax.specs.TypedStmt.{TStmtTrees, TStmtTree}
use Rattle.c_syntax.specs.TypedExpr.{TExprTree}
use Rattle.c_typing.specs.World.{World, Outcome}
use Rattle.c_typing.specs.CurrentObject.{Part, Aggregates, Fills, whole, inside}
use Rattle.c_typing.specs.Inits.{AtPart, Either, Into, TypedAndRefused, WithText, TypesItems, TypesInBraces, ByValue, TypesInit}
use Rattle.c_typing.specs.Context.{Context}
use Rattle.c_typing.specs.Decls.{nothing_made, frame_for, Declares, AnObject, NoObject, TypesInitOf, TypesInitDeclarators, TypesDecl, Made}
use Rattle.c_typing.specs.Stmts.{without_cases, Condition, Dropped, Perhaps, OfSubstatement, OfBlock, SwitchValue, TypesStart, TypesStmt}
use Rattle.c_typing.specs.Stmts as stmts
use Rattle.c_typing.specs.Context.{file_context, in_function, inside_block, inside_loop, inside_switch}
use Rattle.c_typing.specs.Names.{opened}
use Rattle.c_typing.specs.File.{TypesOuter, TypesOuters, nothing_yet, outcome_of}
use Rattle.c_typing.specs.Laws.{One, FilesHaveOne}
use Rattle.c_typing.proofs.One.{then_one, is_one, valued_one, one, one_specs, one_declarator}

-- a part is the place of one part
pub record SamePart (p q : Part) (a b : Aggregates) : Type 0 where
  pub part : p ≡ q
  pub aggregates : a ≡ b

-- an item without braces fills one part
pub fills_one : {structs : _} {takes : CTypeTree → Bool} {from : Part} {a : Aggregates} {p q : Part} {b c : Aggregates} → Fills structs takes from a p b → Fills structs takes from a q c → SamePart p q b c
fills_one (whole part a t) (whole _ _ u) = record { part = refl; aggregates = refl }
fills_one (whole part a t) (inside _ q _ c f r) = cc
fills_one (inside part p a b f s) (whole _ _ t) = cc
fills_one (inside part p a b f s) (inside _ q _ c g r) = fills_one s r

pub at_one : {A : Type 0} (part : Option Part) {full : Outcome A → Type 0} {next : Part → Outcome A → Type 0} → One full → ((p : Part) → One (next p)) → One (AtPart part full next)
unfolding AtPart
at_one None f g = f
at_one (Some p) f g = g p

pub either_one : {A : Type 0} (b : Bool) {x y : Outcome A → Type 0} → One x → One y → One (Either b x y)
unfolding Either
either_one true f g = f
either_one false f g = g

pub into_one : {A : Type 0} {structs : _} {takes : CTypeTree → Bool} {part : Part} {a : Aggregates} {next : Part → Aggregates → Outcome A → Type 0} → ((p : Part) (b : Aggregates) → One (next p b)) → One (Into structs takes part a next)
into_one {next = next} f o q s t = let same = fills_one s.fills t.fills in f t.part2 t.after o q (subst (λ b. next t.part2 b o) same.aggregates (subst (λ p. next p s.after o) same.part s.goes)) t.goes

pub text_one : (w : World) (static : Bool) (part : Part) (at : _) (text : _) → One (WithText w static part at text)
text_one w static part at text =
    either_one _ (is_one _) (then_one (valued_one (one w (written.Strings at text))) (λ x w1. then_one (is_one _) (λ item w2. is_one _)))

pub refused_one : {A : Type 0} (w : World) (e : written.ExprTree) (refusal : _) → One (TypedAndRefused {A = A} w e refusal)
refused_one w e refusal = then_one (valued_one (one w e)) (λ x w1. is_one _)

mutual
  unfolding TypesItems TypesInBraces

  pub one_inits : (w : World) (static : Bool) (all : CTypeTree) (done : _) (items : InitTrees) → One (TypesItems w static all done items)
  one_inits w static all done inits.no_inits = is_one _
  one_inits w static all done (inits.more_inits (inits.Braces at inner) rest) =
      at_one _ (is_one _) (λ part. either_one _ (one_in_braces w _ at inner)
      (then_one (one_inits w static _ _ inner) (λ filled w1. one_inits w1 static all _ rest)))
  one_inits w static all done (inits.more_inits (inits.Value (written.Strings at text)) rest) =
      either_one _ (then_one (is_one _) (λ items w1. one_inits w1 static all _ rest))
      (at_one _ (refused_one w _ _) (λ part. into_one (λ inner after. then_one (text_one w static inner at text) (λ items w1. one_inits w1 static all _ rest))))
  one_inits w static all done (inits.more_inits (inits.Value e) rest) =
      at_one _ (refused_one w e _) (λ part. then_one (valued_one (one w e)) (λ x w1. into_one (λ inner after. then_one (is_one _) (λ item w2. one_inits w2 static all _ rest))))

  pub one_in_braces : (w : World) (refusal : _) (at : _) (items : InitTrees) → One (TypesInBraces w refusal at items)
  one_in_braces w refusal at inits.no_inits = is_one _
  one_in_braces w refusal at (inits.more_inits (inits.Braces inner_at inner) rest) = one_in_braces w refusal inner_at inner
  one_in_braces w refusal at (inits.more_inits (inits.Value e) rest) = refused_one w e _

pub by_value_one : (w : World) (static : Bool) (ty : CTypeTree) (e : written.ExprTree) → One (ByValue w static ty e)
by_value_one w static ty e = then_one (valued_one (one w e)) (λ x w1. then_one (is_one _) (λ item w2. is_one _))

pub init_one : (w : World) (static : Bool) (ty : CTypeTree) (frame : _) (init : InitTree) → One (TypesInit w static ty frame init)
init_one w static ty frame (inits.Braces at items) = then_one (one_inits w static ty _ items) (λ filled w1. is_one _)
init_one w static ty frame (inits.Value (written.Strings at text)) = either_one _ (then_one (is_one _) (λ items w1. is_one _)) (by_value_one w static ty (written.Strings at text))
init_one w static ty frame (inits.Value e) = by_value_one w static ty e

-- ---- declarations

pub init_of_one : (w : World) (what : Declares) (init : Option InitTree) → One (TypesInitOf w what init)
init_of_one w NoObject init = is_one _
init_of_one w (AnObject object) None = is_one _
init_of_one w (AnObject object) (Some init) = then_one (init_one w object.is_static object.ty (frame_for w object) init) (λ by w1. is_one _)

pub declarators_one : (w : World) (around : Context) (first storage base : _) (done : Made) (items : List InitDeclaratorTree) → One (TypesInitDeclarators w around first storage base done items)
unfolding TypesInitDeclarators
declarators_one w around first storage base done [] = is_one _
declarators_one w around first storage base done (item ∷ rest) =
    then_one (one_declarator w item.declarator) (λ shape w1. then_one (is_one _) (λ what w2.
    then_one (init_of_one w2 what item.init) (λ made w3. declarators_one w3 around first storage base _ rest)))

pub decl_one : (w : World) (around : Context) (decl : DeclTree) → One (TypesDecl w around decl)
decl_one w around decl =
    then_one (one_specs w _ _ decl.specs) (λ s w1. then_one (is_one _) (λ base w2. declarators_one w2 around _ _ base _ decl.inits))

-- ---- statements

pub condition_one : (w : World) (at : _) (e : written.ExprTree) → One (Condition w at e)
condition_one w at e = then_one (valued_one (one w e)) (λ x w1. is_one _)

pub dropped_one : (w : World) (e : written.ExprTree) → One (Dropped w e)
dropped_one w e = then_one (valued_one (one w e)) (λ x w1. is_one _)

pub perhaps_one : (w : World) (types : World → written.ExprTree → Outcome TExprTree → Type 0) → ((v : World) (e : written.ExprTree) → One (types v e)) → (e : Option written.ExprTree) → One (Perhaps w types e)
perhaps_one w types f None = is_one _
perhaps_one w types f (Some e) = then_one (f w e) (λ x w1. is_one _)

pub substatement_one : (w : World) (at : _) (types : World → Outcome TStmtTrees → Type 0) → ((v : World) → One (types v)) → One (OfSubstatement w at types)
substatement_one w at types f = then_one (f _) (λ items w1. is_one _)

pub block_one : (w : World) (types : World → Outcome Made → Type 0) (node : Made → TStmtTree) → ((v : World) → One (types v)) → One (OfBlock w types node)
block_one w types node f = then_one (f _) (λ made w1. is_one _)

pub switch_one : (w : World) (at : _) (e : written.ExprTree) → One (SwitchValue w at e)
switch_one w at e = then_one (valued_one (one w e)) (λ x w1. is_one _)

pub start_one : (w : World) (around : Context) (start : ForStartTree) → One (TypesStart w around start)
start_one w around files.Nothing = is_one _
start_one w around (files.Value e) = then_one (dropped_one w e) (λ x w1. is_one _)
start_one w around (files.Declares decl) = decl_one w around decl

mutual
  unfolding TypesStmt stmts.TypesItems

  pub one_stmt : (w : World) (around : Context) (s : StmtTree) → One (TypesStmt w around s)
  one_stmt w around (files.Label at name body) = then_one (is_one _) (λ label w1. then_one (one_stmt w1 around body) (λ items w2. is_one _))
  one_stmt w around (files.Case at value body) =
      then_one (valued_one (one w value)) (λ x w1. then_one (is_one _) (λ n w2. then_one (one_stmt w2 around body) (λ items w3. is_one _)))
  one_stmt w around (files.Default at body) = then_one (is_one _) (λ label w1. then_one (one_stmt w1 around body) (λ items w2. is_one _))
  one_stmt w around (files.Block at items) = block_one w _ _ (λ v. one_items v (inside_block around) nothing_made items)
  one_stmt w around (files.Empty at) = is_one _
  one_stmt w around (files.Expression at e) = then_one (dropped_one w e) (λ x w1. is_one _)
  one_stmt w around (files.If at condition first) =
      then_one (condition_one _ at condition) (λ c w1. then_one (substatement_one w1 _ _ (λ v. one_stmt v (inside_block around) first)) (λ a w2. is_one _))
  one_stmt w around (files.IfElse at condition first second) =
      then_one (condition_one _ at condition) (λ c w1. then_one (substatement_one w1 _ _ (λ v. one_stmt v (inside_block around) first)) (λ a w2.
      then_one (substatement_one w2 _ _ (λ v. one_stmt v (inside_block around) second)) (λ b w3. is_one _)))
  one_stmt w around (files.Switch at value (files.Block block_at items)) =
      then_one (switch_one _ at value) (λ s w1. then_one (block_one (without_cases w1) _ _ (λ v. one_items v (inside_switch s.ty around) nothing_made items)) (λ made w2. is_one _))
  one_stmt w around (files.Switch at value body) = then_one (switch_one _ at value) (λ s w1. then_one (one_stmt (opened (without_cases w1)) (inside_switch s.ty around) body) (λ items w2. is_one _))
  one_stmt w around (files.While at condition body) =
      then_one (condition_one _ at condition) (λ c w1. then_one (substatement_one w1 _ _ (λ v. one_stmt v (inside_loop around) body)) (λ b w2. is_one _))
  one_stmt w around (files.DoWhile at body condition) =
      then_one (substatement_one _ _ _ (λ v. one_stmt v (inside_loop around) body)) (λ b w1. then_one (condition_one w1 at condition) (λ c w2. is_one _))
  one_stmt w around (files.For at start condition step body) =
      then_one (start_one _ _ start) (λ made w1. then_one (perhaps_one w1 _ (λ v e. condition_one v at e) condition) (λ c w2.
      then_one (perhaps_one w2 Dropped dropped_one step) (λ s w3. then_one (substatement_one w3 _ _ (λ v. one_stmt v (inside_loop around) body)) (λ b w4. is_one _))))
  one_stmt w around (files.Goto at name) = is_one _
  one_stmt w around (files.Continue at) = is_one _
  one_stmt w around (files.Break at) = is_one _
  one_stmt w around (files.Return at None) = is_one _
  one_stmt w around (files.Return at (Some e)) = then_one (valued_one (one w e)) (λ x w1. is_one _)

  pub one_items : (w : World) (around : Context) (done : Made) (items : BlockItemTrees) → One (stmts.TypesItems w around done items)
  one_items w around done files.none = is_one _
  one_items w around done (files.more (files.Declaration decl) rest) = then_one (decl_one w around decl) (λ made w1. one_items w1 around _ rest)
  one_items w around done (files.more (files.Statement s) rest) = then_one (one_stmt w around s) (λ items w1. one_items w1 around _ rest)

-- ---- files

pub outer_one : (w : World) (around : Context) (outer : OuterTree) → One (TypesOuter w around outer)
outer_one w around (files.Declared decl) = then_one (decl_one w around decl) (λ made w1. is_one _)
outer_one w around (files.Function at specs declarator brace body) =
    then_one (one_specs w _ _ specs) (λ s w1. then_one (is_one _) (λ base w2. then_one (one_declarator w2 declarator) (λ shape w3.
    then_one (is_one _) (λ begun w4. then_one (one_items w4 (in_function begun.result body around) nothing_made body) (λ made w5. is_one _)))))

pub outers_one : (w : World) (around : Context) (outers : List OuterTree) → One (TypesOuters w around outers)
unfolding TypesOuters
outers_one w around [] = is_one _
outers_one w around (outer ∷ rest) = then_one (outer_one w around outer) (λ unit w1. outers_one w1 around rest)

pub files_have_one : FilesHaveOne
files_have_one file o q s t =
    let same = outers_one nothing_yet (file_context file) file.outers s.last t.last s.types t.types in s.is ∙ ap outcome_of same ∙ sym t.is
