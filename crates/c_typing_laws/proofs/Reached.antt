-- The worlds behind typed parts are reached from those before them.
use Rattle.std.proofs.Common.{sym, subst}
use Rattle.std.specs.Prelude.{false, is_some, Option, Some, None, List, []}
use Rattle.c_syntax_written.specs.declared.place.Pos.{Pos}
use Rattle.c_syntax_written.specs.declared.written.StorageWord.{StorageWord}
use Rattle.c_syntax_written.specs.Written as written
use Rattle.c_syntax_written.specs.WrittenDecl.{InitDeclaratorTree, DeclTree}
use Rattle.c_syntax_written.specs.Written.{SpecTrees, DeclaratorTree}
use Rattle.c_syntax_written.specs.WrittenFile.{ForStartTree, StmtTree, BlockItemTrees, OuterTree}
use Rattle.c_syntax.specs.TypedExpr.{TExprTree}
use Rattle.c_syntax.specs.TypedStmt.{TStmtTrees}
use Rattle.c_typing.specs.World.{World, Form, Typed}
use Rattle.c_typing.specs.Names.{opened, closed}
use Rattle.c_typing.specs.Formed.{IsFormedForm}
use Rattle.c_typing.specs.Specifiers.{SpecsTree, no_specs_yet, OfDeclaration}
use Rattle.c_typing.specs.Declarators.{Shape}
use Rattle.c_typing.specs.Typing.{first_of}
use Rattle.c_typing.specs.Context.{Context}
use Rattle.c_typing.specs.Decls.{Declares, Made, is_struct_alone}
use Rattle.c_typing.specs.File.{Begun}
use Rattle.c_typing.specs.Stmts.{Switched, without_cases}
use Rattle.c_typing.proofs.Changes.{Changes, Constants, Any}
use Rattle.c_typing.proofs.Good.{Good, is_later}
use Rattle.c_typing.proofs.Later.{form_later}
use Rattle.c_typing.proofs.FormsGo.{FormAt, formed_at, AreFormedSteps, type_told_at}
use Rattle.c_typing.proofs.Reaches as reaches
use Rattle.c_typing.proofs.Reaches.{Reaches, Kept, kept, Goes, typed, GoesWith, typed_so, enters}
use Rattle.c_typing.proofs.TypesGo.{none_yet, steps_formed, valued, go, go_specs, go_declarator}
use Rattle.c_typing.proofs.DeclsGo as decls_go
use Rattle.c_typing.proofs.DeclsGo.{WhatIn}
use Rattle.c_typing.proofs.FileGo as file_go
use Rattle.c_typing.proofs.FileGo.{Heads}
use Rattle.c_typing_laws.specs.FileSteps as outers
use Rattle.c_typing_laws.specs.FileSteps.{TypesHead, MakesOuter, MakesOuters, no_more, and_then}
use Rattle.c_typing_laws.specs.DeclSteps.{TypesStep, MakesDeclarators, none, one_more, MakesDecl}
use Rattle.c_typing_laws.specs.StmtSteps.{IsValue, MayCondition, no_condition, a_condition, MayStep, no_step, a_step, IsSwitched, MakesStart, nothing, value, declares, MakesStmt, label, case, default, block, empty, expression, if_alone, if_else, switch_block, switch_one, while, do_while, for, goto, continue, break, return_bare, return_value, MakesItems, no_items, declaration, statement}

pub reached : {may : Changes} {A : Type 0} {w v : World} {a : A} → Goes may w (Typed a v) → Reaches may w v
reached (typed r) = r

pub reached_so : {may : Changes} {A : Type 0} {w v : World} {P : A → World → Type 0} {a : A} → GoesWith may w P (Typed a v) → Reaches may w v
reached_so (typed_so r p) = r

pub has_so : {may : Changes} {A : Type 0} {w v : World} {P : A → World → Type 0} {a : A} → GoesWith may w P (Typed a v) → P a v
has_so (typed_so r p) = p

pub good_by : {may : Changes} {w v : World} → Good w → Reaches may w v → Good v
good_by {w = w} {v = v} good r = (kept w v r good).good

-- ---- declarations

-- one declarator: the world behind it, that behind what it declares, and that behind its initialiser
pub record StepFacts (base : Form) (shape : Shape) (what : Declares) (w u v x : World) : Type 0 where
  pub calm : Reaches Constants w u
  pub reached : Reaches Any w u
  pub declares : Reaches Any u v
  pub starts : Reaches Any v x
  pub good : Good u
  pub formed : IsFormedForm u.structs base
  pub steps : AreFormedSteps u.structs shape.steps
  pub declared : Good v
  pub what_in : WhatIn what v
  pub last : Good x
  pub last_formed : IsFormedForm x.structs base

pub step_facts :
    {w u v x : World} {around : Context} {first : Pos} {storage : List StorageWord} {base : Form} {item : InitDeclaratorTree} {shape : Shape} {what : Declares} {made : Made}
    → Good w → IsFormedForm w.structs base → TypesStep around first storage base item shape what made w u v x → StepFacts base shape what w u v x
step_facts {w} {u} {v} {x} {around} {first} {storage} {base} {item} {shape} {what} {made} good f t =
    let one = go_declarator {may = Constants} w item.declarator good (Typed shape u) t.declarator in
    let any = go_declarator {may = Any} w item.declarator good (Typed shape u) t.declarator in
    let k = kept w u (reached_so one) good in
    let steps = steps_formed w u shape.steps (has_so one) in
    let here = form_later w.structs u.structs (is_later w u good k.good k.frame) base f in
    let two = subst (λ z. GoesWith Any u WhatIn z) (sym t.name) (decls_go.declared u around first storage base (is_some item.init) shape steps here) in
    let k2 = kept u v (reached_so two) k.good in
    let three = reached (decls_go.init_of v what item.init (has_so two) k2.good (Typed made x) t.init) in
    let k3 = kept v x three k2.good in record {
      calm = reached_so one;
      reached = reached_so any;
      declares = reached_so two;
      starts = three;
      good = k.good;
      formed = here;
      steps = steps;
      declared = k2.good;
      what_in = has_so two;
      last = k3.good;
      last_formed = form_later v.structs x.structs (is_later v x k2.good k3.good k3.frame) base (form_later u.structs v.structs (is_later u v k.good k2.good k2.frame) base here);
    }

pub declarators_reach :
    {around : Context} {first : Pos} {storage : List StorageWord} {base : Form} {w v : World} {done made : Made} {items : List InitDeclaratorTree}
    → Good w → IsFormedForm w.structs base → MakesDeclarators around first storage base w done items made v → Reaches Any w v
declarators_reach good f none = reaches.stays _
declarators_reach good f (one_more t e n m r) =
    let facts = step_facts good f t in
    reaches.after _ _ _ facts.reached (reaches.after _ _ _ facts.declares (reaches.after _ _ _ facts.starts (declarators_reach facts.last facts.last_formed r)))

-- the specs of a declaration
pub record SpecFacts (base : Form) (w u : World) : Type 0 where
  pub calm : Reaches Constants w u
  pub reached : Reaches Any w u
  pub good : Good u
  pub formed : IsFormedForm u.structs base

formed_from : {w v : World} {form : Form} → FormAt w (Typed form v) → IsFormedForm w.structs form
formed_from (formed_at _ f) = f

pub spec_facts : {w v : World} {around : Context} {decl : DeclTree} {made : Made} → Good w → (d : MakesDecl w around decl made v) → SpecFacts d.base w d.behind
spec_facts {w} {v} {around} {decl} {made} good d =
    let one = go_specs {may = Constants} w (is_struct_alone decl.specs decl.inits) no_specs_yet decl.specs (none_yet w) good (Typed d.specs d.behind) d.types in
    let any = go_specs {may = Any} w (is_struct_alone decl.specs decl.inits) no_specs_yet decl.specs (none_yet w) good (Typed d.specs d.behind) d.types in record {
      calm = reached_so one;
      reached = reached_so any;
      good = good_by good (reached_so one);
      formed = formed_from (subst (λ z. FormAt d.behind z) d.told (type_told_at OfDeclaration (first_of decl.pos decl.specs) d.specs d.behind (has_so one)));
    }

pub decl_reach : {w v : World} {around : Context} {decl : DeclTree} {made : Made} → Good w → MakesDecl w around decl made v → Reaches Any w v
decl_reach good d = let facts = spec_facts good d in reaches.after _ _ _ facts.reached (declarators_reach facts.good facts.formed d.rest)

-- ---- statements

pub value_reach : {may : Changes} {w v : World} {e : written.ExprTree} {x : TExprTree} → Good w → IsValue w e x v → Reaches may w v
value_reach {w = w} {v = v} {e = e} {x = x} good p = reached (valued (go w e) good (Typed x v) p.types)

pub may_condition_reach : {may : Changes} {w v : World} {e : Option written.ExprTree} {x : Option TExprTree} → Good w → MayCondition w e x v → Reaches may w v
may_condition_reach good no_condition = reaches.stays _
may_condition_reach good (a_condition p) = value_reach good p.value

pub may_step_reach : {may : Changes} {w v : World} {e : Option written.ExprTree} {x : Option TExprTree} → Good w → MayStep w e x v → Reaches may w v
may_step_reach good no_step = reaches.stays _
may_step_reach good (a_step p) = value_reach good p

pub start_reach : {w v : World} {around : Context} {s : ForStartTree} {made : Made} → Good w → MakesStart w around s made v → Reaches Any w v
start_reach good nothing = reaches.stays _
start_reach good (value p) = value_reach good p
start_reach good (declares d) = decl_reach good d

-- into the statement of a switch
pub into_switch : {w u : World} {e : written.ExprTree} {s : Switched} → Good w → IsSwitched w e s u → Reaches Any w (opened (without_cases u))
into_switch {u = u} good p = reaches.after _ _ _ (value_reach good p.value) (reaches.after _ _ _ (reaches.cased u [] None) (reaches.opens _))

mutual
  pub stmt_reach : {w v : World} {around : Context} {s : StmtTree} {items : TStmtTrees} → Good w → MakesStmt w around s items v → Reaches Any w v
  stmt_reach {w = w} good (label p) = let r = reaches.labelled w _ in reaches.after _ _ _ r (stmt_reach (good_by good r) p)
  stmt_reach {w = w} good (case {u = u} t n p e d q) =
      let r = reaches.after _ _ _ (value_reach good p) (reaches.cased u _ u.default) in reaches.after _ _ _ r (stmt_reach (good_by good r) q)
  stmt_reach {w = w} good (default {at = at} t e d p) = let r = reaches.cased w w.cases (Some at) in reaches.after _ _ _ r (stmt_reach (good_by good r) p)
  stmt_reach {w = w} good (block {v = v} p) = reaches.scoped w v (items_reach (enters good) p)
  stmt_reach {w = w} good empty = reaches.stays w
  stmt_reach good (expression p) = value_reach good p
  stmt_reach {w = w} good (if_alone {u = u} {v = v} p q) =
      let r = value_reach (enters good) p.value in
      reaches.scoped w _ (reaches.after _ _ _ r (reaches.scoped u v (stmt_reach (enters (good_by (enters good) r)) q)))
  stmt_reach {w = w} good (if_else {u = u} {v = v} {x = x} p q s) =
      let r = value_reach (enters good) p.value in
      let r2 = reaches.after _ _ _ r (reaches.scoped u v (stmt_reach (enters (good_by (enters good) r)) q)) in
      reaches.scoped w _ (reaches.after _ _ _ r2 (reaches.scoped (closed u v) x (stmt_reach (enters (good_by (enters good) r2)) s)))
  stmt_reach {w = w} good (switch_block {u = u} {v = v} p q) =
      let r = reaches.after _ _ _ (value_reach (enters good) p.value) (reaches.cased u [] None) in
      reaches.after _ _ _ (reaches.scoped w _ (reaches.after _ _ _ r (reaches.scoped (without_cases u) v (items_reach (enters (good_by (enters good) r)) q)))) (reaches.cased _ w.cases w.default)
  stmt_reach {w = w} good (switch_one {u = u} {v = v} p q) =
      let r = into_switch (enters good) p in
      reaches.after _ _ _ (reaches.scoped w v (reaches.after _ _ _ r (stmt_reach (good_by (enters good) r) q))) (reaches.cased _ w.cases w.default)
  stmt_reach {w = w} good (while {u = u} {v = v} p q) =
      let r = value_reach (enters good) p.value in
      reaches.scoped w _ (reaches.after _ _ _ r (reaches.scoped u v (stmt_reach (enters (good_by (enters good) r)) q)))
  stmt_reach {w = w} good (do_while {u = u} {v = v} q p) =
      let r = reaches.scoped (opened w) u (stmt_reach (enters (enters good)) q) in
      reaches.scoped w v (reaches.after _ _ _ r (value_reach (good_by (enters good) r) p.value))
  stmt_reach {w = w} good (for {u = u} {v = v} {x = x} {y = y} s c n q) =
      let r = start_reach (enters good) s in
      let good2 = good_by (enters good) r in
      let r2 = may_condition_reach {may = Any} good2 c in
      let good3 = good_by good2 r2 in
      let r3 = may_step_reach {may = Any} good3 n in
      let good4 = good_by good3 r3 in
      reaches.scoped w _ (reaches.after _ _ _ r (reaches.after _ _ _ r2 (reaches.after _ _ _ r3 (reaches.scoped x y (stmt_reach (enters good4) q)))))
  stmt_reach {w = w} good (goto e) = reaches.stays w
  stmt_reach {w = w} good (continue e) = reaches.stays w
  stmt_reach {w = w} good (break e) = reaches.stays w
  stmt_reach {w = w} good (return_bare e) = reaches.stays w
  stmt_reach good (return_value p q) = value_reach good p

  pub items_reach : {w v : World} {around : Context} {done made : Made} {items : BlockItemTrees} → Good w → MakesItems w around done items made v → Reaches Any w v
  items_reach {w = w} good no_items = reaches.stays w
  items_reach good (declaration d p) = let r = decl_reach good d in reaches.after _ _ _ r (items_reach (good_by good r) p)
  items_reach good (statement s p) = let r = stmt_reach good s in reaches.after _ _ _ r (items_reach (good_by good r) p)

-- ---- functions and the file

-- the head of a definition: the world before its declarator, that behind it, and the scope of the body
pub record HeadFacts (base : Form) (shape : Shape) (begun : Begun) (w u x y : World) : Type 0 where
  pub calm : Reaches Constants w u
  pub reached : Reaches Any w u
  pub behind : Reaches Constants u x
  pub good : Good u
  pub formed : IsFormedForm x.structs base
  pub steps : AreFormedSteps x.structs shape.steps
  pub good_behind : Good x
  pub heads : Heads u (Typed begun y)
  pub scope : Good y

pub head_facts :
    {w u x y : World} {around : Context} {at : Pos} {specs : SpecTrees} {declarator : DeclaratorTree} {s : SpecsTree} {base : Form} {shape : Shape} {begun : Begun}
    → Good w → TypesHead around at specs declarator s base shape begun w u x y → HeadFacts base shape begun w u x y
head_facts {w} {u} {x} {y} {around} {at} {specs} {declarator} {s} {base} {shape} {begun} good t =
    let one = go_specs {may = Constants} w false no_specs_yet specs (none_yet w) good (Typed s u) t.words in
    let any = go_specs {may = Any} w false no_specs_yet specs (none_yet w) good (Typed s u) t.words in
    let k = kept w u (reached_so one) good in
    let f = formed_from (subst (λ z. FormAt u z) t.told (type_told_at OfDeclaration (first_of at specs) s u (has_so one))) in
    let two = go_declarator {may = Constants} u declarator k.good (Typed shape x) t.declarator_is in
    let two_any = go_declarator {may = Any} u declarator k.good (Typed shape x) t.declarator_is in
    let k2 = kept u x (reached_so two) k.good in
    let heads = subst (λ z. Heads u z) (sym t.head_is) (file_go.definition u x around (first_of at specs) s.storage shape.steps base shape.name k2.good (reached_so two_any) (has_so two_any)) in record {
      calm = reached_so one;
      reached = reached_so any;
      behind = reached_so two;
      good = k.good;
      formed = form_later u.structs x.structs (is_later u x k.good k2.good k2.frame) base f;
      steps = steps_formed u x shape.steps (has_so two);
      good_behind = k2.good;
      heads = heads;
      scope = file_go.in_scope_of k.good heads;
    }

pub outer_reach : {w v : World} {around : Context} {tree : OuterTree} → Good w → MakesOuter w around tree v → Reaches Any w v
outer_reach good (outers.declares d) = decl_reach good d
outer_reach good (outers.defines {brace = brace} {made = made} t n h i) =
    let facts = head_facts good t in reaches.after _ _ _ facts.reached (file_go.ended brace made facts.heads (items_reach facts.scope i))

pub outers_reach : {around : Context} {w v : World} {list : List OuterTree} → Good w → MakesOuters around w list v → Reaches Any w v
outers_reach good no_more = reaches.stays _
outers_reach good (and_then p q) = let r = outer_reach good p in reaches.after _ _ _ r (outers_reach (good_by good r) q)
