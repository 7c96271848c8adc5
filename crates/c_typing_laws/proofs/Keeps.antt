-- What holds of a world, and is kept by expressions, by names and by their initialisers, is kept by declarations and statements.
use Rattle.std.proofs.Common.{◌≡◌, refl, subst}
use Rattle.std.proofs.lemmas.Bool.{false≢true}
use Rattle.std.proofs.lemmas.List.Elements.{All-nil, All-push, All-take}
use Rattle.std.specs.Prelude.{ℕ, Bool, true, false, if◌then◌else◌, is_some, Option, Some, None, List, [], length}
use Rattle.c_syntax_written.specs.declared.place.Pos.{Pos}
use Rattle.c_syntax_written.specs.declared.written.StorageWord.{StorageWord}
use Rattle.c_syntax_written.specs.Written as written
use Rattle.c_syntax_written.specs.WrittenDecl.{InitTree, InitDeclaratorTree, DeclTree}
use Rattle.c_syntax_written.specs.WrittenFile.{ForStartTree, StmtTree, BlockItemTrees}
use Rattle.c_syntax.specs.TypedExpr.{TExprTree}
use Rattle.c_syntax.specs.TypedStmt.{TStmtTrees}
use Rattle.c_typing.specs.World.{World, Form, Meaning, Object, Missing, Parameter, Function, TypeName, Enumeration, Typed}
use Rattle.c_typing.specs.Names.{opened, closed, with_initial}
use Rattle.c_typing.specs.Formed.{IsFormedForm}
use Rattle.c_typing.specs.Declarators.{DeclaredName, Step}
use Rattle.c_typing.specs.Context.{Context, has_name}
use Rattle.c_typing.specs.Specifiers.{no_specs_yet, OfDeclaration}
use Rattle.c_typing.specs.Typing.{first_of}
use Rattle.c_typing.specs.Inits.{Initialised, static_bytes}
use Rattle.c_syntax.specs.Types.{CTypeTree}
use Rattle.c_typing.specs.Decls.{Declares, ObjectNow, Made, new_function, parameters_of, size_or_zero, with_static, is_struct_alone, is_function_so}
use Rattle.c_typing.specs.Stmts.{without_cases}
use Rattle.c_typing.proofs.Changes.{Constants, Any}
use Rattle.c_typing.proofs.Good.{Good}
use Rattle.c_typing.proofs.FormsGo.{AreFormedSteps}
use Rattle.c_typing.proofs.DeclsGo.{WhatIn}
use Rattle.c_typing.proofs.Reaches as reaches
use Rattle.c_typing.proofs.Reaches.{Reaches, enters}
use Rattle.c_typing_laws.specs.NameSteps.{MakesName, type_name, reserved, first_function, function_again, local, local_open, first_object, first_missing, object_again, missing_again}
use Rattle.c_typing_laws.specs.DeclSteps.{MakesSize, as_it_was, by_count, MakesInit, no_object, bare, given, MakesDeclarators, none, one_more, MakesDecl}
use Rattle.c_typing_laws.specs.StmtSteps.{IsValue, MayCondition, no_condition, a_condition, MayStep, no_step, a_step, MakesStart, nothing, value, declares, MakesStmt, label, case, default, block, empty, expression, if_alone, if_else, switch_block, switch_one, while, do_while, for, goto, continue, break, return_bare, return_value, MakesItems, no_items, declaration, statement}
use Rattle.c_typing_laws.proofs.Outcomes.{TypedAs, typed_from}
use Rattle.c_typing_laws.proofs.StepSteady.{init_calm}
use Rattle.c_typing_laws.proofs.Scalars.{IsScalarForm, IsScalarMeaning, ScalarNames, AreScalarSteps, scalar_calm, scalar_specs, told_scalar, laid_scalar, scalar_declarator}
use Rattle.c_typing_laws.proofs.Reached.{good_by, step_facts, spec_facts, value_reach, may_condition_reach, may_step_reach, start_reach, into_switch, decl_reach, stmt_reach}

-- what holds of names, and of the program beside
pub record Both (P : World → Type 0) (w : World) : Type 0 where
  pub names : ScalarNames w
  pub has : P w

-- one world has the program of another, in other scopes and with other labels
pub record HasSame (w v : World) : Type 0 where
  pub structs : v.structs ≡ w.structs
  pub objects : v.objects ≡ w.objects
  pub functions : v.functions ≡ w.functions
  pub signatures : v.signatures ≡ w.signatures
  pub linked : v.linked ≡ w.linked
  pub initial : v.initial ≡ w.initial

pub record IsKept (functions objects : List (List ℕ)) (P : World → Type 0) : Type 0 where
  pub calm : (w v : World) → Good w → Reaches Constants w v → P w → P v
  pub declared :
      (around : Context) (w v x : World) (storage : List StorageWord) (steps : List Step) (base : Form) (has_init : Bool) (named : DeclaredName) (what : Declares) (init : Option InitTree) (made : Made)
      → around.functions ≡ functions → around.objects ≡ objects → has_init ≡ is_some init → Good w → AreFormedSteps w.structs steps → IsFormedForm w.structs base → AreScalarSteps steps → IsScalarForm base
      → MakesName around w storage steps base has_init named what v → Good v → WhatIn what v → MakesInit v what init made x → Reaches Any w v → Reaches Any v x → P w → P x
  pub moved : (w v : World) → HasSame w v → P w → P v

known_scalar : (w : World) (types : List CTypeTree) (result : CTypeTree) (m : Meaning) → is_function_so w types result false m ≡ true → IsScalarMeaning m
known_scalar w types result (Object n) e = tt
known_scalar w types result (Missing ty c) e = tt
known_scalar w types result (Parameter k ty c) e = tt
known_scalar w types result (Function n) e = tt
known_scalar w types result (TypeName form) e = absurd (false≢true e)
known_scalar w types result (Enumeration n) e = tt

-- names that are declared
pub name_scalar :
    {around : Context} {w v : World} {storage : List StorageWord} {steps : List Step} {base : Form} {has_init : Bool} {named : DeclaredName} {what : Declares}
    → AreFormedSteps w.structs steps → IsFormedForm w.structs base → AreScalarSteps steps → IsScalarForm base → MakesName around w storage steps base has_init named what v → ScalarNames w → ScalarNames v
name_scalar {w = w} {steps = steps} {base = base} {named = named} s f t b (type_name form d e) all =
    All-push (λ x. IsScalarMeaning x.meaning) w.names _ all (typed_from (subst (λ z. TypedAs (λ y v. IsScalarForm y) z) e (laid_scalar w named.pos steps base s f t b)))
name_scalar s f t b (reserved y) all = all
name_scalar {around = around} {w = w} {steps = steps} {named = named} s f t b (first_function types result r e n) all = by (has_name around.functions named.name)
  where
    by : (later : Bool) → ScalarNames (new_function w named later (parameters_of steps types named.pos) types result)
    by true = All-push (λ x. IsScalarMeaning x.meaning) w.names _ all tt
    by false = All-push (λ x. IsScalarMeaning x.meaning) w.names _ all tt
name_scalar {w = w} {named = named} s f t b (function_again types result l n so) all =
    All-push (λ x. IsScalarMeaning x.meaning) w.names _ all (known_scalar w types result l.meaning so)
name_scalar {w = w} s f t b (local ty c st size i e h) all = All-push (λ x. IsScalarMeaning x.meaning) w.names _ all tt
name_scalar {w = w} s f t b (local_open of c st i e h) all = All-push (λ x. IsScalarMeaning x.meaning) w.names _ all tt
name_scalar {w = w} s f t b (first_object form ty c m size total r e is n h z) all = All-push (λ x. IsScalarMeaning x.meaning) w.names _ all tt
name_scalar {w = w} s f t b (first_missing ty c total r n h) all = All-push (λ x. IsScalarMeaning x.meaning) w.names _ all tt
name_scalar {w = w} s f t b (object_again form ty c m l n size total e is k q a z) all = All-push (λ x. IsScalarMeaning x.meaning) w.names _ all tt
name_scalar {w = w} s f t b (missing_again ty before c l size total d k q) all = All-push (λ x. IsScalarMeaning x.meaning) w.names _ all tt

size_scalar : {w v : World} {object : ObjectNow} {by : Initialised} {ty : CTypeTree} → MakesSize w object by ty v → ScalarNames w → ScalarNames v
size_scalar (as_it_was m) all = all
size_scalar (by_count m c t) all = all

static_scalar : (w : World) (object : ObjectNow) (ty : CTypeTree) (by : Initialised) → ScalarNames w → ScalarNames (with_static w object ty by)
static_scalar w object ty by all = at object.is_static
  where
    at : (b : Bool) → ScalarNames (if b then with_initial w object.number (static_bytes w.objects (size_or_zero w ty) by.items) else w)
    at true = all
    at false = all

pub init_scalar : {w v : World} {what : Declares} {init : Option InitTree} {made : Made} → Good w → MakesInit w what init made v → ScalarNames w → ScalarNames v
init_scalar good no_object all = all
init_scalar good bare all = all
init_scalar {w = w} good (given {u = u} {v = v} {object = object} {init = init} {by = by} {ty = ty} t s) all =
    static_scalar v object ty by (size_scalar s (scalar_calm w u (init_calm object init by good t) all))

declarators_keep :
    {functions objects : List (List ℕ)} {P : World → Type 0} {around : Context} {first : Pos} {storage : List StorageWord} {base : Form} {w v : World} {done made : Made} {items : List InitDeclaratorTree}
    → IsKept functions objects P → around.functions ≡ functions → around.objects ≡ objects → Good w → IsFormedForm w.structs base → IsScalarForm base
    → MakesDeclarators around first storage base w done items made v → Both P w → Both P v
declarators_keep k f o good b scalar none p = p
declarators_keep {around = around} {storage = storage} {base = base} k f o good b scalar (one_more {w = w} {u = u} {v = v} {x = x} {made = made} {item = item} {shape = shape} {named = named} {what = what} t e n m r) p =
    let facts = step_facts good b t in
    let steps = typed_from (scalar_declarator w item.declarator good p.names (Typed shape u) t.declarator) in
    let names = name_scalar facts.steps facts.formed steps scalar n (scalar_calm w u facts.calm p.names) in
    declarators_keep k f o facts.last facts.last_formed scalar r (record {
      names = init_scalar facts.declared m names;
      has = k.declared around u v x storage shape.steps base (is_some item.init) named what item.init made f o refl facts.good facts.steps facts.formed steps scalar n facts.declared facts.what_in m
          facts.declares facts.starts (k.calm w u good facts.calm p.has);
    })

pub decl_keeps :
    {functions objects : List (List ℕ)} {P : World → Type 0} {w v : World} {around : Context} {decl : DeclTree} {made : Made}
    → IsKept functions objects P → around.functions ≡ functions → around.objects ≡ objects → Good w → MakesDecl w around decl made v → Both P w → Both P v
decl_keeps {w = w} {decl = decl} k f o good d p =
    let facts = spec_facts good d in
    let specs = typed_from (scalar_specs w (is_struct_alone decl.specs decl.inits) no_specs_yet decl.specs good p.names (All-nil IsScalarForm) (Typed d.specs d.behind) d.types) in
    let base = typed_from (subst (λ z. TypedAs (λ y v. IsScalarForm y) z) d.told (told_scalar OfDeclaration (first_of decl.pos decl.specs) d.specs d.behind specs)) in
    declarators_keep k f o facts.good facts.formed base d.rest (record { names = scalar_calm w d.behind facts.calm p.names; has = k.calm w d.behind good facts.calm p.has })

pub value_keeps :
    {functions objects : List (List ℕ)} {P : World → Type 0} {w v : World} {e : written.ExprTree} {x : TExprTree} → IsKept functions objects P → Good w → IsValue w e x v → Both P w → Both P v
value_keeps {w = w} {v = v} k good q p = let r = value_reach good q in record { names = scalar_calm w v r p.names; has = k.calm w v good r p.has }

pub condition_keeps :
    {functions objects : List (List ℕ)} {P : World → Type 0} {w v : World} {e : Option written.ExprTree} {x : Option TExprTree}
    → IsKept functions objects P → Good w → MayCondition w e x v → Both P w → Both P v
condition_keeps k good no_condition p = p
condition_keeps k good (a_condition q) p = value_keeps k good q.value p

pub step_keeps :
    {functions objects : List (List ℕ)} {P : World → Type 0} {w v : World} {e : Option written.ExprTree} {x : Option TExprTree}
    → IsKept functions objects P → Good w → MayStep w e x v → Both P w → Both P v
step_keeps k good no_step p = p
step_keeps k good (a_step q) p = value_keeps k good q p

pub start_keeps :
    {functions objects : List (List ℕ)} {P : World → Type 0} {w v : World} {around : Context} {s : ForStartTree} {made : Made}
    → IsKept functions objects P → around.functions ≡ functions → around.objects ≡ objects → Good w → MakesStart w around s made v → Both P w → Both P v
start_keeps k f o good nothing p = p
start_keeps k f o good (value q) p = value_keeps k good q p
start_keeps k f o good (declares d) p = decl_keeps k f o good d p

-- the same program
pub the_same : (w v : World) → v.structs ≡ w.structs → v.objects ≡ w.objects → v.functions ≡ w.functions → v.signatures ≡ w.signatures → v.linked ≡ w.linked → v.initial ≡ w.initial → HasSame w v
the_same w v s o f g l i = record { structs = s; objects = o; functions = f; signatures = g; linked = l; initial = i }

pub over : {functions objects : List (List ℕ)} {P : World → Type 0} → IsKept functions objects P → (w v : World) → HasSame w v → (ScalarNames w → ScalarNames v) → Both P w → Both P v
over k w v same names p = record { names = names p.names; has = k.moved w v same p.has }

-- the names that stay when a scope ends
pub shut_names : (u v : World) → ScalarNames v → ScalarNames (closed u v)
shut_names u v all = All-take (λ b. IsScalarMeaning b.meaning) (length u.names) v.names all

mutual
  pub stmt_keeps :
      {functions objects : List (List ℕ)} {P : World → Type 0} {w v : World} {around : Context} {s : StmtTree} {items : TStmtTrees}
      → IsKept functions objects P → around.functions ≡ functions → around.objects ≡ objects → Good w → MakesStmt w around s items v → Both P w → Both P v
  stmt_keeps {w = w} k f o good (label q) p = stmt_keeps k f o (good_by good (reaches.labelled w _)) q (over k w _ (the_same w _ refl refl refl refl refl refl) (λ all. all) p)
  stmt_keeps k f o good (case {u = u} t n q e d s) p =
      let r = value_reach good q in
      stmt_keeps k f o (good_by good (reaches.after _ _ _ r (reaches.cased u _ u.default))) s (over k u _ (the_same u _ refl refl refl refl refl refl) (λ all. all) (value_keeps k good q p))
  stmt_keeps {w = w} k f o good (default {at = at} t e d q) p =
      stmt_keeps k f o (good_by good (reaches.cased w w.cases (Some at))) q (over k w _ (the_same w _ refl refl refl refl refl refl) (λ all. all) p)
  stmt_keeps {w = w} k f o good (block {v = v} q) p =
      over k v (closed w v) (the_same v _ refl refl refl refl refl refl) (λ all. shut_names w v all) (items_keep k f o (enters good) q (over k w (opened w) (the_same w _ refl refl refl refl refl refl) (λ all. all) p))
  stmt_keeps k f o good empty p = p
  stmt_keeps k f o good (expression q) p = value_keeps k good q p
  stmt_keeps {w = w} k f o good (if_alone {u = u} {v = v} q s) p =
      let good2 = good_by (enters good) (value_reach {may = Any} (enters good) q.value) in
      over k v _ (the_same v _ refl refl refl refl refl refl) (λ all. shut_names w (closed u v) (shut_names u v all))
      (stmt_keeps k f o (enters good2) s (over k u (opened u) (the_same u _ refl refl refl refl refl refl) (λ all. all)
      (value_keeps k (enters good) q.value (over k w (opened w) (the_same w _ refl refl refl refl refl refl) (λ all. all) p))))
  stmt_keeps {w = w} k f o good (if_else {u = u} {v = v} {x = x} q s t) p =
      let good2 = good_by (enters good) (value_reach {may = Any} (enters good) q.value) in
      let good3 = good_by {may = Any} good2 (reaches.scoped u v (stmt_reach (enters good2) s)) in
      over k x _ (the_same x _ refl refl refl refl refl refl) (λ all. shut_names w (closed (closed u v) x) (shut_names (closed u v) x all))
      (stmt_keeps k f o (enters good3) t (over k v (opened (closed u v)) (the_same v _ refl refl refl refl refl refl) (λ all. shut_names u v all)
      (stmt_keeps k f o (enters good2) s (over k u (opened u) (the_same u _ refl refl refl refl refl refl) (λ all. all)
      (value_keeps k (enters good) q.value (over k w (opened w) (the_same w _ refl refl refl refl refl refl) (λ all. all) p))))))
  stmt_keeps {w = w} k f o good (switch_block {u = u} {v = v} q s) p =
      let r = reaches.after _ _ _ (value_reach (enters good) q.value) (reaches.cased u [] None) in
      over k v _ (the_same v _ refl refl refl refl refl refl) (λ all. shut_names w (closed (without_cases u) v) (shut_names (without_cases u) v all))
      (items_keep k f o (enters (good_by (enters good) r)) s (over k u (opened (without_cases u)) (the_same u _ refl refl refl refl refl refl) (λ all. all)
      (value_keeps k (enters good) q.value (over k w (opened w) (the_same w _ refl refl refl refl refl refl) (λ all. all) p))))
  stmt_keeps {w = w} k f o good (switch_one {u = u} {v = v} q s) p =
      over k v _ (the_same v _ refl refl refl refl refl refl) (λ all. shut_names w v all)
      (stmt_keeps k f o (good_by (enters good) (into_switch (enters good) q)) s (over k u (opened (without_cases u)) (the_same u _ refl refl refl refl refl refl) (λ all. all)
      (value_keeps k (enters good) q.value (over k w (opened w) (the_same w _ refl refl refl refl refl refl) (λ all. all) p))))
  stmt_keeps {w = w} k f o good (while {u = u} {v = v} q s) p =
      let good2 = good_by (enters good) (value_reach {may = Any} (enters good) q.value) in
      over k v _ (the_same v _ refl refl refl refl refl refl) (λ all. shut_names w (closed u v) (shut_names u v all))
      (stmt_keeps k f o (enters good2) s (over k u (opened u) (the_same u _ refl refl refl refl refl refl) (λ all. all)
      (value_keeps k (enters good) q.value (over k w (opened w) (the_same w _ refl refl refl refl refl refl) (λ all. all) p))))
  stmt_keeps {w = w} k f o good (do_while {u = u} {v = v} s q) p =
      let good2 = good_by {may = Any} (enters good) (reaches.scoped (opened w) u (stmt_reach (enters (enters good)) s)) in
      over k v _ (the_same v _ refl refl refl refl refl refl) (λ all. shut_names w v all)
      (value_keeps k good2 q.value (over k u (closed (opened w) u) (the_same u _ refl refl refl refl refl refl) (λ all. shut_names (opened w) u all)
      (stmt_keeps k f o (enters (enters good)) s (over k w (opened (opened w)) (the_same w _ refl refl refl refl refl refl) (λ all. all) p))))
  stmt_keeps {w = w} k f o good (for {u = u} {v = v} {x = x} {y = y} s c n q) p =
      let r = start_reach (enters good) s in
      let good2 = good_by (enters good) r in
      let good3 = good_by good2 (may_condition_reach {may = Any} good2 c) in
      let good4 = good_by good3 (may_step_reach {may = Any} good3 n) in
      over k y _ (the_same y _ refl refl refl refl refl refl) (λ all. shut_names w (closed x y) (shut_names x y all))
      (stmt_keeps k f o (enters good4) q (over k x (opened x) (the_same x _ refl refl refl refl refl refl) (λ all. all)
      (step_keeps k good3 n (condition_keeps k good2 c (start_keeps k f o (enters good) s (over k w (opened w) (the_same w _ refl refl refl refl refl refl) (λ all. all) p))))))
  stmt_keeps k f o good (goto e) p = p
  stmt_keeps k f o good (continue e) p = p
  stmt_keeps k f o good (break e) p = p
  stmt_keeps k f o good (return_bare e) p = p
  stmt_keeps k f o good (return_value q e) p = value_keeps k good q p

  pub items_keep :
      {functions objects : List (List ℕ)} {P : World → Type 0} {w v : World} {around : Context} {done made : Made} {items : BlockItemTrees}
      → IsKept functions objects P → around.functions ≡ functions → around.objects ≡ objects → Good w → MakesItems w around done items made v → Both P w → Both P v
  items_keep k f o good no_items p = p
  items_keep k f o good (declaration d q) p = items_keep k f o (good_by good (decl_reach good d)) q (decl_keeps k f o good d p)
  items_keep k f o good (statement s q) p = items_keep k f o (good_by good (stmt_reach good s)) q (stmt_keeps k f o good s p)
