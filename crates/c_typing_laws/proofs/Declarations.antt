-- Declarations in blocks are typed.
use Rattle.std.proofs.Common.{◌≡◌, ℕ, true, false, List, [], ◌∷◌, ◌++◌, refl, sym, subst, ◌∙◌}
use Rattle.std.specs.Prelude.{Bool, if◌then◌else◌, is_some, IsTrue, Option, IsSomeAnd, All, Contains, map, slice_get}
use Rattle.std.proofs.lemmas.List.Elements.{All-nil, All-head}
use Rattle.c_syntax_written.specs.declared.place.Pos.{Pos}
use Rattle.c_syntax_written.specs.declared.written.StorageWord.{StorageWord}
use Rattle.c_syntax_written.specs.WrittenDecl.{InitTree, InitDeclaratorTree, DeclTree}
use Rattle.c_syntax.specs.Types.{CTypeTree}
use Rattle.c_syntax.specs.TypedStmt.{TInitTree, TStmtTrees, none, more}
use Rattle.c_layout.specs.TypedNodes.{Scope, Standing, IsTypedStmt, AreTypedItems, AreTypedInits}
use Rattle.c_typing.specs.World.{World, Form, Typed}
use Rattle.c_typing.specs.Formed.{IsFormedForm}
use Rattle.c_typing.specs.Specifiers.{no_specs_yet, OfDeclaration}
use Rattle.c_typing.specs.Typing.{first_of}
use Rattle.c_typing.specs.Inits.{Initialised, static_bytes}
use Rattle.c_typing.specs.Names.{with_initial}
use Rattle.c_typing.specs.Context.{Context}
use Rattle.c_typing.specs.Settled.{settled_init, settled_stmt, settled_stmts}
use Rattle.c_typing.specs.Decls.{Declares, AnObject, ObjectNow, Made, nothing_made, both, made_of, automatic, static_made, with_static, size_or_zero, is_struct_alone}
use Rattle.c_typing.proofs.Changes.{Any}
use Rattle.c_typing.proofs.Good.{Good}
use Rattle.c_typing.proofs.DeclsGo.{WhatIn}
use Rattle.c_typing.proofs.Reaches.{Reaches}
use Rattle.c_typing.proofs.Reaches as reaches
use Rattle.c_typing_laws.specs.DeclSteps as steps
use Rattle.c_typing_laws.specs.DeclSteps.{MakesSize, as_it_was, by_count, MakesInit, no_object, bare, given, MakesDeclarators, one_more, MakesDecl}
use Rattle.c_typing_laws.proofs.Outcomes.{TypedAs, typed_from}
use Rattle.c_typing_laws.proofs.Reached.{step_facts, spec_facts}
use Rattle.c_typing_laws.proofs.StepSteady.{init_calm}
use Rattle.c_typing_laws.proofs.Scalars.{IsScalarForm, scalar_calm, scalar_specs, told_scalar, scalar_declarator}
use Rattle.c_typing_laws.proofs.Keeps.{name_scalar, init_scalar}
use Rattle.c_typing_laws.specs.ExpressionLaws.{IsUsable, AreUsable, EndsFrom}
use Rattle.c_typing_laws.proofs.WholeExpressions.{usable_after}
use Rattle.c_typing_laws.proofs.Entries.{split_all}
use Rattle.c_typing_laws.proofs.Grows.{number_of, init_objects}
use Rattle.c_typing_laws.proofs.Objects.{ObjectsIn, name_in}
use Rattle.c_typing_laws.proofs.Onward.{Onward, ArePaired, paired, onward}
use Rattle.c_typing_laws.proofs.Ends.{ends_onward}
use Rattle.c_typing_laws.proofs.Declared.{IsThere, IsDeclared, name_declared, declared_lives, size_filled, inits_typed, no_inits, behind_reach}
use Rattle.c_typing_laws.proofs.Sizes.{AreSized, sized_step, sized_calm, name_initial, init_sized}
use Rattle.c_typing_laws.proofs.States.{holds_kept, State}
use Rattle.c_typing_laws.proofs.Usable.{name_usable, names_onward}

abbrev pub settled : Standing → TStmtTrees → TStmtTrees
settled standing items = settled_stmts standing.scope.program.objects items

-- these objects stand in the block, and live
pub record Lives (standing : Standing) (objects : List ℕ) : Type 0 where
  pub listed : All (Contains standing.block) objects
  pub live : All (Contains standing.scope.live) objects

pub lives_split : (standing : Standing) (xs ys : List ℕ) → Lives standing (xs ++ ys) → Lives standing xs × Lives standing ys
lives_split standing xs ys l =
    let a = split_all (Contains standing.block) xs ys l.listed in
    let b = split_all (Contains standing.scope.live) xs ys l.live in (record { listed = a.0; live = b.0 }, record { listed = a.1; live = b.1 })

-- ---- lists of statements

pub typed_none : (standing : Standing) → AreTypedItems standing (settled standing none)
unfolding IsTypedStmt AreTypedItems settled_stmt settled_stmts
typed_none standing = tt

pub typed_both : (standing : Standing) (xs ys : TStmtTrees) → AreTypedItems standing (settled standing xs) → AreTypedItems standing (settled standing ys) → AreTypedItems standing (settled standing (both xs ys))
unfolding IsTypedStmt AreTypedItems settled_stmt settled_stmts both
typed_both standing none ys p q = q
typed_both standing (more x xs) ys p q = (p.0, typed_both standing xs ys p.1 q)

-- ---- one declarator

automatic_typed : (standing : Standing) (object : ObjectNow) (items : List TInitTree) (rest : Bool) → Contains standing.block object.number → AreTypedInits standing.scope object.number (map (settled_init standing.scope.program.objects) items)
    → AreTypedItems standing (settled standing (automatic object items rest).items)
unfolding IsTypedStmt AreTypedItems settled_stmt settled_stmts
automatic_typed standing object items rest c t = ((c, t), tt)

static_typed : (standing : Standing) (object : ObjectNow) → IsSomeAnd (slice_get standing.scope.program.objects object.number) (λ o. IsTrue o.is_static) → AreTypedItems standing (settled standing (static_made object).items)
unfolding IsTypedStmt AreTypedItems settled_stmt settled_stmts
static_typed standing object h = (h, tt)

made_typed :
    (standing : Standing) (object : ObjectNow) (items : List TInitTree) (rest : Bool) → All (Contains standing.block) (number_of (AnObject object))
    → (object.is_static ≡ true → IsSomeAnd (slice_get standing.scope.program.objects object.number) (λ o. IsTrue o.is_static))
    → AreTypedInits standing.scope object.number (map (settled_init standing.scope.program.objects) items) → AreTypedItems standing (settled standing (made_of object items rest).items)
made_typed standing object items rest listed static t = by object.in_block object.is_static listed static
  where
    by :
        (b s : Bool) → All (Contains standing.block) (if b then (if s then [] else object.number ∷ []) else []) → (s ≡ true → IsSomeAnd (slice_get standing.scope.program.objects object.number) (λ o. IsTrue o.is_static))
        → AreTypedItems standing (settled standing (if b then (if s then static_made object else automatic object items rest) else nothing_made).items)
    by true true l f = static_typed standing object (f refl)
    by true false l f = automatic_typed standing object items rest (All-head (Contains standing.block) object.number [] l) t
    by false s l f = typed_none standing

static_ends : {v : World} (standing : Standing) (has_init : Bool) (object : ObjectNow) → IsThere v has_init object → EndsFrom v standing.scope → object.is_static ≡ true
    → IsSomeAnd (slice_get standing.scope.program.objects object.number) (λ o. IsTrue o.is_static)
static_ends standing has_init object t ends e =
    let last = ends.objects object.number t.own t.there in
    subst (λ o. IsSomeAnd o (λ x. IsTrue x.is_static)) (sym last.there) (last.is_static ∙ t.is_static ∙ e)

init_typed :
    {v x : World} {what : Declares} {init : Option InitTree} {made : Made} (standing : Standing) → Good v → ArePaired v → ObjectsIn v → AreUsable v standing.scope → IsDeclared v (is_some init) what → WhatIn what v
    → Reaches Any v x → Lives standing made.objects → MakesInit v what init made x → EndsFrom x standing.scope → AreTypedItems standing (settled standing made.items)
init_typed standing good pair objects usable there is r lives no_object ends = typed_none standing
init_typed {v = v} {x = x} standing good pair objects usable there is r lives (bare {object = object}) ends =
    made_typed standing object [] false (subst (All (Contains standing.block)) (init_objects (bare {w = v} {object = object})) lives.listed) (static_ends standing false object there ends) (no_inits standing.scope object.number)
init_typed {v = v} {x = x} standing good pair objects usable there is r lives (given {object = object} {init = init} {by = by} {ty = ty} t s) ends =
    made_typed standing object by.items by.zeroes_rest (subst (All (Contains standing.block)) (init_objects (given t s)) lives.listed)
    (static_ends standing true object there (ends_onward v x standing.scope good pair r ends)) (inits_typed standing.scope object ty by.items (size_filled init standing.scope good pair objects usable there is t s ends))

-- ---- the names behind an initialiser

size_names : {w v : World} {object : ObjectNow} {by : Initialised} {ty : CTypeTree} → MakesSize w object by ty v → v.names ≡ w.names
size_names (as_it_was m) = refl
size_names (by_count m c t) = refl

static_names : (w : World) (object : ObjectNow) (ty : CTypeTree) (by : Initialised) → (with_static w object ty by).names ≡ w.names
static_names w object ty by = at object.is_static
  where
    at : (b : Bool) → (if b then with_initial w object.number (static_bytes w.objects (size_or_zero w ty) by.items) else w).names ≡ w.names
    at true = refl
    at false = refl

-- those of a world that has the names of an earlier one
moved_usable : (u v : World) (scope : Scope) → v.names ≡ u.names → Onward u v → AreUsable u scope → AreUsable v scope
moved_usable u v scope e on all = subst (All (λ b. IsUsable v scope b.meaning)) (sym e) (names_onward u v scope on u.names all)

init_usable :
    {v x : World} {what : Declares} {init : Option InitTree} {made : Made} (scope : Scope) → Good v → WhatIn what v → MakesInit v what init made x → AreUsable v scope → AreUsable x scope
init_usable scope good is no_object all = all
init_usable scope good is bare all = all
init_usable {v = v} {x = x} scope good is (given {u = u} {v = z} {object = object} {init = init} {by = by} {ty = ty} t s) all =
    let r = init_calm object init by good t in
    moved_usable u x scope (static_names z object ty by ∙ size_names s) (onward u x (behind_reach r is s)) (usable_after v u scope r all)

-- ---- declarations

-- what is typed of the items of a part, which names may be used behind it, and initial values there
pub record After (standing : Standing) (v : World) (items : TStmtTrees) : Type 0 where
  pub typed : EndsFrom v standing.scope → AreTypedItems standing (settled standing items)
  pub usable : AreUsable v standing.scope
  pub sized : AreSized standing.scope.program v

pub declarators_objects :
    {around : Context} {first : Pos} {storage : List StorageWord} {base : Form} {w v : World} {done made : Made} {items : List InitDeclaratorTree} (standing : Standing)
    → MakesDeclarators around first storage base w done items made v → Lives standing made.objects → Lives standing done.objects
declarators_objects standing steps.none l = l
declarators_objects standing (one_more {done = done} {made = made} t e n m r) l = (lives_split standing done.objects made.objects (declarators_objects standing r l)).0

declarators_typed :
    {around : Context} {first : Pos} {storage : List StorageWord} {base : Form} {w v : World} {done made : Made} {items : List InitDeclaratorTree} (standing : Standing)
    → State w → IsFormedForm w.structs base → IsScalarForm base → Lives standing made.objects → After standing w done.items
    → MakesDeclarators around first storage base w done items made v → After standing v made.items
declarators_typed standing s f b lives before steps.none = before
declarators_typed {around = around} {storage = storage} {base = base} {v = last} standing s f b lives before
    (one_more {w = w} {u = u} {v = v} {x = x} {done = done} {made = made} {item = item} {shape = shape} {named = named} {what = what} t e n m r) =
    let facts = step_facts s.good f t in
    let k = holds_kept around.functions around.objects in
    let names = scalar_calm w u facts.calm s.both.names in
    let holds = k.calm w u s.good facts.calm s.both.has in
    let steps = typed_from (scalar_declarator w item.declarator s.good s.both.names (Typed shape u) t.declarator) in
    let there = name_declared n holds.links in
    let objects = name_in facts.steps facts.formed steps b n holds.objects in
    let both_lives = lives_split standing done.objects made.objects (declarators_objects standing r lives) in
    let listed = declared_lives standing.scope (is_some item.init) there m both_lives.1.live in
    let on = onward u v facts.declares in
    let pair = paired w u facts.reached s.pair in
    let pair2 = paired u v facts.declares pair in
    let usable = name_usable standing.scope n on holds.links listed (usable_after w u standing.scope facts.calm before.usable) in
    let all_reach = reaches.after _ _ _ facts.reached (reaches.after _ _ _ facts.declares facts.starts) in
    let next : State x = record {
      good = facts.last;
      pair = paired v x facts.starts pair2;
      both = record {
        names = init_scalar facts.declared m (name_scalar facts.steps facts.formed steps b n names);
        has = k.declared around u v x storage shape.steps base (is_some item.init) named what item.init made refl refl refl facts.good facts.steps facts.formed steps b n facts.declared facts.what_in m
            facts.declares facts.starts holds;
      };
    } in
    declarators_typed standing next facts.last_formed b lives (record {
      typed = λ ends. typed_both standing done.items made.items (before.typed (ends_onward w x standing.scope s.good s.pair all_reach ends))
          (init_typed standing facts.declared pair2 objects usable there facts.what_in facts.starts both_lives.1 m ends);
      usable = init_usable standing.scope facts.declared facts.what_in m usable;
      sized = init_sized standing.scope facts.declared pair2 objects usable there facts.what_in m
          (sized_step standing.scope.program u v facts.good pair facts.declares (name_initial n) (sized_calm standing.scope.program w u s.good s.pair facts.calm before.sized));
    }) r

pub decl_typed :
    {around : Context} {w v : World} {decl : DeclTree} {made : Made} (standing : Standing) → State w → Lives standing made.objects → AreUsable w standing.scope → AreSized standing.scope.program w
    → MakesDecl w around decl made v → After standing v made.items
decl_typed {around = around} {w = w} {decl = decl} standing s lives usable sized d =
    let facts = spec_facts s.good d in
    let k = holds_kept around.functions around.objects in
    let specs = typed_from (scalar_specs w (is_struct_alone decl.specs decl.inits) no_specs_yet decl.specs s.good s.both.names (All-nil IsScalarForm) (Typed d.specs d.behind) d.types) in
    let base = typed_from (subst (λ z. TypedAs (λ y v. IsScalarForm y) z) d.told (told_scalar OfDeclaration (first_of decl.pos decl.specs) d.specs d.behind specs)) in
    declarators_typed standing (record {
      good = facts.good;
      pair = paired w d.behind facts.reached s.pair;
      both = record { names = scalar_calm w d.behind facts.calm s.both.names; has = k.calm w d.behind s.good facts.calm s.both.has };
    }) facts.formed base lives (record {
      typed = λ ends. typed_none standing;
      usable = usable_after w d.behind standing.scope facts.calm usable;
      sized = sized_calm standing.scope.program w d.behind s.good s.pair facts.calm sized;
    }) d.rest
