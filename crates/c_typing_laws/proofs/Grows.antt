-- Each automatic object that a part of a file adds stands in one of its lists, once.
use Rattle.std.proofs.Common.{◌≡◌, ℕ, ◌+◌, true, false, List, [], ◌∷◌, ◌++◌, length, refl, ap, sym, ◌∙◌, arith}
use Rattle.std.specs.Prelude.{Bool, if◌then◌else◌, Option, None, Some, All, flat_map}
use Rattle.std.proofs.lemmas.Bool.{false≢true}
use Rattle.std.proofs.lemmas.List.{append-nil, append_assoc}
use Rattle.std.proofs.lemmas.List.Elements.{All-nil, All-append, All-push}
use Rattle.std.proofs.lemmas.List.Concat.{flat_map-append}
use Rattle.c_syntax_written.specs.declared.place.Pos.{Pos}
use Rattle.c_syntax_written.specs.declared.written.StorageWord.{StorageWord}
use Rattle.c_syntax_written.specs.Written as written
use Rattle.c_syntax_written.specs.WrittenParts.{stmt_pos}
use Rattle.c_syntax_written.specs.WrittenDecl.{InitTree, InitDeclaratorTree, DeclTree}
use Rattle.c_syntax_written.specs.WrittenFile.{ForStartTree, StmtTree, BlockItemTrees}
use Rattle.c_syntax.specs.Types.{CTypeTree}
use Rattle.c_syntax.specs.TypedExpr.{TExprTree}
use Rattle.c_syntax.specs.declared.statement.BlockKind.{BlockKind}
use Rattle.c_syntax.specs.declared.statement.BlockKind.TheVariants as kinds
use Rattle.c_syntax.specs.TypedStmt.{TInitTree, TStmtTree, TStmtTrees, Empty, Expr, Block, If, While, DoWhile, For, Switch, Break, Continue, Goto, Return, none}
use Rattle.c_syntax.specs.Program.{TFunctionTree}
use Rattle.c_layout.specs.Jumps.{listed_of, listed_in}
use Rattle.c_typing.specs.World.{World, Form}
use Rattle.c_typing.specs.Names.{opened, closed, with_initial}
use Rattle.c_typing.specs.Declarators.{DeclaredName, ParameterTree, Step}
use Rattle.c_typing.specs.Formed.{IsFormedForm}
use Rattle.c_typing.specs.Inits.{Initialised, static_bytes}
use Rattle.c_typing.specs.Context.{Context, has_name}
use Rattle.c_typing.specs.Decls as decls
use Rattle.c_typing.specs.Decls.{Declares, AnObject, NoObject, ObjectNow, Made, nothing_made, both, made_then, made_of, automatic, static_made, numbers_from, function_tree}
use Rattle.c_syntax.specs.TypedParts.{not_used}
use Rattle.c_typing.specs.Stmts.{one, no_else, without_cases}
use Rattle.c_typing.proofs.Changes.{Constants, Any}
use Rattle.c_typing.proofs.Good.{Good}
use Rattle.c_typing.proofs.Reaches as reaches
use Rattle.c_typing.proofs.Reaches.{Reaches, quiet, enters}
use Rattle.c_typing_laws.specs.NameSteps.{MakesName, type_name, reserved, first_function, function_again, local, local_open, first_object, first_missing, object_again, missing_again}
use Rattle.c_typing_laws.specs.DeclSteps.{MakesSize, as_it_was, by_count, MakesInit, no_object, bare, given, MakesDeclarators, one_more, MakesDecl}
use Rattle.c_typing_laws.specs.DeclSteps as steps
use Rattle.c_typing_laws.specs.StmtSteps.{IsValue, MayCondition, no_condition, a_condition, MayStep, no_step, a_step, MakesStart, nothing, value, declares, MakesStmt, label, case, default, block, empty, expression, if_alone, if_else, switch_block, switch_one, while, do_while, for, goto, continue, break, return_bare, return_value, MakesItems, no_items, declaration, statement}
use Rattle.c_typing_laws.proofs.Calm.{calm}
use Rattle.c_typing_laws.proofs.Reached.{good_by, step_facts, spec_facts, value_reach, may_condition_reach, may_step_reach, start_reach, into_switch, decl_reach, stmt_reach}
use Rattle.c_typing_laws.proofs.StepSteady.{init_calm}
use Rattle.c_typing_laws.proofs.Autos.{count, auto, count_append, auto_static, auto_more, auto_literals, auto_parameters, auto_sized}
use Rattle.c_typing_laws.proofs.Plain.{plain_decl, listed_both}

-- the parameters of functions that are declared
abbrev pub params_in : List TFunctionTree → List ℕ
params_in functions = flat_map (λ f. f.params) functions

-- a function that is declared has no body yet, and no parameters where one follows
pub record IsDeclared (names : List (List ℕ)) (f : TFunctionTree) : Type 0 where
  pub bare : f.body ≡ None
  pub pending : has_name names f.name ≡ true → f.params ≡ []

-- functions are added that are declared, and automatic objects, of which so many have each number in lists
pub record Grows (names : List (List ℕ)) (w v : World) (lists : ℕ → ℕ) : Type 0 where
  pub new : List TFunctionTree
  pub functions : v.functions ≡ w.functions ++ new
  pub declared : All (IsDeclared names) new
  pub balance : (o : ℕ) → auto v.objects o ≡ auto w.objects o + lists o + count o (params_in new)

abbrev pub no_lists : ℕ → ℕ
no_lists o = 0

pub grows_then : {names : List (List ℕ)} {u v w : World} {f g : ℕ → ℕ} → Grows names u v f → Grows names v w g → Grows names u w (λ o. f o + g o)
grows_then {names} {u} {v} {w} {f} {g} p q = record {
  new = p.new ++ q.new;
  functions = q.functions ∙ ap (λ functions. functions ++ q.new) p.functions ∙ append_assoc u.functions p.new q.new;
  declared = All-append (IsDeclared names) p.new q.new p.declared q.declared;
  balance = λ o.
      let a = p.balance o in
      let b = q.balance o in
      let c = ap (count o) (flat_map-append (λ x. x.params) p.new q.new) ∙ count_append o (params_in p.new) (params_in q.new) in
      omega (arith, a, b, c);
}

-- no functions, and these lists
grows_by : (names : List (List ℕ)) (w v : World) (lists : ℕ → ℕ) → v.functions ≡ w.functions → ((o : ℕ) → auto v.objects o ≡ auto w.objects o + lists o) → Grows names w v lists
grows_by names w v lists f b = record {
  new = [];
  functions = f ∙ sym (append-nil w.functions);
  declared = All-nil (IsDeclared names);
  balance = λ o. let e = b o in omega (arith, e);
}

pub grows_same : (names : List (List ℕ)) (w v : World) → v.functions ≡ w.functions → ((o : ℕ) → auto v.objects o ≡ auto w.objects o) → Grows names w v no_lists
grows_same names w v f b = grows_by names w v no_lists f (λ o. let e = b o in omega (arith, e))

-- the same lists, counted otherwise
pub grows_as : {names : List (List ℕ)} {w v : World} {f g : ℕ → ℕ} → ((o : ℕ) → f o ≡ g o) → Grows names w v f → Grows names w v g
grows_as e p = record { new = p.new; functions = p.functions; declared = p.declared; balance = λ o. let a = p.balance o in let b = e o in omega (arith, a, b) }

-- from worlds with the same objects and functions
pub grows_between : {names : List (List ℕ)} {u v w x : World} {f : ℕ → ℕ} → v.objects ≡ u.objects → v.functions ≡ u.functions → x.objects ≡ w.objects → x.functions ≡ w.functions
    → Grows names v w f → Grows names u x f
grows_between {f = f} a b c d p = record {
  new = p.new;
  functions = d ∙ p.functions ∙ ap (λ functions. functions ++ p.new) b;
  declared = p.declared;
  balance = λ o. ap (λ objects. auto objects o) c ∙ p.balance o ∙ ap (λ objects. auto objects o + f o + count o (params_in p.new)) a;
}

pub grows_calm : (names : List (List ℕ)) (w v : World) → Reaches Constants w v → Grows names w v no_lists
grows_calm names w v r =
    let c = calm w v r in
    grows_same names w v (quiet Constants w v r).functions (λ o. ap (λ objects. auto objects o) c.objects ∙ auto_literals w.objects c.extra o c.literals)

-- ---- what is declared

-- the number of the object that is declared, if it is automatic
abbrev pub number_of : Declares → List ℕ
number_of NoObject = []
number_of (AnObject object) = if object.in_block then (if object.is_static then [] else object.number ∷ []) else []

abbrev nothing_listed : List ℕ
nothing_listed = []

if_none : (b : Bool) → (if b then nothing_listed else nothing_listed) ≡ nothing_listed
if_none true = refl
if_none false = refl

one_function : (names : List (List ℕ)) (w v : World) (f : TFunctionTree) → v.functions ≡ w.functions ++ f ∷ [] → IsDeclared names f
    → ((o : ℕ) → auto v.objects o ≡ auto w.objects o + count o (params_in (f ∷ []))) → Grows names w v no_lists
one_function names w v f e d b = record {
  new = f ∷ [];
  functions = e;
  declared = All-push (IsDeclared names) [] f (All-nil (IsDeclared names)) d;
  balance = λ o. let x = b o in omega (arith, x);
}

function_grows :
    (around : Context) (w : World) (named : DeclaredName) (later : Bool) (params : List ParameterTree) (types : List CTypeTree) (result : CTypeTree) → has_name around.functions named.name ≡ later
    → Grows around.functions w (decls.new_function w named later params types result) no_lists
function_grows around w named true params types result e =
    one_function around.functions w _ (function_tree named [] result) refl (record { bare = refl; pending = λ h. refl }) (λ o. omega arith)
function_grows around w named false params types result e =
    one_function around.functions w _ (function_tree named (numbers_from (length w.objects) (length params)) result) refl
    (record { bare = refl; pending = λ h. absurd (false≢true (sym e ∙ h)) })
    (λ o. auto_parameters w params w.objects o ∙ ap (λ l. auto w.objects o + count o l) (sym (append-nil (numbers_from (length w.objects) (length params)))))

local_grows : (around : Context) (w : World) (named : DeclaredName) (ty : CTypeTree) (c is_static : Bool) (size : ℕ)
    → Grows around.functions w (decls.local_object w named ty c is_static size) (λ o. count o (if is_static then [] else length w.objects ∷ []))
local_grows around w named ty c true size = grows_by around.functions w _ _ refl (λ o. auto_static w.objects (decls.object_of named ty c size true) o refl ∙ omega arith)
local_grows around w named ty c false size = grows_by around.functions w _ _ refl (λ o. auto_more w.objects (decls.object_of named ty c size false) o refl)

pub name_grows :
    {around : Context} {w v : World} {storage : List StorageWord} {steps : List Step} {base : Form} {has_init : Bool} {named : DeclaredName} {what : Declares}
    → MakesName around w storage steps base has_init named what v → Grows around.functions w v (λ o. count o (number_of what))
name_grows {around = around} {w = w} (type_name form d e) = grows_same around.functions w _ refl (λ o. refl)
name_grows {around = around} {w = w} (reserved y) = grows_same around.functions w _ refl (λ o. refl)
name_grows {around = around} {w = w} {named = named} (first_function types result r e n) = function_grows around w named (has_name around.functions named.name) _ types result refl
name_grows {around = around} {w = w} (function_again types result l n so) = grows_same around.functions w _ refl (λ o. refl)
name_grows {around = around} {w = w} {named = named} (local ty c s size b e h) = local_grows around w named ty c s size
name_grows {around = around} {w = w} {named = named} (local_open of c s b e h) = local_grows around w named _ false s 0
name_grows {around = around} {w = w} {named = named} (first_object form ty c m size total r e is n h s) =
    grows_as (λ o. ap (count o) (sym (if_none around.in_block))) (grows_same around.functions w _ refl (λ o. auto_static w.objects (decls.object_of named ty c size true) o refl))
name_grows {around = around} {w = w} (first_missing ty c total r n h) = grows_same around.functions w _ refl (λ o. refl)
name_grows {around = around} {w = w} (object_again form ty c m l n size total e is k q a s) =
    grows_as (λ o. ap (count o) (sym (if_none around.in_block))) (grows_same around.functions w _ refl (λ o. auto_sized w n _ size o))
name_grows {around = around} {w = w} (missing_again ty before c l size total d k q) = grows_same around.functions w _ refl (λ o. refl)

-- ---- declarations

size_grows : {names : List (List ℕ)} {w v : World} {object : ObjectNow} {by : Initialised} {ty : CTypeTree} → MakesSize w object by ty v → Grows names w v no_lists
size_grows {names = names} {w = w} (as_it_was m) = grows_same names w w refl (λ o. refl)
size_grows {names = names} {w = w} {object = object} (by_count m c t) = grows_same names w _ refl (λ o. auto_sized w object.number _ _ o)

static_grows : (names : List (List ℕ)) (w : World) (object : ObjectNow) (ty : CTypeTree) (by : Initialised) → Grows names w (decls.with_static w object ty by) no_lists
static_grows names w object ty by = at object.is_static
  where
    at : (b : Bool) → Grows names w (if b then with_initial w object.number (static_bytes w.objects (decls.size_or_zero w ty) by.items) else w) no_lists
    at true = grows_same names w _ refl (λ o. refl)
    at false = grows_same names w w refl (λ o. refl)

init_grows : {names : List (List ℕ)} {w v : World} {what : Declares} {init : Option InitTree} {made : Made} → Good w → MakesInit w what init made v → Grows names w v no_lists
init_grows {names = names} {w = w} good no_object = grows_same names w w refl (λ o. refl)
init_grows {names = names} {w = w} good bare = grows_same names w w refl (λ o. refl)
init_grows {names = names} {w = w} good (given {u = u} {v = v} {object = object} {init = init} {by = by} {ty = ty} t s) =
    grows_then (grows_calm names w u (init_calm object init by good t)) (grows_then (size_grows s) (static_grows names v object ty by))

made_objects : (object : ObjectNow) (items : List TInitTree) (rest : Bool) → (made_of object items rest).objects ≡ number_of (AnObject object)
made_objects object items rest = by object.in_block object.is_static
  where
    by : (b s : Bool) → (if b then (if s then static_made object else automatic object items rest) else nothing_made).objects ≡ (if b then (if s then [] else object.number ∷ []) else [])
    by true true = refl
    by true false = refl
    by false s = refl

pub init_objects : {w v : World} {what : Declares} {init : Option InitTree} {made : Made} → MakesInit w what init made v → made.objects ≡ number_of what
init_objects no_object = refl
init_objects (bare {object = object}) = made_objects object [] false
init_objects (given {object = object} {by = by} t s) = made_objects object by.items by.zeroes_rest

-- so many more in the lists than before
pub record GrowsFrom (names : List (List ℕ)) (w v : World) (before after : ℕ → ℕ) : Type 0 where
  pub lists : ℕ → ℕ
  pub grows : Grows names w v lists
  pub more : (o : ℕ) → after o ≡ before o + lists o

declarators_grow :
    {around : Context} {first : Pos} {storage : List StorageWord} {base : Form} {w v : World} {done made : Made} {items : List InitDeclaratorTree}
    → Good w → IsFormedForm w.structs base → MakesDeclarators around first storage base w done items made v → GrowsFrom around.functions w v (λ o. count o done.objects) (λ o. count o made.objects)
declarators_grow {around = around} {w = w} good f steps.none = record { lists = no_lists; grows = grows_same around.functions w w refl (λ o. refl); more = λ o. omega arith }
declarators_grow {around = around} good f (one_more {w = w} {u = u} {v = v} {x = x} {done = done} {made = made} {what = what} t e n m r) =
    let facts = step_facts good f t in
    let rest = declarators_grow facts.last facts.last_formed r in
    let here = grows_then (grows_calm around.functions w u facts.calm) (grows_then (name_grows n) (init_grows facts.declared m)) in record {
      lists = λ o. no_lists o + (count o (number_of what) + no_lists o) + rest.lists o;
      grows = grows_then here rest.grows;
      more = λ o.
          let a = rest.more o in
          let b = count_append o done.objects made.objects in
          let c = ap (count o) (init_objects m) in
          omega (arith, a, b, c);
    }

pub decl_grows : {w v : World} {around : Context} {decl : DeclTree} {made : Made} → Good w → MakesDecl w around decl made v → Grows around.functions w v (λ o. count o made.objects)
decl_grows {w = w} {around = around} good d =
    let facts = spec_facts good d in
    let rest = declarators_grow facts.good facts.formed d.rest in
    grows_as (λ o. let a = rest.more o in omega (arith, a)) (grows_then (grows_calm around.functions w d.behind facts.calm) rest.grows)

-- ---- statements

value_grows : {names : List (List ℕ)} {w v : World} {e : written.ExprTree} {x : TExprTree} → Good w → IsValue w e x v → Grows names w v no_lists
value_grows {names = names} {w = w} {v = v} good p = grows_calm names w v (value_reach good p)

may_condition_grows : {names : List (List ℕ)} {w v : World} {e : Option written.ExprTree} {x : Option TExprTree} → Good w → MayCondition w e x v → Grows names w v no_lists
may_condition_grows {names = names} {w = w} good no_condition = grows_same names w w refl (λ o. refl)
may_condition_grows good (a_condition p) = value_grows good p.value

may_step_grows : {names : List (List ℕ)} {w v : World} {e : Option written.ExprTree} {x : Option TExprTree} → Good w → MayStep w e x v → Grows names w v no_lists
may_step_grows {names = names} {w = w} good no_step = grows_same names w w refl (λ o. refl)
may_step_grows good (a_step p) = value_grows good p

-- ---- worlds that differ in their scopes

recast :
    {names : List (List ℕ)} (u v w x : World) {f : ℕ → ℕ} → v.objects ≡ u.objects → v.functions ≡ u.functions → x.objects ≡ w.objects → x.functions ≡ w.functions
    → Grows names v w f → Grows names u x f
recast u v w x a b c d p = grows_between {u = u} {v = v} {w = w} {x = x} a b c d p

-- a part, and one with lists behind it
behind : {names : List (List ℕ)} {u v w : World} {f : ℕ → ℕ} → Grows names u v no_lists → Grows names v w f → Grows names u w f
behind p q = grows_as (λ o. omega arith) (grows_then p q)

-- ---- lists in statements

one_lists : (s : TStmtTree) (o : ℕ) → count o (listed_in (one s)) ≡ count o (listed_of s)
unfolding listed_of listed_in
one_lists s o = ap (count o) (append-nil (listed_of s))

block_lists : (at : Pos) (kind : BlockKind) (objects : List ℕ) (items : TStmtTrees) (o : ℕ) → count o (listed_of (Block at kind objects items)) ≡ count o objects + count o (listed_in items)
unfolding listed_of listed_in
block_lists at kind objects items o = count_append o objects (listed_in items)

switch_lists : (at : Pos) (x : TExprTree) (kind : BlockKind) (objects : List ℕ) (items : TStmtTrees) (o : ℕ)
    → count o (listed_of (Switch at x kind objects items)) ≡ count o objects + count o (listed_in items)
unfolding listed_of listed_in
switch_lists at x kind objects items o = count_append o objects (listed_in items)

if_lists : (at : Pos) (x : TExprTree) (a b : TStmtTree) (o : ℕ) → count o (listed_of (If at x a b)) ≡ count o (listed_of a) + count o (listed_of b)
unfolding listed_of listed_in
if_lists at x a b o = count_append o (listed_of a) (listed_of b)

while_lists : (at : Pos) (x : TExprTree) (a : TStmtTree) (o : ℕ) → count o (listed_of (While at x a)) ≡ count o (listed_of a)
unfolding listed_of listed_in
while_lists at x a o = refl

do_lists : (at : Pos) (x : TExprTree) (a : TStmtTree) (o : ℕ) → count o (listed_of (DoWhile at a x)) ≡ count o (listed_of a)
unfolding listed_of listed_in
do_lists at x a o = refl

for_lists : (at : Pos) (objects : List ℕ) (head : TStmtTrees) (test next : Option TExprTree) (body : TStmtTree) (o : ℕ) → listed_in head ≡ []
    → count o (listed_of (For at objects head test next body)) ≡ count o objects + count o (listed_of body)
unfolding listed_of listed_in
for_lists at objects head test next body o e =
    ap (λ l. count o (objects ++ l ++ listed_of body)) e ∙ ap (λ l. count o (l ++ listed_of body)) (append-nil objects) ∙ count_append o objects (listed_of body)

-- a substatement is a block that lists nothing
sub_lists : (at : Pos) (kind : BlockKind) (items : TStmtTrees) (o : ℕ) → count o (listed_of (Block at kind [] items)) ≡ count o (listed_in items)
sub_lists at kind items o = block_lists at kind [] items o ∙ omega arith

none_listed : (o : ℕ) → count o (listed_in none) ≡ 0
unfolding listed_of listed_in
none_listed o = refl

-- what a for begins with

start_grows : {w v : World} {around : Context} {s : ForStartTree} {made : Made} → Good w → MakesStart w around s made v → Grows around.functions w v (λ o. count o made.objects)
start_grows {w = w} {around = around} good nothing = grows_same around.functions w w refl (λ o. refl)
start_grows good (value p) = value_grows good p
start_grows good (declares d) = decl_grows good d

start_lists : {w v : World} {around : Context} {s : ForStartTree} {made : Made} → MakesStart w around s made v → listed_in made.items ≡ []
unfolding listed_of listed_in
start_lists nothing = refl
start_lists (value p) = refl
start_lists (declares d) = (plain_decl d).lists

-- a statement that lists nothing
quiet_grows : {names : List (List ℕ)} {w v : World} (s : TStmtTree) → ((o : ℕ) → count o (listed_of s) ≡ 0) → Grows names w v no_lists → Grows names w v (λ o. count o (listed_in (one s)))
quiet_grows s e p = grows_as (λ o. sym (one_lists s o ∙ e o)) p

-- an inner statement, as the one that it stands in
inner_grows : {names : List (List ℕ)} {w v : World} (s : TStmtTree) {f : ℕ → ℕ} → ((o : ℕ) → count o (listed_of s) ≡ f o) → Grows names w v f → Grows names w v (λ o. count o (listed_in (one s)))
inner_grows s e p = grows_as (λ o. sym (one_lists s o ∙ e o)) p

-- the items of a block, as what they list
made_grows :
    {names : List (List ℕ)} {w v : World} (made : Made) → GrowsFrom names w v (λ o. count o nothing_made.objects + count o (listed_in nothing_made.items)) (λ o. count o made.objects + count o (listed_in made.items))
    → Grows names w v (λ o. count o made.objects + count o (listed_in made.items))
made_grows made p = grows_as (λ o. let a = p.more o in let b = none_listed o in omega (arith, a, b)) p.grows

mutual
  unfolding listed_of listed_in

  pub stmt_grows : {w v : World} {around : Context} {s : StmtTree} {items : TStmtTrees} → Good w → MakesStmt w around s items v → Grows around.functions w v (λ o. count o (listed_in items))
  stmt_grows {w = w} {v = v} good (label p) = recast w _ v v refl refl refl refl (stmt_grows (good_by good (reaches.labelled w _)) p)
  stmt_grows {w = w} {v = v} good (case {u = u} t n p e d q) =
      let r = value_reach good p in
      behind (value_grows good p) (recast u _ v v refl refl refl refl (stmt_grows (good_by good (reaches.after _ _ _ r (reaches.cased u _ u.default))) q))
  stmt_grows {w = w} {v = v} good (default {at = at} t e d p) = recast w _ v v refl refl refl refl (stmt_grows (good_by good (reaches.cased w w.cases (Some at))) p)
  stmt_grows {w = w} good (block {v = v} {at = at} {made = made} p) =
      inner_grows (Block at kinds.Written made.objects made.items) (block_lists at kinds.Written made.objects made.items) (recast w (opened w) v _ refl refl refl refl (made_grows made (items_grow (enters good) p)))
  stmt_grows {w = w} {around = around} good (empty {at = at}) = quiet_grows (Empty at) (λ o. refl) (grows_same around.functions w w refl (λ o. refl))
  stmt_grows good (expression {at = at} {x = x} p) = quiet_grows (Expr at (not_used x)) (λ o. refl) (value_grows good p)
  stmt_grows {w = w} good (if_alone {u = u} {v = v} {at = at} {first = first} {x = x} {items = items} p q) =
      let good2 = good_by (enters good) (value_reach {may = Any} (enters good) p.value) in
      inner_grows (If at x (Block (stmt_pos first) kinds.Added [] items) (no_else at)) (λ o. if_lists at x (Block (stmt_pos first) kinds.Added [] items) (no_else at) o ∙ ap (λ n. n + count o (listed_of (no_else at))) (sub_lists (stmt_pos first) kinds.Added items o) ∙ omega arith)
      (recast w (opened w) (closed u v) _ refl refl refl refl
      (behind (value_grows (enters good) p.value) (recast u (opened u) v (closed u v) refl refl refl refl (stmt_grows (enters good2) q))))
  stmt_grows {w = w} good (if_else {u = u} {v = v} {x = x} {at = at} {first = first} {second = second} {test = test} {items = items} {others = others} p q s) =
      let good2 = good_by (enters good) (value_reach {may = Any} (enters good) p.value) in
      let good3 = good_by {may = Any} good2 (reaches.scoped u v (stmt_reach (enters good2) q)) in
      inner_grows (If at test (Block (stmt_pos first) kinds.Added [] items) (Block (stmt_pos second) kinds.Added [] others)) (λ o. if_lists at test (Block (stmt_pos first) kinds.Added [] items) (Block (stmt_pos second) kinds.Added [] others) o
      ∙ ap (λ n. n + count o (listed_of (Block (stmt_pos second) kinds.Added [] others))) (sub_lists (stmt_pos first) kinds.Added items o)
      ∙ ap (λ n. count o (listed_in items) + n) (sub_lists (stmt_pos second) kinds.Added others o))
      (recast w (opened w) (closed (closed u v) x) _ refl refl refl refl
      (behind (value_grows (enters good) p.value)
      (grows_then (recast u (opened u) v (closed u v) refl refl refl refl (stmt_grows (enters good2) q))
      (recast (closed u v) (opened (closed u v)) x (closed (closed u v) x) refl refl refl refl (stmt_grows (enters good3) s)))))
  stmt_grows {w = w} good (switch_block {u = u} {v = v} {at = at} {s = s} {made = made} p q) =
      let r = reaches.after _ _ _ (value_reach (enters good) p.value) (reaches.cased u [] None) in
      inner_grows (Switch at s.value kinds.Written made.objects made.items) (switch_lists at s.value kinds.Written made.objects made.items)
      (recast w (opened w) v _ refl refl refl refl
      (behind (value_grows (enters good) p.value) (recast u (opened (without_cases u)) v v refl refl refl refl (made_grows made (items_grow (enters (good_by (enters good) r)) q)))))
  stmt_grows {w = w} good (switch_one {u = u} {v = v} {at = at} {s = s} {items = items} p q) =
      inner_grows (Switch at s.value kinds.Added [] items) (λ o. switch_lists at s.value kinds.Added [] items o ∙ omega arith)
      (recast w (opened w) v _ refl refl refl refl
      (behind (value_grows (enters good) p.value) (recast u (opened (without_cases u)) v v refl refl refl refl (stmt_grows (good_by (enters good) (into_switch (enters good) p)) q))))
  stmt_grows {w = w} good (while {u = u} {v = v} {at = at} {body = body} {x = x} {items = items} p q) =
      let good2 = good_by (enters good) (value_reach {may = Any} (enters good) p.value) in
      inner_grows (While at x (Block (stmt_pos body) kinds.Added [] items)) (λ o. while_lists at x (Block (stmt_pos body) kinds.Added [] items) o ∙ sub_lists (stmt_pos body) kinds.Added items o)
      (recast w (opened w) (closed u v) _ refl refl refl refl
      (behind (value_grows (enters good) p.value) (recast u (opened u) v (closed u v) refl refl refl refl (stmt_grows (enters good2) q))))
  stmt_grows {w = w} good (do_while {u = u} {v = v} {at = at} {body = body} {x = x} {items = items} q p) =
      let good2 = good_by {may = Any} (enters good) (reaches.scoped (opened w) u (stmt_reach (enters (enters good)) q)) in
      inner_grows (DoWhile at (Block (stmt_pos body) kinds.Added [] items) x) (λ o. do_lists at x (Block (stmt_pos body) kinds.Added [] items) o ∙ sub_lists (stmt_pos body) kinds.Added items o)
      (recast w (opened w) v _ refl refl refl refl
      (grows_as (λ o. omega arith) (grows_then (recast (opened w) (opened (opened w)) u (closed (opened w) u) refl refl refl refl (stmt_grows (enters (enters good)) q)) (value_grows good2 p.value))))
  stmt_grows {w = w} good (for {u = u} {v = v} {x = x} {y = y} {at = at} {body = body} {head = head} {test = test} {next = next} {items = items} s c n q) =
      let r = start_reach (enters good) s in
      let good2 = good_by (enters good) r in
      let good3 = good_by good2 (may_condition_reach {may = Any} good2 c) in
      let good4 = good_by good3 (may_step_reach {may = Any} good3 n) in
      inner_grows (For at head.objects head.items test next (Block (stmt_pos body) kinds.Added [] items)) (λ o. for_lists at head.objects head.items test next (Block (stmt_pos body) kinds.Added [] items) o (start_lists s) ∙ ap (λ m. count o head.objects + m) (sub_lists (stmt_pos body) kinds.Added items o))
      (recast w (opened w) (closed x y) _ refl refl refl refl
      (grows_then (start_grows (enters good) s) (behind (may_condition_grows good2 c) (behind (may_step_grows good3 n)
      (recast x (opened x) y (closed x y) refl refl refl refl (stmt_grows (enters good4) q))))))
  stmt_grows {w = w} {around = around} good (goto {at = at} {n = n} e) = quiet_grows (Goto at n) (λ o. refl) (grows_same around.functions w w refl (λ o. refl))
  stmt_grows {w = w} {around = around} good (continue {at = at} e) = quiet_grows (Continue at) (λ o. refl) (grows_same around.functions w w refl (λ o. refl))
  stmt_grows {w = w} {around = around} good (break {at = at} e) = quiet_grows (Break at) (λ o. refl) (grows_same around.functions w w refl (λ o. refl))
  stmt_grows {w = w} {around = around} good (return_bare {at = at} e) = quiet_grows (Return at None) (λ o. refl) (grows_same around.functions w w refl (λ o. refl))
  stmt_grows good (return_value {at = at} {y = y} p q) = quiet_grows (Return at (Some y)) (λ o. refl) (value_grows good p)

  pub items_grow : {w v : World} {around : Context} {done made : Made} {items : BlockItemTrees} → Good w → MakesItems w around done items made v
      → GrowsFrom around.functions w v (λ o. count o done.objects + count o (listed_in done.items)) (λ o. count o made.objects + count o (listed_in made.items))
  items_grow {w = w} {around = around} good no_items = record { lists = no_lists; grows = grows_same around.functions w w refl (λ o. refl); more = λ o. omega arith }
  items_grow good (declaration {done = done} {made = made} d p) =
      let rest = items_grow (good_by good (decl_reach good d)) p in record {
        lists = λ o. count o made.objects + rest.lists o;
        grows = grows_then (decl_grows good d) rest.grows;
        more = λ o.
            let a = rest.more o in
            let b = count_append o done.objects made.objects in
            let c = ap (count o) (listed_both done.items made.items ∙ ap (λ l. listed_in done.items ++ l) (plain_decl d).lists ∙ append-nil (listed_in done.items)) in
            omega (arith, a, b, c);
      }
  items_grow good (statement {done = done} {items = items} q p) =
      let rest = items_grow (good_by good (stmt_reach good q)) p in record {
        lists = λ o. count o (listed_in items) + rest.lists o;
        grows = grows_then (stmt_grows good q) rest.grows;
        more = λ o.
            let a = rest.more o in
            let b = ap (count o) (append-nil done.objects) in
            let c = ap (count o) (listed_both done.items items) ∙ count_append o (listed_in done.items) (listed_in items) in
            omega (arith, a, b, c);
      }
