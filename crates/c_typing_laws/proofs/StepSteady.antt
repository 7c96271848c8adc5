-- A declaration leaves labels and cases as they are.
use Rattle.std.proofs.Common.{◌≡◌, refl, ◌∙◌}
use Rattle.std.specs.Prelude.{Bool, true, false, if◌then◌else◌, Option, List}
use Rattle.c_syntax_written.specs.declared.written.StorageWord.{StorageWord}
use Rattle.c_syntax_written.specs.Written as written
use Rattle.c_syntax_written.specs.WrittenDecl.{InitTree, InitDeclaratorTree, DeclTree}
use Rattle.c_syntax_written.specs.declared.place.Pos.{Pos}
use Rattle.c_syntax.specs.Types.{CTypeTree}
use Rattle.c_syntax.specs.TypedExpr.{TExprTree}
use Rattle.c_typing.specs.World.{World, Form, Typed}
use Rattle.c_typing.specs.Names.{with_initial}
use Rattle.c_typing.specs.Declarators.{DeclaredName, ParameterTree, Step}
use Rattle.c_typing.specs.Formed.{IsFormedForm}
use Rattle.c_typing.specs.Inits.{Initialised, TypesInit, static_bytes}
use Rattle.c_typing.specs.Context.{Context, has_name}
use Rattle.c_typing.specs.Decls as decls
use Rattle.c_typing.specs.Decls.{Declares, ObjectNow, Made, frame_for}
use Rattle.c_typing.proofs.Changes.{Constants}
use Rattle.c_typing.proofs.Good.{Good}
use Rattle.c_typing.proofs.Reaches.{Reaches}
use Rattle.c_typing.proofs.DeclsGo as decls_go
use Rattle.c_typing_laws.specs.NameSteps.{MakesName, type_name, reserved, first_function, function_again, local, local_open, first_object, first_missing, object_again, missing_again}
use Rattle.c_typing_laws.specs.DeclSteps.{MakesSize, as_it_was, by_count, MakesInit, no_object, bare, given, MakesDeclarators, none, one_more, MakesDecl}
use Rattle.c_typing_laws.specs.StmtSteps.{IsValue, MayCondition, no_condition, a_condition, MayStep, no_step, a_step}
use Rattle.c_typing_laws.proofs.Calm.{calm}
use Rattle.c_typing_laws.proofs.Reached.{reached, step_facts, spec_facts, value_reach}

pub record Steady (w v : World) : Type 0 where
  pub labels : v.labels ≡ w.labels
  pub cases : v.cases ≡ w.cases
  pub default : v.default ≡ w.default

pub steady_then : {u v w : World} → Steady u v → Steady v w → Steady u w
steady_then f g = record { labels = g.labels ∙ f.labels; cases = g.cases ∙ f.cases; default = g.default ∙ f.default }

pub still : {w : World} → Steady w w
still = record { labels = refl; cases = refl; default = refl }

pub calm_steady : {w v : World} → Reaches Constants w v → Steady w v
calm_steady {w = w} {v = v} r = let c = calm w v r in record { labels = c.labels; cases = c.cases; default = c.default }

-- ---- declarations

function_steady : (w : World) (named : DeclaredName) (later : Bool) (params : List ParameterTree) (types : List CTypeTree) (result : CTypeTree)
    → Steady w (decls.new_function w named later params types result)
function_steady w named true params types result = record { labels = refl; cases = refl; default = refl }
function_steady w named false params types result = record { labels = refl; cases = refl; default = refl }

pub name_steady :
    {around : Context} {w v : World} {storage : List StorageWord} {steps : List Step} {base : Form} {has_init : Bool} {named : DeclaredName} {what : Declares}
    → MakesName around w storage steps base has_init named what v → Steady w v
name_steady (type_name form d e) = record { labels = refl; cases = refl; default = refl }
name_steady (reserved y) = record { labels = refl; cases = refl; default = refl }
name_steady {around = around} {w = w} {named = named} (first_function types result r e n) = function_steady w named (has_name around.functions named.name) _ types result
name_steady (function_again types result l n so) = record { labels = refl; cases = refl; default = refl }
name_steady (local ty c s size b e h) = record { labels = refl; cases = refl; default = refl }
name_steady (local_open of c s b e h) = record { labels = refl; cases = refl; default = refl }
name_steady (first_object form ty c m size total r e is n h s) = record { labels = refl; cases = refl; default = refl }
name_steady (first_missing ty c total r n h) = record { labels = refl; cases = refl; default = refl }
name_steady (object_again form ty c m l n size total e is k q a s) = record { labels = refl; cases = refl; default = refl }
name_steady (missing_again ty before c l size total d k q) = record { labels = refl; cases = refl; default = refl }

size_steady : {w v : World} {object : ObjectNow} {by : Initialised} {ty : CTypeTree} → MakesSize w object by ty v → Steady w v
size_steady (as_it_was m) = still
size_steady (by_count m c t) = record { labels = refl; cases = refl; default = refl }

static_steady : (w : World) (object : ObjectNow) (ty : CTypeTree) (by : Initialised) → Steady w (decls.with_static w object ty by)
static_steady w object ty by = at object.is_static
  where
    at : (b : Bool) → Steady w (if b then with_initial w object.number (static_bytes w.objects (decls.size_or_zero w ty) by.items) else w)
    at true = record { labels = refl; cases = refl; default = refl }
    at false = still

-- an initialiser changes no more than an expression does
pub init_calm : {w u : World} (object : ObjectNow) (init : InitTree) (by : Initialised) → Good w → TypesInit w object.is_static object.ty (frame_for w object) init (Typed by u) → Reaches Constants w u
init_calm {w} {u} object init by good t =
    reached (decls_go.init {may = Constants} w object.is_static object.ty (frame_for w object) init good (Typed by u) t)

pub init_steady : {w v : World} {what : Declares} {init : Option InitTree} {made : Made} → Good w → MakesInit w what init made v → Steady w v
init_steady good no_object = still
init_steady good bare = still
init_steady good (given {v = v} {object = object} {init = init} {by = by} {ty = ty} t s) = steady_then (calm_steady (init_calm object init by good t)) (steady_then (size_steady s) (static_steady v object ty by))

declarators_steady :
    {around : Context} {first : Pos} {storage : List StorageWord} {base : Form} {w v : World} {done made : Made} {items : List InitDeclaratorTree}
    → Good w → IsFormedForm w.structs base → MakesDeclarators around first storage base w done items made v → Steady w v
declarators_steady good f none = still
declarators_steady good f (one_more t e n m r) =
    let facts = step_facts good f t in
    steady_then (calm_steady facts.calm) (steady_then (name_steady n) (steady_then (init_steady facts.declared m) (declarators_steady facts.last facts.last_formed r)))

pub decl_steady : {w v : World} {around : Context} {decl : DeclTree} {made : Made} → Good w → MakesDecl w around decl made v → Steady w v
decl_steady good d = let facts = spec_facts good d in steady_then (calm_steady facts.calm) (declarators_steady facts.good facts.formed d.rest)

pub value_steady : {w v : World} {e : written.ExprTree} {x : TExprTree} → Good w → IsValue w e x v → Steady w v
value_steady good p = calm_steady (value_reach good p)

pub may_condition_steady : {w v : World} {e : Option written.ExprTree} {x : Option TExprTree} → Good w → MayCondition w e x v → Steady w v
may_condition_steady good no_condition = still
may_condition_steady good (a_condition p) = value_steady good p.value

pub may_step_steady : {w v : World} {e : Option written.ExprTree} {x : Option TExprTree} → Good w → MayStep w e x v → Steady w v
may_step_steady good no_step = still
may_step_steady good (a_step p) = value_steady good p
