-- What holds of each world inside a body.
use Rattle.std.proofs.Common.{◌≡◌, ℕ, List, [], refl}
use Rattle.std.specs.Prelude.{Option}
use Rattle.c_syntax_written.specs.declared.place.Pos.{Pos}
use Rattle.c_syntax_written.specs.Written as written
use Rattle.c_syntax_written.specs.WrittenDecl.{DeclTree}
use Rattle.c_syntax_written.specs.WrittenFile.{ForStartTree, StmtTree}
use Rattle.c_syntax.specs.TypedExpr.{TExprTree}
use Rattle.c_syntax.specs.TypedStmt.{TStmtTrees}
use Rattle.c_typing.specs.World.{World, CaseAt}
use Rattle.c_typing.specs.Names.{opened, closed}
use Rattle.c_typing.specs.Context.{Context}
use Rattle.c_typing.specs.Decls.{Made}
use Rattle.c_typing.proofs.Changes.{Any}
use Rattle.c_typing.proofs.Good.{Good}
use Rattle.c_typing.proofs.Reaches as reaches
use Rattle.c_typing.proofs.Reaches.{Reaches, enters}
use Rattle.c_typing_laws.specs.StmtSteps.{IsValue, MayCondition, MayStep, MakesStart, MakesStmt, with_label}
use Rattle.c_typing_laws.specs.DeclSteps.{MakesDecl}
use Rattle.c_typing_laws.proofs.Reached.{good_by, value_reach, may_condition_reach, may_step_reach, start_reach, decl_reach, stmt_reach}
use Rattle.c_typing_laws.proofs.Keeps.{Both, IsKept, the_same, over, shut_names, value_keeps, condition_keeps, step_keeps, start_keeps, decl_keeps, stmt_keeps}
use Rattle.c_typing_laws.proofs.Objects.{ObjectsIn, objects_kept}
use Rattle.c_typing_laws.proofs.Onward.{ArePaired, paired}
use Rattle.c_typing_laws.proofs.Entities.{AreEntities, entities_kept}

-- the objects have types, and what names of the file are linked to is there
pub record Holds (w : World) : Type 0 where
  pub objects : ObjectsIn w
  pub links : AreEntities w

pub holds_kept : (functions objects : List (List ℕ)) → IsKept functions objects Holds
holds_kept functions objects =
    let k = objects_kept functions objects in
    let m = entities_kept functions objects in record {
      calm = λ w v good r p. record { objects = k.calm w v good r p.objects; links = m.calm w v good r p.links };
      declared = λ around w v x storage steps base has_init named what init made f o h good s b t z n good2 is i r q p. record {
        objects = k.declared around w v x storage steps base has_init named what init made f o h good s b t z n good2 is i r q p.objects;
        links = m.declared around w v x storage steps base has_init named what init made f o h good s b t z n good2 is i r q p.links;
      };
      moved = λ w v same p. record { objects = k.moved w v same p.objects; links = m.moved w v same p.links };
    }

pub record State (w : World) : Type 0 where
  pub good : Good w
  pub pair : ArePaired w
  pub both : Both Holds w

-- the functions and the objects that the file defines stay the same round all parts of it
pub record Names (around : Context) (functions objects : List (List ℕ)) : Type 0 where
  pub functions_are : around.functions ≡ functions
  pub objects_are : around.objects ≡ objects

state_reached : {w v : World} → State w → Reaches Any w v → Both Holds v → State v
state_reached {w} {v} s r b = record { good = good_by s.good r; pair = paired w v r s.pair; both = b }

pub state_value : {w v : World} {e : written.ExprTree} {x : TExprTree} → State w → IsValue w e x v → State v
state_value s q = state_reached s (value_reach s.good q) (value_keeps (holds_kept [] []) s.good q s.both)

pub state_condition : {w v : World} {e : Option written.ExprTree} {x : Option TExprTree} → State w → MayCondition w e x v → State v
state_condition s q = state_reached s (may_condition_reach s.good q) (condition_keeps (holds_kept [] []) s.good q s.both)

pub state_step : {w v : World} {e : Option written.ExprTree} {x : Option TExprTree} → State w → MayStep w e x v → State v
state_step s q = state_reached s (may_step_reach s.good q) (step_keeps (holds_kept [] []) s.good q s.both)

pub state_start : {w v : World} {around : Context} {t : ForStartTree} {made : Made} → State w → MakesStart w around t made v → State v
state_start {around = around} s q = state_reached s (start_reach s.good q) (start_keeps (holds_kept around.functions around.objects) refl refl s.good q s.both)

pub state_decl : {w v : World} {around : Context} {decl : DeclTree} {made : Made} → State w → MakesDecl w around decl made v → State v
state_decl {around = around} s q = state_reached s (decl_reach s.good q) (decl_keeps (holds_kept around.functions around.objects) refl refl s.good q s.both)

pub state_stmt : {w v : World} {around : Context} {t : StmtTree} {items : TStmtTrees} → State w → MakesStmt w around t items v → State v
state_stmt {around = around} s q = state_reached s (stmt_reach s.good q) (stmt_keeps (holds_kept around.functions around.objects) refl refl s.good q s.both)

-- with other labels, cases and scopes

pub state_labelled : {w : World} (at : Pos) (name : List ℕ) → State w → State (with_label w at name)
state_labelled {w} at name s =
    state_reached s (reaches.labelled w _) (over (holds_kept [] []) w _ (the_same w _ refl refl refl refl refl refl) (λ all. all) s.both)

pub state_cased : {w : World} (cases : List CaseAt) (default : Option Pos) → State w → State (record w { cases = cases; default = default })
state_cased {w} cases default s =
    state_reached s (reaches.cased w cases default) (over (holds_kept [] []) w _ (the_same w _ refl refl refl refl refl refl) (λ all. all) s.both)

pub state_opened : {w : World} → State w → State (opened w)
state_opened {w} s = state_reached s (reaches.opens w) (over (holds_kept [] []) w _ (the_same w _ refl refl refl refl refl refl) (λ all. all) s.both)

-- behind a scope
pub state_closed : {w v : World} → State w → Reaches Any (opened w) v → State v → State (closed w v)
state_closed {w} {v} s r t =
    state_reached s (reaches.scoped w v r) (over (holds_kept [] []) v _ (the_same v _ refl refl refl refl refl refl) (λ all. shut_names w v all) t.both)
