-- Expressions that are tested, and copied from, as their value tells.
use Rattle.std.proofs.Common.{◌≡◌, ℕ, refl}
use Rattle.std.specs.declared.boxed.Box.{Box}
use Rattle.std.specs.declared.alloc.Global.{Global}
use Rattle.c_syntax_written.specs.declared.place.Pos.{Pos}
use Rattle.c_syntax.specs.declared.operator.Extent.{Extent}
use Rattle.c_syntax.specs.declared.operator.TUnaryOp.{TUnaryOp}
use Rattle.c_syntax.specs.declared.operator.TUnaryOp.TheVariants as unaries
use Rattle.c_syntax.specs.declared.types.CType.{CType}
use Rattle.c_syntax.specs.declared.typed.TExpr.{TExpr}
use Rattle.c_syntax.specs.declared.typed.TExpr.TheVariants as codes
use Rattle.c_syntax.specs.declared.typed.TLvalue.{TLvalue}
use Rattle.c_syntax.specs.TypedExpr as c
use Rattle.c_syntax.specs.TypedExpr.{TExprTree, texpr_tree}
use Rattle.c_syntax.specs.Program.{TProgramTree}
use Rattle.lower_trees.specs.LowerExpr.{lower_expr}
use Rattle.lower_nodes.specs.declared.steps.Leave.{Leave}
use Rattle.lower_nodes.specs.declared.steps.Leave.TheVariants as leaves
use Rattle.lower_nodes.specs.Parts.{test_of, value_test}
use Rattle.lower_nodes.specs.Tested.{IsCopiedByValue, IsTestedByValue, tested_type}

pub source_by_value : (p : TProgramTree) (d : ℕ) (e : TExprTree) → IsCopiedByValue e → (size align : ℕ)
    → (lower_expr p d e).source size align ≡ (lower_expr p d e).value
source_by_value p d (c.Const at t n) h size align = refl
source_by_value p d (c.Null at ty) h size align = refl
source_by_value p d (c.Load at place) h size align = refl
source_by_value p d (c.AddressOf at place) h size align = refl
source_by_value p d (c.Decay at place) h size align = refl
source_by_value p d (c.Whole at place) h size align = elim h [ ]
source_by_value p d (c.Unary at (unaries.Plus t) a) h size align = refl
source_by_value p d (c.Unary at (unaries.Minus t) a) h size align = refl
source_by_value p d (c.Unary at (unaries.Complement t) a) h size align = refl
source_by_value p d (c.Unary at unaries.Not a) h size align = refl
source_by_value p d (c.Binary at op a b) h size align = refl
source_by_value p d (c.Convert at ty a) h size align = refl
source_by_value p d (c.Assign at place a) h size align = refl
source_by_value p d (c.AssignStruct at extent place a) h size align = elim h [ ]
source_by_value p d (c.Compound at op place a) h size align = refl
source_by_value p d (c.Step at time way stride place) h size align = refl
source_by_value p d (c.And at a b) h size align = refl
source_by_value p d (c.Or at a b) h size align = refl
source_by_value p d (c.Cond at ty t a b) h size align = elim h [ ]
source_by_value p d (c.Comma at a b) h size align = elim h [ ]
source_by_value p d (c.Call at f ty used args) h size align = refl
source_by_value p d (c.Any at t) h size align = refl
source_by_value p d (c.Assume at a) h size align = refl
source_by_value p d (c.Assert at a) h size align = refl

unless_by_value : (p : TProgramTree) (d : ℕ) (e : TExprTree) → IsTestedByValue e → (at : Pos) (k : ℕ)
    → (lower_expr p d e).unless at k ≡ value_test leaves.IfFalse (tested_type e) (lower_expr p d e).value at k
unless_by_value p d (c.Const at t n) h from k = refl
unless_by_value p d (c.Null at ty) h from k = refl
unless_by_value p d (c.Load at place) h from k = refl
unless_by_value p d (c.AddressOf at place) h from k = refl
unless_by_value p d (c.Decay at place) h from k = refl
unless_by_value p d (c.Whole at place) h from k = refl
unless_by_value p d (c.Unary at (unaries.Plus t) a) h from k = refl
unless_by_value p d (c.Unary at (unaries.Minus t) a) h from k = refl
unless_by_value p d (c.Unary at (unaries.Complement t) a) h from k = refl
unless_by_value p d (c.Unary at unaries.Not a) h from k = elim h [ ]
unless_by_value p d (c.Binary at op a b) h from k = refl
unless_by_value p d (c.Convert at ty a) h from k = refl
unless_by_value p d (c.Assign at place a) h from k = refl
unless_by_value p d (c.AssignStruct at extent place a) h from k = refl
unless_by_value p d (c.Compound at op place a) h from k = refl
unless_by_value p d (c.Step at time way stride place) h from k = refl
unless_by_value p d (c.And at a b) h from k = elim h [ ]
unless_by_value p d (c.Or at a b) h from k = elim h [ ]
unless_by_value p d (c.Cond at ty t a b) h from k = refl
unless_by_value p d (c.Comma at a b) h from k = refl
unless_by_value p d (c.Call at f ty used args) h from k = refl
unless_by_value p d (c.Any at t) h from k = refl
unless_by_value p d (c.Assume at a) h from k = refl
unless_by_value p d (c.Assert at a) h from k = refl

when_by_value : (p : TProgramTree) (d : ℕ) (e : TExprTree) → IsTestedByValue e → (at : Pos) (k : ℕ)
    → (lower_expr p d e).when at k ≡ value_test leaves.IfTrue (tested_type e) (lower_expr p d e).value at k
when_by_value p d (c.Const at t n) h from k = refl
when_by_value p d (c.Null at ty) h from k = refl
when_by_value p d (c.Load at place) h from k = refl
when_by_value p d (c.AddressOf at place) h from k = refl
when_by_value p d (c.Decay at place) h from k = refl
when_by_value p d (c.Whole at place) h from k = refl
when_by_value p d (c.Unary at (unaries.Plus t) a) h from k = refl
when_by_value p d (c.Unary at (unaries.Minus t) a) h from k = refl
when_by_value p d (c.Unary at (unaries.Complement t) a) h from k = refl
when_by_value p d (c.Unary at unaries.Not a) h from k = elim h [ ]
when_by_value p d (c.Binary at op a b) h from k = refl
when_by_value p d (c.Convert at ty a) h from k = refl
when_by_value p d (c.Assign at place a) h from k = refl
when_by_value p d (c.AssignStruct at extent place a) h from k = refl
when_by_value p d (c.Compound at op place a) h from k = refl
when_by_value p d (c.Step at time way stride place) h from k = refl
when_by_value p d (c.And at a b) h from k = elim h [ ]
when_by_value p d (c.Or at a b) h from k = elim h [ ]
when_by_value p d (c.Cond at ty t a b) h from k = refl
when_by_value p d (c.Comma at a b) h from k = refl
when_by_value p d (c.Call at f ty used args) h from k = refl
when_by_value p d (c.Any at t) h from k = refl
when_by_value p d (c.Assume at a) h from k = refl
when_by_value p d (c.Assert at a) h from k = refl

pub test_by_value : (p : TProgramTree) (d : ℕ) (e : TExprTree) → IsTestedByValue e → (leave : Leave) (at : Pos) (k : ℕ)
    → test_of leave (lower_expr p d e) at k ≡ value_test leave (tested_type e) (lower_expr p d e).value at k
test_by_value p d e h leaves.IfFalse at k = unless_by_value p d e h at k
test_by_value p d e h leaves.IfTrue at k = when_by_value p d e h at k

-- what is none of the other variants is tested, and copied from, by its value
pub tested_by_value : (e : TExpr)
    → ((at : Pos) (op : TUnaryOp) (operand : Box TExpr Global) → e ≡ codes.Unary at op operand → ⊥)
    → ((at : Pos) (left : Box TExpr Global) (right : Box TExpr Global) → e ≡ codes.And at left right → ⊥)
    → ((at : Pos) (left : Box TExpr Global) (right : Box TExpr Global) → e ≡ codes.Or at left right → ⊥) → IsTestedByValue (texpr_tree e)
unfolding texpr_tree
tested_by_value (codes.Unary' at op operand_box operand) unary both either = absurd (unary at op _ refl)
tested_by_value (codes.And' at left_box left right_box right) unary both either = absurd (both at _ _ refl)
tested_by_value (codes.Or' at left_box left right_box right) unary both either = absurd (either at _ _ refl)
tested_by_value _ unary both either = tt

pub copied_by_value : (e : TExpr)
    → ((at : Pos) (place : Box TLvalue Global) → e ≡ codes.Whole at place → ⊥)
    → ((at : Pos) (extent : Extent) (place : Box TLvalue Global) (source : Box TExpr Global) → e ≡ codes.AssignStruct at extent place source → ⊥)
    → ((at : Pos) (ty : CType) (condition : Box TExpr Global) (first : Box TExpr Global) (second : Box TExpr Global)
    → e ≡ codes.Cond at ty condition first second → ⊥)
    → ((at : Pos) (left : Box TExpr Global) (right : Box TExpr Global) → e ≡ codes.Comma at left right → ⊥) → IsCopiedByValue (texpr_tree e)
unfolding texpr_tree
copied_by_value (codes.Whole' at place_box place) whole assign cond comma = absurd (whole at _ refl)
copied_by_value (codes.AssignStruct' at extent place_box place source_box source) whole assign cond comma = absurd (assign at extent _ _ refl)
copied_by_value (codes.Cond' at ty t_box t a_box a b_box b) whole assign cond comma = absurd (cond at ty _ _ _ refl)
copied_by_value (codes.Comma' at left_box left right_box right) whole assign cond comma = absurd (comma at _ _ refl)
copied_by_value _ whole assign cond comma = tt
