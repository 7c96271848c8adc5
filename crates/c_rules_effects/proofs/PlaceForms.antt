-- What the place of each form is, an equation a form, for the proofs about code that goes through it.
use Rattle.std.proofs.Common.{◌≡◌, ℕ, Bool, [], refl}
use Rattle.std.specs.Prelude.{if◌then◌else◌}
use Rattle.std.specs.declared.boxed.Box.{Box}
use Rattle.std.specs.declared.alloc.Global.{Global}
use Rattle.c_syntax_written.specs.declared.place.Pos.{Pos}
use Rattle.c_syntax.specs.declared.operator.TBinaryOp.{TBinaryOp}
use Rattle.c_syntax.specs.declared.operator.DerefKind.{DerefKind}
use Rattle.c_syntax.specs.declared.typed.TExpr.{TExpr}
use Rattle.c_syntax.specs.declared.typed.TExpr.TheVariants as codes
use Rattle.c_syntax.specs.declared.typed.TLvalue.{TLvalue}
use Rattle.c_syntax.specs.Types.{CTypeTree}
use Rattle.c_syntax.specs.TypedExpr.{TExprTree, TLvalueTree, texpr_tree}
use Rattle.c_syntax.specs.TypedExpr as trees
use Rattle.c_rules_effects.specs.declared.touch.Part.TheVariants as parts
use Rattle.c_rules_effects.specs.declared.touch.Touch.TheVariants.{Mem, Object}
use Rattle.c_rules_effects.specs.Places.{array_of, element_of, extended, is_index, moves_left, place_of}

pub place_var : (at : Pos) (n : ℕ) (ty : CTypeTree) (is_const : Bool) → place_of (trees.Var at n ty is_const) ≡ Object n []
unfolding place_of
place_var at n ty is_const = refl

pub place_member : (at : Pos) (k offset : ℕ) (ty : CTypeTree) (is_const : Bool) (place : TLvalueTree)
    → place_of (trees.Member at k offset ty is_const place) ≡ extended (place_of place) (parts.Member k)
unfolding place_of
place_member at k offset ty is_const place = refl

pub place_deref : (at : Pos) (kind : DerefKind) (ty : CTypeTree) (is_const : Bool) (pointer : TExprTree)
    → place_of (trees.Deref at kind ty is_const pointer) ≡ (if is_index kind then element_of pointer else Mem)
unfolding place_of
place_deref at kind ty is_const pointer = refl

pub element_binary : (at : Pos) (op : TBinaryOp) (left right : TExprTree)
    → element_of (trees.Binary at op left right) ≡ (if moves_left op then array_of left else Mem)
unfolding element_of
element_binary at op left right = refl

pub array_decay : (at : Pos) (place : TLvalueTree) → array_of (trees.Decay at place) ≡ extended (place_of place) parts.Index
unfolding array_of
array_decay at place = refl

pub ruleset the_places = (place_var, place_member, place_deref, element_binary, array_decay)

-- what is no sum has no element of an array
pub no_sum : (e : TExpr) → ((at : Pos) (op : TBinaryOp) (left right : Box TExpr Global) → e ≡ codes.Binary at op left right → ⊥)
    → Mem ≡ element_of (texpr_tree e)
unfolding texpr_tree element_of
no_sum (codes.Binary' at op left_box left right_box right) n = absurd (n at op _ _ refl)
no_sum _ n = refl

pub no_array : (e : TExpr) → ((at : Pos) (place : Box TLvalue Global) → e ≡ codes.Decay at place → ⊥) → Mem ≡ array_of (texpr_tree e)
unfolding texpr_tree array_of
no_array (codes.Decay' at place_box place) n = absurd (n at _ refl)
no_array _ n = refl
