-- What calls and statements use.
use Rattle.std.proofs.Common.{◌⊎◌, inl, inr, ℕ, List, [], ◌∷◌, ◌++◌, refl, arith}
use Rattle.std.specs.Prelude.{Contains}
use Rattle.std.proofs.lemmas.List.Elements.{Contains-append_left, Contains-append_right}
use Rattle.c_syntax_written.specs.declared.place.Pos.{Pos}
use Rattle.c_syntax.specs.TypedExpr.{TExprTree, Const, Null, Load, AddressOf, Decay, Whole, Unary, Binary, Convert, Assign, AssignStruct, Compound, Step, And, Or, Cond, Comma, Call, Any, Assume, Assert, TLvalueTree, Var, Deref, Member, TExprTrees}
use Rattle.c_syntax.specs.TypedExpr as exprs
use Rattle.c_syntax.specs.Program.{TProgramTree}
use Rattle.c_layout.specs.Calls.{PlacedCall, calls_of, calls_at, calls_among}
use Rattle.c_steps_laws.specs.Opens.{Use, Opens, OpensPlace, OpensAmong, OpensCall}

-- ---- what expressions use, they use by calls

-- one of these calls uses it
pub record CallsUse (p : TProgramTree) (calls : List PlacedCall) (u : Use) : Type 0 where
  pub call : PlacedCall
  pub made : Contains calls call
  pub used : OpensCall p call.callee u

pub use_left : (p : TProgramTree) (a b : List PlacedCall) (u : Use) → CallsUse p a u → CallsUse p (a ++ b) u
use_left p a b u h = record { call = h.call; made = Contains-append_left a b h.call h.made; used = h.used }

pub use_right : (p : TProgramTree) (a b : List PlacedCall) (u : Use) → CallsUse p b u → CallsUse p (a ++ b) u
use_right p a b u h = record { call = h.call; made = Contains-append_right a b h.call h.made; used = h.used }

one_call : (p : TProgramTree) (at : Pos) (g : ℕ) (u : Use) → OpensCall p g u → CallsUse p (record { pos = at; callee = g } ∷ []) u
one_call p at g u h = record { call = record { pos = at; callee = g }; made = (0, omega arith, refl); used = h }

pub both_use : (p : TProgramTree) (A B : Type 0) (a b : List PlacedCall) (u : Use) → (A → CallsUse p a u) → (B → CallsUse p b u) → A ⊎ B → CallsUse p (a ++ b) u
both_use p A B a b u f g (inl h) = use_left p a b u (f h)
both_use p A B a b u f g (inr h) = use_right p a b u (g h)

mutual
  unfolding calls_of

  pub value_uses : (p : TProgramTree) (u : Use) (e : TExprTree) → Opens (OpensCall p) e u → CallsUse p (calls_of e) u
  value_uses p u (Const at ty v) h = absurd h
  value_uses p u (Null at ty) h = absurd h
  value_uses p u (Load at x) h = place_uses p u x h
  value_uses p u (AddressOf at x) h = place_uses p u x h
  value_uses p u (Decay at x) h = place_uses p u x h
  value_uses p u (Whole at x) h = place_uses p u x h
  value_uses p u (Unary at op a) h = value_uses p u a h
  value_uses p u (Binary at op a b) h = both_use p _ _ (calls_of a) (calls_of b) u (value_uses p u a) (value_uses p u b) h
  value_uses p u (Convert at ty a) h = value_uses p u a h
  value_uses p u (Assign at x a) h = both_use p _ _ (calls_at x) (calls_of a) u (place_uses p u x) (value_uses p u a) h
  value_uses p u (AssignStruct at extent x a) h = both_use p _ _ (calls_at x) (calls_of a) u (place_uses p u x) (value_uses p u a) h
  value_uses p u (Compound at op x a) h = both_use p _ _ (calls_at x) (calls_of a) u (place_uses p u x) (value_uses p u a) h
  value_uses p u (Step at time way stride x) h = place_uses p u x h
  value_uses p u (And at a b) h = both_use p _ _ (calls_of a) (calls_of b) u (value_uses p u a) (value_uses p u b) h
  value_uses p u (Or at a b) h = both_use p _ _ (calls_of a) (calls_of b) u (value_uses p u a) (value_uses p u b) h
  value_uses p u (Cond at ty c a b) (inl h) = use_left p (calls_of c ++ calls_of a) (calls_of b) u (use_left p (calls_of c) (calls_of a) u (value_uses p u c h))
  value_uses p u (Cond at ty c a b) (inr (inl h)) = use_left p (calls_of c ++ calls_of a) (calls_of b) u (use_right p (calls_of c) (calls_of a) u (value_uses p u a h))
  value_uses p u (Cond at ty c a b) (inr (inr h)) = use_right p (calls_of c ++ calls_of a) (calls_of b) u (value_uses p u b h)
  value_uses p u (Comma at a b) h = both_use p _ _ (calls_of a) (calls_of b) u (value_uses p u a) (value_uses p u b) h
  value_uses p u (Call at g ty used args) h =
      both_use p _ _ (calls_among args) (record { pos = at; callee = g } ∷ []) u (list_uses p u args) (one_call p at g u) h
  value_uses p u (Any at ty) h = absurd h
  value_uses p u (Assume at a) h = value_uses p u a h
  value_uses p u (Assert at a) h = value_uses p u a h

  pub place_uses : (p : TProgramTree) (u : Use) (x : TLvalueTree) → OpensPlace (OpensCall p) x u → CallsUse p (calls_at x) u
  place_uses p u (Var at x ty c) h = absurd h
  place_uses p u (Deref at kind ty c a) h = value_uses p u a h
  place_uses p u (Member at k offset ty c x) h = place_uses p u x h

  pub list_uses : (p : TProgramTree) (u : Use) (es : TExprTrees) → OpensAmong (OpensCall p) es u → CallsUse p (calls_among es) u
  list_uses p u exprs.none h = absurd h
  list_uses p u (exprs.more e rest) h = both_use p _ _ (calls_of e) (calls_among rest) u (value_uses p u e) (list_uses p u rest) h
