-- A value that is lowered at a depth reads no temporary below its row.
use Rattle.std.proofs.Common.{ℕ, suc, ◌*◌, ◌≤◌, List, [], ◌∷◌, Option, Some, None, Bool, true, false, arith}
use Rattle.c_syntax_written.specs.declared.int_type.IntType.TheVariants as ints
use Rattle.c_syntax_written.specs.declared.place.Pos.{Pos}
use Rattle.c_syntax.specs.declared.operator.StepTime.{StepTime}
use Rattle.c_syntax.specs.declared.operator.StepTime.TheVariants as times
use Rattle.c_syntax.specs.declared.operator.TUnaryOp.{TUnaryOp}
use Rattle.c_syntax.specs.declared.operator.TUnaryOp.TheVariants as unaries
use Rattle.c_syntax.specs.declared.operator.TBinaryOp.{TBinaryOp}
use Rattle.c_syntax.specs.TypedExpr as c
use Rattle.c_syntax.specs.TypedExpr.{TExprTree, TLvalueTree, TExprTrees}
use Rattle.c_syntax.specs.TypedParts.{texpr_type, tlvalue_pos}
use Rattle.c_syntax.specs.Program.{TProgramTree}
use Rattle.c_layout.specs.MainFunction.{is_main}
use Rattle.block_mem.specs.declared.types.Scalar.{Scalar}
use Rattle.block_mem.specs.declared.types.Scalar.TheVariants as scalars
use Rattle.c_values.specs.Typed.{binary_type}
use Rattle.c_values.specs.Values.{scalar_of}
use Rattle.c_steps.specs.Changes.{step_operator}
use Rattle.csharp.specs.Trees.{CsExprTree, Const, Null, Temp, Address, Unary, Binary, Convert, CsStmtTree}
use Rattle.lower_trees.specs.Temps.{temp_at}
use Rattle.lower_trees.specs.LowerExpr.{Lowered, lowered, Forms, Args, held_scalar, wanted, place_scalar, spilled, is_kept, is_kept_alone, to_scalar, changed_new, given_term, of_change, of_unary, of_unary_forms, of_convert, of_cond, of_call, lower_expr, lower_place, lower_args}

abbrev pub From : ℕ → CsExprTree → Type 0
From lo (Const t k) = Unit {0}
From lo Null = Unit {0}
From lo (Temp i) = lo ≤ i
From lo (Address x) = Unit {0}
From lo (Unary op a) = From lo a
From lo (Binary op a b) = From lo a × From lo b
From lo (Convert t a) = From lo a

pub from_more : (lo hi : ℕ) → lo ≤ hi → (e : CsExprTree) → From hi e → From lo e
from_more lo hi h (Const t k) f = tt
from_more lo hi h Null f = tt
from_more lo hi h (Temp i) f = omega (arith, h, f)
from_more lo hi h (Address x) f = tt
from_more lo hi h (Unary op a) f = from_more lo hi h a f
from_more lo hi h (Binary op a b) f = (from_more lo hi h a f.0, from_more lo hi h b f.1)
from_more lo hi h (Convert t a) f = from_more lo hi h a f

-- a value reads temporaries from its depth on, and leaves those below the next depth to it
pub record Reads (d : ℕ) (a : Lowered) : Type 0 where
  pub next : d ≤ a.next
  pub value : From (12 * d) a.value

later : (d e : ℕ) (a : Lowered) → d ≤ e → Reads e a → Reads d a
later d e a h r = let n = r.next in record { next = omega (arith, h, n); value = from_more (12 * d) (12 * e) (omega (arith, h)) a.value r.value }

in_temp : (d k n : ℕ) (ty : Scalar) (code : CsStmtTree) (top : ℕ) → d ≤ k → d ≤ n → Reads d (lowered code (Temp (temp_at k ty)) n top)
in_temp d k n ty code top h g = record { next = g; value = omega (arith, h) }

reads_spilled : (kept : Bool) (d : ℕ) (ty : Scalar) (a : Lowered) → Reads d a → Reads d (spilled kept d ty a)
reads_spilled true d ty a r = r
reads_spilled false d ty a r = in_temp d d (suc d) ty _ _ (omega arith) (omega arith)

reads_scalar : (lo : ℕ) (ty : Option Scalar) (e : CsExprTree) → From lo e → From lo (to_scalar ty e)
reads_scalar lo None e f = f
reads_scalar lo (Some (scalars.Int t)) e f = f
reads_scalar lo (Some scalars.Pointer) e f = f

reads_convert : (d : ℕ) (ty : Option Scalar) (a : Lowered) → Reads d a → Reads d (of_convert ty a)
reads_convert d None a r = record { next = r.next; value = tt }
reads_convert d (Some ty) a r = record { next = r.next; value = reads_scalar (12 * d) (Some ty) a.value r.value }

reads_given : (d k : ℕ) (time : StepTime) (ty : Scalar) (op : TBinaryOp) → d ≤ k → From (12 * d) (given_term time (Temp (temp_at k ty)) (changed_new op ty k))
reads_given d k times.Before ty op h = reads_scalar (12 * d) (Some ty) (Temp (temp_at (suc k) (binary_type op))) (omega (arith, h))
reads_given d k times.After ty op h = omega (arith, h)

reads_change : (d : ℕ) (at at_place : Pos) (ty : Scalar) (op : TBinaryOp) (time : StepTime) (before : CsStmtTree) (k top : ℕ) (place u : CsExprTree) → d ≤ k
    → Reads d (of_change at at_place ty op time before k top place u)
reads_change d at at_place ty op time before k top place u h = record { next = omega (arith, h); value = reads_given d k time ty op h }

reads_cond : (d : ℕ) (o : Option Scalar) (test : CsStmtTree) (top : ℕ) (a b : Lowered) → Reads d (of_cond d o test top a b)
reads_cond d None test top a b = record { next = omega arith; value = tt }
reads_cond d (Some ty) test top a b = in_temp d d (suc d) ty _ _ (omega arith) (omega arith)

reads_call : (d : ℕ) (at : Pos) (g : ℕ) (o : Option Scalar) (main : Bool) (args : Args) → Reads d (of_call d at g o main args)
reads_call d at g None main args = record { next = omega arith; value = tt }
reads_call d at g (Some ty) true args = in_temp d d (suc d) ty _ _ (omega arith) (omega arith)
reads_call d at g (Some ty) false args = in_temp d d (suc d) ty _ _ (omega arith) (omega arith)

pub record ReadsForms (d : ℕ) (a : Forms) : Type 0 where
  pub value : Reads d a.value
  pub source : (size align : ℕ) → Reads d (a.source size align)

same : (d : ℕ) (a : Forms) → Reads d a.value → ((size align : ℕ) → Reads d (a.source size align)) → ReadsForms d a
same d a h g = record { value = h; source = g }

reads_unary : (d : ℕ) (at : Pos) (op : TUnaryOp) (ty : Option Scalar) (a : Lowered) → Reads d a → Reads d (of_unary d at op ty a)
reads_unary d at op ty a r = reads_spilled (is_kept_alone op) d _ _ (record { next = r.next; value = r.value })

unary_all : (d : ℕ) (at : Pos) (op : TUnaryOp) (ty : Option Scalar) (a : Forms) → Reads d a.value → ReadsForms d (of_unary_forms d at op ty a)
unary_all d at unaries.Not ty a r = record { value = reads_unary d at unaries.Not ty a.value r; source = λ size align. reads_unary d at unaries.Not ty a.value r }
unary_all d at (unaries.Plus t) ty a r = record { value = reads_unary d at (unaries.Plus t) ty a.value r; source = λ size align. reads_unary d at (unaries.Plus t) ty a.value r }
unary_all d at (unaries.Minus t) ty a r = record { value = reads_unary d at (unaries.Minus t) ty a.value r; source = λ size align. reads_unary d at (unaries.Minus t) ty a.value r }
unary_all d at (unaries.Complement t) ty a r = record { value = reads_unary d at (unaries.Complement t) ty a.value r; source = λ size align. reads_unary d at (unaries.Complement t) ty a.value r }

abbrev pub AllFrom : ℕ → List CsExprTree → Type 0
AllFrom lo [] = Unit {0}
AllFrom lo (e ∷ es) = From lo e × AllFrom lo es

pub all_more : (lo hi : ℕ) → lo ≤ hi → (es : List CsExprTree) → AllFrom hi es → AllFrom lo es
all_more lo hi h [] f = tt
all_more lo hi h (e ∷ es) f = (from_more lo hi h e f.0, all_more lo hi h es f.1)

mutual
  pub reads_expr : (p : TProgramTree) (e : TExprTree) (d : ℕ) → ReadsForms d (lower_expr p d e)
  reads_expr p (c.Const at t k) d = let r : Reads d (lower_expr p d (c.Const at t k)).value = record { next = omega arith; value = tt } in record { value = r; source = λ size align. r }
  reads_expr p (c.Null at ty) d = let r : Reads d (lower_expr p d (c.Null at ty)).value = record { next = omega arith; value = tt } in record { value = r; source = λ size align. r }
  reads_expr p (c.Load at x) d = let r : Reads d (lower_expr p d (c.Load at x)).value = in_temp d d (suc d) (place_scalar x) _ _ (omega arith) (omega arith) in record { value = r; source = λ size align. r }
  reads_expr p (c.AddressOf at x) d = let r = reads_place p x d in record { value = r; source = λ size align. r }
  reads_expr p (c.Decay at x) d = let r = reads_place p x d in record { value = r; source = λ size align. r }
  reads_expr p (c.Whole at x) d = let r = reads_place p x d in record { value = r; source = λ size align. record { next = r.next; value = r.value } }
  reads_expr p (c.Unary at op a) d = unary_all d at op (scalar_of (texpr_type a)) (lower_expr p d a) (reads_expr p a d).value
  reads_expr p (c.Binary at op a b) d =
      let ra = (reads_expr p a d).value in
      let rb = later d (lower_expr p d a).value.next (lower_expr p (lower_expr p d a).value.next b).value ra.next (reads_expr p b (lower_expr p d a).value.next).value in
      let r : Reads d (lower_expr p d (c.Binary at op a b)).value = reads_spilled (is_kept op a b) d (binary_type op) _ (record { next = rb.next; value = (ra.value, rb.value) }) in
      record { value = r; source = λ size align. r }
  reads_expr p (c.Convert at ty a) d = let r = reads_convert d (scalar_of ty) (lower_expr p d a).value (reads_expr p a d).value in record { value = r; source = λ size align. r }
  reads_expr p (c.Assign at x a) d =
      let rb = later d (lower_place p d x).next (lower_expr p (lower_place p d x).next a).value (reads_place p x d).next (reads_expr p a (lower_place p d x).next).value in
      let r : Reads d (lower_expr p d (c.Assign at x a)).value = record { next = rb.next; value = rb.value } in record { value = r; source = λ size align. r }
  reads_expr p (c.AssignStruct at extent x a) d = let r = reads_place p x d in record { value = record { next = r.next; value = r.value }; source = λ size align. record { next = r.next; value = r.value } }
  reads_expr p (c.Compound at op x a) d =
      let h = (later d (lower_place p d x).next (lower_expr p (lower_place p d x).next a).value (reads_place p x d).next (reads_expr p a (lower_place p d x).next).value).next in
      let r : Reads d (lower_expr p d (c.Compound at op x a)).value = reads_change d at (tlvalue_pos x) (place_scalar x) op times.Before _ (lower_expr p (lower_place p d x).next a).value.next _ _ _ h in
      record { value = r; source = λ size align. r }
  reads_expr p (c.Step at time way stride x) d =
      let r : Reads d (lower_expr p d (c.Step at time way stride x)).value = reads_change d at (tlvalue_pos x) (place_scalar x) (step_operator way stride) time _ (lower_place p d x).next _ _ _ (reads_place p x d).next in
      record { value = r; source = λ size align. r }
  reads_expr p (c.And at a b) d = record { value = in_temp d d (suc d) (scalars.Int ints.Int) _ _ (omega arith) (omega arith); source = λ size align. in_temp d d (suc d) (scalars.Int ints.Int) _ _ (omega arith) (omega arith) }
  reads_expr p (c.Or at a b) d = record { value = in_temp d d (suc d) (scalars.Int ints.Int) _ _ (omega arith) (omega arith); source = λ size align. in_temp d d (suc d) (scalars.Int ints.Int) _ _ (omega arith) (omega arith) }
  reads_expr p (c.Cond at ty t a b) d = record {
    value = reads_cond d (held_scalar ty) ((lower_expr p d t).unless at 0) (lower_expr p d t).value.top (lower_expr p d a).value (lower_expr p d b).value;
    source = λ size align. reads_cond d (Some scalars.Pointer) ((lower_expr p d t).unless at 0) (lower_expr p d t).value.top ((lower_expr p d a).source size align) ((lower_expr p d b).source size align);
  }
  reads_expr p (c.Comma at a b) d =
      let r = reads_expr p b d in
      record { value = record { next = r.value.next; value = r.value.value }; source = λ size align. record { next = (r.source size align).next; value = (r.source size align).value } }
  reads_expr p (c.Call at g ty used args) d = let r = reads_call d at g (wanted used ty) (is_main p g) (lower_args p d args) in record { value = r; source = λ size align. r }
  reads_expr p (c.Any at t) d = record { value = in_temp d d (suc d) (scalars.Int t) _ _ (omega arith) (omega arith); source = λ size align. in_temp d d (suc d) (scalars.Int t) _ _ (omega arith) (omega arith) }
  reads_expr p (c.Assume at a) d = record { value = record { next = omega arith; value = tt }; source = λ size align. record { next = omega arith; value = tt } }
  reads_expr p (c.Assert at a) d = record { value = record { next = omega arith; value = tt }; source = λ size align. record { next = omega arith; value = tt } }

  pub reads_place : (p : TProgramTree) (x : TLvalueTree) (d : ℕ) → Reads d (lower_place p d x)
  reads_place p (c.Var at x ty k) d = record { next = omega arith; value = tt }
  reads_place p (c.Deref at kind ty k e) d = (reads_expr p e d).value
  reads_place p (c.Member at k offset ty is_const x) d = let r = reads_place p x d in record { next = r.next; value = (r.value, tt) }

  -- no argument reads below its caller's row
  pub reads_args : (p : TProgramTree) (args : TExprTrees) (d : ℕ) → AllFrom (12 * d) (lower_args p d args).values
  reads_args p c.none d = tt
  reads_args p (c.more e rest) d =
      let r = (reads_expr p e d).value in
      let h = r.next in
      (r.value, all_more (12 * d) (12 * (lower_expr p d e).value.next) (omega (arith, h)) (lower_args p (lower_expr p d e).value.next rest).values (reads_args p rest (lower_expr p d e).value.next))
