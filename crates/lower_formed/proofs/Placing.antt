-- The functions of a lowered program: where each stands in the order, what its body is, and that it may be called.
use Rattle.std.proofs.Common.{◌≡◌, ℕ, zero, suc, ◌+◌, ◌<◌, ◌≤◌, List, [], ◌∷◌, ◌++◌, length, take, map, Option, Some, None, false, refl, sym, ap, ◌∙◌, subst, arith}
use Rattle.std.specs.Prelude.{All, Contains, IfSome, IsSome, IsSomeAnd, if◌then◌else◌, is_some, option_map, unwrap_or, slice_get}
use Rattle.std.proofs.Math.Nat.{le-max_left, le-max_right}
use Rattle.std.proofs.lemmas.List.Elements.{All-contains, Contains-append_right}
use Rattle.std.proofs.lemmas.Option.{slice_get_within}
use Rattle.c_syntax_written.specs.declared.int_type.IntType.TheVariants as ints
use Rattle.c_syntax.specs.declared.program.Plan.{Plan}
use Rattle.c_syntax.specs.Types.{ObjectTree}
use Rattle.c_syntax.specs.TypedStmt.{TStmtTree}
use Rattle.c_syntax.specs.Program.{TFunctionTree, TProgramTree}
use Rattle.c_layout.specs.Calls.{PlacedCall, function_calls}
use Rattle.c_layout.specs.Jumps.{listed_of}
use Rattle.c_layout.specs.Plans.{HasBody}
use Rattle.c_layout.specs.TypedNodes.{object_type}
use Rattle.c_layout.specs.WellTyped.{IsAutomaticObject, listed, listed_by}
use Rattle.block_mem.specs.declared.types.Scalar.{Scalar}
use Rattle.block_mem.specs.declared.types.Scalar.TheVariants as scalars
use Rattle.c_values.specs.Values.{scalar_of}
use Rattle.c_objects.proofs.Listed.{contains_flat, first_in, listed_times, times, times_append, times_listed}
use Rattle.c_steps_laws.specs.Fits.{Runs}
use Rattle.c_steps_laws.proofs.Functions.{IsBody, IsParam, scalar_at}
use Rattle.c_steps_laws.proofs.Orders.{body_of, some_is}
use Rattle.c_steps_laws.proofs.Runs.{is_runnable}
use Rattle.csharp.specs.Trees.{CsStmtTree, Nothing, Set, Load, Store, CopyBytes, Undefine, Checked, Input, Assume, Sequence, If, Loop, Block, Exit, Scope, Switch, Goto, Call, Return, Label, Case, Default, CsProgramTree}
use Rattle.csharp.specs.Formed.{Each, nothing_around, gathered, label_of, HoldsType, GivesType}
use Rattle.lower_trees.specs.Temps.{temp_at}
use Rattle.lower_trees.specs.LowerStmt.{InLoop, lower_stmt}
use Rattle.lower_trees.specs.LowerProgram.{Placed, no_function, function_in, param_scalar, param_temps, body_code, lower_order, highest, lower}
use Rattle.lower_formed.specs.Right.{Frame, GivesAs, ParamsHold, Callable}
use Rattle.lower_formed.proofs.Alignment.{aligned}
use Rattle.lower_formed.proofs.Bodied.{body_labels}
use Rattle.lower_formed.proofs.Bodies.{labels_kept, body_right}
use Rattle.lower_formed.proofs.Each.{each_map, function_at}
use Rattle.lower_formed.proofs.Order.{first, Split, split, first_below, once_before, Stands, stands, function_later, top_high}
use Rattle.lower_formed.proofs.Rooms.{temp_there}
use Rattle.lower_formed.proofs.Terms.{R}

-- ---- what returns give

gives_one : (q : CsProgramTree) (result : Option Scalar) (ty : Scalar) (d : ℕ) → result ≡ Some ty → HoldsType q ty d → (a : CsStmtTree) → GivesAs q result a → GivesType q (Some d) a
gives_one q result ty d e h (Return (Some v)) g = (ty, g ty e, h)
gives_one q result ty d e h (Return None) g = tt
gives_one q result ty d e h Nothing g = tt
gives_one q result ty d e h (Set k v) g = tt
gives_one q result ty d e h (Load k s v) g = tt
gives_one q result ty d e h (Store s v w) g = tt
gives_one q result ty d e h (CopyBytes n v w) g = tt
gives_one q result ty d e h (Undefine x) g = tt
gives_one q result ty d e h (Checked c) g = tt
gives_one q result ty d e h (Input k t) g = tt
gives_one q result ty d e h (Assume v) g = tt
gives_one q result ty d e h (Sequence a b) g = tt
gives_one q result ty d e h (If v a b) g = tt
gives_one q result ty d e h (Loop at a) g = tt
gives_one q result ty d e h (Block a) g = tt
gives_one q result ty d e h (Exit k) g = tt
gives_one q result ty d e h (Scope xs items) g = tt
gives_one q result ty d e h (Switch v xs items) g = tt
gives_one q result ty d e h (Goto l) g = tt
gives_one q result ty d e h (Call c) g = tt
gives_one q result ty d e h (Label at l) g = tt
gives_one q result ty d e h (Case k) g = tt
gives_one q result ty d e h Default g = tt

-- a function that has a body
pub record Bodied (p : TProgramTree) (f : ℕ) : Type 0 where
  pub function : TFunctionTree
  pub body : TStmtTree
  pub found : slice_get p.functions f ≡ Some function
  pub has : function.body ≡ Some body

body_there : (p : TProgramTree) (f : ℕ) (function : TFunctionTree) (o : Option TStmtTree) → slice_get p.functions f ≡ Some function → function.body ≡ o → IsSome o → Bodied p f
body_there p f function None e g h = absurd (cc)
body_there p f function (Some body) e g h = record { function = function; body = body; found = e; has = g }

function_there : (p : TProgramTree) (f : ℕ) (o : Option TFunctionTree) → slice_get p.functions f ≡ o → IsSomeAnd o (λ x. IsSome x.body) → Bodied p f
function_there p f None e h = absurd h
function_there p f (Some function) e h = body_there p f function function.body e refl h

module _ (p : TProgramTree) (plan : Plan) (runs : Runs p plan) where
  abbrev pub all : List Placed
  all = lower_order p plan.order []

  abbrev pub q : CsProgramTree
  q = lower p plan

  abbrev pub n : ℕ
  n = highest all

  pub there : (d : ℕ) (ty : Scalar) → d < n → slice_get q.temps (temp_at d ty) ≡ Some ty
  there d ty lt = temp_there n d ty lt

  pub has_body : (f : ℕ) → HasBody p f → Bodied p f
  has_body f h = function_there p f (slice_get p.functions f) refl h

  -- ---- the order

  counted : (f : ℕ) (function : TFunctionTree) → slice_get p.functions f ≡ Some function → times f plan.order ≡ (if is_some function.body then 1 else 0)
  counted f function e = subst (λ o. IfSome o (λ x. times f plan.order ≡ (if is_some x.body then 1 else 0))) e (runs.planned.order_once f)

  pub once : (f : ℕ) → Bodied p f → times f plan.order ≡ 1
  once f b = counted f b.function b.found ∙ ap (λ o. if is_some o then 1 else 0) b.has

  pub placed : (f : ℕ) → Bodied p f → Split f plan.order
  placed f b = let one = once f b in split f plan.order (times_listed f plan.order (omega (arith, one)))

  -- a callee has a body, and stands before
  pub callee : (f : ℕ) (k : PlacedCall) → Contains (function_calls p f) k → Bodied p k.callee
  callee f k m = has_body k.callee (All-contains (λ (c : PlacedCall). HasBody p c.callee) (function_calls p f) k (runs.planned.called_bodies f) m)

  callee_in : (f : ℕ) (b : Bodied p f) (k : PlacedCall) → Contains (function_calls p f) k → Contains (take (length (placed f b).before) plan.order) k.callee
  callee_in f b k m =
      let s = placed f b in
      All-contains (λ (c : PlacedCall). Contains (take (length s.before) plan.order) c.callee) (function_calls p f) k
      (subst (λ o. IfSome o (λ g. All (λ (c : PlacedCall). Contains (take (length s.before) plan.order) c.callee) (function_calls p g))) s.there (runs.planned.callees_first (length s.before))) m

  pub callee_first : (f : ℕ) (b : Bodied p f) (k : PlacedCall) → Contains (function_calls p f) k → first k.callee plan.order < first f plan.order
  callee_first f b k m =
      let s = placed f b in
      let lt = first_below k.callee (length s.before) plan.order (callee_in f b k m) in
      let e = s.place in omega (arith, lt, e)

  pub stands_at : (f : ℕ) (b : Bodied p f) → Stands p all f b.function b.body
  stands_at f b =
      let s = placed f b in
      let one = once f b in
      let sum = times_append f s.before (f ∷ s.after) in
      let same : times f plan.order ≡ times f (s.before ++ f ∷ s.after) = ap (times f) s.is in
      subst (λ order. Stands p (lower_order p order []) f b.function b.body) (sym s.is)
      (stands p f b.function b.body b.found b.has s.before s.after
      (λ c. once_before f (f ∷ []) s.after (omega (arith, one, sum, same)) (first_in f []) c)
      (λ k m c.
      let other = once k.callee (callee f k m) in
      let again : times k.callee plan.order ≡ times k.callee (s.before ++ f ∷ s.after) = ap (times k.callee) s.is in
      once_before k.callee s.before (f ∷ s.after) (omega (arith, other, again)) (subst (λ xs. Contains xs k.callee) s.taken (callee_in f b k m)) c))

  -- without a body it is nothing
  pub bodiless : (f : ℕ) (function : TFunctionTree) → slice_get p.functions f ≡ Some function → function.body ≡ None → function_in all f ≡ no_function
  bodiless f function e g =
      let no = counted f function e ∙ ap (λ o. if is_some o then 1 else 0) g in
      function_later p plan.order [] f (λ c. let some = listed_times f plan.order c in omega (arith, no, some))

  -- ---- rows

  pub rooms : (f : ℕ) (b : Bodied p f) → ((stands_at f b).base + length b.function.params ≤ n) × ((lower_stmt p (stands_at f b).base InLoop b.body).top ≤ n)
  rooms f b =
      let s = stands_at f b in
      let own = s.own in
      let high = top_high all f in
      let x = le-max_left (s.base + length b.function.params) (lower_stmt p s.base InLoop b.body).top in
      let y = le-max_right (s.base + length b.function.params) (lower_stmt p s.base InLoop b.body).top in
      (omega (arith, own, high, x), omega (arith, own, high, y))

  -- the parameters of a callee stand below the first row of its caller
  pub callee_rows : (f : ℕ) (b : Bodied p f) (k : PlacedCall) (m : Contains (function_calls p f) k)
      → (stands_at k.callee (callee f k m)).base + length (callee f k m).function.params ≤ (stands_at f b).base
  callee_rows f b k m =
      let s = stands_at k.callee (callee f k m) in
      let own = s.own in
      let low = (stands_at f b).below k m in
      let x = le-max_left (s.base + length (callee f k m).function.params) (lower_stmt p s.base InLoop (callee f k m).body).top in
      omega (arith, own, low, x)

  -- ---- bodies

  abbrev pub code : (f : ℕ) → Bodied p f → CsStmtTree
  code f b = body_code p f (stands_at f b).base b.function.params b.body

  abbrev pub frame : (f : ℕ) → Bodied p f → Frame
  frame f b = record { names = gathered label_of (code f b); result = scalar_of b.function.result }

  pub low_at : (f : ℕ) (b : Bodied p f) → slice_get q.functions f ≡ Some (record { params = param_temps p (stands_at f b).base b.function.params; body = code f b })
  low_at f b = function_at all p.functions f ∙ ap (option_map (λ x. function_in all f)) b.found ∙ ap (λ x. Some x) (stands_at f b).is

  param_is : (x : ℕ) (s : Scalar) → scalar_of (object_type p x) ≡ Some s → param_scalar p x ≡ s
  param_is x s e = ap (λ o. unwrap_or o (scalars.Int ints.Int)) (scalar_at (slice_get p.objects x) s e)

  params_hold : (xs : List ℕ) (d : ℕ) → d + length xs ≤ n → ParamsHold q (map (λ x. object_type p x) xs) (param_temps p d xs)
  params_hold [] d h = tt
  params_hold (x ∷ xs) d h =
      ((λ s e. let same = param_is x s e in subst (λ z. HoldsType q s (temp_at d z)) (sym same) (there d s (omega (arith, h)))), params_hold xs (suc d) (omega (arith, h)))

  pub run_body : (f : ℕ) (b : Bodied p f) → IsBody p (is_runnable p plan runs.typed runs.planned).fillable f b.function b.body
  run_body f b = (is_runnable p plan runs.typed runs.planned).bodies f b.function b.body b.found b.has

  callable_at : (g : ℕ) (b : Bodied p g) → Each (R q (frame g b)) nothing_around (code g b) → Callable q g (map (λ x. object_type p x) b.function.params) (scalar_of b.function.result)
  callable_at g b h = record {
    low = record { params = param_temps p (stands_at g b).base b.function.params; body = code g b };
    is = low_at g b;
    holds = params_hold b.function.params (stands_at g b).base (rooms g b).0;
    gives = λ d ty e t. each_map (R q (frame g b)) (λ around a. GivesType q (Some d) a) (λ around a r. gives_one q (scalar_of b.function.result) ty d e t a r.gives) (code g b) nothing_around h;
  }

  -- what is listed is there
  auto_there : (o : Option ObjectTree) (x : ℕ) → slice_get p.objects x ≡ o → IsSomeAnd o (λ z. z.is_static ≡ false) → x < length p.objects
  auto_there None x e h = absurd h
  auto_there (Some z) x e h = slice_get_within p.objects x z e

  listed_there : (f : ℕ) (b : Bodied p f) (x : ℕ) → Contains (listed_of b.body) x → x < length p.objects
  listed_there f b x m =
      let own : listed_by b.function ≡ b.function.params ++ listed_of b.body = ap (λ o. b.function.params ++ unwrap_or (option_map listed_of o) []) b.has in
      auto_there (slice_get p.objects x) x refl
      (All-contains (IsAutomaticObject p) (listed p) x runs.typed.listed_objects
      (contains_flat listed_by x p.functions f b.function b.found (subst (λ xs. Contains xs x) (sym own) (Contains-append_right b.function.params (listed_of b.body) x m))))

  -- each body is right, by its place in the order
  right_below : (depth f : ℕ) (b : Bodied p f) → first f plan.order < depth → Each (R q (frame f b)) nothing_around (code f b)
  right_below zero f b lt = absurd (omega (arith, lt))
  right_below (suc depth) f b lt =
      let run = is_runnable p plan runs.typed runs.planned in
      let mine = run_body f b in
      let here = body_of p f b.function b.body b.found b.has in
      body_right p runs.typed run.sized (aligned p.structs) q refl (frame f b) n there b.function.result refl f b.function.params b.body (stands_at f b).base mine.typed.typed mine.stays
      (λ k m g e.
      let made = subst (λ ks. Contains ks k) (sym here) m in
      let c = callee f k made in
      let less = callee_first f b k made in
      let same : c.function ≡ g = some_is (sym c.found ∙ e) in
      subst (λ (x : TFunctionTree). Callable q k.callee (map (λ z. object_type p z) x.params) (scalar_of x.result)) same (callable_at k.callee c (right_below depth k.callee c (omega (arith, lt, less)))))
      (λ l m. subst (λ ls. Contains ls l) (sym (body_labels p f (stands_at f b).base b.function.params b.body)) (labels_kept p (stands_at f b).base InLoop b.body l m))
      (λ x m. (All-contains (IsParam p) b.function.params x mine.params m).0)
      (λ x m. listed_there f b x m)
      (rooms f b).0 (rooms f b).1 (λ is. ap scalar_of (run.callable.main f b.function b.found is))

  pub right_at : (f : ℕ) (b : Bodied p f) → Each (R q (frame f b)) nothing_around (code f b)
  right_at f b = right_below (suc (first f plan.order)) f b (omega arith)
