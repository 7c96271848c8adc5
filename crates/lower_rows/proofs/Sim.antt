-- The machine follows the code of expressions that load, compute and store.
use Rattle.std.proofs.Common.{◌≡◌, ◌⊎◌, inl, inr, ℕ, suc, ◌*◌, ◌<◌, ◌≤◌, List, [], ◌∷◌, length, Option, Some, None, refl, sym, ◌∙◌, subst, arith, Bool, true, false}
use Rattle.std.specs.Prelude.{Contains, IsSome, max, slice_get}
use Rattle.std.proofs.lemmas.List.Elements.{Contains-append_cases, Contains-push_cases}
use Rattle.c_syntax_written.specs.declared.place.Pos.{Pos}
use Rattle.c_syntax_written.specs.declared.int_type.IntType.{IntType}
use Rattle.c_syntax.specs.declared.operator.Arithmetic.{Arithmetic}
use Rattle.c_syntax.specs.declared.operator.TBinaryOp.{TBinaryOp}
use Rattle.c_syntax.specs.declared.operator.TBinaryOp.TheVariants as binaries
use Rattle.c_syntax.specs.declared.program.Plan.{Plan}
use Rattle.c_syntax.specs.TypedExpr as c
use Rattle.c_syntax.specs.TypedExpr.{TExprTree, TLvalueTree}
use Rattle.c_syntax.specs.TypedParts.{tlvalue_pos, tlvalue_type}
use Rattle.c_syntax.specs.Program.{TProgramTree}
use Rattle.c_layout.specs.Plans.{IsPlanFor}
use Rattle.c_layout.specs.WellTyped.{IsWellTyped}
use Rattle.block_mem.specs.declared.types.Scalar.{Scalar}
use Rattle.block_mem.specs.declared.types.Scalar.TheVariants as scalars
use Rattle.c_syntax_written.specs.declared.int_type.IntType.TheVariants.{Char, SChar, UChar, Short, UShort, Int, UInt, Long, ULong, LLong, ULLong}
use Rattle.std.proofs.Math.Nat.{le-max_left, le-max_right}
use Rattle.c_values.specs.Typed.{binary_type}
use Rattle.block_mem.specs.declared.types.Value.{Value}
use Rattle.block_mem.specs.declared.types.Value.TheVariants as values
use Rattle.c_values.specs.Places.{place_of}
use Rattle.c_values.specs.Values.{scalar_of}
use Rattle.c_objects.specs.Opening.{address}
use Rattle.c_steps.specs.Work.{Item, Eval, Addr, LoadAt, StoreAt, Bin}
use Rattle.c_steps.specs.States.{Held, State, state, Goes, held}
use Rattle.c_steps.specs.Steps.{step}
use Rattle.c_steps.specs.Runs.{calls_in}
use Rattle.c_steps_laws.specs.Fits.{Fits}
use Rattle.c_steps_laws.proofs.NeededRuns.{steps_keep_fitting, fitting_states_step}
use Rattle.csharp.specs.Trees.{CsExprTree, Temp, Address, Binary, CsStmtTree, Set}
use Rattle.csharp.specs.Trees as code
use Rattle.csharp.specs.States as low
use Rattle.csharp.specs.States.{value_of}
use Rattle.csharp.specs.Outcomes.{Outcome, Normal, then_do}
use Rattle.csharp.specs.Formed.{gathered, temps_of}
use Rattle.csharp_laws.specs.LeftAlone.{IsBehind, May, Itself, ByCall, TempsStay, PlacesStay, calls_of, temps_within}
use Rattle.lower_trees.specs.Temps.{temp_at, scalar_place}
use Rattle.lower_trees.specs.Checking.{checks, load_list, store_list, binary_list}
use Rattle.lower_trees.specs.LowerExpr.{Lowered, spilled, is_kept, of_load, of_binary, of_assign, lower_expr, lower_place, or_int}
use Rattle.lower_trees.specs.LowerProgram.{lower}
use Rattle.lower_rows.proofs.Steps.{Leads, Follows, one, none, follows_after, follows_then, fits_leads}
use Rattle.lower_rows.proofs.Rows.{ValueGoal, ValueFollows, no_way, run, in_temp, as_it_is, load_row, store_row}
use Rattle.lower_rows.proofs.Operators.{arithmetic_row}

-- a scalar that the row names
abbrev IsScalarOf : TLvalueTree → Type 0
IsScalarOf place = (ty : Scalar) × (scalar_of (tlvalue_type place) ≡ Some ty)

-- constants, loads, signed operators with a check, and stores; variables and what pointers point to
abbrev mutual
  pub Small : TExprTree → Type 0
  Small (c.Const at t n) = Unit {0}
  Small (c.Load at place) = SmallPlace place × IsScalarOf place
  Small (c.Binary at (binaries.Arithmetic op t) a b) = Small a × Small b
  Small (c.Assign at place a) = SmallPlace place × Small a × IsScalarOf place
  Small e = ⊥

  pub SmallPlace : TLvalueTree → Type 0
  SmallPlace (c.Var at x ty k) = Unit {0}
  SmallPlace (c.Deref at kind ty k e) = Small e
  SmallPlace place = ⊥

-- ---- what the code sets, and what its value reads

abbrev pub Below : ℕ → CsExprTree → Type 0
Below hi (code.Const t k) = Unit {0}
Below hi code.Null = Unit {0}
Below hi (Temp i) = i < hi
Below hi (Address x) = Unit {0}
Below hi (code.Unary op a) = Below hi a
Below hi (Binary op a b) = Below hi a × Below hi b
Below hi (code.Convert t a) = Below hi a

below_more : (lo hi : ℕ) → lo ≤ hi → (e : CsExprTree) → Below lo e → Below hi e
below_more lo hi h (code.Const t k) b = tt
below_more lo hi h code.Null b = tt
below_more lo hi h (Temp i) b = omega (arith, h, b)
below_more lo hi h (Address x) b = tt
below_more lo hi h (code.Unary op a) b = below_more lo hi h a b
below_more lo hi h (Binary op a c) b = (below_more lo hi h a b.0, below_more lo hi h c b.1)
below_more lo hi h (code.Convert t a) b = below_more lo hi h a b

-- a value stays while places do, and the temporaries below a number
pub stable : (hi : ℕ) (e : CsExprTree) (s t : low.State) → Below hi e → ((x : ℕ) → place_of t.memory x ≡ place_of s.memory x)
    → ((i : ℕ) → i < hi → slice_get t.temps i ≡ slice_get s.temps i) → value_of e t ≡ value_of e s
stable hi (code.Const t k) s u b m h = refl
stable hi code.Null s u b m h = refl
stable hi (Temp i) s u b m h = h i b
stable hi (Address x) s u b m h = rw (m x) refl
stable hi (code.Unary op a) s u b m h = rw (stable hi a s u b m h) refl
stable hi (Binary op a c) s u b m h = rw (stable hi a s u b.0 m h) (rw (stable hi c s u b.1 m h) refl)
stable hi (code.Convert t a) s u b m h = rw (stable hi a s u b m h) refl

-- code that sets no temporary below a number, and calls nothing
pub record SetsFrom (lo : ℕ) (a : CsStmtTree) : Type 0 where
  pub sets : (x : ℕ) → Contains (gathered temps_of a) x → lo ≤ x
  pub calls : gathered calls_of a ≡ []

two_from : (lo : ℕ) (xs ys : List ℕ) → ((x : ℕ) → Contains xs x → lo ≤ x) → ((x : ℕ) → Contains ys x → lo ≤ x) → (x : ℕ) → Contains xs x ⊎ Contains ys x → lo ≤ x
two_from lo xs ys f g x (inl h) = f x h
two_from lo xs ys f g x (inr h) = g x h

pub seq_from : (lo : ℕ) (a b : CsStmtTree) → SetsFrom lo a → SetsFrom lo b → SetsFrom lo (code.Sequence a b)
seq_from lo a b f g = record {
  sets = λ x h. two_from lo (gathered temps_of a) (gathered temps_of b) f.sets g.sets x (Contains-append_cases (gathered temps_of a) (gathered temps_of b) x h);
  calls = rw (f.calls) (g.calls);
}

none_from : (lo x : ℕ) → Contains {X = ℕ} [] x → lo ≤ x
none_from lo x (i, l, e) = absurd (omega (arith, l))

pub checks_from : (lo : ℕ) (cs : List code.CsCheckTree) → SetsFrom lo (checks cs)
checks_from lo [] = record { sets = λ x h. none_from lo x h; calls = refl }
checks_from lo (k ∷ cs) = seq_from lo (code.Checked k) (checks cs) (record { sets = λ x h. none_from lo x h; calls = refl }) (checks_from lo cs)

one_case : (lo d x : ℕ) → lo ≤ d → Contains [] x ⊎ (d ≡ x) → lo ≤ x
one_case lo d x h (inl k) = none_from lo x k
one_case lo d x h (inr e) = subst (λ z. lo ≤ z) e h

one_from : (lo d x : ℕ) → lo ≤ d → Contains (d ∷ []) x → lo ≤ x
one_from lo d x h k = one_case lo d x h (Contains-push_cases [] d x k)

fewer : (lo hi : ℕ) (a : CsStmtTree) → lo ≤ hi → SetsFrom hi a → SetsFrom lo a
fewer lo hi a h f = record { sets = λ x k. let i = f.sets x k in omega (arith, h, i); calls = f.calls }

none_of : (g : ℕ) → Contains {X = ℕ} [] g → ⊥
none_of g (i, l, e) = absurd (omega (arith, l))

not_set : (q : _) (lo y : ℕ) (own calls : List ℕ) → ((x : ℕ) → Contains own x → lo ≤ x) → calls ≡ [] → y < lo → May q temps_within y own calls → ⊥
not_set q lo y own calls f e h (Itself _ _ k) = let i = f y k in omega (arith, h, i)
not_set q lo y own calls f e h (ByCall _ _ g function k is m) = absurd (none_of g (subst (λ z. Contains z g) e k))

-- ---- depths

place_below : (ty : Scalar) → scalar_place ty < 12
place_below (scalars.Int Char) = omega arith
place_below (scalars.Int SChar) = omega arith
place_below (scalars.Int UChar) = omega arith
place_below (scalars.Int Short) = omega arith
place_below (scalars.Int UShort) = omega arith
place_below (scalars.Int Int) = omega arith
place_below (scalars.Int UInt) = omega arith
place_below (scalars.Int Long) = omega arith
place_below (scalars.Int ULong) = omega arith
place_below (scalars.Int LLong) = omega arith
place_below (scalars.Int ULLong) = omega arith
place_below scalars.Pointer = omega arith

in_row : (d : ℕ) (ty : Scalar) → temp_at d ty < 12 * suc d
in_row d ty = let h = place_below ty in omega (arith, h)

above_row : (d : ℕ) (ty : Scalar) → 12 * d ≤ temp_at d ty
above_row d ty = omega arith

-- what is known of code by itself: it sets temporaries from its depth on, and its value reads those below the next depth
pub record IsQuiet (d : ℕ) (a : Lowered) : Type 0 where
  pub next : d ≤ a.next
  pub top : a.next ≤ a.top
  pub before : SetsFrom (12 * d) a.before
  pub value : Below (12 * a.next) a.value

spilled_quiet : (kept : Bool) (d : ℕ) (ty : Scalar) (a : Lowered) → IsQuiet d a → IsQuiet d (spilled kept d ty a)
spilled_quiet true d ty a h = h
spilled_quiet false d ty a h = record {
  next = omega arith;
  top = le-max_left (suc d) a.top;
  before = seq_from (12 * d) a.before (Set (temp_at d ty) a.value) h.before
      (record { sets = λ x k. one_from (12 * d) (temp_at d ty) x (above_row d ty) k; calls = refl });
  value = in_row d ty;
}

load_quiet : (d : ℕ) (at : Pos) (ty : Scalar) (a : Lowered) → IsQuiet d a → IsQuiet d (of_load d at ty a)
load_quiet d at ty a h = record {
  next = omega arith;
  top = le-max_left (suc d) a.top;
  before = seq_from (12 * d) a.before _ h.before (seq_from (12 * d) (checks (load_list at ty a.value)) _ (checks_from (12 * d) (load_list at ty a.value))
      (record { sets = λ x k. one_from (12 * d) (temp_at d ty) x (above_row d ty) k; calls = refl }));
  value = in_row d ty;
}

later : (d e : ℕ) (b : Lowered) → d ≤ e → IsQuiet e b → SetsFrom (12 * d) b.before
later d e b h k = fewer (12 * d) (12 * e) b.before (omega (arith, h)) k.before

binary_quiet : (d : ℕ) (at : Pos) (kept : Bool) (op : TBinaryOp) (a b : Lowered) → IsQuiet d a → IsQuiet a.next b → IsQuiet d (of_binary d at kept op a b)
binary_quiet d at kept op a b h k =
    spilled_quiet kept d (binary_type op) _ (record {
      next = let x = h.next in let y = k.next in omega (arith, x, y);
      top = let x = le-max_right a.top b.top in let y = k.top in omega (arith, x, y);
      before = seq_from (12 * d) a.before _ h.before (seq_from (12 * d) b.before _ (later d a.next b h.next k) (checks_from (12 * d) (binary_list at op a.value b.value)));
      value = (below_more (12 * a.next) (12 * b.next) (let y = k.next in omega (arith, y)) a.value h.value, k.value);
    })

assign_quiet : (d : ℕ) (at : Pos) (ty : Scalar) (a b : Lowered) → IsQuiet d a → IsQuiet a.next b → IsQuiet d (of_assign at ty a b)
assign_quiet d at ty a b h k = record {
  next = let x = h.next in let y = k.next in omega (arith, x, y);
  top = let x = le-max_right a.top b.top in let y = k.top in omega (arith, x, y);
  before = seq_from (12 * d) a.before _ h.before (seq_from (12 * d) b.before _ (later d a.next b h.next k)
      (seq_from (12 * d) (checks (store_list at ty a.value)) _ (checks_from (12 * d) (store_list at ty a.value)) (record { sets = λ x k. none_from (12 * d) x k; calls = refl })));
  value = k.value;
}

mutual
  pub quiet : (p : TProgramTree) (e : TExprTree) (d : ℕ) → Small e → IsQuiet d (lower_expr p d e).value
  quiet p (c.Const at t k) d h = record { next = omega arith; top = omega arith; before = record { sets = λ x k. none_from (12 * d) x k; calls = refl }; value = tt }
  quiet p (c.Load at place) d h = load_quiet d (tlvalue_pos place) (or_int (scalar_of (tlvalue_type place))) (lower_place p d place) (quiet_place p place d h.0)
  quiet p (c.Binary at (binaries.Arithmetic op t) a b) d h =
      binary_quiet d at _ (binaries.Arithmetic op t) _ _ (quiet p a d h.0) (quiet p b (lower_expr p d a).value.next h.1)
  quiet p (c.Assign at place a) d h =
      assign_quiet d (tlvalue_pos place) (or_int (scalar_of (tlvalue_type place))) _ _ (quiet_place p place d h.0) (quiet p a (lower_place p d place).next h.1)
  quiet p (c.Null _ _) d h = absurd h
  quiet p (c.AddressOf _ _) d h = absurd h
  quiet p (c.Decay _ _) d h = absurd h
  quiet p (c.Whole _ _) d h = absurd h
  quiet p (c.Unary _ _ _) d h = absurd h
  quiet p (c.Binary at (binaries.Shift _ _) a b) d h = absurd h
  quiet p (c.Binary at (binaries.CompareInts _ _) a b) d h = absurd h
  quiet p (c.Binary at (binaries.ComparePointers _) a b) d h = absurd h
  quiet p (c.Binary at (binaries.PointerPlusInt _) a b) d h = absurd h
  quiet p (c.Binary at (binaries.IntPlusPointer _) a b) d h = absurd h
  quiet p (c.Binary at (binaries.PointerMinusInt _) a b) d h = absurd h
  quiet p (c.Binary at (binaries.PointerMinusPointer _) a b) d h = absurd h
  quiet p (c.Convert _ _ _) d h = absurd h
  quiet p (c.AssignStruct _ _ _ _) d h = absurd h
  quiet p (c.Compound _ _ _ _) d h = absurd h
  quiet p (c.Step _ _ _ _ _) d h = absurd h
  quiet p (c.And _ _ _) d h = absurd h
  quiet p (c.Or _ _ _) d h = absurd h
  quiet p (c.Cond _ _ _ _ _) d h = absurd h
  quiet p (c.Comma _ _ _) d h = absurd h
  quiet p (c.Call _ _ _ _ _) d h = absurd h
  quiet p (c.Any _ _) d h = absurd h
  quiet p (c.Assume _ _) d h = absurd h
  quiet p (c.Assert _ _) d h = absurd h

  pub quiet_place : (p : TProgramTree) (place : TLvalueTree) (d : ℕ) → SmallPlace place → IsQuiet d (lower_place p d place)
  quiet_place p (c.Var at x ty k) d h = record { next = omega arith; top = omega arith; before = record { sets = λ x k. none_from (12 * d) x k; calls = refl }; value = tt }
  quiet_place p (c.Deref at kind ty k e) d h = quiet p e d h
  quiet_place p (c.Member _ _ _ _ _ _) d h = absurd h

some_is : (o : Option Scalar) (ty : Scalar) → o ≡ Some ty → IsSome o
some_is None ty e = absurd (cc)
some_is (Some u) ty e = refl

-- the rows of a binary operator are enough for its parts
both_tops : (d : ℕ) (at : Pos) (kept_as : Bool) (op : Arithmetic) (t : IntType) (a b : Lowered) (n : ℕ)
    → 12 * (of_binary d at kept_as (binaries.Arithmetic op t) a b).top ≤ n → (12 * a.top ≤ n) × (12 * b.top ≤ n)
both_tops d at true op t a b n h =
    (let z = le-max_left a.top b.top in omega (arith, z, h), let z = le-max_right a.top b.top in omega (arith, z, h))
both_tops d at false op t a b n h =
    let k = le-max_right (suc d) (max a.top b.top) in
    (let z = le-max_left a.top b.top in omega (arith, z, k, h), let z = le-max_right a.top b.top in omega (arith, z, k, h))

module _ (over : ℕ → Bool) (p : TProgramTree) (plan : Plan) (n : ℕ) (ok : IsWellTyped p) (planned : IsPlanFor p plan) where
  abbrev pub kept : (s t : State) → Fits p s → step p s ≡ Goes t → Fits p t
  kept s t h e = steps_keep_fitting p plan ok planned s t h e

  -- an expression's outcome begins another: its value is on the stack, and the state fits
  pub value_then : (s0 : State) (w : List Item) (s : List Held) (a : CsExprTree) (o : Outcome) (go : low.State → Outcome) (chain : List Pos)
      (goal : low.State → State → Type 0) → Fits p s0 → calls_in w ≡ chain → ValueFollows over p n s0 w s a o
      → ((t : low.State) → o ≡ Normal t → (v : Value) → value_of a t ≡ Some v → Fits p (state w (held v ∷ s) t.memory t.inputs)
      → Follows over p n (state w (held v ∷ s) t.memory t.inputs) chain goal no_way (go t))
      → Follows over p n s0 chain goal no_way (then_do o go)
  value_then s0 w s a o go chain goal fits e h f =
      follows_then over p n s0 chain (ValueGoal a w s) goal no_way no_way o go (subst (λ k. Follows over p n s0 k (ValueGoal a w s) no_way o) e h)
      (λ t u is leads k. subst (λ x. Follows over p n x chain goal no_way (go t)) (sym k.2)
      (f t is k.0 k.1 (subst (λ x. Fits p x) k.2 (fits_leads p kept s0 u leads fits)))) (λ k t x. absurd x)

  -- a value that goes into a temporary
  pub spill : (s0 : State) (w : List Item) (s : List Held) (a : CsExprTree) (d : ℕ) (o : Outcome)
      → ((t : low.State) → o ≡ Normal t → d < length t.temps) → ValueFollows over p n s0 w s a o
      → ValueFollows over p n s0 w s (Temp d) (then_do o (λ t. run over p plan n (Set d a) t))
  spill s0 w s a d o room h =
      follows_then over p n s0 (calls_in w) (ValueGoal a w s) (ValueGoal (Temp d) w s) no_way no_way o _ h
      (λ t u is leads k. rw (k.1) (in_temp over p plan n u w s d t k.0 (room t is) (subst (λ x. Leads p u x) k.2 (none p u)))) (λ k t x. absurd x)

  var_case : (w : List Item) (s : List Held) (at : Pos) (x : ℕ) (ty : _) (k : Bool) (t : low.State) (o : Option Value) → address t.memory x 0 ≡ o
      → Fits p (state (Addr (c.Var at x ty k) ∷ w) s t.memory t.inputs)
      → ValueFollows over p n (state (Addr (c.Var at x ty k) ∷ w) s t.memory t.inputs) w s (Address x) (Normal t)
  var_case w s at x ty k t None e fits = absurd (fitting_states_step p plan ok planned _ fits (rw e refl))
  var_case w s at x ty k t (Some v) e fits = as_it_is over p plan n _ w s (Address x) t v e (one p _ _ (rw e refl))

  module _ (temps_stay : TempsStay) (places_stay : PlacesStay) (counts : (a : CsStmtTree) (l t : low.State) → run over p plan n a l ≡ Normal t → length t.temps ≡ length l.temps) where
    -- a value is as it was behind code that begins at a later depth
    stays : (hi : ℕ) (e : CsExprTree) (a : CsStmtTree) (l t : low.State) (v : Value) → SetsFrom hi a → Below hi e → run over p plan n a l ≡ Normal t → value_of e l ≡ Some v
        → value_of e t ≡ Some v
    stays hi e a l t v f b is h =
        stable hi e l t b (λ x. places_stay over (lower p plan) n a l t x (subst (λ (o : Outcome). IsBehind o t) (sym is) refl))
        (λ i k. temps_stay over (lower p plan) n a l t i (subst (λ (o : Outcome). IsBehind o t) (sym is) refl)
        (λ m. not_set (lower p plan) hi i (gathered temps_of a) (gathered calls_of a) f.sets f.calls k m)) ∙ h

    abbrev Sim : ℕ → TExprTree → Type 0
    Sim d e = (w : List Item) (s : List Held) (l : low.State) → 12 * (lower_expr p d e).value.top ≤ length l.temps → Fits p (state (Eval e ∷ w) s l.memory l.inputs)
        → ValueFollows over p n (state (Eval e ∷ w) s l.memory l.inputs) w s (lower_expr p d e).value.value (run over p plan n (lower_expr p d e).value.before l)

    abbrev PlaceSim : ℕ → TLvalueTree → Type 0
    PlaceSim d place = (w : List Item) (s : List Held) (l : low.State) → 12 * (lower_place p d place).top ≤ length l.temps → Fits p (state (Addr place ∷ w) s l.memory l.inputs)
        → ValueFollows over p n (state (Addr place ∷ w) s l.memory l.inputs) w s (lower_place p d place).value (run over p plan n (lower_place p d place).before l)

    -- the step that takes a node apart, and what comes behind it
    taken_apart : (s0 s1 : State) (w : List Item) (s : List Held) (a : CsExprTree) (o : Outcome) → step p s0 ≡ Goes s1 → Fits p s0
        → (Fits p s1 → ValueFollows over p n s1 w s a o) → ValueFollows over p n s0 w s a o
    taken_apart s0 s1 w s a o e fits f =
        follows_after over p n s0 s1 (calls_in w) (ValueGoal a w s) no_way o (one p s0 s1 e) (f (kept s0 s1 fits e))

    loaded : (d : ℕ) (at : Pos) (place : TLvalueTree) (sc : Option Scalar) (a : Lowered) (w : List Item) (s : List Held) (l : low.State) → IsSome sc
        → 12 * max (suc d) a.top ≤ length l.temps → Fits p (state (Addr place ∷ LoadAt at sc ∷ w) s l.memory l.inputs)
        → ValueFollows over p n (state (Addr place ∷ LoadAt at sc ∷ w) s l.memory l.inputs) (LoadAt at sc ∷ w) s a.value (run over p plan n a.before l)
        → ValueFollows over p n (state (Addr place ∷ LoadAt at sc ∷ w) s l.memory l.inputs) w s (Temp (temp_at d (or_int sc))) (run over p plan n (of_load d at (or_int sc) a).before l)
    loaded d at place None a w s l h room fits sim = absurd (cc)
    loaded d at place (Some ty) a w s l h room fits sim =
        value_then (state (Addr place ∷ LoadAt at (Some ty) ∷ w) s l.memory l.inputs) (LoadAt at (Some ty) ∷ w) s a.value _ _ (calls_in w) (ValueGoal (Temp (temp_at d ty)) w s) fits refl sim
        (λ t is v e f. load_row over p plan n at ty w s (temp_at d ty) a.value t v ok
        (let x = counts a.before l t is in let y = in_row d ty in let z = le-max_left (suc d) a.top in omega (arith, x, y, z, room)) e f)

    stored : (d : ℕ) (at : Pos) (place : TLvalueTree) (e : TExprTree) (sc : Option Scalar) (a b : Lowered) (w : List Item) (s : List Held) (l : low.State) → IsSome sc
        → IsQuiet d a → IsQuiet a.next b → Fits p (state (Addr place ∷ Eval e ∷ StoreAt at sc ∷ w) s l.memory l.inputs)
        → ValueFollows over p n (state (Addr place ∷ Eval e ∷ StoreAt at sc ∷ w) s l.memory l.inputs) (Eval e ∷ StoreAt at sc ∷ w) s a.value (run over p plan n a.before l)
        → ((t : low.State) (v : Value) → run over p plan n a.before l ≡ Normal t → Fits p (state (Eval e ∷ StoreAt at sc ∷ w) (held v ∷ s) t.memory t.inputs)
        → ValueFollows over p n (state (Eval e ∷ StoreAt at sc ∷ w) (held v ∷ s) t.memory t.inputs) (StoreAt at sc ∷ w) (held v ∷ s) b.value (run over p plan n b.before t))
        → ValueFollows over p n (state (Addr place ∷ Eval e ∷ StoreAt at sc ∷ w) s l.memory l.inputs) w s b.value (run over p plan n (of_assign at (or_int sc) a b).before l)
    stored d at place e None a b w s l h qa qb fits first second = absurd (cc)
    stored d at place e (Some ty) a b w s l h qa qb fits first second =
        value_then _ (Eval e ∷ StoreAt at (Some ty) ∷ w) s a.value _ _ (calls_in w) (ValueGoal b.value w s) fits refl first
        (λ t is v ev f. value_then _ (StoreAt at (Some ty) ∷ w) (held v ∷ s) b.value _ _ (calls_in w) (ValueGoal b.value w s) f refl (second t v is f)
        (λ r more u eu g. store_row over p plan n at ty w s a.value b.value r v u (stays (12 * a.next) a.value b.before t r v qb.before qa.value more ev) eu))

    added_kept : (d : ℕ) (at : Pos) (op : Arithmetic) (ty : IntType) (x y : TExprTree) (a b : Lowered) (w : List Item) (s : List Held) (l : low.State)
        → IsQuiet d a → IsQuiet a.next b → 12 * (of_binary d at true (binaries.Arithmetic op ty) a b).top ≤ length l.temps
        → Fits p (state (Eval x ∷ Eval y ∷ Bin at (binaries.Arithmetic op ty) ∷ w) s l.memory l.inputs)
        → ValueFollows over p n (state (Eval x ∷ Eval y ∷ Bin at (binaries.Arithmetic op ty) ∷ w) s l.memory l.inputs) (Eval y ∷ Bin at (binaries.Arithmetic op ty) ∷ w) s a.value (run over p plan n a.before l)
        → ((t : low.State) (v : Value) → run over p plan n a.before l ≡ Normal t → Fits p (state (Eval y ∷ Bin at (binaries.Arithmetic op ty) ∷ w) (held v ∷ s) t.memory t.inputs)
        → ValueFollows over p n (state (Eval y ∷ Bin at (binaries.Arithmetic op ty) ∷ w) (held v ∷ s) t.memory t.inputs) (Bin at (binaries.Arithmetic op ty) ∷ w) (held v ∷ s) b.value (run over p plan n b.before t))
        → ValueFollows over p n (state (Eval x ∷ Eval y ∷ Bin at (binaries.Arithmetic op ty) ∷ w) s l.memory l.inputs) w s (of_binary d at true (binaries.Arithmetic op ty) a b).value
        (run over p plan n (of_binary d at true (binaries.Arithmetic op ty) a b).before l)
    added_kept d at op ty x y a b w s l qa qb room fits first second =
        value_then _ (Eval y ∷ Bin at (binaries.Arithmetic op ty) ∷ w) s a.value _ _ (calls_in w) (ValueGoal (Binary (binaries.Arithmetic op ty) a.value b.value) w s) fits refl first
        (λ t is v ev f. value_then _ (Bin at (binaries.Arithmetic op ty) ∷ w) (held v ∷ s) b.value _ _ (calls_in w) (ValueGoal (Binary (binaries.Arithmetic op ty) a.value b.value) w s) f refl (second t v is f)
        (λ r more u eu g. arithmetic_row over p plan n ok planned at op ty w s a.value b.value r v u (stays (12 * a.next) a.value b.before t r v qb.before qa.value more ev) eu g))

    added : (d : ℕ) (at : Pos) (op : Arithmetic) (ty : IntType) (x y : TExprTree) (kept_as : Bool) (a b : Lowered) (w : List Item) (s : List Held) (l : low.State)
        → IsQuiet d a → IsQuiet a.next b → 12 * (of_binary d at kept_as (binaries.Arithmetic op ty) a b).top ≤ length l.temps
        → Fits p (state (Eval x ∷ Eval y ∷ Bin at (binaries.Arithmetic op ty) ∷ w) s l.memory l.inputs)
        → ValueFollows over p n (state (Eval x ∷ Eval y ∷ Bin at (binaries.Arithmetic op ty) ∷ w) s l.memory l.inputs) (Eval y ∷ Bin at (binaries.Arithmetic op ty) ∷ w) s a.value (run over p plan n a.before l)
        → ((t : low.State) (v : Value) → run over p plan n a.before l ≡ Normal t → Fits p (state (Eval y ∷ Bin at (binaries.Arithmetic op ty) ∷ w) (held v ∷ s) t.memory t.inputs)
        → ValueFollows over p n (state (Eval y ∷ Bin at (binaries.Arithmetic op ty) ∷ w) (held v ∷ s) t.memory t.inputs) (Bin at (binaries.Arithmetic op ty) ∷ w) (held v ∷ s) b.value (run over p plan n b.before t))
        → ValueFollows over p n (state (Eval x ∷ Eval y ∷ Bin at (binaries.Arithmetic op ty) ∷ w) s l.memory l.inputs) w s (of_binary d at kept_as (binaries.Arithmetic op ty) a b).value
        (run over p plan n (of_binary d at kept_as (binaries.Arithmetic op ty) a b).before l)
    added d at op ty x y true a b w s l qa qb room fits first second = added_kept d at op ty x y a b w s l qa qb room fits first second
    added d at op ty x y false a b w s l qa qb room fits first second =
        spill _ w s (Binary (binaries.Arithmetic op ty) a.value b.value) (temp_at d (scalars.Int ty)) _
        (λ t is. let k = counts (of_binary d at true (binaries.Arithmetic op ty) a b).before l t is in let h = in_row d (scalars.Int ty) in let z = le-max_left (suc d) (max a.top b.top) in omega (arith, k, h, z, room))
        (added_kept d at op ty x y a b w s l qa qb (let z = le-max_right (suc d) (max a.top b.top) in omega (arith, z, room)) fits first second)

    mutual
      pub sim : (e : TExprTree) (d : ℕ) → Small e → Sim d e
      sim (c.Const at t k) d h w s l room fits = as_it_is over p plan n _ w s (code.Const t k) l (values.Int t k) refl (one p _ _ refl)
      sim (c.Load at place) d h w s l room fits =
          taken_apart _ (state (Addr place ∷ LoadAt (tlvalue_pos place) (scalar_of (tlvalue_type place)) ∷ w) s l.memory l.inputs) w s
          (lower_expr p d (c.Load at place)).value.value (run over p plan n (lower_expr p d (c.Load at place)).value.before l) refl fits
          (λ f. loaded d (tlvalue_pos place) place (scalar_of (tlvalue_type place)) (lower_place p d place) w s l (some_is (scalar_of (tlvalue_type place)) h.1.0 h.1.1) room f
          (sim_place place d h.0 (LoadAt (tlvalue_pos place) (scalar_of (tlvalue_type place)) ∷ w) s l
          (let z = le-max_right (suc d) (lower_place p d place).top in omega (arith, z, room)) f))
      sim (c.Binary at (binaries.Arithmetic op t) a b) d h w s l room fits =
          let la = (lower_expr p d a).value in
          let lb = (lower_expr p la.next b).value in
          let kb = is_kept (binaries.Arithmetic op t) a b in
          taken_apart _ (state (Eval a ∷ Eval b ∷ Bin at (binaries.Arithmetic op t) ∷ w) s l.memory l.inputs) w s
          (lower_expr p d (c.Binary at (binaries.Arithmetic op t) a b)).value.value
          (run over p plan n (lower_expr p d (c.Binary at (binaries.Arithmetic op t) a b)).value.before l) refl fits
          (λ f. added d at op t a b kb la lb w s l (quiet p a d h.0) (quiet p b la.next h.1) room f
          (sim a d h.0 (Eval b ∷ Bin at (binaries.Arithmetic op t) ∷ w) s l (both_tops d at kb op t la lb (length l.temps) room).0 f)
          (λ r v is g. sim b la.next h.1 (Bin at (binaries.Arithmetic op t) ∷ w) (held v ∷ s) r
          (subst (λ z. 12 * lb.top ≤ z) (sym (counts la.before l r is)) (both_tops d at kb op t la lb (length l.temps) room).1) g))
      sim (c.Assign at place a) d h w s l room fits =
          let la = lower_place p d place in
          let lb = (lower_expr p la.next a).value in
          let sc = scalar_of (tlvalue_type place) in
          taken_apart _ (state (Addr place ∷ Eval a ∷ StoreAt (tlvalue_pos place) sc ∷ w) s l.memory l.inputs) w s
          (lower_expr p d (c.Assign at place a)).value.value (run over p plan n (lower_expr p d (c.Assign at place a)).value.before l) refl fits
          (λ f. stored d (tlvalue_pos place) place a sc la lb w s l (some_is sc h.2.0 h.2.1) (quiet_place p place d h.0) (quiet p a la.next h.1) f
          (sim_place place d h.0 (Eval a ∷ StoreAt (tlvalue_pos place) sc ∷ w) s l (let z = le-max_left la.top lb.top in omega (arith, z, room)) f)
          (λ r v is g. sim a la.next h.1 (StoreAt (tlvalue_pos place) sc ∷ w) (held v ∷ s) r
          (subst (λ z. 12 * lb.top ≤ z) (sym (counts la.before l r is)) (let z = le-max_right la.top lb.top in omega (arith, z, room))) g))
      sim (c.Null _ _) d h w s l room fits = absurd h
      sim (c.AddressOf _ _) d h w s l room fits = absurd h
      sim (c.Decay _ _) d h w s l room fits = absurd h
      sim (c.Whole _ _) d h w s l room fits = absurd h
      sim (c.Unary _ _ _) d h w s l room fits = absurd h
      sim (c.Binary at (binaries.Shift _ _) a b) d h w s l room fits = absurd h
      sim (c.Binary at (binaries.CompareInts _ _) a b) d h w s l room fits = absurd h
      sim (c.Binary at (binaries.ComparePointers _) a b) d h w s l room fits = absurd h
      sim (c.Binary at (binaries.PointerPlusInt _) a b) d h w s l room fits = absurd h
      sim (c.Binary at (binaries.IntPlusPointer _) a b) d h w s l room fits = absurd h
      sim (c.Binary at (binaries.PointerMinusInt _) a b) d h w s l room fits = absurd h
      sim (c.Binary at (binaries.PointerMinusPointer _) a b) d h w s l room fits = absurd h
      sim (c.Convert _ _ _) d h w s l room fits = absurd h
      sim (c.AssignStruct _ _ _ _) d h w s l room fits = absurd h
      sim (c.Compound _ _ _ _) d h w s l room fits = absurd h
      sim (c.Step _ _ _ _ _) d h w s l room fits = absurd h
      sim (c.And _ _ _) d h w s l room fits = absurd h
      sim (c.Or _ _ _) d h w s l room fits = absurd h
      sim (c.Cond _ _ _ _ _) d h w s l room fits = absurd h
      sim (c.Comma _ _ _) d h w s l room fits = absurd h
      sim (c.Call _ _ _ _ _) d h w s l room fits = absurd h
      sim (c.Any _ _) d h w s l room fits = absurd h
      sim (c.Assume _ _) d h w s l room fits = absurd h
      sim (c.Assert _ _) d h w s l room fits = absurd h

      pub sim_place : (place : TLvalueTree) (d : ℕ) → SmallPlace place → PlaceSim d place
      sim_place (c.Var at x ty k) d h w s l room fits = var_case w s at x ty k l (address l.memory x 0) refl fits
      sim_place (c.Deref at kind ty k e) d h w s l room fits =
          taken_apart _ (state (Eval e ∷ w) s l.memory l.inputs) w s (lower_expr p d e).value.value (run over p plan n (lower_expr p d e).value.before l) refl fits (λ f. sim e d h w s l room f)
      sim_place (c.Member _ _ _ _ _ _) d h w s l room fits = absurd h
