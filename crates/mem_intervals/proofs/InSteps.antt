-- What each call leaves of the states of a set of intervals.
use Rattle.std.proofs.Common.{◌≡◌, ℕ, zero, suc, ℤ, pos, ◌<◌, arith, refl, sym, subst, ap, ◌∙◌, Bool, true, false, List, [], ◌∷◌, length, map, replicate, Option, Some, None}
use Rattle.std.specs.Prelude.{All, IsTrue, MatchBool, ◌||◌, if◌then◌else◌, option_map, option_and_then, slice_get, slice_set}
use Rattle.std.proofs.lemmas.List.Elements.{All-head, All-weaker}
use Rattle.c_syntax_written.specs.declared.int_type.IntType.{IntType}
use Rattle.c_syntax.specs.declared.alarm.Fact.{Fact}
use Rattle.c_syntax.specs.Types.{ObjectTree, object_tree}
use Rattle.block_mem.specs.declared.types.Scalar.{Scalar}
use Rattle.block_mem.specs.declared.types.Scalar.TheVariants as scalars
use Rattle.block_mem.specs.declared.types.Value.{Value}
use Rattle.block_mem.specs.declared.types.Value.TheVariants as values
use Rattle.c_objects.specs.Writing.{stored_at}
use Rattle.ext_int.specs.declared.Ext.{Ext}
use Rattle.ext_int.specs.Ext.{AtMost, lesser, greater}
use Rattle.ext_int.proofs.Ends.{AtMost_refl, AtMost_antisymm, lesser_first, lesser_second, lesser_greatest, greater_first}
use Rattle.num_api.specs.declared.message.Range.{Range}
use Rattle.num_api.specs.Ranges.{InRange, NoWider, all_numbers, hull}
use Rattle.num_api.specs.Spans.{point, range_of}
use Rattle.machine_nums.specs.Rule.{type_span}
use Rattle.csharp.specs.Trees.{CsExprTree, Address, CsProgramTree}
use Rattle.csharp.specs.Trees as code
use Rattle.csharp.specs.States.{State, first, value_of, on_both}
use Rattle.csharp.specs.Actions as acts
use Rattle.csharp.specs.Actions.{put}
use Rattle.plain_runs.specs.States.{agreed}
use Rattle.mem_api.specs.FactsOf.{Adds, HoldsIn, NamesFactObjects}
use Rattle.mem_api.specs.Given.{IsOf}
use Rattle.mem_temps.specs.Values.{number_of, HasKind}
use Rattle.mem_temps.specs.Operators.{LiesIn}
use Rattle.mem_temps.specs.Ranges.{range_at}
use Rattle.mem_temps.specs.Exprs.{IsRangeOf}
use Rattle.mem_temps.specs.Sets.{Stands}
use Rattle.mem_temps.proofs.Lists.{unknown_knows}
use Rattle.mem_temps.proofs.Ranged.{and_then_some, map_some}
use Rattle.mem_objects.specs.declared.cells.KnownCell.{KnownCell}
use Rattle.mem_objects.specs.Cells.{cell_of, knows_cells, stored_cell, undefined_cell, entered, ended, read_at, IsJoined}
use Rattle.mem_objects.specs.Copies.{copy_of, knows_copies, source_in, without, without_all}
use Rattle.mem_objects.specs.Known.{AreKnown}
use Rattle.mem_objects.proofs.Knowing.{set_known, load_forgets, load_known, store_known, store_hides, store_forgets, copy_forgets, undefine_known, input_known, enter_known, leave_known, start_known}
use Rattle.mem_objects.proofs.Cutting.{joined_first, joined_second, covered_known}
use Rattle.mem_one_state.specs.One.{IsOf as IsOne}
use Rattle.mem_intervals.specs.declared.states.IntervalStates.{IntervalStates}
use Rattle.mem_intervals.specs.Passed.{Remembered, IsPassed, joined_passed, kept_for}
use Rattle.mem_intervals.specs.Known.{IsKnownRange}
use Rattle.mem_intervals.specs.Sets.{IsIn, CoversAll, knows_any}
use Rattle.mem_intervals.proofs.Calls.{set_keeps, load_keeps, input_keeps, enter_keeps, leave_keeps}
use Rattle.mem_intervals.proofs.Joins.{join_left, join_right}
use Rattle.mem_intervals.proofs.Knowing.{joined_left, joined_right}
use Rattle.mem_intervals.proofs.Merging.{enter_passed, leave_passed}
use Rattle.mem_intervals.proofs.Steps.{put_stands, store_stands, copy_stands, undefine_stands, first_stands}
use Rattle.mem_intervals.proofs.ValueKinds.{value_kind}

-- a set that says the same of what it knows
pub like : (os : List ObjectTree) (ts us : List Scalar) (rs new : List Range) (passed dropped : Option Remembered) (cells after : List (Option KnownCell))
    (copies left : List (Option ℕ)) (one behind : Option State) (s : State) → us ≡ ts → new ≡ rs → dropped ≡ passed → after ≡ cells → left ≡ copies
    → behind ≡ one → IsIn os ts rs passed cells copies one s → IsIn os us new dropped after left behind s
like os ts us rs new passed dropped cells after copies left one behind s t r p c k o h = record {
  temps = subst (λ (x : List Scalar). Stands (length os) x new s) (sym t) (subst (λ (x : List Range). Stands (length os) ts x s) (sym r) h.temps);
  passes = subst (λ (x : Option Remembered). IsPassed x s) (sym p) h.passes;
  known = subst (λ (x : List (Option KnownCell)). AreKnown os x left s) (sym c) (subst (λ (x : List (Option ℕ)). AreKnown os cells x s) (sym k) h.known);
  same = subst (λ (x : Option State). IsOne x s) (sym o) h.same;
}

-- a temporary of the program has a value
there : (q : CsProgramTree) (objects : ℕ) (ts : List Scalar) (rs : List Range) (d : ℕ) (s : State) → q.temps ≡ ts → All (λ x. x < length q.temps) (d ∷ [])
    → Stands objects ts rs s → d < length s.temps
there q objects ts rs d s same below h =
    subst (λ (n : ℕ). d < n) (ap (λ (xs : List Scalar). length xs) same ∙ sym h.size) (All-head (λ x. x < length q.temps) d [] below)

-- a value of an integer type is a number
int_value : (t : IntType) (v : Value) → HasKind (scalars.Int t) v → (n : ℤ) × (v ≡ values.Int t n)
int_value t (values.Int u n) h = (n, ap (λ (x : IntType). values.Int x n) h)
int_value t (values.Ptr p) h = absurd h
int_value t values.Null h = absurd h

-- the value that is stored
stored_value : (ty : Scalar) (e f : CsExprTree) (s t : State) → acts.store ty e f s ≡ Some t → (v : Value) × (value_of f s ≡ Some v)
stored_value ty e f s t g =
    let m = map_some (λ memory. record s { memory = memory }) (on_both e f s (stored_at s.memory ty)) t g in
    let v = and_then_some (λ v. option_and_then (stored_at s.memory ty v) (value_of f s)) (value_of e s) m.0 m.1 in
    let u = and_then_some (stored_at s.memory ty v.0) (value_of f s) m.0 v.2 in (u.0, u.1)

module _ (os : List ObjectTree) (ts : List Scalar) (rs : List Range) (passed : Option Remembered) (cells : List (Option KnownCell))
    (copies : List (Option ℕ)) (one behind : Option State) where
  -- ---- temporaries

  pub set_in : (q : CsProgramTree) (d : ℕ) (e : CsExprTree) (found : Range) → q.temps ≡ ts → IsOf q (code.Set d e) → IsKnownRange rs passed e found
      → (s t : State) → IsIn os ts rs passed cells copies one s → acts.set d e s ≡ Some t → IsOne behind t
      → IsIn os ts (slice_set rs d found) None cells (slice_set copies d (source_in copies e)) behind t
  set_in q d e found same given f s t h g is = record {
    temps = set_keeps q (length os) ts same rs (slice_set rs d found) passed d e found refl given f s t h.temps h.passes g;
    passes = tt;
    known = set_known os cells copies s h.known d e t (there q (length os) ts rs d s same given.numbers.1 h.temps) g;
    same = is;
  }

  pub load_in : (q : CsProgramTree) (d : ℕ) (ty : Scalar) (e : CsExprTree) → q.temps ≡ ts → IsOf q (code.Load d ty e)
      → (s t : State) → IsIn os ts rs passed cells copies one s → acts.load d ty e s ≡ Some t → IsOne behind t
      → IsIn os ts (slice_set rs d all_numbers) None cells (slice_set copies d None) behind t
  load_in q d ty e same given s t h g is = record {
    temps = load_keeps q (length os) ts same rs (slice_set rs d all_numbers) d ty e refl given s t h.temps g;
    passes = tt;
    known = load_forgets os cells copies s h.known d ty e t g;
    same = is;
  }

  -- a load of an object of which something is known
  pub load_cell_in : (q : CsProgramTree) (d : ℕ) (ty : Scalar) (e : CsExprTree) (x : ℕ) (c : KnownCell) → q.temps ≡ ts → IsOf q (code.Load d ty e)
      → e ≡ Address x → cell_of cells x ≡ Some c → ty ≡ scalars.Int c.ty → (s t : State) → IsIn os ts rs passed cells copies one s → acts.load d ty e s ≡ Some t
      → IsOne behind t → IsIn os ts (slice_set rs d c.range) None cells (slice_set copies d (Some x)) behind t
  load_cell_in q d ty e x c same given at cell own s t h g is =
      let act : acts.load d (scalars.Int c.ty) (Address x) s ≡ Some t = subst (λ (w : Scalar). acts.load d w (Address x) s ≡ Some t) own
      (subst (λ (a : CsExprTree). acts.load d ty a s ≡ Some t) at g) in
      let typed : slice_get ts d ≡ Some (scalars.Int c.ty) = subst (λ (us : List Scalar). slice_get us d ≡ Some (scalars.Int c.ty)) same
      (given.typed.1.1 ∙ ap (λ (w : Scalar). Some w) own) in
      let n = load_known os cells copies s h.known d x c t (there q (length os) ts rs d s same given.numbers.1 h.temps) cell act in
      record {
        temps = subst (Stands (length os) ts (slice_set rs d c.range)) (sym n.1)
            (put_stands (length os) ts rs s d (scalars.Int c.ty) (values.Int c.ty n.0) c.range h.temps typed refl n.2);
        passes = tt;
        known = n.3;
        same = is;
      }

  pub input_in : (q : CsProgramTree) (d : ℕ) (ty : IntType) → q.temps ≡ ts → IsOf q (code.Input d ty) → (s t : State)
      → IsIn os ts rs passed cells copies one s → acts.input d ty s ≡ Some t
      → IsIn os ts (slice_set rs d (range_of (type_span ty))) None cells (slice_set copies d None) None t
  input_in q d ty same given s t h g = record {
    temps = input_keeps q (length os) ts same rs (slice_set rs d (range_of (type_span ty))) d ty refl given s t h.temps g;
    passes = tt;
    known = input_known os cells copies s h.known d ty t g;
    same = tt;
  }

  -- ---- memory

  -- a store to an object of a number in a range
  pub store_cell_in : (q : CsProgramTree) (ty : Scalar) (e f : CsExprTree) (x : ℕ) (c : KnownCell) (r : Range) → q.temps ≡ ts
      → IsOf q (code.Store ty e f) → e ≡ Address x → cell_of cells x ≡ Some c → ty ≡ scalars.Int c.ty → IsRangeOf rs f r → LiesIn c.ty r → (s t : State)
      → IsIn os ts rs passed cells copies one s → acts.store ty e f s ≡ Some t → IsOne behind t
      → IsIn os ts rs None (slice_set cells x (Some (stored_cell r c))) (without x copies) behind t
  store_cell_in q ty e f x c r same given at cell own range lies s t h g is =
      let act : acts.store (scalars.Int c.ty) (Address x) f s ≡ Some t = subst (λ (w : Scalar). acts.store w (Address x) f s ≡ Some t) own
      (subst (λ (a : CsExprTree). acts.store ty a f s ≡ Some t) at g) in
      let v = stored_value ty e f s t g in
      let kinds : (d : ℕ) (u : Scalar) (w : Value) → slice_get q.temps d ≡ Some u → slice_get s.temps d ≡ Some w → HasKind u w =
      subst (λ (us : List Scalar). (d : ℕ) (u : Scalar) (w : Value) → slice_get us d ≡ Some u → slice_get s.temps d ≡ Some w → HasKind u w) (sym same)
      h.temps.kinds in
      let n = int_value c.ty v.0 (subst (λ (u : Scalar). HasKind u v.0) own (value_kind q s kinds f ty v.0 given.typed.1.1 v.1)) in
      let inside : InRange r n.0 = subst (λ (w : Value). InRange r (number_of w)) n.1 (range.holds s v.0 h.temps.temps v.1) in
      record {
        temps = store_stands (length os) ts rs s t h.temps ty e f g;
        passes = tt;
        known = store_known os cells copies s h.known x c f r n.0 t cell (v.1 ∙ ap (λ (w : Value). Some w) n.1) lies inside act;
        same = is;
      }

  -- and of any value
  pub store_hidden_in : (ty : Scalar) (e f : CsExprTree) (x : ℕ) → e ≡ Address x → (s t : State) → IsIn os ts rs passed cells copies one s
      → acts.store ty e f s ≡ Some t → IsOne behind t → IsIn os ts rs None (slice_set cells x None) (without x copies) behind t
  store_hidden_in ty e f x at s t h g is = record {
    temps = store_stands (length os) ts rs s t h.temps ty e f g;
    passes = tt;
    known = store_hides os cells copies s h.known ty x f t (subst (λ (a : CsExprTree). acts.store ty a f s ≡ Some t) at g);
    same = is;
  }

  -- a store anywhere
  pub store_in : (ty : Scalar) (e f : CsExprTree) (n m : ℕ) (s t : State) → IsIn os ts rs passed cells copies one s → acts.store ty e f s ≡ Some t
      → IsOne behind t → IsIn os ts rs None (replicate n None) (replicate m None) behind t
  store_in ty e f n m s t h g is = record {
    temps = store_stands (length os) ts rs s t h.temps ty e f g;
    passes = tt;
    known = store_forgets os cells copies s h.known n m ty e f t g;
    same = is;
  }

  pub copy_in : (size : ℕ) (to from : CsExprTree) (n m : ℕ) (s t : State) → IsIn os ts rs passed cells copies one s → acts.copy_bytes size to from s ≡ Some t
      → IsOne behind t → IsIn os ts rs None (replicate n None) (replicate m None) behind t
  copy_in size to from n m s t h g is = record {
    temps = copy_stands (length os) ts rs s t h.temps size to from g;
    passes = tt;
    known = copy_forgets os cells copies s h.known n m size to from t g;
    same = is;
  }

  pub undefine_in : (x : ℕ) (s t : State) → IsIn os ts rs passed cells copies one s → acts.undefine x s ≡ Some t → IsOne behind t
      → IsIn os ts rs None (slice_set cells x (option_map undefined_cell (cell_of cells x))) (without x copies) behind t
  undefine_in x s t h g is = record {
    temps = undefine_stands (length os) ts rs s t h.temps x g;
    passes = tt;
    known = undefine_known os cells copies s h.known x t g;
    same = is;
  }

  -- ---- objects that begin and end

  entered_own : (p : CsProgramTree) (xs : List ℕ) (s : State) → p.objects ≡ os → All (λ x. x < length os) xs
      → IsIn os ts rs passed cells copies one s → IsOne behind (acts.enter p.objects xs s)
      → IsIn os ts rs (kept_for xs passed) (entered os xs cells) (without_all xs copies) behind (acts.enter p.objects xs s)
  entered_own p xs s same below h is = record {
    temps = enter_keeps p ts rs (length os) xs s below h.temps;
    passes = enter_passed p.objects xs passed s h.passes;
    known = subst (λ (ys : List ObjectTree). AreKnown os (entered os xs cells) (without_all xs copies) (acts.enter ys xs s)) (sym same)
        (enter_known os xs cells copies s below h.known);
    same = is;
  }

  -- in the sets of two programs with these objects
  pub enter_in : (q p : CsProgramTree) (xs : List ℕ) (s : State) → os ≡ q.objects → os ≡ p.objects → All (λ x. x < length q.objects) xs
      → IsIn os ts rs passed cells copies one s → IsOne behind (acts.enter os xs s)
      → IsIn os ts rs (kept_for xs passed) (entered os xs cells) (without_all xs copies) behind (acts.enter p.objects xs s)
  enter_in q p xs s own same below h is =
      entered_own p xs s (sym same) (subst (λ (ys : List ObjectTree). All (λ x. x < length ys) xs) (sym own) below) h
      (subst (λ (ys : List ObjectTree). IsOne behind (acts.enter ys xs s)) same is)

  pub leave_in : (xs : List ℕ) (s : State) → IsIn os ts rs passed cells copies one s → IsOne behind (acts.leave xs s)
      → IsIn os ts rs (kept_for xs passed) (ended xs cells) (without_all xs copies) behind (acts.leave xs s)
  leave_in xs s h is = record {
    temps = leave_keeps ts rs (length os) xs s h.temps;
    passes = leave_passed xs passed s h.passes;
    known = leave_known os xs cells copies s h.known;
    same = is;
  }

  -- ---- what knows less

  -- all that this set says of a state is said of it by another set
  pub covered_in : (others : List Range) (other : Option Remembered) (more : List (Option KnownCell)) (copied : List (Option ℕ))
      → CoversAll rs passed cells copies one others other more copied → (s : State) → IsIn os ts others other more copied behind s
      → IsIn os ts rs passed cells copies one s
  covered_in others other more copied covers s h = record {
    temps = record { owned = h.temps.owned; places = h.temps.places; size = h.temps.size; kinds = h.temps.kinds; temps = covers.ranges s h.temps.temps };
    passes = covers.passes s h.passes;
    known = covered_known os cells more copies copied s covers.wide covers.fewer h.known;
    same = subst (λ (o : Option State). IsOne o s) (sym covers.unknown) tt;
  }

-- ---- joins

-- two sets for one program have its objects and temporaries
pub in_one : (os us : List ObjectTree) (ts vs : List Scalar) (rs : List Range) (passed : Option Remembered) (cells : List (Option KnownCell))
    (copies : List (Option ℕ)) (one : Option State) (s : State) (q : CsProgramTree) → os ≡ q.objects → q.temps ≡ ts → us ≡ q.objects → q.temps ≡ vs
    → IsIn us vs rs passed cells copies one s → IsIn os ts rs passed cells copies one s
in_one os us ts vs rs passed cells copies one s q o t u v h =
    subst (λ (x : List ObjectTree). IsIn x ts rs passed cells copies one s) (u ∙ sym o)
    (subst (λ (x : List Scalar). IsIn us x rs passed cells copies one s) (sym v ∙ t) h)

module _ (os : List ObjectTree) (ts : List Scalar) (old others new : List Range) (passed other : Option Remembered) (a b j : List (Option KnownCell))
    (p q r : List (Option ℕ)) (one behind : Option State) (size : length new ≡ length old)
    (hulls : (d : ℕ) → d < length old → range_at new d ≡ hull (range_at old d) (range_at others d))
    (cells : (x : ℕ) → IsJoined (cell_of a x) (cell_of b x) (cell_of j x)) (copies : (d : ℕ) → copy_of r d ≡ agreed (copy_of p d) (copy_of q d))
    (s : State) where
  pub first_in : IsIn os ts old passed a p one s → IsIn os ts new (joined_passed passed other) j r None s
  first_in h = record {
    temps = join_left (length os) ts old others new size hulls s h.temps;
    passes = joined_left passed other s h.passes;
    known = joined_first os a b j p q r s cells copies h.known;
    same = tt;
  }

  pub second_in : IsIn os ts others other b q behind s → IsIn os ts new (joined_passed passed other) j r None s
  second_in h = record {
    temps = join_right (length os) ts old others new size hulls s h.temps;
    passes = joined_right passed other s h.passes;
    known = joined_second os a b j p q r s cells copies h.known;
    same = tt;
  }

-- ---- the start

start_in : (q : CsProgramTree) (inputs : List ℤ) (cells : List (Option KnownCell)) (one : Option State) (count : ℕ)
    → ((x : ℕ) → cell_of cells x ≡ read_at q.objects (first q []).memory x) → IsOne one (first q inputs)
    → IsIn q.objects q.temps (replicate (length q.temps) (range_of (point (pos 0)))) None cells (replicate count None) one (first q inputs)
start_in q inputs cells one count read is = record {
  temps = first_stands q inputs;
  passes = tt;
  known = start_known q inputs cells count read;
  same = is;
}

-- ---- the one state

pub itself : (one : Option State) (s : State) → one ≡ Some s → IsOne one s
itself one s is = subst (λ (o : Option State). IsOne o s) (sym is) (record { temps = refl; memory = refl })

-- ---- what is known at all

no_cells : (n : ℕ) → knows_cells (replicate {A = Option KnownCell} n None) ≡ false
no_cells zero = refl
no_cells (suc n) = no_cells n

no_copies : (n : ℕ) → knows_copies (replicate {A = Option ℕ} n None) ≡ false
no_copies zero = refl
no_copies (suc n) = no_copies n

nothing_known_any : (n k m : ℕ) → knows_any (replicate n all_numbers) None (replicate k None) (replicate m None) None ≡ false
nothing_known_any n k m =
    ap (λ (b : Bool). b || false || knows_cells (replicate {A = Option KnownCell} k None) || knows_copies (replicate {A = Option ℕ} m None) || false)
    (unknown_knows n) ∙ ap (λ (b : Bool). false || false || b || knows_copies (replicate {A = Option ℕ} m None) || false) (no_cells k)
    ∙ ap (λ (b : Bool). false || false || false || b || false) (no_copies m)

less : (a b : Bool) → a ≡ false → b ≡ true → (if a then 1 else 0) < (if b then 1 else 0)
less false true g h = omega arith
less true b g h = absurd (cc)
less false false g h = absurd (cc)

-- where something was known, and nothing is, less is known
pub knows_less : (old : Bool) (new : List Range) (dropped : Option Remembered) (cells : List (Option KnownCell)) (copies : List (Option ℕ)) (one : Option State)
    (n k m : ℕ) → IsTrue old → new ≡ replicate n all_numbers → dropped ≡ None → cells ≡ replicate k None → copies ≡ replicate m None → one ≡ None
    → (if knows_any new dropped cells copies one then 1 else 0) < (if old then 1 else 0)
knows_less old new dropped cells copies one n k m h r p c d o =
    less (knows_any new dropped cells copies one) old
    (ap (λ (x : List Range). knows_any x dropped cells copies one) r
    ∙ ap (λ (x : Option Remembered). knows_any (replicate n all_numbers) x cells copies one) p
    ∙ ap (λ (x : List (Option KnownCell)). knows_any (replicate n all_numbers) None x copies one) c
    ∙ ap (λ (x : List (Option ℕ)). knows_any (replicate n all_numbers) None (replicate k None) x one) d
    ∙ ap (λ (x : Option State). knows_any (replicate n all_numbers) None (replicate k None) (replicate m None) x) o
    ∙ nothing_known_any n k m) h

-- ---- facts

-- what is put out of the one state holds in each state of the set
adds_weaker : (before after : List Fact) (P Q : Fact → Type 0) → ((x : Fact) → P x → Q x) → Adds before after P → Adds before after Q
adds_weaker before after P Q f h = (h.0, h.1, All-weaker P Q f h.0 h.2)

-- ---- ranges in types

pub lies_where : (t : IntType) (r own : Range) → own ≡ range_of (type_span t) → greater own.lo r.lo ≡ r.lo → lesser own.hi r.hi ≡ r.hi → LiesIn t r
lies_where t r own is low high = subst (NoWider r) is (record {
  low = subst (AtMost own.lo) low (greater_first own.lo r.lo);
  high = subst (λ (e : Ext). AtMost e own.hi) high (lesser_first own.hi r.hi);
})

pub high_where : (t : IntType) (r own : Range) → own ≡ range_of (type_span t) → LiesIn t r → lesser own.hi r.hi ≡ r.hi
high_where t r own is h = let w : NoWider r own = subst (NoWider r) (sym is) h in
    AtMost_antisymm (lesser own.hi r.hi) r.hi (lesser_second own.hi r.hi) (lesser_greatest r.hi own.hi r.hi w.high (AtMost_refl r.hi))

pub match_lies : (b : Bool) (A : Type 0) → (b ≡ true → A) → (A → b ≡ true) → MatchBool b A (A → ⊥)
match_lies true A f g = f refl
match_lies false A f g = λ a. let no = g a in absurd (cc)

-- ---- sets of the same objects

pub like_in : (os vs : List ObjectTree) (ts us : List Scalar) (rs new : List Range) (passed dropped : Option Remembered) (cells after : List (Option KnownCell))
    (copies left : List (Option ℕ)) (one behind : Option State) (s : State) → vs ≡ os → us ≡ ts → new ≡ rs → dropped ≡ passed → after ≡ cells → left ≡ copies
    → behind ≡ one → IsIn os ts rs passed cells copies one s → IsIn vs us new dropped after left behind s
like_in os vs ts us rs new passed dropped cells after copies left one behind s o t r p c k b h =
    subst (λ (x : List ObjectTree). IsIn x us new dropped after left behind s) (sym o)
    (like os ts us rs new passed dropped cells after copies left one behind s t r p c k b h)

pub start_at : (q : CsProgramTree) (inputs : List ℤ) (os : List ObjectTree) (ts : List Scalar) (rs : List Range) (passed : Option Remembered)
    (cells : List (Option KnownCell)) (copies : List (Option ℕ)) (one : Option State) (count : ℕ) (state : State) → os ≡ q.objects → ts ≡ q.temps
    → rs ≡ replicate (length ts) (range_of (point (pos 0))) → passed ≡ None → copies ≡ replicate count None → one ≡ Some state → one ≡ Some (first q [])
    → ((x : ℕ) → cell_of cells x ≡ read_at os state.memory x) → IsOne one (first q inputs) → IsIn os ts rs passed cells copies one (first q inputs)
start_at q inputs os ts rs passed cells copies one count state o t r p c known is read h =
    let both : Some state ≡ Some (first q []) = sym known ∙ is in
    let same : state ≡ first q [] = cc in
    like_in q.objects os q.temps ts (replicate (length q.temps) (range_of (point (pos 0)))) rs None passed cells cells (replicate count None)
    copies one one (first q inputs) o t (r ∙ ap (λ (xs : List Scalar). replicate (length xs) (range_of (point (pos 0)))) t) p refl c refl
    (start_in q inputs cells one count
    (λ x. read x ∙ ap (λ (ys : List ObjectTree). read_at ys state.memory x) o ∙ ap (λ (s : State). read_at q.objects s.memory x) same) h)

pub facts_in : (q : CsProgramTree) (os : List ObjectTree) (ts : List Scalar) (rs : List Range) (passed : Option Remembered) (cells : List (Option KnownCell))
    (copies : List (Option ℕ)) (one : Option State) (before after : List Fact)
    → Adds before after (λ fact. NamesFactObjects (length q.objects) fact × ((s : State) → IsOne one s → HoldsIn q s.memory fact))
    → Adds before after (λ fact. NamesFactObjects (length q.objects) fact × ((s : State) → IsIn os ts rs passed cells copies one s → HoldsIn q s.memory fact))
facts_in q os ts rs passed cells copies one before after =
    adds_weaker before after (λ fact. NamesFactObjects (length q.objects) fact × ((s : State) → IsOne one s → HoldsIn q s.memory fact))
    (λ fact. NamesFactObjects (length q.objects) fact × ((s : State) → IsIn os ts rs passed cells copies one s → HoldsIn q s.memory fact))
    (λ fact h. (h.0, λ s i. h.1 s i.same))

-- ---- sets with another one state

abbrev pub IsInSet : IntervalStates → Option State → State → Type 0
IsInSet y one s = IsIn (map object_tree y.objects) y.temps.types y.temps.ranges y.temps.passed y.cells y.copies one s
