-- What a formed program does from a typed state is typed.
use Rattle.std.proofs.Common.{◌≡◌, ℕ, zero, suc, ◌<◌, Bool, List, [], ◌∷◌, length, Option, Some, None, refl, sym, subst, arith}
use Rattle.std.specs.Prelude.{IfSome, slice_get}
use Rattle.std.proofs.lemmas.List.Elements.{All-head}
use Rattle.c_layout.specs.WellTyped.{EachOf}
use Rattle.block_mem.specs.declared.types.Scalar.{Scalar}
use Rattle.block_mem.specs.declared.types.Scalar.TheVariants as scalars
use Rattle.block_mem.specs.declared.types.Value.{Value}
use Rattle.c_objects.proofs.Keeping.{Keeps, keeps_objects, keeps_where, objects_keep}
use Rattle.csharp.specs.Trees.{CsExprTree, Const, Null, Temp, Address, Unary, Binary, Convert, CsStmtTree, Call, Return, CsCallTree, CsFunctionTree, CsProgramTree}
use Rattle.csharp.specs.States.{State, first, value_of}
use Rattle.csharp.specs.Actions.{leave, pass}
use Rattle.csharp.specs.Outcomes.{Way, ByExit, ByGoto, ByReturn, Outcome, Normal, Leaves, Fails, Waiting, Stopped, Stuck, Clash, NoFuel, Over, or_stuck}
use Rattle.csharp.specs.Formed.{Around, Each, AreNumbersThere, AreOperandsTyped, GivesType, HasType, IsCallTyped, IsFormed, IsTyped, NamesThere, gathered, label_of, nothing_around}
use Rattle.csharp.specs.Meaning.{bounded_exec, exec, never}
use Rattle.csharp_typed_laws.specs.TypedStates.{FitsInto, IsTypedCode, IsTypedOutcome, IsTypedState, IsTypedWay, ReturnsInto}
use Rattle.csharp_typed_laws.specs.Kept.{BodiesAreTyped, HasWholePointers, PointersStayWhole, RunsAreTyped, TypedStatesStayTyped}
use Rattle.csharp_typed_laws.proofs.Actions.{Typed, copy_typed, ended_typed, enter_typed, given_typed, input_typed, leave_typed, load_typed, pass_typed, set_typed, store_typed, undefine_typed, value_is}
use Rattle.csharp_typed_laws.proofs.Everywhere.{each_always, each_both}
use Rattle.csharp_typed_laws.proofs.Keeping.{ActionsKeep, Ends, Fits, exec_keeps}
use Rattle.csharp_typed_laws.proofs.Memories.{shut_count}
use Rattle.csharp_typed_laws.proofs.Starts.{first_typed}
use Rattle.csharp_typed_laws.proofs.Values.{some_with}

-- ---- code

-- into which temporary code returns, and the labels of its function
pub record Kind : Type 0 where
  pub into : Option ℕ
  pub labels : List ℕ

pub some_there : {A : Type 0} (xs : List A) (k : ℕ) → k < length xs → (x : A) × (slice_get xs k ≡ Some x)
some_there [] k lt = absurd (omega (arith, lt))
some_there (x ∷ xs) zero lt = (x, refl)
some_there (x ∷ xs) (suc k) lt = some_there xs k (omega (arith, lt))

-- what names what is there has a type
pub has_type : (q : CsProgramTree) (e : CsExprTree) → NamesThere q e → (ty : Scalar) × HasType q ty e
has_type q (Const t n) h = (scalars.Int t, refl)
has_type q Null h = (scalars.Pointer, refl)
has_type q (Temp d) h = some_there q.temps d h
has_type q (Address x) h = (scalars.Pointer, refl)
has_type q (Unary op e) h = (_, refl)
has_type q (Binary op e f) h = (_, refl)
has_type q (Convert t e) h = (scalars.Int t, refl)

pub if_some : {A : Type 0} (P : A → Type 0) (o : Option A) (a : A) → IfSome o P → o ≡ Some a → P a
if_some P o a h e = subst (λ o. IfSome o P) e h

module _ (W : Type 0) (q : CsProgramTree) where
  abbrev pub Own : Kind → Around → CsStmtTree → Type 0
  Own k around a = IsTyped q a × AreNumbersThere q k.labels around a × GivesType q k.into a

  abbrev pub Given : Kind → State → Value → Type 0
  Given k s v = FitsInto q k.into (length s.memory.blocks) v

  pub code_of : (into : Option ℕ) (labels : List ℕ) (around : Around) (a : CsStmtTree) → Each (λ here b. IsTyped q b) around a
      → Each (AreNumbersThere q labels) around a → Each (λ here b. GivesType q into b) around a → Each (Own (record { into = into; labels = labels })) around a
  code_of into labels around a types numbers gives =
      each_both (λ here b. IsTyped q b × AreNumbersThere q labels here b) (λ here b. GivesType q into b) (Own (record { into = into; labels = labels }))
      (λ here b h g. (h.0, h.1, g)) around a
      (each_both (λ here b. IsTyped q b) (AreNumbersThere q labels) (λ here b. IsTyped q b × AreNumbersThere q labels here b) (λ here b h n. (h, n)) around a
      types numbers) gives

  pub returns_of : (into : Option ℕ) (around : Around) (a : CsStmtTree) → ReturnsInto q into around a → Each (λ here b. GivesType q into b) around a
  returns_of None around a h = each_always (λ here b. GivesType q None b) (λ here b. tt) around a
  returns_of (Some d) around a h = h

  fits_left : (into : Option ℕ) (n k : ℕ) (v : Value) → k ≡ n → FitsInto q into n v → FitsInto q into k v
  fits_left into n k v e h = subst (λ m. FitsInto q into m v) (sym e) h

  returned_fits : (into : Option ℕ) (labels : List ℕ) (around : Around) (e : CsExprTree) (s : State) (v : Value)
      → Own (record { into = into; labels = labels }) around (Return (Some e)) → Typed W q s → value_of e s ≡ Some v
      → FitsInto q into (length s.memory.blocks) v
  returned_fits None labels around e s v (typed, numbers, gives) k is =
      let ty = has_type q e (All-head (NamesThere q) e [] numbers.0) in
      (ty.0, value_is W q s ty.0 e v k (All-head (AreOperandsTyped q) e [] typed.0) ty.1 is)
  returned_fits (Some d) labels around e s v (typed, numbers, (ty, has, holds)) k is =
      (ty, holds, value_is W q s ty e v k (All-head (AreOperandsTyped q) e [] typed.0) has is)

  module _ (formed : IsFormed q) where
    pub at_function : (P : ℕ → CsFunctionTree → Type 0) (f : ℕ) (function : CsFunctionTree) → EachOf q.functions P → slice_get q.functions f ≡ Some function
        → P f function
    at_function P f function each is = if_some (P f) (slice_get q.functions f) function (each f) is

    pub types_of : (f : ℕ) (function : CsFunctionTree) → slice_get q.functions f ≡ Some function → Each (λ here b. IsTyped q b) nothing_around function.body
    types_of f function is = at_function (λ g h. Each (λ here b. IsTyped q b) nothing_around h.body) f function formed.types is

    pub numbers_of : (f : ℕ) (function : CsFunctionTree) → slice_get q.functions f ≡ Some function
        → Each (AreNumbersThere q (gathered label_of function.body)) nothing_around function.body
    numbers_of f function is = at_function (λ g h. Each (AreNumbersThere q (gathered label_of h.body)) nothing_around h.body) f function formed.numbers is

    pub body_typed : (f : ℕ) (function : CsFunctionTree) → slice_get q.functions f ≡ Some function → IsTypedCode q None nothing_around function.body
    body_typed f function is =
        record { labels = gathered label_of function.body; types = types_of f function is; numbers = numbers_of f function is; returns = tt }

    pub call_typed : (c : CsCallTree) (f : CsFunctionTree) → IsTyped q (Call c) → slice_get q.functions c.function ≡ Some f → IsCallTyped q c f
    call_typed c f typed is = some_with (IsCallTyped q c) (slice_get q.functions c.function) f typed.1 is

    pub actions_keep : ActionsKeep q Kind Own (Typed W q) Given (Keeps W q.objects)
    actions_keep = record {
      set = λ k around d e s own h. set_typed W q s d e h own.0;
      load = λ k around d ty e s own h. load_typed W q s d ty e h own.0;
      store = λ k around ty e f s own h. store_typed W q s ty e f h own.0;
      copy = λ k around n to from s own h. copy_typed W q s n to from h own.0;
      undefine = λ k around x s own h. undefine_typed W q s x h;
      input = λ k around d t s own h. input_typed W q s d t h own.0;
      scope = λ k around xs all s own h free. enter_typed W q s xs h own.1.2 free;
      switch = λ k around e xs all s own h free. enter_typed W q s xs h own.1.2 free;
      left = λ xs s h. leave_typed W q s xs h;
      left_given = λ k xs s v h. fits_left k.into (length s.memory.blocks) (length (leave xs s).memory.blocks) v (shut_count xs s.memory) h;
      returned = λ k around e s v own h is. returned_fits k.into k.labels around e s v own h is;
      called = λ k around c f s t own h is passed.
          let call = call_typed c f own.0 is in
          record {
            kind = record { into = c.value; labels = gathered label_of f.body };
            code = code_of c.value (gathered label_of f.body) nothing_around f.body (types_of c.function f is) (numbers_of c.function f is) call.value;
            passed = if_some (Typed W q) (pass c.args f.params s) t (pass_typed W q s c.args f.params h own.0.0 call.args) passed;
            ended = λ u g. ended_typed W q u c f g call;
            given = λ u v g fits. given_typed W q u c f v g call fits;
          };
      failing = λ s h. h.memory;
    }

    pub outcome_kept : (over : ℕ → Bool) (fuel : ℕ) (into : Option ℕ) (around : Around) (a : CsStmtTree) (s : State) (code : IsTypedCode q into around a)
        → Typed W q s
        → Ends q Kind Own (Typed W q) Given (Keeps W q.objects) (record { into = into; labels = code.labels }) (bounded_exec over q fuel a s)
    outcome_kept over fuel into around a s code h =
        exec_keeps q Kind Own (Typed W q) Given (Keeps W q.objects) actions_keep over fuel (record { into = into; labels = code.labels }) around a s
        (code_of into code.labels around a code.types code.numbers (returns_of into around a code.returns)) h

-- ---- the laws

pub typed_of : (q : CsProgramTree) (s : State) → IsTypedState q s → Typed ⊥ q s
typed_of q s h = record { count = h.count; temps = h.temps; memory = objects_keep q.objects s.memory h.memory }

pub state_of : (W : Type 0) (q : CsProgramTree) (s : State) → Typed W q s → IsTypedState q s
state_of W q s h = record { count = h.count; temps = h.temps; memory = keeps_objects W q.objects s.memory h.memory }

way_typed : (W : Type 0) (q : CsProgramTree) (into : Option ℕ) (labels : List ℕ) (t : State) (way : Way)
    → Fits q Kind (Own W q) (Typed W q) (Given W q) (Keeps W q.objects) (record { into = into; labels = labels }) t way
    → IsTypedWay q into (length t.memory.blocks) way
way_typed W q into labels t (ByExit n) h = tt
way_typed W q into labels t (ByGoto label) h = tt
way_typed W q into labels t (ByReturn None) h = tt
way_typed W q into labels t (ByReturn (Some v)) h = h

outcome_typed : (W : Type 0) (q : CsProgramTree) (into : Option ℕ) (labels : List ℕ) (o : Outcome)
    → Ends q Kind (Own W q) (Typed W q) (Given W q) (Keeps W q.objects) (record { into = into; labels = labels }) o → IsTypedOutcome q into o
outcome_typed W q into labels (Normal t) h = state_of W q t h
outcome_typed W q into labels (Leaves way t) h = (state_of W q t h.0, way_typed W q into labels t way h.1)
outcome_typed W q into labels (Fails chain at kind operand m) h = keeps_objects W q.objects m h
outcome_typed W q into labels Waiting h = tt
outcome_typed W q into labels Stopped h = tt
outcome_typed W q into labels Stuck h = tt
outcome_typed W q into labels Clash h = tt
outcome_typed W q into labels NoFuel h = tt
outcome_typed W q into labels Over h = tt

pub stays_typed : TypedStatesStayTyped
stays_typed over q fuel into around a s formed code h =
    outcome_typed ⊥ q into code.labels (bounded_exec over q fuel a s) (outcome_kept ⊥ q formed over fuel into around a s code (typed_of q s h))

pub bodies_typed : BodiesAreTyped
bodies_typed q f function formed is = body_typed ⊥ q formed f function is

begun_typed : (q : CsProgramTree) (fuel : ℕ) (s : State) (o : Option CsFunctionTree) → IsFormed q → slice_get q.functions q.main ≡ o → IsTypedState q s
    → IsTypedOutcome q None (or_stuck o (λ f. exec q fuel f.body s))
begun_typed q fuel s None formed is h = tt
begun_typed q fuel s (Some f) formed is h = stays_typed never q fuel None nothing_around f.body s formed (bodies_typed q q.main f formed is) h

pub runs_typed : RunsAreTyped
runs_typed q fuel inputs formed bits =
    begun_typed q fuel (first q inputs) (slice_get q.functions q.main) formed refl (state_of ⊥ q (first q inputs) (first_typed q inputs formed.objects.initial bits))

outcome_whole : (q : CsProgramTree) (into : Option ℕ) (labels : List ℕ) (o : Outcome)
    → Ends q Kind (Own (Unit {0}) q) (Typed (Unit {0}) q) (Given (Unit {0}) q) (Keeps (Unit {0}) q.objects) (record { into = into; labels = labels }) o
    → HasWholePointers o
outcome_whole q into labels (Normal t) h = h.memory.whole tt
outcome_whole q into labels (Leaves way t) h = h.0.memory.whole tt
outcome_whole q into labels (Fails chain at kind operand m) h = h.whole tt
outcome_whole q into labels Waiting h = tt
outcome_whole q into labels Stopped h = tt
outcome_whole q into labels Stuck h = tt
outcome_whole q into labels Clash h = tt
outcome_whole q into labels NoFuel h = tt
outcome_whole q into labels Over h = tt

pub stay_whole : PointersStayWhole
stay_whole over q fuel into around a s formed code h whole =
    let typed : Typed (Unit {0}) q s = record { count = h.count; temps = h.temps; memory = keeps_where (Unit {0}) q.objects s.memory h.memory (λ w. whole) } in
    outcome_whole q into code.labels (bounded_exec over q fuel a s) (outcome_kept (Unit {0}) q formed over fuel into around a s code typed)
