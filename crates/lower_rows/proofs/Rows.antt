-- The rows of accesses: checks, loads, stores, copies and fills, each followed from the machine's state to the outcome of its code.
use Rattle.std.proofs.Common.{◌≡◌, ℕ, zero, suc, ◌<◌, List, [], ◌∷◌, map, length, Option, Some, None, refl, sym, ◌∙◌, pos, append-nil, Bool, true, false, subst, ap, ℤ, arith}
use Rattle.std.specs.Prelude.{◌==◌, if◌then◌else◌, slice_get, slice_set, option_map, option_and_then, Result, Ok, Err}
use Rattle.c_syntax_written.specs.declared.place.Pos.{Pos}
use Rattle.c_syntax.specs.declared.alarm.Check.{Check}
use Rattle.c_syntax.specs.declared.alarm.WrongKind.{WrongKind}
use Rattle.c_syntax.specs.declared.operator.Extent.{Extent}
use Rattle.c_syntax.specs.Types.{ObjectTree}
use Rattle.c_syntax.specs.Operand.{Operand}
use Rattle.c_syntax.specs.Failing.{fails}
use Rattle.c_syntax.specs.Program.{TProgramTree}
use Rattle.c_syntax.specs.declared.program.Plan.{Plan}
use Rattle.c_layout.specs.Checks.{load_checks, store_checks, read_checks, write_checks}
use Rattle.c_layout.specs.WellTyped.{IsWellTyped}
use Rattle.block_mem.specs.declared.types.Pointer as pointers
use Rattle.block_mem.specs.declared.types.Scalar.{Scalar}
use Rattle.block_mem.specs.declared.types.Value.{Value}
use Rattle.block_mem.specs.declared.types.Value.TheVariants as values
use Rattle.block_mem.specs.Blocks as blocks
use Rattle.block_mem.specs.Bytes.{size_of}
use Rattle.c_values.specs.Accesses.{load_looks, store_looks, read_looks, write_looks, loaded_value, ok_of}
use Rattle.c_values.specs.Looks.{Look, Judged, Passes, FailsAs, NoOperand, judge_one, judge, outcome, value_or_stuck}
use Rattle.c_values.specs.Memory as memory
use Rattle.c_values.specs.Memory.{load_outcome}
use Rattle.c_values.specs.Operators.{moved, elements, binary_result}
use Rattle.c_values.specs.Places.{ObjectMemory, place_of, spot_at}
use Rattle.c_objects.specs.Opening.{address}
use Rattle.c_syntax.specs.declared.operator.TBinaryOp.TheVariants as binaries
use Rattle.c_syntax_written.specs.declared.int_type.IntType.TheVariants as int_types
use Rattle.std.proofs.lemmas.Int.{ints}
use Rattle.std.proofs.lemmas.Bool.{eqb-true}
use Rattle.lower_trees.specs.Checking as checking
use Rattle.c_values.proofs.Accesses.{loads}
use Rattle.c_values.specs.Values.{plain_type}
use Rattle.c_objects.specs.Writing.{stored_at, copied_at, unless_wrong}
use Rattle.c_steps.specs.Work.{Item, LoadAt, StoreAt, CopyAt, Fill}
use Rattle.c_steps.specs.States.{Held, Struct, State, state, Next, goes, held, judged, with_value, with_some}
use Rattle.c_steps.specs.Steps.{step}
use Rattle.c_steps.specs.Runs.{calls_in, chain_of}
use Rattle.c_steps_laws.specs.Fits.{Fits}
use Rattle.c_steps_laws.proofs.NeededRows.{needs}
use Rattle.c_steps_laws.proofs.Sound.{sound}
use Rattle.csharp.specs.Trees.{CsExprTree, Const, Null, Temp, Address, Unary, Binary, Convert, CsCheckTree, CsStmtTree, Nothing, Sequence, CsProgramTree}
use Rattle.csharp.specs.Trees as code
use Rattle.csharp.specs.States as low
use Rattle.csharp.specs.States.{value_of, look_of, on_both, if_taken}
use Rattle.csharp.specs.Actions.{put, loaded_at, with_memory}
use Rattle.csharp.specs.Outcomes as outs
use Rattle.csharp.specs.Outcomes.{Way, Outcome, Normal, Leaves, Fails, Stuck, Clash, NoFuel, Over, then_do, told, to_normal}
use Rattle.csharp.specs.Meaning.{bounded_exec}
use Rattle.lower_trees.specs.Checking.{checks, access_one, plain_one, load_list, store_list, read_list, write_list, address_at}
use Rattle.lower_trees.specs.LowerProgram.{lower}
use Rattle.lower_rows.proofs.Steps.{Leads, Follows, one}

-- ---- goals

abbrev pub no_way : Way → low.State → Option Next
no_way k t = None

-- behind an expression's code: its value is on the stack
abbrev pub ValueGoal : CsExprTree → List Item → List Held → low.State → State → Type 0
ValueGoal a w s t u = (v : Value) × (value_of a t ≡ Some v) × (u ≡ state w (held v ∷ s) t.memory t.inputs)

-- behind a statement's code, and where a value was dropped
abbrev pub RestGoal : List Item → List Held → low.State → State → Type 0
RestGoal w s t u = u ≡ state w s t.memory t.inputs

abbrev pub ValueFollows : (ℕ → Bool) → TProgramTree → ℕ → State → List Item → List Held → CsExprTree → Outcome → Type 0
ValueFollows over p n s0 w s a o = Follows over p n s0 (calls_in w) (ValueGoal a w s) no_way o

-- ---- temporaries

pub set_here : {A : Type 0} (xs : List A) (i : ℕ) (a : A) → i < length xs → slice_get (slice_set xs i a) i ≡ Some a
set_here [] i a h = absurd (omega (arith, h))
set_here (x ∷ xs) zero a h = refl
set_here (x ∷ xs) (suc i) a h = set_here xs i a (omega (arith, h))

-- ---- what looks at the same

pub looks_load : (at : Pos) (ty : Scalar) (a : CsExprTree) (t : low.State) (v : Value) → value_of a t ≡ Some v
    → map (λ c. look_of c t) (load_list at ty a) ≡ load_looks t.memory (Some ty) v
looks_load at ty a t v e = rw e refl

pub looks_store : (at : Pos) (ty : Scalar) (a : CsExprTree) (t : low.State) (v : Value) → value_of a t ≡ Some v
    → map (λ c. look_of c t) (store_list at ty a) ≡ store_looks t.memory (Some ty) v
looks_store at ty a t v e = rw e refl

pub looks_read : (at : Pos) (size align : ℕ) (a : CsExprTree) (t : low.State) (v : Value) → value_of a t ≡ Some v
    → map (λ c. look_of c t) (read_list at size align a) ≡ read_looks t.memory v size align
looks_read at size align a t v e = rw e refl

pub looks_write : (at : Pos) (size align : ℕ) (a : CsExprTree) (t : low.State) (v : Value) → value_of a t ≡ Some v
    → map (λ c. look_of c t) (write_list at size align a) ≡ write_looks t.memory v size align
looks_write at size align a t v e = rw e refl

-- ---- a value does not look at what blocks hold

and_then_same : {A B : Type 0} (f : A → Option B) (x y : Option A) → x ≡ y → option_and_then f x ≡ option_and_then f y
and_then_same f x y e = ap (λ z. option_and_then f z) e

pub value_places : (e : CsExprTree) (s t : low.State) → t.memory.places ≡ s.memory.places → t.temps ≡ s.temps → value_of e t ≡ value_of e s
value_places (Const ty n) s t e f = refl
value_places Null s t e f = refl
value_places (Temp d) s t e f = rw f refl
value_places (Address x) s t e f = rw e refl
value_places (Unary op a) s t e f = rw (value_places a s t e f) refl
value_places (Binary op a b) s t e f = rw (value_places a s t e f) (rw (value_places b s t e f) refl)
value_places (Convert ty a) s t e f = rw (value_places a s t e f) refl

-- ---- what a step gives

pub outcome_judged : (j : Judged) (o : Option Value) (at : Pos) (next : Value → Next) → with_value (outcome j o) at next ≡ judged j at (with_some o next)
outcome_judged Passes None at next = refl
outcome_judged Passes (Some v) at next = refl
outcome_judged (FailsAs k x) o at next = refl
outcome_judged NoOperand o at next = refl

-- where the looks of a load pass, memory gives what stands there
given_case : (s : _) (r : Result Value WrongKind) (o : Option Value) → value_or_stuck o ≡ load_outcome s r → ok_of r ≡ o
given_case s (Ok x) None e = absurd (cc)
given_case s (Ok x) (Some v) e = let same : v ≡ x = cc in ap (λ z. Some z) (sym same)
given_case s (Err k) None e = absurd (cc)
given_case s (Err k) (Some v) e = absurd (cc)

pub load_same : (objects : List ObjectTree) (m : ObjectMemory) (q : pointers.Pointer) (ty : Scalar) → memory.Fits objects m q.block
    → judge objects (load_looks m (Some ty) (values.Ptr q)) ≡ Passes → loaded_at m ty (values.Ptr q) ≡ loaded_value m (Some ty) (values.Ptr q)
load_same objects m q ty f passes =
    given_case (spot_at m q) (blocks.load m.blocks q ty) (loaded_value m (Some ty) (values.Ptr q))
    (subst (λ j. outcome j (loaded_value m (Some ty) (values.Ptr q)) ≡ load_outcome (spot_at m q) (blocks.load m.blocks q ty)) passes (loads objects m q ty f))

-- a store and a copy leave objects where they live
unless_places : (w : Option WrongKind) (m x n : ObjectMemory) → x.places ≡ m.places → unless_wrong w (Some x) ≡ Some n → n.places ≡ m.places
unless_places None m x n e f = let same : x ≡ n = cc in subst (λ z. z.places ≡ m.places) same e
unless_places (Some k) m x n e f = absurd (cc)

pub stored_places : (m : ObjectMemory) (ty : Scalar) (v u : Value) (n : ObjectMemory) → stored_at m ty v u ≡ Some n → n.places ≡ m.places
stored_places m ty (values.Int t k) u n e = absurd (cc)
stored_places m ty (values.Ptr q) u n e = unless_places (blocks.wrong_access m.blocks q (size_of ty) (size_of ty) false) m _ n refl e
stored_places m ty values.Null u n e = absurd (cc)

twice_places : (w w' : Option WrongKind) (m x n : ObjectMemory) → x.places ≡ m.places → unless_wrong w (unless_wrong w' (Some x)) ≡ Some n → n.places ≡ m.places
twice_places None w' m x n e f = unless_places w' m x n e f
twice_places (Some k) w' m x n e f = absurd (cc)

pub copied_places : (m : ObjectMemory) (v u : Value) (k : ℕ) (n : ObjectMemory) → copied_at m v u k ≡ Some n → n.places ≡ m.places
copied_places m (values.Ptr to) (values.Ptr from) k n e =
    twice_places (blocks.wrong_access m.blocks from k 1 false) (blocks.wrong_access m.blocks to k 1 false) m _ n refl e
copied_places m (values.Ptr to) (values.Int t z) k n e = absurd (cc)
copied_places m (values.Ptr to) values.Null k n e = absurd (cc)
copied_places m (values.Int t z) u k n e = absurd (cc)
copied_places m values.Null u k n e = absurd (cc)

-- an address in an object that lives
moved_place : (b k : ℕ) → moved (values.Ptr (record { block = b; offset = pos 0 })) (elements 1 (pos k)) ≡ Some (values.Ptr (record { block = b; offset = pos k }))
moved_place b k = ap (λ z. Some (values.Ptr (record { block = b; offset = z }))) (omega (arith, ints))

placed : (k : ℕ) (o : Option ℕ)
    → option_and_then (λ v. option_and_then (if_taken (binaries.PointerPlusInt 1) (binary_result (binaries.PointerPlusInt 1)) v) (Some (values.Int int_types.Long (pos k))))
    (option_map (λ b. values.Ptr (record { block = b; offset = pos 0 })) o)
    ≡ option_map (λ b. values.Ptr (record { block = b; offset = pos k })) o
placed k None = refl
placed k (Some b) = moved_place b k

address_case : (x offset : ℕ) (t : low.State) (z : Bool) → (offset == 0) ≡ z
    → value_of (if z then Address x else checking.moved (Address x) offset) t ≡ address t.memory x offset
address_case x offset t true e = ap (λ k. address t.memory x k) (sym (eqb-true offset 0 e))
address_case x offset t false e = placed offset (place_of t.memory x)

pub address_value : (x offset : ℕ) (t : low.State) → value_of (address_at x offset) t ≡ address t.memory x offset
address_value x offset t = address_case x offset t (offset == 0) refl

filled_same : (x offset : ℕ) (ty : Scalar) (b : CsExprTree) (t : low.State) (u : Value) → value_of b t ≡ Some u
    → on_both (address_at x offset) b t (stored_at t.memory ty) ≡ option_and_then (λ place. stored_at t.memory ty place u) (address t.memory x offset)
filled_same x offset ty b t u e = rw (address_value x offset t) (rw e refl)

module _ (over : ℕ → Bool) (p : TProgramTree) (plan : Plan) (n : ℕ) where
  abbrev pub run : CsStmtTree → low.State → Outcome
  run a t = bounded_exec over (lower p plan) n a t

  -- ---- checks in a row are judged together

  told_if : (at : Pos) (l : low.State) (k : WrongKind) (x : Operand) (rest : Judged) (go : low.State → Outcome) (z : Bool) → go l ≡ told rest at l
      → then_do (told (if z then FailsAs k x else Passes) at l) go ≡ told (if z then FailsAs k x else rest) at l
  told_if at l k x rest go true e = refl
  told_if at l k x rest go false e = e

  told_one : (at : Pos) (l : low.State) (c : Check) (o : Option Operand) (rest : Judged) (go : low.State → Outcome) → go l ≡ told rest at l
      → then_do (told (judge_one p.objects c o Passes) at l) go ≡ told (judge_one p.objects c o rest) at l
  told_one at l c None rest go e = refl
  told_one at l c (Some x) rest go e = told_if at l c.kind x rest go (fails p.objects c x) e

  -- all at one place
  abbrev pub AllAt : Pos → List CsCheckTree → Type 0
  AllAt at [] = Unit {0}
  AllAt at (c ∷ cs) = (c.pos ≡ at) × AllAt at cs

  pub all_mapped : (at : Pos) (f : Check → CsCheckTree) → ((c : Check) → (f c).pos ≡ at) → (cs : List Check) → AllAt at (map f cs)
  all_mapped at f e [] = tt
  all_mapped at f e (c ∷ cs) = (e c, all_mapped at f e cs)

  pub checks_told : (at : Pos) (cs : List CsCheckTree) (l : low.State) → AllAt at cs → run (checks cs) l ≡ told (judge p.objects (map (λ c. look_of c l) cs)) at l
  checks_told at [] l h = refl
  checks_told at (c ∷ cs) l (e, h) = rw e (told_one at l c.check (look_of c l).operand _ _ (checks_told at cs l h))

  checked : (item : Item) (w : List Item) (s : List Held) (l : low.State) (at : Pos) (j : Judged) (next : Next) (go : low.State → Outcome) (chain : List Pos)
      (goal : low.State → State → Type 0) (way : Way → low.State → Option Next)
      → chain_of (item ∷ w) ≡ chain → step p (state (item ∷ w) s l.memory l.inputs) ≡ judged j at next
      → (j ≡ Passes → step p (state (item ∷ w) s l.memory l.inputs) ≡ next → Follows over p n (state (item ∷ w) s l.memory l.inputs) chain goal way (go l))
      → Follows over p n (state (item ∷ w) s l.memory l.inputs) chain goal way (then_do (told j at l) go)
  checked item w s l at Passes next go chain goal way c e f = f refl e
  checked item w s l at (FailsAs k x) next go chain goal way c e f = (_, (0, refl), e, refl, c ∙ sym (append-nil chain))
  checked item w s l at NoOperand next go chain goal way c e f = (_, (0, refl), e)

  -- checks, and what comes behind them
  pub checks_follow : (item : Item) (w : List Item) (s : List Held) (l : low.State) (at : Pos) (cs : List CsCheckTree) (ls : List Look) (next : Next)
      (go : low.State → Outcome) (chain : List Pos) (goal : low.State → State → Type 0) (way : Way → low.State → Option Next)
      → AllAt at cs → map (λ c. look_of c l) cs ≡ ls → chain_of (item ∷ w) ≡ chain
      → step p (state (item ∷ w) s l.memory l.inputs) ≡ judged (judge p.objects ls) at next
      → (judge p.objects ls ≡ Passes → step p (state (item ∷ w) s l.memory l.inputs) ≡ next
      → Follows over p n (state (item ∷ w) s l.memory l.inputs) chain goal way (go l))
      → Follows over p n (state (item ∷ w) s l.memory l.inputs) chain goal way (then_do (run (checks cs) l) go)
  checks_follow item w s l at cs ls next go chain goal way all e c f g =
      rw (checks_told at cs l all) (rw e (checked item w s l at (judge p.objects ls) next go chain goal way c f g))

  -- checks that are judged alike, and what comes behind them
  pub checks_judged : (item : Item) (w : List Item) (s : List Held) (l : low.State) (at : Pos) (cs : List CsCheckTree) (ls : List Look) (next : Next)
      (go : low.State → Outcome) (chain : List Pos) (goal : low.State → State → Type 0) (way : Way → low.State → Option Next)
      → AllAt at cs → judge p.objects (map (λ c. look_of c l) cs) ≡ judge p.objects ls → chain_of (item ∷ w) ≡ chain
      → step p (state (item ∷ w) s l.memory l.inputs) ≡ judged (judge p.objects ls) at next
      → (judge p.objects ls ≡ Passes → step p (state (item ∷ w) s l.memory l.inputs) ≡ next
      → Follows over p n (state (item ∷ w) s l.memory l.inputs) chain goal way (go l))
      → Follows over p n (state (item ∷ w) s l.memory l.inputs) chain goal way (then_do (run (checks cs) l) go)
  checks_judged item w s l at cs ls next go chain goal way all e c f g =
      rw (checks_told at cs l all) (rw e (checked item w s l at (judge p.objects ls) next go chain goal way c f g))

  -- ---- values

  pub in_temp : (s0 : State) (w : List Item) (s : List Held) (d : ℕ) (t : low.State) (v : Value) → d < length t.temps
      → Leads p s0 (state w (held v ∷ s) t.memory t.inputs) → ValueFollows over p n s0 w s (Temp d) (Normal (put t d v))
  in_temp s0 w s d t v h l = (_, l, (v, set_here t.temps d v h, refl))

  pub as_it_is : (s0 : State) (w : List Item) (s : List Held) (a : CsExprTree) (t : low.State) (v : Value) → value_of a t ≡ Some v
      → Leads p s0 (state w (held v ∷ s) t.memory t.inputs) → ValueFollows over p n s0 w s a (Normal t)
  as_it_is s0 w s a t v e l = (_, l, (v, e, refl))

  -- ---- a load: what memory gives is what the machine gives, since each block that was made has its object's size

  load_case : (s0 : State) (w : List Item) (s : List Held) (d : ℕ) (t : low.State) (o : Option Value) → d < length t.temps
      → step p s0 ≡ with_some o (λ new. goes w (held new ∷ s) t.memory t.inputs) → ValueFollows over p n s0 w s (Temp d) (to_normal (option_map (put t d) o))
  load_case s0 w s d t None h e = (_, (0, refl), e)
  load_case s0 w s d t (Some v) h e = in_temp s0 w s d t v h (one p _ _ e)

  load_by : (at : Pos) (ty : Scalar) (w : List Item) (s : List Held) (d : ℕ) (a : CsExprTree) (t : low.State) → IsWellTyped p → d < length t.temps → (v : Value) → value_of a t ≡ Some v → Fits p (state (LoadAt at (Some ty) ∷ w) (held v ∷ s) t.memory t.inputs)
      → judge p.objects (load_looks t.memory (Some ty) v) ≡ Passes
      → step p (state (LoadAt at (Some ty) ∷ w) (held v ∷ s) t.memory t.inputs) ≡ with_some (loaded_value t.memory (Some ty) v) (λ new. goes w (held new ∷ s) t.memory t.inputs)
      → ValueFollows over p n (state (LoadAt at (Some ty) ∷ w) (held v ∷ s) t.memory t.inputs) w s (Temp d) (to_normal (option_map (put t d) (loaded_at t.memory ty v)))
  load_by at ty w s d a t ok h (values.Int u k) e fits passes f = load_case _ w s d t None h f
  load_by at ty w s d a t ok h values.Null e fits passes f = load_case _ w s d t None h f
  load_by at ty w s d a t ok h (values.Ptr q) e fits passes f =
      let made = (needs ok fits).1.1 in
      rw (load_same p.objects t.memory q ty ((sound p ok _ fits).fits_at (values.Ptr q) made) passes) (load_case _ w s d t _ h f)

  pub load_row : (at : Pos) (ty : Scalar) (w : List Item) (s : List Held) (d : ℕ) (a : CsExprTree) (t : low.State) (v : Value) → IsWellTyped p
      → d < length t.temps → value_of a t ≡ Some v → Fits p (state (LoadAt at (Some ty) ∷ w) (held v ∷ s) t.memory t.inputs)
      → ValueFollows over p n (state (LoadAt at (Some ty) ∷ w) (held v ∷ s) t.memory t.inputs) w s (Temp d)
      (then_do (run (checks (load_list at ty a)) t) (λ l. run (code.Load d ty a) l))
  load_row at ty w s d a t v ok h e fits =
      checks_follow (LoadAt at (Some ty)) w (held v ∷ s) t at (load_list at ty a) (load_looks t.memory (Some ty) v)
      (with_some (loaded_value t.memory (Some ty) v) (λ new. goes w (held new ∷ s) t.memory t.inputs)) _ (calls_in w) (ValueGoal (Temp d) w s) no_way
      (all_mapped at (access_one at ty a) (λ c. refl) (load_checks (plain_type (Some ty)))) (looks_load at ty a t v e) refl
      (outcome_judged (judge p.objects (load_looks t.memory (Some ty) v)) (loaded_value t.memory (Some ty) v) at _)
      (λ passes f. rw e (load_by at ty w s d a t ok h v e fits passes f))

  -- ---- a store: the same action in both languages

  store_case : (s0 : State) (w : List Item) (s : List Held) (b : CsExprTree) (t : low.State) (shown : Value) (o : Option ObjectMemory)
      → ((m : ObjectMemory) → o ≡ Some m → m.places ≡ t.memory.places) → value_of b t ≡ Some shown
      → step p s0 ≡ with_some o (λ m. goes w (held shown ∷ s) m t.inputs)
      → ValueFollows over p n s0 w s b (to_normal (with_memory t o))
  store_case s0 w s b t shown None k e f = (_, (0, refl), f)
  store_case s0 w s b t shown (Some m) k e f =
      as_it_is s0 w s b (record t { memory = m }) shown (value_places b t (record t { memory = m }) (k m refl) refl ∙ e) (one p _ _ f)

  pub store_row : (at : Pos) (ty : Scalar) (w : List Item) (s : List Held) (a b : CsExprTree) (t : low.State) (v u : Value)
      → value_of a t ≡ Some v → value_of b t ≡ Some u
      → ValueFollows over p n (state (StoreAt at (Some ty) ∷ w) (held u ∷ held v ∷ s) t.memory t.inputs) w s b
      (then_do (run (checks (store_list at ty a)) t) (λ l. run (code.Store ty a b) l))
  store_row at ty w s a b t v u e f =
      checks_follow (StoreAt at (Some ty)) w (held u ∷ held v ∷ s) t at (store_list at ty a) (store_looks t.memory (Some ty) v)
      (with_some (stored_at t.memory ty v u) (λ m. goes w (held u ∷ s) m t.inputs)) _ (calls_in w) (ValueGoal b w s) no_way
      (all_mapped at (plain_one at a) (λ c. refl) (store_checks (plain_type (Some ty)))) (looks_store at ty a t v e) refl refl
      (λ passes g. rw e (rw f (store_case _ w s b t u (stored_at t.memory ty v u) (λ m. stored_places t.memory ty v u m) f g)))

  -- ---- a struct that is copied: its source was checked at the end of the code that named it, and the target is checked now

  -- behind a source's code: the place of its bytes is on the stack, under an item that will look at it first, and these looks pass
  abbrev pub SourceGoal : ℕ → ℕ → CsExprTree → Item → List Item → List Held → low.State → State → Type 0
  SourceGoal size align a item w s t u =
      (from : Pos) × (v : Value) × (value_of a t ≡ Some v) × (u ≡ state (item ∷ w) (Struct from v ∷ s) t.memory t.inputs)
      × (judge p.objects (read_looks t.memory v size align) ≡ Passes)

  -- an item that looks at its source first
  abbrev pub ReadsFirst : ℕ → ℕ → Item → List Item → List Held → Type 0
  ReadsFirst size align item w s =
      (from : Pos) (v : Value) (m : ObjectMemory) (i : List ℤ)
      → (next : Next) × (step p (state (item ∷ w) (Struct from v ∷ s) m i) ≡ judged (judge p.objects (read_looks m v size align)) from next)

  pub source_row : (size align : ℕ) (item : Item) (w : List Item) (s : List Held) (from : Pos) (a : CsExprTree) (t : low.State) (v : Value)
      → ReadsFirst size align item w s → chain_of (item ∷ w) ≡ calls_in w → value_of a t ≡ Some v
      → Follows over p n (state (item ∷ w) (Struct from v ∷ s) t.memory t.inputs) (calls_in w) (SourceGoal size align a item w s) no_way
      (then_do (run (checks (read_list from size align a)) t) (λ l. Normal l))
  source_row size align item w s from a t v reads c e =
      checks_follow item w (Struct from v ∷ s) t from (read_list from size align a) (read_looks t.memory v size align) (reads from v t.memory t.inputs).0 _
      (calls_in w) (SourceGoal size align a item w s) no_way (all_mapped from (plain_one from a) (λ c. refl) (read_checks size align)) (looks_read from size align a t v e) c (reads from v t.memory t.inputs).1
      (λ passes f. (_, (0, refl), (from, v, e, refl, passes)))

  copy_case : (s0 : State) (w : List Item) (s : List Held) (at : Pos) (a : CsExprTree) (t : low.State) (shown : Value) (o : Option ObjectMemory)
      → ((m : ObjectMemory) → o ≡ Some m → m.places ≡ t.memory.places) → value_of a t ≡ Some shown
      → step p s0 ≡ with_some o (λ m. goes w (Struct at shown ∷ s) m t.inputs)
      → Follows over p n s0 (calls_in w) (λ l u. (v : Value) × (value_of a l ≡ Some v) × (u ≡ state w (Struct at v ∷ s) l.memory l.inputs)) no_way
      (to_normal (with_memory t o))
  copy_case s0 w s at a t shown None k e f = (_, (0, refl), f)
  copy_case s0 w s at a t shown (Some m) k e f =
      (_, one p _ _ f, (shown, value_places a t (record t { memory = m }) (k m refl) refl ∙ e, refl))

  pub copy_row : (at : Pos) (extent : Extent) (w : List Item) (s : List Held) (from : Pos) (a b : CsExprTree) (t : low.State) (v u : Value)
      → judge p.objects (read_looks t.memory u extent.size extent.align) ≡ Passes → value_of a t ≡ Some v → value_of b t ≡ Some u
      → Follows over p n (state (CopyAt at extent ∷ w) (Struct from u ∷ held v ∷ s) t.memory t.inputs) (calls_in w)
      (λ l x. (z : Value) × (value_of a l ≡ Some z) × (x ≡ state w (Struct at z ∷ s) l.memory l.inputs)) no_way
      (then_do (run (checks (write_list at extent.size extent.align a)) t) (λ l. run (code.CopyBytes extent.size a b) l))
  copy_row at extent w s from a b t v u passes e f =
      checks_follow (CopyAt at extent) w (Struct from u ∷ held v ∷ s) t at (write_list at extent.size extent.align a)
      (write_looks t.memory v extent.size extent.align) (with_some (copied_at t.memory v u extent.size) (λ m. goes w (Struct at v ∷ s) m t.inputs)) _ (calls_in w)
      _ no_way (all_mapped at (plain_one at a) (λ c. refl) (write_checks extent.size extent.align)) (looks_write at extent.size extent.align a t v e) refl (rw passes refl)
      (λ writes g. rw e (rw f (copy_case _ w s at a t v (copied_at t.memory v u extent.size) (λ m. copied_places t.memory v u extent.size m) e g)))

  then_normal : (o : Outcome) → then_do o (λ t. Normal t) ≡ o
  then_normal (Normal t) = refl
  then_normal (Leaves k t) = refl
  then_normal (Fails c at k x m) = refl
  then_normal outs.Waiting = refl
  then_normal outs.Stopped = refl
  then_normal Stuck = refl
  then_normal Clash = refl
  then_normal NoFuel = refl
  then_normal Over = refl

  -- checks with nothing behind them, where what is looked at is judged alike
  pub checks_end : (item : Item) (w : List Item) (s : List Held) (l : low.State) (at : Pos) (cs : List CsCheckTree) (ls : List Look) (next : Next) (chain : List Pos)
      (goal : low.State → State → Type 0) (way : Way → low.State → Option Next)
      → AllAt at cs → judge p.objects (map (λ c. look_of c l) cs) ≡ judge p.objects ls → chain_of (item ∷ w) ≡ chain
      → step p (state (item ∷ w) s l.memory l.inputs) ≡ judged (judge p.objects ls) at next
      → (judge p.objects ls ≡ Passes → step p (state (item ∷ w) s l.memory l.inputs) ≡ next
      → Follows over p n (state (item ∷ w) s l.memory l.inputs) chain goal way (Normal l))
      → Follows over p n (state (item ∷ w) s l.memory l.inputs) chain goal way (run (checks cs) l)
  checks_end item w s l at cs ls next chain goal way all e c f g =
      subst (λ o. Follows over p n (state (item ∷ w) s l.memory l.inputs) chain goal way o) (then_normal (run (checks cs) l))
      (rw (checks_told at cs l all) (rw e (checked item w s l at (judge p.objects ls) next (λ t. Normal t) chain goal way c f g)))

  -- ---- an item of an initialiser: no check of the place, and the same action in both languages

  fill_case : (s0 : State) (w : List Item) (s : List Held) (t : low.State) (o : Option ObjectMemory) (r : Option ObjectMemory) → r ≡ o
      → step p s0 ≡ with_some o (λ m. goes w s m t.inputs) → Follows over p n s0 (calls_in w) (RestGoal w s) no_way (to_normal (with_memory t r))
  fill_case s0 w s t None r e f = rw e (_, (0, refl), f)
  fill_case s0 w s t (Some m) r e f = rw e (_, one p _ _ f, refl)

  pub fill_row : (x offset : ℕ) (ty : Scalar) (w : List Item) (s : List Held) (b : CsExprTree) (t : low.State) (u : Value) → value_of b t ≡ Some u
      → Follows over p n (state (Fill x offset (Some ty) ∷ w) (held u ∷ s) t.memory t.inputs) (calls_in w) (RestGoal w s) no_way
      (run (code.Store ty (address_at x offset) b) t)
  fill_row x offset ty w s b t u e =
      fill_case _ w s t (option_and_then (λ place. stored_at t.memory ty place u) (address t.memory x offset)) _ (filled_same x offset ty b t u e) refl

  pub source_end : (size align : ℕ) (item : Item) (w : List Item) (s : List Held) (from : Pos) (a : CsExprTree) (t : low.State) (v : Value)
      → ReadsFirst size align item w s → chain_of (item ∷ w) ≡ calls_in w → value_of a t ≡ Some v
      → Follows over p n (state (item ∷ w) (Struct from v ∷ s) t.memory t.inputs) (calls_in w) (SourceGoal size align a item w s) no_way
      (run (checks (read_list from size align a)) t)
  source_end size align item w s from a t v reads c e =
      subst (λ o. Follows over p n (state (item ∷ w) (Struct from v ∷ s) t.memory t.inputs) (calls_in w) (SourceGoal size align a item w s) no_way o)
      (then_normal (run (checks (read_list from size align a)) t)) (source_row size align item w s from a t v reads c e)
