-- A program that is lowered is formed; its checks, calls, loops and labels are those of the source; and gotos that lead forwards stay so.
use Rattle.std.proofs.Common.{◌≡◌, ℕ, suc, ◌+◌, ◌*◌, ◌<◌, ◌≤◌, ◌^◌, List, [], ◌∷◌, ◌++◌, length, Option, Some, None, true, false, refl, sym, ap, ◌∙◌, subst, arith}
use Rattle.std.specs.Prelude.{All, AllPairs, Contains, IfSome, IsSomeAnd, if◌then◌else◌, option_map, unwrap_or, slice_get, slice_index_or}
use Rattle.std.specs.List.{flat_map}
use Rattle.std.proofs.lemmas.List.Elements.{All-nil}
use Rattle.std.proofs.lemmas.Option.{slice_get_within}
use Rattle.c_syntax.specs.declared.program.InitByte.{InitByte}
use Rattle.c_syntax.specs.declared.program.InitByte.TheVariants as bytes
use Rattle.c_syntax.specs.declared.program.Plan.{Plan}
use Rattle.c_syntax.specs.Types.{ObjectTree}
use Rattle.c_syntax.specs.TypedStmt.{TStmtTree}
use Rattle.c_syntax.specs.Program.{TFunctionTree, TProgramTree}
use Rattle.c_layout.specs.Calls.{PlacedCall, function_calls, stmt_calls}
use Rattle.c_layout.specs.Checks.{function_checks, stmt_checks}
use Rattle.c_layout.specs.Jumps.{labels_of, listed_of}
use Rattle.c_layout.specs.Plans.{IsStart}
use Rattle.c_layout.specs.WellTyped.{IsTypedByte, IsTypedObject, EachOf, listed, listed_by}
use Rattle.block_mem.specs.declared.types.Scalar.{Scalar}
use Rattle.c_objects.proofs.Listed.{times, times_append}
use Rattle.c_steps.specs.Bounds.{IsForwardOnly, IsInputFree, IsNoJumpBack, label_uses, stmt_reads_input}
use Rattle.c_steps_laws.specs.Fits.{Runs}
use Rattle.c_steps_laws.proofs.Orders.{body_of, some_is}
use Rattle.c_steps_laws.proofs.Runs.{is_runnable}
use Rattle.c_steps_laws.proofs.Sizes.{all_at, element_of}
use Rattle.csharp.specs.Trees.{CsCallTree, CsStmtTree, Nothing, Set, Load, Store, CopyBytes, Undefine, Checked, Input, Assume, Sequence, If, Loop, Block, Exit, Scope, Switch, Goto, Call, Return, Label, Case, Default, CsFunctionTree, CsProgramTree}
use Rattle.csharp.specs.Formed.{Around, Each, nothing_around, gathered, label_of, labels_among, objects_of, IsScoped, IsFormed, IsFormedByte, AreObjectsFormed, AreNumbersThere, AreObjectsLive, IsTyped, IsCheckFormed, StaysOutside, LeadsDown, IsCallApart, AreCasesFormed, AreLabelsOnce, ParamsThere, AreArgsApart, Throughout}
use Rattle.csharp_laws.specs.Enough as forward
use Rattle.csharp_laws.specs.Enough.{AreForward, IsForward}
use Rattle.lower_trees.specs.Correct.{IsOf, loops_of, marks_of}
use Rattle.lower_trees.specs.LowerStmt.{InLoop}
use Rattle.lower_trees.specs.LowerProgram.{Placed, no_function, function_in, functions_from, param_temps}
use Rattle.lower_formed.specs.Right.{Right}
use Rattle.lower_formed.specs.Laws.{LoweredIsFormed, LoweredIsMade, LoweredLeadsForward}
use Rattle.lower_formed.proofs.Bodied.{args_apart, block_alone, body_every, body_objects, params_below}
use Rattle.lower_formed.proofs.Depths.{AllFrom}
use Rattle.lower_formed.proofs.Each.{all_each, each_map, every_each, function_at, functions_count, some_map}
use Rattle.lower_formed.proofs.Forwards.{gotos_parted}
use Rattle.lower_formed.proofs.Labels.{Unlike, labels_parted}
use Rattle.lower_formed.specs.Every.{Every}
use Rattle.lower_formed.proofs.Made.{AsksNothing}
use Rattle.lower_formed.proofs.MadeStmts.{made_stmt}
use Rattle.lower_formed.proofs.Order.{first}
use Rattle.lower_formed.proofs.Placing.{Bodied, all, q, n, bodiless, callee, callee_first, callee_rows, code, frame, low_at, right_at, rooms, run_body, stands_at}
use Rattle.lower_formed.proofs.Rooms.{rows_count}
use Rattle.lower_formed.proofs.Scopes.{OpensNothing, scopes_stmt}
use Rattle.lower_formed.proofs.Terms.{R, nothing_right}

-- what holds of all but scopes and switches
once_else : (a : CsStmtTree) → OpensNothing a → AreLabelsOnce a
once_else (Scope xs items) h = absurd h
once_else (Switch e xs items) h = absurd h
once_else Nothing h = tt
once_else (Set d e) h = tt
once_else (Load d ty e) h = tt
once_else (Store ty e f) h = tt
once_else (CopyBytes n e f) h = tt
once_else (Undefine x) h = tt
once_else (Checked k) h = tt
once_else (Input d t) h = tt
once_else (Assume e) h = tt
once_else (Sequence a b) h = tt
once_else (If e a b) h = tt
once_else (Loop at a) h = tt
once_else (Block a) h = tt
once_else (Exit k) h = tt
once_else (Goto l) h = tt
once_else (Call k) h = tt
once_else (Return e) h = tt
once_else (Label at l) h = tt
once_else (Case k) h = tt
once_else Default h = tt

abbrev GoesOn : CsStmtTree → Type 0
GoesOn a = IsForward nothing_around a

forward_else : (a : CsStmtTree) → OpensNothing a → GoesOn a
forward_else (Scope xs items) h = absurd h
forward_else (Switch e xs items) h = absurd h
forward_else Nothing h = tt
forward_else (Set d e) h = tt
forward_else (Load d ty e) h = tt
forward_else (Store ty e f) h = tt
forward_else (CopyBytes n e f) h = tt
forward_else (Undefine x) h = tt
forward_else (Checked k) h = tt
forward_else (Input d t) h = tt
forward_else (Assume e) h = tt
forward_else (Sequence a b) h = tt
forward_else (If e a b) h = tt
forward_else (Loop at a) h = tt
forward_else (Block a) h = tt
forward_else (Exit k) h = tt
forward_else (Goto l) h = tt
forward_else (Call k) h = tt
forward_else (Return e) h = tt
forward_else (Label at l) h = tt
forward_else (Case k) h = tt
forward_else Default h = tt

forward_same : (around : Around) (a : CsStmtTree) → GoesOn a → IsForward around a
forward_same around (Scope xs items) h = h
forward_same around (Switch e xs items) h = h
forward_same around Nothing h = tt
forward_same around (Set d e) h = tt
forward_same around (Load d ty e) h = tt
forward_same around (Store ty e f) h = tt
forward_same around (CopyBytes n e f) h = tt
forward_same around (Undefine x) h = tt
forward_same around (Checked k) h = tt
forward_same around (Input d t) h = tt
forward_same around (Assume e) h = tt
forward_same around (Sequence a b) h = tt
forward_same around (If e a b) h = tt
forward_same around (Loop at a) h = tt
forward_same around (Block a) h = tt
forward_same around (Exit k) h = tt
forward_same around (Goto l) h = tt
forward_same around (Call k) h = tt
forward_same around (Return e) h = tt
forward_same around (Label at l) h = tt
forward_same around (Case k) h = tt
forward_same around Default h = tt

module _ (p : TProgramTree) (plan : Plan) (runs : Runs p plan) where
  abbrev Q : CsProgramTree
  Q = q p plan runs

  abbrev A : List Placed
  A = all p plan runs

  -- ---- a property of each function, by those with a body and those without

  without_case : (P : ℕ → CsFunctionTree → Type 0) (f : ℕ) (function : TFunctionTree) (o : Option TStmtTree) → slice_get p.functions f ≡ Some function → function.body ≡ o
      → ((b : Bodied p f) → P f (record { params = param_temps p (stands_at p plan runs f b).base b.function.params; body = code p plan runs f b })) → P f no_function
      → P f (function_in A f)
  without_case P f function None e g with_body without = subst (P f) (sym (bodiless p plan runs f function e g)) without
  without_case P f function (Some body) e g with_body without =
      let b : Bodied p f = record { function = function; body = body; found = e; has = g } in
      subst (P f) (sym (stands_at p plan runs f b).is) (with_body b)

  function_case : (P : ℕ → CsFunctionTree → Type 0) (f : ℕ) (o : Option TFunctionTree) → slice_get p.functions f ≡ o
      → ((b : Bodied p f) → P f (record { params = param_temps p (stands_at p plan runs f b).base b.function.params; body = code p plan runs f b })) → P f no_function
      → IfSome (option_map (λ x. function_in A f) o) (P f)
  function_case P f None e with_body without = tt
  function_case P f (Some function) e with_body without = without_case P f function function.body e refl with_body without

  each_function : (P : ℕ → CsFunctionTree → Type 0)
      → ((f : ℕ) (b : Bodied p f) → P f (record { params = param_temps p (stands_at p plan runs f b).base b.function.params; body = code p plan runs f b }))
      → ((f : ℕ) → P f no_function) → EachOf Q.functions P
  each_function P with_body without f =
      subst (λ o. IfSome o (P f)) (sym (function_at A p.functions f)) (function_case P f (slice_get p.functions f) refl (with_body f) (without f))

  -- ---- checks, calls, loops and labels

  abbrev Own : ℕ → CsStmtTree → Type 0
  Own f a = IsOf p f a × IsCallApart Q a

  own_else : (f : ℕ) (a : CsStmtTree) → AsksNothing a → Own f a
  own_else f (Checked k) h = absurd h
  own_else f (Call k) h = absurd h
  own_else f (Input d t) h = absurd h
  own_else f (Loop at a) h = absurd h
  own_else f (Label at l) h = absurd h
  own_else f Nothing h = (tt, tt)
  own_else f (Set d e) h = (tt, tt)
  own_else f (Load d ty e) h = (tt, tt)
  own_else f (Store ty e g) h = (tt, tt)
  own_else f (CopyBytes n e g) h = (tt, tt)
  own_else f (Undefine x) h = (tt, tt)
  own_else f (Assume e) h = (tt, tt)
  own_else f (Sequence a b) h = (tt, tt)
  own_else f (If e a b) h = (tt, tt)
  own_else f (Block a) h = (tt, tt)
  own_else f (Exit k) h = (tt, tt)
  own_else f (Scope xs items) h = (tt, tt)
  own_else f (Switch e xs items) h = (tt, tt)
  own_else f (Goto l) h = (tt, tt)
  own_else f (Return e) h = (tt, tt)
  own_else f (Case k) h = (tt, tt)
  own_else f Default h = (tt, tt)

  checks_are : (f : ℕ) (b : Bodied p f) → function_checks p f ≡ stmt_checks p b.body
  checks_are f b = rw b.found (rw b.has refl)

  calls_are : (f : ℕ) (b : Bodied p f) → function_calls p f ≡ stmt_calls b.body
  calls_are f b = body_of p f b.function b.body b.found b.has

  -- arguments read behind the parameters of what is called
  call_apart : (f : ℕ) (b : Bodied p f) (k : CsCallTree) (m : Contains (function_calls p f) (record { pos = k.pos; callee = k.function })) → AllFrom (12 * (stands_at p plan runs f b).base) k.args
      → IsCallApart Q (Call k)
  call_apart f b k m from =
      let this : PlacedCall = record { pos = k.pos; callee = k.function } in
      let c = callee p plan runs f this m in
      let base = (stands_at p plan runs f b).base in
      subst (λ o. IfSome o (λ g. AreArgsApart k.args g.params)) (sym (low_at p plan runs k.function c))
      (args_apart (12 * base) k.args (param_temps p (stands_at p plan runs k.function c).base c.function.params) from
      (params_below p c.function.params (stands_at p plan runs k.function c).base base (callee_rows p plan runs f b this m)))

  input_case : (f : ℕ) (b : Bodied p f) → stmt_reads_input b.body ≡ true → IsInputFree p → ⊥
  input_case f b reads free =
      let here = all_at (λ (x : TFunctionTree). IfSome x.body (λ body. stmt_reads_input body ≡ false)) p.functions f b.function free b.found in
      let none : stmt_reads_input b.body ≡ false = subst (λ o. IfSome o (λ body. stmt_reads_input body ≡ false)) b.has here in
      absurd (cc)

  own_body : (f : ℕ) (b : Bodied p f) (function : TFunctionTree) (body : TStmtTree) → slice_get p.functions f ≡ Some function → function.body ≡ Some body → b.body ≡ body
  own_body f b function body e g =
      let same : b.function ≡ function = some_is (sym b.found ∙ e) in
      some_is (sym b.has ∙ ap (λ (x : TFunctionTree). x.body) same ∙ g)

  made_body : (f : ℕ) (b : Bodied p f) → Every (Own f) (code p plan runs f b)
  made_body f b =
      let s = stands_at p plan runs f b in
      let run = is_runnable p plan runs.typed runs.planned in
      let mine = run_body p plan runs f b in
      body_every (Own f) (λ ty e g. (tt, tt)) (λ x y. (tt, tt)) (λ e. (tt, tt)) p f s.base b.function.params b.body (tt, tt)
      (made_stmt (Own f) (own_else f) s.base p run.sized b.body b.function.params [] b.function.result false false false s.base InLoop mine.typed.typed (omega arith)
      (record {
        check = λ k m. (subst (λ cs. Contains cs (record { pos = k.pos; check = k.check })) (sym (checks_are f b)) m, tt);
        call = λ k m from. let made = subst (λ ks. Contains ks (record { pos = k.pos; callee = k.function })) (sym (calls_are f b)) m in (made, call_apart f b k made from);
        inputs = λ e d t. (λ free. input_case f b e free, tt);
      })
      (record {
        loop = λ at a m. (λ function body e g. subst (λ z. Contains (loops_of z) at) (own_body f b function body e g) m, tt);
        mark = λ at l m. (λ function body e g. subst (λ z. Contains (marks_of z) (at, l)) (own_body f b function body e g) m, tt);
      }))

  own_each : EachOf Q.functions (λ f function. Each (λ around a. Own f a) nothing_around function.body)
  own_each = each_function (λ f function. Each (λ around a. Own f a) nothing_around function.body)
      (λ f b. every_each (Own f) (code p plan runs f b) nothing_around (made_body f b)) (λ f. (tt, tt))

  pub made : Throughout (λ f around a. IsOf p f a) Q
  made f = some_map _ _ (slice_get Q.functions f) (λ function h. each_map (λ around a. Own f a) (λ around a. IsOf p f a) (λ around a o. o.0) function.body nothing_around h) (own_each f)

  -- ---- ranks

  abbrev rank : ℕ → ℕ
  rank f = first f plan.order

  down_one : (f : ℕ) (b : Bodied p f) (a : CsStmtTree) → Own f a → LeadsDown rank f a
  down_one f b (Call k) o = callee_first p plan runs f b (record { pos = k.pos; callee = k.function }) o.0
  down_one f b (Checked k) o = tt
  down_one f b (Input d t) o = tt
  down_one f b (Loop at a) o = tt
  down_one f b (Label at l) o = tt
  down_one f b Nothing o = tt
  down_one f b (Set d e) o = tt
  down_one f b (Load d ty e) o = tt
  down_one f b (Store ty e g) o = tt
  down_one f b (CopyBytes n e g) o = tt
  down_one f b (Undefine x) o = tt
  down_one f b (Assume e) o = tt
  down_one f b (Sequence x y) o = tt
  down_one f b (If e x y) o = tt
  down_one f b (Block x) o = tt
  down_one f b (Exit k) o = tt
  down_one f b (Scope xs items) o = tt
  down_one f b (Switch e xs items) o = tt
  down_one f b (Goto l) o = tt
  down_one f b (Return e) o = tt
  down_one f b (Case k) o = tt
  down_one f b Default o = tt

  down : Throughout (λ f around a. LeadsDown rank f a) Q
  down = each_function (λ f function. Each (λ around a. LeadsDown rank f a) nothing_around function.body)
      (λ f b. each_map (λ around a. Own f a) (λ around a. LeadsDown rank f a) (λ around a o. down_one f b a o) (code p plan runs f b) nothing_around
      (every_each (Own f) (code p plan runs f b) nothing_around (made_body f b)))
      (λ f. tt)

  -- ---- what is asked of each statement

  abbrev Kept : ℕ → CsFunctionTree → Type 0
  Kept f function = (result : Option Scalar) × Each (R Q (record { names = gathered label_of function.body; result = result })) nothing_around function.body

  right_each : EachOf Q.functions Kept
  right_each = each_function Kept (λ f b. ((frame p plan runs f b).result, right_at p plan runs f b)) (λ f. (None, nothing_right Q (record { names = []; result = None }) nothing_around))

  from_right : (P : CsFunctionTree → Around → CsStmtTree → Type 0)
      → ((function : CsFunctionTree) (result : Option Scalar) (around : Around) (a : CsStmtTree) → Right Q (record { names = gathered label_of function.body; result = result }) around a → P function around a)
      → EachOf Q.functions (λ f function. Each (P function) nothing_around function.body)
  from_right P h f = some_map (Kept f) (λ function. Each (P function) nothing_around function.body) (slice_get Q.functions f)
      (λ function k. each_map (R Q (record { names = gathered label_of function.body; result = k.0 })) (P function) (λ around a r. h function k.0 around a r) function.body nothing_around k.1) (right_each f)

  -- ---- labels

  once_body : (f : ℕ) (b : Bodied p f) → Every AreLabelsOnce (code p plan runs f b)
  once_body f b =
      let s = stands_at p plan runs f b in
      let mine = run_body p plan runs f b in
      body_every AreLabelsOnce (λ ty e g. tt) (λ x y. tt) (λ e. tt) p f s.base b.function.params b.body
      (subst (λ ls. AllPairs Unlike ls) (sym (block_alone p s.base b.function.params b.body mine.typed.block)) (λ i j d lt within. absurd (omega (arith, within))))
      (scopes_stmt AreLabelsOnce (λ items. AllPairs Unlike (labels_among items)) once_else (λ xs items h. h) (λ e xs items h. h) p
      (λ z. AllPairs Unlike (labels_of z)) (λ items. AllPairs Unlike (Rattle.c_layout.specs.Jumps.labels_in items)) (labels_parted p)
      b.body b.function.params [] b.function.result false false false s.base InLoop mine.typed.typed mine.typed.labels_distinct)

  -- ---- objects

  few : (fs : List TFunctionTree) (j y : ℕ) → ((i : ℕ) (x : TFunctionTree) → slice_get fs i ≡ Some x → times y (gathered objects_of (function_in A (j + i)).body) ≤ times y (listed_by x))
      → times y (flat_map (λ (f : CsFunctionTree). gathered objects_of f.body) (functions_from A j fs)) ≤ times y (flat_map listed_by fs)
  few [] j y h = omega arith
  few (x ∷ xs) j y h =
      let own = times_append y (gathered objects_of (function_in A j).body) (flat_map (λ (f : CsFunctionTree). gathered objects_of f.body) (functions_from A (suc j) xs)) in
      let more = times_append y (listed_by x) (flat_map listed_by xs) in
      let e : j + 0 ≡ j = omega arith in
      let here = subst (λ k. times y (gathered objects_of (function_in A k).body) ≤ times y (listed_by x)) e (h 0 x refl) in
      let rest = few xs (suc j) y (λ i z at. let f : j + suc i ≡ suc j + i = omega arith in subst (λ k. times y (gathered objects_of (function_in A k).body) ≤ times y (listed_by z)) f (h (suc i) z at)) in
      omega (arith, own, more, here, rest)

  objects_case : (f y : ℕ) (function : TFunctionTree) (o : Option TStmtTree) → slice_get p.functions f ≡ Some function → function.body ≡ o
      → times y (gathered objects_of (function_in A f).body) ≤ times y (listed_by function)
  objects_case f y function None e g =
      let none = bodiless p plan runs f function e g in
      subst (λ (x : CsFunctionTree). times y (gathered objects_of x.body) ≤ times y (listed_by function)) (sym none) (omega arith)
  objects_case f y function (Some body) e g =
      let b : Bodied p f = record { function = function; body = body; found = e; has = g } in
      let s = stands_at p plan runs f b in
      let own : gathered objects_of (function_in A f).body ≡ function.params ++ listed_of body = ap (λ (x : CsFunctionTree). gathered objects_of x.body) s.is ∙ body_objects p f s.base function.params body in
      let list : listed_by function ≡ function.params ++ listed_of body = ap (λ z. function.params ++ unwrap_or (option_map listed_of z) []) g in
      let same : times y (gathered objects_of (function_in A f).body) ≡ times y (listed_by function) = ap (times y) (own ∙ sym list) in
      omega (arith, same)

  scoped_once : EachOf Q.objects (IsScoped Q)
  scoped_once y =
      some_map (λ object. times y (listed p) ≡ (if object.is_static then 0 else 1)) (IsScoped Q y) (slice_get p.objects y)
      (λ object e.
      let le = few p.functions 0 y (λ i x at. let z : 0 + i ≡ i = omega arith in subst (λ k. times y (gathered objects_of (function_in A k).body) ≤ times y (listed_by x)) (sym z) (objects_case i y x x.body at refl)) in
      omega (arith, le, e))
      (runs.typed.listed_once y)

  byte_formed : (b : InitByte) → IsTypedByte p b → IsFormedByte Q b
  byte_formed (bytes.Num k) h = tt
  byte_formed (bytes.Piece object offset k) h = h

  small_object : (o : ObjectTree) → IsTypedObject p.structs o → o.size ≤ 2 ^ 40
  small_object o t = (element_of p.structs runs.typed.structs o.ty o.size t.ty t.size).1

  objects_formed : AreObjectsFormed Q
  objects_formed = record {
    sizes = λ k d lt. small_object (slice_index_or p.objects k d) (runs.typed.objects k d lt);
    initial = λ k d lt. let t = runs.typed.initial k d lt in record { object = t.object; size = t.size; pieces = λ i z within. byte_formed _ (t.bytes i z within) };
    once = runs.typed.initial_once;
  }

  -- ---- parameters

  params_there : (f : ℕ) (function : CsFunctionTree) → slice_get Q.functions f ≡ Some function → ParamsThere Q function
  params_there f function e =
      let count = rows_count (n p plan runs) in
      let each = each_function (λ g x. All (λ t. t < 12 * n p plan runs) x.params)
      (λ g b. params_below p b.function.params (stands_at p plan runs g b).base (n p plan runs) (rooms p plan runs g b).0) (λ g. All-nil (λ t. t < 12 * n p plan runs)) in
      subst (λ m. All (λ t. t < m) function.params) (sym count) (subst (λ o. IfSome o (λ (x : CsFunctionTree). All (λ t. t < 12 * n p plan runs) x.params)) e (each f))

  main_there : plan.main < length Q.functions
  main_there =
      let count = functions_count A 0 p.functions in
      let lt = start_there (slice_get p.functions plan.main) refl runs.planned.start in omega (arith, count, lt) where
        start_there : (o : Option TFunctionTree) → slice_get p.functions plan.main ≡ o → IsSomeAnd o IsStart → plan.main < length p.functions
        start_there None e h = absurd h
        start_there (Some x) e h = slice_get_within p.functions plan.main x e

  pub formed : IsFormed Q
  formed = record {
    structs = runs.typed.structs;
    main = main_there;
    params = all_each (ParamsThere Q) Q.functions params_there;
    numbers = from_right (λ function around a. AreNumbersThere Q (gathered label_of function.body) around a) (λ function result around a r. r.numbers);
    scopes = scoped_once;
    live = from_right (λ function around a. AreObjectsLive Q around a) (λ function result around a r. r.live);
    objects = objects_formed;
    types = from_right (λ function around a. IsTyped Q a) (λ function result around a r. r.types);
    checks = from_right (λ function around a. IsCheckFormed Q a) (λ function result around a r. r.checks);
    calls = record { rank = rank; down = down };
    gotos = from_right (λ function around a. StaysOutside around a) (λ function result around a r. r.gotos);
    args = λ f. some_map _ _ (slice_get Q.functions f) (λ function h. each_map (λ around a. Own f a) (λ around a. IsCallApart Q a) (λ around a o. o.1) function.body nothing_around h) (own_each f);
    cases = from_right (λ function around a. AreCasesFormed Q a) (λ function result around a r. r.cases);
    labels = each_function (λ f function. Each (λ around a. AreLabelsOnce a) nothing_around function.body)
        (λ f b. every_each AreLabelsOnce (code p plan runs f b) nothing_around (once_body f b)) (λ f. tt);
  }

  -- ---- gotos

  forward_body : IsForwardOnly p → (f : ℕ) (b : Bodied p f) → Every GoesOn (code p plan runs f b)
  forward_body only f b =
      let s = stands_at p plan runs f b in
      let mine = run_body p plan runs f b in
      let here = all_at (λ (x : TFunctionTree). IfSome x.body (λ body. AllPairs IsNoJumpBack (label_uses body))) p.functions f b.function only b.found in
      let parted = gotos_parted p in
      body_every GoesOn (λ ty e g. tt) (λ x y. tt) (λ e. tt) p f s.base b.function.params b.body
      (parted.without _ (block_alone p s.base b.function.params b.body mine.typed.block))
      (scopes_stmt GoesOn AreForward forward_else (λ xs items h. h) (λ e xs items h. h) p
      (λ z. AllPairs IsNoJumpBack (label_uses z)) (λ items. AllPairs IsNoJumpBack (Rattle.c_steps.specs.Bounds.label_uses_in items)) parted
      b.body b.function.params [] b.function.result false false false s.base InLoop mine.typed.typed
      (subst (λ o. IfSome o (λ body. AllPairs IsNoJumpBack (label_uses body))) b.has here))

  pub leads_forward : IsForwardOnly p → forward.IsForwardOnly Q
  leads_forward only = each_function (λ f function. Each IsForward nothing_around function.body)
      (λ f b. each_map (λ around a. GoesOn a) IsForward forward_same (code p plan runs f b) nothing_around (every_each GoesOn (code p plan runs f b) nothing_around (forward_body only f b))) (λ f. tt)

pub lowered_is_formed : LoweredIsFormed
lowered_is_formed p plan runs = formed p plan runs

pub lowered_is_made : LoweredIsMade
lowered_is_made p plan runs = made p plan runs

pub lowered_leads_forward : LoweredLeadsForward
lowered_leads_forward p plan runs only = leads_forward p plan runs only
