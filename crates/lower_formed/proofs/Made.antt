-- Each check, call and input in what an expression is lowered to is one of the expression.
use Rattle.std.proofs.Common.{◌≡◌, inl, inr, ℕ, suc, ◌*◌, List, [], ◌∷◌, ◌++◌, Option, Some, None, Bool, true, false, max, map, refl, sym, ap, ◌∙◌, subst, arith}
use Rattle.std.specs.Prelude.{Contains, ◌&&◌, ◌||◌, not, if◌then◌else◌}
use Rattle.std.specs.List.{flat_map}
use Rattle.std.proofs.lemmas.List.Concat.{flat_map-cons}
use Rattle.std.proofs.lemmas.List.Elements.{Contains-append_left, Contains-append_right, Contains-append_cases}
use Rattle.c_syntax_written.specs.declared.int_type.IntType.{IntType}
use Rattle.c_syntax_written.specs.declared.int_type.IntType.TheVariants as ints
use Rattle.c_syntax_written.specs.declared.place.Pos.{Pos}
use Rattle.c_syntax_written.specs.declared.step.StepWay.{StepWay}
use Rattle.c_syntax_written.specs.declared.step.StepWay.TheVariants as ways
use Rattle.c_syntax.specs.declared.alarm.Check.{Check}
use Rattle.c_syntax.specs.declared.alarm.WrongKind.TheVariants as kinds
use Rattle.c_syntax.specs.declared.operator.Stride.{Stride}
use Rattle.c_syntax.specs.declared.operator.Stride.TheVariants as strides
use Rattle.c_syntax.specs.declared.operator.TUnaryOp.{TUnaryOp}
use Rattle.c_syntax.specs.declared.operator.TUnaryOp.TheVariants as unaries
use Rattle.c_syntax.specs.declared.operator.TBinaryOp.{TBinaryOp}
use Rattle.c_syntax.specs.Types.{CTypeTree, Void, Int, Pointer, Array, Struct, Function}
use Rattle.c_syntax.specs.TypedExpr.{TExprTree}
use Rattle.c_syntax.specs.TypedParts.{decayed, texpr_type}
use Rattle.c_syntax.specs.GivenType.{given_type}
use Rattle.c_syntax.specs.Program.{TProgramTree}
use Rattle.c_layout.specs.Calls.{PlacedCall, calls_of}
use Rattle.c_layout.specs.Checks.{PlacedCheck, all_at, plain_check, test_checks, unary_checks, binary_checks, step_checks, scalar_bytes, load_checks, store_checks, read_checks, write_checks, value_checks, read_from, checks_of}
use Rattle.c_layout.specs.MainFunction.{is_main}
use Rattle.c_layout.specs.RowTypes.{IsScalar, IsPointer, is_void}
use Rattle.c_layout.specs.TypedNodes.{IsArray}
use Rattle.block_mem.specs.declared.types.Scalar.{Scalar}
use Rattle.block_mem.specs.declared.types.Scalar.TheVariants as scalars
use Rattle.c_values.specs.Typed.{unary_type, binary_type}
use Rattle.c_values.specs.Values.{plain_type, scalar_of}
use Rattle.c_steps.specs.Bounds.{reads_input}
use Rattle.c_steps.specs.Changes.{step_operator}
use Rattle.csharp.specs.Trees.{CsExprTree, Temp, Unary, Binary, CsCheckTree, CsCallTree, CsStmtTree, Nothing, Set, Load, Store, Checked, Input, Sequence, If, Loop, Block, Exit, Call, Label}
use Rattle.lower_trees.specs.Temps.{temp_at}
use Rattle.lower_trees.specs.Checking.{cs_check, checks, load_type, binary_operands, binary_list, unary_operands, unary_list, test_value, value_check}
use Rattle.lower_trees.specs.LowerExpr.{Lowered, lowered, Forms, Args, or_int, held_scalar, plain, branch, spilled, is_kept_alone, of_unary, of_binary, of_convert, with_source, changed_left, change, of_cond, of_call, wanted}
use Rattle.lower_formed.specs.Every.{Every}
use Rattle.lower_formed.proofs.Depths.{AllFrom}

-- a statement that is no check, call, input, loop or label
abbrev pub AsksNothing : CsStmtTree → Type 0
AsksNothing (Checked k) = ⊥
AsksNothing (Call k) = ⊥
AsksNothing (Input d t) = ⊥
AsksNothing (Loop at a) = ⊥
AsksNothing (Label at l) = ⊥
AsksNothing a = Unit {0}

-- a property that these checks have, these calls with arguments from a row on, and inputs where there are some
pub record Ways (P : CsStmtTree → Type 0) (lo : ℕ) (cs : List PlacedCheck) (ks : List PlacedCall) (input : Bool) : Type 0 where
  pub check : (k : CsCheckTree) → Contains cs (record { pos = k.pos; check = k.check }) → P (Checked k)
  pub call : (k : CsCallTree) → Contains ks (record { pos = k.pos; callee = k.function }) → AllFrom (12 * lo) k.args → P (Call k)
  pub inputs : input ≡ true → (d : ℕ) (t : IntType) → P (Input d t)

or_first : (a b : Bool) → a ≡ true → a || b ≡ true
or_first true b e = refl
or_first false b e = absurd (cc)

or_second : (a b : Bool) → b ≡ true → a || b ≡ true
or_second true b e = refl
or_second false b e = e

-- ---- checks of a type and of its scalar

pub tests_same : (ty : CTypeTree) → test_checks (plain_type (scalar_of ty)) ≡ test_checks ty
tests_same Void = refl
tests_same (Int t) = refl
tests_same (Pointer to k) = refl
tests_same (Array of k n) = refl
tests_same (Struct n) = refl
tests_same (Function n) = refl

pub tests_of : (ty : CTypeTree) (s : Scalar) → scalar_of ty ≡ Some s → test_checks (plain_type (Some s)) ≡ test_checks ty
tests_of ty s e = ap (λ o. test_checks (plain_type o)) (sym e) ∙ tests_same ty

pub tests_held : (ty : CTypeTree) → IsScalar ty → test_checks (plain_type (held_scalar ty)) ≡ test_checks ty
tests_held Void h = absurd h
tests_held (Int t) h = refl
tests_held (Pointer to k) h = refl
tests_held (Array of k n) h = absurd h
tests_held (Struct n) h = absurd h
tests_held (Function n) h = absurd h

pub tests_pointer : (ty : CTypeTree) → IsPointer ty → test_checks (plain_type (Some scalars.Pointer)) ≡ test_checks ty
tests_pointer Void h = absurd h
tests_pointer (Int t) h = absurd h
tests_pointer (Pointer to k) h = refl
tests_pointer (Array of k n) h = absurd h
tests_pointer (Struct n) h = absurd h
tests_pointer (Function n) h = absurd h

pub tests_decayed : (ty : CTypeTree) (z : Bool) → IsArray ty → test_checks (plain_type (Some scalars.Pointer)) ≡ test_checks (decayed ty z)
tests_decayed Void z h = absurd h
tests_decayed (Int t) z h = absurd h
tests_decayed (Pointer to k) z h = absurd h
tests_decayed (Array of k n) z h = refl
tests_decayed (Struct n) z h = absurd h
tests_decayed (Function n) z h = absurd h

pub unary_same : (op : TUnaryOp) (ty : CTypeTree) → unary_checks op (plain_type (scalar_of ty)) ≡ unary_checks op ty
unary_same (unaries.Plus t) ty = refl
unary_same (unaries.Minus t) ty = refl
unary_same (unaries.Complement t) ty = refl
unary_same unaries.Not ty = tests_same ty

bytes_same : (ty : CTypeTree) (s : Scalar) → scalar_of ty ≡ Some s → scalar_bytes (plain_type (Some s)) ≡ scalar_bytes ty
bytes_same Void s e = absurd (cc)
bytes_same (Int t) s e = ap (λ o. scalar_bytes (plain_type o)) (sym e)
bytes_same (Pointer to k) s e = ap (λ o. scalar_bytes (plain_type o)) (sym e)
bytes_same (Array of k n) s e = absurd (cc)
bytes_same (Struct n) s e = absurd (cc)
bytes_same (Function n) s e = absurd (cc)

loads_same : (ty : CTypeTree) (s : Scalar) → scalar_of ty ≡ Some s → load_checks (plain_type (Some s)) ≡ load_checks ty
loads_same ty s e = ap (λ n. read_checks n n ++ plain_check kinds.Indeterminate ∷ plain_check kinds.Fragment ∷ []) (bytes_same ty s e)

stores_same : (ty : CTypeTree) (s : Scalar) → scalar_of ty ≡ Some s → store_checks (plain_type (Some s)) ≡ store_checks ty
stores_same ty s e = ap (λ n. write_checks n n) (bytes_same ty s e)

pub loads_at : (ty : CTypeTree) (s : Scalar) → scalar_of ty ≡ Some s → load_checks (plain_type (Some (or_int (scalar_of ty)))) ≡ load_checks ty
loads_at ty s e = ap (λ o. load_checks (plain_type (Some (or_int o)))) e ∙ loads_same ty s e

pub stores_at : (ty : CTypeTree) (s : Scalar) → scalar_of ty ≡ Some s → store_checks (plain_type (Some (or_int (scalar_of ty)))) ≡ store_checks ty
stores_at ty s e = ap (λ o. store_checks (plain_type (Some (or_int o)))) e ∙ stores_same ty s e

-- a call whose value is wanted, of a function that is not main
valued : (ty : CTypeTree) (s : Scalar) (z : Bool) → scalar_of ty ≡ Some s → z ≡ false → (if true && not (is_void ty) && not z then plain_check kinds.NoValue ∷ [] else []) ≡ plain_check kinds.NoValue ∷ []
valued ty s true e f = absurd (cc)
valued Void s false e f = absurd (cc)
valued (Int t) s false e f = refl
valued (Pointer to k) s false e f = refl
valued (Array of k n) s false e f = absurd (cc)
valued (Struct n) s false e f = absurd (cc)
valued (Function n) s false e f = absurd (cc)

pub steps_same : (way : StepWay) (stride : Stride) → binary_checks (step_operator way stride) ≡ step_checks stride
steps_same ways.Up (strides.Int t) = refl
steps_same ways.Up (strides.Element n) = refl
steps_same ways.Down (strides.Int t) = refl
steps_same ways.Down (strides.Element n) = refl

module _ (P : CsStmtTree → Type 0) (asks : (a : CsStmtTree) → AsksNothing a → P a) (lo : ℕ) where
  abbrev pub E : CsStmtTree → Type 0
  E a = Every P a

  -- ---- parts of what there is
  pub front : (cs ds : List PlacedCheck) {ks : List PlacedCall} {i : Bool} → Ways P lo (cs ++ ds) ks i → Ways P lo cs ks i
  front cs ds w = record { check = λ k m. w.check k (Contains-append_left cs ds _ m); call = w.call; inputs = w.inputs }

  pub back : (cs ds : List PlacedCheck) {ks : List PlacedCall} {i : Bool} → Ways P lo (cs ++ ds) ks i → Ways P lo ds ks i
  back cs ds w = record { check = λ k m. w.check k (Contains-append_right cs ds _ m); call = w.call; inputs = w.inputs }

  pub both : (cs ds : List PlacedCheck) {ks : List PlacedCall} {i : Bool} → Ways P lo cs ks i → Ways P lo ds ks i → Ways P lo (cs ++ ds) ks i
  both cs ds w v = record {
    check = λ k m. elim (Contains-append_cases cs ds _ m) [ inl h ↦ w.check k h | inr h ↦ v.check k h ];
    call = w.call;
    inputs = w.inputs;
  }

  pub calls_first : {cs : List PlacedCheck} (ks ls : List PlacedCall) {i : Bool} → Ways P lo cs (ks ++ ls) i → Ways P lo cs ks i
  calls_first ks ls w = record { check = w.check; call = λ k m. w.call k (Contains-append_left ks ls _ m); inputs = w.inputs }

  pub first : {cs : List PlacedCheck} (ks ls : List PlacedCall) (i j : Bool) → Ways P lo cs (ks ++ ls) (i || j) → Ways P lo cs ks i
  first ks ls i j w = record { check = w.check; call = λ k m. w.call k (Contains-append_left ks ls _ m); inputs = λ e. w.inputs (or_first i j e) }

  pub second : {cs : List PlacedCheck} (ks ls : List PlacedCall) (i j : Bool) → Ways P lo cs (ks ++ ls) (i || j) → Ways P lo cs ls j
  second ks ls i j w = record { check = w.check; call = λ k m. w.call k (Contains-append_right ks ls _ m); inputs = λ e. w.inputs (or_second i j e) }

  -- the checks by other words for them
  pub same_at : (at : Pos) (cs ds : List Check) {ks : List PlacedCall} {i : Bool} → cs ≡ ds → Ways P lo (all_at at ds) ks i → Ways P lo (all_at at cs) ks i
  same_at at cs ds {ks} {i} e w = subst (λ z. Ways P lo (all_at at z) ks i) (sym e) w

  pub same_checks : (cs ds : List PlacedCheck) {ks : List PlacedCall} {i : Bool} → cs ≡ ds → Ways P lo ds ks i → Ways P lo cs ks i
  same_checks cs ds {ks} {i} e w = subst (λ z. Ways P lo z ks i) (sym e) w

  pub seq : (a b : CsStmtTree) → E a → E b → E (Sequence a b)
  seq a b h k = (asks (Sequence a b) tt, h, k)

  pub block : (a : CsStmtTree) → E a → E (Block a)
  block a h = (asks (Block a) tt, h)

  pub set : (d : ℕ) (e : CsExprTree) → E (Set d e)
  set d e = asks (Set d e) tt

  pub nothing : E Nothing
  nothing = asks Nothing tt

  pub branches : (test a b : CsStmtTree) → E test → E a → E b → E (branch test a b)
  branches test a b h k l = block _ (seq _ b (block _ (seq test _ h (seq a (Exit 1) k (asks (Exit 1) tt)))) l)

  -- checks at a place
  pub listed : (at : Pos) (ty : Check → Option Scalar) (es : Check → List CsExprTree) (cs : List Check) {ks : List PlacedCall} {i : Bool} → Ways P lo (all_at at cs) ks i
      → E (checks (map (λ c. cs_check at (ty c) (es c) c) cs))
  listed at ty es [] w = nothing
  listed at ty es (k ∷ cs) w =
      let here : PlacedCheck = record { pos = at; check = k } in
      seq (Checked (cs_check at (ty k) (es k) k)) _ (w.check (cs_check at (ty k) (es k) k) (0, omega arith, refl))
      (listed at ty es cs (record { check = λ j m. w.check j (Contains-append_right (here ∷ []) (all_at at cs) _ m); call = w.call; inputs = w.inputs }))

  spill : (kept : Bool) (d : ℕ) (ty : Scalar) (a : Lowered) → E a.before → E (spilled kept d ty a).before
  spill true d ty a h = h
  spill false d ty a h = seq a.before (Set (temp_at d ty) a.value) h (set (temp_at d ty) a.value)

  -- ---- an expression in its uses
  abbrev pub WaysOf : TProgramTree → TExprTree → Type 0
  WaysOf p e = Ways P lo (checks_of p e) (calls_of e) (reads_input e)

  abbrev pub TestWays : TProgramTree → TExprTree → Pos → Type 0
  TestWays p e at = Ways P lo (checks_of p e ++ all_at at (test_checks (texpr_type e))) (calls_of e) (reads_input e)

  abbrev pub SourceWays : TProgramTree → TExprTree → ℕ → ℕ → Type 0
  SourceWays p e size align = Ways P lo (checks_of p e ++ flat_map (λ at. all_at at (read_checks size align)) (read_from e)) (calls_of e) (reads_input e)

  pub record MadeForms (p : TProgramTree) (e : TExprTree) (a : Forms) : Type 0 where
    pub value : WaysOf p e → E a.value.before
    pub unless : (at : Pos) (k : ℕ) → IsScalar (given_type e) → TestWays p e at → E (a.unless at k)
    pub when : (at : Pos) (k : ℕ) → IsScalar (given_type e) → TestWays p e at → E (a.when at k)
    pub source : (size align : ℕ) → SourceWays p e size align → E (a.source size align).before

  pub plain_made : (p : TProgramTree) (e : TExprTree) (o : Option Scalar) (a : Lowered) → (WaysOf p e → E a.before)
      → (IsScalar (given_type e) → test_checks (plain_type o) ≡ test_checks (texpr_type e)) → MadeForms p e (plain o a)
  plain_made p e o a h same = record {
    value = h;
    unless = λ at k sc w. seq a.before _ (h (front (checks_of p e) (all_at at (test_checks (texpr_type e))) w))
        (seq _ _ (listed at (λ c. None) (λ c. a.value ∷ []) (test_checks (plain_type o)) (same_at at _ _ (same sc) (back (checks_of p e) (all_at at (test_checks (texpr_type e))) w)))
        (asks (If (test_value o a.value) Nothing (Exit k)) tt, nothing, asks (Exit k) tt));
    when = λ at k sc w. seq a.before _ (h (front (checks_of p e) (all_at at (test_checks (texpr_type e))) w))
        (seq _ _ (listed at (λ c. None) (λ c. a.value ∷ []) (test_checks (plain_type o)) (same_at at _ _ (same sc) (back (checks_of p e) (all_at at (test_checks (texpr_type e))) w)))
        (asks (If (test_value o a.value) (Exit k) Nothing) tt, asks (Exit k) tt, nothing));
    source = λ size align w. h (front (checks_of p e) (flat_map (λ at. all_at at (read_checks size align)) (read_from e)) w);
  }

  -- a struct that is read at one place
  pub source_made : (p : TProgramTree) (e : TExprTree) (from : Pos) (a : Lowered) → (WaysOf p e → E a.before) → read_from e ≡ from ∷ [] → MadeForms p e (with_source from a)
  source_made p e from a h reads = record {
    value = h;
    unless = λ at k sc w. seq a.before _ (h (front (checks_of p e) (all_at at (test_checks (texpr_type e))) w))
        (seq _ _ nothing (asks (If (test_value None a.value) Nothing (Exit k)) tt, nothing, asks (Exit k) tt));
    when = λ at k sc w. seq a.before _ (h (front (checks_of p e) (all_at at (test_checks (texpr_type e))) w))
        (seq _ _ nothing (asks (If (test_value None a.value) (Exit k) Nothing) tt, asks (Exit k) tt, nothing));
    source = λ size align w.
        let f : Pos → List PlacedCheck = λ at. all_at at (read_checks size align) in
        seq a.before _ (h (front (checks_of p e) (flat_map f (read_from e)) w))
        (listed from (λ c. None) (λ c. a.value ∷ []) (read_checks size align)
        (front (f from) (flat_map f []) (same_checks (f from ++ flat_map f []) (flat_map f (read_from e)) (sym (ap (flat_map f) reads ∙ flat_map-cons f from []))
        (back (checks_of p e) (flat_map f (read_from e)) w))));
  }

  pub unary_made : (d : ℕ) (at : Pos) (op : TUnaryOp) (ty : Option Scalar) (a : Lowered) {ks : List PlacedCall} {i : Bool} → E a.before → Ways P lo (all_at at (unary_checks op (plain_type ty))) ks i
      → E (of_unary d at op ty a).before
  unary_made d at op ty a h w =
      spill (is_kept_alone op) d (unary_type op) (lowered (Sequence a.before (checks (unary_list at op ty a.value))) (Unary op a.value) a.next a.top)
      (seq a.before _ h (listed at (λ c. None) (λ c. unary_operands op a.value c.kind) (unary_checks op (plain_type ty)) w))

  pub binary_made : (d : ℕ) (at : Pos) (kept : Bool) (op : TBinaryOp) (a b : Lowered) {ks : List PlacedCall} {i : Bool} → E a.before → E b.before → Ways P lo (all_at at (binary_checks op)) ks i
      → E (of_binary d at kept op a b).before
  binary_made d at kept op a b h k w =
      spill kept d (binary_type op) (lowered (Sequence a.before (Sequence b.before (checks (binary_list at op a.value b.value)))) (Binary op a.value b.value) b.next (max a.top b.top))
      (seq a.before _ h (seq b.before _ k (listed at (λ c. None) (λ c. binary_operands op a.value b.value c.kind) (binary_checks op) w)))

  pub convert_made : (o : Option Scalar) (a : Lowered) → E a.before → E (of_convert o a).before
  convert_made None a h = h
  convert_made (Some ty) a h = h

  pub change_made : (at at_place : Pos) (ty : Scalar) (op : TBinaryOp) (d : ℕ) (place u : CsExprTree) {ks : List PlacedCall} {i : Bool} → Ways P lo (all_at at_place (load_checks (plain_type (Some ty)))) ks i
      → Ways P lo (all_at at (binary_checks op)) ks i → Ways P lo (all_at at_place (store_checks (plain_type (Some ty)))) ks i → E (change at at_place ty op d place u)
  change_made at at_place ty op d place u l b s =
      seq _ _ (listed at_place (λ c. load_type ty c.kind) (λ c. place ∷ []) (load_checks (plain_type (Some ty))) l) (seq (Load (temp_at d ty) ty place) _ (asks (Load (temp_at d ty) ty place) tt)
      (seq _ _ (listed at (λ c. None) (λ c. binary_operands op (changed_left op ty d) u c.kind) (binary_checks op) b) (seq (Set _ _) _ (set _ _)
      (seq _ _ (listed at_place (λ c. None) (λ c. place ∷ []) (store_checks (plain_type (Some ty))) s) (asks (Store ty place _) tt)))))

  pub cond_made : (d : ℕ) (o : Option Scalar) (test : CsStmtTree) (top : ℕ) (a b : Lowered) → E test → E a.before → E b.before → E (of_cond d o test top a b).before
  cond_made d None test top a b h k l = branches test a.before b.before h k l
  cond_made d (Some ty) test top a b h k l =
      branches test _ _ h (seq a.before (Set (temp_at d ty) a.value) k (set (temp_at d ty) a.value)) (seq b.before (Set (temp_at d ty) b.value) l (set (temp_at d ty) b.value))

  pub call_made : (p : TProgramTree) (d : ℕ) (at : Pos) (g : ℕ) (ty : CTypeTree) (used : Bool) (args : Args) (ks : List PlacedCall) {i : Bool} (o : Option Scalar) (z : Bool)
      → wanted used ty ≡ o → is_main p g ≡ z → E args.before → AllFrom (12 * lo) args.values
      → Ways P lo (all_at at (value_checks p g ty used)) (ks ++ record { pos = at; callee = g } ∷ []) i → E (of_call d at g o z args).before
  call_made p d at g ty used args ks None z e m h f w =
      let this : PlacedCall = record { pos = at; callee = g } in
      seq args.before _ h (w.call (record { pos = at; function = g; args = args.values; value = None; flag = None }) (Contains-append_right ks (this ∷ []) this (0, omega arith, refl)) f)
  call_made p d at g ty used args ks (Some s) true e m h f w =
      let this : PlacedCall = record { pos = at; callee = g } in
      seq args.before _ h (w.call (record { pos = at; function = g; args = args.values; value = Some (temp_at d s); flag = None }) (Contains-append_right ks (this ∷ []) this (0, omega arith, refl)) f)
  call_made p d at g ty false args ks (Some s) false e m h f w = absurd (cc)
  call_made p d at g ty true args ks (Some s) false e m h f w =
      let this : PlacedCall = record { pos = at; callee = g } in
      let flag = temp_at (suc d) (scalars.Int ints.Int) in
      seq args.before _ h (seq _ _
      (w.call (record { pos = at; function = g; args = args.values; value = Some (temp_at d s); flag = Some flag }) (Contains-append_right ks (this ∷ []) this (0, omega arith, refl)) f)
      (seq _ _ ((same_at at (plain_check kinds.NoValue ∷ []) (value_checks p g ty true) (sym (valued ty s (is_main p g) e m)) w).check (value_check at (Temp flag)) (0, omega arith, refl)) nothing))
