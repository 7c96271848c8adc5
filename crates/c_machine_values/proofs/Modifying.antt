-- What `op=`, `++` and `--` come to.
use Rattle.std.proofs.Common.{◌≡◌, ℕ, List, ◌∷◌, Option, Some, Ok, Err, sym, ap, ◌∙◌, subst}
use Rattle.c_syntax_written.specs.declared.place.Pos.{Pos}
use Rattle.c_syntax_written.specs.declared.step.StepWay.{StepWay}
use Rattle.c_syntax.specs.declared.operator.StepTime.{StepTime}
use Rattle.c_syntax.specs.declared.operator.StepTime.TheVariants.{Before}
use Rattle.c_syntax.specs.declared.operator.Stride.{Stride}
use Rattle.c_syntax.specs.declared.operator.TBinaryOp.{TBinaryOp}
use Rattle.c_syntax.specs.Operand.{operand_of}
use Rattle.c_syntax.specs.Types.{ObjectTree}
use Rattle.block_mem.specs.declared.types.Scalar.{Scalar}
use Rattle.block_mem.specs.declared.types.Scalar.TheVariants as scalars
use Rattle.block_mem.specs.declared.types.Value.{Value}
use Rattle.block_mem.specs.declared.types.Value.TheVariants as values
use Rattle.block_mem.specs.Bytes.{IsOf}
use Rattle.block_mem.specs.Proper.{IsMade}
use Rattle.c_values.specs.declared.values.Wrong as code
use Rattle.c_values.specs.Accesses.{load_at, store_looks}
use Rattle.c_values.specs.Looks.{Passes, FailsAs, judge, Outcome, Gives, GoesWrong, IsStuck}
use Rattle.c_values.specs.Operators.{binary, one}
use Rattle.c_values.specs.Places.{ObjectMemory}
use Rattle.c_values.specs.Typed.{IsSettled, TakesBoth, binary_type}
use Rattle.c_values.specs.Values.{converted_to}
use Rattle.c_values.proofs.Settled.{binary_settles}
use Rattle.c_objects.specs.Writing.{stored_at}
use Rattle.c_steps_laws.specs.Needs.{IsModified}
use Rattle.c_steps.specs.Work.{Modify, StepAt}
use Rattle.c_steps.specs.States.{Held, Wrong, goes, held, with_some, with_value}
use Rattle.c_steps.specs.Changes.{as_scalar, given_of, left_type, modify_step, step_operator, store_step, stored}
use Rattle.c_steps.specs.Steps.{item_step}
use Rattle.c_machine_values.specs.declared.changes.Change.{Change}
use Rattle.c_machine_values.specs.declared.changes.Fault.{Fault}
use Rattle.c_machine_values.specs.declared.row.Row.TheVariants as rows
use Rattle.c_machine_values.specs.Modified.{Changed, Modifies}
use Rattle.c_machine_values.specs.Rows.{Does}
use Rattle.c_machine_values.proofs.Done.{fails, gives, is_wrong, passes, there}

some_same : {A : Type 0} {x y : A} → Some x ≡ Some y → x ≡ y
some_same e = cc

-- a converted value has the block that it had
pub converted_made : (n : ℕ) (ty : Scalar) (v new : Value) → converted_to ty v ≡ Some new → IsMade n v → IsMade n new
converted_made n (scalars.Int t) (values.Int u z) new e made = subst (IsMade n) (some_same e) tt
converted_made n (scalars.Int t) (values.Ptr q) new e made = absurd (cc)
converted_made n (scalars.Int t) values.Null new e made = absurd (cc)
converted_made n scalars.Pointer (values.Int u z) new e made = absurd (cc)
converted_made n scalars.Pointer (values.Ptr q) new e made = subst (IsMade n) (some_same e) made
converted_made n scalars.Pointer values.Null new e made = subst (IsMade n) (some_same e) tt

-- what stands in a place becomes what the operator takes
pub taken_left : (ty : Scalar) (op : TBinaryOp) (u : Value) (h : IsModified ty op u) (l : Scalar) (old v : Value) → left_type op (Some ty) ≡ Some l → IsOf ty old
    → converted_to l old ≡ Some v → TakesBoth op v u
taken_left ty op u h l old v e typed comes =
    let same : l ≡ h.left = some_same (sym e ∙ h.is_left) in h.takes v (h.becomes old v typed (subst (λ x. converted_to x old ≡ Some v) same comes))

-- what an operator gives is of its type
pub settled_is : (ty : Scalar) (o : Outcome) (v : Value) → IsSettled ty o → o ≡ Gives v → IsOf ty v
settled_is ty (Gives u) v h e = let same : u ≡ v = cc in subst (IsOf ty) same h
settled_is ty (GoesWrong k x) v h e = absurd (cc)
settled_is ty IsStuck v h e = absurd h

pub comes_back : (objects : List ObjectTree) (m : ObjectMemory) (ty : Scalar) (op : TBinaryOp) (u : Value) (h : IsModified ty op u) (left middle : Value)
    → TakesBoth op left u → binary objects m op left u ≡ Gives middle → IsOf h.left middle
comes_back objects m ty op u h left middle taken comes =
    subst (λ t. IsOf t middle) h.gives (settled_is (binary_type op) (binary objects m op left u) middle (binary_settles objects m op left u taken) comes)

module _ (objects : List ObjectTree) (c : Change) (place operand : Value) (m : ObjectMemory) where
  pub changes : (n : ObjectMemory) (old new given : Value) → load_at objects m (Some c.ty) place ≡ Gives old → Changed objects c old operand m (Ok new)
      → judge objects (store_looks m (Some c.ty) place) ≡ Passes → stored_at m c.ty place new ≡ Some n → given_of c.time old new ≡ given
      → Modifies objects c place operand m n (Ok given)
  changes n old new given loads (left, middle, l, b, r) looked is_stored g = λ work s i.
      let stores = λ (v : Value). store_step objects c.place (Some c.ty) place v (given_of c.time old v) work s m i in
      let backs = λ (v : Value). with_some (as_scalar (Some c.ty) v) stores in
      let operates = λ (v : Value). with_value (binary objects m c.op v operand) c.pos backs in
      let puts = λ (n : ObjectMemory). goes work (held (given_of c.time old new) ∷ s) n i in
      gives (load_at objects m (Some c.ty) place) c.place (λ old. with_some (as_scalar (left_type c.op (Some c.ty)) old) (λ left.
      with_value (binary objects m c.op left operand) c.pos (λ result.
      with_some (as_scalar (Some c.ty) result) (λ new. store_step objects c.place (Some c.ty) place new (given_of c.time old new) work s m i)))) old loads
      ∙ there (as_scalar (left_type c.op (Some c.ty)) old) operates left l
      ∙ gives (binary objects m c.op left operand) c.pos backs middle b
      ∙ there (as_scalar (Some c.ty) middle) stores new r
      ∙ passes (judge objects (store_looks m (Some c.ty) place)) c.place (with_some (stored m (Some c.ty) place new) puts) looked
      ∙ there (stored m (Some c.ty) place new) puts n is_stored
      ∙ ap (λ v. goes work (held v ∷ s) n i) g

  pub no_load : (fault : Fault) (wrong : code.Wrong) (n : ObjectMemory) → load_at objects m (Some c.ty) place ≡ GoesWrong wrong.kind (operand_of wrong.operand)
      → fault ≡ record { pos = c.place; kind = wrong.kind } → n ≡ m → Modifies objects c place operand m n (Err fault)
  no_load fault wrong n loads is same = (
    λ work s i. (
      operand_of wrong.operand,
      subst (λ (f : Fault). modify_step objects c.pos c.place (Some c.ty) c.op c.time place operand work s m i ≡ Wrong f.pos f.kind (operand_of wrong.operand))
          (sym is)
          (is_wrong (load_at objects m (Some c.ty) place) c.place (λ old. with_some (as_scalar (left_type c.op (Some c.ty)) old) (λ left.
          with_value (binary objects m c.op left operand) c.pos (λ result.
          with_some (as_scalar (Some c.ty) result) (λ new. store_step objects c.place (Some c.ty) place new (given_of c.time old new) work s m i))))
          wrong.kind (operand_of wrong.operand) loads),
    ),
    same,
  )

  pub no_result : (fault : Fault) (wrong : code.Wrong) (old : Value) (n : ObjectMemory) → load_at objects m (Some c.ty) place ≡ Gives old
      → Changed objects c old operand m (Err wrong) → fault ≡ record { pos = c.pos; kind = wrong.kind } → n ≡ m
      → Modifies objects c place operand m n (Err fault)
  no_result fault wrong old n loads (left, l, b) is same = (
    λ work s i. (
      operand_of wrong.operand,
      subst (λ (f : Fault). modify_step objects c.pos c.place (Some c.ty) c.op c.time place operand work s m i ≡ Wrong f.pos f.kind (operand_of wrong.operand))
          (sym is)
          (let stores = λ (v : Value). store_step objects c.place (Some c.ty) place v (given_of c.time old v) work s m i in
          let backs = λ (v : Value). with_some (as_scalar (Some c.ty) v) stores in
          let operates = λ (v : Value). with_value (binary objects m c.op v operand) c.pos backs in
          gives (load_at objects m (Some c.ty) place) c.place (λ old. with_some (as_scalar (left_type c.op (Some c.ty)) old) (λ left.
          with_value (binary objects m c.op left operand) c.pos (λ result.
          with_some (as_scalar (Some c.ty) result) (λ new. store_step objects c.place (Some c.ty) place new (given_of c.time old new) work s m i)))) old loads
          ∙ there (as_scalar (left_type c.op (Some c.ty)) old) operates left l
          ∙ is_wrong (binary objects m c.op left operand) c.pos backs wrong.kind (operand_of wrong.operand) b),
    ),
    same,
  )

  pub no_store : (fault : Fault) (wrong : code.Wrong) (old new : Value) (n : ObjectMemory) → load_at objects m (Some c.ty) place ≡ Gives old
      → Changed objects c old operand m (Ok new) → judge objects (store_looks m (Some c.ty) place) ≡ FailsAs wrong.kind (operand_of wrong.operand)
      → fault ≡ record { pos = c.place; kind = wrong.kind } → n ≡ m → Modifies objects c place operand m n (Err fault)
  no_store fault wrong old new n loads (left, middle, l, b, r) looked is same = (
    λ work s i. (
      operand_of wrong.operand,
      subst (λ (f : Fault). modify_step objects c.pos c.place (Some c.ty) c.op c.time place operand work s m i ≡ Wrong f.pos f.kind (operand_of wrong.operand))
          (sym is)
          (let stores = λ (v : Value). store_step objects c.place (Some c.ty) place v (given_of c.time old v) work s m i in
          let backs = λ (v : Value). with_some (as_scalar (Some c.ty) v) stores in
          let operates = λ (v : Value). with_value (binary objects m c.op v operand) c.pos backs in
          gives (load_at objects m (Some c.ty) place) c.place (λ old. with_some (as_scalar (left_type c.op (Some c.ty)) old) (λ left.
          with_value (binary objects m c.op left operand) c.pos (λ result.
          with_some (as_scalar (Some c.ty) result) (λ new. store_step objects c.place (Some c.ty) place new (given_of c.time old new) work s m i)))) old loads
          ∙ there (as_scalar (left_type c.op (Some c.ty)) old) operates left l
          ∙ gives (binary objects m c.op left operand) c.pos backs middle b
          ∙ there (as_scalar (Some c.ty) middle) stores new r
          ∙ fails (judge objects (store_looks m (Some c.ty) place)) c.place
          (with_some (stored m (Some c.ty) place new) (λ n. goes work (held (given_of c.time old new) ∷ s) n i)) wrong.kind (operand_of wrong.operand) looked),
    ),
    same,
  )

-- ---- the rows

module _ (objects : List ObjectTree) (m n : ObjectMemory) (s t below : List Held) (at at_place : Pos) (o : Option Scalar) (ty : Scalar) (e : o ≡ Some ty) where
  abbrev pub changing : TBinaryOp → StepTime → Change
  changing op time = record { pos = at; place = at_place; ty = ty; op = op; time = time }

  pub modify_wrong : (op : TBinaryOp) (place operand : Value) (fault : Fault) → s ≡ held operand ∷ held place ∷ below → t ≡ held operand ∷ held place ∷ below
      → Modifies objects (changing op Before) place operand m n (Err fault) → Does objects (Modify at at_place o op) s m t n (rows.Wrong fault.pos fault.kind)
  modify_wrong op place operand fault is on (h, k) = (
    λ p same work i. let w = h work below i in (
      w.0,
      ap (λ x. item_step p (Modify at at_place o op) work x m i) is
          ∙ ap (λ y. modify_step p.objects at at_place y op Before place operand work below m i) e
          ∙ ap (λ os. modify_step os at at_place (Some ty) op Before place operand work below m i) same
          ∙ w.1,
    ),
    on ∙ sym is,
    k,
  )

  pub step_wrong : (time : StepTime) (way : StepWay) (stride : Stride) (place : Value) (fault : Fault) → s ≡ held place ∷ below → t ≡ held place ∷ below
      → Modifies objects (changing (step_operator way stride) time) place (one stride) m n (Err fault)
      → Does objects (StepAt at at_place o time way stride) s m t n (rows.Wrong fault.pos fault.kind)
  step_wrong time way stride place fault is on (h, k) = (
    λ p same work i. let w = h work below i in (
      w.0,
      ap (λ x. item_step p (StepAt at at_place o time way stride) work x m i) is
          ∙ ap (λ y. modify_step p.objects at at_place y (step_operator way stride) time place (one stride) work below m i) e
          ∙ ap (λ os. modify_step os at at_place (Some ty) (step_operator way stride) time place (one stride) work below m i) same
          ∙ w.1,
    ),
    on ∙ sym is,
    k,
  )
