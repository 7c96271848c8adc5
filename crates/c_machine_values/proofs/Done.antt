-- What rows come to.
use Rattle.std.proofs.Common.{◌≡◌, ℕ, ℤ, Bool, true, false, List, ◌∷◌, length, Option, Some, refl, sym, ap, ◌∙◌, subst}
use Rattle.std.specs.Prelude.{if◌then◌else◌, option_and_then}
use Rattle.c_syntax_written.specs.declared.place.Pos.{Pos}
use Rattle.c_syntax.specs.declared.alarm.WrongKind.{WrongKind}
use Rattle.c_syntax.specs.declared.operator.Extent.{Extent}
use Rattle.c_syntax.specs.declared.operator.TUnaryOp.{TUnaryOp}
use Rattle.c_syntax.specs.declared.operator.TBinaryOp.{TBinaryOp}
use Rattle.c_syntax.specs.Operand.{Operand}
use Rattle.c_syntax.specs.Types.{ObjectTree}
use Rattle.block_mem.specs.declared.types.Scalar.{Scalar}
use Rattle.block_mem.specs.declared.types.Value.{Value}
use Rattle.block_mem.specs.declared.types.Value.TheVariants as values
use Rattle.block_mem.specs.Proper.{IsMade}
use Rattle.c_values.specs.declared.values.Given.TheVariants as givens
use Rattle.c_values.specs.Accesses.{load_at, read_looks, write_looks, store_looks, test_looks, assert_looks}
use Rattle.c_values.specs.Looks.{Judged, Passes, FailsAs, judge, Outcome, Gives, GoesWrong}
use Rattle.c_values.specs.Operators.{unary, binary, member}
use Rattle.c_values.specs.Places.{ObjectMemory}
use Rattle.c_values.specs.Values.{truth, bit}
use Rattle.c_objects.specs.Kept.{AllFit, FitsAt}
use Rattle.c_objects.specs.Opening.{address}
use Rattle.c_objects.specs.Writing.{copied_at}
use Rattle.c_steps.specs.Work.{Item, LoadAt, StoreAt, CopyAt, Un, Bin, Move, Truth, Sure, FillCopy}
use Rattle.c_steps.specs.States.{Held, Plain, Struct, Next, Wrong, goes, held, judged, with_value, with_some}
use Rattle.c_steps.specs.Changes.{stored, store_step}
use Rattle.c_steps.specs.Steps.{item_step}
use Rattle.c_machine_values.specs.declared.row.Row.TheVariants as rows
use Rattle.c_machine_values.specs.Rows.{Does}

-- a value's block fits its object
pub fits_at : (objects : List ObjectTree) (m : ObjectMemory) → AllFit objects m → (v : Value) → IsMade (length m.blocks) v → FitsAt objects m v
fits_at objects m fit (values.Int t n) made = tt
fits_at objects m fit (values.Ptr p) made = fit p.block made
fits_at objects m fit values.Null made = tt

-- ---- what comes of looks and values

pub passes : (j : Judged) (at : Pos) (next : Next) → j ≡ Passes → judged j at next ≡ next
passes j at next e = ap (λ k. judged k at next) e

pub fails : (j : Judged) (at : Pos) (next : Next) (k : WrongKind) (x : Operand) → j ≡ FailsAs k x → judged j at next ≡ Wrong at k x
fails j at next k x e = ap (λ k. judged k at next) e

pub gives : (o : Outcome) (at : Pos) (next : Value → Next) (v : Value) → o ≡ Gives v → with_value o at next ≡ next v
gives o at next v e = ap (λ out. with_value out at next) e

pub is_wrong : (o : Outcome) (at : Pos) (next : Value → Next) (k : WrongKind) (x : Operand) → o ≡ GoesWrong k x → with_value o at next ≡ Wrong at k x
is_wrong o at next k x e = ap (λ out. with_value out at next) e

pub there : {A : Type 0} (o : Option A) (next : A → Next) (a : A) → o ≡ Some a → with_some o next ≡ next a
there o next a e = ap (λ q. with_some q next) e

-- ---- accesses

module _ (objects : List ObjectTree) (m : ObjectMemory) (s t below : List Held) where
  pub load_wrong : (at : Pos) (o : Option Scalar) (ty : Scalar) (v : Value) (k : WrongKind) (x : Operand) → o ≡ Some ty → s ≡ held v ∷ below
      → t ≡ held v ∷ below → load_at objects m (Some ty) v ≡ GoesWrong k x → Does objects (LoadAt at o) s m t m (rows.Wrong at k)
  load_wrong at o ty v k x e is on loads = (
    λ p same work i. (
      x,
      ap (λ y. item_step p (LoadAt at o) work y m i) is
          ∙ ap (λ y. with_value (load_at p.objects m y v) at (λ new. goes work (held new ∷ below) m i)) e
          ∙ is_wrong (load_at p.objects m (Some ty) v) at (λ new. goes work (held new ∷ below) m i) k x
          (subst (λ os. load_at os m (Some ty) v ≡ GoesWrong k x) (sym same) loads),
    ),
    on ∙ sym is,
    refl,
  )

  pub store_wrong : (at : Pos) (o : Option Scalar) (ty : Scalar) (place v : Value) (k : WrongKind) (x : Operand) (n : ObjectMemory) → o ≡ Some ty
      → s ≡ held v ∷ held place ∷ below → t ≡ held v ∷ held place ∷ below → judge objects (store_looks m (Some ty) place) ≡ FailsAs k x → n ≡ m
      → Does objects (StoreAt at o) s m t n (rows.Wrong at k)
  store_wrong at o ty place v k x n e is on looked same_memory = (
    λ p same work i. (
      x,
      ap (λ y. item_step p (StoreAt at o) work y m i) is
          ∙ ap (λ y. store_step p.objects at y place v v work below m i) e
          ∙ fails (judge p.objects (store_looks m (Some ty) place)) at
          (with_some (stored m (Some ty) place v) (λ n. goes work (held v ∷ below) n i)) k x
          (subst (λ os. judge os (store_looks m (Some ty) place) ≡ FailsAs k x) (sym same) looked),
    ),
    on ∙ sym is,
    same_memory,
  )

  pub source_wrong : (at from : Pos) (extent : Extent) (target source : Value) (k : WrongKind) (x : Operand)
      → s ≡ Struct from source ∷ held target ∷ below → t ≡ Struct from source ∷ held target ∷ below
      → judge objects (read_looks m source extent.size extent.align) ≡ FailsAs k x → Does objects (CopyAt at extent) s m t m (rows.Wrong from k)
  source_wrong at from extent target source k x is on reads = (
    λ p same work i. (
      x,
      ap (λ y. item_step p (CopyAt at extent) work y m i) is
          ∙ fails (judge p.objects (read_looks m source extent.size extent.align)) from
          (judged (judge p.objects (write_looks m target extent.size extent.align)) at
          (with_some (copied_at m target source extent.size) (λ n. goes work (Struct at target ∷ below) n i))) k x
          (subst (λ os. judge os (read_looks m source extent.size extent.align) ≡ FailsAs k x) (sym same) reads),
    ),
    on ∙ sym is,
    refl,
  )

  pub target_wrong : (at from : Pos) (extent : Extent) (target source : Value) (k : WrongKind) (x : Operand)
      → s ≡ Struct from source ∷ held target ∷ below → t ≡ Struct from source ∷ held target ∷ below
      → judge objects (read_looks m source extent.size extent.align) ≡ Passes → judge objects (write_looks m target extent.size extent.align) ≡ FailsAs k x
      → Does objects (CopyAt at extent) s m t m (rows.Wrong at k)
  target_wrong at from extent target source k x is on reads writes = (
    λ p same work i. (
      x,
      let last = with_some (copied_at m target source extent.size) (λ n. goes work (Struct at target ∷ below) n i) in
          ap (λ y. item_step p (CopyAt at extent) work y m i) is
          ∙ passes (judge p.objects (read_looks m source extent.size extent.align)) from
          (judged (judge p.objects (write_looks m target extent.size extent.align)) at last)
          (subst (λ os. judge os (read_looks m source extent.size extent.align) ≡ Passes) (sym same) reads)
          ∙ fails (judge p.objects (write_looks m target extent.size extent.align)) at last k x
          (subst (λ os. judge os (write_looks m target extent.size extent.align) ≡ FailsAs k x) (sym same) writes),
    ),
    on ∙ sym is,
    refl,
  )

  -- ---- operators

  pub unary_goes : (at : Pos) (op : TUnaryOp) (o : Option Scalar) (ty : Scalar) (v new : Value) → o ≡ Some ty → s ≡ held v ∷ below
      → t ≡ held new ∷ below → unary objects m op (Some ty) v ≡ Gives new → Does objects (Un at op o) s m t m rows.Went
  unary_goes at op o ty v new e is on comes = λ p same work i.
      let next = λ (x : Value). goes work (held x ∷ below) m i in
      ap (λ x. item_step p (Un at op o) work x m i) is
      ∙ ap (λ x. with_value (unary p.objects m op x v) at next) e
      ∙ gives (unary p.objects m op (Some ty) v) at next new (subst (λ os. unary os m op (Some ty) v ≡ Gives new) (sym same) comes)
      ∙ ap (λ x. goes work x m i) (sym on)

  pub unary_wrong : (at : Pos) (op : TUnaryOp) (o : Option Scalar) (ty : Scalar) (v : Value) (k : WrongKind) (x : Operand) → o ≡ Some ty
      → s ≡ held v ∷ below → t ≡ held v ∷ below → unary objects m op (Some ty) v ≡ GoesWrong k x → Does objects (Un at op o) s m t m (rows.Wrong at k)
  unary_wrong at op o ty v k x e is on comes = (
    λ p same work i. (
      x,
      let next = λ (y : Value). goes work (held y ∷ below) m i in
          ap (λ y. item_step p (Un at op o) work y m i) is
          ∙ ap (λ y. with_value (unary p.objects m op y v) at next) e
          ∙ is_wrong (unary p.objects m op (Some ty) v) at next k x (subst (λ os. unary os m op (Some ty) v ≡ GoesWrong k x) (sym same) comes),
    ),
    on ∙ sym is,
    refl,
  )

  pub binary_wrong : (at : Pos) (op : TBinaryOp) (v u : Value) (k : WrongKind) (x : Operand) → s ≡ held u ∷ held v ∷ below
      → t ≡ held u ∷ held v ∷ below → binary objects m op v u ≡ GoesWrong k x → Does objects (Bin at op) s m t m (rows.Wrong at k)
  binary_wrong at op v u k x is on comes = (
    λ p same work i. (
      x,
      ap (λ y. item_step p (Bin at op) work y m i) is
          ∙ is_wrong (binary p.objects m op v u) at (λ (y : Value). goes work (held y ∷ below) m i) k x
          (subst (λ os. binary os m op v u ≡ GoesWrong k x) (sym same) comes),
    ),
    on ∙ sym is,
    refl,
  )

  pub member_wrong : (at : Pos) (offset : ℕ) (v : Value) (k : WrongKind) (x : Operand) → s ≡ held v ∷ below → t ≡ held v ∷ below
      → member objects m v offset ≡ GoesWrong k x → Does objects (Move at offset) s m t m (rows.Wrong at k)
  member_wrong at offset v k x is on comes = (
    λ p same work i. (
      x,
      ap (λ y. item_step p (Move at offset) work y m i) is
          ∙ is_wrong (member p.objects m v offset) at (λ (y : Value). goes work (held y ∷ below) m i) k x
          (subst (λ os. member os m v offset ≡ GoesWrong k x) (sym same) comes),
    ),
    on ∙ sym is,
    refl,
  )

  -- ---- tests

  by_truth : (b : Bool) (work : List Item) (i : List ℤ)
      → (if b then goes work (held (bit true) ∷ below) m i else goes work (held (bit false) ∷ below) m i) ≡ goes work (held (bit b) ∷ below) m i
  by_truth true work i = refl
  by_truth false work i = refl

  pub truth_goes : (at : Pos) (ty : Option Scalar) (v : Value) → s ≡ held v ∷ below → t ≡ held (bit (truth v)) ∷ below
      → judge objects (test_looks m ty v) ≡ Passes → Does objects (Truth at ty) s m t m rows.Went
  truth_goes at ty v is on looked = λ p same work i.
      ap (λ x. item_step p (Truth at ty) work x m i) is
      ∙ passes (judge p.objects (test_looks m ty v)) at _ (subst (λ os. judge os (test_looks m ty v) ≡ Passes) (sym same) looked)
      ∙ by_truth (truth v) work i
      ∙ ap (λ x. goes work x m i) (sym on)

  pub truth_wrong : (at : Pos) (ty : Option Scalar) (v : Value) (k : WrongKind) (x : Operand) → s ≡ held v ∷ below → t ≡ s
      → judge objects (test_looks m ty v) ≡ FailsAs k x → Does objects (Truth at ty) s m t m (rows.Wrong at k)
  truth_wrong at ty v k x is on looked = (
    λ p same work i. (
      x,
      ap (λ y. item_step p (Truth at ty) work y m i) is
          ∙ fails (judge p.objects (test_looks m ty v)) at _ k x (subst (λ os. judge os (test_looks m ty v) ≡ FailsAs k x) (sym same) looked),
    ),
    on,
    refl,
  )

  pub sure_goes : (at : Pos) (ty : Option Scalar) (v : Value) → s ≡ held v ∷ below → t ≡ Plain givens.Nothing ∷ below
      → judge objects (assert_looks m ty v) ≡ Passes → Does objects (Sure at ty) s m t m rows.Went
  sure_goes at ty v is on looked = λ p same work i.
      ap (λ x. item_step p (Sure at ty) work x m i) is
      ∙ passes (judge p.objects (assert_looks m ty v)) at _ (subst (λ os. judge os (assert_looks m ty v) ≡ Passes) (sym same) looked)
      ∙ ap (λ x. goes work x m i) (sym on)

  pub sure_wrong : (at : Pos) (ty : Option Scalar) (v : Value) (k : WrongKind) (x : Operand) → s ≡ held v ∷ below → t ≡ held v ∷ below
      → judge objects (assert_looks m ty v) ≡ FailsAs k x → Does objects (Sure at ty) s m t m (rows.Wrong at k)
  sure_wrong at ty v k x is on looked = (
    λ p same work i. (
      x,
      ap (λ y. item_step p (Sure at ty) work y m i) is
          ∙ fails (judge p.objects (assert_looks m ty v)) at _ k x (subst (λ os. judge os (assert_looks m ty v) ≡ FailsAs k x) (sym same) looked),
    ),
    on ∙ sym is,
    refl,
  )

  -- ---- initialisers

  pub fill_copy_wrong : (x offset : ℕ) (extent : Extent) (from : Pos) (source : Value) (k : WrongKind) (y : Operand) → s ≡ Struct from source ∷ below
      → t ≡ Struct from source ∷ below → judge objects (read_looks m source extent.size extent.align) ≡ FailsAs k y
      → Does objects (FillCopy x offset extent) s m t m (rows.Wrong from k)
  fill_copy_wrong x offset extent from source k y is on reads = (
    λ p same work i. (
      y,
      ap (λ z. item_step p (FillCopy x offset extent) work z m i) is
          ∙ fails (judge p.objects (read_looks m source extent.size extent.align)) from
          (with_some (option_and_then (λ target. copied_at m target source extent.size) (address m x offset)) (λ n. goes work below n i)) k y
          (subst (λ os. judge os (read_looks m source extent.size extent.align) ≡ FailsAs k y) (sym same) reads),
    ),
    on ∙ sym is,
    refl,
  )
