-- What holds of the values on the stack, of memory and of the work where an item is next, with all that its row asks of memory.
use Rattle.std.specs.Prelude.{ℕ, ◌≡◌, ◌⊎◌, ◌<◌, ◌^◌, true, List, [], ◌∷◌, ◌++◌, map, reverse, length, All, Option, Some, None, IsSome, slice_get}
use Rattle.c_syntax_written.specs.declared.int_type.IntType.TheVariants as ints
use Rattle.c_syntax_written.specs.Integer as numbers
use Rattle.c_syntax.specs.declared.operator.Extent.{Extent}
use Rattle.c_syntax.specs.declared.operator.TUnaryOp.{TUnaryOp}
use Rattle.c_syntax.specs.declared.operator.TBinaryOp.{TBinaryOp}
use Rattle.c_syntax.specs.Types.{ObjectTree}
use Rattle.c_syntax.specs.TypedExpr.{TLvalueTree, Var}
use Rattle.c_syntax.specs.TypedStmt.{TStmtTree, Block, Declare, For, Break, Continue, Goto}
use Rattle.c_syntax.specs.Program.{TFunctionTree, TProgramTree}
use Rattle.block_mem.specs.declared.types.Scalar.{Scalar}
use Rattle.block_mem.specs.declared.types.Scalar.TheVariants as scalars
use Rattle.block_mem.specs.declared.types.Value.{Value}
use Rattle.block_mem.specs.declared.types.Value.TheVariants as values
use Rattle.block_mem.specs.Bytes.{IsOf}
use Rattle.block_mem.specs.Proper.{IsMade}
use Rattle.c_values.specs.declared.values.Given.TheVariants as givens
use Rattle.c_values.specs.Accesses.{read_looks, write_looks, store_looks}
use Rattle.c_values.specs.Looks.{judge, Passes}
use Rattle.c_values.specs.Operators.{one}
use Rattle.c_values.specs.Places.{ObjectMemory, place_of}
use Rattle.c_values.specs.Typed.{IsConvertible, TakesBoth, TakesOne, binary_type}
use Rattle.c_values.specs.Values.{converted_to}
use Rattle.c_objects.specs.Kept.{IsFillable}
use Rattle.c_objects.specs.Opening.{address, open_all}
use Rattle.c_objects.specs.Writing.{stored_at, copied_at}
use Rattle.c_steps.specs.Work.{Item, Addr, LoadAt, StoreAt, Named, CopyAt, Modify, StepAt, Un, Bin, Conv, Move, AndThen, OrElse, Truth, Pick, Choose, Keep}
use Rattle.c_steps.specs.Work.{Sure, Enter, Leave, Reach, Do, Close, Turn, Again, Select, SwitchEnd, Fill, FillCopy, Rest, Finish}
use Rattle.c_steps.specs.States.{Held, Plain, Struct, held}
use Rattle.c_steps.specs.Calls.{taken, object_scalar}
use Rattle.c_steps.specs.Changes.{left_type, step_operator, filled}
use Rattle.c_steps.specs.Marks.{AtLabel, has}
use Rattle.c_steps.specs.Statements.{condition_scalar}

-- ---- values

-- a value of a type, in a memory of so many blocks
abbrev pub IsHeld : ObjectMemory → Scalar → Value → Type 0
IsHeld m ty v = IsOf ty v × IsMade (length m.blocks) v

abbrev pub IsPlace : ObjectMemory → Value → Type 0
IsPlace m v = IsHeld m scalars.Pointer v

-- a value on top that may be tested
abbrev pub TestNeeds : ObjectMemory → Option Scalar → List Held → Type 0
TestNeeds m (Some ty) (Plain (givens.Value v) ∷ s) = IsHeld m ty v
TestNeeds m ty s = ⊥

-- ---- accesses

-- where the looks of a store pass, it is made
abbrev pub Stores : List ObjectTree → ObjectMemory → Scalar → Value → Value → Type 0
Stores objects m ty place v = judge objects (store_looks m (Some ty) place) ≡ Passes → IsSome (stored_at m ty place v)

-- what stands in a place becomes of the operator's left type, and what comes of it and of the other operand of the place's type again
pub record IsModified (ty : Scalar) (op : TBinaryOp) (u : Value) : Type 0 where
  pub left : Scalar
  pub is_left : left_type op (Some ty) ≡ Some left
  pub gives : binary_type op ≡ left
  pub there : (old : Value) → IsOf ty old → IsConvertible (Some left) (givens.Value old)
  pub becomes : (old new : Value) → IsOf ty old → converted_to left old ≡ Some new → IsOf left new
  pub takes : (v : Value) → IsOf left v → TakesBoth op v u
  pub back : (result : Value) → IsOf left result → IsConvertible (Some ty) (givens.Value result)
  pub stored : (result new : Value) → IsOf left result → converted_to ty result ≡ Some new → IsOf ty new

-- a value that is stored in a place
abbrev pub StoreNeeds : List ObjectTree → ObjectMemory → Option Scalar → List Held → Type 0
StoreNeeds objects m (Some ty) (Plain (givens.Value u) ∷ Plain (givens.Value v) ∷ s) = IsPlace m v × IsHeld m ty u × Stores objects m ty v u
StoreNeeds objects m ty s = ⊥

-- a struct that is copied: where the looks at its source and at its target pass, so is the copy made
abbrev pub Copies : List ObjectTree → ObjectMemory → Extent → Value → Value → Type 0
Copies objects m extent target source =
    judge objects (read_looks m source extent.size extent.align) ≡ Passes → judge objects (write_looks m target extent.size extent.align) ≡ Passes
    → IsSome (copied_at m target source extent.size)

abbrev pub CopyNeeds : List ObjectTree → ObjectMemory → Extent → List Held → Type 0
CopyNeeds objects m extent (Struct from u ∷ Plain (givens.Value v) ∷ s) = IsPlace m u × IsPlace m v × Copies objects m extent v u
CopyNeeds objects m extent s = ⊥

-- `op=`, `++` and `--`, whose store is made where its looks pass
abbrev pub ChangeNeeds : List ObjectTree → ObjectMemory → Scalar → TBinaryOp → Value → Value → Type 0
ChangeNeeds objects m ty op place u =
    IsPlace m place × IsMade (length m.blocks) u × IsModified ty op u × ((v : Value) → IsHeld m ty v → Stores objects m ty place v)

abbrev pub ModifyNeeds : List ObjectTree → ObjectMemory → Option Scalar → TBinaryOp → List Held → Type 0
ModifyNeeds objects m (Some ty) op (Plain (givens.Value u) ∷ Plain (givens.Value v) ∷ s) = ChangeNeeds objects m ty op v u
ModifyNeeds objects m ty op s = ⊥

abbrev pub StepNeeds : List ObjectTree → ObjectMemory → Option Scalar → TBinaryOp → Value → List Held → Type 0
StepNeeds objects m (Some ty) op u (Plain (givens.Value v) ∷ s) = ChangeNeeds objects m ty op v u
StepNeeds objects m ty op u s = ⊥

-- a place on top
abbrev pub PlaceNeeds : ObjectMemory → List Held → Type 0
PlaceNeeds m (Plain (givens.Value v) ∷ s) = IsPlace m v
PlaceNeeds m s = ⊥

-- ---- operators

abbrev pub UnaryNeeds : ObjectMemory → TUnaryOp → Option Scalar → List Held → Type 0
UnaryNeeds m op (Some ty) (Plain (givens.Value v) ∷ s) = TakesOne op ty v × IsMade (length m.blocks) v
UnaryNeeds m op ty s = ⊥

abbrev pub BinaryNeeds : ObjectMemory → TBinaryOp → List Held → Type 0
BinaryNeeds m op (Plain (givens.Value u) ∷ Plain (givens.Value v) ∷ s) = TakesBoth op v u × IsMade (length m.blocks) v × IsMade (length m.blocks) u
BinaryNeeds m op s = ⊥

abbrev pub ConvertNeeds : Option Scalar → List Held → Type 0
ConvertNeeds None s = Unit {0}
ConvertNeeds (Some ty) (Plain g ∷ s) = IsConvertible (Some ty) g
ConvertNeeds (Some ty) s = ⊥

-- ---- what fills objects

-- an object that lives, which has this offset
abbrev pub HasOffset : ObjectMemory → ℕ → ℕ → Type 0
HasOffset m x offset = IsSome (place_of m x) × (offset < 2 ^ 63)

-- a value is put into an object at an offset
pub record IsFilledWith (m : ObjectMemory) (x offset : ℕ) (ty : Scalar) (v : Value) : Type 0 where
  pub there : HasOffset m x offset
  pub value : IsHeld m ty v
  pub inside : (place : Value) → address m x offset ≡ Some place → IsSome (stored_at m ty place v)

abbrev pub FillNeeds : ObjectMemory → ℕ → ℕ → Option Scalar → List Held → Type 0
FillNeeds m x offset (Some ty) (Plain (givens.Value v) ∷ s) = IsFilledWith m x offset ty v
FillNeeds m x offset ty s = ⊥

-- a struct is put into an object at an offset, where the looks at its source pass
abbrev pub CopiesInto : List ObjectTree → ObjectMemory → ℕ → ℕ → Extent → Value → Type 0
CopiesInto objects m x offset extent source =
    judge objects (read_looks m source extent.size extent.align) ≡ Passes → (target : Value) → address m x offset ≡ Some target
    → IsSome (copied_at m target source extent.size)

abbrev pub FillCopyNeeds : List ObjectTree → ObjectMemory → ℕ → ℕ → Extent → List Held → Type 0
FillCopyNeeds objects m x offset extent (Struct from u ∷ s) = IsPlace m u × HasOffset m x offset × CopiesInto objects m x offset extent u
FillCopyNeeds objects m x offset extent s = ⊥

-- ---- calls

-- an object is filled with a value of its type
abbrev pub IsFilledAs : ObjectMemory → Option Scalar → ℕ → Value → Type 0
IsFilledAs m None x v = ⊥
IsFilledAs m (Some ty) x v = IsFilledWith m x 0 ty v

-- so are all parameters with their arguments, in their order
abbrev pub AreFilled : List ObjectTree → List ℕ → List Value → ObjectMemory → Type 0
AreFilled objects [] [] m = Unit {0}
AreFilled objects (x ∷ xs) (v ∷ vs) m =
    IsFilledAs m (object_scalar objects x) x v × ((n : ObjectMemory) → filled m (object_scalar objects x) x 0 v ≡ Some n → AreFilled objects xs vs n)
AreFilled objects xs vs m = ⊥

-- objects that are there
abbrev pub AreThere : ObjectMemory → List ℕ → Type 0
AreThere m xs = All (λ x. x < length m.places) xs

-- the function is there with a body, and its arguments are on the stack, the last one on top; they fill its parameters
pub record IsEntered (p : TProgramTree) (f : ℕ) (s : List Held) (m : ObjectMemory) : Type 0 where
  pub function : TFunctionTree
  pub body : TStmtTree
  pub args : List Value
  pub below : List Held
  pub is : slice_get p.functions f ≡ Some function
  pub has_body : function.body ≡ Some body
  pub params : AreThere m function.params
  pub count : length args ≡ length function.params
  pub on_stack : s ≡ map held (reverse args) ++ below
  pub taken : taken (length function.params) s [] ≡ Some (args, below)
  pub filled : AreFilled p.objects function.params args (open_all p.objects m function.params)

-- ---- jumps

-- what is wanted stands in the work before the end of the function
abbrev pub CanBreak : List Item → Type 0
CanBreak [] = ⊥
CanBreak (Again k loop ∷ work) = Unit {0}
CanBreak (SwitchEnd ∷ work) = Unit {0}
CanBreak (Reach at end ∷ work) = ⊥
CanBreak (item ∷ work) = CanBreak work

abbrev pub CanContinue : List Item → Type 0
CanContinue [] = ⊥
CanContinue (Again k loop ∷ work) = Unit {0}
CanContinue (Reach at end ∷ work) = ⊥
CanContinue (item ∷ work) = CanContinue work

abbrev pub CanGoTo : ℕ → List Item → Type 0
CanGoTo label [] = ⊥
CanGoTo label (Reach at end ∷ work) = ⊥
CanGoTo label (Close objects items ∷ work) = (has (AtLabel label) items ≡ true) ⊎ CanGoTo label work
CanGoTo label (item ∷ work) = CanGoTo label work

-- the end of the function stands in the work
abbrev pub CanReturn : List Item → Type 0
CanReturn [] = ⊥
CanReturn (Reach at end ∷ work) = Unit {0}
CanReturn (item ∷ work) = CanReturn work

-- all objects that the work will end are there
abbrev pub EndsThere : ObjectMemory → List Item → Type 0
EndsThere m [] = Unit {0}
EndsThere m (Close objects items ∷ work) = AreThere m objects × EndsThere m work
EndsThere m (item ∷ work) = EndsThere m work

-- ---- items

abbrev pub AddrNeeds : ObjectMemory → TLvalueTree → Type 0
AddrNeeds m (Var at x ty is_const) = IsSome (place_of m x)
AddrNeeds m place = Unit {0}

abbrev pub DoNeeds : ObjectMemory → TStmtTree → List Item → Type 0
DoNeeds m (Block at kind objects items) work = AreThere m objects
DoNeeds m (Declare at x inits zeroes_rest) work = IsSome (place_of m x)
DoNeeds m (For at objects head condition step body) work = AreThere m objects
DoNeeds m (Break at) work = CanBreak work × EndsThere m work
DoNeeds m (Continue at) work = CanContinue work × EndsThere m work
DoNeeds m (Goto at label) work = CanGoTo label work × EndsThere m work
DoNeeds m statement work = Unit {0}

-- the end of the run: an int, and no work behind it
abbrev pub FinishNeeds : List Item → List Held → Type 0
FinishNeeds [] (Plain (givens.Value (values.Int t n)) ∷ s) = (t ≡ ints.Int) × numbers.HasNumber ints.Int n
FinishNeeds work s = ⊥

abbrev pub Needs : TProgramTree → Item → List Item → List Held → ObjectMemory → Type 0
Needs p (Addr place) work s m = AddrNeeds m place
Needs p (LoadAt at ty) work s m = IsSome ty × PlaceNeeds m s
Needs p (StoreAt at ty) work s m = StoreNeeds p.objects m ty s
Needs p (Named at) work s m = PlaceNeeds m s
Needs p (CopyAt at extent) work s m = CopyNeeds p.objects m extent s
Needs p (Modify at at_place ty op) work s m = ModifyNeeds p.objects m ty op s
Needs p (StepAt at at_place ty time way stride) work s m = StepNeeds p.objects m ty (step_operator way stride) (one stride) s
Needs p (Un at op ty) work s m = UnaryNeeds m op ty s
Needs p (Bin at op) work s m = BinaryNeeds m op s
Needs p (Conv ty) work s m = ConvertNeeds ty s
Needs p (Move at offset) work s m = PlaceNeeds m s
Needs p (AndThen at ty e) work s m = TestNeeds m ty s
Needs p (OrElse at ty e) work s m = TestNeeds m ty s
Needs p (Truth at ty) work s m = TestNeeds m ty s
Needs p (Pick at ty first second) work s m = TestNeeds m ty s
Needs p (Choose at ty first second) work s m = TestNeeds m ty s
Needs p (Keep at ty) work s m = TestNeeds m ty s
Needs p (Sure at ty) work s m = TestNeeds m ty s
Needs p (Enter at f end) work s m = IsEntered p f s m
Needs p Leave work s m = CanReturn work × EndsThere m work
Needs p (Do statement) work s m = DoNeeds m statement work
Needs p (Close objects items) work s m = AreThere m objects
Needs p (Turn k loop) work s m = TestNeeds m (condition_scalar loop) s
Needs p (Select objects items) work s m = AreThere m objects
Needs p (Fill x offset ty) work s m = FillNeeds m x offset ty s
Needs p (FillCopy x offset extent) work s m = FillCopyNeeds p.objects m x offset extent s
Needs p (Rest x inits) work s m = IsFillable m x
Needs p Finish work s m = FinishNeeds work s
Needs p item work s m = Unit {0}
