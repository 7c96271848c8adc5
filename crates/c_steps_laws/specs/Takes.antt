-- Which values the work of a typed run takes, in their order: a rule for each item.
use Rattle.std.specs.Prelude.{ℕ, Bool, true, ◌≡◌, List, [], ◌∷◌, map, Contains, Option, Some, None, slice_get}
use Rattle.c_syntax_written.specs.declared.place.Pos.{Pos}
use Rattle.c_syntax_written.specs.declared.int_type.IntType.{IntType}
use Rattle.c_syntax_written.specs.declared.int_type.IntType.TheVariants as ints
use Rattle.c_syntax_written.specs.declared.step.StepWay.{StepWay}
use Rattle.c_syntax.specs.declared.operator.Extent.{Extent}
use Rattle.c_syntax.specs.declared.operator.Stride.{Stride}
use Rattle.c_syntax.specs.declared.operator.StepTime.{StepTime}
use Rattle.c_syntax.specs.declared.operator.TUnaryOp.{TUnaryOp}
use Rattle.c_syntax.specs.declared.operator.TBinaryOp.{TBinaryOp}
use Rattle.c_syntax.specs.Types.{CTypeTree, Int}
use Rattle.c_syntax.specs.TypedExpr.{TExprTree, TLvalueTree}
use Rattle.c_syntax.specs.TypedStmt.{TInitTree, TStmtTree, TStmtTrees}
use Rattle.c_syntax.specs.GivenType.{given_type}
use Rattle.c_syntax.specs.Program.{TFunctionTree, TProgramTree}
use Rattle.c_layout.specs.ProperTypes.{PartAt}
use Rattle.c_layout.specs.RowTypes.{CopyRow}
use Rattle.c_layout.specs.TypedNodes.{object_type, IsTypedExpr, IsTypedPlace}
use Rattle.block_mem.specs.declared.types.Scalar.{Scalar}
use Rattle.block_mem.specs.declared.types.Scalar.TheVariants as scalars
use Rattle.block_mem.specs.Bytes.{IsOf}
use Rattle.c_values.specs.Typed.{binary_type, unary_type}
use Rattle.c_values.specs.Operators.{one}
use Rattle.c_values.specs.Values.{scalar_of}
use Rattle.c_steps.specs.Work.{Item, Loop, AtEnd, GivesNothing, GivesZero, IsWrong, Eval, Addr, LoadAt, StoreAt, Named, CopyAt}
use Rattle.c_steps.specs.Work.{Modify, StepAt, Un, Bin, Conv, Move}
use Rattle.c_steps.specs.Work.{AndThen, OrElse, Truth, Pick, Choose, Keep, Sure, Drop, Enter, Leave, Reach, Do, Close, Begin, Turn, Again, Select, SwitchEnd}
use Rattle.c_steps.specs.Work.{Fill, FillCopy, Rest, Finish}
use Rattle.c_steps.specs.Changes.{left_type, step_operator}
use Rattle.c_steps.specs.Expressions.{value_scalar}
use Rattle.c_steps.specs.Statements.{condition_scalar}
use Rattle.c_steps_laws.specs.Wants.{Want, Of, OfStruct, Anything, want_of, Operates, OperatesOn, Converts}
use Rattle.c_steps_laws.specs.Surroundings.{around, scope_at, in_items, ends_switch, TypedStmt, TypedItems, TypedLoop}

-- what a call gives, by the result of its function
pub data GivesAtEnd : CTypeTree → Option Pos → AtEnd → Want → Type 0 where
  nothing : {result : CTypeTree} {at : Option Pos} → GivesAtEnd result at GivesNothing Anything
  zero : {at : Option Pos} → GivesAtEnd (Int ints.Int) at GivesZero (Of (scalars.Int ints.Int))
  zero_any : {result : CTypeTree} {at : Option Pos} → GivesAtEnd result at GivesZero Anything
  wrong : {result : CTypeTree} {at : Pos} {ty : Scalar} → scalar_of result ≡ Some ty → GivesAtEnd result (Some at) IsWrong (Of ty)

-- the arguments of a call, the last one on top
abbrev pub args_on : List Want → List Want → List Want
args_on [] wants = wants
args_on (x ∷ xs) wants = args_on xs (x ∷ wants)

abbrev pub param_wants : TProgramTree → TFunctionTree → List Want
param_wants p function = map (λ x. want_of (object_type p x)) function.params

-- the work begins where a statement may begin
pub data IsLevel : List Item → Type 0 where
  at_do : {statement : TStmtTree} {work : List Item} → IsLevel (Do statement ∷ work)
  at_close : {objects : List ℕ} {items : TStmtTrees} {work : List Item} → IsLevel (Close objects items ∷ work)
  at_begin : {k : ℕ} {loop : Loop} {work : List Item} → IsLevel (Begin k loop ∷ work)
  at_again : {k : ℕ} {loop : Loop} {work : List Item} → IsLevel (Again k loop ∷ work)
  at_reach : {at : Option Pos} {end : AtEnd} {work : List Item} → IsLevel (Reach at end ∷ work)

-- behind the end of a block a statement may begin, or the block's switch ends
pub data IsBehind : List Item → Type 0 where
  level : {work : List Item} → IsLevel work → IsBehind work
  switch : {work : List Item} → IsBehind (SwitchEnd ∷ work)

-- an object that lives where the work begins
abbrev pub LivesAt : TProgramTree → CTypeTree → List Item → ℕ → Type 0
LivesAt p r w x = Contains (scope_at p r w).live x

-- `op=`, `++` and `--`: what stands in the place becomes of the operator's type, and what comes of it of the place's
pub record Changes (op : TBinaryOp) (place right : Scalar) : Type 0 where
  pub left : Scalar
  pub is_left : left_type op (Some place) ≡ Some left
  pub operates : Operates op left right
  pub gives : binary_type op ≡ left
  pub there : Converts place left
  pub back : Converts left place

-- in a function with this result the work takes what is wanted, the first on top
pub data Takes (p : TProgramTree) : CTypeTree → List Item → List Want → Type 0 where
  eval : {r : CTypeTree} {e : TExprTree} {w : List Item} {ts : List Want} (wanted : Bool)
      → IsTypedExpr (scope_at p r w) wanted e → Takes p r w (want_of (given_type e) ∷ ts) → Takes p r (Eval e ∷ w) ts
  addr : {r : CTypeTree} {place : TLvalueTree} {w : List Item} {ts : List Want}
      → IsTypedPlace (scope_at p r w) place → Takes p r w (Of scalars.Pointer ∷ ts) → Takes p r (Addr place ∷ w) ts
  load : {r : CTypeTree} {at : Pos} {ty : Scalar} {w : List Item} {ts : List Want}
      → Takes p r w (Of ty ∷ ts) → Takes p r (LoadAt at (Some ty) ∷ w) (Of scalars.Pointer ∷ ts)
  store : {r : CTypeTree} {at : Pos} {ty : Scalar} {w : List Item} {ts : List Want}
      → Takes p r w (Of ty ∷ ts) → Takes p r (StoreAt at (Some ty) ∷ w) (Of ty ∷ Of scalars.Pointer ∷ ts)
  named : {r : CTypeTree} {at : Pos} {w : List Item} {ts : List Want}
      → Takes p r w (OfStruct ∷ ts) → Takes p r (Named at ∷ w) (Of scalars.Pointer ∷ ts)
  copy : {r : CTypeTree} {at : Pos} {extent : Extent} {w : List Item} {ts : List Want}
      → Takes p r w (OfStruct ∷ ts) → Takes p r (CopyAt at extent ∷ w) (OfStruct ∷ Of scalars.Pointer ∷ ts)
  modify : {r : CTypeTree} {at at_place : Pos} {ty right : Scalar} {op : TBinaryOp} {w : List Item} {ts : List Want}
      → Changes op ty right → Takes p r w (Of ty ∷ ts) → Takes p r (Modify at at_place (Some ty) op ∷ w) (Of right ∷ Of scalars.Pointer ∷ ts)
  step_at : {r : CTypeTree} {at at_place : Pos} {ty right : Scalar} {time : StepTime} {way : StepWay} {stride : Stride} {w : List Item} {ts : List Want}
      → IsOf right (one stride) → Changes (step_operator way stride) ty right → Takes p r w (Of ty ∷ ts)
      → Takes p r (StepAt at at_place (Some ty) time way stride ∷ w) (Of scalars.Pointer ∷ ts)
  un : {r : CTypeTree} {at : Pos} {op : TUnaryOp} {ty : Scalar} {w : List Item} {ts : List Want}
      → OperatesOn op ty → Takes p r w (Of (unary_type op) ∷ ts) → Takes p r (Un at op (Some ty) ∷ w) (Of ty ∷ ts)
  bin : {r : CTypeTree} {at : Pos} {op : TBinaryOp} {left right : Scalar} {w : List Item} {ts : List Want}
      → Operates op left right → Takes p r w (Of (binary_type op) ∷ ts) → Takes p r (Bin at op ∷ w) (Of right ∷ Of left ∷ ts)
  convert : {r : CTypeTree} {from to : Scalar} {w : List Item} {ts : List Want}
      → Converts from to → Takes p r w (Of to ∷ ts) → Takes p r (Conv (Some to) ∷ w) (Of from ∷ ts)
  to_void : {r : CTypeTree} {want : Want} {w : List Item} {ts : List Want}
      → Takes p r w (Anything ∷ ts) → Takes p r (Conv None ∷ w) (want ∷ ts)
  move : {r : CTypeTree} {at : Pos} {offset : ℕ} {w : List Item} {ts : List Want}
      → Takes p r w (Of scalars.Pointer ∷ ts) → Takes p r (Move at offset ∷ w) (Of scalars.Pointer ∷ ts)
  and_then : {r : CTypeTree} {at : Pos} {ty s : Scalar} {e : TExprTree} {w : List Item} {ts : List Want}
      → IsTypedExpr (scope_at p r w) true e → value_scalar e ≡ Some s → Takes p r w (Of (scalars.Int ints.Int) ∷ ts)
      → Takes p r (AndThen at (Some ty) e ∷ w) (Of ty ∷ ts)
  or_else : {r : CTypeTree} {at : Pos} {ty s : Scalar} {e : TExprTree} {w : List Item} {ts : List Want}
      → IsTypedExpr (scope_at p r w) true e → value_scalar e ≡ Some s → Takes p r w (Of (scalars.Int ints.Int) ∷ ts)
      → Takes p r (OrElse at (Some ty) e ∷ w) (Of ty ∷ ts)
  truth_of : {r : CTypeTree} {at : Pos} {ty : Scalar} {w : List Item} {ts : List Want}
      → Takes p r w (Of (scalars.Int ints.Int) ∷ ts) → Takes p r (Truth at (Some ty) ∷ w) (Of ty ∷ ts)
  pick : {r : CTypeTree} {at : Pos} {ty : Scalar} {a b : TExprTree} {w : List Item} {ts : List Want}
      → IsTypedExpr (scope_at p r w) true a → IsTypedExpr (scope_at p r w) true b → want_of (given_type b) ≡ want_of (given_type a)
      → Takes p r w (want_of (given_type a) ∷ ts) → Takes p r (Pick at (Some ty) a b ∷ w) (Of ty ∷ ts)
  choose : {r : CTypeTree} {at : Pos} {ty : Scalar} {a b : TStmtTree} {w : List Item} {ts : List Want}
      → TypedStmt (around p r w) a → TypedStmt (around p r w) b → IsLevel w → Takes p r w ts
      → Takes p r (Choose at (Some ty) a b ∷ w) (Of ty ∷ ts)
  keep : {r : CTypeTree} {at : Pos} {ty : Scalar} {w : List Item} {ts : List Want}
      → Takes p r w (Anything ∷ ts) → Takes p r (Keep at (Some ty) ∷ w) (Of ty ∷ ts)
  sure : {r : CTypeTree} {at : Pos} {ty : Scalar} {w : List Item} {ts : List Want}
      → Takes p r w (Anything ∷ ts) → Takes p r (Sure at (Some ty) ∷ w) (Of ty ∷ ts)
  drop : {r : CTypeTree} {want : Want} {w : List Item} {ts : List Want} → Takes p r w ts → Takes p r (Drop ∷ w) (want ∷ ts)
  enter : {r : CTypeTree} {at : Option Pos} {f : ℕ} {end : AtEnd} {function : TFunctionTree} {body : TStmtTree} {want : Want} {w : List Item} {ts : List Want}
      → slice_get p.functions f ≡ Some function → function.body ≡ Some body → GivesAtEnd function.result at end want → Takes p r w (want ∷ ts)
      → Takes p r (Enter at f end ∷ w) (args_on (param_wants p function) ts)
  leave : {r : CTypeTree} {w : List Item} {ts : List Want} → IsLevel w → Takes p r w ts → Takes p r (Leave ∷ w) (want_of r ∷ ts)
  reach : {r q : CTypeTree} {at : Option Pos} {end : AtEnd} {want : Want} {w : List Item} {ts : List Want}
      → GivesAtEnd r at end want → Takes p q w (want ∷ ts) → Takes p r (Reach at end ∷ w) ts
  does : {r : CTypeTree} {statement : TStmtTree} {w : List Item} {ts : List Want}
      → TypedStmt (around p r w) statement → IsLevel w → Takes p r w ts → Takes p r (Do statement ∷ w) ts
  close : {r : CTypeTree} {objects : List ℕ} {items : TStmtTrees} {w : List Item} {ts : List Want}
      → TypedItems (in_items (ends_switch w) objects items (around p r w)) items → IsBehind w → Takes p r w ts
      → Takes p r (Close objects items ∷ w) ts
  begin : {r : CTypeTree} {k : ℕ} {loop : Loop} {w : List Item} {ts : List Want}
      → TypedLoop (around p r w) loop → IsLevel w → Takes p r w ts → Takes p r (Begin k loop ∷ w) ts
  turn : {r : CTypeTree} {k : ℕ} {loop : Loop} {s : Scalar} {w : List Item} {ts : List Want}
      → condition_scalar loop ≡ Some s → TypedLoop (around p r w) loop → IsLevel w → Takes p r w ts → Takes p r (Turn k loop ∷ w) (Of s ∷ ts)
  again : {r : CTypeTree} {k : ℕ} {loop : Loop} {w : List Item} {ts : List Want}
      → TypedLoop (around p r w) loop → IsLevel w → Takes p r w ts → Takes p r (Again k loop ∷ w) ts
  select : {r : CTypeTree} {t : IntType} {objects : List ℕ} {items : TStmtTrees} {w : List Item} {ts : List Want}
      → TypedItems (in_items true objects items (around p r w)) items → IsLevel w → Takes p r w ts
      → Takes p r (Select objects items ∷ w) (Of (scalars.Int t) ∷ ts)
  switch_end : {r : CTypeTree} {w : List Item} {ts : List Want} → IsLevel w → Takes p r w ts → Takes p r (SwitchEnd ∷ w) ts
  fill : {r : CTypeTree} {x offset : ℕ} {part : CTypeTree} {ty : Scalar} {w : List Item} {ts : List Want}
      → LivesAt p r w x → PartAt p.structs (object_type p x) offset part → scalar_of part ≡ Some ty → Takes p r w ts
      → Takes p r (Fill x offset (Some ty) ∷ w) (Of ty ∷ ts)
  fill_copy : {r : CTypeTree} {x offset : ℕ} {part source : CTypeTree} {extent : Extent} {w : List Item} {ts : List Want}
      → LivesAt p r w x → PartAt p.structs (object_type p x) offset part → CopyRow p.structs extent part source → Takes p r w ts
      → Takes p r (FillCopy x offset extent ∷ w) (OfStruct ∷ ts)
  rest : {r : CTypeTree} {x : ℕ} {inits : List TInitTree} {w : List Item} {ts : List Want}
      → LivesAt p r w x → Takes p r w ts → Takes p r (Rest x inits ∷ w) ts
  finish : {r : CTypeTree} → Takes p r (Finish ∷ []) (Of (scalars.Int ints.Int) ∷ [])
