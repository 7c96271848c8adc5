-- Step: one item is taken off, and its row is done. There is no choice (this profile).
use Rattle.std.specs.Prelude.{suc, ℤ, true, false, if◌then◌else◌, List, [], ◌∷◌, Option, Some, None}
use Rattle.c_syntax_written.specs.declared.place.Pos.{Pos}
use Rattle.c_syntax.specs.declared.operator.StepTime.TheVariants.{Before}
use Rattle.c_syntax.specs.Types.{ObjectTree}
use Rattle.c_syntax.specs.Program.{TProgramTree}
use Rattle.block_mem.specs.declared.types.Scalar.{Scalar}
use Rattle.block_mem.specs.declared.types.Value.{Value}
use Rattle.block_mem.specs.declared.types.Value.TheVariants as values
use Rattle.c_values.specs.declared.values.Given.TheVariants as givens
use Rattle.c_values.specs.Values.{truth, bit, converted}
use Rattle.c_values.specs.Places.{ObjectMemory}
use Rattle.c_values.specs.Looks.{judge}
use Rattle.c_values.specs.Accesses.{load_at, test_looks, assert_looks}
use Rattle.c_values.specs.Operators.{unary, binary, member, one}
use Rattle.c_objects.specs.Opening.{shut_all}
use Rattle.c_objects.specs.Writing.{rest}
use Rattle.c_steps.specs.Work.{Item, Eval, Addr, LoadAt, StoreAt, Named, CopyAt, Modify, StepAt, Un, Bin, Conv, Move, AndThen, OrElse, Truth, Pick, Choose}
use Rattle.c_steps.specs.Work.{Keep, Sure, Drop, Enter, Leave, Reach, Do, Close, Begin, Turn, Again, Select, SwitchEnd, Fill, FillCopy, Rest, Finish}
use Rattle.c_steps.specs.States.{Held, Plain, Struct, State, Next, Ended, Stopped, Stands, goes, held, judged, with_value, with_some}
use Rattle.c_steps.specs.Marks.{chosen}
use Rattle.c_steps.specs.Jumps.{left}
use Rattle.c_steps.specs.Changes.{store_step, copy_step, modify_step, step_operator, fill_step, fill_copy_step}
use Rattle.c_steps.specs.Calls.{enter_step, reach_step}
use Rattle.c_steps.specs.Expressions.{value_scalar, eval_step, addr_step}
use Rattle.c_steps.specs.Statements.{do_step, begin_step, again_step, condition_scalar, select_step}

-- a value is tested, and goes on by its truth (C11 6.5.13, 6.5.14, 6.5.15p4, 6.8.4.1p2)
abbrev pub test_step : List ObjectTree → Pos → Option Scalar → Value → Next → Next → ObjectMemory → Next
test_step objects at ty v a b m = judged (judge objects (test_looks m ty v)) at (if truth v then a else b)

-- what an assertion tells (this profile)
abbrev pub sure_step : List ObjectTree → Pos → Option Scalar → Value → List Item → List Held → ObjectMemory → List ℤ → Next
sure_step objects at ty v work s m i = judged (judge objects (assert_looks m ty v)) at (goes work (Plain givens.Nothing ∷ s) m i)

-- a conversion; a struct becomes nothing (C11 6.3.2.2)
abbrev pub conv_step : Option Scalar → Held → List Item → List Held → ObjectMemory → List ℤ → Next
conv_step ty (Plain g) work s m i = with_some (converted ty g) (λ new. goes work (Plain new ∷ s) m i)
conv_step None (Struct at place) work s m i = goes work (Plain givens.Nothing ∷ s) m i
conv_step (Some ty) (Struct at place) work s m i = Stands

abbrev pub rest_step : Option ObjectMemory → List Item → List Held → List ℤ → Next
rest_step m work s i = with_some m (λ n. goes work s n i)

-- the row of each item
abbrev pub item_step : TProgramTree → Item → List Item → List Held → ObjectMemory → List ℤ → Next
item_step p (Eval e) work s m i = eval_step p e work s m i
item_step p (Addr place) work s m i = addr_step place work s m i
item_step p (LoadAt at ty) work (Plain (givens.Value v) ∷ s) m i = with_value (load_at p.objects m ty v) at (λ new. goes work (held new ∷ s) m i)
item_step p (StoreAt at ty) work (Plain (givens.Value u) ∷ Plain (givens.Value v) ∷ s) m i = store_step p.objects at ty v u u work s m i
item_step p (Named at) work (Plain (givens.Value v) ∷ s) m i = goes work (Struct at v ∷ s) m i
item_step p (CopyAt at extent) work (Struct from u ∷ Plain (givens.Value v) ∷ s) m i = copy_step p.objects at extent from u v work s m i
item_step p (Modify at at_place ty op) work (Plain (givens.Value u) ∷ Plain (givens.Value v) ∷ s) m i =
    modify_step p.objects at at_place ty op Before v u work s m i
item_step p (StepAt at at_place ty time way stride) work (Plain (givens.Value v) ∷ s) m i =
    modify_step p.objects at at_place ty (step_operator way stride) time v (one stride) work s m i
item_step p (Un at op ty) work (Plain (givens.Value v) ∷ s) m i = with_value (unary p.objects m op ty v) at (λ new. goes work (held new ∷ s) m i)
item_step p (Bin at op) work (Plain (givens.Value u) ∷ Plain (givens.Value v) ∷ s) m i =
    with_value (binary p.objects m op v u) at (λ new. goes work (held new ∷ s) m i)
item_step p (Conv ty) work (v ∷ s) m i = conv_step ty v work s m i
item_step p (Move at offset) work (Plain (givens.Value v) ∷ s) m i = with_value (member p.objects m v offset) at (λ new. goes work (held new ∷ s) m i)
item_step p (AndThen at ty e) work (Plain (givens.Value v) ∷ s) m i =
    test_step p.objects at ty v (goes (Eval e ∷ Truth at (value_scalar e) ∷ work) s m i) (goes work (held (bit false) ∷ s) m i) m
item_step p (OrElse at ty e) work (Plain (givens.Value v) ∷ s) m i =
    test_step p.objects at ty v (goes work (held (bit true) ∷ s) m i) (goes (Eval e ∷ Truth at (value_scalar e) ∷ work) s m i) m
item_step p (Truth at ty) work (Plain (givens.Value v) ∷ s) m i =
    test_step p.objects at ty v (goes work (held (bit true) ∷ s) m i) (goes work (held (bit false) ∷ s) m i) m
item_step p (Pick at ty first second) work (Plain (givens.Value v) ∷ s) m i =
    test_step p.objects at ty v (goes (Eval first ∷ work) s m i) (goes (Eval second ∷ work) s m i) m
item_step p (Choose at ty first second) work (Plain (givens.Value v) ∷ s) m i =
    test_step p.objects at ty v (goes (Do first ∷ work) s m i) (goes (Do second ∷ work) s m i) m
item_step p (Keep at ty) work (Plain (givens.Value v) ∷ s) m i = test_step p.objects at ty v (goes work (Plain givens.Nothing ∷ s) m i) Stopped m
item_step p (Sure at ty) work (Plain (givens.Value v) ∷ s) m i = sure_step p.objects at ty v work s m i
item_step p Drop work (v ∷ s) m i = goes work s m i
item_step p (Enter at f end) work s m i = enter_step p at f end work s m i
item_step p Leave work (v ∷ s) m i = left work v s m i
item_step p (Reach at end) work s m i = reach_step at end work s m i
item_step p (Do statement) work s m i = do_step p.objects statement work s m i
item_step p (Close xs items) work s m i = goes work s (shut_all m xs) i
item_step p (Begin k loop) work s m i = begin_step k loop loop.condition work s m i
item_step p (Turn k loop) work (Plain (givens.Value v) ∷ s) m i =
    test_step p.objects loop.pos (condition_scalar loop) v (goes (Do loop.body ∷ Again (suc k) loop ∷ work) s m i) (goes work s m i) m
item_step p (Again k loop) work s m i = again_step k loop loop.step work s m i
item_step p (Select xs items) work (Plain (givens.Value (values.Int t n)) ∷ s) m i = select_step p.objects (chosen n items) xs items work s m i
item_step p SwitchEnd work s m i = goes work s m i
item_step p (Fill x offset ty) work (Plain (givens.Value v) ∷ s) m i = fill_step x offset ty v work s m i
item_step p (FillCopy x offset extent) work (Struct from u ∷ s) m i = fill_copy_step p.objects x offset extent from u work s m i
item_step p (Rest x inits) work s m i = rest_step (rest m x inits) work s i
item_step p Finish work (Plain (givens.Value (values.Int t n)) ∷ s) m i = Ended n
item_step p item work s m i = Stands

abbrev pub work_step : TProgramTree → List Item → List Held → ObjectMemory → List ℤ → Next
work_step p [] s m i = Stands
work_step p (item ∷ work) s m i = item_step p item work s m i

-- Step
abbrev pub step : TProgramTree → State → Next
step p state = work_step p state.work state.stack state.memory state.inputs
