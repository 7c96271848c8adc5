-- Rows of statements (C11 6.8).
use Rattle.std.specs.Prelude.{ℕ, ℤ, Bool, true, false, List, [], ◌∷◌, Option, Some, None, option_map, unwrap_or}
use Rattle.c_syntax_written.specs.declared.place.Pos.{Pos}
use Rattle.c_syntax_written.specs.declared.int_type.IntType.TheVariants as ints
use Rattle.c_syntax.specs.Types.{Int, ObjectTree}
use Rattle.c_syntax.specs.TypedExpr.{TExprTree}
use Rattle.c_syntax.specs.TypedParts.{texpr_type}
use Rattle.c_syntax.specs.TypedStmt.{TInitTree, Store, Copy, TStmtTree, Empty, Expr, Block, Declare, Static, If, While, DoWhile, For, Switch}
use Rattle.c_syntax.specs.TypedStmt.{Break, Continue, Goto, Return, Label, Case, Default, TStmtTrees, none}
use Rattle.block_mem.specs.declared.types.Scalar.{Scalar}
use Rattle.c_values.specs.declared.values.Given.TheVariants as givens
use Rattle.c_values.specs.Values.{scalar_of, bit}
use Rattle.c_values.specs.Places.{ObjectMemory}
use Rattle.c_objects.specs.Opening.{open_all, undefined}
use Rattle.c_steps.specs.Work.{Item, Loop, Eval, Drop, Do, Close, Begin, Turn, Again, Select, SwitchEnd, Choose, Fill, FillCopy, Rest, Leave}
use Rattle.c_steps.specs.States.{Held, Plain, Next, goes, held, with_some}
use Rattle.c_steps.specs.Marks.{Mark, does, behind}
use Rattle.c_steps.specs.Jumps.{broken, continued, jumped}
use Rattle.c_steps.specs.Expressions.{value_scalar}

-- the items of an initialiser of an object, in their order (C11 6.7.9)
abbrev pub init_items : ℕ → List TInitTree → List Item → List Item
init_items x [] work = work
init_items x (Store offset ty value ∷ inits) work = Eval value ∷ Fill x offset (scalar_of ty) ∷ init_items x inits work
init_items x (Copy offset extent source ∷ inits) work = Eval source ∷ FillCopy x offset extent ∷ init_items x inits work

-- behind a list or a literal what it does not name becomes 0 (C11 6.7.9p21)
abbrev pub rest_items : ℕ → List TInitTree → Bool → List Item → List Item
rest_items x inits true work = Rest x inits ∷ work
rest_items x inits false work = work

abbrev pub loop_of : Pos → Option TExprTree → Option TExprTree → TStmtTree → Loop
loop_of at condition step body = record { pos = at; condition = condition; step = step; body = body }

-- `return`, with a value or without
abbrev pub return_step : Option TExprTree → List Item → List Held → ObjectMemory → List ℤ → Next
return_step None work s m i = goes (Leave ∷ work) (Plain givens.Nothing ∷ s) m i
return_step (Some e) work s m i = goes (Eval e ∷ Leave ∷ work) s m i

abbrev pub do_step : List ObjectTree → TStmtTree → List Item → List Held → ObjectMemory → List ℤ → Next
do_step objects (Empty at) work s m i = goes work s m i
do_step objects (Expr at e) work s m i = goes (Eval e ∷ Drop ∷ work) s m i
do_step objects (Block at kind xs items) work s m i = goes (does items (Close xs items ∷ work)) s (open_all objects m xs) i
do_step objects (Declare at x inits zeroes_rest) work s m i =
    with_some (undefined m x) (λ n. goes (init_items x inits (rest_items x inits zeroes_rest work)) s n i)
do_step objects (Static at x) work s m i = goes work s m i
do_step objects (If at condition first second) work s m i = goes (Eval condition ∷ Choose at (value_scalar condition) first second ∷ work) s m i
do_step objects (While at condition body) work s m i = goes (Begin 0 (loop_of at (Some condition) None body) ∷ work) s m i
do_step objects (DoWhile at body condition) work s m i = goes (Do body ∷ Again 1 (loop_of at (Some condition) None body) ∷ work) s m i
do_step objects (For at xs head condition step body) work s m i =
    goes (does head (Begin 0 (loop_of at condition step body) ∷ Close xs none ∷ work)) s (open_all objects m xs) i
do_step objects (Switch at e kind xs items) work s m i = goes (Eval e ∷ Select xs items ∷ work) s m i
do_step objects (Break at) work s m i = broken work s m i
do_step objects (Continue at) work s m i = continued work s m i
do_step objects (Goto at label) work s m i = jumped label work s m i
do_step objects (Return at value) work s m i = return_step value work s m i
do_step objects (Label at label) work s m i = goes work s m i
do_step objects (Case at n) work s m i = goes work s m i
do_step objects (Default at) work s m i = goes work s m i

-- a loop's condition, where there is one, and else what is not 0 (C11 6.8.5p4, 6.8.5.3p2)
abbrev pub begin_step : ℕ → Loop → Option TExprTree → List Item → List Held → ObjectMemory → List ℤ → Next
begin_step k loop None work s m i = goes (Turn k loop ∷ work) (held (bit true) ∷ s) m i
begin_step k loop (Some e) work s m i = goes (Eval e ∷ Turn k loop ∷ work) s m i

-- behind the body of a loop, its step (C11 6.8.5.3p1)
abbrev pub again_step : ℕ → Loop → Option TExprTree → List Item → List Held → ObjectMemory → List ℤ → Next
again_step k loop None work s m i = goes (Begin k loop ∷ work) s m i
again_step k loop (Some e) work s m i = goes (Eval e ∷ Drop ∷ Begin k loop ∷ work) s m i

abbrev pub condition_scalar : Loop → Option Scalar
condition_scalar loop = scalar_of (unwrap_or (option_map texpr_type loop.condition) (Int ints.Int))

-- a switch: its items from the chosen mark on, and nothing where there is none (C11 6.8.4.2p4 to p7)
abbrev pub select_step : List ObjectTree → Option Mark → List ℕ → TStmtTrees → List Item → List Held → ObjectMemory → List ℤ → Next
select_step objects None xs items work s m i = goes work s m i
select_step objects (Some mark) xs items work s m i =
    goes (does (behind mark items) (Close xs items ∷ SwitchEnd ∷ work)) s (open_all objects m xs) i
