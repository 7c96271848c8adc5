-- Work items, and what is held, as the definition of the machine has them; of both lists the code's end is the front.
use Rattle.std.specs.Prelude.{List, [], ◌∷◌}
use Rattle.c_machine_trees.specs.Expressions.{expr_tree, place_tree}
use Rattle.c_machine_trees.specs.Statements.{inits_tree, option_tree, stmt_tree, stmts_tree}
use Rattle.c_steps.specs.Work.{Item, AtEnd, GivesNothing, GivesZero, IsWrong, Loop, Eval, Addr, LoadAt, StoreAt, Named, CopyAt, Modify, StepAt, Un, Bin}
use Rattle.c_steps.specs.Work.{Conv, Move, AndThen, OrElse, Truth, Pick, Choose, Keep, Sure, Drop, Enter, Leave, Reach, Do, Close, Begin, Turn, Again}
use Rattle.c_steps.specs.Work.{Select, SwitchEnd, Fill, FillCopy, Rest, Finish}
use Rattle.c_steps.specs.States.{Held, Plain, Struct}
use Rattle.c_machine_work.specs.declared.items.AtEnd as code_ends
use Rattle.c_machine_work.specs.declared.items.AtEnd.TheVariants as ends
use Rattle.c_machine_work.specs.declared.items.Loop as code_loops
use Rattle.c_machine_work.specs.declared.items.Item as code_items
use Rattle.c_machine_work.specs.declared.items.Item.TheVariants as items
use Rattle.c_machine_work.specs.declared.stack.Held as code_held
use Rattle.c_machine_work.specs.declared.stack.Held.TheVariants as held_forms

abbrev pub end_of : code_ends.AtEnd → AtEnd
end_of ends.GivesNothing = GivesNothing
end_of ends.GivesZero = GivesZero
end_of ends.IsWrong = IsWrong

abbrev pub loop_of : code_loops.Loop → Loop
loop_of loop = record { pos = loop.pos; condition = option_tree loop.condition; step = option_tree loop.step; body = stmt_tree loop.body.value }

abbrev pub item_of : code_items.Item → Item
item_of (items.Eval e) = Eval (expr_tree e.value)
item_of (items.Addr place) = Addr (place_tree place.value)
item_of (items.LoadAt at ty) = LoadAt at ty
item_of (items.StoreAt at ty) = StoreAt at ty
item_of (items.Named at) = Named at
item_of (items.CopyAt at extent) = CopyAt at extent
item_of (items.Modify at at_place ty op) = Modify at at_place ty op
item_of (items.StepAt at at_place ty time way stride) = StepAt at at_place ty time way stride
item_of (items.Un at op ty) = Un at op ty
item_of (items.Bin at op) = Bin at op
item_of (items.Conv ty) = Conv ty
item_of (items.Move at offset) = Move at offset
item_of (items.AndThen at ty e) = AndThen at ty (expr_tree e.value)
item_of (items.OrElse at ty e) = OrElse at ty (expr_tree e.value)
item_of (items.Truth at ty) = Truth at ty
item_of (items.Pick at ty a b) = Pick at ty (expr_tree a.value) (expr_tree b.value)
item_of (items.Choose at ty a b) = Choose at ty (stmt_tree a.value) (stmt_tree b.value)
item_of (items.Keep at ty) = Keep at ty
item_of (items.Sure at ty) = Sure at ty
item_of items.Drop = Drop
item_of (items.Enter at f end) = Enter at f (end_of end)
item_of items.Leave = Leave
item_of (items.Reach at end) = Reach at (end_of end)
item_of (items.Do statement) = Do (stmt_tree statement.value)
item_of (items.Close objects list) = Close objects.value (stmts_tree list.value)
item_of (items.Begin k loop) = Begin k (loop_of loop.value)
item_of (items.Turn k loop) = Turn k (loop_of loop.value)
item_of (items.Again k loop) = Again k (loop_of loop.value)
item_of (items.Select objects list) = Select objects.value (stmts_tree list.value)
item_of items.SwitchEnd = SwitchEnd
item_of (items.Fill x offset ty) = Fill x offset ty
item_of (items.FillCopy x offset extent) = FillCopy x offset extent
item_of (items.Rest x inits) = Rest x (inits_tree inits.value)
item_of items.Finish = Finish

-- what stands behind, with the items of a list in front of it, the last one first
unfoldable pub in_front : List code_items.Item → List Item → List Item
in_front [] work = work
in_front (item ∷ list) work = in_front list (item_of item ∷ work)

abbrev pub held_of : code_held.Held → Held
held_of (held_forms.Plain given) = Plain given
held_of (held_forms.Struct at v) = Struct at v

unfoldable pub on_top : List code_held.Held → List Held → List Held
on_top [] stack = stack
on_top (x ∷ list) stack = on_top list (held_of x ∷ stack)
