use Rattle.std.proofs.Common.{map, sym, subst}
use Rattle.c_syntax.specs.Types.{object_tree}
use Rattle.c_machine_work.specs.declared.items.Item.{Item}
use Rattle.c_machine_work.specs.Views.{item_of}
use Rattle.c_machine_values.specs.Contents.{stack_of}
use Rattle.c_machine_values.specs.Rows.{Does}
use Rattle.c_machine_values.proofs.values.Values.row.Goals as goal

pub returns-in-Drop : goal.returns-in-Drop
returns-in-Drop c =
    let objects = map object_tree c.args.objects.now in
    subst (λ (x : Item). Does objects (item_of x) (stack_of c.args.self.now) c.args.self.now.memory (stack_of c.discard.new.self) c.discard.new.self.memory
    c.discard.result) (sym c.in-Drop.is) (c.discard.ensures objects)

pub returns-in-Fill : goal.returns-in-Fill
returns-in-Fill c =
    let objects = map object_tree c.args.objects.now in
    subst (λ (x : Item). Does objects (item_of x) (stack_of c.args.self.now) c.args.self.now.memory (stack_of c.fill.new.self) c.fill.new.self.memory
    c.fill.result) (sym c.in-Fill.is) (c.fill.ensures objects)
