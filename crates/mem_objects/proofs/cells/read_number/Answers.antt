use Rattle.std.proofs.Common.{sym, ap, ◌∙◌, Result}
use Rattle.block_mem.specs.declared.types.Value.{Value}
use Rattle.c_values.specs.declared.values.Wrong.{Wrong}
use Rattle.mem_objects.specs.Cells.{number_loaded}
use Rattle.mem_objects.proofs.Beginning.{value_in, value_loads}
use Rattle.mem_objects.proofs.cells.read_number.Goals as goal

pub returns-in-Ok-clause-number : goal.returns-in-Ok-clause-number
returns-in-Ok-clause-number c = c.number_of.ensures.number ∙ ap (λ (r : Result Value Wrong). number_loaded (value_in r)) (sym c.in-Ok.is)
    ∙ value_loads c.requires.0 c.args.memory.now c.args.x c.args.ty c.address.result c.load.result c.requires.1 c.address.ensures.address c.address.ensures.made
    c.load.ensures.answer

pub returns-in-Err-clause-number : goal.returns-in-Err-clause-number
returns-in-Err-clause-number c = ap (λ (r : Result Value Wrong). number_loaded (value_in r)) (sym c.in-Err.is)
    ∙ value_loads c.requires.0 c.args.memory.now c.args.x c.args.ty c.address.result c.load.result c.requires.1 c.address.ensures.address c.address.ensures.made
    c.load.ensures.answer
