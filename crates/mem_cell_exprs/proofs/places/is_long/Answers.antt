use Rattle.c_syntax_written.specs.declared.int_type.IntType.TheVariants.{Long}
use Rattle.machine_nums.proofs.Wrapped.{inside_has}
use Rattle.mem_cell_exprs.proofs.places.is_long.Goals as goal

pub returns : goal.returns
returns g c = λ inside v n a h. inside_has Long c.in_ok-range.range n (c.lies_in.ensures.0 inside) ((c.in_ok-range.ensures.holds v n a h).0)
