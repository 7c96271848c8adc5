use Rattle.std.proofs.Common.{◌∙◌, ap, sym}
use Rattle.c_syntax_written.specs.declared.int_type.IntType.TheVariants.{Long}
use Rattle.ext_int.specs.Valuation.{value_at}
use Rattle.machine_nums.specs.Machine.{exact_value}
use Rattle.machine_nums.proofs.Trees.{mexpr_read}
use Rattle.mem_cell_loads.proofs.reading.is_cell_zero.Goals as goal

pub returns : goal.returns
returns g c =
    let x = c.in-Some.x in
    λ zero v a. ap (value_at v) (sym c.in-Some.ensures.variable)
    ∙ c.is_zero.ensures zero (value_at v x.0) (c.in_ok-range.ensures.holds v (value_at v x.0) a (ap (exact_value v) (mexpr_read x Long))).0
