use Rattle.std.proofs.Common.{arith, get_or, refl}
use Rattle.mem_cell_bytes.specs.declared.entry.FillByte.TheVariants as fills
use Rattle.mem_cell_bytes.specs.declared.entry.Stretch.{Stretch}
use Rattle.mem_cell_grid.proofs.Lists.{has-or}
use Rattle.mem_cell_loads.proofs.found.fill_with.Goals as goal

pub returns-then-has_all : goal.returns-then-has_all
returns-then-has_all c =
    let stretches = c.args.stretches.now in let i = c.loop-f.f-index in let none : Stretch = record { from = 0; to = 0; byte = fills.Undef } in
    let first = c.if-has_all.ensures.low refl in let last = c.if-has_all.ensures.high refl in
    λ q low high. record {
      stretch = get_or stretches i none;
      has = has-or stretches i none c.loop-f-test.true;
      from = omega (arith, first, low);
      to = omega (arith, last, high);
      is = refl;
    }
