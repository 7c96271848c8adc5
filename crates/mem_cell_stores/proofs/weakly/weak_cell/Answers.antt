use Rattle.std.proofs.Common.{◌≡◌, rules, subst, sym}
use Rattle.mem_cell_bytes.specs.Joins.{IsWider}
use Rattle.mem_cell_exprs.proofs.Options.{some-at}
use Rattle.mem_cell_stores.specs.Changes.{IsCellFor}
use Rattle.mem_cell_stores.proofs.Weaker.{joins-first, joins-fit}
use Rattle.mem_cell_stores.proofs.weakly.weak_cell.Goals as goal

pub returns-then-eq-clause-wider : goal.returns-then-eq-clause-wider
returns-then-eq-clause-wider c = subst (IsWider c.args.e.now) (sym c.in_ok-joined.ensures) (joins-first c.args.e.now c.in-Some.cell)

pub returns-then-eq-clause-fits : goal.returns-then-eq-clause-fits
returns-then-eq-clause-fits c =
    let e = c.args.e.now in let cell = c.in-Some.cell in let ty = c.args.ty in let content = c.args.content.now in
    let same : e.ty ≡ cell.ty = search rules in
    let fits = some-at (IsCellFor e.offset ty content) c.in_ok-cell.field-0 cell c.in-Some.is c.in_ok-cell.ensures in
    subst (λ w. IsCellFor w.offset ty content w) (sym c.in_ok-joined.ensures) (joins-fit ty content e cell same fits)
