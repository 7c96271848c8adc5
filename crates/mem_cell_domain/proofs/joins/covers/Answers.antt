use Rattle.std.proofs.Common.{subst, sym, ◌∙◌}
use Rattle.machine_nums.specs.Machines.{Admits}
use Rattle.mem_cell_bytes.specs.Stands.{Stands, claims}
use Rattle.mem_cell_bytes.proofs.Joins.{more-stands}
use Rattle.mem_cell_grid.proofs.Meetings.{both-true}
use Rattle.mem_cell_domain.proofs.Meets.{meet-kept}
use Rattle.mem_cell_domain.proofs.joins.covers.Goals as goal

pub returns : goal.returns
returns g c = λ yes objects s same st.
    let k = c.args.known.now in let o = c.args.other.now in
    let p = c.in_ok-pointers.pointers in let h = c.in_ok-grid.grid in
    let admits = g.D.Oracle.admits in
    let all = both-true p.kept h.kept (sym c.both.ensures ∙ yes) in
    let kept = meet-kept k.pointers o.pointers p.pointers k.grid o.grid h.grid p.kept h.kept c.in_ok-pointers.ensures c.in_ok-grid.ensures all.0 all.1 in
    subst (λ ts. Stands objects ts (Admits admits k.nums) (claims k.pointers k.grid) s) same
    (more-stands objects o.types (Admits admits o.nums) (Admits admits k.nums) (claims o.pointers o.grid) (claims k.pointers k.grid) s kept (c.covers.ensures.included c.if-not-covers.false) st)
