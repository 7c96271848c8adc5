use Rattle.std.proofs.Common.{refl, subst}
use Rattle.machine_nums.specs.Machines.{Admits}
use Rattle.mem_cell_bytes.specs.Stands.{Stands, claims}
use Rattle.mem_cell_bytes.proofs.Joins.{more-stands}
use Rattle.mem_cell_domain.proofs.Meets.{meet-first, meet-second}
use Rattle.mem_cell_domain.proofs.joins.join.Goals as goal

pub returns : goal.returns
returns g c =
    let k = c.args.known.now in let o = c.args.other.now in
    let p = c.in_ok-pointers.pointers in let h = c.in_ok-grid.grid in
    let admits = g.D.Oracle.admits in
    let first = meet-first k.pointers o.pointers p.pointers k.grid o.grid h.grid p.kept h.kept c.in_ok-pointers.ensures c.in_ok-grid.ensures in
    let second = meet-second k.pointers o.pointers p.pointers k.grid o.grid h.grid p.kept h.kept c.in_ok-pointers.ensures c.in_ok-grid.ensures in
    let after = claims p.pointers h.grid in
    record {
      types = refl;
      left = λ objects s st. more-stands objects k.types (Admits admits k.nums) (Admits admits c.join.new.self) (claims k.pointers k.grid) after s first c.in_ok-join.ensures.left st;
      right = λ objects s same st. subst (λ ts. Stands objects ts (Admits admits c.join.new.self) after s) same
          (more-stands objects o.types (Admits admits o.nums) (Admits admits c.join.new.self) (claims o.pointers o.grid) after s second c.in_ok-join.ensures.right st);
    }
