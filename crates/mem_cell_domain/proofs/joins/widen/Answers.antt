use Rattle.std.proofs.Common.{refl, subst, sym, ap, ◌∙◌, ◌&&◌}
use Rattle.machine_nums.specs.Machines.{Admits, machine_weight}
use Rattle.mem_cell_bytes.specs.Stands.{Stands, claims}
use Rattle.mem_cell_bytes.specs.Weights.{contents_weight, pointer_weight, total}
use Rattle.mem_cell_bytes.proofs.Joins.{more-stands}
use Rattle.mem_cell_grid.proofs.Meetings.{both-true}
use Rattle.mem_cell_domain.proofs.Meets.{meet-first, meet-kept, meet-second, sum-falls}
use Rattle.mem_cell_domain.proofs.joins.widen.Goals as goal

pub returns-then-covered : goal.returns-then-covered
returns-then-covered g c =
    let k = c.args.known.now in let o = c.args.next.now in
    let p = c.in_ok-pointers.pointers in let h = c.in_ok-grid.grid in
    let admits = g.D.Oracle.admits in
    let all = both-true p.kept c.both-rest.result (sym c.both-covered.ensures ∙ c.if-covered.true) in
    let rest = both-true h.kept c.covers.result (sym c.both-rest.ensures ∙ all.1) in
    let kept = meet-kept k.pointers o.pointers p.pointers k.grid o.grid h.grid p.kept h.kept c.in_ok-pointers.ensures c.in_ok-grid.ensures all.0 rest.0 in
    record {
      types = refl;
      left = λ objects s st. st;
      right = λ objects s same st. subst (λ ts. Stands objects ts (Admits admits k.nums) (claims k.pointers k.grid) s) same
          (more-stands objects o.types (Admits admits o.nums) (Admits admits k.nums) (claims o.pointers o.grid) (claims k.pointers k.grid) s kept (c.covers.ensures.included rest.1) st);
      fell = λ no. cc;
      same = λ no. refl;
    }

pub returns : goal.returns
returns g c =
    let k = c.args.known.now in let o = c.args.next.now in
    let p = c.in_ok-pointers.pointers in let h = c.in_ok-grid.grid in
    let admits = g.D.Oracle.admits in
    let nums = c.widen.new.self in
    let pm = c.in_ok-pointers.ensures in let gm = c.in_ok-grid.ensures in
    let first = meet-first k.pointers o.pointers p.pointers k.grid o.grid h.grid p.kept h.kept pm gm in
    let second = meet-second k.pointers o.pointers p.pointers k.grid o.grid h.grid p.kept h.kept pm gm in
    let after = claims p.pointers h.grid in
    let weight = machine_weight (g.D.NumDomain.weight g.S.Steps.list) in
    record {
      types = refl;
      left = λ objects s st. more-stands objects k.types (Admits admits k.nums) (Admits admits nums) (claims k.pointers k.grid) after s first c.in_ok-widen.ensures.left st;
      right = λ objects s same st. subst (λ ts. Stands objects ts (Admits admits nums) after s) same
          (more-stands objects o.types (Admits admits o.nums) (Admits admits nums) (claims o.pointers o.grid) after s second c.in_ok-widen.ensures.right st);
      fell = λ yes. sum-falls p.kept h.kept c.covers.result (total pointer_weight k.pointers) (total pointer_weight p.pointers) (total contents_weight k.grid)
          (total contents_weight h.grid) (weight k.nums) (weight nums) pm.less pm.falls gm.less gm.falls c.in_ok-widen.ensures.no_rise
          (λ no. c.in_ok-widen.ensures.falls (sym c.covers.ensures.value ∙ no))
          (sym (c.both-covered.ensures ∙ ap (λ b. p.kept && b) c.both-rest.ensures) ∙ c.if-covered.false);
      same = λ no. cc;
    }
