use Rattle.std.proofs.Common.{get_or, inl, inr, subst, sym, take}
use Rattle.num_api.specs.Ranges.{InRange}
use Rattle.machine_nums.specs.Machines.{Admits}
use Rattle.mem_cell_bytes.specs.Stores.{IsChoice}
use Rattle.mem_cell_grid.proofs.Lists.{get-or, take-push, take-whole}
use Rattle.mem_cell_stores.proofs.Weaker.{choice-turn, no-choice}
use Rattle.mem_cell_stores.proofs.weakened.weaken_each.Goals as goal

pub loop-x-init : goal.loop-x-init
loop-x-init g c = λ v w n a inside choice. subst (Admits g.D.Oracle.admits c.args.nums.now) (sym (no-choice n v w choice)) a

pub loop-x-preserved : goal.loop-x-preserved
loop-x-preserved g c =
    let ys = c.args.variables.now in let i = c.loop-x.x-index in let y = get_or ys i 0 in
    λ v w n a inside choice. choice-turn (Admits g.D.Oracle.admits c.loop-x.nums) (Admits g.D.Oracle.admits c.weaken.new.nums) (take i ys) y n v (λ z. c.loop-x.invariant v z n a inside)
    (λ z z' m az is set. c.in_ok-weaken.ensures z z' m az (elim is [ inl same ↦ inl (subst (InRange c.args.range) (sym same) inside) | inr same ↦ inr same ]) set) w
    (subst (λ xs. IsChoice xs n v w) (take-push ys i y (get-or ys i 0 c.loop-x-test.true)) choice)

pub returns : goal.returns
returns g c =
    λ v w n a inside choice. c.loop-x.invariant v w n a inside
    (subst (λ xs. IsChoice xs n v w) (sym (take-whole c.args.variables.now c.loop-x.x-index c.loop-x-test.false)) choice)
