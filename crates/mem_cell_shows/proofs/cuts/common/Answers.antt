use Rattle.std.proofs.Common.{◌≡◌, subst, sym, true}
use Rattle.pointsets.specs.Targets.{Any, has_base}
use Rattle.mem_cell_shows.proofs.Cutting.{common-has}
use Rattle.mem_cell_shows.proofs.cuts.common.Goals as goal

pub returns-then-is_all : goal.returns-then-is_all
returns-then-is_all c = λ b here within null dead. subst (λ s. has_base s b ≡ true) (sym c.copy.ensures) within

pub returns : goal.returns
returns c =
    let set = c.args.set.now in
    let some : set ≡ Any → ⊥ = λ e. let yes = c.is_all.ensures.1 e in let no = c.if-is_all.false in cc in
    common-has set c.args.within.now c.args.null c.args.dead c.names.result.now c.named_within-objects.result c.marked-with_null.result c.marked.result some c.names.ensures.names
    c.named_within-objects.ensures c.marked-with_null.ensures.old c.marked-with_null.ensures.new c.marked.ensures.old c.marked.ensures.new
