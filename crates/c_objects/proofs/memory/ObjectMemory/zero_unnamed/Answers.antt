use Rattle.std.proofs.Common.{◌≡◌, ◌≤◌, ap, ◌∙◌, arith}
use Rattle.std.specs.Prelude.{if◌then◌else◌}
use Rattle.c_objects.specs.Writing.{are_named, with_blocks, zero_at}
use Rattle.c_objects.proofs.Zeroed.{one_more}
use Rattle.c_objects.proofs.memory.ObjectMemory.zero_unnamed.Goals as goal

pub loop-offset-preserved : goal.loop-offset-preserved
loop-offset-preserved c =
    let all = c.args.named.now in
    let offset = c.loop-offset.offset in
    let at = c.loop-offset.self in
    let itself : offset ≤ offset = omega arith in
    let here : are_named c.ahead-left.result.now offset ≡ are_named all offset = c.ahead-left.ensures.same offset itself ∙ c.loop-offset.invariant.1 offset itself in
    let filled = c.fill_byte.ensures ∙ ap (λ b. with_blocks at (if b then at.blocks else zero_at c.args.block offset at.blocks)) here in (
      one_more (are_named all) c.args.block offset c.args.self.now at c.fill_byte.new.self c.requires.made c.loop-offset.invariant.0 filled,
      (λ k l. c.ahead-left.ensures.same k (omega arith) ∙ c.loop-offset.invariant.1 k (omega arith)),
      (λ yes. let rises = c.loop-offset.invariant.2 yes in c.ahead-left.ensures.rises rises.0 rises.1),
    )
