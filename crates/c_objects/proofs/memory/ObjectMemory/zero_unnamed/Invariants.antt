use Rattle.std.proofs.Common.{◌≡◌, ℕ, true}
use Rattle.c_objects.specs.Writing.{are_named, NameSame, Rise, with_blocks, zeroed}
use Rattle.c_objects.proofs.Zeroed.{KeepsBlock}
use Rattle.c_objects.proofs.memory.ObjectMemory.zero_unnamed.Given as goal

abbrev pub invariant-loop-offset : goal.invariant-loop-offset
invariant-loop-offset l =
    ((l.self ≡ with_blocks l.initial.self (zeroed (are_named l.named) l.block l.offset l.initial.self.blocks))
    × KeepsBlock l.block l.initial.self.blocks l.self.blocks)
    × NameSame l.offset l.left l.named
    × (l.rising ≡ true → (low : ℕ) × Rise low l.left)
