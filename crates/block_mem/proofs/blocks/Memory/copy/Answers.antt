use Rattle.std.proofs.Common.{◌≡◌, ◌++◌, List, arith, subst, sym, take, drop, length}
use Rattle.std.proofs.lemmas.Grind.{common_steps}
use Rattle.block_mem.specs.Block.{BlockView}
use Rattle.block_mem.specs.Blocks.{copy}
use Rattle.block_mem.specs.AfterStore.{KeepsElsewhere}
use Rattle.block_mem.proofs.StoreLaws.{elsewhere-copy}
use Rattle.block_mem.specs.Whole.{KeepsWhole}
use Rattle.block_mem.proofs.Whole.{whole-copy}
use Rattle.block_mem.specs.Proper.{AreProper}
use Rattle.block_mem.proofs.Proper.{proper-copy}
use Rattle.block_mem.proofs.blocks.Memory.copy.Goals as goal

pub invariant_of-self : goal.invariant_of-self
invariant_of-self c =
    let m = c.args.self.now in
    let after : take c.self.inside.blocks.len (c.copy_bytes.new.blocks ++ drop (length c.copy_bytes.new.blocks) c.self.inside.blocks.items) ≡ copy m c.args.to c.args.from c.args.size = grind (arith, common_steps) in
    let all : AreProper m = subst (λ (x : List BlockView). AreProper x) c.self.view_is c.self.invariant in
    subst (λ (x : List BlockView). AreProper x) (sym after) (proper-copy m c.args.to c.args.from c.args.size c.requires.target_made c.requires.target c.requires.source all)

pub returns-clause-elsewhere : goal.returns-clause-elsewhere
returns-clause-elsewhere c =
    let after : take c.self.inside.blocks.len (c.copy_bytes.new.blocks ++ drop (length c.copy_bytes.new.blocks) c.self.inside.blocks.items) ≡ copy c.args.self.now c.args.to c.args.from c.args.size = grind (arith, common_steps) in
    subst (λ (m : List BlockView). KeepsElsewhere c.args.self.now m c.args.to c.args.size) (sym after) (elsewhere-copy c.args.self.now c.args.to c.args.from c.args.size c.requires.target_made c.requires.source)

pub returns-clause-whole : goal.returns-clause-whole
returns-clause-whole c =
    let after : take c.self.inside.blocks.len (c.copy_bytes.new.blocks ++ drop (length c.copy_bytes.new.blocks) c.self.inside.blocks.items) ≡ copy c.args.self.now c.args.to c.args.from c.args.size = grind (arith, common_steps) in
    subst (λ (m : List BlockView). KeepsWhole c.args.self.now m c.args.to c.args.size) (sym after) (whole-copy c.args.self.now c.args.to c.args.from c.args.size c.requires.target_made c.requires.target c.requires.source)
