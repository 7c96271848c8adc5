use Rattle.std.proofs.Common.{◌≡◌, List, arith, subst, sym, slice_set, None, Ok, true}
use Rattle.std.proofs.lemmas.Grind.{common_steps}
use Rattle.block_mem.specs.Block.{BlockView}
use Rattle.block_mem.specs.Blocks.{block_at, wrong_access, load, store}
use Rattle.block_mem.specs.Bytes.{size_of}
use Rattle.block_mem.specs.AfterStore.{ReadsParts, KeepsElsewhere}
use Rattle.block_mem.proofs.StoreLaws.{load-store, parts-store, elsewhere-store}
use Rattle.block_mem.specs.Whole.{KeepsWhole}
use Rattle.block_mem.proofs.Whole.{whole-store}
use Rattle.block_mem.specs.Proper.{AreProper}
use Rattle.block_mem.proofs.StoreLaws.{inside_access}
use Rattle.block_mem.proofs.Proper.{proper-store}
use Rattle.block_mem.proofs.blocks.Memory.store.Goals as goal

pub invariant_of-self-2 : goal.invariant_of-self-2
invariant_of-self-2 c =
    let m = c.args.self.now in
    let passes : wrong_access m c.args.at (size_of c.args.ty) (size_of c.args.ty) true ≡ None = grind (arith, common_steps) in
    let after : slice_set c.self.inside.blocks.items c.args.at.block c.store.new.self ≡ store m c.args.at c.args.v = grind (arith, common_steps) in
    let room = inside_access (block_at m c.args.at.block) c.args.at.offset (size_of c.args.ty) (size_of c.args.ty) true passes in
    let all : AreProper m = subst (λ (x : List BlockView). AreProper x) c.self.view_is c.self.invariant in
    subst (λ (x : List BlockView). AreProper x) (sym after) (proper-store m c.args.at c.args.ty c.args.v c.requires.made c.requires.typed c.requires.block room all)

pub returns-clause-reads_back : goal.returns-clause-reads_back
returns-clause-reads_back c =
    let passes : wrong_access c.args.self.now c.args.at (size_of c.args.ty) (size_of c.args.ty) true ≡ None = grind (arith, common_steps) in
    let after : slice_set c.self.inside.blocks.items c.args.at.block c.store.new.self ≡ store c.args.self.now c.args.at c.args.v = grind (arith, common_steps) in
    subst (λ (m : List BlockView). load m c.args.at c.args.ty ≡ Ok c.args.v) (sym after) (load-store c.args.self.now c.args.at c.args.ty c.args.v c.requires.made c.requires.typed passes)

pub returns-clause-reads_parts : goal.returns-clause-reads_parts
returns-clause-reads_parts c =
    let passes : wrong_access c.args.self.now c.args.at (size_of c.args.ty) (size_of c.args.ty) true ≡ None = grind (arith, common_steps) in
    let after : slice_set c.self.inside.blocks.items c.args.at.block c.store.new.self ≡ store c.args.self.now c.args.at c.args.v = grind (arith, common_steps) in
    subst (λ (m : List BlockView). ReadsParts m c.args.at c.args.v) (sym after) (parts-store c.args.self.now c.args.at c.args.ty c.args.v c.requires.made c.requires.typed passes)

pub returns-clause-elsewhere : goal.returns-clause-elsewhere
returns-clause-elsewhere c =
    let after : slice_set c.self.inside.blocks.items c.args.at.block c.store.new.self ≡ store c.args.self.now c.args.at c.args.v = grind (arith, common_steps) in
    subst (λ (m : List BlockView). KeepsElsewhere c.args.self.now m c.args.at (size_of c.args.ty)) (sym after) (elsewhere-store c.args.self.now c.args.at c.args.ty c.args.v c.requires.made c.requires.typed)

pub returns-clause-whole : goal.returns-clause-whole
returns-clause-whole c =
    let passes : wrong_access c.args.self.now c.args.at (size_of c.args.ty) (size_of c.args.ty) true ≡ None = grind (arith, common_steps) in
    let room = inside_access (block_at c.args.self.now c.args.at.block) c.args.at.offset (size_of c.args.ty) (size_of c.args.ty) true passes in
    let after : slice_set c.self.inside.blocks.items c.args.at.block c.store.new.self ≡ store c.args.self.now c.args.at c.args.v = grind (arith, common_steps) in
    subst (λ (m : List BlockView). KeepsWhole c.args.self.now m c.args.at (size_of c.args.ty)) (sym after) (whole-store c.args.self.now c.args.at c.args.ty c.args.v c.requires.made c.requires.typed room)
