use Rattle.std.proofs.Common.{◌≡◌, ℤ, ◌<◌, length, subst, sym, ap, ◌∙◌, true, false, arith, List}
use Rattle.std.specs.Int.{w64}
use Rattle.std.proofs.lemmas.Int.{ints, to_z_pos}
use Rattle.block_mem.specs.Block.{BlockView}
use Rattle.block_mem.specs.Blocks.{block_at, wrong_access}
use Rattle.c_values.specs.Places.{ObjectMemory}
use Rattle.c_objects.specs.Writing.{with_blocks, zero_at}
use Rattle.c_objects.proofs.Zeroed.{byte_inside, zero_stored}
use Rattle.c_objects.proofs.memory.ObjectMemory.zero.Goals as goal

pub overflow_cast-at : goal.overflow_cast-at
overflow_cast-at c = omega (arith, ints)

pub put-requires-clause-inside : goal.put-requires-clause-inside
put-requires-clause-inside c =
    let live : (block_at c.self.inside.blocks c.args.block).live ≡ true = subst (λ (m : ObjectMemory). (block_at m.blocks c.args.block).live
    ≡ true) (sym c.self.view_is) c.requires.live in
    let within : c.args.offset < length (block_at c.self.inside.blocks c.args.block).bytes =
    subst (λ (m : ObjectMemory). c.args.offset < length (block_at m.blocks c.args.block).bytes) (sym c.self.view_is) c.requires.inside in
    ap (λ (x : ℤ). wrong_access c.self.inside.blocks (record { block = c.args.block; offset = x }) 1 1 false) (to_z_pos w64 c.args.offset (omega arith))
    ∙ byte_inside c.self.inside.blocks c.args.block c.args.offset live within

pub returns : goal.returns
returns c =
    let inside : ObjectMemory = record { blocks = c.self.inside.blocks; owners = c.self.inside.owners.items; places = c.self.inside.places.items } in
    let stored : c.put.new.self ≡ zero_at c.args.block c.args.offset c.self.inside.blocks = zero_stored c.self.inside.blocks c.put.new.self c.args.block
    c.args.offset (omega arith) c.put.ensures.stored in
    ap (λ (bs : List BlockView). with_blocks inside bs) stored ∙ ap (λ (m : ObjectMemory). with_blocks m (zero_at c.args.block c.args.offset m.blocks))
    c.self.view_is
