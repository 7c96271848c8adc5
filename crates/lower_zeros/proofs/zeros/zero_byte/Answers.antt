use Rattle.std.proofs.Common.{◌≡◌, ◌<◌, ◌+◌, ◌-◌, length, sym, ap, ◌∙◌, arith}
use Rattle.c_objects.specs.Writing.{is_named}
use Rattle.c_syntax.specs.Program.{tprogram_tree}
use Rattle.csharp.specs.Trees.{Store, more, csstmts_from}
use Rattle.lower_trees.specs.Checking.{address_at}
use Rattle.lower_trees.specs.Zeros.{object_scalars, zero_cells, zero_term}
use Rattle.lower_zeros.specs.Named.{joined}
use Rattle.lower_zeros.proofs.Cells.{cells_skip, cells_store, joined_push}
use Rattle.lower_zeros.proofs.zeros.zero_byte.Goals as goal

pub returns-then-skip-gt0 : goal.returns-then-skip-gt0
returns-then-skip-gt0 c = λ inits marked rest.
    let at = object_scalars (tprogram_tree c.args.program.now) c.args.object in
    let many = length c.args.marks.now in
    let left : many - (c.args.byte + 1) ≡ many - c.args.byte - 1 = omega arith in
    let some : 0 < many - c.args.byte = omega arith in
    ap (joined (csstmts_from c.args.out.now.items))
    (ap (λ n. zero_cells at (is_named inits) c.args.object (c.args.byte + 1) (c.args.skip - 1) n rest) left
    ∙ cells_skip at (is_named inits) c.args.object c.args.byte c.args.skip (many - c.args.byte) rest c.if-skip-gt0.true some)

pub returns : goal.returns
returns c = λ inits marked rest.
    let at = object_scalars (tprogram_tree c.args.program.now) c.args.object in
    let named = is_named inits in
    let many = length c.args.marks.now in
    let ty = c.free_or_byte-ty.result in
    let before = csstmts_from c.args.out.now.items in
    let left : many - (c.args.byte + 1) ≡ many - c.args.byte - 1 = omega arith in
    let some : 0 < many - c.args.byte = omega arith in
    let none : c.args.skip ≡ 0 = omega arith in
    let behind = zero_cells at named c.args.object (c.args.byte + 1) (c.scalar_size.result - 1) (many - (c.args.byte + 1)) rest in
    ap (λ xs. joined (csstmts_from xs) behind) c.in_ok-push.ensures.items
    ∙ joined_push c.args.out.now.items c.in_ok-store.store behind
    ∙ ap (λ s. joined before (more s behind)) c.in_ok-store.ensures
    ∙ ap (joined before)
    (ap (λ n. more (Store ty (address_at c.args.object c.args.byte) (zero_term ty))
    (zero_cells at named c.args.object (c.args.byte + 1) (c.scalar_size.result - 1) n rest)) left
    ∙ cells_store at named c.args.object c.args.byte c.args.skip (many - c.args.byte) rest ty c.scalar_size.result none some
    (sym (marked c.args.byte c.requires.inside) ∙ c.if-marks-byte.false) (c.free_or_byte-ty.ensures inits marked) c.scalar_size.ensures.value)
