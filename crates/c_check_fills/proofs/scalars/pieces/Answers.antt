use Rattle.std.proofs.Common.{◌≡◌, ◌+◌, ◌-◌, ◌++◌, suc, ap, sym, ◌∙◌, arith, to_z, of_z}
use Rattle.std.specs.Int.{w64}
use Rattle.std.proofs.lemmas.Int.{to_z-of_z}
use Rattle.c_typing.specs.Inits.{piece_bytes}
use Rattle.c_check_fills.proofs.Rows.{next_piece, no_piece}
use Rattle.c_check_fills.proofs.scalars.pieces.Goals as goal

pub loop-k-preserved : goal.loop-k-preserved
loop-k-preserved c =
    let offset = to_z w64 (of_z w64 c.args.offset) in
    let done = c.loop-k.bytes.items in
    let left = 8 - (c.loop-k.k + 1) in
    let one_less : suc left ≡ 8 - c.loop-k.k = omega (arith, c.loop-k-test.true) in
    ap (λ bytes. bytes ++ piece_bytes c.args.object offset (c.loop-k.k + 1) left) c.in_ok-push.ensures.items
    ∙ next_piece done c.args.object offset c.loop-k.k left
    ∙ ap (λ n. done ++ piece_bytes c.args.object offset c.loop-k.k n) one_less ∙ c.loop-k.invariant

pub returns : goal.returns
returns c =
    let offset = to_z w64 (of_z w64 c.args.offset) in
    let none : 8 - c.loop-k.k ≡ 0 = omega arith in
    sym (no_piece c.loop-k.bytes.items c.args.object offset c.loop-k.k)
    ∙ ap (λ n. c.loop-k.bytes.items ++ piece_bytes c.args.object offset c.loop-k.k n) (sym none) ∙ c.loop-k.invariant
    ∙ ap (λ x. piece_bytes c.args.object x 0 8) (to_z-of_z w64 c.args.offset c.ranges.offset)
