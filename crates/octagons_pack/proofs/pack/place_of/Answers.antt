use Rattle.std.proofs.Common.{sym, rules, ◌∙◌, ◌≡◌, ◌<◌, ◌≤◌, length, arith}
use Rattle.octagons_pack.specs.Packs.{at}
use Rattle.octagons_pack.proofs.Places.{first-place, no-place}
use Rattle.octagons_pack.proofs.pack.place_of.Goals as goal

pub returns-then-pack-k-clause-value : goal.returns-then-pack-k-clause-value
returns-then-pack-k-clause-value c =
    let h = c.loop-k-test.true in
    let l : c.loop-k.k < length c.args.pack.now = omega arith in
    let e : at c.args.pack.now c.loop-k.k ≡ c.args.x = search rules in
    sym (first-place c.args.x c.args.pack.now c.loop-k.k c.loop-k.invariant l e)

pub returns-clause-value : goal.returns-clause-value
returns-clause-value c =
    let h = c.loop-k-test.false in
    let l : length c.args.pack.now ≤ c.loop-k.k = omega arith in
    sym (no-place c.args.x c.args.pack.now c.loop-k.k l c.loop-k.invariant)
