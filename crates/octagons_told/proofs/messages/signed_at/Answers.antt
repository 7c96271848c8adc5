use Rattle.std.proofs.Common.{rules, ◌≡◌, ◌<◌, ◌/◌, length}
use Rattle.octagons_pack.specs.Packs.{at}
use Rattle.octagons_told.proofs.Signs.{signed-here}
use Rattle.octagons_told.proofs.messages.signed_at.Goals as goal

pub returns : goal.returns
returns c = λ v.
    let lt : c.args.p / 2 < length c.args.pack.now = search rules in
    let here : at c.args.pack.now (c.args.p / 2) ≡ c.in_ok-var.field-0.now = search rules in
    signed-here v c.args.pack.now c.args.p c.in_ok-var.field-0.now lt here
