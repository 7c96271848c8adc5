use Rattle.std.proofs.Common.{ap, ◌∙◌, ℕ, List, map}
use Rattle.c_typing.specs.World.{TagBinding}
use Rattle.c_check_names.specs.Trees.{tag_meaning, tag_tree}
use Rattle.c_check_names.specs.Worlds.{world_of}
use Rattle.c_check_names.proofs.Become.{set_told}
use Rattle.c_check_names.proofs.world.World.redefine_at.Goals as goal

pub returns : goal.returns
returns c =
    let tagged : List ℕ → TagBinding = λ n. record { tag = n; pos = c.get-old.result.now.pos; defined = c.args.defined; meaning = tag_meaning c.args.meaning } in
    let told = set_told c.args.defined (tag_meaning c.args.meaning) c.args.self.now.tags c.args.place c.get-old.result.now _ c.get-old.ensures (ap tagged c.in_ok-tag.ensures) in
    ap (λ tags. record (world_of c.args.self.now) { tags = tags }) (ap (map tag_tree) c.replace.ensures ∙ told)
