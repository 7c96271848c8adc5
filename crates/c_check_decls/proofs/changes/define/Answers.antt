use Rattle.std.proofs.Common.{ap, sym, ◌∙◌}
use Rattle.std.proofs.lemmas.List.{map-id}
use Rattle.c_typing.specs.Decls.{with_defined}
use Rattle.c_check_names.specs.Worlds.{world_of}
use Rattle.c_check_decls.proofs.changes.define.Goals as goal

pub returns-else-now : goal.returns-else-now
returns-else-now c =
    let w = world_of c.args.world.now in
    ap (λ entities. record w { linked = entities }) (sym (map-id w.linked)) ∙ ap (with_defined w c.args.name.now) (sym c.if-now.false)
