use Rattle.std.proofs.Common.{ap, ◌∙◌}
use Rattle.c_check_decls.proofs.Behind.{tree_of, one_behind}
use Rattle.c_check_decls.proofs.made.Made.push.Goals as goal

pub returns : goal.returns
returns c =
    let made = c.args.self.now in
    ap (tree_of made.objects.items) c.in_ok-push.ensures.items ∙ one_behind made.objects.items made.items.items c.args.item
