use Rattle.std.proofs.Common.{ap, ◌∙◌}
use Rattle.c_check_decls.proofs.Behind.{tree_of, behind}
use Rattle.c_check_decls.proofs.made.Made.then.Goals as goal

pub returns : goal.returns
returns c =
    let first = c.args.self in
    let next = c.args.next in
    ap (λ objects. tree_of objects c.in_ok-items.items.items) c.in_ok-objects.ensures
    ∙ ap (tree_of _) c.in_ok-items.ensures ∙ behind first.objects.items next.objects.items first.items.items next.items.items
