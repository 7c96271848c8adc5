use Rattle.std.proofs.Common.{◌≡◌, map, ap, subst, sym, ◌∙◌}
use Rattle.std.specs.Prelude.{IfOk, option_map}
use Rattle.c_syntax.specs.Types.{ctype_tree}
use Rattle.c_syntax.specs.TypedExpr.{tlvalue_tree}
use Rattle.c_syntax.specs.Program.{structdef_tree}
use Rattle.c_syntax.proofs.TypeTrees.{ctype_struct}
use Rattle.c_typing.specs.Rows as typing
use Rattle.c_check_nodes.proofs.rows.member_row.Goals as goal

pub returns-in-Struct : goal.returns-in-Struct
returns-in-Struct c =
    let place = tlvalue_tree c.args.place in
    subst (λ ty. IfOk c.member_named.result (λ row. option_map tlvalue_tree row
    ≡ typing.member_row (map structdef_tree c.args.structs.now.defs) c.args.pos c.args.name.now ty place))
    (sym (ap ctype_tree c.in-Struct.is ∙ ctype_struct c.in-Struct.n)) c.member_named.ensures
