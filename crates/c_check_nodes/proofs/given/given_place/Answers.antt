use Rattle.std.proofs.Common.{ap, sym}
use Rattle.std.specs.Prelude.{option_map}
use Rattle.c_syntax.specs.Types.{ctype_tree}
use Rattle.c_syntax.specs.TypedExpr.{tlvalue_tree}
use Rattle.c_typing.specs.Nodes as nodes
use Rattle.c_typing.specs.World.{no_rule}
use Rattle.c_check_names.proofs.Steps.{refused}
use Rattle.c_check_nodes.proofs.given.given_place.Goals as goal

pub returns-in-None : goal.returns-in-None
returns-in-None c w same =
    let refusal = no_rule w c.args.pos c.args.op (ctype_tree c.args.left) (option_map ctype_tree c.args.right) in
    refused c.no_rule.result refusal _ (c.no_rule.ensures w same) (ap (λ row. nodes.given_place refusal (option_map tlvalue_tree row) w) (sym c.in-None.is))
