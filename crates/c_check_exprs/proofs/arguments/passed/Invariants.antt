use Rattle.std.proofs.Common.{◌≡◌, map, vec_len}
use Rattle.std.specs.Prelude.{reverse}
use Rattle.c_syntax.specs.Types.{ctype_tree}
use Rattle.c_syntax.specs.TypedExpr.{texprs_tree, texprs_from}
use Rattle.c_syntax.specs.Program.{structdef_tree}
use Rattle.c_typing.specs.World.{World}
use Rattle.c_typing.specs.Nodes as nodes
use Rattle.c_check_exprs.proofs.Passing.{behind}
use Rattle.c_check_exprs.proofs.arguments.passed.Given as goal

-- what is left decides for all, behind what is done
abbrev pub invariant-each : goal.invariant-each
invariant-each l = (w : World) → w.structs ≡ map structdef_tree l.structs → nodes.passed w l.pos (map ctype_tree l.params) (texprs_tree l.fn.args)
    ≡ behind (texprs_from l.done.items) (nodes.passed w l.pos (map ctype_tree l.wanted) (texprs_from (reverse l.left.items)))

abbrev pub decreases-each : goal.decreases-each
decreases-each l = vec_len l.left
