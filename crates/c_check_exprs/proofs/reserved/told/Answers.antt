use Rattle.std.proofs.Common.{◌≡◌, ap, sym, ◌∙◌, length, arith}
use Rattle.std.specs.Prelude.{None, if◌then◌else◌}
use Rattle.c_syntax.specs.declared.op.Op.TheVariants as ops
use Rattle.c_syntax.specs.TypedExpr.{TExprTree, Assume, Assert}
use Rattle.c_typing.specs.World.{no_rule}
use Rattle.c_typing.specs.Declarators.{unknown_function}
use Rattle.c_typing.specs.Nodes.{told}
use Rattle.c_check_operators.specs.OperandViews.{operand_tree}
use Rattle.c_check_names.proofs.Steps.{refused, so}
use Rattle.c_check_names.specs.Worlds.{world_of}
use Rattle.c_check_exprs.proofs.WordArguments.{told_wrong, only_one}
use Rattle.c_check_exprs.proofs.reserved.told.Goals as goal

pub returns-then-len-ne1 : goal.returns-then-len-ne1
returns-then-len-ne1 c =
    let w = world_of c.args.world.now in
    let items = c.into_vec-args.result.items in
    let node : TExprTree → TExprTree = if c.args.assumes then Assume c.args.pos else Assert c.args.pos in
    let others : length items ≡ 1 → ⊥ = λ e. omega (arith, c.into_vec-args.result.ok.0) in
    refused c.no_function.result (no_rule w c.args.pos ops.Call (unknown_function w) None) _ c.no_function.ensures
    (told_wrong w c.args.pos node items others ∙ ap (told w c.args.pos node) c.into_vec-args.ensures)

pub returns : goal.returns
returns c =
    let w = world_of c.args.world.now in
    let items = c.into_vec-args.result.items in
    let node : TExprTree → TExprTree = if c.args.assumes then Assume c.args.pos else Assert c.args.pos in
    let one : length items ≡ 1 = omega (arith, c.into_vec-args.result.ok.0) in
    so operand_tree w c.scalar_told.result
    (ap (told w c.args.pos node) (sym (only_one items c.pop.new.self.items c.in-Some.e c.in-Some.ensures.items one) ∙ c.into_vec-args.ensures))
    c.scalar_told.ensures
