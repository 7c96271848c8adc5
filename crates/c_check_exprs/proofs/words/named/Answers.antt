use Rattle.std.proofs.Common.{ap, sym, ◌∙◌, refl, map, Bor}
use Rattle.std.specs.Prelude.{None, Some, Option, option_map}
use Rattle.c_syntax.specs.declared.op.Op.TheVariants as ops
use Rattle.c_syntax.specs.Types.{ctype_tree, object_tree}
use Rattle.c_syntax.specs.declared.types.CType.TheVariants as types
use Rattle.c_syntax.proofs.TypeTrees.{ctype_function}
use Rattle.c_typing.specs.World.{Refused, no_rule}
use Rattle.c_typing.specs.Nodes.{named}
use Rattle.c_check_operators.specs.OperandViews.{operand_tree}
use Rattle.c_check_names.proofs.Steps.{refused, so}
use Rattle.c_check_names.specs.declared.types.Meaning.{Meaning}
use Rattle.c_check_names.specs.Trees.{meaning_tree}
use Rattle.c_check_names.specs.Worlds.{world_of}
use Rattle.c_check_exprs.proofs.words.named.Goals as goal

pub returns-in-Object : goal.returns-in-Object
returns-in-Object c =
    let w = world_of c.args.world.now in
    so operand_tree w c.object_named.result
    (sym (ap (λ (o : Option (Bor Meaning)). named w c.args.pos (option_map (λ m. meaning_tree m.now) o)) c.in-Some.is ∙ ap (λ m. named w c.args.pos (Some (meaning_tree m))) c.in-Object.is))
    (c.object_named.ensures w (ap (map object_tree) (sym c.as_slice.ensures.value)))

pub returns-in-Function : goal.returns-in-Function
returns-in-Function c =
    let w = world_of c.args.world.now in
    refused c.no_rule.result (no_rule w c.args.pos ops.Call (ctype_tree (types.Function c.in-Function.n)) None) _ (c.no_rule.ensures w refl)
    (ap (λ ty. Refused (no_rule w c.args.pos ops.Call ty None)) (ctype_function c.in-Function.n)
    ∙ sym (ap (λ (o : Option (Bor Meaning)). named w c.args.pos (option_map (λ m. meaning_tree m.now) o)) c.in-Some.is ∙ ap (λ m. named w c.args.pos (Some (meaning_tree m))) c.in-Function.is))
