use Rattle.std.proofs.Common.{ap, sym, ◌∙◌, Bor}
use Rattle.std.specs.Prelude.{None, Some, Option, option_map}
use Rattle.c_syntax_written.specs.declared.int_type.IntType.TheVariants as ints
use Rattle.c_syntax.specs.declared.op.Op.TheVariants as ops
use Rattle.c_syntax.specs.Types.{ctype_tree}
use Rattle.c_syntax.specs.TypedExpr.{texprs_tree}
use Rattle.c_syntax.specs.declared.types.CType.TheVariants as types
use Rattle.c_syntax.proofs.TypeTrees.{ctype_int}
use Rattle.c_typing.specs.World.{Refused, no_rule}
use Rattle.c_typing.specs.Nodes.{call_named}
use Rattle.c_check_names.proofs.Steps.{refused}
use Rattle.c_check_names.specs.declared.types.Meaning.{Meaning}
use Rattle.c_check_names.specs.Trees.{meaning_tree}
use Rattle.c_check_names.specs.Worlds.{world_of}
use Rattle.c_check_exprs.proofs.calls.call_named.Goals as goal

pub returns-in-Enumeration : goal.returns-in-Enumeration
returns-in-Enumeration c =
    let w = world_of c.args.world.now in
    let args = texprs_tree c.args.args in
    refused c.no_call-in-Enumeration.result (no_rule w c.args.pos ops.Call (ctype_tree (types.Int ints.Int)) None) _ c.no_call-in-Enumeration.ensures
    (ap (λ ty. Refused (no_rule w c.args.pos ops.Call ty None)) (ctype_int ints.Int)
    ∙ sym (ap (λ (o : Option (Bor Meaning)). call_named w c.args.pos args (option_map (λ m. meaning_tree m.now) o)) c.in-Some.is
    ∙ ap (λ m. call_named w c.args.pos args (Some (meaning_tree m))) c.in-Enumeration.is))
