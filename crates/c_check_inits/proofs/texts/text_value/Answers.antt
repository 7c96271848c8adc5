use Rattle.std.proofs.Common.{ap}
use Rattle.std.proofs.lemmas.Option.{IfSome_then}
use Rattle.c_typing.specs.World.{Typed, Refused, goes_on, stops}
use Rattle.c_check_operators.specs.OperandViews.{operand_tree}
use Rattle.c_check_names.specs.Views.{refusal_of}
use Rattle.c_check_names.specs.Worlds.{world_of}
use Rattle.c_check_exprs.proofs.Lines.{strings_line}
use Rattle.c_check_inits.proofs.texts.text_value.Goals as goal

pub returns-in-Err : goal.returns-in-Err
returns-in-Err c =
    IfSome_then (refusal_of c.in-Err.error) c.in-Err.ensures (λ r p. stops (strings_line (world_of c.args.world.now) c.args.at c.args.text.now (Refused r) p))

pub returns : goal.returns
returns c =
    goes_on (strings_line (world_of c.args.world.now) c.args.at c.args.text.now (Typed (operand_tree c.in-Ok.got) (world_of c.literal.new.world)) c.in-Ok.ensures)
    (ap (λ v. Typed v (world_of c.literal.new.world)) c.in_ok-v.ensures)
