use Rattle.std.proofs.Common.{◌∙◌, sym, ap, arith, map}
use Rattle.std.proofs.lemmas.Grind.{common_steps}
use Rattle.c_syntax.specs.Program.{tfunction_tree}
use Rattle.c_syntax.specs.Types.{object_tree}
use Rattle.c_typing.specs.Settled.{settled_function}
use Rattle.c_check_functions.proofs.SettledLists.{all_settled, none_settled, one_settled}
use Rattle.c_check_functions.proofs.functions.settle_functions.Goals as goal

pub loop-function-init : goal.loop-function-init
loop-function-init c = sym (none_settled (settled_function (map object_tree c.args.objects.now)) (map tfunction_tree c.args.functions.now))

pub loop-function-preserved : goal.loop-function-preserved
loop-function-preserved c =
    one_settled tfunction_tree (settled_function (map object_tree c.args.objects.now)) c.loop-function.functions (map tfunction_tree c.args.functions.now)
    c.loop-function.function-index c.function-item.result c.settle_function.new.function (omega arith) c.loop-function.invariant c.function-item.is
    (c.in_ok-settle_function.ensures ∙ ap (λ f. settled_function (map object_tree c.args.objects.now) (tfunction_tree f)) (sym c.function-item.is))

pub returns : goal.returns
returns c =
    c.loop-function.invariant
    ∙ all_settled (settled_function (map object_tree c.args.objects.now)) c.loop-function.function-index (map tfunction_tree c.args.functions.now)
    (grind (arith, common_steps))
