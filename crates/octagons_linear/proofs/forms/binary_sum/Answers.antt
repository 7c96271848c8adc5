use Rattle.std.proofs.Common.{ap, sym, subst}
use Rattle.octagons_linear.proofs.Reading.{of-added, of-subtracted}
use Rattle.octagons_linear.proofs.forms.binary_sum.Goals as goal

pub returns-in-Add : goal.returns-in-Add
returns-in-Add c = of-added c.args.op c.args.a c.args.b c.sum.result c.in-Add.is c.sum.ensures

pub returns-in-Sub : goal.returns-in-Sub
returns-in-Sub c = of-subtracted c.args.op c.args.a c.args.b c.difference.result c.in-Sub.is c.difference.ensures
