use Rattle.std.proofs.Common.{FitsSigned, ap, ◌∙◌, arith, rules}
use Rattle.std.specs.Int.{w128}
use Rattle.std.proofs.lemmas.Int.{ints, to_z-of_z}
use Rattle.c_values.proofs.Ranges.{size_of_number}
use Rattle.c_syntax_written.specs.Integer.{wrapped}
use Rattle.c_values.proofs.numbers.complement.Goals as goal

pub returns : goal.returns
returns c =
    let fits : FitsSigned w128 c.wrap.result = search rules in
    to_z-of_z w128 c.wrap.result fits ∙ c.wrap.ensures ∙ ap (wrapped c.args.t) (omega (arith, ints, size_of_number c.args.t c.args.n c.requires))
