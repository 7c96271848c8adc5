use Rattle.std.proofs.Common.{[], FitsSigned, rules}
use Rattle.std.specs.Int.{w128}
use Rattle.std.proofs.lemmas.Int.{to_z-of_z}
use Rattle.c_syntax.specs.declared.operator.TBinaryOp.TheVariants as binaries
use Rattle.block_mem.specs.declared.types.Value.TheVariants as values
use Rattle.c_values.specs.Looks.{judge}
use Rattle.c_values.specs.Numbers.{arithmetic}
use Rattle.c_values.specs.Operators.{binary_looks}
use Rattle.csharp_state.proofs.Exactly.{given, not_wrong, nothing, typed_passes}
use Rattle.csharp_state.proofs.numbers.typed_value.Goals as goal

pub returns-in-Ok-clause-is : goal.returns-in-Ok-clause-is
returns-in-Ok-clause-is c =
    let op = c.args.op in let t = c.args.t in let a = c.args.a in let b = c.args.b in
    let fa : FitsSigned w128 a = c.ranges.a in let fb : FitsSigned w128 b = c.ranges.b in
    given (judge [] (binary_looks nothing (binaries.Arithmetic op t) (values.Int t a) (values.Int t b)))
    (values.Int t (arithmetic op t a b)) c.in-Ok.v (simp to_z-of_z at (c.in-Ok.ensures [] nothing))

pub unreachable-requires : goal.unreachable-requires
unreachable-requires c =
    let op = c.args.op in let t = c.args.t in let a = c.args.a in let b = c.args.b in
    let fa : FitsSigned w128 a = c.ranges.a in let fb : FitsSigned w128 b = c.ranges.b in
    not_wrong (judge [] (binary_looks nothing (binaries.Arithmetic op t) (values.Int t a) (values.Int t b)))
    (values.Int t (arithmetic op t a b)) _ _ (typed_passes op t a b (search rules) (search rules) c.requires)
    (simp to_z-of_z at (c.in-Err.ensures [] nothing))
