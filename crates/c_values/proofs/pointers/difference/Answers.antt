use Rattle.std.proofs.Common.{ℤ, ◌<◌, ◌^◌, FitsSigned, ap, ◌∙◌, rules}
use Rattle.std.specs.Int.{w64, w128}
use Rattle.std.proofs.lemmas.Int.{to_z-of_z}
use Rattle.c_syntax_written.specs.declared.int_type.IntType.TheVariants.{Long}
use Rattle.c_syntax_written.specs.Integer.{wrapped}
use Rattle.block_mem.specs.declared.types.Value.TheVariants as values
use Rattle.c_values.proofs.Ranges.{code_difference}
use Rattle.c_values.proofs.pointers.difference.Goals as goal

pub returns : goal.returns
returns c =
    let p : ℤ = c.args.left.offset in let q : ℤ = c.args.right.offset in
    let fp : FitsSigned w64 p = search rules in let fq : FitsSigned w64 q = search rules in
    let fits : FitsSigned w128 c.wrap.result = search rules in
    let few : c.args.element < 2 ^ 64 = search rules in
    let e = code_difference p q c.from.result c.from-2.result c.from-3.result c.args.element fp fq few (c.from.ensures
    ∙ to_z-of_z w64 p fp) (c.from-2.ensures ∙ to_z-of_z w64 q fq) c.from-3.ensures in
    ap (λ n. values.Int Long n) (to_z-of_z w128 c.wrap.result fits ∙ c.wrap.ensures ∙ ap (wrapped Long) e)
