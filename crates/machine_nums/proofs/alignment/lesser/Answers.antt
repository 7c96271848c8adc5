use Rattle.std.proofs.Common.{arith, ℤ, sym, subst}
use Rattle.std.proofs.lemmas.Int.{ints, to_z-of_z}
use mir.Syntax.{w128}
use Rattle.num_api.specs.Residues.{IsMultiple}
use Rattle.num_api.proofs.Multiples.{self_multiple}
use Rattle.machine_nums.proofs.Alignments.{lesser_divides}
use Rattle.machine_nums.proofs.alignment.lesser.Goals as goal

pub returns-then-a-b-clause-divides_first : goal.returns-then-a-b-clause-divides_first
returns-then-a-b-clause-divides_first c = subst (λ (x : ℤ). IsMultiple x c.args.a) (sym (to_z-of_z w128 c.args.a c.ranges.a)) (self_multiple c.args.a)

pub returns-then-a-b-clause-divides_second : goal.returns-then-a-b-clause-divides_second
returns-then-a-b-clause-divides_second c =
    subst (λ (x : ℤ). IsMultiple x c.args.b) (sym (to_z-of_z w128 c.args.a c.ranges.a))
    (lesser_divides c.args.a c.args.b c.requires.first c.requires.second (omega (arith, ints, c.if-a-b.true)))

pub returns-then-a-b-clause-greatest : goal.returns-then-a-b-clause-greatest
returns-then-a-b-clause-greatest c = λ d h k. subst (IsMultiple d) (sym (to_z-of_z w128 c.args.a c.ranges.a)) h

pub returns-else-a-b-clause-divides_first : goal.returns-else-a-b-clause-divides_first
returns-else-a-b-clause-divides_first c =
    subst (λ (x : ℤ). IsMultiple x c.args.a) (sym (to_z-of_z w128 c.args.b c.ranges.b))
    (lesser_divides c.args.b c.args.a c.requires.second c.requires.first (omega (arith, ints, c.if-a-b.false)))

pub returns-else-a-b-clause-divides_second : goal.returns-else-a-b-clause-divides_second
returns-else-a-b-clause-divides_second c = subst (λ (x : ℤ). IsMultiple x c.args.b) (sym (to_z-of_z w128 c.args.b c.ranges.b)) (self_multiple c.args.b)

pub returns-else-a-b-clause-greatest : goal.returns-else-a-b-clause-greatest
returns-else-a-b-clause-greatest c = λ d h k. subst (IsMultiple d) (sym (to_z-of_z w128 c.args.b c.ranges.b)) k
