use Rattle.std.proofs.Common.{arith, ℤ, ◌*ℤ◌, sym, subst}
use Rattle.std.proofs.lemmas.Int.{ints, to_z-of_z}
use mir.Syntax.{w128}
use Rattle.num_api.specs.Residues.{IsMultiple}
use Rattle.num_api.proofs.Multiples.{self_multiple, times_multiple, multiple_times}
use Rattle.machine_nums.proofs.Alignments.{lesser_divides}
use Rattle.machine_nums.proofs.alignment.greater.Goals as goal

pub returns-then-a-b-clause-divides : goal.returns-then-a-b-clause-divides
returns-then-a-b-clause-divides c = λ n m h k.
    subst (λ (x : ℤ). IsMultiple x (n *ℤ m)) (sym (to_z-of_z w128 c.args.b c.ranges.b)) (multiple_times c.args.b n m k)

pub returns-then-a-b-clause-first : goal.returns-then-a-b-clause-first
returns-then-a-b-clause-first c =
    subst (IsMultiple c.args.a) (sym (to_z-of_z w128 c.args.b c.ranges.b))
    (lesser_divides c.args.a c.args.b c.requires.first c.requires.second (omega (arith, ints, c.if-a-b.true)))

pub returns-then-a-b-clause-second : goal.returns-then-a-b-clause-second
returns-then-a-b-clause-second c = subst (IsMultiple c.args.b) (sym (to_z-of_z w128 c.args.b c.ranges.b)) (self_multiple c.args.b)

pub returns-else-a-b-clause-divides : goal.returns-else-a-b-clause-divides
returns-else-a-b-clause-divides c = λ n m h k.
    subst (λ (x : ℤ). IsMultiple x (n *ℤ m)) (sym (to_z-of_z w128 c.args.a c.ranges.a)) (times_multiple c.args.a n m h)

pub returns-else-a-b-clause-first : goal.returns-else-a-b-clause-first
returns-else-a-b-clause-first c = subst (IsMultiple c.args.a) (sym (to_z-of_z w128 c.args.a c.ranges.a)) (self_multiple c.args.a)

pub returns-else-a-b-clause-second : goal.returns-else-a-b-clause-second
returns-else-a-b-clause-second c =
    subst (IsMultiple c.args.b) (sym (to_z-of_z w128 c.args.a c.ranges.a))
    (lesser_divides c.args.b c.args.a c.requires.second c.requires.first (omega (arith, ints, c.if-a-b.false)))
