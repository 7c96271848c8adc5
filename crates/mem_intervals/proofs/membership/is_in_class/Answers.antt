use Rattle.std.proofs.Common.{rules, ◌≡◌, ◌≤ℤ◌, ℤ, pos, sym, subst}
use Rattle.std.specs.Prelude.{IsTrue}
use Rattle.std.specs.Int.{int_rem_euclid}
use Rattle.c_syntax.specs.Admission.{IsInClass}
use Rattle.mem_intervals.proofs.Classes.{class_of_none, class_by_remainder}
use Rattle.mem_intervals.proofs.membership.is_in_class.Goals as goal

pub returns-then-modulus-eq0 : goal.returns-then-modulus-eq0
returns-then-modulus-eq0 c =
    let zero : c.args.modulus ≡ pos 0 = search rules in
    let there : IsTrue c.is_same.result → c.args.n ≡ c.args.rem = search rules in
    let back : c.args.n ≡ c.args.rem → IsTrue c.is_same.result = search rules in
    let both = class_of_none c.args.rem c.args.n in (
      λ same. subst (λ (m : ℤ). IsInClass m c.args.rem c.args.n) (sym zero) (both.0 (there same)),
      λ i. back (both.1 (subst (λ (m : ℤ). IsInClass m c.args.rem c.args.n) zero i)),
    )

pub returns-else-modulus-eq0 : goal.returns-else-modulus-eq0
returns-else-modulus-eq0 c =
    let low : pos 1 ≤ℤ c.args.modulus = search rules in
    let there : IsTrue c.is_same-else-modulus-eq0.result → int_rem_euclid c.args.n c.args.modulus ≡ c.args.rem = search rules in
    let back : int_rem_euclid c.args.n c.args.modulus ≡ c.args.rem → IsTrue c.is_same-else-modulus-eq0.result = search rules in
    let both = class_by_remainder c.args.modulus c.args.rem c.args.n low (c.requires.rem low) in (
      λ same. both.0 (there same),
      λ i. back (both.1 i),
    )
