use Rattle.std.proofs.Common.{rules, ◌≡◌, List, length, subst, sym}
use Rattle.std.specs.Prelude.{IsTrue}
use Rattle.c_syntax.specs.Types.{ObjectTree}
use Rattle.c_syntax.specs.declared.alarm.Spot.TheVariants.{At}
use Rattle.c_syntax.specs.Admission.{HasObject, IsBetween, IsInClass, IsSpotIn}
use Rattle.mem_intervals.proofs.membership.has_spot.Goals as goal

pub returns-then-has_object : goal.returns-then-has_object
returns-then-has_object c =
    let set = c.args.set.now in
    let is : c.args.spot ≡ At c.in-At.object c.in-At.offset = search rules in
    let has : (objects : List ObjectTree) → length objects ≡ c.args.count → HasObject objects set c.in-At.object = search rules in
    let there : IsTrue c.has_number.result → IsBetween set.lo set.hi c.in-At.offset × IsInClass set.modulus set.rem c.in-At.offset = search rules in
    let back : IsBetween set.lo set.hi c.in-At.offset × IsInClass set.modulus set.rem c.in-At.offset → IsTrue c.has_number.result = search rules in
    λ objects n. (
      λ t. let k = there t in subst (IsSpotIn objects set) (sym is) (has objects n, k.0, k.1),
      λ h. let k : IsSpotIn objects set (At c.in-At.object c.in-At.offset) = subst (IsSpotIn objects set) is h in back (k.1, k.2),
    )
