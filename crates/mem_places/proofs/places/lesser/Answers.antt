use Rattle.std.proofs.Common.{◌≤ℤ◌, FitsSigned, rules, sym, subst}
use mir.Syntax.{w128}
use Rattle.std.proofs.lemmas.Int.{to_z-of_z}
use Rattle.mem_places.specs.Places.{IsCommonUnit}
use Rattle.mem_places.proofs.Moving.{first_common, second_common}
use Rattle.mem_places.proofs.places.lesser.Goals as goal

pub returns-then-a-b : goal.returns-then-a-b
returns-then-a-b c =
    let fits : FitsSigned w128 c.args.a = search rules in let order : c.args.a ≤ℤ c.args.b = search rules in
    subst (IsCommonUnit c.args.a c.args.b) (sym (to_z-of_z w128 c.args.a fits)) (first_common c.args.a c.args.b order)

pub returns-else-a-b : goal.returns-else-a-b
returns-else-a-b c =
    let fits : FitsSigned w128 c.args.b = search rules in let order : c.args.b ≤ℤ c.args.a = search rules in
    subst (IsCommonUnit c.args.a c.args.b) (sym (to_z-of_z w128 c.args.b fits)) (second_common c.args.a c.args.b order)
