use Rattle.std.proofs.Common.{rules}
use Rattle.mem_places.proofs.Dividing.{unit_eight, unit_four, unit_two, unit_one}
use Rattle.mem_places.proofs.units.unit.Goals as goal

pub returns-then-rem_euclid-eq0 : goal.returns-then-rem_euclid-eq0
returns-then-rem_euclid-eq0 c = unit_eight c.args.n (search rules)

pub returns-then-rem_euclid-eq0-2 : goal.returns-then-rem_euclid-eq0-2
returns-then-rem_euclid-eq0-2 c = unit_four c.args.n (search rules) (search rules)

pub returns-then-rem_euclid-eq0-3 : goal.returns-then-rem_euclid-eq0-3
returns-then-rem_euclid-eq0-3 c = unit_two c.args.n (search rules) (search rules) (search rules)

pub returns : goal.returns
returns c = unit_one c.args.n (search rules) (search rules) (search rules)
