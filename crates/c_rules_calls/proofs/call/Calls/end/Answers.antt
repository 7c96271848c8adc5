use Rattle.std.proofs.Common.{◌≡◌, ◌-◌, length, map, Some, rules, ap, ◌∙◌}
use Rattle.std.specs.Prelude.{slice_get}
use Rattle.c_layout.specs.Calls.{chain_end}
use Rattle.c_rules_calls.specs.Placed.{placed}
use Rattle.c_rules_calls.proofs.Ways.{end_of_last}
use Rattle.c_rules_calls.proofs.call.Calls.end.Goals as goal

pub returns-in-Some : goal.returns-in-Some
returns-in-Some c =
    let last : slice_get c.self.inside.items.items (length c.self.inside.items.items - 1) ≡ Some c.in-Some.call.now = search rules in
    let same : map placed c.self.inside.items.items ≡ c.args.self.now = search rules in
    end_of_last c.self.inside.items.items c.args.root c.in-Some.call.now last ∙ ap (chain_end c.args.root) same
