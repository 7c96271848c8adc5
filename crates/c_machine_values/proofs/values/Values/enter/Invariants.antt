use Rattle.std.proofs.Common.{◌≡◌, drop, map, reverse}
use Rattle.c_syntax.specs.Types.{object_tree}
use Rattle.c_steps.specs.Calls.{all_filled}
use Rattle.c_steps_laws.specs.Needs.{AreFilled}
use Rattle.c_machine_values.proofs.values.Values.enter.Given as goal

-- the parameters that are left can be filled, and come to what all come to
abbrev pub invariant-loop-param : goal.invariant-loop-param
invariant-loop-param l =
    AreFilled (map object_tree l.objects) (drop l.param-index l.params) (reverse l.args.items) l.self.memory
    × (all_filled (map object_tree l.objects) (drop l.param-index l.params) (reverse l.args.items) l.self.memory
    ≡ all_filled (map object_tree l.objects) l.params (reverse l.initial.args.items) l.initial.self.memory)
    × (l.self.stack ≡ l.initial.self.stack)
