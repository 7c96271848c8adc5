use Rattle.c_rules_effects.proofs.PlaceForms.{no_array, no_sum}
use Rattle.c_rules_effects.proofs.places.+places.Goals as goal

pub element_of-returns-in_default : goal.element_of-returns-in_default
element_of-returns-in_default t c = no_sum c.args.pointer.now c.in_default.not-Binary

pub array_of-returns-in_default : goal.array_of-returns-in_default
array_of-returns-in_default t c = no_array c.args.pointer.now c.in_default.not-Decay
