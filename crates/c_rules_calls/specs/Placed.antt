-- A call of the code as definitions see it.
use Rattle.c_layout.specs.Calls.{PlacedCall}
use Rattle.c_rules_calls.specs.declared.call.Call.{Call}

-- the call, by its place and the function that it calls
abbrev pub placed : Call → PlacedCall
placed call = record { pos = call.pos; callee = call.callee }
