-- The exit statuses.
use Rattle.std.specs.Prelude.{ℕ}
use Rattle.headline.specs.declared.status.Status.{Status}
use Rattle.headline.specs.declared.status.Status.TheVariants.{NoAlarm, Alarms, Refused, Usage, ReadFault, WriteFault, NoMemory}

abbrev pub code_of : Status → ℕ
code_of NoAlarm = 0
code_of Alarms = 1
code_of Refused = 2
code_of Usage = 3
code_of ReadFault = 4
code_of WriteFault = 5
code_of NoMemory = 6
