-- What the code tells of a command.
use Rattle.headline_words.specs.declared.words.Asked as code
use Rattle.headline_words.specs.Command.{Asked}

abbrev pub asked_for : code.Asked → Asked
asked_for a = record { file = a.file.now; unroll = a.unroll; narrow = a.narrow; ramp = a.ramp; state = a.state }
