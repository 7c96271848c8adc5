use Rattle.c_parser.proofs.Made.{function_made}
use Rattle.c_parser.proofs.outer.function_outer.Goals as goal

pub returns : goal.returns
returns c = function_made _ _ _ _ _ c.specs_pos.ensures
