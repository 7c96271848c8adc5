use Rattle.std.proofs.Common.{ap}
use Rattle.std.specs.Prelude.{map}
use Rattle.c_syntax_written.specs.WrittenDecl.{initdeclarator_tree}
use Rattle.c_parser.proofs.MadeDecls.{same_decl}
use Rattle.c_parser.proofs.decl.no_declarators.Goals as goal

pub returns : goal.returns
returns c = same_decl c.specs_pos.ensures (ap (map initdeclarator_tree) c.new.ensures)
