-- What checking a file comes to.
use Rattle.std.specs.Prelude.{◌≡◌, List, Result, Ok, Err, IfSome}
use Rattle.c_syntax_written.specs.declared.token.Placed.{Placed}
use Rattle.c_syntax_written.specs.WrittenFile.{FileTree}
use Rattle.c_syntax.specs.declared.program.TProgram.{TProgram}
use Rattle.c_syntax.specs.Program.{tprogram_tree}
use Rattle.c_lexer.specs.Cut.{StandInOrder}
use Rattle.c_grammar.specs.Grammar.{IsTree}
use Rattle.c_sites.specs.Sites.{SitesAgree}
use Rattle.c_typing.specs.File.{FileOutcome, TypesFile, Program, NoProgram}
use Rattle.c_check_names.specs.declared.type_error.TypeError.{TypeError}
use Rattle.c_check_names.specs.Views.{refusal_of}

-- out of memory aside, the result is the outcome of the file: its typed program, or its first refusal
abbrev pub Checks : FileTree → Result TProgram TypeError → Type 0
Checks file (Ok program) = TypesFile file (Program (tprogram_tree program))
Checks file (Err e) = IfSome (refusal_of e) (λ r. TypesFile file (NoProgram r))

-- and the file has no other
abbrev pub IsAlone : FileTree → Result TProgram TypeError → Type 0
IsAlone file (Ok program) = (o : FileOutcome) → TypesFile file o → o ≡ Program (tprogram_tree program)
IsAlone file (Err e) = IfSome (refusal_of e) (λ r. (o : FileOutcome) → TypesFile file o → o ≡ NoProgram r)

-- where the file is that of tokens which stand in order, what stands at one place in a function of the program looks at the same
abbrev pub HasSites : FileTree → Result TProgram TypeError → Type 0
HasSites file (Ok program) = (tokens : List Placed) → IsTree tokens file → StandInOrder tokens → SitesAgree (tprogram_tree program)
HasSites file (Err e) = Unit {0}
