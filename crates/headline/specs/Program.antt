-- Which program the bytes are.
use Rattle.std.specs.Prelude.{ℕ, List}
use Rattle.c_syntax_written.specs.declared.token.Tokens.{Tokens}
use Rattle.c_syntax_written.specs.WrittenFile.{FileTree}
use Rattle.c_syntax.specs.Program.{TProgramTree}
use Rattle.c_lexer.specs.Cut.{IsCut}
use Rattle.c_grammar.specs.Refused.{IsFile}
use Rattle.c_typing.specs.File.{TypesFile, Program}
use Rattle.c_rules.specs.Rules.{IsAdmitted}

-- the bytes are cut into the tokens of this file, of which none is refused
abbrev pub IsSource : List ℕ → FileTree → Type 0
IsSource bytes file = (ts : Tokens) × IsCut 0 bytes ts × IsFile ts.list file

-- the bytes are a file that has this typed program
abbrev pub IsTypedAs : List ℕ → TProgramTree → Type 0
IsTypedAs bytes typed = (file : FileTree) × IsSource bytes file × TypesFile file (Program typed)

-- the bytes are this program: they have it, and the rules admit it
abbrev pub IsAdmittedAs : List ℕ → TProgramTree → Type 0
IsAdmittedAs bytes typed = IsTypedAs bytes typed × IsAdmitted typed
