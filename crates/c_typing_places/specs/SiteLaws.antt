-- What stands at one place of the text of a typed file.
use Rattle.std.specs.Prelude.{ℕ, List}
use Rattle.c_syntax_written.specs.declared.token.Placed.{Placed}
use Rattle.c_syntax_written.specs.declared.token.Tokens.{Tokens}
use Rattle.c_syntax_written.specs.WrittenFile.{FileTree}
use Rattle.c_syntax.specs.Program.{TProgramTree}
use Rattle.c_lexer.specs.Cut.{IsCut, StandInOrder}
use Rattle.c_grammar.specs.Grammar.{IsTree}
use Rattle.c_typing.specs.File.{TypesFile, Program}
use Rattle.c_sites.specs.Sites.{SitesAgree}

-- where the tokens of a file stand in order, what stands at one place in a function of its program looks at the same
abbrev pub TypedSitesAgree : Type 0
TypedSitesAgree =
    (tokens : List Placed) (file : FileTree) (program : TProgramTree) → IsTree tokens file → StandInOrder tokens → TypesFile file (Program program)
    → SitesAgree program

-- so it is of the tokens into which a text is cut
abbrev pub SitesOfTextsAgree : Type 0
SitesOfTextsAgree =
    (number : ℕ) (text : List ℕ) (tokens : Tokens) (file : FileTree) (program : TProgramTree) → IsCut number text tokens → IsTree tokens.list file
    → TypesFile file (Program program) → SitesAgree program
