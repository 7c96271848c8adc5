-- The programs of typed files.
use Rattle.c_syntax_written.specs.WrittenFile.{FileTree}
use Rattle.c_syntax.specs.Program.{TProgramTree}
use Rattle.c_layout.specs.WellTyped.{IsWellTyped}
use Rattle.c_typing.specs.File.{TypesFile, Program}

-- what is typed is well typed
abbrev pub TypedIsWellTyped : Type 0
TypedIsWellTyped = (file : FileTree) (program : TProgramTree) → TypesFile file (Program program) → IsWellTyped program
