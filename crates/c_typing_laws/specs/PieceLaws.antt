-- The pointers that static objects hold at the start.
use Rattle.std.specs.Prelude.{All}
use Rattle.c_syntax_written.specs.WrittenFile.{FileTree}
use Rattle.c_syntax.specs.Program.{TProgramTree}
use Rattle.c_layout.specs.WellTyped.{IsTypedByte}
use Rattle.c_typing.specs.File.{TypesFile, Program}

-- each piece of a pointer in an initial value is one of eight, and points to an object of static duration (C11 6.6p9)
abbrev pub PiecesAreStatic : Type 0
PiecesAreStatic = (file : FileTree) (program : TProgramTree) → TypesFile file (Program program)
    → All (λ initial. All (IsTypedByte program) initial.bytes) program.initial
