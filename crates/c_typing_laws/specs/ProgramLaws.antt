-- What the typed program of a file has.
use Rattle.std.specs.Prelude.{◌≢◌, All, AllPairs}
use Rattle.c_syntax_written.specs.WrittenFile.{FileTree}
use Rattle.c_syntax.specs.Program.{TProgramTree}
use Rattle.c_layout.specs.Tables.{IsTypedTable}
use Rattle.c_layout.specs.WellTyped.{EachOf, IsGivenValue, IsStaticObject}
use Rattle.c_typing.specs.File.{TypesFile, Program}

-- its structs are laid out, and complete where they have to be
abbrev pub TablesAreTyped : Type 0
TablesAreTyped = (file : FileTree) (program : TProgramTree) → TypesFile file (Program program) → IsTypedTable program.structs

-- each object of static duration has one initial value, and an automatic one has none (C11 6.7.9p10)
pub record HasInitials (program : TProgramTree) : Type 0 where
  pub once : EachOf program.objects (IsGivenValue program)
  pub are_static : All (λ initial. IsStaticObject program initial.object) program.initial

abbrev pub InitialsAreGiven : Type 0
InitialsAreGiven = (file : FileTree) (program : TProgramTree) → TypesFile file (Program program) → HasInitials program

-- a name is that of one function (C11 6.2.2p2)
abbrev pub NamesAreDistinct : Type 0
NamesAreDistinct = (file : FileTree) (program : TProgramTree) → TypesFile file (Program program) → AllPairs (λ f g. f.name ≢ g.name) program.functions
