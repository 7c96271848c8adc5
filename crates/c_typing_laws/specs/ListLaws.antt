-- The objects of typed blocks and parameter lists.
use Rattle.std.specs.Prelude.{All}
use Rattle.c_syntax_written.specs.WrittenFile.{FileTree}
use Rattle.c_syntax.specs.Program.{TProgramTree}
use Rattle.c_layout.specs.WellTyped.{listed, EachOf, IsListed, IsAutomaticObject}
use Rattle.c_typing.specs.File.{TypesFile, Program}

-- each object of automatic duration stands in one list, once, and nothing else stands in one (C11 6.2.4p5)
pub record HasItsLists (program : TProgramTree) : Type 0 where
  pub automatic : All (IsAutomaticObject program) (listed program)
  pub once : EachOf program.objects (IsListed program)

abbrev pub ObjectsAreListed : Type 0
ObjectsAreListed = (file : FileTree) (program : TProgramTree) → TypesFile file (Program program) → HasItsLists program
