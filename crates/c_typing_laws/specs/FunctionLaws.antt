-- What the functions of typed files take and give.
use Rattle.std.specs.Prelude.{◌≡◌, ◌⊎◌, ◌<◌, length, IfSome, All}
use Rattle.c_syntax_written.specs.WrittenFile.{FileTree}
use Rattle.c_syntax.specs.Types.{Void}
use Rattle.c_syntax.specs.Program.{TFunctionTree, TProgramTree}
use Rattle.c_layout.specs.RowTypes.{IsScalar}
use Rattle.c_layout.specs.ProperTypes.{IsProperType}
use Rattle.c_layout.specs.TypedNodes.{object_type, IsBlock}
use Rattle.c_typing.specs.File.{TypesFile, Program}

-- the parameters of a function are objects of scalar types, and it gives a scalar or nothing (this profile)
pub record TakesScalars (program : TProgramTree) (function : TFunctionTree) : Type 0 where
  pub params : All (λ param. (param < length program.objects) × IsScalar (object_type program param)) function.params
  pub result : IsScalar function.result ⊎ (function.result ≡ Void)
  pub result_proper : IsProperType program.structs function.result

abbrev pub FunctionsTakeScalars : Type 0
FunctionsTakeScalars = (file : FileTree) (program : TProgramTree) → TypesFile file (Program program) → All (TakesScalars program) program.functions

-- the body of a function is a block (C11 6.9.1p1)
abbrev pub BodiesAreBlocks : Type 0
BodiesAreBlocks = (file : FileTree) (program : TProgramTree) → TypesFile file (Program program) → All (λ f. IfSome f.body IsBlock) program.functions
