-- The labels and gotos of typed functions.
use Rattle.std.specs.Prelude.{◌≢◌, IfSome, All, AllPairs, Contains}
use Rattle.c_syntax_written.specs.WrittenFile.{FileTree}
use Rattle.c_syntax.specs.TypedStmt.{TStmtTree}
use Rattle.c_syntax.specs.Program.{TProgramTree}
use Rattle.c_layout.specs.Jumps.{labels_of, gotos_of}
use Rattle.c_typing.specs.File.{TypesFile, Program}

-- no two labels of a body are one, and each goto leads to one of them (C11 6.8.1p3, 6.8.6.1p1)
pub record HasItsLabels (body : TStmtTree) : Type 0 where
  pub distinct : AllPairs (λ a b. a ≢ b) (labels_of body)
  pub there : All (Contains (labels_of body)) (gotos_of body)

abbrev pub LabelsAreThere : Type 0
LabelsAreThere = (file : FileTree) (program : TProgramTree) → TypesFile file (Program program) → All (λ f. IfSome f.body HasItsLabels) program.functions
