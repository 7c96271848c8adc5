-- Arrays of typed files.
use Rattle.std.specs.Prelude.{◌≡◌, false, All}
use Rattle.c_syntax_written.specs.WrittenFile.{FileTree}
use Rattle.c_syntax.specs.Program.{TProgramTree}
use Rattle.c_typing.specs.Operands.{is_unsized}
use Rattle.c_typing.specs.File.{TypesFile, Program}

-- each array has its size at the end of the file: by its declarator, by its initialiser or by a later declaration (C11 6.7.6.2p4, 6.7.9p22, this profile)
abbrev pub ArraysHaveSizes : Type 0
ArraysHaveSizes = (file : FileTree) (program : TProgramTree) → TypesFile file (Program program) → All (λ x. is_unsized x.ty ≡ false) program.objects
