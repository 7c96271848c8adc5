-- The objects of typed files.
use Rattle.std.specs.Prelude.{◌≡◌, ◌⊎◌, Bool, All}
use Rattle.c_syntax_written.specs.WrittenFile.{FileTree}
use Rattle.c_syntax.specs.Types.{CTypeTree, Array, ObjectTree}
use Rattle.c_syntax.specs.Program.{TProgramTree}
use Rattle.c_layout.specs.WellTyped.{IsTypedObject}
use Rattle.c_typing.specs.File.{TypesFile, Program}

-- an array whose size no declaration has told
pub record IsOpenArray (object : ObjectTree) : Type 0 where
  pub of : CTypeTree
  pub is_const : Bool
  pub ty : object.ty ≡ Array of is_const 0

-- each object has a type of the program and its size, is const as its elements are, and is no literal unless it is static; or it is an array without size
abbrev pub ObjectsAreTyped : Type 0
ObjectsAreTyped = (file : FileTree) (program : TProgramTree) → TypesFile file (Program program)
    → All (λ x. IsTypedObject program.structs x ⊎ IsOpenArray x) program.objects
