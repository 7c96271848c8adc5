-- The bodies of typed functions, and the initial values of typed files.
use Rattle.std.specs.Prelude.{◌≡◌, IfSome, IsSomeAnd, All, length, slice_get}
use Rattle.c_syntax_written.specs.WrittenFile.{FileTree}
use Rattle.c_syntax.specs.Program.{TProgramTree}
use Rattle.c_layout.specs.TypedNodes.{IsTypedStmt}
use Rattle.c_layout.specs.WellTyped.{body_standing}
use Rattle.c_typing.specs.File.{TypesFile, Program}

-- each statement of a body has the types that it asks for, and stands where it may (C11 6.8, 6.9.1)
abbrev pub BodiesAreTyped : Type 0
BodiesAreTyped =
    (file : FileTree) (program : TProgramTree) → TypesFile file (Program program)
    → All (λ f. IfSome f.body (IsTypedStmt (body_standing program f))) program.functions

-- an initial value has as many bytes as its object (C11 6.7.9p10, this profile)
abbrev pub InitialsHaveSizes : Type 0
InitialsHaveSizes =
    (file : FileTree) (program : TProgramTree) → TypesFile file (Program program)
    → All (λ i. IsSomeAnd (slice_get program.objects i.object) (λ x. length i.bytes ≡ x.size)) program.initial
