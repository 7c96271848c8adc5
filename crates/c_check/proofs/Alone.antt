-- A file has no other outcome, a typed program is well typed, and of a text what stands at one place looks at the same.
use Rattle.std.specs.Prelude.{IfOk, Result, Ok, Err}
use Rattle.std.proofs.lemmas.Option.{IfSome_then}
use Rattle.c_syntax_written.specs.WrittenFile.{FileTree}
use Rattle.c_syntax.specs.declared.program.TProgram.{TProgram}
use Rattle.c_syntax.specs.Program.{tprogram_tree}
use Rattle.c_layout.specs.WellTyped.{IsWellTyped}
use Rattle.c_typing.specs.File.{Program, NoProgram}
use Rattle.c_typing.specs.Laws.{FilesHaveOne}
use Rattle.c_check_names.specs.declared.type_error.TypeError.{TypeError}
use Rattle.c_check_names.specs.Views.{refusal_of}
use Rattle.c_typing_laws.specs.WellTypedLaws.{TypedIsWellTyped}
use Rattle.c_typing_places.specs.SiteLaws.{TypedSitesAgree}
use Rattle.c_check.specs.Checks.{Checks, HasSites, IsAlone}

pub is_alone : FilesHaveOne → (file : FileTree) (res : Result TProgram TypeError) → Checks file res → IsAlone file res
is_alone law file (Ok program) p = λ o q. law file o (Program (tprogram_tree program)) q p
is_alone law file (Err e) p = IfSome_then (refusal_of e) p (λ r q. λ o h. law file o (NoProgram r) h q)

pub is_typed : TypedIsWellTyped → (file : FileTree) (res : Result TProgram TypeError) → Checks file res → IfOk res (λ program. IsWellTyped (tprogram_tree program))
is_typed law file (Ok program) p = law file (tprogram_tree program) p
is_typed law file (Err e) p = tt

pub has_sites : TypedSitesAgree → (file : FileTree) (res : Result TProgram TypeError) → Checks file res → HasSites file res
has_sites law file (Ok program) p = λ tokens tree order. law tokens file (tprogram_tree program) tree order p
has_sites law file (Err e) p = tt
