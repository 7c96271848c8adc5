-- What is proved of typed files, together.
use Rattle.std.proofs.Common.{◌≡◌, List, ap, sym, ◌∙◌, ⊎_elim}
use Rattle.std.proofs.lemmas.Bool.{false≢true}
use Rattle.std.specs.Prelude.{◌⊎◌, false, Option, None, Some, IfSome}
use Rattle.c_syntax.specs.TypedStmt.{TStmtTree}
use Rattle.c_syntax.specs.Types.{ObjectTree}
use Rattle.c_syntax.specs.Program.{StructDefTree, TFunctionTree, TProgramTree}
use Rattle.c_layout.specs.TypedNodes.{IsBlock, IsTypedStmt}
use Rattle.c_layout.specs.WellTyped.{IsTypedObject, IsTypedBody, body_standing}
use Rattle.c_typing.specs.Operands.{is_unsized}
use Rattle.c_typing_laws.proofs.WholePrograms.{tables_are_typed, initials_are_given}
use Rattle.c_typing_laws.proofs.DistinctNames.{names_are_distinct}
use Rattle.c_typing_laws.specs.JumpLaws.{HasItsLabels}
use Rattle.c_typing_laws.proofs.BlockPrograms.{labels_are_there, objects_are_listed}
use Rattle.c_typing_laws.proofs.FileParams.{functions_take_scalars, bodies_are_blocks}
use Rattle.c_typing_laws.specs.ObjectLaws.{IsOpenArray}
use Rattle.c_typing_laws.proofs.FileObjects.{objects_are_typed}
use Rattle.c_typing_laws.proofs.FileArrays.{arrays_have_sizes}
use Rattle.c_typing_laws.proofs.FileBodies.{bodies_are_typed, initials_have_sizes}
use Rattle.c_typing_laws.proofs.FilePieces.{pieces_are_static}
use Rattle.c_typing_laws.specs.WellTypedLaws.{TypedIsWellTyped}

body_typed : (program : TProgramTree) (f : TFunctionTree) (body : Option TStmtTree) → IfSome body IsBlock → IfSome body (IsTypedStmt (body_standing program f)) → IfSome body HasItsLabels → IfSome body (IsTypedBody program f)
body_typed program f None b t l = tt
body_typed program f (Some s) b t l = record { block = b; typed = t; labels_distinct = l.distinct; gotos_there = l.there }

object_is : (structs : List StructDefTree) (x : ObjectTree) → IsTypedObject structs x ⊎ IsOpenArray x → is_unsized x.ty ≡ false → IsTypedObject structs x
object_is structs x t sized = ⊎_elim (λ i. i) (λ o. absurd (false≢true (sym sized ∙ ap is_unsized o.ty))) t

pub typed_is_well_typed : TypedIsWellTyped
typed_is_well_typed file program types =
    let takes = functions_take_scalars file program types in
    let blocks = bodies_are_blocks file program types in
    let typed = bodies_are_typed file program types in
    let bytes = initials_have_sizes file program types in
    let labels = labels_are_there file program types in
    let lists = objects_are_listed file program types in
    let objects = objects_are_typed file program types in
    let sizes = arrays_have_sizes file program types in
    let given = initials_are_given file program types in
    let pieces = pieces_are_static file program types in record {
      structs = tables_are_typed file program types;
      objects = λ k d h. object_is program.structs _ (objects k d h) (sizes k d h);
      functions = λ k d h. record {
        params = (takes k d h).params;
        result = (takes k d h).result;
        result_proper = (takes k d h).result_proper;
        body = body_typed program _ _ (blocks k d h) (typed k d h) (labels k d h);
      };
      names_distinct = names_are_distinct file program types;
      listed_objects = lists.automatic;
      listed_once = lists.once;
      initial = λ k d h. record { object = given.are_static k d h; size = bytes k d h; bytes = pieces k d h };
      initial_once = given.once;
    }
