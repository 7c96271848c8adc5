-- The program at the end of a file goes on from the last world of it.
use Rattle.std.proofs.Common.{◌≡◌, ℕ, false, List, [], ◌∷◌, refl, ap, sym, subst, ◌∙◌, ⊎_elim, arith}
use Rattle.std.specs.Prelude.{◌⊎◌, Option, None, Some, IsSomeAnd, option_map, unwrap_or, All, map, slice_get}
use Rattle.std.proofs.lemmas.Bool.{false≢true}
use Rattle.std.proofs.lemmas.Option.{same_Some, slice_get-map}
use Rattle.std.proofs.lemmas.List.Elements.{All-nil, All-cons, All-head, All-tail, All-weaker}
use Rattle.c_syntax_written.specs.WrittenFile.{FileTree}
use Rattle.c_syntax.specs.Types.{Void, ObjectTree}
use Rattle.c_syntax.specs.Program.{TFunctionTree}
use Rattle.c_layout.specs.ProperTypes.{IsProperType}
use Rattle.c_layout.specs.WellTyped.{IsTypedObject}
use Rattle.c_layout.specs.TypedNodes.{Scope}
use Rattle.c_typing.specs.World.{World}
use Rattle.c_typing.specs.Context.{file_context}
use Rattle.c_typing.specs.Nodes.{result_of}
use Rattle.c_typing.specs.Operands.{is_unsized}
use Rattle.c_typing.specs.Settled.{settled_function}
use Rattle.c_typing.specs.Laws.{same}
use Rattle.c_typing.specs.Later.{IsLater}
use Rattle.c_typing.specs.File.{TypesFile, Program, program_of}
use Rattle.c_typing.proofs.Good.{Good}
use Rattle.c_typing.proofs.SoundTables.{typed_table}
use Rattle.c_typing_laws.specs.NodeLaws.{IsCallable}
use Rattle.c_typing_laws.specs.ExpressionLaws.{EndsFrom}
use Rattle.c_typing_laws.proofs.Entries.{each}
use Rattle.c_typing_laws.proofs.FileArrays.{arrays_have_sizes}
use Rattle.c_typing_laws.specs.ObjectLaws.{IsOpenArray}
use Rattle.c_typing_laws.proofs.FileObjects.{objects_are_typed}
use Rattle.c_typing_laws.specs.FunctionLaws.{TakesScalars}
use Rattle.c_typing_laws.proofs.FileParams.{functions_take_scalars}
use Rattle.c_typing_laws.proofs.Params.{HasScalar}
use Rattle.c_typing_laws.proofs.Signatures.{type_in, IsMatched}
use Rattle.c_typing_laws.proofs.FileSigned.{Between, all_matched}

abbrev pub end_scope : World → Scope
end_scope w = record { program = program_of w; live = [] }

later_same : (w : World) → Good w → IsLater w.structs w.structs
later_same w good = record { laid_out = good.made.laid_out; still = good.made.laid_out; longer = omega arith; same = λ n c. refl }

-- each object of the program is typed
typed_each : (file : FileTree) (w : World) → TypesFile file (Program (program_of w)) → (n : ℕ) (x : ObjectTree) → slice_get w.objects n ≡ Some x → IsTypedObject w.structs x
typed_each file w types n x e =
    let sized = each (λ y. is_unsized y.ty ≡ false) w.objects n x (arrays_have_sizes file (program_of w) types) e in
    ⊎_elim (λ t. t) (λ o. absurd (false≢true (sym sized ∙ ap is_unsized o.ty)))
    (each (λ y. IsTypedObject w.structs y ⊎ IsOpenArray y) w.objects n x (objects_are_typed file (program_of w) types) e)

param_proper : (w : World) → ((n : ℕ) (x : ObjectTree) → slice_get w.objects n ≡ Some x → IsTypedObject w.structs x) → (o : ℕ) → HasScalar w.objects o → IsProperType w.structs (type_in w.objects o)
param_proper w typed o h = by (slice_get w.objects o) refl h
  where
    by : (x : Option ObjectTree) → slice_get w.objects o ≡ x → IsSomeAnd x (λ y. Rattle.c_layout.specs.RowTypes.IsScalar y.ty) → IsProperType w.structs (unwrap_or (option_map (λ y. y.ty) x) Void)
    by None e s = absurd s
    by (Some x) e s = (typed o x e).ty

map_all : {A B : Type 0} (P : B → Type 0) (f : A → B) (xs : List A) → All (λ x. P (f x)) xs → All P (map f xs)
map_all P f [] all = All-nil P
map_all P f (x ∷ xs) all = All-cons P (f x) (map f xs) (All-head (λ y. P (f y)) x xs all) (map_all P f xs (All-tail (λ y. P (f y)) x xs all))

callable : (w : World) → ((n : ℕ) (x : ObjectTree) → slice_get w.objects n ≡ Some x → IsTypedObject w.structs x) → (n : ℕ) (f : TFunctionTree) → slice_get w.functions n ≡ Some f → IsProperType w.structs f.result → IsMatched w n
    → IsCallable w (end_scope w) n
callable w typed n f e result_is m =
    let same_result : result_of w n ≡ f.result = ap (λ o. unwrap_or (option_map (λ g. g.result) o) Void) e in
    let own = same_Some m.function f (sym m.there ∙ e) in record {
      function = settled_function w.objects f;
      there = slice_get-map (settled_function w.objects) w.functions n ∙ ap (option_map (settled_function w.objects)) e;
      result = same_result;
      params = m.types ∙ ap (λ g. map (type_in w.objects) g.params) own;
      result_proper = subst (IsProperType w.structs) (sym same_result) result_is;
      params_proper = subst (All (IsProperType w.structs)) (sym m.types)
          (map_all (IsProperType w.structs) (type_in w.objects) m.function.params
          (All-weaker (HasScalar w.objects) (λ o. IsProperType w.structs (type_in w.objects o)) (λ o h. param_proper w typed o h) m.function.params m.scalars));
    }

-- at the end of a file
pub ends_last : (file : FileTree) (w : World) → TypesFile file (Program (program_of w)) → Good w → Between (file_context file).functions (file_context file).functions w → EndsFrom w (end_scope w)
ends_last file w types good b =
    let typed = typed_each file w types in
    let takes = functions_take_scalars file (program_of w) types in
    record {
      structs = later_same w good;
      table = typed_table w.structs good.made good.sound;
      objects = λ n x e. record { object = x; there = e; typed = typed n x e; ty = same x.ty; read_only = refl; is_static = refl };
      functions = λ n f e.
          callable w typed n f e
          (each (TakesScalars (program_of w)) (map (settled_function w.objects) w.functions) n (settled_function w.objects f) takes
          (slice_get-map (settled_function w.objects) w.functions n ∙ ap (option_map (settled_function w.objects)) e)).result_proper (all_matched (file_context file).functions w b n f e);
    }
