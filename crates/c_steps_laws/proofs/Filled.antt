-- What fills an object is put in.
use Rattle.std.proofs.Common.{◌≡◌, ◌<◌, ◌^◌, ℕ, Option, Some, None, length, refl, subst, arith}
use Rattle.std.specs.Prelude.{IsSome, option_and_then}
use Rattle.c_syntax.specs.declared.operator.Extent.{Extent}
use Rattle.c_syntax.specs.Types.{CTypeTree}
use Rattle.c_syntax.specs.Program.{TProgramTree}
use Rattle.c_layout.specs.Layout.{size_in}
use Rattle.c_layout.specs.ProperTypes.{PartAt}
use Rattle.c_layout.specs.RowTypes.{CopyRow}
use Rattle.c_layout.specs.TypedNodes.{object_type}
use Rattle.c_layout.specs.WellTyped.{IsWellTyped}
use Rattle.block_mem.specs.declared.types.Scalar.{Scalar}
use Rattle.block_mem.specs.declared.types.Scalar.TheVariants as scalars
use Rattle.block_mem.specs.declared.types.Value.{Value}
use Rattle.block_mem.specs.Bytes.{size_of}
use Rattle.c_values.specs.Places.{ObjectMemory, place_of}
use Rattle.c_objects.specs.Statics.{AreWholeInitials}
use Rattle.c_objects.specs.Writing.{copied_at}
use Rattle.c_steps.specs.Changes.{stored}
use Rattle.c_steps_laws.proofs.Initials.{scalar_size, room, filled_some, copied_value}
use Rattle.c_steps_laws.proofs.Kept.{KeepsIn}
use Rattle.c_steps_laws.proofs.Memory.{IsChanged}
use Rattle.c_steps_laws.proofs.Rows.{Is}
use Rattle.c_steps_laws.proofs.Runs.{are_fillable}
use Rattle.c_steps_laws.proofs.Values.{Has}
use Rattle.c_steps_laws.specs.Needs.{HasOffset, IsFilledWith, CopiesInto}
use Rattle.c_steps_laws.proofs.Changed.{is_made}
use Rattle.c_steps_laws.proofs.Sound.{are_small, block_small}

module _ (p : TProgramTree) (w : IsWellTyped p) (m : ObjectMemory) (k : KeepsIn p m) where
  -- a part of an object has an offset that a pointer may have
  offset_case : (x offset size : ℕ) (part : CTypeTree) (o : Option ℕ) → place_of m x ≡ o → IsSome o → PartAt p.structs (object_type p x) offset part
      → size_in p.structs part ≡ Some size → offset < 2 ^ 63
  offset_case x offset size part None e h at is = absurd (cc)
  offset_case x offset size part (Some b) e h at is =
      let inside = (room p m x b offset size part (are_fillable p w) k e at is).inside in
      let small = block_small p.objects m k (are_small p w) b (k.placed x b e).made in omega (arith, inside, small)

  pub has_offset : (x offset size : ℕ) (part : CTypeTree) → IsSome (place_of m x) → PartAt p.structs (object_type p x) offset part → size_in p.structs part ≡ Some size
      → HasOffset m x offset
  has_offset x offset size part lives at is = (lives, offset_case x offset size part (place_of m x) refl lives at is)

  pub filled_with : (x offset : ℕ) (part : CTypeTree) (ty : Scalar) (v : Value) → IsSome (place_of m x) → PartAt p.structs (object_type p x) offset part → Is part ty
      → Has (length m.blocks) ty v → IsFilledWith m x offset ty v
  filled_with x offset part ty v lives at is hv =
      let done = filled_some p m x offset part ty v (place_of m x) refl lives (are_fillable p w) k at is hv in
      record {
        there = has_offset x offset (size_of ty) part lives at (scalar_size p.structs part ty is).0;
        value = (hv.typed, hv.made);
        inside = λ place e. is_made (subst (λ o. IsChanged (AreWholeInitials p.initial) p.objects m (option_and_then (λ place. stored m (Some ty) place v) o)) e done);
      }

  pub copied_into : (x offset : ℕ) (part source : CTypeTree) (extent : Extent) (v : Value) → IsSome (place_of m x) → PartAt p.structs (object_type p x) offset part
      → CopyRow p.structs extent part source → Has (length m.blocks) scalars.Pointer v → CopiesInto p.objects m x offset extent v
  copied_into x offset part source extent v lives at row hv passes target e =
      let done = copied_value p m x offset part source extent v lives (are_fillable p w) k at row hv passes in
      is_made (subst (λ o. IsChanged (AreWholeInitials p.initial) p.objects m (option_and_then (λ target. copied_at m target v extent.size) o)) e done)
