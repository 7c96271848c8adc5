-- Objects of the file, by what is asked of them.
use Rattle.std.proofs.Common.{◌≡◌, refl, sym, ap, ◌∙◌, ℕ, Bool, true, false, Option, Some, None}
use Rattle.std.specs.Prelude.{nat_lt, not, ◌&&◌, if◌then◌else◌, ⊤, ◌+◌}
use Rattle.c_syntax_written.specs.declared.place.Pos.{Pos}
use Rattle.c_syntax_written.specs.declared.construct.Construct.TheVariants as constructs
use Rattle.c_syntax.specs.declared.op.Op.TheVariants as ops
use Rattle.c_syntax.specs.Types.{CTypeTree}
use Rattle.c_typing.specs.World.{World, Meaning, Linked, Outcome, Typed, Refused, Refusal, Redeclared, ObjectTooLarge, TotalTooLarge, Unsupported, no_rule, unless}
use Rattle.c_typing.specs.Names.{is_reserved, unless_declared, linked_as, object_limit, total_limit}
use Rattle.c_typing.specs.Operands.{complete_size}
use Rattle.c_typing.specs.Declarators.{DeclaredName, if_sized, unless_incomplete}
use Rattle.c_typing.specs.Decls.{Declares, FileObject, binding_here, unless_other, is_object_again, is_named_main, composite_type, file_object, file_declared, file_sized, file_unsized, file_now, declares, object_number, object_world, counted_once, is_defined, with_total}
use Rattle.c_typing.specs.Operands.{is_unsized}
use Rattle.c_check_names.proofs.Steps.{when_true, when_false}
use Rattle.c_check_decls.specs.Entities.{agreed, conflict_of}
use Rattle.c_check_decls.proofs.Agreement.{by_conflict}

sized : {A : Type 0} (w : World) (at : Pos) (ty : CTypeTree) (n : ℕ) (outcome : ℕ → Outcome A) → complete_size w.structs ty ≡ Some n
    → outcome n ≡ unless_incomplete w at ty outcome
sized w at ty n outcome e = ap (if_sized (no_rule w at ops.Init ty None) outcome) (sym e)

module _ (w : World) (named : DeclaredName) (ty : CTypeTree) (is_const : Bool) (how : FileObject) where
  abbrev agrees : Meaning → Bool
  agrees = is_object_again w ty is_const how.has_init

  abbrev pub behind_name : Option Linked → Outcome Declares
  behind_name l = file_object w named (composite_type w ty l) is_const how l

  abbrev by_entity : Option Linked → Outcome Declares
  by_entity entity = unless_other named.pos (binding_here w named.name) entity agrees behind_name

  abbrev by_name : Outcome Declares
  by_name = if is_reserved named.name then Refused (Redeclared named.pos named.pos) else by_entity (linked_as w named.name)

  -- what it comes to, by the place of the declaration with which it conflicts, if there is one
  pub file_on : (l : Option Linked) (conflict : Option Pos) → (how.in_block && how.has_init) ≡ false → is_reserved named.name ≡ false → l ≡ linked_as w named.name
      → conflict ≡ conflict_of (binding_here w named.name) (linked_as w named.name) (agreed agrees l)
      → unless_declared named.pos conflict (behind_name l) ≡ file_declared w named ty is_const how
  file_on l conflict b e f g =
      ap (λ k. unless_declared named.pos k (behind_name l)) g
      ∙ ap (λ k. unless_declared named.pos (conflict_of (binding_here w named.name) k (agreed agrees l)) (behind_name l)) (sym f)
      ∙ sym (by_conflict named.pos (binding_here w named.name) l agrees behind_name)
      ∙ ap by_entity f
      ∙ when_false (Refused (Redeclared named.pos named.pos)) (by_entity (linked_as w named.name)) e refl
      ∙ when_false (Refused (no_rule w named.pos ops.Init ty None)) by_name b refl

  -- behind its name, by whether its size is told
  pub when_unsized : (t : CTypeTree) (l : Option Linked) → t ≡ composite_type w ty l → is_unsized t ≡ true → file_unsized w named t how l ≡ behind_name l
  when_unsized t l e u =
      when_true (file_unsized w named t how l) (file_sized w named t is_const how l) u refl ∙ ap (λ s. file_object w named s is_const how l) e

  pub when_sized : (t : CTypeTree) (l : Option Linked) → t ≡ composite_type w ty l → is_unsized t ≡ false → file_sized w named t is_const how l ≡ behind_name l
  when_sized t l e u =
      when_false (file_unsized w named t how l) (file_sized w named t is_const how l) u refl ∙ ap (λ s. file_object w named s is_const how l) e

-- ---- what counts among the sizes

counts_not : {A : Type 0} (b t u c : Bool) (r s q a : Refusal) (w v : World) (outcome : World → Outcome A)
    → ◌≡◌ {A = Outcome ⊤} (Refused a) (if b then unless t r (unless u s (Typed tt v)) else unless c q (Typed tt w))
    → Refused a ≡ (if b then unless t r (unless u s (outcome v)) else unless c q (outcome w))
counts_not true true u c r s q a w v outcome e = cc
counts_not true false true c r s q a w v outcome e = cc
counts_not true false false c r s q a w v outcome e = cc
counts_not false t u true r s q a w v outcome e = cc
counts_not false t u false r s q a w v outcome e = cc

module _ {A : Type 0} (w : World) (at : Pos) (size : ℕ) (how : FileObject) (l : Option Linked) (outcome : World → Outcome A) where
  pub counted_not : (r : Refusal) → ◌≡◌ {A = Outcome ⊤} (Refused r) (counted_once w at size how l (Typed tt)) → Refused r ≡ counted_once w at size how l outcome
  counted_not r e =
      counts_not (how.defines && not (is_defined l)) (nat_lt object_limit size) (nat_lt total_limit (w.total + size)) (how.is_there && nat_lt object_limit size)
      (ObjectTooLarge at size) (TotalTooLarge at (w.total + size)) (ObjectTooLarge at size) r w (with_total w size) outcome e

module _ (w : World) (named : DeclaredName) (ty : CTypeTree) (is_const : Bool) (how : FileObject) (l : Option Linked) where
  abbrev pub sized_made : ℕ → World → Outcome Declares
  sized_made size v = Typed (declares (object_number w how l) (file_now named ty how false)) (object_world v named ty is_const size how l)

  abbrev pub sized_asked : Bool → ℕ → World → Outcome Declares
  sized_asked is_main size v = unless (is_main && true) (Unsupported named.pos constructs.MainShape) (sized_made size v)

  -- one past the limits is refused
  pub sized_large : (size : ℕ) (r : Refusal) → complete_size w.structs ty ≡ Some size
      → ◌≡◌ {A = Outcome ⊤} (Refused r) (counted_once w named.pos size how l (Typed tt)) → Refused r ≡ file_sized w named ty is_const how l
  sized_large size r e f =
      counted_not w named.pos size how l (sized_asked (is_named_main named.name) size) r f
      ∙ sized w named.pos ty size (λ n. counted_once w named.pos n how l (sized_asked (is_named_main named.name) n)) e
