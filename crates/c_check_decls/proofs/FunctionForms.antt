-- Functions, by what is asked of their names.
use Rattle.std.proofs.Common.{◌≡◌, refl, sym, ap, ◌∙◌, ℕ, Bool, true, false, List, Option}
use Rattle.std.specs.Prelude.{not, ◌&&◌}
use Rattle.c_syntax_written.specs.declared.place.Pos.{Pos}
use Rattle.c_syntax_written.specs.declared.construct.Construct.TheVariants as constructs
use Rattle.c_syntax.specs.Types.{CTypeTree}
use Rattle.c_typing.specs.World.{World, Meaning, Linked, Outcome, Unsupported, unless}
use Rattle.c_typing.specs.Names.{is_reserved, unless_declared, linked_as}
use Rattle.c_typing.specs.Declarators.{DeclaredName, ParameterTree}
use Rattle.c_typing.specs.Context.{Context}
use Rattle.c_typing.specs.Decls.{binding_here, unless_other, is_function_so, is_named_main, is_main_shape, function_again, function_declared, reserved_declared}
use Rattle.c_check_names.proofs.Steps.{when_true, when_false}
use Rattle.c_check_decls.specs.Entities.{agreed, conflict_of}
use Rattle.c_check_decls.proofs.Agreement.{by_conflict}

module _ (w : World) (around : Context) (named : DeclaredName) (params : List ParameterTree) (types : List CTypeTree) (result : CTypeTree) (has_body : Bool) where
  abbrev agrees : Meaning → Bool
  agrees = is_function_so w types result has_body

  abbrev wrong_main : Bool
  wrong_main = is_named_main named.name && not (is_main_shape types result)

  abbrev asked : Bool → Option Linked → Outcome (Option ℕ)
  asked wrong l = unless wrong (Unsupported named.pos constructs.MainShape) (function_again w around named params types result l)

  abbrev by_entity : Option Linked → Outcome (Option ℕ)
  by_entity entity = unless_other named.pos (binding_here w named.name) entity agrees (asked wrong_main)

  -- what it comes to, by the place of the declaration with which it conflicts, if there is one
  pub function_on : (wrong : Bool) (l : Option Linked) (conflict : Option Pos) → is_reserved named.name ≡ false → wrong ≡ wrong_main → l ≡ linked_as w named.name
      → conflict ≡ conflict_of (binding_here w named.name) (linked_as w named.name) (agreed agrees l)
      → unless_declared named.pos conflict (asked wrong l) ≡ function_declared w around named params types result has_body
  function_on wrong l conflict e m f g =
      ap (λ k. unless_declared named.pos k (asked wrong l)) g
      ∙ ap (λ b. unless_declared named.pos (conflict_of (binding_here w named.name) (linked_as w named.name) (agreed agrees l)) (asked b l)) m
      ∙ ap (λ k. unless_declared named.pos (conflict_of (binding_here w named.name) k (agreed agrees l)) (asked wrong_main l)) (sym f)
      ∙ sym (by_conflict named.pos (binding_here w named.name) l agrees (asked wrong_main))
      ∙ ap by_entity f
      ∙ when_false (reserved_declared w named types result has_body) (by_entity (linked_as w named.name)) e refl

  pub reserved_on : is_reserved named.name ≡ true → reserved_declared w named types result has_body ≡ function_declared w around named params types result has_body
  reserved_on e = when_true (reserved_declared w named types result has_body) (by_entity (linked_as w named.name)) e refl
