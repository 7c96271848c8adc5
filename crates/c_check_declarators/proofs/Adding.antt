-- A member that is added, by what is asked of it.
use Rattle.std.proofs.Common.{◌≡◌, ap, sym, ◌∙◌, ℕ, ◌+◌, ◌^◌, Bool, true, false, List, Option, Some, None}
use Rattle.std.specs.Prelude.{nat_lt, ◌||◌}
use Rattle.c_syntax_written.specs.declared.place.Pos.{Pos}
use Rattle.c_syntax_written.specs.declared.construct.Construct.TheVariants as constructs
use Rattle.c_syntax.specs.Types.{CTypeTree}
use Rattle.c_layout.specs.RowTypes.{has_const_elements}
use Rattle.c_typing.specs.World.{World, Outcome, Typed, Refused, Redeclared, ObjectTooLarge, Unsupported, unless}
use Rattle.c_typing.specs.Names.{unless_declared}
use Rattle.c_typing.specs.Declarators.{DeclaredName}
use Rattle.c_typing.specs.Typing.{MemberMade, member_named, next_offset, with_member, member_sized}

module _ (w : World) (named : DeclaredName) (ty : CTypeTree) (is_const : Bool) (done : List MemberMade) (size : ℕ) where
  abbrev chosen : Option Pos → Bool → Bool → Outcome (List MemberMade)
  chosen first large const =
      unless_declared named.pos first
      (unless large (ObjectTooLarge named.pos (2 ^ 40)) (unless const (Unsupported named.pos constructs.ConstMember) (Typed (with_member w named ty done) w)))

  abbrev large : Bool
  large = nat_lt (2 ^ 40) (next_offset w done ty + size)

  abbrev const : Bool
  const = is_const || has_const_elements ty

  pub named_again : (first : Pos) → member_named done named.name ≡ Some first → Refused (Redeclared named.pos first) ≡ member_sized w named ty is_const done size
  named_again first e = ap (λ o. chosen o large const) (sym e)

  pub is_large : member_named done named.name ≡ None → large ≡ true → Refused (ObjectTooLarge named.pos (2 ^ 40)) ≡ member_sized w named ty is_const done size
  is_large e f = ap (λ l. chosen None l const) (sym f) ∙ ap (λ o. chosen o large const) (sym e)

  pub is_const_one : member_named done named.name ≡ None → large ≡ false → const ≡ true
      → Refused (Unsupported named.pos constructs.ConstMember) ≡ member_sized w named ty is_const done size
  is_const_one e f g = ap (λ c. chosen None false c) (sym g) ∙ ap (λ l. chosen None l const) (sym f) ∙ ap (λ o. chosen o large const) (sym e)

  pub is_added : member_named done named.name ≡ None → large ≡ false → const ≡ false → Typed (with_member w named ty done) w ≡ member_sized w named ty is_const done size
  is_added e f g = ap (λ c. chosen None false c) (sym g) ∙ ap (λ l. chosen None l const) (sym f) ∙ ap (λ o. chosen o large const) (sym e)
