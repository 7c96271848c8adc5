-- The one expression at which a check looks.
use Rattle.std.proofs.Common.{◌≡◌, [], ◌∷◌, ◌∙◌, List, Option, Some, ap, arith, length, map, refl, sym}
use Rattle.std.specs.Prelude.{slice_index_or}
use Rattle.c_syntax.specs.declared.alarm.WrongKind.{WrongKind}
use Rattle.c_syntax.specs.declared.alarm.WrongKind.TheVariants as kinds
use Rattle.c_syntax.specs.Operand.{Operand}
use Rattle.block_mem.specs.declared.types.Value.{Value}
use Rattle.csharp.specs.declared.expression.CsExpr.{CsExpr}
use Rattle.csharp.specs.Trees.{CsExprTree, CsProgramTree, csexpr_tree}
use Rattle.csharp.specs.Formed.{HasOperands}
use Rattle.csharp.specs.States.{State, of_one, of_value, value_of}
use Rattle.mem_cell_exprs.proofs.Options.{then-some}
use Rattle.mem_cell_shows.specs.Checks.{AreTwo, HasTwo}

-- where there is not one, there is nothing to look at
pub none-looked : (os : List CsExpr) → ((e : CsExpr) → os ≡ e ∷ [] → ⊥) → (look : CsExprTree → Option Operand) (x : Operand) → of_one (map csexpr_tree os) look ≡ Some x → ⊥
none-looked [] other look x h = cc
none-looked (e ∷ []) other look x h = other e refl
none-looked (e ∷ f ∷ os) other look x h = cc

pub first-same : {X : Type 0} (x y : X) → x ∷ [] ≡ y ∷ [] → x ≡ y
first-same x y h = cc

pub not-two : (os : List CsExpr) → (length os ≡ 2 → ⊥) → AreTwo (map csexpr_tree os) → ⊥
not-two [] none h = h
not-two (e ∷ []) none h = h
not-two (e ∷ f ∷ []) none h = none refl
not-two (e ∷ f ∷ g ∷ os) none h = h

pub two-items : {X : Type 0} (xs : List X) (x y : X) → length xs ≡ 2 → x ≡ slice_index_or xs 0 x → y ≡ slice_index_or xs 1 y → xs ≡ x ∷ y ∷ []
two-items [] x y n e f = absurd (omega (arith, n))
two-items (a ∷ []) x y n e f = absurd (omega (arith, n))
two-items (a ∷ b ∷ []) x y n e f = ap (λ z. z ∷ b ∷ []) (sym e) ∙ ap (λ z. x ∷ z ∷ []) (sym f)
two-items (a ∷ b ∷ z ∷ zs) x y n e f = absurd (omega (arith, n))

-- a check that compares two looks at two
pub formed-two : (q : CsProgramTree) (kind : WrongKind) (es : List CsExprTree) → HasOperands q kind es → HasTwo kind es
formed-two q kinds.Unrelated [] h = h
formed-two q kinds.Unrelated (e ∷ []) h = h
formed-two q kinds.Unrelated (e ∷ f ∷ []) h = tt
formed-two q kinds.Unrelated (e ∷ f ∷ g ∷ es) h = h
formed-two q kind es h = tt

-- what is looked at of the one expression
pub value-looked : (es : List CsExprTree) (s : State) (look : Value → Option Operand) (x : Operand) → of_value es s look ≡ Some x
    → (e : CsExprTree) × (u : Value) × (es ≡ e ∷ []) × (value_of e s ≡ Some u) × (look u ≡ Some x)
value-looked [] s look x h = cc
value-looked (e ∷ []) s look x h = let r = then-some look (value_of e s) x h in (e, r.0, refl, r.1, r.2)
value-looked (e ∷ f ∷ fs) s look x h = cc
