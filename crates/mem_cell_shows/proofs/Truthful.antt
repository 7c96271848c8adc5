-- Truths of expressions.
use Rattle.std.proofs.Common.{ℤ, pos, ◌≡◌, Bool, true, false, not, List, Option, Some, refl, sym, subst, ◌∙◌}
use Rattle.std.specs.Prelude.{IsTrue, if◌then◌else◌}
use Rattle.std.specs.Ordering.{int_eq}
use Rattle.pointsets.specs.declared.Base.TheVariants.{Null}
use Rattle.pointsets.specs.Targets.{BaseSet, has_base}
use Rattle.block_mem.specs.declared.types.Value.{Value}
use Rattle.block_mem.specs.declared.types.Value.TheVariants as values
use Rattle.c_values.specs.Places.{ObjectMemory}
use Rattle.c_values.specs.Values.{truth}
use Rattle.num_api.specs.Value.{has_truth}
use Rattle.machine_nums.specs.MExprs.{MExprTree}
use Rattle.machine_nums.specs.Machine.{machine_value}
use Rattle.machine_nums.specs.Machines.{Admits}
use Rattle.csharp.specs.Trees.{CsExprTree}
use Rattle.mem_cell_bytes.specs.Cells.{Points}
use Rattle.mem_cell_exprs.specs.Exprs.{IsNumberFor}
use Rattle.mem_cell_exprs.specs.Known.{IsPlaceFor}
use Rattle.mem_cell_exprs.specs.declared.known.Known.{Known}
use Rattle.mem_cell_exprs.proofs.Moves.{numbered-of}
use Rattle.mem_cell_shows.specs.declared.truths.Truths.{Truths}
use Rattle.mem_cell_shows.specs.Addresses.{IsAddress, IsAddressFor}
use Rattle.mem_cell_shows.specs.Checks.{HasTruths, may_have}

by-test : (b x y : Bool) → (IsTrue (not b) → IsTrue x) → (IsTrue b → IsTrue y) → IsTrue (if not b then x else y)
by-test true x y f g = g refl
by-test false x y f g = f refl

-- an integer is true where it is not 0
pub number-truth : (found : Truths) (n : ℤ) → (IsTrue (has_truth true n) → IsTrue found.yes) → (IsTrue (has_truth false n) → IsTrue found.no)
    → IsTrue (if not (int_eq n (pos 0)) then found.yes else found.no)
number-truth found n f g = by-test (int_eq n (pos 0)) found.yes found.no f g

pub pointer-truth : (m : ObjectMemory) (set : BaseSet) (u : Value) (found : Truths) → IsTrue found.yes → found.no ≡ has_base set Null → IsAddress u → Points m set u
    → IsTrue (may_have found (truth u))
pointer-truth m set (values.Int i n) found t f a p = absurd a
pointer-truth m set (values.Ptr q) found t f a p = t
pointer-truth m set values.Null found t f a p = f ∙ p

module _ {D : Type 0} (admits : D → List ℤ → Type 0) (k : Known D) where
  -- the truths that tests find
  pub number-truths : (e : CsExprTree) (m : MExprTree) (found : Truths) → IsNumberFor k.types e m
      → ((v : List ℤ) (n : ℤ) → Admits admits k.nums v → machine_value v m ≡ Some n → IsTrue (has_truth true n) → IsTrue found.yes)
      → ((v : List ℤ) (n : ℤ) → Admits admits k.nums v → machine_value v m ≡ Some n → IsTrue (has_truth false n) → IsTrue found.no) → HasTruths admits k e found
  number-truths e m found number t f objects s u st is =
      let b = number st.v s (numbered-of admits k objects s st) u is in
      subst (λ x. IsTrue (may_have found (truth x))) (sym b.1) (number-truth found b.0 (t st.v b.0 st.admitted b.2) (f st.v b.0 st.admitted b.2))

  pub pointer-truths : (e : CsExprTree) (set : BaseSet) (found : Truths) → (offset : Option MExprTree) → IsAddressFor k.types e → IsPlaceFor admits k e set offset
      → IsTrue found.yes → found.no ≡ has_base set Null → HasTruths admits k e found
  pointer-truths e set found offset address place t f objects s u st is =
      pointer-truth s.memory set u found t f (address st.v s u (numbered-of admits k objects s st) is) (place objects s st u is).0

  pub both-truths : (e : CsExprTree) (found : Truths) → IsTrue found.yes → IsTrue found.no → HasTruths admits k e found
  both-truths e found t f objects s u st is = by (truth u) where
    by : (b : Bool) → IsTrue (may_have found b)
    by true = t
    by false = f
