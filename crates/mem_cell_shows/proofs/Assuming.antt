-- Conditions that have a truth.
use Rattle.std.proofs.Common.{ℤ, pos, ◌≡◌, ◌≢◌, Bool, true, false, not, List, Some, refl, sym, ap, ◌∙◌}
use Rattle.std.specs.Prelude.{IsTrue, if◌then◌else◌}
use Rattle.std.specs.Ordering.{int_eq}
use Rattle.c_syntax.specs.declared.operator.TUnaryOp.TheVariants as unaries
use Rattle.pointsets.specs.declared.Base.{Base}
use Rattle.pointsets.specs.declared.Base.TheVariants.{Null}
use Rattle.pointsets.specs.Targets.{BaseSet, has_base}
use Rattle.block_mem.specs.declared.types.Scalar.{Scalar}
use Rattle.block_mem.specs.declared.types.Value.{Value}
use Rattle.block_mem.specs.declared.types.Value.TheVariants as values
use Rattle.c_values.specs.Operators.{unary_result}
use Rattle.c_values.specs.Places.{ObjectMemory}
use Rattle.c_values.specs.Values.{bit, truth}
use Rattle.num_api.specs.Value.{has_truth}
use Rattle.machine_nums.specs.MExprs.{MExprTree, type_of}
use Rattle.machine_nums.specs.Machine.{machine_value}
use Rattle.csharp.specs.Trees.{CsExprTree, Unary}
use Rattle.csharp.specs.States.{State, value_of}
use Rattle.mem_cell_bytes.specs.Cells.{Points}
use Rattle.mem_cell_exprs.specs.Exprs.{AreNumbered, IsNumberFor}
use Rattle.mem_cell_exprs.proofs.Options.{then-some}
use Rattle.mem_cell_shows.specs.Addresses.{IsAddress}
use Rattle.mem_cell_shows.specs.Changes.{HasTruth, base_of}
use Rattle.mem_cell_shows.proofs.Keeping.{base-points, null-base, points-base}

-- an integer
integer-truth : (b t : Bool) → not b ≡ t → IsTrue (if t then not b else b)
integer-truth true true h = cc
integer-truth true false h = refl
integer-truth false true h = refl
integer-truth false false h = cc

pub number-has : (types : List Scalar) (e : CsExprTree) (m : MExprTree) (t : Bool) (v : List ℤ) (s : State) → IsNumberFor types e m → AreNumbered types v s → HasTruth e t s
    → (n : ℤ) × (machine_value v m ≡ Some n) × IsTrue (has_truth t n)
number-has types e m t v s number are h =
    let b = number v s are h.0 h.1 in
    let is : truth (values.Int (type_of m) b.0) ≡ t = ap truth (sym b.1) ∙ h.2 in
    (b.0, b.2, integer-truth (int_eq b.0 (pos 0)) t is)

-- a pointer
null-false : (u : Value) (t : Bool) → truth u ≡ t → t ≡ true → u ≡ values.Null → ⊥
null-false u t is one null = let k : truth values.Null ≡ true = ap truth (sym null) ∙ is ∙ one in cc

false-null : (u : Value) (t : Bool) → IsAddress u → truth u ≡ t → t ≡ false → u ≡ values.Null
false-null (values.Int i n) t address is none = absurd address
false-null (values.Ptr p) t address is none = let k : true ≡ false = is ∙ none in cc
false-null values.Null t address is none = refl

some-base : (b c : Base) → Some b ≡ Some c → b ≡ c
some-base b c h = cc

pub pointer-left : (m : ObjectMemory) (set left : BaseSet) (u : Value) (t : Bool) → IsAddress u → Points m set u → truth u ≡ t
    → ((b : Base) → has_base set b ≡ true → (t ≡ true → b ≢ Null) → (t ≡ false → b ≡ Null) → has_base left b ≡ true) → Points m left u
pointer-left m set left u t address points is cut = base-points m left u (λ b k. cut b (points-base m set u b points k)
    (λ one e. null-false u t is one (null-base m u (k ∙ ap Some e)))
    (λ none. some-base b Null (sym k ∙ ap (base_of m) (false-null u t address is none))))

-- a negation
not-bit : (b : Bool) → truth (bit (not b)) ≡ not b
not-bit true = refl
not-bit false = refl

turned : (b t : Bool) → not b ≡ t → b ≡ not t
turned true true h = cc
turned true false h = refl
turned false true h = refl
turned false false h = cc

pub not-has : (e : CsExprTree) (t : Bool) (s : State) → HasTruth (Unary unaries.Not e) t s → HasTruth e (not t) s
not-has e t s h =
    let r = then-some (unary_result unaries.Not) (value_of e s) h.0 h.1 in
    let is : bit (not (truth r.0)) ≡ h.0 = some-same (bit (not (truth r.0))) h.0 r.2 in
    (r.0, r.1, turned (truth r.0) t (sym (not-bit (truth r.0)) ∙ ap truth is ∙ h.2)) where
      some-same : (x y : Value) → Some x ≡ Some y → x ≡ y
      some-same x y k = cc
