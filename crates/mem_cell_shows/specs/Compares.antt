-- What comparisons say of pointers.
use Rattle.std.specs.Prelude.{ℕ, ℤ, ◌≡◌, Bool, true, false, List, Option, Some}
use Rattle.c_syntax.specs.declared.operator.Comparison.{Comparison}
use Rattle.c_syntax.specs.declared.operator.Comparison.TheVariants as comparisons
use Rattle.c_syntax.specs.declared.operator.TBinaryOp.TheVariants as binaries
use Rattle.pointsets.specs.declared.Base.{Base}
use Rattle.pointsets.specs.declared.Base.TheVariants.{Object}
use Rattle.pointsets.specs.Targets.{BaseSet, has_base}
use Rattle.block_mem.specs.declared.types.Value.{Value}
use Rattle.block_mem.specs.declared.types.Value.TheVariants as values
use Rattle.c_values.specs.Numbers.{compares}
use Rattle.c_values.specs.Values.{truth}
use Rattle.machine_nums.specs.MExprs.{MExprTree}
use Rattle.csharp.specs.Trees.{Binary, CsExprTree}
use Rattle.csharp.specs.States.{State, value_of}
use Rattle.mem_cell_bytes.specs.Cells.{Points, number_of}
use Rattle.mem_cell_exprs.specs.Known.{HasOffset}
use Rattle.mem_cell_shows.specs.Addresses.{IsAddress}
use Rattle.mem_cell_shows.specs.Changes.{base_of}
use Rattle.mem_cell_shows.specs.declared.compares.Relation.{Relation}
use Rattle.mem_cell_shows.specs.declared.compares.Relation.TheVariants as relations

abbrev pub relation_of : Comparison → Bool → Relation
relation_of comparisons.Equal true = relations.Same
relation_of comparisons.Equal false = relations.Apart
relation_of comparisons.Unequal true = relations.Apart
relation_of comparisons.Unequal false = relations.Same
relation_of c b = relations.Ordered

-- each set has this object alone, if it has anything
pub record HaveOneObject (set other : BaseSet) : Type 0 where
  pub object : ℕ
  pub first : (b : Base) → has_base set b ≡ true → b ≡ Object object
  pub second : (b : Base) → has_base other b ≡ true → b ≡ Object object

-- the comparison of two expressions has this truth
abbrev pub IsCompared : Comparison → CsExprTree → CsExprTree → Bool → State → Type 0
IsCompared c e f b s = (u : Value) × (value_of (Binary (binaries.ComparePointers c) e f) s ≡ Some u) × (truth u ≡ b)

-- ---- two pointers of two sets

pub record ArePlaced (e f : CsExprTree) (set other : BaseSet) (s : State) : Type 0 where
  pub left : Value
  pub right : Value
  pub first : value_of e s ≡ Some left
  pub second : value_of f s ≡ Some right
  pub from : Points s.memory set left
  pub to : Points s.memory other right
  pub starts : IsAddress left
  pub ends : IsAddress right

-- into one block, or both null
abbrev pub AreSame : CsExprTree → CsExprTree → BaseSet → BaseSet → State → Type 0
AreSame e f set other s = (h : ArePlaced e f set other s) × (base_of s.memory h.left ≡ base_of s.memory h.right)

-- not both null
abbrev pub AreApart : CsExprTree → CsExprTree → BaseSet → BaseSet → State → Type 0
AreApart e f set other s = (h : ArePlaced e f set other s) × (h.left ≡ values.Null → h.right ≡ values.Null → ⊥)

abbrev pub AreRelated : Relation → CsExprTree → CsExprTree → BaseSet → BaseSet → State → Type 0
AreRelated relations.Same e f set other s = AreSame e f set other s
AreRelated relations.Apart e f set other s = AreApart e f set other s
AreRelated relations.Ordered e f set other s = Unit {0}

-- numbers that are the offsets of two pointers compare so
abbrev pub AreOrdered : Comparison → Option MExprTree → Option MExprTree → Bool → List ℤ → Type 0
AreOrdered c a b truth v = (x y : Value) × HasOffset v a x × HasOffset v b y × (compares c (number_of x) (number_of y) ≡ truth)
