-- What a check of two pointers looks at.
use Rattle.std.proofs.Common.{◌≡◌, pos, sym, ◌∙◌, List, [], ◌∷◌, length, Option, Some}
use Rattle.std.specs.Prelude.{option_map, option_and_then}
use Rattle.c_syntax.specs.declared.alarm.Spot.{Spot}
use Rattle.c_syntax.specs.declared.alarm.Spot.TheVariants as spots
use Rattle.c_syntax.specs.declared.alarm.WrongKind.{WrongKind}
use Rattle.c_syntax.specs.declared.alarm.WrongKind.TheVariants as kinds
use Rattle.c_syntax.specs.Operand.{Operand, Points}
use Rattle.block_mem.specs.declared.types.Scalar.{Scalar}
use Rattle.block_mem.specs.declared.types.Value.{Value}
use Rattle.block_mem.specs.declared.types.Value.TheVariants as values
use Rattle.c_values.specs.Operators.{pair_operand}
use Rattle.c_values.specs.Places.{spot}
use Rattle.num_api.specs.declared.message.Range.{Range}
use Rattle.num_api.specs.Ranges.{IsPoint}
use Rattle.csharp.specs.Trees.{CsExprTree, CsProgramTree}
use Rattle.csharp.specs.Formed.{AreOperandsTyped}
use Rattle.csharp.specs.States.{State, value_of, operand_of}
use Rattle.mem_api.specs.Owned.{IsOwned}
use Rattle.mem_temps.specs.Values.{number_of, IsNoObject}
use Rattle.mem_temps.specs.Ranges.{AreIn, AreAll, AreInside}
use Rattle.mem_temps.specs.Exprs.{IsRangeOf}
use Rattle.mem_temps.specs.Shows.{OperandsIn, OperandsAlone}
use Rattle.mem_temps.proofs.Checking.{spot_in}
use Rattle.mem_temps.proofs.Ranged.{and_then_some, map_some}

-- the values of both expressions, and where they point
pub record AreLooked (s : State) (e f : CsExprTree) (x : Operand) : Type 0 where
  pub v : Value
  pub u : Value
  pub a : Spot
  pub b : Spot
  pub left : value_of e s ≡ Some v
  pub right : value_of f s ≡ Some u
  pub first : spot s.memory v ≡ Some a
  pub second : spot s.memory u ≡ Some b
  pub is : x ≡ Points a b

module _ (s : State) (e f : CsExprTree) (x : Operand) where
  both : (v u : Value) → value_of e s ≡ Some v → value_of f s ≡ Some u → option_and_then (λ a. option_map (Points a) (spot s.memory u)) (spot s.memory v) ≡ Some x
      → AreLooked s e f x
  both v u i j h =
      let a = and_then_some (λ a. option_map (Points a) (spot s.memory u)) (spot s.memory v) x h in
      let b = map_some (Points a.0) (spot s.memory u) x a.2 in
      record { v = v; u = u; a = a.0; b = b.0; left = i; right = j; first = a.1; second = b.1; is = sym b.2 }

  by_kind : (kind : WrongKind) (v u : Value) → value_of e s ≡ Some v → value_of f s ≡ Some u → pair_operand (spot s.memory v) (spot s.memory u) kind ≡ Some x
      → AreLooked s e f x
  by_kind kinds.NullUse v u i j h = both v u i j h
  by_kind kinds.Dangling v u i j h = both v u i j h
  by_kind kinds.Unrelated v u i j h = both v u i j h
  by_kind kinds.Overflow v u i j h = absurd (cc)
  by_kind kinds.DivideByZero v u i j h = absurd (cc)
  by_kind kinds.Quotient v u i j h = absurd (cc)
  by_kind kinds.ShiftAmount v u i j h = absurd (cc)
  by_kind kinds.ShiftResult v u i j h = absurd (cc)
  by_kind kinds.Indeterminate v u i j h = absurd (cc)
  by_kind kinds.Fragment v u i j h = absurd (cc)
  by_kind kinds.Bounds v u i j h = absurd (cc)
  by_kind kinds.Access v u i j h = absurd (cc)
  by_kind kinds.Alignment v u i j h = absurd (cc)
  by_kind kinds.ReadOnly v u i j h = absurd (cc)
  by_kind kinds.NoValue v u i j h = absurd (cc)
  by_kind kinds.AssertFailed v u i j h = absurd (cc)

  pointed : (kind : WrongKind) → option_and_then (λ v. option_and_then (λ u. pair_operand (spot s.memory v) (spot s.memory u) kind) (value_of f s)) (value_of e s) ≡ Some x
      → AreLooked s e f x
  pointed kind h =
      let v = and_then_some (λ v. option_and_then (λ u. pair_operand (spot s.memory v) (spot s.memory u) kind) (value_of f s)) (value_of e s) x h in
      let u = and_then_some (λ u. pair_operand (spot s.memory v.0) (spot s.memory u) kind) (value_of f s) x v.2 in
      by_kind kind v.0 u.0 v.1 u.1 u.2

  pub looked : (kind : WrongKind) (ty : Option Scalar) → operand_of kind ty (e ∷ f ∷ []) s ≡ Some x → AreLooked s e f x
  looked kinds.Overflow ty h = absurd (cc)
  looked kinds.Quotient ty h = absurd (cc)
  looked kinds.ShiftResult ty h = absurd (cc)
  looked kinds.DivideByZero ty h = absurd (cc)
  looked kinds.ShiftAmount ty h = absurd (cc)
  looked kinds.AssertFailed ty h = absurd (cc)
  looked kinds.NoValue ty h = absurd (cc)
  looked kinds.Indeterminate ty h = absurd (cc)
  looked kinds.Fragment ty h = absurd (cc)
  looked kinds.NullUse ty h = pointed kinds.NullUse h
  looked kinds.Dangling ty h = pointed kinds.Dangling h
  looked kinds.Bounds ty h = pointed kinds.Bounds h
  looked kinds.Access ty h = pointed kinds.Access h
  looked kinds.Alignment ty h = pointed kinds.Alignment h
  looked kinds.ReadOnly ty h = pointed kinds.ReadOnly h
  looked kinds.Unrelated ty h = pointed kinds.Unrelated h

pub operands_in : (q : CsProgramTree) (s : State) (rs : List Range) (e f : CsExprTree) (left right : Range) (x : Operand) → IsOwned (length q.objects) s.memory
    → AreIn rs s → IsRangeOf rs e left → IsRangeOf rs f right → AreLooked s e f x → OperandsIn q.objects left right x
operands_in q s rs e f left right x owned i g h k =
    (k.a, k.b, k.is, spot_in q s owned left k.v k.a (g.holds s k.v i k.left) k.first, spot_in q s owned right k.u k.b (h.holds s k.u i k.right) k.second)

-- where no value is a pointer to an object, both are null
null_spot : (s : State) (r : Range) (v : Value) (a : Spot) → IsNoObject v → IsPoint r (number_of v) → spot s.memory v ≡ Some a → IsPoint r (pos 0) × (a ≡ spots.Null)
null_spot s r (values.Int t n) a o p h = absurd (cc)
null_spot s r (values.Ptr at) a o p h = absurd o
null_spot s r values.Null a o p h = (p, (let same : spots.Null ≡ a = cc in sym same))

pub operands_alone : (q : CsProgramTree) (s : State) (rs : List Range) (e f : CsExprTree) (left right : Range) (x : Operand) → AreOperandsTyped q e
    → AreOperandsTyped q f → AreInside q.temps rs → AreAll rs s → IsRangeOf rs e left → IsRangeOf rs f right → AreLooked s e f x → OperandsAlone left right x
operands_alone q s rs e f left right x te tf ins all g h k =
    let p = g.point q s k.v te ins all k.left in let r = h.point q s k.u tf ins all k.right in
    let a = null_spot s left k.v k.a p.1 p.0 k.first in let b = null_spot s right k.u k.b r.1 r.0 k.second in
    (a.0, b.0, k.is ∙ same k.a k.b a.1 b.1)
  where
    same : (a b : Spot) → a ≡ spots.Null → b ≡ spots.Null → Points a b ≡ Points spots.Null spots.Null
    same a b i j = cc
