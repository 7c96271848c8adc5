-- What checks look at, and what is shown of it.
use Rattle.std.proofs.Common.{◌≡◌, ◌≤ℤ◌, ℤ, pos, arith, refl, sym, subst, ap, ◌∙◌, Bool, true, false, List, [], ◌∷◌, length, Option, Some, None}
use Rattle.std.specs.Prelude.{IsTrue, not, if◌then◌else◌, option_map, option_and_then}
use Rattle.std.specs.Ordering.{int_eq}
use Rattle.std.proofs.lemmas.Int.{ints}
use Rattle.c_syntax_written.specs.declared.int_type.IntType.{IntType}
use Rattle.c_syntax_written.specs.declared.int_type.IntType.TheVariants as types
use Rattle.c_syntax.specs.declared.alarm.Check.{Check}
use Rattle.c_syntax.specs.declared.alarm.Spot.{Spot}
use Rattle.c_syntax.specs.declared.alarm.Spot.TheVariants as spots
use Rattle.c_syntax.specs.declared.alarm.WrongKind.{WrongKind}
use Rattle.c_syntax.specs.declared.alarm.WrongKind.TheVariants as kinds
use Rattle.c_syntax.specs.Operand.{Operand, Number, Point, Points, Mark, End, LoadMark}
use Rattle.block_mem.specs.declared.types.Pointer as pointers
use Rattle.block_mem.specs.declared.types.Scalar.{Scalar}
use Rattle.block_mem.specs.declared.types.Scalar.TheVariants as scalars
use Rattle.block_mem.specs.declared.types.Value.{Value}
use Rattle.block_mem.specs.declared.types.Value.TheVariants as values
use Rattle.block_mem.specs.Blocks.{block_at, bytes_at}
use Rattle.block_mem.specs.Bytes.{mark_of, size_of}
use Rattle.c_values.specs.Places.{spot, point, spot_at, owner_of}
use Rattle.c_values.specs.Operators.{number}
use Rattle.c_values.specs.Accesses.{mark, test_operand}
use Rattle.num_api.specs.declared.message.Range.{Range}
use Rattle.ext_int.specs.declared.Ext.{Ext}
use Rattle.ext_int.specs.declared.Ext.TheVariants.{Fin}
use Rattle.ext_int.specs.Ext.{Below, Above, AtMost}
use Rattle.num_api.specs.Ranges.{InRange, IsPoint, NoWider}
use Rattle.num_api.specs.Spans.{Span, range_of}
use Rattle.num_api.specs.Plain.{excludes}
use Rattle.num_api.specs.Value.{truth, has_truth}
use Rattle.machine_nums.proofs.Wrapped.{inside_has, point_holds}
use Rattle.csharp.specs.Trees.{CsExprTree, CsProgramTree}
use Rattle.csharp.specs.Formed.{AreOperandsTyped, IsNumber, HasType, result_check}
use Rattle.csharp.specs.States.{State, value_of, exact_of, end_of, operand_of}
use Rattle.mem_api.specs.Owned.{IsOwned}
use Rattle.mem_api.proofs.Anything.{exact_is_number, owner_there}
use Rattle.mem_temps.specs.Values.{number_of, IsNoObject}
use Rattle.mem_temps.specs.Ranges.{AreIn, AreAll, AreInside}
use Rattle.mem_temps.specs.Exprs.{IsRangeOf}
use Rattle.mem_temps.specs.Checks.{IsSmall, IsExactOf}
use Rattle.mem_temps.specs.Shows.{IsNumberIn, IsNumberAlone, IsSpotOf, end_by, truth_of, IsTruth, OperandIn, OperandAlone}
use Rattle.mem_temps.proofs.Bounds.{size_of_number}
use Rattle.mem_temps.proofs.Ranged.{and_then_some}
use Rattle.mem_temps.proofs.Exacted.{small_from}

-- ---- truths

module _ (r found : Range) (may_fail may_hold : Bool) (low : found.lo ≡ Fin (truth (not may_fail))) (high : found.hi ≡ Fin (truth may_hold))
    (fails : (n : ℤ) → InRange r n → IsTrue (has_truth false n) → IsTrue may_fail) (holds : (n : ℤ) → InRange r n → IsTrue (has_truth true n) → IsTrue may_hold)
    (never_fails : (n : ℤ) → IsPoint r n → has_truth false n ≡ false → may_fail ≡ false)
    (never_holds : (n : ℤ) → IsPoint r n → has_truth true n ≡ false → may_hold ≡ false) where
  ends_at : (m : ℤ) → truth (not may_fail) ≤ℤ m → m ≤ℤ truth may_hold → InRange found m
  ends_at m h k = record { low = subst (λ (e : Ext). Below e m) (sym low) h; high = subst (λ (e : Ext). Above e m) (sym high) k }

  bounds : (a b : Bool) → (truth (not a) ≤ℤ pos 1) × (pos 0 ≤ℤ truth b)
  bounds true true = (omega (arith, ints), omega (arith, ints))
  bounds true false = (omega (arith, ints), omega (arith, ints))
  bounds false true = (omega (arith, ints), omega (arith, ints))
  bounds false false = (omega (arith, ints), omega (arith, ints))

  held : (n : ℤ) (zero : Bool) → int_eq n (pos 0) ≡ zero → InRange r n → InRange found (truth (not zero))
  held n true e i =
      let f = fails n i e in let lo : truth (not may_fail) ≡ pos 0 = ap (λ b. truth (not b)) f in let b = bounds may_fail may_hold in
      ends_at (pos 0) (omega (arith, ints, lo)) b.1
  held n false e i =
      let h = holds n i (ap not e) in let hi : truth may_hold ≡ pos 1 = ap truth h in let b = bounds may_fail may_hold in
      ends_at (pos 1) b.0 (omega (arith, ints, hi))

  only : (n : ℤ) (zero : Bool) → int_eq n (pos 0) ≡ zero → IsPoint r n → IsPoint found (truth (not zero))
  only n true e p =
      let f = fails n (point_holds r n p) e in let h = never_holds n p (ap not e) in
      record { low = low ∙ ap (λ b. Fin (truth (not b))) f; high = high ∙ ap (λ b. Fin (truth b)) h }
  only n false e p =
      let f = never_fails n p e in let h = holds n (point_holds r n p) (ap not e) in
      record { low = low ∙ ap (λ b. Fin (truth (not b))) f; high = high ∙ ap (λ b. Fin (truth b)) h }

  pub truths : ((s : Span) → NoWider r (range_of s) → IsTrue (excludes false s) → may_fail ≡ false) → IsTruth r found
  truths plain = record {
    holds = λ n i. held n (int_eq n (pos 0)) refl i;
    point = λ n p. only n (int_eq n (pos 0)) refl p;
    plain = λ s under out. subst (λ (e : Ext). AtMost (Fin (pos 1)) e) (sym (low ∙ ap (λ b. Fin (truth (not b))) (plain s under out))) (omega (arith, ints));
  }

pub truth_small : (b : Bool) → IsSmall (truth b)
truth_small true = (omega (arith, ints), omega (arith, ints))
truth_small false = (omega (arith, ints), omega (arith, ints))

-- ---- pointers

module _ (q : CsProgramTree) (s : State) (owned : IsOwned (length q.objects) s.memory) where
  by_life : (r : Range) (p : pointers.Pointer) (live : Bool) → (block_at s.memory.blocks p.block).live ≡ live → InRange r (pos 1)
      → IsSpotOf q.objects r (if live then spots.At (owner_of s.memory p.block) p.offset else spots.Dead)
  by_life r p true live j = (owner_there q.objects s.memory owned p.block live, j)
  by_life r p false live j = j

  pub spot_in : (r : Range) (v : Value) (t : Spot) → InRange r (number_of v) → spot s.memory v ≡ Some t → IsSpotOf q.objects r t
  spot_in r (values.Int ty n) t j h = absurd (cc)
  spot_in r (values.Ptr p) t j h = let same : spot_at s.memory p ≡ t = cc in
      subst (IsSpotOf q.objects r) same (by_life r p (block_at s.memory.blocks p.block).live refl j)
  spot_in r values.Null t j h = let same : spots.Null ≡ t = cc in subst (IsSpotOf q.objects r) same j

-- ---- one expression

the_operand : (P : Operand → Type 0) (x y : Operand) → Some x ≡ Some y → P x → P y
the_operand P x y e p = let same : x ≡ y = cc in subst P same p

module _ (q : CsProgramTree) (s : State) (owned : IsOwned (length q.objects) s.memory) (rs : List Range) (i : AreIn rs s) (e : CsExprTree) (value exact : Range)
    (f : IsRangeOf rs e value) (g : IsExactOf rs e exact) where
  number_in : (v : Value) (x : Operand) → InRange value (number_of v) → number v ≡ Some x → IsNumberIn value x
  number_in (values.Int t n) x j h = the_operand (IsNumberIn value) (Number n) x h j
  number_in (values.Ptr p) x j h = absurd (cc)
  number_in values.Null x j h = absurd (cc)

  value_in : (x : Operand) → option_and_then number (value_of e s) ≡ Some x → IsNumberIn value x
  value_in x h = let v = and_then_some number (value_of e s) x h in number_in v.0 x (f.holds s v.0 i v.1) v.2

  exact_in : (x : Operand) → exact_of e s ≡ Some x → IsNumberIn exact x
  exact_in (Number n) h = g.holds s n i h
  exact_in (Point t) h = absurd (exact_is_number e s (Point t) h)
  exact_in (Points t u) h = absurd (exact_is_number e s (Points t u) h)
  exact_in (Mark m) h = absurd (exact_is_number e s (Mark m) h)
  exact_in (End c) h = absurd (exact_is_number e s (End c) h)

  truth_in : (v : Value) (x : Operand) → InRange value (number_of v) → test_operand s.memory v kinds.AssertFailed ≡ Some x
      → (n : ℤ) × InRange value n × (x ≡ Number (truth_of n))
  truth_in (values.Int t n) x j h = (n, j, (let same : Number (truth_of n) ≡ x = cc in sym same))
  truth_in (values.Ptr p) x j h = (pos 1, j, (let same : Number (pos 1) ≡ x = cc in sym same))
  truth_in values.Null x j h = (pos 0, j, (let same : Number (pos 0) ≡ x = cc in sym same))

  end_in : (v : Value) (x : Operand) → InRange value (number_of v) → end_of v ≡ Some x → (n : ℤ) × InRange value n × (x ≡ end_by n)
  end_in (values.Int t n) x j h = (n, j, (let same : end_by n ≡ x = cc in sym same))
  end_in (values.Ptr p) x j h = absurd (cc)
  end_in values.Null x j h = absurd (cc)

  mark_in : (ty : Option Scalar) (v : Value) (x : Operand) → mark s.memory ty v ≡ Some x → (m : LoadMark) × (x ≡ Mark m)
  mark_in (Some ty) (values.Ptr p) x h = (mark_of ty (bytes_at s.memory.blocks p (size_of ty)), (let same : Mark (mark_of ty (bytes_at s.memory.blocks p (size_of ty))) ≡ x = cc in sym same))
  mark_in (Some ty) (values.Int t n) x h = absurd (cc)
  mark_in (Some ty) values.Null x h = absurd (cc)
  mark_in None v x h = absurd (cc)

  point_in : (r : Range) (v : Value) (x : Operand) → InRange r (number_of v) → point s.memory v ≡ Some x → (t : Spot) × (x ≡ Point t) × IsSpotOf q.objects r t
  point_in r v x j h = found (spot s.memory v) refl h where
    found : (o : Option Spot) → spot s.memory v ≡ o → option_map Point o ≡ Some x → (t : Spot) × (x ≡ Point t) × IsSpotOf q.objects r t
    found None is h = absurd (cc)
    found (Some t) is h = (t, (let same : Point t ≡ x = cc in sym same), spot_in q s owned r v t j is)

  pointed_in : (x : Operand) → option_and_then (point s.memory) (value_of e s) ≡ Some x → (t : Spot) × (x ≡ Point t) × IsSpotOf q.objects value t
  pointed_in x h = let v = and_then_some (point s.memory) (value_of e s) x h in point_in value v.0 x (f.holds s v.0 i v.1) v.2

  pub operand_in : (kind : WrongKind) (ty : Option Scalar) (x : Operand) → operand_of kind ty (e ∷ []) s ≡ Some x → OperandIn kind q.objects value exact x
  operand_in kinds.Overflow ty x h = exact_in x h
  operand_in kinds.Quotient ty x h = exact_in x h
  operand_in kinds.ShiftResult ty x h = exact_in x h
  operand_in kinds.DivideByZero ty x h = value_in x h
  operand_in kinds.ShiftAmount ty x h = value_in x h
  operand_in kinds.AssertFailed ty x h =
      let v = and_then_some (λ v. test_operand s.memory v kinds.AssertFailed) (value_of e s) x h in truth_in v.0 x (f.holds s v.0 i v.1) v.2
  operand_in kinds.NoValue ty x h = let v = and_then_some end_of (value_of e s) x h in end_in v.0 x (f.holds s v.0 i v.1) v.2
  operand_in kinds.Indeterminate ty x h = let v = and_then_some (mark s.memory ty) (value_of e s) x h in mark_in ty v.0 x v.2
  operand_in kinds.Fragment ty x h = let v = and_then_some (mark s.memory ty) (value_of e s) x h in mark_in ty v.0 x v.2
  operand_in kinds.NullUse ty x h = pointed_in x h
  operand_in kinds.Dangling ty x h = pointed_in x h
  operand_in kinds.Bounds ty x h = pointed_in x h
  operand_in kinds.Access ty x h = pointed_in x h
  operand_in kinds.Alignment ty x h = pointed_in x h
  operand_in kinds.ReadOnly ty x h = pointed_in x h
  operand_in kinds.Unrelated ty x h = pointed_in x h

-- ---- the one state of a sharp set

module _ (q : CsProgramTree) (s : State) (rs : List Range) (all : AreAll rs s) (ins : AreInside q.temps rs) (e : CsExprTree) (typed : AreOperandsTyped q e)
    (value exact : Range) (f : IsRangeOf rs e value) (g : IsExactOf rs e exact) where
  small_number : (t : IntType) (n : ℤ) → HasType q (scalars.Int t) e → IsPoint value n → IsSmall n
  small_number t n h p =
      let has = inside_has t value n (f.inside q t typed ins h) (point_holds value n p) in let size = size_of_number t n has in small_from n (omega arith)

  number_alone : IsNumber q e → (v : Value) (x : Operand) → IsPoint value (number_of v) → number v ≡ Some x → IsNumberAlone value x
  number_alone is (values.Int t n) x p h = the_operand (IsNumberAlone value) (Number n) x h (p, small_number is.0 n is.1 p)
  number_alone is (values.Ptr a) x p h = absurd (cc)
  number_alone is values.Null x p h = absurd (cc)

  value_alone : IsNumber q e → (x : Operand) → option_and_then number (value_of e s) ≡ Some x → IsNumberAlone value x
  value_alone is x h = let v = and_then_some number (value_of e s) x h in number_alone is v.0 x (f.point q s v.0 typed ins all v.1).0 v.2

  exact_alone : (check : Check) → result_check e ≡ Some check → (x : Operand) → exact_of e s ≡ Some x → IsNumberAlone exact x
  exact_alone check c (Number n) h = g.point q check s n typed c ins all h
  exact_alone check c (Point t) h = absurd (exact_is_number e s (Point t) h)
  exact_alone check c (Points t u) h = absurd (exact_is_number e s (Points t u) h)
  exact_alone check c (Mark m) h = absurd (exact_is_number e s (Mark m) h)
  exact_alone check c (End d) h = absurd (exact_is_number e s (End d) h)

  truth_alone : (v : Value) (x : Operand) → IsPoint value (number_of v) → test_operand s.memory v kinds.AssertFailed ≡ Some x
      → (n : ℤ) × IsPoint value n × (x ≡ Number (truth_of n))
  truth_alone (values.Int t n) x j h = (n, j, (let same : Number (truth_of n) ≡ x = cc in sym same))
  truth_alone (values.Ptr p) x j h = (pos 1, j, (let same : Number (pos 1) ≡ x = cc in sym same))
  truth_alone values.Null x j h = (pos 0, j, (let same : Number (pos 0) ≡ x = cc in sym same))

  end_alone : (v : Value) (x : Operand) → IsPoint value (number_of v) → end_of v ≡ Some x → (n : ℤ) × IsPoint value n × (x ≡ end_by n)
  end_alone (values.Int t n) x j h = (n, j, (let same : end_by n ≡ x = cc in sym same))
  end_alone (values.Ptr p) x j h = absurd (cc)
  end_alone values.Null x j h = absurd (cc)

  no_mark : (ty : Option Scalar) (v : Value) (x : Operand) → IsNoObject v → mark s.memory ty v ≡ Some x → ⊥
  no_mark (Some ty) (values.Ptr p) x o h = o
  no_mark (Some ty) (values.Int t n) x o h = absurd (cc)
  no_mark (Some ty) values.Null x o h = absurd (cc)
  no_mark None v x o h = absurd (cc)

  null_alone : (r : Range) (v : Value) (x : Operand) → IsNoObject v → IsPoint r (number_of v) → point s.memory v ≡ Some x → IsPoint r (pos 0) × (x ≡ Point spots.Null)
  null_alone r (values.Int t n) x o p h = absurd (cc)
  null_alone r (values.Ptr a) x o p h = absurd o
  null_alone r values.Null x o p h = (p, (let same : Point spots.Null ≡ x = cc in sym same))

  pointed_alone : (x : Operand) → option_and_then (point s.memory) (value_of e s) ≡ Some x → IsPoint value (pos 0) × (x ≡ Point spots.Null)
  pointed_alone x h =
      let v = and_then_some (point s.memory) (value_of e s) x h in let p = f.point q s v.0 typed ins all v.1 in null_alone value v.0 x p.1 p.0 v.2

  marked_alone : (ty : Option Scalar) (x : Operand) → option_and_then (mark s.memory ty) (value_of e s) ≡ Some x → ⊥
  marked_alone ty x h = let v = and_then_some (mark s.memory ty) (value_of e s) x h in no_mark ty v.0 x (f.point q s v.0 typed ins all v.1).1 v.2

  -- of what a formed check asks
  abbrev pub IsAsked : WrongKind → Check → Type 0
  IsAsked kinds.Overflow check = result_check e ≡ Some check
  IsAsked kinds.Quotient check = result_check e ≡ Some check
  IsAsked kinds.ShiftResult check = result_check e ≡ Some check
  IsAsked kinds.DivideByZero check = IsNumber q e
  IsAsked kinds.ShiftAmount check = IsNumber q e
  IsAsked kind check = Unit {0}

  pub operand_alone : (kind : WrongKind) (check : Check) (ty : Option Scalar) (x : Operand) → IsAsked kind check → operand_of kind ty (e ∷ []) s ≡ Some x
      → OperandAlone kind value exact x
  operand_alone kinds.Overflow check ty x is h = exact_alone check is x h
  operand_alone kinds.Quotient check ty x is h = exact_alone check is x h
  operand_alone kinds.ShiftResult check ty x is h = exact_alone check is x h
  operand_alone kinds.DivideByZero check ty x is h = value_alone is x h
  operand_alone kinds.ShiftAmount check ty x is h = value_alone is x h
  operand_alone kinds.AssertFailed check ty x is h =
      let v = and_then_some (λ v. test_operand s.memory v kinds.AssertFailed) (value_of e s) x h in truth_alone v.0 x (f.point q s v.0 typed ins all v.1).0 v.2
  operand_alone kinds.NoValue check ty x is h = let v = and_then_some end_of (value_of e s) x h in end_alone v.0 x (f.point q s v.0 typed ins all v.1).0 v.2
  operand_alone kinds.Indeterminate check ty x is h = marked_alone ty x h
  operand_alone kinds.Fragment check ty x is h = marked_alone ty x h
  operand_alone kinds.NullUse check ty x is h = pointed_alone x h
  operand_alone kinds.Dangling check ty x is h = pointed_alone x h
  operand_alone kinds.Bounds check ty x is h = pointed_alone x h
  operand_alone kinds.Access check ty x is h = pointed_alone x h
  operand_alone kinds.Alignment check ty x is h = pointed_alone x h
  operand_alone kinds.ReadOnly check ty x is h = pointed_alone x h
  operand_alone kinds.Unrelated check ty x is h = pointed_alone x h
