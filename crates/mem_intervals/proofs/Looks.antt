-- What checks look at in the states of a set, and in its one state.
use Rattle.std.proofs.Common.{◌≡◌, ℕ, arith, sym, subst, ap, ◌∙◌, Bool, false, List, [], ◌∷◌, length, Some}
use Rattle.std.specs.Prelude.{All, IsTrue, slice_index_or}
use Rattle.std.proofs.lemmas.List.Elements.{All-head, All-tail}
use Rattle.c_syntax.specs.declared.alarm.Check.{Check}
use Rattle.c_syntax.specs.declared.alarm.WrongKind.{WrongKind}
use Rattle.c_syntax.specs.declared.alarm.WrongKind.TheVariants as kinds
use Rattle.c_syntax.specs.Operand.{Operand}
use Rattle.block_mem.specs.declared.types.Scalar.{Scalar}
use Rattle.c_values.specs.Looks.{judge_one, Passes, FailsAs}
use Rattle.num_api.specs.declared.message.Range.{Range}
use Rattle.csharp.specs.Trees.{CsExprTree, CsCheckTree, CsProgramTree}
use Rattle.csharp.specs.Trees as code
use Rattle.csharp.specs.Formed.{AreOperandsTyped, HasOperands, FieldsAre}
use Rattle.csharp.specs.States.{State, operand_of}
use Rattle.mem_api.specs.Given.{IsOf}
use Rattle.mem_api.specs.Owned.{IsOwned}
use Rattle.mem_api.specs.Showing.{looked_at}
use Rattle.mem_temps.specs.Ranges.{AreAll, AreInside}
use Rattle.mem_temps.specs.Exprs.{IsRangeOf}
use Rattle.mem_temps.specs.Checks.{IsExactOf}
use Rattle.mem_temps.specs.Sets.{IsSharp, Stands}
use Rattle.mem_temps.specs.Shows.{OperandIn, OperandAlone, OperandsIn, OperandsAlone, PassesOne, PassesTwo}
use Rattle.mem_temps.proofs.Checking.{IsAsked, operand_in, operand_alone}
use Rattle.mem_intervals.proofs.Pairs.{looked, operands_in, operands_alone}
use Rattle.mem_intervals.proofs.Starts.{passed, failed, of_two_kind}

-- ---- lists of one and of two

pub one_item : {X : Type 0} (xs : List X) (x : X) → length xs ≡ 1 → x ≡ slice_index_or xs 0 x → xs ≡ x ∷ []
one_item [] x n e = absurd (omega (arith, n))
one_item (y ∷ []) x n e = ap (λ z. z ∷ []) (sym e)
one_item (y ∷ z ∷ zs) x n e = absurd (omega (arith, n))

pub two_items : {X : Type 0} (xs : List X) (x y : X) → length xs ≡ 2 → x ≡ slice_index_or xs 0 x → y ≡ slice_index_or xs 1 y → xs ≡ x ∷ y ∷ []
two_items [] x y n e f = absurd (omega (arith, n))
two_items (a ∷ []) x y n e f = absurd (omega (arith, n))
two_items (a ∷ b ∷ []) x y n e f = ap (λ z. z ∷ b ∷ []) (sym e) ∙ ap (λ z. x ∷ z ∷ []) (sym f)
two_items (a ∷ b ∷ z ∷ zs) x y n e f = absurd (omega (arith, n))

-- ---- one expression

asked : (q : CsProgramTree) (s : State) (rs : List Range) (all : AreAll rs s) (ins : AreInside q.temps rs) (e : CsExprTree) (typed : AreOperandsTyped q e)
    (value exact : Range) (f : IsRangeOf rs e value) (g : IsExactOf rs e exact) (kind : WrongKind) (check : Check) → HasOperands q kind (e ∷ [])
    → FieldsAre kind (e ∷ []) check → IsAsked q s rs all ins e typed value exact f g kind check
asked q s rs all ins e typed value exact f g kinds.Overflow check h k = k
asked q s rs all ins e typed value exact f g kinds.Quotient check h k = k
asked q s rs all ins e typed value exact f g kinds.ShiftResult check h k = k
asked q s rs all ins e typed value exact f g kinds.DivideByZero check h k = h
asked q s rs all ins e typed value exact f g kinds.ShiftAmount check h k = h
asked q s rs all ins e typed value exact f g kind check h k = tt

module _ (c : CsCheckTree) (e : CsExprTree) (are : c.operands ≡ e ∷ []) (objects : ℕ) (types : List Scalar) (rs : List Range) (value exact : Range)
    (f : IsRangeOf rs e value) (g : IsExactOf rs e exact) where
  pub one_in : (q : CsProgramTree) (s : State) (x : Operand) → length q.objects ≡ objects → Stands objects types rs s → looked_at c s ≡ Some x
      → OperandIn c.check.kind q.objects value exact x
  one_in q s x n h look = operand_in q s (subst (λ (k : ℕ). IsOwned k s.memory) (sym n) h.owned) rs h.temps e value exact f g c.check.kind c.ty x
      (subst (λ (es : List CsExprTree). operand_of c.check.kind c.ty es s ≡ Some x) are look)

  pub one_alone : (q : CsProgramTree) → q.temps ≡ types → IsOf q (code.Checked c) → (s : State) (x : Operand) → IsSharp objects types rs s → looked_at c s ≡ Some x
      → OperandAlone c.check.kind value exact x
  one_alone q t given s x h look =
      let ins = subst (λ (ts : List Scalar). AreInside ts rs) (sym t) h.inside in
      let typed = All-head (AreOperandsTyped q) e [] (subst (All (AreOperandsTyped q)) are given.typed.0) in
      let has = subst (HasOperands q c.check.kind) are given.check.0 in
      let fields = subst (λ (es : List CsExprTree). FieldsAre c.check.kind es c.check) are given.check.2 in
      operand_alone q s rs h.all ins e typed value exact f g c.check.kind c.check c.ty x
      (asked q s rs h.all ins e typed value exact f g c.check.kind c.check has fields)
      (subst (λ (es : List CsExprTree). operand_of c.check.kind c.ty es s ≡ Some x) are look)

  pub one_stays : (live : Bool) → PassesOne c.check.kind c.check value exact live → (q : CsProgramTree) (s : State) → length q.objects ≡ objects
      → Stands objects types rs s → judge_one q.objects c.check (looked_at c s) Passes ≡ Passes → IsTrue live
  one_stays live k q s n h judged =
      let x = passed q.objects c.check (looked_at c s) judged in k.stays q.objects x.0 (one_in q s x.0 n h x.1) x.2

  pub one_dead : (live : Bool) → PassesOne c.check.kind c.check value exact live → (p : CsProgramTree) → p.temps ≡ types → IsOf p (code.Checked c)
      → (q : CsProgramTree) (s : State) (kind : WrongKind) (y : Operand) → IsSharp objects types rs s
      → judge_one q.objects c.check (looked_at c s) Passes ≡ FailsAs kind y → live ≡ false
  one_dead live k p t given q s kind y h judged =
      let x = failed q.objects c.check (looked_at c s) kind y judged in k.dead q.objects x.0 (one_alone p t given s x.0 h x.1) x.2

-- ---- two pointers

module _ (c : CsCheckTree) (e f : CsExprTree) (are : c.operands ≡ e ∷ f ∷ []) (objects : ℕ) (types : List Scalar) (rs : List Range) (left right : Range)
    (g : IsRangeOf rs e left) (h : IsRangeOf rs f right) where
  pub two_in : (q : CsProgramTree) (s : State) (x : Operand) → length q.objects ≡ objects → Stands objects types rs s → looked_at c s ≡ Some x
      → OperandsIn q.objects left right x
  two_in q s x n k look = operands_in q s rs e f left right x (subst (λ (m : ℕ). IsOwned m s.memory) (sym n) k.owned) k.temps g h
      (looked s e f x c.check.kind c.ty (subst (λ (es : List CsExprTree). operand_of c.check.kind c.ty es s ≡ Some x) are look))

  pub two_alone : (q : CsProgramTree) → q.temps ≡ types → IsOf q (code.Checked c) → (s : State) (x : Operand) → IsSharp objects types rs s → looked_at c s ≡ Some x
      → OperandsAlone left right x
  two_alone q t given s x k look =
      let ins = subst (λ (ts : List Scalar). AreInside ts rs) (sym t) k.inside in
      let typed = subst (All (AreOperandsTyped q)) are given.typed.0 in
      operands_alone q s rs e f left right x (All-head (AreOperandsTyped q) e (f ∷ []) typed)
      (All-head (AreOperandsTyped q) f [] (All-tail (AreOperandsTyped q) e (f ∷ []) typed)) ins k.all g h
      (looked s e f x c.check.kind c.ty (subst (λ (es : List CsExprTree). operand_of c.check.kind c.ty es s ≡ Some x) are look))

  pub two_stays : (live : Bool) → PassesTwo c.check.kind c.check left right live → (q : CsProgramTree) (s : State) → length q.objects ≡ objects
      → Stands objects types rs s → judge_one q.objects c.check (looked_at c s) Passes ≡ Passes → IsTrue live
  two_stays live k q s n w judged =
      let x = passed q.objects c.check (looked_at c s) judged in k.stays q.objects x.0 (two_in q s x.0 n w x.1) x.2

  pub two_dead : (live : Bool) → PassesTwo c.check.kind c.check left right live → (p : CsProgramTree) → p.temps ≡ types → IsOf p (code.Checked c)
      → (q : CsProgramTree) (s : State) (kind : WrongKind) (y : Operand) → IsSharp objects types rs s
      → judge_one q.objects c.check (looked_at c s) Passes ≡ FailsAs kind y → live ≡ false
  two_dead live k p t given q s kind y w judged =
      let x = failed q.objects c.check (looked_at c s) kind y judged in
      k.dead q.objects x.0 (of_two_kind p c.check.kind e f (subst (HasOperands p c.check.kind) are given.check.0)) (two_alone p t given s x.0 w x.1) x.2
