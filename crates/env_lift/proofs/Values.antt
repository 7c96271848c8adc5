-- What is so of the value of each form of an expression, from what is so of its parts.
use Rattle.std.proofs.Common.{ℕ, ℤ, List, pos, ◌≡◌, ◌⊎◌, ⊎_elim, Some, refl, sym, subst, Bool, false}
use Rattle.std.specs.Prelude.{IsTrue}
use Rattle.std.specs.Int.RustNames.{FitsSigned}
use mir.Syntax.{w128}
use Rattle.ext_int.specs.Valuation.{value_at}
use Rattle.num_api.specs.declared.message.Range.{Range}
use Rattle.num_api.specs.declared.message.Residue.{Residue}
use Rattle.num_api.specs.declared.expr.NOp.{NOp}
use Rattle.num_api.specs.declared.expr.NOp.TheVariants.{Quot, Mul, Add}
use Rattle.num_api.specs.Exprs.{NExprTree, Const, Read, Unary, Binary}
use Rattle.num_api.specs.Value.{value_of, unary_value, binary_value}
use Rattle.num_api.specs.Ranges.{InRange, IsPoint, NoWider, holds_some}
use Rattle.num_api.specs.Residues.{class_of, IsMultiple, IsFoldResidue}
use Rattle.num_api.specs.Spans.{Span, point, range_of, FitsSpan, unary_span, binary_span, IsNotByZero, may_equal}
use Rattle.num_api.specs.Plain.{plain}
use Rattle.num_api.specs.Fold.{IsFold, IsAlignment}
use Rattle.num_api.proofs.Multiples.{zero_multiple}
use Rattle.env_lift.specs.declared.entries.Entry.{Entry}
use Rattle.env_lift.specs.States.{AllAdmit, known_in}
use Rattle.env_lift.specs.Evaluation.{IsValue, IsNoValue}
use Rattle.num_api.proofs.Parts.{some_and, of_one-some, of_two-some, fits, whole_range, wider, inside, still_point, only_number, in_point, is_point, by_zero, may_be_zero, IsFactor, fold_const, fold_read, fold_unary, fold_binary}

folded : (c n : ℤ) (cl : Residue) → cl ≡ class_of n (pos 0) → IsMultiple c n → IsFoldResidue c cl
folded c n cl e m = subst (IsFoldResidue c) (sym e) (record { rem = m; modulus = zero_multiple c })

module _ {V : Type 0} (A : V → ℤ → Type 0) (K : V → Range) (C : V → Residue) (exact folds : Bool) (some : (a : V) → IsTrue exact → IsTrue (holds_some (K a))) (state : List (Entry V)) where
  -- ---- constants

  pub const_value : (n : ℤ) (r : V) → ((m : ℤ) → InRange (range_of (point n)) m → A r m) → (IsTrue exact → NoWider (K r) (range_of (point n))) → ((m : ℤ) → IsTrue folds → IsPoint (range_of (point n)) m → C r ≡ class_of m (pos 0)) → IsValue A K C exact folds state (Const n) r
  const_value n r holds within class = record {
    holds = λ v m p e. let same : n ≡ m = cc in holds m (in_point n m same);
    point = λ v m x p k f e. let same : n ≡ m = cc in still_point (K r) (range_of (point n)) m (some r x) (within x) (subst (IsPoint (range_of (point n))) same (is_point n));
    plain = λ given s x u p e. let same : point n ≡ s = cc in subst (λ (t : Span). NoWider (K r) (range_of t)) same (within x);
    read = λ x e. absurd (cc);
    zero = λ x e. absurd (cc);
    constant = λ m f e. let same : n ≡ m = cc in class m f (subst (IsPoint (range_of (point n))) same (is_point n));
    fold = λ c f al h. folded c n (C r) (class n f (is_point n)) (fold_const c n h);
  }

  pub const_none : (n : ℤ) → ((m : ℤ) → InRange (range_of (point n)) m → ⊥) → IsNoValue A K exact state (Const n)
  const_none n h = record {
    none = λ v m p e. h n (in_point n n refl);
    none_plain = λ given s x u p d e. h n (in_point n n refl);
  }

  -- ---- variables

  pub read_value : (x : ℕ) (r : V) → ((v : List ℤ) → AllAdmit A state v → A r (value_at v x)) → NoWider (K r) (known_in K state x) → (IsPoint (K r) (pos 0) → IsPoint (known_in K state x) (pos 0)) → IsValue A K C exact folds state (Read x) r
  read_value x r holds known zero = record {
    holds = λ v n p e. let same : value_at v x ≡ n = cc in subst (A r) same (holds v p);
    point = λ v n f p k a e. let same : value_at v x ≡ n = cc in still_point (K r) (known_in K state x) n (some r f) known (subst (IsPoint (known_in K state x)) same k);
    plain = λ given s f u p e. wider (K r) (given x) (range_of s) (wider (K r) (known_in K state x) (given x) known (u x)) (inside (given x) s (whole_range (given x).lo (given x).hi s e));
    read = λ y e. let same : x ≡ y = cc in subst (λ (z : ℕ). NoWider (K r) (known_in K state z)) same known;
    zero = λ y e p. let same : x ≡ y = cc in subst (λ (z : ℕ). IsPoint (known_in K state z) (pos 0)) same (zero p);
    constant = λ m f e. absurd (cc);
    fold = λ c f al h. absurd (fold_read c x h);
  }

  -- ---- one operand

  pub one_value : (op : NOp) (e : NExprTree) (a r : V) → IsValue A K C exact folds state e a
      → ((x n : ℤ) → A a x → unary_value op x ≡ Some n → A r n)
      → ((x n : ℤ) → IsTrue exact → IsPoint (K a) x → unary_value op x ≡ Some n → FitsSigned w128 n → IsPoint (K r) n)
      → ((s t : Span) → IsTrue exact → NoWider (K a) (range_of s) → FitsSpan s → unary_span op s ≡ Some t → FitsSpan t → NoWider (K r) (range_of t))
      → IsValue A K C exact folds state (Unary op e) r
  one_value op e a r part holds at_point under = record {
    holds = λ v n p q. let step = of_one-some (unary_value op) (value_of v e) n q in holds step.0 n (part.holds v step.0 p step.1) step.2;
    point = λ v n x p k f q.
        let step = of_one-some (unary_value op) (value_of v e) n q in
        at_point step.0 n x (part.point v step.0 x p k f.1 step.1) step.2 (some_and (FitsSigned w128) (value_of v (Unary op e)) n q f.0);
    plain = λ given s x u p q.
        let step = of_one-some (unary_span op) (plain given e) s q in
        under step.0 s x (part.plain given step.0 x u p.1 step.1) (fits given e step.0 p.1 step.1) step.2 (fits given (Unary op e) s p q);
    read = λ x q. absurd (cc);
    zero = λ x q. absurd (cc);
    constant = λ m f q. absurd (cc);
    fold = λ c f al h. absurd (fold_unary c op e h);
  }

  -- ---- two operands

  pub two_value : (op : NOp) (e f : NExprTree) (a b r : V) → IsValue A K C exact folds state e a → IsValue A K C exact folds state f b
      → IsNotByZero op (K b)
      → ((x y n : ℤ) → A a x → A b y → binary_value op x y ≡ Some n → A r n)
      → ((x y n : ℤ) → IsTrue exact → IsPoint (K a) x → IsPoint (K b) y → binary_value op x y ≡ Some n → FitsSigned w128 n → IsPoint (K r) n)
      → ((s t u : Span) → IsTrue exact → IsNotByZero op (K b) → NoWider (K a) (range_of s) → FitsSpan s → NoWider (K b) (range_of t) → FitsSpan t → binary_span op s t ≡ Some u → FitsSpan u → NoWider (K r) (range_of u))
      → ((c : ℤ) → IsTrue folds → IsAlignment c → op ≡ Add → IsFoldResidue c (C a) → IsFoldResidue c (C b) → IsFoldResidue c (C r))
      → ((c n : ℤ) → IsTrue folds → IsAlignment c → op ≡ Mul → IsMultiple c n → C a ≡ class_of n (pos 0) → IsFoldResidue c (C r))
      → ((c n : ℤ) → IsTrue folds → IsAlignment c → op ≡ Mul → IsMultiple c n → C b ≡ class_of n (pos 0) → IsFoldResidue c (C r))
      → IsValue A K C exact folds state (Binary op e f) r
  two_value op e f a b r first second not_zero holds at_point under sum left right = record {
    holds = λ v n p q.
        let step = of_two-some (binary_value op) (value_of v e) (value_of v f) n q in
        holds step.0 step.1 n (first.holds v step.0 p step.2) (second.holds v step.1 p step.3) step.4;
    point = λ v n x p k w q.
        let step = of_two-some (binary_value op) (value_of v e) (value_of v f) n q in
        at_point step.0 step.1 n x (first.point v step.0 x p k.0 w.1 step.2) (second.point v step.1 x p k.1 w.2 step.3) step.4
        (some_and (FitsSigned w128) (value_of v (Binary op e f)) n q w.0);
    plain = λ given s x u p q.
        let step = of_two-some (binary_span op) (plain given e) (plain given f) s q in
        under step.0 step.1 s x not_zero (first.plain given step.0 x u p.1 step.2) (fits given e step.0 p.1 step.2)
        (second.plain given step.1 x u p.2 step.3) (fits given f step.1 p.2 step.3) step.4 (fits given (Binary op e f) s p q);
    read = λ x q. absurd (cc);
    zero = λ x q. absurd (cc);
    constant = λ m w q. absurd (cc);
    fold = λ c w al h. ⊎_elim
        (λ (g : (op ≡ Mul) × IsFactor c e). left c g.1.0 w al g.0 g.1.2 (first.constant g.1.0 w g.1.1))
        (λ (g : ((op ≡ Mul) × IsFactor c f) ⊎ ((op ≡ Add) × IsFold c e × IsFold c f)). ⊎_elim
        (λ (k : (op ≡ Mul) × IsFactor c f). right c k.1.0 w al k.0 k.1.2 (second.constant k.1.0 w k.1.1))
        (λ (k : (op ≡ Add) × IsFold c e × IsFold c f). sum c w al k.0 (first.fold c w al k.1) (second.fold c w al k.2))
        g)
        (fold_binary c op e f h);
  }

  -- a quotient by what is known to be 0
  pub zero_none : (known : (a : V) (n : ℤ) → A a n → InRange (K a) n) (op : NOp) (e f : NExprTree) (b : V) → IsValue A K C exact folds state f b → (op ≡ Quot) × IsPoint (K b) (pos 0) → IsNoValue A K exact state (Binary op e f)
  zero_none known op e f b second zero = record {
    none = λ v n p q.
        let step = of_two-some (binary_value op) (value_of v e) (value_of v f) n q in
        let same : step.1 ≡ pos 0 = only_number (K b) (pos 0) step.1 zero.1 (known b step.1 (second.holds v step.1 p step.3)) in
        by_zero step.0 n (subst (λ (y : ℤ). binary_value Quot step.0 y ≡ Some n) same (subst (λ (o : NOp). binary_value o step.0 step.1 ≡ Some n) zero.0 step.4));
    none_plain = λ given s x u p d q.
        let step = of_two-some (binary_span op) (plain given e) (plain given f) s q in
        ⊎_elim
        (λ (never : (t : Span) → plain given f ≡ Some t → may_equal t (point (pos 0)) ≡ false). may_be_zero (K b) step.1 zero.1 (second.plain given step.1 x u p.2 step.3) (never step.1 step.3))
        (λ (known_not : (t : ℕ) × (f ≡ Read t) × (IsPoint (known_in K state t) (pos 0) → ⊥)). known_not.2 (second.zero known_not.0 known_not.1 zero.1))
        (d.0 zero.0);
  }
