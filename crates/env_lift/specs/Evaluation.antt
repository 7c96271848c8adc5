-- What is so of the value of an expression in a state, and where there is none.
use Rattle.std.specs.Prelude.{ℕ, ℤ, pos, ◌≡◌, Bool, IsTrue, List, Some}
use Rattle.num_api.specs.declared.message.Range.{Range}
use Rattle.num_api.specs.declared.message.Residue.{Residue}
use Rattle.num_api.specs.Exprs.{NExprTree, Const, Read}
use Rattle.num_api.specs.Value.{value_of, AllFit}
use Rattle.num_api.specs.Ranges.{IsPoint, NoWider, IsUnder}
use Rattle.num_api.specs.Residues.{class_of, IsFoldResidue}
use Rattle.num_api.specs.Spans.{Span, range_of}
use Rattle.num_api.specs.Plain.{plain, IsPlain, MayDivide}
use Rattle.num_api.specs.Fold.{IsFold, IsAlignment}
use Rattle.num_api.specs.Known.{IsSharpOn}
use Rattle.env_lift.specs.declared.entries.Entry.{Entry}
use Rattle.env_lift.specs.States.{AllAdmit, known_in}

-- the value r admits what the expression e comes to; the other fields are the laws of ranges and classes, by the flags of the domain
pub record IsValue {V : Type 0} (A : V → ℤ → Type 0) (K : V → Range) (C : V → Residue)
    (exact folds : Bool) (state : List (Entry V)) (e : NExprTree) (r : V) : Type 0 where
  -- every number that e has is admitted
  pub holds : (v : List ℤ) (n : ℤ) → AllAdmit A state v → value_of v e ≡ Some n → A r n
  -- where each variable of e is known, it is the point of that number
  pub point : (v : List ℤ) (n : ℤ) → IsTrue exact → AllAdmit A state v → IsSharpOn (known_in K state) v e → AllFit v e → value_of v e ≡ Some n → IsPoint (K r) n
  -- it is no wider than the plain rule gives
  pub plain : (given : ℕ → Range) (s : Span) → IsTrue exact → IsUnder (known_in K state) given → IsPlain given e → plain given e ≡ Some s
      → NoWider (K r) (range_of s)
  -- of a variable it is no wider than what is known of that, and 0 alone only where that is
  pub read : (x : ℕ) → e ≡ Read x → NoWider (K r) (known_in K state x)
  pub zero : (x : ℕ) → e ≡ Read x → IsPoint (K r) (pos 0) → IsPoint (known_in K state x) (pos 0)
  -- of a constant it has the class of that number alone
  pub constant : (n : ℤ) → IsTrue folds → e ≡ Const n → C r ≡ class_of n (pos 0)
  -- of what is a multiple of c by its form, its class is of multiples of c
  pub fold : (c : ℤ) → IsTrue folds → IsAlignment c → IsFold c e → IsFoldResidue c (C r)

-- the expression has no number; by the plain rule neither, where each divisor may be other than 0
pub record IsNoValue {V : Type 0} (A : V → ℤ → Type 0) (K : V → Range) (exact : Bool) (state : List (Entry V)) (e : NExprTree) : Type 0 where
  pub none : (v : List ℤ) (n : ℤ) → AllAdmit A state v → value_of v e ≡ Some n → ⊥
  pub none_plain : (given : ℕ → Range) (s : Span) → IsTrue exact → IsUnder (known_in K state) given → IsPlain given e
      → MayDivide (known_in K state) given e → plain given e ≡ Some s → ⊥
