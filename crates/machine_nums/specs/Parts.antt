-- What is known of an expression of C in a state: an expression without types, and a range of its value.
use Rattle.std.specs.Prelude.{◌≡◌, ◌*ℤ◌, ℕ, ℤ, List, Bool, IsTrue, true, false, Some}
use Rattle.std.specs.Int.RustNames.{FitsSigned}
use mir.Syntax.{w128}
use Rattle.c_syntax_written.specs.declared.int_type.IntType.{IntType}
use Rattle.c_syntax_written.specs.declared.int_type.IntType.TheVariants.{LLong}
use Rattle.c_syntax_written.specs.Integer.{wrapped}
use Rattle.num_api.specs.declared.message.Range.{Range}
use Rattle.num_api.specs.Exprs.{NExprTree, nexpr_tree, Read}
use Rattle.num_api.specs.Ranges.{InRange, IsPoint, NoWider, IsUnder}
use Rattle.num_api.specs.Spans.{Span, FitsSpan, range_of}
use Rattle.num_api.specs.Known.{IsSharp, IsSharpOn}
use Rattle.num_api.specs.Value.{value_of, AllFit}
use Rattle.machine_nums.specs.MExprs.{MExprTree, type_of, untyped, OnVariables}
use Rattle.machine_nums.specs.Machine.{exact_value, machine_value, PartsFit}
use Rattle.machine_nums.specs.Rule.{type_span, exact_span, value_span, exact_variable, side_variable}
use Rattle.machine_nums.specs.Own.{OwnAnswers}
use Rattle.machine_nums.specs.declared.parts.Part.{Part}

-- the expression has this value, and the range holds it
pub record Tells (v : List ℤ) (part : Part) (n : ℤ) : Type 0 where
  pub value : value_of v (nexpr_tree part.plain) ≡ Some n
  pub holds : InRange part.range n

-- the range is this number alone, and all parts of the expression are i128 numbers, over variables whose numbers are known
pub record Shows (known : ℕ → Range) (v : List ℤ) (part : Part) (n : ℤ) : Type 0 where
  pub point : IsPoint part.range n
  pub fits : AllFit v (nexpr_tree part.plain)
  pub sharp : IsSharpOn known v (nexpr_tree part.plain)

-- the part wrapped into a type: what lies in the type is kept
pub record IsWrappedPart (t : IntType) (before after : Part) : Type 0 where
  pub tells : (v : List ℤ) (n : ℤ) → Tells v before n → Tells v after (wrapped t n)
  pub shows : (known : ℕ → Range) (v : List ℤ) (n : ℤ) → Tells v before n → Shows known v before n → Shows known v after (wrapped t n)
  pub inside : NoWider after.range (range_of (type_span t))
  pub kept : NoWider before.range (range_of (type_span t)) → (nexpr_tree after.plain ≡ nexpr_tree before.plain) × (after.range ≡ before.range)
      × (after.is_kept ≡ before.is_kept)
  pub as_it_was : after.is_kept ≡ true → (nexpr_tree after.plain ≡ nexpr_tree before.plain) × (before.is_kept ≡ true)

-- a product of numbers from -2^63 to 2^63 - 1 that are those of two parts up to multiples of 2^64
pub record IsLike (left right like : Part) : Type 0 where
  pub tells : (v : List ℤ) (x y : ℤ) → Tells v left x → Tells v right y → Tells v like (wrapped LLong x *ℤ wrapped LLong y)
  pub shows : (known : ℕ → Range) (v : List ℤ) (x y : ℤ) → Tells v left x → Tells v right y → Shows known v left x → Shows known v right y
      → Shows known v like (wrapped LLong x *ℤ wrapped LLong y)
  pub never : like.is_kept ≡ false

-- the part with its range cut by what a state answers of the expression
pub record IsTold (admits : List ℤ → Type 0) (exact : Bool) (known : ℕ → Range) (may : NExprTree → Range → Type 0) (before after : Part) : Type 0 where
  pub tree : nexpr_tree after.plain ≡ nexpr_tree before.plain
  pub kept : after.is_kept ≡ before.is_kept
  pub inside : NoWider after.range before.range
  pub holds : (v : List ℤ) (n : ℤ) → admits v → Tells v before n → Tells v after n
  pub answer : (r : Range) × may (nexpr_tree before.plain) r × NoWider after.range r
  pub variable : (x : ℕ) → IsTrue exact → nexpr_tree before.plain ≡ Read x → NoWider after.range (known x)

-- ---- of a state that admits valuations and knows a range for each variable, what a part says of the exact result of the outermost node

pub record IsResult (admits : List ℤ → Type 0) (exact : Bool) (known : ℕ → Range) (may : NExprTree → Range → Type 0) (e : MExprTree)
    (part : Part) : Type 0 where
  pub holds : (v : List ℤ) (n : ℤ) → admits v → exact_value v e ≡ Some n → Tells v part n
  pub shows : (v : List ℤ) (n : ℤ) → IsTrue exact → admits v → OnVariables (IsSharp known v) e → PartsFit v e → FitsSigned w128 n → exact_value v e ≡ Some n
      → Shows known v part n
  pub plain : (given : ℕ → Range) (s : Span) → IsTrue exact → IsUnder known given → exact_span given e ≡ Some s → FitsSpan s → NoWider part.range (range_of s)
  pub variable : (given : ℕ → Range) (x : ℕ) → IsTrue exact → IsUnder known given → exact_variable given e ≡ Some x → nexpr_tree part.plain ≡ Read x
  pub kept : part.is_kept ≡ true → nexpr_tree part.plain ≡ untyped e
  pub own : OwnAnswers may e (λ r. (part.is_kept ≡ true) × NoWider part.range r)

-- and of the value
pub record IsValue (admits : List ℤ → Type 0) (exact : Bool) (known : ℕ → Range) (may : NExprTree → Range → Type 0) (e : MExprTree) (part : Part) : Type 0 where
  pub holds : (v : List ℤ) (n : ℤ) → admits v → machine_value v e ≡ Some n → Tells v part n
  pub shows : (v : List ℤ) (n : ℤ) → IsTrue exact → admits v → OnVariables (IsSharp known v) e → PartsFit v e → machine_value v e ≡ Some n
      → Shows known v part n
  pub plain : (given : ℕ → Range) → IsTrue exact → IsUnder known given → NoWider part.range (range_of (value_span given e))
  pub variable : (given : ℕ → Range) (x : ℕ) → IsTrue exact → IsUnder known given → side_variable given e ≡ Some x → nexpr_tree part.plain ≡ Read x
  pub kept : part.is_kept ≡ true → nexpr_tree part.plain ≡ untyped e
  pub own : OwnAnswers may e (λ r. NoWider r (range_of (type_span (type_of e))) → (part.is_kept ≡ true) × NoWider part.range r)
