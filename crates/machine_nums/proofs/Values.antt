-- Wrapped results are numbers of their type, and results that fit need no wrapping.
use Rattle.std.proofs.Common.{◌≡◌, ◌^◌, ◌≤ℤ◌, ◌<ℤ◌, ℕ, ℤ, pos, List, arith, refl, sym, ◌∙◌, ap, subst}
use Rattle.std.specs.Prelude.{Option, Some, None, IfSome, Result, Ok, Err, IfOk}
use Rattle.std.specs.declared.alloc.AllocError.{AllocError}
use Rattle.num_api.specs.declared.expr.NExpr.{NExpr}
use Rattle.num_api.specs.Exprs.{nexpr_tree}
use Rattle.std.specs.Int.{w8, w16, w32, w64, int_rem_euclid}
use Rattle.std.proofs.lemmas.Int.{ints, SFits-int_wrap, int_wrap_fits}
use Rattle.num_api.proofs.Multiples.{in_itself}
use Rattle.num_api.proofs.Remainders.{rem_low, rem_high, rem_unique}
use Rattle.c_syntax_written.specs.declared.int_type.IntType.{IntType}
use Rattle.c_syntax_written.specs.declared.int_type.IntType.TheVariants.{Char, SChar, UChar, Short, UShort, Int, UInt, Long, ULong, LLong, ULLong}
use Rattle.c_syntax_written.specs.Integer.{HasNumber, wrapped}
use Rattle.num_api.specs.Value.{unary_value, binary_value, of_one, of_two, value_of}
use Rattle.machine_nums.specs.MExprs.{MExprTree, Const, Read, Convert, Unary, Binary, type_of, untyped}
use Rattle.machine_nums.specs.Machine.{wrapped_value, exact_value, machine_value, OperandsFit}

-- ---- numbers

is_remainder : (k : ℕ) (n : ℤ) → pos 1 ≤ℤ pos (2 ^ k) → (pos 0 ≤ℤ int_rem_euclid n (pos (2 ^ k))) × (int_rem_euclid n (pos (2 ^ k)) <ℤ pos (2 ^ k))
is_remainder k n one = (rem_low n (pos (2 ^ k)) one, rem_high n (pos (2 ^ k)) one)

own_remainder : (k : ℕ) (n : ℤ) → pos 1 ≤ℤ pos (2 ^ k) → pos 0 ≤ℤ n → n <ℤ pos (2 ^ k) → int_rem_euclid n (pos (2 ^ k)) ≡ n
own_remainder k n one low high = rem_unique n (pos (2 ^ k)) n one (in_itself n (pos (2 ^ k))) low high

pub has-wrapped : (t : IntType) (n : ℤ) → HasNumber t (wrapped t n)
has-wrapped Char n = SFits-int_wrap w8 n
has-wrapped SChar n = SFits-int_wrap w8 n
has-wrapped UChar n = is_remainder 8 n (omega (arith, ints))
has-wrapped Short n = SFits-int_wrap w16 n
has-wrapped UShort n = is_remainder 16 n (omega (arith, ints))
has-wrapped Int n = SFits-int_wrap w32 n
has-wrapped UInt n = is_remainder 32 n (omega (arith, ints))
has-wrapped Long n = SFits-int_wrap w64 n
has-wrapped ULong n = is_remainder 64 n (omega (arith, ints))
has-wrapped LLong n = SFits-int_wrap w64 n
has-wrapped ULLong n = is_remainder 64 n (omega (arith, ints))

pub wrapped-has : (t : IntType) (n : ℤ) → HasNumber t n → wrapped t n ≡ n
wrapped-has Char n h = int_wrap_fits w8 n h
wrapped-has SChar n h = int_wrap_fits w8 n h
wrapped-has UChar n h = own_remainder 8 n (omega (arith, ints)) h.0 h.1
wrapped-has Short n h = int_wrap_fits w16 n h
wrapped-has UShort n h = own_remainder 16 n (omega (arith, ints)) h.0 h.1
wrapped-has Int n h = int_wrap_fits w32 n h
wrapped-has UInt n h = own_remainder 32 n (omega (arith, ints)) h.0 h.1
wrapped-has Long n h = int_wrap_fits w64 n h
wrapped-has ULong n h = own_remainder 64 n (omega (arith, ints)) h.0 h.1
wrapped-has LLong n h = int_wrap_fits w64 n h
wrapped-has ULLong n h = own_remainder 64 n (omega (arith, ints)) h.0 h.1

-- ---- values

has_some : (t : IntType) (o : Option ℤ) (n : ℤ) → wrapped_value t o ≡ Some n → HasNumber t n
has_some t None n e = cc
has_some t (Some m) n e = let same : wrapped t m ≡ n = cc in subst (HasNumber t) same (has-wrapped t m)

pub machine_has : (v : List ℤ) (e : MExprTree) (n : ℤ) → machine_value v e ≡ Some n → HasNumber (type_of e) n
machine_has v e n h = has_some (type_of e) (exact_value v e) n h

stays : (t : IntType) (o : Option ℤ) → IfSome o (HasNumber t) → wrapped_value t o ≡ o
stays t None h = refl
stays t (Some n) h = ap Some (wrapped-has t n h)

-- the expression without types has the exact result as its value, where its operands fit
pub untyped_value : (v : List ℤ) (e : MExprTree) → OperandsFit v e → value_of v (untyped e) ≡ exact_value v e
untyped_value v (Const t n) h = refl
untyped_value v (Read x t) h = refl
untyped_value v (Convert t a) h = untyped_value v a h.1 ∙ sym (stays (type_of a) (exact_value v a) h.0)
untyped_value v (Unary op t a) h = ap (of_one (unary_value op)) (untyped_value v a h.1 ∙ sym (stays (type_of a) (exact_value v a) h.0))
untyped_value v (Binary op t a b) h =
    ap (λ (o : Option ℤ). of_two (binary_value op) o (value_of v (untyped b))) (untyped_value v a h.1 ∙ sym (stays (type_of a) (exact_value v a) h.0))
    ∙ ap (of_two (binary_value op) (wrapped_value (type_of a) (exact_value v a))) (untyped_value v b h.3 ∙ sym (stays (type_of b) (exact_value v b) h.2))

pub untyped_fits : (e : MExprTree) (r : Result NExpr AllocError) → IfOk r (λ x. nexpr_tree x ≡ untyped e) → IfOk r (λ x. (v : List ℤ) → OperandsFit v e → value_of v (nexpr_tree x) ≡ exact_value v e)
untyped_fits e (Ok x) h = λ v fit. ap (value_of v) h ∙ untyped_value v e fit
untyped_fits e (Err x) h = tt
