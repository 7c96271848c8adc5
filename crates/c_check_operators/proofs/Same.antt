-- Types that are told to be one are one, and types that are one are told to be.
use Rattle.std.proofs.Common.{◌≡◌, Bool, true, false, refl, subst, Decides}
use Rattle.std.specs.Prelude.{◌==◌}
use Rattle.std.proofs.lemmas.Bool.{false≢true, eqb-true, eq-eqb, and_parts, and_from}
use Rattle.c_syntax_written.specs.declared.int_type.IntType.{IntType}
use Rattle.c_syntax_written.specs.declared.int_type.IntType.TheVariants as ints
use Rattle.c_syntax.specs.Types.{CTypeTree, Void, Int, Pointer, Array, Struct, Function}
use Rattle.c_layout.specs.RowTypes.{unqualified, SameType}
use Rattle.c_typing.specs.SameTypes.{is_same_int, is_same_truth, is_same, is_same_but_const}

int_self : (t : IntType) → is_same_int t t ≡ true
int_self ints.Char = refl
int_self ints.SChar = refl
int_self ints.UChar = refl
int_self ints.Short = refl
int_self ints.UShort = refl
int_self ints.Int = refl
int_self ints.UInt = refl
int_self ints.Long = refl
int_self ints.ULong = refl
int_self ints.LLong = refl
int_self ints.ULLong = refl

one_int : (t u : IntType) → is_same_int t u ≡ true → t ≡ u
one_int ints.Char ints.Char e = refl
one_int ints.SChar ints.SChar e = refl
one_int ints.UChar ints.UChar e = refl
one_int ints.Short ints.Short e = refl
one_int ints.UShort ints.UShort e = refl
one_int ints.Int ints.Int e = refl
one_int ints.UInt ints.UInt e = refl
one_int ints.Long ints.Long e = refl
one_int ints.ULong ints.ULong e = refl
one_int ints.LLong ints.LLong e = refl
one_int ints.ULLong ints.ULLong e = refl
one_int t u e = absurd (false≢true e)

truth_self : (c : Bool) → is_same_truth c c ≡ true
truth_self true = refl
truth_self false = refl

one_truth : (c d : Bool) → is_same_truth c d ≡ true → c ≡ d
one_truth true true e = refl
one_truth true false e = absurd (false≢true e)
one_truth false true e = absurd (false≢true e)
one_truth false false e = refl

type_self : (s : CTypeTree) → is_same s s ≡ true
type_self Void = refl
type_self (Int t) = int_self t
type_self (Pointer s c) = and_from _ _ (truth_self c) (type_self s)
type_self (Array s c n) = and_from _ _ (truth_self c) (and_from _ _ (eq-eqb n n refl) (type_self s))
type_self (Struct n) = eq-eqb n n refl
type_self (Function n) = eq-eqb n n refl

one_type : (s t : CTypeTree) → is_same s t ≡ true → s ≡ t
one_type Void Void e = refl
one_type (Int t) (Int u) e = cc (one_int t u e)
one_type (Pointer s c) (Pointer t d) e =
    let parts = and_parts (is_same_truth c d) (is_same s t) e in
    cc (one_truth c d parts.0, one_type s t parts.1)
one_type (Array s c m) (Array t d n) e =
    let parts = and_parts (is_same_truth c d) _ e in
    let rest = and_parts (m == n) (is_same s t) parts.1 in
    cc (one_truth c d parts.0, eqb-true m n rest.0, one_type s t rest.1)
one_type (Struct m) (Struct n) e = cc (eqb-true m n e)
one_type (Function m) (Function n) e = cc (eqb-true m n e)
one_type s t e = absurd (false≢true e)

-- whether two types are one
pub same_decides : (s t : CTypeTree) → Decides (is_same s t) (s ≡ t)
same_decides s t = (one_type s t, λ e. subst (λ x. is_same s x ≡ true) e (type_self s))

-- and but for const
pub same_but_const_decides : (s t : CTypeTree) → Decides (is_same_but_const s t) (SameType s t)
same_but_const_decides s t = same_decides (unqualified s) (unqualified t)
