-- Types that are found to be one are one.
use Rattle.std.proofs.Common.{◌≡◌, true, false, refl, ap, ◌∙◌}
use Rattle.std.specs.Prelude.{◌==◌, Bool, not, ◌&&◌, ◌||◌, IsTrue}
use Rattle.std.proofs.lemmas.Bool.{false≢true, and_parts, eqb-true}
use Rattle.c_syntax_written.specs.declared.int_type.IntType.{IntType}
use Rattle.c_syntax_written.specs.declared.int_type.IntType.TheVariants as ints
use Rattle.c_syntax.specs.Types.{CTypeTree, Void, Int, Pointer, Array, Struct, Function}
use Rattle.c_layout.specs.RowTypes.{unqualified, has_const_target, SameType, KeepsConst}
use Rattle.c_typing.specs.SameTypes.{is_same_int, is_same_truth, is_same, is_same_but_const, keeps_const}

pub one_int : (t u : IntType) → is_same_int t u ≡ true → t ≡ u
one_int ints.Char ints.Char e = refl
one_int ints.SChar ints.SChar e = refl
one_int ints.UChar ints.UChar e = refl
one_int ints.Short ints.Short e = refl
one_int ints.UShort ints.UShort e = refl
one_int ints.Int ints.Int e = refl
one_int ints.UInt ints.UInt e = refl
one_int ints.Long ints.Long e = refl
one_int ints.ULong ints.ULong e = refl
one_int ints.LLong ints.LLong e = refl
one_int ints.ULLong ints.ULLong e = refl
one_int t u e = absurd (false≢true e)

pub one_truth : (c d : Bool) → is_same_truth c d ≡ true → c ≡ d
one_truth true true e = refl
one_truth true false e = absurd (false≢true e)
one_truth false true e = absurd (false≢true e)
one_truth false false e = refl

pub one_type : (s t : CTypeTree) → is_same s t ≡ true → s ≡ t
one_type Void Void e = refl
one_type (Int t) (Int u) e = ap Int (one_int t u e)
one_type (Pointer s c) (Pointer t d) e =
    let p = and_parts (is_same_truth c d) (is_same s t) e in ap (λ x. Pointer x c) (one_type s t p.1) ∙ ap (λ x. Pointer t x) (one_truth c d p.0)
one_type (Array s c m) (Array t d n) e =
    let p = and_parts (is_same_truth c d) ((m == n) && is_same s t) e in
    let q = and_parts (m == n) (is_same s t) p.1 in
    ap (λ x. Array x c m) (one_type s t q.1) ∙ ap (λ x. Array t x m) (one_truth c d p.0) ∙ ap (λ x. Array t d x) (eqb-true m n q.0)
one_type (Struct m) (Struct n) e = ap Struct (eqb-true m n e)
one_type (Function m) (Function n) e = ap Function (eqb-true m n e)
one_type s t e = absurd (false≢true e)

pub one_but_const : (s t : CTypeTree) → is_same_but_const s t ≡ true → SameType s t
one_but_const s t e = one_type (unqualified s) (unqualified t) e

const_kept : (from to : Bool) → (not from || to) ≡ true → IsTrue from → IsTrue to
const_kept true to e f = e
const_kept false to e f = absurd (false≢true f)

pub kept_const : (from to : CTypeTree) → keeps_const from to ≡ true → KeepsConst from to
kept_const from to e f = const_kept (has_const_target from) (has_const_target to) e f
