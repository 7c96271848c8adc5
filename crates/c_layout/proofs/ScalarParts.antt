-- Where scalars stand in arrays and structs.
use Rattle.std.proofs.Common.{◌≡◌, ℕ, zero, suc, ◌+◌, ◌*◌, ◌/◌, ◌%◌, ◌<◌, ◌≤◌, List, refl, sym, ap, subst, ◌∙◌, arith}
use Rattle.std.specs.Prelude.{Option, None, Some, option_map, IfSome, IsSomeAnd}
use Rattle.std.proofs.lemmas.Nat.{div-add-mod'}
use Rattle.std.proofs.Math.Nat.{mul_assoc, add-mul, mul-le-mul_right, add-mul-mod_self_right, div-lt_iff_lt-mul, mod-lt, mod-eq_of_lt, zero-mod}
use Rattle.c_syntax_written.specs.declared.int_type.IntType.{IntType}
use Rattle.c_syntax_written.specs.declared.int_type.IntType.TheVariants as ints
use Rattle.c_syntax_written.specs.Integer.{bytes}
use Rattle.c_syntax.specs.Types.{CTypeTree, Void, Int, Pointer, Array, Struct, Function}
use Rattle.c_syntax.specs.Program.{StructDefTree}
use Rattle.c_layout.specs.Layout.{Space, space_by, in_table, laid_out, size_in}
use Rattle.c_layout.specs.Kept.{kept, element, element_count, element_space}
use Rattle.c_layout.specs.LaidOut.{IsLaidOut}
use Rattle.c_layout.specs.ProperTypes.{IsProperType, IsTold, PartAt, whole, element as in_element, member as in_member}
use Rattle.c_layout.specs.RowTypes.{IsScalar}
use Rattle.c_layout.specs.Scalars.{IsScalarAt, HasNone, HaveSame}
use Rattle.c_layout.proofs.Spaces.{space_by-element}
use Rattle.c_layout.proofs.Parts.{stored_same, inside}

-- a scalar has at least one byte
int_bytes : (t : IntType) → 0 < bytes t
int_bytes ints.Char = omega arith
int_bytes ints.SChar = omega arith
int_bytes ints.UChar = omega arith
int_bytes ints.Short = omega arith
int_bytes ints.UShort = omega arith
int_bytes ints.Int = omega arith
int_bytes ints.UInt = omega arith
int_bytes ints.Long = omega arith
int_bytes ints.ULong = omega arith
int_bytes ints.LLong = omega arith
int_bytes ints.ULLong = omega arith

pub scalar_bytes : (structs : List StructDefTree) (ty : CTypeTree) (size : ℕ) → IsScalar ty → size_in structs ty ≡ Some size → 0 < size
scalar_bytes structs (Int t) size s e =
    let same : bytes t ≡ size = cc in
    subst (λ x. 0 < x) same (int_bytes t)
scalar_bytes structs (Pointer to is_const) size s e =
    let same : 8 ≡ size = cc in omega arith
scalar_bytes structs Void size s e = absurd s
scalar_bytes structs (Array of is_const n) size s e = absurd s
scalar_bytes structs (Struct n) size s e = absurd s
scalar_bytes structs (Function n) size s e = absurd s

positive_factor : (q n c : ℕ) → q < n * c → 0 < c
positive_factor q n zero h = absurd (omega arith)
positive_factor q n (suc c) h = omega arith

first_place : (q z r : ℕ) → q < 1 → r ≡ q * z + r
first_place zero z r h = omega arith
first_place (suc q) z r h = absurd (omega arith)

pub some_same : {a b : ℕ} → Some a ≡ Some b → a ≡ b
some_same e = cc

-- so it ends inside the object
ends_inside : (structs : List StructDefTree) → IsLaidOut structs → (ty part : CTypeTree) (offset size n : ℕ) → IsScalarAt structs ty offset size part → size_in structs ty ≡ Some n → offset < n
ends_inside structs is ty part offset size n at e =
    let some = scalar_bytes structs part size at.scalar at.bytes in
    let fits : offset + size ≤ n = subst (λ o. IsSomeAnd o (λ top. offset + size ≤ top)) e (inside structs is size at.part at.bytes) in
    omega arith

is_complete : (structs : List StructDefTree) → IsLaidOut structs → (ty part : CTypeTree) (offset size : ℕ) → IsScalarAt structs ty offset size part → size_in structs ty ≡ None → ⊥
is_complete structs is ty part offset size at e =
    subst (λ o. IsSomeAnd o (λ top. offset + size ≤ top)) e (inside structs is size at.part at.bytes)

element_own : (struct : ℕ → Space) (ty : CTypeTree) → element_space struct (element ty) ≡ space_by struct (element ty)
element_own struct Void = refl
element_own struct (Int t) = refl
element_own struct (Pointer to is_const) = refl
element_own struct (Array of is_const n) = element_own struct of
element_own struct (Struct n) = refl
element_own struct (Function n) = refl

-- the element of a type, and as many as there are, give its size
size_of_elements : (structs : List StructDefTree) (ty : CTypeTree) → size_in structs ty ≡ option_map (λ s. element_count ty * s) (size_in structs (element ty))
size_of_elements structs ty =
    ap (λ space. space.size) (space_by-element (laid_out structs) ty)
    ∙ ap (λ space. option_map (λ s. element_count ty * s) space.size) (element_own (laid_out structs) ty)

array_size : (structs : List StructDefTree) (ty : CTypeTree) (z : ℕ) → size_in structs (element ty) ≡ Some z → size_in structs ty ≡ Some (element_count ty * z)
array_size structs ty z e = size_of_elements structs ty ∙ ap (option_map (λ s. element_count ty * s)) e

quotient_below : (q n c : ℕ) → 0 < c → q < n * c → q / c < n
quotient_below q n c some h = (div-lt_iff_lt-mul some).1 h

-- place q among the elements of an array of arrays, as a place in the array and a place in that element
split_place : (q c z r : ℕ) → q * z + r ≡ (q / c) * (c * z) + ((q % c) * z + r)
split_place q c z r =
    ap (λ x. x * z + r) (sym (div-add-mod' q c)) ∙ ap (λ x. x + r) (add-mul (q / c * c) (q % c) z)
    ∙ ap (λ x. (x + (q % c) * z) + r) (mul_assoc (q / c) c z) ∙ omega arith

-- from an element of an array of arrays out to the array
up : (structs : List StructDefTree) (ty part : CTypeTree) (q r z : ℕ) → size_in structs (element ty) ≡ Some z → q < element_count ty → PartAt structs (element ty) r part → PartAt structs ty (q * z + r) part
up structs (Array of is_const n) part q r z e lt p =
    let c = element_count of in
    let some : 0 < c = positive_factor q n c lt in
    in_element of part is_const n (q / c) (c * z) ((q % c) * z + r) (q * z + r)
    (quotient_below q n c some lt) (array_size structs of z e) (up structs of part (q % c) r z e (mod-lt q some) p) (split_place q c z r)
up structs ty part q r z e lt p =
    subst (λ x. PartAt structs ty x part) (first_place q z r lt) p

scalar_own : (ty : CTypeTree) → IsScalar ty → ty ≡ element ty
scalar_own (Int t) s = refl
scalar_own (Pointer to is_const) s = refl
scalar_own Void s = absurd s
scalar_own (Array of is_const n) s = absurd s
scalar_own (Struct n) s = absurd s
scalar_own (Function n) s = absurd s

in_first : (structs : List StructDefTree) (ty : CTypeTree) (z : ℕ) → IsScalar ty → PartAt structs (element ty) (0 % z) ty
in_first structs ty z s =
    let at : PartAt structs (element ty) 0 ty = subst (λ x. PartAt structs x 0 ty) (scalar_own ty s) (whole ty) in
    subst (λ x. PartAt structs (element ty) x ty) (sym (zero-mod z)) at

-- and down to it
down : (structs : List StructDefTree) → IsLaidOut structs → {ty part : CTypeTree} {offset : ℕ} (z size : ℕ) → size_in structs (element ty) ≡ Some z → IsScalar part → size_in structs part ≡ Some size → PartAt structs ty offset part → PartAt structs (element ty) (offset % z) part
down structs is z size e s b (whole ty) = in_first structs ty z s
down structs is z size e s b (in_element of part is_const n k each inner at lt es p ea) =
    let c = element_count of in
    let sized : each ≡ c * z = some_same (sym es ∙ array_size structs of z e) in
    let from : at ≡ inner + (k * c) * z = ea ∙ ap (λ x. k * x + inner) sized ∙ ap (λ x. x + inner) (sym (mul_assoc k c z)) ∙ omega arith in
    let same : at % z ≡ inner % z = ap (λ x. x % z) from ∙ add-mul-mod_self_right inner (k * c) z in
    subst (λ x. PartAt structs (element of) x part) (sym same) (down structs is z size e s b p)
down structs is z size e s b (in_member ty part n k offset inner at em eo p ea) =
    let here : PartAt structs (Struct n) at part = in_member ty part n k offset inner at em eo p ea in
    let below = ends_inside structs is (Struct n) part at size z (record { part = here; scalar = s; bytes = b }) e in
    subst (λ x. PartAt structs (Struct n) x part) (sym (mod-eq_of_lt below)) here

-- the scalars of an array are those of its element at the offset's remainder
pub elements_same : (structs : List StructDefTree) → IsLaidOut structs → (ty : CTypeTree) (offset z : ℕ) → size_in structs (element ty) ≡ Some z → offset / z < element_count ty → HaveSame structs ty offset (element ty) (offset % z)
elements_same structs is ty offset z e lt size part = (
  λ at. record { part = down structs is z size e at.scalar at.bytes at.part; scalar = at.scalar; bytes = at.bytes },
  λ at. record {
    part = subst (λ x. PartAt structs ty x part) (div-add-mod' offset z) (up structs ty part (offset / z) (offset % z) z e lt at.part);
    scalar = at.scalar;
    bytes = at.bytes;
  },
)

pub elements_end : (structs : List StructDefTree) → IsLaidOut structs → (ty : CTypeTree) (offset z : ℕ) → size_in structs (element ty) ≡ Some z → element_count ty ≤ offset / z → HasNone structs ty offset
elements_end structs is ty offset z e past size part at =
    let below = ends_inside structs is ty part offset size (element_count ty * z) at (array_size structs ty z e) in
    let above : element_count ty * z ≤ offset / z * z = mul-le-mul_right z past in
    let split = div-add-mod' offset z in
    omega arith

pub elements_empty : (structs : List StructDefTree) → IsLaidOut structs → (ty : CTypeTree) (offset : ℕ) → size_in structs (element ty) ≡ Some 0 → HasNone structs ty offset
elements_empty structs is ty offset e size part at =
    let below = ends_inside structs is ty part offset size (element_count ty * 0) at (array_size structs ty 0 e) in
    omega arith

pub elements_incomplete : (structs : List StructDefTree) → IsLaidOut structs → (ty : CTypeTree) (offset : ℕ) → size_in structs (element ty) ≡ None → HasNone structs ty offset
elements_incomplete structs is ty offset e size part at =
    is_complete structs is ty part offset size at (size_of_elements structs ty ∙ ap (option_map (λ s. element_count ty * s)) e)

proper_element : (structs : List StructDefTree) (ty : CTypeTree) → IsProperType structs ty → IsProperType structs (element ty)
proper_element structs (Array of is_const n) h = proper_element structs of h.0
proper_element structs ty h = h

int_few : (t : IntType) → bytes t ≤ 8
int_few ints.Char = omega arith
int_few ints.SChar = omega arith
int_few ints.UChar = omega arith
int_few ints.Short = omega arith
int_few ints.UShort = omega arith
int_few ints.Int = omega arith
int_few ints.UInt = omega arith
int_few ints.Long = omega arith
int_few ints.ULong = omega arith
int_few ints.LLong = omega arith
int_few ints.ULLong = omega arith

told_size : (structs : List StructDefTree) (ty : CTypeTree) (z : ℕ) → IsProperType structs ty → size_in structs ty ≡ Some z → IsTold z
told_size structs Void z h e = absurd (cc)
told_size structs (Int t) z h e =
    let few = int_few t in
    let same = some_same e in omega arith
told_size structs (Pointer to is_const) z h e = let same = some_same e in omega arith
told_size structs (Array of is_const n) z h e = subst (λ o. IsSomeAnd o IsTold) e h.2
told_size structs (Struct n) z h e = subst (λ o. IfSome o IsTold) e h.1
told_size structs (Function n) z h e = absurd h

kept_same : (o : Option ℕ) (z : ℕ) → ((y : ℕ) → o ≡ Some y → IsTold y) → Some z ≡ option_map kept o → o ≡ Some z
kept_same None z told e = absurd (cc)
kept_same (Some y) z told e =
    let small : y ≤ 1099511627776 = told y refl in
    let same : z ≡ kept y = some_same e in
    ap Some (omega arith)

kept_none : (o : Option ℕ) → None ≡ option_map kept o → o ≡ None
kept_none None e = refl
kept_none (Some y) e = absurd (cc)

-- what the code reads of an element
read_size : (structs : List StructDefTree) → IsLaidOut structs → (ty own : CTypeTree) (o : Option ℕ) → own ≡ element ty → o ≡ option_map kept (element_space (in_table structs) own).size → o ≡ option_map kept (size_in structs (element ty))
read_size structs is ty own o e k =
    k ∙ ap (λ x. option_map kept (element_space (in_table structs) x).size) e
    ∙ ap (λ space. option_map kept space.size) (element_own (in_table structs) ty ∙ stored_same structs is (element ty))

pub read_some : (structs : List StructDefTree) → IsLaidOut structs → (ty own : CTypeTree) (o : Option ℕ) (z : ℕ) → IsProperType structs ty → own ≡ element ty → o ≡ option_map kept (element_space (in_table structs) own).size → o ≡ Some z → size_in structs (element ty) ≡ Some z
read_some structs is ty own o z proper e k some =
    kept_same (size_in structs (element ty)) z (λ y. told_size structs (element ty) y (proper_element structs ty proper)) (sym some ∙ read_size structs is ty own o e k)

pub read_none : (structs : List StructDefTree) → IsLaidOut structs → (ty own : CTypeTree) (o : Option ℕ) → own ≡ element ty → o ≡ option_map kept (element_space (in_table structs) own).size → o ≡ None → size_in structs (element ty) ≡ None
read_none structs is ty own o e k none = kept_none (size_in structs (element ty)) (sym none ∙ read_size structs is ty own o e k)

-- an offset behind the last element
pub elements_past : (structs : List StructDefTree) → IsLaidOut structs → (ty : CTypeTree) (offset z count : ℕ) → IsProperType structs ty → size_in structs (element ty) ≡ Some z → count ≡ kept (element_count ty) → count ≤ offset / z → HasNone structs ty offset
elements_past structs is ty offset zero count proper e k past = elements_empty structs is ty offset e
elements_past structs is ty offset (suc z) count proper e k past =
    let whole : element_count ty * suc z ≤ 1099511627776 = told_size structs ty (element_count ty * suc z) proper (array_size structs ty (suc z) e) in
    elements_end structs is ty offset (suc z) e (omega arith)
