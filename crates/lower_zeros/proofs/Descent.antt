-- Going down a type to the scalar at a byte: arrays at once, and members one after the other.
use Rattle.std.proofs.Common.{◌≡◌, ◌<◌, ◌≤◌, ◌-◌, ◌^◌, ◌*◌, ◌%◌, ℕ, zero, suc, Bool, true, false, List, ◌∷◌, refl, sym, ap, ◌∙◌, arith}
use Rattle.std.specs.Prelude.{nat_le, if◌then◌else◌, Option, None, Some, option_and_then, option_map, unwrap_or}
use Prim.Native.Nat.{◌∣◌}
use Rattle.std.proofs.lemmas.Bool.Decides.{nat_tests}
use Rattle.std.proofs.Math.Nat.{dvd_refl, dvd-mul_left_of_dvd, mod-mod_of_dvd, mod-zero, mod-one, mod-eq_of_lt}
use Rattle.c_syntax.specs.Types.{CTypeTree, Void, Int, Pointer, Array, Struct, Function}
use Rattle.c_syntax.specs.Program.{MemberTree, StructDefTree}
use Rattle.c_layout.specs.declared.layout.Sized.TheVariants.{Fits, Oversize, Incomplete}
use Rattle.c_layout.specs.Kept.{element}
use Rattle.c_layout.specs.Layout.{members_of, size_in, sized}
use Rattle.block_mem.specs.declared.types.Scalar.{Scalar}
use Rattle.lower_trees.specs.Zeros.{member_before, scalar_by, scalar_within}
use Rattle.lower_zeros.specs.Elements.{in_element}
use Rattle.lower_zeros.specs.Levels.{scalar_left}

-- ---- arrays
divides_product : (e n : ℕ) (o : Option ℕ) → e ∣ unwrap_or o 1 → e ∣ unwrap_or (option_map (λ s. n * s) o) 1
divides_product e n None h = h
divides_product e n (Some s) h = dvd-mul_left_of_dvd e h n

-- the size of what an array is made of at the last divides that of the array
element_divides : (structs : List StructDefTree) (ty : CTypeTree) → unwrap_or (size_in structs (element ty)) 1 ∣ unwrap_or (size_in structs ty) 1
element_divides structs Void = dvd_refl _
element_divides structs (Int t) = dvd_refl _
element_divides structs (Pointer to is_const) = dvd_refl _
element_divides structs (Array of is_const n) =
    divides_product (unwrap_or (size_in structs (element of)) 1) n (size_in structs of) (element_divides structs of)
element_divides structs (Struct n) = dvd_refl _
element_divides structs (Function n) = dvd_refl _

in_element_again : (structs : List StructDefTree) (of : CTypeTree) (k : ℕ)
    → in_element (size_in structs (element of)) of (k % unwrap_or (size_in structs of) 1) ≡ k % unwrap_or (size_in structs (element of)) 1
in_element_again structs Void k = refl
in_element_again structs (Int t) k = refl
in_element_again structs (Pointer to is_const) k = refl
in_element_again structs (Array of is_const n) k =
    mod-mod_of_dvd (unwrap_or (size_in structs (element of)) 1) k (element_divides structs (Array of is_const n))
in_element_again structs (Struct n) k = refl
in_element_again structs (Function n) k = refl

-- the scalar at a byte of an array is that at a byte of what it is made of at the last
pub by_element : (struct : ℕ → ℕ → Option Scalar) (structs : List StructDefTree) (ty : CTypeTree) (k : ℕ)
    → scalar_by struct structs (element ty) (in_element (size_in structs (element ty)) ty k) ≡ scalar_by struct structs ty k
by_element struct structs Void k = refl
by_element struct structs (Int t) k = refl
by_element struct structs (Pointer to is_const) k = refl
by_element struct structs (Array of is_const n) k =
    ap (scalar_by struct structs (element of)) (sym (in_element_again structs of k)) ∙ by_element struct structs of (k % unwrap_or (size_in structs of) 1)
by_element struct structs (Struct n) k = refl
by_element struct structs (Function n) k = refl

-- ---- sizes
not_incomplete : (b : Bool) (n : ℕ) → (if b then Fits n else Oversize) ≡ Incomplete → ⊥
not_incomplete true n e = cc
not_incomplete false n e = cc

pub remainder_incomplete : (o : Option ℕ) (k : ℕ) → sized o ≡ Incomplete → 0 ≡ k % unwrap_or o 1
remainder_incomplete None k e = sym (mod-one k)
remainder_incomplete (Some n) k e = absurd (not_incomplete (nat_le n (2 ^ 40)) n e)

same_fits : (b : Bool) (n m : ℕ) → (if b then Fits n else Oversize) ≡ Fits m → n ≡ m
same_fits true n m e = cc
same_fits false n m e = absurd (cc)

pub remainder_fits : (o : Option ℕ) (m k : ℕ) → sized o ≡ Fits m → k % m ≡ k % unwrap_or o 1
remainder_fits None m k e = absurd (cc)
remainder_fits (Some n) m k e = ap (λ s. k % s) (sym (same_fits (nat_le n (2 ^ 40)) n m e))

pub remainder_zero : (o : Option ℕ) (m k : ℕ) → sized o ≡ Fits m → m ≡ 0 → k ≡ k % unwrap_or o 1
remainder_zero o m k e none = sym (mod-zero k) ∙ ap (λ s. k % s) (sym none) ∙ remainder_fits o m k e

above : (b : Bool) (n : ℕ) → nat_le n (2 ^ 40) ≡ b → (if b then Fits n else Oversize) ≡ Oversize → 2 ^ 40 < n
above true n q e = absurd (cc)
above false n q e = grind (arith, nat_tests)

pub remainder_oversize : (o : Option ℕ) (k : ℕ) → k ≤ 2 ^ 40 → sized o ≡ Oversize → k ≡ k % unwrap_or o 1
remainder_oversize None k small e = absurd (cc)
remainder_oversize (Some n) k small e =
    let over : 2 ^ 40 < n = above (nat_le n (2 ^ 40)) n refl e in
    let below : k < n = omega arith in
    sym (mod-eq_of_lt below)

nowhere : (structs : List StructDefTree) (n k : ℕ) (o : Option MemberTree)
    → scalar_within zero structs n k ≡ option_and_then (λ m. scalar_left zero structs m.ty (k - m.offset)) o
nowhere structs n k None = refl
nowhere structs n k (Some m) = refl

-- ---- levels
-- the member of a struct in which a byte lies
pub in_member : (levels : ℕ) (structs : List StructDefTree) (n k : ℕ)
    → scalar_within levels structs n k ≡ option_and_then (λ m. scalar_left levels structs m.ty (k - m.offset)) (member_before k None (members_of structs n))
in_member zero structs n k = nowhere structs n k (member_before k None (members_of structs n))
in_member (suc levels) structs n k = refl

-- one member more
pub member_step : (k : ℕ) (found : Option MemberTree) (m : MemberTree) (rest : List MemberTree)
    → member_before k found (m ∷ rest) ≡ member_before k (if nat_le m.offset k then Some m else found) rest
member_step k found m rest = refl

-- what an array is made of at the last is no array
pub element_plain : (ty of : CTypeTree) (is_const : Bool) (n : ℕ) → element ty ≡ Array of is_const n → ⊥
element_plain Void of is_const n e = cc
element_plain (Int t) of is_const n e = cc
element_plain (Pointer to c) of is_const n e = cc
element_plain (Array inner c m) of is_const n e = element_plain inner of is_const n e
element_plain (Struct m) of is_const n e = cc
element_plain (Function m) of is_const n e = cc

-- from a type to what it is made of at the last
pub down : (structs : List StructDefTree) (ty el : CTypeTree) (byte within levels : ℕ) → el ≡ element ty → within ≡ in_element (size_in structs el) ty byte
    → scalar_by (scalar_within levels structs) structs ty byte ≡ scalar_by (scalar_within levels structs) structs el within
down structs ty el byte within levels e w =
    sym (by_element (scalar_within levels structs) structs ty byte)
    ∙ ap (λ t. scalar_by (scalar_within levels structs) structs t (in_element (size_in structs t) ty byte)) (sym e)
    ∙ ap (scalar_by (scalar_within levels structs) structs el) (sym w)
