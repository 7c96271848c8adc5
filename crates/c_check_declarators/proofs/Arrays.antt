-- Arrays of arrays, built from the innermost out, and const of their elements.
use Rattle.std.proofs.Common.{◌≡◌, refl, ap, sym, ◌∙◌, ℕ, Bool, true, false, List, [], ◌∷◌, ◌++◌}
use Rattle.std.specs.Prelude.{if◌then◌else◌, ◌||◌, ◌&&◌, not}
use Rattle.c_syntax.specs.Types.{CTypeTree, Void, Int, Pointer, Array, Struct, Function}
use Rattle.c_syntax.specs.declared.types.CType.{CType}
use Rattle.c_syntax.specs.declared.types.CType.TheVariants as types
use Rattle.c_syntax.specs.declared.types.Target.{Target}
use Rattle.std.specs.declared.rc.Rc.{Rc}
use Rattle.std.specs.declared.alloc.Global.{Global}
use Rattle.c_syntax.specs.Types.{ctype_tree}
use Rattle.c_syntax.proofs.TypeTrees.{not_array}
use Rattle.c_layout.specs.WellTyped.{is_array}
use Rattle.c_typing.specs.Specifiers.{with_const_elements}
use Rattle.c_check_declarators.specs.Arrays.{arrays_of}

pub arrays_none : (element : CTypeTree) (is_const : Bool) → arrays_of [] element is_const ≡ element
unfolding arrays_of
arrays_none element is_const = refl

-- the innermost array as the element of the others
pub arrays_push : (counts : List ℕ) (n : ℕ) (element : CTypeTree) (is_const : Bool) → arrays_of (counts ++ n ∷ []) element is_const ≡ arrays_of counts (Array element is_const n) false
unfolding arrays_of
arrays_push [] n element is_const = refl
arrays_push (m ∷ []) n element is_const = refl
arrays_push (m ∷ k ∷ rest) n element is_const = ap (λ ty. Array ty false m) (arrays_push (k ∷ rest) n element is_const)

-- what is no array is as it is
pub no_array : (ty : CTypeTree) (is_const : Bool) → is_array ty ≡ false → with_const_elements ty is_const ≡ ty
no_array Void is_const e = refl
no_array (Int t) is_const e = refl
no_array (Pointer to c) is_const e = refl
no_array (Array of c n) is_const e = cc
no_array (Struct n) is_const e = refl
no_array (Function n) is_const e = refl

flag : (b c d : Bool) → (if b then c else (d && not c)) ≡ false → (if b then false else (c || d)) ≡ c
flag true true d e = cc
flag true false d e = refl
flag false true d e = refl
flag false false true e = cc
flag false false false e = refl

-- an array that need not change where its element need not
pub array_so : (of : CTypeTree) (c is_const : Bool) (n : ℕ) → (if is_array of then c else (is_const && not c)) ≡ false → with_const_elements of is_const ≡ of
    → with_const_elements (Array of c n) is_const ≡ Array of c n
array_so of c is_const n e f = ap (λ ty. Array ty (if is_array of then false else (c || is_const)) n) f ∙ ap (λ b. Array of b n) (flag (is_array of) c is_const e)

-- const of the elements goes down to those of the innermost array
pub const_inside : (counts : List ℕ) (of : CTypeTree) (c is_const : Bool) (n : ℕ) → arrays_of counts (with_const_elements (Array of c n) is_const) false
    ≡ arrays_of (counts ++ n ∷ []) (with_const_elements of is_const) (if is_array of then false else (c || is_const))
const_inside counts of c is_const n = sym (arrays_push counts n (with_const_elements of is_const) (if is_array of then false else (c || is_const)))

is_not_array : (t : CTypeTree) → ((of : CTypeTree) (c : Bool) (n : ℕ) → t ≡ Array of c n → ⊥) → is_array t ≡ false
is_not_array Void h = refl
is_not_array (Int t) h = refl
is_not_array (Pointer to c) h = refl
is_not_array (Array of c n) h = absurd (h of c n refl)
is_not_array (Struct n) h = refl
is_not_array (Function n) h = refl

pub not_array_tree : (b : CType) → ((box : Rc Target Global) (n : ℕ) → b ≡ types.Array box n → ⊥) → is_array (ctype_tree b) ≡ false
not_array_tree b h = is_not_array (ctype_tree b) (not_array b h)

pub or_true : {a r : Bool} (b : Bool) → a ≡ true → r ≡ true → r ≡ (a || b)
or_true b e f = f ∙ ap (λ x. x || b) (sym e)

pub or_false : {a r : Bool} (b : Bool) → a ≡ false → r ≡ b → r ≡ (a || b)
or_false b e f = f ∙ ap (λ x. x || b) (sym e)
