-- Types without their const, by the constructors that the code has.
use Rattle.std.proofs.Common.{◌≡◌, ℕ, false, refl}
use Rattle.std.specs.declared.rc.Rc.{Rc}
use Rattle.std.specs.declared.alloc.Global.{Global}
use Rattle.c_syntax.specs.declared.types.Target.{Target}
use Rattle.c_syntax.specs.declared.types.CType.{CType}
use Rattle.c_syntax.specs.declared.types.CType.TheVariants as types
use Rattle.c_syntax.specs.Types.{CTypeTree, ctype_tree, HasNoTarget, Pointer, Array}
use Rattle.c_layout.specs.RowTypes.{unqualified, SameType, has_const_elements}

-- a type that is no pointer and no array has no const
pub core_same : (a b : CTypeTree) → HasNoTarget a → SameType a b → a ≡ b
core_same (Pointer to c) b h e = absurd h
core_same (Array of c n) b h e = absurd h
core_same a (Pointer to c) h e = absurd (cc)
core_same a (Array of c n) h e = absurd (cc)
core_same a b h e = cc

pub no_pointer : (b : CType) → ((box : Rc Target Global) → b ≡ types.Pointer box → ⊥) → (to : CTypeTree) → Pointer to false ≡ unqualified (ctype_tree b) → ⊥
unfolding ctype_tree
no_pointer types.Void other to e = cc
no_pointer (types.Int t) other to e = cc
no_pointer (types.Pointer' place ty is_const) other to e = other (record { ptr = place.ptr; value = record { ty = ty; is_const = is_const } }) refl
no_pointer (types.Array' place ty is_const n) other to e = cc
no_pointer (types.Struct n) other to e = cc
no_pointer (types.Function n) other to e = cc

pub no_array : (b : CType) → ((box : Rc Target Global) (n : ℕ) → b ≡ types.Array box n → ⊥) → (of : CTypeTree) (m : ℕ) → Array of false m ≡ unqualified (ctype_tree b) → ⊥
unfolding ctype_tree
no_array types.Void other of m e = cc
no_array (types.Int t) other of m e = cc
no_array (types.Pointer' place ty is_const) other of m e = cc
no_array (types.Array' place ty is_const n) other of m e = other (record { ptr = place.ptr; value = record { ty = ty; is_const = is_const } }) n refl
no_array (types.Struct n) other of m e = cc
no_array (types.Function n) other of m e = cc

pub no_elements : (b : CType) → ((box : Rc Target Global) (n : ℕ) → b ≡ types.Array box n → ⊥) → has_const_elements (ctype_tree b) ≡ false
unfolding ctype_tree
no_elements types.Void other = refl
no_elements (types.Int t) other = refl
no_elements (types.Pointer' place ty is_const) other = refl
no_elements (types.Array' place ty is_const n) other = absurd (other (record { ptr = place.ptr; value = record { ty = ty; is_const = is_const } }) n refl)
no_elements (types.Struct n) other = refl
no_elements (types.Function n) other = refl
