-- The tree of a type, by the constructors that the code has.
use Rattle.std.proofs.Common.{◌≡◌, ℕ, Bool, refl}
use Rattle.std.specs.declared.rc.Rc.{Rc}
use Rattle.std.specs.declared.alloc.Global.{Global}
use Rattle.c_syntax_written.specs.declared.int_type.IntType.{IntType}
use Rattle.c_syntax.specs.declared.types.Target.{Target}
use Rattle.c_syntax.specs.declared.types.CType.{CType}
use Rattle.c_syntax.specs.declared.types.CType.TheVariants as types
use Rattle.c_syntax.specs.Types.{CTypeTree, ctype_tree, Void, Int, Pointer, Array, Struct, Function}

pub ctype_void : ctype_tree types.Void ≡ Void
unfolding ctype_tree
ctype_void = refl

pub ctype_int : (t : IntType) → ctype_tree (types.Int t) ≡ Int t
unfolding ctype_tree
ctype_int t = refl

pub ctype_pointer : (to : Rc Target Global) → ctype_tree (types.Pointer to) ≡ Pointer (ctype_tree to.value.ty) to.value.is_const
unfolding ctype_tree
ctype_pointer to = refl

pub ctype_array : (of : Rc Target Global) (n : ℕ) → ctype_tree (types.Array of n) ≡ Array (ctype_tree of.value.ty) of.value.is_const n
unfolding ctype_tree
ctype_array of n = refl

pub ctype_struct : (n : ℕ) → ctype_tree (types.Struct n) ≡ Struct n
unfolding ctype_tree
ctype_struct n = refl

pub ctype_function : (n : ℕ) → ctype_tree (types.Function n) ≡ Function n
unfolding ctype_tree
ctype_function n = refl

-- a type that is not of this form has no such tree
pub not_void : (b : CType) → (b ≡ types.Void → ⊥) → ctype_tree b ≡ Void → ⊥
unfolding ctype_tree
not_void types.Void other e = other refl
not_void (types.Int t) other e = cc
not_void (types.Pointer' place ty is_const) other e = cc
not_void (types.Array' place ty is_const n) other e = cc
not_void (types.Struct n) other e = cc
not_void (types.Function n) other e = cc

-- a type that is not of this form has no such tree
pub not_int : (b : CType) → ((t : IntType) → b ≡ types.Int t → ⊥) → (u : IntType) → ctype_tree b ≡ Int u → ⊥
unfolding ctype_tree
not_int types.Void other u e = cc
not_int (types.Int t) other u e = other t refl
not_int (types.Pointer' place ty is_const) other u e = cc
not_int (types.Array' place ty is_const n) other u e = cc
not_int (types.Struct n) other u e = cc
not_int (types.Function n) other u e = cc

-- a type that is not of this form has no such tree
pub not_pointer : (b : CType) → ((box : Rc Target Global) → b ≡ types.Pointer box → ⊥) → (to : CTypeTree) (c : Bool) → ctype_tree b ≡ Pointer to c → ⊥
unfolding ctype_tree
not_pointer types.Void other to c e = cc
not_pointer (types.Int t) other to c e = cc
not_pointer (types.Pointer' place ty is_const) other to c e = other (record { ptr = place.ptr; value = record { ty = ty; is_const = is_const } }) refl
not_pointer (types.Array' place ty is_const n) other to c e = cc
not_pointer (types.Struct n) other to c e = cc
not_pointer (types.Function n) other to c e = cc

-- a type that is not of this form has no such tree
pub not_array : (b : CType) → ((box : Rc Target Global) (n : ℕ) → b ≡ types.Array box n → ⊥) → (of : CTypeTree) (c : Bool) (m : ℕ) → ctype_tree b ≡ Array of c m → ⊥
unfolding ctype_tree
not_array types.Void other of c m e = cc
not_array (types.Int t) other of c m e = cc
not_array (types.Pointer' place ty is_const) other of c m e = cc
not_array (types.Array' place ty is_const n) other of c m e = other (record { ptr = place.ptr; value = record { ty = ty; is_const = is_const } }) n refl
not_array (types.Struct n) other of c m e = cc
not_array (types.Function n) other of c m e = cc

-- a type that is not of this form has no such tree
pub not_struct : (b : CType) → ((n : ℕ) → b ≡ types.Struct n → ⊥) → (m : ℕ) → ctype_tree b ≡ Struct m → ⊥
unfolding ctype_tree
not_struct types.Void other m e = cc
not_struct (types.Int t) other m e = cc
not_struct (types.Pointer' place ty is_const) other m e = cc
not_struct (types.Array' place ty is_const n) other m e = cc
not_struct (types.Struct n) other m e = other n refl
not_struct (types.Function n) other m e = cc

-- a type that is not of this form has no such tree
pub not_function : (b : CType) → ((n : ℕ) → b ≡ types.Function n → ⊥) → (m : ℕ) → ctype_tree b ≡ Function m → ⊥
unfolding ctype_tree
not_function types.Void other m e = cc
not_function (types.Int t) other m e = cc
not_function (types.Pointer' place ty is_const) other m e = cc
not_function (types.Array' place ty is_const n) other m e = cc
not_function (types.Struct n) other m e = cc
not_function (types.Function n) other m e = other n refl

pub ruleset type_trees = (ctype_void, ctype_int, ctype_pointer, ctype_array, ctype_struct, ctype_function)
