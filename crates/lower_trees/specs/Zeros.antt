-- What an initialiser leaves becomes 0: a store for each scalar of which no item names a byte, and one of unsigned char for each other byte that none names.
use Rattle.std.specs.Prelude.{ℕ, zero, suc, pred, pos, ◌+◌, ◌-◌, ◌%◌, ◌==◌, nat_le, Bool, true, ◌&&◌, not, if◌then◌else◌, List, [], ◌∷◌, length, Option, Some, None, option_and_then, unwrap_or, slice_get}
use Rattle.c_syntax_written.specs.declared.int_type.IntType.TheVariants as ints
use Rattle.c_syntax.specs.Types.{CTypeTree, Void, Int, Pointer, Array, Struct, Function}
use Rattle.c_syntax.specs.Program.{MemberTree, StructDefTree, TProgramTree}
use Rattle.c_layout.specs.Layout.{members_of, size_in}
use Rattle.block_mem.specs.declared.types.Scalar.{Scalar}
use Rattle.block_mem.specs.declared.types.Scalar.TheVariants as scalars
use Rattle.block_mem.specs.Bytes.{size_of}
use Rattle.csharp.specs.Trees.{CsExprTree, Const, Null, Store, CsStmtTrees, more}
use Rattle.lower_trees.specs.Checking.{address_at}

-- ---- the scalar that begins at a byte of a type

-- if a scalar begins at its own first byte
abbrev pub at_first : ℕ → Scalar → Option Scalar
at_first zero ty = Some ty
at_first (suc k) ty = None

-- of a type, where it is given which begin in structs
abbrev pub scalar_by : (ℕ → ℕ → Option Scalar) → List StructDefTree → CTypeTree → ℕ → Option Scalar
scalar_by struct structs Void k = None
scalar_by struct structs (Int t) k = at_first k (scalars.Int t)
scalar_by struct structs (Pointer to is_const) k = at_first k scalars.Pointer
scalar_by struct structs (Array of is_const n) k = scalar_by struct structs of (k % unwrap_or (size_in structs of) 1)
scalar_by struct structs (Struct n) k = struct n k
scalar_by struct structs (Function n) k = None

-- the last of these members that begins at a byte or before it, or another one
abbrev pub member_before : ℕ → Option MemberTree → List MemberTree → Option MemberTree
member_before k found [] = found
member_before k found (m ∷ ms) = member_before k (if nat_le m.offset k then Some m else found) ms

-- of a struct, where structs stand in one another at most so deep
abbrev pub scalar_within : ℕ → List StructDefTree → ℕ → ℕ → Option Scalar
scalar_within zero structs n k = None
scalar_within (suc depth) structs n k =
    option_and_then (λ m. scalar_by (scalar_within depth structs) structs m.ty (k - m.offset)) (member_before k None (members_of structs n))

abbrev pub scalar_from : List StructDefTree → CTypeTree → ℕ → Option Scalar
scalar_from structs ty k = scalar_by (scalar_within (length structs) structs) structs ty k

abbrev pub object_scalars : TProgramTree → ℕ → ℕ → Option Scalar
object_scalars p x k = option_and_then (λ o. scalar_from p.structs o.ty k) (slice_get p.objects x)

-- ---- stores

-- of so many bytes from one on none is named
abbrev pub none_named : (ℕ → Bool) → ℕ → ℕ → Bool
none_named named k zero = true
none_named named k (suc n) = none_named named k n && not (named (k + n))

-- a scalar at a byte has room, stands at a multiple of its size, and none of its bytes is named
abbrev pub is_free : (ℕ → Bool) → ℕ → ℕ → Scalar → Bool
is_free named k left ty = nat_le (size_of ty) left && (k % size_of ty == 0) && none_named named k (size_of ty)

abbrev pub free_or_byte : (ℕ → Bool) → ℕ → ℕ → Option Scalar → Scalar
free_or_byte named k left None = scalars.Int ints.UChar
free_or_byte named k left (Some ty) = if is_free named k left ty then ty else scalars.Int ints.UChar

abbrev pub zero_term : Scalar → CsExprTree
zero_term (scalars.Int t) = Const t (pos 0)
zero_term scalars.Pointer = Null

-- the bytes from one on, so many, of which the first ones became 0 with one before them; in front of other items
abbrev pub zero_cells : (ℕ → Option Scalar) → (ℕ → Bool) → ℕ → ℕ → ℕ → ℕ → CsStmtTrees → CsStmtTrees
zero_cells at named x k skip zero rest = rest
zero_cells at named x k (suc skip) (suc left) rest = zero_cells at named x (suc k) skip left rest
zero_cells at named x k zero (suc left) rest =
    if named k then zero_cells at named x (suc k) zero left rest
    else more (Store (free_or_byte named k (suc left) (at k)) (address_at x k) (zero_term (free_or_byte named k (suc left) (at k))))
    (zero_cells at named x (suc k) (pred (size_of (free_or_byte named k (suc left) (at k)))) left rest)
