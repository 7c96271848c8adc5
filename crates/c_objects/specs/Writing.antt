-- Stores, copies, and what is left of an initialiser.
use Rattle.std.specs.Prelude.{◌≡◌, ℕ, zero, suc, pos, ◌+◌, ◌≤◌, nat_le, nat_lt, Bool, false, ◌&&◌, ◌||◌, if◌then◌else◌, List, [], ◌∷◌, length, map, Option, Some, None}
use Rattle.std.specs.Prelude.{option_map}
use Rattle.c_syntax_written.specs.declared.int_type.IntType.TheVariants as ints
use Rattle.c_syntax.specs.declared.alarm.WrongKind.{WrongKind}
use Rattle.c_syntax.specs.TypedStmt.{TInitTree, Store, Copy}
use Rattle.c_layout.specs.Checks.{scalar_bytes}
use Rattle.block_mem.specs.declared.types.Scalar.{Scalar}
use Rattle.block_mem.specs.declared.types.Value.{Value}
use Rattle.block_mem.specs.declared.types.Value.TheVariants as values
use Rattle.block_mem.specs.Block.{BlockView}
use Rattle.block_mem.specs.Blocks.{block_at, store, copy, wrong_access}
use Rattle.block_mem.specs.Bytes.{size_of}
use Rattle.c_values.specs.Places.{ObjectMemory, place_of}
use Rattle.c_objects.specs.declared.initial.NamedBytes.{NamedBytes}

-- the memory with other blocks
abbrev pub with_blocks : ObjectMemory → List BlockView → ObjectMemory
with_blocks m blocks = record m { blocks = blocks }

abbrev pub unless_wrong : Option WrongKind → Option ObjectMemory → Option ObjectMemory
unless_wrong None m = m
unless_wrong (Some kind) m = None

-- memory after a value of a type was stored. What memory refuses for another reason than the read-only mark gives nothing; an initialiser may write what is
-- read-only
abbrev pub stored_at : ObjectMemory → Scalar → Value → Value → Option ObjectMemory
stored_at m ty (values.Ptr p) v = unless_wrong (wrong_access m.blocks p (size_of ty) (size_of ty) false) (Some (with_blocks m (store m.blocks p v)))
stored_at m ty place v = None

-- memory after so many bytes were copied (C11 6.5.16.1, this profile)
abbrev pub copied_at : ObjectMemory → Value → Value → ℕ → Option ObjectMemory
copied_at m (values.Ptr to) (values.Ptr from) n =
    unless_wrong (wrong_access m.blocks from n 1 false) (unless_wrong (wrong_access m.blocks to n 1 false) (Some (with_blocks m (copy m.blocks to from n))))
copied_at m to from n = None

-- the bytes that an item of an initialiser names
abbrev pub named_by : TInitTree → NamedBytes
named_by (Store offset ty value) = record { first = offset; count = scalar_bytes ty }
named_by (Copy offset extent source) = record { first = offset; count = extent.size }

-- a byte of the object is one of those
abbrev pub names_byte : NamedBytes → ℕ → Bool
names_byte named k = nat_le named.first k && nat_lt k (named.first + named.count)

abbrev pub are_named : List NamedBytes → ℕ → Bool
are_named [] k = false
are_named (named ∷ rest) k = names_byte named k || are_named rest k

-- a byte of the object is one that an item of its initialiser names (C11 6.7.9p10 and p21)
abbrev pub is_named : List TInitTree → ℕ → Bool
is_named inits = are_named (map named_by inits)

-- none of these begins before a byte, nor before the one that it follows
abbrev pub Rise : ℕ → List NamedBytes → Type 0
Rise low [] = Unit {0}
Rise low (named ∷ rest) = (low ≤ named.first) × Rise named.first rest

-- of the bytes from one on the two lists name the same
abbrev pub NameSame : ℕ → List NamedBytes → List NamedBytes → Type 0
NameSame from these those = (k : ℕ) → from ≤ k → are_named these k ≡ are_named those k

-- a byte of a block becomes 0
abbrev pub zero_at : ℕ → ℕ → List BlockView → List BlockView
zero_at b k m = store m (record { block = b; offset = pos k }) (values.Int ints.UChar (pos 0))

abbrev pub zero_byte : (ℕ → Bool) → ℕ → ℕ → List BlockView → List BlockView
zero_byte named b k m = if named k then m else zero_at b k m

-- of the first bytes of a block those that are not named become 0, each by a store
abbrev pub zeroed : (ℕ → Bool) → ℕ → ℕ → List BlockView → List BlockView
zeroed named b zero m = m
zeroed named b (suc k) m = zero_byte named b k (zeroed named b k m)

-- the rest of an object that lives, which no item of its initialiser names, becomes 0
abbrev pub rest : ObjectMemory → ℕ → List TInitTree → Option ObjectMemory
rest m x inits = option_map (λ b. with_blocks m (zeroed (is_named inits) b (length (block_at m.blocks b).bytes) m.blocks)) (place_of m x)
