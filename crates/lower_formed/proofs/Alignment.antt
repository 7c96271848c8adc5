-- Each type has an alignment of one byte or more.
use Rattle.std.proofs.Common.{ℕ, ◌≤◌, List, [], ◌∷◌, max, arith}
use Rattle.std.specs.Prelude.{fold}
use Rattle.std.proofs.Math.Nat.{le-max_left}
use Rattle.c_syntax_written.specs.declared.int_type.IntType.{IntType}
use Rattle.c_syntax_written.specs.declared.int_type.IntType.TheVariants as ints
use Rattle.c_syntax_written.specs.Integer.{bytes}
use Rattle.c_syntax.specs.Types.{CTypeTree, Void, Int, Pointer, Array, Struct, Function}
use Rattle.c_syntax.specs.Program.{StructDefTree}
use Rattle.c_layout.specs.Layout.{Space, struct_space, member_spaces, align_in}

goes_up : (a : ℕ) (spaces : List Space) → a ≤ fold (λ align space. max align space.align) a spaces
goes_up a [] = omega arith
goes_up a (m ∷ spaces) = let h = goes_up (max a m.align) spaces in let k = le-max_left a m.align in omega (arith, h, k)

struct_aligned : (spaces : List Space) → 1 ≤ (struct_space spaces).align
struct_aligned [] = omega arith
struct_aligned (first ∷ rest) = goes_up 1 (first ∷ rest)

int_aligned : (t : IntType) → 1 ≤ bytes t
int_aligned ints.Char = omega arith
int_aligned ints.SChar = omega arith
int_aligned ints.UChar = omega arith
int_aligned ints.Short = omega arith
int_aligned ints.UShort = omega arith
int_aligned ints.Int = omega arith
int_aligned ints.UInt = omega arith
int_aligned ints.Long = omega arith
int_aligned ints.ULong = omega arith
int_aligned ints.LLong = omega arith
int_aligned ints.ULLong = omega arith

pub aligned : (structs : List StructDefTree) (ty : CTypeTree) → 1 ≤ align_in structs ty
aligned structs Void = omega arith
aligned structs (Int t) = int_aligned t
aligned structs (Pointer to is_const) = omega arith
aligned structs (Array of is_const n) = aligned structs of
aligned structs (Struct n) = struct_aligned (member_spaces structs n)
aligned structs (Function n) = omega arith
