-- Expressions whose values are pointers.
use Rattle.std.proofs.Common.{◌≡◌, List, ℤ, neg_ℤ, pos, Some}
use Rattle.std.specs.Prelude.{ℕ, slice_get}
use Rattle.c_syntax.specs.declared.operator.TBinaryOp.{TBinaryOp}
use Rattle.c_syntax.specs.declared.operator.TBinaryOp.TheVariants as binaries
use Rattle.block_mem.specs.declared.types.Scalar.{Scalar}
use Rattle.block_mem.specs.declared.types.Scalar.TheVariants as scalars
use Rattle.block_mem.specs.declared.types.Pointer.{Pointer}
use Rattle.block_mem.specs.declared.types.Value.{Value}
use Rattle.block_mem.specs.declared.types.Value.TheVariants as values
use Rattle.c_values.specs.Operators.{binary_result, elements, moved}
use Rattle.c_values.specs.Places.{place_of}
use Rattle.csharp.specs.Trees.{Address, Binary, CsExprTree, Null, Temp}
use Rattle.mem_cell_exprs.proofs.Nodes.{both-values}
use Rattle.mem_cell_exprs.proofs.Options.{map-some}
use Rattle.block_mem.specs.Bytes.{IsOf}
use Rattle.mem_cell_shows.specs.Addresses.{IsAddress, IsAddressFor, Moves}

of-pointer : (u : Value) → IsOf scalars.Pointer u → IsAddress u
of-pointer (values.Int t n) h = absurd h
of-pointer (values.Ptr p) h = tt
of-pointer values.Null h = tt

pub temp-address : (types : List Scalar) (d : ℕ) → slice_get types d ≡ Some scalars.Pointer → IsAddressFor types (Temp d)
temp-address types d is v s u n h = of-pointer u (n.typed d scalars.Pointer u is h)

pub null-address : (types : List Scalar) → IsAddressFor types Null
null-address types v s u n h = by u h where
  by : (u : Value) → Some values.Null ≡ Some u → IsAddress u
  by (values.Int t n) e = cc
  by (values.Ptr p) e = tt
  by values.Null e = tt

pointer-address : (p : Pointer) (u : Value) → u ≡ values.Ptr p → IsAddress u
pointer-address p (values.Int t n) e = cc
pointer-address p (values.Ptr q) e = tt
pointer-address p values.Null e = tt

pub object-address : (types : List Scalar) (x : ℕ) → IsAddressFor types (Address x)
object-address types x v s u n h =
    let m = map-some (λ b. values.Ptr (record { block = b; offset = pos 0 })) (place_of s.memory x) u h in
    pointer-address (record { block = m.0; offset = pos 0 }) u m.2

moved-address : (a u : Value) (d : ℤ) → moved a d ≡ Some u → IsAddress u
moved-address (values.Int t n) u d h = cc
moved-address (values.Ptr p) (values.Int t n) d h = cc
moved-address (values.Ptr p) (values.Ptr q) d h = tt
moved-address (values.Ptr p) values.Null d h = tt
moved-address values.Null (values.Int t n) d h = cc
moved-address values.Null (values.Ptr q) d h = tt
moved-address values.Null values.Null d h = tt

-- an operator that moves a pointer gives one
result-address : (op : TBinaryOp) (a b u : Value) → Moves op → binary_result op a b ≡ Some u → IsAddress u
result-address (binaries.PointerPlusInt element) a (values.Int t n) u m h = moved-address a u (elements element n) h
result-address (binaries.PointerPlusInt element) a (values.Ptr p) u m h = cc
result-address (binaries.PointerPlusInt element) a values.Null u m h = cc
result-address (binaries.IntPlusPointer element) (values.Int t n) b u m h = moved-address b u (elements element n) h
result-address (binaries.IntPlusPointer element) (values.Ptr p) b u m h = cc
result-address (binaries.IntPlusPointer element) values.Null b u m h = cc
result-address (binaries.PointerMinusInt element) a (values.Int t n) u m h = moved-address a u (neg_ℤ (elements element n)) h
result-address (binaries.PointerMinusInt element) a (values.Ptr p) u m h = cc
result-address (binaries.PointerMinusInt element) a values.Null u m h = cc
result-address (binaries.Arithmetic op t) a b u m h = absurd m
result-address (binaries.Shift way t) a b u m h = absurd m
result-address (binaries.CompareInts c t) a b u m h = absurd m
result-address (binaries.ComparePointers c) a b u m h = absurd m
result-address (binaries.PointerMinusPointer element) a b u m h = absurd m

pub move-address : (types : List Scalar) (op : TBinaryOp) (e f : CsExprTree) → Moves op → IsAddressFor types (Binary op e f)
move-address types op e f m v s u n h = let r = both-values op e f s u h in result-address op r.0 r.1 u m r.5
