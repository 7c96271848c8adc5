-- The value of an expression points to a block that was made, so that memory behind a store is that of the objects.
use Rattle.std.proofs.Common.{ℕ, ℤ, pos, ◌≡◌, ◌<◌, ◌==◌, Bool, true, false, cond, zero, suc, arith, List, [], ◌∷◌, length, slice_get, Some, refl, sym, subst}
use Rattle.c_syntax.specs.Types.{ObjectTree}
use Rattle.c_syntax.specs.declared.operator.Comparison.{Comparison}
use Rattle.c_syntax.specs.declared.operator.TUnaryOp.{TUnaryOp}
use Rattle.c_syntax.specs.declared.operator.TUnaryOp.TheVariants as unaries
use Rattle.c_syntax.specs.declared.operator.TBinaryOp.{TBinaryOp}
use Rattle.c_syntax.specs.declared.operator.TBinaryOp.TheVariants as binaries
use Rattle.c_syntax_written.specs.declared.int_type.IntType.{IntType}
use Rattle.block_mem.specs.declared.types.Scalar.{Scalar}
use Rattle.block_mem.specs.declared.types.Scalar.TheVariants as scalars
use Rattle.block_mem.specs.declared.types.Value.{Value}
use Rattle.block_mem.specs.declared.types.Value.TheVariants as values
use Rattle.block_mem.specs.Bytes.{IsOf, size_of as scalar_size}
use Rattle.block_mem.specs.Proper.{IsMade}
use Rattle.block_mem.proofs.StoreLaws.{passing}
use Rattle.c_values.specs.Operators.{binary_result, compare_pointers, compared, moved, unary_result}
use Rattle.c_values.specs.Places.{place_of}
use Rattle.c_values.specs.Values.{converted_to}
use Rattle.c_objects.specs.Kept.{KeepsObjects}
use Rattle.c_objects.proofs.Keeping.{keeps_objects, objects_keep}
use Rattle.c_objects.proofs.Writes.{keeps_stored}
use Rattle.csharp.specs.Trees.{CsExprTree, Address, Binary, Const, Convert, Null, Temp, Unary}
use Rattle.csharp.specs.States.{State, value_of}
use Rattle.csharp.specs.Actions as acts
use Rattle.mem_cell_exprs.specs.Known.{StandsFor}
use Rattle.mem_cell_exprs.specs.declared.known.Known.{Known}
use Rattle.mem_cell_exprs.proofs.Acts.{store-is}
use Rattle.mem_cell_exprs.proofs.Nodes.{both-values}
use Rattle.mem_cell_exprs.proofs.Options.{map-some, then-some}
use Rattle.mem_cell_loads.proofs.Leads.{alive-made}

-- there is a type for each temporary
some-place : {X Y : Type 0} (xs : List X) (ys : List Y) (i : ℕ) (x : X) → length xs ≡ length ys → slice_get xs i ≡ Some x → (y : Y) × (slice_get ys i ≡ Some y)
some-place [] ys i x l h = cc
some-place (z ∷ xs) [] i x l h = absurd (omega (arith, l))
some-place (z ∷ xs) (y ∷ ys) zero x l h = (y, refl)
some-place (z ∷ xs) (y ∷ ys) (suc i) x l h = some-place xs ys i x (omega (arith, l)) h

module _ (n : ℕ) where
  same-made : (v u : Value) → IsMade n v → Some v ≡ Some u → IsMade n u
  same-made v u m h = let same : v ≡ u = cc in subst (IsMade n) same m

  unary-made : (op : TUnaryOp) (v u : Value) → unary_result op v ≡ Some u → IsMade n u
  unary-made (unaries.Plus t) (values.Int i m) u h = same-made _ u tt h
  unary-made (unaries.Minus t) (values.Int i m) u h = same-made _ u tt h
  unary-made (unaries.Complement t) (values.Int i m) u h = same-made _ u tt h
  unary-made unaries.Not v u h = same-made _ u tt h
  unary-made op v u h = cc

  converted-made : (t : IntType) (v u : Value) → converted_to (scalars.Int t) v ≡ Some u → IsMade n u
  converted-made t (values.Int i m) u h = same-made _ u tt h
  converted-made t (values.Ptr p) u h = cc
  converted-made t values.Null u h = cc

  moved-made : (v : Value) (d : ℤ) (u : Value) → IsMade n v → moved v d ≡ Some u → IsMade n u
  moved-made (values.Ptr p) d u m h = same-made _ u m h
  moved-made values.Null d u m h = same-made values.Null u tt h
  moved-made (values.Int t k) d u m h = cc

  either-made : (b : Bool) (c : Comparison) (i j k l : ℤ) (u : Value) → cond b (compared c i j) (compared c k l) ≡ Some u → IsMade n u
  either-made true c i j k l u h = same-made _ u tt h
  either-made false c i j k l u h = same-made _ u tt h

  compared-made : (c : Comparison) (v w u : Value) → compare_pointers c v w ≡ Some u → IsMade n u
  compared-made c (values.Ptr p) (values.Ptr q) u h = either-made (p.block == q.block) c p.offset q.offset (pos 0) (pos 1) u h
  compared-made c (values.Ptr p) values.Null u h = same-made _ u tt h
  compared-made c values.Null (values.Ptr q) u h = same-made _ u tt h
  compared-made c values.Null values.Null u h = same-made _ u tt h
  compared-made c v w u h = cc

  binary-made : (op : TBinaryOp) (v w u : Value) → IsMade n v → IsMade n w → binary_result op v w ≡ Some u → IsMade n u
  binary-made (binaries.Arithmetic op t) (values.Int i a) (values.Int j b) u f g h = same-made _ u tt h
  binary-made (binaries.Shift way t) (values.Int i a) (values.Int j b) u f g h = same-made _ u tt h
  binary-made (binaries.CompareInts c t) (values.Int i a) (values.Int j b) u f g h = same-made _ u tt h
  binary-made (binaries.ComparePointers c) v w u f g h = compared-made c v w u h
  binary-made (binaries.PointerPlusInt element) v (values.Int t k) u f g h = moved-made v _ u f h
  binary-made (binaries.IntPlusPointer element) (values.Int t k) w u f g h = moved-made w _ u g h
  binary-made (binaries.PointerMinusInt element) v (values.Int t k) u f g h = moved-made v _ u f h
  binary-made (binaries.PointerMinusPointer element) (values.Ptr p) (values.Ptr q) u f g h = same-made _ u tt h
  binary-made op v w u f g h = cc

  value-made : (s : State) → ((d : ℕ) (u : Value) → slice_get s.temps d ≡ Some u → IsMade n u) → ((x b : ℕ) → place_of s.memory x ≡ Some b → b < n)
      → (e : CsExprTree) (u : Value) → value_of e s ≡ Some u → IsMade n u
  value-made s temps places (Const t k) u h = same-made _ u tt h
  value-made s temps places Null u h = same-made values.Null u tt h
  value-made s temps places (Temp d) u h = temps d u h
  value-made s temps places (Address x) u h =
      let f = map-some (λ (b : ℕ). values.Ptr (record { block = b; offset = pos 0 })) (place_of s.memory x) u h in
      subst (IsMade n) (sym f.2) (places x f.0 f.1)
  value-made s temps places (Unary op e) u h = let g = then-some (unary_result op) (value_of e s) u h in unary-made op g.0 u g.2
  value-made s temps places (Binary op e f) u h =
      let r = both-values op e f s u h in
      binary-made op r.0 r.1 u (value-made s temps places e r.0 r.2) (value-made s temps places f r.1 r.3) r.5
  value-made s temps places (Convert t e) u h = let g = then-some (converted_to (scalars.Int t)) (value_of e s) u h in converted-made t g.0 u g.2

-- memory behind a store of a value of the type stays that of the objects
pub store-kept : {D : Type 0} (admits : D → List ℤ → Type 0) (k : Known D) (ty : Scalar) (e f : CsExprTree) (objects : List ObjectTree) (s t : State) → StandsFor admits objects k s
    → ((u : Value) → value_of f s ≡ Some u → IsOf ty u) → acts.store ty e f s ≡ Some t → KeepsObjects objects t.memory
store-kept admits k ty e f objects s t st typed h =
    let r = store-is ty e f s t h in
    let p = r.stores.at in
    let pass = passing s.memory.blocks p (scalar_size ty) (scalar_size ty) false r.stores.passes in
    let to = subst (IsMade (length s.memory.blocks)) (sym r.stores.pointer) (alive-made s.memory p.block pass.live) in
    let own = value-made (length s.memory.blocks) s (λ d u is. let ty = some-place s.temps k.types d u st.long is in (st.typed d ty.0 u ty.1 is).1) (λ x b is. (st.kept.placed x b is).made)
    f r.value r.given in
    subst (λ (x : State). KeepsObjects objects x.memory) (sym r.after)
    (keeps_objects ⊥ objects r.memory (keeps_stored ⊥ objects s.memory (objects_keep objects s.memory st.kept) ty r.address r.value r.memory to (typed r.value r.given) own r.step))
