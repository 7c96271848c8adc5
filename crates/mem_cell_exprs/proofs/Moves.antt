-- Pointers, node by node: what they point to, and their offset.
use Rattle.std.proofs.Common.{ℕ, ℤ, pos, neg_ℤ, ◌≡◌, ◌+ℤ◌, ◌-ℤ◌, ◌*ℤ◌, Bool, true, false, List, [], ◌∷◌, Option, Some, None, slice_get, refl, sym, ap, subst, ◌∙◌, arith}
use Rattle.std.proofs.lemmas.Int.{ints}
use Rattle.c_syntax_written.specs.declared.int_type.IntType.{IntType}
use Rattle.c_syntax_written.specs.declared.int_type.IntType.TheVariants as ints_of
use Rattle.c_syntax_written.specs.Integer.{HasNumber}
use Rattle.c_syntax.specs.declared.operator.TBinaryOp.TheVariants as binaries
use Rattle.c_syntax.specs.Types.{ObjectTree}
use Rattle.ext_int.specs.Valuation.{value_at}
use Rattle.num_api.specs.declared.expr.NOp.{NOp}
use Rattle.num_api.specs.declared.expr.NOp.TheVariants as ops
use Rattle.num_api.specs.Value.{binary_value}
use Rattle.pointsets.specs.declared.Base.TheVariants.{Null as NullBase, Object}
use Rattle.pointsets.specs.Targets.{BaseSet, Among, has_base, has_name, with_base}
use Rattle.pointsets.proofs.Names.{is-eq}
use Rattle.block_mem.specs.declared.types.Value.{Value}
use Rattle.block_mem.specs.declared.types.Value.TheVariants as values
use Rattle.c_values.specs.Places.{ObjectMemory, place_of, owner_of}
use Rattle.c_values.specs.Operators.{binary_result, moved, elements}
use Rattle.machine_nums.specs.MExprs.{MExprTree, type_of}
use Rattle.machine_nums.specs.MExprs as numbers
use Rattle.machine_nums.specs.Machine.{exact_value, wrapped_value, machine_value}
use Rattle.machine_nums.specs.Machines.{Admits}
use Rattle.machine_nums.proofs.Values.{wrapped-has}
use Rattle.csharp.specs.Trees.{CsExprTree, Null, Temp, Address, Binary}
use Rattle.csharp.specs.States.{State, value_of}
use Rattle.mem_cell_bytes.specs.Cells.{temp_var, HasBlock, Points, number_of}
use Rattle.mem_cell_exprs.specs.Exprs.{AreNumbered}
use Rattle.mem_cell_exprs.specs.Known.{IsMoved, IsMovedPlace, IsPlaceFor, StandsFor, moved_by}
use Rattle.mem_cell_exprs.specs.declared.known.Known.{Known}
use Rattle.mem_cell_exprs.proofs.Options.{map-some}
use Rattle.mem_cell_exprs.proofs.Nodes.{same-value, both-values, two-values}

pub zero-offset : (v : List ℤ) → machine_value v (numbers.Const ints_of.Long (pos 0)) ≡ Some (pos 0)
zero-offset v = ap Some (wrapped-has ints_of.Long (pos 0) (omega (arith, ints)))

-- ---- a move of a pointer

moved-points : (set : BaseSet) (m : ObjectMemory) (a u : Value) (d : ℤ) → Points m set a → moved a d ≡ Some u → Points m set u
moved-points set m (values.Int t n) u d h is = cc
moved-points set m (values.Ptr p) u d h is =
    subst (Points m set) (sym (same-value (values.Ptr (record p { offset = p.offset +ℤ d })) u is)) h
moved-points set m values.Null u d h is = subst (Points m set) (sym (same-value values.Null u is)) h

moved-number : (set : BaseSet) (m : ObjectMemory) (a u : Value) (d : ℤ) → has_base set NullBase ≡ false → Points m set a → moved a d ≡ Some u → number_of u ≡ number_of a +ℤ d
moved-number set m (values.Int t n) u d none h is = cc
moved-number set m (values.Ptr p) u d none h is = ap number_of (same-value (values.Ptr (record p { offset = p.offset +ℤ d })) u is)
moved-number set m values.Null u d none h is = let no : true ≡ false = sym h ∙ none in cc

-- ---- moves by numbers

pub is-moved : (A : List ℤ → Type 0) (element : ℕ) (back : Bool) (way : NOp) (offset index : MExprTree) → ((k by : ℤ) → binary_value way k by ≡ Some (moved_by back k by))
    → HasNumber ints_of.Long (pos element)
    → ((v : List ℤ) (n : ℤ) → A v → exact_value v (numbers.Binary ops.Mul ints_of.Long (numbers.Const ints_of.Long (pos element)) index) ≡ Some n → HasNumber ints_of.Long n)
    → ((v : List ℤ) (n : ℤ) → A v → exact_value v (numbers.Binary way ints_of.Long offset (numbers.Binary ops.Mul ints_of.Long (numbers.Const ints_of.Long (pos element)) index)) ≡ Some n → HasNumber ints_of.Long n)
    → IsMoved A element back offset index (numbers.Binary way ints_of.Long offset (numbers.Binary ops.Mul ints_of.Long (numbers.Const ints_of.Long (pos element)) index))
is-moved A element back way offset index law small product sum = λ v k n a at by.
    let one : machine_value v (numbers.Const ints_of.Long (pos element)) ≡ Some (pos element) = ap Some (wrapped-has ints_of.Long (pos element) small) in
    let bytes = numbers.Binary ops.Mul ints_of.Long (numbers.Const ints_of.Long (pos element)) index in
    let exact : exact_value v bytes ≡ Some (pos element *ℤ n) =
    two-values (binary_value ops.Mul) (machine_value v (numbers.Const ints_of.Long (pos element))) (machine_value v index) (pos element) n one by in
    let times : machine_value v bytes ≡ Some (pos element *ℤ n) = ap (wrapped_value ints_of.Long) exact ∙ ap Some (wrapped-has ints_of.Long (pos element *ℤ n) (product v (pos element *ℤ n) a exact)) in
    let all : exact_value v (numbers.Binary way ints_of.Long offset bytes) ≡ Some (moved_by back k (pos element *ℤ n)) =
    two-values (binary_value way) (machine_value v offset) (machine_value v bytes) k (pos element *ℤ n) at times ∙ law k (pos element *ℤ n) in
    ap (wrapped_value ints_of.Long) all ∙ ap Some (wrapped-has ints_of.Long (moved_by back k (pos element *ℤ n)) (sum v (moved_by back k (pos element *ℤ n)) a all))

pub add-moves : (k by : ℤ) → binary_value ops.Add k by ≡ Some (moved_by false k by)
add-moves k by = refl

pub sub-moves : (k by : ℤ) → binary_value ops.Sub k by ≡ Some (moved_by true k by)
sub-moves k by = ap Some (let e : k -ℤ by ≡ k +ℤ neg_ℤ by = omega (arith, ints) in e)

module _ {D : Type 0} (admits : D → List ℤ → Type 0) (k : Known D) where
  pub numbered-of : (objects : List ObjectTree) (s : State) (st : StandsFor admits objects k s) → AreNumbered k.types st.v s
  numbered-of objects s st = record { typed = λ d ty u is got. (st.typed d ty u is got).0; number = st.number }

  -- ---- leaves

  pub null-place : IsPlaceFor admits k Null (with_base (Among [] false false) NullBase) (Some (numbers.Const ints_of.Long (pos 0)))
  null-place objects s st u h =
      subst (λ x. Points s.memory (Among [] true false) x × (machine_value st.v (numbers.Const ints_of.Long (pos 0)) ≡ Some (number_of x)))
      (sym (same-value values.Null u h)) (refl, zero-offset st.v)

  pub address-place : (x : ℕ) → IsPlaceFor admits k (Address x) (with_base (Among [] false false) (Object x)) (Some (numbers.Const ints_of.Long (pos 0)))
  address-place x objects s st u h =
      let set : BaseSet = with_base (Among [] false false) (Object x) in
      let f = map-some (λ (b : ℕ). values.Ptr (record { block = b; offset = pos 0 })) (place_of s.memory x) u h in
      let p = st.kept.placed x f.0 f.1 in
      let name : has_name (x ∷ []) (owner_of s.memory f.0) ≡ true = ap (has_name (x ∷ [])) p.owner ∙ rw (is-eq x x refl) refl in
      let has : HasBlock s.memory set f.0 = record { live = λ q. name; dead = λ q. let no : true ≡ false = sym p.live ∙ q in cc } in
      subst (λ y. Points s.memory set y × (machine_value st.v (numbers.Const ints_of.Long (pos 0)) ≡ Some (number_of y))) (sym f.2) (has, zero-offset st.v)

  pub temp-points : (d : ℕ) (set : BaseSet) → slice_get k.pointers d ≡ Some (Some set) → IsPlaceFor admits k (Temp d) set None
  temp-points d set has objects s st u h = (st.points d set u has h, tt)

  pub temp-place : (d : ℕ) (set : BaseSet) → slice_get k.pointers d ≡ Some (Some set)
      → ((v : List ℤ) (n : ℤ) → Admits admits k.nums v → exact_value v (numbers.Read (temp_var d) ints_of.Long) ≡ Some n → HasNumber ints_of.Long n)
      → IsPlaceFor admits k (Temp d) set (Some (numbers.Read (temp_var d) ints_of.Long))
  temp-place d set has fits objects s st u h =
      (st.points d set u has h, ap Some (wrapped-has ints_of.Long (value_at st.v (temp_var d)) (fits st.v (value_at st.v (temp_var d)) st.admitted refl) ∙ st.number d u h))

  -- ---- moves

  -- what a move takes where it has a value: a pointer and a number of elements
  pub record Moves (back : Bool) (element : ℕ) (e f : CsExprTree) (s : State) (u : Value) : Type 0 where
    pub pointer : Value
    pub ty : IntType
    pub count : ℤ
    pub is : value_of e s ≡ Some pointer
    pub by : value_of f s ≡ Some (values.Int ty count)
    pub to : moved pointer (moved_by back (pos 0) (elements element count)) ≡ Some u

  pub move-place : (back : Bool) (element : ℕ) (whole e f : CsExprTree) (set : BaseSet) (from to : Option MExprTree)
      → ((s : State) (u : Value) → value_of whole s ≡ Some u → Moves back element e f s u)
      → IsPlaceFor admits k e set from → IsMovedPlace (Admits admits k.nums) k.types f element back set from to → IsPlaceFor admits k whole set to
  move-place back element whole e f set from None parts p m objects s st u h =
      let r = parts s u h in
      (moved-points set s.memory r.pointer u (moved_by back (pos 0) (elements element r.count)) (p objects s st r.pointer r.is).0 r.to, tt)
  move-place back element whole e f set None (Some n) parts p m objects s st u h = absurd m.1
  move-place back element whole e f set (Some o) (Some n) parts p known objects s st u h =
      let none = known.0 in let i = known.1.0 in let number = known.1.1 in let law = known.1.2 in
      let r = parts s u h in
      let a = p objects s st r.pointer r.is in
      let b = number st.v s (numbered-of objects s st) (values.Int r.ty r.count) r.by in
      let count_is : machine_value st.v i ≡ Some r.count = b.2 ∙ ap Some (same-number (type_of i) r.ty b.0 r.count b.1) in
      let d = moved_by back (pos 0) (elements element r.count) in
      let is : number_of u ≡ number_of r.pointer +ℤ d = moved-number set s.memory r.pointer u d none a.0 r.to in (
        moved-points set s.memory r.pointer u d a.0 r.to,
        law st.v (number_of r.pointer) r.count st.admitted a.1 count_is ∙ ap Some (from-zero back (number_of r.pointer) (elements element r.count) ∙ sym is),
      )
    where
      same-number : (t j : IntType) (x y : ℤ) → values.Int j y ≡ values.Int t x → x ≡ y
      same-number t j x y h = cc

      from-zero : (back : Bool) (x y : ℤ) → moved_by back x y ≡ x +ℤ moved_by back (pos 0) y
      from-zero false x y = omega (arith, ints)
      from-zero true x y = omega (arith, ints)

  some-moved : (element : ℕ) (a b u : Value) → binary_result (binaries.PointerPlusInt element) a b ≡ Some u → (t : IntType) × (n : ℤ) × (b ≡ values.Int t n) × (moved a (elements element n) ≡ Some u)
  some-moved element a (values.Int t n) u h = (t, n, refl, h)
  some-moved element a (values.Ptr p) u h = cc
  some-moved element a values.Null u h = cc

  pub plus-parts : (element : ℕ) (e f : CsExprTree) (s : State) (u : Value) → value_of (Binary (binaries.PointerPlusInt element) e f) s ≡ Some u → Moves false element e f s u
  plus-parts element e f s u h =
      let r = both-values (binaries.PointerPlusInt element) e f s u h in
      let m = some-moved element r.0 r.1 u r.5 in
      let zero : elements element m.1 ≡ moved_by false (pos 0) (elements element m.1) = omega (arith, ints) in
      record { pointer = r.0; ty = m.0; count = m.1; is = r.2; by = r.3 ∙ ap Some m.2; to = ap (moved r.0) (sym zero) ∙ m.3 }

  turned-moved : (element : ℕ) (a b u : Value) → binary_result (binaries.IntPlusPointer element) a b ≡ Some u → (t : IntType) × (n : ℤ) × (a ≡ values.Int t n) × (moved b (elements element n) ≡ Some u)
  turned-moved element (values.Int t n) b u h = (t, n, refl, h)
  turned-moved element (values.Ptr p) b u h = cc
  turned-moved element values.Null b u h = cc

  pub turned-parts : (element : ℕ) (e f : CsExprTree) (s : State) (u : Value) → value_of (Binary (binaries.IntPlusPointer element) f e) s ≡ Some u → Moves false element e f s u
  turned-parts element e f s u h =
      let r = both-values (binaries.IntPlusPointer element) f e s u h in
      let m = turned-moved element r.0 r.1 u r.5 in
      let zero : elements element m.1 ≡ moved_by false (pos 0) (elements element m.1) = omega (arith, ints) in
      record { pointer = r.1; ty = m.0; count = m.1; is = r.3; by = r.2 ∙ ap Some m.2; to = ap (moved r.1) (sym zero) ∙ m.3 }

  back-moved : (element : ℕ) (a b u : Value) → binary_result (binaries.PointerMinusInt element) a b ≡ Some u → (t : IntType) × (n : ℤ) × (b ≡ values.Int t n) × (moved a (neg_ℤ (elements element n)) ≡ Some u)
  back-moved element a (values.Int t n) u h = (t, n, refl, h)
  back-moved element a (values.Ptr p) u h = cc
  back-moved element a values.Null u h = cc

  pub minus-parts : (element : ℕ) (e f : CsExprTree) (s : State) (u : Value) → value_of (Binary (binaries.PointerMinusInt element) e f) s ≡ Some u → Moves true element e f s u
  minus-parts element e f s u h =
      let r = both-values (binaries.PointerMinusInt element) e f s u h in
      let m = back-moved element r.0 r.1 u r.5 in
      let zero : neg_ℤ (elements element m.1) ≡ moved_by true (pos 0) (elements element m.1) = omega (arith, ints) in
      record { pointer = r.0; ty = m.0; count = m.1; is = r.2; by = r.3 ∙ ap Some m.2; to = ap (moved r.0) (sym zero) ∙ m.3 }
