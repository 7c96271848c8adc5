-- What is loaded from cells and from equal bytes.
use Rattle.std.proofs.Common.{ℕ, ℤ, ◌≡◌, ◌+◌, ◌-◌, ◌^◌, ◌*◌, ◌<◌, ◌≤◌, true, false, List, [], replicate, Some, None, Ok, refl, sym, ap, subst, ◌∙◌, arith, inl, inr}
use Rattle.std.specs.Int.{byte_len}
use Rattle.std.proofs.Math.Nat.{mod-eq_of_lt}
use Rattle.c_syntax_written.specs.declared.int_type.IntType.{IntType}
use Rattle.c_syntax_written.specs.declared.int_type.IntType.TheVariants.{Long}
use Rattle.c_syntax_written.specs.Integer.{std_width, HasNumber}
use Rattle.c_syntax.specs.Types.{ObjectTree}
use Rattle.ext_int.specs.Valuation.{value_at}
use Rattle.pointsets.specs.declared.Base.TheVariants.{Null, Dead, Object}
use Rattle.pointsets.specs.Targets.{Among}
use Rattle.block_mem.specs.declared.types.Byte.{Byte}
use Rattle.block_mem.specs.declared.types.Byte.TheVariants.{Undef}
use Rattle.block_mem.specs.declared.types.Pointer.{Pointer}
use Rattle.block_mem.specs.declared.types.Scalar.TheVariants as scalars
use Rattle.block_mem.specs.declared.types.Value.{Value}
use Rattle.block_mem.specs.declared.types.Value.TheVariants as values
use Rattle.block_mem.specs.Blocks.{block_at, loaded}
use Rattle.block_mem.specs.Bytes.{has_undef}
use Rattle.block_mem.specs.Numbers.{number_in, number_of as bytes_number}
use Rattle.block_mem.specs.Pieces.{pieces, get_bytes}
use Rattle.block_mem.proofs.Laws.{number-low_bytes}
use Rattle.block_mem.proofs.StoreLaws.{get-get}
use Rattle.block_mem.proofs.Values.{int_size_le}
use Rattle.c_values.specs.Places.{ObjectMemory, place_of}
use Rattle.machine_nums.specs.MExprs.{MExprTree}
use Rattle.machine_nums.specs.MExprs as numbers
use Rattle.machine_nums.specs.Machine.{exact_value, machine_value}
use Rattle.machine_nums.specs.Machines.{Admits}
use Rattle.machine_nums.proofs.Values.{wrapped-has}
use Rattle.csharp.specs.States.{State}
use Rattle.mem_cell_bytes.specs.declared.entry.Entry.{Entry}
use Rattle.mem_cell_bytes.specs.declared.entry.FillByte.{FillByte}
use Rattle.mem_cell_bytes.specs.declared.entry.FillByte.TheVariants as fills
use Rattle.mem_cell_bytes.specs.Cells.{Meets, Points, bytes_in, number_of, size_of, var_of}
use Rattle.mem_cell_bytes.specs.Fills.{IsProperFill, fill_number, marked}
use Rattle.mem_cell_bytes.specs.Joins.{IsWiderSet}
use Rattle.mem_cell_bytes.proofs.Bytes.{found, load-pointer, loaded_set, size-positive}
use Rattle.mem_cell_bytes.proofs.Fills.{fill-meets}
use Rattle.mem_cell_bytes.proofs.Steps.{Some-same}
use Rattle.mem_cell_bytes.proofs.Wider.{points-wider}
use Rattle.mem_cell_exprs.specs.Known.{StandsFor}
use Rattle.mem_cell_exprs.specs.declared.known.Known.{Known}
use Rattle.mem_cell_exprs.proofs.Options.{map-some}
use Rattle.mem_cell_loads.specs.declared.found.Found.TheVariants as founds
use Rattle.mem_cell_loads.specs.Found.{IsFound, IsNumberAt, IsSetAt, bytes_from, loaded_targets}
use Rattle.mem_cell_loads.proofs.Bits.{has_bits}

pieces-number : (p : Pointer) → bytes_number (pieces p 0 8) ≡ None
unfolding pieces
pieces-number p = refl

-- bytes that meet a cell and hold a number hold the cell's
pub number-is : (m : ObjectMemory) (e : Entry) (bs : List Byte) (x : ℤ) (n : ℕ) → Meets m e bs x → has_undef bs ≡ false → bytes_number bs ≡ Some n
    → (n < 2 ^ (8 * size_of e)) × (x ≡ number_in e.ty n)
number-is m e bs x n (inl b) defined is =
    let some = size-positive e.ty in
    let no : has_undef bs ≡ true = ap has_undef b.are ∙ ap (λ k. has_undef (replicate k Undef)) some.1 in cc
number-is m e bs x n (inr (inl a)) defined is =
    let same : a.number ≡ n = Some-same a.number n (sym (ap bytes_number a.are ∙ number-low_bytes (size_of e) a.number ∙ ap (λ k. Some k) (mod-eq_of_lt a.small)) ∙ is) in
    (subst (λ k. k < 2 ^ (8 * size_of e)) same a.small, a.is ∙ ap (number_in e.ty) same)
number-is m e bs x n (inr (inr p)) defined is =
    let none : bytes_number bs ≡ None = ap bytes_number p.are ∙ pieces-number p.pointer in cc

-- an integer that is loaded from all bytes of a cell of its type is the cell's number
pub whole-number : (m : ObjectMemory) (e : Entry) (bs : List Byte) (x : ℤ) (t : IntType) (u : Value) → e.ty ≡ t → Meets m e bs x → loaded (scalars.Int t) bs ≡ Ok u
    → (u ≡ values.Int t x) × HasNumber t x
whole-number m e bs x t u ty meets h =
    let f = found (scalars.Int t) bs u h in
    let g = map-some (λ (k : ℕ). values.Int t (number_in t k)) (bytes_number bs) u f.given in
    let n = number-is m e bs x g.0 meets f.defined g.1 in
    let x_is : x ≡ number_in t g.0 = n.1 ∙ ap (λ i. number_in i g.0) ty in
    let small : g.0 < 2 ^ (8 * byte_len (std_width t)) = subst (λ (i : IntType). g.0 < 2 ^ (8 * byte_len (std_width i))) ty n.0 in
    (g.2 ∙ ap (values.Int t) (sym x_is), subst (HasNumber t) (sym x_is) (has_bits t g.0 small))

-- what is loaded as an integer is one
pub int-loaded : (t : IntType) (bs : List Byte) (u : Value) → loaded (scalars.Int t) bs ≡ Ok u → (n : ℤ) × (u ≡ values.Int t n)
int-loaded t bs u h =
    let f = found (scalars.Int t) bs u h in
    let g = map-some (λ (k : ℕ). values.Int t (number_in t k)) (bytes_number bs) u f.given in
    (number_in t g.0, g.2)

-- some bytes of a cell
pub from-cell : (m : ObjectMemory) (b : ℕ) (e : Entry) (at n : ℕ) → e.offset ≤ at → at + n ≤ e.offset + size_of e
    → bytes_from m b at n ≡ get_bytes (bytes_in m b e) (at - e.offset) n
from-cell m b e at n low high =
    let bs = (block_at m.blocks b).bytes in
    let there : at ≡ e.offset + (at - e.offset) = omega (arith, low) in
    let within : (at - e.offset) + n ≤ size_of e = omega (arith, low, high) in
    ap (λ j. get_bytes bs j n) there ∙ get-get bs e.offset (size_of e) (at - e.offset) n within

-- all bytes of a cell
pub whole-cell : (m : ObjectMemory) (b : ℕ) (e : Entry) (at n : ℕ) → e.offset ≡ at → size_of e ≡ n → bytes_from m b at n ≡ bytes_in m b e
whole-cell m b e at n place size =
    let bs = (block_at m.blocks b).bytes in
    ap (λ j. get_bytes bs j n) (sym place) ∙ ap (get_bytes bs e.offset) (sym size)

-- bytes that are all one, as a cell of a type
abbrev pub cell_of : ℕ → IntType → Entry
cell_of at t = record { offset = at; ty = t; undef = false; value = false; targets = Among [] false false }

null-wider : (x : FillByte) → IsWiderSet (loaded_set (marked x (cell_of 0 Long))) (Among [] true false)
null-wider fills.Undef Null h = refl
null-wider fills.Undef Dead h = h
null-wider fills.Undef (Object n) h = h
null-wider (fills.Num d) b h = h

module _ {D : Type 0} (admits : D → List ℤ → Type 0) (k : Known D) (o at : ℕ) where
  -- an integer, from a cell of its type
  pub cell-number : (t : IntType) (e : Entry) (x : ℕ) → x ≡ var_of o e → e.ty ≡ t → IsFound k.grid o at (byte_len (std_width t)) (founds.Cell e)
      → IsNumberAt admits k o at (scalars.Int t) (numbers.Read x t)
  cell-number t e x var ty (held, is, has) objects s st b u here given =
      let n = byte_len (std_width t) in
      let low = has.low in let high = has.high in
      let size : size_of e ≡ n = ap (λ i. byte_len (std_width i)) ty in
      let same : e.offset ≡ at = omega (arith, low, high, size) in
      let bytes = whole-cell s.memory b e at n same size in
      let y = value_at st.v (var_of o e) in
      let w = whole-number s.memory e (bytes_in s.memory b e) y t u ty (st.cell o e b (held, is, has.has, has.small) here)
      (subst (λ bs. loaded (scalars.Int t) bs ≡ Ok u) bytes given) in
      ap (λ i. machine_value st.v (numbers.Read i t)) var ∙ ap Some (wrapped-has t y w.1) ∙ ap (λ z. Some (number_of z)) (sym w.0)

  -- a pointer, from a cell
  pub pointer-loaded : (e : Entry) → IsFound k.grid o at 8 (founds.Cell e) → (objects : List ObjectTree) (s : State) (st : StandsFor admits objects k s) (b : ℕ) (u : Value)
      → place_of s.memory o ≡ Some b → loaded scalars.Pointer (bytes_from s.memory b at 8) ≡ Ok u
      → Points s.memory (loaded_set e) u × (value_at st.v (var_of o e) ≡ number_of u)
  pointer-loaded e (held, is, has) objects s st b u here given =
      let few = int_size_le e.ty in
      let low = has.low in let high = has.high in
      let eight : size_of e ≡ 8 = omega (arith, low, high, few) in
      let same : e.offset ≡ at = omega (arith, low, high, few) in
      load-pointer s.memory e (bytes_in s.memory b e) (value_at st.v (var_of o e)) u eight (st.cell o e b (held, is, has.has, has.small) here)
      (subst (λ bs. loaded scalars.Pointer bs ≡ Ok u) (whole-cell s.memory b e at 8 same eight) given)

  pub offset-number : (e : Entry) (x : ℕ) → x ≡ var_of o e
      → ((v : List ℤ) (n : ℤ) → Admits admits k.nums v → exact_value v (numbers.Read x Long) ≡ Some n → HasNumber Long n)
      → IsFound k.grid o at 8 (founds.Cell e) → IsNumberAt admits k o at scalars.Pointer (numbers.Read x Long)
  offset-number e x var fits there objects s st b u here given =
      let p = pointer-loaded e there objects s st b u here given in
      let y = value_at st.v x in
      ap Some (wrapped-has Long y (fits st.v y st.admitted refl)) ∙ ap Some (ap (value_at st.v) var ∙ p.1)

  pub cell-set : (e : Entry) → IsFound k.grid o at 8 (founds.Cell e) → IsSetAt admits k o at scalars.Pointer (loaded_targets e)
  cell-set e there objects s st b u here given = (pointer-loaded e there objects s st b u here given).0

  -- equal bytes, as a cell
  pub filled : (t : IntType) (x : FillByte) → IsProperFill x → IsFound k.grid o at (byte_len (std_width t)) (founds.Fill x)
      → (objects : List ObjectTree) (s : State) (st : StandsFor admits objects k s) (b : ℕ) → place_of s.memory o ≡ Some b
      → Meets s.memory (marked x (cell_of at t)) (bytes_from s.memory b at (byte_len (std_width t))) (fill_number x t)
  filled t x proper (held, is, are) objects s st b here =
      fill-meets s.memory b x (cell_of at t) proper (λ q low high. st.byte o q x b (held, is, are q low high) here)

  pub fill-int : (t : IntType) (d : ℕ) (m : MExprTree) → d < 256 → ((v : List ℤ) → machine_value v m ≡ Some (fill_number (fills.Num d) t))
      → IsFound k.grid o at (byte_len (std_width t)) (founds.Fill (fills.Num d)) → IsNumberAt admits k o at (scalars.Int t) m
  fill-int t d m small value there objects s st b u here given =
      let w = whole-number s.memory (marked (fills.Num d) (cell_of at t)) (bytes_from s.memory b at (byte_len (std_width t))) (fill_number (fills.Num d) t) t u refl
      (filled t (fills.Num d) small there objects s st b here) given in
      value st.v ∙ ap (λ z. Some (number_of z)) (sym w.0)

  fill-loaded : (x : FillByte) → IsProperFill x → IsFound k.grid o at 8 (founds.Fill x) → (objects : List ObjectTree) (s : State) (st : StandsFor admits objects k s) (b : ℕ) (u : Value)
      → place_of s.memory o ≡ Some b → loaded scalars.Pointer (bytes_from s.memory b at 8) ≡ Ok u
      → Points s.memory (loaded_set (marked x (cell_of at Long))) u × (fill_number x Long ≡ number_of u)
  fill-loaded fills.Undef proper there objects s st b u here given =
      load-pointer s.memory (marked fills.Undef (cell_of at Long)) (bytes_from s.memory b at 8) (fill_number fills.Undef Long) u refl (filled Long fills.Undef proper there objects s st b here) given
  fill-loaded (fills.Num d) proper there objects s st b u here given =
      load-pointer s.memory (marked (fills.Num d) (cell_of at Long)) (bytes_from s.memory b at 8) (fill_number (fills.Num d) Long) u refl (filled Long (fills.Num d) proper there objects s st b here) given

  pub fill-pointer : (d : ℕ) (m : MExprTree) → d < 256 → ((v : List ℤ) → machine_value v m ≡ Some (fill_number (fills.Num d) Long))
      → IsFound k.grid o at 8 (founds.Fill (fills.Num d)) → IsNumberAt admits k o at scalars.Pointer m
  fill-pointer d m small value there objects s st b u here given =
      value st.v ∙ ap Some (fill-loaded (fills.Num d) small there objects s st b u here given).1

  pub fill-set : (x : FillByte) → IsProperFill x → IsFound k.grid o at 8 (founds.Fill x) → IsSetAt admits k o at scalars.Pointer (Among [] true false)
  fill-set fills.Undef proper there objects s st b u here given =
      points-wider s.memory (Among [] false false) (Among [] true false) u (null-wider fills.Undef) (fill-loaded fills.Undef proper there objects s st b u here given).0
  fill-set (fills.Num d) proper there objects s st b u here given = (fill-loaded (fills.Num d) proper there objects s st b u here given).0
