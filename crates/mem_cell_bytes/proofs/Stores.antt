-- A value is stored: into a cell, beside one, or over one of which nothing is kept.
use Rattle.std.proofs.Common.{ℕ, ℤ, ◌≡◌, ◌+◌, ◌≤◌, ◌<◌, List, length, Some, refl, sym, ap, subst, ◌∙◌, inl, inr, get_or}
use Rattle.std.proofs.lemmas.Bool.{cases_eq}
use Rattle.c_syntax.specs.Types.{ObjectTree}
use Rattle.ext_int.specs.Valuation.{value_at}
use Rattle.pointsets.specs.Targets.{BaseSet}
use Rattle.block_mem.specs.declared.types.Byte.{Byte}
use Rattle.block_mem.specs.declared.types.Byte.TheVariants.{Undef}
use Rattle.block_mem.specs.declared.types.Scalar.{Scalar}
use Rattle.block_mem.specs.declared.types.Value.{Value}
use Rattle.block_mem.specs.declared.types.Value.TheVariants as values
use Rattle.block_mem.specs.Block.{BlockView}
use Rattle.block_mem.specs.Blocks.{block_at}
use Rattle.block_mem.specs.Proper.{IsMade}
use Rattle.block_mem.specs.Pieces.{stored, cut_byte}
use Rattle.block_mem.specs.Whole.{IsOutside}
use Rattle.block_mem.proofs.Whole.{get-stored_out}
use Rattle.block_mem.proofs.Laws.{length-stored}
use Rattle.block_mem.proofs.Copies.{bytes-same, block-other}
use Rattle.c_values.specs.Places.{ObjectMemory, place_of, owner_of}
use Rattle.c_objects.specs.Kept.{KeepsObjects}
use Rattle.csharp.specs.States.{State}
use Rattle.mem_cell_bytes.specs.declared.entry.FillByte.{FillByte}
use Rattle.mem_cell_bytes.specs.declared.entry.FillByte.TheVariants as fills
use Rattle.mem_cell_bytes.specs.Cells.{temp_var, var_of, Points, Meets, bytes_in, filling}
use Rattle.mem_cell_bytes.specs.Stands.{Claims, Stands}
use Rattle.mem_cell_bytes.specs.Stores.{AreAfter}
use Rattle.mem_cell_bytes.proofs.Wider.{moved, same-var}
use Rattle.mem_cell_bytes.proofs.Bytes.{after, has-same, meets-clear, bytes-here}
use Rattle.mem_cell_bytes.proofs.Steps.{length-set, Some-same}

uncut-filling : (at n q : ℕ) (f : FillByte) → cut_byte at n q (filling f) ≡ filling f
uncut-filling at n q fills.Undef = refl
uncut-filling at n q (fills.Num d) = refl

module _ (m : ObjectMemory) (c at : ℕ) (new : List Byte) (made : c < length m.blocks) where
  points-same : (set : BaseSet) (u : Value) → Points m set u → Points (after m c at new) set u
  points-same set (values.Int t n) h = tt
  points-same set (values.Ptr p) h = has-same m c at new made set p.block h
  points-same set values.Null h = h

  -- a byte outside of those that were stored, where it was no piece
  byte-out : (b q : ℕ) (f : FillByte) → (b ≡ c → IsOutside at (length new) q) → get_or (block_at m.blocks b).bytes q Undef ≡ filling f
      → get_or (block_at (after m c at new).blocks b).bytes q Undef ≡ filling f
  byte-out b q f out h = elim (cases_eq b c) [
    | inl same ↦
        ap (λ k. get_or (block_at (after m c at new).blocks k).bytes q Undef) same
        ∙ ap (λ l. get_or l q Undef) (bytes-same m.blocks c (stored (block_at m.blocks c).bytes at new) made)
        ∙ get-stored_out (block_at m.blocks c).bytes at new q (out same)
        ∙ ap (cut_byte at (length new) q) (ap (λ k. get_or (block_at m.blocks k).bytes q Undef) (sym same) ∙ h)
        ∙ uncut-filling at (length new) q f
    | inr other ↦ ap (λ (l : BlockView). get_or l.bytes q Undef) (block-other m.blocks c b (stored (block_at m.blocks c).bytes at new) other) ∙ h
  ]

  -- blocks keep their sizes
  pub length-after : (b : ℕ) → length (block_at (after m c at new).blocks b).bytes ≡ length (block_at m.blocks b).bytes
  length-after b = elim (cases_eq b c) [
    | inl same ↦
        ap (λ k. length (block_at (after m c at new).blocks k).bytes) same
        ∙ ap length (bytes-same m.blocks c (stored (block_at m.blocks c).bytes at new) made)
        ∙ length-stored (block_at m.blocks c).bytes at new
        ∙ ap (λ k. length (block_at m.blocks k).bytes) (sym same)
    | inr other ↦ ap (λ (l : BlockView). length l.bytes) (block-other m.blocks c b (stored (block_at m.blocks c).bytes at new) other)
  ]

-- an object has one place
one-place : (m : ObjectMemory) (o p b c : ℕ) → o ≡ p → place_of m o ≡ Some b → place_of m p ≡ Some c → b ≡ c
one-place m o p b c same h g = Some-same b c (sym h ∙ ap (place_of m) same ∙ g)

module _ (objects : List ObjectTree) (types : List Scalar) (A A' : List ℤ → Type 0) (k k' : Claims) (s : State) (st : Stands objects types A k s)
    (o c at : ℕ) (new : List Byte) (made : c < length s.memory.blocks) (place : place_of s.memory o ≡ Some c) where
  -- the object whose place the block is
  same-object : (x b : ℕ) → place_of s.memory x ≡ Some b → b ≡ c → x ≡ o
  same-object x b h e =
      sym (st.kept.placed x b h).owner ∙ ap (owner_of s.memory) e ∙ (st.kept.placed o c place).owner

  -- bytes are stored at a place of an object: what is still said of cells and bytes is beside them, or is what they are
  pub stored-stands : (w : List ℤ) → A' w → ((d : ℕ) → value_at w (temp_var d) ≡ value_at st.v (temp_var d))
      → KeepsObjects objects (after s.memory c at new) → at + length new ≤ length (block_at s.memory.blocks c).bytes
      → AreAfter s.memory k k' o at new st.v w (after s.memory c at new)
      → Stands objects types A' k' (record s { memory = after s.memory c at new })
  stored-stands w a temps kept room are = record {
    kept = kept;
    long = st.long;
    typed = λ d ty u is got. let t = st.typed d ty u is got in
        (t.0, subst (λ n. IsMade n u) (sym (length-set s.memory.blocks c (record (block_at s.memory.blocks c) { bytes = stored (block_at s.memory.blocks c).bytes at new }))) t.1);
    v = w;
    admitted = a;
    number = λ d u got. temps d ∙ st.number d u got;
    points = λ d set u has got. points-same s.memory c at new made set u (st.points d set u (are.pointer d set has) got);
    cell = λ q e b has h. elim (are.cell q e has) [
      | inl old ↦ subst (Meets (after s.memory c at new) e (bytes_in (after s.memory c at new) b e)) (sym old.same)
          (meets-clear s.memory c at new made e b (value_at st.v (var_of q e)) (λ same. old.far (same-object q b h same))
          (moved s.memory old.old e b (value_at st.v (var_of q old.old)) (value_at st.v (var_of q e)) old.wider (ap (value_at st.v) (same-var q old.old e old.wider)) (st.cell q old.old b old.was h)))
      | inr hit ↦
          let b_is : b ≡ c = one-place s.memory q o b c hit.object h place in
          let is : bytes_in (after s.memory c at new) b e ≡ new =
          ap (λ j. bytes_in (after s.memory c at new) j e) b_is ∙ bytes-here s.memory c at new made e hit.offset hit.size room in
          subst (λ bs. Meets (after s.memory c at new) e bs (value_at w (var_of q e))) (sym is) hit.meets
    ];
    byte = λ q i x b has h. let old = are.byte q i x has in let was = st.byte q i x b old.0 h in
        (subst (λ n. i < n) (sym (length-after s.memory c at new made b)) was.0, byte-out s.memory c at new made b i x (λ same. old.1 (same-object q b h same)) was.1);
  }
