-- Marks of loads.
use Rattle.std.proofs.Common.{ℕ, ℤ, suc, pos, negsuc, ◌≡◌, ◌≤◌, ◌+◌, ◌≤ℤ◌, Bool, true, false, List, [], ◌∷◌, Option, Some, None, option_and_then, option_map, slice_get, refl, sym, ap, subst, ◌∙◌, arith}
use Rattle.std.specs.Prelude.{IsTrue, unwrap_or}
use Rattle.std.proofs.lemmas.Int.{ints}
use Rattle.c_syntax_written.specs.declared.int_type.IntType.{IntType}
use Rattle.c_syntax.specs.Types.{ObjectTree}
use Rattle.c_syntax.specs.Operand.{LoadMark, Mark, Operand}
use Rattle.c_syntax.specs.Admission.{IsInShown, IsMarkIn}
use Rattle.pointsets.specs.declared.Base.{Base}
use Rattle.pointsets.specs.declared.Base.TheVariants.{Object}
use Rattle.pointsets.specs.Targets.{BaseSet, has_base}
use Rattle.block_mem.specs.declared.types.Byte.{Byte}
use Rattle.block_mem.specs.declared.types.Byte.TheVariants.{Frag, Num, Undef}
use Rattle.block_mem.specs.declared.types.Scalar.{Scalar}
use Rattle.block_mem.specs.declared.types.Scalar.TheVariants.{Int, Pointer}
use Rattle.block_mem.specs.declared.types.Value.{Value}
use Rattle.block_mem.specs.declared.types.Value.TheVariants as values
use Rattle.block_mem.specs.Block.{place_of as place_at}
use Rattle.block_mem.specs.Blocks.{block_at, bytes_at, place}
use Rattle.block_mem.specs.Bytes.{has_undef, mark_of, size_of}
use Rattle.block_mem.specs.Numbers.{low_first, number_of}
use Rattle.block_mem.specs.Pieces.{get_bytes}
use Rattle.c_values.specs.Accesses.{mark}
use Rattle.c_values.specs.Places.{ObjectMemory, place_of}
use Rattle.machine_nums.specs.MExprs.{MExprTree}
use Rattle.machine_nums.specs.Machine.{machine_value}
use Rattle.machine_nums.specs.Machines.{Admits}
use Rattle.csharp.specs.Trees.{CsExprTree}
use Rattle.csharp.specs.States.{State, value_of}
use Rattle.mem_cell_bytes.specs.Cells.{Points}
use Rattle.mem_cell_bytes.specs.Contents.{Contents}
use Rattle.mem_cell_exprs.specs.Known.{HasOffset, IsPlaceFor, StandsFor}
use Rattle.mem_cell_exprs.specs.declared.known.Known.{Known}
use Rattle.mem_cell_exprs.proofs.Options.{then-some}
use Rattle.mem_cell_loads.specs.declared.reading.Reading.{Reading}
use Rattle.mem_cell_loads.specs.Found.{IsReadingAt}
use Rattle.mem_cell_shows.specs.declared.ends.Ends.{Ends}
use Rattle.mem_cell_shows.specs.declared.marks.Marks.{Marks}
use Rattle.mem_cell_shows.specs.declared.reaches.Reach.{Reach}
use Rattle.mem_cell_shows.specs.Checks.{ShowsMarks, marks_shown}
use Rattle.mem_cell_shows.specs.Ends.{HoldsNumbers, LiesIn}
use Rattle.mem_cell_shows.specs.Marked.{AreMarksIn, AreMarksWithin, IsPlaceIn}
use Rattle.mem_cell_shows.specs.Reaches.{HoldsOf, IsByteIn, IsReach}
use Rattle.mem_cell_shows.proofs.Comparing.{based, into-block}
use Rattle.mem_cell_shows.proofs.Reaching.{got}

-- each byte of a list is one of those
abbrev AllIn : Reach → List Byte → Type 0
AllIn r bs = (q : ℕ) (x : Byte) → slice_get bs q ≡ Some x → IsByteIn r x

rest-in : (r : Reach) (b : Byte) (bs : List Byte) → AllIn r (b ∷ bs) → AllIn r bs
rest-in r b bs all q x h = all (suc q) x h

undef-in : (r : Reach) (bs : List Byte) → AllIn r bs → has_undef bs ≡ true → IsTrue r.undef
undef-in r [] all h = cc
undef-in r (Undef ∷ bs) all h = all 0 Undef refl
undef-in r (Num n ∷ bs) all h = undef-in r bs (rest-in r (Num n) bs all) h
undef-in r (Frag p k ∷ bs) all h = undef-in r bs (rest-in r (Frag p k) bs all) h

-- bytes that have values and are no number have a piece of a pointer
broken-in : (r : Reach) (bs : List Byte) → AllIn r bs → has_undef bs ≡ false → number_of bs ≡ None → IsTrue r.piece
broken-in r [] all h k = cc
broken-in r (Undef ∷ bs) all h k = cc
broken-in r (Num n ∷ bs) all h k = by (number_of bs) refl (broken-in r bs (rest-in r (Num n) bs all) h) where
  by : (o : Option ℕ) → number_of bs ≡ o → (number_of bs ≡ None → IsTrue r.piece) → IsTrue r.piece
  by None e more = more e
  by (Some m) e more = let is : low_first (Num n) (Some m) ≡ None = ap (low_first (Num n)) (sym e) ∙ k in cc
broken-in r (Frag p j ∷ bs) all h k = all 0 (Frag p j) refl

mark-in : (r : Reach) (t : IntType) (bs : List Byte) → AllIn r bs → IsMarkIn r.undef true r.piece (mark_of (Int t) bs)
mark-in r t bs all = by (has_undef bs) (number_of bs) refl refl where
  by : (u : Bool) (o : Option ℕ) → has_undef bs ≡ u → number_of bs ≡ o → IsMarkIn r.undef true r.piece (mark_of (Int t) bs)
  by true o e f = rw e (undef-in r bs all e)
  by false None e f = rw e (rw f (broken-in r bs all e f))
  by false (Some n) e f = rw e (rw f refl)

pub part-marked : (c : Contents) (from to : ℕ) (r : Reach) → IsReach c from r → to ≤ r.end → (m : ObjectMemory) (b : ℕ) (v : List ℤ) (o k n : ℕ) (t : IntType) → HoldsOf m b v o c
    → (from ≤ k) × (k + n ≤ to) → IsMarkIn r.undef true r.piece (mark_of (Int t) (get_bytes (block_at m.blocks b).bytes k n))
part-marked c from to r reach ends m b v o k n t holds within = mark-in r t (get_bytes (block_at m.blocks b).bytes k n) (λ q x h.
    let g = got (block_at m.blocks b).bytes k n q (k + q) x refl h in
    reach m b v o holds (k + q) x (omega (arith, within.0)) (omega (arith, within.1, ends, g.1)) g.0)

-- ---- places

pub within-of : (from last size k n : ℕ) (d : ℤ) → pos from ≤ℤ d → d ≤ℤ pos last → k ≡ unwrap_or (place_at d) 0 → n ≤ size → (from ≤ k) × (k + n ≤ last + size)
within-of from last size k n (pos j) low high is few = let same : k ≡ j = is in (omega (arith, ints, low, same), omega (arith, ints, high, same, few))
within-of from last size k n (negsuc j) low high is few = absurd (omega (arith, ints, low))

mark-is : (m : LoadMark) (x : Operand) → Some (Mark m) ≡ Some x → x ≡ Mark m
mark-is m x h = cc

module _ {D : Type 0} (admits : D → List ℤ → Type 0) (k : Known D) where
  -- what is known of an object is so of its block in each state
  holds-of : (o : ℕ) (c : Contents) → slice_get k.grid o ≡ Some c → (objects : List ObjectTree) (s : State) (st : StandsFor admits objects k s) (b : ℕ) → place_of s.memory o ≡ Some b
      → HoldsOf s.memory b st.v o c
  holds-of o c is objects s st b at = record {
    cell = λ e has small. st.cell o e b (c, is, has, small) at;
    byte = λ q x has. st.byte o q x b (c, is, has) at;
  }

  pub object-marked : (o : ℕ) (c : Contents) (x : MExprTree) (t : IntType) (ends : Ends) (size : ℕ) (w : Marks) → slice_get k.grid o ≡ Some c
      → HoldsNumbers (Admits admits k.nums) (λ v. machine_value v x) ends → size_of (Int t) ≡ size → AreMarksWithin c (IsPlaceIn ends size) w → AreMarksIn admits k o (Some x) (Int t) w
  object-marked o c x t ends size w is numbers of marks objects s st p at num =
      marks s.memory p.block st.v o (place p) (size_of (Int t)) t (holds-of o c is objects s st p.block at)
      (p.offset, numbers.holds st.v p.offset st.admitted num, refl, omega (arith, of))

  -- the place is the one that the offset is
  at-place : (d : ℤ) (at : ℕ) → d ≡ pos at → unwrap_or (place_at d) 0 ≡ at
  at-place d at e = rw e refl

  pub pointer-marked : (o at : ℕ) (x : MExprTree) (ends : Ends) (r : Reading) (w : Marks) → HoldsNumbers (Admits admits k.nums) (λ v. machine_value v x) ends
      → ((d : ℤ) → LiesIn ends d → d ≡ pos at) → IsReadingAt admits k o at Pointer r
      → w ≡ record { undef = r.marks.undef; value = r.marks.value; broken = r.marks.broken } → AreMarksIn admits k o (Some x) Pointer w
  pointer-marked o at x ends r w numbers only read is objects s st p there num =
      let here : place p ≡ at = at-place p.offset at (only p.offset (numbers.holds st.v p.offset st.admitted num)) in
      let marked = (read objects s st p.block there).mark in
      subst (λ (y : Marks). IsMarkIn y.undef y.value y.broken (mark_of Pointer (bytes_at s.memory.blocks p (size_of Pointer)))) (sym is)
      (subst (λ (q : ℕ). IsMarkIn r.marks.undef r.marks.value r.marks.broken (mark_of Pointer (get_bytes (block_at s.memory.blocks p.block).bytes q (size_of Pointer)))) (sym here) marked)

  pub scalar-marked : (e : CsExprTree) (set : BaseSet) (offset : Option MExprTree) (o : ℕ) (ty : Scalar) (w : Marks) → IsPlaceFor admits k e set offset
      → ((b : Base) → has_base set b ≡ true → b ≡ Object o) → AreMarksIn admits k o offset ty w
      → ShowsMarks admits k (λ s. option_and_then (mark s.memory (Some ty)) (value_of e s)) w
  scalar-marked e set offset o ty w at only marks objects s x st look =
      let u = then-some (mark s.memory (Some ty)) (value_of e s) x look in by u.0 (at objects s st u.0 u.1) u.2 where
        by : (u : Value) → Points s.memory set u × HasOffset st.v offset u → mark s.memory (Some ty) u ≡ Some x → IsInShown objects x (marks_shown w)
        by (values.Int i n) h g = cc
        by values.Null h g = cc
        by (values.Ptr p) h g =
            let place = into-block objects s.memory st.kept p o (based objects s.memory st.kept set o (values.Ptr p) only h.0 tt) in
            subst (λ y. IsInShown objects y (marks_shown w)) (sym (mark-is (mark_of ty (bytes_at s.memory.blocks p (size_of ty))) x g)) (marks objects s st p place h.1)

  pub any-marked : (look : State → Option Operand) (w : Marks) → ((s : State) (x : Operand) → look s ≡ Some x → (m : LoadMark) × (x ≡ Mark m)) → ((m : LoadMark) → IsMarkIn w.undef w.value w.broken m)
      → ShowsMarks admits k look w
  any-marked look w are all objects s x st h = let m = are s x h in subst (λ y. IsInShown objects y (marks_shown w)) (sym m.1) (all m.0)

-- what a load looks at is a mark
pub marks-looked : (ty : Option Scalar) (e : CsExprTree) (s : State) (x : Operand) → option_and_then (mark s.memory ty) (value_of e s) ≡ Some x → (m : LoadMark) × (x ≡ Mark m)
marks-looked None e s x h = let u = then-some (mark s.memory None) (value_of e s) x h in let k = u.2 in cc
marks-looked (Some t) e s x h = let u = then-some (mark s.memory (Some t)) (value_of e s) x h in by u.0 u.2 where
  by : (u : Value) → mark s.memory (Some t) u ≡ Some x → (m : LoadMark) × (x ≡ Mark m)
  by (values.Int i n) g = cc
  by values.Null g = cc
  by (values.Ptr p) g = (mark_of t (bytes_at s.memory.blocks p (size_of t)), mark-is (mark_of t (bytes_at s.memory.blocks p (size_of t))) x g)
