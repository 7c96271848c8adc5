-- What loads may meet.
use Rattle.std.specs.Prelude.{ℕ, ℤ, ◌≡◌, ◌≤◌, List, Option, Some, unwrap_or}
use Rattle.c_syntax_written.specs.declared.int_type.IntType.{IntType}
use Rattle.c_syntax.specs.Types.{ObjectTree}
use Rattle.c_syntax.specs.Admission.{IsMarkIn}
use Rattle.block_mem.specs.declared.types.Pointer.{Pointer}
use Rattle.block_mem.specs.declared.types.Scalar.{Scalar}
use Rattle.block_mem.specs.declared.types.Scalar.TheVariants.{Int}
use Rattle.block_mem.specs.declared.types.Value.TheVariants.{Ptr}
use Rattle.block_mem.specs.Block.{place_of as place_at}
use Rattle.block_mem.specs.Blocks.{block_at, bytes_at}
use Rattle.block_mem.specs.Bytes.{mark_of, size_of}
use Rattle.block_mem.specs.Pieces.{get_bytes}
use Rattle.c_values.specs.Places.{ObjectMemory, place_of}
use Rattle.machine_nums.specs.MExprs.{MExprTree}
use Rattle.csharp.specs.States.{State}
use Rattle.mem_cell_bytes.specs.Contents.{Contents}
use Rattle.mem_cell_exprs.specs.Known.{HasOffset, StandsFor}
use Rattle.mem_cell_exprs.specs.declared.known.Known.{Known}
use Rattle.mem_cell_shows.specs.declared.ends.Ends.{Ends}
use Rattle.mem_cell_shows.specs.declared.marks.Marks.{Marks}
use Rattle.mem_cell_shows.specs.Ends.{LiesIn}
use Rattle.mem_cell_shows.specs.Reaches.{HoldsOf}

-- the mark of so many bytes from a place on, for which this holds, is one of those
abbrev pub AreMarksWithin : Contents → (ℕ → ℕ → Type 0) → Marks → Type 0
AreMarksWithin c Is w = (m : ObjectMemory) (b : ℕ) (v : List ℤ) (o k n : ℕ) (t : IntType) → HoldsOf m b v o c → Is k n
    → IsMarkIn w.undef w.value w.broken (mark_of (Int t) (get_bytes (block_at m.blocks b).bytes k n))

-- the mark of a load of this type through a pointer into the object, whose offset the numbers have, is one of those
abbrev pub AreMarksIn : {D : Type 0} → (D → List ℤ → Type 0) → Known D → ℕ → Option MExprTree → Scalar → Marks → Type 0
AreMarksIn admits k o offset ty w = (objects : List ObjectTree) (s : State) (st : StandsFor admits objects k s) (p : Pointer) → place_of s.memory o ≡ Some p.block
    → HasOffset st.v offset (Ptr p) → IsMarkIn w.undef w.value w.broken (mark_of ty (bytes_at s.memory.blocks p (size_of ty)))

-- the place of one of these offsets, or 0 for a negative one, and at most so many bytes
abbrev pub IsPlaceIn : Ends → ℕ → ℕ → ℕ → Type 0
IsPlaceIn ends size k n = (d : ℤ) × LiesIn ends d × (k ≡ unwrap_or (place_at d) 0) × (n ≤ size)
