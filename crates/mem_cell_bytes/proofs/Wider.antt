-- Sets and cells that say no more than others.
use Rattle.std.proofs.Common.{ℕ, ℤ, ◌≡◌, List, sym, ap, subst, ◌∙◌, inl, inr}
use Rattle.std.specs.Int.{byte_len}
use Rattle.c_syntax_written.specs.Integer.{std_width}
use Rattle.pointsets.specs.declared.Base.TheVariants.{Null, Dead, Object}
use Rattle.pointsets.specs.Targets.{BaseSet}
use Rattle.block_mem.specs.declared.types.Byte.{Byte}
use Rattle.block_mem.specs.declared.types.Value.{Value}
use Rattle.block_mem.specs.declared.types.Value.TheVariants as values
use Rattle.block_mem.specs.Blocks.{block_at}
use Rattle.block_mem.specs.Pieces.{get_bytes}
use Rattle.c_values.specs.Places.{ObjectMemory, owner_of}
use Rattle.mem_cell_bytes.specs.declared.entry.Entry.{Entry}
use Rattle.mem_cell_bytes.specs.Cells.{size_of, place_var, var_of, HasBlock, Points, Meets, bytes_in}
use Rattle.mem_cell_bytes.specs.Joins.{IsWiderSet, IsWider}

has-wider : (m : ObjectMemory) (s t : BaseSet) (b : ℕ) → IsWiderSet s t → HasBlock m s b → HasBlock m t b
has-wider m s t b wide h = record { live = λ q. wide (Object (owner_of m b)) (h.live q); dead = λ q. wide Dead (h.dead q) }

pub points-wider : (m : ObjectMemory) (s t : BaseSet) (u : Value) → IsWiderSet s t → Points m s u → Points m t u
points-wider m s t (values.Int i n) wide h = h
points-wider m s t (values.Ptr p) wide h = has-wider m s t p.block wide h
points-wider m s t values.Null wide h = wide Null h

pub meets-wider : (m : ObjectMemory) (d e : Entry) (bs : List Byte) (x : ℤ) → IsWider d e → Meets m d bs x → Meets m e bs x
meets-wider m d e bs x wide (inl b) = inl (record { may = wide.undef b.may; are = rw wide.ty b.are })
meets-wider m d e bs x wide (inr (inl n)) = inr (inl (record { may = wide.value n.may; number = n.number; small = rw wide.ty n.small; are = rw wide.ty n.are; is = rw wide.ty n.is }))
meets-wider m d e bs x wide (inr (inr p)) = inr (inr (record { pointer = p.pointer; eight = rw wide.ty p.eight; are = p.are; may = has-wider m d.targets e.targets p.pointer.block wide.targets p.may; is = p.is }))

pub same-var : (o : ℕ) (d e : Entry) → IsWider d e → var_of o e ≡ var_of o d
same-var o d e h = ap (λ k. place_var o k (size_of e)) h.offset ∙ ap (λ t. place_var o d.offset (byte_len (std_width t))) h.ty

-- what meets a cell meets one that allows more, at the same bytes
pub moved : (m : ObjectMemory) (d e : Entry) (b : ℕ) (x y : ℤ) → IsWider d e → y ≡ x → Meets m d (bytes_in m b d) x → Meets m e (bytes_in m b e) y
moved m d e b x y h is g =
    let bs = (block_at m.blocks b).bytes in
    let same : bytes_in m b d ≡ bytes_in m b e = ap (λ k. get_bytes bs k (size_of d)) (sym h.offset) ∙ ap (λ t. get_bytes bs e.offset (byte_len (std_width t))) (sym h.ty) in
    subst (Meets m e (bytes_in m b e)) (sym is) (subst (λ l. Meets m e l x) same (meets-wider m d e (bytes_in m b d) x h g))
