-- What the code finds and makes.
use Rattle.std.proofs.Common.{ℕ, ℤ, pos, ◌≡◌, ◌<◌, List, Some, sym, ap, subst, ◌∙◌}
use Rattle.std.specs.Prelude.{slice_get}
use Rattle.std.specs.Int.{byte_len}
use Rattle.std.specs.declared.boxed.Box.{Box}
use Rattle.std.specs.declared.alloc.Global.{Global}
use Rattle.c_syntax_written.specs.declared.int_type.IntType.{IntType}
use Rattle.c_syntax_written.specs.declared.int_type.IntType.TheVariants.{Long, ULong}
use Rattle.c_syntax_written.specs.Integer.{HasNumber, std_width}
use Rattle.num_api.specs.declared.expr.Var.{Var}
use Rattle.block_mem.specs.Bytes.{size_of as scalar_size}
use Rattle.block_mem.specs.declared.types.Scalar.{Scalar}
use Rattle.block_mem.specs.declared.types.Scalar.TheVariants as scalars
use Rattle.machine_nums.specs.declared.expr.MExpr.{MExpr}
use Rattle.machine_nums.specs.declared.expr.MExpr.TheVariants as exprs
use Rattle.machine_nums.specs.MExprs.{MExprTree, mexpr_tree}
use Rattle.machine_nums.specs.MExprs as numbers
use Rattle.machine_nums.specs.Machine.{exact_value, machine_value}
use Rattle.machine_nums.specs.Machines.{Admits}
use Rattle.machine_nums.proofs.Trees.{mexpr_const, mexpr_convert, mexpr_read}
use Rattle.mem_cell_bytes.specs.declared.entry.Entry.{Entry}
use Rattle.mem_cell_bytes.specs.declared.entry.FillByte.{FillByte}
use Rattle.mem_cell_bytes.specs.declared.entry.FillByte.TheVariants as fills
use Rattle.mem_cell_bytes.specs.declared.entry.Stretch.{Stretch}
use Rattle.mem_cell_bytes.specs.Cells.{var_of}
use Rattle.mem_cell_bytes.specs.Contents.{Contents}
use Rattle.mem_cell_bytes.specs.Fills.{fill_number, repeated}
use Rattle.mem_cell_bytes.proofs.Fills.{repeated-small}
use Rattle.mem_cell_exprs.specs.declared.known.Known.{Known}
use Rattle.mem_cell_loads.specs.declared.found.Found.TheVariants as founds
use Rattle.mem_cell_loads.specs.Found.{AreFilled, HasBytes, IsFound, IsNumberAt, number_type}
use Rattle.mem_cell_loads.proofs.Cells.{cell-number, fill-int, fill-pointer, offset-number}
use Rattle.mem_cell_loads.proofs.Bits.{constant-bits}

-- ---- what is found

pub found-cell : (grid : List Contents) (o at n : ℕ) (held : Contents) (cells : List Entry) (e d : Entry) → slice_get grid o ≡ Some held → cells ≡ held.cells
    → HasBytes cells e at n → d ≡ e → IsFound grid o at n (founds.Cell d)
found-cell grid o at n held cells e d is same has copy =
    (held, is, subst (λ (x : Entry). HasBytes held.cells x at n) (sym copy) (subst (λ xs. HasBytes xs e at n) same has))

pub found-fill : (grid : List Contents) (o at n : ℕ) (held : Contents) (stretches : List Stretch) (x : FillByte) → slice_get grid o ≡ Some held → stretches ≡ held.stretches
    → AreFilled stretches at n x → IsFound grid o at n (founds.Fill x)
found-fill grid o at n held stretches x is same are = (held, is, subst (λ fs. AreFilled fs at n x) same are)

-- ---- numbers that the code makes

pub constant-made : (t : IntType) (d bits : ℕ) (n : ℤ) (m : MExpr) (p : Box MExpr Global) → bits ≡ repeated (byte_len (std_width t)) d → d < 256 → p.value ≡ m → m ≡ exprs.Const ULong n
    → n ≡ pos bits → (v : List ℤ) → machine_value v (mexpr_tree (exprs.Convert t p)) ≡ Some (fill_number (fills.Num d) t)
constant-made t d bits n m p bits_are small is made number v =
    let tree = mexpr_convert t p ∙ ap (λ x. numbers.Convert t (mexpr_tree x)) (is ∙ made) ∙ ap (numbers.Convert t) (mexpr_const ULong n ∙ ap (numbers.Const ULong) (number ∙ ap pos bits_are)) in
    ap (machine_value v) tree ∙ constant-bits v t (repeated (byte_len (std_width t)) d) (repeated-small (byte_len (std_width t)) d small)

module _ {D : Type 0} (admits : D → List ℤ → Type 0) (k : Known D) (o at : ℕ) where
  pub int-made : (t : IntType) (e : Entry) (x : Var) → x.0 ≡ var_of o e → e.ty ≡ t → IsFound k.grid o at (byte_len (std_width t)) (founds.Cell e)
      → IsNumberAt admits k o at (scalars.Int t) (mexpr_tree (exprs.Read x t))
  int-made t e x var ty there = subst (IsNumberAt admits k o at (scalars.Int t)) (sym (mexpr_read x t)) (cell-number admits k o at t e x.0 var ty there)

  pub offset-made : (e : Entry) (x : Var) → x.0 ≡ var_of o e
      → ((v : List ℤ) (n : ℤ) → Admits admits k.nums v → exact_value v (mexpr_tree (exprs.Read x Long)) ≡ Some n → HasNumber Long n)
      → IsFound k.grid o at 8 (founds.Cell e) → IsNumberAt admits k o at scalars.Pointer (mexpr_tree (exprs.Read x Long))
  offset-made e x var fits there =
      subst (IsNumberAt admits k o at scalars.Pointer) (sym (mexpr_read x Long))
      (offset-number admits k o at e x.0 var (λ v n a h. fits v n a (ap (exact_value v) (mexpr_read x Long) ∙ h)) there)

  -- equal bytes, at any type
  pub fill-made : (ty : Scalar) (t : IntType) (x : FillByte) (d : ℕ) (m : MExprTree) → t ≡ number_type ty → x ≡ fills.Num d → d < 256
      → ((v : List ℤ) → machine_value v m ≡ Some (fill_number (fills.Num d) t)) → IsFound k.grid o at (scalar_size ty) (founds.Fill x) → IsNumberAt admits k o at ty m
  fill-made (scalars.Int i) t x d m type is small value there =
      fill-int admits k o at i d m small (λ v. value v ∙ ap (λ j. Some (fill_number (fills.Num d) j)) type) (subst (λ y. IsFound k.grid o at (byte_len (std_width i)) (founds.Fill y)) is there)
  fill-made scalars.Pointer t x d m type is small value there =
      fill-pointer admits k o at d m small (λ v. value v ∙ ap (λ j. Some (fill_number (fills.Num d) j)) type) (subst (λ y. IsFound k.grid o at 8 (founds.Fill y)) is there)
