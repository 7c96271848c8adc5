-- Exact results that are longs.
use Rattle.std.proofs.Common.{ℤ, ◌≡◌, List, Some, sym, ap, ◌∙◌}
use Rattle.c_syntax_written.specs.declared.int_type.IntType.TheVariants.{Long}
use Rattle.c_syntax_written.specs.Integer.{HasNumber}
use Rattle.c_syntax.specs.Operand.{Number}
use Rattle.block_mem.specs.declared.types.Scalar.{Scalar}
use Rattle.machine_nums.specs.MExprs.{MExprTree, type_of}
use Rattle.machine_nums.specs.Machine.{exact_value, machine_value, wrapped_value}
use Rattle.machine_nums.proofs.Values.{wrapped-has}
use Rattle.csharp.specs.Trees.{CsExprTree}
use Rattle.csharp.specs.States.{State}
use Rattle.mem_cell_exprs.specs.Exprs.{AreNumbered}
use Rattle.mem_cell_shows.specs.Changes.{HasExactIn, LiesBetween}
use Rattle.mem_cell_shows.specs.Exacts.{IsExactFor}

number-same : (m n : ℤ) → Number m ≡ Number n → m ≡ n
number-same m n h = cc

pub exact-lies : (types : List Scalar) (e : CsExprTree) (m w : MExprTree) (lo hi : ℤ) (v : List ℤ) (s : State) → IsExactFor types e m → AreNumbered types v s
    → exact_value v w ≡ exact_value v m → type_of w ≡ Long → ((n : ℤ) → exact_value v w ≡ Some n → HasNumber Long n) → HasExactIn e lo hi s → LiesBetween w lo hi v
exact-lies types e m w lo hi v s exact are same long fits h =
    let r = exact v s are (Number h.0) h.1 in
    let here : exact_value v w ≡ Some h.0 = same ∙ r.2 ∙ ap Some (sym (number-same h.0 r.0 r.1)) in
    let is : machine_value v w ≡ Some h.0 = ap (λ t. wrapped_value t (exact_value v w)) long ∙ ap (wrapped_value Long) here ∙ ap Some (wrapped-has Long h.0 (fits h.0 here)) in
    (h.0, is, h.2, h.3)
