-- The stores of 0, byte by byte.
use Rattle.std.proofs.Common.{◌≡◌, ◌<◌, ◌+◌, ◌-◌, ℕ, zero, suc, Bool, true, false, List, [], ◌∷◌, ◌++◌, sym, ap, ◌∙◌, arith}
use Rattle.std.specs.Prelude.{pred, if◌then◌else◌, Option}
use Rattle.block_mem.specs.declared.types.Scalar.{Scalar}
use Rattle.block_mem.specs.Bytes.{size_of}
use Rattle.csharp.specs.declared.statement.CsStmt.{CsStmt}
use Rattle.csharp.specs.Trees.{CsStmtTrees, Store, more, csstmt_tree, csstmts_from}
use Rattle.csharp.proofs.CodeTrees.{csstmts_cons, csstmts_nil}
use Rattle.lower_trees.specs.Checking.{address_at}
use Rattle.lower_trees.specs.Zeros.{free_or_byte, zero_cells, zero_term}
use Rattle.lower_zeros.specs.Named.{joined}

pub joined_push : (items : List CsStmt) (item : CsStmt) (rest : CsStmtTrees)
    → joined (csstmts_from (items ++ item ∷ [])) rest ≡ joined (csstmts_from items) (more (csstmt_tree item) rest)
joined_push [] item rest =
    ap (λ t. joined t rest) (csstmts_cons item [] ∙ ap (more (csstmt_tree item)) csstmts_nil) ∙ ap (λ t. joined t (more (csstmt_tree item) rest)) (sym csstmts_nil)
joined_push (first ∷ items) item rest =
    ap (λ t. joined t rest) (csstmts_cons first (items ++ item ∷ []))
    ∙ ap (more (csstmt_tree first)) (joined_push items item rest)
    ∙ ap (λ t. joined t (more (csstmt_tree item) rest)) (sym (csstmts_cons first items))

-- a byte that became 0 with one before it
pub cells_skip : (at : ℕ → Option Scalar) (named : ℕ → Bool) (x k skip left : ℕ) (rest : CsStmtTrees) → 0 < skip → 0 < left
    → zero_cells at named x (k + 1) (skip - 1) (left - 1) rest ≡ zero_cells at named x k skip left rest
cells_skip at named x k zero left rest h g = absurd (omega arith)
cells_skip at named x k (suc skip) zero rest h g = absurd (omega arith)
cells_skip at named x k (suc skip) (suc left) rest h g =
    let e : k + 1 ≡ suc k = omega arith in
    let f : suc skip - 1 ≡ skip = omega arith in
    let i : suc left - 1 ≡ left = omega arith in
    ap (λ j. zero_cells at named x j (suc skip - 1) (suc left - 1) rest) e ∙ ap (λ s. zero_cells at named x (suc k) s (suc left - 1) rest) f
    ∙ ap (λ n. zero_cells at named x (suc k) skip n rest) i

cells_by : (at : ℕ → Option Scalar) (named : ℕ → Bool) (x k left : ℕ) (rest : CsStmtTrees) (b : Bool) → named k ≡ b
    → zero_cells at named x k zero (suc left) rest
    ≡ (if b then zero_cells at named x (suc k) zero left rest
    else more (Store (free_or_byte named k (suc left) (at k)) (address_at x k) (zero_term (free_or_byte named k (suc left) (at k))))
    (zero_cells at named x (suc k) (pred (size_of (free_or_byte named k (suc left) (at k)))) left rest))
cells_by at named x k left rest b e =
    ap (λ c. if c then zero_cells at named x (suc k) zero left rest
    else more (Store (free_or_byte named k (suc left) (at k)) (address_at x k) (zero_term (free_or_byte named k (suc left) (at k))))
    (zero_cells at named x (suc k) (pred (size_of (free_or_byte named k (suc left) (at k)))) left rest)) e

-- a byte that an item names
pub cells_named : (at : ℕ → Option Scalar) (named : ℕ → Bool) (x k skip left : ℕ) (rest : CsStmtTrees) → skip ≡ 0 → 0 < left → named k ≡ true
    → zero_cells at named x (k + 1) 0 (left - 1) rest ≡ zero_cells at named x k skip left rest
cells_named at named x k (suc skip) left rest s h e = absurd (omega arith)
cells_named at named x k zero zero rest s h e = absurd (omega arith)
cells_named at named x k zero (suc left) rest s h e =
    let f : k + 1 ≡ suc k = omega arith in
    let i : suc left - 1 ≡ left = omega arith in
    ap (λ j. zero_cells at named x j 0 (suc left - 1) rest) f ∙ ap (λ n. zero_cells at named x (suc k) 0 n rest) i
    ∙ sym (cells_by at named x k left rest true e)

-- a store that begins at a byte
pub cells_store : (at : ℕ → Option Scalar) (named : ℕ → Bool) (x k skip left : ℕ) (rest : CsStmtTrees) (ty : Scalar) (n : ℕ)
    → skip ≡ 0 → 0 < left → named k ≡ false → ty ≡ free_or_byte named k left (at k) → n ≡ size_of ty
    → more (Store ty (address_at x k) (zero_term ty)) (zero_cells at named x (k + 1) (n - 1) (left - 1) rest) ≡ zero_cells at named x k skip left rest
cells_store at named x k (suc skip) left rest ty n s h e is size = absurd (omega arith)
cells_store at named x k zero zero rest ty n s h e is size = absurd (omega arith)
cells_store at named x k zero (suc left) rest ty n s h e is size =
    let f : k + 1 ≡ suc k = omega arith in
    let i : suc left - 1 ≡ left = omega arith in
    let p : n - 1 ≡ pred n = omega arith in
    ap (λ j. more (Store ty (address_at x k) (zero_term ty)) (zero_cells at named x j (n - 1) (suc left - 1) rest)) f
    ∙ ap (λ m. more (Store ty (address_at x k) (zero_term ty)) (zero_cells at named x (suc k) (n - 1) m rest)) i
    ∙ ap (λ m. more (Store ty (address_at x k) (zero_term ty)) (zero_cells at named x (suc k) m left rest)) (p ∙ ap pred size)
    ∙ ap (λ u. more (Store u (address_at x k) (zero_term u)) (zero_cells at named x (suc k) (pred (size_of u)) left rest)) is
    ∙ sym (cells_by at named x k left rest false e)
