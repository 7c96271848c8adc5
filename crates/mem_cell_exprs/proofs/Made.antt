-- Expressions of numbers that the code makes, node by node.
use Rattle.std.proofs.Common.{ℕ, ℤ, negsuc, pos, ◌≡◌, Bool, true, false, List, Option, None, Some, option_map, refl, sym, ap, subst, ◌∙◌}
use Rattle.std.specs.declared.boxed.Box.{Box}
use Rattle.std.specs.declared.alloc.Global.{Global}
use Rattle.c_syntax_written.specs.declared.int_type.IntType.{IntType}
use Rattle.c_syntax_written.specs.declared.int_type.IntType.TheVariants as ints
use Rattle.c_syntax_written.specs.Integer.{HasNumber}
use Rattle.c_syntax.specs.declared.operator.Arithmetic.{Arithmetic}
use Rattle.c_syntax.specs.declared.operator.Shift.{Shift}
use Rattle.c_syntax.specs.declared.operator.Comparison.{Comparison}
use Rattle.c_syntax.specs.declared.operator.TUnaryOp.TheVariants as unaries
use Rattle.c_syntax.specs.declared.operator.TBinaryOp.TheVariants as binaries
use Rattle.num_api.specs.declared.expr.NOp.{NOp}
use Rattle.num_api.specs.declared.expr.NOp.TheVariants as ops
use Rattle.block_mem.specs.declared.types.Scalar.{Scalar}
use Rattle.machine_nums.specs.declared.expr.MExpr.{MExpr}
use Rattle.machine_nums.specs.declared.expr.MExpr.TheVariants as exprs
use Rattle.machine_nums.specs.MExprs.{MExprTree, mexpr_tree, type_of}
use Rattle.machine_nums.specs.MExprs as numbers
use Rattle.machine_nums.specs.Laws.{StandsForArithmetic, StandsForComparison, StandsForShift}
use Rattle.machine_nums.proofs.Trees.{mexpr_binary, mexpr_const, mexpr_convert, mexpr_unary}
use Rattle.csharp.specs.Trees.{Binary, Const, Convert, CsExprTree, Unary}
use Rattle.num_api.specs.Value.{binary_value}
use Rattle.pointsets.specs.declared.Base.TheVariants.{Null}
use Rattle.pointsets.specs.Targets.{BaseSet, has_base}
use Rattle.std.specs.Prelude.{IfSome, IsSomeAnd}
use Rattle.block_mem.specs.declared.types.Value.{Value}
use Rattle.machine_nums.specs.Machines.{Admits}
use Rattle.csharp.specs.States.{State, value_of}
use Rattle.machine_nums.specs.Machine.{exact_value}
use Rattle.mem_cell_exprs.specs.declared.known.Known.{Known}
use Rattle.mem_cell_exprs.specs.Exprs.{IsNumberFor}
use Rattle.mem_cell_exprs.specs.Known.{IsMoved, IsMovedPlace, IsPlaceFor, moved_by}
use Rattle.mem_cell_exprs.proofs.Moves.{Moves, is-moved, move-place}
use Rattle.mem_cell_exprs.proofs.Nodes.{arithmetic-number, compare-number, compare-turned, complement-number, const-number, convert-number, minus-number, not-number, plus-number, shift-number}

pub binary-tree : (op : NOp) (ty : IntType) (a b : MExpr) (p q : Box MExpr Global) → p.value ≡ a → q.value ≡ b
    → mexpr_tree (exprs.Binary op ty p q) ≡ numbers.Binary op ty (mexpr_tree a) (mexpr_tree b)
binary-tree op ty a b p q e f = mexpr_binary op ty p q ∙ ap (λ x. numbers.Binary op ty (mexpr_tree x) (mexpr_tree q.value)) e ∙ ap (λ x. numbers.Binary op ty (mexpr_tree a) (mexpr_tree x)) f

unary-tree : (op : NOp) (ty : IntType) (a : MExpr) (p : Box MExpr Global) → p.value ≡ a → mexpr_tree (exprs.Unary op ty p) ≡ numbers.Unary op ty (mexpr_tree a)
unary-tree op ty a p e = mexpr_unary op ty p ∙ ap (λ x. numbers.Unary op ty (mexpr_tree x)) e

convert-tree : (ty : IntType) (a : MExpr) (p : Box MExpr Global) → p.value ≡ a → mexpr_tree (exprs.Convert ty p) ≡ numbers.Convert ty (mexpr_tree a)
convert-tree ty a p e = mexpr_convert ty p ∙ ap (λ x. numbers.Convert ty (mexpr_tree x)) e

pub const-made : (ty : IntType) (value n : ℤ) → n ≡ value → HasNumber ty value → (types : List Scalar) → IsNumberFor types (Const ty value) (mexpr_tree (exprs.Const ty n))
const-made ty value n is has types = λ v s k. subst (λ m. IsNumberFor types (Const ty value) m) (sym (mexpr_const ty n ∙ ap (numbers.Const ty) is)) (λ w t j. const-number t w ty value has) v s k

pub convert-made : (ty : IntType) (a : MExpr) (p : Box MExpr Global) → p.value ≡ a → (types : List Scalar) (e : CsExprTree) → IsNumberFor types e (mexpr_tree a)
    → IsNumberFor types (Convert ty e) (mexpr_tree (exprs.Convert ty p))
convert-made ty a p is types e h = subst (IsNumberFor types (Convert ty e)) (sym (convert-tree ty a p is)) (λ v s n. convert-number s v ty e (mexpr_tree a) (h v s n))

pub plus-made : (ty : IntType) (a : MExpr) (p : Box MExpr Global) → p.value ≡ a → type_of (mexpr_tree a) ≡ ty → (types : List Scalar) (e : CsExprTree) → IsNumberFor types e (mexpr_tree a)
    → IsNumberFor types (Unary (unaries.Plus ty) e) (mexpr_tree (exprs.Convert ty p))
plus-made ty a p is of types e h = subst (IsNumberFor types (Unary (unaries.Plus ty) e)) (sym (convert-tree ty a p is)) (λ v s n. plus-number s v ty e (mexpr_tree a) of (h v s n))

pub minus-made : (ty : IntType) (a : MExpr) (p : Box MExpr Global) → p.value ≡ a → (types : List Scalar) (e : CsExprTree) → IsNumberFor types e (mexpr_tree a)
    → IsNumberFor types (Unary (unaries.Minus ty) e) (mexpr_tree (exprs.Unary ops.Neg ty p))
minus-made ty a p is types e h = subst (IsNumberFor types (Unary (unaries.Minus ty) e)) (sym (unary-tree ops.Neg ty a p is)) (λ v s n. minus-number s v ty e (mexpr_tree a) (h v s n))

pub not-made : (a : MExpr) (p : Box MExpr Global) → p.value ≡ a → (types : List Scalar) (e : CsExprTree) → IsNumberFor types e (mexpr_tree a)
    → IsNumberFor types (Unary unaries.Not e) (mexpr_tree (exprs.Unary ops.Not ints.Int p))
not-made a p is types e h = subst (IsNumberFor types (Unary unaries.Not e)) (sym (unary-tree ops.Not ints.Int a p is)) (λ v s n. not-number s v e (mexpr_tree a) (h v s n))

pub complement-made : (ty : IntType) (a one : MExpr) (o p : Box MExpr Global) → one ≡ exprs.Const ints.Int (negsuc 0) → o.value ≡ one → p.value ≡ a → (types : List Scalar) (e : CsExprTree)
    → IsNumberFor types e (mexpr_tree a) → IsNumberFor types (Unary (unaries.Complement ty) e) (mexpr_tree (exprs.Binary ops.Sub ty o p))
complement-made ty a one o p ones first is types e h =
    subst (IsNumberFor types (Unary (unaries.Complement ty) e))
    (sym (binary-tree ops.Sub ty one a o p first is ∙ ap (λ x. numbers.Binary ops.Sub ty x (mexpr_tree a)) (ap mexpr_tree ones ∙ mexpr_const ints.Int (negsuc 0))))
    (λ v s n. complement-number s v ty e (mexpr_tree a) (h v s n))

pub arithmetic-made : (op : Arithmetic) (nop : NOp) (ty : IntType) (a b : MExpr) (p q : Box MExpr Global) → p.value ≡ a → q.value ≡ b → StandsForArithmetic op nop
    → type_of (mexpr_tree a) ≡ ty → type_of (mexpr_tree b) ≡ ty → (types : List Scalar) (e f : CsExprTree) → IsNumberFor types e (mexpr_tree a) → IsNumberFor types f (mexpr_tree b)
    → IsNumberFor types (Binary (binaries.Arithmetic op ty) e f) (mexpr_tree (exprs.Binary nop ty p q))
arithmetic-made op nop ty a b p q x y law of also types e f h g =
    subst (IsNumberFor types (Binary (binaries.Arithmetic op ty) e f)) (sym (binary-tree nop ty a b p q x y))
    (λ v s n. arithmetic-number s v op nop ty e f (mexpr_tree a) (mexpr_tree b) law of also (h v s n) (g v s n))

pub shift-made : (way : Shift) (nop : NOp) (ty : IntType) (a b : MExpr) (p q : Box MExpr Global) → p.value ≡ a → q.value ≡ b → StandsForShift way nop
    → type_of (mexpr_tree a) ≡ ty → (types : List Scalar) (e f : CsExprTree) → IsNumberFor types e (mexpr_tree a) → IsNumberFor types f (mexpr_tree b)
    → IsNumberFor types (Binary (binaries.Shift way ty) e f) (mexpr_tree (exprs.Binary nop ty p q))
shift-made way nop ty a b p q x y law of types e f h g =
    subst (IsNumberFor types (Binary (binaries.Shift way ty) e f)) (sym (binary-tree nop ty a b p q x y))
    (λ v s n. shift-number s v way nop ty e f (mexpr_tree a) (mexpr_tree b) law of (h v s n) (g v s n))

pub compare-made : (c : Comparison) (nop : NOp) (turned : Bool) (a b : MExpr) (p q : Box MExpr Global) → p.value ≡ a → q.value ≡ b → StandsForComparison c nop turned → turned ≡ false
    → (types : List Scalar) (t : IntType) (e f : CsExprTree) → IsNumberFor types e (mexpr_tree a) → IsNumberFor types f (mexpr_tree b)
    → IsNumberFor types (Binary (binaries.CompareInts c t) e f) (mexpr_tree (exprs.Binary nop ints.Int p q))
compare-made c nop turned a b p q x y law is types t e f h g =
    subst (IsNumberFor types (Binary (binaries.CompareInts c t) e f)) (sym (binary-tree nop ints.Int a b p q x y))
    (λ v s n. compare-number s v c nop t e f (mexpr_tree a) (mexpr_tree b) (subst (StandsForComparison c nop) is law) (h v s n) (g v s n))

pub turned-made : (c : Comparison) (nop : NOp) (turned : Bool) (a b : MExpr) (p q : Box MExpr Global) → p.value ≡ a → q.value ≡ b → StandsForComparison c nop turned → turned ≡ true
    → (types : List Scalar) (t : IntType) (e f : CsExprTree) → IsNumberFor types e (mexpr_tree a) → IsNumberFor types f (mexpr_tree b)
    → IsNumberFor types (Binary (binaries.CompareInts c t) e f) (mexpr_tree (exprs.Binary nop ints.Int q p))
turned-made c nop turned a b p q x y law is types t e f h g =
    subst (IsNumberFor types (Binary (binaries.CompareInts c t) e f)) (sym (binary-tree nop ints.Int b a q p y x))
    (λ v s n. compare-turned s v c nop t e f (mexpr_tree a) (mexpr_tree b) (subst (StandsForComparison c nop) is law) (h v s n) (g v s n))

-- an offset that is moved, as the code makes it
pub moved-made : (A : List ℤ → Type 0) (element : ℕ) (back : Bool) (way : NOp) (offset index : MExpr) (n : ℤ) (size idx from by : Box MExpr Global)
    → size.value ≡ exprs.Const ints.Long n → n ≡ pos element → idx.value ≡ index → by.value ≡ exprs.Binary ops.Mul ints.Long size idx → from.value ≡ offset
    → ((k x : ℤ) → binary_value way k x ≡ Some (moved_by back k x)) → HasNumber ints.Long (pos element)
    → ((v : List ℤ) (x : ℤ) → A v → exact_value v (mexpr_tree (exprs.Binary ops.Mul ints.Long size idx)) ≡ Some x → HasNumber ints.Long x)
    → ((v : List ℤ) (x : ℤ) → A v → exact_value v (mexpr_tree (exprs.Binary way ints.Long from by)) ≡ Some x → HasNumber ints.Long x)
    → IsMoved A element back (mexpr_tree offset) (mexpr_tree index) (mexpr_tree (exprs.Binary way ints.Long from by))
moved-made A element back way offset index n size idx from by size_is n_is idx_is by_is from_is law small product sum =
    let bytes = numbers.Binary ops.Mul ints.Long (numbers.Const ints.Long (pos element)) (mexpr_tree index) in
    let bytes_are : mexpr_tree (exprs.Binary ops.Mul ints.Long size idx) ≡ bytes =
    binary-tree ops.Mul ints.Long (exprs.Const ints.Long n) index size idx size_is idx_is
    ∙ ap (λ x. numbers.Binary ops.Mul ints.Long x (mexpr_tree index)) (mexpr_const ints.Long n ∙ ap (numbers.Const ints.Long) n_is) in
    let all_are : mexpr_tree (exprs.Binary way ints.Long from by) ≡ numbers.Binary way ints.Long (mexpr_tree offset) bytes =
    binary-tree way ints.Long offset (exprs.Binary ops.Mul ints.Long size idx) from by from_is by_is ∙ ap (numbers.Binary way ints.Long (mexpr_tree offset)) bytes_are in
    subst (IsMoved A element back (mexpr_tree offset) (mexpr_tree index)) (sym all_are)
    (is-moved A element back way (mexpr_tree offset) (mexpr_tree index) law small
    (λ v x a e. product v x a (ap (exact_value v) bytes_are ∙ e)) (λ v x a e. sum v x a (ap (exact_value v) all_are ∙ e)))

pub place-along : {D : Type 0} (admits : D → List ℤ → Type 0) (k : Known D) (e f : CsExprTree) (set other : BaseSet) (at to : Option MExprTree) → f ≡ e → other ≡ set → to ≡ at
    → IsPlaceFor admits k e set at → IsPlaceFor admits k f other to
place-along admits k e f set other at to e_is set_is at_is h =
    subst (λ x. IsPlaceFor admits k x other to) (sym e_is) (subst (λ s. IsPlaceFor admits k e s to) (sym set_is) (subst (IsPlaceFor admits k e set) (sym at_is) h))

pub moved-place-made : (A : List ℤ → Type 0) (types : List Scalar) (index : CsExprTree) (element : ℕ) (back : Bool) (set : BaseSet) (from to : Option MExpr) (f by : MExpr)
    → has_base set Null ≡ false → from ≡ Some f → IsNumberFor types index (mexpr_tree by) → IfSome to (λ m. IsMoved A element back (mexpr_tree f) (mexpr_tree by) (mexpr_tree m))
    → IsMovedPlace A types index element back set (option_map mexpr_tree from) (option_map mexpr_tree to)
moved-place-made A types index element back set from None f by none is number law = tt
moved-place-made A types index element back set from (Some m) f by none is number law =
    (none, subst (λ o. IsSomeAnd (option_map mexpr_tree o) (λ x. (k : MExprTree) × IsNumberFor types index k × IsMoved A element back x k (mexpr_tree m))) (sym is) (mexpr_tree by, number, law))

-- a pointer that is moved, as the code makes it
pub move-made : {D : Type 0} (admits : D → List ℤ → Type 0) (k : Known D) (back : Bool) (element : ℕ) (e whole base index : CsExprTree) (set other : BaseSet) (from to : Option MExprTree)
    → e ≡ whole → ((s : State) (u : Value) → value_of whole s ≡ Some u → Moves admits k back element base index s u) → IsPlaceFor admits k base set from → other ≡ set
    → IsMovedPlace (Admits admits k.nums) k.types index element back set from to → IsPlaceFor admits k e other to
move-made admits k back element e whole base index set other from to is parts place same moved =
    place-along admits k whole e set other to to is same refl (move-place admits k back element whole base index set from to parts place moved)
