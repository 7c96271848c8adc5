-- Comparisons of pointers.
use Rattle.std.proofs.Common.{ℕ, ℤ, pos, ◌≡◌, ◌≢◌, Bool, true, false, not, List, Option, Some, refl, sym, ap, subst, ◌∙◌, arith}
use Rattle.std.specs.Prelude.{IsTrue, ◌==◌}
use Rattle.std.specs.Ordering.{int_eq}
use Rattle.std.proofs.lemmas.Int.{ints}
use Rattle.c_syntax_written.specs.declared.int_type.IntType.TheVariants as ints_of
use Rattle.c_syntax_written.specs.Integer.{wrapped}
use Rattle.c_syntax.specs.declared.operator.Comparison.{Comparison}
use Rattle.c_syntax.specs.declared.operator.Comparison.TheVariants as comparisons
use Rattle.c_syntax.specs.declared.operator.TBinaryOp.TheVariants as binaries
use Rattle.c_syntax.specs.Types.{ObjectTree}
use Rattle.pointsets.specs.declared.Base.{Base}
use Rattle.pointsets.specs.declared.Base.TheVariants.{Dead, Null, Object}
use Rattle.pointsets.specs.Targets.{BaseSet, has_base}
use Rattle.pointsets.proofs.Names.{eq-true, is-eq}
use Rattle.block_mem.specs.declared.types.Pointer.{Pointer}
use Rattle.block_mem.specs.declared.types.Value.{Value}
use Rattle.block_mem.specs.declared.types.Value.TheVariants as values
use Rattle.block_mem.specs.Blocks.{block_at}
use Rattle.c_values.specs.Numbers.{compares}
use Rattle.c_values.specs.Operators.{compare_pointers}
use Rattle.c_values.specs.Places.{ObjectMemory, owner_of, place_of}
use Rattle.c_values.specs.Values.{bit, truth}
use Rattle.c_objects.specs.Kept.{KeepsObjects}
use Rattle.num_api.specs.declared.expr.NOp.{NOp}
use Rattle.num_api.specs.Value.{binary_value, has_truth, truth as number_truth}
use Rattle.machine_nums.specs.Laws.{StandsForComparison}
use Rattle.machine_nums.specs.MExprs.{MExprTree}
use Rattle.machine_nums.specs.MExprs as numbers
use Rattle.machine_nums.specs.Machine.{machine_value, wrapped_value}
use Rattle.machine_nums.proofs.Values.{wrapped-has}
use Rattle.csharp.specs.Trees.{CsExprTree}
use Rattle.csharp.specs.States.{State, value_of}
use Rattle.mem_cell_bytes.specs.Cells.{Points, number_of}
use Rattle.mem_cell_exprs.specs.Known.{IsPlaceFor, StandsFor}
use Rattle.mem_cell_exprs.specs.declared.known.Known.{Known}
use Rattle.mem_cell_exprs.proofs.Nodes.{both-values, two-values}
use Rattle.mem_cell_shows.specs.Addresses.{IsAddress}
use Rattle.mem_cell_shows.specs.Changes.{IsCommon, base_of}
use Rattle.mem_cell_shows.specs.Compares.{AreApart, AreOrdered, ArePlaced, AreRelated, AreSame, HaveOneObject, IsCompared, relation_of}
use Rattle.mem_cell_shows.specs.declared.compares.Relation.{Relation}
use Rattle.mem_cell_shows.specs.declared.compares.Relation.TheVariants as relations
use Rattle.mem_cell_shows.proofs.Keeping.{address-base, base-dead, base-lives, base-points, null-base, points-base}
use Rattle.mem_cell_shows.proofs.Spots.{live-made}

-- ---- numbers

truth-has : (b : Bool) → wrapped ints_of.Int (number_truth b) ≡ number_truth b
truth-has true = wrapped-has ints_of.Int (pos 1) (omega (arith, ints))
truth-has false = wrapped-has ints_of.Int (pos 0) (omega (arith, ints))

pub compared-is : (c : Comparison) (op : NOp) (v : List ℤ) (a b : MExprTree) (x y : ℤ) → StandsForComparison c op false → machine_value v a ≡ Some x → machine_value v b ≡ Some y
    → machine_value v (numbers.Binary op ints_of.Int a b) ≡ Some (number_truth (compares c x y))
compared-is c op v a b x y law is also =
    ap (wrapped_value ints_of.Int) (two-values (binary_value op) (machine_value v a) (machine_value v b) x y is also ∙ law x y) ∙ ap Some (truth-has (compares c x y))

pub turned-is : (c : Comparison) (op : NOp) (v : List ℤ) (a b : MExprTree) (x y : ℤ) → StandsForComparison c op true → machine_value v a ≡ Some x → machine_value v b ≡ Some y
    → machine_value v (numbers.Binary op ints_of.Int b a) ≡ Some (number_truth (compares c x y))
turned-is c op v a b x y law is also =
    ap (wrapped_value ints_of.Int) (two-values (binary_value op) (machine_value v b) (machine_value v a) y x also is ∙ law x y) ∙ ap Some (truth-has (compares c x y))

-- the number of a truth has it
pub truth-of_number : (b t : Bool) → b ≡ t → IsTrue (has_truth t (number_truth b))
truth-of_number true true h = refl
truth-of_number true false h = cc
truth-of_number false true h = cc
truth-of_number false false h = refl

-- ---- what a comparison says

bit-truth : (b : Bool) → truth (bit b) ≡ b
bit-truth true = refl
bit-truth false = refl

said : (b : Bool) (w : Value) (t : Bool) → Some (bit b) ≡ Some w → truth w ≡ t → b ≡ t
said b w t h k = let same : bit b ≡ w = cc in sym (bit-truth b) ∙ ap truth same ∙ k

-- pointers into one block compare as their offsets
one-block : (c : Comparison) (p q : Pointer) → (p.block == q.block) ≡ true → compare_pointers c (values.Ptr p) (values.Ptr q) ≡ Some (bit (compares c p.offset q.offset))
one-block c p q h = rw h refl

two-blocks : (c : Comparison) (p q : Pointer) → (p.block == q.block) ≡ false → compare_pointers c (values.Ptr p) (values.Ptr q) ≡ Some (bit (compares c (pos 0) (pos 1)))
two-blocks c p q h = rw h refl

same-base : (m : ObjectMemory) (p q : Pointer) → p.block ≡ q.block → base_of m (values.Ptr p) ≡ base_of m (values.Ptr q)
same-base m p q e = ap (λ b. base_of m (values.Ptr (record { block = b; offset = pos 0 }))) e

-- unlike pointers are not said to be the same
not-same : {P : Type 0} (c : Comparison) (t : Bool) (x y : ℤ) → int_eq x y ≡ false → relation_of c t ≡ relations.Same → compares c x y ≡ t → P
not-same comparisons.Equal true x y d r h = cc
not-same comparisons.Equal false x y d r h = cc
not-same comparisons.Unequal true x y d r h = cc
not-same comparisons.Unequal false x y d r h = let e : not (int_eq x y) ≡ true = ap not d in cc
not-same comparisons.Less t x y d r h = cc
not-same comparisons.Greater t x y d r h = cc
not-same comparisons.AtMost t x y d r h = cc
not-same comparisons.AtLeast t x y d r h = cc

pub same-said : (m : ObjectMemory) (c : Comparison) (t : Bool) (u v w : Value) → relation_of c t ≡ relations.Same → compare_pointers c u v ≡ Some w → truth w ≡ t
    → base_of m u ≡ base_of m v
same-said m c t (values.Ptr p) (values.Ptr q) w r h k = by (p.block == q.block) refl where
  by : (b : Bool) → (p.block == q.block) ≡ b → base_of m (values.Ptr p) ≡ base_of m (values.Ptr q)
  by true e = same-base m p q (eq-true p.block q.block e)
  by false e = not-same c t (pos 0) (pos 1) refl r (said (compares c (pos 0) (pos 1)) w t (sym (two-blocks c p q e) ∙ h) k)
same-said m c t (values.Ptr p) values.Null w r h k = not-same c t (pos 1) (pos 0) refl r (said (compares c (pos 1) (pos 0)) w t h k)
same-said m c t values.Null (values.Ptr q) w r h k = not-same c t (pos 0) (pos 1) refl r (said (compares c (pos 0) (pos 1)) w t h k)
same-said m c t values.Null values.Null w r h k = refl
same-said m c t (values.Int i n) v w r h k = cc
same-said m c t (values.Ptr p) (values.Int i n) w r h k = cc
same-said m c t values.Null (values.Int i n) w r h k = cc

not-apart : (c : Comparison) (t : Bool) → relation_of c t ≡ relations.Apart → compares c (pos 0) (pos 0) ≡ t → ⊥
not-apart comparisons.Equal true r h = cc
not-apart comparisons.Equal false r h = cc
not-apart comparisons.Unequal true r h = cc
not-apart comparisons.Unequal false r h = cc
not-apart comparisons.Less t r h = cc
not-apart comparisons.Greater t r h = cc
not-apart comparisons.AtMost t r h = cc
not-apart comparisons.AtLeast t r h = cc

pub apart-said : (c : Comparison) (t : Bool) (u v w : Value) → relation_of c t ≡ relations.Apart → compare_pointers c u v ≡ Some w → truth w ≡ t
    → u ≡ values.Null → v ≡ values.Null → ⊥
apart-said c t u v w r h k e f =
    let both : compare_pointers c values.Null values.Null ≡ Some w = ap (λ x. compare_pointers c x values.Null) (sym e) ∙ ap (compare_pointers c u) (sym f) ∙ h in
    not-apart c t r (said (compares c (pos 0) (pos 0)) w t both k)

-- both operands are pointers
pub compared-addresses : (c : Comparison) (u v w : Value) → compare_pointers c u v ≡ Some w → IsAddress u × IsAddress v
compared-addresses c (values.Ptr p) (values.Ptr q) w h = (tt, tt)
compared-addresses c (values.Ptr p) values.Null w h = (tt, tt)
compared-addresses c values.Null (values.Ptr q) w h = (tt, tt)
compared-addresses c values.Null values.Null w h = (tt, tt)
compared-addresses c (values.Int i n) v w h = cc
compared-addresses c (values.Ptr p) (values.Int i n) w h = cc
compared-addresses c values.Null (values.Int i n) w h = cc

-- ---- two pointers into one object

no-object : {P : Type 0} (b : Base) (o : ℕ) → b ≡ Dead → b ≡ Object o → P
no-object b o e f = cc

object-same : (o p : ℕ) → Object o ≡ Object p → o ≡ p
object-same o p h = cc

module _ (objects : List ObjectTree) (m : ObjectMemory) (kept : KeepsObjects objects m) where
  -- a pointer whose base is an object is into its block
  pub into-block : (p : Pointer) (o : ℕ) → base_of m (values.Ptr p) ≡ Some (Object o) → place_of m o ≡ Some p.block
  into-block p o h = by ((block_at m.blocks p.block).live) refl where
    by : (live : Bool) → (block_at m.blocks p.block).live ≡ live → place_of m o ≡ Some p.block
    by true e =
        let is : Some (Object (owner_of m p.block)) ≡ Some (Object o) = sym (base-lives m p e) ∙ h in
        let same : owner_of m p.block ≡ o = cc in
        sym (ap (place_of m) same) ∙ kept.lives p.block (live-made m.blocks p.block e) e
    by false e = let is : Some Dead ≡ Some (Object o) = sym (base-dead m p e) ∙ h in cc

  one-place : (p q : Pointer) (o : ℕ) → base_of m (values.Ptr p) ≡ Some (Object o) → base_of m (values.Ptr q) ≡ Some (Object o) → p.block ≡ q.block
  one-place p q o h k = let is : Some p.block ≡ Some q.block = sym (into-block p o h) ∙ into-block q o k in cc

  order-by : (set other : BaseSet) (one : HaveOneObject set other) (c : Comparison) (t : Bool) (u v w : Value) → base_of m u ≡ Some (Object one.object) → base_of m v ≡ Some (Object one.object)
      → compare_pointers c u v ≡ Some w → truth w ≡ t → compares c (number_of u) (number_of v) ≡ t
  order-by set other one c t (values.Ptr p) (values.Ptr q) w h k is says =
      said (compares c p.offset q.offset) w t (sym (one-block c p q (is-eq p.block q.block (one-place p q one.object h k))) ∙ is) says
  order-by set other one c t (values.Ptr p) values.Null w h k is says = cc
  order-by set other one c t values.Null v w h k is says = cc
  order-by set other one c t (values.Int i n) v w h k is says = cc
  order-by set other one c t (values.Ptr p) (values.Int i n) w h k is says = cc

  pub based : (set : BaseSet) (o : ℕ) (u : Value) → ((b : Base) → has_base set b ≡ true → b ≡ Object o) → Points m set u → IsAddress u → base_of m u ≡ Some (Object o)
  based set o u only points address =
      let b = address-base m u address in b.1 ∙ ap Some (only b.0 (points-base m set u b.0 points b.1))

  pub order-said : (set other : BaseSet) → HaveOneObject set other → (c : Comparison) (t : Bool) (u v w : Value) → Points m set u → Points m other v → IsAddress u → IsAddress v
      → compare_pointers c u v ≡ Some w → truth w ≡ t → compares c (number_of u) (number_of v) ≡ t
  order-said set other one c t u v w from to starts ends is says =
      order-by set other one c t u v w (based set one.object u one.first from starts) (based other one.object v one.second to ends) is says

-- ---- what is related

pub related-of : (e f : CsExprTree) (set other : BaseSet) (s : State) (c : Comparison) (t : Bool) (w : Value) (h : ArePlaced e f set other s) → compare_pointers c h.left h.right ≡ Some w
    → truth w ≡ t → AreRelated (relation_of c t) e f set other s
related-of e f set other s c t w h is says = by (relation_of c t) refl where
  by : (r : Relation) → relation_of c t ≡ r → AreRelated r e f set other s
  by relations.Same k = (h, same-said s.memory c t h.left h.right w k is says)
  by relations.Apart k = (h, apart-said c t h.left h.right w k is says)
  by relations.Ordered k = tt

-- what is in both sets
pub same-points : (e f : CsExprTree) (set other both : BaseSet) (null dead : Bool) (s : State) (h : AreSame e f set other s) → IsCommon set other null dead both
    → (has_base set Null ≡ true → has_base other Null ≡ true → IsTrue null) → (has_base set Dead ≡ true → has_base other Dead ≡ true → IsTrue dead)
    → Points s.memory both h.0.left × Points s.memory both h.0.right
same-points e f set other both null dead s h common n d = (
  base-points s.memory both h.0.left (λ b is. has b is (sym h.1 ∙ is)),
  base-points s.memory both h.0.right (λ b is. has b (h.1 ∙ is) is),
)
  where
    has : (b : Base) → base_of s.memory h.0.left ≡ Some b → base_of s.memory h.0.right ≡ Some b → has_base both b ≡ true
    has b k g =
        let one = points-base s.memory set h.0.left b h.0.from k in let two = points-base s.memory other h.0.right b h.0.to g in
        common b one two
        (λ q. n (subst (λ x. has_base set x ≡ true) q one) (subst (λ x. has_base other x ≡ true) q two))
        (λ q. d (subst (λ x. has_base set x ≡ true) q one) (subst (λ x. has_base other x ≡ true) q two))

-- beside a null pointer the other one is not null
pub apart-left : (e f : CsExprTree) (set other left : BaseSet) (s : State) (h : AreApart e f set other s) → ((b : Base) → has_base other b ≡ true → b ≡ Null)
    → ((b : Base) → has_base set b ≡ true → b ≢ Null → has_base left b ≡ true) → Points s.memory left h.0.left
apart-left e f set other left s h null without = base-points s.memory left h.0.left (λ b k. without b (points-base s.memory set h.0.left b h.0.from k)
    (λ q. h.1 (null-base s.memory h.0.left (k ∙ ap Some q)) right-null)) where
      right-null : h.0.right ≡ values.Null
      right-null = let b = address-base s.memory h.0.right h.0.ends in
          null-base s.memory h.0.right (b.1 ∙ ap Some (null b.0 (points-base s.memory other h.0.right b.0 h.0.to b.1)))

pub apart-right : (e f : CsExprTree) (set other left : BaseSet) (s : State) (h : AreApart e f set other s) → ((b : Base) → has_base set b ≡ true → b ≡ Null)
    → ((b : Base) → has_base other b ≡ true → b ≢ Null → has_base left b ≡ true) → Points s.memory left h.0.right
apart-right e f set other left s h null without = base-points s.memory left h.0.right (λ b k. without b (points-base s.memory other h.0.right b h.0.to k)
    (λ q. h.1 left-null (null-base s.memory h.0.right (k ∙ ap Some q)))) where
      left-null : h.0.left ≡ values.Null
      left-null = let b = address-base s.memory h.0.left h.0.starts in
          null-base s.memory h.0.left (b.1 ∙ ap Some (null b.0 (points-base s.memory set h.0.left b.0 h.0.from b.1)))

-- ---- a comparison that has a truth

pub record IsTold (c : Comparison) (e f : CsExprTree) (t : Bool) (s : State) : Type 0 where
  pub left : Value
  pub right : Value
  pub value : Value
  pub first : value_of e s ≡ Some left
  pub second : value_of f s ≡ Some right
  pub gives : compare_pointers c left right ≡ Some value
  pub says : truth value ≡ t

pub told-of : (c : Comparison) (e f : CsExprTree) (t : Bool) (s : State) → IsCompared c e f t s → IsTold c e f t s
told-of c e f t s h =
    let r = both-values (binaries.ComparePointers c) e f s h.0 h.1 in
    record { left = r.0; right = r.1; value = h.0; first = r.2; second = r.3; gives = r.5; says = h.2 }

module _ {D : Type 0} (admits : D → List ℤ → Type 0) (k : Known D) (e f : CsExprTree) (set other : BaseSet) (a b : Option MExprTree) (at : IsPlaceFor admits k e set a)
    (also : IsPlaceFor admits k f other b) (c : Comparison) (t : Bool) (objects : List ObjectTree) (s : State) (st : StandsFor admits objects k s) (h : IsCompared c e f t s) where
  told : IsTold c e f t s
  told = told-of c e f t s h

  pub order-of : HaveOneObject set other → AreOrdered c a b t st.v
  order-of one =
      let q = told in
      let x = at objects s st q.left q.first in let y = also objects s st q.right q.second in let both = compared-addresses c q.left q.right q.value q.gives in
      (q.left, q.right, x.1, y.1, order-said objects s.memory st.kept set other one c t q.left q.right q.value x.0 y.0 both.0 both.1 q.gives q.says)

  pub relation-of : AreRelated (relation_of c t) e f set other s
  relation-of =
      let q = told in
      let x = at objects s st q.left q.first in let y = also objects s st q.right q.second in let both = compared-addresses c q.left q.right q.value q.gives in
      related-of e f set other s c t q.value
      (record { left = q.left; right = q.right; first = q.first; second = q.second; from = x.0; to = y.0; starts = both.0; ends = both.1 }) q.gives q.says
