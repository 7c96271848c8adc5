-- Switches: where a value is compared with the cases one after the other, and what goes on behind those.
use Rattle.std.proofs.Common.{◌≡◌, ◌⊎◌, ⊎_elim, inl, inr, ℕ, ℤ, List, [], Option, Some, None, Bool, true, false, if◌then◌else◌, refl, sym, ◌∙◌, subst}
use Rattle.std.specs.Ordering.{int_eq}
use Rattle.std.proofs.lemmas.Bool.Decides.{Decides-int_eq}
use Rattle.c_syntax_written.specs.declared.int_type.IntType.{IntType}
use Rattle.c_syntax.specs.declared.alarm.Alarm.{Alarm}
use Rattle.block_mem.specs.declared.types.Value.{Value}
use Rattle.block_mem.specs.declared.types.Value.TheVariants as values
use Rattle.block_mem.specs.declared.types.Pointer.{Pointer}
use Rattle.c_values.specs.Values.{bit, truth}
use Rattle.csharp.specs.Trees as trees
use Rattle.csharp.specs.Trees.{CsExprTree, CsStmtTree, CsStmtTrees, none, more, Switch, CsProgramTree}
use Rattle.csharp.specs.States.{State, value_of}
use Rattle.csharp.specs.Actions.{are_free, enter, leave}
use Rattle.csharp.specs.Outcomes.{or_stuck}
use Rattle.csharp.specs.Meaning.{AtCase, AtDefault, caught, chosen, has, is_mark, items, later_by, where_chosen, within}
use Rattle.walk_owes.specs.declared.marks.Head.{Head}
use Rattle.walk_owes.specs.declared.marks.Mark.{Mark}
use Rattle.walk_owes.specs.declared.marks.Mark.TheVariants as marks
use Rattle.walk_owes.specs.declared.way.Kept.{Kept}
use Rattle.walk_owes.specs.declared.way.Target.{Target}
use Rattle.walk_owes.specs.declared.way.Way.{Way}
use Rattle.walk_owes.specs.Owes.{Covered, InSome, KeepsState, Sound}
use Rattle.walk_owes.specs.Items.{Begins, CoveredAll, HasHead, Parted, mark_of}
use Rattle.walk_owes.specs.Walkable.{equals}
use Rattle.walk_owes.proofs.Scopes.{covered_free, covered_scope}

-- ---- the test of a case

-- what the test gives
pub equals_value : (e : CsExprTree) (s : State) (t u : IntType) (k n : ℤ) → value_of e s ≡ Some (values.Int u k)
    → value_of (equals t e n) s ≡ Some (bit (int_eq k n))
equals_value e s t u k n i = rw i refl

pub bit_truth : (b : Bool) → truth (bit b) ≡ b
bit_truth true = refl
bit_truth false = refl

both : {b : Bool} → b ≡ false → b ≡ true → ⊥
both e f = absurd (cc)

pub case_same : (k n : ℤ) → int_eq k n ≡ true → n ≡ k
case_same k n e = sym ((Decides-int_eq k n).0 e)

has_if : (b c : Bool) → b ≡ true → (if b then true else c) ≡ true
has_if true c e = refl
has_if false c e = absurd (both refl e)

has_else : (b c : Bool) → b ≡ false → (if b then true else c) ≡ c
has_else true c e = absurd (both e refl)
has_else false c e = refl

some_same : {A : Type 0} (a b : A) → Some a ≡ Some b → a ≡ b
some_same a b e = cc

module _ {M : Type 0} (stands : M → State → Type 0) (q : CsProgramTree) (e : CsExprTree) (xs : List ℕ) (all : CsStmtTrees) (before : M) where
  pub parted_begin : Parted stands q e xs all all before [] (Some before)
  parted_begin = record { by = λ s t k h i. inl (h, refl) }

  -- an item that is no case
  pub parted_other : (item : CsStmtTree) (rest : CsStmtTrees) (heads : List (Head M)) (left : Option M) → ((k : ℤ) → is_mark (AtCase k) item ≡ false)
      → Parted stands q e xs all (more item rest) before heads left → Parted stands q e xs all rest before heads left
  parted_other item rest heads left f p = record {
    by = λ s t k h i. ⊎_elim (λ l. inl (l.0, l.1 ∙ has_else (is_mark (AtCase k) item) (has (AtCase k) rest) (f k))) (λ r. inr r) (p.by s t k h i);
  }

  module _ (n : ℤ) (rest : CsStmtTrees) (heads later : List (Head M)) (left less : Option M)
      (on : (mark : Mark) (s : State) → HasHead stands heads mark s → HasHead stands later mark s)
      (hit : (s : State) (t : IntType) (k : ℤ) → InSome stands left s → value_of e s ≡ Some (values.Int t k) → int_eq k n ≡ true → are_free xs s ≡ true
      → HasHead stands later (marks.Case n) (enter q.objects xs s))
      (miss : (s : State) (t : IntType) (k : ℤ) → InSome stands left s → value_of e s ≡ Some (values.Int t k) → int_eq k n ≡ false → InSome stands less s) where
    meets : (s : State) (t : IntType) (k : ℤ) → InSome stands left s → value_of e s ≡ Some (values.Int t k)
        → has (AtCase k) all ≡ has (AtCase k) (more (trees.Case n) rest) → (b : Bool) → int_eq k n ≡ b
        → (InSome stands less s × (has (AtCase k) all ≡ has (AtCase k) rest))
        ⊎ ((has (AtCase k) all ≡ true) × (are_free xs s ≡ true → HasHead stands later (marks.Case k) (enter q.objects xs s)))
    meets s t k l i j true b = inr (
      j ∙ has_if (int_eq k n) (has (AtCase k) rest) b,
      λ f. subst (λ z. HasHead stands later (marks.Case z) (enter q.objects xs s)) (case_same k n b) (hit s t k l i b f),
    )
    meets s t k l i j false b = inl (miss s t k l i b, j ∙ has_else (int_eq k n) (has (AtCase k) rest) b)

    -- a case, where the states of its value enter, and the others are left
    pub parted_case : Parted stands q e xs all (more (trees.Case n) rest) before heads left → Parted stands q e xs all rest before later less
    parted_case p = record {
      by = λ s t k h i. ⊎_elim
          (λ l. meets s t k l.0 i l.1 (int_eq k n) refl)
          (λ r. inr (r.0, λ f. on (marks.Case k) (enter q.objects xs s) (r.1 f)))
          (p.by s t k h i);
    }

no_int_ptr : {t : IntType} {k : ℤ} {p : Pointer} → values.Ptr p ≡ values.Int t k → ⊥
no_int_ptr i = absurd (cc)

no_int_null : {t : IntType} {k : ℤ} → values.Null ≡ values.Int t k → ⊥
no_int_null i = absurd (cc)

module _ {M : Type 0} (stands : M → State → Type 0) (q : CsProgramTree) (to : Target) (e : CsExprTree) (xs : List ℕ) (all : CsStmtTrees) (before : M)
    (heads : List (Head M)) (left mid after : Option M) (inner kept : List (Kept M)) (out : List Alarm)
    (parted : Parted stands q e xs all none before heads left)
    (entered : has AtDefault all ≡ true → (s : State) → InSome stands left s → are_free xs s ≡ true → HasHead stands heads marks.Default (enter q.objects xs s))
    (behind : has AtDefault all ≡ false → (s : State) → InSome stands left s → InSome stands after s)
    (x : CoveredAll stands q to all (Begins stands all heads None) mid inner out)
    (f : (s : State) → InSome stands mid s → InSome stands after (leave xs s))
    (g : (w : Way) (s : State) → KeepsState stands inner w s → KeepsState stands kept w (leave xs s)) where
  -- items that are entered at a mark
  at_mark : (over : ℕ → Bool) (n : ℕ) (s : State) (mark : Mark)
      → has (mark_of mark) all ≡ true → (are_free xs s ≡ true → HasHead stands heads mark (enter q.objects xs s))
      → Covered stands q to after kept out (within q xs s (λ t. caught (later_by over q n) all (items over q (later_by over q n) (Some (mark_of mark)) all t)))
  at_mark over n s mark there h =
      covered_free stands q to (are_free xs s) xs after kept out
      (caught (later_by over q n) all (items over q (later_by over q n) (Some (mark_of mark)) all (enter q.objects xs s)))
      (λ i. covered_scope stands q to xs mid after inner kept out f g
      (caught (later_by over q n) all (items over q (later_by over q n) (Some (mark_of mark)) all (enter q.objects xs s)))
      (x over n (Some (mark_of mark)) (enter q.objects xs s) (mark, refl, h i, there)))

  at_default : (over : ℕ → Bool) (n : ℕ) (s : State) (b : Bool) → has AtDefault all ≡ b → InSome stands left s
      → Covered stands q to after kept out
      (where_chosen (if b then Some AtDefault else None) s
      (λ mark. within q xs s (λ t. caught (later_by over q n) all (items over q (later_by over q n) (Some mark) all t))))
  at_default over n s true b l = at_mark over n s marks.Default b (λ i. entered b s l i)
  at_default over n s false b l = behind b s l

  at_case : (over : ℕ → Bool) (n : ℕ) (s : State) (k : ℤ) (b : Bool) → has (AtCase k) all ≡ b
      → (InSome stands left s × (has (AtCase k) all ≡ false))
      ⊎ ((has (AtCase k) all ≡ true) × (are_free xs s ≡ true → HasHead stands heads (marks.Case k) (enter q.objects xs s)))
      → Covered stands q to after kept out
      (where_chosen (if b then Some (AtCase k) else (if has AtDefault all then Some AtDefault else None)) s
      (λ mark. within q xs s (λ t. caught (later_by over q n) all (items over q (later_by over q n) (Some mark) all t))))
  at_case over n s k true b h = ⊎_elim (λ l. absurd (both l.1 b)) (λ r. at_mark over n s (marks.Case k) b r.1) h
  at_case over n s k false b h = ⊎_elim (λ l. at_default over n s (has AtDefault all) refl l.0) (λ r. absurd (both b r.0)) h

  at_value : (over : ℕ → Bool) (n : ℕ) (s : State) (o : Option Value) → value_of e s ≡ o → stands before s
      → ((v : Value) → o ≡ Some v → (t : IntType) × (k : ℤ) × (v ≡ values.Int t k))
      → Covered stands q to after kept out
      (or_stuck o (λ v. where_chosen (chosen v all) s
      (λ mark. within q xs s (λ t. caught (later_by over q n) all (items over q (later_by over q n) (Some mark) all t)))))
  at_value over n s None i h w = tt
  at_value over n s (Some (values.Int t k)) i h w = at_case over n s k (has (AtCase k) all) refl (parted.by s t k h i)
  at_value over n s (Some (values.Ptr p)) i h w = let z = w (values.Ptr p) refl in absurd (no_int_ptr z.2)
  at_value over n s (Some values.Null) i h w = let z = w values.Null refl in absurd (no_int_null z.2)

  -- a switch, by what its items come to from its cases and its default
  pub switch_sound : ((s : State) (v : Value) → stands before s → value_of e s ≡ Some v → (t : IntType) × (k : ℤ) × (v ≡ values.Int t k))
      → Sound stands q to (Switch e xs all) (Some before) after kept out
  switch_sound whole = record { by = λ over n s h. at_value over n s (value_of e s) refl h (λ v i. whole s v h i) }
