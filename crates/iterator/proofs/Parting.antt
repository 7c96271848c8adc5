-- The one state before a switch, as it is parted by the cases.
use Rattle.std.proofs.Common.{◌≡◌, ◌⊎◌, ⊎_elim, inl, inr, ℕ, ℤ, List, [], ◌∷◌, ◌++◌, Option, Some, None, Bool, true, false, refl, sym, ap, subst, ◌∙◌}
use Rattle.std.specs.Prelude.{◌≢◌}
use Rattle.std.specs.Ordering.{int_eq}
use Rattle.std.proofs.lemmas.Bool.Decides.{Decides-int_eq, eqb_tells}
use Rattle.c_syntax_written.specs.declared.int_type.IntType.{IntType}
use Rattle.block_mem.specs.declared.types.Value.TheVariants as values
use Rattle.csharp.specs.Trees as trees
use Rattle.csharp.specs.Trees.{CsExprTree, CsStmtTree, CsStmtTrees, more, CsProgramTree}
use Rattle.csharp.specs.States.{State, value_of}
use Rattle.csharp.specs.Actions.{are_free, enter}
use Rattle.csharp.specs.Meaning.{AtCase, has, is_mark}
use Rattle.walk_owes.specs.declared.marks.Head.{Head}
use Rattle.walk_owes.specs.declared.marks.Mark.{Mark}
use Rattle.walk_owes.specs.declared.marks.Mark.TheVariants as marks
use Rattle.walk_owes.specs.Owes.{InSome}
use Rattle.walk_owes.specs.Exactly.{HeadAlone, IsBare, PartedAlone}
use Rattle.walk_owes.proofs.Entering.{has_first, has_skip}
use Rattle.walk_owes.proofs.Switches.{case_same}

-- ---- two marks are the same or not

label_is : (l k : ℕ) → marks.Label l ≡ marks.Label k → l ≡ k
label_is l k e = cc

case_is : (n k : ℤ) → marks.Case n ≡ marks.Case k → n ≡ k
case_is n k e = cc

same_case : (n k : ℤ) (b : Bool) → int_eq n k ≡ b → (marks.Case n ≡ marks.Case k) ⊎ (marks.Case n ≡ marks.Case k → ⊥)
same_case n k true e = inl (ap marks.Case ((Decides-int_eq n k).0 e))
same_case n k false e = inr (λ f. let y = (Decides-int_eq n k).1 (case_is n k f) in absurd (cc))

pub same_mark : (a b : Mark) → (a ≡ b) ⊎ (a ≡ b → ⊥)
same_mark (marks.Label l) (marks.Label k) = ⊎_elim (λ y. inl (ap marks.Label y.1)) (λ n. inr (λ e. n.1 (label_is l k e))) (eqb_tells l k)
same_mark (marks.Label l) (marks.Case k) = inr (λ e. absurd (cc))
same_mark (marks.Label l) marks.Default = inr (λ e. absurd (cc))
same_mark (marks.Case n) (marks.Label k) = inr (λ e. absurd (cc))
same_mark (marks.Case n) (marks.Case k) = same_case n k (int_eq n k) refl
same_mark (marks.Case n) marks.Default = inr (λ e. absurd (cc))
same_mark marks.Default (marks.Label k) = inr (λ e. absurd (cc))
same_mark marks.Default (marks.Case k) = inr (λ e. absurd (cc))
same_mark marks.Default marks.Default = inl refl

-- ---- one truth is not the other

pub not_true : {b : Bool} → b ≡ false → b ≢ true
not_true e f = absurd (cc)

pub not_false : {b : Bool} → b ≡ true → b ≢ false
not_false e f = absurd (cc)

-- ---- one head more, where none had a set

bare_apart : {M : Type 0} (heads : List (Head M)) (h : Head M) (other : Mark) → IsBare heads other → (other ≡ h.mark → ⊥) → IsBare (heads ++ h ∷ []) other
bare_apart [] h other b f = (λ e. absurd (f (sym e)), tt)
bare_apart (x ∷ heads) h other b f = (b.0, bare_apart heads h other b.1 f)

pub bare_others : {M : Type 0} (heads : List (Head M)) (h : Head M) → ((at : Mark) → IsBare heads at) → (other : Mark)
    → IsBare (heads ++ h ∷ []) other ⊎ (other ≡ h.mark)
bare_others heads h b other = ⊎_elim (λ e. inr e) (λ f. inl (bare_apart heads h other (b other) f)) (same_mark other h.mark)

pub alone_last : {M : Type 0} (sharp : M → State → Type 0) (heads : List (Head M)) (h : Head M) (s : State) → ((at : Mark) → IsBare heads at)
    → InSome sharp h.state s → HeadAlone sharp (heads ++ h ∷ []) h.mark s
alone_last sharp [] h s b i = inl (refl, i, tt)
alone_last sharp (x ∷ heads) h s b i = inr ((b h.mark).0, alone_last sharp heads h s (λ at. (b at).1) i)

-- ---- items one by one

module _ {M : Type 0} (sharp : M → State → Type 0) (q : CsProgramTree) (e : CsExprTree) (xs : List ℕ) (all : CsStmtTrees) (before : M) where
  pub alone_begin : PartedAlone sharp q e xs all all before [] (Some before)
  alone_begin = record { by = λ s t k h i. inl (h, refl, λ mark. tt) }

  -- an item that is no case
  pub alone_other : (item : CsStmtTree) (rest : CsStmtTrees) (heads : List (Head M)) (left : Option M) → ((k : ℤ) → is_mark (AtCase k) item ≡ false)
      → PartedAlone sharp q e xs all (more item rest) before heads left → PartedAlone sharp q e xs all rest before heads left
  alone_other item rest heads left f p = record {
    by = λ s t k h i. ⊎_elim (λ l. inl (l.0, l.1 ∙ has_skip (AtCase k) item rest (f k), l.2)) (λ r. inr r) (p.by s t k h i);
  }

  module _ (n : ℤ) (rest : CsStmtTrees) (heads later : List (Head M)) (left less : Option M)
      (gone : left ≡ None → (less ≡ None) × (later ≡ heads))
      (hit : (s : State) (t : IntType) (k : ℤ) → InSome sharp left s → value_of e s ≡ Some (values.Int t k) → int_eq k n ≡ true → ((at : Mark) → IsBare heads at)
      → (less ≡ None) × (are_free xs s ≡ true → HeadAlone sharp later (marks.Case n) (enter q.objects xs s))
      × ((other : Mark) → IsBare later other ⊎ (other ≡ marks.Case n)))
      (miss : (s : State) (t : IntType) (k : ℤ) → InSome sharp left s → value_of e s ≡ Some (values.Int t k) → int_eq k n ≡ false
      → InSome sharp less s × (later ≡ heads)) where
    meets : (s : State) (t : IntType) (k : ℤ) → InSome sharp left s → value_of e s ≡ Some (values.Int t k)
        → has (AtCase k) all ≡ has (AtCase k) (more (trees.Case n) rest) → ((at : Mark) → IsBare heads at) → (b : Bool) → int_eq k n ≡ b
        → (InSome sharp less s × (has (AtCase k) all ≡ has (AtCase k) rest) × ((mark : Mark) → IsBare later mark))
        ⊎ ((has (AtCase k) all ≡ true) × (less ≡ None) × (are_free xs s ≡ true → HeadAlone sharp later (marks.Case k) (enter q.objects xs s))
        × ((other : Mark) → IsBare later other ⊎ (other ≡ marks.Case k)))
    meets s t k l i j bare true b =
        let y = hit s t k l i b bare in
        let c = case_same k n b in
        inr (
          j ∙ has_first (AtCase k) (trees.Case n) rest b,
          y.0,
          λ f. subst (λ z. HeadAlone sharp later (marks.Case z) (enter q.objects xs s)) c (y.1 f),
          λ other. subst (λ z. IsBare later other ⊎ (other ≡ marks.Case z)) c (y.2 other),
        )
    meets s t k l i j bare false b =
        let y = miss s t k l i b in
        inl (y.0, j ∙ has_skip (AtCase k) (trees.Case n) rest b, λ mark. subst (λ hs. IsBare hs mark) (sym y.1) (bare mark))

    -- a case, where the state of its value enters, and any other is left
    pub alone_case : PartedAlone sharp q e xs all (more (trees.Case n) rest) before heads left → PartedAlone sharp q e xs all rest before later less
    alone_case p = record {
      by = λ s t k h i. ⊎_elim
          (λ l. meets s t k l.0 i l.1 l.2 (int_eq k n) refl)
          (λ r. let y = gone r.1 in
          inr (
            r.0,
            y.0,
            λ f. subst (λ hs. HeadAlone sharp hs (marks.Case k) (enter q.objects xs s)) (sym y.1) (r.2 f),
            λ other. subst (λ hs. IsBare hs other ⊎ (other ≡ marks.Case k)) (sym y.1) (r.3 other),
          ))
          (p.by s t k h i);
    }
