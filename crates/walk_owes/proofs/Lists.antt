-- Lists of alarms and of kept sets.
use Rattle.std.proofs.Common.{◌≡◌, zero, suc, List, [], ◌∷◌, ◌++◌, Option, ap, ◌∙◌, subst, sym, ⊎_elim, inl, inr, ◌⊎◌, arith}
use Rattle.std.specs.Prelude.{All}
use Rattle.c_syntax_written.specs.declared.place.Pos.{Pos}
use Rattle.c_syntax.specs.declared.alarm.Alarm.{Alarm}
use Rattle.c_syntax.specs.declared.alarm.WrongKind.{WrongKind}
use Rattle.c_syntax.specs.Operand.{Operand}
use Rattle.c_syntax.specs.declared.alarm.Fact.{Fact}
use Rattle.mem_api.specs.FactsOf.{Adds}
use Rattle.c_values.specs.Places.{ObjectMemory}
use Rattle.csharp.specs.Trees.{CsProgramTree}
use Rattle.csharp.specs.States.{State}
use Rattle.walk_owes.specs.declared.way.Way.{Way}
use Rattle.walk_owes.specs.declared.way.Way.TheVariants as ways
use Rattle.walk_owes.specs.declared.way.Kept.{Kept}
use Rattle.alarm_claims.specs.Analyzed.{Listed, Tells}
use Rattle.walk_owes.specs.Owes.{IsMoved, AllFor, GoesOut, InSome, KeepsState}

-- ---- alarms

pub listed_front : (q : CsProgramTree) (xs ys : List Alarm) (c : List Pos) (at : Pos) (k : WrongKind) (x : Operand) (m : ObjectMemory)
    → Listed q xs c at k x m → Listed q (xs ++ ys) c at k x m
listed_front q [] ys c at k x m h = absurd h
listed_front q (a ∷ xs) ys c at k x m h = ⊎_elim inl (λ r. inr (listed_front q xs ys c at k x m r)) h

pub listed_back : (q : CsProgramTree) (xs ys : List Alarm) (c : List Pos) (at : Pos) (k : WrongKind) (x : Operand) (m : ObjectMemory)
    → Listed q ys c at k x m → Listed q (xs ++ ys) c at k x m
listed_back q [] ys c at k x m h = h
listed_back q (a ∷ xs) ys c at k x m h = inr (listed_back q xs ys c at k x m h)

pub listed_split : (q : CsProgramTree) (xs ys : List Alarm) (c : List Pos) (at : Pos) (k : WrongKind) (x : Operand) (m : ObjectMemory)
    → Listed q (xs ++ ys) c at k x m → Listed q xs c at k x m ⊎ Listed q ys c at k x m
listed_split q [] ys c at k x m h = inr h
listed_split q (a ∷ xs) ys c at k x m h = ⊎_elim (λ e. inl (inl e)) (λ r. ⊎_elim (λ b. inl (inr b)) inr (listed_split q xs ys c at k x m r)) h

tells_moved : (q : CsProgramTree) (a b : Alarm) (at : Pos) (c : List Pos) (place : Pos) (k : WrongKind) (x : Operand) (m : ObjectMemory)
    → IsMoved at a b → Tells q a c place k x m → Tells q b (at ∷ c) place k x m
tells_moved q a b at c place k x m f t = record {
  chain = f.chain ∙ ap (λ l. at ∷ l) t.chain;
  place = f.place ∙ t.place;
  kind = f.kind ∙ t.kind;
  shown = rw f.shown t.shown;
  facts = rw f.facts t.facts;
}

-- one alarm of a call
pub listed_moved : (q : CsProgramTree) (a b : Alarm) (at : Pos) (xs out : List Alarm) (c : List Pos) (place : Pos) (k : WrongKind) (x : Operand)
    (m : ObjectMemory) → IsMoved at a b
    → Listed q (xs ++ a ∷ []) c place k x m ⊎ Listed q out (at ∷ c) place k x m
    → Listed q xs c place k x m ⊎ Listed q (out ++ b ∷ []) (at ∷ c) place k x m
listed_moved q a b at xs out c place k x m f h =
    ⊎_elim
    (λ l. ⊎_elim inl (λ r. ⊎_elim (λ t. inr (listed_back q out (b ∷ []) (at ∷ c) place k x m (inl (tells_moved q a b at c place k x m f t)))) absurd r)
    (listed_split q xs (a ∷ []) c place k x m l))
    (λ r. inr (listed_front q out (b ∷ []) (at ∷ c) place k x m r))
    h

-- ---- kept sets

module _ {M : Type 0} (stands : M → State → Type 0) where
  pub keeps_front : (xs ys : List (Kept M)) (w : Way) (s : State) → KeepsState stands xs w s → KeepsState stands (xs ++ ys) w s
  keeps_front [] ys w s h = absurd h
  keeps_front (x ∷ xs) ys w s h = ⊎_elim inl (λ r. inr (keeps_front xs ys w s r)) h

  pub keeps_back : (xs ys : List (Kept M)) (w : Way) (s : State) → KeepsState stands ys w s → KeepsState stands (xs ++ ys) w s
  keeps_back [] ys w s h = h
  keeps_back (x ∷ xs) ys w s h = inr (keeps_back xs ys w s h)

  pub keeps_split : (xs ys : List (Kept M)) (w : Way) (s : State) → KeepsState stands (xs ++ ys) w s → KeepsState stands xs w s ⊎ KeepsState stands ys w s
  keeps_split [] ys w s h = inr h
  keeps_split (x ∷ xs) ys w s h = ⊎_elim (λ e. inl (inl e)) (λ r. ⊎_elim (λ a. inl (inr a)) inr (keeps_split xs ys w s r)) h

  -- where a state goes out, as what is kept grows
  goes_out_on : (kept more : List (Kept M)) (after later : Option M) → ((w : Way) (s : State) → KeepsState stands kept w s → KeepsState stands more w s)
      → ((s : State) → InSome stands after s → InSome stands later s) → (w : Way) (s : State) → GoesOut stands kept after w s → GoesOut stands more later w s
  goes_out_on kept more after later f g (ways.Exit zero) s h = g s h
  goes_out_on kept more after later f g (ways.Exit (suc k)) s h = f (ways.Exit k) s h
  goes_out_on kept more after later f g (ways.Goto l) s h = f (ways.Goto l) s h
  goes_out_on kept more after later f g ways.Return s h = f ways.Return s h

  -- one kept set leaves a block
  pub leave_step : (xs : List (Kept M)) (x : Kept M) (kept more : List (Kept M)) (after later : Option M)
      → ((w : Way) (s : State) → KeepsState stands kept w s → KeepsState stands more w s) → ((s : State) → InSome stands after s → InSome stands later s)
      → ((s : State) → stands x.state s → GoesOut stands more later x.way s) → (w : Way) (s : State)
      → KeepsState stands (xs ++ x ∷ []) w s ⊎ GoesOut stands kept after w s → KeepsState stands xs w s ⊎ GoesOut stands more later w s
  leave_step xs x kept more after later f g here w s h =
      ⊎_elim
      (λ a. ⊎_elim inl (λ b. ⊎_elim (λ e. inr (subst (λ v. GoesOut stands more later v s) e.0 (here s e.1))) absurd b) (keeps_split xs (x ∷ []) w s a))
      (λ o. inr (goes_out_on kept more after later f g w s o))
      h

  -- one kept set leaves a call
  pub return_step : (xs : List (Kept M)) (x : Kept M) (after later : Option M) (w : Way) → ((s : State) → InSome stands after s → InSome stands later s)
      → ((s : State) → x.way ≡ w → stands x.state s → InSome stands later s) → (s : State)
      → KeepsState stands (xs ++ x ∷ []) w s ⊎ InSome stands after s → KeepsState stands xs w s ⊎ InSome stands later s
  return_step xs x after later w g here s h =
      ⊎_elim
      (λ a. ⊎_elim inl (λ b. ⊎_elim (λ e. inr (here s e.0 e.1)) absurd b) (keeps_split xs (x ∷ []) w s a))
      (λ o. inr (g s o))
      h

pub all_for_front : {M : Type 0} (for : M → CsProgramTree → Type 0) (q : CsProgramTree) (xs : List (Kept M)) (x : Kept M)
    → AllFor for q (xs ++ x ∷ []) → AllFor for q xs
all_for_front for q [] x h = tt
all_for_front for q (y ∷ xs) x h = (h.0, all_for_front for q xs x h.1)

pub all_for_last : {M : Type 0} (for : M → CsProgramTree → Type 0) (q : CsProgramTree) (xs : List (Kept M)) (x : Kept M)
    → AllFor for q (xs ++ x ∷ []) → for x.state q
all_for_last for q [] x h = h.0
all_for_last for q (y ∷ xs) x h = all_for_last for q xs x h.1

pub all_for_push : {M : Type 0} (for : M → CsProgramTree → Type 0) (q : CsProgramTree) (xs : List (Kept M)) (x : Kept M)
    → AllFor for q xs → for x.state q → AllFor for q (xs ++ x ∷ [])
all_for_push for q [] x h k = (k, tt)
all_for_push for q (y ∷ xs) x h k = (h.0, all_for_push for q xs x h.1 k)

-- what was put behind an empty list
pub added : (N H R : Fact → Type 0) (old now : List Fact) → old ≡ [] → Adds old now (λ f. N f × H f) → ((f : Fact) → N f → H f → R f) → All R now
added N H R old now e a f = subst (All R) (sym (a.1 ∙ ap (λ l. l ++ a.0) e)) (λ k d l. let x = a.2 k d l in f _ x.0 x.1)

-- ---- all of a list

pub all_cons : {A : Type 0} (P : A → Type 0) (x : A) (xs : List A) → P x → All P xs → All P (x ∷ xs)
all_cons P x xs h t zero d l = h
all_cons P x xs h t (suc k) d l = t k d (omega (l, arith))

pub all_none : {A : Type 0} (P : A → Type 0) → All P []
all_none P k d l = absurd (omega (l, arith))

pub all_front : {A : Type 0} (P : A → Type 0) (xs : List A) (x : A) → All P (xs ++ x ∷ []) → All P xs
all_front P [] x h = all_none P
all_front P (y ∷ xs) x h = all_cons P y xs (h 0 y (omega arith)) (all_front P xs x (λ k d l. h (suc k) d (omega (l, arith))))

pub all_last : {A : Type 0} (P : A → Type 0) (xs : List A) (x : A) → All P (xs ++ x ∷ []) → P x
all_last P [] x h = h 0 x (omega arith)
all_last P (y ∷ xs) x h = all_last P xs x (λ k d l. h (suc k) d (omega (l, arith)))
