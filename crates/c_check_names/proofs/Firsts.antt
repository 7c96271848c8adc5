-- What is looked up stays right where one more is put at the end of its list.
use Rattle.std.proofs.Common.{◌≡◌, refl, sym, ap, subst, ◌∙◌, ℕ, ℤ, Bool, true, false, cond, List, [], ◌∷◌, ◌++◌, Option, Some, None, int_eq}
use Rattle.std.specs.Prelude.{◌==◌, find, is_some, option_map}
use Rattle.std.specs.Bool.{nat_eq}
use Rattle.std.specs.Option.{option_or}
use Rattle.std.specs.HashMap.{HashMap, get_by, Updates as UpdatesMap}
use Rattle.std.specs.HashSet.{HashSet, Updates as UpdatesSet}
use Rattle.std.proofs.lemmas.Bool.{false≢true, true≢false}
use Rattle.std.proofs.lemmas.Bool.Decides.{Decides-int_eq}
use Rattle.std.proofs.lemmas.List.Folds.{find-append}
use Rattle.c_syntax_written.specs.declared.place.Pos.{Pos}
use Rattle.c_syntax.specs.declared.program.Initial.{Initial}
use Rattle.c_check_names.specs.declared.types.CaseAt.{CaseAt}
use Rattle.c_check_names.specs.Firsts.{first_case, HasFirstCases, HasInitialised}

-- what is found at the end, where nothing is before it
some_or : {A : Type 0} (b : Bool) (o : Option A) (x : A) → cond b true (is_some o) ≡ is_some (option_or o (cond b (Some x) None))
some_or true None x = refl
some_or true (Some y) x = refl
some_or false None x = refl
some_or false (Some y) x = refl

pub one_more_initial : {S : Type 0} (m n : HashSet ℕ S) (initial : List Initial) (one : Initial) → HasInitialised m initial → UpdatesSet nat_eq m n one.object true
    → HasInitialised n (initial ++ one ∷ [])
one_more_initial m n initial one h u q =
    u.0 q ∙ ap (cond (nat_eq one.object q) true) (h q) ∙ some_or (nat_eq one.object q) (find (λ (i : Initial). i.object == q) initial) one
    ∙ ap is_some (sym (find-append (λ (i : Initial). i.object == q) initial (one ∷ [])))

abbrev case_pos : Option CaseAt → Option Pos
case_pos o = option_map (λ (case : CaseAt). case.pos) o

-- the first one with a case at the end: it is that case only where none stood before it
still_first : (b : Bool) (o : Option CaseAt) (case : CaseAt) → (b ≡ true → is_some (case_pos o) ≡ true) → case_pos o ≡ case_pos (option_or o (cond b (Some case) None))
still_first true None case h = absurd (false≢true (h refl))
still_first true (Some first) case h = refl
still_first false None case h = refl
still_first false (Some first) case h = refl

now_first : (b : Bool) (o : Option CaseAt) (case : CaseAt) → (b ≡ true → is_some (case_pos o) ≡ false) → cond b (Some case.pos) (case_pos o) ≡ case_pos (option_or o (cond b (Some case) None))
now_first true None case h = refl
now_first true (Some first) case h = absurd (true≢false (h refl))
now_first false None case h = refl
now_first false (Some first) case h = refl

module _ {S : Type 0} (m n : HashMap ℤ Pos S) (cases : List CaseAt) (case : CaseAt) (h : HasFirstCases m cases) where
  abbrev found : ℤ → Option CaseAt
  found q = find (λ (c : CaseAt). int_eq c.value q) cases

  at_end : (q : ℤ) → first_case q (cases ++ case ∷ []) ≡ case_pos (option_or (found q) (cond (int_eq case.value q) (Some case) None))
  at_end q = ap case_pos (find-append (λ (c : CaseAt). int_eq c.value q) cases (case ∷ []))

  -- whether the value of the case is there tells whether an equal value is
  as_here : (b : Bool) → is_some (get_by (int_eq case.value) m) ≡ b → (q : ℤ) → int_eq case.value q ≡ true → is_some (first_case q cases) ≡ b
  as_here b e q same = subst (λ k. is_some (first_case k cases) ≡ b) ((Decides-int_eq case.value q).0 same) (ap is_some (sym (h case.value)) ∙ e)

  -- a case of a value that is there
  pub case_again : is_some (get_by (int_eq case.value) m) ≡ true → HasFirstCases m (cases ++ case ∷ [])
  case_again e q = h q ∙ still_first (int_eq case.value q) (found q) case (as_here true e q) ∙ sym (at_end q)

  -- and of a new one
  pub case_new : is_some (get_by (int_eq case.value) m) ≡ false → UpdatesMap int_eq m n case.value (Some case.pos) → HasFirstCases n (cases ++ case ∷ [])
  case_new e u q =
      u.0 q ∙ ap (cond (int_eq case.value q) (Some case.pos)) (h q) ∙ now_first (int_eq case.value q) (found q) case (as_here false e q) ∙ sym (at_end q)
