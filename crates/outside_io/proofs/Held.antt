-- Files that are looked up by name, where one of them changes or is added.
use Rattle.std.proofs.Common.{arith, refl, sym, ◌∙◌, ap, inl, inr, ◌≡◌, ◌≢◌, ◌<◌, ◌≤◌, ℕ, suc, zero, List, [], ◌∷◌, ◌++◌, Bool, true, false, cond, Option, Some, None, length, set, position, option_map, ◌⊎◌}
use Rattle.std.specs.Prelude.{find, nat_lt}
use Rattle.std.specs.List.{position_or_len, slice_get}
use Rattle.std.specs.Str.{bytes_eq}
use Rattle.std.specs.Option.{option_or, option_map_or}
use Rattle.std.proofs.lemmas.Option.{slice_get_past}
use Rattle.std.proofs.lemmas.Slice.Eq.{bytes_eq-Decides}
use Rattle.std.proofs.lemmas.Bool.Decides.{nat_tests}
use Rattle.std.proofs.lemmas.List.Folds.{find_at, find-set, find_past, find-append}
use Rattle.std.proofs.lemmas.List.Quantifiers.{position-Some}
use Rattle.outside_io.specs.Io.{raised}
use Rattle.outside_io.specs.Memory.{HeldFile, HeldFiles, file_at, file_of, faults_of, file_named, after_fault, replaced, IsFirst, ShareCount, RaisesCount}

bytes_eq_true : (a b : List ℕ) → bytes_eq a b ≡ true → a ≡ b
bytes_eq_true a b = (bytes_eq-Decides a b).0

chosen : (b : Bool) (p i : ℕ) → cond b (Some p) None ≡ Some i → i ≡ p
chosen true p i e = cc
chosen false p i e = cc

-- where a name stands first
pub first_from_position : (files : List HeldFile) (n : List ℕ) (place : ℕ) → Some place ≡ position (λ f. bytes_eq f.name n) files → IsFirst files n place
first_from_position files n place e =
    let at = position-Some (λ f. bytes_eq f.name n) files place (record { name = []; bytes = []; faults = 0 }) (sym e) in
    record { within = at.0; first = sym e; named = bytes_eq_true _ n at.1 }

first_place : (files : List HeldFile) (n : List ℕ) (place : ℕ) → IsFirst files n place → place ≡ position_or_len (λ f. bytes_eq f.name n) files
first_place files n place p = chosen (nat_lt (position_or_len (λ f. bytes_eq f.name n) files) (length files)) _ place p.first

-- an element that is there
there : (files : List HeldFile) (i : ℕ) → i < length files → slice_get files i ≡ Some (file_at files i)
there [] i h = absurd (omega arith)
there (f ∷ fs) zero h = refl
there (f ∷ fs) (suc i) h = there fs i (omega arith)

pub found : (files : List HeldFile) (n : List ℕ) (place : ℕ) → IsFirst files n place → find (λ f. bytes_eq f.name n) files ≡ Some (file_at files place)
found files n place p = find_at (λ f. bytes_eq f.name n) files ∙ (ap (slice_get files) (sym (first_place files n place p)) ∙ there files place p.within)

past : (p l : ℕ) → cond (nat_lt p l) (Some p) None ≡ None → l ≤ p
past p l e = grind (arith, nat_tests)

-- a name that stands nowhere
pub absent_from_position : (files : List HeldFile) (n : List ℕ) → None ≡ position (λ f. bytes_eq f.name n) files → file_named files n ≡ None
absent_from_position files n e =
    find_at (λ f. bytes_eq f.name n) files ∙ slice_get_past files (position_or_len (λ f. bytes_eq f.name n) files) (past _ _ (sym e))

set_same : (files : List HeldFile) (n m : List ℕ) (place : ℕ) (f : HeldFile) → IsFirst files n place → f.name ≡ n → n ≡ m
    → file_named (set files place f) m ≡ Some f
set_same files n m place f p named e =
    find-set (λ g. bytes_eq g.name m) files place f (first_place files n place p ∙ ap (λ x. position_or_len (λ g. bytes_eq g.name x) files) e) p.within
    ((bytes_eq-Decides f.name m).1 (named ∙ e))

set_other : (files : List HeldFile) (n m : List ℕ) (place : ℕ) (f : HeldFile) → IsFirst files n place → f.name ≡ n → bytes_eq n m ≡ false
    → file_named (set files place f) m ≡ file_named files m
set_other files n m place f p named e =
    find_past (λ g. bytes_eq g.name m) files place f (record { name = []; bytes = []; faults = 0 })
    (ap (λ x. bytes_eq x m) p.named ∙ e) (ap (λ x. bytes_eq x m) named ∙ e)

-- what a look-up of m gives once the first file of the name n is replaced by f
abbrev IsSet : List HeldFile → List ℕ → List ℕ → ℕ → HeldFile → Type 0
IsSet files n m place f = ((n ≡ m) × (file_named (set files place f) m ≡ Some f) × (file_named files m ≡ Some (file_at files place)))
    ⊎ ((n ≢ m) × (file_named (set files place f) m ≡ file_named files m))

-- the first file of a name is replaced by another of that name
pub find-set_first : (files : List HeldFile) (n m : List ℕ) (place : ℕ) (f : HeldFile) → IsFirst files n place → f.name ≡ n
    → IsSet files n m place f
find-set_first files n m place f p named = by_test (bytes_eq n m) refl
  where
    by_test : (b : Bool) → bytes_eq n m ≡ b → IsSet files n m place f
    by_test true e = let same = bytes_eq_true n m e in inl (same, set_same files n m place f p named same, ap (λ x. find (λ g. bytes_eq g.name x) files) (sym same) ∙ found files n place p)
    by_test false e = inr ((λ same. differ (sym e ∙ (bytes_eq-Decides n m).1 same)), set_other files n m place f p named e)
      where
        differ : false ≡ true → ⊥
        differ h = cc

-- the bytes of every name stay after a fault of one
pub fault_told : (files after : List HeldFile) (n : List ℕ) (place : ℕ) → IsFirst files n place → after ≡ set files place (after_fault (file_at files place))
    → (m : List ℕ) → option_map (λ f. f.bytes) (file_named after m) ≡ option_map (λ f. f.bytes) (file_named files m)
fault_told files after n place p e m =
    elim (find-set_first files n m place (after_fault (file_at files place)) p p.named) [
      | inl h ↦ rw (e, h.1, h.2) refl
      | inr h ↦ rw (e, h.1) refl
    ]

-- no count falls by a fault
pub fault_later : (files after : List HeldFile) (n : List ℕ) (place absent : ℕ) → IsFirst files n place → after ≡ set files place (after_fault (file_at files place))
    → (file_at files place).faults ≤ raised (file_at files place).faults
    → (m : List ℕ) → option_map_or (λ f. f.faults) (file_named files m) absent ≤ option_map_or (λ f. f.faults) (file_named after m) absent
fault_later files after n place absent p e up m =
    elim (find-set_first files n m place (after_fault (file_at files place)) p p.named) [
      | inl h ↦ rw (e, h.1, h.2) up
      | inr h ↦ rw (e, h.1) (omega arith)
    ]

-- the bytes that were put in the place of others
pub replace_told : (files after : List HeldFile) (n bytes : List ℕ) (place : ℕ) → IsFirst files n place → after ≡ set files place (replaced bytes (file_at files place))
    → option_map (λ f. f.bytes) (file_named after n) ≡ Some bytes
replace_told files after n bytes place p e =
    elim (find-set_first files n n place (replaced bytes (file_at files place)) p p.named) [
      | inl h ↦ rw (e, h.1) refl
      | inr h ↦ absurd (h.0 refl)
    ]

-- the other names keep theirs
pub replace_others : (files after : List HeldFile) (n bytes : List ℕ) (place : ℕ) → IsFirst files n place → after ≡ set files place (replaced bytes (file_at files place))
    → (m : List ℕ) → m ≢ n → option_map (λ f. f.bytes) (file_named after m) ≡ option_map (λ f. f.bytes) (file_named files m)
replace_others files after n bytes place p e m differs =
    elim (find-set_first files n m place (replaced bytes (file_at files place)) p p.named) [
      | inl h ↦ absurd (differs (sym h.0))
      | inr h ↦ rw (e, h.1) refl
    ]

-- no count changes
pub replace_faults : (files after : List HeldFile) (n bytes : List ℕ) (place absent : ℕ) → IsFirst files n place → after ≡ set files place (replaced bytes (file_at files place))
    → (m : List ℕ) → option_map_or (λ f. f.faults) (file_named after m) absent ≡ option_map_or (λ f. f.faults) (file_named files m) absent
replace_faults files after n bytes place absent p e m =
    elim (find-set_first files n m place (replaced bytes (file_at files place)) p p.named) [
      | inl h ↦ rw (e, h.1, h.2) refl
      | inr h ↦ rw (e, h.1) refl
    ]

-- what a look-up of m gives once the file f is added under the name n
abbrev IsAdded : List HeldFile → List ℕ → List ℕ → HeldFile → Type 0
IsAdded files n m f = ((n ≡ m) × (file_named (files ++ f ∷ []) m ≡ Some f) × (file_named files m ≡ None))
    ⊎ ((n ≢ m) × (file_named (files ++ f ∷ []) m ≡ file_named files m))

-- a file is added under a name that had none
pub find-push : (files : List HeldFile) (n m : List ℕ) (f : HeldFile) → file_named files n ≡ None → f.name ≡ n → IsAdded files n m f
find-push files n m f absent named = by_test (bytes_eq n m) refl
  where
    by_test : (b : Bool) → bytes_eq n m ≡ b → IsAdded files n m f
    by_test true e =
        let same = bytes_eq_true n m e in
        let none : file_named files m ≡ None = ap (file_named files) (sym same) ∙ absent in
        inl (same, find-append (λ g. bytes_eq g.name m) files (f ∷ []) ∙ rw (none, named, e) refl, none)
    by_test false e = inr ((λ same. differ (sym e ∙ (bytes_eq-Decides n m).1 same)), find-append (λ g. bytes_eq g.name m) files (f ∷ []) ∙ rw (named, e) (or_none _))
      where
        differ : false ≡ true → ⊥
        differ h = cc

        or_none : (o : Option HeldFile) → option_or o None ≡ o
        or_none None = refl
        or_none (Some x) = refl

-- the bytes that were added
pub push_told : (files after : List HeldFile) (n : List ℕ) (f : HeldFile) → file_named files n ≡ None → f.name ≡ n → after ≡ files ++ f ∷ []
    → option_map (λ g. g.bytes) (file_named after n) ≡ Some f.bytes
push_told files after n f absent named e =
    elim (find-push files n n f absent named) [
      | inl h ↦ rw (e, h.1) refl
      | inr h ↦ absurd (h.0 refl)
    ]

-- the other names keep theirs
pub push_others : (files after : List HeldFile) (n : List ℕ) (f : HeldFile) → file_named files n ≡ None → f.name ≡ n → after ≡ files ++ f ∷ []
    → (m : List ℕ) → m ≢ n → option_map (λ g. g.bytes) (file_named after m) ≡ option_map (λ g. g.bytes) (file_named files m)
push_others files after n f absent named e m differs =
    elim (find-push files n m f absent named) [
      | inl h ↦ absurd (differs (sym h.0))
      | inr h ↦ rw (e, h.1) refl
    ]

-- no count changes, where the file begins with the count of the names that are not held
pub push_faults : (files after : List HeldFile) (n : List ℕ) (f : HeldFile) → file_named files n ≡ None → f.name ≡ n → after ≡ files ++ f ∷ []
    → (m : List ℕ) → option_map_or (λ g. g.faults) (file_named after m) f.faults ≡ option_map_or (λ g. g.faults) (file_named files m) f.faults
push_faults files after n f absent named e m =
    elim (find-push files n m f absent named) [
      | inl h ↦ rw (e, h.1, h.2) refl
      | inr h ↦ rw (e, h.1) refl
    ]

-- a fault of a name that is held raises the count of its file
pub raises_held : (old new : HeldFiles) (n : List ℕ) (place : ℕ) → IsFirst old.files n place
    → new.files ≡ set old.files place (after_fault (file_at old.files place)) → new.absent_faults ≡ old.absent_faults
    → RaisesCount old new n
raises_held old new n place p files absent = record {
  own = λ m share. own m share (find-set_first old.files n m place _ p p.named);
  others = λ m apart. others m apart (find-set_first old.files n m place _ p p.named);
}
  where
    own : (m : List ℕ) → ShareCount old n m → IsSet old.files n m place (after_fault (file_at old.files place)) → faults_of new m ≡ raised (faults_of old m)
    own m share (inl h) = rw (files, h.1, h.2) refl
    own m (inl same) (inr h) = absurd (h.0 same)
    own m (inr none) (inr h) = cc (found old.files n place p, none.0)

    others : (m : List ℕ) → (ShareCount old n m → ⊥) → IsSet old.files n m place (after_fault (file_at old.files place)) → faults_of new m ≡ faults_of old m
    others m apart (inl h) = absurd (apart (inl h.0))
    others m apart (inr h) = rw (files, h.1, absent) refl

-- a fault of a name that is not held raises the count that such names share
pub raises_absent : (old new : HeldFiles) (n : List ℕ) → file_of old n ≡ None → new.files ≡ old.files → new.absent_faults ≡ raised old.absent_faults
    → RaisesCount old new n
raises_absent old new n none files up = record {
  own = own;
  others = λ m apart. others m apart (file_of old m) refl;
}
  where
    also : (m : List ℕ) → ShareCount old n m → find (λ f. bytes_eq f.name m) old.files ≡ None
    also m (inl same) = ap (λ x. find (λ f. bytes_eq f.name x) old.files) (sym same) ∙ none
    also m (inr h) = h.1

    own : (m : List ℕ) → ShareCount old n m → faults_of new m ≡ raised (faults_of old m)
    own m share = rw (files, also m share) up

    others : (m : List ℕ) → (ShareCount old n m → ⊥) → (o : Option HeldFile) → file_of old m ≡ o → faults_of new m ≡ faults_of old m
    others m apart None e = absurd (apart (inr (none, e)))
    others m apart (Some f) e = rw (files, e) refl
