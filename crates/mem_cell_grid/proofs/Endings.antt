-- Objects that have ended.
use Rattle.std.proofs.Common.{ℕ, ◌≡◌, ◌⊎◌, ◌++◌, ◌||◌, ◌==◌, Bool, true, false, List, [], ◌∷◌, length, slice_get, slice_set, Some, refl, sym, ap, subst, ◌∙◌, inl, inr}
use Rattle.pointsets.specs.Targets.{Among, has_name}
use Rattle.pointsets.proofs.Names.{eq-true}
use Rattle.mem_cell_bytes.specs.declared.entry.Entry.{Entry}
use Rattle.mem_cell_bytes.specs.Ends.{killed_all}
use Rattle.mem_cell_bytes.proofs.Sets.{nothing-killed}
use Rattle.mem_cell_bytes.specs.Contents.{Contents, nothing}
use Rattle.mem_cell_bytes.specs.Stands.{Has}
use Rattle.mem_cell_bytes.proofs.Steps.{get-set_other, has-push, set-is}
use Rattle.std.proofs.lemmas.Bool.{cases_eq}
use Rattle.mem_cell_grid.specs.Endings.{AreAllKilled, AreKilled, IsKilled, cleared, killed_entry}
use Rattle.mem_cell_grid.proofs.Lists.{get-push}

-- cells that are no pointers stay as they are
pub plain-killed : (gone : List ℕ) (a : Contents) → ((e : Entry) → Has a.cells e → e.targets ≡ Among [] false false) → IsKilled gone a a
plain-killed gone a plain = record {
  cells = λ e h. (e, h, ap (λ t. record e { targets = t }) (plain e h ∙ sym (nothing-killed gone) ∙ ap (λ t. killed_all t gone) (sym (plain e h))));
  bytes = λ q x h. h;
}

pub killed-push : (gone : List ℕ) (cells old new : List Entry) (e : Entry) → AreKilled gone cells old → Has cells e → new ≡ old ++ killed_entry gone e ∷ [] → AreKilled gone cells new
killed-push gone cells old new e was has is = λ d h.
    has-push {P = (x : Entry) × Has cells x × (d ≡ killed_entry gone x)} old (killed_entry gone e) d (subst (λ xs. Has xs d) is h) (λ o. was d o) (λ same. (e, has, same))

pub all-killed-push : (gone : List ℕ) (objects old new : List Contents) (a c : Contents) (i : ℕ) → length old ≡ i → AreAllKilled gone objects old → slice_get objects i ≡ Some a
    → IsKilled gone a c → new ≡ old ++ c ∷ [] → AreAllKilled gone objects new
all-killed-push gone objects old new a c i long was at k is = λ o d h. elim (get-push old c d o (subst (λ xs. slice_get xs o ≡ Some d) is h)) [
  | inl before ↦ was o d before
  | inr here ↦ (a, ap (slice_get objects) (here.0 ∙ long) ∙ at, subst (IsKilled gone a) (sym here.1) k)
]

pub cleared-push : (objects : List Contents) (xs : List ℕ) (y : ℕ) → cleared objects (xs ++ y ∷ []) ≡ slice_set (cleared objects xs) y nothing
cleared-push objects [] y = refl
cleared-push objects (x ∷ xs) y = cleared-push (slice_set objects x nothing) xs y

no-name : (x o : ℕ) (xs : List ℕ) → (o ≡ x → ⊥) → has_name xs o ≡ false → has_name (x ∷ xs) o ≡ false
no-name x o xs apart h = by (x == o) refl
  where
    by : (b : Bool) → (x == o) ≡ b → has_name (x ∷ xs) o ≡ false
    by true e = absurd (apart (sym (eq-true x o e)))
    by false e = ap (λ c. c || has_name xs o) e ∙ h

-- of what is known of an object after some were cleared: it is nothing, or was there and the object is none of them
pub cleared-get : (objects : List Contents) (xs : List ℕ) (o : ℕ) (c : Contents) → slice_get (cleared objects xs) o ≡ Some c
    → ((slice_get objects o ≡ Some c) × (has_name xs o ≡ false)) ⊎ (c ≡ nothing)
cleared-get objects [] o c h = inl (h, refl)
cleared-get objects (x ∷ xs) o c h = elim (cleared-get (slice_set objects x nothing) xs o c h) [
  | inr none ↦ inr none
  | inl old ↦ elim (cases_eq o x) [
    | inl same ↦ inr (set-is objects x nothing c (sym (ap (slice_get (slice_set objects x nothing)) same) ∙ old.0))
    | inr apart ↦ inl (sym (get-set_other objects o x nothing apart) ∙ old.0, no-name x o xs apart old.1)
  ]
]
