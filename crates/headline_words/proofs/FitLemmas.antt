-- What clap comes to fits the parts of the words.
use Rattle.std.proofs.Common.{◌≡◌, refl, sym, ap, subst, ◌∙◌, Bool, true, false, List, [], ◌∷◌, ◌++◌}
use Rattle.std.proofs.Common.{Option, Some, None}
use Rattle.std.specs.Prelude.{◌&&◌, ◌||◌, not}
use Rattle.std.specs.List.{list_any}
use Rattle.clap.specs.Walk.{Row, Text}
use Rattle.clap.specs.Kinds.{Kinds}
use Rattle.headline_words.specs.Command.{Part, value, state, file, is_like, with_part, are_apart}
use Rattle.headline_words.proofs.RowLemmas.{stands}
use Rattle.headline_words.proofs.StepLemmas.{Fails, Open, closed, of_key, of_file, opened, again, ending, append_none}

-- the parts behind these stand at most once each, beside these
abbrev pub apart_after : List Part → List Part → Bool
apart_after done [] = true
apart_after done (p ∷ ps) = not (stands p done) && apart_after (done ++ p ∷ []) ps

abbrev pub FitsAll : Bool → List Part → Kinds → List Row → Type 0
FitsAll true all kinds rows = (kinds ≡ []) × (rows ≡ ending all)
FitsAll false all kinds rows = Fails kinds

abbrev pub Fits : Option (List Part) → List Part → Kinds → List Row → Type 0
Fits None done kinds rows = Fails kinds
Fits (Some ps) done kinds rows = FitsAll (apart_after done ps) (done ++ ps) kinds rows

append_three : (xs : List Part) (p : Part) (ys : List Part) → xs ++ p ∷ ys ≡ (xs ++ p ∷ []) ++ ys
append_three [] p ys = refl
append_three (x ∷ xs) p ys = ap (λ zs. x ∷ zs) (append_three xs p ys)

module _ (kinds : Kinds) (rows : List Row) where
  pub fits_with : (p : Part) (done : List Part) (o : Option (List Part)) → stands p done ≡ false → Fits o (done ++ p ∷ []) kinds rows → Fits (with_part p o) done kinds rows
  fits_with p done None h f = f
  fits_with p done (Some ps) h f = rw (h, append_three done p ps) f

  pub fits_again : (p : Part) (done : List Part) (o : Option (List Part)) → stands p done ≡ true → Fails kinds → Fits (with_part p o) done kinds rows
  fits_again p done None h f = f
  fits_again p done (Some ps) h f = rw h f

  abbrev pub with_own : Open → Option (List Part) → Option (List Part)
  with_own closed o = o
  with_own (of_key k v) o = with_part (value k v) o
  with_own (of_file w) o = with_part (file w) o

  pub fits_own : (own : Open) (done : List Part) (o : Option (List Part)) → again own done ≡ false → Fits o (done ++ opened own) kinds rows → Fits (with_own own o) done kinds rows
  fits_own closed done o h f = subst (λ (xs : List Part). Fits o xs kinds rows) (append_none done) f
  fits_own (of_key k v) done o h f = fits_with (value k v) done o h f
  fits_own (of_file w) done o h f = fits_with (file w) done o h f

  pub fits_own_again : (own : Open) (done : List Part) (o : Option (List Part)) → again own done ≡ true → Fails kinds → Fits (with_own own o) done kinds rows
  fits_own_again closed done o h f = absurd (cc)
  fits_own_again (of_key k v) done o h f = fits_again (value k v) done o h f
  fits_own_again (of_file w) done o h f = fits_again (file w) done o h f

-- ---- at most once each, in two words

abbrev none_like : List Part → List Part → Bool
none_like done [] = true
none_like done (p ∷ ps) = not (stands p done) && none_like done ps

or_assoc : (a b c : Bool) → ((a || b) || c) ≡ (a || (b || c))
or_assoc true b c = refl
or_assoc false b c = refl

stands_last : (p q : Part) (done : List Part) → stands p (done ++ q ∷ []) ≡ (stands p done || is_like q p)
stands_last p q [] = or_none (is_like q p)
  where
    or_none : (b : Bool) → (b || false) ≡ b
    or_none true = refl
    or_none false = refl
stands_last p q (d ∷ ds) = rw (stands_last p q ds) (sym (or_assoc (is_like d p) (stands p ds) (is_like q p)))

last_like : (done : List Part) (q : Part) (ps : List Part) → none_like (done ++ q ∷ []) ps ≡ (none_like done ps && not (list_any (is_like q) ps))
last_like done q [] = refl
last_like done q (p ∷ ps) = rw (stands_last p q done, last_like done q ps) (four (stands p done) (is_like q p) (none_like done ps) (list_any (is_like q) ps))
  where
    four : (a b c d : Bool) → (not (a || b) && (c && not d)) ≡ ((not a && c) && not (b || d))
    four true b c d = refl
    four false true true d = refl
    four false true false d = refl
    four false false c d = refl

apart_is_at : (done ps : List Part) → apart_after done ps ≡ (none_like done ps && are_apart ps)
apart_is_at done [] = refl
apart_is_at done (p ∷ ps) = rw (apart_is_at (done ++ p ∷ []) ps, last_like done p ps)
    (three (stands p done) (none_like done ps) (list_any (is_like p) ps) (are_apart ps))
  where
    three : (a c d e : Bool) → (not a && ((c && not d) && e)) ≡ ((not a && c) && (not d && e))
    three true c d e = refl
    three false true d e = refl
    three false false d e = refl

none_like_none : (ps : List Part) → none_like [] ps ≡ true
none_like_none [] = refl
none_like_none (p ∷ ps) = none_like_none ps

pub apart_is : (ps : List Part) → apart_after [] ps ≡ are_apart ps
apart_is ps = apart_is_at [] ps ∙ ap (λ b. b && are_apart ps) (none_like_none ps)

pub file_like : (w v : Text) (done : List Part) → stands (file w) done ≡ stands (file v) done
file_like w v [] = refl
file_like w v (value k u ∷ ds) = file_like w v ds
file_like w v (state ∷ ds) = file_like w v ds
file_like w v (file u ∷ ds) = refl
