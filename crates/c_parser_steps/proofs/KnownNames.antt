-- A set of names and a list of names, of which one more is put into both.
use Rattle.std.proofs.Common.{◌≡◌, refl, sym, ◌∙◌, ap, ℕ, Bool, true, false, ◌||◌, List, [], ◌∷◌, ◌++◌}
use Rattle.std.specs.Prelude.{map}
use Rattle.std.specs.Ordering.{nat_cmp, match_ordering}
use Rattle.std.specs.declared.cmp.Ordering.{Ordering}
use Rattle.std.specs.declared.cmp.Ordering.TheVariants.{Less, Equal, Greater}
use Rattle.std.specs.Cmp.Lexicographic.{slice_cmp}
use Rattle.std.specs.List.{list_any}
use Rattle.std.specs.Str.{bytes_eq}
use Rattle.std.specs.BTreeMap.{is_at}
use Rattle.std.specs.BTreeSet.{insert_key}
use Rattle.std.proofs.lemmas.Map.Text.{is_eq-slice_cmp}
use Rattle.std.proofs.lemmas.Map.Lookups.{exact_bytes}
use Rattle.std.proofs.Math.Bool.{or_comm}
use Rattle.c_parser_steps.specs.SameNames.{HaveSameNames}

once_more : (a b : Bool) → a || b ≡ a || (a || b)
once_more true b = refl
once_more false b = refl

swapped : (a b c : Bool) → a || (b || c) ≡ b || (a || c)
swapped true true c = refl
swapped true false c = refl
swapped false b c = refl

moved : (a b c : Bool) → a || (b || c) ≡ (a || b) || c
moved true b c = refl
moved false b c = refl

last_first : (b : Bool) → b || false ≡ b
last_first true = refl
last_first false = refl

-- the last of a list passes a test, or one before it
last_too : {S : Type 0} (told : S → List ℕ) (name : List ℕ) (names : List S) (last : S) → list_any (bytes_eq name) (map told names) || bytes_eq name (told last) ≡ list_any (bytes_eq name) (map told (names ++ last ∷ []))
last_too told name [] last = sym (last_first (bytes_eq name (told last)))
last_too told name (s ∷ ss) last =
    sym (moved (bytes_eq name (told s)) (list_any (bytes_eq name) (map told ss)) (bytes_eq name (told last))) ∙ ap (λ b. bytes_eq name (told s) || b) (last_too told name ss last)

module _ {K : Type 0} (text : K → List ℕ) where
  -- by the order of their texts
  abbrev by_text : K → K → Ordering
  by_text x y = slice_cmp nat_cmp (text x) (text y)

  -- a look into the set is a look into the list of its texts
  pub looked_up : (name : List ℕ) (keys : List K) → list_any (is_at (λ k. slice_cmp nat_cmp name (text k))) keys ≡ list_any (bytes_eq name) (map text keys)
  looked_up name [] = refl
  looked_up name (k ∷ ks) = ap (λ b. b || list_any (is_at (λ k. slice_cmp nat_cmp name (text k))) ks) (is_eq-slice_cmp name (text k)) ∙ ap (λ b. bytes_eq name (text k) || b) (looked_up name ks)

  -- where the key stands that is new, or is there already
  by_order : (name : List ℕ) (k : K) (ks : List K) (key : K) (o : Ordering) → by_text key k ≡ o → list_any (bytes_eq name) (map text (insert_key by_text ks key)) ≡ bytes_eq name (text key) || list_any (bytes_eq name) (map text ks) → list_any (bytes_eq name) (map text (match_ordering o (key ∷ k ∷ ks) (k ∷ ks) (k ∷ insert_key by_text ks key))) ≡ bytes_eq name (text key) || (bytes_eq name (text k) || list_any (bytes_eq name) (map text ks))
  by_order name k ks key Less e h = refl
  by_order name k ks key Equal e h = once_more (bytes_eq name (text k)) (list_any (bytes_eq name) (map text ks)) ∙ ap (λ t. bytes_eq name t || (bytes_eq name (text k) || list_any (bytes_eq name) (map text ks))) (sym (exact_bytes (text key) (text k) e))
  by_order name k ks key Greater e h = ap (λ b. bytes_eq name (text k) || b) h ∙ swapped (bytes_eq name (text k)) (bytes_eq name (text key)) (list_any (bytes_eq name) (map text ks))

  -- a new key is in the set, beside those that were
  inserted : (name : List ℕ) (keys : List K) (key : K) → list_any (bytes_eq name) (map text (insert_key by_text keys key)) ≡ bytes_eq name (text key) || list_any (bytes_eq name) (map text keys)
  inserted name [] key = refl
  inserted name (k ∷ ks) key = by_order name k ks key (by_text key k) refl (inserted name ks key)

-- the names stay the same where one more is put into the set and behind the list
pub one_more : {K S : Type 0} (text : K → List ℕ) (told : S → List ℕ) (keys more : List K) (names longer : List S) (key : K) (last : S) → HaveSameNames (map text keys) (map told names) → more ≡ insert_key (λ x y. slice_cmp nat_cmp (text x) (text y)) keys key → longer ≡ names ++ last ∷ [] → told last ≡ text key → HaveSameNames (map text more) (map told longer)
one_more text told keys more names longer key last h e f g name =
    ap (λ v. list_any (bytes_eq name) (map text v)) e ∙ inserted text name keys key ∙ ap (λ b. bytes_eq name (text key) || b) (h name) ∙ or_comm (bytes_eq name (text key)) (list_any (bytes_eq name) (map told names)) ∙ ap (λ t. list_any (bytes_eq name) (map told names) || bytes_eq name t) (sym g) ∙ last_too told name names last ∙ ap (λ v. list_any (bytes_eq name) (map told v)) (sym f)
