-- A set of numbers and a list of them, of which one more is put into both.
use Rattle.std.proofs.Common.{◌≡◌, refl, sym, ◌∙◌, ap, ℕ, Bool, true, false, ◌||◌, List, [], ◌∷◌, ◌++◌, arith}
use Rattle.std.specs.Prelude.{map, ◌==◌}
use Rattle.std.specs.Ordering.{nat_cmp, match_ordering}
use Rattle.std.specs.declared.cmp.Ordering.{Ordering}
use Rattle.std.specs.declared.cmp.Ordering.TheVariants.{Less, Equal, Greater}
use Rattle.std.specs.List.{list_any}
use Rattle.std.specs.BTreeMap.{is_at}
use Rattle.std.specs.BTreeSet.{insert_key}
use Rattle.std.proofs.lemmas.Map.Lookups.{exact_unsigned}
use Rattle.std.proofs.lemmas.Grind.{common_steps}
use Rattle.std.proofs.Math.Bool.{or_comm}
use Rattle.std.specs.declared.snapshot.Snapshot.{Snapshot}
use Rattle.c_rules_calls.specs.Labels.{AreKnown}

once_more : (a b : Bool) → a || b ≡ a || (a || b)
once_more true b = refl
once_more false b = refl

swapped : (a b c : Bool) → a || (b || c) ≡ b || (a || c)
swapped true true c = refl
swapped true false c = refl
swapped false b c = refl

moved : (a b c : Bool) → a || (b || c) ≡ (a || b) || c
moved true b c = refl
moved false b c = refl

last_first : (b : Bool) → b || false ≡ b
last_first true = refl
last_first false = refl

-- one of two lists has the number
pub any_joined : (label : ℕ) (xs ys : List ℕ) → list_any (λ x. x == label) (xs ++ ys) ≡ list_any (λ x. x == label) xs || list_any (λ x. x == label) ys
any_joined label [] ys = refl
any_joined label (x ∷ xs) ys =
    ap (λ b. (x == label) || b) (any_joined label xs ys) ∙ moved (x == label) (list_any (λ x. x == label) xs) (list_any (λ x. x == label) ys)

is_same : (a b : ℕ) → is_at (λ k. nat_cmp a k) b ≡ (b == a)
is_same a b = grind (arith, common_steps)

-- a look into the set
pub looked_up : (label : ℕ) (keys : List ℕ) → list_any (is_at (λ k. nat_cmp label k)) keys ≡ list_any (λ x. x == label) keys
looked_up label [] = refl
looked_up label (k ∷ ks) = ap (λ b. b || list_any (is_at (λ k. nat_cmp label k)) ks) (is_same label k) ∙ ap (λ b. (k == label) || b) (looked_up label ks)

-- where the number stands that is new, or is there already
by_order : (label k : ℕ) (ks : List ℕ) (key : ℕ) (o : Ordering) → nat_cmp key k ≡ o
    → list_any (λ x. x == label) (insert_key nat_cmp ks key) ≡ (key == label) || list_any (λ x. x == label) ks
    → list_any (λ x. x == label) (match_ordering o (key ∷ k ∷ ks) (k ∷ ks) (k ∷ insert_key nat_cmp ks key))
    ≡ (key == label) || ((k == label) || list_any (λ x. x == label) ks)
by_order label k ks key Less e h = refl
by_order label k ks key Equal e h =
    once_more (k == label) (list_any (λ x. x == label) ks)
    ∙ ap (λ t. (t == label) || ((k == label) || list_any (λ x. x == label) ks)) (sym (exact_unsigned key k e))
by_order label k ks key Greater e h = ap (λ b. (k == label) || b) h ∙ swapped (k == label) (key == label) (list_any (λ x. x == label) ks)

inserted : (label : ℕ) (keys : List ℕ) (key : ℕ) → list_any (λ x. x == label) (insert_key nat_cmp keys key) ≡ (key == label) || list_any (λ x. x == label) keys
inserted label [] key = refl
inserted label (k ∷ ks) key = by_order label k ks key (nat_cmp key k) refl (inserted label ks key)

pub one_more : (keys more labels : List ℕ) (key : ℕ) → AreKnown keys labels → more ≡ insert_key nat_cmp keys key → AreKnown more (labels ++ key ∷ [])
one_more keys more labels key h e label =
    ap (list_any (λ x. x == label)) e ∙ inserted label keys key ∙ ap (λ b. (key == label) || b) (h label)
    ∙ or_comm (key == label) (list_any (λ x. x == label) labels) ∙ ap (λ b. list_any (λ x. x == label) labels || b) (sym (last_first (key == label)))
    ∙ sym (any_joined label labels (key ∷ []))

-- the list with one more that is told
pub told_more : (told more : List (Snapshot ℕ)) (last : Snapshot ℕ) (label : ℕ) → more ≡ told ++ last ∷ [] → last.value ≡ label
    → map (λ (s : Snapshot ℕ). s.value) more ≡ map (λ (s : Snapshot ℕ). s.value) told ++ label ∷ []
told_more told more last label e is = ap (map (λ (s : Snapshot ℕ). s.value)) e ∙ pushed told last ∙ ap (λ l. map (λ (s : Snapshot ℕ). s.value) told ++ l ∷ []) is where
  pushed : (told : List (Snapshot ℕ)) (last : Snapshot ℕ) → map (λ (s : Snapshot ℕ). s.value) (told ++ last ∷ []) ≡ map (λ (s : Snapshot ℕ). s.value) told ++ last.value ∷ []
  pushed [] last = refl
  pushed (s ∷ told) last = ap (λ rest. s.value ∷ rest) (pushed told last)
