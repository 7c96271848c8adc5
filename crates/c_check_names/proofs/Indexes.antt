-- A map from each name to its places, where one name more comes or the last one goes.
use Rattle.std.proofs.Common.{◌≡◌, sym, ap, subst, ◌∙◌, ℕ, ◌+◌, ◌-◌, arith, Bool, true, false, List, [], ◌∷◌, ◌++◌, length, length-append, take, Option, Some, ◌⊎◌, inl, inr}
use Rattle.std.specs.Prelude.{if◌then◌else◌}
use Rattle.std.specs.Option.{option_map_or}
use Rattle.std.specs.Bool.{nat_eq}
use Rattle.std.specs.Cmp.Lexicographic.{pointwise, bytes_decides, nat_list_eq_equiv}
use Rattle.std.specs.Str.{bytes_eq}
use Rattle.std.specs.HashMap.{HashMap, UpdatesBy}
use Rattle.std.specs.Map.{lookup, IsKeyTest, AreApart, KeepsOthers}
use Rattle.std.specs.declared.vec.Vec.{Vec}
use Rattle.std.specs.declared.alloc.Global.{Global}
use Rattle.std.proofs.lemmas.Bool.{cases_Bool}
use Rattle.std.proofs.lemmas.List.{append-nil, take_at}
use Rattle.c_check_names.specs.Places.{places_of}
use Rattle.c_check_names.specs.Kept.{places_at, IsIndexOf}
use Rattle.c_check_names.proofs.Places.{places-append}

abbrev Bytes : Type 0
Bytes = Vec ℕ Global

abbrev same_key : Bytes → Bytes → Bool
same_key x y = pointwise nat_eq x.items y.items

abbrev key_test : List ℕ → Bytes → Bool
key_test name key = bytes_eq name key.items

others_kept : {X : Type 0} (eq : Bytes → Bytes → Bool) (test other : Bytes → Bool) (old new : List (Bytes × X)) → KeepsOthers eq test old new → IsKeyTest eq other → AreApart test other → lookup other new ≡ lookup other old
unfolding KeepsOthers
others_kept eq test other old new h one apart = h other one apart

apart : (name other key : List ℕ) → bytes_eq name other ≡ false → bytes_eq name key ≡ true → bytes_eq other key ≡ false
apart name other key n y = nat_list_eq_equiv.symm other key ∙ sym (nat_list_eq_equiv.congr name key other y) ∙ n

module _ {S : Type 0} (name : List ℕ) (m n : HashMap Bytes Bytes S) where
  -- at another name the map holds what it held
  other_places : (w : Option Bytes) → UpdatesBy same_key (key_test name) m n w → (other : List ℕ) → bytes_eq name other ≡ false → places_at n other ≡ places_at m other
  other_places w h other e = ap (λ o. option_map_or (λ (v : Bytes). v.items) o []) (others_kept same_key (key_test name) (key_test other) m.entries n.entries h.3 (λ x y. nat_list_eq_equiv.congr other x.items y.items) (λ key. apart name other key.items e))

  -- at this name it holds the new places
  new_places : (v : Bytes) → UpdatesBy same_key (key_test name) m n (Some v) → places_at n name ≡ v.items
  new_places v h = ap (λ o. option_map_or (λ (v : Bytes). v.items) o []) h.1

  more_cases : (names : List (List ℕ)) (v : Bytes) → IsIndexOf m names → UpdatesBy same_key (key_test name) m n (Some v) → v.items ≡ places_at m name ++ length names ∷ []
      → (other : List ℕ) → (bytes_eq name other ≡ true) ⊎ (bytes_eq name other ≡ false) → places_at n other ≡ places_of other (names ++ name ∷ [])
  more_cases names v h u e other (inl same) =
      subst (λ q. places_at n q ≡ places_of q (names ++ name ∷ [])) ((bytes_decides name other).0 same)
      (new_places v u ∙ e ∙ ap (λ ps. ps ++ length names ∷ []) (h name)
      ∙ ap (λ k. places_of name names ++ k ∷ []) (let k : length names ≡ 0 + length names = omega arith in k)
      ∙ ap (λ b. places_of name names ++ (if b then (0 + length names) ∷ [] else [])) (sym (nat_list_eq_equiv.refl name))
      ∙ sym (places-append 0 name names name))
  more_cases names v h u e other (inr differs) =
      other_places (Some v) u other differs ∙ h other ∙ sym (append-nil (places_of other names))
      ∙ ap (λ b. places_of other names ++ (if b then (0 + length names) ∷ [] else [])) (sym differs)
      ∙ sym (places-append 0 other names name)

  -- one name more
  pub one_more : (names : List (List ℕ)) (v : Bytes) → IsIndexOf m names → UpdatesBy same_key (key_test name) m n (Some v) → v.items ≡ places_at m name ++ length names ∷ [] → IsIndexOf n (names ++ name ∷ [])
  one_more names v h u e other = more_cases names v h u e other (cases_Bool (bytes_eq name other))

  pub places_before : (front : List (List ℕ)) → IsIndexOf m (front ++ name ∷ []) → places_at m name ≡ places_of name front ++ (0 + length front) ∷ []
  places_before front h = h name ∙ places-append 0 name front name ∙ ap (λ b. places_of name front ++ (if b then (0 + length front) ∷ [] else [])) (nat_list_eq_equiv.refl name)

  less_cases : (front : List (List ℕ)) (v : Bytes) → IsIndexOf m (front ++ name ∷ []) → UpdatesBy same_key (key_test name) m n (Some v) → v.items ≡ take (length (places_at m name) - 1) (places_at m name)
      → (other : List ℕ) → (bytes_eq name other ≡ true) ⊎ (bytes_eq name other ≡ false) → places_at n other ≡ places_of other front
  less_cases front v h u e other (inl same) =
      let before = places_before front h in
      let size : length (places_of name front) ≡ length (places_of name front ++ (0 + length front) ∷ []) - 1 = omega (arith, length-append (places_of name front) ((0 + length front) ∷ [])) in
      subst (λ q. places_at n q ≡ places_of q front) ((bytes_decides name other).0 same)
      (new_places v u ∙ e ∙ ap (λ ps. take (length ps - 1) ps) before ∙ take_at (places_of name front) ((0 + length front) ∷ []) _ size)
  less_cases front v h u e other (inr differs) =
      other_places (Some v) u other differs ∙ h other ∙ places-append 0 other front name
      ∙ ap (λ b. places_of other front ++ (if b then (0 + length front) ∷ [] else [])) differs ∙ append-nil (places_of other front)

  -- the last name goes
  pub one_less : (front : List (List ℕ)) (v : Bytes) → IsIndexOf m (front ++ name ∷ []) → UpdatesBy same_key (key_test name) m n (Some v) → v.items ≡ take (length (places_at m name) - 1) (places_at m name) → IsIndexOf n front
  one_less front v h u e other = less_cases front v h u e other (cases_Bool (bytes_eq name other))
