-- Marks of the bytes that items name.
use Rattle.std.proofs.Common.{◌≡◌, ◌<◌, ◌≤◌, ◌+◌, ◌⊎◌, ℕ, zero, suc, Bool, true, false, List, [], ◌∷◌, ◌++◌, map, length, take, get_or, refl, sym, ap, inl, inr, ◌∙◌, arith}
use Rattle.std.specs.Prelude.{◌||◌, ◌&&◌, not, nat_lt, slice_index_or}
use Rattle.std.proofs.lemmas.Bool.{ltb-true, ltb-false}
use Rattle.std.proofs.lemmas.List.{take_more}
use Rattle.c_syntax.specs.declared.statement.TInit.{TInit}
use Rattle.c_syntax.specs.TypedStmt.{tinit_tree}
use Rattle.c_objects.specs.Writing.{are_named, named_by, names_byte}
use Rattle.lower_trees.specs.Zeros.{none_named}
use Rattle.lower_zeros.specs.Named.{AreMarked}

side : (b : Bool) (a c : ℕ) → nat_lt a c ≡ b → (a < c) ⊎ (c ≤ a)
side true a c e = inl (ltb-true a c e)
side false a c e = inr (ltb-false a c e)

lt_or_le : (a c : ℕ) → (a < c) ⊎ (c ≤ a)
lt_or_le a c = side (nat_lt a c) a c refl

first_or : (a b c : Bool) → (a || (b || c)) ≡ (b || (a || c))
first_or true true c = refl
first_or true false c = refl
first_or false true c = refl
first_or false false c = refl

are_named_push : (items : List TInit) (last : TInit) (k : ℕ)
    → are_named (map named_by (map tinit_tree (items ++ last ∷ []))) k
    ≡ (names_byte (named_by (tinit_tree last)) k || are_named (map named_by (map tinit_tree items)) k)
are_named_push [] last k = refl
are_named_push (item ∷ items) last k =
    ap (λ b. names_byte (named_by (tinit_tree item)) k || b) (are_named_push items last k)
    ∙ first_or (names_byte (named_by (tinit_tree item)) k) (names_byte (named_by (tinit_tree last)) k) (are_named (map named_by (map tinit_tree items)) k)

next_item : (items : List TInit) (i : ℕ) (item : TInit) → i < length items → item ≡ get_or items i item → take i items ++ item ∷ [] ≡ take (i + 1) items
next_item items i item h e = ap (λ x. take i items ++ x ∷ []) e ∙ sym (take_more items i item h)

-- one item more
pub marked_more : (items : List TInit) (i : ℕ) (item : TInit) (old new : List Bool) → i < length items → item ≡ get_or items i item
    → length new ≡ length old
    → ((k : ℕ) → k < length old → slice_index_or new k false ≡ (names_byte (named_by (tinit_tree item)) k || slice_index_or old k false))
    → AreMarked (map tinit_tree (take i items)) old → AreMarked (map tinit_tree (take (i + 1) items)) new
marked_more items i item old new below is many more before k h =
    let inside : k < length old = omega arith in
    more k inside
    ∙ ap (λ b. names_byte (named_by (tinit_tree item)) k || b) (before k inside)
    ∙ sym (are_named_push (take i items) item k)
    ∙ ap (λ xs. are_named (map named_by (map tinit_tree xs)) k) (next_item items i item below is)

none_after : (b c : Bool) → b ≡ false → (b && c) ≡ false
none_after true c e = absurd (cc)
none_after false c e = refl

none_at : (b c : Bool) → c ≡ true → (b && not c) ≡ false
none_at true true e = refl
none_at false true e = refl
none_at b false e = absurd (cc)

-- where one of the bytes is named, not none is
pub none_named_false : (named : ℕ → Bool) (from k n : ℕ) → k < n → named (from + k) ≡ true → none_named named from n ≡ false
none_named_false named from k zero h e = absurd (omega arith)
none_named_false named from k (suc n) h e = elim (lt_or_le k n) as (λ w. none_named named from (suc n) ≡ false) [
  | inl below ↦ none_after (none_named named from n) (not (named (from + n))) (none_named_false named from k n below e)
  | inr above ↦ let same : k ≡ n = omega arith in none_at (none_named named from n) (named (from + n)) (ap (λ j. named (from + j)) (sym same) ∙ e)
]
