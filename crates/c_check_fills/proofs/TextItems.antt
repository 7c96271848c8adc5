-- The items of a literal, one by one.
use Rattle.std.proofs.Common.{◌≡◌, ◌≤◌, ◌∙◌, ap, sym, refl, arith, ℕ, zero, suc, ◌+◌, List, [], ◌∷◌, ◌++◌, length, drop, append_assoc}
use Rattle.c_syntax_written.specs.declared.place.Pos.{Pos}
use Rattle.c_syntax_written.specs.declared.int_type.IntType.{IntType}
use Rattle.c_syntax.specs.TypedStmt.{TInitTree}
use Rattle.c_typing.specs.Inits.{text_item, text_items}

-- behind the last one nothing is left
pub none_left : {A : Type 0} (xs : List A) (i : ℕ) → length xs ≤ i → drop i xs ≡ []
none_left [] zero h = refl
none_left [] (suc i) h = refl
none_left (x ∷ xs) zero h = absurd (omega (arith, h))
none_left (x ∷ xs) (suc i) h = none_left xs i (omega (arith, h))

module _ (at : Pos) (t : IntType) where
  pub no_items : (offset : ℕ) → text_items at t offset [] ≡ []
  unfolding text_items
  no_items offset = refl

  pub next_item : (offset byte : ℕ) (rest : List ℕ) → text_items at t offset (byte ∷ rest) ≡ text_item at t offset byte ∷ text_items at t (offset + 1) rest
  unfolding text_items
  next_item offset byte rest = refl

  -- one more is put behind those that are there
  pub one_more : (done : List TInitTree) (offset byte : ℕ) (rest : List ℕ)
      → (done ++ text_item at t offset byte ∷ []) ++ text_items at t (offset + 1) rest ≡ done ++ text_items at t offset (byte ∷ rest)
  one_more done offset byte rest =
      append_assoc done (text_item at t offset byte ∷ []) (text_items at t (offset + 1) rest) ∙ ap (λ items. done ++ items) (sym (next_item offset byte rest))

  -- the last one stands behind the others
  pub last_item : (offset : ℕ) (text : List ℕ) (byte : ℕ) → text_items at t offset (text ++ byte ∷ []) ≡ text_items at t offset text ++ text_item at t (offset + length text) byte ∷ []
  last_item offset [] byte =
      next_item offset byte [] ∙ ap (λ items. text_item at t offset byte ∷ items) (no_items (offset + 1))
      ∙ ap (λ n. text_item at t n byte ∷ []) (let e : offset ≡ offset + 0 = omega arith in e) ∙ ap (λ items. items ++ text_item at t (offset + 0) byte ∷ []) (sym (no_items offset))
  last_item offset (first ∷ rest) byte =
      next_item offset first (rest ++ byte ∷ []) ∙ ap (λ items. text_item at t offset first ∷ items) (last_item (offset + 1) rest byte)
      ∙ ap (λ n. text_item at t offset first ∷ (text_items at t (offset + 1) rest ++ text_item at t n byte ∷ []))
      (let e : offset + 1 + length rest ≡ offset + length (first ∷ rest) = omega arith in e)
      ∙ ap (λ items. items ++ text_item at t (offset + length (first ∷ rest)) byte ∷ []) (sym (next_item offset first rest))
