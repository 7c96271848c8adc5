-- Steps on a state of a set: a temporary gets a value, a value is stored, objects end and begin.
use Rattle.std.proofs.Common.{ℕ, ℤ, zero, suc, ◌≡◌, ◌⊎◌, ◌<◌, ◌++◌, List, [], ◌∷◌, length, slice_get, slice_set, Some, refl, sym, ap, subst, ◌∙◌, arith, inl, inr}
use Rattle.std.proofs.lemmas.Bool.{cases_eq}
use Rattle.c_syntax.specs.Types.{ObjectTree}
use Rattle.ext_int.specs.Valuation.{value_at}
use Rattle.block_mem.specs.declared.types.Scalar.{Scalar}
use Rattle.block_mem.specs.declared.types.Value.{Value}
use Rattle.block_mem.specs.Bytes.{IsOf}
use Rattle.block_mem.specs.Proper.{IsMade}
use Rattle.csharp.specs.States.{State}
use Rattle.csharp.specs.Actions.{put}
use Rattle.pointsets.specs.Targets.{BaseSet}
use Rattle.mem_cell_bytes.specs.declared.entry.Entry.{Entry}
use Rattle.mem_cell_bytes.specs.declared.entry.FillByte.{FillByte}
use Rattle.mem_cell_bytes.specs.Cells.{temp_var, var_of, Points, number_of, Meets, bytes_in}
use Rattle.mem_cell_bytes.specs.Stands.{Claims, Has, Stands}
use Rattle.mem_cell_bytes.proofs.Valuations.{with_value, with-here, with-others}

pub get-set_same : {X : Type 0} (xs : List X) (i : ℕ) (y : X) → i < length xs → slice_get (slice_set xs i y) i ≡ Some y
get-set_same [] i y h = absurd (omega arith)
get-set_same (x ∷ xs) zero y h = refl
get-set_same (x ∷ xs) (suc i) y h = get-set_same xs i y (omega arith)

pub get-set_other : {X : Type 0} (xs : List X) (i j : ℕ) (y : X) → (i ≡ j → ⊥) → slice_get (slice_set xs j y) i ≡ slice_get xs i
get-set_other [] i j y h = refl
get-set_other (x ∷ xs) zero zero y h = absurd (h refl)
get-set_other (x ∷ xs) zero (suc j) y h = refl
get-set_other (x ∷ xs) (suc i) zero y h = refl
get-set_other (x ∷ xs) (suc i) (suc j) y h = get-set_other xs i j y (λ e. h (ap suc e))

pub length-set : {X : Type 0} (xs : List X) (i : ℕ) (y : X) → length (slice_set xs i y) ≡ length xs
length-set [] i y = refl
length-set (x ∷ xs) zero y = refl
length-set (x ∷ xs) (suc i) y = ap suc (length-set xs i y)

-- what a temporary has after it was set is the new value
pub set-is : {X : Type 0} (xs : List X) (i : ℕ) (y u : X) → slice_get (slice_set xs i y) i ≡ Some u → u ≡ y
set-is [] i y u h = cc
set-is (x ∷ xs) zero y u h = cc
set-is (x ∷ xs) (suc i) y u h = set-is xs i y u h

pub Some-same : {X : Type 0} (x y : X) → Some x ≡ Some y → x ≡ y
Some-same x y h = cc

module _ (objects : List ObjectTree) (types : List Scalar) (A A' : List ℤ → Type 0) (k k' : Claims) (s : State) (st : Stands objects types A k s) where
  -- a temporary gets a value
  pub put-stands : (d : ℕ) (u : Value)
      → ((ty : Scalar) → slice_get types d ≡ Some ty → IsOf ty u × IsMade (length s.memory.blocks) u)
      → ((j : ℕ) (set : BaseSet) → k'.pointer j set → ((j ≡ d → ⊥) × k.pointer j set) ⊎ ((j ≡ d) × Points s.memory set u))
      → ((o : ℕ) (e : Entry) → k'.cell o e → k.cell o e) → ((o q : ℕ) (x : FillByte) → k'.byte o q x → k.byte o q x)
      → A' (with_value st.v (temp_var d) (number_of u))
      → Stands objects types A' k' (put s d u)
  put-stands d u is_typed are cells bytes a = let w = with_value st.v (temp_var d) (number_of u) in record {
    kept = st.kept;
    long = length-set s.temps d u ∙ st.long;
    typed = λ j ty x is at. elim (cases_eq j d) [
      | inl e ↦
          let x_is : x ≡ u = set-is s.temps d u x (sym (ap (slice_get (slice_set s.temps d u)) e) ∙ at) in
          let t = is_typed ty (sym (ap (slice_get types) e) ∙ is) in
          subst (λ (y : Value). IsOf ty y × IsMade (length s.memory.blocks) y) (sym x_is) t
      | inr h ↦ st.typed j ty x is (sym (get-set_other s.temps j d u h) ∙ at)
    ];
    v = w;
    admitted = a;
    number = λ j x at. elim (cases_eq j d) [
      | inl e ↦
          let x_is : x ≡ u = set-is s.temps d u x (sym (ap (slice_get (slice_set s.temps d u)) e) ∙ at) in
          ap (λ i. value_at w (temp_var i)) e ∙ with-here st.v (temp_var d) (number_of u) ∙ ap number_of (sym x_is)
      | inr h ↦ with-others st.v (temp_var d) (number_of u) (temp_var j) (λ q. h (omega (arith, q))) ∙ st.number j x (sym (get-set_other s.temps j d u h) ∙ at)
    ];
    points = λ j set x has at. elim (are j set has) [
      | inl other ↦ st.points j set x other.1 (sym (get-set_other s.temps j d u other.0) ∙ at)
      | inr here ↦
          let x_is : x ≡ u = set-is s.temps d u x (sym (ap (slice_get (slice_set s.temps d u)) here.0) ∙ at) in
          subst (Points s.memory set) (sym x_is) here.1
    ];
    cell = λ o e b has at. subst (λ y. Meets s.memory e (bytes_in s.memory b e) y)
        (sym (with-others st.v (temp_var d) (number_of u) (var_of o e) (λ q. omega (arith, q)))) (st.cell o e b (cells o e has) at);
    byte = λ o q x b has at. st.byte o q x b (bytes o q x has) at;
  }

-- an item of a list with one more is the new one, or one that was there
pub has-push : {X : Type 0} {P : Type 0} (xs : List X) (y x : X) → Has (xs ++ y ∷ []) x → (Has xs x → P) → (x ≡ y → P) → P
has-push [] y x (zero, h) f g = g cc
has-push [] y x (suc n, h) f g = cc
has-push (z ∷ xs) y x (zero, h) f g = f (0, h)
has-push (z ∷ xs) y x (suc n, h) f g = has-push xs y x (n, h) (λ k. f (suc k.0, k.1)) g

pub has-none : {X : Type 0} {P : Type 0} (xs : List X) (x : X) → xs ≡ [] → Has xs x → P
has-none [] x e (n, h) = cc
has-none (y ∷ ys) x e h = cc
