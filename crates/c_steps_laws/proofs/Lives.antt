-- Which objects live while blocks open and end.
use Rattle.std.proofs.Common.{◌≡◌, ◌<◌, ◌≤◌, ◌+◌, ◌⊎◌, inl, inr, ℕ, List, [], ◌∷◌, length, Option, Some, None, refl, sym, ◌∙◌, subst, arith}
use Rattle.std.specs.Prelude.{IsSome, Contains}
use Rattle.std.proofs.lemmas.Bool.{cases_eq}
use Rattle.std.proofs.lemmas.List.{get_or-set_same, length-append, length-set}
use Rattle.c_syntax.specs.Types.{ObjectTree}
use Rattle.c_syntax.specs.TypedStmt.{TStmtTrees}
use Rattle.c_syntax.specs.Program.{TProgramTree}
use Rattle.c_values.specs.Places.{ObjectMemory, place_of}
use Rattle.c_objects.specs.Opening.{opened, open_all, ended_at, shut, shut_all}
use Rattle.c_objects.proofs.Shutting.{keeps_shut}
use Rattle.c_objects.specs.Lifetimes.{AreDistinct}
use Rattle.c_objects.proofs.Listed.{by_head, first_in, none_in, rest_in}
use Rattle.c_objects.proofs.Places.{open_only, open_other, shut_gone, shut_other, some_not_none}
use Rattle.c_steps.specs.Work.{Item, Close}
use Rattle.c_steps_laws.specs.Fits.{Lives, AreLive}
use Rattle.c_steps_laws.proofs.Kept.{KeepsIn}
use Rattle.c_objects.proofs.Keeping.{Keeps, keeps_opened}
use Rattle.c_objects.specs.Statics.{AreWholeInitials}

pub no_some : {A : Type 0} (o : Option A) → (IsSome o → ⊥) → o ≡ None
no_some None h = refl
no_some (Some a) h = absurd (h refl)

-- ---- objects end

shut_case : (m : ObjectMemory) (x y : ℕ) → (y ≡ x) ⊎ (y ≡ x → ⊥) → IsSome (place_of (shut m x) y) → (y ≡ x → ⊥) × IsSome (place_of m y)
shut_case m x y (inl e) h = absurd (some_not_none (place_of (shut m x) y) (subst (λ z. place_of (shut m x) z ≡ None) (sym e) (shut_gone m x)) h)
shut_case m x y (inr f) h = (f, subst (λ o. IsSome o) (shut_other m x y f) h)

neither : (x y : ℕ) (xs : List ℕ) → (y ≡ x → ⊥) → (Contains xs y → ⊥) → (x ≡ y) ⊎ Contains xs y → ⊥
neither x y xs f g (inl e) = f (sym e)
neither x y xs f g (inr c) = g c

-- what lives after a block's end did so before, and is none of the block's
pub shut_only : (m : ObjectMemory) (xs : List ℕ) (y : ℕ) → IsSome (place_of (shut_all m xs) y) → IsSome (place_of m y) × (Contains xs y → ⊥)
shut_only m [] y h = (h, none_in y)
shut_only m (x ∷ xs) y h =
    let r = shut_only (shut m x) xs y h in
    let s = shut_case m x y (cases_eq y x) r.0 in
    (s.1, λ c. neither x y xs s.0 r.1 (by_head x y xs c))

pub shut_there : (m : ObjectMemory) (xs : List ℕ) (y : ℕ) → (Contains xs y → ⊥) → IsSome (place_of m y) → IsSome (place_of (shut_all m xs) y)
shut_there m [] y f h = h
shut_there m (x ∷ xs) y f h =
    shut_there (shut m x) xs y (λ c. f (rest_in x y xs c)) (subst (λ o. IsSome o) (sym (shut_other m x y (λ e. f (subst (λ z. Contains (x ∷ xs) z) (sym e) (first_in x xs))))) h)

ended_length : (m : ObjectMemory) (o : Option ℕ) → length (ended_at m.blocks o) ≡ length m.blocks
ended_length m None = refl
ended_length m (Some b) = length-set m.blocks b _

pub shut_blocks : (m : ObjectMemory) (xs : List ℕ) → length (shut_all m xs).blocks ≡ length m.blocks
shut_blocks m [] = refl
shut_blocks m (x ∷ xs) = shut_blocks (shut m x) xs ∙ ended_length m (place_of m x)

pub shut_keeps : {W : Type 0} (objects : List ObjectTree) (m : ObjectMemory) (xs : List ℕ) → Keeps W objects m → Keeps W objects (shut_all m xs)
shut_keeps objects m [] k = k
shut_keeps {W = W} objects m (x ∷ xs) k = shut_keeps objects (shut m x) xs (keeps_shut W objects m x k)

-- memory behind the end of a block
pub record Shut (p : TProgramTree) (w : List Item) (m n : ObjectMemory) : Type 0 where
  pub live : AreLive p w n
  pub kept : KeepsIn p n
  pub blocks : length n.blocks ≡ length m.blocks

behind_only : (p : TProgramTree) (xs : List ℕ) (items : TStmtTrees) (w : List Item) (y : ℕ) → (Contains xs y → ⊥) → Lives p (Close xs items ∷ w) y → Lives p w y
behind_only p xs items w y f (inl g) = inl g
behind_only p xs items w y f (inr (inl c)) = absurd (f c)
behind_only p xs items w y f (inr (inr g)) = inr g

more_live : (p : TProgramTree) (xs : List ℕ) (items : TStmtTrees) (w : List Item) (y : ℕ) → Lives p w y → Lives p (Close xs items ∷ w) y
more_live p xs items w y (inl g) = inl g
more_live p xs items w y (inr g) = inr (inr g)

pub all_shut : (p : TProgramTree) (w : List Item) (xs : List ℕ) (items : TStmtTrees) (m : ObjectMemory) → ((y : ℕ) → Contains xs y → Lives p w y → ⊥)
    → AreLive p (Close xs items ∷ w) m → KeepsIn p m → Shut p w m (shut_all m xs)
all_shut p w xs items m f l k = record {
  live = (
    (λ y g. shut_there m xs y (λ c. f y c g) (l.0 y (more_live p xs items w y g))),
    (λ y h. let r = shut_only m xs y h in behind_only p xs items w y r.1 (l.1 y r.0)),
  );
  kept = shut_keeps p.objects m xs k;
  blocks = shut_blocks m xs;
}

-- ---- objects begin

-- memory with more objects
pub record Opened (W : Type 0) (objects : List ObjectTree) (xs : List ℕ) (m n : ObjectMemory) : Type 0 where
  pub kept : Keeps W objects n
  pub old : (y : ℕ) → IsSome (place_of m y) → IsSome (place_of n y)
  pub new : (y : ℕ) → Contains xs y → IsSome (place_of n y)
  pub only : (y : ℕ) → IsSome (place_of n y) → IsSome (place_of m y) ⊎ Contains xs y
  pub more : length m.blocks ≤ length n.blocks

open_here : {W : Type 0} (objects : List ObjectTree) (m : ObjectMemory) (x : ℕ) → Keeps W objects m → x < length objects → place_of (opened objects m x) x ≡ Some (length m.blocks)
open_here objects m x k lt = get_or-set_same m.places x (Some (length m.blocks)) None (subst (λ n. x < n) (sym k.counted) lt)

open_old : {W : Type 0} (objects : List ObjectTree) (m : ObjectMemory) (x y : ℕ) → Keeps W objects m → x < length objects → (y ≡ x) ⊎ (y ≡ x → ⊥) → IsSome (place_of m y)
    → IsSome (place_of (opened objects m x) y)
open_old objects m x y k lt (inl e) h = subst (λ z. IsSome (place_of (opened objects m x) z)) (sym e) (subst (λ o. IsSome o) (sym (open_here objects m x k lt)) refl)
open_old objects m x y k lt (inr f) h = subst (λ o. IsSome o) (sym (open_other objects m x y f)) h

only_more : (x y : ℕ) (xs : List ℕ) (A : Type 0) → (A ⊎ (y ≡ x)) ⊎ Contains xs y → A ⊎ Contains (x ∷ xs) y
only_more x y xs A (inl (inl a)) = inl a
only_more x y xs A (inl (inr e)) = inr (subst (λ z. Contains (x ∷ xs) z) (sym e) (first_in x xs))
only_more x y xs A (inr c) = inr (rest_in x y xs c)

left_map : {A B C : Type 0} → (A → B) → A ⊎ C → B ⊎ C
left_map f (inl a) = inl (f a)
left_map f (inr c) = inr c

new_case : (objects : List ObjectTree) (x y : ℕ) (xs : List ℕ) (n : ObjectMemory) → IsSome (place_of n x) → (Contains xs y → IsSome (place_of n y)) → (x ≡ y) ⊎ Contains xs y
    → IsSome (place_of n y)
new_case objects x y xs n h f (inl e) = subst (λ z. IsSome (place_of n z)) e h
new_case objects x y xs n h f (inr c) = f c

-- objects that do not live, each once
abbrev pub Free : List ObjectTree → ObjectMemory → List ℕ → Type 0
Free objects m xs = (y : ℕ) → Contains xs y → (y < length objects) × (place_of m y ≡ None)

pub all_opened : {W : Type 0} (objects : List ObjectTree) (xs : List ℕ) (m : ObjectMemory) → AreDistinct xs → Free objects m xs → Keeps W objects m
    → Opened W objects xs m (open_all objects m xs)
all_opened objects [] m d f k = record { kept = k; old = λ y h. h; new = λ y c. absurd (none_in y c); only = λ y h. inl h; more = omega arith }
all_opened objects (x ∷ xs) m (d, ds) f k =
    let here = f x (first_in x xs) in
    let apart : (y : ℕ) → Contains xs y → y ≡ x → ⊥ = λ y c e. d (subst (λ z. Contains xs z) e c) in
    let rest : Free objects (opened objects m x) xs = λ y c. let g = f y (rest_in x y xs c) in (g.0, open_other objects m x y (apart y c) ∙ g.1) in
    let r = all_opened objects xs (opened objects m x) ds rest (keeps_opened _ objects m x k here.0 here.1) in
    let grown : length (opened objects m x).blocks ≡ length m.blocks + 1 = length-append m.blocks _ in
    let more = r.more in
    record {
      kept = r.kept;
      old = λ y h. r.old y (open_old objects m x y k here.0 (cases_eq y x) h);
      new = λ y c. new_case objects x y xs (open_all objects (opened objects m x) xs)
          (r.old x (subst (λ o. IsSome o) (sym (open_here objects m x k here.0)) refl)) (r.new y) (by_head x y xs c);
      only = λ y h. only_more x y xs (IsSome (place_of m y)) (left_map (open_only objects m x y (cases_eq y x)) (r.only y h));
      more = omega (arith, grown, more);
    }

only_close : (p : TProgramTree) (xs : List ℕ) (items : TStmtTrees) (w : List Item) (y : ℕ) → Lives p w y ⊎ Contains xs y → Lives p (Close xs items ∷ w) y
only_close p xs items w y (inl g) = more_live p xs items w y g
only_close p xs items w y (inr c) = inr (inl c)

opened_there : (p : TProgramTree) (w : List Item) (xs : List ℕ) (items : TStmtTrees) (m n : ObjectMemory) → Opened (AreWholeInitials p.initial) p.objects xs m n → AreLive p w m
    → (y : ℕ) → Lives p (Close xs items ∷ w) y → IsSome (place_of n y)
opened_there p w xs items m n h l y (inl g) = h.old y (l.0 y (inl g))
opened_there p w xs items m n h l y (inr (inl c)) = h.new y c
opened_there p w xs items m n h l y (inr (inr g)) = h.old y (l.0 y (inr g))

-- what lives in a block
pub live_opened : (p : TProgramTree) (w : List Item) (xs : List ℕ) (items : TStmtTrees) (m n : ObjectMemory) → Opened (AreWholeInitials p.initial) p.objects xs m n → AreLive p w m
    → AreLive p (Close xs items ∷ w) n
live_opened p w xs items m n h l =
    ((λ y g. opened_there p w xs items m n h l y g), (λ y g. only_close p xs items w y (left_map (l.1 y) (h.only y g))))
