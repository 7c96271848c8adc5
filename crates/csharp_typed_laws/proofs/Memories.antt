-- What memory keeps where objects begin and end, and how many blocks there are behind what changes it.
use Rattle.std.proofs.Common.{◌≡◌, ℕ, ◌+◌, ◌<◌, ◌≤◌, Bool, true, false, List, [], ◌∷◌, length, length-append, length-set, Option, Some, None, refl, sym, ◌∙◌, subst, arith}
use Rattle.std.specs.Prelude.{◌==◌, ◌&&◌, not, is_some, if◌then◌else◌, All}
use Rattle.std.proofs.lemmas.Bool.{eq-eqb}
use Rattle.std.proofs.lemmas.List.Elements.{All-head, All-tail}
use Rattle.c_syntax.specs.declared.alarm.WrongKind.{WrongKind}
use Rattle.c_syntax.specs.Types.{ObjectTree}
use Rattle.block_mem.specs.declared.types.Scalar.{Scalar}
use Rattle.block_mem.specs.declared.types.Value.{Value}
use Rattle.block_mem.specs.declared.types.Value.TheVariants as values
use Rattle.block_mem.specs.Block.{BlockView, new_block}
use Rattle.block_mem.specs.Blocks as blocks
use Rattle.block_mem.specs.Bytes.{size_of as scalar_size}
use Rattle.c_values.specs.Places.{ObjectMemory, place_of}
use Rattle.c_objects.specs.Opening.{ended_at, is_read_only, open_all, opened, shut, shut_all, size_of, undefined}
use Rattle.c_objects.specs.Writing.{copied_at, stored_at, unless_wrong, with_blocks}
use Rattle.c_objects.proofs.Keeping.{Keeps, keeps_opened}
use Rattle.c_objects.proofs.Places.{open_other}
use Rattle.c_objects.proofs.Shutting.{keeps_shut}
use Rattle.csharp.specs.States.{State}
use Rattle.csharp.specs.Actions.{are_free, is_among}
use Rattle.csharp_typed_laws.proofs.Values.{given, mapped}

-- ---- objects that begin

-- the first of objects that are free does not live and does not come again
first_free : (o : Option ℕ) (z w : Bool) → not (is_some o) && not z && w ≡ true → (o ≡ None) × (z ≡ false) × (w ≡ true)
first_free None false w e = (refl, refl, e)
first_free None true w e = absurd (cc)
first_free (Some b) z w e = absurd (cc)

another : (x y : ℕ) (z : Bool) → (if x == y then true else z) ≡ false → (y ≡ x → ⊥) × (z ≡ false)
another x y z e = apart (x == y) refl e
  where
    apart : (w : Bool) → (x == y) ≡ w → (if w then true else z) ≡ false → (y ≡ x → ⊥) × (z ≡ false)
    apart true same f = absurd (cc)
    apart false other f = ((λ is. let one : (x == y) ≡ true = eq-eqb x y (sym is) in absurd (cc)), f)

-- what stays free
still_free : (place other : Option ℕ) (among rest : Bool) → other ≡ place → (not (is_some place) && not among && rest) ≡ true → (new : Bool) → new ≡ true
    → (not (is_some other) && not among && new) ≡ true
still_free None other false rest same e new goes = rw (same, goes) refl
still_free None other true rest same e new goes = absurd (cc)
still_free (Some b) other among rest same e new goes = absurd (cc)

free_after : (objects : List ObjectTree) (s : State) (x : ℕ) (xs : List ℕ) → is_among x xs ≡ false → are_free xs s ≡ true
    → are_free xs (record s { memory = opened objects s.memory x }) ≡ true
free_after objects s x [] apart free = refl
free_after objects s x (y ∷ ys) apart free =
    let here = another x y (is_among x ys) apart in
    let first = first_free (place_of s.memory y) (is_among y ys) (are_free ys s) free in
    still_free (place_of s.memory y) (place_of (opened objects s.memory x) y) (is_among y ys) (are_free ys s) (open_other objects s.memory x y here.0) free
    (are_free ys (record s { memory = opened objects s.memory x })) (free_after objects s x ys here.1 first.2)

pub opened_count : (objects : List ObjectTree) (xs : List ℕ) (m : ObjectMemory) → length m.blocks ≤ length (open_all objects m xs).blocks
opened_count objects [] m = omega arith
opened_count objects (x ∷ xs) m =
    let one : length (opened objects m x).blocks ≡ length m.blocks + 1 = length-append m.blocks (new_block (size_of objects x) (is_read_only objects x) ∷ []) in
    let rest = opened_count objects xs (opened objects m x) in omega (arith, one, rest)

-- ---- memory that keeps what it keeps

module _ (W : Type 0) (objects : List ObjectTree) where
  pub keeps_open_all : (xs : List ℕ) (s : State) → Keeps W objects s.memory → All (λ x. x < length objects) xs → are_free xs s ≡ true
      → Keeps W objects (open_all objects s.memory xs)
  keeps_open_all [] s k there free = k
  keeps_open_all (x ∷ xs) s k there free =
      let first = first_free (place_of s.memory x) (is_among x xs) (are_free xs s) free in
      keeps_open_all xs (record s { memory = opened objects s.memory x })
      (keeps_opened W objects s.memory x k (All-head (λ y. y < length objects) x xs there) first.0) (All-tail (λ y. y < length objects) x xs there)
      (free_after objects s x xs first.1 first.2)

  pub keeps_shut_all : (xs : List ℕ) (m : ObjectMemory) → Keeps W objects m → Keeps W objects (shut_all m xs)
  keeps_shut_all [] m k = k
  keeps_shut_all (x ∷ xs) m k = keeps_shut_all xs (shut m x) (keeps_shut W objects m x k)

-- ---- as many blocks as before

ended_count : (m : List BlockView) (o : Option ℕ) → length (ended_at m o) ≡ length m
ended_count m None = refl
ended_count m (Some b) = length-set m b _

pub shut_count : (xs : List ℕ) (m : ObjectMemory) → length (shut_all m xs).blocks ≡ length m.blocks
shut_count [] m = refl
shut_count (x ∷ xs) m = shut_count xs (shut m x) ∙ ended_count m.blocks (place_of m x)

unless_count : (n : ℕ) (w : Option WrongKind) (o : Option ObjectMemory) (m : ObjectMemory) → ((k : ObjectMemory) → o ≡ Some k → length k.blocks ≡ n)
    → unless_wrong w o ≡ Some m → length m.blocks ≡ n
unless_count n None o m h e = h m e
unless_count n (Some kind) o m h e = absurd (cc)

written_count : (n : ℕ) (old : ObjectMemory) (new : List BlockView) → length new ≡ n → (m : ObjectMemory)
    → ◌≡◌ {A = Option ObjectMemory} (Some (with_blocks old new)) (Some m) → length m.blocks ≡ n
written_count n old new h m e = given (λ (k : ObjectMemory). length k.blocks ≡ n) (with_blocks old new) m e h

pub stored_count : (m : ObjectMemory) (ty : Scalar) (place v : Value) (n : ObjectMemory) → stored_at m ty place v ≡ Some n → length n.blocks ≡ length m.blocks
stored_count m ty (values.Ptr p) v n e =
    unless_count (length m.blocks) (blocks.wrong_access m.blocks p (scalar_size ty) (scalar_size ty) false) (Some (with_blocks m (blocks.store m.blocks p v))) n
    (written_count (length m.blocks) m (blocks.store m.blocks p v) (length-set m.blocks p.block _)) e
stored_count m ty (values.Int t k) v n e = absurd (cc)
stored_count m ty values.Null v n e = absurd (cc)

pub copied_count : (m : ObjectMemory) (to from : Value) (size : ℕ) (n : ObjectMemory) → copied_at m to from size ≡ Some n → length n.blocks ≡ length m.blocks
copied_count m (values.Ptr p) (values.Ptr q) size n e =
    unless_count (length m.blocks) (blocks.wrong_access m.blocks q size 1 false)
    (unless_wrong (blocks.wrong_access m.blocks p size 1 false) (Some (with_blocks m (blocks.copy m.blocks p q size)))) n
    (λ k f. unless_count (length m.blocks) (blocks.wrong_access m.blocks p size 1 false) (Some (with_blocks m (blocks.copy m.blocks p q size))) k
    (written_count (length m.blocks) m (blocks.copy m.blocks p q size) (length-set m.blocks p.block _)) f) e
copied_count m (values.Ptr p) (values.Int t k) size n e = absurd (cc)
copied_count m (values.Ptr p) values.Null size n e = absurd (cc)
copied_count m (values.Int t k) from size n e = absurd (cc)
copied_count m values.Null from size n e = absurd (cc)

pub undefined_count : (m : ObjectMemory) (x : ℕ) (n : ObjectMemory) → undefined m x ≡ Some n → length n.blocks ≡ length m.blocks
undefined_count m x n e =
    let b = mapped (λ c. record m { blocks = blocks.with_undefined m.blocks c }) (place_of m x) n e in
    subst (λ (k : ObjectMemory). length k.blocks ≡ length m.blocks) b.2 (length-set m.blocks b.0 _)
