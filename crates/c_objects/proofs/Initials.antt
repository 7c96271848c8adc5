-- Initial values that are put in one after the other.
use Rattle.std.proofs.Common.{◌≡◌, ℕ, suc, ◌+◌, ◌<◌, ◌≤◌, pos, refl, sym, subst, ap}
use Rattle.std.proofs.Common.{◌∙◌, arith, List, [], ◌∷◌, length, length-set, take, drop, drop-cons, Option}
use Rattle.std.proofs.Common.{Some, None, inl, inr, ◌⊎◌}
use Rattle.std.specs.Prelude.{All, IfSome, slice_set, slice_index_or}
use Rattle.std.proofs.lemmas.Bool.{cases_eq, cases_lt}
use Rattle.std.proofs.lemmas.List.{get_or_past}
use Rattle.std.proofs.lemmas.List.Elements.{All-weaker, All-more}
use Rattle.c_syntax.specs.declared.program.InitByte.{InitByte}
use Rattle.c_syntax.specs.declared.program.Initial.{Initial}
use Rattle.block_mem.specs.declared.types.Byte.{Byte}
use Rattle.block_mem.specs.Block.{BlockView}
use Rattle.block_mem.specs.Blocks.{no_block, block_at, with_bytes, set_byte}
use Rattle.block_mem.proofs.Copies.{bytes-same, block-other}
use Rattle.c_values.specs.Places.{ObjectMemory, place_of}
use Rattle.c_objects.specs.Statics.{put_from, initial_byte, initial_at, with_initial, with_initials, FitsInitial, FitInitials, HasBitsIn, HasEightBits}

past_end : (m : List BlockView) (n : ℕ) (bs : List Byte) → length m ≤ n → block_at (with_bytes m n bs) n ≡ block_at m n
past_end m n bs h =
    get_or_past (slice_set m n (record (block_at m n) { bytes = bs })) n no_block
    (subst (λ l. l ≤ n) (sym (length-set m n (record (block_at m n) { bytes = bs }))) h)
    ∙ sym (get_or_past m n no_block h)

size_here : (m : List BlockView) (n : ℕ) (bs : List Byte) → length bs ≡ length (block_at m n).bytes → (n < length m) ⊎ (length m ≤ n)
    → length (block_at (with_bytes m n bs) n).bytes ≡ length (block_at m n).bytes
size_here m n bs e (inl h) = ap (λ (l : List Byte). length l) (bytes-same m n bs h) ∙ e
size_here m n bs e (inr h) = ap (λ (v : BlockView). length v.bytes) (past_end m n bs h)

size_kept : (m : List BlockView) (n : ℕ) (bs : List Byte) (c : ℕ) → length bs ≡ length (block_at m n).bytes → (c ≡ n) ⊎ (c ≡ n → ⊥)
    → length (block_at (with_bytes m n bs) c).bytes ≡ length (block_at m c).bytes
size_kept m n bs c e (inl same) = subst (λ k. length (block_at (with_bytes m n bs) k).bytes
    ≡ length (block_at m k).bytes) (sym same) (size_here m n bs e (cases_lt n (length m)))
size_kept m n bs c e (inr other) = ap (λ (v : BlockView). length v.bytes) (block-other m n c bs other)

-- bytes that are put in change no size
put_size : (m : ObjectMemory) (b k : ℕ) (bs : List InitByte) (blocks : List BlockView) (c : ℕ) → length (block_at (put_from m b k bs blocks) c).bytes
    ≡ length (block_at blocks c).bytes
put_size m b k [] blocks c = refl
put_size m b k (y ∷ ys) blocks c =
    put_size m b (suc k) ys (set_byte blocks (record { block = b; offset = pos k }) (initial_byte m y)) c
    ∙ size_kept blocks b (slice_set (block_at blocks b).bytes k (initial_byte m y)) c (length-set (block_at blocks b).bytes k (initial_byte m y)) (cases_eq c b)

if_more : (o : Option ℕ) (n : ℕ) (f g : ℕ → ℕ) → ((b : ℕ) → g b ≡ f b) → IfSome o (λ b. n ≤ f b) → IfSome o (λ b. n ≤ g b)
if_more None n f g e h = h
if_more (Some b) n f g e h = subst (λ x. n ≤ x) (sym (e b)) h

fits_at : (m : ObjectMemory) (i j : Initial) (o : Option ℕ) → FitsInitial m j → FitsInitial (initial_at m o i.bytes) j
fits_at m i j None h = h
fits_at m i j (Some b) h = (
  if_more (place_of m j.object) (length j.bytes) (λ c. length (block_at m.blocks c).bytes)
      (λ c. length (block_at (put_from m b 0 i.bytes m.blocks) c).bytes) (λ c. put_size m b 0 i.bytes m.blocks c) h.0,
  h.1,
)

-- an initial value that fits still does once another was put in
pub fit_after : (m : ObjectMemory) (i : Initial) (is : List Initial) → FitInitials m is → FitInitials (with_initial m i) is
fit_after m i is h = All-weaker (FitsInitial m) (FitsInitial (with_initial m i)) (λ j. fits_at m i j (place_of m i.object)) is h

-- one more
pub more_initials : (first at new : ObjectMemory) (is : List Initial) (k : ℕ) (i : Initial) → k < length is → slice_index_or is k i ≡ i
    → (with_initials at (drop k is) ≡ with_initials first is) × FitInitials at is → new ≡ with_initial at i
    → (with_initials new (drop (k + 1) is) ≡ with_initials first is) × FitInitials new is
more_initials first at new is k i l here h e =
    let next : suc k ≡ k + 1 = omega arith in
    let rest : drop k is ≡ i ∷ drop (k + 1) is = drop-cons is k i l ∙ ap (λ x. x ∷ drop (suc k) is) here ∙ ap (λ n. i ∷ drop n is) next in (
      ap (λ m. with_initials m (drop (k + 1) is)) e ∙ sym (ap (λ xs. with_initials at xs) rest) ∙ h.0,
      subst (λ m. FitInitials m is) (sym e) (fit_after at i is h.1),
    )

-- bytes that are put in move no object
same_places : (m : ObjectMemory) (o : Option ℕ) (bs : List InitByte) → (initial_at m o bs).places ≡ m.places
same_places m None bs = refl
same_places m (Some b) bs = refl

-- one more has its bits
pub more_bits : (first at new : ObjectMemory) (is : List Initial) (k : ℕ) (i : Initial) → k < length is → slice_index_or is k i ≡ i
    → (at.places ≡ first.places) × All (HasBitsIn first) (take k is) → new ≡ with_initial at i → HasBitsIn at i
    → (new.places ≡ first.places) × All (HasBitsIn first) (take (k + 1) is)
more_bits first at new is k i l here h e bits =
    let places : new.places ≡ first.places = ap (λ (m : ObjectMemory). m.places) e ∙ same_places at (place_of at i.object) i.bytes ∙ h.0 in
    let mine : HasBitsIn first i =
    subst (λ (ps : List (Option ℕ)). IfSome (slice_index_or ps i.object None) (λ b. All HasEightBits i.bytes)) h.0 bits in
    (places, All-more (HasBitsIn first) is k i l h.1 (subst (HasBitsIn first) (sym here) mine))
