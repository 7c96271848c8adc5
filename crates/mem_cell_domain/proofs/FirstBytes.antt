-- Initial bytes that are put into memory, and what is known of them.
use Rattle.std.proofs.Common.{ℕ, zero, suc, pos, ◌≡◌, ◌⊎◌, ◌+◌, ◌<◌, ◌≤◌, ◌++◌, List, [], ◌∷◌, length, replicate, slice_get, slice_set, take, Option, Some, None, refl, sym, ap, subst, ◌∙◌, arith, inl, inr, get_or}
use Rattle.std.specs.Prelude.{All, IsSomeAnd, option_map, unwrap_or}
use Rattle.std.proofs.lemmas.Bool.{cases_eq}
use Rattle.std.proofs.lemmas.List.{get_or-set_same, get_or-set_other}
use Rattle.std.proofs.lemmas.List.Elements.{All-head, All-tail, All-weaker}
use Rattle.c_syntax.specs.declared.program.InitByte.{InitByte}
use Rattle.c_syntax.specs.declared.program.InitByte.TheVariants as inits
use Rattle.c_syntax.specs.declared.program.Initial.{Initial}
use Rattle.c_syntax.specs.Types.{ObjectTree}
use Rattle.block_mem.specs.declared.types.Byte.TheVariants.{Undef}
use Rattle.block_mem.specs.Block.{BlockView}
use Rattle.block_mem.specs.Blocks.{block_at, set_byte}
use Rattle.block_mem.proofs.Copies.{block-other, bytes-same}
use Rattle.c_values.specs.Places.{ObjectMemory, place_of}
use Rattle.c_objects.specs.Opening.{size_of}
use Rattle.c_objects.specs.Statics.{initial_at, initial_byte, opened_statics, put_from, with_initial, with_initials}
use Rattle.c_objects.proofs.Beginning.{opened_kept}
use Rattle.c_objects.specs.Writing.{with_blocks}
use Rattle.csharp.specs.Formed.{IsFormedInitial}
use Rattle.csharp.specs.Trees.{CsProgramTree}
use Rattle.mem_cell_bytes.specs.declared.entry.FillByte.{FillByte}
use Rattle.mem_cell_bytes.specs.Cells.{HasByte, filling}
use Rattle.mem_cell_bytes.specs.Contents.{Contents, nothing}
use Rattle.mem_cell_bytes.specs.Stands.{IsInStretch}
use Rattle.mem_cell_bytes.proofs.Steps.{Some-same, get-set_other, has-none, length-set, set-is}
use Rattle.mem_cell_grid.proofs.Lists.{get-below, take-push}
use Rattle.mem_cell_domain.specs.Starts.{AreBytesOf, AreFrom, AreLong, ArePlaces, IsNumberAt}
use Rattle.mem_cell_domain.proofs.Items.{replicated}

-- ---- bytes of one block

module _ (m : ObjectMemory) (b : ℕ) where
  set_at : ℕ → InitByte → List BlockView → List BlockView
  set_at k y blocks = set_byte blocks (record { block = b; offset = pos k }) (initial_byte m y)

  set-size : (k : ℕ) (y : InitByte) (blocks : List BlockView) → b < length blocks → length (block_at (set_at k y blocks) b).bytes ≡ length (block_at blocks b).bytes
  unfolding set_at
  set-size k y blocks made = ap length (bytes-same blocks b (slice_set (block_at blocks b).bytes k (initial_byte m y)) made) ∙ length-set (block_at blocks b).bytes k (initial_byte m y)

  set-count : (k : ℕ) (y : InitByte) (blocks : List BlockView) → length (set_at k y blocks) ≡ length blocks
  unfolding set_at
  set-count k y blocks = length-set blocks b (record (block_at blocks b) { bytes = slice_set (block_at blocks b).bytes k (initial_byte m y) })

  set-here : (k : ℕ) (y : InitByte) (blocks : List BlockView) → b < length blocks → k < length (block_at blocks b).bytes
      → get_or (block_at (set_at k y blocks) b).bytes k Undef ≡ initial_byte m y
  unfolding set_at
  set-here k y blocks made inside =
      ap (λ bs. get_or bs k Undef) (bytes-same blocks b (slice_set (block_at blocks b).bytes k (initial_byte m y)) made)
      ∙ get_or-set_same (block_at blocks b).bytes k (initial_byte m y) Undef inside

  set-there : (k j : ℕ) (y : InitByte) (blocks : List BlockView) → b < length blocks → (j ≡ k → ⊥)
      → get_or (block_at (set_at k y blocks) b).bytes j Undef ≡ get_or (block_at blocks b).bytes j Undef
  unfolding set_at
  set-there k j y blocks made apart =
      ap (λ bs. get_or bs j Undef) (bytes-same blocks b (slice_set (block_at blocks b).bytes k (initial_byte m y)) made)
      ∙ get_or-set_other (block_at blocks b).bytes k j (initial_byte m y) Undef apart

  put-size : (k : ℕ) (bs : List InitByte) (blocks : List BlockView) → b < length blocks → length (block_at (put_from m b k bs blocks) b).bytes ≡ length (block_at blocks b).bytes
  unfolding set_at
  put-size k [] blocks made = refl
  put-size k (y ∷ ys) blocks made = put-size (suc k) ys (set_at k y blocks) (let n = set-count k y blocks in omega (arith, n, made)) ∙ set-size k y blocks made

  put-count : (k : ℕ) (bs : List InitByte) (blocks : List BlockView) → length (put_from m b k bs blocks) ≡ length blocks
  unfolding set_at
  put-count k [] blocks = refl
  put-count k (y ∷ ys) blocks = put-count (suc k) ys (set_at k y blocks) ∙ set-count k y blocks

  put-before : (k j : ℕ) (bs : List InitByte) (blocks : List BlockView) → b < length blocks → j < k
      → get_or (block_at (put_from m b k bs blocks) b).bytes j Undef ≡ get_or (block_at blocks b).bytes j Undef
  unfolding set_at
  put-before k j [] blocks made low = refl
  put-before k j (y ∷ ys) blocks made low =
      put-before (suc k) j ys (set_at k y blocks) (let n = set-count k y blocks in omega (arith, n, made)) (omega (arith, low))
      ∙ set-there k j y blocks made (λ e. omega (arith, e, low))

  put-here : (k i j : ℕ) (bs : List InitByte) (blocks : List BlockView) (y : InitByte) → b < length blocks → k + length bs ≤ length (block_at blocks b).bytes → j ≡ k + i
      → slice_get bs i ≡ Some y → get_or (block_at (put_from m b k bs blocks) b).bytes j Undef ≡ initial_byte m y
  unfolding set_at
  put-here k i j [] blocks y made room is at = cc
  put-here k zero j (z ∷ ys) blocks y made room is at =
      let new = set_at k z blocks in
      let n = set-count k z blocks in
      let same : j ≡ k = omega (arith, is) in
      ap (λ o. get_or (block_at (put_from m b (suc k) ys new) b).bytes o Undef) same
      ∙ put-before (suc k) k ys new (omega (arith, n, made)) (omega arith)
      ∙ set-here k z blocks made (omega (arith, room)) ∙ ap (initial_byte m) (Some-same z y at)
  put-here k (suc i) j (z ∷ ys) blocks y made room is at =
      let new = set_at k z blocks in
      let n = set-count k z blocks in
      let l = set-size k z blocks made in
      put-here (suc k) i j ys new y (omega (arith, n, made)) (omega (arith, l, room)) (omega (arith, is)) at

  put-other : (k c : ℕ) (bs : List InitByte) (blocks : List BlockView) → (c ≡ b → ⊥) → block_at (put_from m b k bs blocks) c ≡ block_at blocks c
  unfolding set_at
  put-other k c [] blocks apart = refl
  put-other k c (y ∷ ys) blocks apart =
      put-other (suc k) c ys (set_at k y blocks) apart ∙ block-other blocks b c (slice_set (block_at blocks b).bytes k (initial_byte m y)) apart

-- ---- one initial value

module _ (objects : List ObjectTree) (m : ObjectMemory) (i : Initial) (places : ArePlaces objects m) where
  places-at : (p : Option ℕ) → place_of m i.object ≡ p → ArePlaces objects (initial_at m p i.bytes)
  places-at None none = places
  places-at (Some c) here = record {
    made = λ x b at. let n = put-count m c 0 i.bytes m.blocks in let l = places.made x b at in omega (arith, n, l);
    own = places.own;
    size = λ x b at. elim (cases_eq b c) [
      | inl e ↦ subst (λ d. length (block_at (put_from m c 0 i.bytes m.blocks) d).bytes ≡ size_of objects x) (sym e)
          (put-size m c 0 i.bytes m.blocks (places.made i.object c here) ∙ ap (λ d. length (block_at m.blocks d).bytes) (sym e) ∙ places.size x b at)
      | inr apart ↦ ap (λ (v : BlockView). length v.bytes) (put-other m c 0 b i.bytes m.blocks apart) ∙ places.size x b at
    ];
  }

  places-after : ArePlaces objects (with_initial m i)
  places-after = places-at (place_of m i.object) refl

  module _ (grid : List Contents) (held : Contents) (long : length i.bytes ≡ size_of objects i.object) (none_held : held.cells ≡ []) (from : AreFrom i.bytes held.stretches)
      (old : AreBytesOf grid m) where
    old-cells : (o : ℕ) (c : Contents) → slice_get (slice_set grid i.object held) o ≡ Some c → c.cells ≡ []
    old-cells o c got = elim (cases_eq o i.object) [
      | inl e ↦ ap (λ (y : Contents). y.cells) (set-is grid i.object held c (ap (slice_get (slice_set grid i.object held)) (sym e) ∙ got)) ∙ none_held
      | inr apart ↦ old.cells o c (sym (get-set_other grid o i.object held apart) ∙ got)
    ]

    bytes-at : (p : Option ℕ) → place_of m i.object ≡ p → (o q : ℕ) (x : FillByte) (c : Contents) (b : ℕ) → slice_get (slice_set grid i.object held) o ≡ Some c
        → IsInStretch c.stretches q x → place_of m o ≡ Some b → HasByte (initial_at m p i.bytes) b q x
    bytes-at None none o q x c b got is at = elim (cases_eq o i.object) [
      | inl e ↦ (let clash : None ≡ Some b = sym none ∙ ap (place_of m) (sym e) ∙ at in cc)
      | inr apart ↦ old.bytes o q x c b (sym (get-set_other grid o i.object held apart) ∙ got) is at
    ]
    bytes-at (Some d) here o q x c b got is at = elim (cases_eq o i.object) [
      | inl e ↦
          let b_is : b ≡ d = Some-same b d (sym at ∙ ap (place_of m) e ∙ here) in
          let c_is : c ≡ held = set-is grid i.object held c (ap (slice_get (slice_set grid i.object held)) (sym e) ∙ got) in
          let made = places.made i.object d here in
          let n = from q x (subst (λ (y : Contents). IsInStretch y.stretches q x) c_is is) in
          let size = places.size i.object d here in
          let low = get-below i.bytes q (inits.Num n.0) n.1 in
          let all = put-size m d 0 i.bytes m.blocks made in
          subst (λ j. HasByte (with_blocks m (put_from m d 0 i.bytes m.blocks)) j q x) (sym b_is) (
            (omega (arith, low, long, size, all)),
            put-here m d 0 q q i.bytes m.blocks (inits.Num n.0) made (omega (arith, long, size)) (omega arith) n.1 ∙ ap filling (sym n.2),
          )
      | inr apart ↦
          let other : b ≡ d → ⊥ = λ e. apart (places.own o i.object b at (here ∙ ap Some (sym e))) in
          let was = old.bytes o q x c b (sym (get-set_other grid o i.object held apart) ∙ got) is at in
          subst (λ (v : BlockView). (q < length v.bytes) × (get_or v.bytes q Undef ≡ filling x)) (sym (put-other m d 0 b i.bytes m.blocks other)) was
    ]

    place-still : (p : Option ℕ) (o : ℕ) → place_of (initial_at m p i.bytes) o ≡ place_of m o
    place-still None o = refl
    place-still (Some d) o = refl

    bytes-after : AreBytesOf (slice_set grid i.object held) (with_initial m i)
    bytes-after = record {
      cells = old-cells;
      bytes = λ o q x c b got is at. bytes-at (place_of m i.object) refl o q x c b got is (sym (place-still (place_of m i.object) o) ∙ at);
    }

-- ---- all of them

pub initials-push : (m : ObjectMemory) (is : List Initial) (i : Initial) → with_initials m (is ++ i ∷ []) ≡ with_initial (with_initials m is) i
initials-push m [] i = refl
initials-push m (j ∷ is) i = initials-push (with_initial m j) is i

places-all : (objects : List ObjectTree) (is : List Initial) (m : ObjectMemory) → ArePlaces objects m → ArePlaces objects (with_initials m is)
places-all objects [] m places = places
places-all objects (i ∷ is) m places = places-all objects is (with_initial m i) (places-after objects m i places)

all-at : {X : Type 0} (P : X → Type 0) (xs : List X) (k : ℕ) (x : X) → All P xs → slice_get xs k ≡ Some x → P x
all-at P [] k x h at = cc
all-at P (y ∷ ys) zero x h at = subst P (Some-same y x at) (All-head P y ys h)
all-at P (y ∷ ys) (suc k) x h at = all-at P ys k x (All-tail P y ys h) at

-- one more
pub initial-more : (objects : List ObjectTree) (m : ObjectMemory) (is : List Initial) (i : Initial) (grid new : List Contents) (held : Contents) → ArePlaces objects m
    → length i.bytes ≡ size_of objects i.object → held.cells ≡ [] → AreFrom i.bytes held.stretches → new ≡ slice_set grid i.object held → AreBytesOf grid (with_initials m is)
    → AreBytesOf new (with_initials m (is ++ i ∷ []))
initial-more objects m is i grid new held places long none from put old =
    subst (λ g. AreBytesOf g (with_initials m (is ++ i ∷ []))) (sym put)
    (subst (AreBytesOf (slice_set grid i.object held)) (sym (initials-push m is i))
    (bytes-after objects (with_initials m is) i (places-all objects is m places) grid held long none from old))

-- as many bytes as the object has
pub long-as : (objects : List ObjectTree) (x n : ℕ) → IsSomeAnd (slice_get objects x) (λ (o : ObjectTree). n ≡ o.size) → n ≡ size_of objects x
long-as objects x n h = by (slice_get objects x) h
  where
    by : (o : Option ObjectTree) → IsSomeAnd o (λ (y : ObjectTree). n ≡ y.size) → n ≡ unwrap_or (option_map (λ (y : ObjectTree). y.size) o) 0
    by None g = absurd g
    by (Some y) g = g

-- ---- before any initial byte is put in

pub opened-places : (objects : List ObjectTree) → ArePlaces objects (opened_statics objects)
opened-places objects = let k = opened_kept objects in record {
  made = λ x b at. (k.placed x b at).made;
  own = λ x y b here there. sym (k.placed x b here).owner ∙ (k.placed y b there).owner;
  size = λ x b at.
      let p = k.placed x b at in
      let f = k.fits b p.made in
      let own : size_of objects x ≡ f.object.size = ap (size_of objects) (sym p.owner) ∙ ap (λ (o : Option ObjectTree). unwrap_or (option_map (λ (y : ObjectTree). y.size) o) 0) f.is in
      let long = f.size in
      omega (arith, own, long);
}

pub initials-long : (q : CsProgramTree) → All (IsFormedInitial q) q.initial → AreLong q.objects q.initial
initials-long q formed = All-weaker (IsFormedInitial q) (λ i. length i.bytes ≡ size_of q.objects i.object) (λ i f. long-as q.objects i.object (length i.bytes) f.size) q.initial formed

pub nothing-bytes : (n : ℕ) (grid : List Contents) (m : ObjectMemory) → grid ≡ replicate n nothing → AreBytesOf grid m
nothing-bytes n grid m is =
    let all : (o : ℕ) (c : Contents) → slice_get grid o ≡ Some c → c ≡ nothing = λ o c got. replicated n o nothing c (ap (λ g. slice_get g o) (sym is) ∙ got) in
    record {
      cells = λ o c got. ap (λ (y : Contents). y.cells) (all o c got);
      bytes = λ o i x c b got h at. has-none c.stretches h.stretch (ap (λ (y : Contents). y.stretches) (all o c got)) h.has;
    }

-- ---- as the code makes it

pub initial-next : (objects : List ObjectTree) (m : ObjectMemory) (is : List Initial) (k : ℕ) (i : Initial) (grid new : List Contents) (held : Contents) → ArePlaces objects m
    → AreLong objects is → slice_get is k ≡ Some i → held.cells ≡ [] → AreFrom i.bytes held.stretches → new ≡ slice_set grid i.object held
    → AreBytesOf grid (with_initials m (take k is)) → AreBytesOf new (with_initials m (take (k + 1) is))
initial-next objects m is k i grid new held places long at none from put old =
    subst (λ js. AreBytesOf new (with_initials m js)) (sym (take-push is k i at))
    (initial-more objects m (take k is) i grid new held places (all-at (λ j. length j.bytes ≡ size_of objects j.object) is k i long at) none from put old)
