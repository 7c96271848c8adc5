-- An object begins to live, with no value.
use Rattle.std.proofs.Common.{ℕ, ℤ, zero, suc, ◌≡◌, ◌+◌, ◌≤◌, ◌<◌, true, List, [], ◌∷◌, length, slice_get, replicate, Some, None, refl, sym, ap, subst, ◌∙◌, arith, inl, inr, get_or}
use Rattle.std.proofs.lemmas.List.{length-replicate, length-append, get_or-set_same, get_or-set_other, get_or_append_left}
use Rattle.std.proofs.Math.Seq.{get_or-append_seam}
use Rattle.c_syntax.specs.Types.{ObjectTree}
use Rattle.ext_int.specs.Valuation.{value_at}
use Rattle.pointsets.specs.declared.Base.TheVariants.{Object}
use Rattle.pointsets.specs.Targets.{BaseSet, has_base}
use Rattle.block_mem.specs.declared.types.Byte.{Byte}
use Rattle.block_mem.specs.declared.types.Byte.TheVariants.{Undef, Frag}
use Rattle.block_mem.specs.declared.types.Pointer.{Pointer}
use Rattle.block_mem.specs.declared.types.Scalar.{Scalar}
use Rattle.block_mem.specs.declared.types.Value.{Value}
use Rattle.block_mem.specs.declared.types.Value.TheVariants as values
use Rattle.block_mem.specs.Block.{BlockView, new_block}
use Rattle.block_mem.specs.Blocks.{block_at, no_block}
use Rattle.block_mem.specs.Proper.{IsMade, IsProper}
use Rattle.block_mem.specs.Pieces.{get_bytes, pieces}
use Rattle.c_values.specs.Places.{ObjectMemory, place_of, owner_of}
use Rattle.c_objects.specs.Kept.{KeepsObjects}
use Rattle.c_objects.specs.Opening.{opened, size_of as object_size, is_read_only}
use Rattle.csharp.specs.States.{State}
use Rattle.mem_cell_bytes.specs.declared.entry.Entry.{Entry}
use Rattle.mem_cell_bytes.specs.Cells.{size_of, var_of, HasBlock, Points, Meets, bytes_in, filling}
use Rattle.mem_cell_bytes.specs.Stands.{Claims, Stands}
use Rattle.mem_cell_bytes.specs.Ends.{AreBlank}
use Rattle.mem_cell_bytes.proofs.Steps.{Some-same}

first-piece : (bs : List Byte) (off : ℕ) (p : Pointer) → get_bytes bs off 8 ≡ pieces p 0 8 → get_or bs off Undef ≡ Frag p 0
unfolding pieces
first-piece [] zero p h = cc
first-piece [] (suc off) p h = cc
first-piece (b ∷ bs) zero p h = cc
first-piece (b ∷ bs) (suc off) p h = first-piece bs off p h

made-more : (u : Value) (i j : ℕ) → i ≤ j → IsMade i u → IsMade j u
made-more (values.Int t n) i j l h = tt
made-more (values.Ptr p) i j l h = omega (arith, l, h)
made-more values.Null i j l h = tt

some-at : {X Y : Type 0} (xs : List X) (ys : List Y) (i : ℕ) (x : X) → length xs ≡ length ys → slice_get xs i ≡ Some x → (y : Y) × (slice_get ys i ≡ Some y)
some-at [] ys i x l h = cc
some-at (x' ∷ xs) [] i x l h = absurd (omega (arith, l))
some-at (x' ∷ xs) (y ∷ ys) zero x l h = (y, refl)
some-at (x' ∷ xs) (y ∷ ys) (suc i) x l h = some-at xs ys i x (omega (arith, l)) h

get-replicate : (n q : ℕ) → get_or (replicate n Undef) q Undef ≡ Undef
get-replicate zero q = refl
get-replicate (suc n) zero = refl
get-replicate (suc n) (suc q) = get-replicate n q

module _ (objects : List ObjectTree) (m : ObjectMemory) (x : ℕ) (kept : KeepsObjects objects m) where
  block_old : (b : ℕ) → b < length m.blocks → block_at (opened objects m x).blocks b ≡ block_at m.blocks b
  block_old b h = get_or_append_left m.blocks (new_block (object_size objects x) (is_read_only objects x) ∷ []) no_block b h

  block_new : block_at (opened objects m x).blocks (length m.blocks) ≡ new_block (object_size objects x) (is_read_only objects x)
  block_new = get_or-append_seam m.blocks (new_block (object_size objects x) (is_read_only objects x)) [] no_block

  owner_old : (b : ℕ) → b < length m.blocks → owner_of (opened objects m x) b ≡ owner_of m b
  owner_old b h = get_or_append_left m.owners (x ∷ []) 0 b (subst (λ n. b < n) (sym kept.owned) h)

  count : length (opened objects m x).blocks ≡ length m.blocks + 1
  count = length-append m.blocks (new_block (object_size objects x) (is_read_only objects x) ∷ [])

  has-opened : (set : BaseSet) (b : ℕ) → b < length m.blocks → HasBlock m set b → HasBlock (opened objects m x) set b
  has-opened set b made h =
      let live : (block_at (opened objects m x).blocks b).live ≡ (block_at m.blocks b).live = ap (λ (v : BlockView). v.live) (block_old b made) in
      record {
        live = λ q. subst (λ o. has_base set (Object o) ≡ true) (sym (owner_old b made)) (h.live (sym live ∙ q));
        dead = λ q. h.dead (sym live ∙ q);
      }

  points-opened : (set : BaseSet) (u : Value) → IsMade (length m.blocks) u → Points m set u → Points (opened objects m x) set u
  points-opened set (values.Int t n) made h = tt
  points-opened set (values.Ptr p) made h = has-opened set p.block made h
  points-opened set values.Null made h = h

  meets-opened : (e : Entry) (b : ℕ) (y : ℤ) → Meets m e (bytes_in m b e) y → Meets (opened objects m x) e (bytes_in m b e) y
  meets-opened e b y (inl blank) = inl blank
  meets-opened e b y (inr (inl i)) = inr (inl i)
  meets-opened e b y (inr (inr p)) =
      let bs = (block_at m.blocks b).bytes in
      let piece : get_or bs e.offset Undef ≡ Frag p.pointer 0 = first-piece bs e.offset p.pointer (ap (get_bytes bs e.offset) (sym p.eight) ∙ p.are) in
      let made : p.pointer.block < length m.blocks = subst (IsProper (length m.blocks)) piece (kept.proper b e.offset) in
      inr (inr (record { pointer = p.pointer; eight = p.eight; are = p.are; may = has-opened e.targets p.pointer.block made p.may; is = p.is }))

module _ (objects : List ObjectTree) (types : List Scalar) (A : List ℤ → Type 0) (k k' : Claims) (s : State) (st : Stands objects types A k s) (x size : ℕ) where
  pub opened-stands : x < length objects → size ≤ object_size objects x → KeepsObjects objects (opened objects s.memory x) → AreBlank k k' x size
      → Stands objects types A k' (record s { memory = opened objects s.memory x })
  opened-stands there room kept are =
      let m = s.memory in let n = opened objects s.memory x in
      let other : (y b : ℕ) → (y ≡ x → ⊥) → place_of n y ≡ Some b → place_of m y ≡ Some b = λ y b apart h. sym (get_or-set_other m.places x y (Some (length m.blocks)) None apart) ∙ h in
      record {
        kept = kept;
        long = st.long;
        typed = λ d ty u is got. let t = st.typed d ty u is got in
            (t.0, let c = count objects m x st.kept in made-more u (length m.blocks) (length n.blocks) (omega (arith, c)) t.1);
        v = st.v;
        admitted = st.admitted;
        number = st.number;
        points = λ d set u has got.
            let ty = some-at s.temps types d u st.long got in
            points-opened objects m x st.kept set u (st.typed d ty.0 u ty.1 got).1 (st.points d set u (are.pointer d set has) got);
        cell = λ o e b has h. let old = are.cell o e has in
            let at = other o b old.1 h in
            subst (λ bs. Meets n e (get_bytes bs e.offset (size_of e)) (value_at st.v (var_of o e)))
            (sym (ap (λ (v : BlockView). v.bytes) (block_old objects m x st.kept b (st.kept.placed o b at).made)))
            (meets-opened objects m x st.kept e b (value_at st.v (var_of o e)) (st.cell o e b old.0 at));
        byte = λ o q y b has h. elim (are.byte o q y has) [
          | inl old ↦
              let at = other o b old.1 h in
              subst (λ bs. (q < length bs) × (get_or bs q Undef ≡ filling y)) (sym (ap (λ (v : BlockView). v.bytes) (block_old objects m x st.kept b (st.kept.placed o b at).made))) (st.byte o q y b old.0 at)
          | inr new ↦
              let placed : place_of n x ≡ Some (length m.blocks) = get_or-set_same m.places x (Some (length m.blocks)) None (subst (λ i. x < i) (sym st.kept.counted) there) in
              let b_is : b ≡ length m.blocks = Some-same b (length m.blocks) (sym h ∙ ap (place_of n) new.0 ∙ placed) in
              let is : (block_at n.blocks b).bytes ≡ replicate (object_size objects x) Undef =
              ap (λ j. (block_at n.blocks j).bytes) b_is ∙ ap (λ (v : BlockView). v.bytes) (block_new objects m x st.kept) in (
                subst (λ bs. q < length bs) (sym is) (let l = length-replicate (object_size objects x) Undef in omega (arith, l, room, new.1)),
                ap (λ bs. get_or bs q Undef) is ∙ get-replicate (object_size objects x) q ∙ ap filling (sym new.2),
              )
        ];
      }
