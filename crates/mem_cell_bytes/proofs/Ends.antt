-- Objects end and begin, and bytes lose their values.
use Rattle.std.proofs.Common.{ℕ, ℤ, zero, suc, ◌≡◌, ◌≤◌, ◌<◌, ◌==◌, true, false, List, [], ◌∷◌, length, replicate, Some, None, refl, sym, ap, subst, ◌∙◌, arith, inl, inr, get_or}
use Rattle.std.proofs.lemmas.Bool.{cases_eq, cases_lt}
use Rattle.std.proofs.lemmas.Grind.{common_steps}
use Rattle.std.proofs.lemmas.List.{length-replicate, get_or-set_same, get_or-set_other, get_or_past}
use Rattle.c_syntax.specs.Types.{ObjectTree}
use Rattle.ext_int.specs.Valuation.{value_at}
use Rattle.pointsets.specs.declared.Base.TheVariants.{Object}
use Rattle.pointsets.specs.Targets.{BaseSet, has_base, has_name, killed}
use Rattle.pointsets.proofs.Bases.{killed-other, killed-here, killed-dead, killed-null}
use Rattle.pointsets.proofs.Names.{is-eq}
use Rattle.block_mem.specs.declared.types.Byte.{Byte}
use Rattle.block_mem.specs.declared.types.Byte.TheVariants.{Undef}
use Rattle.block_mem.specs.declared.types.Scalar.{Scalar}
use Rattle.block_mem.specs.declared.types.Value.{Value}
use Rattle.block_mem.specs.declared.types.Value.TheVariants as values
use Rattle.block_mem.specs.Block.{BlockView}
use Rattle.block_mem.specs.Blocks.{block_at, no_block, with_ended, with_undefined}
use Rattle.block_mem.specs.Proper.{IsMade}
use Rattle.block_mem.specs.Pieces.{get_bytes}
use Rattle.block_mem.proofs.Copies.{bytes-same, block-same, block-other}
use Rattle.c_values.specs.Places.{ObjectMemory, place_of, owner_of}
use Rattle.c_objects.specs.Kept.{KeepsObjects}
use Rattle.c_objects.specs.Opening.{shut, ended_at}
use Rattle.csharp.specs.States.{State}
use Rattle.mem_cell_bytes.specs.declared.entry.Entry.{Entry}
use Rattle.mem_cell_bytes.specs.Cells.{size_of, var_of, HasBlock, Points, Meets, bytes_in, filling}
use Rattle.mem_cell_bytes.specs.Stands.{Claims, Stands}
use Rattle.mem_cell_bytes.specs.Ends.{AreEnded, AreBlank}
use Rattle.mem_cell_bytes.proofs.Steps.{length-set, Some-same}

no-eq : (a b : ℕ) → (a ≡ b → ⊥) → (a == b) ≡ false
no-eq a b h = grind (arith, common_steps)

-- ---- one object ends

module _ (m : ObjectMemory) (x b : ℕ) (objects : List ObjectTree) (kept : KeepsObjects objects m) (here : place_of m x ≡ Some b) where
  made-here : b < length m.blocks
  made-here = (kept.placed x b here).made

  dead-now : (block_at (with_ended m.blocks b) b).live ≡ false
  dead-now = ap (λ (v : BlockView). v.live) (get_or-set_same m.blocks b (record (block_at m.blocks b) { live = false }) no_block made-here)

  other-now : (c : ℕ) → (c ≡ b → ⊥) → block_at (with_ended m.blocks b) c ≡ block_at m.blocks c
  other-now c h = get_or-set_other m.blocks b c (record (block_at m.blocks b) { live = false }) no_block h

  bytes-now : (c : ℕ) → (block_at (with_ended m.blocks b) c).bytes ≡ (block_at m.blocks c).bytes
  bytes-now c = elim (cases_eq c b) [
    | inl e ↦ ap (λ n. (block_at (with_ended m.blocks b) n).bytes) e
        ∙ ap (λ (v : BlockView). v.bytes) (get_or-set_same m.blocks b (record (block_at m.blocks b) { live = false }) no_block made-here)
        ∙ ap (λ n. (block_at m.blocks n).bytes) (sym e)
    | inr h ↦ ap (λ (v : BlockView). v.bytes) (other-now c h)
  ]

  -- a block that lived and is not the object's has another owner
  other-owner : (c : ℕ) → c < length m.blocks → (block_at m.blocks c).live ≡ true → (c ≡ b → ⊥) → has_name (x ∷ []) (owner_of m c) ≡ false
  other-owner c made live apart = rw (no-eq x (owner_of m c) (λ e. apart (Some-same c b (sym (kept.lives c made live) ∙ ap (place_of m) (sym e) ∙ here)))) refl

  alive-made : (c : ℕ) → (block_at m.blocks c).live ≡ true → c < length m.blocks
  alive-made c live = elim (cases_lt c (length m.blocks)) [
    | inl h ↦ h
    | inr h ↦ let none : false ≡ true = sym (ap (λ (v : BlockView). v.live) (get_or_past m.blocks c no_block h)) ∙ live in cc
  ]

  pub has-ended : (n : ObjectMemory) → n.blocks ≡ with_ended m.blocks b → n.owners ≡ m.owners → (set : BaseSet) (c : ℕ) → HasBlock m set c → HasBlock n (killed set (x ∷ [])) c
  has-ended n is own set c h = elim (cases_eq c b) [
    | inl e ↦
        let was : has_base set (Object x) ≡ true =
        ap (λ o. has_base set (Object o)) (sym (ap (owner_of m) e ∙ (kept.placed x b here).owner)) ∙ h.live (ap (λ j. (block_at m.blocks j).live) e ∙ (kept.placed x b here).live) in
        let gone : (block_at n.blocks c).live ≡ false = ap (λ bs. (block_at bs c).live) is ∙ ap (λ j. (block_at (with_ended m.blocks b) j).live) e ∙ dead-now in
        let name : has_name (x ∷ []) x ≡ true = rw (is-eq x x refl) refl in
        record {
          live = λ q. let no : false ≡ true = sym gone ∙ q in cc;
          dead = λ q. killed-here set (x ∷ []) x name was;
        }
    | inr apart ↦
        let same : (block_at n.blocks c).live ≡ (block_at m.blocks c).live = ap (λ bs. (block_at bs c).live) is ∙ ap (λ (v : BlockView). v.live) (other-now c apart) in
        let owner : owner_of n c ≡ owner_of m c = ap (λ os. get_or os c 0) own in
        record {
          live = λ q. let was = sym same ∙ q in
              subst (λ o. has_base (killed set (x ∷ [])) (Object o) ≡ true) (sym owner)
              (killed-other set (x ∷ []) (owner_of m c) (other-owner c (alive-made c was) was apart) (h.live was));
          dead = λ q. killed-dead set (x ∷ []) (h.dead (sym same ∙ q));
        }
  ]

-- what lives after an object ended is another, in the place that it had
other-place : (m : ObjectMemory) (x y b : ℕ) → (y ≡ x → ⊥) → place_of (shut m x) y ≡ Some b → place_of m y ≡ Some b
other-place m x y b apart h = sym (get_or-set_other m.places x y None None apart) ∙ h

points-ended : (m n : ObjectMemory) (x : ℕ) (set : BaseSet) (u : Value) → ((c : ℕ) → HasBlock m set c → HasBlock n (killed set (x ∷ [])) c) → Points m set u → Points n (killed set (x ∷ [])) u
points-ended m n x set (values.Int t i) f h = tt
points-ended m n x set (values.Ptr p) f h = f p.block h
points-ended m n x set values.Null f h = killed-null set (x ∷ []) h

meets-ended : (m n : ObjectMemory) (x : ℕ) (d : Entry) (bs : List Byte) (y : ℤ) → ((c : ℕ) → HasBlock m d.targets c → HasBlock n (killed d.targets (x ∷ [])) c)
    → Meets m d bs y → Meets n (record d { targets = killed d.targets (x ∷ []) }) bs y
meets-ended m n x d bs y f (inl blank) = inl (record { may = blank.may; are = blank.are })
meets-ended m n x d bs y f (inr (inl i)) = inr (inl (record { may = i.may; number = i.number; small = i.small; are = i.are; is = i.is }))
meets-ended m n x d bs y f (inr (inr p)) = inr (inr (record { pointer = p.pointer; eight = p.eight; are = p.are; may = f p.pointer.block p.may; is = p.is }))

module _ (objects : List ObjectTree) (types : List Scalar) (A : List ℤ → Type 0) (k k' : Claims) (s : State) (st : Stands objects types A k s) (x : ℕ) where
  -- an object that has a place ends
  pub ended-stands : (b : ℕ) → place_of s.memory x ≡ Some b → KeepsObjects objects (shut s.memory x) → AreEnded k k' x
      → Stands objects types A k' (record s { memory = shut s.memory x })
  ended-stands b here kept are =
      let blocks_are : (shut s.memory x).blocks ≡ with_ended s.memory.blocks b = ap (ended_at s.memory.blocks) here in
      let long : length (shut s.memory x).blocks ≡ length s.memory.blocks = ap length blocks_are ∙ length-set s.memory.blocks b (record (block_at s.memory.blocks b) { live = false }) in
      let law : (set : BaseSet) (c : ℕ) → HasBlock s.memory set c → HasBlock (shut s.memory x) (killed set (x ∷ [])) c = has-ended s.memory x b objects st.kept here (shut s.memory x) blocks_are refl in
      let bytes_are : (c : ℕ) → (block_at (shut s.memory x).blocks c).bytes ≡ (block_at s.memory.blocks c).bytes =
      λ c. ap (λ bs. (block_at bs c).bytes) blocks_are ∙ bytes-now s.memory x b objects st.kept here c in
      record {
        kept = kept;
        long = st.long;
        typed = λ d ty u is got. let t = st.typed d ty u is got in (t.0, subst (λ n. IsMade n u) (sym long) t.1);
        v = st.v;
        admitted = st.admitted;
        number = st.number;
        points = λ d set u has got. let r = are.pointer d set has in
            subst (λ t. Points (shut s.memory x) t u) (sym r.2)
            (points-ended s.memory (shut s.memory x) x r.0 u (law r.0) (st.points d r.0 u r.1 got));
        cell = λ o e c has h. let d = are.cell o e has in
            let was = st.cell o d.0 c d.1 (other-place s.memory x o c d.3 h) in
            subst (λ (q : Entry). Meets (shut s.memory x) q (bytes_in (shut s.memory x) c q) (value_at st.v (var_of o q))) (sym d.2)
            (subst (λ bs. Meets (shut s.memory x) (record d.0 { targets = killed d.0.targets (x ∷ []) }) (get_bytes bs d.0.offset (size_of d.0)) (value_at st.v (var_of o d.0))) (sym (bytes_are c))
            (meets-ended s.memory (shut s.memory x) x d.0 (bytes_in s.memory c d.0) (value_at st.v (var_of o d.0)) (law d.0.targets) was));
        byte = λ o q y c has h. let g = are.byte o q y has in let was = st.byte o q y c g.0 (other-place s.memory x o c g.1 h) in
            subst (λ bs. (q < length bs) × (get_or bs q Undef ≡ filling y)) (sym (bytes_are c)) was;
      }

-- ---- bytes lose their values

module _ (m : ObjectMemory) (c : ℕ) (made : c < length m.blocks) where
  blank-live : (b : ℕ) → (block_at (with_undefined m.blocks c) b).live ≡ (block_at m.blocks b).live
  blank-live b = elim (cases_eq b c) [
    | inl e ↦ subst (λ k. (block_at (with_undefined m.blocks c) k).live ≡ (block_at m.blocks k).live) (sym e) (ap (λ (v : BlockView). v.live) (block-same m.blocks c (replicate (length (block_at m.blocks c).bytes) Undef) made))
    | inr h ↦ ap (λ (v : BlockView). v.live) (block-other m.blocks c b (replicate (length (block_at m.blocks c).bytes) Undef) h)
  ]

  has-blank : (set : BaseSet) (b : ℕ) → HasBlock m set b → HasBlock (record m { blocks = with_undefined m.blocks c }) set b
  has-blank set b h = record { live = λ q. h.live (sym (blank-live b) ∙ q); dead = λ q. h.dead (sym (blank-live b) ∙ q) }

  points-blank : (set : BaseSet) (u : Value) → Points m set u → Points (record m { blocks = with_undefined m.blocks c }) set u
  points-blank set (values.Int t n) h = tt
  points-blank set (values.Ptr p) h = has-blank set p.block h
  points-blank set values.Null h = h

  meets-blank : (e : Entry) (bs : List Byte) (y : ℤ) → Meets m e bs y → Meets (record m { blocks = with_undefined m.blocks c }) e bs y
  meets-blank e bs y (inl b) = inl b
  meets-blank e bs y (inr (inl i)) = inr (inl i)
  meets-blank e bs y (inr (inr p)) = inr (inr (record { pointer = p.pointer; eight = p.eight; are = p.are; may = has-blank e.targets p.pointer.block p.may; is = p.is }))

get-replicate : (n q : ℕ) → get_or (replicate n Undef) q Undef ≡ Undef
get-replicate zero q = refl
get-replicate (suc n) zero = refl
get-replicate (suc n) (suc q) = get-replicate n q

module _ (objects : List ObjectTree) (types : List Scalar) (A : List ℤ → Type 0) (k k' : Claims) (s : State) (st : Stands objects types A k s) (x size : ℕ) where
  -- the bytes of an object lose their values
  pub blank-stands : (b : ℕ) → place_of s.memory x ≡ Some b → size ≤ length (block_at s.memory.blocks b).bytes → KeepsObjects objects (record s.memory { blocks = with_undefined s.memory.blocks b })
      → AreBlank k k' x size → Stands objects types A k' (record s { memory = record s.memory { blocks = with_undefined s.memory.blocks b } })
  blank-stands b here room kept are =
      let m = s.memory in let n : ObjectMemory = record m { blocks = with_undefined m.blocks b } in
      let made = (st.kept.placed x b here).made in
      let apart : (y c : ℕ) → place_of m y ≡ Some c → (y ≡ x → ⊥) → c ≡ b → ⊥ = λ y c h other e.
      other (sym (st.kept.placed y c h).owner ∙ ap (owner_of m) e ∙ (st.kept.placed x b here).owner) in
      let same : (c : ℕ) → (c ≡ b → ⊥) → (block_at n.blocks c).bytes ≡ (block_at m.blocks c).bytes = λ c h. ap (λ (v : BlockView). v.bytes) (block-other m.blocks b c (replicate (length (block_at m.blocks b).bytes) Undef) h) in
      record {
        kept = kept;
        long = st.long;
        typed = λ d ty u is got. let t = st.typed d ty u is got in
            (t.0, subst (λ i. IsMade i u) (sym (length-set m.blocks b (record (block_at m.blocks b) { bytes = replicate (length (block_at m.blocks b).bytes) Undef }))) t.1);
        v = st.v;
        admitted = st.admitted;
        number = st.number;
        points = λ d set u has got. points-blank m b made set u (st.points d set u (are.pointer d set has) got);
        cell = λ o e c has h. let old = are.cell o e has in
            subst (λ bs. Meets n e (get_bytes bs e.offset (size_of e)) (value_at st.v (var_of o e))) (sym (same c (apart o c h old.1)))
            (meets-blank m b made e (bytes_in m c e) (value_at st.v (var_of o e)) (st.cell o e c old.0 h));
        byte = λ o q y c has h. elim (are.byte o q y has) [
          | inl old ↦ subst (λ bs. (q < length bs) × (get_or bs q Undef ≡ filling y)) (sym (same c (apart o c h old.1))) (st.byte o q y c old.0 h)
          | inr new ↦
              let c_is : c ≡ b = Some-same c b (sym h ∙ ap (place_of m) new.0 ∙ here) in
              let is : (block_at n.blocks c).bytes ≡ replicate (length (block_at m.blocks b).bytes) Undef =
              ap (λ j. (block_at n.blocks j).bytes) c_is ∙ bytes-same m.blocks b (replicate (length (block_at m.blocks b).bytes) Undef) made in (
                subst (λ bs. q < length bs) (sym is) (let l = length-replicate (length (block_at m.blocks b).bytes) Undef in omega (arith, l, room, new.1)),
                ap (λ bs. get_or bs q Undef) is ∙ get-replicate (length (block_at m.blocks b).bytes) q ∙ ap filling (sym new.2),
              )
        ];
      }
