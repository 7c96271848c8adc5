-- What changes memory leaves it one of the same objects.
use Rattle.std.proofs.Common.{◌≡◌, ℕ, zero, suc, ◌+◌, ◌<◌, ◌≤◌, false, refl, sym, subst, ap, ◌∙◌, arith, List, [], ◌∷◌, ◌++◌, length, length-append, map}
use Rattle.std.proofs.Common.{length-set, Option, Some, None, inl, inr, ◌⊎◌}
use Rattle.std.specs.Prelude.{All, OnOk, Result, Ok, Err, option_map, unwrap_or, slice_get, slice_index_or, slice_set}
use Rattle.std.proofs.lemmas.Bool.{cases_eq, cases_lt}
use Rattle.std.proofs.lemmas.List.{get_or_append_left, get_or-set_same, get_or-set_other, set_past, length-map, length-replicate}
use Rattle.std.proofs.lemmas.List.Elements.{All-head, All-tail}
use Rattle.std.proofs.Math.Seq.{get_or-append_seam}
use Rattle.c_syntax.specs.declared.alarm.WrongKind.{WrongKind}
use Rattle.c_syntax.specs.Types.{ObjectTree}
use Rattle.block_mem.specs.declared.types.Byte.TheVariants.{Undef}
use Rattle.block_mem.specs.declared.types.Scalar.{Scalar}
use Rattle.block_mem.specs.declared.types.Value.{Value}
use Rattle.block_mem.specs.declared.types.Value.TheVariants as values
use Rattle.block_mem.specs.Block.{BlockView, new_block}
use Rattle.block_mem.specs.Blocks.{no_block, block_at, place, wrong_access}
use Rattle.block_mem.specs.Blocks as blocks
use Rattle.block_mem.specs.Bytes.{bytes_of, size_of}
use Rattle.block_mem.specs.Pieces.{taken}
use Rattle.block_mem.proofs.Laws.{length-stored}
use Rattle.c_values.specs.Memory.{Fits}
use Rattle.c_values.specs.Places.{ObjectMemory, place_of, owner_of}
use Rattle.c_objects.specs.Opening as opening
use Rattle.c_objects.specs.Opening.{opened, shut, shut_all, open_all, undefined, ended_at, is_read_only}
use Rattle.c_objects.specs.Writing.{stored_at, copied_at, unless_wrong, with_blocks}
use Rattle.csharp_state.specs.Belongs.{Belongs, Keeps}

-- ---- blocks that keep their marks and their sizes

pub record SameSizes (old new : List BlockView) : Type 0 where
  pub count : length new ≡ length old
  pub mark : (b : ℕ) → (block_at new b).read_only ≡ (block_at old b).read_only
  pub size : (b : ℕ) → length (block_at new b).bytes ≡ length (block_at old b).bytes

same_at : {A : Type 0} (f : BlockView → A) (m : List BlockView) (n : ℕ) (x : BlockView) → f x ≡ f (block_at m n) → (b : ℕ) → (b ≡ n) ⊎ (b ≡ n → ⊥)
    → (n < length m) ⊎ (length m ≤ n) → f (block_at (slice_set m n x) b) ≡ f (block_at m b)
same_at f m n x e b (inl here) (inl made) =
    ap (λ k. f (block_at (slice_set m n x) k)) here ∙ ap f (get_or-set_same m n x no_block made) ∙ e ∙ ap (λ k. f (block_at m k)) (sym here)
same_at f m n x e b (inl here) (inr past) = ap (λ l. f (block_at l b)) (set_past m n x past)
same_at f m n x e b (inr other) made = ap f (get_or-set_other m n b x no_block other)

pub set_sizes : (m : List BlockView) (n : ℕ) (x : BlockView) → x.read_only ≡ (block_at m n).read_only → length x.bytes ≡ length (block_at m n).bytes
    → SameSizes m (slice_set m n x)
set_sizes m n x mark size = record {
  count = length-set m n x;
  mark = λ b. same_at (λ (v : BlockView). v.read_only) m n x mark b (cases_eq b n) (cases_lt n (length m));
  size = λ b. same_at (λ (v : BlockView). length v.bytes) m n x size b (cases_eq b n) (cases_lt n (length m));
}

pub with_sizes : (objects : List ObjectTree) (m : ObjectMemory) (bs : List BlockView) → Belongs objects m → SameSizes m.blocks bs
    → Belongs objects (with_blocks m bs)
with_sizes objects m bs k s = record {
  owned = k.owned ∙ sym s.count;
  counted = k.counted;
  fits = λ b h. let f = k.fits b (subst (λ n. b < n) s.count h) in
      record { object = f.object; is = f.is; size = f.size ∙ sym (s.size b); mark = f.mark ∙ sym (s.mark b) };
}

-- ---- stores, copies, and bytes that lose their values

there : (w : Option WrongKind) (o : Option ObjectMemory) (n : ObjectMemory) → unless_wrong w o ≡ Some n → o ≡ Some n
there None o n e = e
there (Some k) o n e = absurd (cc)

pub belongs_stored : (ty : Scalar) (to v : Value) (old new : ObjectMemory) → stored_at old ty to v ≡ Some new → Keeps old new
belongs_stored ty (values.Int t k) v old new e = absurd (cc)
belongs_stored ty values.Null v old new e = absurd (cc)
belongs_stored ty (values.Ptr p) v old new e = λ objects k.
    let is = there (wrong_access old.blocks p (size_of ty) (size_of ty) false) (Some (with_blocks old (blocks.store old.blocks p v))) new e in
    let same : with_blocks old (blocks.store old.blocks p v) ≡ new = cc in
    subst (Belongs objects) same (with_sizes objects old (blocks.store old.blocks p v) k
    (set_sizes old.blocks p.block _ refl (length-stored (block_at old.blocks p.block).bytes (place p) (bytes_of v))))

pub belongs_copied : (to from : Value) (size : ℕ) (old new : ObjectMemory) → copied_at old to from size ≡ Some new → Keeps old new
belongs_copied (values.Int t k) from size old new e = absurd (cc)
belongs_copied values.Null from size old new e = absurd (cc)
belongs_copied (values.Ptr p) (values.Int t k) size old new e = absurd (cc)
belongs_copied (values.Ptr p) values.Null size old new e = absurd (cc)
belongs_copied (values.Ptr p) (values.Ptr q) size old new e = λ objects k.
    let after = blocks.copy old.blocks p q size in
    let first = there (wrong_access old.blocks q size 1 false) (unless_wrong (wrong_access old.blocks p size 1 false) (Some (with_blocks old after))) new e in
    let is = there (wrong_access old.blocks p size 1 false) (Some (with_blocks old after)) new first in
    let same : with_blocks old after ≡ new = cc in
    subst (Belongs objects) same (with_sizes objects old after k (set_sizes old.blocks p.block _ refl
    (length-stored (block_at old.blocks p.block).bytes (place p) (taken (block_at old.blocks q.block).bytes (place q) size))))

undefined_at : (old new : ObjectMemory) (o : Option ℕ) → option_map (λ b. record old { blocks = blocks.with_undefined old.blocks b }) o ≡ Some new
    → Keeps old new
undefined_at old new None e = absurd (cc)
undefined_at old new (Some b) e = λ objects k.
    let same : with_blocks old (blocks.with_undefined old.blocks b) ≡ new = cc in
    subst (Belongs objects) same (with_sizes objects old (blocks.with_undefined old.blocks b) k
    (set_sizes old.blocks b _ refl (length-replicate (length (block_at old.blocks b).bytes) Undef)))

pub belongs_undefined : (x : ℕ) (old new : ObjectMemory) → undefined old x ≡ Some new → Keeps old new
belongs_undefined x old new e = undefined_at old new (place_of old x) e

-- ---- objects that end

ended_sizes : (m : List BlockView) (o : Option ℕ) → SameSizes m (ended_at m o)
ended_sizes m None = record { count = refl; mark = λ b. refl; size = λ b. refl }
ended_sizes m (Some b) = set_sizes m b _ refl refl

pub belongs_shut : (objects : List ObjectTree) (m : ObjectMemory) (x : ℕ) → Belongs objects m → Belongs objects (shut m x)
belongs_shut objects m x k =
    let s = ended_sizes m.blocks (place_of m x) in
    let ended = with_sizes objects m (ended_at m.blocks (place_of m x)) k s in
    record {
      owned = ended.owned;
      counted = length-set m.places x None ∙ k.counted;
      fits = λ b h. let f = ended.fits b h in
          record { object = f.object; is = f.is; size = f.size; mark = f.mark };
    }

pub belongs_shut_all : (objects : List ObjectTree) (xs : List ℕ) (m : ObjectMemory) → Belongs objects m → Belongs objects (shut_all m xs)
belongs_shut_all objects [] m k = k
belongs_shut_all objects (x ∷ xs) m k = belongs_shut_all objects xs (shut m x) (belongs_shut objects m x k)

-- ---- objects that begin

some_object : (objects : List ObjectTree) (x : ℕ) → x < length objects → (o : ObjectTree) × (slice_get objects x ≡ Some o)
some_object [] x h = absurd (omega arith)
some_object (o ∷ os) zero h = (o, refl)
some_object (o ∷ os) (suc x) h = some_object os x (omega arith)

module _ (objects : List ObjectTree) (m : ObjectMemory) (x : ℕ) (k : Belongs objects m) (h : x < length objects) where
  block_old : (b : ℕ) → b < length m.blocks → block_at (opened objects m x).blocks b ≡ block_at m.blocks b
  block_old b l = get_or_append_left m.blocks (new_block (opening.size_of objects x) (is_read_only objects x) ∷ []) no_block b l

  block_new : block_at (opened objects m x).blocks (length m.blocks) ≡ new_block (opening.size_of objects x) (is_read_only objects x)
  block_new = get_or-append_seam m.blocks (new_block (opening.size_of objects x) (is_read_only objects x)) [] no_block

  owner_old : (b : ℕ) → b < length m.blocks → owner_of (opened objects m x) b ≡ owner_of m b
  owner_old b l = get_or_append_left m.owners (x ∷ []) 0 b (subst (λ n. b < n) (sym k.owned) l)

  owner_new : owner_of (opened objects m x) (length m.blocks) ≡ x
  owner_new = ap (λ n. slice_index_or (m.owners ++ x ∷ []) n 0) (sym k.owned) ∙ get_or-append_seam m.owners x [] 0

  count : length (opened objects m x).blocks ≡ length m.blocks + 1
  count = length-append m.blocks (new_block (opening.size_of objects x) (is_read_only objects x) ∷ [])

  fits_new : Fits objects (opened objects m x) (length m.blocks)
  fits_new =
      let o = some_object objects x h in
      let size : o.0.size ≡ opening.size_of objects x = ap (λ (p : Option ObjectTree). unwrap_or (option_map (λ object. object.size) p) 0) (sym o.1) in
      let mark : o.0.read_only ≡ is_read_only objects x = ap (λ (p : Option ObjectTree). unwrap_or (option_map (λ object. object.read_only) p) false) (sym o.1)
      in
      record {
        object = o.0;
        is = ap (slice_get objects) owner_new ∙ o.1;
        size = size ∙ sym (length-replicate (opening.size_of objects x) Undef) ∙ ap (λ (v : BlockView). length v.bytes) (sym block_new);
        mark = mark ∙ ap (λ (v : BlockView). v.read_only) (sym block_new);
      }

  fits_old : (b : ℕ) → b < length m.blocks → Fits objects (opened objects m x) b
  fits_old b l = let f = k.fits b l in record {
    object = f.object;
    is = ap (slice_get objects) (owner_old b l) ∙ f.is;
    size = f.size ∙ ap (λ (v : BlockView). length v.bytes) (sym (block_old b l));
    mark = f.mark ∙ ap (λ (v : BlockView). v.read_only) (sym (block_old b l));
  }

  fits_case : (b : ℕ) → b < length m.blocks + 1 → (b < length m.blocks) ⊎ (length m.blocks ≤ b) → Fits objects (opened objects m x) b
  fits_case b l (inl old) = fits_old b old
  fits_case b l (inr new) = let same : length m.blocks ≡ b = omega arith in subst (λ n. Fits objects (opened objects m x) n) same fits_new

  pub belongs_opened : Belongs objects (opened objects m x)
  belongs_opened = record {
    owned = length-append m.owners (x ∷ []) ∙ ap (λ n. n + 1) k.owned ∙ sym count;
    counted = length-set m.places x (Some (length m.blocks)) ∙ k.counted;
    fits = λ b l. fits_case b (subst (λ n. b < n) count l) (cases_lt b (length m.blocks));
  }

pub belongs_open_all : (objects : List ObjectTree) (xs : List ℕ) (m : ObjectMemory) → All (λ x. x < length objects) xs → Belongs objects m
    → Belongs objects (open_all objects m xs)
belongs_open_all objects [] m there k = k
belongs_open_all objects (x ∷ xs) m there k =
    belongs_open_all objects xs (opened objects m x) (All-tail (λ x. x < length objects) x xs there)
    (belongs_opened objects m x k (All-head (λ x. x < length objects) x xs there))

-- what follows where a call answered Ok
pub on_ok : {A E : Type 0} (r : Result A E) (P Q : Type 0) → (P → Q) → OnOk r P → OnOk r Q
on_ok (Ok a) P Q f p = f p
on_ok (Err e) P Q f p = p

pub keeps_at : (m n new : ObjectMemory) → m ≡ n → Keeps n new → Keeps m new
keeps_at m n new e k = subst (λ (x : ObjectMemory). Keeps x new) (sym e) k

pub all_there : {A B : Type 0} (f : A → B) (ys : List A) (xs : List ℕ) → All (λ x. x < length ys) xs → All (λ x. x < length (map f ys)) xs
all_there f ys xs h = subst (λ n. All (λ x. x < n) xs) (sym (length-map ys f)) h
