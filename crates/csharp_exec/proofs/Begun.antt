-- The memory at the start is one of the program's objects, and what `start` asks of initial values.
use Rattle.std.proofs.Common.{rules, ◌≡◌, ℕ, suc, ◌+◌, ◌<◌, ◌≤◌, refl, sym, subst, ap, ◌∙◌, arith, List, [], ◌∷◌, length, length-set, get_or, drop, Option, Some, None}
use Rattle.std.specs.Prelude.{All, IfSome, IsSome, IsSomeAnd, IsTrue, option_map, slice_get, slice_index_or, pos}
use Rattle.std.proofs.Math.Seq.{drop-cons}
use Rattle.std.proofs.lemmas.List.{drop_all}
use Rattle.std.proofs.lemmas.List.Elements.{All-nil, All-cons}
use Rattle.c_syntax.specs.Types.{ObjectTree}
use Rattle.c_syntax.specs.declared.program.InitByte.{InitByte}
use Rattle.c_syntax.specs.declared.program.Initial.{Initial}
use Rattle.block_mem.specs.Block.{BlockView}
use Rattle.block_mem.specs.Blocks.{block_at, set_byte}
use Rattle.c_values.specs.Places.{ObjectMemory, place_of}
use Rattle.c_objects.specs.Statics.{initial_at, initial_byte, opened_statics, put_from, start, with_initial, with_initials}
use Rattle.c_objects.proofs.Beginning.{opened_kept, static_placed}
use Rattle.csharp_state.specs.Belongs.{Belongs}
use Rattle.csharp_state.proofs.Belonging.{SameSizes, set_sizes, with_sizes}

then_sizes : (a b c : List BlockView) → SameSizes a b → SameSizes b c → SameSizes a c
then_sizes a b c s t = record { count = t.count ∙ s.count; mark = λ n. t.mark n ∙ s.mark n; size = λ n. t.size n ∙ s.size n }

put_sizes : (m : ObjectMemory) (b k : ℕ) (bs : List InitByte) (blocks : List BlockView) → SameSizes blocks (put_from m b k bs blocks)
put_sizes m b k [] blocks = record { count = refl; mark = λ n. refl; size = λ n. refl }
put_sizes m b k (y ∷ ys) blocks =
    let next = set_byte blocks (record { block = b; offset = pos k }) (initial_byte m y) in
    let one : SameSizes blocks next = set_sizes blocks b _ refl (length-set (block_at blocks b).bytes k (initial_byte m y)) in
    then_sizes blocks next (put_from m b (suc k) ys next) one (put_sizes m b (suc k) ys next)

initial_at_belongs : (objects : List ObjectTree) (m : ObjectMemory) (o : Option ℕ) (bs : List InitByte) → Belongs objects m → Belongs objects (initial_at m o bs)
initial_at_belongs objects m None bs k = k
initial_at_belongs objects m (Some b) bs k = with_sizes objects m (put_from m b 0 bs m.blocks) k (put_sizes m b 0 bs m.blocks)

all_belong : (objects : List ObjectTree) (is : List Initial) (m : ObjectMemory) → Belongs objects m → Belongs objects (with_initials m is)
all_belong objects [] m k = k
all_belong objects (i ∷ is) m k = all_belong objects is (with_initial m i) (initial_at_belongs objects m (place_of m i.object) i.bytes k)

pub begins : (objects : List ObjectTree) (is : List Initial) → Belongs objects (start objects is)
begins objects is =
    let k = opened_kept objects in
    all_belong objects is (opened_statics objects) (record { owned = k.owned; counted = k.counted; fits = k.fits })

-- ---- initial values

at_block : (objects : List ObjectTree) (x n : ℕ) (object : ObjectTree) (o : Option ℕ) → place_of (opened_statics objects) x ≡ o
    → slice_get objects x ≡ Some object → n ≤ object.size → IfSome o (λ b. n ≤ length (block_at (opened_statics objects).blocks b).bytes)
at_block objects x n object None e is h = tt
at_block objects x n object (Some b) e is h =
    let k = opened_kept objects in
    let p = k.placed x b e in
    let f = k.fits b p.made in
    let same : f.object ≡ object = let at : Some f.object ≡ Some object = sym f.is ∙ ap (slice_get objects) p.owner ∙ is in cc in
    let sizes : object.size ≡ length (block_at (opened_statics objects).blocks b).bytes = ap (λ (v : ObjectTree). v.size) (sym same) ∙ f.size in
    omega (arith, sizes, h)

sized : (objects : List ObjectTree) (x n size : ℕ) (o : Option ObjectTree) → slice_get objects x ≡ o → Some size ≡ option_map (λ object. object.size) o
    → n ≤ size → IfSome (place_of (opened_statics objects) x) (λ b. n ≤ length (block_at (opened_statics objects).blocks b).bytes)
sized objects x n size None is e h = absurd (cc)
sized objects x n size (Some object) is e h =
    let same : size ≡ object.size = cc in
    at_block objects x n object (place_of (opened_statics objects) x) refl is (omega (arith, same, h))

-- the bytes are no more than the block of an object of this size has
pub fits_block : (objects : List ObjectTree) (x n size : ℕ) → Some size ≡ option_map (λ object. object.size) (slice_get objects x) → n ≤ size
    → IfSome (place_of (opened_statics objects) x) (λ b. n ≤ length (block_at (opened_statics objects).blocks b).bytes)
fits_block objects x n size e h = sized objects x n size (slice_get objects x) refl e h

there : (o : Option ℕ) (b : ℕ) → o ≡ Some b → IsSome o
there None b e = absurd (cc)
there (Some c) b e = search rules

pub has_place : (objects : List ObjectTree) (x : ℕ) → IsSomeAnd (slice_get objects x) (λ o. IsTrue o.is_static)
    → IsSome (slice_index_or (opened_statics objects).places x None)
has_place objects x h = let p = static_placed objects x h in there (place_of (opened_statics objects) x) p.0 p.1

-- one item more of which something holds
pub one_more : {A : Type 0} (P : A → Type 0) (xs : List A) (i : ℕ) (x : A) → i < length xs → x ≡ get_or xs i x → P x
    → (All P (drop i xs) → All P xs) → All P (drop (i + 1) xs) → All P xs
one_more P xs i x h e p so rest =
    let next : suc i ≡ i + 1 = omega arith in
    so (subst (All P) (sym (drop-cons xs i x h)) (subst (λ y. All P (y ∷ drop (suc i) xs)) e
    (All-cons P x (drop (suc i) xs) p (subst (λ n. All P (drop n xs)) (sym next) rest))))

pub none_left : {A : Type 0} (P : A → Type 0) (xs : List A) (i : ℕ) → length xs ≤ i → (All P (drop i xs) → All P xs) → All P xs
none_left P xs i h so = so (subst (All P) (sym (drop_all i xs h)) (All-nil P))
