-- The machine follows the stores of what an initialiser leaves: they make each byte 0 that no item names.
use Rattle.std.proofs.Common.{◌≡◌, ℕ, zero, suc, pred, ◌+◌, ◌-◌, ◌%◌, ◌<◌, ◌≤◌, List, ◌∷◌, length, length-set, Option, Some, None, refl, sym, ◌∙◌, ap, subst, pos, arith, Bool, true, false}
use Rattle.std.specs.Prelude.{◌^◌, ◌==◌, ◌&&◌, not, nat_le, if◌then◌else◌, option_map, IsSome, IsSomeAnd, unwrap_or}
use Rattle.std.proofs.lemmas.Bool.{le-leb}
use Rattle.std.proofs.lemmas.Bool.Decides.{nat_tests}
use Rattle.c_syntax_written.specs.declared.int_type.IntType.TheVariants as ints
use Rattle.c_syntax.specs.declared.program.Plan.{Plan}
use Rattle.c_syntax.specs.TypedStmt.{TInitTree}
use Rattle.c_syntax.specs.Program.{TProgramTree}
use Rattle.c_layout.specs.WellTyped.{IsWellTyped}
use Rattle.block_mem.specs.declared.types.Scalar.{Scalar}
use Rattle.block_mem.specs.declared.types.Scalar.TheVariants as scalars
use Rattle.block_mem.specs.declared.types.Value.{Value}
use Rattle.block_mem.specs.Block.{BlockView}
use Rattle.block_mem.specs.Blocks.{block_at, store, wrong_access}
use Rattle.block_mem.specs.Bytes as bytes
use Rattle.block_mem.specs.Bytes.{bytes_of}
use Rattle.block_mem.proofs.Copies.{block-same}
use Rattle.block_mem.proofs.Laws.{length-stored}
use Rattle.c_values.specs.Memory as memory
use Rattle.c_values.specs.Places.{ObjectMemory, place_of, owner_of}
use Rattle.c_objects.specs.Opening.{size_of}
use Rattle.c_objects.specs.Kept.{IsFillable}
use Rattle.c_objects.specs.Writing.{with_blocks, zero_at, zero_byte, zeroed, is_named}
use Rattle.c_objects.proofs.Zeroed.{KeepsBlock}
use Rattle.c_steps.specs.Work.{Item, Rest}
use Rattle.c_steps.specs.States.{Held, state, Goes}
use Rattle.c_steps.specs.Steps.{step}
use Rattle.c_steps.specs.Runs.{calls_in}
use Rattle.c_steps_laws.specs.Fits.{Fits}
use Rattle.c_steps_laws.proofs.NeededRows.{needs}
use Rattle.csharp.specs.Trees as code
use Rattle.csharp.specs.Trees.{CsStmtTrees, none, more}
use Rattle.csharp.specs.States as low
use Rattle.csharp.specs.States.{value_of}
use Rattle.csharp.specs.Outcomes.{Outcome}
use Rattle.csharp.specs.Meaning.{items, later_by}
use Rattle.lower_trees.specs.Checking.{address_at}
use Rattle.lower_trees.specs.Zeros.{object_scalars, none_named, is_free, free_or_byte, zero_term, zero_cells}
use Rattle.lower_trees.specs.ZeroStores.{zero_value, zeros_up}
use Rattle.lower_trees.specs.LowerProgram.{lower}
use Rattle.lower_rows.proofs.Steps.{Follows, one}
use Rattle.lower_rows.proofs.Rows.{RestGoal, no_way, address_value}
use Rattle.lower_trees.proofs.ZeroBytes.{zeros_are_bytes}

-- ---- bytes that become 0 from one on, and up to one

abbrev zeroed_from : (ℕ → Bool) → ℕ → ℕ → ℕ → List BlockView → List BlockView
zeroed_from named b k zero m = m
zeroed_from named b k (suc n) m = zeroed_from named b (suc k) n (zero_byte named b k m)

zeroed_on : (named : ℕ → Bool) (b k n : ℕ) (m : List BlockView) → zeroed_from named b k n (zeroed named b k m) ≡ zeroed named b (k + n) m
zeroed_on named b k zero m = let e : k ≡ k + 0 = omega arith in ap (λ z. zeroed named b z m) e
zeroed_on named b k (suc n) m =
    let e : suc k + n ≡ k + suc n = omega arith in zeroed_on named b (suc k) n m ∙ ap (λ z. zeroed named b z m) e

front : (a c : Bool) → (a && c) ≡ true → a ≡ true
front true c e = refl
front false c e = absurd (cc)

back : (a c : Bool) → (a && c) ≡ true → c ≡ true
back true c e = e
back false c e = absurd (cc)

not_true : (c : Bool) → not c ≡ true → c ≡ false
not_true true e = absurd (cc)
not_true false e = refl

-- where none is named, the first ones are zeros one by one
free_zeros : (named : ℕ → Bool) (b k n r : ℕ) (m : List BlockView) → none_named named k n ≡ true → zeroed_from named b k (n + r) m ≡ zeroed_from named b (k + n) r (zeros_up b k n m)
free_zeros named b k zero r m h =
    let e : k ≡ k + 0 = omega arith in let f : 0 + r ≡ r = omega arith in
    ap (λ z. zeroed_from named b k z m) f ∙ ap (λ z. zeroed_from named b z r m) e
free_zeros named b k (suc n) r m h =
    let e : suc n + r ≡ n + suc r = omega arith in
    let f : suc (k + n) ≡ k + suc n = omega arith in
    let last : named (k + n) ≡ false = not_true (named (k + n)) (back (none_named named k n) (not (named (k + n))) h) in
    ap (λ z. zeroed_from named b k z m) e ∙ free_zeros named b k n (suc r) m (front (none_named named k n) (not (named (k + n))) h)
    ∙ ap (λ z. zeroed_from named b (suc (k + n)) r (if z then zeros_up b k n m else zero_at b (k + n) (zeros_up b k n m))) last
    ∙ ap (λ z. zeroed_from named b z r (zeros_up b k (suc n) m)) f

-- ---- stores

has_bytes : (ty : Scalar) → (n : ℕ) × (bytes.size_of ty ≡ suc n)
has_bytes (scalars.Int ints.Char) = (0, refl)
has_bytes (scalars.Int ints.SChar) = (0, refl)
has_bytes (scalars.Int ints.UChar) = (0, refl)
has_bytes (scalars.Int ints.Short) = (1, refl)
has_bytes (scalars.Int ints.UShort) = (1, refl)
has_bytes (scalars.Int ints.Int) = (3, refl)
has_bytes (scalars.Int ints.UInt) = (3, refl)
has_bytes (scalars.Int ints.Long) = (7, refl)
has_bytes (scalars.Int ints.ULong) = (7, refl)
has_bytes (scalars.Int ints.LLong) = (7, refl)
has_bytes (scalars.Int ints.ULLong) = (7, refl)
has_bytes scalars.Pointer = (7, refl)

zero_is : (ty : Scalar) (t : low.State) → value_of (zero_term ty) t ≡ Some (zero_value ty)
zero_is (scalars.Int u) t = refl
zero_is scalars.Pointer t = refl

-- what is chosen is free
record IsChosen (named : ℕ → Bool) (k left : ℕ) (ty : Scalar) : Type 0 where
  room : nat_le (bytes.size_of ty) left ≡ true
  aligned : (k % bytes.size_of ty == 0) ≡ true
  free : none_named named k (bytes.size_of ty) ≡ true

byte_chosen : (named : ℕ → Bool) (k left : ℕ) → named k ≡ false → IsChosen named k (suc left) (scalars.Int ints.UChar)
byte_chosen named k left h =
    let one : k % 1 ≡ 0 = omega arith in let e : k ≡ k + 0 = omega arith in
    record { room = le-leb 1 (suc left) (omega arith); aligned = rw one refl; free = subst (λ z. not (named z) ≡ true) e (rw h refl) }

if_chosen : (named : ℕ → Bool) (k left : ℕ) (ty : Scalar) (z : Bool) → is_free named k (suc left) ty ≡ z → named k ≡ false → IsChosen named k (suc left) (if z then ty else scalars.Int ints.UChar)
if_chosen named k left ty false e h = byte_chosen named k left h
if_chosen named k left ty true e h =
    let x = front (nat_le (bytes.size_of ty) (suc left) && (k % bytes.size_of ty == 0)) (none_named named k (bytes.size_of ty)) e in
    record {
      room = front (nat_le (bytes.size_of ty) (suc left)) (k % bytes.size_of ty == 0) x;
      aligned = back (nat_le (bytes.size_of ty) (suc left)) (k % bytes.size_of ty == 0) x;
      free = back (nat_le (bytes.size_of ty) (suc left) && (k % bytes.size_of ty == 0)) (none_named named k (bytes.size_of ty)) e;
    }

chosen : (named : ℕ → Bool) (k left : ℕ) (o : Option Scalar) → named k ≡ false → IsChosen named k (suc left) (free_or_byte named k (suc left) o)
chosen named k left None h = byte_chosen named k left h
chosen named k left (Some ty) h = if_chosen named k left ty (is_free named k (suc left) ty) refl h

-- a scalar that is inside a block that lives, at a multiple of its size, may be written
scalar_inside : (m : List BlockView) (b k n : ℕ) → (block_at m b).live ≡ true → k + n ≤ length (block_at m b).bytes → (k % n == 0) ≡ true
    → wrong_access m (record { block = b; offset = pos k }) n n false ≡ None
scalar_inside m b k n e h a =
    let fits : nat_le (k + n) (length (block_at m b).bytes) ≡ true = le-leb (k + n) (length (block_at m b).bytes) h in rw e (rw fits (rw a refl))

store_keeps : (m : List BlockView) (b k : ℕ) (v : Value) → b < length m → KeepsBlock b m (store m (record { block = b; offset = pos k }) v)
store_keeps m b k v h = record {
  count = length-set _ _ _;
  live = ap (λ (x : BlockView). x.live) (block-same m b _ h);
  size = ap (λ (x : BlockView). length x.bytes) (block-same m b _ h) ∙ length-stored (block_at m b).bytes k (bytes_of v);
}

-- an object has as many bytes as its block
size_is : (objects : _) (m : ObjectMemory) (x b : ℕ) → owner_of m b ≡ x → memory.Fits objects m b → size_of objects x ≡ length (block_at m.blocks b).bytes
size_is objects m x b e f = ap (λ y. size_of objects y) (sym e) ∙ ap (λ o. unwrap_or (option_map (λ object. object.size) o) 0) (f.is) ∙ f.size

-- the object of what is left lives
there : (x : ℕ) (inits : List TInitTree) (w : List Item) (s : List Held) (t : low.State) (o : Option ℕ) → place_of t.memory x ≡ o → IsFillable t.memory x → IsSome o
there x inits w s t None e h = absurd (subst (λ o. IsSomeAnd o (λ b. ((block_at t.memory.blocks b).live ≡ true) × (length (block_at t.memory.blocks b).bytes < 2 ^ 63))) e h)
there x inits w s t (Some b) e h = refl

module _ (over : ℕ → Bool) (p : TProgramTree) (plan : Plan) (n : ℕ) where
  abbrev all : CsStmtTrees → low.State → Outcome
  all is t = items over (lower p plan) (later_by over (lower p plan) n) None is t

  abbrev with_zeros : low.State → List BlockView → low.State
  with_zeros t m = record t { memory = with_blocks t.memory m }

  module _ (at : ℕ → Option Scalar) (named : ℕ → Bool) (x b : ℕ) where
    one_store : (k : ℕ) (ty : Scalar) (rest : CsStmtTrees) (t : low.State) → place_of t.memory x ≡ Some b → (block_at t.memory.blocks b).live ≡ true
        → k + bytes.size_of ty ≤ length (block_at t.memory.blocks b).bytes → (k % bytes.size_of ty == 0) ≡ true
        → all (more (code.Store ty (address_at x k) (zero_term ty)) rest) t ≡ all rest (with_zeros t (store t.memory.blocks (record { block = b; offset = pos k }) (zero_value ty)))
    one_store k ty rest t e live h a = rw (address_value x k t) (rw e (rw (zero_is ty t) (rw (scalar_inside t.memory.blocks b k (bytes.size_of ty) live h a) refl)))

    -- at a byte with which none is done yet
    cell : (z : Bool) (left k : ℕ) (rest : CsStmtTrees) (t : low.State) → named k ≡ z → place_of t.memory x ≡ Some b → b < length t.memory.blocks
        → (block_at t.memory.blocks b).live ≡ true → k + suc left ≤ length (block_at t.memory.blocks b).bytes
        → ((skip r : ℕ) (u : low.State) → left ≡ skip + r → place_of u.memory x ≡ Some b → b < length u.memory.blocks → (block_at u.memory.blocks b).live ≡ true
        → suc k + left ≤ length (block_at u.memory.blocks b).bytes → all (zero_cells at named x (suc k) skip left rest) u ≡ all rest (with_zeros u (zeroed_from named b (suc k + skip) r u.memory.blocks)))
        → all (if z then zero_cells at named x (suc k) zero left rest
        else more (code.Store (free_or_byte named k (suc left) (at k)) (address_at x k) (zero_term (free_or_byte named k (suc left) (at k))))
        (zero_cells at named x (suc k) (pred (bytes.size_of (free_or_byte named k (suc left) (at k)))) left rest)) t
        ≡ all rest (with_zeros t (zeroed_from named b k (suc left) t.memory.blocks))
    cell true left k rest t e pl made live h ih =
        let z : suc k + 0 ≡ suc k = omega arith in
        ih 0 left t (omega arith) pl made live (omega (arith, h))
        ∙ ap (λ y. all rest (with_zeros t (zeroed_from named b y left t.memory.blocks))) z
        ∙ ap (λ y. all rest (with_zeros t (zeroed_from named b (suc k) left (if y then t.memory.blocks else zero_at b k t.memory.blocks)))) (sym e)
    cell false left k rest t e pl made live h ih =
        let ty = free_or_byte named k (suc left) (at k) in
        let c = chosen named k left (at k) e in
        let w = has_bytes ty in
        let room = c.room in let fits : bytes.size_of ty ≤ suc left = grind (arith, nat_tests, room) in
        let r = left - w.0 in
        let m = store t.memory.blocks (record { block = b; offset = pos k }) (zero_value ty) in
        let keeps = store_keeps t.memory.blocks b k (zero_value ty) made in
        let is = w.1 in
        let cut : left ≡ pred (bytes.size_of ty) + r = rw is (omega (arith, fits, is)) in
        let sum : bytes.size_of ty + r ≡ suc left = omega (arith, fits, is) in
        let next : suc k + pred (bytes.size_of ty) ≡ k + bytes.size_of ty = rw is (omega arith) in
        one_store k ty (zero_cells at named x (suc k) (pred (bytes.size_of ty)) left rest) t pl live (omega (arith, h, fits)) c.aligned
        ∙ ih (pred (bytes.size_of ty)) r (with_zeros t m) cut pl (subst (λ z. b < z) (sym keeps.count) made) (keeps.live ∙ live) (let s = keeps.size in omega (arith, h, s))
        ∙ ap (λ y. all rest (with_zeros t (zeroed_from named b y r m))) next
        ∙ ap (λ y. all rest (with_zeros t (zeroed_from named b (k + bytes.size_of ty) r y))) (zeros_are_bytes t.memory.blocks b k ty made (omega (arith, h, fits)))
        ∙ ap (λ y. all rest (with_zeros t y)) (sym (free_zeros named b k (bytes.size_of ty) r t.memory.blocks c.free))
        ∙ ap (λ y. all rest (with_zeros t (zeroed_from named b k y t.memory.blocks))) sum

    pub cells : (left skip r k : ℕ) (rest : CsStmtTrees) (t : low.State) → left ≡ skip + r → place_of t.memory x ≡ Some b → b < length t.memory.blocks
        → (block_at t.memory.blocks b).live ≡ true → k + left ≤ length (block_at t.memory.blocks b).bytes
        → all (zero_cells at named x k skip left rest) t ≡ all rest (with_zeros t (zeroed_from named b (k + skip) r t.memory.blocks))
    cells zero zero zero k rest t e pl made live h = refl
    cells zero skip (suc r) k rest t e pl made live h = absurd (omega (arith, e))
    cells zero (suc skip) zero k rest t e pl made live h = absurd (omega (arith, e))
    cells (suc left) (suc skip) r k rest t e pl made live h =
        let z : suc k + skip ≡ k + suc skip = omega arith in
        cells left skip r (suc k) rest t (omega (arith, e)) pl made live (omega (arith, h)) ∙ ap (λ y. all rest (with_zeros t (zeroed_from named b y r t.memory.blocks))) z
    cells (suc left) zero r k rest t e pl made live h =
        let z : k ≡ k + 0 = omega arith in
        let y : suc left ≡ r = omega (arith, e) in
        cell (named k) left k rest t refl pl made live h (λ skip s u e' pl' made' live' h'. cells left skip s (suc k) rest u e' pl' made' live' h')
        ∙ ap (λ j. all rest (with_zeros t (zeroed_from named b j (suc left) t.memory.blocks))) z
        ∙ ap (λ j. all rest (with_zeros t (zeroed_from named b (k + 0) j t.memory.blocks))) y

  -- what is left of an initialiser: one step of the machine, and its stores
  module _ (ok : IsWellTyped p) where
    rest_step_is : (x : ℕ) (inits : List TInitTree) (w : List Item) (s : List Held) (t : low.State) (b : ℕ) → place_of t.memory x ≡ Some b
        → step p (state (Rest x inits ∷ w) s t.memory t.inputs)
        ≡ Goes (state w s (with_blocks t.memory (zeroed (is_named inits) b (length (block_at t.memory.blocks b).bytes) t.memory.blocks)) t.inputs)
    rest_step_is x inits w s t b e = rw e refl

    rest_case : (x : ℕ) (inits : List TInitTree) (w : List Item) (s : List Held) (t : low.State) (o : Option ℕ) → place_of t.memory x ≡ o → IsSome o
        → Fits p (state (Rest x inits ∷ w) s t.memory t.inputs)
        → Follows over p n (state (Rest x inits ∷ w) s t.memory t.inputs) (calls_in w) (RestGoal w s) no_way
        (all (zero_cells (object_scalars p x) (is_named inits) x 0 0 (size_of p.objects x) none) t)
    rest_case x inits w s t None e h fits = absurd (cc)
    rest_case x inits w s t (Some b) e h fits =
        let placed = fits.kept.placed x b e in
        let whole = fits.kept.fits b placed.made in
        let size = size_is p.objects t.memory x b placed.owner whole in
        let count = length (block_at t.memory.blocks b).bytes in
        let all_zero = zeroed_on (is_named inits) b 0 count t.memory.blocks in
        let z : 0 + count ≡ count = omega arith in
        rw size (rw (cells (object_scalars p x) (is_named inits) x b count 0 count 0 none t (omega arith) e placed.made placed.live (omega arith)) (
          state w s (with_blocks t.memory (zeroed (is_named inits) b count t.memory.blocks)) t.inputs,
          one p _ _ (rest_step_is x inits w s t b e),
          ap (λ y. state w s (with_blocks t.memory y) t.inputs) (sym (all_zero ∙ ap (λ y. zeroed (is_named inits) b y t.memory.blocks) z)),
        ))

    pub rest_follows : (x : ℕ) (inits : List TInitTree) (w : List Item) (s : List Held) (t : low.State) → Fits p (state (Rest x inits ∷ w) s t.memory t.inputs)
        → Follows over p n (state (Rest x inits ∷ w) s t.memory t.inputs) (calls_in w) (RestGoal w s) no_way
        (all (zero_cells (object_scalars p x) (is_named inits) x 0 0 (size_of p.objects x) none) t)
    rest_follows x inits w s t fits = rest_case x inits w s t (place_of t.memory x) refl (there x inits w s t (place_of t.memory x) refl (needs ok fits)) fits
