-- What is read of the first state is no wider than the plain run's first state.
use Rattle.std.proofs.Common.{◌≡◌, ℕ, ℤ, zero, suc, ◌+◌, ◌≤◌, arith, refl, sym, subst, ap, ◌∙◌, Bool, true, false, List, [], ◌∷◌, length, replicate, Option, Some, None, Result, Ok, Err}
use Rattle.std.specs.Prelude.{IsTrue, if◌then◌else◌, not, ◌&&◌, option_map, option_and_then, slice_get}
use Rattle.std.proofs.lemmas.Bool.{and_parts, eqb-true, le-leb}
use Rattle.std.proofs.lemmas.Option.{slice_get_past}
use Rattle.c_syntax_written.specs.declared.int_type.IntType.{IntType}
use Rattle.c_syntax_written.specs.declared.int_type.IntType.TheVariants as ints
use Rattle.c_syntax_written.specs.Integer.{bytes}
use Rattle.c_syntax.specs.declared.alarm.WrongKind.{WrongKind}
use Rattle.c_syntax.specs.declared.alarm.WrongKind.TheVariants as kinds
use Rattle.c_syntax.specs.Types.{ObjectTree, CTypeTree, Int}
use Rattle.c_syntax.specs.Types as types
use Rattle.block_mem.specs.declared.types.Scalar.TheVariants as scalars
use Rattle.block_mem.specs.declared.types.Value.{Value}
use Rattle.block_mem.specs.declared.types.Value.TheVariants as values
use Rattle.block_mem.specs.Block.{is_inside, is_aligned}
use Rattle.block_mem.specs.Blocks.{block_at, wrong_access, after_access, bytes_at, loaded, load}
use Rattle.block_mem.specs.Bytes.{size_of}
use Rattle.block_mem.specs.Proper.{IsMade}
use Rattle.c_syntax.specs.declared.alarm.Spot.{Spot}
use Rattle.c_values.specs.declared.values.Wrong.{Wrong}
use Rattle.c_values.specs.Accesses.{ok_of, load_at, loaded_value}
use Rattle.c_values.specs.Answers.{Answers}
use Rattle.c_values.proofs.Accesses.{loads}
use Rattle.c_values.specs.Memory.{load_outcome}
use Rattle.c_values.specs.Places.{ObjectMemory, place_of, spot_at}
use Rattle.c_objects.specs.Kept.{AllFit, FitsAt}
use Rattle.c_objects.specs.Opening.{address}
use Rattle.num_api.specs.Spans.{point, range_of}
use Rattle.num_api.proofs.Parts.{as_wide}
use Rattle.csharp.specs.Trees.{CsProgramTree}
use Rattle.csharp.specs.States.{first}
use Rattle.csharp.specs.Actions.{loaded_at}
use Rattle.plain_runs.specs.States.{Cell, plain_first}
use Rattle.plain_runs.specs.States as plain_states
use Rattle.mem_temps.proofs.Ranged.{map_some}
use Rattle.mem_objects.specs.declared.cells.KnownCell.{KnownCell}
use Rattle.mem_objects.specs.Cells.{cell_of, number_loaded, read_number, number_cell, read_cell, read_at}
use Rattle.mem_objects.specs.Known.{KeepsPlaces, start_of}
use Rattle.mem_objects.specs.Under.{IsUnderCell, AreUnder, has_own_size, have_own_sizes}
use Rattle.mem_objects.proofs.Places.{places_start}

-- ---- a load of a whole object passes

size_is : (t : IntType) → bytes t ≡ size_of (scalars.Int t)
size_is ints.Char = refl
size_is ints.SChar = refl
size_is ints.UChar = refl
size_is ints.Short = refl
size_is ints.UShort = refl
size_is ints.Int = refl
size_is ints.UInt = refl
size_is ints.Long = refl
size_is ints.ULong = refl
size_is ints.LLong = refl
size_is ints.ULLong = refl

aligned_is : (t : IntType) → is_aligned (Some 0) (size_of (scalars.Int t)) ≡ true
aligned_is ints.Char = refl
aligned_is ints.SChar = refl
aligned_is ints.UChar = refl
aligned_is ints.Short = refl
aligned_is ints.UShort = refl
aligned_is ints.Int = refl
aligned_is ints.UInt = refl
aligned_is ints.Long = refl
aligned_is ints.ULong = refl
aligned_is ints.LLong = refl
aligned_is ints.ULLong = refl

nothing_wrong : (live inside aligned read_only : Bool) → live ≡ true → inside ≡ true → aligned ≡ true
    → (if not live then Some kinds.Dangling else if not inside then Some kinds.Access else if not aligned then Some kinds.Alignment else
    if false && read_only then Some kinds.ReadOnly else None) ≡ None
nothing_wrong true true true read_only e f g = refl
nothing_wrong true true false read_only e f g = absurd (cc)
nothing_wrong true false aligned read_only e f g = absurd (cc)
nothing_wrong false inside aligned read_only e f g = absurd (cc)

module _ (objects : List ObjectTree) (m : ObjectMemory) (k : KeepsPlaces objects m) (fits : AllFit objects m) (x : ℕ) (object : ObjectTree)
    (is : slice_get objects x ≡ Some object) (t : IntType) (size : object.size ≡ bytes t) where
  -- an access to all of the object
  access_passes : (b : ℕ) → place_of m x ≡ Some b → wrong_access m.blocks (start_of b) (size_of (scalars.Int t)) (size_of (scalars.Int t)) false ≡ None
  access_passes b p =
      let at = k.owned.placed x b p in
      let f = fits b at.made in
      let both : Some f.object ≡ Some object = sym f.is ∙ ap (slice_get objects) at.owner ∙ is in
      let same : f.object ≡ object = cc in
      let own : length (block_at m.blocks b).bytes ≡ size_of (scalars.Int t) = sym f.size ∙ ap (λ (o : ObjectTree). o.size) same ∙ size ∙ size_is t in
      nothing_wrong (block_at m.blocks b).live (is_inside (Some 0) (size_of (scalars.Int t)) (length (block_at m.blocks b).bytes))
      (is_aligned (Some 0) (size_of (scalars.Int t))) (block_at m.blocks b).read_only at.live
      (le-leb (0 + size_of (scalars.Int t)) (length (block_at m.blocks b).bytes) (omega (arith, own))) (aligned_is t)

  -- what stands in the object is loaded
  loaded_whole : (v : Value) → option_and_then (loaded_value m (Some (scalars.Int t))) (address m x 0) ≡ Some v
      → option_and_then (loaded_at m (scalars.Int t)) (address m x 0) ≡ Some v
  loaded_whole v e = by (place_of m x) refl e where
    by : (o : Option ℕ) → place_of m x ≡ o → option_and_then (loaded_value m (Some (scalars.Int t))) (option_map (λ b. values.Ptr (start_of b)) o) ≡ Some v
        → option_and_then (loaded_at m (scalars.Int t)) (option_map (λ b. values.Ptr (start_of b)) o) ≡ Some v
    by None p f = absurd (cc)
    by (Some b) p f =
        ap (λ (w : Option WrongKind). ok_of (after_access w (loaded (scalars.Int t) (bytes_at m.blocks (start_of b) (size_of (scalars.Int t)))))) (access_passes b p) ∙ f

  read_under : object.ty ≡ Int t → (u : IntType) (n : ℤ) (cell : Cell) → option_and_then (loaded_value m (Some (scalars.Int t))) (address m x 0) ≡ Some (values.Int u n)
      → record { ty = t; numbers = point n; may_be_undefined = false; read_only = object.read_only } ≡ cell
      → (c : KnownCell) × (read_at objects m x ≡ Some c) × IsUnderCell c cell
  read_under typed u n cell e same =
      let own : Cell = record { ty = t; numbers = point n; may_be_undefined = false; read_only = object.read_only } in
      let loads = loaded_whole (values.Int u n) e in
      let number : read_number m x t ≡ Some n = ap number_loaded loads in (
        number_cell object t n,
        ap (option_and_then (λ (o : ObjectTree). read_cell m x o o.ty)) is ∙ ap (read_cell m x object) typed ∙ ap (option_map (number_cell object t)) number,
        subst (IsUnderCell (number_cell object t n)) same
            (record { ty = refl; numbers = as_wide (range_of (point n)); undefined = λ h. h; read_only = refl }),
      )

-- ---- a load in code

abbrev pub value_in : Result Value Wrong → Option Value
value_in (Ok v) = Some v
value_in (Err w) = None

settled : (s : Spot) (w : Result Value WrongKind) (r : Result Value Wrong) → Answers r (load_outcome s w) → value_in r ≡ ok_of w
settled s (Ok u) (Ok v) e = let same : u ≡ v = cc in ap (λ (x : Value). Some x) (sym same)
settled s (Ok u) (Err w) e = absurd (cc)
settled s (Err k) (Ok v) e = absurd (cc)
settled s (Err k) (Err w) e = refl

-- what a load of an object answers is what stands there
pub value_loads : (objects : List ObjectTree) (m : ObjectMemory) (x : ℕ) (t : IntType) (place : Value) (r : Result Value Wrong) → AllFit objects m
    → address m x 0 ≡ Some place → IsMade (length m.blocks) place
    → ((os : List ObjectTree) → FitsAt os m place → Answers r (load_at os m (Some (scalars.Int t)) place)) → number_loaded (value_in r) ≡ read_number m x t
value_loads objects m x t place r fits at made answer =
    let b = map_some (λ b. values.Ptr (start_of b)) (place_of m x) place at in
    let there : IsMade (length m.blocks) (values.Ptr (start_of b.0)) = subst (IsMade (length m.blocks)) (sym b.2) made in
    let own : Answers r (load_at objects m (Some (scalars.Int t)) (values.Ptr (start_of b.0))) =
    subst (λ (v : Value). FitsAt objects m v → Answers r (load_at objects m (Some (scalars.Int t)) v)) (sym b.2) (answer objects) (fits b.0 there) in
    let told : Answers r (load_outcome (spot_at m (start_of b.0)) (load m.blocks (start_of b.0) (scalars.Int t))) =
    subst (Answers r) (loads objects m (start_of b.0) (scalars.Int t) (fits b.0 there)) own in
    let is : value_in r ≡ loaded_at m (scalars.Int t) (values.Ptr (start_of b.0)) = settled _ _ r told in
    ap number_loaded (is ∙ ap (loaded_at m (scalars.Int t)) b.2 ∙ sym (ap (option_and_then (loaded_at m (scalars.Int t))) at))

pub nothing_read : (objects : List ObjectTree) (m : ObjectMemory) (x : ℕ) → length objects ≤ x → read_at objects m x ≡ None
nothing_read objects m x past = ap (option_and_then (λ (o : ObjectTree). read_cell m x o o.ty)) (slice_get_past objects x past)

-- ---- the plain run's first state

own_size : (objects : List ObjectTree) (x : ℕ) (object : ObjectTree) → slice_get objects x ≡ Some object → IsTrue (have_own_sizes objects)
    → has_own_size object object.ty ≡ true
own_size [] x object e h = absurd (cc)
own_size (o ∷ os) zero object e h =
    let same : o ≡ object = cc in subst (λ (i : ObjectTree). has_own_size i i.ty ≡ true) same (and_parts (has_own_size o o.ty) (have_own_sizes os) h).0
own_size (o ∷ os) (suc x) object e h = own_size os x object e (and_parts (has_own_size o o.ty) (have_own_sizes os) h).1

some_value : (o : Option Value) (object : ObjectTree) (t : IntType) (cell : Cell) → option_and_then (plain_states.cell_with object t) o ≡ Some cell
    → (u : IntType) × (n : ℤ) × (o ≡ Some (values.Int u n)) × (record { ty = t; numbers = point n; may_be_undefined = false; read_only = object.read_only } ≡ cell)
some_value None object t cell e = absurd (cc)
some_value (Some (values.Int u n)) object t cell e =
    let own : Cell = record { ty = t; numbers = point n; may_be_undefined = false; read_only = object.read_only } in
    let same : own ≡ cell = cc in (u, n, refl, same)
some_value (Some (values.Ptr p)) object t cell e = absurd (cc)
some_value (Some values.Null) object t cell e = absurd (cc)

module _ (q : CsProgramTree) (cells : List (Option KnownCell)) (count : ℕ) (sizes : IsTrue (have_own_sizes q.objects)) (fits : AllFit q.objects (first q []).memory)
    (read : (x : ℕ) → cell_of cells x ≡ read_at q.objects (first q []).memory x) where
  through : (x : ℕ) (cell : Cell) → (c : KnownCell) × (read_at q.objects (first q []).memory x ≡ Some c) × IsUnderCell c cell
      → (c : KnownCell) × (cell_of cells x ≡ Some c) × IsUnderCell c cell
  through x cell r = (r.0, read x ∙ r.1, r.2)

  cell_under : (x : ℕ) (object : ObjectTree) → slice_get q.objects x ≡ Some object → (ty : CTypeTree) → object.ty ≡ ty → (cell : Cell)
      → (plain_first q).objects x ≡ Some cell → (c : KnownCell) × (cell_of cells x ≡ Some c) × IsUnderCell c cell
  cell_under x object is (Int t) typed cell g =
      let h = rw (is, typed) at g in
      let v = some_value (option_and_then (loaded_value (first q []).memory (Some (scalars.Int t))) (address (first q []).memory x 0)) object t cell h in
      let own = own_size q.objects x object is sizes in
      let size : object.size ≡ bytes t = eqb-true object.size (bytes t) (subst (λ (ty : CTypeTree). has_own_size object ty ≡ true) typed own) in
      through x cell (read_under q.objects (first q []).memory (places_start q.objects q.initial) fits x object is t size typed v.0 v.1 cell v.2 v.3)
  cell_under x object is types.Void typed cell g = let h = rw (is, typed) at g in absurd (cc (h))
  cell_under x object is (types.Pointer to is_const) typed cell g = let h = rw (is, typed) at g in absurd (cc (h))
  cell_under x object is (types.Array of is_const n) typed cell g = let h = rw (is, typed) at g in absurd (cc (h))
  cell_under x object is (types.Struct n) typed cell g = let h = rw (is, typed) at g in absurd (cc (h))
  cell_under x object is (types.Function n) typed cell g = let h = rw (is, typed) at g in absurd (cc (h))

  -- what is read of the first state is under the plain run's first state, where each integer object has its type's size
  pub start_under : AreUnder cells (replicate count None) (plain_first q)
  start_under = record { cells_under = λ x cell g. by x (slice_get q.objects x) refl cell g; copies_under = λ d x e. absurd (cc) } where
    by : (x : ℕ) (o : Option ObjectTree) → slice_get q.objects x ≡ o → (cell : Cell) → (plain_first q).objects x ≡ Some cell
        → (c : KnownCell) × (cell_of cells x ≡ Some c) × IsUnderCell c cell
    by x None is cell g = let h = rw is at g in absurd (cc (h))
    by x (Some object) is cell g = cell_under x object is object.ty refl cell g
