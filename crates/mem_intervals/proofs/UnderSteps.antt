-- What each statement leaves of a set that is under a plain state: temporaries, objects and copies.
use Rattle.std.proofs.Common.{◌≡◌, ℕ, pos, ◌<◌, refl, sym, subst, ap, ◌∙◌, ⊎_elim, true, List, [], ◌∷◌, length, length-set, replicate, Option, Some, None, Result, Ok, Err}
use Rattle.std.specs.Prelude.{OnOk, All, IsTrue, IfSome, option_map, slice_get, slice_set}
use Rattle.std.proofs.lemmas.Bool.{cases_eq}
use Rattle.std.proofs.lemmas.List.{length-map, length-replicate}
use Rattle.std.proofs.lemmas.List.Elements.{All-head, All-tail}
use Rattle.c_syntax_written.specs.declared.int_type.IntType.{IntType}
use Rattle.c_syntax.specs.Types.{ObjectTree, CTypeTree, Int}
use Rattle.c_syntax.specs.Types as types
use Rattle.block_mem.specs.declared.types.Scalar.{Scalar}
use Rattle.block_mem.specs.declared.types.Scalar.TheVariants as scalars
use Rattle.c_values.specs.Places.{ObjectMemory}
use Rattle.num_api.specs.declared.message.Range.{Range}
use Rattle.num_api.specs.Ranges.{NoWider, hull}
use Rattle.num_api.specs.Spans.{Span, range_of, point}
use Rattle.num_api.proofs.Parts.{as_wide}
use Rattle.machine_nums.specs.Rule.{type_span, value_span}
use Rattle.csharp.specs.Trees.{CsExprTree, CsProgramTree, Address}
use Rattle.csharp.specs.Trees as code
use Rattle.csharp.specs.Formed.{AreOperandsTyped}
use Rattle.csharp.specs.States.{State, first}
use Rattle.csharp_state.specs.Belongs.{Belongs}
use Rattle.mem_api.specs.Given.{IsOf}
use Rattle.plain_runs.specs.States.{Plain, agreed, given, span_of, plain_first}
use Rattle.plain_runs.specs.Changes.{unless, plain_set, plain_load, plain_store, plain_undefine, plain_input, plain_enter, plain_leave}
use Rattle.plain_runs.specs.Numbers.{number_expr}
use Rattle.mem_temps.specs.Operators.{LiesIn}
use Rattle.mem_temps.specs.Ranges.{range_at, AreInside}
use Rattle.mem_temps.specs.Ranges as ranges
use Rattle.mem_temps.specs.Exprs.{IsRangeOf}
use Rattle.mem_temps.proofs.Ranged.{and_then_some, map_some}
use Rattle.mem_objects.specs.declared.cells.KnownCell.{KnownCell}
use Rattle.mem_objects.specs.declared.accesses.KnownObject.{KnownObject}
use Rattle.mem_objects.specs.Accesses.{IsAccess}
use Rattle.mem_objects.specs.Cells.{cell_of, stored_cell, undefined_cell, merged, IsJoined, opened_cell, opened_at, entered, ended, number_cell, read_number, read_cell, read_at}
use Rattle.mem_objects.specs.Copies.{copy_of, source_in, without, without_all}
use Rattle.mem_objects.specs.Under.{AreUnder, have_own_sizes}
use Rattle.mem_objects.proofs.Lists.{put_here, put_apart}
use Rattle.mem_objects.proofs.Beneath as objects
use Rattle.mem_objects.proofs.Hulls.{joined_under}
use Rattle.mem_objects.proofs.Beginning.{start_under}
use Rattle.mem_one_state.specs.One.{IsFor}
use Rattle.mem_intervals.specs.Known.{IsKnownRange}
use Rattle.mem_intervals.specs.Passed.{Remembered, joined_passed, kept_for}
use Rattle.mem_intervals.specs.Sets.{IsDeclared, AreDeclared, IsUnder}
use Rattle.mem_intervals.specs.Under.{IsUnderPlain}
use Rattle.mem_intervals.proofs.Beneath.{under_anew, temp_put, set_under, input_under}
use Rattle.mem_intervals.proofs.Merging.{first_under, hull_in, join_under, same_under, enter_passes, leave_passes}

-- ---- what a call leaves

-- what holds in any case holds where a call is done
pub always : {T E P : Type 0} (r : Result T E) → P → OnOk r P
always (Ok x) h = h
always (Err e) h = tt

-- the types and the ranges by other names
pub renamed : (os : List ObjectTree) (ts kinds : List Scalar) (rs same : List Range) (passed : Option Remembered) (cells : List (Option KnownCell))
    (copies : List (Option ℕ)) (p : Plain) → kinds ≡ ts → same ≡ rs → IsUnder os ts rs passed cells copies p → IsUnder os kinds same passed cells copies p
renamed os ts kinds rs same passed cells copies p e f h =
    subst (λ (xs : List Scalar). IsUnder os xs same passed cells copies p) (sym e) (subst (λ (xs : List Range). IsUnder os ts xs passed cells copies p) (sym f) h)

-- objects and types that are those of one program
pub for_one : (os others qs : List ObjectTree) (ts kinds qts : List Scalar) (rs : List Range) (passed : Option Remembered) (cells : List (Option KnownCell))
    (copies : List (Option ℕ)) (p : Plain) → os ≡ qs → qts ≡ ts → others ≡ qs → qts ≡ kinds → IsUnder others kinds rs passed cells copies p
    → IsUnder os ts rs passed cells copies p
for_one os others qs ts kinds qts rs passed cells copies p o t other kind h =
    subst (λ (xs : List ObjectTree). IsUnder xs ts rs passed cells copies p) (other ∙ sym o)
    (subst (λ (xs : List Scalar). IsUnder others xs rs passed cells copies p) (sym kind ∙ t) h)

-- ---- cells of declared objects

-- a cell that is put is one of its object
pub declared_put : (os : List ObjectTree) (cells : List (Option KnownCell)) (x : ℕ) (v : Option KnownCell) → AreDeclared os cells
    → ((c : KnownCell) → v ≡ Some c → IsDeclared os x c × LiesIn c.ty c.range) → AreDeclared os (slice_set cells x v)
declared_put os cells x v all here y c e = ⊎_elim
    (λ same. subst (λ (i : ℕ). IsDeclared os i c × LiesIn c.ty c.range) (sym same)
    (here c (put_here cells x v c (subst (λ (i : ℕ). cell_of (slice_set cells x v) i ≡ Some c) same e))))
    (λ ne. all y c (sym (put_apart cells x y v ne) ∙ e)) (cases_eq y x)

-- another range, and another mark of a lack of values
again : (os : List ObjectTree) (x : ℕ) (c d : KnownCell) → d.ty ≡ c.ty → d.read_only ≡ c.read_only → IsDeclared os x c → IsDeclared os x d
again os x c d ty mark h = record { object = h.object; is = h.is; typed = h.typed ∙ ap Int (sym ty); mark = h.mark ∙ sym mark }

pub declared_undefined : (os : List ObjectTree) (cells : List (Option KnownCell)) (x : ℕ) → AreDeclared os cells
    → AreDeclared os (slice_set cells x (option_map undefined_cell (cell_of cells x)))
declared_undefined os cells x all = declared_put os cells x (option_map undefined_cell (cell_of cells x)) all (λ c e.
    let was = map_some undefined_cell (cell_of cells x) c e in
    subst (λ (k : KnownCell). IsDeclared os x k × LiesIn k.ty k.range) was.2
    (again os x was.0 (undefined_cell was.0) refl refl (all x was.0 was.1).0, as_wide (range_of (type_span was.0.ty))))

-- what is known of an integer that begins to live is of its type
opened_declared : (os : List ObjectTree) (x : ℕ) (object : ObjectTree) → slice_get os x ≡ Some object → (ty : CTypeTree) → object.ty ≡ ty → (c : KnownCell)
    → opened_cell object ty ≡ Some c → IsDeclared os x c × LiesIn c.ty c.range
opened_declared os x object is (Int t) typed c e =
    let own : KnownCell = record { ty = t; range = range_of (type_span t); may_be_undefined = true; read_only = object.read_only } in
    let same : own ≡ c = cc in
    subst (λ (k : KnownCell). IsDeclared os x k × LiesIn k.ty k.range) same
    (record { object = object; is = is; typed = typed; mark = refl }, as_wide (range_of (type_span t)))
opened_declared os x object is types.Void typed c e = absurd (cc)
opened_declared os x object is (types.Pointer to is_const) typed c e = absurd (cc)
opened_declared os x object is (types.Array of is_const n) typed c e = absurd (cc)
opened_declared os x object is (types.Struct n) typed c e = absurd (cc)
opened_declared os x object is (types.Function n) typed c e = absurd (cc)

pub declared_entered : (os : List ObjectTree) (names : List ℕ) (cells : List (Option KnownCell)) → AreDeclared os cells → AreDeclared os (entered os names cells)
declared_entered os [] cells all = all
declared_entered os (x ∷ xs) cells all =
    declared_entered os xs (slice_set cells x (opened_at os x)) (declared_put os cells x (opened_at os x) all (λ c e.
    let o = and_then_some (λ (object : ObjectTree). opened_cell object object.ty) (slice_get os x) c e in
    opened_declared os x o.0 o.1 o.0.ty refl c o.2))

pub declared_ended : (os : List ObjectTree) (names : List ℕ) (cells : List (Option KnownCell)) → AreDeclared os cells → AreDeclared os (ended names cells)
declared_ended os [] cells all = all
declared_ended os (x ∷ xs) cells all = declared_ended os xs (slice_set cells x None) (declared_put os cells x None all (λ c e. absurd (cc)))

pub declared_joined : (os : List ObjectTree) (a b j : List (Option KnownCell)) → ((x : ℕ) → IsJoined (cell_of a x) (cell_of b x) (cell_of j x))
    → AreDeclared os a → AreDeclared os b → AreDeclared os j
declared_joined os a b j joins k l x e f =
    let h = (joins x).from e f in
    let c : KnownCell = h.0 in
    let d : KnownCell = h.1 in
    let left = k x c h.2 in
    let right = l x d h.3 in
    subst (λ (z : KnownCell). IsDeclared os x z × LiesIn z.ty z.range) (sym h.6) (
      again os x c (merged c d) refl refl left.0,
      hull_in c.range d.range (range_of (type_span c.ty)) left.1 (subst (λ (t : IntType). LiesIn t d.range) (sym h.4) right.1),
    )

-- and what is read of an integer
read_declared : (os : List ObjectTree) (m : ObjectMemory) (x : ℕ) (object : ObjectTree) → slice_get os x ≡ Some object → (ty : CTypeTree) → object.ty ≡ ty
    → (c : KnownCell) → read_cell m x object ty ≡ Some c → IsDeclared os x c
read_declared os m x object is (Int t) typed c e =
    let n = map_some (number_cell object t) (read_number m x t) c e in
    subst (IsDeclared os x) n.2 (record { object = object; is = is; typed = typed; mark = refl })
read_declared os m x object is types.Void typed c e = absurd (cc)
read_declared os m x object is (types.Pointer to is_const) typed c e = absurd (cc)
read_declared os m x object is (types.Array of is_const n) typed c e = absurd (cc)
read_declared os m x object is (types.Struct n) typed c e = absurd (cc)
read_declared os m x object is (types.Function n) typed c e = absurd (cc)

held_here : {X : Type 0} (P : X → Type 0) (o : Option X) (x : X) → o ≡ Some x → IfSome o P → P x
held_here P None x e h = absurd (cc)
held_here P (Some y) x e h = let same : y ≡ x = cc in subst P same h

pub declared_read : (os : List ObjectTree) (m : ObjectMemory) (cells : List (Option KnownCell)) → ((x : ℕ) → cell_of cells x ≡ read_at os m x)
    → ((x : ℕ) → IfSome (cell_of cells x) (λ c. LiesIn c.ty c.range)) → AreDeclared os cells
declared_read os m cells read inside x c e =
    let o = and_then_some (λ (object : ObjectTree). read_cell m x object object.ty) (slice_get os x) c (sym (read x) ∙ e) in
    (read_declared os m x o.0 o.1 o.0.ty refl c o.2, held_here (λ (k : KnownCell). LiesIn k.ty k.range) (cell_of cells x) c e (inside x))

-- ---- lengths

pub entered_length : (os : List ObjectTree) (names : List ℕ) (cells : List (Option KnownCell)) → length (entered os names cells) ≡ length cells
entered_length os [] cells = refl
entered_length os (x ∷ xs) cells = entered_length os xs (slice_set cells x (opened_at os x)) ∙ length-set cells x (opened_at os x)

pub ended_length : (names : List ℕ) (cells : List (Option KnownCell)) → length (ended names cells) ≡ length cells
ended_length [] cells = refl
ended_length (x ∷ xs) cells = ended_length xs (slice_set cells x None) ∙ length-set cells x None

pub without_length : (x : ℕ) (copies : List (Option ℕ)) → length (without x copies) ≡ length copies
without_length x copies = length-map copies (unless x)

pub without_all_length : (names : List ℕ) (copies : List (Option ℕ)) → length (without_all names copies) ≡ length copies
without_all_length [] copies = refl
without_all_length (x ∷ xs) copies = without_all_length xs (without x copies) ∙ without_length x copies

-- ---- temporaries

-- a temporary that a statement sets has a place among the copies
set_there : (q : CsProgramTree) (ts : List Scalar) (copies : List (Option ℕ)) (d : ℕ) → q.temps ≡ ts → length copies ≡ length ts
    → All (λ k. k < length q.temps) (d ∷ []) → d < length copies
set_there q ts copies d same count all =
    subst (λ (n : ℕ). d < n) (ap length same ∙ sym count) (All-head (λ k. k < length q.temps) d [] all)

pub set_leaves : (q : CsProgramTree) (os : List ObjectTree) (ts : List Scalar) (rs new : List Range) (passed left : Option Remembered)
    (cells : List (Option KnownCell)) (copies copied : List (Option ℕ)) (d : ℕ) (e : CsExprTree) (found : Range) → q.temps ≡ ts → new ≡ slice_set rs d found
    → copied ≡ slice_set copies d (source_in copies e) → IsOf q (code.Set d e) → IsKnownRange rs passed e found → (p r : Plain)
    → IsUnder os ts rs passed cells copies p → plain_set ts p d e ≡ Some r → IsUnder os ts new left cells copied r
set_leaves q os ts rs new passed left cells copies copied d e found same is put stated f p r h g = record {
  temps = set_under q ts rs new passed left d e found same is stated f p r h.temps g;
  known = subst (λ (xs : List (Option ℕ)). AreUnder cells xs r) (sym put)
      (objects.set_under cells copies p h.known ts d e r (set_there q ts copies d same h.copy_count stated.numbers.1) g);
  declared = h.declared;
  sizes = h.sizes;
  cell_count = h.cell_count;
  copy_count = ap length put ∙ length-set copies d (source_in copies e) ∙ h.copy_count;
}

pub input_leaves : (q : CsProgramTree) (os : List ObjectTree) (ts : List Scalar) (rs new : List Range) (passed left : Option Remembered)
    (cells : List (Option KnownCell)) (copies copied : List (Option ℕ)) (d : ℕ) (t : IntType) → q.temps ≡ ts → new ≡ slice_set rs d (range_of (type_span t))
    → copied ≡ slice_set copies d None → IsOf q (code.Input d t) → (p r : Plain) → IsUnder os ts rs passed cells copies p → plain_input p d t ≡ Some r
    → IsUnder os ts new left cells copied r
input_leaves q os ts rs new passed left cells copies copied d t same is put stated p r h g = record {
  temps = input_under q ts rs new passed left d t same is stated p r h.temps g;
  known = subst (λ (xs : List (Option ℕ)). AreUnder cells xs r) (sym put)
      (objects.input_under cells copies p h.known d t r (set_there q ts copies d same h.copy_count stated.numbers.1) g);
  declared = h.declared;
  sizes = h.sizes;
  cell_count = h.cell_count;
  copy_count = ap length put ∙ length-set copies d None ∙ h.copy_count;
}

-- ---- loads and stores of known objects

-- the object that the plain run accesses is the one that is found
record IsOne (x : ℕ) (c : KnownCell) (k : KnownObject) : Type 0 where
  pub number : x ≡ k.number
  pub cell : c ≡ k.cell

one_found : (cells : List (Option KnownCell)) (e : CsExprTree) (ty : Scalar) (found : Option KnownObject) (k : KnownObject) (x : ℕ) (c : KnownCell)
    → IsAccess cells e ty found → found ≡ Some k → e ≡ Address x → cell_of cells x ≡ Some c → IsOne x c k
one_found cells e ty found k x c a is at here =
    let there : e ≡ Address k.number = a.address k is in
    let names : Address x ≡ Address k.number = sym at ∙ there in
    let one : x ≡ k.number = cc in
    let both : Some c ≡ Some k.cell = sym here ∙ ap (cell_of cells) one ∙ a.cell k is in
    record { number = one; cell = (let same : c ≡ k.cell = cc in same) }

pub load_leaves : (q : CsProgramTree) (os : List ObjectTree) (ts : List Scalar) (rs new : List Range) (passed left : Option Remembered)
    (cells : List (Option KnownCell)) (copies copied : List (Option ℕ)) (d : ℕ) (ty : Scalar) (e : CsExprTree) (found : Option KnownObject) (k : KnownObject)
    → q.temps ≡ ts → IsOf q (code.Load d ty e) → IsAccess cells e ty found → found ≡ Some k → new ≡ slice_set rs d k.cell.range
    → copied ≡ slice_set copies d (Some k.number) → (p r : Plain) → IsUnder os ts rs passed cells copies p → plain_load p d ty e ≡ Some r
    → IsUnder os ts new left cells copied r
load_leaves q os ts rs new passed left cells copies copied d ty e found k same stated a some is put p r h g =
    let u = objects.load_under cells copies p h.known ty d e r (set_there q ts copies d same h.copy_count stated.numbers.1) g in
    let one = one_found cells e ty found k u.x u.known.c a some u.address u.known.is in
    let own : ty ≡ scalars.Int k.cell.ty = a.own k some in
    let declared = h.declared k.number k.cell (a.cell k some) in
    record {
      temps = subst (λ (xs : List Range). IsUnderPlain ts xs left r) (sym is)
          (subst (IsUnderPlain ts (slice_set rs d k.cell.range) left) u.result
          (temp_put ts rs passed left p d k.cell.range u.cell.numbers (Some u.x) ty h.temps (subst (λ (xs : List Scalar). slice_get xs d ≡ Some ty) same stated.typed.1.1)
          (λ t f. let at : k.cell.ty ≡ t = cc in subst (λ (i : IntType). LiesIn i k.cell.range) at declared.1)
          (λ t f. subst (λ (c : KnownCell). NoWider c.range (range_of u.cell.numbers)) one.cell u.known.under.numbers)));
      known = subst (λ (xs : List (Option ℕ)). AreUnder cells xs r) (ap (λ (x : ℕ). slice_set copies d (Some x)) one.number ∙ sym put) u.under;
      declared = h.declared;
      sizes = h.sizes;
      cell_count = h.cell_count;
      copy_count = ap length put ∙ length-set copies d (Some k.number) ∙ h.copy_count;
    }

-- the plain run has no load of an object that is not found
pub no_load : (q : CsProgramTree) (os : List ObjectTree) (ts : List Scalar) (rs : List Range) (passed : Option Remembered) (cells : List (Option KnownCell))
    (copies : List (Option ℕ)) (d : ℕ) (ty : Scalar) (e : CsExprTree) (found : Option KnownObject) → q.temps ≡ ts → IsOf q (code.Load d ty e)
    → IsAccess cells e ty found → found ≡ None → (p r : Plain) → IsUnder os ts rs passed cells copies p → plain_load p d ty e ≡ Some r → ⊥
no_load q os ts rs passed cells copies d ty e found same stated a gone p r h g =
    let u = objects.load_under cells copies p h.known ty d e r (set_there q ts copies d same h.copy_count stated.numbers.1) g in
    a.none gone u.x u.known.c u.address u.known.is u.known.own

pub no_store : (os : List ObjectTree) (ts : List Scalar) (rs : List Range) (passed : Option Remembered) (cells : List (Option KnownCell))
    (copies : List (Option ℕ)) (ty : Scalar) (to e : CsExprTree) (found : Option KnownObject) → IsAccess cells to ty found → found ≡ None → (p r : Plain)
    → IsUnder os ts rs passed cells copies p → plain_store ts p ty to e ≡ Some r → ⊥
no_store os ts rs passed cells copies ty to e found a gone p r h g =
    let u = objects.store_under cells copies p h.known ts ty to e r g in
    a.none gone u.x u.known.c u.address u.known.is u.known.own

-- what is stored lies in the object's type
stored_lies : (q : CsProgramTree) (ts : List Scalar) (rs : List Range) (ty : Scalar) (to e : CsExprTree) (range : Range) (t : IntType) → q.temps ≡ ts
    → IsOf q (code.Store ty to e) → IsRangeOf rs e range → ty ≡ scalars.Int t → AreInside ts rs → LiesIn t range
stored_lies q ts rs ty to e range t same stated f own inside =
    let all = All-tail (AreOperandsTyped q) to (e ∷ []) stated.typed.0 in
    f.inside q t (All-head (AreOperandsTyped q) e [] all) (subst (λ (xs : List Scalar). AreInside xs rs) (sym same) inside) (stated.typed.1.1 ∙ ap Some own)

-- and in the interval of the plain run
stored_under : (q : CsProgramTree) (ts : List Scalar) (rs : List Range) (ty : Scalar) (to e : CsExprTree) (range : Range) (s : Span) → q.temps ≡ ts
    → IsOf q (code.Store ty to e) → IsRangeOf rs e range → (p : Plain) → AreInside ts rs → ranges.AreUnder ts rs p → span_of ts p e ≡ Some s
    → NoWider range (range_of s)
stored_under q ts rs ty to e range s same stated f p inside under value =
    let all = All-tail (AreOperandsTyped q) to (e ∷ []) stated.typed.0 in
    let here : span_of q.temps p e ≡ Some s = subst (λ (xs : List Scalar). span_of xs p e ≡ Some s) (sym same) value in
    let m = map_some (value_span (given p)) (number_expr q.temps e) s here in
    subst (λ (z : Span). NoWider range (range_of z)) m.2
    (f.plain q p m.0 (All-head (AreOperandsTyped q) e [] all) (subst (λ (xs : List Scalar). AreInside xs rs) (sym same) inside)
    (subst (λ (xs : List Scalar). ranges.AreUnder xs rs p) (sym same) under) m.1)

-- the temporaries stay, and nothing has passed
rest_under : (ts : List Scalar) (rs : List Range) (passed left : Option Remembered) (p r : Plain) → r.temps ≡ p.temps → r.passed ≡ None
    → IsUnderPlain ts rs passed p → IsUnderPlain ts rs left r
rest_under ts rs passed left p r temps gone h =
    under_anew ts rs rs passed left p r h h.inside
    (λ d t f. subst (λ (g : ℕ → Span). NoWider (range_at rs d) (range_of (g d))) (sym temps) (h.under d t f)) gone

pub store_leaves : (q : CsProgramTree) (os : List ObjectTree) (ts : List Scalar) (rs : List Range) (passed left : Option Remembered)
    (cells more : List (Option KnownCell)) (copies copied : List (Option ℕ)) (ty : Scalar) (to e : CsExprTree) (range : Range) (found : Option KnownObject)
    (k : KnownObject) → q.temps ≡ ts → IsOf q (code.Store ty to e) → IsRangeOf rs e range → IsAccess cells to ty found → found ≡ Some k
    → more ≡ slice_set cells k.number (Some (stored_cell range k.cell)) → copied ≡ without k.number copies → (p r : Plain)
    → IsUnder os ts rs passed cells copies p → plain_store ts p ty to e ≡ Some r → IsUnder os ts rs left more copied r
store_leaves q os ts rs passed left cells more copies copied ty to e range found k same stated f a some put gone p r h g =
    let u = objects.store_under cells copies p h.known ts ty to e r g in
    let one = one_found cells to ty found k u.x u.known.c a some u.address u.known.is in
    let lies = stored_lies q ts rs ty to e range k.cell.ty same stated f (a.own k some) h.temps.inside in
    let under = stored_under q ts rs ty to e range u.numbers same stated f p h.temps.inside h.temps.under u.value in
    let known = u.under range (subst (λ (c : KnownCell). LiesIn c.ty range) (sym one.cell) lies) under in
    let cell : slice_set cells u.x (Some (stored_cell range u.known.c)) ≡ more =
    ap (λ (x : ℕ). slice_set cells x (Some (stored_cell range u.known.c))) one.number
    ∙ ap (λ (c : KnownCell). slice_set cells k.number (Some (stored_cell range c))) one.cell ∙ sym put in
    let copy : without u.x copies ≡ copied = ap (λ (x : ℕ). without x copies) one.number ∙ sym gone in
    record {
      temps = rest_under ts rs passed left p r (sym (ap Plain.temps u.result)) (sym (ap Plain.passed u.result)) h.temps;
      known = subst (λ (xs : List (Option ℕ)). AreUnder more xs r) copy (subst (λ (xs : List (Option KnownCell)). AreUnder xs (without u.x copies) r) cell known);
      declared = subst (AreDeclared os) (sym put) (declared_put os cells k.number (Some (stored_cell range k.cell)) h.declared (λ c e.
          let own : stored_cell range k.cell ≡ c = cc in
          subst (λ (z : KnownCell). IsDeclared os k.number z × LiesIn z.ty z.range) own
          (again os k.number k.cell (stored_cell range k.cell) refl refl (h.declared k.number k.cell (a.cell k some)).0, lies)));
      sizes = h.sizes;
      cell_count = ap length put ∙ length-set cells k.number (Some (stored_cell range k.cell)) ∙ h.cell_count;
      copy_count = ap length gone ∙ without_length k.number copies ∙ h.copy_count;
    }

-- the range of a value that is stored lies in the type of the object that is found
pub store_lies : (q : CsProgramTree) (os : List ObjectTree) (ts : List Scalar) (rs : List Range) (passed : Option Remembered) (cells : List (Option KnownCell))
    (copies : List (Option ℕ)) (ty : Scalar) (to e : CsExprTree) (range : Range) (found : Option KnownObject) (k : KnownObject) → q.temps ≡ ts
    → IsOf q (code.Store ty to e) → IsRangeOf rs e range → IsAccess cells to ty found → found ≡ Some k → (p : Plain) → IsUnder os ts rs passed cells copies p
    → LiesIn k.cell.ty range
store_lies q os ts rs passed cells copies ty to e range found k same stated f a some p h =
    stored_lies q ts rs ty to e range k.cell.ty same stated f (a.own k some) h.temps.inside

pub undefine_leaves : (os : List ObjectTree) (ts : List Scalar) (rs : List Range) (passed left : Option Remembered) (cells more : List (Option KnownCell))
    (copies copied : List (Option ℕ)) (x : ℕ) → more ≡ slice_set cells x (option_map undefined_cell (cell_of cells x)) → copied ≡ without x copies
    → (p r : Plain) → IsUnder os ts rs passed cells copies p → plain_undefine p x ≡ Some r → IsUnder os ts rs left more copied r
undefine_leaves os ts rs passed left cells more copies copied x put gone p r h g =
    let u = objects.undefine_under cells copies p h.known x r g in
    record {
      temps = rest_under ts rs passed left p r (sym (ap Plain.temps u.1)) (sym (ap Plain.passed u.1)) h.temps;
      known = subst (λ (xs : List (Option ℕ)). AreUnder more xs r) (sym gone) (subst (λ (xs : List (Option KnownCell)). AreUnder xs (without x copies) r) (sym put) u.2);
      declared = subst (AreDeclared os) (sym put) (declared_undefined os cells x h.declared);
      sizes = h.sizes;
      cell_count = ap length put ∙ length-set cells x (option_map undefined_cell (cell_of cells x)) ∙ h.cell_count;
      copy_count = ap length gone ∙ without_length x copies ∙ h.copy_count;
    }

-- ---- objects that begin and end

pub enter_leaves : (os : List ObjectTree) (ts : List Scalar) (rs : List Range) (passed left : Option Remembered) (cells more : List (Option KnownCell))
    (copies copied : List (Option ℕ)) (names : List ℕ) → left ≡ kept_for names passed → more ≡ entered os names cells → copied ≡ without_all names copies
    → All (λ x. x < length os) names → (p r : Plain) → IsUnder os ts rs passed cells copies p → plain_enter os names p ≡ Some r
    → IsUnder os ts rs left more copied r
enter_leaves os ts rs passed left cells more copies copied names kept put gone there p r h g =
    let passes = enter_passes os names p r g in
    let within : All (λ x. x < length cells) names = subst (λ (n : ℕ). All (λ x. x < n) names) (sym h.cell_count) there in
    let known = objects.enter_under os names cells copies p r h.known within g in
    record {
      temps = subst (λ o. IsUnderPlain ts rs o r) (sym kept) (same_under ts rs passed names p r (objects.enter_temps os names p r g) passes.0 passes.1 h.temps);
      known = subst (λ (xs : List (Option ℕ)). AreUnder more xs r) (sym gone) (subst (λ (xs : List (Option KnownCell)). AreUnder xs (without_all names copies) r) (sym put) known);
      declared = subst (AreDeclared os) (sym put) (declared_entered os names cells h.declared);
      sizes = h.sizes;
      cell_count = ap length put ∙ entered_length os names cells ∙ h.cell_count;
      copy_count = ap length gone ∙ without_all_length names copies ∙ h.copy_count;
    }

pub leave_leaves : (os : List ObjectTree) (ts : List Scalar) (rs : List Range) (passed left : Option Remembered) (cells more : List (Option KnownCell))
    (copies copied : List (Option ℕ)) (names : List ℕ) → left ≡ kept_for names passed → more ≡ ended names cells → copied ≡ without_all names copies
    → (p : Plain) → IsUnder os ts rs passed cells copies p → IsUnder os ts rs left more copied (plain_leave names p)
leave_leaves os ts rs passed left cells more copies copied names kept put gone p h =
    let passes = leave_passes names p in
    let known = objects.leave_under names cells copies p h.known in
    record {
      temps = subst (λ o. IsUnderPlain ts rs o (plain_leave names p)) (sym kept)
          (same_under ts rs passed names p (plain_leave names p) (objects.leave_temps names p) passes.0 passes.1 h.temps);
      known = subst (λ (xs : List (Option ℕ)). AreUnder more xs (plain_leave names p)) (sym gone)
          (subst (λ (xs : List (Option KnownCell)). AreUnder xs (without_all names copies) (plain_leave names p)) (sym put) known);
      declared = subst (AreDeclared os) (sym put) (declared_ended os names cells h.declared);
      sizes = h.sizes;
      cell_count = ap length put ∙ ended_length names cells ∙ h.cell_count;
      copy_count = ap length gone ∙ without_all_length names copies ∙ h.copy_count;
    }

-- ---- joins

pub join_leaves : (os : List ObjectTree) (ts : List Scalar) (rs others new : List Range) (passed other left : Option Remembered)
    (a b j : List (Option KnownCell)) (c d k : List (Option ℕ)) → left ≡ joined_passed passed other
    → ((x : ℕ) → x < length rs → range_at new x ≡ hull (range_at rs x) (range_at others x))
    → length j ≡ length a → ((x : ℕ) → IsJoined (cell_of a x) (cell_of b x) (cell_of j x))
    → length k ≡ length c → ((x : ℕ) → copy_of k x ≡ agreed (copy_of c x) (copy_of d x)) → (p : Plain)
    → IsUnder os ts rs passed a c p → IsUnder os ts others other b d p → IsUnder os ts new left j k p
join_leaves os ts rs others new passed other left a b j c d k both hulls size joins count agrees p h l = record {
  temps = subst (λ o. IsUnderPlain ts new o p) (sym both) (join_under ts rs others new passed other p hulls h.temps l.temps);
  known = joined_under a b j c d k p joins agrees h.known l.known;
  declared = declared_joined os a b j joins h.declared l.declared;
  sizes = h.sizes;
  cell_count = size ∙ h.cell_count;
  copy_count = count ∙ h.copy_count;
}

-- ---- the start

pub start_leaves : (q : CsProgramTree) (os : List ObjectTree) (ts : List Scalar) (rs : List Range) (passed : Option Remembered) (cells : List (Option KnownCell))
    (copies : List (Option ℕ)) (one : Option State) (s : State) (m : ObjectMemory) → os ≡ q.objects → ts ≡ q.temps
    → rs ≡ replicate (length q.temps) (range_of (point (pos 0))) → one ≡ Some (first q []) → IsFor q.objects one → one ≡ Some s → m ≡ s.memory
    → length cells ≡ length os → ((x : ℕ) → cell_of cells x ≡ read_at os m x) → ((x : ℕ) → IfSome (cell_of cells x) (λ c. LiesIn c.ty c.range))
    → copies ≡ replicate (length q.temps) None → IsTrue (have_own_sizes q.objects) → IsUnder os ts rs passed cells copies (plain_first q)
start_leaves q os ts rs passed cells copies one s m objects types is known for here at size read inside put sizes =
    let both : Some s ≡ Some (first q []) = sym here ∙ known in
    let state : s ≡ first q [] = cc in
    let memory : m ≡ (first q []).memory = at ∙ ap State.memory state in
    let belongs : Belongs q.objects (first q []).memory = subst (IsFor q.objects) known for in
    record {
      temps = subst (λ (xs : List Scalar). IsUnderPlain xs rs passed (plain_first q)) (sym types)
          (subst (λ (xs : List Range). IsUnderPlain q.temps xs passed (plain_first q)) (sym is) (first_under q passed));
      known = subst (λ (xs : List (Option ℕ)). AreUnder cells xs (plain_first q)) (sym put)
          (start_under q cells (length q.temps) sizes belongs.fits
          (λ x. read x ∙ ap (λ (xs : List ObjectTree). read_at xs m x) objects ∙ ap (λ (y : ObjectMemory). read_at q.objects y x) memory));
      declared = declared_read os m cells read inside;
      sizes = subst (λ (xs : List ObjectTree). have_own_sizes xs ≡ true) (sym objects) sizes;
      cell_count = size;
      copy_count = ap length put ∙ length-replicate {A = Option ℕ} (length q.temps) None ∙ ap length (sym types);
    }
