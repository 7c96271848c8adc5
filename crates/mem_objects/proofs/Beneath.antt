-- What each statement leaves of what is no wider than a plain state.
use Rattle.std.proofs.Common.{◌≡◌, ℕ, ◌<◌, refl, sym, subst, ap, ◌∙◌, ⊎_elim, Bool, true, false, List, [], ◌∷◌, length, length-set, Option, Some, None}
use Rattle.std.specs.Prelude.{All, ◌==◌, if◌then◌else◌, option_map, option_and_then, slice_get, slice_set}
use Rattle.std.proofs.lemmas.Bool.{cases_eq, cond-true, cond-false, eq-eqb, ne_eqb}
use Rattle.std.proofs.lemmas.List.Elements.{All-head, All-tail}
use Rattle.c_syntax_written.specs.declared.int_type.IntType.{IntType}
use Rattle.c_syntax.specs.Types.{ObjectTree, CTypeTree, Int}
use Rattle.c_syntax.specs.Types as types
use Rattle.block_mem.specs.declared.types.Scalar.{Scalar}
use Rattle.block_mem.specs.declared.types.Scalar.TheVariants as scalars
use Rattle.num_api.specs.declared.message.Range.{Range}
use Rattle.num_api.specs.Ranges.{NoWider}
use Rattle.num_api.specs.Spans.{Span, range_of}
use Rattle.num_api.proofs.Parts.{as_wide}
use Rattle.machine_nums.specs.Rule.{type_span, converted}
use Rattle.csharp.specs.Trees.{CsExprTree, Const, Null, Temp, Address, Unary, Binary, Convert}
use Rattle.plain_runs.specs.States.{Cell, Plain, span_of}
use Rattle.plain_runs.specs.Changes.{with_temp, with_object, unless, if_passed, source_of, cell_at, declared}
use Rattle.plain_runs.specs.Changes as plains
use Rattle.csharp.specs.SameExprs.{is_same_type}
use Rattle.mem_temps.specs.Operators.{LiesIn}
use Rattle.mem_temps.proofs.Ranged.{and_then_some, map_some}
use Rattle.mem_objects.specs.declared.cells.KnownCell.{KnownCell}
use Rattle.mem_objects.specs.Cells.{cell_of, stored_cell, undefined_cell, opened_cell, opened_at, entered, ended}
use Rattle.mem_objects.specs.Copies.{copy_of, without, without_all, source_in}
use Rattle.mem_objects.specs.Under.{IsUnderCell, AreUnder}
use Rattle.mem_objects.proofs.Lists.{entry_within, put_at, put_apart, unless_some, unless_keeps, without_at}
use Rattle.csharp.proofs.Equal.{one_type}
use Rattle.mem_objects.proofs.Types.{lies_converted}

-- ---- temporaries

module _ (cells : List (Option KnownCell)) (copies : List (Option ℕ)) (p : Plain) (k : AreUnder cells copies p) where
  -- a temporary that is put is known to be a copy where the plain run says so
  temp_under : (d : ℕ) (s : Span) (source o : Option ℕ) → d < length copies → ((x : ℕ) → source ≡ Some x → o ≡ Some x)
      → AreUnder cells (slice_set copies d o) (with_temp p d s source)
  temp_under d s source o there is = record {
    cells_under = k.cells_under;
    copies_under = λ e x g. ⊎_elim
        (λ same. subst (λ (i : ℕ). copy_of (slice_set copies d o) i ≡ Some x) (sym same)
        (put_at copies d o there ∙ is x (sym (cond-true (e == d) source (p.copies e) (eq-eqb e d same)) ∙ g)))
        (λ ne. put_apart copies d e o ne ∙ k.copies_under e x (sym (cond-false (e == d) source (p.copies e) (ne_eqb e d ne)) ∙ g)) (cases_eq e d);
  }

  source_under : (e : CsExprTree) (x : ℕ) → source_of p e ≡ Some x → source_in copies e ≡ Some x
  source_under (Temp d) x g = k.copies_under d x g
  source_under (Const t n) x g = absurd (cc)
  source_under Null x g = absurd (cc)
  source_under (Address y) x g = absurd (cc)
  source_under (Unary op a) x g = absurd (cc)
  source_under (Binary op a b) x g = absurd (cc)
  source_under (Convert t a) x g = absurd (cc)

  pub set_under : (ts : List Scalar) (d : ℕ) (e : CsExprTree) (r : Plain) → d < length copies → plains.plain_set ts p d e ≡ Some r
      → AreUnder cells (slice_set copies d (source_in copies e)) r
  set_under ts d e r there g =
      let s = map_some (λ s. with_temp p d s (source_of p e)) (if_passed p.passed e (span_of ts p e)) r g in
      subst (AreUnder cells (slice_set copies d (source_in copies e))) s.2 (temp_under d s.0 (source_of p e) (source_in copies e) there (λ x h. source_under e x h))

  pub input_under : (d : ℕ) (t : IntType) (r : Plain) → d < length copies → plains.plain_input p d t ≡ Some r → AreUnder cells (slice_set copies d None) r
  input_under d t r there g =
      let one : with_temp p d (type_span t) None ≡ r = cc in
      subst (AreUnder cells (slice_set copies d None)) one (temp_under d (type_span t) None None there (λ x h. h))

-- ---- one object

-- an object that is accessed at its own type
own_some : (t : IntType) (was cell : Cell) → (if is_same_type t was.ty then Some was else None) ≡ Some cell → (t ≡ was.ty) × (was ≡ cell)
own_some t was cell h = by (is_same_type t was.ty) refl h where
  by : (b : Bool) → is_same_type t was.ty ≡ b → (if b then Some was else None) ≡ Some cell → (t ≡ was.ty) × (was ≡ cell)
  by true e f = let same : was ≡ cell = cc in (one_type t was.ty e, same)
  by false e f = absurd (cc)

-- the cell behind an assignment, and that of an object that begins to live
abbrev pub assigned : Cell → Span → Cell
assigned cell s = record cell { numbers = converted cell.ty (Some s); may_be_undefined = false }

abbrev begun : ObjectTree → CTypeTree → Option Cell
begun object (Int t) = Some (declared t object.read_only)
begun object ty = None

module _ (cells : List (Option KnownCell)) (copies : List (Option ℕ)) (p : Plain) (k : AreUnder cells copies p) where
  -- the cell of an object that is accessed at its own type
  pub record IsAccessed (ty : Scalar) (x : ℕ) (cell : Cell) : Type 0 where
    pub c : KnownCell
    pub is : cell_of cells x ≡ Some c
    pub own : ty ≡ scalars.Int c.ty
    pub under : IsUnderCell c cell

  -- one that the plain run accesses at its own type is known
  pub accessed : (ty : Scalar) (x : ℕ) (cell : Cell) → cell_at p ty x ≡ Some cell → IsAccessed ty x cell
  accessed (scalars.Int t) x cell g =
      let o = and_then_some (λ (was : Cell). if is_same_type t was.ty then Some was else None) (p.objects x) cell g in
      let w = own_some t o.0 cell o.2 in
      let u = k.cells_under x o.0 o.1 in
      record { c = u.0; is = u.1; own = ap (λ (y : IntType). scalars.Int y) (w.0 ∙ sym u.2.ty); under = subst (IsUnderCell u.0) w.1 u.2 }
  accessed scalars.Pointer x cell g = absurd (cc)

  -- a load that the plain run has is one of a known object at its own type
  pub record IsLoadUnder (ty : Scalar) (d : ℕ) (e : CsExprTree) (r : Plain) : Type 0 where
    pub x : ℕ
    pub address : e ≡ Address x
    pub cell : Cell
    pub known : IsAccessed ty x cell
    pub result : with_temp p d cell.numbers (Some x) ≡ r
    pub under : AreUnder cells (slice_set copies d (Some x)) r

  pub load_under : (ty : Scalar) (d : ℕ) (e : CsExprTree) (r : Plain) → d < length copies → plains.plain_load p d ty e ≡ Some r → IsLoadUnder ty d e r
  load_under ty d (Address x) r there g =
      let c = map_some (λ (cell : Cell). with_temp p d cell.numbers (Some x)) (cell_at p ty x) r g in
      record {
        x = x;
        address = refl;
        cell = c.0;
        known = accessed ty x c.0 c.1;
        result = c.2;
        under = subst (AreUnder cells (slice_set copies d (Some x))) c.2 (temp_under cells copies p k d c.0.numbers (Some x) (Some x) there (λ y h. h));
      }
  load_under ty d (Const t n) r there g = absurd (cc)
  load_under ty d Null r there g = absurd (cc)
  load_under ty d (Temp e) r there g = absurd (cc)
  load_under ty d (Unary op a) r there g = absurd (cc)
  load_under ty d (Binary op a b) r there g = absurd (cc)
  load_under ty d (Convert t a) r there g = absurd (cc)

  -- an object that changes is known as the plain run has it
  object_under : (x : ℕ) (v : Option KnownCell) (cell : Option Cell) → ((e : Cell) → cell ≡ Some e → (x < length cells) × (c : KnownCell) × (v ≡ Some c) × IsUnderCell c e)
      → AreUnder (slice_set cells x v) (without x copies) (with_object p x cell)
  object_under x v cell here = record {
    cells_under = λ y e g. ⊎_elim
        (λ same. let h = here e (sym (cond-true (y == x) cell (p.objects y) (eq-eqb y x same)) ∙ g) in (
          h.1,
          subst (λ (i : ℕ). cell_of (slice_set cells x v) i ≡ Some h.1) (sym same) (put_at cells x v h.0 ∙ h.2),
          h.3,
        ))
        (λ ne. let u = k.cells_under y e (sym (cond-false (y == x) cell (p.objects y) (ne_eqb y x ne)) ∙ g) in (u.0, put_apart cells x y v ne ∙ u.1, u.2))
        (cases_eq y x);
    copies_under = λ d y g.
        let u = unless_some x (p.copies d) y g in
        without_at x copies d ∙ ap (unless x) (k.copies_under d y u.0) ∙ unless_keeps x y u.1;
  }

  stored_under : (c : KnownCell) (cell : Cell) (s : Span) (range : Range) → IsUnderCell c cell → LiesIn c.ty range → NoWider range (range_of s)
      → IsUnderCell (stored_cell range c) (assigned cell s)
  stored_under c cell s range u lies under = record {
    ty = u.ty;
    numbers = lies_converted cell.ty range s (subst (λ (t : IntType). LiesIn t range) u.ty lies) under;
    undefined = λ h. absurd (cc);
    read_only = u.read_only;
  }

  -- and so is a store
  pub record IsStoreUnder (ts : List Scalar) (ty : Scalar) (to e : CsExprTree) (r : Plain) : Type 0 where
    pub x : ℕ
    pub address : to ≡ Address x
    pub cell : Cell
    pub known : IsAccessed ty x cell
    pub numbers : Span
    pub value : span_of ts p e ≡ Some numbers
    pub result : with_object p x (Some (assigned cell numbers)) ≡ r
    pub under : (range : Range) → LiesIn known.c.ty range → NoWider range (range_of numbers)
        → AreUnder (slice_set cells x (Some (stored_cell range known.c))) (without x copies) r

  pub store_under : (ts : List Scalar) (ty : Scalar) (to e : CsExprTree) (r : Plain) → plains.plain_store ts p ty to e ≡ Some r → IsStoreUnder ts ty to e r
  store_under ts ty (Address x) e r g =
      let c = and_then_some (λ (cell : Cell). option_map (λ s. with_object p x (Some (assigned cell s))) (span_of ts p e)) (cell_at p ty x) r g in
      let s = map_some (λ s. with_object p x (Some (assigned c.0 s))) (span_of ts p e) r c.2 in
      let a = accessed ty x c.0 c.1 in
      record {
        x = x;
        address = refl;
        cell = c.0;
        known = a;
        numbers = s.0;
        value = s.1;
        result = s.2;
        under = λ range lies under. subst (AreUnder (slice_set cells x (Some (stored_cell range a.c))) (without x copies)) s.2
            (object_under x (Some (stored_cell range a.c)) (Some (assigned c.0 s.0))
            (λ e f. let same : assigned c.0 s.0 ≡ e = cc in
            (entry_within cells x a.c a.is, stored_cell range a.c, refl, subst (IsUnderCell (stored_cell range a.c)) same (stored_under a.c c.0 s.0 range a.under lies under))));
      }
  store_under ts ty (Const t n) e r g = absurd (cc)
  store_under ts ty Null e r g = absurd (cc)
  store_under ts ty (Temp d) e r g = absurd (cc)
  store_under ts ty (Unary op a) e r g = absurd (cc)
  store_under ts ty (Binary op a b) e r g = absurd (cc)
  store_under ts ty (Convert t a) e r g = absurd (cc)

  undefined_under : (c : KnownCell) (cell : Cell) → IsUnderCell c cell → IsUnderCell (undefined_cell c) (declared cell.ty cell.read_only)
  undefined_under c cell u = record {
    ty = u.ty;
    numbers = subst (λ (t : IntType). NoWider (range_of (type_span c.ty)) (range_of (type_span t))) u.ty (as_wide (range_of (type_span c.ty)));
    undefined = λ h. refl;
    read_only = u.read_only;
  }

  pub undefine_under : (x : ℕ) (r : Plain) → plains.plain_undefine p x ≡ Some r → (cell : Option Cell) × (with_object p x cell ≡ r)
      × AreUnder (slice_set cells x (option_map undefined_cell (cell_of cells x))) (without x copies) r
  undefine_under x r g =
      let c = map_some (λ (cell : Cell). with_object p x (Some (declared cell.ty cell.read_only))) (p.objects x) r g in
      let u = k.cells_under x c.0 c.1 in (
        Some (declared c.0.ty c.0.read_only),
        c.2,
        subst (AreUnder (slice_set cells x (option_map undefined_cell (cell_of cells x))) (without x copies)) c.2
            (object_under x (option_map undefined_cell (cell_of cells x)) (Some (declared c.0.ty c.0.read_only))
            (λ e f. let same : declared c.0.ty c.0.read_only ≡ e = cc in (
              entry_within cells x u.0 u.1,
              undefined_cell u.0,
              ap (option_map undefined_cell) u.1,
              subst (IsUnderCell (undefined_cell u.0)) same (undefined_under u.0 c.0 u.2),
            ))),
      )

-- ---- objects that begin and end

opened_under : (object : ObjectTree) (ty : CTypeTree) (cell : Cell) → begun object ty ≡ Some cell → (c : KnownCell) × (opened_cell object ty ≡ Some c) × IsUnderCell c cell
opened_under object (Int t) cell g =
    let same : declared t object.read_only ≡ cell = cc in
    let own : KnownCell = record { ty = t; range = range_of (type_span t); may_be_undefined = true; read_only = object.read_only } in
    (own, refl, subst (IsUnderCell own) same (record { ty = refl; numbers = as_wide (range_of (type_span t)); undefined = λ h. refl; read_only = refl }))
opened_under object types.Void cell g = absurd (cc)
opened_under object (types.Pointer to is_const) cell g = absurd (cc)
opened_under object (types.Array of is_const n) cell g = absurd (cc)
opened_under object (types.Struct n) cell g = absurd (cc)
opened_under object (types.Function n) cell g = absurd (cc)

all_within : (cells : List (Option KnownCell)) (x : ℕ) (v : Option KnownCell) (xs : List ℕ) → All (λ y. y < length cells) xs → All (λ y. y < length (slice_set cells x v)) xs
all_within cells x v xs h = subst (λ (n : ℕ). All (λ y. y < n) xs) (sym (length-set cells x v)) h

pub enter_under : (objects : List ObjectTree) (xs : List ℕ) (cells : List (Option KnownCell)) (copies : List (Option ℕ)) (p r : Plain) → AreUnder cells copies p
    → All (λ x. x < length cells) xs → plains.plain_enter objects xs p ≡ Some r → AreUnder (entered objects xs cells) (without_all xs copies) r
enter_under objects [] cells copies p r k h g = let same : p ≡ r = cc in subst (AreUnder cells copies) same k
enter_under objects (x ∷ xs) cells copies p r k h g =
    let o = and_then_some (λ (object : ObjectTree). option_and_then (λ cell. plains.plain_enter objects xs (with_object p x (Some cell))) (begun object object.ty))
    (slice_get objects x) r g in
    let c = and_then_some (λ cell. plains.plain_enter objects xs (with_object p x (Some cell))) (begun o.0 o.0.ty) r o.2 in
    let u = opened_under o.0 o.0.ty c.0 c.1 in
    let at : opened_at objects x ≡ Some u.0 = ap (option_and_then (λ (object : ObjectTree). opened_cell object object.ty)) o.1 ∙ u.1 in
    enter_under objects xs (slice_set cells x (opened_at objects x)) (without x copies) (with_object p x (Some c.0)) r
    (object_under cells copies p k x (opened_at objects x) (Some c.0)
    (λ e f. let same : c.0 ≡ e = cc in (All-head (λ y. y < length cells) x xs h, u.0, at, subst (IsUnderCell u.0) same u.2)))
    (all_within cells x (opened_at objects x) xs (All-tail (λ y. y < length cells) x xs h)) c.2

-- the temporaries stay
pub enter_temps : (objects : List ObjectTree) (xs : List ℕ) (p r : Plain) → plains.plain_enter objects xs p ≡ Some r → r.temps ≡ p.temps
enter_temps objects [] p r g = let same : p ≡ r = cc in ap (λ (q : Plain). q.temps) (sym same)
enter_temps objects (x ∷ xs) p r g =
    let o = and_then_some (λ (object : ObjectTree). option_and_then (λ cell. plains.plain_enter objects xs (with_object p x (Some cell))) (begun object object.ty))
    (slice_get objects x) r g in
    let c = and_then_some (λ cell. plains.plain_enter objects xs (with_object p x (Some cell))) (begun o.0 o.0.ty) r o.2 in
    enter_temps objects xs (with_object p x (Some c.0)) r c.2

pub leave_under : (xs : List ℕ) (cells : List (Option KnownCell)) (copies : List (Option ℕ)) (p : Plain) → AreUnder cells copies p
    → AreUnder (ended xs cells) (without_all xs copies) (plains.plain_leave xs p)
leave_under [] cells copies p k = k
leave_under (x ∷ xs) cells copies p k =
    leave_under xs (slice_set cells x None) (without x copies) (with_object p x None) (object_under cells copies p k x None None (λ e f. absurd (cc)))

pub leave_temps : (xs : List ℕ) (p : Plain) → (plains.plain_leave xs p).temps ≡ p.temps
leave_temps [] p = refl
leave_temps (x ∷ xs) p = leave_temps xs (with_object p x None)
