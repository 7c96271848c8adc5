-- What is shown of loads of known objects, and of one expression.
use Rattle.std.proofs.Common.{◌≡◌, ◌⊎◌, ◌<ℤ◌, ◌+ℤ◌, inl, inr, ℕ, zero, suc, ℤ, pos, Bool, true, false, arith, refl, sym, subst, ap, ◌∙◌, List, [], ◌∷◌, Option, Some, None, Err}
use Rattle.std.specs.Prelude.{IfSome, IsSomeAnd, IsTrue, ◌≤ℤ◌, if◌then◌else◌, ok_or, option_map, option_and_then, slice_get, ◌==◌, ◌&&◌}
use Rattle.std.proofs.lemmas.Bool.{and_parts, eqb-true}
use Rattle.std.proofs.lemmas.Int.{ints}
use Rattle.std.proofs.Math.IntN.{*ℤ_comm, zero-*ℤ}
use Rattle.c_syntax_written.specs.Integer.{bytes}
use Rattle.c_syntax.specs.declared.alarm.Check.{Check}
use Rattle.c_syntax.specs.declared.alarm.Pointers.{Pointers}
use Rattle.c_syntax.specs.declared.alarm.Shown.TheVariants as shows
use Rattle.c_syntax.specs.declared.alarm.Spot.{Spot}
use Rattle.c_syntax.specs.declared.alarm.Spot.TheVariants as spots
use Rattle.c_syntax.specs.declared.alarm.WrongKind.{WrongKind}
use Rattle.c_syntax.specs.declared.alarm.WrongKind.TheVariants as kinds
use Rattle.c_syntax.specs.Types.{ObjectTree, CTypeTree}
use Rattle.c_syntax.specs.Operand.{Operand, Point, Points, Number, Mark, End, Undef, Broken}
use Rattle.c_syntax.specs.Admission.{IsInShown, IsSpotIn, MeetsSpot, IsAt, IsNoMultiple, Fails, FailsKind}
use Rattle.block_mem.specs.declared.types.Byte.{Byte}
use Rattle.block_mem.specs.declared.types.Scalar.{Scalar}
use Rattle.block_mem.specs.declared.types.Scalar.TheVariants as scalars
use Rattle.block_mem.specs.declared.types.Value.{Value}
use Rattle.block_mem.specs.declared.types.Value.TheVariants as values
use Rattle.block_mem.specs.Blocks.{bytes_at, loaded}
use Rattle.block_mem.specs.Bytes.{has_undef, mark_of, size_of, value_of, value_or_broken}
use Rattle.c_values.specs.Accesses.{mark}
use Rattle.csharp.specs.Trees.{CsExprTree, Address, CsCheckTree}
use Rattle.csharp.specs.States.{State, operand_of}
use Rattle.mem_api.specs.Named.{IsNamed}
use Rattle.mem_api.specs.Showing.{looked_at}
use Rattle.plain_runs.specs.States.{Cell, Plain}
use Rattle.plain_runs.specs.Checks.{of_one, named_cell, loaded_cell, never, suspect_of, plain_suspect}
use Rattle.mem_temps.proofs.Ranged.{and_then_some, map_some}
use Rattle.mem_objects.specs.declared.cells.KnownCell.{KnownCell}
use Rattle.mem_objects.specs.Known.{AreHeld, IsFound, start_of}
use Rattle.mem_objects.specs.Under.{IsUnderCell, AreUnder, has_own_size, have_own_sizes}
use Rattle.mem_objects.proofs.Beneath.{accessed}
use Rattle.mem_places.specs.ShownPlaces.{IsShownPlace}
use Rattle.mem_intervals.specs.Marked.{LooksAtMark, IsLoaded, IsMarked}
use Rattle.mem_intervals.specs.Placed.{LooksAtPointer, IsShownAt}
use Rattle.mem_intervals.specs.Sets.{IsDeclared, AreDeclared}
use Rattle.mem_intervals.proofs.Suspects.{LooksAtNoNumber}

-- ---- marks

-- what a load finds tells the mark of its bytes
found_mark : (c : KnownCell) (bs : List Byte) → IsFound c (loaded (scalars.Int c.ty) bs) → IsInShown [] (Mark (mark_of (scalars.Int c.ty) bs)) (shows.Marks c.may_be_undefined true false)
found_mark c bs h = by (has_undef bs) h where
  of_value : (o : Option Value) → IsFound c (ok_or o kinds.Fragment) → IsInShown [] (Mark (value_or_broken o)) (shows.Marks c.may_be_undefined true false)
  of_value None k = absurd k
  of_value (Some v) k = refl

  by : (b : Bool) → IsFound c (if b then Err kinds.Indeterminate else ok_or (value_of (scalars.Int c.ty) bs) kinds.Fragment)
      → IsInShown [] (Mark (if b then Undef else value_or_broken (value_of (scalars.Int c.ty) bs))) (shows.Marks c.may_be_undefined true false)
  by true k = k
  by false k = of_value (value_of (scalars.Int c.ty) bs) k

mark_operand : (kind : WrongKind) (ty : Option Scalar) (e : CsExprTree) (s : State) (x : Operand) → LooksAtMark kind → operand_of kind ty (e ∷ []) s ≡ Some x
    → operand_of kinds.Indeterminate ty (e ∷ []) s ≡ Some x
mark_operand kinds.Indeterminate ty e s x looks h = h
mark_operand kinds.Fragment ty e s x looks h = h
mark_operand kind ty e s x looks h = absurd looks

module _ (c : CsCheckTree) (e : CsExprTree) (are : c.operands ≡ e ∷ []) (cells : List (Option KnownCell)) (x : ℕ) (known : KnownCell)
    (looks : LooksAtMark c.check.kind) (h : IsLoaded cells c.ty e x known) where
  -- the mark of a known object is shown
  pub marks_hold : (objects : List ObjectTree) (s : State) (y : Operand) → AreHeld objects cells s.memory → looked_at c s ≡ Some y
      → IsInShown objects y (shows.Marks known.may_be_undefined true false)
  marks_hold objects s y held look =
      let cell = held x known h.cell in
      let here : operand_of kinds.Indeterminate (Some (scalars.Int known.ty)) (Address x ∷ []) s ≡ Some y =
      subst (λ (ty : Option Scalar). operand_of kinds.Indeterminate ty (Address x ∷ []) s ≡ Some y) h.own
      (subst (λ (f : CsExprTree). operand_of kinds.Indeterminate c.ty (f ∷ []) s ≡ Some y) h.address
      (mark_operand c.check.kind c.ty e s y looks (subst (λ (es : List CsExprTree). operand_of c.check.kind c.ty es s ≡ Some y) are look))) in
      let at : Some (Mark (mark_of (scalars.Int known.ty) (bytes_at s.memory.blocks (start_of cell.block) (size_of (scalars.Int known.ty))))) ≡ Some y =
      sym (ap (λ (o : Option ℕ). option_and_then (mark s.memory (Some (scalars.Int known.ty))) (option_map (λ b. values.Ptr (start_of b)) o)) cell.place) ∙ here in
      let same : Mark (mark_of (scalars.Int known.ty) (bytes_at s.memory.blocks (start_of cell.block) (size_of (scalars.Int known.ty)))) ≡ y = cc in
      subst (λ (z : Operand). IsInShown objects z (shows.Marks known.may_be_undefined true false)) same
      (found_mark known (bytes_at s.memory.blocks (start_of cell.block) (size_of (scalars.Int known.ty))) cell.found)

  -- and where the plain run has no suspect, no mark is shown that fails
  pub marks_safe : (types : List Scalar) (objects : List ObjectTree) (copies : List (Option ℕ)) (p : Plain) (y : Operand) → AreUnder cells copies p
      → plain_suspect types p c ≡ Some false → IsInShown objects y (shows.Marks known.may_be_undefined true false) → Fails objects c.check y → ⊥
  marks_safe types objects copies p y under g shown fails = by c.check.kind looks g fails where
    undef_shown : (z : Operand) → z ≡ Mark Undef → IsInShown objects z (shows.Marks known.may_be_undefined true false) → known.may_be_undefined ≡ true
    undef_shown z is k = let t : IsInShown objects (Mark Undef) (shows.Marks known.may_be_undefined true false) = subst (λ (w : Operand). IsInShown objects w (shows.Marks known.may_be_undefined true false)) is k in t

    broken_shown : (z : Operand) → z ≡ Mark Broken → IsInShown objects z (shows.Marks known.may_be_undefined true false) → ⊥
    broken_shown z is k =
        let t : IsInShown objects (Mark Broken) (shows.Marks known.may_be_undefined true false) = subst (λ (w : Operand). IsInShown objects w (shows.Marks known.may_be_undefined true false)) is k in absurd (cc)

    by : (kind : WrongKind) → LooksAtMark kind → suspect_of types p c kind ≡ Some false → FailsKind objects c.check kind y → ⊥
    by kinds.Indeterminate l f bad =
        let o = map_some Cell.may_be_undefined (of_one c.operands (loaded_cell p c.ty)) false f in
        let at : loaded_cell p (Some (scalars.Int known.ty)) (Address x) ≡ Some o.0 =
        subst (λ (ty : Option Scalar). loaded_cell p ty (Address x) ≡ Some o.0) h.own
        (subst (λ (d : CsExprTree). loaded_cell p c.ty d ≡ Some o.0) h.address (ap (λ es. of_one es (loaded_cell p c.ty)) (sym are) ∙ o.1)) in
        let a = accessed cells copies p under (scalars.Int known.ty) x o.0 at in
        let both : Some a.c ≡ Some known = sym a.is ∙ h.cell in
        let same : a.c ≡ known = cc in
        let may = undef_shown y bad shown in
        let also = a.under.undefined (ap KnownCell.may_be_undefined same ∙ may) in
        let not = o.2 in absurd (cc)
    by kinds.Fragment l f bad = broken_shown y bad shown
    by kind l f bad = absurd l

-- ---- named places

-- the address of an object is shown at its start alone
start_only : (objects : List ObjectTree) (set : Pointers) (x : ℕ) → IsShownPlace (Address x) (Some set) → (y : Spot) → IsSpotIn objects set y → y ≡ spots.At x (pos 0)
start_only objects set x f y k =
    let only = f.named objects x 1 (inl refl) refl in
    let at = only.object y k in
    let zero = f.fixed (record { object = x; offset = pos 0 }) refl (omega (arith, ints), omega (arith, ints)) in
    let here : IsSpotIn objects set (spots.At x at.0) = subst (IsSpotIn objects set) at.1 k in
    let low : IfSome (Some (pos 0)) (λ l. l ≤ℤ at.0) = subst (λ o. IfSome o (λ l. l ≤ℤ at.0)) zero.0 here.1.0 in
    let high : IfSome (Some (pos 0)) (λ h. at.0 ≤ℤ h) = subst (λ o. IfSome o (λ h. at.0 ≤ℤ h)) zero.1 here.1.1 in
    let none : at.0 ≡ pos 0 = omega (arith, ints, low, high) in
    at.1 ∙ ap (spots.At x) none

point_shown : (objects : List ObjectTree) (set : Pointers) (y : Operand) → IsInShown objects y (shows.One set) → (s : Spot) × (y ≡ Point s) × IsSpotIn objects set s
point_shown objects set (Point s) k = (s, refl, k)
point_shown objects set (Number n) k = absurd k
point_shown objects set (Points s t) k = absurd k
point_shown objects set (Mark m) k = absurd k
point_shown objects set (End e) k = absurd k

address_named : (p : Plain) (e : CsExprTree) (cell : Cell) → named_cell p e ≡ Some cell → (x : ℕ) × (e ≡ Address x) × (p.objects x ≡ Some cell)
address_named p (Address x) cell g = (x, refl, g)
address_named p e cell g = absurd (cc)

module _ (types : List Scalar) (p : Plain) (c : CsCheckTree) (e : CsExprTree) (are : c.operands ≡ e ∷ []) where
  looked : {A : Type 0} (f : CsExprTree → Option A) (a : A) → of_one c.operands f ≡ Some a → f e ≡ Some a
  looked f a g = ap (λ es. of_one es f) (sym are) ∙ g

  -- the plain run tells nothing of loads, where no known object is loaded
  unmarked : (cells : List (Option KnownCell)) (copies : List (Option ℕ)) → AreUnder cells copies p → IsMarked cells c.check.kind c.ty e None → LooksAtMark c.check.kind
      → (cell : Cell) → of_one c.operands (loaded_cell p c.ty) ≡ Some cell → ⊥
  unmarked cells copies under none looks cell g = by c.ty e (looked (loaded_cell p c.ty) cell g) (none.none refl looks) where
    by : (ty : Option Scalar) (d : CsExprTree) → loaded_cell p ty d ≡ Some cell → ((x : ℕ) (k : KnownCell) → IsLoaded cells ty d x k → ⊥) → ⊥
    by (Some t) (Address x) h never_one = let a = accessed cells copies p under t x cell h in
        never_one x a.c (record { address = refl; cell = a.is; own = ap (λ (z : Scalar). Some z) a.own })
    by (Some t) d h never_one = absurd (cc)
    by None d h never_one = absurd (cc)

  -- nor of pointers, where none is one of a named place
  unplaced : IsShownAt c.check.kind e None → LooksAtPointer c.check.kind → (cell : Cell) → of_one c.operands (named_cell p) ≡ Some cell → ⊥
  unplaced none looks cell g =
      let a = address_named p e cell (looked (named_cell p) cell g) in
      (none.place looks).named [] a.0 1 (inl refl) (subst (IsNamed a.0 1) (sym a.1) refl)

  -- so nothing at all is told where the check looks at no number
  pub untold : (cells : List (Option KnownCell)) (copies : List (Option ℕ)) → AreUnder cells copies p → IsMarked cells c.check.kind c.ty e None → IsShownAt c.check.kind e None
      → (kind : WrongKind) → c.check.kind ≡ kind → LooksAtNoNumber kind → suspect_of types p c kind ≡ Some false → ⊥
  untold cells copies under none nowhere kinds.Indeterminate is plain g =
      let o = map_some Cell.may_be_undefined (of_one c.operands (loaded_cell p c.ty)) false g in unmarked cells copies under none (subst LooksAtMark (sym is) tt) o.0 o.1
  untold cells copies under none nowhere kinds.Fragment is plain g =
      let o = map_some never (of_one c.operands (loaded_cell p c.ty)) false g in unmarked cells copies under none (subst LooksAtMark (sym is) tt) o.0 o.1
  untold cells copies under none nowhere kinds.NullUse is plain g =
      let o = map_some never (of_one c.operands (named_cell p)) false g in unplaced nowhere (subst LooksAtPointer (sym is) tt) o.0 o.1
  untold cells copies under none nowhere kinds.Dangling is plain g =
      let o = map_some never (of_one c.operands (named_cell p)) false g in unplaced nowhere (subst LooksAtPointer (sym is) tt) o.0 o.1
  untold cells copies under none nowhere kinds.ReadOnly is plain g =
      let o = map_some Cell.read_only (of_one c.operands (named_cell p)) false g in unplaced nowhere (subst LooksAtPointer (sym is) tt) o.0 o.1
  untold cells copies under none nowhere kinds.Access is plain g =
      let o = map_some never (option_and_then _ (of_one c.operands (named_cell p))) false g in
      let a = and_then_some _ (of_one c.operands (named_cell p)) o.0 o.1 in unplaced nowhere (subst LooksAtPointer (sym is) tt) a.0 a.1
  untold cells copies under none nowhere kinds.Alignment is plain g =
      let o = map_some never (option_and_then _ (of_one c.operands (named_cell p))) false g in
      let a = and_then_some _ (of_one c.operands (named_cell p)) o.0 o.1 in unplaced nowhere (subst LooksAtPointer (sym is) tt) a.0 a.1
  untold cells copies under none nowhere kinds.Bounds is plain g = cc
  untold cells copies under none nowhere kinds.Unrelated is plain g = cc
  untold cells copies under none nowhere kinds.NoValue is plain g = cc
  untold cells copies under none nowhere kinds.Overflow is plain g = absurd plain
  untold cells copies under none nowhere kinds.Quotient is plain g = absurd plain
  untold cells copies under none nowhere kinds.ShiftResult is plain g = absurd plain
  untold cells copies under none nowhere kinds.ShiftAmount is plain g = absurd plain
  untold cells copies under none nowhere kinds.DivideByZero is plain g = absurd plain
  untold cells copies under none nowhere kinds.AssertFailed is plain g = absurd plain

-- ---- what is accessed is the whole of an integer object

-- an integer object has as many bytes as its type
own_bytes : (objects : List ObjectTree) (x : ℕ) (object : ObjectTree) → slice_get objects x ≡ Some object → have_own_sizes objects ≡ true
    → has_own_size object object.ty ≡ true
own_bytes [] x object e h = absurd (cc)
own_bytes (o ∷ os) zero object e h =
    let same : o ≡ object = cc in subst (λ (i : ObjectTree). has_own_size i i.ty ≡ true) same (and_parts (has_own_size o o.ty) (have_own_sizes os) h).0
own_bytes (o ∷ os) (suc x) object e h = own_bytes os x object e (and_parts (has_own_size o o.ty) (have_own_sizes os) h).1

fitting : (check : Check) (cell found : Cell) → (if check.size == bytes cell.ty && check.align == bytes cell.ty then Some cell else None) ≡ Some found → check.size ≡ bytes cell.ty
fitting check cell found h = by (check.size == bytes cell.ty && check.align == bytes cell.ty) refl h where
  by : (b : Bool) → (check.size == bytes cell.ty && check.align == bytes cell.ty) ≡ b → (if b then Some cell else None) ≡ Some found → check.size ≡ bytes cell.ty
  by true is k = eqb-true check.size (bytes cell.ty) (and_parts (check.size == bytes cell.ty) (check.align == bytes cell.ty) is).0
  by false is k = absurd (cc)

-- an object is accessed inside it, at a multiple of each alignment
within_object : (size accessed : ℕ) → size ≡ accessed → (pos 0 <ℤ pos 0) ⊎ (pos size <ℤ (pos 0 +ℤ pos accessed)) → ⊥
within_object size accessed same (inl k) = omega (arith, ints, k)
within_object size accessed same (inr k) = omega (arith, ints, same, k)

aligned : (align : ℕ) → IsNoMultiple align (pos 0) → ⊥
aligned align h = h (pos 0) (sym (*ℤ_comm (pos align) (pos 0) ∙ zero-*ℤ (pos align)))

-- the object of a plain run's cell
record IsObjectOf (objects : List ObjectTree) (x : ℕ) (cell : Cell) : Type 0 where
  object : ObjectTree
  is : slice_get objects x ≡ Some object
  size : object.size ≡ bytes cell.ty
  mark : object.read_only ≡ cell.read_only

module _ (objects : List ObjectTree) (cells : List (Option KnownCell)) (copies : List (Option ℕ)) (p : Plain) (under : AreUnder cells copies p)
    (declared : AreDeclared objects cells) (sizes : have_own_sizes objects ≡ true) where
  object_of : (x : ℕ) (cell : Cell) → p.objects x ≡ Some cell → IsObjectOf objects x cell
  object_of x cell g =
      let u = under.cells_under x cell g in
      let known : KnownCell = u.0 in
      let like : IsUnderCell known cell = u.2 in
      let d : IsDeclared objects x known = (declared x u.0 u.1).0 in
      let own = subst (λ (ty : CTypeTree). has_own_size d.object ty ≡ true) d.typed (own_bytes objects x d.object d.is sizes) in
      record {
        object = d.object;
        is = d.is;
        size = eqb-true d.object.size (bytes known.ty) own ∙ ap bytes like.ty;
        mark = d.mark ∙ like.read_only;
      }

  module _ (types : List Scalar) (c : CsCheckTree) (e : CsExprTree) (are : c.operands ≡ e ∷ []) (set : Pointers) (f : IsShownPlace e (Some set)) (y : Operand)
      (shown : IsInShown objects y (shows.One set)) where
    -- of an object that the plain run knows its start alone is shown
    start_shown : (cell : Cell) → of_one c.operands (named_cell p) ≡ Some cell → (x : ℕ) × (p.objects x ≡ Some cell) × (y ≡ Point (spots.At x (pos 0)))
    start_shown cell h =
        let a = address_named p e cell (ap (λ es. of_one es (named_cell p)) (sym are) ∙ h) in
        let s = point_shown objects set y shown in
        let at = start_only objects set a.0 (subst (λ (d : CsExprTree). IsShownPlace d (Some set)) a.1 f) s.0 s.2 in
        (a.0, a.2, s.1 ∙ ap Point at)

    no_meeting : (cell : Cell) (bad : Spot) → of_one c.operands (named_cell p) ≡ Some cell → ((x : ℕ) (d : ℤ) → spots.At x d ≡ bad → ⊥) → MeetsSpot bad y → ⊥
    no_meeting cell bad h other m = let s = start_shown cell h in other s.0 (pos 0) (subst (MeetsSpot bad) s.2 m)

    no_object : (P : ObjectTree → ℤ → Type 0) (cell : Cell) → of_one c.operands (named_cell p) ≡ Some cell
        → ((object : ObjectTree) → object.size ≡ bytes cell.ty → object.read_only ≡ cell.read_only → P object (pos 0) → ⊥) → IsAt objects P y → ⊥
    no_object P cell h never_so m =
        let s = start_shown cell h in
        let i = object_of s.0 cell s.1 in
        let here : IsSomeAnd (slice_get objects s.0) (λ object. P object (pos 0)) = subst (IsAt objects P) s.2 m in
        let there : P i.object (pos 0) = subst (λ (o : Option ObjectTree). IsSomeAnd o (λ object. P object (pos 0))) i.is here in
        never_so i.object i.size i.mark there

    not_null : (x : ℕ) (d : ℤ) → spots.At x d ≡ spots.Null → ⊥
    not_null x d h = absurd (cc)

    not_dead : (x : ℕ) (d : ℤ) → spots.At x d ≡ spots.Dead → ⊥
    not_dead x d h = absurd (cc)

    not_writable : (object : ObjectTree) (read_only : Bool) → read_only ≡ false → object.read_only ≡ read_only → IsTrue object.read_only → ⊥
    not_writable object read_only never_so same h = absurd (cc)

    -- and where the plain run has no suspect, no pointer is shown that fails
    pub place_safe : LooksAtPointer c.check.kind → plain_suspect types p c ≡ Some false → Fails objects c.check y → ⊥
    place_safe looks g fails = by c.check.kind looks g fails where
      by : (kind : WrongKind) → LooksAtPointer kind → suspect_of types p c kind ≡ Some false → FailsKind objects c.check kind y → ⊥
      by kinds.NullUse l g bad = let o = map_some never (of_one c.operands (named_cell p)) false g in no_meeting o.0 spots.Null o.1 not_null bad
      by kinds.Dangling l g bad = let o = map_some never (of_one c.operands (named_cell p)) false g in no_meeting o.0 spots.Dead o.1 not_dead bad
      by kinds.Bounds l g bad = cc
      by kinds.Access l g bad =
          let o = map_some never (option_and_then _ (of_one c.operands (named_cell p))) false g in
          let a = and_then_some _ (of_one c.operands (named_cell p)) o.0 o.1 in
          no_object (λ object d. (d <ℤ pos 0) ⊎ (pos object.size <ℤ (d +ℤ pos c.check.size))) a.0 a.1
          (λ object size mark out. within_object object.size c.check.size (size ∙ sym (fitting c.check a.0 o.0 a.2)) out) bad
      by kinds.Alignment l g bad =
          let o = map_some never (option_and_then _ (of_one c.operands (named_cell p))) false g in
          let a = and_then_some _ (of_one c.operands (named_cell p)) o.0 o.1 in
          no_object (λ object d. IsNoMultiple c.check.align d) a.0 a.1 (λ object size mark out. aligned c.check.align out) bad
      by kinds.ReadOnly l g bad =
          let o = map_some Cell.read_only (of_one c.operands (named_cell p)) false g in
          no_object (λ object d. IsTrue object.read_only) o.0 o.1 (λ object size mark out. not_writable object (Cell.read_only o.0) o.2 mark out) bad
      by kind l g bad = absurd l
