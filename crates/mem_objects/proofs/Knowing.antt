-- What each statement leaves of what is known of objects and copies.
use Rattle.std.proofs.Common.{◌≡◌, ◌≢◌, ◌⊎◌, inl, inr, ℕ, ℤ, ◌<◌, refl, sym, subst, ap, ◌∙◌, ⊎_elim, Bool, true, false, List, [], ◌∷◌, length, replicate, Option, Some, None, Result, Ok, Err}
use Rattle.std.specs.Option.{ok_or}
use Rattle.std.specs.Prelude.{All, if◌then◌else◌, option_map, option_and_then, slice_get, slice_set}
use Rattle.std.proofs.lemmas.Bool.{cases_eq}
use Rattle.std.proofs.lemmas.List.Elements.{All-head, All-tail}
use Rattle.c_syntax_written.specs.declared.int_type.IntType.{IntType}
use Rattle.c_syntax_written.specs.Integer.{wrapped}
use Rattle.c_syntax.specs.declared.alarm.WrongKind.{WrongKind}
use Rattle.c_syntax.specs.declared.alarm.WrongKind.TheVariants as kinds
use Rattle.c_syntax.specs.Operand.{Operand, Mark, HasValue}
use Rattle.c_syntax.specs.Operand as operands
use Rattle.c_syntax.specs.Types.{ObjectTree, CTypeTree, Int}
use Rattle.c_syntax.specs.Types as types
use Rattle.block_mem.specs.declared.types.Byte.{Byte}
use Rattle.block_mem.specs.declared.types.Scalar.{Scalar}
use Rattle.block_mem.specs.declared.types.Scalar.TheVariants as scalars
use Rattle.block_mem.specs.declared.types.Value.{Value}
use Rattle.block_mem.specs.declared.types.Value.TheVariants as values
use Rattle.block_mem.specs.Blocks as blocks
use Rattle.block_mem.specs.Blocks.{after_access, bytes_at, loaded}
use Rattle.block_mem.specs.Bytes.{size_of, has_undef, mark_of, value_or_broken}
use Rattle.block_mem.specs.Bytes.{value_of as of_bytes}
use Rattle.block_mem.specs.Numbers.{number_in, number_of}
use Rattle.c_values.specs.Accesses.{mark, ok_of}
use Rattle.c_values.specs.Places.{ObjectMemory, place_of}
use Rattle.c_objects.specs.Opening.{address, opened, shut, undefined}
use Rattle.c_objects.specs.Writing.{with_blocks, stored_at, copied_at}
use Rattle.num_api.specs.declared.message.Range.{Range}
use Rattle.num_api.specs.Ranges.{InRange}
use Rattle.num_api.proofs.Parts.{in_point}
use Rattle.machine_nums.proofs.Wrapped.{inside_has}
use Rattle.csharp.specs.Trees.{CsExprTree, Const, Null, Temp, Address, Unary, Binary, Convert, CsProgramTree}
use Rattle.csharp.specs.States.{State, first, value_of, on_both}
use Rattle.csharp.specs.Actions as acts
use Rattle.csharp.specs.Actions.{put, loaded_at}
use Rattle.mem_temps.specs.Operators.{LiesIn}
use Rattle.mem_temps.proofs.Ranged.{and_then_some, map_some}
use Rattle.mem_objects.specs.declared.cells.KnownCell.{KnownCell}
use Rattle.mem_objects.specs.Cells.{cell_of, stored_cell, undefined_cell, opened_at, entered, ended, number_loaded, read_number, number_cell, read_cell, read_at}
use Rattle.mem_objects.specs.Copies.{copy_of, without, without_all, source_in}
use Rattle.mem_objects.specs.Known.{KeepsPlaces, start_of, found_at, IsFound, HoldsCell, IsCopy, AreKnown}
use Rattle.mem_objects.proofs.Lists.{put_here, put_apart, nothing_at, get_apart, get_here}
use Rattle.mem_objects.proofs.Places.{ChangesOnly, changes_bytes, changes_opened, changes_shut, given, places_stored, places_copied, places_undefined, places_opened, places_shut, places_start}
use Rattle.mem_objects.proofs.Held.{held_put, copies_without, held_stored, held_undefined, held_opened}

-- ---- what a load gives

loaded_ok : (r : Result Value WrongKind) (v : Value) → ok_of r ≡ Some v → r ≡ Ok v
loaded_ok (Ok w) v e = let same : w ≡ v = cc in let ok : Value → Result Value WrongKind = λ x. Ok x in ap ok same
loaded_ok (Err k) v e = absurd (cc)

passed_ok : (wrong : Option WrongKind) (r : Result Value WrongKind) (v : Value) → ok_of (after_access wrong r) ≡ Some v → r ≡ Ok v
passed_ok None r v e = loaded_ok r v e
passed_ok (Some k) r v e = absurd (cc)

-- a value that is found is a number in the range
pub found_number : (c : KnownCell) (v : Value) → IsFound c (Ok v) → (n : ℤ) × (v ≡ values.Int c.ty n) × InRange c.range n
found_number c (values.Int t n) h = (n, ap (λ (x : IntType). values.Int x n) h.0, h.1)
found_number c (values.Ptr p) h = absurd h
found_number c values.Null h = absurd h

-- a load of an object gives what stands at its start
loaded_from : (m : ObjectMemory) (x : ℕ) (t : IntType) (v : Value) → option_and_then (loaded_at m (scalars.Int t)) (address m x 0) ≡ Some v
    → (b : ℕ) × (place_of m x ≡ Some b) × (found_at m b t ≡ Ok v)
loaded_from m x t v e =
    let w = and_then_some (loaded_at m (scalars.Int t)) (address m x 0) v e in
    let b = map_some (λ b. values.Ptr (start_of b)) (place_of m x) w.0 w.1 in
    let at : loaded_at m (scalars.Int t) (values.Ptr (start_of b.0)) ≡ Some v = ap (loaded_at m (scalars.Int t)) b.2 ∙ w.2 in
    (b.0, b.1, passed_ok _ _ v at)

pub one_place : (m : ObjectMemory) (x b c : ℕ) → place_of m x ≡ Some b → place_of m x ≡ Some c → b ≡ c
one_place m x b c p q = let e : Some b ≡ Some c = sym p ∙ q in cc

-- ---- nothing is known any more

pub nothing_known : (objects : List ObjectTree) (n k : ℕ) (s : State) → KeepsPlaces objects s.memory → AreKnown objects (replicate n None) (replicate k None) s
nothing_known objects n k s places = record {
  places = places;
  cells_held = λ x c e. let no = nothing_at {X = KnownCell} n x in absurd (cc);
  copies_held = λ d x e. let no = nothing_at {X = ℕ} k d in absurd (cc);
}

module _ (objects : List ObjectTree) (cells : List (Option KnownCell)) (copies : List (Option ℕ)) (s : State) (k : AreKnown objects cells copies s) where
  -- ---- temporaries

  copy_apart : (d e x : ℕ) (v : Value) → e ≢ d → IsCopy objects s e x → IsCopy objects (put s d v) e x
  copy_apart d e x v ne h = record {
    object = h.object;
    is = h.is;
    ty = h.ty;
    typed = h.typed;
    block = h.block;
    place = h.place;
    value = h.value;
    temp = get_apart s.temps d e v ne ∙ h.temp;
    found = h.found;
  }

  -- a temporary gets a value, which is that of an object or of none
  put_as : (d : ℕ) (v : Value) (o : Option ℕ) → ((x : ℕ) → o ≡ Some x → IsCopy objects (put s d v) d x) → AreKnown objects cells (slice_set copies d o) (put s d v)
  put_as d v o here = record {
    places = k.places;
    cells_held = k.cells_held;
    copies_held = λ e x g. ⊎_elim
        (λ same. subst (λ (i : ℕ). IsCopy objects (put s d v) i x) (sym same)
        (here x (put_here copies d o x (subst (λ (i : ℕ). copy_of (slice_set copies d o) i ≡ Some x) same g))))
        (λ ne. copy_apart d e x v ne (k.copies_held e x (sym (put_apart copies d e o ne) ∙ g))) (cases_eq e d);
  }

  pub put_known : (d : ℕ) (v : Value) → AreKnown objects cells (slice_set copies d None) (put s d v)
  put_known d v = put_as d v None (λ x e. absurd (cc))

  source_copy : (d : ℕ) (e : CsExprTree) (v : Value) (x : ℕ) → d < length s.temps → value_of e s ≡ Some v → source_in copies e ≡ Some x
      → IsCopy objects (put s d v) d x
  source_copy d (Temp f) v x there h g =
      let i = k.copies_held f x g in
      let both : Some i.value ≡ Some v = sym i.temp ∙ h in
      let same : i.value ≡ v = cc in
      record {
        object = i.object;
        is = i.is;
        ty = i.ty;
        typed = i.typed;
        block = i.block;
        place = i.place;
        value = v;
        temp = get_here s.temps d v there;
        found = subst (λ (w : Value). found_at s.memory i.block i.ty ≡ Ok w) same i.found;
      }
  source_copy d (Const t n) v x there h g = absurd (cc)
  source_copy d Null v x there h g = absurd (cc)
  source_copy d (Address y) v x there h g = absurd (cc)
  source_copy d (Unary op a) v x there h g = absurd (cc)
  source_copy d (Binary op a b) v x there h g = absurd (cc)
  source_copy d (Convert t a) v x there h g = absurd (cc)

  -- a copy of a temporary is a copy of what that is
  pub set_known : (d : ℕ) (e : CsExprTree) (t : State) → d < length s.temps → acts.set d e s ≡ Some t → AreKnown objects cells (slice_set copies d (source_in copies e)) t
  set_known d e t there g =
      let v = map_some (put s d) (value_of e s) t g in
      subst (AreKnown objects cells (slice_set copies d (source_in copies e))) v.2 (put_as d v.0 (source_in copies e) (λ x h. source_copy d e v.0 x there v.1 h))

  pub load_forgets : (d : ℕ) (ty : Scalar) (e : CsExprTree) (t : State) → acts.load d ty e s ≡ Some t → AreKnown objects cells (slice_set copies d None) t
  load_forgets d ty e t g =
      let v = map_some (put s d) (option_and_then (loaded_at s.memory ty) (value_of e s)) t g in
      subst (AreKnown objects cells (slice_set copies d None)) v.2 (put_known d v.0)

  -- a load of an object gives a number in its range, and a copy
  pub load_known : (d x : ℕ) (c : KnownCell) (t : State) → d < length s.temps → cell_of cells x ≡ Some c → acts.load d (scalars.Int c.ty) (Address x) s ≡ Some t
      → (n : ℤ) × (t ≡ put s d (values.Int c.ty n)) × InRange c.range n × AreKnown objects cells (slice_set copies d (Some x)) t
  load_known d x c t there e g =
      let v = map_some (put s d) (option_and_then (loaded_at s.memory (scalars.Int c.ty)) (address s.memory x 0)) t g in
      let b = loaded_from s.memory x c.ty v.0 v.1 in
      let h = k.cells_held x c e in
      let same = one_place s.memory x h.block b.0 h.place b.1 in
      let found : IsFound c (Ok v.0) = subst (IsFound c) (ap (λ (i : ℕ). found_at s.memory i c.ty) same ∙ b.2) h.found in
      let n = found_number c v.0 found in
      let copy : (y : ℕ) → Some x ≡ Some y → IsCopy objects (put s d v.0) d y = λ y f.
      let one : x ≡ y = cc in
      subst (IsCopy objects (put s d v.0) d) one (record {
        object = h.object;
        is = h.is;
        ty = c.ty;
        typed = h.typed;
        block = b.0;
        place = b.1;
        value = v.0;
        temp = get_here s.temps d v.0 there;
        found = b.2;
      }) in
      (n.0, sym v.2 ∙ ap (put s d) n.1, n.2, subst (AreKnown objects cells (slice_set copies d (Some x))) v.2 (put_as d v.0 (Some x) copy))

  inputs_known : (is : List ℤ) → AreKnown objects cells copies (record s { inputs = is })
  inputs_known is = record {
    places = k.places;
    cells_held = k.cells_held;
    copies_held = λ d x e. let h = k.copies_held d x e in record {
      object = h.object;
      is = h.is;
      ty = h.ty;
      typed = h.typed;
      block = h.block;
      place = h.place;
      value = h.value;
      temp = h.temp;
      found = h.found;
    };
  }

  -- ---- one object

  -- what holds where one object changes
  changed_known : (n : ObjectMemory) (x : ℕ) (v : Option KnownCell) → KeepsPlaces objects n → ChangesOnly s.memory n x
      → ((c : KnownCell) → v ≡ Some c → HoldsCell objects n x c) → AreKnown objects (slice_set cells x v) (without x copies) (record s { memory = n })
  changed_known n x v places only here = record {
    places = places;
    cells_held = held_put objects cells s.memory n x v k.cells_held only here;
    copies_held = copies_without objects copies s n x k.copies_held only;
  }

  -- a store at the start of an object
  stored_parts : (ty : Scalar) (x : ℕ) (e : CsExprTree) (t : State) → acts.store ty (Address x) e s ≡ Some t
      → (b : ℕ) × (v : Value) × (n : ObjectMemory) × (place_of s.memory x ≡ Some b) × (value_of e s ≡ Some v)
      × (stored_at s.memory ty (values.Ptr (start_of b)) v ≡ Some n) × (record s { memory = n } ≡ t)
  stored_parts ty x e t g =
      let m = map_some (λ memory. record s { memory = memory }) (on_both (Address x) e s (stored_at s.memory ty)) t g in
      let v = and_then_some (λ v. option_and_then (stored_at s.memory ty v) (value_of e s)) (value_of (Address x) s) m.0 m.1 in
      let u = and_then_some (stored_at s.memory ty v.0) (value_of e s) m.0 v.2 in
      let b = map_some (λ b. values.Ptr (start_of b)) (place_of s.memory x) v.0 v.1 in
      (b.0, u.0, m.0, b.1, u.1, subst (λ (w : Value). stored_at s.memory ty w u.0 ≡ Some m.0) (sym b.2) u.2, m.2)

  stored_only : (ty : Scalar) (x b : ℕ) (v : Value) (n : ObjectMemory) → place_of s.memory x ≡ Some b
      → stored_at s.memory ty (values.Ptr (start_of b)) v ≡ Some n → ChangesOnly s.memory n x
  stored_only ty x b v n p e = subst (λ (y : ObjectMemory). ChangesOnly s.memory y x) (given _ _ n e).1
      (changes_bytes (length objects) s.memory k.places.owned x b _ p)

  -- behind a store to an object at its own type its number lies in the range of the value, and it has one
  pub store_known : (x : ℕ) (c : KnownCell) (e : CsExprTree) (r : Range) (i : ℤ) (t : State) → cell_of cells x ≡ Some c → value_of e s ≡ Some (values.Int c.ty i)
      → LiesIn c.ty r → InRange r i → acts.store (scalars.Int c.ty) (Address x) e s ≡ Some t
      → AreKnown objects (slice_set cells x (Some (stored_cell r c))) (without x copies) t
  store_known x c e r i t f is lies inside g =
      let p = stored_parts (scalars.Int c.ty) x e t g in
      let h = k.cells_held x c f in
      let same = one_place s.memory x p.0 h.block p.3 h.place in
      let both : Some p.1 ≡ Some (values.Int c.ty i) = sym p.4 ∙ is in
      let value : p.1 ≡ values.Int c.ty i = cc in
      let at : stored_at s.memory (scalars.Int c.ty) (values.Ptr (start_of h.block)) (values.Int c.ty i) ≡ Some p.2 =
      subst (λ (b : ℕ). stored_at s.memory (scalars.Int c.ty) (values.Ptr (start_of b)) (values.Int c.ty i) ≡ Some p.2) same
      (subst (λ (v : Value). stored_at s.memory (scalars.Int c.ty) (values.Ptr (start_of p.0)) v ≡ Some p.2) value p.5) in
      let held = held_stored objects s.memory p.2 x c r i k.places h (inside_has c.ty r i lies inside) inside at in
      subst (AreKnown objects (slice_set cells x (Some (stored_cell r c))) (without x copies)) p.6
      (changed_known p.2 x (Some (stored_cell r c)) (places_stored objects s.memory p.2 k.places (scalars.Int c.ty) (values.Ptr (start_of p.0)) p.1 p.5)
      (stored_only (scalars.Int c.ty) x p.0 p.1 p.2 p.3 p.5)
      (λ d q. let one : stored_cell r c ≡ d = cc in subst (HoldsCell objects p.2 x) one held))

  -- behind a store to an object at any type nothing is known of it, and the rest stays
  pub store_hides : (ty : Scalar) (x : ℕ) (e : CsExprTree) (t : State) → acts.store ty (Address x) e s ≡ Some t
      → AreKnown objects (slice_set cells x None) (without x copies) t
  store_hides ty x e t g =
      let p = stored_parts ty x e t g in
      subst (AreKnown objects (slice_set cells x None) (without x copies)) p.6
      (changed_known p.2 x None (places_stored objects s.memory p.2 k.places ty (values.Ptr (start_of p.0)) p.1 p.5) (stored_only ty x p.0 p.1 p.2 p.3 p.5)
      (λ c q. absurd (cc)))

  -- and behind one at any address nothing is known
  pub store_forgets : (n m : ℕ) (ty : Scalar) (e f : CsExprTree) (t : State) → acts.store ty e f s ≡ Some t
      → AreKnown objects (replicate n None) (replicate m None) t
  store_forgets n m ty e f t g =
      let w = map_some (λ memory. record s { memory = memory }) (on_both e f s (stored_at s.memory ty)) t g in
      let v = and_then_some (λ v. option_and_then (stored_at s.memory ty v) (value_of f s)) (value_of e s) w.0 w.1 in
      let u = and_then_some (stored_at s.memory ty v.0) (value_of f s) w.0 v.2 in
      subst (AreKnown objects (replicate n None) (replicate m None)) w.2
      (nothing_known objects n m (record s { memory = w.0 }) (places_stored objects s.memory w.0 k.places ty v.0 u.0 u.2))

  pub copy_forgets : (n m size : ℕ) (to from : CsExprTree) (t : State) → acts.copy_bytes size to from s ≡ Some t
      → AreKnown objects (replicate n None) (replicate m None) t
  copy_forgets n m size to from t g =
      let w = map_some (λ memory. record s { memory = memory }) (on_both to from s (λ v u. copied_at s.memory v u size)) t g in
      let v = and_then_some (λ v. option_and_then (λ u. copied_at s.memory v u size) (value_of from s)) (value_of to s) w.0 w.1 in
      let u = and_then_some (λ u. copied_at s.memory v.0 u size) (value_of from s) w.0 v.2 in
      subst (AreKnown objects (replicate n None) (replicate m None)) w.2
      (nothing_known objects n m (record s { memory = w.0 }) (places_copied objects s.memory w.0 k.places v.0 u.0 size u.2))

  -- an object whose bytes lost their values has any number of its type, or none
  pub undefine_known : (x : ℕ) (t : State) → acts.undefine x s ≡ Some t
      → AreKnown objects (slice_set cells x (option_map undefined_cell (cell_of cells x))) (without x copies) t
  undefine_known x t g =
      let m = map_some (λ memory. record s { memory = memory }) (undefined s.memory x) t g in
      let b = map_some (λ b. with_blocks s.memory (blocks.with_undefined s.memory.blocks b)) (place_of s.memory x) m.0 m.1 in
      subst (AreKnown objects (slice_set cells x (option_map undefined_cell (cell_of cells x))) (without x copies)) m.2
      (changed_known m.0 x (option_map undefined_cell (cell_of cells x)) (places_undefined objects s.memory m.0 k.places x m.1)
      (subst (λ (y : ObjectMemory). ChangesOnly s.memory y x) b.2 (changes_bytes (length objects) s.memory k.places.owned x b.0 _ b.1))
      (λ d q. let c = map_some undefined_cell (cell_of cells x) d q in
      subst (HoldsCell objects m.0 x) c.2 (held_undefined objects s.memory m.0 x c.0 k.places (k.cells_held x c.0 c.1) b.0 b.1 (sym b.2))))

-- ---- what a check of a load looks at

-- the bytes of an object that is known have a value, or none where that may be
marked : (c : KnownCell) (bs : List Byte) (undef : Bool) (o : Option Value) → has_undef bs ≡ undef → of_bytes (scalars.Int c.ty) bs ≡ o
    → IsFound c (if undef then Err kinds.Indeterminate else ok_or o kinds.Fragment) → ((mark_of (scalars.Int c.ty) bs ≡ operands.Undef) × (c.may_be_undefined ≡ true))
    ⊎ (mark_of (scalars.Int c.ty) bs ≡ HasValue)
marked c bs true o e f h = inl (ap (λ (u : Bool). if u then operands.Undef else value_or_broken (of_bytes (scalars.Int c.ty) bs)) e, h)
marked c bs false None e f h = absurd h
marked c bs false (Some v) e f h = inr
    (ap (λ (u : Bool). if u then operands.Undef else value_or_broken (of_bytes (scalars.Int c.ty) bs)) e ∙ ap value_or_broken f)

pub mark_known : (objects : List ObjectTree) (cells : List (Option KnownCell)) (copies : List (Option ℕ)) (s : State) → AreKnown objects cells copies s → (x : ℕ)
    (c : KnownCell) (v : Value) (o : Operand) → cell_of cells x ≡ Some c → value_of (Address x) s ≡ Some v → mark s.memory (Some (scalars.Int c.ty)) v ≡ Some o
    → ((o ≡ Mark operands.Undef) × (c.may_be_undefined ≡ true)) ⊎ (o ≡ Mark HasValue)
mark_known objects cells copies s k x c v o e f g =
    let b = map_some (λ b. values.Ptr (start_of b)) (place_of s.memory x) v f in
    let h = k.cells_held x c e in
    let bs = bytes_at s.memory.blocks (start_of b.0) (size_of (scalars.Int c.ty)) in
    let found : IsFound c (found_at s.memory b.0 c.ty) = subst (λ (i : ℕ). IsFound c (found_at s.memory i c.ty)) (one_place s.memory x h.block b.0 h.place b.1) h.found in
    let is : mark s.memory (Some (scalars.Int c.ty)) (values.Ptr (start_of b.0)) ≡ Some o = ap (mark s.memory (Some (scalars.Int c.ty))) b.2 ∙ g in
    let same : Mark (mark_of (scalars.Int c.ty) bs) ≡ o = cc in
    ⊎_elim (λ u. inl (sym same ∙ ap Mark u.0, u.1)) (λ w. inr (sym same ∙ ap Mark w))
    (marked c bs (has_undef bs) (of_bytes (scalars.Int c.ty) bs) refl refl found)

-- ---- inputs

input_from : (objects : List ObjectTree) (cells : List (Option KnownCell)) (copies : List (Option ℕ)) (temps : List Value) (m : ObjectMemory) (is : List ℤ)
    → AreKnown objects cells copies (record { temps = temps; memory = m; inputs = is }) → (d : ℕ) (ty : IntType) (t : State)
    → acts.input d ty (record { temps = temps; memory = m; inputs = is }) ≡ Some t → AreKnown objects cells (slice_set copies d None) t
input_from objects cells copies temps m [] k d ty t g = absurd (cc)
input_from objects cells copies temps m (n ∷ rest) k d ty t g =
    let after : State = record { temps = temps; memory = m; inputs = rest } in
    let same : put after d (values.Int ty (wrapped ty n)) ≡ t = cc in
    subst (AreKnown objects cells (slice_set copies d None)) same
    (put_known objects cells copies after (inputs_known objects cells copies (record { temps = temps; memory = m; inputs = n ∷ rest }) k rest) d
    (values.Int ty (wrapped ty n)))

pub input_known : (objects : List ObjectTree) (cells : List (Option KnownCell)) (copies : List (Option ℕ)) (s : State) → AreKnown objects cells copies s → (d : ℕ)
    (ty : IntType) (t : State) → acts.input d ty s ≡ Some t → AreKnown objects cells (slice_set copies d None) t
input_known objects cells copies s k d ty t g = input_from objects cells copies s.temps s.memory s.inputs k d ty t g

-- ---- objects that begin and end

-- an integer that begins to live has any number of its type, or none
pub enter_known : (objects : List ObjectTree) (xs : List ℕ) (cells : List (Option KnownCell)) (copies : List (Option ℕ)) (s : State) → All (λ x. x < length objects) xs
    → AreKnown objects cells copies s → AreKnown objects (entered objects xs cells) (without_all xs copies) (acts.enter objects xs s)
enter_known objects [] cells copies s h k = k
enter_known objects (x ∷ xs) cells copies s h k =
    enter_known objects xs (slice_set cells x (opened_at objects x)) (without x copies) (record s { memory = opened objects s.memory x })
    (All-tail (λ y. y < length objects) x xs h)
    (changed_known objects cells copies s k (opened objects s.memory x) x (opened_at objects x)
    (places_opened objects s.memory k.places x (All-head (λ y. y < length objects) x xs h)) (changes_opened (length objects) s.memory k.places.owned objects x)
    (λ c e. held_opened objects s.memory x c k.places e))

pub leave_known : (objects : List ObjectTree) (xs : List ℕ) (cells : List (Option KnownCell)) (copies : List (Option ℕ)) (s : State)
    → AreKnown objects cells copies s → AreKnown objects (ended xs cells) (without_all xs copies) (acts.leave xs s)
leave_known objects [] cells copies s k = k
leave_known objects (x ∷ xs) cells copies s k =
    leave_known objects xs (slice_set cells x None) (without x copies) (record s { memory = shut s.memory x })
    (changed_known objects cells copies s k (shut s.memory x) x None (places_shut objects s.memory k.places x)
    (changes_shut (length objects) s.memory k.places.owned x) (λ c e. absurd (cc)))

-- ---- the start

loaded_type : (m : ObjectMemory) (b : ℕ) (t u : IntType) (n : ℤ) → found_at m b t ≡ Ok (values.Int u n) → t ≡ u
loaded_type m b t u n f = by (has_undef (bytes_at m.blocks (start_of b) (size_of (scalars.Int t)))) (number_of (bytes_at m.blocks (start_of b) (size_of (scalars.Int t)))) f
  where
    by : (undef : Bool) (o : Option ℕ)
        → (if undef then Err kinds.Indeterminate else ok_or (option_map (λ k. values.Int t (number_in t k)) o) kinds.Fragment) ≡ Ok (values.Int u n) → t ≡ u
    by true o e = absurd (cc)
    by false None e = absurd (cc)
    by false (Some k) e = cc

value_loaded : (o : Option Value) (n : ℤ) → number_loaded o ≡ Some n → (u : IntType) × (o ≡ Some (values.Int u n))
value_loaded None n e = absurd (cc)
value_loaded (Some (values.Int u m)) n e = let same : m ≡ n = cc in (u, ap (λ (k : ℤ). Some (values.Int u k)) same)
value_loaded (Some (values.Ptr p)) n e = absurd (cc)
value_loaded (Some values.Null) n e = absurd (cc)

-- what is read of an object holds
read_held : (objects : List ObjectTree) (m : ObjectMemory) (x : ℕ) (c : KnownCell) → read_at objects m x ≡ Some c → HoldsCell objects m x c
read_held objects m x c e =
    let o = and_then_some (λ (object : ObjectTree). read_cell m x object object.ty) (slice_get objects x) c e in by o.0 o.1 o.0.ty refl o.2
  where
    by : (object : ObjectTree) → slice_get objects x ≡ Some object → (ty : CTypeTree) → object.ty ≡ ty → read_cell m x object ty ≡ Some c → HoldsCell objects m x c
    by object is (Int t) typed h =
        let n = map_some (number_cell object t) (read_number m x t) c h in
        let v = value_loaded (option_and_then (loaded_at m (scalars.Int t)) (address m x 0)) n.0 n.1 in
        let b = loaded_from m x t (values.Int v.0 n.0) v.1 in
        let found : IsFound (number_cell object t n.0) (found_at m b.0 t) =
        subst (IsFound (number_cell object t n.0)) (sym b.2) (sym (loaded_type m b.0 t v.0 n.0 b.2), in_point n.0 n.0 refl) in
        subst (HoldsCell objects m x) n.2
        (record { object = object; is = is; typed = typed; mark = refl; block = b.0; place = b.1; found = found })
    by object is types.Void typed h = absurd (cc)
    by object is (types.Pointer to is_const) typed h = absurd (cc)
    by object is (types.Array of is_const n) typed h = absurd (cc)
    by object is (types.Struct n) typed h = absurd (cc)
    by object is (types.Function n) typed h = absurd (cc)

pub start_known : (q : CsProgramTree) (inputs : List ℤ) (cells : List (Option KnownCell)) (count : ℕ)
    → ((x : ℕ) → cell_of cells x ≡ read_at q.objects (first q inputs).memory x) → AreKnown q.objects cells (replicate count None) (first q inputs)
start_known q inputs cells count read = record {
  places = places_start q.objects q.initial;
  cells_held = λ x c e. read_held q.objects (first q inputs).memory x c (sym (read x) ∙ e);
  copies_held = λ d x e. let no = nothing_at {X = ℕ} count d in absurd (cc);
}
