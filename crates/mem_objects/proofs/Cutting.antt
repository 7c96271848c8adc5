-- Objects cut to the ranges of their copies, and what holds on either of two ways.
use Rattle.std.proofs.Common.{◌≡◌, ◌⊎◌, inl, inr, ℕ, ℤ, refl, sym, subst, ap, ◌∙◌, Bool, true, false, List, [], ◌∷◌, Option, Some, None, Result, Ok, Err}
use Rattle.std.specs.Prelude.{IsTrue, ◌==◌, if◌then◌else◌, option_map, slice_get}
use Rattle.std.proofs.lemmas.Bool.{eqb-true, or_left, or_right}
use Rattle.c_syntax_written.specs.declared.int_type.IntType.{IntType}
use Rattle.c_syntax.specs.declared.alarm.WrongKind.{WrongKind}
use Rattle.c_syntax.specs.declared.alarm.WrongKind.TheVariants as kinds
use Rattle.c_syntax.specs.Types.{ObjectTree, Int}
use Rattle.block_mem.specs.declared.types.Value.{Value}
use Rattle.block_mem.specs.declared.types.Value.TheVariants as values
use Rattle.c_values.specs.Places.{ObjectMemory, place_of}
use Rattle.ext_int.specs.declared.Ext.TheVariants.{Fin}
use Rattle.ext_int.proofs.Ends.{AtMost-from_below, AtMost-from_above, Below-from_at_most, Above-from_at_most, AtMost_trans, greater_least, lesser_greatest, lesser_first, lesser_second, greater_first, greater_second, holds_number_from}
use Rattle.num_api.specs.declared.message.Range.{Range}
use Rattle.num_api.specs.Ranges.{InRange, common, hull}
use Rattle.csharp.specs.States.{State}
use Rattle.plain_runs.specs.States.{agreed}
use Rattle.mem_temps.specs.Values.{number_of}
use Rattle.mem_temps.specs.Ranges.{range_at, AreIn}
use Rattle.mem_temps.proofs.Ranged.{map_some}
use Rattle.mem_objects.specs.declared.cells.KnownCell.{KnownCell}
use Rattle.mem_objects.specs.Cells.{cell_of, narrowed, merged, IsJoined, IsWider, AreWider, cut_one, cut_by, has_number, copied_has_number, are_cells_left}
use Rattle.mem_objects.specs.Copies.{copy_of}
use Rattle.mem_objects.specs.Known.{found_at, IsFound, HoldsCell, AreHeld, IsCopy, AreCopies, AreKnown}
use Rattle.mem_objects.proofs.Places.{changes_nothing}
use Rattle.mem_objects.proofs.Held.{held_put}
use Rattle.mem_objects.proofs.Knowing.{found_number, one_place}

-- ---- ranges

pub in_common : (r s : Range) (n : ℤ) → InRange r n → InRange s n → InRange (common r s) n
in_common r s n i j = record {
  low = Below-from_at_most (common r s).lo n (greater_least (Fin n) r.lo s.lo (AtMost-from_below r.lo n i.low) (AtMost-from_below s.lo n j.low));
  high = Above-from_at_most (common r s).hi n (lesser_greatest (Fin n) r.hi s.hi (AtMost-from_above r.hi n i.high) (AtMost-from_above s.hi n j.high));
}

pub in_hull_first : (r s : Range) (n : ℤ) → InRange r n → InRange (hull r s) n
in_hull_first r s n i = record {
  low = Below-from_at_most (hull r s).lo n (AtMost_trans (hull r s).lo r.lo (Fin n) (lesser_first r.lo s.lo) (AtMost-from_below r.lo n i.low));
  high = Above-from_at_most (hull r s).hi n (AtMost_trans (Fin n) r.hi (hull r s).hi (AtMost-from_above r.hi n i.high) (greater_first r.hi s.hi));
}

pub in_hull_second : (r s : Range) (n : ℤ) → InRange s n → InRange (hull r s) n
in_hull_second r s n i = record {
  low = Below-from_at_most (hull r s).lo n (AtMost_trans (hull r s).lo s.lo (Fin n) (lesser_second r.lo s.lo) (AtMost-from_below s.lo n i.low));
  high = Above-from_at_most (hull r s).hi n (AtMost_trans (Fin n) s.hi (hull r s).hi (AtMost-from_above s.hi n i.high) (greater_second r.hi s.hi));
}

-- ---- a copy and its object

-- what a load of the object finds is the value of the copy
copy_found : (objects : List ObjectTree) (s : State) (d x : ℕ) (i : IsCopy objects s d x) (t : IntType) (b : ℕ) → i.ty ≡ t → place_of s.memory x ≡ Some b
    → found_at s.memory b t ≡ Ok i.value
copy_found objects s d x i t b e p = subst (λ (k : ℕ). found_at s.memory k t ≡ Ok i.value) (one_place s.memory x i.block b i.place p)
    (subst (λ (u : IntType). found_at s.memory i.block u ≡ Ok i.value) e i.found)

copy_type : (objects : List ObjectTree) (s : State) (d x : ℕ) (c : KnownCell) → HoldsCell objects s.memory x c → (i : IsCopy objects s d x) → i.ty ≡ c.ty
copy_type objects s d x c h i =
    let both : Some h.object ≡ Some i.object = sym h.is ∙ i.is in
    let object : h.object ≡ i.object = cc in
    let ints : Int c.ty ≡ Int i.ty = sym h.typed ∙ ap (λ (o : ObjectTree). o.ty) object ∙ i.typed in
    cc

-- it is a number in the object's range
pub record IsNumberCopied (objects : List ObjectTree) (s : State) (d x : ℕ) (c : KnownCell) (h : HoldsCell objects s.memory x c) : Type 0 where
  pub number : ℤ
  pub temp : slice_get s.temps d ≡ Some (values.Int c.ty number)
  pub inside : InRange c.range number
  pub found : found_at s.memory h.block c.ty ≡ Ok (values.Int c.ty number)

number_copied : (objects : List ObjectTree) (s : State) (d x : ℕ) (c : KnownCell) (h : HoldsCell objects s.memory x c) (v : Value) → slice_get s.temps d ≡ Some v
    → found_at s.memory h.block c.ty ≡ Ok v → (n : ℤ) × (v ≡ values.Int c.ty n) × InRange c.range n → IsNumberCopied objects s d x c h
number_copied objects s d x c h v temp found n = record {
  number = n.0;
  temp = subst (λ (w : Value). slice_get s.temps d ≡ Some w) n.1 temp;
  inside = n.2;
  found = subst (λ (w : Value). found_at s.memory h.block c.ty ≡ Ok w) n.1 found;
}

copied_number : (objects : List ObjectTree) (s : State) (d x : ℕ) (c : KnownCell) (h : HoldsCell objects s.memory x c) → IsCopy objects s d x
    → IsNumberCopied objects s d x c h
copied_number objects s d x c h i =
    let found = copy_found objects s d x i c.ty h.block (copy_type objects s d x c h i) h.place in
    number_copied objects s d x c h i.value i.temp found (found_number c i.value (subst (IsFound c) found h.found))

module _ (objects : List ObjectTree) (copies : List (Option ℕ)) (s : State) where
  -- an object of which a copy lies in a range has a number in that range
  held_cut : (x d : ℕ) (r : Range) (c : KnownCell) → HoldsCell objects s.memory x c → IsCopy objects s d x
      → ((v : Value) → slice_get s.temps d ≡ Some v → InRange r (number_of v)) → HoldsCell objects s.memory x (narrowed r c)
  held_cut x d r c h i all =
      let n = copied_number objects s d x c h i in
      record {
        object = h.object;
        is = h.is;
        typed = h.typed;
        mark = h.mark;
        block = h.block;
        place = h.place;
        found = subst (IsFound (narrowed r c)) (sym n.found) (refl, in_common c.range r n.number n.inside (all (values.Int c.ty n.number) n.temp));
      }

  cut_held : (cells : List (Option KnownCell)) (ranges : List Range) (d : ℕ) (o : Option ℕ) → copy_of copies d ≡ o → AreHeld objects cells s.memory
      → AreCopies objects copies s → AreIn ranges s → AreHeld objects (cut_one o (range_at ranges d) cells) s.memory
  cut_held cells ranges d None e h k all = h
  cut_held cells ranges d (Some x) e h k all =
      held_put objects cells s.memory s.memory x (option_map (narrowed (range_at ranges d)) (cell_of cells x)) h (changes_nothing s.memory x)
      (λ c q. let old = map_some (narrowed (range_at ranges d)) (cell_of cells x) c q in
      subst (HoldsCell objects s.memory x) old.2
      (held_cut x d (range_at ranges d) old.0 (h x old.0 old.1) (k d x e) (λ v f. all d v f)))

  -- cuts by ranges in which the temporaries lie keep what is known
  pub cut_known : (ds : List ℕ) (cells : List (Option KnownCell)) (ranges : List Range) → AreKnown objects cells copies s → AreIn ranges s
      → AreKnown objects (cut_by copies ranges ds cells) copies s
  cut_known [] cells ranges k all = k
  cut_known (d ∷ ds) cells ranges k all =
      cut_known ds (cut_one (copy_of copies d) (range_at ranges d) cells) ranges
      (record { places = k.places; cells_held = cut_held cells ranges d (copy_of copies d) refl k.cells_held k.copies_held all; copies_held = k.copies_held }) all

  number_left : (cells : List (Option KnownCell)) (d x : ℕ) (o : Option KnownCell) → cell_of cells x ≡ o → AreKnown objects cells copies s
      → copy_of copies d ≡ Some x → IsTrue (has_number o)
  number_left cells d x None e k f = refl
  number_left cells d x (Some c) e k f =
      let n = copied_number objects s d x c (k.cells_held x c e) (k.copies_held d x f) in
      holds_number_from c.range.lo c.range.hi n.number n.inside.low n.inside.high

  copied_left : (cells : List (Option KnownCell)) (d : ℕ) (o : Option ℕ) → copy_of copies d ≡ o → AreKnown objects cells copies s → IsTrue (copied_has_number cells o)
  copied_left cells d None e k = refl
  copied_left cells d (Some x) e k = number_left cells d x (cell_of cells x) refl k e

  both_left : (a b : Bool) → IsTrue a → IsTrue b → IsTrue (if a then b else false)
  both_left true b e f = f
  both_left false b e f = absurd (cc)

  -- of each object of which a temporary is a copy numbers are left
  pub left_known : (cells : List (Option KnownCell)) (ds : List ℕ) → AreKnown objects cells copies s → IsTrue (are_cells_left copies ds cells)
  left_known cells [] k = refl
  left_known cells (d ∷ ds) k =
      both_left (copied_has_number cells (copy_of copies d)) (are_cells_left copies ds cells) (copied_left cells d (copy_of copies d) refl k) (left_known cells ds k)

-- ---- joins

merged_found : (c d : KnownCell) (r : Result Value WrongKind) → c.ty ≡ d.ty → IsFound c r ⊎ IsFound d r → IsFound (merged c d) r
merged_found c d (Ok (values.Int t n)) e (inl h) = (h.0, in_hull_first c.range d.range n h.1)
merged_found c d (Ok (values.Int t n)) e (inr h) = (h.0 ∙ sym e, in_hull_second c.range d.range n h.1)
merged_found c d (Ok (values.Ptr p)) e (inl h) = absurd h
merged_found c d (Ok (values.Ptr p)) e (inr h) = absurd h
merged_found c d (Ok values.Null) e (inl h) = absurd h
merged_found c d (Ok values.Null) e (inr h) = absurd h
merged_found c d (Err kinds.Indeterminate) e (inl h) = or_left c.may_be_undefined d.may_be_undefined h
merged_found c d (Err kinds.Indeterminate) e (inr h) = or_right c.may_be_undefined d.may_be_undefined h
merged_found c d (Err k) e (inl h) = absurd h
merged_found c d (Err k) e (inr h) = absurd h

merged_first : (objects : List ObjectTree) (m : ObjectMemory) (x : ℕ) (c d : KnownCell) → c.ty ≡ d.ty → HoldsCell objects m x c → HoldsCell objects m x (merged c d)
merged_first objects m x c d e h = record {
  object = h.object;
  is = h.is;
  typed = h.typed;
  mark = h.mark;
  block = h.block;
  place = h.place;
  found = merged_found c d (found_at m h.block c.ty) e (inl h.found);
}

merged_second : (objects : List ObjectTree) (m : ObjectMemory) (x : ℕ) (c d : KnownCell) → c.ty ≡ d.ty → c.read_only ≡ d.read_only → HoldsCell objects m x d
    → HoldsCell objects m x (merged c d)
merged_second objects m x c d e f h = record {
  object = h.object;
  is = h.is;
  typed = h.typed ∙ ap Int (sym e);
  mark = h.mark ∙ sym f;
  block = h.block;
  place = h.place;
  found = merged_found c d (found_at m h.block c.ty) e (inr (subst (λ (t : IntType). IsFound d (found_at m h.block t)) (sym e) h.found));
}

pub agreed_some : (a b : Option ℕ) (x : ℕ) → agreed a b ≡ Some x → (a ≡ Some x) × (b ≡ Some x)
agreed_some None b x e = absurd (cc)
agreed_some (Some y) None x e = absurd (cc)
agreed_some (Some y) (Some z) x e = by (y == z) refl e where
  by : (t : Bool) → (y == z) ≡ t → (if t then Some y else None) ≡ Some x → (Some y ≡ Some x) × (Some z ≡ Some x)
  by true is f = (f, ap (λ (k : ℕ). Some k) (sym (eqb-true y z is)) ∙ f)
  by false is f = absurd (cc)

module _ (objects : List ObjectTree) (a b j : List (Option KnownCell)) (p q r : List (Option ℕ)) (s : State)
    (cells : (x : ℕ) → IsJoined (cell_of a x) (cell_of b x) (cell_of j x)) (copies : (d : ℕ) → copy_of r d ≡ agreed (copy_of p d) (copy_of q d)) where
  -- what holds on either side holds of the join
  pub joined_first : AreKnown objects a p s → AreKnown objects j r s
  joined_first k = record {
    places = k.places;
    cells_held = λ x e f. let of = (cells x).from e f in
        subst (HoldsCell objects s.memory x) (sym of.6) (merged_first objects s.memory x of.0 of.1 of.4 (k.cells_held x of.0 of.2));
    copies_held = λ d x f. k.copies_held d x (agreed_some (copy_of p d) (copy_of q d) x (sym (copies d) ∙ f)).0;
  }

  pub joined_second : AreKnown objects b q s → AreKnown objects j r s
  joined_second k = record {
    places = k.places;
    cells_held = λ x e f. let of = (cells x).from e f in
        subst (HoldsCell objects s.memory x) (sym of.6) (merged_second objects s.memory x of.0 of.1 of.4 of.5 (k.cells_held x of.1 of.3));
    copies_held = λ d x f. k.copies_held d x (agreed_some (copy_of p d) (copy_of q d) x (sym (copies d) ∙ f)).1;
  }

-- ---- what knows less

wider_found : (c d : KnownCell) (r : Result Value WrongKind) → IsWider c d → IsFound d r → IsFound c r
wider_found c d (Ok (values.Int t n)) w h = (h.0 ∙ sym w.ty, w.numbers n h.1)
wider_found c d (Ok (values.Ptr p)) w h = absurd h
wider_found c d (Ok values.Null) w h = absurd h
wider_found c d (Err kinds.Indeterminate) w h = w.undefined h
wider_found c d (Err k) w h = absurd h

-- cells that know less hold where others do, and copies that are fewer
pub covered_known : (objects : List ObjectTree) (cells others : List (Option KnownCell)) (copies more : List (Option ℕ)) (s : State) → AreWider cells others
    → ((d x : ℕ) → copy_of copies d ≡ Some x → copy_of more d ≡ Some x) → AreKnown objects others more s → AreKnown objects cells copies s
covered_known objects cells others copies more s wide fewer k = record {
  places = k.places;
  cells_held = λ x c e. let w = wide x c e in let h = k.cells_held x w.0 w.1 in record {
    object = h.object;
    is = h.is;
    typed = h.typed ∙ ap Int (sym w.2.ty);
    mark = h.mark ∙ sym w.2.read_only;
    block = h.block;
    place = h.place;
    found = wider_found c w.0 (found_at s.memory h.block c.ty) w.2
        (subst (λ (t : IntType). IsFound w.0 (found_at s.memory h.block t)) (sym w.2.ty) h.found);
  };
  copies_held = λ d x e. k.copies_held d x (fewer d x e);
}
