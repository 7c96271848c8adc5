-- What is shown of a check of one expression that loads no known object.
use Rattle.std.proofs.Common.{◌≡◌, inl, inr, ℕ, pos, false, refl, sym, subst, List, [], ◌∷◌, length, Option, Some, None}
use Rattle.c_syntax.specs.declared.alarm.Pointers.{Pointers}
use Rattle.c_syntax.specs.declared.alarm.Shown.{Shown}
use Rattle.c_syntax.specs.declared.alarm.Shown.TheVariants as shows
use Rattle.c_syntax.specs.Types.{ObjectTree}
use Rattle.c_syntax.specs.Operand.{Operand}
use Rattle.c_syntax.specs.Admission.{Fails, IsInShown, IsModerate, IsProper}
use Rattle.block_mem.specs.declared.types.Scalar.{Scalar}
use Rattle.num_api.specs.Fold.{IsAlignment}
use Rattle.num_api.specs.declared.message.Range.{Range}
use Rattle.csharp.specs.Formed.{HasOperands}
use Rattle.csharp.specs.Trees.{CsExprTree, CsProgramTree, CsCheckTree, Checked}
use Rattle.csharp.specs.States.{State}
use Rattle.mem_shown.specs.Decisions.{NamesObjects}
use Rattle.mem_api.specs.Given.{IsOf}
use Rattle.mem_api.specs.Named.{Fixed, IsNamed, fixed_at, LooksAtPlace, ShowsOnly, ShowsOffset}
use Rattle.mem_api.specs.Showing.{HasForm, looked_at}
use Rattle.plain_runs.specs.States.{Plain}
use Rattle.plain_runs.specs.Checks.{plain_suspect}
use Rattle.mem_temps.specs.Sets.{Stands}
use Rattle.mem_objects.specs.declared.cells.KnownCell.{KnownCell}
use Rattle.mem_intervals.specs.Marked.{IsMarked, IsShownOne}
use Rattle.mem_intervals.specs.Passed.{Remembered}
use Rattle.mem_intervals.specs.Sets.{IsUnder}
use Rattle.mem_intervals.proofs.Looks.{one_in}
use Rattle.mem_intervals.proofs.Placing.{one_set, place_holds, place_has_form, place_names, place_named, place_fixed}
use Rattle.mem_intervals.proofs.Showing.{place_safe, untold}
use Rattle.mem_intervals.proofs.Starts.{of_one_kind}
use Rattle.mem_intervals.proofs.Suspects.{suspect_safe}

module _ (c : CsCheckTree) (e : CsExprTree) (are : c.operands ≡ e ∷ []) (ranges : List Range) (w : Shown) (f : IsShownOne ranges c.check.kind e w) where
  pub one_holds : (q : CsProgramTree) (types : List Scalar) (s : State) (x : Operand) → Stands (length q.objects) types ranges s → looked_at c s ≡ Some x
      → IsInShown q.objects x w
  one_holds q types s x stands look = by f where
    by : IsShownOne ranges c.check.kind e w → IsInShown q.objects x w
    by (inl h) = subst (λ (v : Shown). IsInShown q.objects x v) (sym h.1)
        (place_holds c e are h.0 h.2.set.0 h.2.set.1 q (length q.objects) types ranges s x refl stands look)
    by (inr h) = h.5.holds q.objects x (one_in c e are (length q.objects) types ranges h.1 h.2 h.3 h.4 q s x refl stands look)

  pub one_form : (q : CsProgramTree) → IsOf q (Checked c) → HasForm c.check.kind c.operands w
  one_form q given = by f where
    by : IsShownOne ranges c.check.kind e w → HasForm c.check.kind c.operands w
    by (inl h) = subst (λ (v : Shown). HasForm c.check.kind c.operands v) (sym h.1) (place_has_form c e are h.0 h.2.set.0 h.2.set.1)
    by (inr h) = subst (λ (es : List CsExprTree). HasForm c.check.kind es w) (sym are)
        (h.5.form (of_one_kind q c.check.kind e (subst (HasOperands q c.check.kind) are given.check.0)) e)

  pub one_names : (q : CsProgramTree) → IsOf q (Checked c) → NamesObjects (length q.objects) w
  one_names q given = by f where
    by : IsShownOne ranges c.check.kind e w → NamesObjects (length q.objects) w
    by (inl h) = subst (λ (v : Shown). NamesObjects (length q.objects) v) (sym h.1)
        (place_names c e are h.0 h.2.set.0 h.2.set.1 q q (length q.objects) refl refl given)
    by (inr h) = h.5.names (length q.objects)

  pub one_proper : IsProper w
  one_proper = by f where
    by : IsShownOne ranges c.check.kind e w → IsProper w
    by (inl h) = subst (λ (v : Shown). IsProper v) (sym h.1) h.2.set.1.proper
    by (inr h) = h.5.proper

  -- where the plain run has no suspect, nothing is shown that fails
  pub one_plain : (q : CsProgramTree) (passed : Option Remembered) (cells : List (Option KnownCell)) (copies : List (Option ℕ)) (p : Plain) (x : Operand)
      → IsOf q (Checked c) → IsMarked cells c.check.kind c.ty e None → IsUnder q.objects q.temps ranges passed cells copies p
      → plain_suspect q.temps p c ≡ Some false → IsInShown q.objects x w → Fails q.objects c.check x → ⊥
  one_plain q passed cells copies p x given none under g there bad = by f where
    by : IsShownOne ranges c.check.kind e w → ⊥
    by (inl h) = place_safe q.objects cells copies p under.known under.declared under.sizes q.temps c e are h.0 (h.2.place h.2.set.0) x
        (subst (λ (v : Shown). IsInShown q.objects x v) h.1 there) h.2.set.0 g bad
    by (inr h) = suspect_safe q q.objects q.temps ranges passed c e h.1 h.2 w refl given are h.3 h.4 h.5.numbers p x
        (untold q.temps p c e are cells copies under.known none h.0) under.temps g there bad

  pub one_named : (objects : List ObjectTree) (d : CsExprTree) (o n : ℕ) → LooksAtPlace c.check.kind → c.operands ≡ d ∷ [] → IsAlignment (pos n) → IsNamed o n d
      → ShowsOnly objects o n w
  one_named objects d o n looks is a named = by f where
    by : IsShownOne ranges c.check.kind e w → ShowsOnly objects o n w
    by (inl h) =
        let y = place_named c e are (Some h.0) h.2 objects d o n looks is a named in
        let one : y.0 ≡ h.0 = one_set y.0 h.0 (sym y.1) in
        subst (λ (v : Shown). ShowsOnly objects o n v) (sym h.1) (subst (λ (z : Pointers). ShowsOnly objects o n (shows.One z)) one y.2)
    by (inr h) = let y = place_named c e are None h.0 objects d o n looks is a named in let none = y.1 in absurd (cc)

  pub one_fixed : (d : CsExprTree) (g : Fixed) → LooksAtPlace c.check.kind → c.operands ≡ d ∷ [] → fixed_at d ≡ Some g → IsModerate (Some g.offset)
      → ShowsOffset g.offset w
  one_fixed d g looks is at small = by f where
    by : IsShownOne ranges c.check.kind e w → ShowsOffset g.offset w
    by (inl h) =
        let y = place_fixed c e are (Some h.0) h.2 d g looks is at small in
        let one : y.0 ≡ h.0 = one_set y.0 h.0 (sym y.1) in
        subst (λ (v : Shown). ShowsOffset g.offset v) (sym h.1) (subst (λ (z : Pointers). ShowsOffset g.offset (shows.One z)) one y.2)
    by (inr h) = let y = place_fixed c e are None h.0 d g looks is at small in let none = y.1 in absurd (cc)
