-- What is shown of checks by their kind, and which numbers are allowed.
use Rattle.std.proofs.Common.{◌≡◌, ◌≤ℤ◌, ◌<ℤ◌, ◌⊎◌, inl, inr, ℤ, pos, negsuc, arith, refl, sym, subst, ap, ◌∙◌, Bool, true, false, List}
use Rattle.std.specs.Prelude.{◌||◌, ◌&&◌, not, int_lt}
use Rattle.std.specs.Int.RustNames.{int_le}
use Rattle.std.proofs.lemmas.Int.{ints}
use Rattle.c_syntax.specs.declared.alarm.Pointers.{Pointers}
use Rattle.c_syntax.specs.declared.alarm.Shown.{Shown}
use Rattle.c_syntax.specs.declared.alarm.Shown.TheVariants as shows
use Rattle.c_syntax.specs.declared.alarm.Spot.{Spot}
use Rattle.c_syntax.specs.declared.alarm.Spot.TheVariants as spots
use Rattle.c_syntax.specs.declared.alarm.WrongKind.{WrongKind}
use Rattle.c_syntax.specs.declared.alarm.WrongKind.TheVariants as kinds
use Rattle.c_syntax.specs.Types.{ObjectTree}
use Rattle.c_syntax.specs.Operand.{Operand, Number, Point, Points, Mark, End}
use Rattle.c_syntax.specs.Admission.{IsInShown}
use Rattle.c_syntax.specs.Failing.{is_outside}
use Rattle.ext_int.specs.declared.Ext.TheVariants.{Fin}
use Rattle.ext_int.proofs.Ends.{holds_number_from, AtMost_trans}
use Rattle.num_api.specs.declared.message.Range.{Range}
use Rattle.num_api.specs.Ranges.{InRange, IsPoint, NoWider, holds_some}
use Rattle.num_api.specs.Spans.{Span, span, range_of}
use Rattle.num_api.proofs.Parts.{still_point}
use Rattle.machine_nums.proofs.Wrapped.{in_between, point_holds}
use Rattle.mem_api.specs.Showing.{IsAlone}
use Rattle.mem_temps.specs.Shows.{truth_of, IsTruth, OperandIn, OperandAlone, IsSetOf, ShowsNumber, ShowsWithin, ShowsNonzero, ShowsEnd, ShowsOne, ShowsTwo, IsAllowed}
use Rattle.mem_temps.proofs.Checking.{truth_small}

within : (r : Range) (w : Shown) → ShowsNumber r w → ShowsWithin r w
within r w f = λ objects n low high s t under h. (f.least objects n low s under.low h, f.greatest objects n high t under.high h)

-- a span without 0 lies on one side of it
one_side : (s : Span) (a b : Bool) → int_le s.lo (pos 0) ≡ a → int_le (pos 0) s.hi ≡ b → not (a && b) ≡ true → (pos 1 ≤ℤ s.lo) ⊎ (s.hi ≤ℤ negsuc 0)
one_side s false b e f h = inl (above s.lo e) where
  above : (x : ℤ) → int_le x (pos 0) ≡ false → pos 1 ≤ℤ x
  above x e = omega (arith, ints, e)
one_side s true false e f h = inr (below s.hi f) where
  below : (x : ℤ) → int_le (pos 0) x ≡ false → x ≤ℤ negsuc 0
  below x e = omega (arith, ints, e)
one_side s true true e f h = absurd (cc)

nonzero : (r : Range) (w : Shown) → ShowsNumber r w → ShowsNonzero r w
nonzero r w f objects n s under out h is = by (one_side s (int_le s.lo (pos 0)) (int_le (pos 0) s.hi) refl refl out) where
  by : (pos 1 ≤ℤ s.lo) ⊎ (s.hi ≤ℤ negsuc 0) → ⊥
  by (inl low) = let one = f.least objects n (pos 1) (omega (arith, ints), omega (arith, ints)) (AtMost_trans (Fin (pos 1)) (Fin s.lo) r.lo low under.low) h in
      omega (arith, ints)
  by (inr high) = let one = f.greatest objects n (negsuc 0) (omega (arith, ints), omega (arith, ints)) (AtMost_trans r.hi (Fin s.hi) (Fin (negsuc 0)) under.high high) h in
      omega (arith, ints)

module _ (value exact : Range) (w : Shown) where
  to_kind : (k kind : WrongKind) → kind ≡ k → ShowsOne k value exact w → ShowsOne kind value exact w
  to_kind k kind e h = subst (λ (x : WrongKind). ShowsOne x value exact w) (sym e) h

  pub shows_exact : (kind : WrongKind) → (kind ≡ kinds.Overflow) ⊎ ((kind ≡ kinds.Quotient) ⊎ (kind ≡ kinds.ShiftResult)) → ShowsNumber exact w → ShowsOne kind value exact w
  shows_exact kind (inl e) f = to_kind kinds.Overflow kind e (record { holds = f.holds; alone = f.alone; form = λ o a. f.form; proper = f.proper; names = f.names; numbers = within exact w f })
  shows_exact kind (inr (inl e)) f = to_kind kinds.Quotient kind e (record { holds = f.holds; alone = f.alone; form = λ o a. f.form; proper = f.proper; names = f.names; numbers = within exact w f })
  shows_exact kind (inr (inr e)) f = to_kind kinds.ShiftResult kind e (record { holds = f.holds; alone = f.alone; form = λ o a. f.form; proper = f.proper; names = f.names; numbers = within exact w f })

  pub shows_value : (kind : WrongKind) → (kind ≡ kinds.DivideByZero) ⊎ (kind ≡ kinds.ShiftAmount) → ShowsNumber value w → ShowsOne kind value exact w
  shows_value kind (inl e) f = to_kind kinds.DivideByZero kind e (record { holds = f.holds; alone = f.alone; form = λ o a. f.form; proper = f.proper; names = f.names; numbers = nonzero value w f })
  shows_value kind (inr e) f = to_kind kinds.ShiftAmount kind e (record { holds = f.holds; alone = f.alone; form = λ o a. f.form; proper = f.proper; names = f.names; numbers = within value w f })

  pub shows_truth : (kind : WrongKind) (r : Range) → kind ≡ kinds.AssertFailed → IsTruth value r → ShowsNumber r w → ShowsOne kind value exact w
  shows_truth kind r e t f = to_kind kinds.AssertFailed kind e (record {
    holds = λ objects x h. subst (λ (y : Operand). IsInShown objects y w) (sym h.2) (f.holds objects (Number (truth_of h.0)) (t.holds h.0 h.1));
    alone = λ objects x h. subst (λ (y : Operand). IsAlone objects y w) (sym h.2) (f.alone objects (Number (truth_of h.0)) (t.point h.0 h.1, truth_small _));
    form = λ o a. f.form;
    proper = f.proper;
    names = f.names;
    numbers = λ objects n s under out h is. let one = f.least objects n (pos 1) (omega (arith, ints), omega (arith, ints)) (t.plain s under out) h in
        omega (arith, ints);
  })

  pub shows_end : (kind : WrongKind) → kind ≡ kinds.NoValue → ShowsEnd value w → ShowsOne kind value exact w
  shows_end kind e f = to_kind kinds.NoValue kind e (record {
    holds = λ objects x h. subst (λ (y : Operand). IsInShown objects y w) (sym h.2) (f.holds objects h.0 h.1);
    alone = λ objects x h. subst (λ (y : Operand). IsAlone objects y w) (sym h.2) (f.alone objects h.0 h.1);
    form = λ o a. f.form;
    proper = f.proper;
    names = f.names;
    numbers = tt;
  })

-- ---- pointers

module _ (value exact : Range) (set : Pointers) (f : IsSetOf value set) where
  set_holds : (objects : List ObjectTree) (x : Operand) → OperandIn kinds.NullUse objects value exact x → IsInShown objects x (shows.One set)
  set_holds objects x h = subst (λ (y : Operand). IsInShown objects y (shows.One set)) (sym h.1) (f.holds objects h.0 h.2)

  null_only : IsPoint value (pos 0) → (objects : List ObjectTree) (y : Operand) → IsInShown objects y (shows.One set) → y ≡ Point spots.Null
  null_only p objects (Point t) h = ap Point (f.alone p objects t h)
  null_only p objects (Number n) h = absurd h
  null_only p objects (Points s t) h = absurd h
  null_only p objects (Mark m) h = absurd h
  null_only p objects (End e) h = absurd h

  set_alone : (objects : List ObjectTree) (x : Operand) → OperandAlone kinds.NullUse value exact x → IsAlone objects x (shows.One set)
  set_alone objects x h = subst (λ (y : Operand). IsAlone objects y (shows.One set)) (sym h.1)
      (record { there = f.holds objects spots.Null (point_holds value (pos 0) h.0); only = λ y i. null_only h.0 objects y i })

  one_kind : (k kind : WrongKind) → kind ≡ k → ShowsOne k value exact (shows.One set) → ShowsOne kind value exact (shows.One set)
  one_kind k kind e h = subst (λ (x : WrongKind). ShowsOne x value exact (shows.One set)) (sym e) h

  pub shows_set : (kind : WrongKind) → (kind ≡ kinds.NullUse) ⊎ ((kind ≡ kinds.Dangling) ⊎ ((kind ≡ kinds.Bounds) ⊎ ((kind ≡ kinds.Access) ⊎ ((kind ≡ kinds.Alignment) ⊎ ((kind ≡ kinds.ReadOnly) ⊎ (kind ≡ kinds.Unrelated))))))
      → ShowsOne kind value exact (shows.One set)
  shows_set kind (inl e) = one_kind kinds.NullUse kind e (record { holds = set_holds; alone = set_alone; form = λ o a. tt; proper = f.proper; names = f.names; numbers = tt })
  shows_set kind (inr (inl e)) = one_kind kinds.Dangling kind e (record { holds = set_holds; alone = set_alone; form = λ o a. tt; proper = f.proper; names = f.names; numbers = tt })
  shows_set kind (inr (inr (inl e))) = one_kind kinds.Bounds kind e (record { holds = set_holds; alone = set_alone; form = λ o a. tt; proper = f.proper; names = f.names; numbers = tt })
  shows_set kind (inr (inr (inr (inl e)))) = one_kind kinds.Access kind e (record { holds = set_holds; alone = set_alone; form = λ o a. tt; proper = f.proper; names = f.names; numbers = tt })
  shows_set kind (inr (inr (inr (inr (inl e))))) = one_kind kinds.Alignment kind e (record { holds = set_holds; alone = set_alone; form = λ o a. tt; proper = f.proper; names = f.names; numbers = tt })
  shows_set kind (inr (inr (inr (inr (inr (inl e)))))) = one_kind kinds.ReadOnly kind e (record { holds = set_holds; alone = set_alone; form = λ o a. tt; proper = f.proper; names = f.names; numbers = tt })
  shows_set kind (inr (inr (inr (inr (inr (inr e)))))) = one_kind kinds.Unrelated kind e (record { holds = set_holds; alone = set_alone; form = λ o a. absurd o; proper = f.proper; names = f.names; numbers = tt })

module _ (r s : Range) (left right : Pointers) (f : IsSetOf r left) (g : IsSetOf s right) where
  nulls_only : IsPoint r (pos 0) → IsPoint s (pos 0) → (objects : List ObjectTree) (y : Operand) → IsInShown objects y (shows.Pair left right) → y ≡ Points spots.Null spots.Null
  nulls_only p q objects (Points a b) h = both a b (f.alone p objects a h.0) (g.alone q objects b h.1) where
    both : (a b : Spot) → a ≡ spots.Null → b ≡ spots.Null → Points a b ≡ Points spots.Null spots.Null
    both a b e k = cc
  nulls_only p q objects (Point t) h = absurd h
  nulls_only p q objects (Number n) h = absurd h
  nulls_only p q objects (Mark m) h = absurd h
  nulls_only p q objects (End e) h = absurd h

  pub shows_pair : ShowsTwo r s (shows.Pair left right)
  shows_pair = record {
    holds = λ objects x h. subst (λ (y : Operand). IsInShown objects y (shows.Pair left right)) (sym h.2) (f.holds objects h.0 h.3, g.holds objects h.1 h.4);
    alone = λ objects x h. subst (λ (y : Operand). IsAlone objects y (shows.Pair left right)) (sym h.2) (record {
      there = (f.holds objects spots.Null (point_holds r (pos 0) h.0), g.holds objects spots.Null (point_holds s (pos 0) h.1));
      only = λ y i. nulls_only h.0 h.1 objects y i;
    });
    form = tt;
    proper = (f.proper, g.proper);
    names = λ count. (f.names count, g.names count);
  }

-- ---- allowed numbers

or_parts : (a b : Bool) → (a || b) ≡ false → (a ≡ false) × (b ≡ false)
or_parts false false e = (refl, refl)
or_parts true b e = absurd (cc)
or_parts false true e = absurd (cc)

not_less : (a b : ℤ) → int_lt a b ≡ false → b ≤ℤ a
not_less a b h = omega (arith, ints, h)

less : (a b : ℤ) → int_lt a b ≡ true → a <ℤ b
less a b h = omega (arith, ints, h)

outside_clash : (lo hi n : ℤ) (a b : Bool) → int_lt n lo ≡ a → int_lt hi n ≡ b → (a || b) ≡ true → lo ≤ℤ n → n ≤ℤ hi → ⊥
outside_clash lo hi n true b e f h low high = let l = less n lo e in absurd (omega (arith, ints, l, low))
outside_clash lo hi n false true e f h low high = let l = less hi n f in absurd (omega (arith, ints, l, high))
outside_clash lo hi n false false e f h low high = absurd (cc)

pub allowed_by : (r found : Range) (lo hi : ℤ) (some : Bool) → some ≡ holds_some found → ((n : ℤ) → InRange r n → InRange (range_of (span lo hi)) n → InRange found n)
    → NoWider found r → NoWider found (range_of (span lo hi)) → IsAllowed r lo hi some
allowed_by r found lo hi some is holds first second = record {
  stays = λ n i out.
      let parts = or_parts (int_lt n lo) (int_lt hi n) out in
      let j = holds n i (record { low = not_less n lo parts.0; high = not_less hi n parts.1 }) in is ∙ holds_number_from found.lo found.hi n j.low j.high;
  dead = λ n p out. is ∙ none (holds_some found) refl n p out;
} where
  none : (b : Bool) → holds_some found ≡ b → (n : ℤ) → IsPoint r n → is_outside lo hi n ≡ true → b ≡ false
  none false e n p out = refl
  none true e n p out =
      let here = still_point found r n e first p in
      let ends = in_between found (range_of (span lo hi)) n lo hi second refl refl (point_holds found n here) in
      absurd (outside_clash lo hi n (int_lt n lo) (int_lt hi n) refl refl out ends.0 ends.1)
