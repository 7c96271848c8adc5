-- The four jumps in a typed run.
use Rattle.std.proofs.Common.{◌≡◌, ◌⊎◌, inl, inr, ℕ, ℤ, Bool, true, false, List, ◌∷◌, length, Option, refl, sym, subst, arith}
use Rattle.std.specs.Prelude.{if◌then◌else◌, Contains, IsTrue}
use Rattle.std.proofs.lemmas.List.Elements.{Contains-append_cases}
use Rattle.c_syntax_written.specs.declared.place.Pos.{Pos}
use Rattle.c_syntax.specs.Types.{CTypeTree}
use Rattle.c_syntax.specs.TypedStmt.{TStmtTrees}
use Rattle.c_syntax.specs.Program.{TProgramTree}
use Rattle.c_layout.specs.Jumps.{labels_among}
use Rattle.c_values.specs.Places.{ObjectMemory}
use Rattle.c_objects.specs.Opening.{shut_all}
use Rattle.c_steps.specs.Work.{Item, AtEnd, Again, Close, SwitchEnd}
use Rattle.c_steps.specs.States.{Held, Next, goes}
use Rattle.c_steps.specs.Marks.{AtLabel, has, behind, does}
use Rattle.c_steps.specs.Jumps as jumps
use Rattle.c_steps.specs.Jumps.{broken, continued, jumped}
use Rattle.c_steps_laws.specs.Wants.{Want, HasWant, is_any, want_of, Stacked, on_top}
use Rattle.c_steps_laws.specs.Surroundings.{Around, around, in_items, ends_switch, TypedItems}
use Rattle.c_steps_laws.specs.Takes as rules
use Rattle.c_steps_laws.specs.Takes.{GivesAtEnd, IsBehind, level, switch, IsLevel, at_do, at_close, at_begin, at_again, at_reach, Takes, close, reach, switch_end, begin, again}
use Rattle.c_steps_laws.specs.Opens.{Use, Object, Function, Lists, OpensItems, ApartBlock, OpensCall}
use Rattle.c_steps_laws.specs.Fits.{Lives, AreLive, IsReady, Parted}
use Rattle.c_steps_laws.proofs.Lives.{all_shut}
use Rattle.c_steps_laws.proofs.Rows.{want_is}
use Rattle.c_steps_laws.proofs.Rules.{On, fit}
use Rattle.c_steps_laws.proofs.Work.{takes_does, live_does, parted_does, typed_behind, opens_behind, apart_behind, label_there}
use Rattle.c_steps_laws.proofs.Kept.{KeepsIn}

pub breaks_in : (z : Bool) (xs : List ℕ) (items : TStmtTrees) (c : Around) → IsTrue (in_items z xs items c).standing.breaks → z ≡ false → IsTrue c.standing.breaks
breaks_in true xs items c h e = absurd (cc)
breaks_in false xs items c h e = h

pub continues_in : (z : Bool) (xs : List ℕ) (items : TStmtTrees) (c : Around) → IsTrue (in_items z xs items c).standing.continues → IsTrue c.standing.continues
continues_in true xs items c h = h
continues_in false xs items c h = h

pub level_not_end : (w : List Item) → IsLevel w → ends_switch w ≡ false
level_not_end w at_do = refl
level_not_end w at_close = refl
level_not_end w at_begin = refl
level_not_end w at_again = refl
level_not_end w at_reach = refl

-- what a function returns is what its call gives
gives : (n : ℕ) (x : Held) {r : CTypeTree} {at : Option Pos} {end : AtEnd} {want : Want} → GivesAtEnd r at end want → HasWant n (want_of r) x → HasWant n want x
gives n x rules.nothing h = is_any
gives n x rules.zero_any h = is_any
gives n x rules.zero h = h
gives n x (rules.wrong {result = r} {ty = ty} e) h = subst (λ t. HasWant n t x) (want_is r ty e) h

other_way : (z : Bool) → z ≡ true → z ≡ false → ⊥
other_way true a b = absurd (cc)
other_way false a b = absurd (cc)

pub labels_in : (z : Bool) (xs : List ℕ) (items : TStmtTrees) (c : Around) (j : ℕ) → Contains (in_items z xs items c).labels j
    → Contains (labels_among items) j ⊎ Contains c.labels j
labels_in z xs items c j h = Contains-append_cases (labels_among items) c.labels j h

module _ (p : TProgramTree) where
  -- what the end of a block opens, and none of it lives behind
  abbrev pub EndsReady : List ℕ → TStmtTrees → List Item → Type 0
  EndsReady xs items w = (u : Use) → Lists xs u ⊎ OpensItems (OpensCall p) items u → IsReady p w u

  after_close : (ts : List Want) (xs : List ℕ) (items : TStmtTrees) (w : List Item) (s : List Held) (m : ObjectMemory) (next : ObjectMemory → Next)
      → EndsReady xs items w → Stacked (length m.blocks) ts s → AreLive p (Close xs items ∷ w) m → KeepsIn p m
      → ((n : ObjectMemory) → length n.blocks ≡ length m.blocks → Stacked (length n.blocks) ts s → AreLive p w n → KeepsIn p n → On p (next n))
      → On p (next (shut_all m xs))
  after_close ts xs items w s m next f d l h go =
      let c = all_shut p w xs items m (λ y o. (f (Object y) (inl o)).1) l h in
      go (shut_all m xs) c.blocks (subst (λ n. Stacked n ts s) (sym c.blocks) d) c.live c.kept

  block_case : (xs : List ℕ) (items : TStmtTrees) (w : List Item) (y : ℕ) → (Lives p w y → ⊥) → (Contains xs y → ⊥) → Lives p (Close xs items ∷ w) y → ⊥
  block_case xs items w y f g (inl e) = f (inl e)
  block_case xs items w y f g (inr (inl c)) = g c
  block_case xs items w y f g (inr (inr e)) = f (inr e)

  pub block_ready : (xs : List ℕ) (items part : TStmtTrees) (w : List Item) → ((u : Use) → OpensItems (OpensCall p) part u → OpensItems (OpensCall p) items u)
      → EndsReady xs items w → ((y : ℕ) → Contains xs y → OpensItems (OpensCall p) items (Object y) → ⊥)
      → (u : Use) → OpensItems (OpensCall p) part u → IsReady p (Close xs items ∷ w) u
  block_ready xs items part w o f g (Object y) a =
      let n = f (Object y) (inr (o (Object y) a)) in (n.0, block_case xs items w y n.1 (λ c. g y c (o (Object y) a)))
  block_ready xs items part w o f g (Function x) a = f (Function x) (inr (o (Function x) a))

  in_or_out : (r : CTypeTree) (ts : List Want) (j : ℕ) (xs : List ℕ) (items : TStmtTrees) (w : List Item) (s : List Held) (m : ObjectMemory) (i : List ℤ) (z : Bool)
      → has (AtLabel j) items ≡ z → Contains (labels_among items) j ⊎ Contains (around p r w).labels j
      → TypedItems (in_items (ends_switch w) xs items (around p r w)) items → IsBehind w → Takes p r w ts
      → EndsReady xs items w → ApartBlock (OpensCall p) xs items → Parted (OpensCall p) p w → Stacked (length m.blocks) ts s
      → AreLive p (Close xs items ∷ w) m → KeepsIn p m → (Contains (around p r w).labels j → On p (jumped j w s (shut_all m xs) i))
      → On p (if z then goes (does (behind (AtLabel j) items) (Close xs items ∷ w)) s m i else jumped j w s (shut_all m xs) i)
  in_or_out r ts j xs items w s m i true e c t v k f g q d l h go =
      fit p r (does (behind (AtLabel j) items) (Close xs items ∷ w)) s m i ts
      (takes_does p r ts (behind (AtLabel j) items) (Close xs items ∷ w) (typed_behind (in_items (ends_switch w) xs items (around p r w)) (AtLabel j) items t)
      at_close (close t v k)) d
      (parted_does (OpensCall p) p (behind (AtLabel j) items) (Close xs items ∷ w)
      (block_ready xs items (behind (AtLabel j) items) w (λ u. opens_behind (OpensCall p) u (AtLabel j) items) f g.0.1)
      (apart_behind (OpensCall p) (AtLabel j) items g.1) (f, g, q))
      (live_does p (behind (AtLabel j) items) (Close xs items ∷ w) m l) h
  in_or_out r ts j xs items w s m i false e (inl c) t v k f g q d l h go = let x = label_there j items c in absurd (other_way (has (AtLabel j) items) x e)
  in_or_out r ts j xs items w s m i false e (inr c) t v k f g q d l h go = go c

  pub after_break : {r : CTypeTree} {w : List Item} {ts : List Want} → IsLevel w → Takes p r w ts → (s : List Held) (m : ObjectMemory) (i : List ℤ)
      → IsTrue (around p r w).standing.breaks → Stacked (length m.blocks) ts s → Parted (OpensCall p) p w → AreLive p w m → KeepsIn p m → On p (broken w s m i)
  after_break at_do (rules.does t v k) s m i c d (f, g, q) l h = after_break v k s m i c d q l h
  after_break at_begin (begin t v k) s m i c d (f, g, q) l h = after_break v k s m i c d q l h
  after_break at_again (again t v k) s m i c d (f, g, q) l h = fit p _ _ s m i _ k d q l h
  after_break {r = r} (at_close {objects = xs} {items = items} {work = w}) (close t (level v) k) s m i c d (f, g, q) l h =
      after_close _ xs items w s m (λ n. broken w s n i) f d l h (λ n b dn ln hn. after_break v k s n i (breaks_in (ends_switch w) xs items (around p r w) c (level_not_end w v)) dn q ln hn)
  after_break (at_close {objects = xs} {items = items}) (close t switch (switch_end {w = w} v k)) s m i c d (f, g, (f', g', q)) l h =
      after_close _ xs items (SwitchEnd ∷ w) s m (λ n. broken (SwitchEnd ∷ w) s n i) f d l h (λ n b dn ln hn. fit p _ _ s n i _ k dn q ln hn)
  after_break at_reach k s m i c d q l h = absurd (cc)

  pub after_continue : {r : CTypeTree} {w : List Item} {ts : List Want} → IsLevel w → Takes p r w ts → (s : List Held) (m : ObjectMemory) (i : List ℤ)
      → IsTrue (around p r w).standing.continues → Stacked (length m.blocks) ts s → Parted (OpensCall p) p w → AreLive p w m → KeepsIn p m
      → On p (continued w s m i)
  after_continue at_do (rules.does t v k) s m i c d (f, g, q) l h = after_continue v k s m i c d q l h
  after_continue at_begin (begin t v k) s m i c d (f, g, q) l h = after_continue v k s m i c d q l h
  after_continue (at_again {k = n} {loop = x} {work = w}) k s m i c d q l h = fit p _ (Again n x ∷ w) s m i _ k d q l h
  after_continue {r = r} (at_close {objects = xs} {items = items} {work = w}) (close t (level v) k) s m i c d (f, g, q) l h =
      after_close _ xs items w s m (λ n. continued w s n i) f d l h (λ n b dn ln hn. after_continue v k s n i (continues_in (ends_switch w) xs items (around p r w) c) dn q ln hn)
  after_continue (at_close {objects = xs} {items = items}) (close t switch (switch_end {w = w} v k)) s m i c d (f, g, (f', g', q)) l h =
      after_close _ xs items (SwitchEnd ∷ w) s m (λ n. continued w s n i) f d l h (λ n b dn ln hn. after_continue v k s n i c dn q ln hn)
  after_continue at_reach k s m i c d q l h = absurd (cc)

  pub after_return : {r : CTypeTree} {w : List Item} {ts : List Want} → IsLevel w → Takes p r w ts → (x : Held) (s : List Held) (m : ObjectMemory) (i : List ℤ)
      → HasWant (length m.blocks) (want_of r) x → Stacked (length m.blocks) ts s → Parted (OpensCall p) p w → AreLive p w m → KeepsIn p m
      → On p (jumps.left w x s m i)
  after_return at_do (rules.does t v k) x s m i c d (f, g, q) l h = after_return v k x s m i c d q l h
  after_return at_begin (begin t v k) x s m i c d (f, g, q) l h = after_return v k x s m i c d q l h
  after_return at_again (again t v k) x s m i c d (f, g, q) l h = after_return v k x s m i c d q l h
  after_return {r = r} (at_close {objects = xs} {items = items} {work = w}) (close t (level v) k) x s m i c d (f, g, q) l h =
      after_close _ xs items w s m (λ n. jumps.left w x s n i) f d l h
      (λ n b dn ln hn. after_return v k x s n i (subst (λ z. HasWant z (want_of r) x) (sym b) c) dn q ln hn)
  after_return {r = r} (at_close {objects = xs} {items = items}) (close t switch (switch_end {w = w} v k)) x s m i c d (f, g, (f', g', q)) l h =
      after_close _ xs items (SwitchEnd ∷ w) s m (λ n. jumps.left w x s n i) f d l h
      (λ n b dn ln hn. after_return v k x s n i (subst (λ z. HasWant z (want_of r) x) (sym b) c) dn q ln hn)
  after_return at_reach (reach e k) x s m i c d (f, g, q) l h = fit p _ _ (x ∷ s) m i _ k (on_top (gives (length m.blocks) x e c) d) q l h

  pub after_goto : {r : CTypeTree} {w : List Item} {ts : List Want} → IsLevel w → Takes p r w ts → (j : ℕ) (s : List Held) (m : ObjectMemory) (i : List ℤ)
      → Contains (around p r w).labels j → Stacked (length m.blocks) ts s → Parted (OpensCall p) p w → AreLive p w m → KeepsIn p m → On p (jumped j w s m i)
  after_goto at_do (rules.does t v k) j s m i c d (f, g, q) l h = after_goto v k j s m i c d q l h
  after_goto at_begin (begin t v k) j s m i c d (f, g, q) l h = after_goto v k j s m i c d q l h
  after_goto at_again (again t v k) j s m i c d (f, g, q) l h = after_goto v k j s m i c d q l h
  after_goto {r = r} {ts = ts} (at_close {objects = xs} {items = items} {work = w}) (close t (level v) k) j s m i c d (f, g, q) l h =
      in_or_out r ts j xs items w s m i (has (AtLabel j) items) refl (labels_in (ends_switch w) xs items (around p r w) j c) t (level v) k f g q d l h
      (λ e. after_close ts xs items w s m (λ n. jumped j w s n i) f d l h (λ n b dn ln hn. after_goto v k j s n i e dn q ln hn))
  after_goto {r = r} {ts = ts} (at_close {objects = xs} {items = items}) (close t switch (switch_end {w = w} v k)) j s m i c d (f, g, (f', g', q)) l h =
      in_or_out r ts j xs items (SwitchEnd ∷ w) s m i (has (AtLabel j) items) refl (labels_in true xs items (around p r w) j c) t switch (switch_end v k) f g (f', g', q) d l h
      (λ e. after_close ts xs items (SwitchEnd ∷ w) s m (λ n. jumped j w s n i) f d l h (λ n b dn ln hn. after_goto v k j s n i e dn q ln hn))
  after_goto at_reach k j s m i c d q l h = let lt = c.1 in absurd (omega (arith, lt))
