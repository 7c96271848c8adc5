-- One alarm tells of a failure; no two alarms are alike; so each alarm of that chain, place and kind is that one.
use Rattle.std.proofs.Common.{◌≡◌, ℕ, zero, suc, List, [], ◌∷◌, ◌++◌, refl, ap, ◌∙◌, sym, subst, inl, inr, ⊎_elim, arith}
use Rattle.std.specs.Prelude.{All, AllPairs, Any, slice_index_or}
use Rattle.std.specs.List.{flat_map}
use Rattle.c_syntax_written.specs.declared.place.Pos.{Pos}
use Rattle.c_syntax.specs.declared.alarm.WrongKind.{WrongKind}
use Rattle.c_syntax.specs.declared.alarm.Alarm.{Alarm}
use Rattle.c_syntax.specs.Operand.{Operand}
use Rattle.c_values.specs.Places.{ObjectMemory}
use Rattle.csharp.specs.Trees.{CsProgramTree}
use Rattle.c_steps.specs.Sound.{TellsOf}
use Rattle.c_steps.specs.Order.{IsBefore, Precedes, order_key, place_key, kind_number}
use Rattle.alarm_claims.specs.Analyzed.{Tells, Listed, Covers, AnalysesAreWhole}

-- no list of numbers stands before itself
never_before : (xs : List ℕ) → IsBefore xs xs → ⊥
never_before [] h = h
never_before (x ∷ xs) h = ⊎_elim (λ l. omega (l, arith)) (λ e. never_before xs e.1) h

key_same : (a b : Alarm) (c : List Pos) (at : Pos) (k : WrongKind) → TellsOf c at k a → TellsOf c at k b → order_key a ≡ order_key b
key_same a b c at k s t =
    ap (λ z. place_key z ++ (kind_number a.kind ∷ flat_map place_key a.chain)) (s.1 ∙ sym t.1)
    ∙ ap (λ z. place_key b.pos ++ (kind_number z ∷ flat_map place_key a.chain)) (s.2 ∙ sym t.2)
    ∙ ap (λ z. place_key b.pos ++ (kind_number b.kind ∷ flat_map place_key z)) (s.0 ∙ sym t.0)

not_alike : (a b : Alarm) (c : List Pos) (at : Pos) (k : WrongKind) → TellsOf c at k a → TellsOf c at k b → Precedes a b → ⊥
not_alike a b c at k s t h = never_before (order_key b) (subst (λ z. IsBefore z (order_key b)) (key_same a b c at k s t) h)

-- the rest of an ordered list is ordered
rest_ordered : (a : Alarm) (xs : List Alarm) → AllPairs Precedes (a ∷ xs) → AllPairs Precedes xs
rest_ordered a xs h i j d l m = h (suc i) (suc j) d (omega (l, arith)) (omega (m, arith))

-- what holds of the first and of each other one holds of all
cons : (P : Alarm → Type 0) (a : Alarm) (xs : List Alarm) → P a → All P xs → All P (a ∷ xs)
cons P a xs h t zero d l = h
cons P a xs h t (suc k) d l = t k d (omega (l, arith))

module _ (q : CsProgramTree) (c : List Pos) (at : Pos) (k : WrongKind) (x : Operand) (m : ObjectMemory) where
  told : (a : Alarm) → Tells q a c at k x m → TellsOf c at k a
  told a t = (t.chain, t.place, t.kind)

  -- some alarm tells of it
  pub any_told : (xs : List Alarm) → Listed q xs c at k x m → Any (TellsOf c at k) xs
  any_told [] h = absurd h
  any_told (a ∷ xs) (inl t) = (0, a, omega arith, refl, told a t)
  any_told (a ∷ xs) (inr h) = let r = any_told xs h in (suc r.0, r.1, omega (r.2, arith), r.3, r.4)

  -- where the first tells of it, no other is alike
  others : (a : Alarm) (xs : List Alarm) → TellsOf c at k a → AllPairs Precedes (a ∷ xs) → All (λ b. TellsOf c at k b → Covers q x m b) xs
  others a xs s h j d l t = absurd (not_alike a (slice_index_or xs j d) c at k s t (h 0 (suc j) d (omega arith) (omega (l, arith))))

  -- where a later one tells of it, the first is not alike
  first : (a : Alarm) (xs : List Alarm) → Any (TellsOf c at k) xs → AllPairs Precedes (a ∷ xs) → TellsOf c at k a → Covers q x m a
  first a xs r h s = absurd (not_alike a r.1 c at k s r.4 (subst (λ z. Precedes a z) r.3 (h 0 (suc r.0) r.1 (omega arith) (omega (r.2, arith)))))

  pub all_covered : (xs : List Alarm) → Listed q xs c at k x m → AllPairs Precedes xs → All (λ b. TellsOf c at k b → Covers q x m b) xs
  all_covered [] h o = absurd h
  all_covered (a ∷ xs) (inl t) o = cons (λ b. TellsOf c at k b → Covers q x m b) a xs (λ s. (t.shown, t.facts)) (others a xs (told a t) o)
  all_covered (a ∷ xs) (inr h) o =
      cons (λ b. TellsOf c at k b → Covers q x m b) a xs (first a xs (any_told xs h) o) (all_covered xs h (rest_ordered a xs o))

pub analyses_are_whole : AnalysesAreWhole
analyses_are_whole q alarms lists admitted ordered = record {
  misses_none = λ inputs c at k x m f. any_told q c at k x m alarms (lists.by inputs c at k x m f);
  shows = λ inputs c at k x m f. all_covered q c at k x m alarms (lists.by inputs c at k x m f) ordered;
  admitted = admitted;
  ordered = ordered;
}
