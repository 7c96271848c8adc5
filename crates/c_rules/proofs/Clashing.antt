-- What the tests of c_rules_order tell of two sides of a node.
use Rattle.std.proofs.Common.{◌≡◌, ◌⊎◌, inl, inr, ℕ, Bool, true, false, ◌||◌, List, Some, None, refl, sym, subst}
use Rattle.std.specs.Prelude.{◌↔◌, Err, IfOk, Ok, Result, Option, All, Contains, MatchOption}
use Rattle.std.specs.List.{list_any}
use Rattle.std.proofs.lemmas.Bool.{or_cases}
use Rattle.std.proofs.lemmas.List.Elements.{Contains-append_cases, Contains-append_left, Contains-append_right}
use Rattle.c_syntax.specs.Program.{TProgramTree}
use Rattle.c_layout.specs.Calls.{PlacedCall}
use Rattle.c_rules_effects.specs.declared.touch.Touch.{Touch}
use Rattle.c_rules_effects.specs.Meeting.{Meet}
use Rattle.c_rules_effects.specs.declared.effects.Effects.{Effects}
use Rattle.c_rules_effects.specs.Effects.{called}
use Rattle.c_rules_effects.specs.Met.{met}
use Rattle.c_rules_effects.proofs.Tests.{tells}
use Rattle.c_rules_order.specs.declared.known.Known.{Known}
use Rattle.c_rules_order.specs.declared.side.Side.{Side}
use Rattle.c_rules_order.specs.declared.side.Comparison.{Comparison}
use Rattle.c_rules_order.specs.Firsts.{all_reads, all_touches, all_writes, called_reads, called_writes, clashes, or_first, writes_into}
use Rattle.c_rules.specs.Earliest.{IsEarliest, IsFirst}
use Rattle.c_rules.specs.Sequenced.{Clash, compared_by, IsClashOf, IsEffectsOfSide, IsFirstClash, IsKnownOf, IsSequenced, Reads, Writes, WritesInto}
use Rattle.c_rules.proofs.Members.{first_is_one, first_true, in_flat_map, into_flat_map, none_true, some_true, true_some, all_not_first}

either_true : (a b : Bool) → (a ≡ true) ⊎ (b ≡ true) → (a || b) ≡ true
either_true true b h = refl
either_true false b (inl e) = absurd (cc)
either_true false b (inr e) = e

module _ (program : TProgramTree) (known : Known) (k : IsKnownOf program known) where
  abbrev functions : List Effects
  functions = known.functions.items

  -- ---- what a side touches

  reads_to : (side : Side) (t : Touch) → Contains (all_reads functions side) t → Reads program side t
  reads_to side t c = elim (Contains-append_cases side.own.reads (called_reads functions side.calls) t c) [
    | inl own ↦ inl own
    | inr h ↦
        let m = in_flat_map (λ (call : PlacedCall). (called functions call.callee).reads) side.calls t h in
        inr (m.0, m.1, ((k.functions m.0.callee).reads t).0 m.2)
  ]

  reads_from : (side : Side) (t : Touch) → Reads program side t → Contains (all_reads functions side) t
  reads_from side t (inl own) = Contains-append_left side.own.reads (called_reads functions side.calls) t own
  reads_from side t (inr h) =
      Contains-append_right side.own.reads (called_reads functions side.calls) t
      (into_flat_map (λ (call : PlacedCall). (called functions call.callee).reads) side.calls h.0 t h.1 (((k.functions h.0.callee).reads t).1 h.2))

  writes_to : (side : Side) (t : Touch) → Contains (all_writes functions side) t → Writes program side t
  writes_to side t c = elim (Contains-append_cases side.own.writes (called_writes functions side.calls) t c) [
    | inl own ↦ inl own
    | inr h ↦
        let m = in_flat_map (λ (call : PlacedCall). (called functions call.callee).writes) side.calls t h in
        inr (m.0, m.1, ((k.functions m.0.callee).writes t).0 m.2)
  ]

  writes_from : (side : Side) (t : Touch) → Writes program side t → Contains (all_writes functions side) t
  writes_from side t (inl own) = Contains-append_left side.own.writes (called_writes functions side.calls) t own
  writes_from side t (inr h) =
      Contains-append_right side.own.writes (called_writes functions side.calls) t
      (into_flat_map (λ (call : PlacedCall). (called functions call.callee).writes) side.calls h.0 t h.1 (((k.functions h.0.callee).writes t).1 h.2))

  pub side_effects : (side : Side) (effects : Effects) → effects.reads ≡ all_reads functions side → effects.writes ≡ all_writes functions side
      → IsEffectsOfSide program side effects
  side_effects side effects reads writes = record {
    reads = λ t. (λ c. reads_to side t (subst (λ xs. Contains xs t) reads c), λ r. subst (λ xs. Contains xs t) (sym reads) (reads_from side t r));
    writes = λ t. (λ c. writes_to side t (subst (λ xs. Contains xs t) writes c), λ w. subst (λ xs. Contains xs t) (sym writes) (writes_from side t w));
  }

  -- ---- two sides

  into : (a b : Side) → writes_into known a b ≡ true → WritesInto program a b
  into a b e =
      let s = some_true (λ s. list_any (met known.taken.items s) (all_touches functions b)) (all_writes functions a) e in
      let t = some_true (met known.taken.items s.0) (all_touches functions b) s.2 in record {
        written = s.0;
        touched = t.0;
        writes = writes_to a s.0 s.1;
        touches = elim (Contains-append_cases (all_reads functions b) (all_writes functions b) t.0 t.1) [
          | inl r ↦ inl (reads_to b t.0 r)
          | inr w ↦ inr (writes_to b t.0 w)
        ];
        meet = subst (λ taken. Meet taken s.0 t.0) k.taken ((tells known.taken.items s.0 t.0).0 t.2);
      }

  touched_in : (b : Side) (t : Touch) → Reads program b t ⊎ Writes program b t → Contains (all_touches functions b) t
  touched_in b t (inl r) = Contains-append_left (all_reads functions b) (all_writes functions b) t (reads_from b t r)
  touched_in b t (inr w) = Contains-append_right (all_reads functions b) (all_writes functions b) t (writes_from b t w)

  out_of : (a b : Side) → WritesInto program a b → writes_into known a b ≡ true
  out_of a b w =
      true_some (λ s. list_any (met known.taken.items s) (all_touches functions b)) (all_writes functions a) w.written (writes_from a w.written w.writes)
      (true_some (met known.taken.items w.written) (all_touches functions b) w.touched (touched_in b w.touched w.touches)
      ((tells known.taken.items w.written w.touched).1 (subst (λ taken. Meet taken w.written w.touched) (sym k.taken) w.meet)))

  clash_told : (c : Comparison) → (clashes known c ≡ true) ↔ Clash program c
  clash_told c = (
    λ e. elim (or_cases (writes_into known c.left c.right) (writes_into known c.right c.left) e) [
      | inl h ↦ inl (into c.left c.right h)
      | inr h ↦ inr (into c.right c.left h)
    ],
    λ h. either_true (writes_into known c.left c.right) (writes_into known c.right c.left)
        (elim h [ inl w ↦ inl (out_of c.left c.right w) | inr w ↦ inr (out_of c.right c.left w) ]),
  )

  -- ---- the first of a list

  pub first_told : (list : List Comparison) (found : Option Comparison) → found ≡ or_first known None list
      → MatchOption found (All (λ c. Clash program c → ⊥) list) (IsFirst (Clash program) list)
  unfolding or_first
  first_told list None e = none_true (clashes known) (Clash program) clash_told list (sym e)
  first_told list (Some c) e = first_true (clashes known) (Clash program) clash_told list c (sym e)

-- ---- the first of a function

pub only_clash : (program : TProgramTree) (n : ℕ) (found : Option Comparison)
    → MatchOption found (All (λ c. Clash program c → ⊥) (compared_by program n)) (IsFirst (Clash program) (compared_by program n))
    → MatchOption found ((a : Comparison) → IsClashOf program n a → ⊥) (λ a. IsClashOf program n a × ((b : Comparison) → IsClashOf program n b → b ≡ a))
only_clash program n None none = λ a. all_not_first (Clash program) (compared_by program n) a none
only_clash program n (Some a) first = (first, λ b other. first_is_one (Clash program) (compared_by program n) b a other first)

-- where no function has a first clash, no two sides clash
pub all_sequenced : (program : TProgramTree) (known : Known) → IsKnownOf program known → ((f : ℕ) (a : Comparison) → IsClashOf program f a → ⊥)
    → IsSequenced program
all_sequenced program known k none f = by_found (or_first known None (compared_by program f)) refl where
  by_found : (found : Option Comparison) → or_first known None (compared_by program f) ≡ found → All (λ c. Clash program c → ⊥) (compared_by program f)
  by_found None e = first_told program known k (compared_by program f) None (sym e)
  by_found (Some c) e = absurd (none f c (first_told program known k (compared_by program f) (Some c) (sym e)))

pub clash_answer : (program : TProgramTree) (known : Known) → IsKnownOf program known → (found : Option Comparison)
    → MatchOption found ((f : ℕ) (a : Comparison) → IsClashOf program f a → ⊥) (IsEarliest (λ (c : Comparison). c.pos) (IsClashOf program))
    → MatchOption found (IsSequenced program) (IsFirstClash program)
clash_answer program known k None h = all_sequenced program known k h
clash_answer program known k (Some c) h = h

pub side_answer : {E : Type 0} (program : TProgramTree) (known : Known) → IsKnownOf program known → (side : Side) (r : Result Effects E)
    → IfOk r (λ effects. effects.reads ≡ all_reads known.functions.items side) → IfOk r (λ effects. effects.writes ≡ all_writes known.functions.items side)
    → IfOk r (IsEffectsOfSide program side)
side_answer program known k side (Ok effects) reads writes = side_effects program known k side effects reads writes
side_answer program known k side (Err e) reads writes = tt
