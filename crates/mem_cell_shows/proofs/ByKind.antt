-- What is shown of each kind of check.
use Rattle.std.proofs.Common.{ℕ, ℤ, pos, neg_ℤ, ◌^◌, ◌≤ℤ◌, ◌≡◌, ◌⊎◌, inl, inr, Bool, true, false, not, List, [], ◌∷◌, map, Option, Some, option_and_then, option_map, refl, sym, ap, subst, ◌∙◌, arith}
use Rattle.std.specs.Prelude.{IsTrue, if◌then◌else◌}
use Rattle.std.specs.Ordering.{int_eq}
use Rattle.std.proofs.lemmas.Int.{ints}
use Rattle.c_syntax.specs.declared.alarm.Pointers.{Pointers}
use Rattle.c_syntax.specs.declared.alarm.Shown.{Shown}
use Rattle.c_syntax.specs.declared.alarm.Shown.TheVariants as shows
use Rattle.c_syntax.specs.declared.alarm.Spot.{Spot}
use Rattle.c_syntax.specs.declared.alarm.WrongKind.{WrongKind}
use Rattle.c_syntax.specs.declared.alarm.WrongKind.TheVariants as kinds
use Rattle.c_syntax.specs.Types.{ObjectTree}
use Rattle.c_syntax.specs.Operand.{End, Number, Operand, Point, Points}
use Rattle.c_syntax.specs.Operand as operands
use Rattle.c_syntax.specs.Admission.{IsInShown, IsProper}
use Rattle.block_mem.specs.declared.types.Scalar.{Scalar}
use Rattle.block_mem.specs.declared.types.Value.{Value}
use Rattle.block_mem.specs.declared.types.Value.TheVariants as values
use Rattle.num_api.specs.Value.{truth as number_truth}
use Rattle.c_values.specs.Accesses.{mark, test_operand}
use Rattle.c_values.specs.Operators.{number, pair_operand}
use Rattle.c_values.specs.Places.{point, spot}
use Rattle.c_values.specs.Values.{truth}
use Rattle.csharp.specs.Trees.{CsExprTree, csexpr_tree}
use Rattle.csharp.specs.States.{State, end_of, exact_of, of_one, of_value, on_both, operand_of, pointed, value_of}
use Rattle.machine_nums.specs.MExprs.{MExprTree}
use Rattle.machine_nums.specs.Machine.{exact_value, machine_value}
use Rattle.machine_nums.specs.Machines.{Admits}
use Rattle.csharp.specs.declared.expression.CsExpr.{CsExpr}
use Rattle.mem_shown.specs.Decisions.{NamesObjects}
use Rattle.mem_api.specs.Showing.{ArePointers, IsPair}
use Rattle.mem_cell_exprs.specs.Exprs.{IsNumberFor}
use Rattle.mem_cell_exprs.specs.Known.{StandsFor}
use Rattle.mem_cell_exprs.specs.declared.known.Known.{Known}
use Rattle.mem_cell_exprs.proofs.Moves.{numbered-of}
use Rattle.mem_cell_exprs.proofs.Options.{map-some, then-some}
use Rattle.mem_cell_shows.specs.declared.ends.Ends.{Ends}
use Rattle.mem_cell_shows.specs.declared.marks.Marks.{Marks}
use Rattle.mem_cell_shows.specs.declared.truths.Truths.{Truths}
use Rattle.mem_cell_shows.specs.Ends.{HoldsNumbers, IsProperEnds, LiesIn, number_shown}
use Rattle.mem_cell_shows.specs.Exacts.{IsExactFor}
use Rattle.mem_cell_shows.specs.Shows.{ShowsPointer}
use Rattle.mem_cell_shows.specs.Checks.{AreTwo, HasTruths, HasTwo, IsShown, MayBeTwo, ShowsMarks, ShowsNumber, ShowsPair, ShowsSet, ends_shown, marks_shown, may_have, truth_ends}
use Rattle.mem_cell_shows.proofs.Looks.{none-looked}
use Rattle.mem_cell_shows.proofs.Results.{exact-number}

-- ---- truths as numbers and as ends

truth-lies : (found : Truths) (b : Bool) → IsTrue (may_have found b) → LiesIn (truth_ends found) (if b then pos 1 else pos 0)
truth-lies found true h = ((low found.no, high found.yes h), (pos 1, omega (arith, ints))) where
  low : (f : Bool) → number_truth (not f) ≤ℤ pos 1
  low true = omega (arith, ints)
  low false = omega (arith, ints)

  high : (t : Bool) → IsTrue t → pos 1 ≤ℤ number_truth t
  high true e = omega (arith, ints)
  high false e = cc
truth-lies found false h = ((low found.no h, high found.yes), (pos 0, omega (arith, ints))) where
  low : (f : Bool) → IsTrue f → number_truth (not f) ≤ℤ pos 0
  low true e = omega (arith, ints)
  low false e = cc

  high : (t : Bool) → pos 0 ≤ℤ number_truth t
  high true = omega (arith, ints)
  high false = omega (arith, ints)

truth-proper : (found : Truths) → IsProperEnds (truth_ends found)
truth-proper found = record {
  lo_moderate = small (not found.no);
  hi_moderate = small found.yes;
  modulus_low = omega (arith, ints);
  modulus_high = omega (arith, ints);
  remainder = λ h. (omega (arith, ints), omega (arith, ints));
  point = λ h. absurd (omega (arith, ints, h));
}
  where
    small : (b : Bool) → (neg_ℤ (pos (2 ^ 126)) ≤ℤ number_truth b) × (number_truth b ≤ℤ pos (2 ^ 126))
    small true = (omega (arith, ints), omega (arith, ints))
    small false = (omega (arith, ints), omega (arith, ints))

pub number-is : (n : ℤ) (x : Operand) → Some (Number n) ≡ Some x → x ≡ Number n
number-is n x h = cc

pub end-is : (e : operands.CallEnd) (x : Operand) → Some (End e) ≡ Some x → x ≡ End e
end-is e x h = cc

end-by : (found : Truths) (b : Bool) → IsTrue (may_have found (not b)) → (objects : List ObjectTree) → IsInShown objects (End (if b then operands.None else operands.Value)) (ends_shown found)
end-by found true h objects = h
end-by found false h objects = h

end-shown : (objects : List ObjectTree) (found : Truths) (u : Value) (x : Operand) → IsTrue (may_have found (truth u)) → end_of u ≡ Some x → IsInShown objects x (ends_shown found)
end-shown objects found (values.Int t n) x h is =
    subst (λ y. IsInShown objects y (ends_shown found)) (sym (end-is (if int_eq n (pos 0) then operands.None else operands.Value) x is)) (end-by found (int_eq n (pos 0)) h objects)
end-shown objects found (values.Ptr p) x h is = cc
end-shown objects found values.Null x h is = cc

-- ---- pointers

pair-parts : (s t : Option Spot) (x : Operand) → option_and_then (λ left. option_map (Points left) t) s ≡ Some x → (a b : Spot) × (s ≡ Some a) × (t ≡ Some b) × (x ≡ Points a b)
pair-parts s t x h = let f = then-some (λ left. option_map (Points left) t) s x h in let g = map-some (Points f.0) t x f.2 in (f.0, g.0, f.1, g.1, g.2)

both-parts : (kind : WrongKind) (s t : Option Spot) (x : Operand) → pair_operand s t kind ≡ Some x → (a b : Spot) × (s ≡ Some a) × (t ≡ Some b) × (x ≡ Points a b)
both-parts kinds.NullUse s t x h = pair-parts s t x h
both-parts kinds.Dangling s t x h = pair-parts s t x h
both-parts kinds.Unrelated s t x h = pair-parts s t x h
both-parts kind s t x h = cc

pub no-two : {P : Type 0} (kind : WrongKind) (s t : Option Spot) (x : Operand) → (MayBeTwo kind → ⊥) → pair_operand s t kind ≡ Some x → P
no-two kinds.NullUse s t x none h = absurd (none tt)
no-two kinds.Dangling s t x none h = absurd (none tt)
no-two kinds.Unrelated s t x none h = absurd (none tt)
no-two kind s t x none h = cc

-- two expressions that are looked at
pub record Looked (e f : CsExprTree) (s : State) (x : Operand) : Type 0 where
  pub left : Value
  pub right : Value
  pub first : value_of e s ≡ Some left
  pub second : value_of f s ≡ Some right
  pub from : Spot
  pub to : Spot
  pub starts : spot s.memory left ≡ Some from
  pub ends : spot s.memory right ≡ Some to
  pub is : x ≡ Points from to

pub on-two : (act : Value → Value → Option Operand) (e f : CsExprTree) (s : State) (x : Operand) → on_both e f s act ≡ Some x
    → (u v : Value) × (value_of e s ≡ Some u) × (value_of f s ≡ Some v) × (act u v ≡ Some x)
on-two act e f s x h =
    let a = then-some (λ u. option_and_then (act u) (value_of f s)) (value_of e s) x h in
    let b = then-some (act a.0) (value_of f s) x a.2 in
    (a.0, b.0, a.1, b.1, b.2)

pub looked-two : (kind : WrongKind) (e f : CsExprTree) (s : State) (x : Operand) → on_both e f s (λ v u. pair_operand (spot s.memory v) (spot s.memory u) kind) ≡ Some x → Looked e f s x
looked-two kind e f s x h =
    let r = on-two (λ v u. pair_operand (spot s.memory v) (spot s.memory u) kind) e f s x h in
    let p = both-parts kind (spot s.memory r.0) (spot s.memory r.1) x r.4 in
    record { left = r.0; right = r.1; first = r.2; second = r.3; from = p.0; to = p.1; starts = p.2; ends = p.3; is = p.4 }

module _ {D : Type 0} (admits : D → List ℤ → Type 0) (k : Known D) (count : ℕ) (ty : Option Scalar) (es : List CsExprTree) where
  to-kind : (known kind : WrongKind) (w : Shown) → kind ≡ known → IsShown admits k count known ty es w → IsShown admits k count kind ty es w
  to-kind known kind w e h = subst (λ x. IsShown admits k count x ty es w) (sym e) h

  -- ---- numbers

  pub results-kind : (kind : WrongKind) (w : Ends) → (kind ≡ kinds.Overflow) ⊎ ((kind ≡ kinds.Quotient) ⊎ (kind ≡ kinds.ShiftResult))
      → ShowsNumber admits k (λ s. of_one es (λ e. exact_of e s)) w → IsShown admits k count kind ty es (number_shown w)
  results-kind kind w (inl e) h = to-kind kinds.Overflow kind (number_shown w) e (record { holds = h.holds; form = tt; names = tt; proper = h.proper })
  results-kind kind w (inr (inl e)) h = to-kind kinds.Quotient kind (number_shown w) e (record { holds = h.holds; form = tt; names = tt; proper = h.proper })
  results-kind kind w (inr (inr e)) h = to-kind kinds.ShiftResult kind (number_shown w) e (record { holds = h.holds; form = tt; names = tt; proper = h.proper })

  pub numbers-kind : (kind : WrongKind) (w : Ends) → (kind ≡ kinds.DivideByZero) ⊎ (kind ≡ kinds.ShiftAmount)
      → ShowsNumber admits k (λ s. of_value es s number) w → IsShown admits k count kind ty es (number_shown w)
  numbers-kind kind w (inl e) h = to-kind kinds.DivideByZero kind (number_shown w) e (record { holds = h.holds; form = tt; names = tt; proper = h.proper })
  numbers-kind kind w (inr e) h = to-kind kinds.ShiftAmount kind (number_shown w) e (record { holds = h.holds; form = tt; names = tt; proper = h.proper })

  -- ---- truths

  -- what is looked at of the one expression
  of-one : (es : List CsExprTree) (s : State) (look : Value → Option Operand) (x : Operand) → of_value es s look ≡ Some x
      → (e : CsExprTree) × (u : Value) × (es ≡ e ∷ []) × (value_of e s ≡ Some u) × (look u ≡ Some x)
  of-one [] s look x h = cc
  of-one (e ∷ []) s look x h = let r = then-some look (value_of e s) x h in (e, r.0, refl, r.1, r.2)
  of-one (e ∷ f ∷ fs) s look x h = cc

  pub truth-kind : (kind : WrongKind) (found : Truths) → kind ≡ kinds.AssertFailed → ((e : CsExprTree) → es ≡ e ∷ [] → HasTruths admits k e found)
      → IsShown admits k count kind ty es (number_shown (truth_ends found))
  truth-kind kind found is h = to-kind kinds.AssertFailed kind (number_shown (truth_ends found)) is (record { holds = holds; form = tt; names = tt; proper = truth-proper found }) where
    holds : (objects : List ObjectTree) (s : State) (x : Operand) → StandsFor admits objects k s → operand_of kinds.AssertFailed ty es s ≡ Some x
        → IsInShown objects x (number_shown (truth_ends found))
    holds objects s x st look =
        let r = of-one es s (λ v. test_operand s.memory v kinds.AssertFailed) x look in
        subst (λ y. IsInShown objects y (number_shown (truth_ends found))) (sym (number-is (if truth r.1 then pos 1 else pos 0) x r.4))
        (truth-lies found (truth r.1) (h r.0 r.2 objects s r.1 st r.3))

  pub end-kind : (kind : WrongKind) (found : Truths) → kind ≡ kinds.NoValue → ((e : CsExprTree) → es ≡ e ∷ [] → HasTruths admits k e found)
      → IsShown admits k count kind ty es (ends_shown found)
  end-kind kind found is h = to-kind kinds.NoValue kind (ends_shown found) is (record { holds = holds; form = tt; names = tt; proper = tt }) where
    holds : (objects : List ObjectTree) (s : State) (x : Operand) → StandsFor admits objects k s → operand_of kinds.NoValue ty es s ≡ Some x
        → IsInShown objects x (ends_shown found)
    holds objects s x st look = let r = of-one es s end_of x look in end-shown objects found r.1 x (h r.0 r.2 objects s r.1 st r.3) r.4

  -- ---- marks

  pub marks-kind : (kind : WrongKind) (w : Marks) → (kind ≡ kinds.Indeterminate) ⊎ (kind ≡ kinds.Fragment) → ShowsMarks admits k (λ s. of_value es s (mark s.memory ty)) w
      → IsShown admits k count kind ty es (marks_shown w)
  marks-kind kind w (inl e) h = to-kind kinds.Indeterminate kind (marks_shown w) e (record { holds = h; form = tt; names = tt; proper = tt })
  marks-kind kind w (inr e) h = to-kind kinds.Fragment kind (marks_shown w) e (record { holds = h; form = tt; names = tt; proper = tt })

  -- ---- pointers

  -- one pointer, of a check of two kinds
  one-point : (kind : WrongKind) (es : List CsExprTree) (s : State) (x : Operand) → (AreTwo es → MayBeTwo kind → ⊥) → pointed kind es s ≡ Some x
      → of_value es s (point s.memory) ≡ Some x
  one-point kind [] s x none h = h
  one-point kind (e ∷ []) s x none h = h
  one-point kind (e ∷ f ∷ []) s x none h =
      let r = on-two (λ v u. pair_operand (spot s.memory v) (spot s.memory u) kind) e f s x h in
      no-two kind (spot s.memory r.0) (spot s.memory r.1) x (none tt) r.4
  one-point kind (e ∷ f ∷ g ∷ gs) s x none h = h

  set-form : (es : List CsExprTree) (shown : Pointers) → (AreTwo es → ⊥) → ArePointers es (shows.One shown)
  set-form [] shown none = tt
  set-form (e ∷ []) shown none = tt
  set-form (e ∷ f ∷ []) shown none = absurd (none tt)
  set-form (e ∷ f ∷ g ∷ gs) shown none = tt

  -- one pointer
  pub set-kind : (kind : WrongKind) (shown : Pointers) → (kind ≡ kinds.Bounds) ⊎ ((kind ≡ kinds.Access) ⊎ ((kind ≡ kinds.Alignment) ⊎ (kind ≡ kinds.ReadOnly)))
      → ShowsSet admits k count es shown → IsShown admits k count kind ty es (shows.One shown)
  set-kind kind shown (inl e) h = to-kind kinds.Bounds kind (shows.One shown) e
      (record { holds = λ objects s x st look. h.holds objects s x st (one-point kinds.Bounds es s x (λ t n. n) look); form = tt; names = h.names; proper = h.proper })
  set-kind kind shown (inr (inl e)) h = to-kind kinds.Access kind (shows.One shown) e
      (record { holds = λ objects s x st look. h.holds objects s x st (one-point kinds.Access es s x (λ t n. n) look); form = tt; names = h.names; proper = h.proper })
  set-kind kind shown (inr (inr (inl e))) h = to-kind kinds.Alignment kind (shows.One shown) e
      (record { holds = λ objects s x st look. h.holds objects s x st (one-point kinds.Alignment es s x (λ t n. n) look); form = tt; names = h.names; proper = h.proper })
  set-kind kind shown (inr (inr (inr e))) h = to-kind kinds.ReadOnly kind (shows.One shown) e
      (record { holds = λ objects s x st look. h.holds objects s x st (one-point kinds.ReadOnly es s x (λ t n. n) look); form = tt; names = h.names; proper = h.proper })

  -- a check that may look at two, of one
  pub one-kind : (kind : WrongKind) (shown : Pointers) → MayBeTwo kind → HasTwo kind es → (AreTwo es → ⊥) → ShowsSet admits k count es shown
      → IsShown admits k count kind ty es (shows.One shown)
  one-kind kinds.NullUse shown may two none h =
      record { holds = λ objects s x st look. h.holds objects s x st (one-point kinds.NullUse es s x (λ t n. none t) look); form = set-form es shown none; names = h.names; proper = h.proper }
  one-kind kinds.Dangling shown may two none h =
      record { holds = λ objects s x st look. h.holds objects s x st (one-point kinds.Dangling es s x (λ t n. none t) look); form = set-form es shown none; names = h.names; proper = h.proper }
  one-kind kinds.Unrelated shown may two none h = absurd (none two)
  one-kind kind shown may two none h = absurd may

module _ {D : Type 0} (admits : D → List ℤ → Type 0) (k : Known D) (count : ℕ) (ty : Option Scalar) (e f : CsExprTree) (w : Shown) (h : ShowsPair admits k count e f w) where
  two-holds : (kind : WrongKind) (objects : List ObjectTree) (s : State) (x : Operand) → StandsFor admits objects k s
      → on_both e f s (λ v u. pair_operand (spot s.memory v) (spot s.memory u) kind) ≡ Some x → IsInShown objects x w
  two-holds kind objects s x st look =
      let r = looked-two kind e f s x look in
      subst (IsInShown objects x) (sym h.is) (subst (λ y. IsInShown objects y (shows.Pair h.left h.right)) (sym r.is)
      (h.first.holds objects s r.left r.from st r.first r.starts, h.second.holds objects s r.right r.to st r.second r.ends))

  two-form : IsPair w
  two-form = subst IsPair (sym h.is) tt

  two-names : NamesObjects count w
  two-names = subst (NamesObjects count) (sym h.is) (h.first.names, h.second.names)

  two-proper : IsProper w
  two-proper = subst IsProper (sym h.is) (h.first.proper, h.second.proper)

  pub pair-kind : (kind : WrongKind) → MayBeTwo kind → IsShown admits k count kind ty (e ∷ f ∷ []) w
  pair-kind kinds.NullUse may = record { holds = λ objects s x st look. two-holds kinds.NullUse objects s x st look; form = two-form; names = two-names; proper = two-proper }
  pair-kind kinds.Dangling may = record { holds = λ objects s x st look. two-holds kinds.Dangling objects s x st look; form = two-form; names = two-names; proper = two-proper }
  pair-kind kinds.Unrelated may = record { holds = λ objects s x st look. two-holds kinds.Unrelated objects s x st look; form = two-form; names = two-names; proper = two-proper }
  pair-kind kind may = absurd may

-- ---- the one expression, as code has it

module _ {D : Type 0} (admits : D → List ℤ → Type 0) (k : Known D) (count : ℕ) where
  pub set-of-one : (e : CsExprTree) (shown : Pointers) → ShowsPointer admits k count e shown → ShowsSet admits k count (e ∷ []) shown
  set-of-one e shown h = record { holds = holds; proper = h.proper; names = h.names } where
    holds : (objects : List ObjectTree) (s : State) (x : Operand) → StandsFor admits objects k s → of_value (e ∷ []) s (point s.memory) ≡ Some x
        → IsInShown objects x (shows.One shown)
    holds objects s x st look =
        let u = then-some (point s.memory) (value_of e s) x look in
        let a = map-some Point (spot s.memory u.0) x u.2 in
        subst (λ y. IsInShown objects y (shows.One shown)) (sym a.2) (h.holds objects s u.0 a.0 st u.1 a.1)

  -- the number of an expression
  pub number-of : (e : CsExprTree) (m : MExprTree) (w : Ends) → IsNumberFor k.types e m → HoldsNumbers (Admits admits k.nums) (λ v. machine_value v m) w
      → ShowsNumber admits k (λ s. option_and_then number (value_of e s)) w
  number-of e m w num h = record { holds = holds; proper = h.proper } where
    holds : (objects : List ObjectTree) (s : State) (x : Operand) → StandsFor admits objects k s → option_and_then number (value_of e s) ≡ Some x
        → IsInShown objects x (number_shown w)
    holds objects s x st look =
        let u = then-some number (value_of e s) x look in
        let b = num st.v s (numbered-of admits k objects s st) u.0 u.1 in
        subst (λ y. IsInShown objects y (number_shown w)) (sym (number-is b.0 x (ap number (sym b.1) ∙ u.2))) (h.holds st.v b.0 st.admitted b.2)

  -- the exact result
  pub result-of : (e : CsExprTree) (m : MExprTree) (w : Ends) → IsExactFor k.types e m → HoldsNumbers (Admits admits k.nums) (λ v. exact_value v m) w
      → ShowsNumber admits k (exact_of e) w
  result-of e m w num h = record { holds = holds; proper = h.proper } where
    holds : (objects : List ObjectTree) (s : State) (x : Operand) → StandsFor admits objects k s → exact_of e s ≡ Some x → IsInShown objects x (number_shown w)
    holds objects s x st look =
        let b = num st.v s (numbered-of admits k objects s st) x look in
        subst (λ y. IsInShown objects y (number_shown w)) (sym b.1) (h.holds st.v b.0 st.admitted b.2)

  pub any-result : (e : CsExprTree) (w : Ends) → ((n : ℤ) → LiesIn w n) → IsProperEnds w → ShowsNumber admits k (exact_of e) w
  any-result e w all proper = record {
    holds = λ objects s x st look. let n = exact-number e s x look in subst (λ y. IsInShown objects y (number_shown w)) (sym n.1) (all n.0);
    proper = proper;
  }

  pub no-result : (os : List CsExpr) (w : Ends) → ((e : CsExpr) → os ≡ e ∷ [] → ⊥) → IsProperEnds w → ShowsNumber admits k (λ s. of_one (map csexpr_tree os) (λ e. exact_of e s)) w
  no-result os w none proper = record { holds = λ objects s x st look. absurd (none-looked os none (λ e. exact_of e s) x look); proper = proper }
