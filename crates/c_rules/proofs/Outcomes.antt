-- A program has one outcome at most.
use Rattle.std.proofs.Common.{add-one, ◌≡◌, ◌≢◌, inl, inr, ℕ, zero, suc, ◌+◌, ◌<◌, ◌≤◌, List, [], ◌∷◌, length, get_or, take, Some, None, refl, sym, subst, ap, ◌∙◌, arith}
use Rattle.std.specs.Prelude.{Option, All, Contains, slice_get}
use Rattle.std.specs.List.{sum_by}
use Rattle.std.proofs.lemmas.Bool.{cases_eq, cases_order}
use Rattle.std.proofs.lemmas.List.{take_all, take_more}
use Rattle.std.proofs.lemmas.List.Elements.{All-contains, All-head, All-nil, All-push, All-tail}
use Rattle.std.proofs.lemmas.List.Sums.{sum_by-cons}
use Rattle.std.proofs.lemmas.Option.{slice_get-get_or}
use Rattle.c_syntax_written.specs.declared.place.Pos.{Pos}
use Rattle.c_syntax.specs.Program.{TProgramTree}
use Rattle.c_layout.specs.Calls.{PlacedCall, IsBefore}
use Rattle.c_rules_calls.specs.Graph.{calls_from, graph_of, IsDefined, IsOrderOf, OrdersExcludeClosedLists}
use Rattle.c_rules_calls.specs.Inlined.{AreInlined, ended, sizes_of}
use Rattle.c_rules_calls.proofs.Orders.{contains_counted}
use Rattle.c_rules.specs.declared.error.RuleError.{RuleError}
use Rattle.c_rules.specs.declared.error.RuleError.TheVariants as errors
use Rattle.c_rules.specs.Outcomes.{IsSameRefusal, question, told_place, told_size}
use Rattle.c_rules.specs.Rules.{Begins, HasOrder, HasSize, IsAdmitted, IsComplete, IsFirstStray, IsMain, IsRefused, IsShallow, IsSmall, IsUndefinedAt, KeepsGotos}
use Rattle.c_rules.specs.Sequenced.{compared_by, Clash, IsUnsequencedAt}
use Rattle.c_rules_effects.specs.declared.effects.Effects.{Effects}
use Rattle.c_rules.proofs.Mains.{one_main}
use Rattle.c_rules.proofs.Members.{all_not_first}
use Rattle.c_rules.proofs.Stages.{main_defined}

-- ---- places

abbrev place_at : ℕ → ℕ → ℕ → Pos
place_at file line col = record { file = file; line = line; col = col }

equal : (a b : Pos) → a.file ≡ b.file → a.line ≡ b.line → a.col ≡ b.col → a ≡ b
equal a b f l c = ap (λ x. place_at x a.line a.col) f ∙ ap (λ x. place_at b.file x a.col) l ∙ ap (place_at b.file b.line) c

pub same_place : (a b : Pos) → (IsBefore a b → ⊥) → (IsBefore b a → ⊥) → a ≡ b
same_place a b n m = elim (cases_order a.file b.file) [
  | inl file ↦ elim (cases_order a.line b.line) [
    | inl line ↦ elim (cases_order a.col b.col) [
      | inl col ↦ equal a b file line col
      | inr apart ↦ elim apart [ inl less ↦ absurd (n (inr (file, inr (line, less)))) | inr more ↦ absurd (m (inr (sym file, inr (sym line, more)))) ]
    ]
    | inr apart ↦ elim apart [ inl less ↦ absurd (n (inr (file, inl less))) | inr more ↦ absurd (m (inr (sym file, inl more))) ]
  ]
  | inr apart ↦ elim apart [ inl less ↦ absurd (n (inl less)) | inr more ↦ absurd (m (inl more)) ]
]

-- ---- inlined sizes

sum_same : (f g : PlacedCall → ℕ) (xs : List PlacedCall) → All (λ x. f x ≡ g x) xs → sum_by f xs ≡ sum_by g xs
sum_same f g [] all = refl
sum_same f g (x ∷ xs) all =
    let head = All-head (λ x. f x ≡ g x) x xs all in
    let rest = sum_same f g xs (All-tail (λ x. f x ≡ g x) x xs all) in
    let left = sum_by-cons f x xs in
    let right = sum_by-cons g x xs in omega (arith, head, rest, left, right)

module _ (graph : List (Option (List PlacedCall))) (sizes order : List ℕ) (is : IsOrderOf graph order) (i j : ℕ → ℕ)
    (one : AreInlined graph sizes i) (two : AreInlined graph sizes j) where
  same_at : (k f : ℕ) → k < length order → get_or order k 0 ≡ f → All (λ f. i f ≡ j f) (take k order) → i f ≡ j f
  same_at k f less at before =
      let defined : IsDefined graph f = subst (IsDefined graph) at (is.defined k 0 less) in
      let callees : All (λ call. Contains (take k order) call.callee) (calls_from graph f) =
      subst (λ x. All (λ call. Contains (take k order) call.callee) (calls_from graph x)) at
      (let here = is.callees_first k in rw (slice_get-get_or order k 0 less) at here) in
      one f defined
      ∙ ap (λ n. get_or sizes f 0 + n) (sum_same (λ call. i call.callee) (λ call. j call.callee) (calls_from graph f)
      (λ n d inside. All-contains (λ f. i f ≡ j f) (take k order) (get_or (calls_from graph f) n d).callee before (callees n d inside)))
      ∙ sym (two f defined)

  same_front : (k : ℕ) → k ≤ length order → All (λ f. i f ≡ j f) (take k order)
  same_front zero inside = All-nil (λ f. i f ≡ j f)
  same_front (suc k) inside =
      let before = same_front k (omega (arith, inside)) in
      subst (All (λ f. i f ≡ j f)) (sym (rw (← add-one) (take_more order k 0 (omega (arith, inside)))))
      (All-push (λ f. i f ≡ j f) (take k order) (get_or order k 0) before (same_at k (get_or order k 0) (omega (arith, inside)) refl before))

  pub same_inlined : (f : ℕ) → IsDefined graph f → i f ≡ j f
  same_inlined f defined =
      let all : All (λ f. i f ≡ j f) order = subst (All (λ f. i f
      ≡ j f)) (take_all (length order) order (omega arith)) (same_front (length order) (omega arith)) in
      All-contains (λ f. i f ≡ j f) order f all (contains_counted f order (let once = is.once f defined in omega (arith, once)))

pub one_size : (program : TProgramTree) (order : List ℕ) → IsOrderOf (graph_of program) order → (f n m : ℕ) → IsDefined (graph_of program) f
    → HasSize program f n → HasSize program f m → n ≡ m
one_size program order is f n m defined a b =
    a.is ∙ ap ended (same_inlined (graph_of program) (sizes_of program) order is a.inlined b.inlined a.grow b.grow f defined) ∙ sym b.is

-- ---- what is asked

module _ (law : OrdersExcludeClosedLists) (program : TProgramTree) where
  -- so many questions have the answer yes
  abbrev Passed : ℕ → Type 0
  Passed zero = Unit {0}
  Passed (suc zero) = Begins program
  Passed (suc (suc zero)) = IsComplete program
  Passed (suc (suc (suc zero))) = HasOrder program
  Passed (suc (suc (suc (suc zero)))) = IsShallow program
  Passed (suc (suc (suc (suc (suc zero))))) = IsSmall program
  Passed (suc (suc (suc (suc (suc (suc zero)))))) = KeepsGotos program
  Passed (suc (suc (suc (suc (suc (suc (suc n))))))) = IsAdmitted program

  one_less : (n : ℕ) → Passed (suc n) → Passed n
  one_less zero h = tt
  one_less (suc zero) h = h.0
  one_less (suc (suc zero)) h = h.0
  one_less (suc (suc (suc zero))) h = h.0
  one_less (suc (suc (suc (suc zero)))) h = h.0
  one_less (suc (suc (suc (suc (suc zero))))) h = h.0
  one_less (suc (suc (suc (suc (suc (suc zero)))))) h = h.0
  one_less (suc (suc (suc (suc (suc (suc (suc n))))))) h = h

  fewer : (m n : ℕ) → n ≤ m → Passed m → Passed n
  fewer zero n below h = subst Passed (let none : 0 ≡ n = omega (arith, below) in none) h
  fewer (suc m) n below h = elim (cases_eq n (suc m)) [
    | inl e ↦ subst Passed (sym e) h
    | inr apart ↦ fewer m n (omega (arith, below, apart)) (one_less m h)
  ]

  -- the questions before that of a refusal are answered yes, and that one no
  record IsStoppedAt (e : RuleError) : Type 0 where
    passed : ℕ
    is : question e ≡ suc passed
    before : Passed passed
    stops : Passed (suc passed) → ⊥

  defined_main : HasOrder program → (main : ℕ) → IsMain program main → IsDefined (graph_of program) main
  defined_main so_far main m = main_defined program (graph_of program) refl main m

  too_deep : (calls : List PlacedCall) → length calls ≡ 65 → length calls ≤ 64 → ⊥
  too_deep calls same short = omega (arith, same, short)

  stopped_at : (e : RuleError) → IsRefused program e → question e ≢ 0 → IsStoppedAt e
  stopped_at errors.NoMain r some = record { passed = 0; is = refl; before = tt; stops = r }
  stopped_at (errors.UndefinedFunction at) r some = record {
    passed = 1;
    is = refl;
    before = r.0;
    stops = λ h. let first = r.1.first in
        first.undefined (All-contains (λ call. IsDefined (graph_of program) call.callee) (calls_from (graph_of program) first.function) r.1.call
        (h.1 first.function) first.made);
  }
  stopped_at (errors.Recursion calls) r some = record {
    passed = 2;
    is = refl;
    before = r.0;
    stops = λ h. law (graph_of program) h.1.0 calls h.1.1 r.1;
  }
  stopped_at (errors.TooDeepCalls calls) r some = record {
    passed = 3;
    is = refl;
    before = r.0;
    stops = λ h. too_deep calls r.1.3 (h.1 r.1.0 r.1.1 calls r.1.2);
  }
  stopped_at (errors.TooLarge n) r some = record {
    passed = 4;
    is = refl;
    before = r.0;
    stops = λ h.
        let small = h.1 r.1.0 r.1.1 in
        let same : n ≡ small.0 = one_size program r.0.0.1.0 r.0.0.1.1 r.1.0 n small.0 (defined_main r.0.0 r.1.0 r.1.1) r.1.2 small.1 in
        omega (arith, same, small.2, r.1.3);
  }
  stopped_at (errors.GotoIntoBlock at) r some = record {
    passed = 5;
    is = refl;
    before = r.0;
    stops = λ h. no_first (h.1 r.1.function) r.1.first_here;
  } where
    no_first : {list : List Pos} → list ≡ [] → slice_get list 0 ≡ Some at → ⊥
    no_first none first = differ (sym (ap (λ xs. slice_get xs 0) none) ∙ first) where
      differ : None ≡ Some at → ⊥
      differ e = cc
  stopped_at (errors.Unsequenced at left right) r some = record {
    passed = 6;
    is = refl;
    before = r.0;
    stops = λ h. let first = r.1.first in
        all_not_first (Clash program) (compared_by program first.function) r.1.clash (h.1 first.function) first.first_here;
  }
  stopped_at errors.NoMemory r some = absurd (some refl)

  -- ---- one question

  pub one_question : (a b : RuleError) → IsRefused program a → IsRefused program b → question a ≢ 0 → question b ≢ 0 → question a ≡ question b
  one_question a b r s p q =
      let one = stopped_at a r p in
      let two = stopped_at b s q in
      elim (cases_order one.passed two.passed) [
        | inl same ↦ one.is ∙ ap suc same ∙ sym two.is
        | inr apart ↦ elim apart [
          | inl less ↦ absurd (one.stops (fewer two.passed (suc one.passed) (omega (arith, less)) two.before))
          | inr more ↦ absurd (two.stops (fewer one.passed (suc two.passed) (omega (arith, more)) one.before))
        ]
      ]

  pub not_refused : (e : RuleError) → IsAdmitted program → IsRefused program e → question e ≡ 0
  not_refused e h r = elim (cases_eq (question e) 0) [
    | inl none ↦ none
    | inr some ↦ let stop = stopped_at e r some in absurd (stop.stops (fewer 7 (suc stop.passed) (small e stop.passed stop.is) h))
  ] where
    small : (e : RuleError) (n : ℕ) → question e ≡ suc n → suc n ≤ 7
    small errors.NoMain n e = omega (arith, e)
    small (errors.UndefinedFunction at) n e = omega (arith, e)
    small (errors.Recursion calls) n e = omega (arith, e)
    small (errors.TooDeepCalls calls) n e = omega (arith, e)
    small (errors.TooLarge m) n e = omega (arith, e)
    small (errors.GotoIntoBlock at) n e = omega (arith, e)
    small (errors.Unsequenced at left right) n e = omega (arith, e)
    small errors.NoMemory n e = omega (arith, e)

  -- ---- one place, and one size

  -- what a refusal at this question tells
  abbrev Told : ℕ → Option Pos → Option ℕ → Type 0
  Told (suc (suc zero)) place size = ((at : Pos) × (place ≡ Some at) × IsUndefinedAt program at) × (size ≡ None)
  Told (suc (suc (suc (suc (suc zero))))) place size =
      (place ≡ None) × ((n : ℕ) × (size ≡ Some n) × IsShallow program × ((main : ℕ) × IsMain program main × HasSize program main n))
  Told (suc (suc (suc (suc (suc (suc zero)))))) place size = ((at : Pos) × (place ≡ Some at) × IsFirstStray program at) × (size ≡ None)
  Told (suc (suc (suc (suc (suc (suc (suc zero))))))) place size =
      ((at : Pos) × (place ≡ Some at) × ((left : Effects) × (right : Effects) × IsUnsequencedAt program at left right)) × (size ≡ None)
  Told n place size = (place ≡ None) × (size ≡ None)

  told_of : (e : RuleError) → IsRefused program e → question e ≢ 0 → Told (question e) (told_place e) (told_size e)
  told_of errors.NoMain r some = (refl, refl)
  told_of (errors.UndefinedFunction at) r some = ((at, refl, r.1), refl)
  told_of (errors.Recursion calls) r some = (refl, refl)
  told_of (errors.TooDeepCalls calls) r some = (refl, refl)
  told_of (errors.TooLarge n) r some = (refl, (n, refl, r.0, (r.1.0, r.1.1, r.1.2)))
  told_of (errors.GotoIntoBlock at) r some = ((at, refl, r.1), refl)
  told_of (errors.Unsequenced at left right) r some = ((at, refl, (left, right, r.1)), refl)
  told_of errors.NoMemory r some = absurd (some refl)

  undefined_once : (a b : Pos) → IsUndefinedAt program a → IsUndefinedAt program b → a ≡ b
  undefined_once a b u v =
      sym u.here
      ∙ same_place u.call.pos v.call.pos (not_before v u) (not_before u v) ∙ v.here where
        not_before : {p q : Pos} (x : IsUndefinedAt program p) (y : IsUndefinedAt program q) → IsBefore y.call.pos x.call.pos → ⊥
        not_before x y =
            All-contains (λ other. (IsDefined (graph_of program) other.callee → ⊥) → IsBefore other.pos x.call.pos → ⊥)
            (calls_from (graph_of program) y.first.function) y.call (x.first.first y.first.function) y.first.made y.first.undefined

  stray_once : (a b : Pos) → IsFirstStray program a → IsFirstStray program b → a ≡ b
  stray_once a b u v = same_place a b (v.first u.function a u.first_here) (u.first v.function b v.first_here)

  clash_once : (a b : Pos) (al ar bl br : Effects) → IsUnsequencedAt program a al ar → IsUnsequencedAt program b bl br → a ≡ b
  clash_once a b al ar bl br u v =
      sym u.here
      ∙ same_place u.clash.pos v.clash.pos (v.first.first u.first.function u.clash u.first.first_here)
      (u.first.first v.first.function v.clash v.first.first_here)
      ∙ v.here

  both : {A : Type 0} {p q x : A} → p ≡ x → q ≡ x → p ≡ q
  both e f = e ∙ sym f

  one_told : (n : ℕ) (p q : Option Pos) (x y : Option ℕ) → Told n p x → Told n q y → (p ≡ q) × (x ≡ y)
  one_told (suc (suc zero)) p q x y t u =
      (t.0.1 ∙ ap Some (undefined_once t.0.0 u.0.0 t.0.2 u.0.2) ∙ sym u.0.1, both t.1 u.1)
  one_told (suc (suc (suc (suc (suc zero))))) p q x y t u =
      let main = t.1.3.0 in
      let same : main ≡ u.1.3.0 = one_main program main u.1.3.0 t.1.3.1 u.1.3.1 in
      let order = t.1.2.0.1 in (
        both t.0 u.0,
        t.1.1 ∙ ap Some (one_size program order.0 order.1 main t.1.0 u.1.0 (defined_main t.1.2.0 main t.1.3.1) t.1.3.2
            (subst (λ m. HasSize program m u.1.0) (sym same) u.1.3.2)) ∙ sym u.1.1,
      )
  one_told (suc (suc (suc (suc (suc (suc zero)))))) p q x y t u = (t.0.1 ∙ ap Some (stray_once t.0.0 u.0.0 t.0.2 u.0.2) ∙ sym u.0.1, both t.1 u.1)
  one_told (suc (suc (suc (suc (suc (suc (suc zero))))))) p q x y t u = (
    t.0.1 ∙ ap Some (clash_once t.0.0 u.0.0 t.0.2.0 t.0.2.1 u.0.2.0 u.0.2.1 t.0.2.2 u.0.2.2) ∙ sym u.0.1,
    both t.1 u.1,
  )
  one_told zero p q x y t u = (both t.0 u.0, both t.1 u.1)
  one_told (suc zero) p q x y t u = (both t.0 u.0, both t.1 u.1)
  one_told (suc (suc (suc zero))) p q x y t u = (both t.0 u.0, both t.1 u.1)
  one_told (suc (suc (suc (suc zero)))) p q x y t u = (both t.0 u.0, both t.1 u.1)
  one_told (suc (suc (suc (suc (suc (suc (suc (suc n)))))))) p q x y t u = (both t.0 u.0, both t.1 u.1)

  pub same_refusal : (a b : RuleError) → IsRefused program a → IsRefused program b → question a ≢ 0 → question b ≢ 0 → IsSameRefusal a b
  same_refusal a b r s p q =
      let same = one_question a b r s p q in
      let told = one_told (question b) (told_place a) (told_place b) (told_size a) (told_size b)
      (subst (λ n. Told n (told_place a) (told_size a)) same (told_of a r p)) (told_of b s q) in
      record { question_is = same; place = told.0; size = told.1 }
