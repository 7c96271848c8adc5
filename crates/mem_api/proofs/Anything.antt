-- Whatever a check looks at is shown where anything is.
use Rattle.std.proofs.Common.{◌≡◌, ℕ, ℤ, pos, neg_ℤ, ◌<◌, ◌≤◌, Bool, true, false, refl, sym, subst, ap, ◌∙◌, arith, List, [], ◌∷◌, length, Option, Some, None, inl, inr, ◌⊎◌}
use Rattle.std.specs.Prelude.{option_map, option_and_then, if◌then◌else◌}
use Rattle.std.specs.Ordering.{int_eq}
use Rattle.std.proofs.lemmas.Int.{ints as int_facts}
use Rattle.std.proofs.lemmas.Bool.{cases_lt}
use Rattle.std.proofs.lemmas.List.{get_or_past}
use Rattle.std.proofs.lemmas.List.Elements.{All-get_or}
use Rattle.c_syntax.specs.declared.alarm.Spot.{Spot}
use Rattle.c_syntax.specs.declared.alarm.Spot.TheVariants as spots
use Rattle.c_syntax.specs.declared.alarm.Shown.TheVariants as shows
use Rattle.c_syntax.specs.declared.alarm.WrongKind.{WrongKind}
use Rattle.c_syntax.specs.declared.alarm.WrongKind.TheVariants as kinds
use Rattle.c_syntax.specs.declared.operator.TUnaryOp.{TUnaryOp}
use Rattle.c_syntax.specs.declared.operator.TUnaryOp.TheVariants as unaries
use Rattle.c_syntax.specs.declared.operator.TBinaryOp.{TBinaryOp}
use Rattle.c_syntax.specs.declared.operator.TBinaryOp.TheVariants as binaries
use Rattle.c_syntax.specs.Types.{ObjectTree}
use Rattle.c_syntax.specs.Operand.{Operand, Number, Point, Points, Mark, End, LoadMark, Undef, HasValue, Broken, CallEnd}
use Rattle.c_syntax.specs.Operand as operands
use Rattle.c_syntax.specs.Admission.{IsInShown, IsProper, IsProperRange, IsSpotIn, IsInClass}
use Rattle.block_mem.specs.declared.types.Pointer as pointers
use Rattle.block_mem.specs.declared.types.Scalar.{Scalar}
use Rattle.block_mem.specs.Block.{BlockView}
use Rattle.block_mem.specs.declared.types.Value.{Value}
use Rattle.block_mem.specs.declared.types.Value.TheVariants as values
use Rattle.block_mem.specs.Blocks.{no_block, block_at, bytes_at}
use Rattle.block_mem.specs.Bytes.{mark_of, size_of}
use Rattle.c_values.specs.Numbers.{exact_arithmetic, exact_shift}
use Rattle.c_values.specs.Values.{truth}
use Rattle.c_values.specs.Places.{ObjectMemory, owner_of, spot_at, spot, point}
use Rattle.c_values.specs.Operators.{number, exact_binary, unary_operand, pair_operand}
use Rattle.c_values.specs.Accesses.{mark, test_operand}
use Rattle.csharp.specs.Trees.{CsExprTree, CsProgramTree}
use Rattle.csharp.specs.Trees as code
use Rattle.csharp.specs.States.{State, takes_right, if_taken, value_of, on_both, exact_of, end_of, pointed, of_one, of_value, operand_of}
use Rattle.csharp.specs.Formed.{HasOperands}
use Rattle.mem_api.specs.Owned.{IsOwned, any_number, any_pointer, any_pointers, anything}

-- ---- numbers, marks and ends

number_shown : (objects : List ObjectTree) (n : ℤ) → IsInShown objects (Number n) any_number
number_shown objects n = ((tt, tt), (n, omega (arith, int_facts)))

-- the operand is a number
abbrev pub IsNumberOperand : Operand → Type 0
IsNumberOperand (Number n) = Unit {0}
IsNumberOperand x = ⊥

shown_number : (objects : List ObjectTree) (x : Operand) → IsNumberOperand x → IsInShown objects x any_number
shown_number objects (Number n) h = number_shown objects n
shown_number objects (Point s) h = absurd h
shown_number objects (Points s t) h = absurd h
shown_number objects (Mark k) h = absurd h
shown_number objects (End e) h = absurd h

pub number_of_value : (v : Value) (x : Operand) → number v ≡ Some x → IsNumberOperand x
number_of_value (values.Int t n) x h = let same : Number n ≡ x = cc in subst IsNumberOperand same tt
number_of_value (values.Ptr p) x h = absurd (cc)
number_of_value values.Null x h = absurd (cc)

number_of_unary : (m : ObjectMemory) (op : TUnaryOp) (v : Value) (x : Operand) → unary_operand m op v kinds.Overflow ≡ Some x → IsNumberOperand x
number_of_unary m (unaries.Minus t) (values.Int u n) x h = let same : Number (neg_ℤ n) ≡ x = cc in subst IsNumberOperand same tt
number_of_unary m (unaries.Minus t) (values.Ptr p) x h = absurd (cc)
number_of_unary m (unaries.Minus t) values.Null x h = absurd (cc)
number_of_unary m (unaries.Plus t) v x h = absurd (cc)
number_of_unary m (unaries.Complement t) v x h = absurd (cc)
number_of_unary m unaries.Not v x h = absurd (cc)

number_of_binary : (op : TBinaryOp) (v u : Value) (x : Operand) → exact_binary op v u ≡ Some x → IsNumberOperand x
number_of_binary (binaries.Arithmetic op t) (values.Int a n) (values.Int b k) x h =
    let same : Number (exact_arithmetic op n k) ≡ x = cc in subst IsNumberOperand same tt
number_of_binary (binaries.Arithmetic op t) (values.Int a n) (values.Ptr p) x h = absurd (cc)
number_of_binary (binaries.Arithmetic op t) (values.Int a n) values.Null x h = absurd (cc)
number_of_binary (binaries.Arithmetic op t) (values.Ptr p) u x h = absurd (cc)
number_of_binary (binaries.Arithmetic op t) values.Null u x h = absurd (cc)
number_of_binary (binaries.Shift way t) (values.Int a n) (values.Int b k) x h = let same : Number (exact_shift n k) ≡ x = cc in subst IsNumberOperand same tt
number_of_binary (binaries.Shift way t) (values.Int a n) (values.Ptr p) x h = absurd (cc)
number_of_binary (binaries.Shift way t) (values.Int a n) values.Null x h = absurd (cc)
number_of_binary (binaries.Shift way t) (values.Ptr p) u x h = absurd (cc)
number_of_binary (binaries.Shift way t) values.Null u x h = absurd (cc)
number_of_binary (binaries.CompareInts c t) v u x h = absurd (cc)
number_of_binary (binaries.ComparePointers c) v u x h = absurd (cc)
number_of_binary (binaries.PointerPlusInt n) v u x h = absurd (cc)
number_of_binary (binaries.IntPlusPointer n) v u x h = absurd (cc)
number_of_binary (binaries.PointerMinusInt n) v u x h = absurd (cc)
number_of_binary (binaries.PointerMinusPointer n) v u x h = absurd (cc)

number_of_taken : (taken : Bool) (op : TBinaryOp) (v u : Value) (x : Operand) → (if taken then exact_binary op v u else None) ≡ Some x → IsNumberOperand x
number_of_taken true op v u x h = number_of_binary op v u x h
number_of_taken false op v u x h = absurd (cc)

-- what is said of whatever a look finds
pub found : {A : Type 0} (P : A → Type 0) (look : Value → Option A) (o : Option Value) → ((v : Value) (x : A) → look v ≡ Some x → P x) → (x : A)
    → option_and_then look o ≡ Some x → P x
found P look None each x h = absurd (cc)
found P look (Some v) each x h = each v x h

pub exact_is_number : (e : CsExprTree) (s : State) (x : Operand) → exact_of e s ≡ Some x → IsNumberOperand x
exact_is_number (code.Unary op e) s x h =
    found IsNumberOperand (λ v. unary_operand s.memory op v kinds.Overflow) (value_of e s) (λ v y g. number_of_unary s.memory op v y g) x h
exact_is_number (code.Binary op e f) s x h = found IsNumberOperand (λ v. option_and_then (if_taken op (exact_binary op) v) (value_of f s)) (value_of e s)
    (λ v y g. found IsNumberOperand (if_taken op (exact_binary op) v) (value_of f s) (λ u z b. number_of_taken (takes_right op u) op v u z b) y g) x h
exact_is_number (code.Const t n) s x h = absurd (cc)
exact_is_number code.Null s x h = absurd (cc)
exact_is_number (code.Temp d) s x h = absurd (cc)
exact_is_number (code.Address o) s x h = absurd (cc)
exact_is_number (code.Convert t e) s x h = absurd (cc)

-- a check of one expression
of_the_one : (P : Operand → Type 0) (look : CsExprTree → Option Operand) (es : List CsExprTree) → ((e : CsExprTree) (x : Operand) → look e ≡ Some x → P x)
    → (x : Operand) → of_one es look ≡ Some x → P x
of_the_one P look [] each x h = absurd (cc)
of_the_one P look (e ∷ []) each x h = each e x h
of_the_one P look (e ∷ f ∷ es) each x h = absurd (cc)

mark_shown : (objects : List ObjectTree) (k : LoadMark) → IsInShown objects (Mark k) (shows.Marks true true true)
mark_shown objects Undef = refl
mark_shown objects HasValue = refl
mark_shown objects Broken = refl

mark_found : (objects : List ObjectTree) (m : ObjectMemory) (ty : Option Scalar) (v : Value) (x : Operand) → mark m ty v ≡ Some x
    → IsInShown objects x (shows.Marks true true true)
mark_found objects m (Some ty) (values.Ptr p) x h = let same : Mark (mark_of ty (bytes_at m.blocks p (size_of ty))) ≡ x = cc in
    subst (λ y. IsInShown objects y (shows.Marks true true true)) same (mark_shown objects (mark_of ty (bytes_at m.blocks p (size_of ty))))
mark_found objects m (Some ty) (values.Int t n) x h = absurd (cc)
mark_found objects m (Some ty) values.Null x h = absurd (cc)
mark_found objects m None v x h = absurd (cc)

end_shown : (objects : List ObjectTree) (e : CallEnd) → IsInShown objects (End e) (shows.Ends true true)
end_shown objects operands.Value = refl
end_shown objects operands.None = refl

end_found : (objects : List ObjectTree) (v : Value) (x : Operand) → end_of v ≡ Some x → IsInShown objects x (shows.Ends true true)
end_found objects (values.Int t n) x h = let same : End (if int_eq n (pos 0) then operands.None else operands.Value) ≡ x = cc in
    subst (λ y. IsInShown objects y (shows.Ends true true)) same (end_shown objects (if int_eq n (pos 0) then operands.None else operands.Value))
end_found objects (values.Ptr p) x h = absurd (cc)
end_found objects values.Null x h = absurd (cc)

-- ---- pointers

module _ (objects : List ObjectTree) (m : ObjectMemory) (k : IsOwned (length objects) m) where
  any_class : (d : ℤ) → IsInClass (pos 1) (pos 0) d
  any_class d = (d, omega (arith, int_facts))

  made : (b : ℕ) → (block_at m.blocks b).live ≡ true → b < length m.blocks
  made b live = by (cases_lt b (length m.blocks)) where
    by : (b < length m.blocks) ⊎ (length m.blocks ≤ b) → b < length m.blocks
    by (inl h) = h
    by (inr h) = let dead : (block_at m.blocks b).live ≡ false = ap (λ (v : BlockView). v.live) (get_or_past m.blocks b no_block h) in absurd (cc)

  pub owner_there : (b : ℕ) → (block_at m.blocks b).live ≡ true → owner_of m b < length objects
  owner_there b live = All-get_or (λ x. x < length objects) m.owners b 0 (subst (λ n. b < n) (sym k.owned) (made b live)) k.among

  by_life : (p : pointers.Pointer) (live : Bool) → (block_at m.blocks p.block).live ≡ live → (s : Spot)
      → (if live then spots.At (owner_of m p.block) p.offset else spots.Dead) ≡ s → IsSpotIn objects any_pointer s
  by_life p true live s h = subst (IsSpotIn objects any_pointer) h (inr (refl, owner_there p.block live), (tt, tt), any_class p.offset)
  by_life p false live s h = subst (IsSpotIn objects any_pointer) h refl

  spot_shown : (v : Value) (s : Spot) → spot m v ≡ Some s → IsSpotIn objects any_pointer s
  spot_shown (values.Int t n) s h = absurd (cc)
  spot_shown values.Null s h = let same : spots.Null ≡ s = cc in subst (IsSpotIn objects any_pointer) same refl
  spot_shown (values.Ptr p) s h = let same : spot_at m p ≡ s = cc in by_life p (block_at m.blocks p.block).live refl s same

  point_shown : (o : Option Spot) → ((s : Spot) → o ≡ Some s → IsSpotIn objects any_pointer s) → (x : Operand) → option_map Point o ≡ Some x
      → IsInShown objects x (shows.One any_pointer)
  point_shown None each x h = absurd (cc)
  point_shown (Some s) each x h =
      let same : Point s ≡ x = cc in subst (λ y. IsInShown objects y (shows.One any_pointer)) same (each s refl)

  points_shown : (o w : Option Spot) → ((s : Spot) → o ≡ Some s → IsSpotIn objects any_pointer s) → ((s : Spot) → w ≡ Some s → IsSpotIn objects any_pointer s)
      → (x : Operand) → option_and_then (λ left. option_map (Points left) w) o ≡ Some x → IsInShown objects x (shows.Pair any_pointer any_pointer)
  points_shown None w first second x h = absurd (cc)
  points_shown (Some s) None first second x h = absurd (cc)
  points_shown (Some s) (Some t) first second x h =
      let same : Points s t ≡ x = cc in subst (λ y. IsInShown objects y (shows.Pair any_pointer any_pointer)) same (first s refl, second t refl)

-- ---- each kind

module _ (given q : CsProgramTree) (s : State) (k : IsOwned (length q.objects) s.memory) where
  one_pointer : (e : CsExprTree) (x : Operand) → option_and_then (point s.memory) (value_of e s) ≡ Some x → IsInShown q.objects x (shows.One any_pointer)
  one_pointer e x h = found (λ y. IsInShown q.objects y (shows.One any_pointer)) (point s.memory) (value_of e s)
      (λ v y g. point_shown q.objects s.memory k (spot s.memory v) (spot_shown q.objects s.memory k v) y g) x h

  two_pointers : (kind : WrongKind) → ((v u : Value) (x : Operand) → pair_operand (spot s.memory v) (spot s.memory u) kind ≡ Some x
      → IsInShown q.objects x (shows.Pair any_pointer any_pointer)) → (e f : CsExprTree) (x : Operand)
      → on_both e f s (λ v u. pair_operand (spot s.memory v) (spot s.memory u) kind) ≡ Some x → IsInShown q.objects x (shows.Pair any_pointer any_pointer)
  two_pointers kind each e f x h =
      found (λ y. IsInShown q.objects y (shows.Pair any_pointer any_pointer)) (λ v. option_and_then (λ u. pair_operand (spot s.memory v) (spot s.memory u) kind)
      (value_of f s)) (value_of e s)
      (λ v y g. found (λ z. IsInShown q.objects z (shows.Pair any_pointer any_pointer)) (λ u. pair_operand (spot s.memory v) (spot s.memory u) kind) (value_of f s)
      (λ u z b. each v u z b) y g) x h

  pair_shown : (v u : Value) (x : Operand) → option_and_then (λ left. option_map (Points left) (spot s.memory u)) (spot s.memory v) ≡ Some x
      → IsInShown q.objects x (shows.Pair any_pointer any_pointer)
  pair_shown v u x h =
      points_shown q.objects s.memory k (spot s.memory v) (spot s.memory u) (spot_shown q.objects s.memory k v) (spot_shown q.objects s.memory k u) x h

  no_pair : (kind : WrongKind) → ((o w : Option Spot) → pair_operand o w kind ≡ None) → (e f : CsExprTree) (x : Operand)
      → on_both e f s (λ v u. pair_operand (spot s.memory v) (spot s.memory u) kind) ≡ Some x → ⊥
  no_pair kind nothing e f x h = found (λ y. ⊥) (λ v. option_and_then (λ u. pair_operand (spot s.memory v) (spot s.memory u) kind) (value_of f s)) (value_of e s)
      (λ v y g. found (λ z. ⊥) (λ u. pair_operand (spot s.memory v) (spot s.memory u) kind) (value_of f s)
      (λ u z b. let none : None ≡ Some z = sym (nothing (spot s.memory v) (spot s.memory u)) ∙ b in absurd (cc)) y g) x h

  exact_shown : (es : List CsExprTree) (x : Operand) → of_one es (λ e. exact_of e s) ≡ Some x → IsInShown q.objects x any_number
  exact_shown es x h = shown_number q.objects x (of_the_one IsNumberOperand (λ e. exact_of e s) es (λ e y g. exact_is_number e s y g) x h)

  value_shown : (es : List CsExprTree) (x : Operand) → of_value es s number ≡ Some x → IsInShown q.objects x any_number
  value_shown es x h = shown_number q.objects x (of_the_one IsNumberOperand (λ e. option_and_then number (value_of e s)) es
      (λ e y g. found IsNumberOperand number (value_of e s) (λ v z b. number_of_value v z b) y g) x h)

  assertion_found : (v : Value) (x : Operand) → test_operand s.memory v kinds.AssertFailed ≡ Some x → IsNumberOperand x
  assertion_found v x h = let same : Number (if truth v then pos 1 else pos 0) ≡ x = cc in subst IsNumberOperand same tt

  assertion_shown : (es : List CsExprTree) (x : Operand) → of_value es s (λ v. test_operand s.memory v kinds.AssertFailed) ≡ Some x
      → IsInShown q.objects x any_number
  assertion_shown es x h = shown_number q.objects x (of_the_one IsNumberOperand (λ e. option_and_then (λ v. test_operand s.memory v kinds.AssertFailed) (value_of e s)) es
      (λ e y g. found IsNumberOperand (λ v. test_operand s.memory v kinds.AssertFailed) (value_of e s) (λ v z b. assertion_found v z b) y g) x h)

  marks_shown : (ty : Option Scalar) (es : List CsExprTree) (x : Operand) → of_value es s (mark s.memory ty) ≡ Some x
      → IsInShown q.objects x (shows.Marks true true true)
  marks_shown ty es x h = of_the_one (λ y. IsInShown q.objects y (shows.Marks true true true)) (λ e. option_and_then (mark s.memory ty) (value_of e s)) es
      (λ e y g. found (λ z. IsInShown q.objects z (shows.Marks true true true)) (mark s.memory ty) (value_of e s)
      (λ v z b. mark_found q.objects s.memory ty v z b) y g) x h

  ends_shown : (es : List CsExprTree) (x : Operand) → of_value es s end_of ≡ Some x → IsInShown q.objects x (shows.Ends true true)
  ends_shown es x h = of_the_one (λ y. IsInShown q.objects y (shows.Ends true true)) (λ e. option_and_then end_of (value_of e s)) es
      (λ e y g. found (λ z. IsInShown q.objects z (shows.Ends true true)) end_of (value_of e s) (λ v z b. end_found q.objects v z b) y g) x h

  set_shown : (kind : WrongKind) → ((o w : Option Spot) → pair_operand o w kind ≡ None) → (es : List CsExprTree) (x : Operand) → pointed kind es s ≡ Some x
      → IsInShown q.objects x (shows.One any_pointer)
  set_shown kind nothing [] x h = absurd (cc)
  set_shown kind nothing (e ∷ []) x h = one_pointer e x h
  set_shown kind nothing (e ∷ f ∷ []) x h = absurd (no_pair kind nothing e f x h)
  set_shown kind nothing (e ∷ f ∷ g ∷ es) x h = absurd (cc)

  either_shown : (kind : WrongKind) → ((v u : Value) (x : Operand) → pair_operand (spot s.memory v) (spot s.memory u) kind ≡ Some x
      → IsInShown q.objects x (shows.Pair any_pointer any_pointer)) → (es : List CsExprTree) (x : Operand) → pointed kind es s ≡ Some x
      → IsInShown q.objects x (any_pointers es)
  either_shown kind each [] x h = absurd (cc)
  either_shown kind each (e ∷ []) x h = one_pointer e x h
  either_shown kind each (e ∷ f ∷ []) x h = two_pointers kind each e f x h
  either_shown kind each (e ∷ f ∷ g ∷ es) x h = absurd (cc)

  pair_alone : (es : List CsExprTree) (x : Operand) → HasOperands given kinds.Unrelated es → pointed kinds.Unrelated es s ≡ Some x
      → IsInShown q.objects x (shows.Pair any_pointer any_pointer)
  pair_alone [] x two h = absurd two
  pair_alone (e ∷ []) x two h = absurd two
  pair_alone (e ∷ f ∷ []) x two h = two_pointers kinds.Unrelated (λ v u y g. pair_shown v u y g) e f x h
  pair_alone (e ∷ f ∷ g ∷ es) x two h = absurd two

  pub anything_shown : (kind : WrongKind) (ty : Option Scalar) (es : List CsExprTree) (x : Operand) → HasOperands given kind es → operand_of kind ty es s ≡ Some x
      → IsInShown q.objects x (anything kind es)
  anything_shown kinds.Overflow ty es x o h = exact_shown es x h
  anything_shown kinds.Quotient ty es x o h = exact_shown es x h
  anything_shown kinds.ShiftResult ty es x o h = exact_shown es x h
  anything_shown kinds.DivideByZero ty es x o h = value_shown es x h
  anything_shown kinds.ShiftAmount ty es x o h = value_shown es x h
  anything_shown kinds.AssertFailed ty es x o h = assertion_shown es x h
  anything_shown kinds.NoValue ty es x o h = ends_shown es x h
  anything_shown kinds.Indeterminate ty es x o h = marks_shown ty es x h
  anything_shown kinds.Fragment ty es x o h = marks_shown ty es x h
  anything_shown kinds.NullUse ty es x o h = either_shown kinds.NullUse (λ v u y g. pair_shown v u y g) es x h
  anything_shown kinds.Dangling ty es x o h = either_shown kinds.Dangling (λ v u y g. pair_shown v u y g) es x h
  anything_shown kinds.Bounds ty es x o h = set_shown kinds.Bounds (λ a b. refl) es x h
  anything_shown kinds.Access ty es x o h = set_shown kinds.Access (λ a b. refl) es x h
  anything_shown kinds.Alignment ty es x o h = set_shown kinds.Alignment (λ a b. refl) es x h
  anything_shown kinds.ReadOnly ty es x o h = set_shown kinds.ReadOnly (λ a b. refl) es x h
  anything_shown kinds.Unrelated ty es x o h = pair_alone es x o h

-- ---- it is proper

proper_range : IsProperRange None None (pos 1) (pos 0)
proper_range = record {
  lo_moderate = tt;
  hi_moderate = tt;
  modulus_low = omega (arith, int_facts);
  modulus_high = omega (arith, int_facts);
  remainder = λ h. (omega (arith, int_facts), omega (arith, int_facts));
  point = λ h. absurd (cc);
}

pointers_proper : (es : List CsExprTree) → IsProper (any_pointers es)
pointers_proper [] = proper_range
pointers_proper (e ∷ []) = proper_range
pointers_proper (e ∷ f ∷ []) = (proper_range, proper_range)
pointers_proper (e ∷ f ∷ g ∷ es) = proper_range

pub anything_proper : (kind : WrongKind) (es : List CsExprTree) → IsProper (anything kind es)
anything_proper kinds.Overflow es = proper_range
anything_proper kinds.Quotient es = proper_range
anything_proper kinds.ShiftResult es = proper_range
anything_proper kinds.DivideByZero es = proper_range
anything_proper kinds.ShiftAmount es = proper_range
anything_proper kinds.AssertFailed es = proper_range
anything_proper kinds.NoValue es = tt
anything_proper kinds.Indeterminate es = tt
anything_proper kinds.Fragment es = tt
anything_proper kinds.NullUse es = pointers_proper es
anything_proper kinds.Dangling es = pointers_proper es
anything_proper kinds.Bounds es = proper_range
anything_proper kinds.Access es = proper_range
anything_proper kinds.Alignment es = proper_range
anything_proper kinds.ReadOnly es = proper_range
anything_proper kinds.Unrelated es = (proper_range, proper_range)
