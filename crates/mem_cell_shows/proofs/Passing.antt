-- What a check that passes says of its operand.
use Rattle.std.proofs.Common.{ℕ, ℤ, pos, ◌≡◌, ◌≢◌, ◌⊎◌, inl, inr, Bool, true, false, not, List, [], ◌∷◌, Option, Some, None, if◌then◌else◌, option_and_then, refl, sym, ap, subst, ◌∙◌}
use Rattle.std.specs.Prelude.{◌||◌, ◌+ℤ◌, int_lt, slice_get}
use Rattle.std.proofs.Common.{arith}
use Rattle.std.proofs.lemmas.Int.{ints}
use Rattle.block_mem.specs.declared.types.Pointer.{Pointer}
use Rattle.std.specs.Ordering.{int_eq}
use Rattle.c_syntax_written.specs.declared.int_type.IntType.{IntType}
use Rattle.c_syntax.specs.declared.alarm.Check.{Check}
use Rattle.c_syntax.specs.declared.alarm.Spot.{Spot}
use Rattle.c_syntax.specs.declared.alarm.Spot.TheVariants as spots
use Rattle.c_syntax.specs.declared.alarm.WrongKind.{WrongKind}
use Rattle.c_syntax.specs.declared.alarm.WrongKind.TheVariants as kinds
use Rattle.c_syntax.specs.Types.{ObjectTree}
use Rattle.c_syntax.specs.Operand.{End, Number, Operand, Point, Points}
use Rattle.c_syntax.specs.Operand as operands
use Rattle.c_syntax.specs.Failing.{any_spot, asked_of, fails_kind, is_dead_spot, is_no_value, is_null_spot, is_number_outside, is_zero}
use Rattle.pointsets.specs.declared.Base.{Base}
use Rattle.pointsets.specs.declared.Base.TheVariants.{Dead, Null, Object}
use Rattle.block_mem.specs.declared.types.Scalar.{Scalar}
use Rattle.block_mem.specs.declared.types.Value.{Value}
use Rattle.block_mem.specs.declared.types.Value.TheVariants as values
use Rattle.block_mem.specs.Blocks.{block_at}
use Rattle.c_values.specs.Accesses.{test_operand}
use Rattle.c_values.specs.Looks.{Judged, Passes, judge, judge_one}
use Rattle.c_values.specs.Operators.{number, pair_operand}
use Rattle.c_values.specs.Places.{ObjectMemory, owner_of, point, spot, spot_at}
use Rattle.c_values.specs.Values.{truth}
use Rattle.csharp.specs.Trees.{CsCheckTree, CsExprTree}
use Rattle.csharp.specs.States.{State, end_of, exact_of, look_of, of_one, on_both, operand_of, pointed, value_of}
use Rattle.machine_nums.specs.MExprs.{MExprTree, type_of}
use Rattle.mem_cell_exprs.specs.Exprs.{AreNumbered, IsNumberFor}
use Rattle.mem_cell_exprs.proofs.Options.{map-some, then-some}
use Rattle.mem_cell_shows.specs.Addresses.{IsAddress}
use Rattle.mem_cell_shows.specs.Changes.{AllSpare, HasExactIn, HasNumberIn, HasTruth, LiesBetween, Passed, PassedAs, Spares, bad_base, base_of}
use Rattle.mem_cell_shows.specs.Checks.{MayBeTwo}
use Rattle.mem_cell_shows.specs.Insides.{HasRoom, IsRoom}
use Rattle.mem_cell_shows.proofs.Between.{inside, or-false}
use Rattle.mem_cell_shows.proofs.ByKind.{end-is, looked-two, no-two, number-is, on-two}
use Rattle.mem_cell_shows.proofs.Keeping.{base-dead, base-lives}
use Rattle.mem_cell_shows.proofs.Looks.{value-looked}
use Rattle.mem_cell_shows.proofs.Results.{exact-number}
use Rattle.mem_cell_shows.proofs.Spots.{spot-dead, spot-is, spot-lives}

pub passed-of : (objects : List ObjectTree) (c : CsCheckTree) (s : State) → judge objects (look_of c s ∷ []) ≡ Passes → Passed objects c.check c.ty c.operands s
passed-of objects c s h = by (operand_of c.check.kind c.ty c.operands s) refl h where
  whole : (b : Bool) (j : Judged) → (j ≡ Passes → ⊥) → (if b then j else Passes) ≡ Passes → b ≡ false
  whole true j none k = absurd (none k)
  whole false j none k = refl

  by : (o : Option Operand) → operand_of c.check.kind c.ty c.operands s ≡ o → judge_one objects c.check o Passes ≡ Passes → Passed objects c.check c.ty c.operands s
  by None e k = cc
  by (Some x) e k = (x, e, whole (fails_kind objects c.check c.check.kind x) _ (λ q. cc) k)

as-kind : (objects : List ObjectTree) (check : Check) (kind known : WrongKind) (ty : Option Scalar) (es : List CsExprTree) (s : State) → kind ≡ known
    → PassedAs objects check kind ty es s → PassedAs objects check known ty es s
as-kind objects check kind known ty es s e h = subst (λ k. PassedAs objects check k ty es s) e h

-- ---- numbers

not-true : (b : Bool) → b ≡ false → not b ≡ true
not-true true h = cc
not-true false h = refl

number-true : (u : Value) (x : Operand) → number u ≡ Some x → is_zero x ≡ false → truth u ≡ true
number-true (values.Int t n) x h k = not-true (int_eq n (pos 0)) (ap is_zero (sym (number-is n x h)) ∙ k)
number-true (values.Ptr p) x h k = cc
number-true values.Null x h k = cc

asserted-true : (b : Bool) → int_eq (if b then pos 1 else pos 0) (pos 0) ≡ false → b ≡ true
asserted-true true h = refl
asserted-true false h = cc

ended-true : (b : Bool) → is_no_value (End (if b then operands.None else operands.Value)) ≡ false → not b ≡ true
ended-true true h = cc
ended-true false h = refl

end-true : (u : Value) (x : Operand) → end_of u ≡ Some x → is_no_value x ≡ false → truth u ≡ true
end-true (values.Int t n) x h k = ended-true (int_eq n (pos 0)) (ap is_no_value (sym (end-is (if int_eq n (pos 0) then operands.None else operands.Value) x h)) ∙ k)
end-true (values.Ptr p) x h k = cc
end-true values.Null x h k = cc

module _ (objects : List ObjectTree) (check : Check) (ty : Option Scalar) (es : List CsExprTree) (s : State) where
  pub true-of : (kind : WrongKind) → (kind ≡ kinds.DivideByZero) ⊎ ((kind ≡ kinds.AssertFailed) ⊎ (kind ≡ kinds.NoValue)) → PassedAs objects check kind ty es s
      → (e : CsExprTree) × (es ≡ e ∷ []) × HasTruth e true s
  true-of kind (inl e) h =
      let k = as-kind objects check kind kinds.DivideByZero ty es s e h in let r = value-looked es s number k.0 k.1 in
      (r.0, r.2, (r.1, r.3, number-true r.1 k.0 r.4 k.2))
  true-of kind (inr (inl e)) h =
      let k = as-kind objects check kind kinds.AssertFailed ty es s e h in let r = value-looked es s (λ v. test_operand s.memory v kinds.AssertFailed) k.0 k.1 in
      (r.0, r.2, (r.1, r.3, asserted-true (truth r.1) (ap is_zero (sym (number-is (if truth r.1 then pos 1 else pos 0) k.0 r.4)) ∙ k.2)))
  true-of kind (inr (inr e)) h =
      let k = as-kind objects check kind kinds.NoValue ty es s e h in let r = value-looked es s end_of k.0 k.1 in
      (r.0, r.2, (r.1, r.3, end-true r.1 k.0 r.4 k.2))

  number-in : (e : CsExprTree) (u : Value) (x : Operand) → value_of e s ≡ Some u → number u ≡ Some x → fails_kind objects check kinds.ShiftAmount x ≡ false
      → HasNumberIn e check.lo check.hi s
  number-in e (values.Int t n) x is h k =
      let i = inside check.lo check.hi n (ap (fails_kind objects check kinds.ShiftAmount) (sym (number-is n x h)) ∙ k) in (t, n, is, i.0, i.1)
  number-in e (values.Ptr p) x is h k = cc
  number-in e values.Null x is h k = cc

  pub amount-of : (kind : WrongKind) → kind ≡ kinds.ShiftAmount → PassedAs objects check kind ty es s → (e : CsExprTree) × (es ≡ e ∷ []) × HasNumberIn e check.lo check.hi s
  amount-of kind e h =
      let k = as-kind objects check kind kinds.ShiftAmount ty es s e h in let r = value-looked es s number k.0 k.1 in
      (r.0, r.2, number-in r.0 r.1 k.0 r.3 r.4 k.2)

-- numbers that are those of the expression lie there too
pub amount-lies : (types : List Scalar) (e : CsExprTree) (m : MExprTree) (lo hi : ℤ) (v : List ℤ) (s : State) → IsNumberFor types e m → AreNumbered types v s → HasNumberIn e lo hi s
    → LiesBetween m lo hi v
amount-lies types e m lo hi v s number are h =
    let b = number v s are (values.Int h.0 h.1) h.2 in
    let same : h.1 ≡ b.0 = same-number h.0 (type_of m) h.1 b.0 b.1 in
    (h.1, b.2 ∙ ap Some (sym same), h.3, h.4) where
      same-number : (t j : IntType) (x y : ℤ) → values.Int t x ≡ values.Int j y → x ≡ y
      same-number t j x y k = cc

-- ---- pointers

bad-spot : Bool → Spot → Bool
bad-spot true = is_dead_spot
bad-spot false = is_null_spot

module _ (m : ObjectMemory) where
  point-parts : (u : Value) (x : Operand) → point m u ≡ Some x → (a : Spot) × (spot m u ≡ Some a) × (x ≡ Point a)
  point-parts u x h = map-some Point (spot m u) x h

  spot-address : (u : Value) (a : Spot) → spot m u ≡ Some a → IsAddress u
  spot-address (values.Int t n) a h = cc
  spot-address (values.Ptr p) a h = tt
  spot-address values.Null a h = tt

  object-spared : (dead : Bool) (o : ℕ) → Object o ≢ bad_base dead
  object-spared true o h = cc
  object-spared false o h = cc

  spares : (dead : Bool) (u : Value) (a : Spot) → spot m u ≡ Some a → bad-spot dead a ≡ false → (b : Base) → base_of m u ≡ Some b → b ≢ bad_base dead
  unfolding bad-spot
  spares dead (values.Int t n) a h k b e = cc
  spares true values.Null a h k b e = λ q. let is : Some Null ≡ Some Dead = e ∙ ap Some q in cc
  spares false values.Null a h k b e = λ q. let is = ap is_null_spot (sym (spot-is spots.Null a h)) ∙ k in cc
  spares dead (values.Ptr p) a h k b e = by ((block_at m.blocks p.block).live) refl where
    one : (x y : Base) → Some x ≡ Some y → y ≡ x
    one x y g = cc

    by : (live : Bool) → (block_at m.blocks p.block).live ≡ live → b ≢ bad_base dead
    by true l = λ q. object-spared dead (owner_of m p.block) (sym (one (Object (owner_of m p.block)) b (sym (base-lives m p l) ∙ e)) ∙ q)
    by false l = fallen dead k where
      fallen : (d : Bool) → bad-spot d a ≡ false → b ≢ bad_base d
      fallen true g = λ q. let is = ap is_dead_spot (sym (spot-is (spot_at m p) a h ∙ spot-dead m p l)) ∙ g in cc
      fallen false g = λ q. let is : Some Dead ≡ Some Null = sym (base-dead m p l) ∙ e ∙ ap Some q in cc

  -- a pointer at which a check of a use looks
  pointer-spares : (dead : Bool) (u : Value) (x : Operand) → point m u ≡ Some x → any_spot (bad-spot dead) x ≡ false → IsAddress u × ((b : Base) → base_of m u ≡ Some b → b ≢ bad_base dead)
  pointer-spares dead u x h k =
      let p = point-parts u x h in
      (spot-address u p.0 p.1, spares dead u p.0 p.1 (ap (any_spot (bad-spot dead)) (sym p.2) ∙ k))

module _ (s : State) where
  spared : (dead : Bool) (e : CsExprTree) (x : Operand) → option_and_then (point s.memory) (value_of e s) ≡ Some x → any_spot (bad-spot dead) x ≡ false → Spares e (bad_base dead) s
  spared dead e x h k = let u = then-some (point s.memory) (value_of e s) x h in let r = pointer-spares s.memory dead u.0 x u.2 k in (u.0, u.1, r.0, r.1)

  both-spared : (kind : WrongKind) (dead : Bool) (e f : CsExprTree) (x : Operand) → on_both e f s (λ v u. pair_operand (spot s.memory v) (spot s.memory u) kind) ≡ Some x
      → any_spot (bad-spot dead) x ≡ false → Spares e (bad_base dead) s × Spares f (bad_base dead) s
  both-spared kind dead e f x h k =
      let r = looked-two kind e f s x h in
      let q = or-false (bad-spot dead r.from) (bad-spot dead r.to) (ap (any_spot (bad-spot dead)) (sym r.is) ∙ k) in (
        (r.left, r.first, spot-address s.memory r.left r.from r.starts, spares s.memory dead r.left r.from r.starts q.0),
        (r.right, r.second, spot-address s.memory r.right r.to r.ends, spares s.memory dead r.right r.to r.ends q.1),
      )

  all-spared : (kind : WrongKind) (dead : Bool) (es : List CsExprTree) (x : Operand) → pointed kind es s ≡ Some x → any_spot (bad-spot dead) x ≡ false → AllSpare es (bad_base dead) s
  all-spared kind dead [] x h k = tt
  all-spared kind dead (e ∷ []) x h k = spared dead e x h k
  all-spared kind dead (e ∷ f ∷ []) x h k = both-spared kind dead e f x h k
  all-spared kind dead (e ∷ f ∷ g ∷ gs) x h k = tt

  pub null-spared : (objects : List ObjectTree) (check : Check) (ty : Option Scalar) (es : List CsExprTree) (kind : WrongKind) → kind ≡ kinds.NullUse
      → PassedAs objects check kind ty es s → AllSpare es (bad_base false) s
  unfolding bad-spot
  null-spared objects check ty es kind e h = let k = as-kind objects check kind kinds.NullUse ty es s e h in all-spared kinds.NullUse false es k.0 k.1 k.2

  pub dead-spared : (objects : List ObjectTree) (check : Check) (ty : Option Scalar) (es : List CsExprTree) (kind : WrongKind) → kind ≡ kinds.Dangling
      → PassedAs objects check kind ty es s → AllSpare es (bad_base true) s
  unfolding bad-spot
  dead-spared objects check ty es kind e h = let k = as-kind objects check kind kinds.Dangling ty es s e h in all-spared kinds.Dangling true es k.0 k.1 k.2

-- ---- places

module _ (objects : List ObjectTree) (check : Check) (ty : Option Scalar) (es : List CsExprTree) (s : State) where
  -- the pointer at which a check of one looks
  placed : (kind : WrongKind) (es : List CsExprTree) (x : Operand) → (MayBeTwo kind → ⊥) → pointed kind es s ≡ Some x
      → (e : CsExprTree) × (u : Value) × (es ≡ e ∷ []) × (value_of e s ≡ Some u) × (point s.memory u ≡ Some x)
  placed kind [] x one h = cc
  placed kind (e ∷ []) x one h = let r = then-some (point s.memory) (value_of e s) x h in (e, r.0, refl, r.1, r.2)
  placed kind (e ∷ f ∷ []) x one h =
      let r = on-two (λ v u. pair_operand (spot s.memory v) (spot s.memory u) kind) e f s x h in no-two kind (spot s.memory r.0) (spot s.memory r.1) x one r.4
  placed kind (e ∷ f ∷ g ∷ gs) x one h = cc

  -- what a pointer into an object that lives looks at
  at-object : (u : Value) (x : Operand) (p : Pointer) → point s.memory u ≡ Some x → u ≡ values.Ptr p → (block_at s.memory.blocks p.block).live ≡ true
      → x ≡ Point (spots.At (owner_of s.memory p.block) p.offset)
  at-object u x p h e live =
      let a = point-parts s.memory u x h in
      let is : Some (spot_at s.memory p) ≡ Some a.0 = ap (spot s.memory) (sym e) ∙ a.1 in
      a.2 ∙ ap Point (spot-is (spot_at s.memory p) a.0 is ∙ spot-lives s.memory p live)

  no-more : (o : ℕ) (d : ℤ) → asked_of (slice_get objects o) (λ object. int_lt d (pos 0) || int_lt (pos object.size) d) ≡ false → IsRoom objects o d 0
  no-more o d h = subst (λ y. asked_of (slice_get objects o) (λ object. int_lt d (pos 0) || int_lt (pos object.size) y) ≡ false) zero h where
    zero : d ≡ d +ℤ pos 0
    zero = omega (arith, ints)

  pub bounds-room : (kind : WrongKind) → kind ≡ kinds.Bounds → PassedAs objects check kind ty es s → (e : CsExprTree) × (es ≡ e ∷ []) × HasRoom e 0 objects s
  bounds-room kind e h =
      let k = as-kind objects check kind kinds.Bounds ty es s e h in
      let r = placed kinds.Bounds es k.0 (λ n. n) k.1 in
      let a = point-parts s.memory r.1 k.0 r.4 in (
        r.0,
        r.2,
        (
          r.1,
          r.3,
          spot-address s.memory r.1 a.0 a.1,
          λ p is live. no-more (owner_of s.memory p.block) p.offset
              (ap (fails_kind objects check kinds.Bounds) (sym (at-object r.1 k.0 p r.4 is live)) ∙ k.2),
        ),
      )

  pub access-room : (kind : WrongKind) → kind ≡ kinds.Access → PassedAs objects check kind ty es s → (e : CsExprTree) × (es ≡ e ∷ []) × HasRoom e check.size objects s
  access-room kind e h =
      let k = as-kind objects check kind kinds.Access ty es s e h in
      let r = placed kinds.Access es k.0 (λ n. n) k.1 in
      let a = point-parts s.memory r.1 k.0 r.4 in (
        r.0,
        r.2,
        (
          r.1,
          r.3,
          spot-address s.memory r.1 a.0 a.1,
          λ p is live.
              ap (fails_kind objects check kinds.Access) (sym (at-object r.1 k.0 p r.4 is live)) ∙ k.2,
        ),
      )

  -- ---- exact results

  of-result : (es : List CsExprTree) (x : Operand) → of_one es (λ e. exact_of e s) ≡ Some x → is_number_outside check.lo check.hi x ≡ false
      → (e : CsExprTree) × (es ≡ e ∷ []) × HasExactIn e check.lo check.hi s
  of-result [] x h k = cc
  of-result (e ∷ []) x h k =
      let n = exact-number e s x h in
      let i = inside check.lo check.hi n.0 (ap (is_number_outside check.lo check.hi) (sym n.1) ∙ k) in
      (e, refl, (n.0, h ∙ ap Some n.1, i.0, i.1))
  of-result (e ∷ f ∷ fs) x h k = cc

  pub result-lies : (kind : WrongKind) → (kind ≡ kinds.Overflow) ⊎ ((kind ≡ kinds.Quotient) ⊎ (kind ≡ kinds.ShiftResult)) → PassedAs objects check kind ty es s
      → (e : CsExprTree) × (es ≡ e ∷ []) × HasExactIn e check.lo check.hi s
  result-lies kind (inl e) h = let k = as-kind objects check kind kinds.Overflow ty es s e h in of-result es k.0 k.1 k.2
  result-lies kind (inr (inl e)) h = let k = as-kind objects check kind kinds.Quotient ty es s e h in of-result es k.0 k.1 k.2
  result-lies kind (inr (inr e)) h = let k = as-kind objects check kind kinds.ShiftResult ty es s e h in of-result es k.0 k.1 k.2
