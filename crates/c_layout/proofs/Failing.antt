-- What computes whether an operand fails a check, and what says so, agree.
use Rattle.std.proofs.Common.{◌≡◌, ℕ, zero, suc, ◌+◌, ◌*◌, ◌/◌, ◌%◌, ℤ, pos, negsuc, ◌+ℤ◌, ◌-ℤ◌, ◌*ℤ◌, ◌<ℤ◌, neg_ℤ, Bool, true, false, not, ◌&&◌, ◌||◌, List, refl, sym, ap, ◌∙◌, inl, inr, arith}
use Rattle.std.specs.Prelude.{◌⊎◌, ◌==◌, Option, None, Some, IsTrue, IsSomeAnd, nat_abs, int_lt, slice_get, if◌then◌else◌}
use Rattle.std.specs.Bool.{Decides}
use Rattle.std.proofs.lemmas.Bool.Decides.{Decides-int_eq, Decides-eqb, Decides-like, Decides-not, Decides-at, Decides-and, Decides-or}
use Rattle.std.proofs.lemmas.Int.{ints, unsigned_abs-mul}
use Rattle.std.proofs.Math.Nat.{mul-mod_right, div-add-mod}
use Rattle.c_syntax.specs.declared.alarm.Spot.{Spot}
use Rattle.c_syntax.specs.declared.alarm.Spot.TheVariants as spots
use Rattle.c_syntax.specs.declared.alarm.Check.{Check}
use Rattle.c_syntax.specs.declared.alarm.WrongKind.{WrongKind}
use Rattle.c_syntax.specs.declared.alarm.WrongKind.TheVariants as kinds
use Rattle.c_syntax.specs.Types.{ObjectTree}
use Rattle.c_syntax.specs.Operand.{Operand, Number, Point, Points, Mark, End, Undef, Broken}
use Rattle.c_syntax.specs.Operand as operands
use Rattle.c_syntax.specs.Admission.{IsOutside, IsZero, MeetsSpot, IsAt, IsEndOf, IsNoMultiple, IsUnrelated, FailsKind}
use Rattle.c_syntax.specs.Failing.{is_outside, is_number_outside, is_zero, is_undef, is_broken, is_no_value, is_null_spot, is_dead_spot, any_spot, asked_of, is_at, is_multiple, is_end_of, are_unrelated, is_unrelated, fails_kind}

never : Decides false ⊥
never = (λ e. absurd (cc), λ h. absurd h)

always : {P : Type 0} → P → Decides true P
always p = (λ e. p, λ h. refl)

less : (a b : ℤ) → Decides (int_lt a b) (a <ℤ b)
less a b = (λ e. grind (arith, ints), λ h. grind (arith, ints))

outside : (lo hi n : ℤ) → Decides (is_outside lo hi n) ((n <ℤ lo) ⊎ (hi <ℤ n))
outside lo hi n = Decides-or (int_lt n lo) (int_lt hi n) (less n lo) (less hi n)

number_outside : (lo hi : ℤ) (x : Operand) → Decides (is_number_outside lo hi x) (IsOutside lo hi x)
number_outside lo hi (Number n) = outside lo hi n
number_outside lo hi x = never

zero_is : (x : Operand) → Decides (is_zero x) (IsZero x)
zero_is (Number n) = Decides-int_eq n (pos 0)
zero_is x = never

different : {x y : Operand} → (x ≡ y → ⊥) → Decides false (x ≡ y)
different f = (λ e. absurd (cc), λ h. absurd (f h))

undef_is : (x : Operand) → Decides (is_undef x) (x ≡ Mark Undef)
undef_is (Mark Undef) = always refl
undef_is x = different (λ e. cc)

broken_is : (x : Operand) → Decides (is_broken x) (x ≡ Mark Broken)
broken_is (Mark Broken) = always refl
broken_is x = different (λ e. cc)

no_value_is : (x : Operand) → Decides (is_no_value x) (x ≡ End operands.None)
no_value_is (End operands.None) = always refl
no_value_is x = different (λ e. cc)

null_is : (s : Spot) → Decides (is_null_spot s) (s ≡ spots.Null)
null_is spots.Null = always refl
null_is s = (λ e. absurd (cc), λ h. absurd (cc))

dead_is : (s : Spot) → Decides (is_dead_spot s) (s ≡ spots.Dead)
dead_is spots.Dead = always refl
dead_is s = (λ e. absurd (cc), λ h. absurd (cc))

meets : (test : Spot → Bool) (bad : Spot) → ((s : Spot) → Decides (test s) (s ≡ bad)) → (x : Operand) → Decides (any_spot test x) (MeetsSpot bad x)
meets test bad each (Point s) = each s
meets test bad each (Points s t) = Decides-or (test s) (test t) (each s) (each t)
meets test bad each x = never

asked : (o : Option ObjectTree) (test : ObjectTree → Bool) (P : ObjectTree → Type 0) → ((object : ObjectTree) → Decides (test object) (P object)) → Decides (asked_of o test) (IsSomeAnd o P)
asked None test P each = never
asked (Some object) test P each = each object

at : (objects : List ObjectTree) (test : ObjectTree → ℤ → Bool) (P : ObjectTree → ℤ → Type 0) → ((object : ObjectTree) (d : ℤ) → Decides (test object d) (P object d)) → (x : Operand) → Decides (is_at objects test x) (IsAt objects P x)
at objects test P each (Point (spots.At o d)) = asked (slice_get objects o) (λ object. test object d) (λ object. P object d) (λ object. each object d)
at objects test P each (Point spots.Null) = never
at objects test P each (Point spots.Dead) = never
at objects test P each x = never

-- a number of which the size is a multiple is one itself
multiple_of : (size : ℕ) (n : ℤ) (q : ℕ) → nat_abs n ≡ size * q → (k : ℤ) × (n ≡ pos size *ℤ k)
multiple_of size (pos a) q e = (pos q, ap pos e)
multiple_of size (negsuc a) zero e = absurd (omega arith)
multiple_of size (negsuc a) (suc q) e = (negsuc q, ap (λ m. neg_ℤ (pos m)) e)

multiple : (size : ℕ) (n : ℤ) → Decides (is_multiple size n) ((k : ℤ) × (n ≡ pos size *ℤ k))
multiple size n =
    Decides-like (is_multiple size n)
    (λ e. multiple_of size n (nat_abs n / size) (sym (div-add-mod (nat_abs n) size) ∙ ap (λ r. size * (nat_abs n / size) + r) e ∙ omega arith))
    (λ w. ap (λ m. nat_abs m % size) w.1 ∙ ap (λ m. m % size) (unsigned_abs-mul (pos size) w.0) ∙ mul-mod_right size (nat_abs w.0))
    (Decides-eqb (nat_abs n % size) 0)

no_multiple : (size : ℕ) (n : ℤ) → Decides (not (is_multiple size n)) (IsNoMultiple size n)
no_multiple size n =
    Decides-like (not (is_multiple size n)) (λ h k e. h (k, e)) (λ h w. h w.0 w.1) (Decides-not (is_multiple size n) (multiple size n))

end_of : (objects : List ObjectTree) (o : ℕ) (d : ℤ) → Decides (is_end_of objects o d) (IsEndOf objects o d)
end_of objects o d =
    asked (slice_get objects o) _ (λ object. d ≡ pos object.size) (λ object. Decides-int_eq d (pos object.size))

other : (o p : ℕ) → Decides (not (o == p)) (o ≡ p → ⊥)
other o p = Decides-not (o == p) (Decides-eqb o p)

otherwise : (b x y : Bool) → b ≡ false → (if b then x else y) ≡ y
otherwise true x y e = absurd (cc)
otherwise false x y e = refl

unrelated_at : (objects : List ObjectTree) (size o : ℕ) (d : ℤ) (p : ℕ) (e : ℤ) → Decides (are_unrelated objects size o d p e) (IsUnrelated objects size (Points (spots.At o d) (spots.At p e)))
unrelated_at objects zero o d p e =
    Decides-like _ (λ h. inl (refl, h.0, h.1)) (λ w. elim w [ inl h ↦ (h.1, h.2) | inr h ↦ absurd (omega arith) ])
    (Decides-and _ _ (other o p) (Decides-or _ _ (end_of objects o d) (end_of objects p e)))
unrelated_at objects (suc n) o d p e =
    Decides-at _ _ (otherwise (suc n == 0) (not (o == p) && (is_end_of objects o d || is_end_of objects p e)) _ (grind arith))
    (Decides-like _ (λ h. inr (omega arith, h)) (λ w. elim w [ inl h ↦ absurd (omega arith) | inr h ↦ h.1 ])
    (Decides-or _ _ (other o p) (no_multiple (suc n) (d -ℤ e))))

unrelated : (objects : List ObjectTree) (size : ℕ) (x : Operand) → Decides (is_unrelated objects size x) (IsUnrelated objects size x)
unrelated objects size (Points (spots.At o d) (spots.At p e)) = unrelated_at objects size o d p e
unrelated objects size (Points (spots.At o d) spots.Null) = never
unrelated objects size (Points (spots.At o d) spots.Dead) = never
unrelated objects size (Points spots.Null t) = never
unrelated objects size (Points spots.Dead t) = never
unrelated objects size x = never

read_only : (object : ObjectTree) (d : ℤ) → Decides object.read_only (IsTrue object.read_only)
read_only object d = (λ e. e, λ e. e)

pub failing : (objects : List ObjectTree) (check : Check) (kind : WrongKind) (x : Operand) → Decides (fails_kind objects check kind x) (FailsKind objects check kind x)
failing objects check kinds.Overflow x = number_outside check.lo check.hi x
failing objects check kinds.DivideByZero x = zero_is x
failing objects check kinds.Quotient x = number_outside check.lo check.hi x
failing objects check kinds.ShiftAmount x = number_outside check.lo check.hi x
failing objects check kinds.ShiftResult x = number_outside check.lo check.hi x
failing objects check kinds.Indeterminate x = undef_is x
failing objects check kinds.Fragment x = broken_is x
failing objects check kinds.NullUse x = meets is_null_spot spots.Null null_is x
failing objects check kinds.Dangling x = meets is_dead_spot spots.Dead dead_is x
failing objects check kinds.Bounds x = at objects _ _ (λ object d. outside (pos 0) (pos object.size) d) x
failing objects check kinds.Access x =
    at objects _ _ (λ object d. Decides-or _ _ (less d (pos 0)) (less (pos object.size) (d +ℤ pos check.size))) x
failing objects check kinds.Alignment x = at objects _ _ (λ object d. no_multiple check.align d) x
failing objects check kinds.ReadOnly x = at objects _ _ read_only x
failing objects check kinds.Unrelated x = unrelated objects check.size x
failing objects check kinds.NoValue x = no_value_is x
failing objects check kinds.AssertFailed x = zero_is x
