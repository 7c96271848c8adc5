-- Checks that pass leave objects and copies of a plain state as they were.
use Rattle.std.proofs.Common.{◌≡◌, ℕ, pos, refl, sym, subst, ap, ◌∙◌, Bool, true, false, List, [], ◌∷◌, Option, Some, None}
use Rattle.std.specs.Prelude.{◌==◌, ◌&&◌, if◌then◌else◌, option_map, option_and_then}
use Rattle.std.specs.Ordering.{int_eq}
use Rattle.c_syntax.specs.declared.alarm.Check.{Check}
use Rattle.c_syntax.specs.declared.alarm.WrongKind.{WrongKind}
use Rattle.c_syntax.specs.declared.alarm.WrongKind.TheVariants as kinds
use Rattle.c_syntax.specs.declared.operator.Arithmetic.TheVariants.{Remainder}
use Rattle.c_syntax.specs.declared.operator.TBinaryOp.TheVariants as binaries
use Rattle.block_mem.specs.declared.types.Scalar.{Scalar}
use Rattle.num_api.specs.Plain.{without}
use Rattle.num_api.specs.Spans.{Span}
use Rattle.csharp.specs.Trees.{CsExprTree, Const, Null, Temp, Address, Unary, Binary, Convert, CsCheckTree}
use Rattle.plain_runs.specs.States.{Cell, Plain, span_of}
use Rattle.plain_runs.specs.Changes.{has_numbers, within}
use Rattle.plain_runs.specs.Checks.{allowed, of_one, exact_of, suspect_of, if_some, passing, with_passed, pass_result, pass_quotient, with_operand, if_reached, pass_operand, pass_assertion, passes_by, plain_pass}
use Rattle.mem_objects.specs.declared.cells.KnownCell.{KnownCell}
use Rattle.mem_objects.specs.Under.{AreUnder}

-- the objects and copies are the same
pub record IsSame (p q : Plain) : Type 0 where
  pub objects : q.objects ≡ p.objects
  pub copies : q.copies ≡ p.copies

-- what is known of both is the same then
pub same_under : (cells : List (Option KnownCell)) (copies : List (Option ℕ)) (p q : Plain) → IsSame p q → AreUnder cells copies p → AreUnder cells copies q
same_under cells copies p q s k = record {
  cells_under = λ x cell e. k.cells_under x cell (sym (ap (λ (f : ℕ → Option Cell). f x) s.objects) ∙ e);
  copies_under = λ d x e. k.copies_under d x (sym (ap (λ (f : ℕ → Option ℕ). f d) s.copies) ∙ e);
}

module _ (types : List Scalar) (p : Plain) where
  abbrev Leaves : Option (Option Plain) → Type 0
  Leaves o = (q : Plain) → o ≡ Some (Some q) → IsSame p q

  one_leaves : (es : List CsExprTree) (look : CsExprTree → Option (Option Plain)) → ((e : CsExprTree) → Leaves (look e)) → Leaves (of_one es look)
  one_leaves [] look all q h = absurd (cc)
  one_leaves (e ∷ []) look all q h = all e q h
  one_leaves (e ∷ f ∷ es) look all q h = absurd (cc)

  map_leaves : {A : Type 0} (f : A → Option Plain) (o : Option A) → ((a : A) (q : Plain) → f a ≡ Some q → IsSame p q) → Leaves (option_map f o)
  map_leaves f None all q h = absurd (cc)
  map_leaves f (Some a) all q h = let same : f a ≡ Some q = cc in all a q same

  some_same : (s : Span) (r q : Plain) → IsSame p r → if_some s r ≡ Some q → IsSame p q
  some_same s r q k h = by (has_numbers s) h where
    by : (b : Bool) → (if b then Some r else None) ≡ Some q → IsSame p q
    by true g = let same : r ≡ q = cc in subst (IsSame p) same k
    by false g = absurd (cc)

  result_leaves : (check : Check) (e : CsExprTree) → Leaves (pass_result types p check e)
  result_leaves check e = map_leaves (λ s. with_passed p e (passing check s)) (exact_of types p e)
      (λ s q h. some_same (passing check s) (record p { passed = Some (record { expr = e; numbers = passing check s }) }) q
      (record { objects = refl; copies = refl }) h)

  quotient_leaves : (check : Check) (e : CsExprTree) → Leaves (pass_quotient types p check e)
  quotient_leaves check (Binary (binaries.Arithmetic Remainder t) a b) q h =
      let after : Plain = record p { passed = None } in
      let same : after ≡ q = cc in subst (IsSame p) same (record { objects = refl; copies = refl })
  quotient_leaves check e q h = result_leaves check e q h

  kept_same : (b : Bool) (q : Plain) → (if b then Some (record p { passed = None }) else None) ≡ Some q → IsSame p q
  kept_same true q h =
      let after : Plain = record p { passed = None } in
      let same : after ≡ q = cc in subst (IsSame p) same (record { objects = refl; copies = refl })
  kept_same false q h = absurd (cc)

  operand_same : (e : CsExprTree) (before after : Span) (q : Plain) → with_operand p e before after ≡ Some q → IsSame p q
  operand_same (Temp d) before after q h =
      let cut : Plain = record p { temps = λ k. if k == d then after else p.temps k; passed = None } in
      let same : cut ≡ q = cc in subst (IsSame p) same (record { objects = refl; copies = refl })
  operand_same (Const t n) before after q h = kept_same (int_eq before.lo after.lo && int_eq before.hi after.hi) q h
  operand_same Null before after q h = kept_same (int_eq before.lo after.lo && int_eq before.hi after.hi) q h
  operand_same (Address x) before after q h = kept_same (int_eq before.lo after.lo && int_eq before.hi after.hi) q h
  operand_same (Unary op a) before after q h = kept_same (int_eq before.lo after.lo && int_eq before.hi after.hi) q h
  operand_same (Binary op a b) before after q h = kept_same (int_eq before.lo after.lo && int_eq before.hi after.hi) q h
  operand_same (Convert t a) before after q h = kept_same (int_eq before.lo after.lo && int_eq before.hi after.hi) q h

  reached_leaves : (s : Span) (o : Option Plain) → ((q : Plain) → o ≡ Some q → IsSame p q) → Leaves (if_reached s o)
  reached_leaves s o all q h = by (has_numbers s) o all h where
    by : (b : Bool) (o : Option Plain) → ((q : Plain) → o ≡ Some q → IsSame p q) → (if b then option_map Some o else Some None) ≡ Some (Some q) → IsSame p q
    by true None all g = absurd (cc)
    by true (Some r) all g = let same : r ≡ q = cc in all q (ap (λ (x : Plain). Some x) same)
    by false o all g = absurd (cc)

  operand_leaves : (e : CsExprTree) (cut : Span → Span) → Leaves (pass_operand types p e cut)
  operand_leaves e cut q h = by (span_of types p e) h where
    by : (o : Option Span) → option_and_then (λ s. if_reached (cut s) (with_operand p e s (cut s))) o ≡ Some (Some q) → IsSame p q
    by None g = absurd (cc)
    by (Some s) g = reached_leaves (cut s) (with_operand p e s (cut s)) (λ r f. operand_same e s (cut s) r f) q g

  assertion_leaves : (e : CsExprTree) → Leaves (pass_assertion types p e)
  assertion_leaves e = map_leaves _ (span_of types p e) (λ s q h. some_same (without (pos 0) s) (record p { passed = None }) q (record { objects = refl; copies = refl }) h)

  shown_leaves : (o : Option Bool) → Leaves (option_map (λ suspect. Some (record p { passed = None })) o)
  shown_leaves o = map_leaves (λ suspect. Some (record p { passed = None })) o (λ suspect q h. kept_same true q h)

  kind_leaves : (c : CsCheckTree) (kind : WrongKind) → Leaves (passes_by types p c kind)
  kind_leaves c kinds.Overflow q h = one_leaves c.operands (pass_result types p c.check) (result_leaves c.check) q h
  kind_leaves c kinds.Quotient q h = one_leaves c.operands (pass_quotient types p c.check) (quotient_leaves c.check) q h
  kind_leaves c kinds.ShiftResult q h = one_leaves c.operands (pass_result types p c.check) (result_leaves c.check) q h
  kind_leaves c kinds.DivideByZero q h = one_leaves c.operands (λ e. pass_operand types p e (without (pos 0))) (λ e. operand_leaves e (without (pos 0))) q h
  kind_leaves c kinds.ShiftAmount q h = one_leaves c.operands (λ e. pass_operand types p e (λ s. within s (allowed c.check)))
      (λ e. operand_leaves e (λ s. within s (allowed c.check))) q h
  kind_leaves c kinds.AssertFailed q h = one_leaves c.operands (pass_assertion types p) assertion_leaves q h
  kind_leaves c kind q h = shown_leaves (suspect_of types p c kind) q h

  -- a check that passes changes neither
  pub pass_same : (c : CsCheckTree) (q : Plain) → plain_pass types p c ≡ Some (Some q) → IsSame p q
  pass_same c q h = kind_leaves c c.check.kind q h

pub pass_under : (types : List Scalar) (cells : List (Option KnownCell)) (copies : List (Option ℕ)) (p q : Plain) (c : CsCheckTree) → AreUnder cells copies p
    → plain_pass types p c ≡ Some (Some q) → AreUnder cells copies q
pass_under types cells copies p q c k h = same_under cells copies p q (pass_same types p c q h) k
