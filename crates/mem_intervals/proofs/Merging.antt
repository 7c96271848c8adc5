-- Plain states at the start, at joins, and where objects begin and end.
use Rattle.std.proofs.Common.{◌≡◌, ◌≢◌, ◌==◌, ◌&&◌, ◌<◌, ℕ, pos, Bool, true, false, refl, sym, subst, ap, ◌∙◌, List, [], ◌∷◌, length, Option, Some, None}
use Rattle.std.specs.Prelude.{option_and_then, replicate, slice_get}
use Rattle.c_syntax.specs.Types.{ObjectTree, CTypeTree, Int}
use Rattle.block_mem.specs.declared.types.Scalar.{Scalar}
use Rattle.block_mem.specs.declared.types.Scalar.TheVariants as scalars
use Rattle.ext_int.proofs.Ends.{greater_least, lesser_greatest}
use Rattle.num_api.specs.declared.message.Range.{Range}
use Rattle.num_api.specs.Ranges.{NoWider, hull}
use Rattle.num_api.specs.Spans.{Span, point, range_of}
use Rattle.num_api.proofs.Parts.{as_wide}
use Rattle.csharp.specs.Trees.{CsExprTree, Const, Null, Temp, Address, Unary, Binary, Convert, CsProgramTree}
use Rattle.csharp.specs.States.{State}
use Rattle.csharp.specs.Actions as acts
use Rattle.csharp.specs.SameExprs.{is_same_expr}
use Rattle.csharp.proofs.Equal.{expr_itself}
use Rattle.plain_runs.specs.States.{Cell, Passed, Plain, plain_first}
use Rattle.plain_runs.specs.Changes.{declared, with_object, plain_enter, plain_leave}
use Rattle.mem_temps.specs.Operators.{LiesIn}
use Rattle.mem_temps.proofs.Ranged.{and_then_some, point_inside, zero_has}
use Rattle.mem_temps.specs.Ranges.{range_at}
use Rattle.mem_temps.proofs.Kept.{inside_below}
use Rattle.mem_intervals.specs.Passed.{Remembered, IsPassed, with_hull, joined_passed, kept_for}
use Rattle.mem_intervals.specs.Under.{IsUnderPlain, PassesUnder}
use Rattle.mem_intervals.proofs.Starts.{zero_at}
use Rattle.mem_intervals.proofs.Knowing.{range_there}

-- ---- the start

-- the first plain state has each temporary at 0
pub first_under : (q : CsProgramTree) (passed : Option Remembered)
    → IsUnderPlain q.temps (replicate (length q.temps) (range_of (point (pos 0)))) passed (plain_first q)
first_under q passed = record {
  inside = λ d t f. subst (LiesIn t) (sym (zero_at q.temps d (scalars.Int t) f)) (point_inside t (pos 0) (zero_has t));
  under = λ d t f. subst (λ (r : Range). NoWider r (range_of (point (pos 0)))) (sym (zero_at q.temps d (scalars.Int t) f)) (as_wide (range_of (point (pos 0))));
  passes = λ r e. absurd (cc);
}

-- ---- joins

pub hull_in : (r s z : Range) → NoWider r z → NoWider s z → NoWider (hull r s) z
hull_in r s z h k = record { low = lesser_greatest z.lo r.lo s.lo h.low k.low; high = greater_least z.hi r.hi s.hi h.high k.high }

joined_passes : (passed other : Option Remembered) (plain : Option Passed) → PassesUnder passed plain → PassesUnder other plain
    → PassesUnder (joined_passed passed other) plain
joined_passes passed other plain h k x is =
    let u = h x is in let w = k x is in
    let same : is_same_expr w.0.expr u.0.expr ≡ true = ap (λ e. is_same_expr e u.0.expr) (w.2 ∙ sym u.2) ∙ expr_itself u.0.expr in (
      record { expr = u.0.expr; range = hull u.0.range w.0.range },
      ap (λ o. joined_passed o other) u.1 ∙ ap (with_hull u.0) (range_there other u.0.expr w.0 w.1 same),
      u.2,
      hull_in u.0.range w.0.range (range_of x.numbers) u.3 w.3,
    )

pub join_under : (types : List Scalar) (old others new : List Range) (passed other : Option Remembered) (p : Plain)
    → ((d : ℕ) → d < length old → range_at new d ≡ hull (range_at old d) (range_at others d)) → IsUnderPlain types old passed p
    → IsUnderPlain types others other p → IsUnderPlain types new (joined_passed passed other) p
join_under types old others new passed other p hulls h k = record {
  inside = λ d t f. subst (LiesIn t) (sym (hulls d (inside_below types old d t h.inside f)))
      (hull_in (range_at old d) (range_at others d) _ (h.inside d t f) (k.inside d t f));
  under = λ d t f. subst (λ (r : Range). NoWider r (range_of (p.temps d))) (sym (hulls d (inside_below types old d t h.inside f)))
      (hull_in (range_at old d) (range_at others d) _ (h.under d t f) (k.under d t f));
  passes = joined_passes passed other p.passed h.passes k.passes;
}

-- ---- objects that begin and end

pub enter_passed : (objects : List ObjectTree) (names : List ℕ) (passed : Option Remembered) (s : State) → IsPassed passed s
    → IsPassed (kept_for names passed) (acts.enter objects names s)
enter_passed objects [] passed s k = k
enter_passed objects (x ∷ xs) passed s k = tt

pub leave_passed : (names : List ℕ) (passed : Option Remembered) (s : State) → IsPassed passed s → IsPassed (kept_for names passed) (acts.leave names s)
leave_passed [] passed s k = k
leave_passed (x ∷ xs) passed s k = tt

-- where an object begins or ends nothing has passed, and the temporaries stay
kept_passes : (names : List ℕ) (passed : Option Remembered) (plain : Option Passed) → (names ≡ [] → PassesUnder passed plain) → (names ≢ [] → plain ≡ None)
    → PassesUnder (kept_for names passed) plain
kept_passes [] passed plain same none = same refl
kept_passes (x ∷ xs) passed plain same none = λ r e. let gone = none (λ h. absurd (cc)) in absurd (cc)

pub same_under : (types : List Scalar) (rs : List Range) (passed : Option Remembered) (names : List ℕ) (p r : Plain) → r.temps ≡ p.temps
    → (names ≡ [] → r.passed ≡ p.passed) → (names ≢ [] → r.passed ≡ None) → IsUnderPlain types rs passed p → IsUnderPlain types rs (kept_for names passed) r
same_under types rs passed names p r temps same none h = record {
  inside = h.inside;
  under = λ d t f. subst (λ (g : ℕ → Span). NoWider (range_at rs d) (range_of (g d))) (sym temps) (h.under d t f);
  passes = kept_passes names passed r.passed (λ e. subst (PassesUnder passed) (sym (same e)) h.passes) none;
}

-- the cell of an object that begins to live
abbrev begun : ObjectTree → CTypeTree → Option Cell
begun object (Int t) = Some (declared t object.read_only)
begun object ty = None

enter_gone : (objects : List ObjectTree) (names : List ℕ) (p r : Plain) → p.passed ≡ None → plain_enter objects names p ≡ Some r → r.passed ≡ None
enter_gone objects [] p r gone g = let same : p ≡ r = cc in ap Plain.passed (sym same) ∙ gone
enter_gone objects (x ∷ xs) p r gone g =
    let o = and_then_some (λ (object : ObjectTree). option_and_then (λ cell. plain_enter objects xs (with_object p x (Some cell))) (begun object object.ty))
    (slice_get objects x) r g in
    let c = and_then_some (λ cell. plain_enter objects xs (with_object p x (Some cell))) (begun o.0 o.0.ty) r o.2 in
    enter_gone objects xs (with_object p x (Some c.0)) r refl c.2

pub enter_passes : (objects : List ObjectTree) (names : List ℕ) (p r : Plain) → plain_enter objects names p ≡ Some r
    → (names ≡ [] → r.passed ≡ p.passed) × (names ≢ [] → r.passed ≡ None)
enter_passes objects [] p r g = let same : p ≡ r = cc in ((λ e. ap Plain.passed (sym same)), λ ne. absurd (ne refl))
enter_passes objects (x ∷ xs) p r g =
    let o = and_then_some (λ (object : ObjectTree). option_and_then (λ cell. plain_enter objects xs (with_object p x (Some cell))) (begun object object.ty))
    (slice_get objects x) r g in
    let c = and_then_some (λ cell. plain_enter objects xs (with_object p x (Some cell))) (begun o.0 o.0.ty) r o.2 in
    ((λ e. absurd (cc)), λ ne. enter_gone objects xs (with_object p x (Some c.0)) r refl c.2)

leave_gone : (names : List ℕ) (p : Plain) → p.passed ≡ None → (plain_leave names p).passed ≡ None
leave_gone [] p gone = gone
leave_gone (x ∷ xs) p gone = leave_gone xs (with_object p x None) refl

pub leave_passes : (names : List ℕ) (p : Plain) → (names ≡ [] → (plain_leave names p).passed ≡ p.passed) × (names ≢ [] → (plain_leave names p).passed ≡ None)
leave_passes [] p = ((λ e. refl), λ ne. absurd (ne refl))
leave_passes (x ∷ xs) p = ((λ e. absurd (cc)), λ ne. leave_gone xs (with_object p x None) refl)
