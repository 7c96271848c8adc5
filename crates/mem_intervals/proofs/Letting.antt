-- What a check of one expression, and of two, lets pass.
use Rattle.std.proofs.Common.{◌≡◌, ℕ, Bool, true, false, refl, subst, List, [], ◌∷◌, length, Option, Some}
use Rattle.std.specs.Prelude.{IsTrue, ◌&&◌}
use Rattle.block_mem.specs.declared.types.Scalar.{Scalar}
use Rattle.c_values.specs.Looks.{judge_one, Passes}
use Rattle.num_api.specs.declared.message.Range.{Range}
use Rattle.csharp.specs.Trees.{CsExprTree, CsProgramTree, CsCheckTree, Checked}
use Rattle.csharp.specs.States.{State, operand_of}
use Rattle.mem_api.specs.Given.{IsOf}
use Rattle.mem_api.specs.Showing.{looked_at}
use Rattle.mem_temps.specs.Checks.{IsExactOf}
use Rattle.mem_temps.specs.Exprs.{IsRangeOf}
use Rattle.mem_temps.specs.Sets.{IsSharp, Stands}
use Rattle.mem_temps.specs.Shows.{PassesOne}
use Rattle.mem_intervals.specs.Passed.{Remembered, IsPassed}
use Rattle.mem_intervals.specs.Passing.{KeepsPassing}
use Rattle.mem_intervals.proofs.Starts.{passed}
use Rattle.mem_intervals.proofs.Outcomes.{IsKept, passing_kept, passing_narrow, stands_narrow, sharp_narrow}
use Rattle.mem_intervals.proofs.Looks.{one_in, one_stays}
use Rattle.mem_intervals.proofs.Surviving.{check_result}

both_hold : (a b : Bool) → IsTrue a → IsTrue b → IsTrue (a && b)
both_hold true true h k = refl
both_hold true false h k = absurd (cc)
both_hold false b h k = absurd (cc)

module _ (c : CsCheckTree) (e : CsExprTree) (are : c.operands ≡ e ∷ []) (objects : ℕ) (types : List Scalar) (rs : List Range) (value exact : Range)
    (f : IsRangeOf rs e value) (g : IsExactOf rs e exact) (p : CsProgramTree) (given : IsOf p (Checked c)) (some : Bool) (new : List Range) (left : Option Remembered)
    (k : KeepsPassing c.check.kind c.check e value exact rs some new left) where
  kept : (q : CsProgramTree) (s : State) → length q.objects ≡ objects → Stands objects types rs s
      → judge_one q.objects c.check (looked_at c s) Passes ≡ Passes → IsKept some new left s
  kept q s n h judged =
      let x = passed q.objects c.check (looked_at c s) judged in
      passing_kept c.check e rs some new left s h.temps c.check.kind q.objects value exact c.ty x.0 (check_result p c e are given) k
      (λ v i. f.holds s v h.temps i) (one_in c e are objects types rs value exact f g q s x.0 n h x.1)
      (subst (λ (es : List CsExprTree). operand_of c.check.kind c.ty es s ≡ Some x.0) are x.1) x.2

  pub pass_stays : (live : Bool) → PassesOne c.check.kind c.check value exact live → (q : CsProgramTree) (s : State) → length q.objects ≡ objects
      → Stands objects types rs s → judge_one q.objects c.check (looked_at c s) Passes ≡ Passes
      → IsTrue (live && some) × Stands objects types new s × IsPassed left s
  pass_stays live passes q s n h judged =
      let y = kept q s n h judged in (
        both_hold live some (one_stays c e are objects types rs value exact f g live passes q s n h judged) y.some_left,
        stands_narrow objects types rs new s h y.all,
        y.passes,
      )

  pub pass_alone : (q : CsProgramTree) (s : State) → length q.objects ≡ objects → IsSharp objects types rs s
      → judge_one q.objects c.check (looked_at c s) Passes ≡ Passes → IsSharp objects types new s × IsPassed left s
  pass_alone q s n h judged =
      let y = kept q s n h.stands judged in
      (sharp_narrow objects types rs new s h (passing_narrow c.check.kind c.check e value exact rs some new left k) y.all, y.passes)
