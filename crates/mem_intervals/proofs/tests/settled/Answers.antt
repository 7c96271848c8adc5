use Rattle.std.proofs.Common.{◌≡◌, sym, subst}
use Rattle.std.specs.Prelude.{IfOk}
use Rattle.num_api.proofs.PowersRamp.{powers_answer}
use Rattle.csharp.specs.Trees.{CsProgramTree}
use Rattle.mem_intervals.specs.declared.states.IntervalStates.{IntervalStates}
use Rattle.mem_intervals.specs.Small.{IsSetFor}
use Rattle.mem_intervals.proofs.tests.settled.Goals as goal

pub new-ramp-requires : goal.new-ramp-requires
new-ramp-requires c = powers_answer _ _ _ (λ n small. tt) (λ n r small post. search post)

pub settle-requires-clause-one : goal.settle-requires-clause-one
settle-requires-clause-one c =
    let q = c.requires.program in (
      q,
      subst (IsSetFor q) (sym c.in_ok-first.ensures) c.requires.is_for,
      λ m next same returned.
          let copied : next ≡ m = search returned in
          subst (IsSetFor q) (sym copied) same,
    )

pub returns : goal.returns
returns c = subst (λ (m : IntervalStates). IfOk c.settle.result (λ n. (q : CsProgramTree) → IsSetFor q m → IsSetFor q n)) c.in_ok-first.ensures
    c.settle.ensures.is_for
