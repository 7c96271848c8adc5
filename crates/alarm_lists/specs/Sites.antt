-- What stands at one place in a function of the analysed program looks at the same (this profile).
use Rattle.std.specs.Prelude.{◌≡◌}
use Rattle.c_layout.specs.WellTyped.{EachOf}
use Rattle.csharp.specs.Trees.{CsCallTree, CsStmtTree, Call, CsProgramTree}
use Rattle.alarm_claims.specs.Admitted.{SomeIn}
use Rattle.alarm_claims.specs.Forms.{AreOfOneForm}

abbrev pub IsCalled : CsCallTree → CsStmtTree → Type 0
IsCalled c (Call d) = d ≡ c
IsCalled c a = ⊥

-- in one function, calls at one place are of one function
abbrev pub CallsAgree : CsProgramTree → Type 0
CallsAgree q = EachOf q.functions (λ f function. (c d : CsCallTree) → SomeIn (IsCalled c) function.body → SomeIn (IsCalled d) function.body
    → c.pos ≡ d.pos → c.function ≡ d.function)

-- so one alarm can tell of all failures of one chain, place and kind
pub record SitesAgree (q : CsProgramTree) : Type 0 where
  pub checks : AreOfOneForm q
  pub calls : CallsAgree q
