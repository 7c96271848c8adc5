-- What is told of the checks of each program that is lowered from a typed one with its plan.
use Rattle.std.specs.Prelude.{◌≡◌, ℕ, Bool, [], ◌∷◌, Contains, Some, slice_get}
use Rattle.c_syntax_written.specs.declared.place.Pos.{Pos}
use Rattle.c_syntax.specs.declared.program.Plan.{Plan}
use Rattle.c_syntax.specs.Program.{TProgramTree}
use Rattle.c_layout.specs.WellTyped.{EachOf}
use Rattle.c_sites.specs.Sites.{InObject, site, SitesAgree}
use Rattle.c_steps_laws.specs.Fits.{Runs}
use Rattle.csharp.specs.Trees.{CsCallTree, CsCheckTree, CsExprTree, CsFunctionTree, CsStmtTree, Call}
use Rattle.csharp.specs.Formed.{Throughout}
use Rattle.lower_trees.specs.LowerProgram.{lower}
use Rattle.lower_trees.specs.Named.{IsNamed}
use Rattle.alarm_claims.specs.Admitted.{SomeIn}
use Rattle.alarm_claims.specs.Forms.{IsChecked, AreOfOneForm}
use Rattle.lower_sites_laws.specs.Looks.{sites_in, IsSited}

-- each check is made at a site of its function, and looks at what stands there
abbrev pub LoweredChecksAreSited : Type 0
LoweredChecksAreSited = (p : TProgramTree) (plan : Plan) → Runs p plan → Throughout (λ f around a. IsSited (sites_in p f) a) (lower p plan)

-- where sites at one place agree, checks of one place and kind look at as many operands
abbrev pub LoweredChecksAreOfOneForm : Type 0
LoweredChecksAreOfOneForm = (p : TProgramTree) (plan : Plan) → Runs p plan → SitesAgree p → AreOfOneForm (lower p plan)

-- And where a named place stands, each check looks at one operand: the address of the object that the place is in, moved by constants and by products
-- with constants
abbrev pub LoweredPlacesAreNamed : Type 0
LoweredPlacesAreNamed =
    (p : TProgramTree) (plan : Plan) → Runs p plan → SitesAgree p
    → (f : ℕ) (function : CsFunctionTree) → slice_get (lower p plan).functions f ≡ Some function
    → (at : Pos) (x : ℕ) (has_element : Bool) → Contains (sites_in p f) (site at (InObject x has_element))
    → (c : CsCheckTree) → SomeIn (IsChecked c) function.body → c.pos ≡ at → (e : CsExprTree) × (c.operands ≡ e ∷ []) × IsNamed x 1 e

abbrev pub IsCalled : CsCallTree → CsStmtTree → Type 0
IsCalled c (Call d) = d ≡ c
IsCalled c a = ⊥

-- where sites at one place agree, calls at one place are of one function
abbrev pub LoweredCallsAgree : Type 0
LoweredCallsAgree =
    (p : TProgramTree) (plan : Plan) → Runs p plan → SitesAgree p
    → EachOf (lower p plan).functions (λ f function. (c d : CsCallTree) → SomeIn (IsCalled c) function.body → SomeIn (IsCalled d) function.body
    → c.pos ≡ d.pos → c.function ≡ d.function)
