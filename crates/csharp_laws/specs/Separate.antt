-- Scopes that are never entered while they are open (this profile).
use Rattle.std.specs.Prelude.{◌≡◌, ℕ, Bool, ℤ, List, [], ◌∷◌, Contains, None}
use Rattle.c_layout.specs.WellTyped.{EachOf}
use Rattle.c_values.specs.Places.{place_of}
use Rattle.c_objects.specs.Lifetimes.{AreDistinct}
use Rattle.csharp.specs.Trees.{CsStmtTree, Scope, Switch, CsStmtTrees, CsFunctionTree, CsProgramTree}
use Rattle.csharp.specs.States.{State}
use Rattle.csharp.specs.Outcomes.{Clash}
use Rattle.csharp.specs.Formed.{Around, Each, IsFormed, gathered, gathered_in, nothing_around, objects_of}
use Rattle.csharp.specs.Meaning.{bounded_exec, run}
use Rattle.csharp_laws.specs.LeftAlone.{May, calls_of}

-- the objects that a call of a function opens, but for its own calls
abbrev pub objects_within : CsFunctionTree → List ℕ
objects_within function = gathered objects_of function.body

-- code may open an object: in a scope of its own, or by what it calls
abbrev pub MayOpen : CsProgramTree → ℕ → CsStmtTree → Type 0
MayOpen q x a = May q objects_within x (gathered objects_of a) (gathered calls_of a)

abbrev pub MayOpenAmong : CsProgramTree → ℕ → CsStmtTrees → Type 0
MayOpenAmong q x items = May q objects_within x (gathered_in objects_of items) (gathered_in calls_of items)

-- a scope's objects are distinct, and nothing within it may open them again
pub record IsApart (q : CsProgramTree) (xs : List ℕ) (items : CsStmtTrees) : Type 0 where
  pub distinct : AreDistinct xs
  pub once : (x : ℕ) → Contains xs x → MayOpenAmong q x items → ⊥

abbrev pub IsScopeApart : CsProgramTree → Around → CsStmtTree → Type 0
IsScopeApart q around (Scope xs items) = IsApart q xs items
IsScopeApart q around (Switch e xs items) = IsApart q xs items
IsScopeApart q around a = Unit {0}

-- each scope in a statement, and in a program, is apart
abbrev pub AreScopesApart : CsProgramTree → CsStmtTree → Type 0
AreScopesApart q a = Each (IsScopeApart q) nothing_around a

abbrev pub IsSeparate : CsProgramTree → Type 0
IsSeparate q = EachOf q.functions (λ f function. AreScopesApart q function.body)

-- where scopes are separate, a statement that begins where nothing lives that it may open comes to no clash
abbrev pub NoClash : Type 0
NoClash = (over : ℕ → Bool) (q : CsProgramTree) (fuel : ℕ) (a : CsStmtTree) (s : State)
    → IsSeparate q → AreScopesApart q a → ((x : ℕ) → MayOpen q x a → place_of s.memory x ≡ None)
    → bounded_exec over q fuel a s ≡ Clash → ⊥

-- the scopes of a formed program are separate
abbrev pub FormedIsSeparate : Type 0
FormedIsSeparate = (q : CsProgramTree) → IsFormed q → IsSeparate q

-- so a run of a formed program comes to no clash
abbrev pub FormedRunsNeverClash : Type 0
FormedRunsNeverClash = (q : CsProgramTree) (fuel : ℕ) (inputs : List ℤ) → IsFormed q → run q fuel inputs ≡ Clash → ⊥
