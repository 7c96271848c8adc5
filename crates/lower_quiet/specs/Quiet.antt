-- What lowered code sets and calls, and what its values read.
use Rattle.std.specs.Prelude.{ℕ, ◌*◌, ◌<◌, ◌≤◌, IfSome}
use Rattle.csharp.specs.Trees.{CsExprTree, Const, Null, Temp, Address, Unary, Binary, Convert, CsStmtTree, Set, Load, Input, Call}
use Rattle.lower_trees.specs.LowerExpr.{Lowered}
use Rattle.lower_formed.specs.Every.{Every}

-- a number from one on and below another
abbrev pub In : ℕ → ℕ → ℕ → Type 0
In lo hi d = (lo ≤ d) × (d < hi)

-- the temporaries that a statement itself sets lie in a range, and what it calls is one of these
abbrev pub Puts : ℕ → ℕ → (ℕ → Type 0) → CsStmtTree → Type 0
Puts lo hi Low (Set d e) = In lo hi d
Puts lo hi Low (Load d ty e) = In lo hi d
Puts lo hi Low (Input d t) = In lo hi d
Puts lo hi Low (Call c) = IfSome c.value (In lo hi) × IfSome c.flag (In lo hi) × Low c.function
Puts lo hi Low a = Unit {0}

-- an expression reads no temporary from a number on
abbrev pub Below : ℕ → CsExprTree → Type 0
Below hi (Const t k) = Unit {0}
Below hi Null = Unit {0}
Below hi (Temp i) = i < hi
Below hi (Address x) = Unit {0}
Below hi (Unary op a) = Below hi a
Below hi (Binary op a b) = Below hi a × Below hi b
Below hi (Convert t a) = Below hi a

-- code at a depth sets temporaries of its own rows, and its value reads those below the next depth
pub record Quiet (Low : ℕ → Type 0) (d : ℕ) (a : Lowered) : Type 0 where
  pub next : d ≤ a.next
  pub top : a.next ≤ a.top
  pub before : Every (Puts (12 * d) (12 * a.top) Low) a.before
  pub value : Below (12 * a.next) a.value
