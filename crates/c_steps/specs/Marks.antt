-- Labels, cases and defaults among the items of a block, and what is done from one of them on (C11 6.8.1, 6.8.4.2).
use Rattle.std.specs.Prelude.{ℕ, ◌==◌, ℤ, Bool, true, false, if◌then◌else◌, ◌∷◌, List, Option, Some, None}
use Rattle.std.specs.Ordering.{int_eq}
use Rattle.c_syntax.specs.TypedStmt.{TStmtTree, Label, Case, Default, TStmtTrees, none, more}
use Rattle.c_steps.specs.Work.{Item, Do}

-- what a jump looks for
pub data Mark : Type 0 where
  AtLabel : ℕ → Mark
  AtCase : ℤ → Mark
  AtDefault : Mark

-- an item of a block is the mark
abbrev pub is_mark : Mark → TStmtTree → Bool
is_mark (AtLabel label) (Label at k) = label == k
is_mark (AtCase n) (Case at k) = int_eq n k
is_mark AtDefault (Default at) = true
is_mark mark item = false

-- a label, a case and a default do nothing
abbrev pub does_nothing : TStmtTree → Bool
does_nothing (Label at k) = true
does_nothing (Case at k) = true
does_nothing (Default at) = true
does_nothing item = false

-- the mark stands among the items
abbrev pub has : Mark → TStmtTrees → Bool
has mark none = false
has mark (more item rest) = if is_mark mark item then true else has mark rest

-- the items behind the mark
abbrev pub behind : Mark → TStmtTrees → TStmtTrees
behind mark none = none
behind mark (more item rest) = if is_mark mark item then rest else behind mark rest

-- the items of a block in front of other work, an item each but for marks
abbrev pub does : TStmtTrees → List Item → List Item
does none work = work
does (more item rest) work = if does_nothing item then does rest work else Do item ∷ does rest work

-- where a switch goes on (C11 6.8.4.2p5)
abbrev pub chosen : ℤ → TStmtTrees → Option Mark
chosen n items = if has (AtCase n) items then Some (AtCase n) else (if has AtDefault items then Some AtDefault else None)
