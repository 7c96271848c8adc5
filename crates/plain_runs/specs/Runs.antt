-- The plain run of a statement: loops turn by turn, hulls where ways meet, and the checks that are suspects (this profile).
use Rattle.std.specs.Prelude.{ℕ, zero, suc, ◌==◌, Bool, true, false, ◌&&◌, if◌then◌else◌, List, [], ◌∷◌, ◌++◌, Option, Some, None, is_none, option_map, slice_get}
use Rattle.c_syntax_written.specs.declared.place.Pos.{Pos}
use Rattle.c_syntax.specs.declared.alarm.WrongKind.{WrongKind}
use Rattle.csharp.specs.Trees.{CsStmtTree, Nothing, Set, Load, Store, CopyBytes, Undefine, Checked, Input, Assume, Sequence, If, Loop, Block, Exit, Scope}
use Rattle.csharp.specs.Trees.{Switch, Goto, Call, Return, Label, Case, Default, CsStmtTrees, none, more, CsCheckTree, CsProgramTree}
use Rattle.plain_runs.specs.States.{Plain, plain_first, hull_some}
use Rattle.plain_runs.specs.Changes.{plain_set, plain_load, plain_store, plain_copy, plain_undefine, plain_input, plain_enter, plain_leave, plain_test}
use Rattle.plain_runs.specs.Checks.{plain_suspect, plain_pass}

-- a check that may fail
pub record Suspect : Type 0 where
  pub at : Pos
  pub kind : WrongKind

-- how a statement is left
pub data Way : Type 0 where
  ByExit : ℕ → Way
  ByReturn : Way

-- whether the run is there, the state behind it where that is reached, the states in which it is left, and its suspects
pub record Ran : Type 0 where
  pub there : Bool
  pub after : Option Plain
  pub exits : Way → Option Plain
  pub suspects : List Suspect

-- ---- what runs come to

abbrev pub no_exits : Way → Option Plain
no_exits way = None

abbrev pub goes : Plain → Ran
goes p = record { there = true; after = Some p; exits = no_exits; suspects = [] }

abbrev pub unreached : Ran
unreached = record { there = true; after = None; exits = no_exits; suspects = [] }

abbrev pub gone : Ran
gone = record { there = false; after = None; exits = no_exits; suspects = [] }

abbrev pub is_same_way : Way → Way → Bool
is_same_way (ByExit j) (ByExit k) = j == k
is_same_way (ByExit j) ByReturn = false
is_same_way ByReturn (ByExit k) = false
is_same_way ByReturn ByReturn = true

abbrev pub leaves : Way → Plain → Ran
leaves way p = record { there = true; after = None; exits = λ other. if is_same_way way other then Some p else None; suspects = [] }

abbrev pub or_gone : Option Plain → Ran
or_gone None = gone
or_gone (Some p) = goes p

-- a test: not there, leading nowhere, or going on
abbrev pub tested : Option (Option Plain) → (Plain → Ran) → Ran
tested None next = gone
tested (Some None) next = unreached
tested (Some (Some p)) next = next p

-- a check that may fail is a suspect
abbrev pub listed : Option Bool → CsCheckTree → Ran → Ran
listed None c ran = gone
listed (Some suspect) c ran =
    record ran { suspects = if suspect then record { at = c.pos; kind = c.check.kind } ∷ ran.suspects else ran.suspects }

-- ---- runs of parts

-- two runs, of which the second goes on from the first
abbrev pub joined : Ran → Ran → Ran
joined first second = record {
  there = first.there && second.there;
  after = second.after;
  exits = λ way. hull_some (first.exits way) (second.exits way);
  suspects = first.suspects ++ second.suspects;
}

abbrev pub then_from : Ran → Option Plain → (Plain → Ran) → Ran
then_from ran None next = ran
then_from ran (Some p) next = joined ran (next p)

abbrev pub then_run : Ran → (Plain → Ran) → Ran
then_run ran next = then_from ran ran.after next

-- two branches
abbrev pub either : Ran → Ran → Ran
either first second = record {
  there = first.there && second.there;
  after = hull_some first.after second.after;
  exits = λ way. hull_some (first.exits way) (second.exits way);
  suspects = first.suspects ++ second.suspects;
}

-- exit 0 ends at the block, and any other has one block less to leave
abbrev pub outer : (Way → Option Plain) → Way → Option Plain
outer exits (ByExit k) = exits (ByExit (suc k))
outer exits ByReturn = exits ByReturn

abbrev pub out_of_block : Ran → Ran
out_of_block ran = record ran { after = hull_some ran.after (ran.exits (ByExit 0)); exits = outer ran.exits }

-- the objects of a scope end where it ends and where it is left
abbrev pub out_of_scope : List ℕ → Ran → Ran
out_of_scope xs ran = record ran { after = option_map (plain_leave xs) ran.after; exits = λ way. option_map (plain_leave xs) (ran.exits way) }

abbrev pub within_scope : List ℕ → Option Plain → (Plain → Ran) → Ran
within_scope xs None next = gone
within_scope xs (Some p) next = out_of_scope xs (next p)

-- the last turn leads to no other
abbrev pub ended : Ran → Ran
ended ran = record ran { there = ran.there && is_none ran.after; after = None }

-- a loop comes back to its start a number of times at most
abbrev pub turns : ℕ → (Plain → Ran) → Plain → Ran
turns zero turn p = ended (turn p)
turns (suc k) turn p = then_run (turn p) (turns k turn)

-- ---- the run

abbrev mutual
  pub plain : ℕ → CsProgramTree → CsStmtTree → Plain → Ran
  plain bound q Nothing p = goes p
  plain bound q (Set d e) p = or_gone (plain_set q.temps p d e)
  plain bound q (Load d ty e) p = or_gone (plain_load p d ty e)
  plain bound q (Store ty e f) p = or_gone (plain_store q.temps p ty e f)
  plain bound q (CopyBytes n to from) p = or_gone (plain_copy p n to from)
  plain bound q (Undefine x) p = or_gone (plain_undefine p x)
  plain bound q (Checked c) p = listed (plain_suspect q.temps p c) c (tested (plain_pass q.temps p c) goes)
  plain bound q (Input d t) p = or_gone (plain_input p d t)
  plain bound q (Assume e) p = tested (plain_test q.temps p e true) goes
  plain bound q (Sequence a b) p = then_run (plain bound q a p) (plain bound q b)
  plain bound q (If e a b) p = either (tested (plain_test q.temps p e true) (plain bound q a)) (tested (plain_test q.temps p e false) (plain bound q b))
  plain bound q (Loop at a) p = turns bound (plain bound q a) p
  plain bound q (Block a) p = out_of_block (plain bound q a p)
  plain bound q (Exit k) p = leaves (ByExit k) p
  plain bound q (Scope xs all) p = within_scope xs (plain_enter q.objects xs p) (plain_items bound q all)
  plain bound q (Switch e xs all) p = gone
  plain bound q (Goto label) p = gone
  plain bound q (Call c) p = gone
  plain bound q (Return e) p = leaves ByReturn p
  plain bound q (Label at l) p = goes p
  plain bound q (Case n) p = goes p
  plain bound q Default p = goes p

  pub plain_items : ℕ → CsProgramTree → CsStmtTrees → Plain → Ran
  plain_items bound q none p = goes p
  plain_items bound q (more item rest) p = then_run (plain bound q item p) (plain_items bound q rest)

-- the plain run of main, whose loops come back to their start at most so many times
abbrev pub plain_run : ℕ → CsProgramTree → Ran
plain_run bound q = run_of (slice_get q.functions q.main) where
  run_of : Option Rattle.csharp.specs.Trees.CsFunctionTree → Ran
  run_of None = gone
  run_of (Some f) = plain bound q f.body (plain_first q)
