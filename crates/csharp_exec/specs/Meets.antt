-- Whether a run comes to what the code does not hold, within its fuel and its bound on turns: the meaning, followed to the first such place.
use Rattle.std.specs.Prelude.{ℕ, zero, suc, ℤ, nat_lt, Bool, true, false, ◌&&◌, ◌||◌, if◌then◌else◌, List, [], ◌∷◌, length, Option, Some, None, slice_get}
use Rattle.std.specs.Option.{option_map_or}
use Rattle.c_values.specs.Values.{truth}
use Rattle.csharp.specs.Trees.{CsStmtTree, Set, Load, Store, CopyBytes, Checked, Assume, Sequence, If, Loop, Block, Scope, Switch, Call, Return}
use Rattle.csharp.specs.Trees.{CsStmtTrees, none, more, CsCallTree, CsFunctionTree, CsProgramTree}
use Rattle.csharp.specs.States.{State, first, value_of}
use Rattle.csharp.specs.Actions.{enter, are_free, pass}
use Rattle.csharp.specs.Outcomes.{ByGoto, Outcome, Normal, Leaves}
use Rattle.csharp.specs.Meaning.{How, Anew, Turn, turns_of, Later, Mark, AtLabel, chosen, has, is_mark, items, later_by, level}
use Rattle.csharp_state.specs.Unheld.{unheld, unheld_check, unheld_copy, unheld_pass, unheld_store}
use Rattle.csharp_exec.specs.Beginning.{unheld_start}

-- a statement that holds no other and calls nothing
abbrev pub unheld_action : CsStmtTree → State → Bool
unheld_action (Set d e) s = unheld e s
unheld_action (Load d ty e) s = unheld e s
unheld_action (Store ty e f) s = unheld_store ty e f s
unheld_action (CopyBytes n to from) s = unheld_copy to from s
unheld_action (Checked c) s = unheld_check c s
unheld_action (Assume e) s = unheld e s
unheld_action (Return (Some e)) s = unheld e s
unheld_action a s = false

-- a program has each of the objects
abbrev pub are_there : CsProgramTree → List ℕ → Bool
are_there q [] = true
are_there q (x ∷ xs) = nat_lt x (length q.objects) && are_there q xs

-- what is met at one unit of fuel less: in a statement, and in items behind a mark
pub record Less : Type 0 where
  pub statement : How → CsStmtTree → State → Bool
  pub items : Mark → CsStmtTrees → State → Bool

-- what is met behind a normal outcome
abbrev pub behind_normal : Outcome → (State → Bool) → Bool
behind_normal (Normal s) next = next s
behind_normal o next = false

-- what is met behind a goto to a label of these items
abbrev pub behind_goto : Less → CsStmtTrees → Outcome → Bool
behind_goto less all (Leaves (ByGoto label) s) = if has (AtLabel label) all then less.items (AtLabel label) all s else false
behind_goto less all o = false

-- a scope that is entered has objects of the program
abbrev pub met_within : CsProgramTree → List ℕ → State → (State → Bool) → Bool
met_within q xs s next = if are_free xs s then (if are_there q xs then next (enter q.objects xs s) else true) else false

abbrev pub met_in_call : Less → CsCallTree → CsFunctionTree → State → Bool
met_in_call less c f s = unheld_pass c.args f.params s || option_map_or (λ t. less.statement Anew f.body t) (pass c.args f.params s) false

-- what is met in a statement
abbrev mutual
  pub meets : (ℕ → Bool) → CsProgramTree → Later → Less → How → CsStmtTree → State → Bool
  meets over q later less how (Sequence a b) s =
      meets over q later less Anew a s || behind_normal (level over q later Anew a s) (λ t. meets over q later less Anew b t)
  meets over q later less how (If e a b) s =
      unheld e s
      || option_map_or (λ v. if truth v then meets over q later less Anew a s else meets over q later less Anew b s) (value_of e s) false
  meets over q later less how (Loop at a) s =
      if over (turns_of how) then false else
      (meets over q later less Anew a s
      || behind_normal (level over q later Anew a s) (λ t. less.statement (Turn (suc (turns_of how))) (Loop at a) t))
  meets over q later less how (Block a) s = meets over q later less Anew a s
  meets over q later less how (Scope xs all) s =
      met_within q xs s (λ t. met_among over q later less None all t || behind_goto less all (items over q later None all t))
  meets over q later less how (Switch e xs all) s =
      unheld e s
      || option_map_or (λ v. option_map_or (λ mark. met_within q xs s (λ t. met_among over q later less (Some mark) all t
      || behind_goto less all (items over q later (Some mark) all t))) (chosen v all) false) (value_of e s) false
  meets over q later less how (Call c) s = option_map_or (λ f. met_in_call less c f s) (slice_get q.functions c.function) false
  meets over q later less how a s = unheld_action a s

  -- and in items in their order, from behind a mark on where there is one
  pub met_among : (ℕ → Bool) → CsProgramTree → Later → Less → Option Mark → CsStmtTrees → State → Bool
  met_among over q later less from none s = false
  met_among over q later less None (more item rest) s =
      meets over q later less Anew item s || behind_normal (level over q later Anew item s) (λ t. met_among over q later less None rest t)
  met_among over q later less (Some mark) (more item rest) s = met_among over q later less (if is_mark mark item then None else Some mark) rest s

-- items that catch gotos to their labels
abbrev pub met_catching : (ℕ → Bool) → CsProgramTree → Later → Less → Option Mark → CsStmtTrees → State → Bool
met_catching over q later less from all s = met_among over q later less from all s || behind_goto less all (items over q later from all s)

abbrev pub nothing_less : Less
nothing_less = record { statement = λ how a s. false; items = λ mark all s. false }

abbrev pub less_by : (ℕ → Bool) → CsProgramTree → ℕ → Less
less_by over q zero = nothing_less
less_by over q (suc n) = record {
  statement = meets over q (later_by over q n) (less_by over q n);
  items = λ mark all s. met_catching over q (later_by over q n) (less_by over q n) (Some mark) all s;
}

-- a run of a statement with so much fuel comes to what the code does not hold
abbrev pub comes_past : (ℕ → Bool) → CsProgramTree → ℕ → CsStmtTree → State → Bool
comes_past over q fuel a s = meets over q (later_by over q fuel) (less_by over q fuel) Anew a s

-- a run of main does so, or its first state
abbrev pub run_comes_past : (ℕ → Bool) → CsProgramTree → ℕ → List ℤ → Bool
run_comes_past over q fuel inputs =
    unheld_start q || option_map_or (λ f. comes_past over q fuel f.body (first q inputs)) (slice_get q.functions q.main) false

-- ---- stages, by the fuel that is left

abbrev pub met_row : (ℕ → Bool) → CsProgramTree → ℕ → Option Mark → CsStmtTrees → State → Bool
met_row over q fuel from all s = met_among over q (later_by over q fuel) (less_by over q fuel) from all s

abbrev pub met_by_gotos : (ℕ → Bool) → CsProgramTree → ℕ → Option Mark → CsStmtTrees → State → Bool
met_by_gotos over q fuel from all s = met_catching over q (later_by over q fuel) (less_by over q fuel) from all s

abbrev pub met_in_scope : (ℕ → Bool) → CsProgramTree → ℕ → List ℕ → Option Mark → CsStmtTrees → State → Bool
met_in_scope over q fuel xs from all s = met_within q xs s (λ t. met_by_gotos over q fuel from all t)
