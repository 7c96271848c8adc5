-- A call, from its function and its arguments.
use Rattle.std.proofs.Common.{true, false, ◌≡◌, ℕ, suc, ◌<◌, Bool, List, length, get_or, map, sym, subst, ap, ◌∙◌, Option, Some, None}
use Rattle.std.specs.Prelude.{◌||◌, Result, Ok, Err, IsErrAnd, option_map, slice_get}
use Rattle.std.specs.Option.{option_map_or}
use Rattle.std.proofs.lemmas.Option.{slice_get-get_or, slice_get-map}
use Rattle.csharp.specs.declared.program.CsFunction.{CsFunction}
use Rattle.csharp.specs.Trees.{Call, CsCallTree, CsFunctionTree, CsProgramTree, csfunction_tree}
use Rattle.csharp.specs.States.{State}
use Rattle.csharp.specs.Actions.{pass}
use Rattle.csharp.specs.Outcomes.{Outcome, Stuck, at_call, or_stuck}
use Rattle.csharp.specs.Meaning.{Anew, Later, bounded_exec, call, later_by}
use Rattle.csharp_state.specs.declared.error.Unanswered.{Unanswered}
use Rattle.csharp_state.specs.declared.error.Unanswered.TheVariants as reasons
use Rattle.csharp_state.specs.Answers.{GivesUp}
use Rattle.csharp_state.specs.Unheld.{unheld_pass}
use Rattle.csharp_exec.specs.Meets.{comes_past, less_by, met_in_call}

pub function_there : (xs ys : List CsFunction) (i : ℕ) (f : CsFunction) → xs ≡ ys → i < length xs → f ≡ get_or xs i f
    → slice_get (map csfunction_tree ys) i ≡ Some (csfunction_tree f)
function_there xs ys i f e h at =
    subst (λ zs. slice_get (map csfunction_tree zs) i ≡ Some (csfunction_tree f)) e
    (slice_get-map csfunction_tree xs i ∙ ap (option_map csfunction_tree) (slice_get-get_or xs i f h ∙ ap Some (sym at)))

pub called_ends : (over : ℕ → Bool) (q : CsProgramTree) (fuel n : ℕ) (c : CsCallTree) (f : CsFunctionTree) (s t : State) (o : Outcome) → fuel ≡ suc n
    → slice_get q.functions c.function ≡ Some f → pass c.args f.params s ≡ Some t → o ≡ bounded_exec over q n f.body t
    → or_stuck (slice_get q.functions c.function) (λ g. call (later_by over q fuel) c g s) ≡ at_call c o
called_ends over q fuel n c f s t o less e p is =
    ap (λ (x : Option CsFunctionTree). or_stuck x (λ g. call (later_by over q fuel) c g s)) e
    ∙ ap (λ (x : Option State). or_stuck x (λ u. at_call c ((later_by over q fuel).statement Anew f.body u))) p
    ∙ ap (λ k. at_call c ((later_by over q k).statement Anew f.body t)) less ∙ ap (at_call c) (sym is)

pub call_stuck : (later : Later) (q : CsProgramTree) (c : CsCallTree) (f : CsFunctionTree) (s : State) → slice_get q.functions c.function ≡ Some f
    → pass c.args f.params s ≡ None → Stuck ≡ or_stuck (slice_get q.functions c.function) (λ g. call later c g s)
call_stuck later q c f s e p =
    sym (ap (λ (x : Option CsFunctionTree). or_stuck x (λ g. call later c g s)) e
    ∙ ap (λ (x : Option State). or_stuck x (λ u. at_call c (later.statement Anew f.body u))) p)

-- ---- what is met in a call

module _ (over : ℕ → Bool) (q : CsProgramTree) (fuel : ℕ) (c : CsCallTree) (f : CsFunctionTree) (s : State) (e : slice_get q.functions c.function ≡ Some f)
    (held : unheld_pass c.args f.params s ≡ false) where
  of_call : comes_past over q fuel (Call c) s ≡ option_map_or (λ t. (less_by over q fuel).statement Anew f.body t) (pass c.args f.params s) false
  of_call =
      ap (λ (x : Option CsFunctionTree). option_map_or (λ g. met_in_call (less_by over q fuel) c g s) x false) e
      ∙ ap (λ b. b || option_map_or (λ t. (less_by over q fuel).statement Anew f.body t) (pass c.args f.params s) false) held

  pub called_past : (n : ℕ) (t : State) → fuel ≡ suc n → pass c.args f.params s ≡ Some t → comes_past over q fuel (Call c) s ≡ comes_past over q n f.body t
  called_past n t more p =
      of_call ∙ ap (λ (x : Option State). option_map_or (λ u. (less_by over q fuel).statement Anew f.body u) x false) p
      ∙ ap (λ k. (less_by over q k).statement Anew f.body t) more

  pub barred_past : pass c.args f.params s ≡ None → comes_past over q fuel (Call c) s ≡ false
  barred_past p = of_call ∙ ap (λ (x : Option State). option_map_or (λ u. (less_by over q fuel).statement Anew f.body u) x false) p

-- where a part gives up, the whole does, with the same reason
pub along : (A B : Type 0) (e : Unanswered) (r : Result B Unanswered) (part whole : Bool) → (part ≡ true → whole ≡ true) → IsErrAnd r (λ f. f ≡ e)
    → GivesUp {A = A} (Err e) part → GivesUp r whole
along A B e (Ok b) part whole f is h = absurd is
along A B reasons.NoMemory (Err reasons.NoMemory) part whole f is h = tt
along A B reasons.NoMemory (Err reasons.Unheld) part whole f is h = absurd (cc)
along A B reasons.Unheld (Err reasons.NoMemory) part whole f is h = tt
along A B reasons.Unheld (Err reasons.Unheld) part whole f is h = f h
