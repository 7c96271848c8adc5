-- No action changes the number of temporaries.
use Rattle.std.proofs.Common.{◌≡◌, ℕ, List, [], ◌∷◌, length, length-set, Option, Some, None, refl, ◌∙◌, subst, ℤ}
use Rattle.std.specs.Prelude.{IfSome, option_and_then, option_map}
use Rattle.c_syntax_written.specs.declared.int_type.IntType.{IntType}
use Rattle.block_mem.specs.declared.types.Value.{Value}
use Rattle.c_values.specs.Places.{ObjectMemory}
use Rattle.csharp.specs.Trees.{CsExprTree, CsStmtTree, CsCallTree, CsProgramTree}
use Rattle.csharp.specs.States.{State, value_of}
use Rattle.csharp.specs.Actions.{put, with_memory, input, put_into, given_to, args_from}
use Rattle.csharp.specs.Outcomes.{Outcome, Normal, Leaves, Fails, Waiting, Stopped, Stuck, Clash, NoFuel, Over}
use Rattle.csharp.specs.Formed.{Around, nothing_around}
use Rattle.csharp.specs.Meaning.{bounded_exec}
use Rattle.csharp_laws.specs.LeftAlone.{IsBehind}
use Rattle.csharp_typed_laws.specs.Counts.{CountsStay}
use Rattle.csharp_typed_laws.proofs.Everywhere.{each_always}
use Rattle.csharp_typed_laws.proofs.Keeping.{ActionsKeep, Ends, exec_keeps}

-- so many temporaries
abbrev Has : ℕ → State → Type 0
Has n s = length s.temps ≡ n

abbrev Any : Unit {0} → Around → CsStmtTree → Type 0
Any k around a = Unit {0}

put_count : (n : ℕ) (s : State) (d : ℕ) (o : Option Value) → Has n s → IfSome (option_map (put s d) o) (Has n)
put_count n s d None h = tt
put_count n s d (Some v) h = length-set s.temps d v ∙ h

memory_count : (n : ℕ) (s : State) (o : Option ObjectMemory) → Has n s → IfSome (with_memory s o) (Has n)
memory_count n s None h = tt
memory_count n s (Some m) h = h

input_count : (n d : ℕ) (t : IntType) (s : State) (inputs : List ℤ) → Has n s → IfSome (input d t (record s { inputs = inputs })) (Has n)
input_count n d t s [] h = tt
input_count n d t s (z ∷ rest) h = length-set s.temps d _ ∙ h

into_count : (n : ℕ) (d : Option ℕ) (v : Value) (s : State) → Has n s → Has n (put_into d v s)
into_count n None v s h = h
into_count n (Some d) v s h = length-set s.temps d v ∙ h

given_count : (n : ℕ) (c : CsCallTree) (v : Value) (s : State) → Has n s → Has n (given_to c (Some v) s)
given_count n c v s h = into_count n c.flag _ (put_into c.value v s) (into_count n c.value v s h)

arg_count : (n : ℕ) (o : Option Value) (go : Value → Option State) (t : State) → ((v : Value) → go v ≡ Some t → Has n t) → option_and_then go o ≡ Some t → Has n t
arg_count n None go t h e = absurd (cc)
arg_count n (Some v) go t h e = h v e

args_count : (n : ℕ) (from : State) (es : List CsExprTree) (ds : List ℕ) (s t : State) → Has n s → args_from from es ds s ≡ Some t → Has n t
args_count n from [] [] s t h e = let same : s ≡ t = cc in subst (Has n) same h
args_count n from (x ∷ es) (d ∷ ds) s t h e =
    arg_count n (value_of x from) (λ v. args_from from es ds (put s d v)) t
    (λ v g. args_count n from es ds (put s d v) t (length-set s.temps d v ∙ h) g) e
args_count n from [] (d ∷ ds) s t h e = absurd (cc)
args_count n from (x ∷ es) [] s t h e = absurd (cc)

module _ (q : CsProgramTree) (n : ℕ) where
  counts_kept : ActionsKeep q (Unit {0}) Any (Has n) (λ k s v. Unit {0}) (λ m. Unit {0})
  counts_kept = record {
    set = λ k around d e s own h. put_count n s d _ h;
    load = λ k around d ty e s own h. put_count n s d _ h;
    store = λ k around ty e f s own h. memory_count n s _ h;
    copy = λ k around m to from s own h. memory_count n s _ h;
    undefine = λ k around x s own h. memory_count n s _ h;
    input = λ k around d t s own h. input_count n d t s s.inputs h;
    scope = λ k around xs all s own h free. h;
    switch = λ k around e xs all s own h free. h;
    left = λ xs s h. h;
    left_given = λ k xs s v h. tt;
    returned = λ k around e s v own h is. tt;
    called = λ k around c f s t own h is passed. record {
      kind = tt;
      code = each_always (Any tt) (λ here b. tt) nothing_around f.body;
      passed = args_count n s c.args f.params s t h passed;
      ended = λ u g. into_count n c.flag _ u g;
      given = λ u v g fits. given_count n c v u g;
    };
    failing = λ s h. tt;
  }

  behind : (o : Outcome) (t : State) → Ends q (Unit {0}) Any (Has n) (λ k s v. Unit {0}) (λ m. Unit {0}) tt o → IsBehind o t → Has n t
  behind (Normal u) t h e = subst (Has n) e h
  behind (Leaves way u) t h e = subst (Has n) e h.0
  behind (Fails chain at kind operand m) t h e = absurd e
  behind Waiting t h e = absurd e
  behind Stopped t h e = absurd e
  behind Stuck t h e = absurd e
  behind Clash t h e = absurd e
  behind NoFuel t h e = absurd e
  behind Over t h e = absurd e

pub counts_stay : CountsStay
counts_stay over q fuel a s t e =
    behind q (length s.temps) (bounded_exec over q fuel a s) t
    (exec_keeps q (Unit {0}) Any (Has (length s.temps)) (λ k u v. Unit {0}) (λ m. Unit {0}) (counts_kept q (length s.temps)) over fuel tt nothing_around a s
    (each_always (Any tt) (λ here b. tt) nothing_around a) refl) e
