-- What calls of functions do, each after those that it calls.
use Rattle.std.proofs.Common.{◌≡◌, ◌≢◌, true, false, ◌⊎◌, inl, inr, ℕ, ◌<◌, List, [], ◌∷◌, ◌++◌, length, get_or, set, take, Some, None, refl, sym, subst, ap, ◌∙◌, arith}
use Rattle.std.specs.Prelude.{◌↔◌, Err, IfOk, Ok, Option, Result, option_and_then, option_map, unwrap_or, All, Contains, IfSome, IsSome, IsSomeAnd, slice_get}
use Rattle.std.proofs.Common.{get_or-set_other, get_or-set_same}
use Rattle.std.proofs.Math.ListN.{length-set}
use Rattle.std.proofs.lemmas.Bool.{cases_eq, cases_lt}
use Rattle.std.proofs.lemmas.List.{get_or_past}
use Rattle.std.proofs.lemmas.List.Elements.{All-contains, Contains-append_left, Contains-push, Contains-push_cases}
use Rattle.std.proofs.lemmas.Option.{slice_get-map, slice_get_within, unwrap_or-slice_get}
use Rattle.c_syntax.specs.TypedStmt.{TStmtTree}
use Rattle.c_syntax.specs.Program.{TFunctionTree, TProgramTree}
use Rattle.c_layout.specs.Calls.{PlacedCall, IsChain, chain_end, function_calls, stmt_calls}
use Rattle.c_rules_calls.specs.Graph.{calls_from, calls_in, graph_of, IsDefined, IsOrderOf}
use Rattle.c_rules_calls.proofs.Orders.{contains_counted}
use Rattle.c_rules_effects.specs.declared.touch.Touch.{Touch}
use Rattle.c_rules_effects.specs.declared.touch.Touch.TheVariants.{Mem, Object}
use Rattle.c_rules_effects.specs.declared.effects.Effects.{Effects}
use Rattle.c_rules_effects.specs.Effects.{called, effects_in}
use Rattle.c_rules_effects.specs.Joined.{nothing}
use Rattle.c_rules_order.specs.Closed.{AreClosed, body_effects, IsCalledRead, IsCalledWrite, IsEffectsOf, IsSeen}
use Rattle.c_rules_order.specs.Gathered.{HasCalledReads, HasCalledWrites, IsSeenObject}

-- what is seen by the objects of a program
seen : (program : TProgramTree) (t : Touch) → IsSeenObject program.objects t → IsSeen program t
seen program Mem h = h
seen program (Object n path) h = h

seen_object : (program : TProgramTree) (t : Touch) → IsSeen program t → IsSeenObject program.objects t
seen_object program Mem h = h
seen_object program (Object n path) h = h

-- ---- one function

module _ (program : TProgramTree) (f : ℕ) (known : List Effects) (calls : List PlacedCall) (same : calls ≡ function_calls program f)
    (callees : All (λ call. IsEffectsOf program call.callee (called known call.callee)) calls) where
  abbrev callee_is : (call : PlacedCall) → Contains calls call → IsEffectsOf program call.callee (called known call.callee)
  callee_is call c = subst (λ (x : PlacedCall). IsEffectsOf program x.callee (called known x.callee)) c.2 (callees c.0 call c.1)

  read_from : (t : Touch) (chain : List PlacedCall) → IsChain program f chain → Contains (body_effects program (chain_end f chain)).reads t → IsSeen program t
      → (Contains (body_effects program f).reads t × IsSeenObject program.objects t) ⊎ HasCalledReads known calls t
  read_from t [] w made s = inl (made, seen_object program t s)
  read_from t (call ∷ rest) w made s =
      let there : Contains calls call = subst (λ xs. Contains xs call) (sym same) w.0 in
      inr (call, there, ((callee_is call there).reads t).1 (record { chain = rest; calls = w.1; made = made; seen = s }))

  read_by : (t : Touch) → (Contains (body_effects program f).reads t × IsSeenObject program.objects t) ⊎ HasCalledReads known calls t → IsCalledRead program f t
  read_by t (inl own) = record { chain = []; calls = tt; made = own.0; seen = seen program t own.1 }
  read_by t (inr h) =
      let r : IsCalledRead program h.0.callee t = ((callee_is h.0 h.1).reads t).0 h.2 in
      record { chain = h.0 ∷ r.chain; calls = (subst (λ xs. Contains xs h.0) same h.1, r.calls); made = r.made; seen = r.seen }

  write_from : (t : Touch) (chain : List PlacedCall) → IsChain program f chain → Contains (body_effects program (chain_end f chain)).writes t → IsSeen program t
      → (Contains (body_effects program f).writes t × IsSeenObject program.objects t) ⊎ HasCalledWrites known calls t
  write_from t [] w made s = inl (made, seen_object program t s)
  write_from t (call ∷ rest) w made s =
      let there : Contains calls call = subst (λ xs. Contains xs call) (sym same) w.0 in
      inr (call, there, ((callee_is call there).writes t).1 (record { chain = rest; calls = w.1; made = made; seen = s }))

  write_by : (t : Touch) → (Contains (body_effects program f).writes t × IsSeenObject program.objects t) ⊎ HasCalledWrites known calls t
      → IsCalledWrite program f t
  write_by t (inl own) = record { chain = []; calls = tt; made = own.0; seen = seen program t own.1 }
  write_by t (inr h) =
      let r : IsCalledWrite program h.0.callee t = ((callee_is h.0 h.1).writes t).0 h.2 in
      record { chain = h.0 ∷ r.chain; calls = (subst (λ xs. Contains xs h.0) same h.1, r.calls); made = r.made; seen = r.seen }

  closed_one : (own result : Effects) → own ≡ body_effects program f
      → ((t : Touch) → Contains result.reads t ↔ ((Contains own.reads t × IsSeenObject program.objects t) ⊎ HasCalledReads known calls t))
      → ((t : Touch) → Contains result.writes t ↔ ((Contains own.writes t × IsSeenObject program.objects t) ⊎ HasCalledWrites known calls t))
      → IsEffectsOf program f result
  closed_one own result is reads writes = record {
    reads = λ t. (
      λ c. read_by t (subst (λ (e : Effects). (Contains e.reads t × IsSeenObject program.objects t) ⊎ HasCalledReads known calls t) is ((reads t).0 c)),
      λ r. (reads t).1 (subst (λ (e : Effects). (Contains e.reads t × IsSeenObject program.objects t) ⊎ HasCalledReads known calls t) (sym is)
          (read_from t r.chain r.calls r.made r.seen)),
    );
    writes = λ t. (
      λ c. write_by t (subst (λ (e : Effects). (Contains e.writes t × IsSeenObject program.objects t) ⊎ HasCalledWrites known calls t) is ((writes t).0 c)),
      λ r. (writes t).1 (subst (λ (e : Effects). (Contains e.writes t × IsSeenObject program.objects t) ⊎ HasCalledWrites known calls t) (sym is)
          (write_from t r.chain r.calls r.made r.seen)),
    );
  }

  pub closed_told : {E : Type 0} (own : Effects) (r : Result Effects E) → own ≡ body_effects program f
      → IfOk r (λ all. (t : Touch) → Contains all.reads t ↔ ((Contains own.reads t × IsSeenObject program.objects t) ⊎ HasCalledReads known calls t))
      → IfOk r (λ all. (t : Touch) → Contains all.writes t ↔ ((Contains own.writes t × IsSeenObject program.objects t) ⊎ HasCalledWrites known calls t))
      → IfOk r (IsEffectsOf program f)
  closed_told own (Ok all) is reads writes = closed_one own all is reads writes
  closed_told own (Err e) is reads writes = tt

-- ---- functions without a body

none_in : {A : Type 0} (x : A) → Contains [] x → ⊥
none_in x c = omega (arith, c.1)

module _ (program : TProgramTree) (f : ℕ) (no_calls : function_calls program f ≡ []) (no_effects : body_effects program f ≡ nothing) where
  no_read : (t : Touch) (chain : List PlacedCall) → IsChain program f chain → Contains (body_effects program (chain_end f chain)).reads t → Contains [] t
  no_read t [] w made = subst (λ (e : Effects). Contains e.reads t) no_effects made
  no_read t (call ∷ rest) w made = absurd (none_in call (subst (λ xs. Contains xs call) no_calls w.0))

  no_write : (t : Touch) (chain : List PlacedCall) → IsChain program f chain → Contains (body_effects program (chain_end f chain)).writes t → Contains [] t
  no_write t [] w made = subst (λ (e : Effects). Contains e.writes t) no_effects made
  no_write t (call ∷ rest) w made = absurd (none_in call (subst (λ xs. Contains xs call) no_calls w.0))

  nothing_done : IsEffectsOf program f nothing
  nothing_done = record {
    reads = λ t. (λ c. absurd (none_in t c), λ r. no_read t r.chain r.calls r.made);
    writes = λ t. (λ c. absurd (none_in t c), λ r. no_write t r.chain r.calls r.made);
  }

-- ---- what is known, function by function

called_at : (known : List Effects) (f : ℕ) → called known f ≡ get_or known f nothing
called_at known f = unwrap_or-slice_get known f nothing

-- what is known after the functions of the front, where nothing is known of others
pub record IsKnownAfter (program : TProgramTree) (count : ℕ) (front : List ℕ) (known : List Effects) : Type 0 where
  pub size : length known ≡ count
  pub done : (f : ℕ) → Contains front f → IsEffectsOf program f (called known f)
  pub rest : (f : ℕ) → (Contains front f → ⊥) → called known f ≡ nothing

pub known_start : (program : TProgramTree) (count : ℕ) (known : List Effects) → length known ≡ count → All (λ effects. effects ≡ nothing) known
    → IsKnownAfter program count [] known
known_start program count known size all = record {
  size = size;
  done = λ f c. absurd (none_in f c);
  rest = λ f n. called_at known f ∙ elim (cases_lt f (length known)) [ inl less ↦ all f nothing less | inr past ↦ get_or_past known f nothing past ];
}

pub known_more : (program : TProgramTree) (count : ℕ) (front : List ℕ) (known : List Effects) (g : ℕ) (effects : Effects) → g < count
    → IsKnownAfter program count front known → IsEffectsOf program g effects → IsKnownAfter program count (front ++ g ∷ []) (set known g effects)
known_more program count front known g effects inside k now = record {
  size = length-set known g effects ∙ k.size;
  done = λ f c. elim (cases_eq f g) [
    | inl e ↦ subst (λ x. IsEffectsOf program x (called (set known g effects) x)) (sym e) (subst (IsEffectsOf program g) (sym here) now)
    | inr n ↦ elim (Contains-push_cases front g f c) [
      | inl old ↦ subst (IsEffectsOf program f) (sym (elsewhere f n)) (k.done f old)
      | inr same ↦ absurd (n (sym same))
    ]
  ];
  rest = λ f n. elsewhere f (λ e. n (subst (Contains (front ++ g ∷ [])) (sym e) (Contains-push front g)))
      ∙ k.rest f (λ c. n (Contains-append_left front (g ∷ []) f c));
} where
  here : called (set known g effects) g ≡ effects
  here = called_at (set known g effects) g ∙ get_or-set_same known g effects nothing (subst (λ n. g < n) (sym k.size) inside)

  elsewhere : (f : ℕ) → f ≢ g → called (set known g effects) f ≡ called known f
  elsewhere f n = called_at (set known g effects) f ∙ get_or-set_other known g f effects nothing n ∙ sym (called_at known f)

-- ---- all functions

not_some : false ≡ true → ⊥
not_some e = cc

module _ (program : TProgramTree) (order : List ℕ) (is : IsOrderOf (graph_of program) order) (count : ℕ) (known : List Effects)
    (k : IsKnownAfter program count order known) where
  not_ordered : (f : ℕ) → (IsDefined (graph_of program) f → ⊥) → Contains order f → ⊥
  not_ordered f n c = n (All-contains (IsDefined (graph_of program)) order f is.defined c)

  entry_is : (f : ℕ) (entry : Option TFunctionTree) → slice_get program.functions f ≡ entry → slice_get (graph_of program) f ≡ option_map calls_in entry
  entry_is f entry e = slice_get-map calls_in program.functions f ∙ ap (option_map calls_in) e

  by_body : (f : ℕ) (function : TFunctionTree) (body : Option TStmtTree) → slice_get program.functions f ≡ Some function → function.body ≡ body
      → IsEffectsOf program f (called known f)
  by_body f function None e b =
      let none : IsDefined (graph_of program) f → ⊥ = λ d. not_some (subst (λ (x : Option (Option (List PlacedCall))). IsSomeAnd x IsSome)
      (entry_is f (Some function) e ∙ ap (λ (body : Option TStmtTree). Some (option_map stmt_calls body)) b) d) in
      subst (IsEffectsOf program f) (sym (k.rest f (not_ordered f none)))
      (nothing_done program f
      (ap (λ (x : Option TFunctionTree). unwrap_or (option_map stmt_calls (option_and_then (λ function. function.body) x)) []) e
      ∙ ap (λ (body : Option TStmtTree). unwrap_or (option_map stmt_calls body) []) b)
      (ap (λ (x : Option TFunctionTree). unwrap_or (option_map (effects_in []) (option_and_then (λ function. function.body) x)) nothing) e
      ∙ ap (λ (body : Option TStmtTree). unwrap_or (option_map (effects_in []) body) nothing) b))
  by_body f function (Some body) e b =
      let defined : IsDefined (graph_of program) f = subst (λ (x : Option (Option (List PlacedCall))). IsSomeAnd x IsSome)
      (sym (entry_is f (Some function) e ∙ ap (λ (body : Option TStmtTree). Some (option_map stmt_calls body)) b)) refl in
      k.done f (contains_counted f order (let once = is.once f defined in omega (arith, once)))

  by_entry : (f : ℕ) (entry : Option TFunctionTree) → slice_get program.functions f ≡ entry → IsEffectsOf program f (called known f)
  by_entry f None e =
      let none : IsDefined (graph_of program) f → ⊥ = λ d. subst (λ (x : Option (Option (List PlacedCall))). IsSomeAnd x IsSome) (entry_is f None e) d in
      subst (IsEffectsOf program f) (sym (k.rest f (not_ordered f none)))
      (nothing_done program f
      (ap (λ (x : Option TFunctionTree). unwrap_or (option_map stmt_calls (option_and_then (λ function. function.body) x)) []) e)
      (ap (λ (x : Option TFunctionTree). unwrap_or (option_map (effects_in []) (option_and_then (λ function. function.body) x)) nothing) e))
  by_entry f (Some function) e = by_body f function function.body e refl

  pub all_known : AreClosed program known
  all_known f = by_entry f (slice_get program.functions f) refl

-- ---- the function that is looked at

pub callees_known : (program : TProgramTree) (order : List ℕ) (i f count : ℕ) (known : List Effects) (calls : List PlacedCall) → IsOrderOf (graph_of program) order
    → slice_get order i ≡ Some f → calls ≡ calls_from (graph_of program) f → IsKnownAfter program count (take i order) known
    → All (λ call. IsEffectsOf program call.callee (called known call.callee)) calls
callees_known program order i f count known calls is at same k n d less =
    let first : All (λ call. Contains (take i order) call.callee) (calls_from (graph_of program) f) = by_entry (slice_get order i) at (is.callees_first i) in
    let there : All (λ call. Contains (take i order) call.callee) calls = subst (All (λ call. Contains (take i order) call.callee)) (sym same) first in
    k.done (get_or calls n d).callee (there n d less) where
      by_entry : (entry : Option ℕ) → entry ≡ Some f → IfSome entry (λ f. All (λ call. Contains (take i order) call.callee) (calls_from (graph_of program) f))
          → All (λ call. Contains (take i order) call.callee) (calls_from (graph_of program) f)
      by_entry None e h = absurd (cc)
      by_entry (Some g) e h = subst (λ x. All (λ call. Contains (take i order) call.callee) (calls_from (graph_of program) x)) (some_same e) h where
        some_same : {a b : ℕ} → Some a ≡ Some b → a ≡ b
        some_same e = cc

pub ordered_there : (program : TProgramTree) (order : List ℕ) (i : ℕ) → IsOrderOf (graph_of program) order → i < length order
    → get_or order i 0 < length (graph_of program)
ordered_there program order i is less = by_entry (slice_get (graph_of program) (get_or order i 0)) refl (is.defined i 0 less) where
  by_entry : (entry : Option (Option (List PlacedCall))) → slice_get (graph_of program) (get_or order i 0) ≡ entry → IsSomeAnd entry IsSome
      → get_or order i 0 < length (graph_of program)
  by_entry None e h = absurd h
  by_entry (Some x) e h = slice_get_within (graph_of program) (get_or order i 0) x e
