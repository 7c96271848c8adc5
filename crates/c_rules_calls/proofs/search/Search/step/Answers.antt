use Rattle.std.proofs.Common.{◌≡◌, ◌+◌, ◌<◌, ◌≤◌, length, set, Some, Ok, Err, Result, refl, sym, subst, ap, ◌∙◌}
use Rattle.std.specs.Prelude.{slice_get, IfOk}
use Rattle.std.proofs.lemmas.List.{get_or_read, length-map}
use Rattle.c_layout.specs.Calls.{chain_end}
use Rattle.c_rules_calls.specs.Graph.{calls_from}
use Rattle.c_rules_calls.specs.Placed.{placed}
use Rattle.c_rules_calls.specs.Search.{at, all_left, IsAtCall, IsTurn, KeepsDone}
use Rattle.c_rules_calls.specs.declared.search.Progress.TheVariants.{New, Open}
use Rattle.c_rules_calls.proofs.Steps.{at_next, falls_next, inside, keeps_next, placed_at, steps}
use Rattle.c_rules_calls.proofs.search.Search.step.Goals as goal

if_ok : {A E : Type 0} (P Q : A → Type 0) (r : Result A E) → ((x : A) → P x → Q x) → IfOk r P → IfOk r Q
if_ok P Q (Ok x) f h = f x h
if_ok P Q (Err e) f h = h

pub go_through-requires-clause-at_call : goal.go_through-requires-clause-at_call
go_through-requires-clause-at_call c =
    let s = c.args.self.now in
    let graph = c.args.graph.now in
    let within : c.end-function.result < length s.progress.items =
    subst (λ f. f < length s.progress.items) (sym c.end-function.ensures)
    (inside s.progress.items (chain_end s.root s.made) c.requires.way.next c.requires.way.gone.is_open) in
    let is_open : at s.progress.items (chain_end s.root s.made) ≡ Open c.in-Open.next =
    ap (at s.progress.items) (sym c.end-function.ensures)
    ∙ sym (get_or_read s.progress.items c.end-function.result c.index.result.now within c.index.ensures New) ∙ c.in-Open.is in
    let looked = c.in-Some.ensures.lookup in
    let call : slice_get (calls_from graph (chain_end s.root s.made)) c.in-Open.next ≡ Some (placed c.in-Some.call.now) =
    subst (λ calls. slice_get calls c.in-Open.next ≡ Some (placed c.in-Some.call.now)) (c.calls.ensures ∙ ap (calls_from graph) c.end-function.ensures)
    (placed_at c.calls.result.now c.in-Open.next c.in-Some.call.now looked.3.0 looked.1) in
    subst (λ f. IsAtCall graph (set s.progress.items f (Open (c.in-Open.next + 1))) s.root s.made (placed c.in-Some.call.now)) (sym c.end-function.ensures)
    (at_next graph s.progress.items s.order.items s.root s.made c.requires.way c.requires.ordered c.in-Open.next is_open (placed c.in-Some.call.now) call)

pub returns-in-Some-clause-turn : goal.returns-in-Some-clause-turn
returns-in-Some-clause-turn c =
    let s = c.args.self.now in
    let graph = c.args.graph.now in
    let f = c.end-function.result in
    let end = c.end-function.ensures in
    let q = set s.progress.items f (Open (c.in-Open.next + 1)) in
    let within : f < length s.progress.items =
    subst (λ f. f < length s.progress.items) (sym end)
    (inside s.progress.items (chain_end s.root s.made) c.requires.way.next c.requires.way.gone.is_open) in
    let is_open : at s.progress.items (chain_end s.root s.made) ≡ Open c.in-Open.next =
    ap (at s.progress.items) (sym end) ∙ sym (get_or_read s.progress.items f c.index.result.now within c.index.ensures New) ∙ c.in-Open.is in
    let less : c.in-Open.next < length (calls_from graph (chain_end s.root s.made)) =
    subst (λ calls. c.in-Open.next < length calls) (c.calls.ensures ∙ ap (calls_from graph) end)
    (subst (λ n. c.in-Open.next < n) (sym (length-map c.calls.result.now placed)) c.in-Some.ensures.lookup.3.0) in
    let keeps : KeepsDone s.progress.items q =
    subst (λ f. KeepsDone s.progress.items (set s.progress.items f (Open (c.in-Open.next + 1)))) (sym end)
    (keeps_next graph s.progress.items s.order.items s.root s.made c.requires.way c.requires.ordered c.in-Open.next is_open) in
    let falls : 1 + all_left graph q ≤ all_left graph s.progress.items =
    subst (λ f. 1 + all_left graph (set s.progress.items f (Open (c.in-Open.next + 1))) ≤ all_left graph s.progress.items) (sym end)
    (falls_next graph s.progress.items s.order.items s.root s.made c.requires.way c.requires.ordered c.in-Open.next is_open less) in
    if_ok (IsTurn graph 0 _ c.go_through.new.self) (IsTurn graph 1 s c.go_through.new.self) c.go_through.result
    (λ turn h. steps graph s _ c.go_through.new.self turn refl keeps falls h) c.go_through.ensures.turn
