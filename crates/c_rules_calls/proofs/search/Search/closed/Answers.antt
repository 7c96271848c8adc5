use Rattle.std.proofs.Common.{◌≡◌, ◌-◌, ◌++◌, ◌∷◌, [], length, map, take, drop, sym, subst, ap, ◌∙◌, arith, length-drop}
use Rattle.std.proofs.lemmas.List.{take_all, drop-map}
use Rattle.c_rules_calls.specs.Graph.{IsClosedList}
use Rattle.c_rules_calls.specs.Placed.{placed}
use Rattle.c_rules_calls.proofs.Closed.{closes}
use Rattle.c_rules_calls.proofs.search.Search.closed.Goals as goal

pub returns : goal.returns
returns c =
    let made = c.as_slice-made.result.now in
    let first = c.first_at.result in
    let rest = drop first made in
    let whole : take (length made - first) rest ≡ rest = take_all (length made - first) rest (omega (arith, length-drop first made)) in
    let all : take c.loop-step.step-index (take (length made - first) rest) ≡ take (length made - first) rest =
    take_all c.loop-step.step-index (take (length made - first) rest) (omega (arith, c.loop-step-test.false)) in
    let is : c.loop-step.calls ≡ drop first c.args.self.now.made =
    c.loop-step.invariant ∙ ap (map placed) (all ∙ whole) ∙ sym (drop-map placed first made) ∙ ap (drop first) c.as_slice-made.ensures in
    subst (IsClosedList c.args.graph.now) (sym (c.in_ok-push-2.ensures ∙ ap (λ front. front ++ placed c.args.call ∷ []) is))
    (closes c.args.graph.now c.args.self.now.progress.items c.args.self.now.root c.args.self.now.made (placed c.args.call) first
    c.requires.going c.requires.apart c.first_at.ensures.meets)
