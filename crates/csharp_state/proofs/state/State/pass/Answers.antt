use Rattle.std.proofs.Common.{◌≡◌, map, length, List, Some, None, refl, ◌∙◌, sym, ap, arith}
use Rattle.std.specs.Prelude.{option_map}
use Rattle.std.proofs.lemmas.List.{length-map}
use Rattle.block_mem.specs.declared.types.Value.{Value}
use Rattle.csharp.specs.Trees.{csexpr_tree}
use Rattle.csharp_state.specs.Passing.{put_all, values_of}
use Rattle.csharp_state.proofs.Arguments.{passed, unlike, as_many, put_memory}
use Rattle.csharp_state.proofs.state.State.pass.Goals as goal

pub returns-then-args-params-clause-took : goal.returns-then-args-params-clause-took
returns-then-args-params-clause-took c =
    let few = length-map c.args.args.now csexpr_tree in
    (unlike c.args.self.now (map csexpr_tree c.args.args.now) c.args.params.now (λ e. c.if-args-params.true (sym few ∙ e)) c.args.self.now, refl)

pub put_all-requires : goal.put_all-requires
put_all-requires c =
    let es = map csexpr_tree c.args.args.now in
    let vs : Some c.in-Some.values.items ≡ values_of es c.args.self.now = rw c.in-Some.is at c.in_ok-values.ensures.are in
    let many = as_many es c.args.self.now c.in-Some.values.items (sym vs) in
    let same = ap length c.as_slice.ensures.value in
    omega (arith, many, same, length-map c.args.args.now csexpr_tree, c.if-args-params.false)

pub returns-in-Some-clause-took : goal.returns-in-Some-clause-took
returns-in-Some-clause-took c =
    let es = map csexpr_tree c.args.args.now in
    let ds = c.args.params.now in
    let s = c.args.self.now in
    let vs : Some c.in-Some.values.items ≡ values_of es s = rw c.in-Some.is at c.in_ok-values.ensures.are in
    let many : length es ≡ length ds = omega (arith, length-map c.args.args.now csexpr_tree, c.if-args-params.false) in
    passed s es ds many s ∙ ap (option_map (λ (us : List Value). put_all ds us s)) (sym vs)
    ∙ ap Some (ap (λ (us : List Value). put_all ds us s) (sym c.as_slice.ensures.value) ∙ sym c.put_all.ensures)

pub returns-in-Some-clause-memory : goal.returns-in-Some-clause-memory
returns-in-Some-clause-memory c = ap (λ s. s.memory) c.put_all.ensures ∙ put_memory c.args.params.now c.as_slice.result.now c.args.self.now

pub returns-in-None-clause-took : goal.returns-in-None-clause-took
returns-in-None-clause-took c =
    let es = map csexpr_tree c.args.args.now in
    let ds = c.args.params.now in
    let s = c.args.self.now in
    let vs : None ≡ values_of es s = rw c.in-None.is at c.in_ok-values.ensures.are in
    let many : length es ≡ length ds = omega (arith, length-map c.args.args.now csexpr_tree, c.if-args-params.false) in
    (passed s es ds many s ∙ ap (option_map (λ (us : List Value). put_all ds us s)) (sym vs), refl)
