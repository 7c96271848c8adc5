use Rattle.std.proofs.Common.{◌≡◌, ◌<◌, ◌+◌, length, get_or, sym, subst, ap, ◌∙◌, arith}
use Rattle.std.specs.List.{sum_by}
use Rattle.std.proofs.lemmas.List.{get_or_read, length-map}
use Rattle.std.proofs.lemmas.List.Elements.{All-get_or}
use Rattle.c_layout.specs.Calls.{PlacedCall}
use Rattle.c_syntax.specs.Program.{tprogram_tree}
use Rattle.c_rules_calls.specs.Graph.{calls_from, calls_in, IsDefined, IsOrderOf}
use Rattle.c_rules_calls.specs.Inlined.{ended, function_size, sizes_of}
use Rattle.c_rules_calls.specs.declared.call.Call.{Call}
use Rattle.c_rules_calls.proofs.Steps.{defined_inside}
use Rattle.c_rules_calls.proofs.Deep.{calls_inside}
use Rattle.c_rules_calls.proofs.Inlining.{all_inlined, inlined_more, none_inlined, sum_placed}
use Rattle.c_rules_calls.proofs.size.inlined_size.Goals as goal

pub loop-function-init : goal.loop-function-init
loop-function-init c =
    none_inlined c.args.graph.now (sizes_of (tprogram_tree c.args.program.now)) c.as_slice-function-items.result.now c.in_ok-sizes.sizes.items c.in_ok-sizes.ensures

pub index-requires : goal.index-requires
index-requires c =
    let graph = c.args.graph.now in
    let own = sizes_of (tprogram_tree c.args.program.now) in
    let order = c.as_slice-function-items.result.now in
    let sizes = c.loop-function.sizes.items in
    let i = c.loop-function.function-index in
    let s = c.loop-function.invariant in
    let count : length sizes ≡ length graph = s.size ∙ length-map (tprogram_tree c.args.program.now).functions function_size
    ∙ sym (ap length c.requires.calls ∙ length-map (tprogram_tree c.args.program.now).functions calls_in) in
    let o : IsOrderOf graph order = subst (IsOrderOf graph) (sym c.as_slice-function-items.ensures) c.requires.order in
    let inside = defined_inside graph (get_or order i 0) (All-get_or (IsDefined graph) order i 0 c.loop-function-test.true o.defined) in
    omega (arith, inside, count, c.loop-function.sizes.ok)

pub index_mut-requires : goal.index_mut-requires
index_mut-requires c =
    let graph = c.args.graph.now in
    let own = sizes_of (tprogram_tree c.args.program.now) in
    let order = c.as_slice-function-items.result.now in
    let sizes = c.loop-function.sizes.items in
    let i = c.loop-function.function-index in
    let s = c.loop-function.invariant in
    let count : length sizes ≡ length graph = s.size ∙ length-map (tprogram_tree c.args.program.now).functions function_size
    ∙ sym (ap length c.requires.calls ∙ length-map (tprogram_tree c.args.program.now).functions calls_in) in
    let o : IsOrderOf graph order = subst (IsOrderOf graph) (sym c.as_slice-function-items.ensures) c.requires.order in
    let inside = defined_inside graph (get_or order i 0) (All-get_or (IsDefined graph) order i 0 c.loop-function-test.true o.defined) in
    omega (arith, inside, count, c.loop-function.sizes.ok)

pub with_calls-requires : goal.with_calls-requires
with_calls-requires c =
    let graph = c.args.graph.now in
    let own = sizes_of (tprogram_tree c.args.program.now) in
    let order = c.as_slice-function-items.result.now in
    let sizes = c.loop-function.sizes.items in
    let i = c.loop-function.function-index in
    let s = c.loop-function.invariant in
    let count : length sizes ≡ length graph = s.size ∙ length-map (tprogram_tree c.args.program.now).functions function_size
    ∙ sym (ap length c.requires.calls ∙ length-map (tprogram_tree c.args.program.now).functions calls_in) in
    let o : IsOrderOf graph order = subst (IsOrderOf graph) (sym c.as_slice-function-items.ensures) c.requires.order in
    record {
      inside = λ k d less.
          let inside = calls_inside graph (get_or order i 0) c.calls.result.now c.requires.known c.calls.ensures k d less in
          omega (arith, inside, count, c.deref.ensures.len, ap length c.deref.ensures.value);
    }

pub loop-function-preserved : goal.loop-function-preserved
loop-function-preserved c =
    let graph = c.args.graph.now in
    let own = sizes_of (tprogram_tree c.args.program.now) in
    let order = c.as_slice-function-items.result.now in
    let sizes = c.loop-function.sizes.items in
    let i = c.loop-function.function-index in
    let s = c.loop-function.invariant in
    let count : length sizes ≡ length graph = s.size ∙ length-map (tprogram_tree c.args.program.now).functions function_size
    ∙ sym (ap length c.requires.calls ∙ length-map (tprogram_tree c.args.program.now).functions calls_in) in
    let o : IsOrderOf graph order = subst (IsOrderOf graph) (sym c.as_slice-function-items.ensures) c.requires.order in
    let inside = defined_inside graph (get_or order i 0) (All-get_or (IsDefined graph) order i 0 c.loop-function-test.true o.defined) in
    let within : get_or order i 0 < length sizes = omega (arith, inside, count) in
    let read = get_or_read sizes (get_or order i 0) c.index.result.now within c.index.ensures 0 in
    let all : c.with_calls.result ≡ ended (get_or sizes (get_or order i 0) 0 + sum_by (λ (call : PlacedCall). get_or sizes call.callee 0) (calls_from graph (get_or order i 0))) =
    c.with_calls.ensures ∙ ap (λ n. ended (n + sum_by (λ (call : Call). get_or c.deref.result.now call.callee 0) c.calls.result.now)) read
    ∙ ap (λ xs. ended (get_or sizes (get_or order i 0) 0 + sum_by (λ (call : Call). get_or xs call.callee 0) c.calls.result.now)) c.deref.ensures.value
    ∙ ap (λ n. ended (get_or sizes (get_or order i 0) 0 + n)) (sum_placed sizes c.calls.result.now)
    ∙ ap (λ calls. ended (get_or sizes (get_or order i 0) 0 + sum_by (λ (call : PlacedCall). get_or sizes call.callee 0) calls)) c.calls.ensures in
    inlined_more graph own order sizes o i c.loop-function-test.true s c.with_calls.result within all

pub index-requires-2 : goal.index-requires-2
index-requires-2 c =
    let graph = c.args.graph.now in
    let own = sizes_of (tprogram_tree c.args.program.now) in
    let order = c.as_slice-function-items.result.now in
    let sizes = c.loop-function.sizes.items in
    let i = c.loop-function.function-index in
    let s = c.loop-function.invariant in
    let count : length sizes ≡ length graph = s.size ∙ length-map (tprogram_tree c.args.program.now).functions function_size
    ∙ sym (ap length c.requires.calls ∙ length-map (tprogram_tree c.args.program.now).functions calls_in) in
    let o : IsOrderOf graph order = subst (IsOrderOf graph) (sym c.as_slice-function-items.ensures) c.requires.order in
    let inside = defined_inside graph c.args.main c.requires.main in
    omega (arith, inside, count, c.loop-function.sizes.ok)

pub returns : goal.returns
returns c =
    let graph = c.args.graph.now in
    let own = sizes_of (tprogram_tree c.args.program.now) in
    let order = c.as_slice-function-items.result.now in
    let sizes = c.loop-function.sizes.items in
    let i = c.loop-function.function-index in
    let s = c.loop-function.invariant in
    let count : length sizes ≡ length graph = s.size ∙ length-map (tprogram_tree c.args.program.now).functions function_size
    ∙ sym (ap length c.requires.calls ∙ length-map (tprogram_tree c.args.program.now).functions calls_in) in
    let o : IsOrderOf graph order = subst (IsOrderOf graph) (sym c.as_slice-function-items.ensures) c.requires.order in
    let inside = defined_inside graph c.args.main c.requires.main in
    let within : c.args.main < length sizes = omega (arith, inside, count) in
    let read = get_or_read sizes c.args.main c.index-2.result.now within c.index-2.ensures 0 in
    let all = all_inlined graph own order sizes o i (omega (arith, c.loop-function-test.false)) s in record {
      inlined = s.inlined;
      grow = all.0;
      is = read ∙ all.1 c.args.main c.requires.main;
    }
