use Rattle.std.proofs.Common.{◌<◌, ◌≤◌, length, get_or, sym, subst, arith}
use Rattle.std.proofs.lemmas.List.{get_or_read}
use Rattle.c_rules_calls.proofs.Steps.{defined_inside}
use Rattle.c_rules_calls.proofs.Deep.{short}
use Rattle.c_rules_calls.proofs.depth.check_depth.Goals as goal

pub returns-then-index-lt-TOO_MANY-clause-short : goal.returns-then-index-lt-TOO_MANY-clause-short
returns-then-index-lt-TOO_MANY-clause-short c = λ calls way.
    let depths = c.in_ok-depths.depths.items in
    let inside = defined_inside c.args.graph.now c.args.main c.requires.main in
    let within : c.args.main < length depths = omega (arith, inside, c.in_ok-depths.ensures.1) in
    let read = get_or_read depths c.args.main c.index.result.now within c.index.ensures 0 in
    let less : get_or depths c.args.main 0 < 65 = omega (arith, read, c.if-index-lt-TOO_MANY.true) in
    let below = short c.args.graph.now depths c.requires.known c.in_ok-depths.ensures.0 calls c.args.main c.requires.main less way in
    omega (arith, below, less)

pub deep_calls-requires-clause-deep : goal.deep_calls-requires-clause-deep
deep_calls-requires-clause-deep c =
    let depths = c.in_ok-depths.depths.items in
    let inside = defined_inside c.args.graph.now c.args.main c.requires.main in
    let within : c.args.main < length depths = omega (arith, inside, c.in_ok-depths.ensures.1) in
    let read = get_or_read depths c.args.main c.index.result.now within c.index.ensures 0 in
    let here : 65 ≤ get_or depths c.args.main 0 = omega (arith, read, c.if-index-lt-TOO_MANY.false) in
    subst (λ d. 65 ≤ get_or d c.args.main 0) (sym c.deref.ensures.value) here
