use Rattle.std.proofs.Common.{◌+◌, sym, ap, subst, ◌∙◌, arith, drop, get_or}
use Rattle.std.proofs.lemmas.List.{drop_more}
use Rattle.c_objects.specs.Writing.{are_named, Rise}
use Rattle.c_objects.proofs.Rising.{first_behind, no_bytes}
use Rattle.c_objects.proofs.initial.is_named.Goals as goal

pub returns-then-bytes-offset : goal.returns-then-bytes-offset
returns-then-bytes-offset c =
    let named = c.args.named.now in
    let i = c.loop-bytes.bytes-index in
    let items = drop_more named i no_bytes (omega arith) in
    let rises = c.loop-bytes.invariant.1 c.if-rising.true in
    sym (c.loop-bytes.invariant.0 ∙ ap (λ v. are_named v c.args.offset) items
    ∙ first_behind (get_or named i no_bytes) (drop (i + 1) named) rises.0 c.args.offset (subst (Rise rises.0) items rises.1) c.if-bytes-offset.true)
