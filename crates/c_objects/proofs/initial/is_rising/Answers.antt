use Rattle.std.proofs.Common.{sym, subst, arith}
use Rattle.std.proofs.lemmas.List.{drop_all, drop_more}
use Rattle.c_objects.specs.Writing.{Rise}
use Rattle.c_objects.proofs.Rising.{no_bytes}
use Rattle.c_objects.proofs.initial.is_rising.Goals as goal

pub loop-bytes-preserved : goal.loop-bytes-preserved
loop-bytes-preserved c = λ rest.
    let items = drop_more c.args.named.now c.loop-bytes.bytes-index no_bytes (omega arith) in
    c.loop-bytes.invariant (subst (Rise c.loop-bytes.from) (sym items) (c.if-bytes-from.false, rest))

pub returns : goal.returns
returns c = λ yes. c.loop-bytes.invariant (subst (λ v. Rise c.loop-bytes.from v) (sym (drop_all c.loop-bytes.bytes-index c.args.named.now (omega arith))) tt)
