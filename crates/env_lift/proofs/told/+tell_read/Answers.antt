use Rattle.num_api.proofs.PutOut.{adds_twice, tells_twice}
use Rattle.env_lift.proofs.told.+tell_read.Goals as goal

pub returns-in_ok-tell_read-in-Binary-2-clause-kept : goal.returns-in_ok-tell_read-in-Binary-2-clause-kept
returns-in_ok-tell_read-in-Binary-2-clause-kept g t c =
    adds_twice c.args.out.now c.tell_read-in-Binary.new.out c.tell_read-in-Binary-2.new.out c.in_ok-tell_read-in-Binary.ensures.kept c.in_ok-tell_read-in-Binary-2.ensures.kept

pub returns-in_ok-tell_read-in-Binary-2-clause-told : goal.returns-in_ok-tell_read-in-Binary-2-clause-told
returns-in_ok-tell_read-in-Binary-2-clause-told g t c = λ v p.
    tells_twice v c.args.out.now c.tell_read-in-Binary.new.out c.tell_read-in-Binary-2.new.out c.in_ok-tell_read-in-Binary.ensures.kept c.in_ok-tell_read-in-Binary-2.ensures.kept
    (c.in_ok-tell_read-in-Binary.ensures.told v p) (c.in_ok-tell_read-in-Binary-2.ensures.told v p)
