use Rattle.std.proofs.lemmas.Option.{IfSome_then}
use Rattle.num_api.proofs.PutOut.{adds_twice, tells_twice}
use Rattle.equalities.proofs.telling.tell_test.Goals as goal

pub returns-clause-kept : goal.returns-clause-kept
returns-clause-kept g c = adds_twice _ _ _ c.in_ok-follow.ensures.kept c.in_ok-tell_tied.ensures.kept

pub returns-clause-told : goal.returns-clause-told
returns-clause-told g c = λ v n a o e h.
    tells_twice v _ _ _ c.in_ok-follow.ensures.kept c.in_ok-tell_tied.ensures.kept
    (c.in_ok-follow.ensures.told v a o (IfSome_then c.tested_variable.result c.tested_variable.ensures (λ t f. f v n e h)))
    (c.in_ok-tell_tied.ensures.told v a)
