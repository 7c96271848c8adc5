-- How results are passed on.
use Rattle.std.specs.Prelude.{Result, Ok, Err}
use Rattle.std.proofs.lemmas.Option.{IfSome_then}
use Rattle.c_typing.specs.World.{World, Outcome, Refused}
use Rattle.c_check_names.specs.declared.type_error.TypeError.{TypeError}
use Rattle.c_check_names.specs.Views.{Answers, refusal_of}

-- a result that is an outcome of one kind is one of another
pub by : {A V : Type 0} (P Q : Outcome V → Type 0) (view : A → V) (w : World) (res : Result A TypeError) → Answers P view w res
    → ((o : Outcome V) → P o → Q o) → Answers Q view w res
by P Q view w (Ok a) p f = f _ p
by P Q view w (Err e) p f = IfSome_then (refusal_of e) p (λ r. f (Refused r))
