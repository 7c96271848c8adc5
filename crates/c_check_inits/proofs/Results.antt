-- How results are passed on, and which of two ways is taken.
use Rattle.std.proofs.Common.{◌≡◌, sym, subst, true, false}
use Rattle.std.specs.Prelude.{Bool, Option, Some, None, IfSome, Result, Ok, Err}
use Rattle.std.proofs.lemmas.Option.{IfSome_then}
use Rattle.c_typing.specs.CurrentObject.{Part}
use Rattle.c_typing.specs.Inits.{AtPart, Either}
use Rattle.c_typing.specs.World.{World, Outcome, Typed, Refused}
use Rattle.c_check_names.specs.declared.type_error.TypeError.{TypeError}
use Rattle.c_check_names.specs.Views.{Answers, refusal_of}

-- a result that is an outcome of one kind is one of another
pub by : {A V : Type 0} (P Q : Outcome V → Type 0) (view : A → V) (w : World) (res : Result A TypeError) → Answers P view w res
    → ((o : Outcome V) → P o → Q o) → Answers Q view w res
by P Q view w (Ok a) p f = f _ p
by P Q view w (Err e) p f = IfSome_then (refusal_of e) p (λ r. f (Refused r))

-- what is typed, if the result is a value
pub typed_in : {A V : Type 0} (P : Outcome V → Type 0) (view : A → V) (w : World) (res : Result A TypeError) (a : A) → res ≡ Ok a → Answers P view w res
    → P (Typed (view a) w)
typed_in P view w res a e p = subst (λ r. Answers P view w r) e p

-- what is refused, if it is an error
pub refused_in : {A V : Type 0} (P : Outcome V → Type 0) (view : A → V) (w : World) (res : Result A TypeError) (e : TypeError) → res ≡ Err e → Answers P view w res
    → IfSome (refusal_of e) (λ r. P (Refused r))
refused_in P view w res error e p = subst (λ r. Answers P view w r) e p

-- ---- which way is taken

pub at_none : {A : Type 0} (part : Option Part) (full : Outcome A → Type 0) (next : Part → Outcome A → Type 0) (o : Outcome A) → None ≡ part → full o
    → AtPart part full next o
unfolding AtPart
at_none part full next o e p = subst (λ x. AtPart x full next o) e p

pub at_some : {A : Type 0} (part : Option Part) (full : Outcome A → Type 0) (next : Part → Outcome A → Type 0) (o : Outcome A) (p : Part) → Some p ≡ part
    → next p o → AtPart part full next o
unfolding AtPart
at_some part full next o p e q = subst (λ x. AtPart x full next o) e q

pub if_so : {A : Type 0} (b : Bool) (one other : Outcome A → Type 0) (o : Outcome A) → b ≡ true → one o → Either b one other o
unfolding Either
if_so b one other o e p = subst (λ x. Either x one other o) (sym e) p

pub if_not : {A : Type 0} (b : Bool) (one other : Outcome A → Type 0) (o : Outcome A) → b ≡ false → other o → Either b one other o
unfolding Either
if_not b one other o e p = subst (λ x. Either x one other o) (sym e) p
