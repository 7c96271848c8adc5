-- Refusals of names as refusals of typing.
use Rattle.std.proofs.Common.{◌≡◌, sym, subst}
use Rattle.std.specs.Prelude.{Option, IfSome}
use Rattle.std.proofs.lemmas.Option.{IfSome_then}
use Rattle.c_typing.specs.World.{Outcome, Refusal, Refused}

-- an error that tells the refusal to which a call on names comes
pub refused_as : {A : Type 0} (outcome : Outcome A) (m n : Option Refusal) → m ≡ n → IfSome n (λ r. outcome ≡ Refused r)
    → IfSome m (λ r. ◌≡◌ {A = Outcome A} (Refused r) outcome)
refused_as {A = A} outcome m n e p =
    subst (λ o. IfSome o (λ r. ◌≡◌ {A = Outcome A} (Refused r) outcome)) (sym e) (IfSome_then n p (λ r q. sym q))
