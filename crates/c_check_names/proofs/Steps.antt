-- How results are passed on.
use Rattle.std.proofs.Common.{◌≡◌, Bool, true, false, ap, sym, ◌∙◌, subst}
use Rattle.std.specs.Prelude.{if◌then◌else◌, Option, Some, None, IfSome, Result}
use Rattle.c_syntax.specs.Types.{CTypeTree}
use Rattle.c_typing.specs.World.{World, Outcome, Refusal, Refused}
use Rattle.c_check_names.specs.declared.type_error.TypeError.{TypeError}
use Rattle.c_check_names.specs.Views.{Answers, Tells, refusal_of}

-- an outcome that is this one
pub so : {A V : Type 0} {o q : Outcome V} (view : A → V) (w : World) (res : Result A TypeError) → o ≡ q → Answers (λ out. out ≡ o) view w res → Answers (λ out. out ≡ q) view w res
so view w res e p = subst (λ o. Answers (λ out. out ≡ o) view w res) e p

told_refusal : {V : Type 0} (refusal : Option Refusal) (r : Refusal) (q : Outcome V) → Refused r ≡ q → IfSome refusal (λ s. s ≡ r) → IfSome refusal (λ s. ◌≡◌ {A = Outcome V} (Refused s) q)
told_refusal None r q e p = p
told_refusal (Some s) r q e p = ap Refused p ∙ e

-- an error that tells the refusal of this outcome
pub refused : {V : Type 0} (error : TypeError) (r : Refusal) (q : Outcome V) → Tells error r → Refused r ≡ q → IfSome (refusal_of error) (λ s. ◌≡◌ {A = Outcome V} (Refused s) q)
refused error r q p e = told_refusal (refusal_of error) r q e p

-- a type that is known otherwise
pub for_type : {A V N : Type 0} {l k : CTypeTree} {n : N} (view : A → V) (w : World) (row : CTypeTree → N) (made : CTypeTree → N → Outcome V) (res : Result A TypeError)
    → l ≡ k → n ≡ row l → Answers (λ out. out ≡ made l n) view w res → Answers (λ out. out ≡ made k (row k)) view w res
for_type {l = l} view w row made res e g p = so view w res (ap (made l) g ∙ ap (λ x. made x (row x)) e) p

-- and two
pub for_types : {A V N : Type 0} {l k r s : CTypeTree} {n : N} (view : A → V) (w : World) (row : CTypeTree → CTypeTree → N) (made : CTypeTree → CTypeTree → N → Outcome V) (res : Result A TypeError)
    → l ≡ k → r ≡ s → n ≡ row l r → Answers (λ out. out ≡ made l r n) view w res → Answers (λ out. out ≡ made k s (row k s)) view w res
for_types {l = l} {k = k} {r = r} {s = s} view w row made res e f g p =
    so view w res (ap (made l r) g ∙ ap (λ x. made x r (row x r)) e ∙ ap (λ x. made k x (row k x)) f) p

-- a choice by a test whose answer is known
pub when_true : {X : Type 0} {b c : Bool} (x y : X) → b ≡ true → b ≡ c → x ≡ (if c then x else y)
when_true x y e f = ap (λ t. if t then x else y) (sym e ∙ f)

pub when_false : {X : Type 0} {b c : Bool} (x y : X) → b ≡ false → b ≡ c → y ≡ (if c then x else y)
when_false x y e f = ap (λ t. if t then x else y) (sym e ∙ f)

-- an error that tells one refusal tells the same by another name
pub told_as : (error : TypeError) {r q : Refusal} → r ≡ q → Tells error r → Tells error q
told_as error e p = subst (Tells error) e p
