-- A body is one of the program's statements.
use Rattle.std.proofs.Common.{◌≡◌, inl, refl}
use Rattle.csharp.specs.Trees.{CsStmtTree, Sequence, If, Loop, Block, Scope, Switch}
use Rattle.alarm_claims.specs.Admitted.{SomeIn}

pub own_part : (a : CsStmtTree) → SomeIn (λ b. b ≡ a) a
own_part (Sequence a b) = inl refl
own_part (If e a b) = inl refl
own_part (Loop at a) = inl refl
own_part (Block a) = inl refl
own_part (Scope xs items) = inl refl
own_part (Switch e xs items) = inl refl
own_part a = refl
