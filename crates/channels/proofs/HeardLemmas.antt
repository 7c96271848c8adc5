-- What is heard stays heard.
use Rattle.std.proofs.Common.{ℕ, List, ◌≡◌, refl}
use Rattle.std.specs.Prelude.{All}
use Rattle.std.proofs.lemmas.List.Elements.{All-weaker}
use Rattle.num_api.specs.declared.message.Message.{Message}
use Rattle.num_api.specs.declared.message.Message.TheVariants as messages
use Rattle.num_api.specs.declared.expr.Var.{Var}
use Rattle.num_api.specs.declared.message.Range.{Range}
use Rattle.num_api.specs.Ranges.{NoWider, IsUnder}
use Rattle.num_api.proofs.Parts.{wider, as_wide}
use Rattle.channels.specs.Hearing.{IsHeard}

heard_one : (K M : ℕ → Range) → IsUnder M K → (m : Message) → IsHeard K m → IsHeard M m
heard_one K M u (messages.Between x r) h = wider (M x.0) (K x.0) r (u x.0) h
heard_one K M u (messages.Class x r) h = tt
heard_one K M u (messages.Equal x e) h = tt
heard_one K M u (messages.AtMost sx x sy y bound) h = tt

-- where no range has grown
pub heard_still : (K M : ℕ → Range) (told : List Message) → (((given : ℕ → Range) → IsUnder K given → IsUnder M given)) → All (IsHeard K) told → All (IsHeard M) told
heard_still K M told narrows h = All-weaker (IsHeard K) (IsHeard M) (heard_one K M (narrows K (λ x. as_wide (K x)))) told h

-- the range that was told, where it is a range
pub heard_at : (K : ℕ → Range) (m : Message) → ((x : Var) (r : Range) → m ≡ messages.Between x r → NoWider (K x.0) r) → IsHeard K m
heard_at K (messages.Between x r) h = h x r refl
heard_at K (messages.Class x r) h = tt
heard_at K (messages.Equal x e) h = tt
heard_at K (messages.AtMost sx x sy y bound) h = tt
