-- What two sides have heard of each other.
use Rattle.std.specs.Prelude.{ℕ, ℤ, List, All}
use Rattle.num_api.specs.declared.message.Message.{Message}
use Rattle.num_api.specs.declared.message.Message.TheVariants as messages
use Rattle.num_api.specs.declared.message.Range.{Range}
use Rattle.num_api.specs.Known.{IsSharp}
use Rattle.num_api.specs.Messages.{Holds, IsProper}
use Rattle.num_api.specs.Ranges.{NoWider, IsUnder}

-- what is known of a variable lies in the range that the message tells of it
abbrev pub IsHeard : (ℕ → Range) → Message → Type 0
IsHeard known (messages.Between x r) = NoWider (known x.0) r
IsHeard known (messages.Class x r) = Unit {0}
IsHeard known (messages.Equal x e) = Unit {0}
IsHeard known (messages.AtMost sx x sy y bound) = Unit {0}

-- what is so while messages are handed to a state: of those told, `rest` is still to come
pub record IsHanded {D : Type 0} (A : D → List ℤ → Type 0) (K : D → ℕ → Range) (exact : Type 0) (first now : D) (told rest : List Message) : Type 0 where
  pub after : (v : List ℤ) → A first v → All (Holds v) told → A now v × All (Holds v) rest
  pub proper : All IsProper rest
  pub sharp : (v : List ℤ) (y : ℕ) → exact → A first v → All (Holds v) told → IsSharp (K first) v y → IsSharp (K now) v y
  pub plain : (given : ℕ → Range) → exact → IsUnder (K first) given → IsUnder (K now) given

-- the same, and those `done` are heard
pub record IsDelivered {D : Type 0} (A : D → List ℤ → Type 0) (K : D → ℕ → Range) (exact : Type 0) (first now : D) (told done rest : List Message) : Type 0 where
  pub handed : IsHanded A K exact first now told rest
  pub heard : exact → All (IsHeard (K now)) done
