-- What is so of a value while a loop widens it.
use Rattle.std.specs.Prelude.{◌≡◌}

-- it holds what the start holds, and is the start where a step adds nothing to that
pub record IsWidened {V N : Type 0} (admits : V → N → Type 0) (adds_nothing : Type 0) (start state : V) : Type 0 where
  pub holds_start : (n : N) → admits start n → admits state n
  pub stays : adds_nothing → state ≡ start
