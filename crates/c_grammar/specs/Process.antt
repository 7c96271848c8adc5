-- The right side of a production: tokens and parts in their order, and what they make together.
use Rattle.std.specs.Prelude.{ℕ, List, Bool}
use Rattle.c_syntax_written.specs.declared.token.Placed.{Placed}
use Rattle.c_grammar.specs.Parts.{Scene, Part, Value}
use Rattle.c_grammar.specs.declared.class.Class.{Class}

-- Each token and each part comes with how many forms of this production are unfinished at it.
pub data Process (A : Type 0) : Type 0 where
  -- nothing more: this is what was read
  give : A → Process A
  -- a token of a class
  token : ℕ → Class → (Placed → Process A) → Process A
  -- a part, in its scene
  part : ℕ → Scene → (p : Part) → (Value p → Process A) → Process A
  -- only where the tokens from here on pass a test
  only : (List Placed → Bool) → Process A → Process A
