-- Which tokens are a file, and with which tree; which tokens begin one (C11 6.5 to 6.9).
use Rattle.std.specs.Prelude.{◌≡◌, ℕ, Bool, true, List, [], ◌∷◌}
use Rattle.c_syntax_written.specs.declared.token.Placed.{Placed}
use Rattle.c_syntax_written.specs.WrittenFile.{FileTree}
use Rattle.c_grammar.specs.declared.parts.Setting.TheVariants.{AtFile}
use Rattle.c_grammar.specs.Parts.{Scene, Part, Outers, Value}
use Rattle.c_grammar.specs.declared.class.Class.{Class}
use Rattle.c_grammar.specs.Classes.{Fits}
use Rattle.c_grammar.specs.Process.{Process, give, token, part, only}
use Rattle.c_grammar.specs.ExprRules.{ExprRule}
use Rattle.c_grammar.specs.TypeRules.{TypeRule}
use Rattle.c_grammar.specs.FileRules.{FileRule}

-- the productions
pub data Produces : Scene → (p : Part) → Process (Value p) → Type 0 where
  expr_rule : {w : Scene} {p : Part} {q : Process (Value p)} → ExprRule w p q → Produces w p q
  type_rule : {w : Scene} {p : Part} {q : Process (Value p)} → TypeRule w p q → Produces w p q
  file_rule : {w : Scene} {p : Part} {q : Process (Value p)} → FileRule w p q → Produces w p q

mutual
  -- The part is read from the first tokens and leaves the second, and stands for the value.
  pub data Derives : Scene → (p : Part) → List Placed → List Placed → Value p → Type 0 where
    by : {w : Scene} {p : Part} {q : Process (Value p)} {ts rest : List Placed} {v : Value p} → Produces w p q → Spells w p q ts rest v → Derives w p ts rest v

  -- So is what is left of a production of the part.
  pub data Spells : Scene → (p : Part) → Process (Value p) → List Placed → List Placed → Value p → Type 0 where
    ended : {w : Scene} {p : Part} {v : Value p} {ts : List Placed} → Spells w p (give v) ts ts v
    token_then : {w : Scene} {p : Part} {n : ℕ} {c : Class} {k : Placed → Process (Value p)} {t : Placed} {ts rest : List Placed} {v : Value p}
        → Fits w c t.token → Spells w p (k t) ts rest v → Spells w p (token n c k) (t ∷ ts) rest v
    part_then : {w s : Scene} {p i : Part} {n : ℕ} {k : Value i → Process (Value p)} {a : Value i} {ts mid rest : List Placed} {v : Value p}
        → Derives s i ts mid a → Spells w p (k a) mid rest v → Spells w p (part n s i k) ts rest v
    where_so : {w : Scene} {p : Part} {f : List Placed → Bool} {q : Process (Value p)} {ts rest : List Placed} {v : Value p} → f ts ≡ true
        → Spells w p q ts rest v → Spells w p (only f q) ts rest v

-- no typedef name yet, outside of functions
abbrev pub at_start : Scene
at_start = record { types = []; setting = AtFile }

-- the tokens are the file
abbrev pub IsTree : List Placed → FileTree → Type 0
IsTree tokens file = Derives at_start (Outers []) tokens [] file.outers
