-- Places that are read from tokens, in their order.
use Rattle.std.proofs.Common.{List, [], ◌∷◌, ◌++◌}
use Rattle.c_syntax_written.specs.declared.place.Pos.{Pos}
use Rattle.c_syntax_written.specs.declared.token.Placed.{Placed}
use Rattle.c_grammar.specs.Parts.{Scene, Part, Value}
use Rattle.c_grammar.specs.Process.{Process}
use Rattle.c_grammar.specs.Grammar.{Derives, Spells, by, ended, token_then, part_then, where_so}

-- the places are those of some of the first tokens, in their order, and these tokens are left
pub data Reads : List Pos → List Placed → List Placed → Type 0 where
  none : {ts : List Placed} → Reads [] ts ts
  skips : {ps : List Pos} {t : Placed} {ts rest : List Placed} → Reads ps ts rest → Reads ps (t ∷ ts) rest
  takes : {ps : List Pos} {t : Placed} {ts rest : List Placed} → Reads ps ts rest → Reads (t.pos ∷ ps) (t ∷ ts) rest

pub then_reads : {ps qs : List Pos} {ts mid rest : List Placed} → Reads ps ts mid → Reads qs mid rest → Reads (ps ++ qs) ts rest
then_reads none r = r
then_reads (skips h) r = skips (then_reads h r)
then_reads (takes h) r = takes (then_reads h r)

mutual
  -- what is derived leaves some of the tokens
  pub derives_none : {w : Scene} {p : Part} {ts rest : List Placed} {v : Value p} → Derives w p ts rest v → Reads [] ts rest
  derives_none (by rule s) = spells_none s

  pub spells_none : {w : Scene} {p : Part} {q : Process (Value p)} {ts rest : List Placed} {v : Value p} → Spells w p q ts rest v → Reads [] ts rest
  spells_none ended = none
  spells_none (token_then f s) = skips (spells_none s)
  spells_none (part_then d s) = then_reads (derives_none d) (spells_none s)
  spells_none (where_so e s) = spells_none s
