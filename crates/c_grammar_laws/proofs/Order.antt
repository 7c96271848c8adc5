-- Places that are read from tokens in order stand in order.
use Rattle.std.proofs.Common.{ℕ, zero, suc, ◌<◌, List, length, get_or, sym, subst, arith}
use Rattle.c_syntax_written.specs.declared.place.Pos.{Pos}
use Rattle.c_syntax_written.specs.declared.token.Placed.{Placed}
use Rattle.c_syntax_written.specs.WrittenFile.{FileTree}
use Rattle.c_lexer.specs.Cut.{IsBefore, StandInOrder}
use Rattle.c_grammar.specs.Grammar.{IsTree}
use Rattle.c_grammar_laws.specs.NodePlaces.{outers_places, file_places}
use Rattle.c_grammar_laws.specs.PlaceLaws.{AreInOrder}
use Rattle.c_grammar_laws.proofs.ReadPlaces.{Reads, none, skips, takes}
use Rattle.c_grammar_laws.proofs.Tidy.{derives_gives}
use Rattle.c_grammar_laws.proofs.FileTidy.{tidy}

-- what is before each token is before each place that is read from them
before_places : {ps : List Pos} {ts rest : List Placed} (p : Pos) → Reads ps ts rest → ((k : ℕ) (d : Placed) → k < length ts → IsBefore p (get_or ts k d).pos)
    → (k : ℕ) (d : Pos) → k < length ps → IsBefore p (get_or ps k d)
before_places p none h k d l = absurd (omega arith)
before_places p (skips r) h k d l = before_places p r (λ j e m. h (suc j) e (omega arith)) k d l
before_places p (takes {t = t} r) h zero d l = h zero t (omega arith)
before_places p (takes r) h (suc k) d l = before_places p r (λ j e m. h (suc j) e (omega arith)) k d (omega arith)

reads_in_order : {ps : List Pos} {ts rest : List Placed} → Reads ps ts rest → StandInOrder ts → AreInOrder ps
reads_in_order none h i j d l m = absurd (omega arith)
reads_in_order (skips r) h i j d l m = reads_in_order r (λ a b e x y. h (suc a) (suc b) e (omega arith) (omega arith)) i j d l m
reads_in_order (takes r) h i zero d l m = absurd (omega arith)
reads_in_order (takes {t = t} r) h zero (suc j) d l m = before_places t.pos r (λ k e x. h zero (suc k) e (omega arith) (omega arith)) j d (omega arith)
reads_in_order (takes r) h (suc i) (suc j) d l m = reads_in_order r (λ a b e x y. h (suc a) (suc b) e (omega arith) (omega arith)) i j d (omega arith) (omega arith)

pub nodes_stand_in_order : (tokens : List Placed) (file : FileTree) → IsTree tokens file → StandInOrder tokens → AreInOrder (file_places file)
unfolding outers_places
nodes_stand_in_order tokens file d order = let g = derives_gives tidy d in subst AreInOrder (sym g.is) (reads_in_order g.reads order)
