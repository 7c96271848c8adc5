-- The nodes of a file stand in the order of its text.
use Rattle.std.specs.Prelude.{List, AllPairs}
use Rattle.c_syntax_written.specs.declared.place.Pos.{Pos}
use Rattle.c_syntax_written.specs.declared.token.Placed.{Placed}
use Rattle.c_syntax_written.specs.WrittenFile.{FileTree}
use Rattle.c_lexer.specs.Cut.{IsBefore, StandInOrder}
use Rattle.c_grammar.specs.Grammar.{IsTree}
use Rattle.c_grammar_laws.specs.NodePlaces.{file_places}

-- each of these places is before those behind it, so no two are one
abbrev pub AreInOrder : List Pos → Type 0
AreInOrder places = AllPairs IsBefore places

abbrev pub NodesStandInOrder : Type 0
NodesStandInOrder = (tokens : List Placed) (file : FileTree) → IsTree tokens file → StandInOrder tokens → AreInOrder (file_places file)
