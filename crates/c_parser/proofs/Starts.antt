-- Which production the descent takes where a label comes.
use Rattle.std.proofs.Common.{◌≡◌, Bool, true, List, [], ◌∷◌}
use Rattle.c_syntax_written.specs.declared.token.Placed.{Placed}
use Rattle.c_grammar.specs.Parts.{Scene, AStmt, Statement}
use Rattle.c_grammar.specs.Grammar.{file_rule}
use Rattle.c_grammar.specs.FileRules as files
use Rattle.c_grammar.specs.Ahead.{label_ahead}
use Rattle.c_grammar.specs.Choice.{this, choose}
use Rattle.c_parser_steps.proofs.Steps.{if_true}

pub label_rule : (w : Scene) (b : Bool) (ts : List Placed) → label_ahead w ts ≡ true → choose w (AStmt (Statement b)) ts ≡ this (file_rule files.label)
label_rule w b [] h = cc
label_rule w b (t ∷ ts) h = if_true _ h
