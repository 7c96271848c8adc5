-- The productions of initialisers, declarations, statements and files (C11 6.7, 6.7.9, 6.8 and 6.9).
use Rattle.std.specs.Prelude.{Bool, true, false, not, List, [], ◌∷◌, ◌++◌, Some, None}
use Rattle.c_syntax_written.specs.declared.place.Pos.{Pos}
use Rattle.c_syntax_written.specs.declared.token.Keyword.TheVariants as keywords
use Rattle.c_syntax_written.specs.declared.token.Punctuator.TheVariants as signs
use Rattle.c_syntax_written.specs.Written.{ExprTree, SpecTrees, DeclaratorTree}
use Rattle.c_syntax_written.specs.WrittenParts.{expr_pos}
use Rattle.c_syntax_written.specs.WrittenDecl.{InitTree, InitTrees, no_inits, more_inits, inits_then, InitDeclaratorTree, DeclTree}
use Rattle.c_syntax_written.specs.WrittenDecl as inits
use Rattle.c_syntax_written.specs.WrittenFile.{StmtTree, BlockItemTrees, none, more, blockitems_then, OuterTree}
use Rattle.c_syntax_written.specs.WrittenFile as trees
use Rattle.c_grammar.specs.declared.parts.Role.TheVariants.{Naming}
use Rattle.c_grammar.specs.declared.parts.Closing.TheVariants.{BySemicolon as by_semicolon, ByParenthesis as by_parenthesis}
use Rattle.c_grammar.specs.Parts.{Scene, within, switched, Assignment, Conditional, Declarator, Statement, Else, Declaration, Declared, Initial, Ending, Outer, OuterDeclared, OuterInitial, Part, AnExpr, ADeclarator, AStmt, ADecl, AnOuter, Close, Specs, Initialiser, Initialisers, MoreInitialisers, NextInitialiser, Optionally, ForStart, Items, Item, Outers, Value}
use Rattle.c_grammar.specs.declared.class.Class.TheVariants.{Keyword as keyword, Sign as sign, Word as word, AnyWord as any_word}
use Rattle.c_grammar.specs.Classes.{name_of}
use Rattle.c_grammar.specs.Process.{Process, give, token, part, only}
use Rattle.c_grammar.specs.Made.{specs_pos, ends_open, new_types}
use Rattle.c_grammar.specs.Ahead.{spec_ahead, no_spec_ahead, label_ahead, no_label_ahead, no_left_bracket, at_end}
use Rattle.c_grammar.specs.ExprRules.{Expression}

-- the scene of a block: that of a switch, or another
abbrev pub block_scene : Bool → Scene → Scene
block_scene true w = switched w
block_scene false w = within w

-- the scene behind a declaration of the file
abbrev pub after_outer : Scene → OuterTree → Scene
after_outer w outer = record { types = w.types ++ new_types outer; setting = w.setting }

-- A statement that is a part of another one, unfinished from its first token on, where that token can
-- begin a statement; no part of the other is unfinished before it.
abbrev pub substatement : {A : Type 0} → Scene → Bool → (StmtTree → Process A) → Process A
substatement w is_of_switch k = only no_left_bracket (part 1 w (AStmt (Statement is_of_switch)) k)

-- Each substatement of an if, an else, a loop, a switch or a label is unfinished up to its end, and so
-- is an initialiser behind its `=`.
pub data FileRule : Scene → (p : Part) → Process (Value p) → Type 0 where
  -- initialisers
  value : {w : Scene} → FileRule w Initialiser (part 0 w (AnExpr Assignment) (λ e. give (inits.Value e)))
  braces : {w : Scene} → FileRule w Initialiser (token 1 (sign signs.LeftBrace) (λ t. part 1 w Initialisers (λ items. give (inits.Braces t.pos items))))
  initialisers : {w : Scene} → FileRule w Initialisers (part 0 w Initialiser (λ first. part 0 w (MoreInitialisers (more_inits first no_inits)) give))
  initialisers_end : {w : Scene} {before : InitTrees} → FileRule w (MoreInitialisers before) (token 0 (sign signs.RightBrace) (λ t. give before))
  initialisers_more : {w : Scene} {before : InitTrees} → FileRule w (MoreInitialisers before)
      (token 0 (sign signs.Comma) (λ t. part 0 w (NextInitialiser before) give))
  initialisers_comma_end : {w : Scene} {before : InitTrees} → FileRule w (NextInitialiser before) (token 0 (sign signs.RightBrace) (λ t. give before))
  initialisers_next : {w : Scene} {before : InitTrees} → FileRule w (NextInitialiser before)
      (part 0 w Initialiser (λ next. part 0 w (MoreInitialisers (inits_then before next)) give))
  -- declarations
  declaration : {w : Scene} → FileRule w (ADecl Declaration) (part 0 w Specs (λ s. part 0 w (ADecl (Declared s)) give))
  declared_nothing : {w : Scene} {s : SpecTrees} → FileRule w (ADecl (Declared s))
      (token 0 (sign signs.Semicolon) (λ t. give (record { pos = specs_pos s; specs = s; inits = [] })))
  declared : {w : Scene} {s : SpecTrees} → FileRule w (ADecl (Declared s))
      (part 0 w (ADeclarator (Declarator Naming)) (λ d. part 0 w (ADecl (Initial s [] d)) give))
  not_initialised : {w : Scene} {s : SpecTrees} {before : List InitDeclaratorTree} {d : DeclaratorTree} → FileRule w (ADecl (Initial s before d))
      (part 0 w (ADecl (Ending s (before ++ record { declarator = d; init = None } ∷ []))) give)
  initialised : {w : Scene} {s : SpecTrees} {before : List InitDeclaratorTree} {d : DeclaratorTree} → FileRule w (ADecl (Initial s before d))
      (token 1 (sign signs.Assign) (λ t. part 1 w Initialiser (λ i.
      part 0 w (ADecl (Ending s (before ++ record { declarator = d; init = Some i } ∷ []))) give)))
  declaration_end : {w : Scene} {s : SpecTrees} {before : List InitDeclaratorTree} → FileRule w (ADecl (Ending s before))
      (token 0 (sign signs.Semicolon) (λ t. give (record { pos = specs_pos s; specs = s; inits = before })))
  declaration_more : {w : Scene} {s : SpecTrees} {before : List InitDeclaratorTree} → FileRule w (ADecl (Ending s before))
      (token 0 (sign signs.Comma) (λ t. part 0 w (ADeclarator (Declarator Naming)) (λ d. part 0 w (ADecl (Initial s before d)) give)))
  -- statements
  label : {w : Scene} {b : Bool} → FileRule w (AStmt (Statement b))
      (only (label_ahead w) (token 0 word (λ t. token 0 (sign signs.Colon) (λ colon. substatement w false (λ body.
      give (trees.Label t.pos (name_of t.token) body))))))
  case : {w : Scene} {b : Bool} → FileRule w (AStmt (Statement b))
      (token 0 (keyword keywords.Case) (λ t. part 0 w (AnExpr Conditional) (λ v. token 0 (sign signs.Colon) (λ colon. substatement w false (λ body.
      give (trees.Case t.pos v body))))))
  default_statement : {w : Scene} {b : Bool} → FileRule w (AStmt (Statement b))
      (token 0 (keyword keywords.Default) (λ t. token 0 (sign signs.Colon) (λ colon. substatement w false (λ body. give (trees.Default t.pos body)))))
  block : {w : Scene} {b : Bool} → FileRule w (AStmt (Statement b))
      (token 1 (sign signs.LeftBrace) (λ t. part 1 (block_scene b w) (Items none) (λ items. give (trees.Block t.pos items))))
  empty : {w : Scene} {b : Bool} → FileRule w (AStmt (Statement b)) (token 0 (sign signs.Semicolon) (λ t. give (trees.Empty t.pos)))
  expression : {w : Scene} {b : Bool} → FileRule w (AStmt (Statement b))
      (only (no_label_ahead w) (part 0 w (AnExpr Expression) (λ e. token 0 (sign signs.Semicolon) (λ t. give (trees.Expression (expr_pos e) e)))))
  if_statement : {w : Scene} {b : Bool} → FileRule w (AStmt (Statement b))
      (token 0 (keyword keywords.If) (λ t. token 1 (sign signs.LeftParenthesis) (λ opening. part 1 w (AnExpr Expression) (λ condition.
      part 1 w (Close by_parenthesis) (λ close. substatement (within w) false (λ first. part 0 w (AStmt (Else t.pos condition first)) give))))))
  no_else : {w : Scene} {at : Pos} {condition : ExprTree} {first : StmtTree} → FileRule w (AStmt (Else at condition first)) (give (trees.If at condition first))
  with_else : {w : Scene} {at : Pos} {condition : ExprTree} {first : StmtTree} → FileRule w (AStmt (Else at condition first))
      (only (λ rest. not (ends_open first)) (token 0 (keyword keywords.Else) (λ t. substatement (within w) false (λ second.
      give (trees.IfElse at condition first second)))))
  switch_statement : {w : Scene} {b : Bool} → FileRule w (AStmt (Statement b))
      (token 0 (keyword keywords.Switch) (λ t. token 1 (sign signs.LeftParenthesis) (λ opening. part 1 w (AnExpr Expression) (λ v.
      part 1 w (Close by_parenthesis) (λ close. substatement (within w) true (λ body. give (trees.Switch t.pos v body)))))))
  while_loop : {w : Scene} {b : Bool} → FileRule w (AStmt (Statement b))
      (token 0 (keyword keywords.While) (λ t. token 1 (sign signs.LeftParenthesis) (λ opening. part 1 w (AnExpr Expression) (λ condition.
      part 1 w (Close by_parenthesis) (λ close. substatement (within w) false (λ body. give (trees.While t.pos condition body)))))))
  do_loop : {w : Scene} {b : Bool} → FileRule w (AStmt (Statement b))
      (token 0 (keyword keywords.Do) (λ t. substatement (within w) false (λ body. token 0 (keyword keywords.While) (λ loop.
      token 1 (sign signs.LeftParenthesis) (λ opening. part 1 w (AnExpr Expression) (λ condition. part 1 w (Close by_parenthesis) (λ close.
      token 0 (sign signs.Semicolon) (λ end. give (trees.DoWhile t.pos body condition)))))))))
  for_loop : {w : Scene} {b : Bool} → FileRule w (AStmt (Statement b))
      (token 0 (keyword keywords.For) (λ t. token 1 (sign signs.LeftParenthesis) (λ opening. part 1 w ForStart (λ start.
      part 1 w (Optionally by_semicolon) (λ condition. part 1 w (Optionally by_parenthesis) (λ step. substatement (within w) false (λ body.
      give (trees.For t.pos start condition step body))))))))
  jump : {w : Scene} {b : Bool} → FileRule w (AStmt (Statement b))
      (token 0 (keyword keywords.Goto) (λ t. token 0 any_word (λ name. token 0 (sign signs.Semicolon) (λ end.
      give (trees.Goto t.pos (name_of name.token))))))
  continue_statement : {w : Scene} {b : Bool} → FileRule w (AStmt (Statement b))
      (token 0 (keyword keywords.Continue) (λ t. token 0 (sign signs.Semicolon) (λ end. give (trees.Continue t.pos))))
  break_statement : {w : Scene} {b : Bool} → FileRule w (AStmt (Statement b))
      (token 0 (keyword keywords.Break) (λ t. token 0 (sign signs.Semicolon) (λ end. give (trees.Break t.pos))))
  return_statement : {w : Scene} {b : Bool} → FileRule w (AStmt (Statement b))
      (token 0 (keyword keywords.Return) (λ t. part 0 w (Optionally by_semicolon) (λ v. give (trees.Return t.pos v))))
  -- how a for begins
  for_nothing : {w : Scene} → FileRule w ForStart (token 0 (sign signs.Semicolon) (λ t. give trees.Nothing))
  for_declares : {w : Scene} → FileRule w ForStart (only (spec_ahead w) (part 0 w (ADecl Declaration) (λ d. give (trees.Declares d))))
  for_value : {w : Scene} → FileRule w ForStart
      (only (no_spec_ahead w) (part 0 w (AnExpr Expression) (λ e. token 0 (sign signs.Semicolon) (λ t. give (trees.Value e)))))
  -- blocks
  items_end : {w : Scene} {before : BlockItemTrees} → FileRule w (Items before) (token 0 (sign signs.RightBrace) (λ t. give before))
  items_more : {w : Scene} {before : BlockItemTrees} → FileRule w (Items before) (part 0 w Item (λ next. part 0 w (Items (blockitems_then before next)) give))
  item_declares : {w : Scene} → FileRule w Item (only (spec_ahead w) (part 0 w (ADecl Declaration) (λ d. give (trees.Declaration d))))
  item_does : {w : Scene} → FileRule w Item (only (no_spec_ahead w) (part 0 w (AStmt (Statement false)) (λ s. give (trees.Statement s))))
  -- the file
  outer : {w : Scene} → FileRule w (AnOuter Outer) (part 0 w Specs (λ s. part 0 w (AnOuter (OuterDeclared s)) give))
  outer_nothing : {w : Scene} {s : SpecTrees} → FileRule w (AnOuter (OuterDeclared s))
      (token 0 (sign signs.Semicolon) (λ t. give (trees.Declared (record { pos = specs_pos s; specs = s; inits = [] }))))
  outer_declared : {w : Scene} {s : SpecTrees} → FileRule w (AnOuter (OuterDeclared s))
      (part 0 w (ADeclarator (Declarator Naming)) (λ d. part 0 w (AnOuter (OuterInitial s d)) give))
  outer_initial : {w : Scene} {s : SpecTrees} {d : DeclaratorTree} → FileRule w (AnOuter (OuterInitial s d))
      (part 0 w (ADecl (Initial s [] d)) (λ decl. give (trees.Declared decl)))
  outer_function : {w : Scene} {s : SpecTrees} {d : DeclaratorTree} → FileRule w (AnOuter (OuterInitial s d))
      (token 1 (sign signs.LeftBrace) (λ t. part 1 (within w) (Items none) (λ body. give (trees.Function (specs_pos s) s d t.pos body))))
  file_end : {w : Scene} {before : List OuterTree} → FileRule w (Outers before) (only at_end (give before))
  file_more : {w : Scene} {before : List OuterTree} → FileRule w (Outers before)
      (part 0 w (AnOuter Outer) (λ next. part 0 (after_outer w next) (Outers (before ++ next ∷ [])) give))
