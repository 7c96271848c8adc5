-- The productions of expressions (C11 6.5).
use Rattle.std.specs.Prelude.{◌≡◌, ℕ, List, ◌++◌, Some, None}
use Rattle.c_syntax_written.specs.declared.step.StepWay.{StepWay}
use Rattle.c_syntax_written.specs.declared.place.Pos.{Pos}
use Rattle.c_syntax_written.specs.declared.token.Keyword.TheVariants as keywords
use Rattle.c_syntax_written.specs.declared.token.Punctuator.TheVariants as signs
use Rattle.c_syntax_written.specs.declared.written.AssignOp.{AssignOp}
use Rattle.c_syntax_written.specs.declared.written.UnaryOp.{UnaryOp}
use Rattle.c_syntax_written.specs.Written.{ExprTree, ExprTrees, no_exprs, more_exprs, exprs_then}
use Rattle.c_syntax_written.specs.Written as trees
use Rattle.c_grammar.specs.declared.parts.Level.{Level}
use Rattle.c_grammar.specs.declared.parts.Level.TheVariants.{Commas, Ors, Ands, BitOrs, BitXors, BitAnds, Equalities, Relations, Shifts, Sums, Products}
use Rattle.c_grammar.specs.declared.parts.Joint.{Joint}
use Rattle.c_grammar.specs.declared.parts.Role.TheVariants.{OfTypeName}
use Rattle.c_grammar.specs.declared.parts.Closing.{Closing}
use Rattle.c_grammar.specs.declared.parts.Closing.TheVariants.{ByParenthesis as by_parenthesis, ByBracket as by_bracket, ByColon as by_colon}
use Rattle.c_grammar.specs.Parts.{Scene, ExprPart, Run, More, Assignment, Assigned, Conditional, Chosen, Cast, Operand, Unary, Sized, Postfix, Suffixes, Primary, Texts, Declarator, Part, AnExpr, ADeclarator, Close, MemberName, AfterType, Arguments, MoreArguments, Specs, Optionally, Value}
use Rattle.c_grammar.specs.declared.class.Class.TheVariants.{Keyword as keyword, Sign as sign, Word as word, AnyWord as any_word, Number as number, Character as character, Text as text}
use Rattle.c_grammar.specs.Classes.{name_of, constant_of, byte_of, bytes_of, unary_sign, step_sign, joint_sign, closing_sign, level_of, assign_sign}
use Rattle.c_grammar.specs.Process.{Process, give, token, part, only}
use Rattle.c_grammar.specs.Made.{joined}
use Rattle.c_grammar.specs.Ahead.{type_ahead, no_type_ahead}

abbrev pub Expression : ExprPart
Expression = Run Commas

-- what stands on either side of a joint of the rank
abbrev pub operand : Level → ExprPart
operand Commas = Assignment
operand Ors = Run Ands
operand Ands = Run BitOrs
operand BitOrs = Run BitXors
operand BitXors = Run BitAnds
operand BitAnds = Run Equalities
operand Equalities = Run Relations
operand Relations = Run Shifts
operand Shifts = Run Sums
operand Sums = Run Products
operand Products = Cast

-- Each token and part comes with the count of forms of the production that are unfinished at it: an
-- open bracket up to the one that closes it, a prefix operator, a cast, a sizeof, an assignment or a `?`
-- up to its end, and each operator of a run and each postfix form until the run ends. What closes or
-- parts a form, and the name behind `.` or `->`, is a part that comes with the form, since the form is
-- unfinished until it is there.
pub data ExprRule : Scene → (p : Part) → Process (Value p) → Type 0 where
  -- expressions of a rank and joints between them
  run : {w : Scene} {l : Level} → ExprRule w (AnExpr (Run l)) (part 0 w (AnExpr (operand l)) (λ first. part 0 w (AnExpr (More l first)) give))
  run_end : {w : Scene} {l : Level} {left : ExprTree} → ExprRule w (AnExpr (More l left)) (give left)
  run_more : {w : Scene} {l : Level} {left : ExprTree} (j : Joint) → level_of j ≡ l → ExprRule w (AnExpr (More l left))
      (token 1 (sign (joint_sign j)) (λ t. part 1 w (AnExpr (operand l)) (λ right. part 1 w (AnExpr (More l (joined j t.pos left right))) give)))
  -- assignments, which lean to the right
  assignment : {w : Scene} → ExprRule w (AnExpr Assignment) (part 0 w (AnExpr Conditional) (λ left. part 0 w (AnExpr (Assigned left)) give))
  not_assigned : {w : Scene} {left : ExprTree} → ExprRule w (AnExpr (Assigned left)) (give left)
  assigned : {w : Scene} {left : ExprTree} → ExprRule w (AnExpr (Assigned left))
      (token 1 (sign signs.Assign) (λ t. part 1 w (AnExpr Assignment) (λ right. give (trees.Assign t.pos left right))))
  compound : {w : Scene} {left : ExprTree} (op : AssignOp) → ExprRule w (AnExpr (Assigned left))
      (token 1 (sign (assign_sign op)) (λ t. part 1 w (AnExpr Assignment) (λ right. give (trees.Compound t.pos op left right))))
  -- conditionals
  conditional : {w : Scene} → ExprRule w (AnExpr Conditional) (part 0 w (AnExpr (Run Ors)) (λ condition. part 0 w (AnExpr (Chosen condition)) give))
  not_chosen : {w : Scene} {condition : ExprTree} → ExprRule w (AnExpr (Chosen condition)) (give condition)
  chosen : {w : Scene} {condition : ExprTree} → ExprRule w (AnExpr (Chosen condition))
      (token 1 (sign signs.Question) (λ t. part 1 w (AnExpr Expression) (λ first. part 1 w (Close by_colon) (λ colon.
      part 1 w (AnExpr Conditional) (λ second. give (trees.Cond t.pos condition first second))))))
  -- casts
  cast : {w : Scene} → ExprRule w (AnExpr Cast)
      (only (type_ahead w) (token 1 (sign signs.LeftParenthesis) (λ t. part 2 w Specs (λ specs.
      part 2 w (ADeclarator (Declarator OfTypeName)) (λ declarator. part 2 w (Close by_parenthesis) (λ close. part 1 w (AnExpr Operand) (λ inner.
      give (trees.Cast t.pos specs declarator inner))))))))
  no_cast : {w : Scene} → ExprRule w (AnExpr Cast) (only (no_type_ahead w) (part 0 w (AnExpr Unary) give))
  operand_cast : {w : Scene} → ExprRule w (AnExpr Operand) (part 0 w (AnExpr Cast) give)
  -- unary forms
  unary : {w : Scene} (op : UnaryOp) → ExprRule w (AnExpr Unary)
      (token 1 (sign (unary_sign op)) (λ t. part 1 w (AnExpr Cast) (λ inner. give (trees.Unary t.pos op inner))))
  pre_step : {w : Scene} (way : StepWay) → ExprRule w (AnExpr Unary)
      (token 1 (sign (step_sign way)) (λ t. part 1 w (AnExpr Unary) (λ inner. give (trees.PreStep t.pos way inner))))
  size_of : {w : Scene} → ExprRule w (AnExpr Unary) (token 1 (keyword keywords.Sizeof) (λ t. part 1 w (AnExpr (Sized t.pos)) give))
  size_of_type : {w : Scene} {at : Pos} → ExprRule w (AnExpr (Sized at))
      (only (type_ahead w) (token 1 (sign signs.LeftParenthesis) (λ opening. part 1 w Specs (λ specs.
      part 1 w (ADeclarator (Declarator OfTypeName)) (λ declarator. part 1 w (Close by_parenthesis) (λ close. part 0 w AfterType (λ nothing.
      give (trees.SizeofType at specs declarator))))))))
  size_of_expr : {w : Scene} {at : Pos} → ExprRule w (AnExpr (Sized at))
      (only (no_type_ahead w) (part 0 w (AnExpr Unary) (λ inner. give (trees.SizeofExpr at inner))))
  after_type : {w : Scene} → ExprRule w AfterType (give tt)
  no_prefix : {w : Scene} → ExprRule w (AnExpr Unary) (part 0 w (AnExpr Postfix) give)
  -- postfix forms, which lean to the left
  postfix : {w : Scene} → ExprRule w (AnExpr Postfix) (part 0 w (AnExpr Primary) (λ base. part 0 w (AnExpr (Suffixes base)) give))
  no_suffix : {w : Scene} {base : ExprTree} → ExprRule w (AnExpr (Suffixes base)) (give base)
  index : {w : Scene} {base : ExprTree} → ExprRule w (AnExpr (Suffixes base))
      (token 2 (sign signs.LeftBracket) (λ t. part 2 w (AnExpr Expression) (λ at. part 2 w (Close by_bracket) (λ close.
      part 1 w (AnExpr (Suffixes (trees.Index t.pos base at))) give))))
  call : {w : Scene} {at : Pos} {name : List ℕ} → ExprRule w (AnExpr (Suffixes (trees.Word at name)))
      (token 2 (sign signs.LeftParenthesis) (λ t. part 2 w Arguments (λ args. part 1 w (AnExpr (Suffixes (trees.Call at name args))) give)))
  dot : {w : Scene} {base : ExprTree} → ExprRule w (AnExpr (Suffixes base))
      (token 1 (sign signs.Dot) (λ t. part 1 w MemberName (λ name. part 1 w (AnExpr (Suffixes (trees.Dot t.pos base name))) give)))
  arrow : {w : Scene} {base : ExprTree} → ExprRule w (AnExpr (Suffixes base))
      (token 1 (sign signs.Arrow) (λ t. part 1 w MemberName (λ name. part 1 w (AnExpr (Suffixes (trees.Arrow t.pos base name))) give)))
  post_step : {w : Scene} {base : ExprTree} (way : StepWay) → ExprRule w (AnExpr (Suffixes base))
      (token 1 (sign (step_sign way)) (λ t. part 1 w (AnExpr (Suffixes (trees.PostStep t.pos way base))) give))
  no_arguments : {w : Scene} → ExprRule w Arguments (token 0 (sign signs.RightParenthesis) (λ t. give no_exprs))
  arguments : {w : Scene} → ExprRule w Arguments (part 0 w (AnExpr Assignment) (λ first. part 0 w (MoreArguments (more_exprs first no_exprs)) give))
  arguments_end : {w : Scene} {before : ExprTrees} → ExprRule w (MoreArguments before) (token 0 (sign signs.RightParenthesis) (λ t. give before))
  arguments_more : {w : Scene} {before : ExprTrees} → ExprRule w (MoreArguments before)
      (token 0 (sign signs.Comma) (λ t. part 0 w (AnExpr Assignment) (λ next. part 0 w (MoreArguments (exprs_then before next)) give)))
  -- primary expressions
  a_word : {w : Scene} → ExprRule w (AnExpr Primary) (token 0 word (λ t. give (trees.Word t.pos (name_of t.token))))
  a_number : {w : Scene} → ExprRule w (AnExpr Primary) (token 0 number (λ t. give (trees.Number t.pos (constant_of t.token))))
  a_character : {w : Scene} → ExprRule w (AnExpr Primary) (token 0 character (λ t. give (trees.Character t.pos (byte_of t.token))))
  a_text : {w : Scene} → ExprRule w (AnExpr Primary) (token 0 text (λ t. part 0 w (AnExpr (Texts t.pos (bytes_of t.token))) give))
  texts_end : {w : Scene} {at : Pos} {before : List ℕ} → ExprRule w (AnExpr (Texts at before)) (give (trees.Strings at before))
  texts_more : {w : Scene} {at : Pos} {before : List ℕ} → ExprRule w (AnExpr (Texts at before))
      (token 0 text (λ t. part 0 w (AnExpr (Texts at (before ++ bytes_of t.token))) give))
  enclosed : {w : Scene} → ExprRule w (AnExpr Primary)
      (token 1 (sign signs.LeftParenthesis) (λ t. part 1 w (AnExpr Expression) (λ inner. part 1 w (Close by_parenthesis) (λ close.
      give (trees.Enclosed t.pos inner)))))
  -- what ends an expression or a type name, and the name of a member
  closes : {w : Scene} {p : Closing} → ExprRule w (Close p) (token 0 (sign (closing_sign p)) (λ t. give tt))
  member_name : {w : Scene} → ExprRule w MemberName (token 0 any_word (λ t. give (name_of t.token)))
  -- an expression, or nothing, before what ends it
  nothing_before : {w : Scene} {p : Closing} → ExprRule w (Optionally p) (token 0 (sign (closing_sign p)) (λ t. give None))
  something_before : {w : Scene} {p : Closing} → ExprRule w (Optionally p)
      (part 0 w (AnExpr Expression) (λ value. token 0 (sign (closing_sign p)) (λ t. give (Some value))))
