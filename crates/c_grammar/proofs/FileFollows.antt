-- What follows the parts of the productions of initialisers, declarations, statements and files.
use Rattle.std.proofs.Common.{◌≡◌, refl, sym, ◌∙◌, subst, Bool, true, false, not, ◌&&◌, List, lit≤}
use Rattle.c_syntax_written.specs.declared.place.Pos.{Pos}
use Rattle.c_syntax_written.specs.declared.token.Placed.{Placed}
use Rattle.c_syntax_written.specs.Written.{ExprTree}
use Rattle.c_syntax_written.specs.WrittenFile.{StmtTree}
use Rattle.c_syntax_written.specs.WrittenFile as trees
use Rattle.c_grammar.specs.Parts.{Scene, Part, within, Statement, Else, AStmt, Value}
use Rattle.c_grammar.specs.declared.class.Class.{Class}
use Rattle.c_grammar.specs.Process.{Process, give, part}
use Rattle.c_grammar.specs.Made.{ends_open}
use Rattle.c_grammar.specs.Ahead.{is_spec_word}
use Rattle.c_grammar.specs.FileRules.{FileRule, substatement}
use Rattle.c_grammar.specs.FileRules as files
use Rattle.c_grammar.specs.Grammar.{Derives, by, expr_rule, type_rule, file_rule, Spells}
use Rattle.c_grammar.specs.Choice.{is_else_word}
use Rattle.c_grammar.proofs.Table.{Quiet, WellFollowed, well_give, well_part, well_only}
use Rattle.c_grammar.proofs.Sets.{apart, inside}
use Rattle.c_grammar.proofs.Firsts.{begins, continues, by_token}
use Rattle.c_grammar.proofs.Spelled.{spelled, no_spelling}
use Rattle.c_grammar.proofs.Followed.{ahead, silent, last, closed, plain, nested, behind_leads, behind_whole}
use Rattle.c_grammar.proofs.Own.{never}

-- an else continues the statement, where it ends open
abbrev else_where : Bool → Class → Bool
else_where b c = by_token is_else_word c && b

else_itself : (b : Bool) → inside (else_where b) (else_where b) ≡ true
else_itself true = refl
else_itself false = refl

else_item : (b : Bool) → inside (else_where b) (by_token is_else_word) ≡ true
else_item true = refl
else_item false = refl

else_open : (b : Bool) → inside (else_where b) (else_where true) ≡ true
else_open true = refl
else_open false = refl

else_apart : (b : Bool) → apart (λ c. by_token is_else_word c && not b) (else_where b) ≡ true
else_apart true = refl
else_apart false = refl

-- an else that reads nothing leaves an if
else_none : {w : Scene} {at : Pos} {condition : ExprTree} {first : StmtTree} {ts : List Placed} {v : StmtTree} → Derives w (AStmt (Else at condition first)) ts ts v → v ≡ trees.If at condition first
else_none (by (file_rule files.no_else) s) = sym (spelled s)
else_none (by (file_rule files.with_else) s) = no_spelling refl s
else_none (by (expr_rule r) s) = elim r [ ]
else_none (by (type_rule r) s) = elim r [ ]

if_quiet : (w : Scene) (b : Bool) (at : Pos) (condition : ExprTree) (first : StmtTree) (ts : List Placed) (v : StmtTree) → Spells w (AStmt (Statement b)) (part 0 w (AStmt (Else at condition first)) give) ts ts v → Quiet continues w (AStmt (Statement b)) v ts → Quiet continues (within w) (AStmt (Statement false)) first ts
unfolding ends_open
if_quiet w b at condition first ts v s quiet = behind_whole w (within w) (AStmt (Statement b)) (AStmt (Statement false)) first (trees.If at condition first) ts refl (else_open (ends_open first)) (subst (λ v. Quiet continues w (AStmt (Statement b)) v ts) (sym (spelled (spelled s).2) ∙ else_none (spelled s).1) quiet)

if_follows : {w : Scene} {b : Bool} {at : Pos} {condition : ExprTree} → WellFollowed begins continues w (AStmt (Statement b)) (substatement (within w) false (λ first. part 0 w (AStmt (Else at condition first)) give))
if_follows {w} {b} {at} {condition} = well_only (well_part (λ first. (behind_leads w (within w) (AStmt (Statement b)) (AStmt (Statement false)) first (part 0 w (AStmt (Else at condition first)) give) refl (refl, else_apart (ends_open first), λ v e. tt), if_quiet w b at condition first)) (λ first. lit≤ tt) (λ first. last refl (λ v. else_itself (ends_open v))))

pub file_follows : {w : Scene} {p : Part} {q : Process (Value p)} → FileRule w p q → WellFollowed begins continues w p q
unfolding is_spec_word ends_open
file_follows files.value = last refl (λ a. refl)
file_follows files.braces = nested (lit≤ tt) (λ t f. closed (λ a c. refl))
file_follows files.initialisers = ahead refl (λ a. (refl, refl, λ b e. never e)) (λ a. refl) (λ a. lit≤ tt) (λ a. closed (λ b c. refl))
file_follows files.initialisers_end = plain refl (λ t f. well_give)
file_follows files.initialisers_more = plain refl (λ t f. closed (λ b c. refl))
file_follows files.initialisers_comma_end = plain refl (λ t f. well_give)
file_follows files.initialisers_next = ahead refl (λ a. (refl, refl, λ b e. never e)) (λ a. refl) (λ a. lit≤ tt) (λ a. closed (λ b c. refl))
file_follows files.declaration = ahead refl (λ s. (refl, refl, λ b e. never e)) (λ s. refl) (λ s. lit≤ tt) (λ s. closed (λ b c. refl))
file_follows files.declared_nothing = plain refl (λ t f. well_give)
file_follows files.declared = ahead refl (λ d. (refl, refl, λ b e. never e)) (λ d. refl) (λ d. lit≤ tt) (λ d. closed (λ b c. refl))
file_follows files.not_initialised = closed (λ b c. refl)
file_follows files.initialised = plain refl (λ t f. ahead refl (λ i. (refl, refl, λ b e. never e)) (λ i. refl) (λ i. lit≤ tt) (λ i. closed (λ b c. refl)))
file_follows files.declaration_end = plain refl (λ t f. well_give)
file_follows files.declaration_more = plain refl (λ t f. ahead refl (λ d. (refl, refl, λ b e. never e)) (λ d. refl) (λ d. lit≤ tt) (λ d. closed (λ b c. refl)))
file_follows files.label = well_only (plain refl (λ t f. plain refl (λ c g. well_only (last refl (λ body. else_itself (ends_open body))))))
file_follows files.case = plain refl (λ t f. ahead refl (λ v. refl) (λ v. refl) (λ v. tt) (λ v. plain refl (λ c g. well_only (last refl (λ body. else_itself (ends_open body))))))
file_follows files.default_statement = plain refl (λ t f. plain refl (λ c g. well_only (last refl (λ body. else_itself (ends_open body)))))
file_follows files.block = nested (lit≤ tt) (λ t f. closed (λ a c. refl))
file_follows files.empty = plain refl (λ t f. well_give)
file_follows files.expression = well_only (ahead refl (λ v. refl) (λ v. refl) (λ v. tt) (λ v. plain refl (λ t f. well_give)))
file_follows files.if_statement = plain refl (λ t f. nested (lit≤ tt) (λ o g. ahead refl (λ v. (refl, refl, λ x e. never e)) (λ v. refl) (λ v. lit≤ tt) (λ v. silent (λ c d. refl) (λ c. lit≤ tt) (λ c. if_follows))))
file_follows files.no_else = well_give
file_follows files.with_else = well_only (plain refl (λ t f. well_only (last refl (λ body. else_itself (ends_open body)))))
file_follows files.switch_statement = plain refl (λ t f. nested (lit≤ tt) (λ o g. ahead refl (λ v. (refl, refl, λ x e. never e)) (λ v. refl) (λ v. lit≤ tt) (λ v. silent (λ c d. refl) (λ c. lit≤ tt) (λ c. well_only (last refl (λ body. else_itself (ends_open body)))))))
file_follows files.while_loop = plain refl (λ t f. nested (lit≤ tt) (λ o g. ahead refl (λ v. (refl, refl, λ x e. never e)) (λ v. refl) (λ v. lit≤ tt) (λ v. silent (λ c d. refl) (λ c. lit≤ tt) (λ c. well_only (last refl (λ body. else_itself (ends_open body)))))))
file_follows files.do_loop = plain refl (λ t f. well_only (ahead refl (λ body. refl) (λ body. refl) (λ body. tt) (λ body. plain refl (λ l g. nested (lit≤ tt) (λ o h. ahead refl (λ v. (refl, refl, λ x e. never e)) (λ v. refl) (λ v. lit≤ tt) (λ v. silent (λ c d. refl) (λ c. tt) (λ c. plain refl (λ e j. well_give))))))))
file_follows files.for_loop = plain refl (λ t f. nested (lit≤ tt) (λ o g. silent (λ a c. refl) (λ a. lit≤ tt) (λ a. silent (λ b c. refl) (λ b. lit≤ tt) (λ b. silent (λ d c. refl) (λ d. lit≤ tt) (λ d. well_only (last refl (λ body. else_itself (ends_open body))))))))
file_follows files.jump = plain refl (λ t f. plain refl (λ n g. plain refl (λ e h. well_give)))
file_follows files.continue_statement = plain refl (λ t f. plain refl (λ e g. well_give))
file_follows files.break_statement = plain refl (λ t f. plain refl (λ e g. well_give))
file_follows files.return_statement = plain refl (λ t f. closed (λ a c. refl))
file_follows files.for_nothing = plain refl (λ t f. well_give)
file_follows files.for_declares = well_only (closed (λ a c. refl))
file_follows files.for_value = well_only (ahead refl (λ v. refl) (λ v. refl) (λ v. tt) (λ v. plain refl (λ t f. well_give)))
file_follows files.items_end = plain refl (λ t f. well_give)
file_follows files.items_more = ahead refl (λ a. (refl, refl, λ b e. never e)) (λ a. refl) (λ a. lit≤ tt) (λ a. closed (λ b c. refl))
file_follows files.item_declares = well_only (closed (λ a c. refl))
file_follows files.item_does = well_only (last refl (λ s. else_item (ends_open s)))
file_follows files.outer = ahead refl (λ s. (refl, refl, λ b e. never e)) (λ s. refl) (λ s. lit≤ tt) (λ s. closed (λ b c. refl))
file_follows files.outer_nothing = plain refl (λ t f. well_give)
file_follows files.outer_declared = ahead refl (λ d. (refl, refl, λ b e. never e)) (λ d. refl) (λ d. lit≤ tt) (λ d. closed (λ b c. refl))
file_follows files.outer_initial = closed (λ a c. refl)
file_follows files.outer_function = nested (lit≤ tt) (λ t f. closed (λ a c. refl))
file_follows files.file_end = well_only well_give
file_follows files.file_more = silent (λ a c. refl) (λ a. lit≤ tt) (λ a. closed (λ b c. refl))
