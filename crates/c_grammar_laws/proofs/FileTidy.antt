-- The productions of initialisers, declarations, statements and files are tidy.
use Rattle.std.proofs.Common.{◌≡◌, List, [], ◌∷◌, ◌++◌, Some, None, refl, sym, ap, ◌∙◌}
use Rattle.std.proofs.lemmas.List.{append-nil, append_assoc}
use Rattle.c_syntax_written.specs.WrittenDecl.{InitTree, InitTrees, no_inits, more_inits, inits_then, InitDeclaratorTree}
use Rattle.c_syntax_written.specs.WrittenFile.{BlockItemTree, BlockItemTrees, blockitems_then, OuterTree}
use Rattle.c_syntax_written.specs.WrittenFile as trees
use Rattle.c_grammar.specs.Parts.{Scene, Part, Value}
use Rattle.c_grammar.specs.Process.{Process}
use Rattle.c_grammar.specs.FileRules.{FileRule}
use Rattle.c_grammar.specs.FileRules as files
use Rattle.c_grammar.specs.Grammar.{Produces, expr_rule, type_rule, file_rule}
use Rattle.c_grammar_laws.specs.NodePlaces.{expr_places, init_places, inits_places, given_places, declarators_places, stmt_places, item_places, items_places, outer_places, outers_places}
use Rattle.c_grammar_laws.proofs.Tidy.{Tidy, AreTidy, tidy_give, tidy_token, tidy_sign, tidy_quiet, tidy_only, tidy_new, tidy_last, keep}
use Rattle.c_grammar_laws.proofs.ExprTidy.{expr_tidy, type_tidy}

then_inits : (list : InitTrees) (next : InitTree) → inits_places (inits_then list next) ≡ inits_places list ++ init_places next
unfolding inits_places inits_then
then_inits no_inits next = append-nil (init_places next)
then_inits (more_inits item rest) next = ap (λ ps. init_places item ++ ps) (then_inits rest next) ∙ sym (append_assoc (init_places item) (inits_places rest) (init_places next))

then_items : (list : BlockItemTrees) (next : BlockItemTree) → items_places (blockitems_then list next) ≡ items_places list ++ item_places next
unfolding items_places blockitems_then
then_items trees.none next = append-nil (item_places next)
then_items (trees.more item rest) next = ap (λ ps. item_places item ++ ps) (then_items rest next) ∙ sym (append_assoc (item_places item) (items_places rest) (item_places next))

then_declarators : (list : List InitDeclaratorTree) (next : InitDeclaratorTree) → declarators_places (list ++ next ∷ []) ≡ declarators_places list ++ given_places next.init
unfolding declarators_places
then_declarators [] next = append-nil (given_places next.init)
then_declarators (item ∷ rest) next =
    ap (λ ps. given_places item.init ++ ps) (then_declarators rest next) ∙ sym (append_assoc (given_places item.init) (declarators_places rest) (given_places next.init))

then_outers : (list : List OuterTree) (next : OuterTree) → outers_places (list ++ next ∷ []) ≡ outers_places list ++ outer_places next
unfolding outers_places
then_outers [] next = append-nil (outer_places next)
then_outers (item ∷ rest) next = ap (λ ps. outer_places item ++ ps) (then_outers rest next) ∙ sym (append_assoc (outer_places item) (outers_places rest) (outer_places next))

pub file_tidy : {w : Scene} {p : Part} {q : Process (Value p)} → FileRule w p q → Tidy p [] q
unfolding init_places inits_places declarators_places stmt_places item_places items_places outers_places
file_tidy files.value = tidy_new refl (λ e. tidy_give refl)
file_tidy files.braces = tidy_sign (λ t. tidy_new refl (λ items. tidy_give refl))
file_tidy files.initialisers = tidy_new refl (λ first. tidy_last (append-nil (init_places first)) keep)
file_tidy (files.initialisers_end {before = before}) = tidy_sign (λ t. tidy_give (sym (append-nil (inits_places before))))
file_tidy (files.initialisers_more {before = before}) = tidy_sign (λ t. tidy_last (sym (append-nil (inits_places before))) keep)
file_tidy (files.initialisers_comma_end {before = before}) = tidy_sign (λ t. tidy_give (sym (append-nil (inits_places before))))
file_tidy (files.initialisers_next {before = before}) = tidy_new refl (λ next. tidy_last (then_inits before next) keep)
file_tidy files.declaration = tidy_quiet (λ s. tidy_last refl keep)
file_tidy files.declared_nothing = tidy_sign (λ t. tidy_give refl)
file_tidy files.declared = tidy_quiet (λ d. tidy_last refl keep)
file_tidy (files.not_initialised {before = before} {d = d}) = tidy_last (then_declarators before (record { declarator = d; init = None })) keep
file_tidy (files.initialised {before = before} {d = d}) = tidy_sign (λ t. tidy_new refl (λ i. tidy_last (then_declarators before (record { declarator = d; init = Some i })) keep))
file_tidy (files.declaration_end {before = before}) = tidy_sign (λ t. tidy_give (sym (append-nil (declarators_places before))))
file_tidy (files.declaration_more {before = before}) = tidy_sign (λ t. tidy_quiet (λ d. tidy_last (sym (append-nil (declarators_places before))) keep))
file_tidy files.label = tidy_only (tidy_sign (λ t. tidy_sign (λ colon. tidy_only (tidy_new refl (λ body. tidy_give refl)))))
file_tidy files.case = tidy_sign (λ t. tidy_quiet (λ v. tidy_sign (λ colon. tidy_only (tidy_new refl (λ body. tidy_give refl)))))
file_tidy files.default_statement = tidy_sign (λ t. tidy_sign (λ colon. tidy_only (tidy_new refl (λ body. tidy_give refl))))
file_tidy files.block = tidy_sign (λ t. tidy_new refl (λ items. tidy_give refl))
file_tidy files.empty = tidy_sign (λ t. tidy_give refl)
file_tidy files.expression = tidy_only (tidy_new refl (λ e. tidy_sign (λ t. tidy_give refl)))
file_tidy files.if_statement = tidy_token (λ t. tidy_sign (λ opening. tidy_new refl (λ condition. tidy_quiet (λ close. tidy_only (tidy_new refl (λ first. tidy_last refl keep))))))
file_tidy (files.no_else {at = at} {condition = condition} {first = first}) = tidy_give (sym (append-nil (at ∷ expr_places condition ++ stmt_places first)))
file_tidy files.with_else = tidy_only (tidy_sign (λ t. tidy_only (tidy_new refl (λ second. tidy_give refl))))
file_tidy files.switch_statement = tidy_token (λ t. tidy_sign (λ opening. tidy_new refl (λ v. tidy_quiet (λ close. tidy_only (tidy_new refl (λ body. tidy_give refl))))))
file_tidy files.while_loop = tidy_token (λ t. tidy_sign (λ opening. tidy_new refl (λ condition. tidy_quiet (λ close. tidy_only (tidy_new refl (λ body. tidy_give refl))))))
file_tidy files.do_loop = tidy_token (λ t. tidy_only (tidy_new refl (λ body. tidy_sign (λ loop. tidy_sign (λ opening. tidy_new refl (λ condition. tidy_quiet (λ close. tidy_sign (λ end. tidy_give refl))))))))
file_tidy files.for_loop = tidy_token (λ t. tidy_sign (λ opening. tidy_new refl (λ start. tidy_new refl (λ condition. tidy_new refl (λ step. tidy_only (tidy_new refl (λ body. tidy_give refl)))))))
file_tidy files.jump = tidy_sign (λ t. tidy_sign (λ name. tidy_sign (λ end. tidy_give refl)))
file_tidy files.continue_statement = tidy_sign (λ t. tidy_sign (λ end. tidy_give refl))
file_tidy files.break_statement = tidy_sign (λ t. tidy_sign (λ end. tidy_give refl))
file_tidy files.return_statement = tidy_sign (λ t. tidy_new refl (λ v. tidy_give refl))
file_tidy files.for_nothing = tidy_sign (λ t. tidy_give refl)
file_tidy files.for_declares = tidy_only (tidy_new refl (λ d. tidy_give refl))
file_tidy files.for_value = tidy_only (tidy_new refl (λ e. tidy_sign (λ t. tidy_give refl)))
file_tidy (files.items_end {before = before}) = tidy_sign (λ t. tidy_give (sym (append-nil (items_places before))))
file_tidy (files.items_more {before = before}) = tidy_new refl (λ next. tidy_last (then_items before next) keep)
file_tidy files.item_declares = tidy_only (tidy_new refl (λ d. tidy_give refl))
file_tidy files.item_does = tidy_only (tidy_new refl (λ s. tidy_give refl))
file_tidy files.outer = tidy_quiet (λ s. tidy_last refl keep)
file_tidy files.outer_nothing = tidy_sign (λ t. tidy_give refl)
file_tidy files.outer_declared = tidy_quiet (λ d. tidy_last refl keep)
file_tidy files.outer_initial = tidy_new refl (λ decl. tidy_give refl)
file_tidy files.outer_function = tidy_sign (λ t. tidy_new refl (λ body. tidy_give refl))
file_tidy (files.file_end {before = before}) = tidy_only (tidy_give (sym (append-nil (outers_places before))))
file_tidy (files.file_more {before = before}) = tidy_new refl (λ next. tidy_last (then_outers before next) keep)

all_tidy : {w : Scene} {p : Part} {q : Process (Value p)} → Produces w p q → Tidy p [] q
all_tidy (expr_rule r) = expr_tidy r
all_tidy (type_rule r) = type_tidy r
all_tidy (file_rule r) = file_tidy r

pub tidy : AreTidy
tidy = record { produces = all_tidy }
