-- Statements form by form, as the code makes them of their parts.
use Rattle.std.proofs.Common.{◌≡◌, refl, ap, ◌∙◌, subst, List, [], ◌++◌}
use Rattle.std.specs.Prelude.{ℕ, Option, Some, None}
use Rattle.std.proofs.lemmas.List.{append-nil}
use Rattle.c_syntax_written.specs.declared.place.Pos.{Pos}
use Rattle.c_syntax_written.specs.Written.{ExprTree}
use Rattle.c_syntax_written.specs.WrittenFile as files
use Rattle.c_syntax_written.specs.WrittenFile.{ForStartTree, StmtTree, BlockItemTree, BlockItemTrees}
use Rattle.c_syntax_written.specs.WrittenParts.{expr_pos, stmt_pos}
use Rattle.c_syntax.specs.declared.statement.BlockKind.TheVariants as kinds
use Rattle.c_syntax.specs.TypedStmt.{TStmtTree, TStmtTrees, none, more, Block, If, While, DoWhile, For, Switch, Label, Case, Break, Continue}
use Rattle.c_syntax.specs.TypedStmt as trees
use Rattle.c_typing.specs.Constants.{constant_value}
use Rattle.c_typing.specs.Context.{Context, inside_block, inside_loop, inside_switch}
use Rattle.c_typing.specs.Decls.{Made, nothing_made, made_then, both, TypesDecl}
use Rattle.c_typing.specs.Names.{opened, closed}
use Rattle.c_typing.specs.Stmts.{TypesStmt, TypesItems, TypesStart, Condition, Dropped, Perhaps, Switched, SwitchValue, switch_node, one, with_items, labelled, case_of, default_of, goto_of, allowed, no_else, without_cases, with_cases_of}
use Rattle.c_typing.specs.World.{World, Outcome, Typed, Then, goes_on, stops, Is}
use Rattle.c_check_stmts.specs.PartForms.{Labels, Cases, Returns}
use Rattle.c_check_stmts.specs.Forms.{Behind, BehindPrefix, ItemForm, Substatement, SwitchBody, SwitchForm, WrittenBody, AddedBody, bare}
use Rattle.c_check_stmts.proofs.Parts.{then_made, apart, together, then_so, turned, then_turned, remade}

-- ---- what stands behind what

abbrev made_of : List ℕ → TStmtTrees → Made
made_of objects items = record { objects = objects; items = items }

pub bare_made : (items : TStmtTrees) → with_items nothing_made items ≡ bare items
unfolding both
bare_made items = refl

both_one : (xs : TStmtTrees) (node : TStmtTree) (items : TStmtTrees) → both (both xs (one node)) items ≡ both xs (more node items)
unfolding both
both_one none node items = refl
both_one (more x xs) node items = ap (more x) (both_one xs node items)

more_behind : (done : Made) (node : TStmtTree) (items : TStmtTrees) → with_items (with_items done (one node)) items ≡ with_items done (more node items)
more_behind done node items =
    ap (λ objects. made_of objects (both (both done.items (one node)) items)) (append-nil (done.objects ++ []))
    ∙ ap (made_of (done.objects ++ [])) (both_one done.items node items)

-- the first statement of a block
pub first_line : (w u : World) (around : Context) (done : Made) (s : StmtTree) (o : Outcome Made) → u ≡ w → done ≡ nothing_made
    → Behind u around done s o → Then (TypesStmt w around s) (λ items w1. Is (Typed (bare items) w1)) o
first_line w u around done s o e f p =
    subst (λ v. Then (TypesStmt v around s) (λ items w1. Is (Typed (bare items) w1)) o) e
    (then_so (λ items w1 q. q ∙ ap (λ (made : Made). Typed made w1) (ap (λ d. with_items d items) f ∙ bare_made items)) p)

pub substatement_line : (w u : World) (around : Context) (done : Made) (s : StmtTree) (o : Outcome Made) → u ≡ opened w → done ≡ nothing_made
    → Behind u around done s o
    → Substatement w around s (turned (λ (made : Made). Block (stmt_pos s) kinds.Added made.objects made.items) (closed w) o)
substatement_line w u around done s o e f p =
    then_turned (λ (made : Made). Block (stmt_pos s) kinds.Added made.objects made.items) (closed w) o (first_line (opened w) u around done s o e f p)

-- ---- labels and cases

pub prefix_line : (w : World) (around : Context) (done next : Made) (node : TStmtTree) (s : StmtTree) (o : Outcome Made) → next ≡ with_items done (one node)
    → Behind w around next s o → BehindPrefix w around done node s o
prefix_line w around done next node s o e p =
    then_so (λ items w1 q. q ∙ ap (λ (made : Made). Typed made w1) (ap (λ d. with_items d items) e ∙ more_behind done node items)) p

abbrev AllBehind : Made → TStmtTrees → World → Outcome Made → Type 0
AllBehind done items w o = Is (Typed (with_items done items) w) o

-- with what stands before the statement
abbrev Prefixed : Context → StmtTree → TStmtTree → World → Outcome TStmtTrees → Type 0
Prefixed around s node w o = Then (TypesStmt w around s) (λ items w1. Is (Typed (more node items) w1)) o

prefixed : (w : World) (around : Context) (done : Made) (node : TStmtTree) (s : StmtTree) (o : Outcome Made) → BehindPrefix w around done node s o
    → Then (Prefixed around s node w) (AllBehind done) o
prefixed w around done node s o (goes_on p e) = goes_on (goes_on p refl) e
prefixed w around done node s _ (stops p) = stops (stops p)

prefix_then : {A : Type 0} {first : Outcome A → Type 0} {node : A → TStmtTree} (around : Context) (done : Made) (s : StmtTree) (o : Outcome Made)
    → Then (Then first (λ x w. Is (Typed (node x) w))) (λ n w. BehindPrefix w around done n s) o
    → Then (Then first (λ x w. Prefixed around s (node x) w)) (AllBehind done) o
prefix_then {first = first} {node = node} around done s o p =
    together (then_so (λ x w. prefixed w around done (node x) s o)
    (then_made {first = first} {made = λ x w. node x} {last = λ n w. BehindPrefix w around done n s} {o = o} p))

pub label_line : (w : World) (around : Context) (done : Made) (at : Pos) (name : List ℕ) (s : StmtTree) (o : Outcome Made)
    → Then (Labels w at name) (λ node w1. BehindPrefix w1 around done node s) o → Behind w around done (files.Label at name s) o
unfolding TypesStmt
label_line w around done at name s o p = prefix_then {first = Is (labelled w at name)} {node = Label at} around done s o p

pub case_line : (w : World) (around : Context) (done : Made) (at : Pos) (value : ExprTree) (s : StmtTree) (o : Outcome Made)
    → Then (Cases w at around.switch value) (λ node w1. BehindPrefix w1 around done node s) o → Behind w around done (files.Case at value s) o
unfolding TypesStmt
case_line w around done at value s o p =
    together (then_so (λ x w1. prefix_then {first = Is (case_of w1 at (expr_pos value) around.switch (constant_value x))} {node = Case at} around done s o) (apart p))

pub default_line : (w : World) (around : Context) (done : Made) (at : Pos) (s : StmtTree) (o : Outcome Made)
    → Then (Is (default_of w at around.switch)) (λ node w1. BehindPrefix w1 around done node s) o → Behind w around done (files.Default at s) o
unfolding TypesStmt
default_line w around done at s o p = together (then_so (λ node w1. prefixed w1 around done node s o) p)

-- ---- items of a block

pub no_items_line : (w : World) (around : Context) (done : Made) (o : Outcome Made) → o ≡ Typed done w → TypesItems w around done files.none o
unfolding TypesItems
no_items_line w around done o p = p

pub items_line : (w : World) (around : Context) (done : Made) (item : BlockItemTree) (rest : BlockItemTrees) (o : Outcome Made)
    → Then (ItemForm w around done item) (λ made w1. TypesItems w1 around made rest) o → TypesItems w around done (files.more item rest) o
unfolding TypesItems
items_line w around done (files.Declaration decl) rest o p =
    then_made {first = TypesDecl w around decl} {made = λ made w1. made_then done made} {last = λ made w1. TypesItems w1 around made rest} {o = o} p
items_line w around done (files.Statement s) rest o p =
    then_made {first = TypesStmt w around s} {made = λ items w1. with_items done items} {last = λ made w1. TypesItems w1 around made rest} {o = o} p

-- ---- blocks, and statements that hold others

-- a statement made of its parts, with the program that is left
pub made_so : (s t : TStmtTree) (w v : World) → s ≡ t → w ≡ v → Typed (one s) w ≡ Typed (one t) v
made_so s t w v e f = ap (λ node. Typed (one node) w) e ∙ ap (λ u. Typed (one t) u) f

pub block_line : (w u : World) (around inner : Context) (at : Pos) (items : BlockItemTrees) (o : Outcome TStmtTrees) → u ≡ opened w → inner ≡ inside_block around
    → Then (TypesItems u inner nothing_made items) (λ made w1. Is (Typed (one (Block at kinds.Written made.objects made.items)) (closed w w1))) o
    → TypesStmt w around (files.Block at items) o
unfolding TypesStmt
block_line w u around inner at items o e f p =
    subst (λ v. Then (TypesItems v (inside_block around) nothing_made items)
    (λ made w1. Is (Typed (one (Block at kinds.Written made.objects made.items)) (closed w w1))) o) e
    (subst (λ c. Then (TypesItems u c nothing_made items) (λ made w1. Is (Typed (one (Block at kinds.Written made.objects made.items)) (closed w w1))) o) f p)

pub if_line : (w u : World) (around inner : Context) (at : Pos) (e : ExprTree) (first : StmtTree) (o : Outcome TStmtTrees) → u ≡ opened w
    → inner ≡ inside_block around
    → Then (Condition u at e) (λ c w1. Then (Substatement w1 inner first) (λ a w2. Is (Typed (one (If at c a (no_else at))) (closed w w2)))) o
    → TypesStmt w around (files.If at e first) o
unfolding TypesStmt
if_line w u around inner at e first o f g p =
    subst (λ v. Then (Condition v at e) (λ c w1. Then (Substatement w1 (inside_block around) first)
    (λ a w2. Is (Typed (one (If at c a (no_else at))) (closed w w2)))) o) f
    (subst (λ i. Then (Condition u at e) (λ c w1. Then (Substatement w1 i first) (λ a w2. Is (Typed (one (If at c a (no_else at))) (closed w w2)))) o) g p)

pub if_else_line : (w u : World) (around inner again : Context) (at : Pos) (e : ExprTree) (first second : StmtTree) (o : Outcome TStmtTrees) → u ≡ opened w
    → inner ≡ inside_block around → again ≡ inside_block around
    → Then (Condition u at e) (λ c w1. Then (Substatement w1 inner first) (λ a w2. Then (Substatement w2 again second)
    (λ b w3. Is (Typed (one (If at c a b)) (closed w w3))))) o
    → TypesStmt w around (files.IfElse at e first second) o
unfolding TypesStmt
if_else_line w u around inner again at e first second o f g h p =
    subst (λ v. Then (Condition v at e) (λ c w1. Then (Substatement w1 (inside_block around) first) (λ a w2. Then (Substatement w2 (inside_block around) second)
    (λ b w3. Is (Typed (one (If at c a b)) (closed w w3))))) o) f
    (subst (λ i. Then (Condition u at e) (λ c w1. Then (Substatement w1 i first) (λ a w2. Then (Substatement w2 (inside_block around) second)
    (λ b w3. Is (Typed (one (If at c a b)) (closed w w3))))) o) g
    (subst (λ j. Then (Condition u at e) (λ c w1. Then (Substatement w1 inner first) (λ a w2. Then (Substatement w2 j second)
    (λ b w3. Is (Typed (one (If at c a b)) (closed w w3))))) o) h p))

pub while_line : (w u : World) (around inner : Context) (at : Pos) (e : ExprTree) (body : StmtTree) (o : Outcome TStmtTrees) → u ≡ opened w
    → inner ≡ inside_loop around
    → Then (Condition u at e) (λ c w1. Then (Substatement w1 inner body) (λ b w2. Is (Typed (one (While at c b)) (closed w w2)))) o
    → TypesStmt w around (files.While at e body) o
unfolding TypesStmt
while_line w u around inner at e body o f g p =
    subst (λ v. Then (Condition v at e) (λ c w1. Then (Substatement w1 (inside_loop around) body) (λ b w2. Is (Typed (one (While at c b)) (closed w w2)))) o) f
    (subst (λ i. Then (Condition u at e) (λ c w1. Then (Substatement w1 i body) (λ b w2. Is (Typed (one (While at c b)) (closed w w2)))) o) g p)

pub do_while_line : (w u : World) (around inner : Context) (at : Pos) (body : StmtTree) (e : ExprTree) (o : Outcome TStmtTrees) → u ≡ opened w
    → inner ≡ inside_loop around
    → Then (Substatement u inner body) (λ b w1. Then (Condition w1 at e) (λ c w2. Is (Typed (one (DoWhile at b c)) (closed w w2)))) o
    → TypesStmt w around (files.DoWhile at body e) o
unfolding TypesStmt
do_while_line w u around inner at body e o f g p =
    subst (λ v. Then (Substatement v (inside_loop around) body) (λ b w1. Then (Condition w1 at e) (λ c w2. Is (Typed (one (DoWhile at b c)) (closed w w2)))) o) f
    (subst (λ i. Then (Substatement u i body) (λ b w1. Then (Condition w1 at e) (λ c w2. Is (Typed (one (DoWhile at b c)) (closed w w2)))) o) g p)

-- a for, from its beginning on
abbrev pub ForForm : World → World → Context → Context → Pos → ForStartTree → Option ExprTree → Option ExprTree → StmtTree → Outcome TStmtTrees → Type 0
ForForm w u inner turn at start condition step body o =
    Then (TypesStart u inner start) (λ made w1.
    Then (Perhaps w1 (λ v e. Condition v at e) condition) (λ c w2.
    Then (Perhaps w2 Dropped step) (λ s w3.
    Then (Substatement w3 turn body) (λ b w4. Is (Typed (one (For at made.objects made.items c s b)) (closed w w4)))))) o

pub for_line : (w u : World) (around inner turn : Context) (at : Pos) (start : ForStartTree) (condition step : Option ExprTree) (body : StmtTree)
    (o : Outcome TStmtTrees) → u ≡ opened w → inner ≡ inside_block around → turn ≡ inside_loop around
    → ForForm w u inner turn at start condition step body o → TypesStmt w around (files.For at start condition step body) o
unfolding TypesStmt
for_line w u around inner turn at start condition step body o e f g p =
    subst (λ v. ForForm w v (inside_block around) (inside_loop around) at start condition step body o) e
    (subst (λ i. ForForm w u i (inside_loop around) at start condition step body o) f
    (subst (λ j. ForForm w u inner j at start condition step body o) g p))

-- ---- switches

abbrev switch_of : Pos → Switched → SwitchBody → TStmtTree
switch_of at by body = Switch at by.value body.kind body.made.objects body.made.items

-- the statement below a switch is a block
written_switch : (w v : World) (inner : Context) (at : Pos) (by : Switched) (items : BlockItemTrees) (o : Outcome TStmtTrees)
    → Then (WrittenBody v inner items) (λ body w2. Is (Typed (one (switch_of at by body)) (with_cases_of w (closed w w2)))) o
    → Then (Then (TypesItems (opened v) inner nothing_made items) (λ made w1. Is (Typed (one (switch_node at by made)) (closed v w1))))
    (λ made w2. Is (Typed made (with_cases_of w (closed w w2)))) o
written_switch w v inner at by items o p =
    remade {first = TypesItems (opened v) inner nothing_made items} {made = λ made. record { kind = kinds.Written; made = made }} {inner = closed v}
    {outer = λ w2. with_cases_of w (closed w w2)} (λ body. one (switch_of at by body)) o p

-- and otherwise a block is added
added_switch : (w v : World) (inner : Context) (at : Pos) (by : Switched) (s : StmtTree) (o : Outcome TStmtTrees)
    → Then (AddedBody v inner s) (λ body w2. Is (Typed (one (switch_of at by body)) (with_cases_of w (closed w w2)))) o
    → Then (TypesStmt (opened v) inner s) (λ items w2. Is (Typed (one (Switch at by.value kinds.Added [] items)) (with_cases_of w (closed w w2)))) o
added_switch w v inner at by s o p =
    then_made {first = TypesStmt (opened v) inner s} {made = λ items w1. record { kind = kinds.Added; made = bare items }}
    {last = λ body w2. Is (Typed (one (switch_of at by body)) (with_cases_of w (closed w w2)))} {o = o} p

abbrev AddedSwitch : World → Context → Pos → ExprTree → StmtTree → Outcome TStmtTrees → Type 0
AddedSwitch w around at value s o =
    Then (SwitchValue (opened w) at value) (λ by w1. Then (TypesStmt (opened (without_cases w1)) (inside_switch by.ty around) s)
    (λ items w2. Is (Typed (one (Switch at by.value kinds.Added [] items)) (with_cases_of w (closed w w2))))) o

added : (w : World) (around : Context) (at : Pos) (value : ExprTree) (s : StmtTree) (o : Outcome TStmtTrees)
    → Then (SwitchValue (opened w) at value) (λ by w1. Then (AddedBody (without_cases w1) (inside_switch by.ty around) s)
    (λ body w2. Is (Typed (one (switch_of at by body)) (with_cases_of w (closed w w2))))) o
    → AddedSwitch w around at value s o
added w around at value s o = then_so (λ by w1. added_switch w (without_cases w1) (inside_switch by.ty around) at by s o)

plain_switch : (w : World) (around : Context) (at : Pos) (value : ExprTree) (s : StmtTree) (o : Outcome TStmtTrees) → SwitchForm w (opened w) around at value s o
    → TypesStmt w around (files.Switch at value s) o
unfolding TypesStmt
plain_switch w around at value (files.Block block_at items) o p =
    then_so (λ by w1. written_switch w (without_cases w1) (inside_switch by.ty around) at by items o) p
plain_switch w around at value (files.Label name_at name body) o p = added w around at value (files.Label name_at name body) o p
plain_switch w around at value (files.Case case_at e body) o p = added w around at value (files.Case case_at e body) o p
plain_switch w around at value (files.Default default_at body) o p = added w around at value (files.Default default_at body) o p
plain_switch w around at value (files.Empty empty_at) o p = added w around at value (files.Empty empty_at) o p
plain_switch w around at value (files.Expression expression_at e) o p = added w around at value (files.Expression expression_at e) o p
plain_switch w around at value (files.If if_at e first) o p = added w around at value (files.If if_at e first) o p
plain_switch w around at value (files.IfElse if_at e first second) o p = added w around at value (files.IfElse if_at e first second) o p
plain_switch w around at value (files.Switch switch_at e body) o p = added w around at value (files.Switch switch_at e body) o p
plain_switch w around at value (files.While while_at e body) o p = added w around at value (files.While while_at e body) o p
plain_switch w around at value (files.DoWhile do_at body e) o p = added w around at value (files.DoWhile do_at body e) o p
plain_switch w around at value (files.For for_at start condition step body) o p = added w around at value (files.For for_at start condition step body) o p
plain_switch w around at value (files.Goto goto_at name) o p = added w around at value (files.Goto goto_at name) o p
plain_switch w around at value (files.Continue continue_at) o p = added w around at value (files.Continue continue_at) o p
plain_switch w around at value (files.Break break_at) o p = added w around at value (files.Break break_at) o p
plain_switch w around at value (files.Return return_at e) o p = added w around at value (files.Return return_at e) o p

pub switch_line : (w u : World) (around : Context) (at : Pos) (value : ExprTree) (s : StmtTree) (o : Outcome TStmtTrees) → u ≡ opened w
    → SwitchForm w u around at value s o → TypesStmt w around (files.Switch at value s) o
switch_line w u around at value s o e p =
    plain_switch w around at value s o (subst (λ v. SwitchForm w v around at value s o) e p)

-- ---- what holds no statement

pub empty_line : (w : World) (around : Context) (at : Pos) (o : Outcome TStmtTrees) → o ≡ Typed (one (trees.Empty at)) w → TypesStmt w around (files.Empty at) o
unfolding TypesStmt
empty_line w around at o p = p

pub expression_line : (w : World) (around : Context) (at : Pos) (e : ExprTree) (o : Outcome TStmtTrees)
    → Then (Dropped w e) (λ x w1. Is (Typed (one (trees.Expr at x)) w1)) o → TypesStmt w around (files.Expression at e) o
unfolding TypesStmt
expression_line w around at e o p = p

pub goto_line : (w : World) (around : Context) (at : Pos) (name : List ℕ) (o : Outcome TStmtTrees) → o ≡ goto_of w around at name
    → TypesStmt w around (files.Goto at name) o
unfolding TypesStmt
goto_line w around at name o p = p

pub continue_line : (w : World) (around : Context) (at : Pos) (o : Outcome TStmtTrees) → o ≡ allowed w at around.continues (Continue at)
    → TypesStmt w around (files.Continue at) o
unfolding TypesStmt
continue_line w around at o p = p

pub break_line : (w : World) (around : Context) (at : Pos) (o : Outcome TStmtTrees) → o ≡ allowed w at around.breaks (Break at)
    → TypesStmt w around (files.Break at) o
unfolding TypesStmt
break_line w around at o p = p

pub return_line : (w : World) (around : Context) (at : Pos) (value : Option ExprTree) (o : Outcome TStmtTrees) → Returns w at around.result value o
    → TypesStmt w around (files.Return at value) o
unfolding TypesStmt
return_line w around at None o p = p
return_line w around at (Some e) o p = p

-- ---- what stands below a switch

pub added_line : (w u : World) (around : Context) (done : Made) (s : StmtTree) (o : Outcome Made) → u ≡ opened w → done ≡ nothing_made
    → Behind u around done s o → AddedBody w around s (turned (λ (made : Made). let body : SwitchBody = record { kind = kinds.Added; made = made } in body) (λ v. v) o)
added_line w u around done s o e f p =
    then_turned (λ (made : Made). let body : SwitchBody = record { kind = kinds.Added; made = made } in body) (λ v. v) o (first_line (opened w) u around done s o e f p)

pub written_line : (w u : World) (around : Context) (items : BlockItemTrees) (o : Outcome SwitchBody) → u ≡ opened w
    → Then (TypesItems u around nothing_made items) (λ made w1. Is (Typed (record { kind = kinds.Written; made = made }) (closed w w1))) o
    → WrittenBody w around items o
written_line w u around items o e p =
    subst (λ v. Then (TypesItems v around nothing_made items) (λ made w1. Is (Typed (record { kind = kinds.Written; made = made }) (closed w w1))) o) e p
