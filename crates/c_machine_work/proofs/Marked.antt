-- Items of a block that are gone through one by one: for a mark from the first on, and for what is done from the last on.
use Rattle.std.proofs.Common.{◌≡◌, ℕ, ◌+◌, ◌<◌, ◌≤◌, Bool, true, false, List, ◌∷◌, length, drop, get_or, if◌then◌else◌, sym, ap, ◌∙◌}
use Rattle.std.specs.declared.rc.Rc.{Rc}
use Rattle.std.specs.declared.alloc.Global.{Global}
use Rattle.std.proofs.Math.ListN.{drop_of_length-le}
use Rattle.std.proofs.Math.Seq.{drop-length}
use Rattle.std.proofs.lemmas.List.{drop_more}
use Rattle.c_syntax.specs.TypedStmt.{more}
use Rattle.c_machine_trees.specs.declared.statement.SharedStmt.{SharedStmt}
use Rattle.c_machine_trees.specs.Statements.{stmt_tree, stmts_from}
use Rattle.c_machine_trees.proofs.SharedStmtTrees.{stmts_nil, stmts_cons}
use Rattle.c_steps.specs.Marks.{Mark, behind, does, does_nothing, has, is_mark}
use Rattle.c_steps.specs.Work.{Item, Do}

-- the items from one on are that one and those behind it
from : (items : List (Rc SharedStmt Global)) (k : ℕ) (item : Rc SharedStmt Global) → k < length items → item ≡ get_or items k item
    → stmts_from (drop k items) ≡ more (stmt_tree item.value) (stmts_from (drop (k + 1) items))
from items k item below is =
    ap stmts_from (drop_more items k item below)
    ∙ stmts_cons (get_or items k item) (drop (k + 1) items)
    ∙ ap (λ (x : Rc SharedStmt Global). more (stmt_tree x.value) (stmts_from (drop (k + 1) items))) (sym is)

pub none_left : (mark : Mark) (items : List (Rc SharedStmt Global)) (k : ℕ) → length items ≤ k → has mark (stmts_from (drop k items)) ≡ false
none_left mark items k past = ap (λ list. has mark (stmts_from list)) (drop_of_length-le items past) ∙ ap (has mark) stmts_nil

pub passes : (mark : Mark) (items : List (Rc SharedStmt Global)) (k : ℕ) (item : Rc SharedStmt Global) → k < length items → item ≡ get_or items k item
    → is_mark mark (stmt_tree item.value) ≡ false → has mark (stmts_from (drop k items)) ≡ has mark (stmts_from (drop (k + 1) items))
passes mark items k item below is other =
    ap (has mark) (from items k item below is) ∙ ap (λ (b : Bool). if b then true else has mark (stmts_from (drop (k + 1) items))) other

pub passes_behind : (mark : Mark) (items : List (Rc SharedStmt Global)) (k : ℕ) (item : Rc SharedStmt Global) → k < length items → item ≡ get_or items k item
    → is_mark mark (stmt_tree item.value) ≡ false → behind mark (stmts_from (drop k items)) ≡ behind mark (stmts_from (drop (k + 1) items))
passes_behind mark items k item below is other =
    ap (behind mark) (from items k item below is)
    ∙ ap (λ (b : Bool). if b then stmts_from (drop (k + 1) items) else behind mark (stmts_from (drop (k + 1) items))) other

pub found : (mark : Mark) (items : List (Rc SharedStmt Global)) (k : ℕ) (item : Rc SharedStmt Global) → k < length items → item ≡ get_or items k item
    → is_mark mark (stmt_tree item.value) ≡ true → has mark (stmts_from (drop k items)) ≡ true
found mark items k item below is this =
    ap (has mark) (from items k item below is) ∙ ap (λ (b : Bool). if b then true else has mark (stmts_from (drop (k + 1) items))) this

pub found_behind : (mark : Mark) (items : List (Rc SharedStmt Global)) (k : ℕ) (item : Rc SharedStmt Global) → k < length items → item ≡ get_or items k item
    → is_mark mark (stmt_tree item.value) ≡ true → behind mark (stmts_from (drop k items)) ≡ stmts_from (drop (k + 1) items)
found_behind mark items k item below is this =
    ap (behind mark) (from items k item below is)
    ∙ ap (λ (b : Bool). if b then stmts_from (drop (k + 1) items) else behind mark (stmts_from (drop (k + 1) items))) this

pub nothing_done : (items : List (Rc SharedStmt Global)) (work : List Item) → does (stmts_from (drop (length items) items)) work ≡ work
nothing_done items work = ap (λ list. does (stmts_from list) work) (drop-length items) ∙ ap (λ list. does list work) stmts_nil

pub mark_done : (items : List (Rc SharedStmt Global)) (k : ℕ) (item : Rc SharedStmt Global) (work : List Item) → k < length items → item ≡ get_or items k item
    → does_nothing (stmt_tree item.value) ≡ true → does (stmts_from (drop (k + 1) items)) work ≡ does (stmts_from (drop k items)) work
mark_done items k item work below is nothing =
    sym (ap (λ list. does list work) (from items k item below is)
    ∙ ap (λ (b : Bool). if b then does (stmts_from (drop (k + 1) items)) work else Do (stmt_tree item.value) ∷ does (stmts_from (drop (k + 1) items)) work)
    nothing)

pub item_done : (items : List (Rc SharedStmt Global)) (k : ℕ) (item : Rc SharedStmt Global) (work : List Item) → k < length items → item ≡ get_or items k item
    → does_nothing (stmt_tree item.value) ≡ false
    → Do (stmt_tree item.value) ∷ does (stmts_from (drop (k + 1) items)) work ≡ does (stmts_from (drop k items)) work
item_done items k item work below is something =
    sym (ap (λ list. does list work) (from items k item below is)
    ∙ ap (λ (b : Bool). if b then does (stmts_from (drop (k + 1) items)) work else Do (stmt_tree item.value) ∷ does (stmts_from (drop (k + 1) items)) work)
    something)
