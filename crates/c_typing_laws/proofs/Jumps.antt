-- The labels of statements are numbered as they stand in the text, and each goto has one of them.
use Rattle.std.proofs.Common.{◌≡◌, ℕ, zero, suc, ◌+◌, ◌<◌, List, [], ◌∷◌, ◌++◌, length, get_or, refl, ap, sym, subst, ◌∙◌, arith}
use Rattle.std.proofs.lemmas.List.{append-nil, append_assoc, length-append, length_push}
use Rattle.std.proofs.lemmas.List.Elements.{All-nil, All-append, All-cons}
use Rattle.std.proofs.lemmas.List.Quantifiers.{position-Some}
use Rattle.std.specs.Prelude.{◌≢◌, ℤ, Option, Some, None, All, AllPairs, Contains, position, bytes_eq}
use Rattle.c_syntax_written.specs.declared.place.Pos.{Pos}
use Rattle.c_syntax_written.specs.WrittenFile.{ForStartTree, StmtTree, BlockItemTrees}
use Rattle.c_syntax.specs.declared.statement.BlockKind.{BlockKind}
use Rattle.c_syntax.specs.TypedExpr.{TExprTree}
use Rattle.c_syntax.specs.TypedStmt.{TStmtTree, TStmtTrees, Block, If, While, DoWhile, For, Switch, Goto, Label, Case, Default, none, more}
use Rattle.c_layout.specs.Jumps.{labels_of, labels_in, gotos_of, gotos_in}
use Rattle.c_typing.specs.World.{World}
use Rattle.c_typing.specs.Names.{opened}
use Rattle.c_typing.specs.Context.{Context, written_labels, written_labels_in}
use Rattle.c_typing.specs.Decls.{Made, both, numbers_from}
use Rattle.c_typing.specs.Stmts.{one}
use Rattle.c_typing.proofs.Changes.{Any}
use Rattle.c_typing.proofs.Good.{Good}
use Rattle.c_typing.proofs.Reaches as reaches
use Rattle.c_typing.proofs.Reaches.{enters}
use Rattle.c_typing_laws.specs.StmtSteps.{MakesStart, nothing, value, declares, MakesStmt, label, case, default, block, empty, expression, if_alone, if_else, switch_block, switch_one, while, do_while, for, goto, continue, break, return_bare, return_value, MakesItems, no_items, declaration, statement}
use Rattle.c_typing_laws.proofs.Reached.{good_by, value_reach, may_condition_reach, may_step_reach, start_reach, into_switch, decl_reach, stmt_reach}
use Rattle.c_typing_laws.proofs.StepSteady.{Steady, steady_then, still, value_steady, may_condition_steady, may_step_steady, decl_steady}
use Rattle.c_typing_laws.proofs.Plain.{labels_both, gotos_both, IsPlain, plain_decl}

-- ---- numbers

pub numbers_more : (a m n : ℕ) → numbers_from a (m + n) ≡ numbers_from a m ++ numbers_from (a + m) n
unfolding numbers_from
numbers_more a zero n =
    let e : zero + n ≡ n = omega arith in let f : a ≡ a + zero = omega arith in ap (numbers_from a) e ∙ ap (λ k. numbers_from k n) f
numbers_more a (suc m) n =
    let e : suc m + n ≡ suc (m + n) = omega arith in
    let f : a + 1 + m ≡ a + suc m = omega arith in
    ap (numbers_from a) e ∙ ap (λ l. a ∷ l) (numbers_more (a + 1) m n ∙ ap (λ k. numbers_from (a + 1) m ++ numbers_from k n) f)

pub numbers_length : (a n : ℕ) → length (numbers_from a n) ≡ n
unfolding numbers_from
numbers_length a zero = refl
numbers_length a (suc n) = ap suc (numbers_length (a + 1) n)

pub number_at : (a n k d : ℕ) → k < n → get_or (numbers_from a n) k d ≡ a + k
unfolding numbers_from
number_at a zero k d h = absurd (omega arith)
number_at a (suc n) zero d h = omega arith
number_at a (suc n) (suc k) d h = number_at (a + 1) n k d (omega arith) ∙ omega arith

numbers_distinct : (a n : ℕ) → AllPairs (λ x y. x ≢ y) (numbers_from a n)
numbers_distinct a n i j d l h e =
    let m : j < n = subst (λ k. j < k) (numbers_length a n) h in
    let p = number_at a n i d (omega arith) in
    let q = number_at a n j d m in
    let s : a + i ≡ a + j = sym p ∙ e ∙ q in omega arith

number_there : (n g : ℕ) → g < n → Contains (numbers_from 0 n) g
number_there n g h = (g, subst (λ k. g < k) (sym (numbers_length 0 n)) h, number_at 0 n g g h ∙ omega arith)

-- ---- jumps

-- so many labels, numbered from the first number on, and gotos below the limit
pub record Jumps (first last count limit : ℕ) (items : TStmtTrees) : Type 0 where
  pub labels : labels_in items ≡ numbers_from first count
  pub after : last ≡ first + count
  pub gotos : All (λ g. g < limit) (gotos_in items)

-- the same of one statement
record JumpsOf (first last count limit : ℕ) (s : TStmtTree) : Type 0 where
  labels : labels_of s ≡ numbers_from first count
  after : last ≡ first + count
  gotos : All (λ g. g < limit) (gotos_of s)

only : {first last count limit : ℕ} (s : TStmtTree) → JumpsOf first last count limit s → Jumps first last count limit (one s)
unfolding labels_of labels_in gotos_of gotos_in
only {limit = limit} s j = record {
  labels = append-nil (labels_of s) ∙ j.labels;
  after = j.after;
  gotos = subst (All (λ g. g < limit)) (sym (append-nil (gotos_of s))) j.gotos;
}

none_of : (limit : ℕ) → All (λ g. g < limit) []
none_of limit = All-nil (λ g. g < limit)

-- a statement without labels and gotos
quiet : {first last limit : ℕ} (s : TStmtTree) → labels_of s ≡ [] → gotos_of s ≡ [] → last ≡ first → Jumps first last 0 limit (one s)
unfolding numbers_from
quiet {limit = limit} s l g e = only s (record { labels = l; after = e ∙ omega arith; gotos = subst (All (λ x. x < limit)) (sym g) (none_of limit) })

-- from an earlier world with the same labels
moved : {first now last count limit : ℕ} {items : TStmtTrees} → now ≡ first → Jumps now last count limit items → Jumps first last count limit items
moved {count = count} e j = record { labels = j.labels ∙ ap (λ n. numbers_from n count) e; after = j.after ∙ ap (λ n. n + count) e; gotos = j.gotos }

labels_same : {w v : World} → Steady w v → length v.labels ≡ length w.labels
labels_same s = ap length s.labels

ended : {first last now count limit : ℕ} {items : TStmtTrees} → now ≡ last → Jumps first last count limit items → Jumps first now count limit items
ended e j = record { labels = j.labels; after = e ∙ j.after; gotos = j.gotos }

-- two statements one after the other in one
two : {first mid last m n limit : ℕ} {xs ys : TStmtTrees} → Jumps first mid m limit xs → Jumps mid last n limit ys
    → (labels_in xs ++ labels_in ys ≡ numbers_from first (m + n)) × (last ≡ first + (m + n)) × All (λ g. g < limit) (gotos_in xs ++ gotos_in ys)
two {first} {mid} {last} {m} {n} {limit} {xs} {ys} p q = (
  ap (λ l. l ++ labels_in ys) p.labels ∙ ap (λ l. numbers_from first m ++ l) (q.labels ∙ ap (λ k. numbers_from k n) p.after) ∙ sym (numbers_more first m n),
  (let a = p.after in let b = q.after in omega arith),
  All-append (λ g. g < limit) (gotos_in xs) (gotos_in ys) p.gotos q.gotos,
)

-- ---- statements with one statement in them

within_block : {first last count limit : ℕ} {at : Pos} {kind : BlockKind} {objects : List ℕ} {items : TStmtTrees} → Jumps first last count limit items
    → Jumps first last count limit (one (Block at kind objects items))
unfolding labels_of labels_in gotos_of gotos_in
within_block j = only _ (record { labels = j.labels; after = j.after; gotos = j.gotos })

within_switch : {first last count limit : ℕ} {at : Pos} {value : TExprTree} {kind : BlockKind} {objects : List ℕ} {items : TStmtTrees} → Jumps first last count limit items
    → Jumps first last count limit (one (Switch at value kind objects items))
unfolding labels_of labels_in gotos_of gotos_in
within_switch j = only _ (record { labels = j.labels; after = j.after; gotos = j.gotos })

within_while : {first last count limit : ℕ} {at block_at : Pos} {x : TExprTree} {kind : BlockKind} {items : TStmtTrees} → Jumps first last count limit items
    → Jumps first last count limit (one (While at x (Block block_at kind [] items)))
unfolding labels_of labels_in gotos_of gotos_in
within_while j = only _ (record { labels = j.labels; after = j.after; gotos = j.gotos })

within_do : {first last count limit : ℕ} {at block_at : Pos} {x : TExprTree} {kind : BlockKind} {items : TStmtTrees} → Jumps first last count limit items
    → Jumps first last count limit (one (DoWhile at (Block block_at kind [] items) x))
unfolding labels_of labels_in gotos_of gotos_in
within_do j = only _ (record { labels = j.labels; after = j.after; gotos = j.gotos })

within_if : {first last count limit : ℕ} {at block_at else_at : Pos} {x : TExprTree} {kind other : BlockKind} {items : TStmtTrees} → Jumps first last count limit items
    → Jumps first last count limit (one (If at x (Block block_at kind [] items) (Block else_at other [] none)))
unfolding labels_of labels_in gotos_of gotos_in
within_if {limit = limit} {items = items} j = only _ (record {
  labels = append-nil (labels_in items) ∙ j.labels;
  after = j.after;
  gotos = subst (All (λ g. g < limit)) (sym (append-nil (gotos_in items))) j.gotos;
})

within_else : {first mid last m n limit : ℕ} {at block_at else_at : Pos} {x : TExprTree} {kind other : BlockKind} {xs ys : TStmtTrees} → Jumps first mid m limit xs → Jumps mid last n limit ys
    → Jumps first last (m + n) limit (one (If at x (Block block_at kind [] xs) (Block else_at other [] ys)))
unfolding labels_of labels_in gotos_of gotos_in
within_else {xs = xs} {ys = ys} p q = let t = two {xs = xs} {ys = ys} p q in only _ (record { labels = t.0; after = t.1; gotos = t.2 })

within_for : {first last count limit : ℕ} {at block_at : Pos} {objects : List ℕ} {test next : Option TExprTree} {kind : BlockKind} {head items : TStmtTrees} → labels_in head ≡ [] → gotos_in head ≡ []
    → Jumps first last count limit items → Jumps first last count limit (one (For at objects head test next (Block block_at kind [] items)))
unfolding labels_of labels_in gotos_of gotos_in
within_for {limit = limit} {items = items} l g j = only _ (record {
  labels = ap (λ xs. xs ++ labels_in items) l ∙ j.labels;
  after = j.after;
  gotos = subst (All (λ x. x < limit)) (sym (ap (λ xs. xs ++ gotos_in items) g)) j.gotos;
})

-- ---- labels

labelled : {first now last count limit : ℕ} {at : Pos} {items : TStmtTrees} → now ≡ first + 1 → Jumps now last count limit items → Jumps first last (suc count) limit (more (Label at first) items)
unfolding labels_of labels_in gotos_of gotos_in numbers_from
labelled {first} {now} {last} {count} e j = record {
  labels = ap (λ l. first ∷ l) (j.labels ∙ ap (λ n. numbers_from n count) e);
  after = (let a = j.after in omega (arith, e));
  gotos = j.gotos;
}

cased : {first last count limit : ℕ} {at : Pos} {n : ℤ} {items : TStmtTrees} → Jumps first last count limit items → Jumps first last count limit (more (Case at n) items)
unfolding labels_of labels_in gotos_of gotos_in
cased j = record { labels = j.labels; after = j.after; gotos = j.gotos }

defaulted : {first last count limit : ℕ} {at : Pos} {items : TStmtTrees} → Jumps first last count limit items → Jumps first last count limit (more (Default at) items)
unfolding labels_of labels_in gotos_of gotos_in
defaulted j = record { labels = j.labels; after = j.after; gotos = j.gotos }

jump : {first limit : ℕ} {at : Pos} (names : List (List ℕ)) (name : List ℕ) (g : ℕ) → position (λ label. bytes_eq label name) names ≡ Some g → limit ≡ length names
    → Jumps first first 0 limit (one (Goto at g))
unfolding labels_of labels_in gotos_of gotos_in numbers_from
jump {first} {limit} names name g e l = record {
  labels = refl;
  after = omega arith;
  gotos = All-cons (λ x. x < limit) g [] (subst (λ n. g < n) (sym l) (position-Some (λ label. bytes_eq label name) names g [] e).0) (none_of limit);
}

-- ---- items behind those that stand before them

pub record JumpsFrom (first last count limit : ℕ) (done items : TStmtTrees) : Type 0 where
  pub labels : labels_in items ≡ labels_in done ++ numbers_from first count
  pub after : last ≡ first + count
  pub gotos : All (λ g. g < limit) (gotos_in done) → All (λ g. g < limit) (gotos_in items)

all_done : {first limit : ℕ} (done : TStmtTrees) → JumpsFrom first first 0 limit done done
unfolding numbers_from
all_done done = record { labels = sym (append-nil (labels_in done)); after = omega arith; gotos = λ g. g }

more_done : {first mid last m n limit : ℕ} {done xs items : TStmtTrees} → Jumps first mid m limit xs → JumpsFrom mid last n limit (both done xs) items → JumpsFrom first last (m + n) limit done items
more_done {first} {mid} {last} {m} {n} {limit} {done} {xs} {items} p q = record {
  labels = q.labels ∙ ap (λ l. l ++ numbers_from mid n) (labels_both done xs ∙ ap (λ l. labels_in done ++ l) p.labels) ∙ append_assoc (labels_in done) (numbers_from first m) (numbers_from mid n)
      ∙ ap (λ l. labels_in done ++ l) (ap (λ k. numbers_from first m ++ numbers_from k n) p.after ∙ sym (numbers_more first m n));
  after = (let a = p.after in let b = q.after in omega arith);
  gotos = λ g. q.gotos (subst (All (λ x. x < limit)) (sym (gotos_both done xs)) (All-append (λ x. x < limit) (gotos_in done) (gotos_in xs) g p.gotos));
}

-- plain items have no labels
plain_jumps : {first last limit : ℕ} {items : TStmtTrees} → IsPlain items → last ≡ first → Jumps first last 0 limit items
unfolding numbers_from
plain_jumps {limit = limit} p e = record { labels = p.labels; after = e ∙ omega arith; gotos = subst (All (λ x. x < limit)) (sym p.gotos) (none_of limit) }

pub block_jumps : {first last count limit : ℕ} {items : TStmtTrees} → JumpsFrom first last count limit none items → Jumps first last count limit items
unfolding labels_of labels_in gotos_of gotos_in
block_jumps {limit = limit} j = record { labels = j.labels; after = j.after; gotos = j.gotos (none_of limit) }

counted : {first last m n limit : ℕ} {items : TStmtTrees} → m ≡ n → Jumps first last m limit items → Jumps first last n limit items
counted {first = first} {last = last} {limit = limit} {items = items} e j = subst (λ k. Jumps first last k limit items) e j

from_counted : {first last m n limit : ℕ} {done items : TStmtTrees} → m ≡ n → JumpsFrom first last m limit done items → JumpsFrom first last n limit done items
from_counted {first = first} {last = last} {limit = limit} {done = done} {items = items} e j = subst (λ k. JumpsFrom first last k limit done items) e j

-- ---- what a for begins with

record IsBare (items : TStmtTrees) : Type 0 where
  labels : labels_in items ≡ []
  gotos : gotos_in items ≡ []

start_bare : {w v : World} {around : Context} {s : ForStartTree} {made : Made} → MakesStart w around s made v → IsBare made.items
unfolding labels_of labels_in gotos_of gotos_in
start_bare nothing = record { labels = refl; gotos = refl }
start_bare (value p) = record { labels = refl; gotos = refl }
start_bare (declares d) = let p = plain_decl d in record { labels = p.labels; gotos = p.gotos }

start_steady : {w v : World} {around : Context} {s : ForStartTree} {made : Made} → Good w → MakesStart w around s made v → Steady w v
start_steady good nothing = still
start_steady good (value p) = value_steady good p
start_steady good (declares d) = decl_steady good d

-- ---- the statement

mutual
  unfolding written_labels written_labels_in labels_of labels_in gotos_of gotos_in

  pub stmt_jumps : {w v : World} {around : Context} {s : StmtTree} {items : TStmtTrees} → Good w → MakesStmt w around s items v
      → Jumps (length w.labels) (length v.labels) (length (written_labels s)) (length around.labels) items
  stmt_jumps {w = w} good (label p) = labelled (length_push w.labels _) (stmt_jumps (good_by good (reaches.labelled w _)) p)
  stmt_jumps {w = w} good (case {u = u} t n p e d q) =
      let r = value_reach good p in
      cased (moved (labels_same (value_steady good p)) (stmt_jumps (good_by good (reaches.after _ _ _ r (reaches.cased u _ u.default))) q))
  stmt_jumps {w = w} good (default {at = at} t e d p) = defaulted (stmt_jumps (good_by good (reaches.cased w w.cases (Some at))) p)
  stmt_jumps good (block p) = within_block (block_jumps (items_jumps (enters good) p))
  stmt_jumps good empty = quiet _ refl refl refl
  stmt_jumps good (expression p) = quiet _ refl refl (labels_same (value_steady good p))
  stmt_jumps good (if_alone p q) =
      within_if (moved (labels_same (value_steady (enters good) p.value)) (stmt_jumps (enters (good_by (enters good) (value_reach {may = Any} (enters good) p.value))) q))
  stmt_jumps {w = w} good (if_else {u = u} {v = v} {first = first} {second = second} p q s) =
      let good2 = good_by (enters good) (value_reach {may = Any} (enters good) p.value) in
      let good3 = good_by {may = Any} good2 (reaches.scoped u v (stmt_reach (enters good2) q)) in
      counted (sym (length-append (written_labels first) (written_labels second)))
      (within_else (moved (labels_same (value_steady (enters good) p.value)) (stmt_jumps (enters good2) q)) (stmt_jumps (enters good3) s))
  stmt_jumps good (switch_block {u = u} p q) =
      let r = reaches.after _ _ _ (value_reach (enters good) p.value) (reaches.cased u [] None) in
      within_switch (moved (labels_same (value_steady (enters good) p.value)) (block_jumps (items_jumps (enters (good_by (enters good) r)) q)))
  stmt_jumps good (switch_one p q) =
      within_switch (moved (labels_same (value_steady (enters good) p.value)) (stmt_jumps (good_by (enters good) (into_switch (enters good) p)) q))
  stmt_jumps good (while p q) =
      within_while (moved (labels_same (value_steady (enters good) p.value)) (stmt_jumps (enters (good_by (enters good) (value_reach {may = Any} (enters good) p.value))) q))
  stmt_jumps {w = w} good (do_while {u = u} q p) =
      let good2 = good_by {may = Any} (enters good) (reaches.scoped (opened w) u (stmt_reach (enters (enters good)) q)) in
      within_do (ended (labels_same (value_steady good2 p.value)) (stmt_jumps (enters (enters good)) q))
  stmt_jumps good (for s c n q) =
      let bare = start_bare s in
      let r = start_reach (enters good) s in
      let good2 = good_by (enters good) r in
      let good3 = good_by good2 (may_condition_reach {may = Any} good2 c) in
      let good4 = good_by good3 (may_step_reach {may = Any} good3 n) in
      within_for bare.labels bare.gotos
      (moved (labels_same (steady_then (start_steady (enters good) s) (steady_then (may_condition_steady good2 c) (may_step_steady good3 n)))) (stmt_jumps (enters good4) q))
  stmt_jumps {around = around} good (goto {name = name} {n = n} e) = jump around.labels name n e refl
  stmt_jumps good (continue e) = quiet _ refl refl refl
  stmt_jumps good (break e) = quiet _ refl refl refl
  stmt_jumps good (return_bare e) = quiet _ refl refl refl
  stmt_jumps good (return_value p q) = quiet _ refl refl (labels_same (value_steady good p))

  pub items_jumps : {w v : World} {around : Context} {done made : Made} {items : BlockItemTrees} → Good w → MakesItems w around done items made v
      → JumpsFrom (length w.labels) (length v.labels) (length (written_labels_in items)) (length around.labels) done.items made.items
  items_jumps {done = done} good no_items = all_done done.items
  items_jumps good (declaration d p) =
      from_counted (omega arith) (more_done (plain_jumps (plain_decl d) (labels_same (decl_steady good d))) (items_jumps (good_by good (decl_reach good d)) p))
  items_jumps good (statement {s = s} {rest = rest} q p) =
      from_counted (sym (length-append (written_labels s) (written_labels_in rest))) (more_done (stmt_jumps good q) (items_jumps (good_by good (stmt_reach good q)) p))

-- the labels of a body are its own
pub body_jumps : {first last count limit : ℕ} {items : TStmtTrees} → first ≡ 0 → count ≡ limit → Jumps first last count limit items
    → AllPairs (λ a b. a ≢ b) (labels_in items) × All (Contains (labels_in items)) (gotos_in items)
body_jumps {first} {last} {count} {limit} {items} e f j =
    let is : labels_in items ≡ numbers_from 0 limit = j.labels ∙ ap (λ n. numbers_from n count) e ∙ ap (numbers_from 0) f in (
      subst (AllPairs (λ a b. a ≢ b)) (sym is) (numbers_distinct 0 limit),
      subst (λ l. All (Contains l) (gotos_in items)) (sym is) (λ k d h. number_there limit _ (j.gotos k d h)),
    )
