-- Marks of the code and of the tree.
use Rattle.std.proofs.Common.{◌≡◌, ◌⊎◌, inl, inr, ℕ, ℤ, true, false, if◌then◌else◌, refl}
use Rattle.std.proofs.lemmas.Bool.{eqb-true}
use Rattle.c_syntax_written.specs.declared.place.Pos.{Pos}
use Rattle.csharp.specs.declared.statement.CsStmt.{CsStmt}
use Rattle.csharp.specs.declared.statement.CsStmt.TheVariants as stmts
use Rattle.csharp.specs.Trees.{csstmt_tree}
use Rattle.csharp.specs.Trees as trees
use Rattle.csharp.specs.Trees.{CsStmtTree, CsStmtTrees, more}
use Rattle.csharp.specs.Meaning as meaning
use Rattle.csharp.specs.Meaning.{AtLabel, has, is_mark}
use Rattle.csharp.specs.States.{State}
use Rattle.std.proofs.Common.{List, [], ◌∷◌, length, arith}
use Rattle.walk_owes.specs.declared.marks.Mark.{Mark}
use Rattle.walk_owes.specs.declared.marks.Mark.TheVariants as marks
use Rattle.walk_owes.specs.declared.way.Way.{Way}
use Rattle.walk_owes.specs.declared.way.Way.TheVariants as ways
use Rattle.walk_owes.specs.declared.way.Kept.{Kept}
use Rattle.walk_owes.specs.Owes.{KeepsState}
use Rattle.walk_owes.specs.Items.{Stays, mark_of}
use Rattle.walk_owes.proofs.Variants.{no_case, no_default, no_label}

pub label_is : (l : ℕ) (at : Pos) (k : ℕ) → is_mark (AtLabel l) (trees.Label at k) ≡ true → l ≡ k
label_is l at k e = eqb-true l k e

pub no_label_here : (a : CsStmt) (n : ℕ) → ((at : Pos) (label : ℕ) → a ≡ stmts.Label at label → ⊥) → is_mark (AtLabel n) (csstmt_tree a) ≡ true → ⊥
no_label_here a n h e = let f = no_label a n h in absurd (cc)

never : {b : _} → b ≡ false → b ≡ true → ⊥
never e f = absurd (cc)

pub no_mark : (a : CsStmt) (mark : Mark) → ((at : Pos) (label : ℕ) → a ≡ stmts.Label at label → ⊥) → ((value : ℤ) → a ≡ stmts.Case value → ⊥)
    → (a ≡ stmts.Default → ⊥) → is_mark (mark_of mark) (csstmt_tree a) ≡ true → ⊥
no_mark a (marks.Label l) f g h e = never (no_label a l f) e
no_mark a (marks.Case n) f g h e = never (no_case a n g) e
no_mark a marks.Default f g h e = never (no_default a h) e

pub no_none : (l : ℕ) → has (AtLabel l) trees.none ≡ true → ⊥
no_none l e = never refl e

pub stays_kept : {M : Type 0} (stands : M → State → Type 0) (gone kept : List (Kept M)) (w : Way) (s : State) → KeepsState stands kept w s → Stays stands gone kept w s
stays_kept stands gone kept (ways.Exit k) s h = h
stays_kept stands gone kept (ways.Goto l) s h = inr h
stays_kept stands gone kept ways.Return s h = h

pub nil_of : {A : Type 0} (xs : List A) → length xs ≡ 0 → xs ≡ []
nil_of [] e = refl
nil_of (x ∷ xs) e = absurd (omega (arith, e))

-- ---- items one by one

pub has_skip : (m : meaning.Mark) (item : CsStmtTree) (rest : CsStmtTrees) → is_mark m item ≡ false → has m (more item rest) ≡ has m rest
has_skip m item rest e = rw e refl

pub has_first : (m : meaning.Mark) (item : CsStmtTree) (rest : CsStmtTrees) → is_mark m item ≡ true → has m (more item rest) ≡ true
has_first m item rest e = rw e refl

has_second_by : (b c : _) → c ≡ true → (if b then true else c) ≡ true
has_second_by true c e = refl
has_second_by false c e = e

pub has_second : (m : meaning.Mark) (item : CsStmtTree) (rest : CsStmtTrees) → has m rest ≡ true → has m (more item rest) ≡ true
has_second m item rest e = has_second_by (is_mark m item) (has m rest) e

has_parts_by : (b c : _) → (if b then true else c) ≡ true → (b ≡ true) ⊎ (c ≡ true)
has_parts_by true c e = inl refl
has_parts_by false c e = inr e

pub has_parts : (m : meaning.Mark) (item : CsStmtTree) (rest : CsStmtTrees) → has m (more item rest) ≡ true → (is_mark m item ≡ true) ⊎ (has m rest ≡ true)
has_parts m item rest e = has_parts_by (is_mark m item) (has m rest) e
