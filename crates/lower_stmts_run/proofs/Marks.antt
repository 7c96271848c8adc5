-- Labels, cases and defaults among lowered items are those among the items, and what is done behind one of them is what is done behind its own.
use Rattle.std.proofs.Common.{◌≡◌, ℕ, Option, Some, None, refl, ap, ◌∙◌, Bool, true, false, ℤ}
use Rattle.std.specs.Prelude.{if◌then◌else◌, option_map}
use Rattle.c_syntax_written.specs.declared.int_type.IntType.{IntType}
use Rattle.c_syntax.specs.TypedStmt as c
use Rattle.c_syntax.specs.TypedStmt.{TStmtTree, TStmtTrees}
use Rattle.c_syntax.specs.Program.{TProgramTree}
use Rattle.block_mem.specs.declared.types.Value.TheVariants as values
use Rattle.c_steps.specs.Marks as marks
use Rattle.csharp.specs.Trees as code
use Rattle.csharp.specs.Trees.{CsStmtTree, CsStmtTrees, CsProgramTree}
use Rattle.csharp.specs.States as low
use Rattle.csharp.specs.Outcomes.{Outcome, Normal}
use Rattle.csharp.specs.Meaning as meaning
use Rattle.csharp.specs.Meaning.{Later, Anew, level}
use Rattle.lower_trees.specs.LowerExpr.{lower_expr}
use Rattle.lower_trees.specs.LowerStmt.{Context, lower_stmt, lower_items}
use Rattle.lower_formed.proofs.Flat.{Flat, flat_expr}

-- the mark that is looked for in code
abbrev pub low_mark : marks.Mark → meaning.Mark
low_mark (marks.AtLabel label) = meaning.AtLabel label
low_mark (marks.AtCase n) = meaning.AtCase n
low_mark marks.AtDefault = meaning.AtDefault

abbrev pub low_entry : Option marks.Mark → Option meaning.Mark
low_entry o = option_map low_mark o

-- the items from a mark on, where there is one
abbrev pub enter : Option marks.Mark → TStmtTrees → TStmtTrees
enter None items = items
enter (Some m) items = marks.behind m items

-- an expression's code is no mark
flat_unmarked : (m : meaning.Mark) (a : CsStmtTree) → Flat a → meaning.is_mark m a ≡ false
flat_unmarked m (code.Label at l) h = absurd h
flat_unmarked m (code.Case n) h = absurd h
flat_unmarked m code.Default h = absurd h
flat_unmarked (meaning.AtLabel label) a h = refl
flat_unmarked (meaning.AtCase n) a h = refl
flat_unmarked meaning.AtDefault a h = refl

module _ (p : TProgramTree) (d : ℕ) (k : Context) where
  -- a statement that is a mark is lowered to that mark, and no other one is
  pub mark_kept : (m : marks.Mark) (item : TStmtTree) → meaning.is_mark (low_mark m) (lower_stmt p d k item).code ≡ marks.is_mark m item
  mark_kept (marks.AtLabel label) (c.Expr at e) = flat_unmarked (meaning.AtLabel label) (lower_expr p d e).value.before (flat_expr p e d).value
  mark_kept (marks.AtCase n) (c.Expr at e) = flat_unmarked (meaning.AtCase n) (lower_expr p d e).value.before (flat_expr p e d).value
  mark_kept marks.AtDefault (c.Expr at e) = flat_unmarked meaning.AtDefault (lower_expr p d e).value.before (flat_expr p e d).value
  mark_kept (marks.AtLabel label) (c.Return at None) = refl
  mark_kept (marks.AtLabel label) (c.Return at (Some e)) = refl
  mark_kept (marks.AtCase n) (c.Return at None) = refl
  mark_kept (marks.AtCase n) (c.Return at (Some e)) = refl
  mark_kept marks.AtDefault (c.Return at None) = refl
  mark_kept marks.AtDefault (c.Return at (Some e)) = refl
  mark_kept (marks.AtLabel label) item = refl
  mark_kept (marks.AtCase n) item = refl
  mark_kept marks.AtDefault item = refl

  pub has_kept : (m : marks.Mark) (items : TStmtTrees) → meaning.has (low_mark m) (lower_items p d k items).items ≡ marks.has m items
  has_kept m c.none = refl
  has_kept m (c.more item rest) = rw (mark_kept m item) (ap (λ z. if marks.is_mark m item then true else z) (has_kept m rest))

  chosen_case : (n : ℤ) (a b : Bool) → (if a then Some (meaning.AtCase n) else (if b then Some meaning.AtDefault else None)) ≡ low_entry (if a then Some (marks.AtCase n) else (if b then Some marks.AtDefault else None))
  chosen_case n true b = refl
  chosen_case n false true = refl
  chosen_case n false false = refl

  -- where a switch goes on
  pub chosen_kept : (u : IntType) (n : ℤ) (items : TStmtTrees) → meaning.chosen (values.Int u n) (lower_items p d k items).items ≡ low_entry (marks.chosen n items)
  chosen_kept u n items = rw (has_kept (marks.AtCase n) items) (rw (has_kept marks.AtDefault items) (chosen_case n (marks.has (marks.AtCase n) items) (marks.has marks.AtDefault items)))

  module _ (over : ℕ → Bool) (q : CsProgramTree) (later : Later) where
    abbrev Rest : TStmtTrees → low.State → Outcome
    Rest items t = meaning.items over q later None (lower_items p d k items).items t

    behind_case : (m : marks.Mark) (rest : TStmtTrees) (t : low.State) (z : Bool) → meaning.items over q later (Some (low_mark m)) (lower_items p d k rest).items t ≡ Rest (marks.behind m rest) t
        → meaning.items over q later (if z then None else Some (low_mark m)) (lower_items p d k rest).items t ≡ Rest (if z then rest else marks.behind m rest) t
    behind_case m rest t true h = refl
    behind_case m rest t false h = h

    -- items from a mark on
    items_behind : (m : marks.Mark) (items : TStmtTrees) (t : low.State) → meaning.items over q later (Some (low_mark m)) (lower_items p d k items).items t ≡ Rest (marks.behind m items) t
    items_behind m c.none t = refl
    items_behind m (c.more item rest) t =
        ap (λ z. meaning.items over q later (if z then None else Some (low_mark m)) (lower_items p d k rest).items t) (mark_kept m item)
        ∙ behind_case m rest t (marks.is_mark m item) (items_behind m rest t)

    pub items_entered : (e : Option marks.Mark) (items : TStmtTrees) (t : low.State) → meaning.items over q later (low_entry e) (lower_items p d k items).items t ≡ Rest (enter e items) t
    items_entered None items t = refl
    items_entered (Some m) items t = items_behind m items t

    -- a mark does nothing
    pub nothing_done : (item : TStmtTree) (t : low.State) → marks.does_nothing item ≡ true → level over q later Anew (lower_stmt p d k item).code t ≡ Normal t
    nothing_done (c.Label at l) t e = refl
    nothing_done (c.Case at n) t e = refl
    nothing_done (c.Default at) t e = refl
    nothing_done item t e = absurd (cc)
