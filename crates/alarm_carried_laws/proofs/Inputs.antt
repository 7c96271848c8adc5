-- A lowered program reads no input where the typed one reads none.
use Rattle.std.proofs.Common.{ℕ, Option, Some, None}
use Rattle.std.specs.Prelude.{IfSome, slice_get}
use Rattle.c_syntax.specs.Program.{TProgramTree}
use Rattle.c_steps.specs.Bounds.{IsInputFree}
use Rattle.csharp.specs.Trees.{CsStmtTree, CsStmtTrees, Input, Sequence, If, Loop, Block, Scope, Switch, none, more, CsFunctionTree, CsProgramTree}
use Rattle.csharp.specs.Formed.{Around, Each, EachItem, Throughout, in_block, in_items, nothing_around}
use Rattle.csharp_laws.specs.Inputs as lowered
use Rattle.csharp_laws.specs.Inputs.{IsNoInput}
use Rattle.lower_trees.specs.Correct.{IsOf}

-- what holds of each statement gives what follows from it of each
module _ (P Q : Around → CsStmtTree → Type 0) (f : (r : Around) (a : CsStmtTree) → P r a → Q r a) where
  mutual
    each : (r : Around) (a : CsStmtTree) → Each P r a → Each Q r a
    each r (Sequence a b) (h, ha, hb) = (f r (Sequence a b) h, each r a ha, each r b hb)
    each r (If e a b) (h, ha, hb) = (f r (If e a b) h, each r a ha, each r b hb)
    each r (Loop at a) (h, ha) = (f r (Loop at a) h, each r a ha)
    each r (Block a) (h, ha) = (f r (Block a) h, each (in_block r) a ha)
    each r (Scope xs items) (h, hi) = (f r (Scope xs items) h, each_item (in_items xs items r) items hi)
    each r (Switch e xs items) (h, hi) = (f r (Switch e xs items) h, each_item (in_items xs items r) items hi)
    each r a h = f r a h

    each_item : (r : Around) (items : CsStmtTrees) → EachItem P r items → EachItem Q r items
    each_item r none h = tt
    each_item r (more item rest) (h, t) = (each r item h, each_item r rest t)

  in_body : (o : Option CsFunctionTree) → IfSome o (λ function. Each P nothing_around function.body) → IfSome o (λ function. Each Q nothing_around function.body)
  in_body None h = tt
  in_body (Some function) h = each nothing_around function.body h

no_input : (p : TProgramTree) (f : ℕ) → IsInputFree p → (a : CsStmtTree) → IsOf p f a → IsNoInput a
no_input p f free (Input d t) h = h free
no_input p f free a h = tt

pub reads_none : (p : TProgramTree) (q : CsProgramTree) → Throughout (λ f around a. IsOf p f a) q → IsInputFree p → lowered.IsInputFree q
reads_none p q made free f = in_body (λ r a. IsOf p f a) (λ r a. IsNoInput a) (λ r a. no_input p f free a) (slice_get q.functions f) (made f)
