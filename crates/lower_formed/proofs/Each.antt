-- What holds of each statement of code, from what holds of it otherwise; and of each function of a program.
use Rattle.std.proofs.Common.{◌≡◌, ℕ, zero, suc, ◌+◌, List, [], ◌∷◌, length, Option, Some, None, refl, ap, ◌∙◌, arith}
use Rattle.std.specs.Prelude.{All, IfSome, option_map, slice_get}
use Rattle.std.proofs.lemmas.Option.{slice_get-get_or}
use Rattle.c_syntax.specs.Program.{TFunctionTree}
use Rattle.csharp.specs.Trees.{CsStmtTree, Nothing, Set, Load, Store, CopyBytes, Undefine, Checked, Input, Assume, Sequence, If, Loop, Block, Exit, Scope, Switch, Goto, Call, Return, Label, Case, Default, CsStmtTrees, none, more}
use Rattle.csharp.specs.Formed.{Around, in_block, in_items, Each, EachItem}
use Rattle.csharp_typed_laws.proofs.Everywhere.{each_both}
use Rattle.lower_trees.specs.LowerProgram.{Placed, function_in, functions_from}
use Rattle.lower_formed.specs.Every.{Every, EveryItem}

pub each_map : (P Q : Around → CsStmtTree → Type 0) → ((around : Around) (a : CsStmtTree) → P around a → Q around a) → (a : CsStmtTree) (around : Around) → Each P around a → Each Q around a
each_map P Q f a around h = each_both P P Q (λ around a x y. f around a x) around a h h

-- wherever a statement stands
module _ (P : CsStmtTree → Type 0) where
  mutual
    pub every_each : (a : CsStmtTree) (around : Around) → Every P a → Each (λ around a. P a) around a
    every_each (Sequence a b) around (h, first, second) = (h, every_each a around first, every_each b around second)
    every_each (If e a b) around (h, first, second) = (h, every_each a around first, every_each b around second)
    every_each (Loop at a) around (h, inner) = (h, every_each a around inner)
    every_each (Block a) around (h, inner) = (h, every_each a (in_block around) inner)
    every_each (Scope xs items) around (h, inner) = (h, every_each_in items (in_items xs items around) inner)
    every_each (Switch e xs items) around (h, inner) = (h, every_each_in items (in_items xs items around) inner)
    every_each Nothing around h = h
    every_each (Set d e) around h = h
    every_each (Load d ty e) around h = h
    every_each (Store ty e g) around h = h
    every_each (CopyBytes n e g) around h = h
    every_each (Undefine x) around h = h
    every_each (Checked c) around h = h
    every_each (Input d t) around h = h
    every_each (Assume e) around h = h
    every_each (Exit k) around h = h
    every_each (Goto l) around h = h
    every_each (Call c) around h = h
    every_each (Return e) around h = h
    every_each (Label at l) around h = h
    every_each (Case k) around h = h
    every_each Default around h = h

    every_each_in : (items : CsStmtTrees) (around : Around) → EveryItem P items → EachItem (λ around a. P a) around items
    every_each_in none around h = tt
    every_each_in (more item rest) around (h, hs) = (every_each item around h, every_each_in rest around hs)

-- ---- lists

pub all_each : {A : Type 0} (P : A → Type 0) (xs : List A) → ((k : ℕ) (x : A) → slice_get xs k ≡ Some x → P x) → All P xs
all_each P xs f k d lt = f k _ (slice_get-get_or xs k d lt)

pub some_map : {A : Type 0} (P Q : A → Type 0) (o : Option A) → ((x : A) → P x → Q x) → IfSome o P → IfSome o Q
some_map P Q None f h = tt
some_map P Q (Some x) f h = f x h

-- ---- the functions of a lowered program

pub functions_count : (all : List Placed) (j : ℕ) (fs : List TFunctionTree) → length (functions_from all j fs) ≡ length fs
functions_count all j [] = refl
functions_count all j (f ∷ fs) = ap suc (functions_count all (suc j) fs)

numbered : (all : List Placed) (j : ℕ) (fs : List TFunctionTree) (k : ℕ) → slice_get (functions_from all j fs) k ≡ option_map (λ f. function_in all (j + k)) (slice_get fs k)
numbered all j [] k = refl
numbered all j (f ∷ fs) zero = let e : j ≡ j + 0 = omega arith in ap (λ n. Some (function_in all n)) e
numbered all j (f ∷ fs) (suc k) = let e : suc j + k ≡ j + suc k = omega arith in numbered all (suc j) fs k ∙ ap (λ n. option_map (λ f. function_in all n) (slice_get fs k)) e

pub function_at : (all : List Placed) (fs : List TFunctionTree) (k : ℕ) → slice_get (functions_from all 0 fs) k ≡ option_map (λ f. function_in all k) (slice_get fs k)
function_at all fs k = let e : 0 + k ≡ k = omega arith in numbered all 0 fs k ∙ ap (λ n. option_map (λ f. function_in all n) (slice_get fs k)) e
