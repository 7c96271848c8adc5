-- A function that is entered.
use Rattle.std.proofs.Common.{◌≡◌, ℕ, ℤ, List, [], ◌∷◌, length, map, Option, Some, sym, ap, ◌∙◌}
use Rattle.std.specs.Prelude.{option_map, slice_get}
use Rattle.std.proofs.lemmas.Option.{slice_get-map}
use Rattle.c_syntax_written.specs.declared.place.Pos.{Pos}
use Rattle.c_syntax.specs.TypedStmt.{TStmtTree, none}
use Rattle.c_syntax.specs.Program.{TFunctionTree, TProgramTree}
use Rattle.block_mem.specs.declared.types.Value.{Value}
use Rattle.c_values.specs.Places.{ObjectMemory}
use Rattle.c_objects.specs.Opening.{open_all}
use Rattle.c_steps.specs.Work.{Item, AtEnd, Do, Close, Reach}
use Rattle.c_steps.specs.States.{Held, goes, with_some}
use Rattle.c_steps.specs.Calls.{all_filled, enter_body, enter_function, enter_step, taken}
use Rattle.c_machine.specs.Functions.{CalleeTree, bodied}

-- the table has it
pub has_callee : (table : List (Option CalleeTree)) (p : TProgramTree) (f : ℕ) (function : TFunctionTree) (body : TStmtTree) → table ≡ map bodied p.functions
    → slice_get p.functions f ≡ Some function → function.body ≡ Some body
    → slice_get table f ≡ Some (Some (record { params = function.params; body = body }))
has_callee table p f function body e is there =
    ap (λ t. slice_get t f) e ∙ slice_get-map bodied p.functions f ∙ ap (option_map bodied) is
    ∙ ap (λ o. Some (option_map (λ b. record { params = function.params; body = b }) o)) there

one_is : {A : Type 0} {x y : A} → Some x ≡ Some y → x ≡ y
one_is e = cc

pub same_callee : (o : Option (Option CalleeTree)) (x y : CalleeTree) → o ≡ Some (Some x) → o ≡ Some (Some y) → x ≡ y
same_callee o x y a b = one_is (one_is (sym a ∙ b))

pub entered : (p : TProgramTree) (at : Option Pos) (f : ℕ) (end : AtEnd) (w : List Item) (s below : List Held) (m n : ObjectMemory) (i : List ℤ)
    (function : TFunctionTree) (body : TStmtTree) (args : List Value) → slice_get p.functions f ≡ Some function → function.body ≡ Some body
    → taken (length function.params) s [] ≡ Some (args, below) → all_filled p.objects function.params args (open_all p.objects m function.params) ≡ Some n
    → enter_step p at f end w s m i ≡ goes (Do body ∷ Close function.params none ∷ Reach at end ∷ w) below n i
entered p at f end w s below m n i function body args is there takes fills =
    ap (λ o. with_some o (λ fn. enter_function p at end fn w s m i)) is
    ∙ ap (λ o. with_some o (λ b. with_some (taken (length function.params) s []) (λ a. enter_body p at end function.params b a.0 w a.1 m i))) there
    ∙ ap (λ o. with_some o (λ a. enter_body p at end function.params body a.0 w a.1 m i)) takes
    ∙ ap (λ o. with_some o (λ n. goes (Do body ∷ Close function.params none ∷ Reach at end ∷ w) below n i)) fills
