-- What stands around an item of the work: objects that live, labels, loops and switches, as the items behind it tell.
use Rattle.std.specs.Prelude.{ℕ, Bool, true, false, List, [], ◌∷◌, ◌++◌, IfSome}
use Rattle.c_syntax.specs.Types.{CTypeTree}
use Rattle.c_syntax.specs.TypedStmt.{TStmtTree, TStmtTrees}
use Rattle.c_syntax.specs.Program.{TProgramTree}
use Rattle.c_layout.specs.Jumps.{GotosStay, GotosStayIn, labels_among}
use Rattle.c_layout.specs.TypedNodes.{Scope, Standing, in_block, in_switch, in_loop, IsTypedExpr, IsTypedCondition, IsTypedStmt, AreTypedItems}
use Rattle.c_steps.specs.Work.{Item, Loop, Reach, Close, Again, SwitchEnd}

-- where a statement stands, with the labels of the blocks around
pub record Around : Type 0 where
  pub standing : Standing
  pub labels : List ℕ

-- outside of all blocks of a function with this result
abbrev pub outermost : TProgramTree → CTypeTree → Around
outermost p result = record {
  standing = record { scope = record { program = p; live = [] }; block = []; result = result; breaks = false; continues = false; cases = false };
  labels = [];
}

-- in a block, which may be that of a switch
abbrev block_standing : Bool → List ℕ → Standing → Standing
block_standing false objects standing = in_block objects standing
block_standing true objects standing = in_switch objects standing

abbrev pub in_items : Bool → List ℕ → TStmtTrees → Around → Around
in_items is_switch objects items around =
    record { standing = block_standing is_switch objects around.standing; labels = labels_among items ++ around.labels }

-- in the body of a loop
abbrev pub looped : Around → Around
looped around = record { standing = in_loop around.standing; labels = around.labels }

-- the end of a switch stands right behind that of its block
abbrev pub ends_switch : List Item → Bool
ends_switch (SwitchEnd ∷ work) = true
ends_switch work = false

-- what is around the first item, in a function with this result
abbrev pub around : TProgramTree → CTypeTree → List Item → Around
around p result [] = outermost p result
around p result (Reach at end ∷ work) = outermost p result
around p result (Close objects items ∷ work) = in_items (ends_switch work) objects items (around p result work)
around p result (Again k loop ∷ work) = looped (around p result work)
around p result (item ∷ work) = around p result work

abbrev pub scope_at : TProgramTree → CTypeTree → List Item → Scope
scope_at p result work = (around p result work).standing.scope

-- a statement, and the items of a block, are typed where they stand, and their gotos lead to labels around
abbrev pub TypedStmt : Around → TStmtTree → Type 0
TypedStmt around statement = IsTypedStmt around.standing statement × GotosStay around.labels statement

abbrev pub TypedItems : Around → TStmtTrees → Type 0
TypedItems around items = AreTypedItems around.standing items × GotosStayIn around.labels items

-- so is a loop
pub record TypedLoop (around : Around) (loop : Loop) : Type 0 where
  pub condition : IfSome loop.condition (IsTypedCondition around.standing.scope)
  pub step : IfSome loop.step (IsTypedExpr around.standing.scope false)
  pub body : TypedStmt (looped around) loop.body
