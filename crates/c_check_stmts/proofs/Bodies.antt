-- What stands below a switch, and the cases around it.
use Rattle.std.proofs.Common.{◌≡◌, ◌<◌, ap, ◌∙◌, subst, arith}
use Rattle.std.specs.Prelude.{Some}
use Rattle.c_syntax_written.specs.declared.place.Pos.{Pos}
use Rattle.c_syntax_written.specs.Written.{ExprTree}
use Rattle.c_syntax_written.specs.WrittenFile as files
use Rattle.c_syntax_written.specs.WrittenFile.{StmtTree, BlockItemTrees}
use Rattle.c_syntax_written.specs.Sizes.{blockitems_size, stmt_size}
use Rattle.c_typing.specs.Context.{Context}
use Rattle.c_typing.specs.Names.{opened}
use Rattle.c_typing.specs.Stmts.{Switched, SwitchValue}
use Rattle.c_typing.specs.World.{World, Outcome, Typed}
use Rattle.c_check_jumps.specs.declared.switches.OuterCases.{OuterCases}
use Rattle.c_check_jumps.specs.Views.{Keeps}
use Rattle.c_check_stmts.proofs.Cases.{switch_leaves_cases}
use Rattle.c_check_stmts.specs.Forms.{SwitchBody, SwitchBodyForm, as_block}

-- the items of a block are smaller than the block
pub block_size : (s : StmtTree) (items : BlockItemTrees) → Some items ≡ as_block s → blockitems_size items < stmt_size s
block_size (files.Block at list) items e =
    let same : items ≡ list = cc in
    let size : blockitems_size items ≡ blockitems_size list = ap blockitems_size same in
    omega (arith, size)
block_size (files.Label at name body) items e = cc
block_size (files.Case at value body) items e = cc
block_size (files.Default at body) items e = cc
block_size (files.Empty at) items e = cc
block_size (files.Expression at value) items e = cc
block_size (files.If at condition first) items e = cc
block_size (files.IfElse at condition first second) items e = cc
block_size (files.Switch at value body) items e = cc
block_size (files.While at condition body) items e = cc
block_size (files.DoWhile at body condition) items e = cc
block_size (files.For at start condition step body) items e = cc
block_size (files.Goto at name) items e = cc
block_size (files.Continue at) items e = cc
block_size (files.Break at) items e = cc
block_size (files.Return at value) items e = cc

-- the same body in the same program
pub body_so : (u v : World) (inner around : Context) (s : StmtTree) (o : Outcome SwitchBody) → u ≡ v → inner ≡ around
    → SwitchBodyForm u inner s (as_block s) o → SwitchBodyForm v around s (as_block s) o
body_so u v inner around s o e f p =
    subst (λ w. SwitchBodyForm w around s (as_block s) o) e (subst (λ c. SwitchBodyForm u c s (as_block s) o) f p)

-- the cases that stood before the value of a switch are those that stood before the switch
pub keeps_outer : (w u v : World) (at : Pos) (e : ExprTree) (by : Switched) (outer : OuterCases) → u ≡ opened w → SwitchValue u at e (Typed by v) → Keeps outer v
    → Keeps outer w
keeps_outer w u v at e by outer opens typed kept =
    let same = switch_leaves_cases u v at e by typed in
    record {
      cases = kept.cases ∙ same.cases ∙ ap (λ (x : World). x.cases) opens;
      default = kept.default ∙ same.default ∙ ap (λ (x : World). x.default) opens;
    }
