use Rattle.std.proofs.Common.{sym, ap, ◌∙◌}
use Rattle.csharp.specs.Trees.{CsStmtTree, csprogram_tree, csstmt_tree}
use Rattle.csharp.specs.Meaning.{Anew, level}
use Rattle.csharp.proofs.CodeTrees.{csstmt_assume, csstmt_checked}
use Rattle.csharp_exec.proofs.Rows.{if_ok}
use Rattle.csharp_exec.proofs.Variants.{no_action}
use Rattle.csharp_exec.proofs.actions.act.Goals as goal

pub unreachable-requires : goal.unreachable-requires
unreachable-requires c =
    no_action c.args.stmt.now c.requires.action c.in_default.not-Set c.in_default.not-Load c.in_default.not-Store c.in_default.not-CopyBytes
    c.in_default.not-Undefine c.in_default.not-Input c.in_default.not-Checked c.in_default.not-Assume c.in_default.not-Return c.in_default.not-Exit
    c.in_default.not-Goto c.in_default.not-Nothing c.in_default.not-Default c.in_default.not-Label c.in_default.not-Case

pub returns-in-Assume-clause-told : goal.returns-in-Assume-clause-told
returns-in-Assume-clause-told c =
    if_ok c.assume.result _ _ (λ o h over later. h over (csprogram_tree c.args.program.now) later
    ∙ ap (λ (a : CsStmtTree). level over (csprogram_tree c.args.program.now) later Anew a c.args.state.now)
    (sym (ap csstmt_tree c.in-Assume.is ∙ csstmt_assume c.in-Assume.condition))) c.assume.ensures.told

pub returns-in-Checked-clause-told : goal.returns-in-Checked-clause-told
returns-in-Checked-clause-told c =
    if_ok c.judge.result _ _ (λ o h over later. h over later
    ∙ ap (λ (a : CsStmtTree). level over (csprogram_tree c.args.program.now) later Anew a c.args.state.now)
    (sym (ap csstmt_tree c.in-Checked.is ∙ csstmt_checked c.in-Checked.check))) c.judge.ensures.told
