use Rattle.std.proofs.Common.{◌≡◌, length, map, sym, ap, subst, ◌∙◌}
use Rattle.std.specs.Prelude.{OnOk}
use Rattle.c_objects.specs.Writing.{is_named}
use Rattle.c_syntax.specs.Program.{tprogram_tree}
use Rattle.c_syntax.specs.TypedStmt.{tinit_tree}
use Rattle.csharp.specs.Trees.{CsStmtTrees, csstmts_from}
use Rattle.lower_trees.specs.Zeros.{object_scalars, zero_cells}
use Rattle.lower_zeros.specs.Named.{AreMarked, joined}
use Rattle.lower_zeros.proofs.zeros.zero_rest.Goals as goal

pub returns : goal.returns
returns c =
    let inits = map tinit_tree c.args.inits.now in
    subst
    (λ n. OnOk c.zero_unmarked.result ((rest : CsStmtTrees) → joined (csstmts_from c.zero_unmarked.new.out.items) rest
    ≡ joined (csstmts_from c.args.out.now.items) (zero_cells (object_scalars (tprogram_tree c.args.program.now) c.args.object) (is_named inits) c.args.object 0 0 n rest)))
    (ap length c.deref.ensures.value ∙ c.in_ok-marks.ensures.many ∙ c.object_size-size.ensures)
    (c.zero_unmarked.ensures inits (subst (AreMarked inits) (sym c.deref.ensures.value) c.in_ok-marks.ensures.marked))
