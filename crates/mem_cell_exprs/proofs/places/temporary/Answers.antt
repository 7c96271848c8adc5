use Rattle.std.proofs.Common.{Some, ◌∙◌, ap, subst, sym}
use Rattle.c_syntax_written.specs.declared.int_type.IntType.TheVariants.{Long}
use Rattle.machine_nums.specs.MExprs as numbers
use Rattle.machine_nums.specs.Machine.{exact_value}
use Rattle.machine_nums.proofs.Trees.{mexpr_read}
use Rattle.csharp.specs.Trees.{Temp}
use Rattle.mem_cell_exprs.specs.Known.{IsPlaceFor}
use Rattle.mem_cell_exprs.proofs.Moves.{temp-place}
use Rattle.mem_cell_exprs.proofs.places.temporary.Goals as goal

pub returns-then-branch : goal.returns-then-branch
returns-then-branch g c =
    let known = c.args.known.now in let d = c.args.temp in let set = c.in_ok-set.set in
    let tree = mexpr_read c.temp_variable.result Long ∙ ap (λ x. numbers.Read x Long) c.temp_variable.ensures in
    subst (IsPlaceFor g.D.Oracle.admits known (Temp d) set) (sym (ap Some tree))
    (temp-place g.D.Oracle.admits known d set (c.in-Some.ensures ∙ ap (λ s. Some (Some s)) (sym c.in_ok-set.ensures))
    (λ v n a e. c.in_ok-is_long.ensures c.if-branch.true v n a (ap (exact_value v) tree ∙ e)))
