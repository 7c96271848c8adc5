use Rattle.std.proofs.Common.{◌≡◌, ◌∙◌, ap, false, subst, sym, true}
use Rattle.pointsets.specs.Targets.{names_of}
use Rattle.mem_cell_bytes.specs.Stands.{Has}
use Rattle.mem_cell_loads.proofs.Leads.{object-has}
use Rattle.mem_cell_loads.proofs.reach.objects_of.Goals as goal

pub returns : goal.returns
returns c =
    let is = c.to_targets-targets.ensures in
    let same = c.in_ok-from_slice.ensures.items ∙ c.names.ensures.names ∙ ap names_of is in
    λ o has. subst (λ xs. Has xs o) (sym same)
    (object-has c.args.set.now o (λ any. let all = c.is_all.ensures.1 (is ∙ any) in let no : true ≡ false = sym all ∙ c.if-is_all.false in cc) has)
