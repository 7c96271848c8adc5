use Rattle.std.proofs.Common.{ℤ, ◌∙◌, ap, sym, subst, rules, FitsSigned}
use Rattle.std.proofs.lemmas.Int.{to_z-of_z}
use mir.Syntax.{w128}
use Rattle.num_api.specs.Exprs as plain
use Rattle.num_api.specs.Exprs.{nexpr_tree}
use Rattle.num_api.specs.declared.expr.NOp.TheVariants.{Add}
use Rattle.num_api.proofs.Trees.{nexpr_const}
use Rattle.machine_nums.specs.Wrapping.{Takes, IsWrapping}
use Rattle.machine_nums.specs.declared.wrapping.Way.{Way}
use Rattle.machine_nums.specs.declared.wrapping.Way.TheVariants.{Shifted, Only, ByBits}
use Rattle.machine_nums.proofs.WrappedParts.{part_kept, part_shifted, part_only, part_by_bits}
use Rattle.machine_nums.proofs.parts.wrapped.Goals as goal

pub returns-in-Kept : goal.returns-in-Kept
returns-in-Kept c = part_kept c.args.t c.args.part (subst (Takes c.args.t c.args.part.range) c.in-Kept.is c.wrap_range-found.ensures.takes.right)

pub returns-in_ok-plain-in-Shifted : goal.returns-in_ok-plain-in-Shifted
returns-in_ok-plain-in-Shifted c =
    let s = c.in-Shifted.shift in let t = c.args.t in let r = c.args.part.range in
    let fits : FitsSigned w128 s = search rules in
    let same = to_z-of_z w128 s fits in
    let way = subst (λ (w : Way). IsWrapping t r w c.wrap_range-found.result.range) c.in-Shifted.is c.wrap_range-found.ensures in
    part_shifted t c.args.part c.changed.result c.changed.ensures.kept s
    (c.changed.ensures.tree ∙ c.in_ok-plain-in-Shifted.ensures ∙ ap (λ (k : ℤ). plain.Binary Add (nexpr_tree c.args.part.plain) (plain.Const k)) same) fits
    (subst (IsWrapping t r (Shifted s)) (sym c.changed.ensures.range) way)

pub returns-in-Only : goal.returns-in-Only
returns-in-Only c =
    let m = c.in-Only.n in let t = c.args.t in let r = c.args.part.range in
    let fits : FitsSigned w128 m = search rules in
    let way = subst (λ (w : Way). IsWrapping t r w c.wrap_range-found.result.range) c.in-Only.is c.wrap_range-found.ensures in
    part_only t c.args.part c.changed-in-Only.result c.changed-in-Only.ensures.kept m
    (c.changed-in-Only.ensures.tree ∙ nexpr_const _ ∙ ap plain.Const (to_z-of_z w128 m fits)) fits
    (subst (IsWrapping t r (Only m)) (sym c.changed-in-Only.ensures.range) way)

pub returns-in_ok-plain-in-ByBits : goal.returns-in_ok-plain-in-ByBits
returns-in_ok-plain-in-ByBits c =
    let t = c.args.t in let r = c.args.part.range in
    let way = subst (λ (w : Way). IsWrapping t r w c.wrap_range-found.result.range) c.in-ByBits.is c.wrap_range-found.ensures in
    part_by_bits t c.args.part c.changed-in-ByBits.result c.changed-in-ByBits.ensures.kept (c.changed-in-ByBits.ensures.tree ∙ c.in_ok-plain-in-ByBits.ensures)
    (subst (IsWrapping t r ByBits) (sym c.changed-in-ByBits.ensures.range) way)
