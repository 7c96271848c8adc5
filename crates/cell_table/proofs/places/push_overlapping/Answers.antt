use Rattle.std.proofs.Common.{◌≡◌, ◌++◌, ◌∙◌, ap, List, ℕ, rules}
use Rattle.std.specs.declared.ops.Bound.TheVariants.{Included, Excluded}
use Rattle.std.specs.BTreeMap.Range.{entries_between}
use Rattle.cell_table.specs.Places.{place_cmp}
use Rattle.cell_table.specs.declared.places.Place.{Place}
use Rattle.cell_table.proofs.Ranges.{wanted, wanted-between}
use Rattle.cell_table.proofs.places.push_overlapping.Goals as goal

pub loop-offset-init : goal.loop-offset-init
loop-offset-init c =
    let rest : c.into_iter-offset-iterator.result ≡ entries_between place_cmp (Included (c.args.object, 0)) (Excluded (c.args.object, c.args.to)) c.args.places.now.entries = search rules in
    ap (λ (ns : List ℕ). c.args.numbers.now.items ++ ns)
    (ap (λ (es : List ((ℕ × ℕ) × Place)). wanted c.args.from c.args.to es) rest ∙ wanted-between c.args.object c.args.from c.args.to c.args.places.now.entries)
