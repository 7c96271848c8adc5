use Rattle.std.proofs.Common.{◌≡◌, ltb, ap, sym, ◌∙◌, rules, []}
use Rattle.std.specs.Prelude.{slice_get, find, nat_le}
use Rattle.std.specs.Option.{option_map_or}
use Rattle.std.specs.List.Sorted.{IsPartitionedBy}
use Rattle.std.proofs.lemmas.List.Sorted.{IsPartitionPoint-from_clause}
use Rattle.c_check_names.specs.Places.{places_of}
use Rattle.c_check_names.proofs.Places.{parted, at_point, got}
use Rattle.c_check_names.proofs.name_index.NameIndex.first_from.Goals as goal

pub returns : goal.returns
returns c =
    let ps = c.deref.result.now in
    let at = c.partition_point-at.result in
    let is : ps ≡ places_of c.args.name.now c.args.self.now = c.deref.ensures.value ∙ ap (λ o. option_map_or (λ v. v.items) o []) c.in_ok-places.ensures.value ∙ c.self.invariant c.args.name.now ∙ ap (places_of c.args.name.now) c.self.view_is in
    let split : IsPartitionedBy (λ place. ltb place c.args.from) ps = rw is (parted c.args.from c.args.name.now c.args.self.now) in
    let point = IsPartitionPoint-from_clause (λ place. ltb place c.args.from) ps at c.partition_point-at.ensures.partitioned split (λ a r q k. search rules) in
    let again : c.deref-2.result.now ≡ ps = c.deref-2.ensures.value ∙ sym c.deref.ensures.value in
    c.copied.ensures ∙ got c.deref-2.result.now at c.get-2.result c.get-2.ensures.lookup.3 ∙ ap (λ v. slice_get v at) again
    ∙ at_point c.args.from ps at c.partition_point-at.ensures.bound point ∙ ap (find (λ place. nat_le c.args.from place)) is
