use Rattle.std.proofs.Common.{rules}
use Rattle.std.specs.Prelude.{nat_lt}
use Rattle.std.proofs.lemmas.List.Sorted.{IsPartitionedBy-ltb, IsPartitionPoint-from_clause}
use Rattle.env_lift.proofs.Rising.{non_decreasing, parted_below, parted_from}
use Rattle.env_lift.proofs.entries.count_below.Goals as goal

pub returns-clause-below : goal.returns-clause-below
returns-clause-below g c =
    let es = c.args.entries.now in
    let parted = IsPartitionedBy-ltb (λ e. e.var.0) es c.args.x.0 (non_decreasing es c.requires) in
    let point = IsPartitionPoint-from_clause (λ e. nat_lt e.var.0 c.args.x.0) es c.partition_point.result c.partition_point.ensures.partitioned parted (λ a r q h. search rules) in
    parted_below es c.args.x.0 c.partition_point.result point.0

pub returns-clause-from : goal.returns-clause-from
returns-clause-from g c =
    let es = c.args.entries.now in
    let parted = IsPartitionedBy-ltb (λ e. e.var.0) es c.args.x.0 (non_decreasing es c.requires) in
    let point = IsPartitionPoint-from_clause (λ e. nat_lt e.var.0 c.args.x.0) es c.partition_point.result c.partition_point.ensures.partitioned parted (λ a r q h. search rules) in
    parted_from es c.args.x.0 c.partition_point.result point.1
