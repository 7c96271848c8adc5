use Rattle.std.proofs.Common.{rules}
use Rattle.std.specs.Prelude.{nat_le}
use Rattle.std.proofs.lemmas.List.Sorted.{IsPartitionedBy-leb, IsPartitionPoint-from_clause}
use Rattle.c_layout.proofs.ScalarMembers.{front_of}
use Rattle.c_layout.proofs.scalars.count_from.Goals as goal

pub returns-clause-front : goal.returns-clause-front
returns-clause-front c =
    let members = c.args.members.now in
    let parted = IsPartitionedBy-leb (λ member. member.offset) members c.args.offset c.requires in
    front_of c.args.offset c.partition_point.result members
    (IsPartitionPoint-from_clause (λ member. nat_le member.offset c.args.offset) members c.partition_point.result c.partition_point.ensures.partitioned parted (λ a r q h. search rules))
