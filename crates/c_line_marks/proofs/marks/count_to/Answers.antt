use Rattle.std.proofs.Common.{rules, nat_le}
use Rattle.std.proofs.lemmas.List.Sorted.{IsPartitionPoint-from_clause, IsPartitionedBy-leb}
use Rattle.c_line_marks.proofs.marks.count_to.Goals as goal

pub returns-clause-point : goal.returns-clause-point
returns-clause-point c =
    IsPartitionPoint-from_clause (λ start. nat_le start.line c.args.line) c.args.starts.now c.partition_point.result c.partition_point.ensures.partitioned
    (IsPartitionedBy-leb (λ start. start.line) c.args.starts.now c.args.line c.requires) (λ a r f' k. search rules)
