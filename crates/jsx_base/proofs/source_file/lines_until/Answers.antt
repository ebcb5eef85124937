use Rattle.std.proofs.Common.{nat_le, rules, tests, arith}
use Rattle.std.proofs.lemmas.List.Sorted.{IsPartitionPoint-from_clause}
use Rattle.jsx_base.proofs.SpotAt.{le_of, lt_of}
use Rattle.jsx_base.proofs.source_file.lines_until.Goals as goal

pub returns-clause-until : goal.returns-clause-until
returns-clause-until c =
    let h = IsPartitionPoint-from_clause (λ start. nat_le start c.args.place) c.args.line_starts.now c.partition_point.result c.partition_point.ensures.partitioned c.requires (λ a r f k. search (rules, tests)) in
    λ k below. le_of _ _ (h.0 k 0 (omega arith) below)

pub returns-clause-from : goal.returns-clause-from
returns-clause-from c =
    let h = IsPartitionPoint-from_clause (λ start. nat_le start c.args.place) c.args.line_starts.now c.partition_point.result c.partition_point.ensures.partitioned c.requires (λ a r f k. search (rules, tests)) in
    λ k above within. lt_of _ _ (h.1 k 0 above within)
