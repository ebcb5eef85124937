use Rattle.std.proofs.Common.{nat_le, rules, tests, arith}
use Rattle.std.proofs.lemmas.List.Sorted.{IsPartitionPoint-from_clause}
use Rattle.jsx_base.specs.SourceFile.{shared_file}
use Rattle.jsx_base.proofs.FileAt.{files_partitioned}
use Rattle.jsx_base.proofs.SpotAt.{le_of, lt_of}
use Rattle.jsx_base.proofs.source_map.files_until.Goals as goal

pub returns-clause-until : goal.returns-clause-until
returns-clause-until c =
    let h = IsPartitionPoint-from_clause (λ file. nat_le (shared_file file).start c.args.pos) c.args.files.now c.partition_point.result c.partition_point.ensures.partitioned (files_partitioned shared_file c.args.files.now c.args.pos c.requires) (λ a r f k. search (rules, tests)) in
    λ k d below. le_of _ _ (h.0 k d (omega arith) below)

pub returns-clause-from : goal.returns-clause-from
returns-clause-from c =
    let h = IsPartitionPoint-from_clause (λ file. nat_le (shared_file file).start c.args.pos) c.args.files.now c.partition_point.result c.partition_point.ensures.partitioned (files_partitioned shared_file c.args.files.now c.args.pos c.requires) (λ a r f k. search (rules, tests)) in
    λ k d above within. lt_of _ _ (h.1 k d above within)
