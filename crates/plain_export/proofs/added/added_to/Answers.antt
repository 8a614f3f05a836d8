use Rattle.std.proofs.Common.{◌-◌, sym, ap, ◌∙◌, length, take, drop, ltb, leb, rules, List, ℕ}
use Rattle.std.proofs.lemmas.List.Sorted.{
  IsPartitionPoint-from_clause,
  IsPartitionedBy-ltb,
  IsPartitionedBy-leb,
  IsNonDecreasingBy-drop,
}
use Rattle.plain_export.specs.declared.added.Added.{Added}
use Rattle.plain_export.proofs.added.added_to.Goals as goal
use Rattle.list_laws.proofs.Sorted.{part_is, rest_is}

pub returns : goal.returns
returns c = λ up.
    let xs : List Added = c.args.added.now in
    let owner : Added → ℕ = λ x. x.number in
    let n = c.args.number in
    let a = c.partition_point-from.result in
    let b = c.partition_point-count.result in
    let same = rest_is xs a in
    let first = IsPartitionPoint-from_clause (λ (x : Added). ltb x.number n) xs a
    c.partition_point-from.ensures.partitioned
    (IsPartitionedBy-ltb owner xs n up) (λ z r q k. search rules) in
    let rises = IsNonDecreasingBy-drop owner a xs up in
    let second = IsPartitionPoint-from_clause (λ (x : Added). leb x.number n) (take (length xs - a) (drop a xs)) b
    c.partition_point-count.ensures.partitioned
    (rw same (IsPartitionedBy-leb owner (drop a xs) n rises)) (λ z r q k. search rules) in
    sym (part_is owner n xs a b first (rw same at second) ∙ ap (take b) (sym same))
