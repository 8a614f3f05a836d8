use Rattle.std.proofs.Common.{rules}
use Rattle.std.proofs.lemmas.List.Sorted.{IsNonDecreasingBy-from_sort_by_key, answers_always}
use Rattle.file_records.specs.declared.sides.Side.{Side}
use Rattle.file_records.proofs.arranged.arrange.Goals as goal
use Rattle.list_laws.proofs.Sorted.{stable_is}

pub returns : goal.returns
returns c = record {
  ascends = IsNonDecreasingBy-from_sort_by_key (λ (o : Side). o.family) c.sort_by_key.new.self.items
      c.in_ok-sort_by_key.ensures.sorted (λ a r q k. search rules);
  same = stable_is (λ (o : Side). o.family) c.args.sides.now.items c.sort_by_key.new.self.items
      (c.in_ok-sort_by_key.ensures.stable (λ o. o.family) (answers_always _ _ _ (λ f a r g h. search rules)));
}
