use Rattle.std.proofs.Common.{rules}
use Rattle.std.proofs.lemmas.List.Sorted.{IsNonDecreasingBy-from_sort_by_key, answers_always}
use Rattle.plain_export.specs.declared.added.Added.{Added}
use Rattle.plain_export.proofs.added.sort_added.Goals as goal
use Rattle.list_laws.proofs.Sorted.{stable_is}

pub returns : goal.returns
returns c = record {
  ascends = IsNonDecreasingBy-from_sort_by_key (λ (x : Added). x.number) c.sort_by_key.new.self.items
      c.in_ok-sort_by_key.ensures.sorted (λ a r q k. search rules);
  same = stable_is (λ (x : Added). x.number) c.args.added.now.items c.sort_by_key.new.self.items
      (c.in_ok-sort_by_key.ensures.stable (λ x. x.number) (answers_always _ _ _ (λ f a r g h. search rules)));
}
