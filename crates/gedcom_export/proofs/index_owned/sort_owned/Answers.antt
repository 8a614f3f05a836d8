use Rattle.std.proofs.Common.{rules}
use Rattle.std.proofs.lemmas.List.Sorted.{IsNonDecreasingBy-from_sort_by_key, answers_always}
use Rattle.gedcom_export.specs.declared.index_owned.Owned.{Owned}
use Rattle.gedcom_export.proofs.index_owned.sort_owned.Goals as goal
use Rattle.list_laws.proofs.Sorted.{stable_is}

pub returns : goal.returns
returns c = record {
  ascends = IsNonDecreasingBy-from_sort_by_key (λ (o : Owned). o.owner) c.sort_by_key.new.self.items
      c.in_ok-sort_by_key.ensures.sorted (λ a r q k. search rules);
  same = stable_is (λ (o : Owned). o.owner) c.args.owned.now.items c.sort_by_key.new.self.items
      (c.in_ok-sort_by_key.ensures.stable (λ o. o.owner) (answers_always _ _ _ (λ f a r g h. search rules)));
}
