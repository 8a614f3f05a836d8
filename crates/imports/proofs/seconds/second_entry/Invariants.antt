use Rattle.std.proofs.Common.{◌≡◌, drop, false, map}
use Rattle.std.specs.BTreeSet.{contains_text}
use Rattle.imports.specs.Keys.{second_by}
use Rattle.imports.specs.Seconds.{said_of}
use Rattle.imports.proofs.seconds.second_entry.Given as goal

abbrev pub invariant-loop-draft : goal.invariant-loop-draft
invariant-loop-draft l = record {
  count : l.position ≡ l.draft-index;
  second : second_by l.position (contains_text l.keys) (map said_of (drop l.draft-index l.drafts))
      ≡ second_by 0 (λ x. false) (map said_of l.drafts);
}
