use Rattle.std.proofs.Common.{◌≡◌, true, not, cond, subst, ap, ◌∙◌}
use Rattle.std.specs.Prelude.{bytes_eq, string_bytes}
use Rattle.std.specs.BTreeSet.{contains_text}
use Rattle.std.proofs.lemmas.Map.Text.{btree_set_updates_text}
use Rattle.sound_records.specs.Keys.{key_words}
use Rattle.sound_records.proofs.Keyed.{or_set}
use Rattle.sound_records.proofs.keys.add.Goals as goal

pub returns : goal.returns
returns c = record {
  fits = c.in_ok-words.ensures.fits;
  told = c.in_ok-added.ensures.added ∙ ap (λ w. not (contains_text c.args.keys.now w)) c.in_ok-words.ensures.words;
  added = λ x. or_set (bytes_eq (key_words c.args.entry.now) x) (contains_text c.args.keys.now x)
      (contains_text c.insert.new.self x)
      (subst (λ w. contains_text c.insert.new.self x ≡ cond (bytes_eq w x) true (contains_text c.args.keys.now x))
      c.in_ok-words.ensures.words
      (btree_set_updates_text (string_bytes c.in_ok-words.words) c.args.keys.now c.insert.new.self true
      c.in_ok-added.ensures.updates x));
}
