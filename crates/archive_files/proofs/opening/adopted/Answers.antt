use Rattle.std.proofs.Common.{refl, ap, ◌∙◌, inl, inr}
use Rattle.sqlite.specs.Effect.{Database}
use Rattle.sqlite.specs.Files.{file_state}
use Rattle.store.proofs.Opened.{opened_over, opened_over_old}
use Rattle.archive_files.proofs.Opened.{has_of}
use Rattle.archive_files.proofs.opening.adopted.Goals as goal

pub returns-in-Ok-clause-taken : goal.returns-in-Ok-clause-taken
returns-in-Ok-clause-taken g c = record {
  kept = c.in-Ok.ensures.adopted.0;
  ready = c.in-Ok.ensures.idle.1;
  quiet = c.in-Ok.ensures.quiet;
  has = λ clean society content t holds is.
      let takes = c.in-Ok.ensures.adopted.1 clean in
      let opened = (c.requires.opened takes.keeps.clean).0 in
      has_of (file_state c.args.conn) _ takes t society content opened.0 opened.1
      ((c.requires.opened takes.keeps.clean).1.holds t holds) is;
  recognised = λ clean t holds.
      let before = (c.in-Ok.ensures.adopted.1 clean).keeps.clean in (
        c.args.conn,
        (c.requires.opened before).1.holds t holds,
        c.in-Ok.ensures.recognised clean,
      );
}

pub returns-in-Err-clause-refused : goal.returns-in-Err-clause-refused
returns-in-Err-clause-refused g c = record {
  ended = c.in-Err.ensures.ended;
  failed = λ clean society content t holds is.
      let takes = c.in-Err.ensures.refused clean in
      let opened = (c.requires.opened takes.keeps.clean).0 in
      let held = (c.requires.opened takes.keeps.clean).1.holds t holds in
      elim is [
        | inl now ↦ takes.refused society content (opened_over _ t society content opened.0 opened.1 held now)
        | inr was ↦
            takes.anew.refused society content (opened_over_old _ t society content opened.0 opened.1 held was)
      ];
  spared = λ clean t holds.
      let takes = c.in-Err.ensures.refused clean in
      let opened = (c.requires.opened takes.keeps.clean).0 in
      let held = (c.requires.opened takes.keeps.clean).1.holds t holds in
      record {
        kept = λ society content is.
            takes.keeps.crash society content (opened_over _ t society content opened.0 opened.1 held is);
        held = λ society content was.
            takes.anew.crash society content (opened_over_old _ t society content opened.0 opened.1 held was);
      };
  as_held = λ clean t holds.
      let before = (c.in-Err.ensures.refused clean).keeps.clean in
      let opened = (c.requires.opened before).0 in
      let held = (c.requires.opened before).1.holds t holds in
      elim c.in-Err.ensures.left [
        | inl left ↦ inl (
          (λ found l. left.crash clean opened.0.is_open found l ∙ held),
          (λ foreign.
              let same = c.in-Err.ensures.unchanged clean foreign in (
                ap (λ (d : Database). d.trees) same.0 ∙ ap (λ (d : Database). d.trees) opened.0.clean ∙ held,
                ap (λ (d : Database). d.trees) same.1 ∙ held,
              )),
        )
        | inr failed ↦ inr (failed.0, (c.args.conn, held, failed.1 clean))
      ];
  reason = λ clean t holds.
      let before = (c.in-Err.ensures.refused clean).keeps.clean in (
        c.args.conn,
        (c.requires.opened before).1.holds t holds,
        c.in-Err.ensures.told clean,
      );
}
