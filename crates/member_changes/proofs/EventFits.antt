-- An event with a participant less is fit for a sound archive.
use Rattle.std.proofs.Common.{◌≡◌, ℕ, ◌-◌, List, [], ◌∷◌, ◌++◌, refl, sym, ap, ◌∙◌, map}
use Rattle.std.specs.Prelude.{Option, Some, None}
use Rattle.std.specs.FinMap.{get}
use Rattle.std.specs.List.{flat_map, remove}
use Rattle.record_text.specs.Text.{IsText}
use Rattle.stored_lines.specs.Line.{Lines}
use Rattle.record_kinds.specs.Model as model
use Rattle.record_kinds.specs.declared.record.Record.{Record}
use Rattle.record_kinds.specs.declared.record.Record.TheVariants as kind
use Rattle.archive_state.specs.Carried.{place_line_carried}
use Rattle.archive_state.specs.Content.{Content}
use Rattle.archive_state.specs.Links.{carried_links, links, participant_links, place_line_links}
use Rattle.archive_state.specs.Sound.{IsSound, Stands}
use Rattle.archive_state.specs.Texts.{date_texts, own_texts}
use Rattle.record_shapes.specs.Fields.{participant_field}
use Rattle.record_shapes.specs.Levels.{AreWithin, HasRoom}
use Rattle.record_shapes.specs.Lists.{EachOf}
use Rattle.record_shapes.specs.Untaken.{AreUntaken, participant_leaves}
use Rattle.record_shapes.proofs.Each.{each_back, each_both, each_front, each_mapped, each_under}
use Rattle.record_changes.proofs.Alike.{events_alike}
use Rattle.record_changes.proofs.Fitting.{IsLeft, not_fresh, over, own_tags_of, own_texts_of, tags_left, texts_left}
use Rattle.record_changes.proofs.Keeping.{IsFit}
use Rattle.record_changes.proofs.Lists.{after_front, each_of_removed, each_removed}

-- the roles that are left
roles_left : (e : model.Event) (i : ℕ) → EachOf IsText (own_texts (kind.Event e))
    → EachOf IsText (own_texts (kind.Event (record e { participants = remove e.participants i })))
roles_left e i h =
    let role : model.Participant → List ℕ = λ p. p.role in (
      h.0,
      after_front IsText (date_texts e.date) (map role e.participants) (map role (remove e.participants i))
          (λ k. each_mapped IsText role (remove e.participants i)
          (each_removed (λ p. IsText (role p)) e.participants i (each_under IsText role e.participants k))) h.1,
    )

pub participant_removed_fits : (c : Content) (n : ℕ) (e : model.Event) (i : ℕ) → IsSound c
    → get c.records n ≡ Some (kind.Event e)
    → IsFit c n (kind.Event (record e { participants = remove e.participants i }))
participant_removed_fits c n e i sound at =
    let new : model.Event = record e { participants = remove e.participants i } in
    let old_links : EachOf (Stands c.records) (links (kind.Event e)) = sound.named n (kind.Event e) at in
    let room : HasRoom None (kind.Event e) = sound.rules.levels n (kind.Event e) at in
    let left : IsLeft (kind.Event e) (kind.Event new) = λ Q h. after_front Q (place_line_carried e.place)
    (flat_map (λ (p : model.Participant). p.carried) e.participants ++ e.carried)
    (flat_map (λ (p : model.Participant). p.carried) (remove e.participants i) ++ e.carried)
    (each_of_removed Q (λ (p : model.Participant). p.carried) e.participants i e.carried) h in
    record {
      alike = over c n (kind.Event e) (kind.Event new) at (events_alike e new);
      fresh = not_fresh c n (kind.Event e) at;
      no_place = λ q f. absurd cc;
      keys = λ q f k there. absurd cc;
      no_other = λ q f. absurd cc;
      named = (
        old_links.0,
        after_front (Stands c.records) (place_line_links e.place)
            (flat_map participant_links e.participants ++ carried_links e.carried)
            (flat_map participant_links (remove e.participants i) ++ carried_links e.carried)
            (each_of_removed (Stands c.records) participant_links e.participants i (carried_links e.carried))
            old_links.1,
      );
      parents = tt;
      normal = tt;
      once = tt;
      data_tags = tags_left c n (kind.Event e) (kind.Event new) sound at left
          (own_tags_of c n (kind.Event e) sound at);
      trailers = tt;
      texts = texts_left c n (kind.Event e) (kind.Event new) sound at left
          (roles_left e i (own_texts_of c n (kind.Event e) sound at));
      places = sound.rules.places n (kind.Event e) at;
      events = sound.rules.events n (kind.Event e) at;
      mentions = tt;
      untaken = (
        each_removed (λ (p : model.Participant). AreUntaken participant_field (participant_leaves p) p.carried)
            e.participants i (sound.rules.untaken n (kind.Event e) at).0,
        (sound.rules.untaken n (kind.Event e) at).1,
      );
      levels = (
        room.0,
        each_removed (λ (p : model.Participant). AreWithin 96 p.carried) e.participants i room.1,
        room.2,
      );
    }
