use Rattle.std.proofs.Common.{◌≡◌, ◌∙◌, ℕ, Bool, subst, sym}
use Rattle.std.specs.Prelude.{Option, option_map}
use Rattle.sqlite.specs.Held.{Held, state}
use Rattle.sqlite.specs.State.{HasCleanDisk}
use Rattle.store_tables.proofs.Queries.{only_committed}
use Rattle.archive_state.specs.Content.{Content}
use Rattle.archive_state.specs.Looks.{CountsFailures, Looked}
use Rattle.csv.specs.Records.{Row as Record, fields_of}
use Rattle.row_references.specs.References.{IsNumbered, kept_number, numbered}
use Rattle.store.specs.Looking.{StaysReadable}
use Rattle.store.specs.Viewing.{OnReadable}
use Rattle.archive_input.specs.Referring.{Numbered}
use Rattle.archive_input.proofs.Stepped.{form_then, found_then, viewed_looks, wanting}
use Rattle.archive_input.proofs.serving.look_up.Goals as goal

pub returns-clause-looked : goal.returns-clause-looked
returns-clause-looked g c =
    let row = fields_of c.args.row.now in
    let old = c.args.archive.now in
    let first = c.set_aside-import.new.self in
    let last = c.numbered-found.new.view in
    let new = c.put_back.new.self in
    let found = c.numbered-found.result in
    let kept = c.unless_lost.result in
    let start = state g.S.Store first.conn in
    let end = state g.S.Store last.conn in
    let P : Content → Option Record → Type 0 = λ k own. option_map fields_of own ≡ numbered (kept_number k) row in
    let same = c.is_lost.ensures ∙ c.put_back.ensures.lost in
    let counts = subst (λ (n : ℕ). CountsFailures n last.failures found) c.set_aside-import.ensures.counts
    c.numbered-found.ensures.counts in
    let seen = found_then start end last.is_lost last.failures found kept P c.unless_lost.ensures.found
    (λ k. wanting last.is_lost last.failures found kept (P k) counts (c.unless_lost.ensures.lost ∙ same)
    (λ sure. c.unless_lost.ensures.kept (same ∙ sure)) (λ sure. c.unless_lost.ensures.wanted (same ∙ sure)))
    (viewed_looks start end first.is_lost last.is_lost first.failures last.failures (λ k. Looked found (P k))
    c.set_aside-import.ensures.counts
    (λ rows was t l. only_committed start rows t was (g.met.S.Store.settled first.conn.store t was.is_open l))
    c.numbered-found.ensures.shows) in
    subst (λ (h : Held _). HasCleanDisk (state g.S.Store h) → StaysReadable (state g.S.Store old.conn) new.is_lost
    (state g.S.Store h) × OnReadable (state g.S.Store old.conn) (λ rows k. Numbered kept row k))
    (sym c.put_back.ensures.conn)
    (subst (λ (l : Bool). HasCleanDisk end → StaysReadable (state g.S.Store old.conn) l end
    × OnReadable (state g.S.Store old.conn) (λ rows k. Numbered kept row k)) (sym c.put_back.ensures.lost)
    (subst (λ (h : Held _). HasCleanDisk end → StaysReadable (state g.S.Store h) last.is_lost end
    × OnReadable (state g.S.Store h) (λ rows k. Numbered kept row k)) c.set_aside-import.ensures.conn seen))

pub returns-clause-form : goal.returns-clause-form
returns-clause-form g c =
    form_then c.numbered-found.result c.unless_lost.result
    (λ own. IsNumbered (fields_of c.args.row.now) (option_map fields_of own)) c.unless_lost.ensures.found
    c.numbered-found.ensures.form

pub returns-clause-aside : goal.returns-clause-aside
returns-clause-aside g c = c.put_back.ensures.back ∙ c.set_aside-import.ensures.aside

pub returns-clause-lost : goal.returns-clause-lost
returns-clause-lost g c = c.unless_lost.ensures.lost ∙ c.is_lost.ensures
