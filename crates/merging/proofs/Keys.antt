-- The keys of entries, where each that stands now stood before.
use Rattle.std.proofs.Common.{◌≡◌, ℕ, sym, ◌∙◌}
use Rattle.std.specs.Prelude.{Some}
use Rattle.std.specs.FinMap.{get}
use Rattle.record_kinds.specs.Model as model
use Rattle.record_kinds.specs.declared.record.Record.TheVariants as kind
use Rattle.archive_state.specs.Content.{Records}
use Rattle.archive_state.proofs.Keeping.{HasKeys}

-- an entry that stands there now stood there, with that key
abbrev pub WasEntry : Records → Records → ℕ → Type 0
WasEntry m after n = (e : model.Entry) → get after n ≡ Some (kind.Entry e) → (d : model.Entry)
    × (get m n ≡ Some (kind.Entry d)) × (d.source ≡ e.source) × (d.kind ≡ e.kind) × (d.page ≡ e.page)
    × (d.item ≡ e.item)

-- then no key is new
pub keys_still : (m after : Records) → ((n : ℕ) → WasEntry m after n) → HasKeys m → HasKeys after
keys_still m after was keys n k e at (f, there, (source, kinds, page, item)) =
    let old = was n e at in
    let other = was k f there in
    keys n k old.0 old.1 (
      other.0,
      other.1,
      (
        other.2 ∙ source ∙ sym old.2,
        other.3 ∙ kinds ∙ sym old.3,
        other.4 ∙ page ∙ sym old.4,
        other.5 ∙ item ∙ sym old.5,
      ),
    )
