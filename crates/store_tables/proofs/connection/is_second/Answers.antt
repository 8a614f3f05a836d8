use Rattle.std.proofs.Common.{◌≡◌, ◌∙◌, ap, length, Bool, true, false, sym, ◌==◌, refl}
use Rattle.sqlite.specs.Schema.{Schema}
use Rattle.store_tables.specs.Schema.{archive_schema}
use Rattle.store_tables.proofs.connection.is_second.Goals as goal

-- each schema has as many tables as it has
told : (b : Bool) → (length (archive_schema b).tables == 11) ≡ b
told false = refl
told true = refl

pub returns : goal.returns
returns g c b is = sym (told b) ∙ ap (λ n. n == 11)
    (ap (λ (s : Schema). length s.tables) (sym is) ∙ ap (λ (s : Schema). length s.tables) (sym c.schema.ensures.value)
    ∙ sym c.len.ensures)
