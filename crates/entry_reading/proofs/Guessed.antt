-- The entry of lines is the guess, where the lines are its own.
use Rattle.std.specs.Prelude.{◌≡◌, ◌&&◌, Bool, Option, Some, None, refl}
use Rattle.std.specs.Option.{unwrap_or}
use Rattle.std.proofs.Common.{ap, sym, ◌∙◌}
use Rattle.stored_lines.specs.Line.{Lines}
use Rattle.stored_lines.specs.declared.carried.Value.{Value}
use Rattle.stored_lines.specs.declared.carried.Value.TheVariants as value
use Rattle.record_kinds.specs.Model as model
use Rattle.record_fields.specs.declared.entry_words.EntryKind.{EntryKind}
use Rattle.record_fields.specs.declared.entry_words.EntryKind.TheVariants as entry_kind
use Rattle.record_shapes.specs.Forms.{Known, is_some, is_text_value}
use Rattle.record_shapes.specs.Entries.{around, entry_if, entry_of, entry_on, is_entry}
use Rattle.record_shapes.specs.Shapes.{entry_lines}
use Rattle.entry_reading.specs.Guess.{are, guess, kind_in}

pub no_kind : (known : Known) (v : Value) (ts : Lines) → kind_in v ≡ None → entry_of known v ts ≡ None
unfolding entry_of
no_kind known (value.Ref n) ts e = refl
no_kind known (value.Text t) ts e =
    let guessed : model.Entry = entry_on t ts in
    ap (λ o. entry_if (is_some o && (is_text_value (value.Text t)
    && (are ts (entry_lines (around known) guessed) && is_entry known guessed))) guessed) e

pub of_kind : (known : Known) (v : Value) (ts : Lines) (k : EntryKind) → kind_in v ≡ Some k
    → entry_of known v ts
    ≡ entry_if (are ts (entry_lines (around known) (guess k ts)) && is_entry known (guess k ts)) (guess k ts)
unfolding entry_of
of_kind known (value.Ref n) ts k e = absurd cc
of_kind known (value.Text t) ts k e =
    let with : Option EntryKind → model.Entry = λ o. guess (unwrap_or o entry_kind.Baptism) ts in
    ap (λ o. entry_if (is_some o && (is_text_value (value.Text t)
    && (are ts (entry_lines (around known) (with o)) && is_entry known (with o)))) (with o)) e

pub read_as : (known : Known) (v : Value) (ts : Lines) (k : EntryKind) (e : model.Entry) (b : Bool) → kind_in v ≡ Some k
    → e ≡ guess k ts → b ≡ (are ts (entry_lines (around known) e) && is_entry known e)
    → entry_if b e ≡ entry_of known v ts
read_as known v ts k e b is guessed same =
    ap (λ x. entry_if x e) same
    ∙ ap (λ (x : model.Entry). entry_if (are ts (entry_lines (around known) x) && is_entry known x) x) guessed
    ∙ sym (of_kind known v ts k is)
