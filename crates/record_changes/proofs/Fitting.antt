-- What a record in place of one of its kind has of that one.
use Rattle.std.proofs.Common.{◌≡◌, ℕ, ◌≤◌, List, [], ◌∷◌, ◌++◌, sym, ap, ◌∙◌, subst}
use Rattle.std.specs.Prelude.{Some, None}
use Rattle.std.specs.FinMap.{get}
use Rattle.std.specs.List.{flat_map}
use Rattle.record_text.specs.Text.{IsText}
use Rattle.stored_lines.specs.Tree.{Tree}
use Rattle.stored_lines.specs.Line.{Line, Lines}
use Rattle.record_kinds.specs.declared.record.Record.{Record}
use Rattle.archive_state.specs.Carried.{carried, carried_tags, tags}
use Rattle.archive_state.specs.Content.{Content}
use Rattle.archive_state.specs.Sound.{IsOfRecords, IsSound, own_tags}
use Rattle.archive_state.specs.Texts.{carried_texts, line_texts, own_texts}
use Rattle.archive_state.proofs.Keeping.{IsAlike}
use Rattle.record_shapes.specs.Lists.{EachOf}
use Rattle.record_shapes.proofs.Each.{each_back, each_both, each_flat, each_front, each_of_flat}

-- where a record stands, no number from the next one on is needed
pub not_fresh : (c : Content) (n : ℕ) (r : Record) → get c.records n ≡ Some r → get c.records n ≡ None → c.next ≤ n
not_fresh c n r at none = let both : Some r ≡ None = sym at ∙ none in absurd cc

it_is : (c : Content) (n : ℕ) (r old : Record) → get c.records n ≡ Some r → get c.records n ≡ Some old → r ≡ old
it_is c n r old e f = let both : Some r ≡ Some old = sym e ∙ f in cc

-- a record of the kind of the one that is there
pub over : (c : Content) (n : ℕ) (r new : Record) → get c.records n ≡ Some r → IsAlike r new → (old : Record)
    → get c.records n ≡ Some old → IsAlike old new
over c n r new at alike old e = subst (λ x. IsAlike x new) (it_is c n r old at e) alike

-- ---- carried lines of which all were carried before
-- what held of each carried line holds of each that is carried now
abbrev pub IsLeft : Record → Record → Type 1
IsLeft old new = (Q : Tree Line → Type 0) → EachOf Q (carried old) → EachOf Q (carried new)

-- their tags
pub tags_left : (c : Content) (n : ℕ) (old new : Record) → IsSound c → get c.records n ≡ Some old → IsLeft old new
    → EachOf IsOfRecords (own_tags new) → EachOf IsOfRecords (own_tags new ++ carried_tags new)
tags_left c n old new sound at left own =
    each_both IsOfRecords (own_tags new) (carried_tags new) own
    (each_flat IsOfRecords tags (carried new) (left (λ t. EachOf IsOfRecords (tags t))
    (each_of_flat IsOfRecords tags (carried old)
    (each_back IsOfRecords (own_tags old) (carried_tags old) (sound.rules.tags n old at)))))

-- their texts
pub texts_left : (c : Content) (n : ℕ) (old new : Record) → IsSound c → get c.records n ≡ Some old → IsLeft old new
    → EachOf IsText (own_texts new) → EachOf IsText (own_texts new ++ carried_texts new)
texts_left c n old new sound at left own =
    each_both IsText (own_texts new) (carried_texts new) own
    (each_flat IsText line_texts (carried new) (left (λ t. EachOf IsText (line_texts t))
    (each_of_flat IsText line_texts (carried old)
    (each_back IsText (own_texts old) (carried_texts old) (sound.rules.texts n old at)))))

-- the tags and texts that a record has itself
pub own_tags_of : (c : Content) (n : ℕ) (old : Record) → IsSound c → get c.records n ≡ Some old
    → EachOf IsOfRecords (own_tags old)
own_tags_of c n old sound at = each_front IsOfRecords (own_tags old) (carried_tags old) (sound.rules.tags n old at)

pub own_texts_of : (c : Content) (n : ℕ) (old : Record) → IsSound c → get c.records n ≡ Some old
    → EachOf IsText (own_texts old)
own_texts_of c n old sound at = each_front IsText (own_texts old) (carried_texts old) (sound.rules.texts n old at)

-- what is the same is left
pub left_same : (old new : Record) → carried new ≡ carried old → IsLeft old new
left_same old new e Q h = subst (λ (l : Lines). EachOf Q l) (sym e) h
