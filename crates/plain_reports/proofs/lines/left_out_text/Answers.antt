use Rattle.std.proofs.Common.{◌≡◌, ◌∙◌, ◌++◌, ℕ, List, [], ap, length}
use Rattle.std.proofs.lemmas.List.{append_assoc}
use Rattle.std.specs.Prelude.{codes}
use Rattle.std.specs.FinMap.{keys}
use Rattle.std.specs.List.{filter}
use Rattle.plain_export.specs.LeftOut as leaving
use Rattle.plain_reports.specs.Texts.{kind_line}
use Rattle.plain_reports.proofs.lines.left_out_text.Goals as goal

-- a text and one more, each of which is known
then : (old was new given more : List ℕ) → new ≡ old ++ given → old ≡ was → given ≡ more → new ≡ was ++ more
then old was new given more is before same =
    is ∙ (ap (λ (s : List ℕ). s ++ given) before ∙ ap (λ (s : List ℕ). was ++ s) same)

-- one text after the other
joined : (a b c d all : List ℕ) → all ≡ ((([] ++ a) ++ b) ++ c) ++ d → all ≡ a ++ (b ++ (c ++ d))
joined a b c d all is = is ∙ (append_assoc (a ++ b) c d ∙ append_assoc a b (c ++ d))

-- the line of those that are found
counted : (found all one several : List ℕ) → found ≡ all
    → kind_line (length found) one several ≡ kind_line (length all) one several
counted found all one several same = ap (λ (s : List ℕ). kind_line (length s) one several) same

pub returns : goal.returns
returns c =
    let m = c.args.state.now.records in
    let place = codes "place with lines of its own" in
    let places = codes "places with lines of their own" in
    let name = codes "place that nothing names" in
    let names = codes "places that nothing names" in
    let record_of = codes "record with a tag of our own" in
    let records = codes "records with a tag of our own" in
    let sex = codes "second sex of a person" in
    let persons = codes "second sexes of persons" in
    let lines = kind_line (length (leaving.those leaving.carries_lines m)) place places in
    let unnamed = kind_line (length (filter (leaving.is_unnamed m) (keys m))) name names in
    let own = kind_line (length (leaving.those leaving.is_our_own m)) record_of records in
    let sexes = kind_line (length (leaving.those leaving.has_second_sex m)) sex persons in
    joined lines unnamed own sexes _ (then _ ((([] ++ lines) ++ unnamed) ++ own) _ _ sexes c.in_ok-push_kind-4.ensures
    (then _ (([] ++ lines) ++ unnamed) _ _ own c.in_ok-push_kind-3.ensures
    (then _ ([] ++ lines) _ _ unnamed c.in_ok-push_kind-2.ensures
    (then _ [] _ _ lines c.in_ok-push_kind.ensures c.new-out.ensures.bytes
    (counted _ _ place places c.in_ok-places_with_lines.ensures))
    (counted _ _ name names c.in_ok-unnamed_places.ensures))
    (counted _ _ record_of records c.in_ok-our_own_records.ensures))
    (counted _ _ sex persons c.in_ok-second_sexes.ensures))
