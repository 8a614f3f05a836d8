-- What a plain export leaves out, as lines: rules of our own.
use Rattle.std.specs.Prelude.{ℕ, List, [], ◌++◌, ◌==◌, codes, decimal, if◌then◌else◌, length, nat_lt}
use Rattle.std.specs.List.{filter}
use Rattle.std.specs.FinMap.{keys}
use Rattle.archive_state.specs.Content.{Records}
use Rattle.plain_export.specs.LeftOut as leaving

-- how many are left out, where there are some
abbrev pub left_line : ℕ → List ℕ → List ℕ
left_line n what =
    if nat_lt 0 n then codes "  left out: " ++ (decimal n ++ (codes " " ++ (what ++ codes "\n"))) else []

-- the words for one, or for another number
abbrev pub words_for : ℕ → List ℕ → List ℕ → List ℕ
words_for n one several = if n == 1 then one else several

abbrev pub kind_line : ℕ → List ℕ → List ℕ → List ℕ
kind_line n one several = left_line n (words_for n one several)

-- of each kind; places that nothing names are counted there whether they have lines of their own or not
abbrev pub left_out_text : Records → List ℕ
left_out_text m =
    kind_line (length (leaving.those leaving.carries_lines m)) (codes "place with lines of its own")
    (codes "places with lines of their own")
    ++ (kind_line (length (filter (leaving.is_unnamed m) (keys m))) (codes "place that nothing names")
    (codes "places that nothing names")
    ++ (kind_line (length (leaving.those leaving.is_our_own m)) (codes "record with a tag of our own")
    (codes "records with a tag of our own")
    ++ kind_line (length (leaving.those leaving.has_second_sex m)) (codes "second sex of a person")
    (codes "second sexes of persons")))
