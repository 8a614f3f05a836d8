-- Records below one another, a number at a time.
use Rattle.std.proofs.Common.{◌≡◌, ◌∙◌, ℕ, ◌+◌, ◌<◌, ◌≤◌, List, [], ◌∷◌, length, take, get_or, ap}
use Rattle.std.specs.Prelude.{Option, Some}
use Rattle.std.proofs.lemmas.List.{take_all, take_more}
use Rattle.std.proofs.lemmas.List.Sums.{fold-append}
use Rattle.archive_state.specs.Content.{Content}
use Rattle.row_references.specs.declared.words.NumberWord.{NumberWord}
use Rattle.archive_tables.specs.Texts.{both, shown_by, shown_text}

pub one_more : (c : Content) (ns : List NumberWord) (i : ℕ) (d : NumberWord) → i < length ns
    → shown_text c (take (i + 1) ns) ≡ both (shown_text c (take i ns)) (shown_by c (get_or ns i d))
one_more c ns i d less = ap (shown_text c) (take_more ns i d less)
    ∙ fold-append (λ (above : Option (List ℕ)) word. both above (shown_by c word)) (Some []) (take i ns)
    (get_or ns i d ∷ [])

pub all_shown : (c : Content) (ns : List NumberWord) (i : ℕ) → length ns ≤ i
    → shown_text c (take i ns) ≡ shown_text c ns
all_shown c ns i all = ap (shown_text c) (take_all i ns all)
