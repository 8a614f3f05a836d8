-- What a path is like, by an index of the places of an archive.
use Rattle.std.proofs.Common.{◌≡◌, ◌∙◌, [], Bool, List, ap, cond, false, refl, sym, true, ℕ}
use Rattle.archive_state.specs.Content.{Content}
use Rattle.page_answers.specs.Likes.{IsIndex, like, like_in, place_paths, search_key}
use Rattle.page_answers.specs.NewPlaces.{has_news, likes_on}
use Rattle.page_answers.specs.declared.answers.RowAnswer.{RowAnswer}
use Rattle.page_answers.specs.declared.index.PlaceIndex.{PlaceIndex}

-- all places, where something is to be made
pub liked : (c : Content) (index : PlaceIndex) (answers : List RowAnswer) → has_news answers ≡ true
    → IsIndex index.paths (place_paths c.records) → like_in index ≡ likes_on c answers
liked c index answers news is =
    let at : (path : List ℕ) → like_in index path ≡ likes_on c answers path =
    λ path. is (search_key path) ∙ ap (λ (b : Bool). cond b (like c.records path) []) (sym news) in
    λ i path. at path i

-- none, where nothing is
pub unliked : (c : Content) (index : PlaceIndex) (answers : List RowAnswer) → has_news answers ≡ false
    → IsIndex index.paths [] → like_in index ≡ likes_on c answers
unliked c index answers news is =
    let at : (path : List ℕ) → like_in index path ≡ likes_on c answers path =
    λ path. is (search_key path) ∙ ap (λ (b : Bool). cond b (like c.records path) []) (sym news) in
    λ i path. at path i
