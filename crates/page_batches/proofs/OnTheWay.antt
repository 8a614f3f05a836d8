-- What is to be made for the entries of a page, one after the other.
use Rattle.std.proofs.Common.{
  ◌≡◌,
  ◌∙◌,
  ◌+◌,
  ◌<◌,
  ◌++◌,
  [],
  ◌∷◌,
  Bool,
  List,
  add-one,
  ap,
  append-nil,
  append_assoc,
  drop,
  false,
  get_or,
  length,
  refl,
  subst,
  suc,
  sym,
  ℕ,
}
use Rattle.std.proofs.Math.Seq.{drop-cons}
use Rattle.archive_state.specs.Content.{Content}
use Rattle.page_entries.specs.declared.entries.PageEntry.{PageEntry}
use Rattle.page_batches.specs.Looks.{Found}
use Rattle.page_batches.specs.Making.{IsNoted, IsOnTheWay, found_at, news_at, news_of, none_made}
use Rattle.page_batches.specs.declared.making.PageNews.{PageNews}
use Rattle.page_places.specs.News.{is_made}

-- the entries from one on
pub entries_from : (entries : List PageEntry) (i : ℕ) (entry : PageEntry) → i < length entries
    → entry ≡ get_or entries i entry → drop i entries ≡ entry ∷ drop (i + 1) entries
entries_from entries i entry less is = drop-cons entries i entry less
    ∙ ap (λ (e : PageEntry). e ∷ drop (suc i) entries) (sym is)
    ∙ ap (λ (k : ℕ). entry ∷ drop k entries) (sym (add-one i))

module _ (c : Content) where
  -- what is made is known by its tests
  same_news : (made now : List ℕ → Bool) (entries : List PageEntry) → ((x : List ℕ) → made x ≡ now x)
      → news_of c made entries ≡ news_of c now entries
  same_news made now entries e =
      let same : made ≡ now = λ i x. e x i in ap (λ (f : List ℕ → Bool). news_of c f entries) same

  pub begun : (made : List ℕ → Bool) (found : List Found) (paths : List (List ℕ)) (all : List PageEntry)
      → ((x : List ℕ) → made x ≡ false) → found ≡ [] → paths ≡ [] → IsOnTheWay c made found paths all all
  begun made found paths all none f p =
      let same : news_of c made all ≡ news_of c none_made all = same_news made none_made all none in
      record {
        places = ap (λ (fs : List Found). fs ++ (news_of c made all).places) f ∙ ap (λ (n : PageNews). n.places) same;
        news = ap (λ (ps : List (List ℕ)). ps ++ (news_of c made all).paths) p ∙ ap (λ (n : PageNews). n.paths) same;
      }

  pub went_on : (made now : List ℕ → Bool) (found more_found : List Found) (paths more_paths : List (List ℕ))
      (place : Found) (entry : PageEntry) (rest more all : List PageEntry) → rest ≡ entry ∷ more
      → IsNoted (news_at c made entry.place) (found_at c made entry.place) place paths more_paths made now
      → more_found ≡ found ++ place ∷ [] → IsOnTheWay c made found paths rest all
      → IsOnTheWay c now more_found more_paths more all
  went_on made now found more_found paths more_paths place entry rest more all e noted f way =
      let n = news_at c made entry.place in
      let is = found_at c made entry.place in
      let left : PageNews = news_of c now more in
      let then_made : List ℕ → Bool = is_made made n.paths in
      let same : left ≡ news_of c then_made more = same_news now then_made more noted.noted in
      let at : IsOnTheWay c made found paths (entry ∷ more) all =
      subst (λ (es : List PageEntry). IsOnTheWay c made found paths es all) e way in
      record {
        places = ap (λ (fs : List Found). fs ++ left.places) f
            ∙ (append_assoc found (place ∷ []) left.places
            ∙ (ap (λ (p : Found). found ++ p ∷ left.places) noted.found_is
            ∙ (ap (λ (l : PageNews). found ++ is ∷ l.places) same ∙ at.places)));
        news = ap (λ (ps : List (List ℕ)). ps ++ left.paths) noted.added
            ∙ (append_assoc paths n.paths left.paths
            ∙ (ap (λ (l : PageNews). paths ++ (n.paths ++ l.paths)) same ∙ at.news));
      }

  pub ended : (made : List ℕ → Bool) (found : List Found) (paths : List (List ℕ)) (rest all : List PageEntry)
      → rest ≡ [] → IsOnTheWay c made found paths rest all
      → record { places = found; paths = paths } ≡ news_of c none_made all
  ended made found paths rest all e way =
      let at : IsOnTheWay c made found paths [] all =
      subst (λ (es : List PageEntry). IsOnTheWay c made found paths es all) e way in
      let places : found ≡ (news_of c none_made all).places = sym (append-nil found) ∙ at.places in
      let news : paths ≡ (news_of c none_made all).paths = sym (append-nil paths) ∙ at.news in
      λ i. record { places = places i; paths = news i }
