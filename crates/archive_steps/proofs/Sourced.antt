-- Repositories, sources and citations that commands make are fit for a sound archive.
use Rattle.std.proofs.Common.{◌≡◌, ℕ, List, [], ◌∷◌, ◌++◌, refl, subst}
use Rattle.std.specs.Prelude.{Option, Some, None, Ok, not}
use Rattle.std.specs.FinMap.{get}
use Rattle.std.specs.Str.{IsUtf8}
use Rattle.record_text.specs.Text.{IsText}
use Rattle.record_text.specs.declared.refusal.RefusalKind.TheVariants.{BadText}
use Rattle.record_fields.specs.declared.words.Quality.{Quality}
use Rattle.record_kinds.specs.Model as model
use Rattle.record_kinds.specs.declared.record.Record.{Record}
use Rattle.record_kinds.specs.declared.record.Record.TheVariants as kind
use Rattle.archive_state.specs.Links.{a_repo, a_source, a_cited, links}
use Rattle.archive_state.specs.Carried.{carried_tags}
use Rattle.record_shapes.specs.Levels.{HasRoom, room_below}
use Rattle.record_shapes.specs.Lists.{EachOf}
use Rattle.record_shapes.specs.Untaken.{HasUntaken}
use Rattle.archive_state.specs.Content.{Content}
use Rattle.archive_state.specs.Known.{known_of, known_before}
use Rattle.archive_state.specs.Sound.{IsOfRecords, Stands, IsSound}
use Rattle.archive_state.specs.Texts.{own_texts, carried_texts}
use Rattle.archive_state.specs.Texts as texts
use Rattle.commands.specs.Rows.{and_then}
use Rattle.command_checks.specs.Checks.{need, text_in, or_no_text, maybe_text_in}
use Rattle.archive_steps.specs.Steps.{plain_repo, plain_source, plain_citation, lacks_repo, given_source}
use Rattle.archive_steps.proofs.Fitting.{fresh_at_next, anew}
use Rattle.record_changes.proofs.Keeping.{IsFit}
use Rattle.archive_steps.proofs.Worded.{text_found}
use Rattle.commands.proofs.Chains.{both_answered}
use Rattle.record_shapes.proofs.Each.{each_both}
use Rattle.record_shapes.proofs.Limits.{none_within}

-- the repository stands there, where a number is given
abbrev pub RepoAt : Content → Option ℕ → Type 0
RepoAt c None = Unit {0}
RepoAt c (Some n) = Stands c.records (n, a_repo)

-- what is given is a text, where it is given
abbrev pub IsMaybeText : Option (List ℕ) → Type 0
IsMaybeText o = EachOf IsText (texts.there o)

-- ---- repositories
pub new_repo_fits : (c : Content) (name : List ℕ) → IsSound c → IsText name
    → IsFit c c.next (kind.Repo (plain_repo name))
new_repo_fits c name sound is = record {
  alike = anew c (kind.Repo (plain_repo name)) sound;
  fresh = fresh_at_next c;
  no_place = λ q e. absurd cc;
  keys = λ q e k there. absurd cc;
  no_other = λ q e. absurd cc;
  named = tt;
  parents = tt;
  normal = tt;
  once = tt;
  data_tags = tt;
  trailers = tt;
  texts = (is, tt);
  places = tt;
  events = tt;
  mentions = tt;
  untaken = refl;
  levels = none_within 98;
}

-- ---- sources
source_fits : (c : Content) (s : model.Source) → IsSound c → EachOf (Stands c.records) (links (kind.Source s))
    → EachOf IsOfRecords (carried_tags (kind.Source s))
    → EachOf IsText (own_texts (kind.Source s) ++ carried_texts (kind.Source s))
    → HasUntaken (known_before c.records c.next) (known_of c.records) (kind.Source s) → HasRoom None (kind.Source s)
    → IsFit c c.next (kind.Source s)
source_fits c s sound named carry written untaken levels = record {
  alike = anew c (kind.Source s) sound;
  fresh = fresh_at_next c;
  no_place = λ q e. absurd cc;
  keys = λ q e k there. absurd cc;
  no_other = λ q e. absurd cc;
  named = named;
  parents = tt;
  normal = tt;
  once = tt;
  data_tags = carry;
  trailers = tt;
  texts = written;
  places = tt;
  events = tt;
  mentions = tt;
  untaken = untaken;
  levels = levels;
}

-- the texts of a source, before what its holdings have
source_written : (title : List ℕ) (author publisher : Option (List ℕ)) (rest : List (List ℕ)) → IsText title
    → IsMaybeText author → IsMaybeText publisher → EachOf IsText rest
    → EachOf IsText (title ∷ (texts.there author ++ (texts.there publisher ++ rest)))
source_written title author publisher rest t a p h = (
  t,
  each_both IsText (texts.there author) (texts.there publisher ++ rest) a
      (each_both IsText (texts.there publisher) rest p h),
)

pub new_source_fits : (c : Content) (title : List ℕ) (author publisher : Option (List ℕ)) (repo : Option ℕ)
    (call_number : Option (List ℕ)) → IsSound c → IsText title → IsMaybeText author → IsMaybeText publisher
    → IsMaybeText call_number → RepoAt c repo
    → IsFit c c.next (kind.Source (plain_source title author publisher repo call_number))
new_source_fits c title author publisher None call_number sound t a p n at =
    let s : Record = kind.Source (plain_source title author publisher None call_number) in
    source_fits c (plain_source title author publisher None call_number) sound tt tt
    (each_both IsText (own_texts s) (carried_texts s) (source_written title author publisher [] t a p tt) tt)
    (tt, refl) (tt, none_within 98)
new_source_fits c title author publisher (Some k) call_number sound t a p n at =
    let s : Record = kind.Source (plain_source title author publisher (Some k) call_number) in
    source_fits c (plain_source title author publisher (Some k) call_number) sound (at, tt) tt
    (each_both IsText (own_texts s) (carried_texts s)
    (source_written title author publisher (texts.there call_number ++ []) t a p
    (each_both IsText (texts.there call_number) [] n tt)) tt)
    ((refl, tt), refl) ((none_within 97, tt), none_within 98)

-- ---- citations
pub new_citation_fits : (c : Content) (owner source : ℕ) (page : Option (List ℕ)) (quality : Option Quality) → IsSound c
    → IsMaybeText page → Stands c.records (owner, a_cited) → Stands c.records (source, a_source)
    → IsFit c c.next (kind.Citation (plain_citation owner source page quality))
new_citation_fits c owner source page quality sound is of cites = record {
  alike = anew c (kind.Citation (plain_citation owner source page quality)) sound;
  fresh = fresh_at_next c;
  no_place = λ q e. absurd cc;
  keys = λ q e k there. absurd cc;
  no_other = λ q e. absurd cc;
  named = (of, (cites, tt));
  parents = tt;
  normal = tt;
  once = tt;
  data_tags = tt;
  trailers = tt;
  texts = each_both IsText (texts.there page) [] is tt;
  places = tt;
  events = tt;
  mentions = tt;
  untaken = refl;
  levels = none_within (room_below (get c.records owner));
}

-- ---- the words of a source
none_or_text : (t : List ℕ) → IsText t → IsMaybeText (or_no_text t)
none_or_text [] is = tt
none_or_text (b ∷ bs) is = (is, tt)

-- words that are taken as a text, or as none
pub maybe_text_found : (words : List ℕ) (o : Option (List ℕ)) → IsUtf8 words → maybe_text_in words
    ≡ Ok o → IsMaybeText o
maybe_text_found words o utf8 e =
    let t = both_answered (text_in words) (λ t. Ok (or_no_text t)) o e in
    let same : or_no_text t.0 ≡ o = let f : Ok (or_no_text t.0) ≡ Ok o = t.2 in cc in
    subst IsMaybeText same (none_or_text t.0 (text_found words t.0 utf8 t.1))

-- a source of words that are taken
pub record IsGiven (s : model.Source) (repo : Option ℕ) : Type 0 where
  pub title : List ℕ
  pub author : Option (List ℕ)
  pub publisher : Option (List ℕ)
  pub call_number : Option (List ℕ)
  pub is : s ≡ plain_source title author publisher repo call_number
  pub title_is : IsText title
  pub author_is : IsMaybeText author
  pub publisher_is : IsMaybeText publisher
  pub call_number_is : IsMaybeText call_number

pub source_found : (title author publisher : List ℕ) (repo : Option ℕ) (call_number : List ℕ) (s : model.Source)
    → IsUtf8 title → IsUtf8 author → IsUtf8 publisher → IsUtf8 call_number
    → given_source title author publisher repo call_number ≡ Ok s → IsGiven s repo
source_found title author publisher repo call_number s t-utf8 a-utf8 p-utf8 n-utf8 e =
    let t = both_answered (text_in title)
    (λ t. and_then (maybe_text_in author)
    (λ a. and_then (maybe_text_in publisher) (λ p. and_then (maybe_text_in call_number) (λ n.
    and_then (need (not (lacks_repo repo n)) BadText) (λ _. Ok (plain_source t a p repo n)))))) s e in
    let a = both_answered (maybe_text_in author)
    (λ a. and_then (maybe_text_in publisher) (λ p. and_then (maybe_text_in call_number) (λ n.
    and_then (need (not (lacks_repo repo n)) BadText) (λ _. Ok (plain_source t.0 a p repo n))))) s t.2 in
    let p = both_answered (maybe_text_in publisher) (λ p. and_then (maybe_text_in call_number) (λ n.
    and_then (need (not (lacks_repo repo n)) BadText) (λ _. Ok (plain_source t.0 a.0 p repo n)))) s a.2 in
    let n = both_answered (maybe_text_in call_number)
    (λ n. and_then (need (not (lacks_repo repo n)) BadText) (λ _. Ok (plain_source t.0 a.0 p.0 repo n))) s p.2 in
    let u = both_answered (need (not (lacks_repo repo n.0)) BadText)
    (λ _. Ok (plain_source t.0 a.0 p.0 repo n.0)) s n.2 in
    let same : s ≡ plain_source t.0 a.0 p.0 repo n.0 = let f : Ok (plain_source t.0 a.0 p.0 repo n.0)
    ≡ Ok s = u.2 in cc in
    record {
      title = t.0;
      author = a.0;
      publisher = p.0;
      call_number = n.0;
      is = same;
      title_is = text_found title t.0 t-utf8 t.1;
      author_is = maybe_text_found author a.0 a-utf8 a.1;
      publisher_is = maybe_text_found publisher p.0 p-utf8 p.1;
      call_number_is = maybe_text_found call_number n.0 n-utf8 n.1;
    }

pub given_fits : (c : Content) (s : model.Source) (repo : Option ℕ) → IsSound c → IsGiven s repo → RepoAt c repo
    → IsFit c c.next (kind.Source s)
given_fits c s repo sound g at =
    rw g.is (new_source_fits c g.title g.author g.publisher repo g.call_number sound g.title_is g.author_is
    g.publisher_is g.call_number_is at)
