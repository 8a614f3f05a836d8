-- A repository, a source or a citation with another value of a field is fit for a sound archive.
use Rattle.std.proofs.Common.{◌≡◌, ℕ, List, [], ◌∷◌, ◌++◌, Bool, true, false, not, ◌&&◌, ◌||◌, drop, refl, subst, sym}
use Rattle.std.specs.Prelude.{Option, Some, None}
use Rattle.std.specs.FinMap.{get}
use Rattle.std.specs.List.{flat_map, list_any}
use Rattle.record_text.specs.Text.{IsText}
use Rattle.stored_lines.specs.Tree.{Tree}
use Rattle.stored_lines.specs.Line.{Line, Lines}
use Rattle.record_fields.specs.declared.words.Quality.{Quality}
use Rattle.record_kinds.specs.Model as model
use Rattle.record_kinds.specs.declared.record.Record.TheVariants as kind
use Rattle.corrections.specs.Corrections.{called, held_at, or_none}
use Rattle.corrections.specs.Lists.{changed_at}
use Rattle.archive_state.specs.Content.{Content}
use Rattle.archive_state.specs.Known.{known_before, known_of}
use Rattle.archive_state.specs.Links.{Link, a_repo, carried_links, holding_links, links}
use Rattle.archive_state.specs.Sound.{IsSound, Stands, owner_in}
use Rattle.archive_state.specs.Texts.{own_texts, there}
use Rattle.record_shapes.specs.Fields.{holding_field, repo_field, source_field}
use Rattle.record_shapes.specs.Fields as part
use Rattle.record_shapes.specs.Forms.{is_some}
use Rattle.record_shapes.specs.Levels.{AreWithin, HasRoom}
use Rattle.record_shapes.specs.Lists.{EachOf}
use Rattle.record_shapes.specs.Untaken.{AreUntaken, HasUntaken, holding_leaves, repo_leaves, source_leaves}
use Rattle.record_shapes.specs.declared.field.Field.{Field}
use Rattle.record_shapes.proofs.Each.{each_back, each_both, each_flat, each_front, each_of_flat, more_leave}
use Rattle.record_shapes.proofs.Limits.{none_within}
use Rattle.list_laws.proofs.Booleans.{neither}
use Rattle.record_changes.proofs.Alike.{citations_alike, repos_alike, sources_alike}
use Rattle.record_changes.proofs.Fitting.{IsLeft, not_fresh, over, own_texts_of, tags_left, texts_left}
use Rattle.record_changes.proofs.Keeping.{IsFit}
use Rattle.record_changes.proofs.Lists.{each_dropped}
use Rattle.field_changes.specs.Carrying.{
  holding_still_carries,
  is_author,
  is_call_number,
  is_page,
  is_publisher,
  is_quality,
  still_carried,
}
use Rattle.field_changes.proofs.Leaving.{citation_left, holding_left, source_left}
use Rattle.field_changes.proofs.Lists.{each_changed, each_given}

-- the text that may be missing is a text, where it is there
pub text_or_none : (t : List ℕ) → IsText t → EachOf IsText (there (or_none t))
text_or_none [] is = tt
text_or_none (b ∷ bs) is = (is, tt)

-- ---- repositories
pub repo_fits : (c : Content) (n : ℕ) (r : model.Repo) (t : List ℕ) → IsSound c → get c.records n ≡ Some (kind.Repo r)
    → IsText t → IsFit c n (kind.Repo (record r { name = Some t }))
repo_fits c n r t sound at is =
    let q : model.Repo = record r { name = Some t } in
    let left : IsLeft (kind.Repo r) (kind.Repo q) = λ Q h. h in
    record {
      alike = over c n (kind.Repo r) (kind.Repo q) at (repos_alike r q);
      fresh = not_fresh c n (kind.Repo r) at;
      no_place = λ x h. absurd cc;
      keys = λ x h k there. absurd cc;
      no_other = λ x h. absurd cc;
      named = sound.named n (kind.Repo r) at;
      parents = tt;
      normal = tt;
      once = tt;
      data_tags = tags_left c n (kind.Repo r) (kind.Repo q) sound at left tt;
      trailers = tt;
      texts = texts_left c n (kind.Repo r) (kind.Repo q) sound at left (is, tt);
      places = tt;
      events = tt;
      mentions = tt;
      untaken = more_leave repo_field (repo_leaves r) (repo_leaves q) still r.carried
          (sound.rules.untaken n (kind.Repo r) at);
      levels = sound.rules.levels n (kind.Repo r) at;
    }
  where
    still : (x : Field) → repo_leaves r x ≡ true → repo_leaves (record r { name = Some t }) x ≡ true
    still part.carried e = refl
    still part.a_name e = refl
    still _ e = absurd cc

-- ---- citations
citation_fits : (c : Content) (n : ℕ) (x y : model.Citation) → IsSound c → get c.records n ≡ Some (kind.Citation x)
    → EachOf (Stands c.records) (links (kind.Citation y)) → IsLeft (kind.Citation x) (kind.Citation y)
    → EachOf IsText (own_texts (kind.Citation y))
    → HasUntaken (known_before c.records n) (known_of c.records) (kind.Citation y)
    → HasRoom (owner_in c.records (kind.Citation y)) (kind.Citation y) → IsFit c n (kind.Citation y)
citation_fits c n x y sound at named left texts untaken levels = record {
  alike = over c n (kind.Citation x) (kind.Citation y) at (citations_alike x y);
  fresh = not_fresh c n (kind.Citation x) at;
  no_place = λ z h. absurd cc;
  keys = λ z h k there. absurd cc;
  no_other = λ z h. absurd cc;
  named = named;
  parents = tt;
  normal = tt;
  once = tt;
  data_tags = tags_left c n (kind.Citation x) (kind.Citation y) sound at left tt;
  trailers = tt;
  texts = texts_left c n (kind.Citation x) (kind.Citation y) sound at left texts;
  places = tt;
  events = tt;
  mentions = tt;
  untaken = untaken;
  levels = levels;
}

pub page_fits : (c : Content) (n : ℕ) (x : model.Citation) (t : List ℕ) → IsSound c
    → get c.records n ≡ Some (kind.Citation x) → IsText t
    → still_carried (kind.Citation (record x { page = or_none t })) ≡ false
    → IsFit c n (kind.Citation (record x { page = or_none t }))
page_fits c n x t sound at is none =
    let y : model.Citation = record x { page = or_none t } in
    let apart = neither (not (is_some y.page) && list_any is_page x.carried)
    (not (is_some y.quality) && list_any is_quality x.carried) none in
    citation_fits c n x y sound at (sound.named n (kind.Citation x) at) (λ Q h. h) (text_or_none t is)
    (citation_left x y x.carried apart.0 apart.1 (sound.rules.untaken n (kind.Citation x) at))
    (sound.rules.levels n (kind.Citation x) at)

pub quality_fits : (c : Content) (n : ℕ) (x : model.Citation) (q : Option Quality) → IsSound c
    → get c.records n ≡ Some (kind.Citation x) → still_carried (kind.Citation (record x { quality = q })) ≡ false
    → IsFit c n (kind.Citation (record x { quality = q }))
quality_fits c n x q sound at none =
    let y : model.Citation = record x { quality = q } in
    let apart = neither (not (is_some y.page) && list_any is_page x.carried)
    (not (is_some y.quality) && list_any is_quality x.carried) none in
    citation_fits c n x y sound at (sound.named n (kind.Citation x) at) (λ Q h. h)
    (own_texts_of c n (kind.Citation x) sound at)
    (citation_left x y x.carried apart.0 apart.1 (sound.rules.untaken n (kind.Citation x) at))
    (sound.rules.levels n (kind.Citation x) at)

-- ---- sources
abbrev call_texts : List model.Holding → List (List ℕ)
call_texts hs = flat_map (λ (h : model.Holding). there h.call_number) hs

-- the texts of a source, part by part
texts_of : (a b c : Option (List ℕ)) (ds : List (List ℕ)) → EachOf IsText (there a ++ (there b ++ (there c ++ ds)))
    → EachOf IsText (there a) × (EachOf IsText (there b) × (EachOf IsText (there c) × EachOf IsText ds))
texts_of a b c ds h =
    let k = each_back IsText (there a) (there b ++ (there c ++ ds)) h in
    let l = each_back IsText (there b) (there c ++ ds) k in (
      each_front IsText (there a) (there b ++ (there c ++ ds)) h,
      (
        each_front IsText (there b) (there c ++ ds) k,
        (
          each_front IsText (there c) ds l,
          each_back IsText (there c)
              ds l,
        ),
      ),
    )

of_texts : (a b c : Option (List ℕ)) (ds : List (List ℕ)) → EachOf IsText (there a) → EachOf IsText (there b)
    → EachOf IsText (there c) → EachOf IsText ds → EachOf IsText (there a ++ (there b ++ (there c ++ ds)))
of_texts a b c ds h k l m =
    each_both IsText (there a) (there b ++ (there c ++ ds)) h
    (each_both IsText (there b) (there c ++ ds) k (each_both IsText (there c) ds l m))

-- what is carried where a source is kept is not taken
abbrev IsUntaken : model.Holding → Type 0
IsUntaken h = AreUntaken holding_field (holding_leaves h) h.carried

-- the source, of the same carried lines of its own, with a title where it had one
source_fits : (c : Content) (n : ℕ) (s u : model.Source) → IsSound c → get c.records n ≡ Some (kind.Source s)
    → EachOf (Stands c.records) (links (kind.Source u)) → IsLeft (kind.Source s) (kind.Source u)
    → EachOf IsText (own_texts (kind.Source u))
    → HasUntaken (known_before c.records n) (known_of c.records) (kind.Source u)
    → HasRoom (owner_in c.records (kind.Source u)) (kind.Source u) → IsFit c n (kind.Source u)
source_fits c n s u sound at named left texts untaken levels = record {
  alike = over c n (kind.Source s) (kind.Source u) at (sources_alike s u);
  fresh = not_fresh c n (kind.Source s) at;
  no_place = λ z h. absurd cc;
  keys = λ z h k there. absurd cc;
  no_other = λ z h. absurd cc;
  named = named;
  parents = tt;
  normal = tt;
  once = tt;
  data_tags = tags_left c n (kind.Source s) (kind.Source u) sound at left tt;
  trailers = tt;
  texts = texts_left c n (kind.Source s) (kind.Source u) sound at left texts;
  places = tt;
  events = tt;
  mentions = tt;
  untaken = untaken;
  levels = levels;
}

-- no carried line of its own is read as author or publisher
own_left : (c : Content) (n : ℕ) (s u : model.Source) → IsSound c → get c.records n ≡ Some (kind.Source s)
    → u.carried ≡ s.carried → (is_some s.title ≡ true → is_some u.title ≡ true) → still_carried (kind.Source u) ≡ false
    → AreUntaken (source_field (known_of c.records)) (source_leaves u) u.carried
own_left c n s u sound at same title none =
    let first = neither (not (is_some u.author) && list_any is_author u.carried)
    ((not (is_some u.publisher) && list_any is_publisher u.carried) || list_any holding_still_carries u.holdings)
    none in
    let second = neither (not (is_some u.publisher) && list_any is_publisher u.carried)
    (list_any holding_still_carries u.holdings) first.1 in
    source_left (known_of c.records) s u u.carried title first.0 second.0
    (subst (λ (l : Lines). AreUntaken (source_field (known_of c.records)) (source_leaves s) l) (sym same)
    (sound.rules.untaken n (kind.Source s) at).1)

-- ---- title, author and publisher
words_fit : (c : Content) (n : ℕ) (s : model.Source) (title author publisher : Option (List ℕ)) → IsSound c
    → get c.records n ≡ Some (kind.Source s) → EachOf IsText (there title) → EachOf IsText (there author)
    → EachOf IsText (there publisher) → (is_some s.title ≡ true → is_some title ≡ true)
    → still_carried (kind.Source (record s { title = title; author = author; publisher = publisher })) ≡ false
    → IsFit c n (kind.Source (record s { title = title; author = author; publisher = publisher }))
words_fit c n s title author publisher sound at a b d titled none =
    let u : model.Source = record s { title = title; author = author; publisher = publisher } in
    let parts = texts_of s.title s.author s.publisher (call_texts s.holdings) (own_texts_of c n (kind.Source s) sound
    at) in
    source_fits c n s u sound at (sound.named n (kind.Source s) at) (λ Q h. h)
    (of_texts title author publisher (call_texts s.holdings) a b d parts.1.1.1)
    ((sound.rules.untaken n (kind.Source s) at).0, own_left c n s u sound at refl titled none)
    (sound.rules.levels n (kind.Source s) at)

pub title_fits : (c : Content) (n : ℕ) (s : model.Source) (t : List ℕ) → IsSound c
    → get c.records n ≡ Some (kind.Source s) → IsText t
    → still_carried (kind.Source (record s { title = Some t })) ≡ false
    → IsFit c n (kind.Source (record s { title = Some t }))
title_fits c n s t sound at is none =
    let parts = texts_of s.title s.author s.publisher (call_texts s.holdings) (own_texts_of c n (kind.Source s) sound
    at) in
    words_fit c n s (Some t) s.author s.publisher sound at (is, tt) parts.1.0 parts.1.1.0 (λ e. refl) none

pub author_fits : (c : Content) (n : ℕ) (s : model.Source) (t : List ℕ) → IsSound c
    → get c.records n ≡ Some (kind.Source s) → IsText t
    → still_carried (kind.Source (record s { author = or_none t })) ≡ false
    → IsFit c n (kind.Source (record s { author = or_none t }))
author_fits c n s t sound at is none =
    let parts = texts_of s.title s.author s.publisher (call_texts s.holdings) (own_texts_of c n (kind.Source s) sound
    at) in
    words_fit c n s s.title (or_none t) s.publisher sound at parts.0 (text_or_none t is) parts.1.1.0 (λ e. e) none

pub publisher_fits : (c : Content) (n : ℕ) (s : model.Source) (t : List ℕ) → IsSound c
    → get c.records n ≡ Some (kind.Source s) → IsText t
    → still_carried (kind.Source (record s { publisher = or_none t })) ≡ false
    → IsFit c n (kind.Source (record s { publisher = or_none t }))
publisher_fits c n s t sound at is none =
    let parts = texts_of s.title s.author s.publisher (call_texts s.holdings) (own_texts_of c n (kind.Source s) sound
    at) in
    words_fit c n s s.title s.author (or_none t) sound at parts.0 parts.1.0 (text_or_none t is) (λ e. e) none

-- ---- where a source is kept
-- other places of it, of each of which all is right
holdings_fit : (c : Content) (n : ℕ) (s : model.Source) (hs : List model.Holding) → IsSound c
    → get c.records n ≡ Some (kind.Source s) → EachOf (λ h. EachOf (Stands c.records) (holding_links h)) hs
    → ((Q : Tree Line → Type 0) → EachOf (λ (h : model.Holding). EachOf Q h.carried) s.holdings
    → EachOf (λ (h : model.Holding). EachOf Q h.carried) hs)
    → EachOf (λ (h : model.Holding). EachOf IsText (there h.call_number)) hs → EachOf IsUntaken hs
    → EachOf (λ (h : model.Holding). AreWithin 97 h.carried) hs
    → still_carried (kind.Source (record s { holdings = hs })) ≡ false
    → IsFit c n (kind.Source (record s { holdings = hs }))
holdings_fit c n s hs sound at named left texts untaken levels none =
    let u : model.Source = record s { holdings = hs } in
    let parts = texts_of s.title s.author s.publisher (call_texts s.holdings) (own_texts_of c n (kind.Source s) sound
    at) in
    let old : EachOf (Stands c.records) (links (kind.Source s)) = sound.named n (kind.Source s) at in
    let room : HasRoom None (kind.Source s) = sound.rules.levels n (kind.Source s) at in
    source_fits c n s u sound at
    (each_both (Stands c.records) (flat_map holding_links hs) (carried_links s.carried)
    (each_flat (Stands c.records) holding_links hs named)
    (each_back (Stands c.records) (flat_map holding_links s.holdings) (carried_links s.carried) old))
    (λ Q h. each_given Q (λ (x : model.Holding). x.carried) s.holdings hs s.carried (left Q) h)
    (of_texts s.title s.author s.publisher (call_texts hs) parts.0 parts.1.0 parts.1.1.0
    (each_flat IsText (λ (h : model.Holding). there h.call_number) hs texts))
    (untaken, own_left c n s u sound at refl (λ e. e) none)
    (levels, room.1)

-- what is known of each place of it
abbrev Links : Content → model.Holding → Type 0
Links c h = EachOf (Stands c.records) (holding_links h)

links_of : (c : Content) (n : ℕ) (s : model.Source) → IsSound c → get c.records n ≡ Some (kind.Source s)
    → EachOf (Links c) s.holdings
links_of c n s sound at =
    each_of_flat (Stands c.records) holding_links s.holdings
    (each_front (Stands c.records) (flat_map holding_links s.holdings) (carried_links s.carried)
    (sound.named n (kind.Source s) at))

calls_of : (c : Content) (n : ℕ) (s : model.Source) → IsSound c → get c.records n ≡ Some (kind.Source s)
    → EachOf (λ (h : model.Holding). EachOf IsText (there h.call_number)) s.holdings
calls_of c n s sound at =
    each_of_flat IsText (λ (h : model.Holding). there h.call_number) s.holdings
    (texts_of s.title s.author s.publisher (call_texts s.holdings) (own_texts_of c n (kind.Source s) sound at)).1.1.1

-- the places of it where no carried line is read as a call number
first_none : (s : model.Source) (hs : List model.Holding)
    → still_carried (kind.Source (record s { holdings = hs })) ≡ false
    → list_any holding_still_carries hs ≡ false
first_none s hs none =
    (neither (not (is_some s.publisher) && list_any is_publisher s.carried) (list_any holding_still_carries hs)
    (neither (not (is_some s.author) && list_any is_author s.carried)
    ((not (is_some s.publisher) && list_any is_publisher s.carried) || list_any holding_still_carries hs) none).1).1

-- the first repository is taken away
pub unkept_fits : (c : Content) (n : ℕ) (s : model.Source) → IsSound c → get c.records n ≡ Some (kind.Source s)
    → still_carried (kind.Source (record s { holdings = drop 1 s.holdings })) ≡ false
    → IsFit c n (kind.Source (record s { holdings = drop 1 s.holdings }))
unkept_fits c n s sound at none =
    let room : HasRoom None (kind.Source s) = sound.rules.levels n (kind.Source s) at in
    holdings_fit c n s (drop 1 s.holdings) sound at (each_dropped (Links c) 1 s.holdings (links_of c n s sound at))
    (λ Q h. each_dropped (λ (x : model.Holding). EachOf Q x.carried) 1 s.holdings h)
    (each_dropped (λ (h : model.Holding). EachOf IsText (there h.call_number)) 1 s.holdings (calls_of c n s sound at))
    (each_dropped IsUntaken 1 s.holdings (sound.rules.untaken n (kind.Source s) at).0)
    (each_dropped (λ (h : model.Holding). AreWithin 97 h.carried) 1 s.holdings room.0) none

-- another repository stands first
held : (P : model.Holding → Type 0) (n : ℕ) (hs : List model.Holding)
    → P (record { repo = n; call_number = None; carried = [] }) → ((h : model.Holding) → P h
    → P (record h { repo = n }))
    → EachOf P hs → EachOf P (held_at n hs)
held P n [] new changed all = (new, tt)
held P n (h ∷ hs) new changed all = (changed h all.0, all.1)

same_untaken : (h : model.Holding) (n : ℕ) → IsUntaken h → IsUntaken (record h { repo = n })
same_untaken h n = more_leave holding_field (holding_leaves h) (holding_leaves (record h { repo = n })) same h.carried
  where
    same : (x : Field) → holding_leaves h x ≡ true → holding_leaves (record h { repo = n }) x ≡ true
    same part.carried e = refl
    same part.a_call_number e = e
    same _ e = absurd cc

pub kept_fits : (c : Content) (n : ℕ) (s : model.Source) (k : ℕ) → IsSound c → get c.records n ≡ Some (kind.Source s)
    → Stands c.records (k, a_repo) → still_carried (kind.Source (record s { holdings = held_at k s.holdings })) ≡ false
    → IsFit c n (kind.Source (record s { holdings = held_at k s.holdings }))
kept_fits c n s k sound at stands none =
    let room : HasRoom None (kind.Source s) = sound.rules.levels n (kind.Source s) at in
    holdings_fit c n s (held_at k s.holdings) sound at
    (held (Links c) k s.holdings (stands, tt) (λ h l. (stands, l.1)) (links_of c n s sound at))
    (λ Q h. held (λ (x : model.Holding). EachOf Q x.carried) k s.holdings tt (λ x l. l) h)
    (held (λ (h : model.Holding). EachOf IsText (there h.call_number)) k s.holdings tt (λ x l. l)
    (calls_of c n s sound at))
    (held IsUntaken k s.holdings refl (λ x l. same_untaken x k l) (sound.rules.untaken n (kind.Source s) at).0)
    (held (λ (h : model.Holding). AreWithin 97 h.carried) k s.holdings (none_within 97) (λ x l. l) room.0) none

-- ---- another call number
call_untaken : (t : Option (List ℕ)) (hs : List model.Holding)
    → list_any holding_still_carries (changed_at 0 (called t) hs) ≡ false → EachOf IsUntaken hs
    → EachOf IsUntaken (changed_at 0 (called t) hs)
call_untaken t [] none all = tt
call_untaken t (h ∷ hs) none all = (
  holding_left h (called t h) h.carried
      (neither (holding_still_carries (called t h)) (list_any holding_still_carries hs) none).0 all.0,
  all.1,
)

-- the first of them has another call number, which is a text
call_text : (t : List ℕ) (hs : List model.Holding) → IsText t
    → EachOf (λ (h : model.Holding). EachOf IsText (there h.call_number)) hs
    → EachOf (λ (h : model.Holding). EachOf IsText (there h.call_number)) (changed_at 0 (called (or_none t)) hs)
call_text t [] is all = tt
call_text t (h ∷ hs) is all = (text_or_none t is, all.1)

pub called_fits : (c : Content) (n : ℕ) (s : model.Source) (t : List ℕ) → IsSound c
    → get c.records n ≡ Some (kind.Source s) → IsText t
    → still_carried (kind.Source (record s { holdings = changed_at 0 (called (or_none t)) s.holdings })) ≡ false
    → IsFit c n (kind.Source (record s { holdings = changed_at 0 (called (or_none t)) s.holdings }))
called_fits c n s t sound at is none =
    let new : model.Holding → model.Holding = called (or_none t) in
    let hs : List model.Holding = changed_at 0 new s.holdings in
    let room : HasRoom None (kind.Source s) = sound.rules.levels n (kind.Source s) at in
    holdings_fit c n s hs sound at (each_changed (Links c) new (λ h l. l) 0 s.holdings (links_of c n s sound at))
    (λ Q h. each_changed (λ (x : model.Holding). EachOf Q x.carried) new (λ x l. l) 0 s.holdings h)
    (call_text t s.holdings is (calls_of c n s sound at))
    (call_untaken (or_none t) s.holdings (first_none s hs none) (sound.rules.untaken n (kind.Source s) at).0)
    (each_changed (λ (h : model.Holding). AreWithin 97 h.carried) new (λ x l. l) 0 s.holdings room.0) none
