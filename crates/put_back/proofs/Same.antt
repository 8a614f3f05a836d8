-- A record that is as it was needs no row.
use Rattle.std.proofs.Common.{
  ◌≡◌,
  ◌∙◌,
  ◌==◌,
  ◌+◌,
  ℕ,
  Bool,
  true,
  false,
  List,
  [],
  ◌∷◌,
  ◌++◌,
  Option,
  None,
  Some,
  eq-eqb,
  refl,
  ap,
  ap₂,
  subst,
  append_assoc,
  arith,
  length,
}
use Rattle.std.specs.Prelude.{◌||◌, bytes_eq, codes, decimal, if◌then◌else◌, slice_get}
use Rattle.std.specs.List.{flat_map, list_any}
use Rattle.record_fields.specs.Words.{role_word}
use Rattle.record_kinds.specs.Model as model
use Rattle.record_kinds.specs.declared.record.Record.{Record}
use Rattle.record_kinds.specs.declared.record.Record.TheVariants as kind
use Rattle.put_back.specs.Rows.{Cells, date_cell, number_cell, put, text_cell}
use Rattle.put_back.specs.Persons.{name_back, names_back, person_back, sex_cell}
use Rattle.put_back.specs.Families.{child_back, is_child, is_partner, partner_back}
use Rattle.put_back.specs.Events.{is_same, own_back, participant_back, place_of}
use Rattle.put_back.specs.Sources.{
  call_cell,
  call_put,
  citation_back,
  held,
  held_put,
  holdings_back,
  quality_cell,
  some_back,
  source_back,
}
use Rattle.put_back.specs.Entries.{
  entry_back,
  key_back,
  link_back,
  mention_at,
  mention_back,
  mentions_back,
}
use Rattle.put_back.specs.Back.{rows_back}

own_bytes : (x : List ℕ) → bytes_eq x x ≡ true
own_bytes [] = refl
own_bytes (b ∷ bs) = rw (eq-eqb b b refl, own_bytes bs) refl

-- a field
same_put : (n : ℕ) (word x : List ℕ) → put n word x x ≡ []
same_put n word x = rw (own_bytes x) refl

none_both : {A : Type 0} (xs ys : List A) → xs ≡ [] → ys ≡ [] → xs ++ ys ≡ []
none_both xs ys e f = ap₂ (λ a b. a ++ b) e f

-- ---- lists by their places
here : {A : Type 0} (pre xs : List A) (x : A) → slice_get (pre ++ x ∷ xs) (length pre) ≡ Some x
here [] xs x = refl
here (p ∷ pre) xs x = here pre xs x

one_more : {A : Type 0} (pre : List A) (x : A) → length (pre ++ x ∷ []) ≡ length pre + 1
one_more [] x = refl
one_more (p ∷ pre) x = let e = one_more pre x in omega (arith, e)

either_none : (b : Bool) (xs : List Cells) → xs ≡ [] → (if b then [] else xs) ≡ []
either_none true xs e = refl
either_none false xs e = e

same_name : (n k : ℕ) (x : model.Name) → name_back n k x (Some x) ≡ []
same_name n k x = either_none (length x.text == 0) (put n (codes "name " ++ decimal k) x.text x.text)
    (same_put n (codes "name " ++ decimal k) x.text)

same_names : (n : ℕ) (pre xs : List model.Name) → names_back n (length pre) xs (pre ++ xs) ≡ []
same_names n pre [] = refl
same_names n pre (x ∷ xs) =
    let rest : names_back n (length pre + 1) xs (pre ++ x ∷ xs) ≡ [] =
    subst (λ k. names_back n k xs (pre ++ x ∷ xs) ≡ []) (one_more pre x)
    (subst (λ all. names_back n (length (pre ++ x ∷ [])) xs all ≡ []) (append_assoc pre (x ∷ []) xs)
    (same_names n (pre ++ x ∷ []) xs)) in
    none_both _ _ (ap (name_back n (length pre + 1) x) (here pre xs x) ∙ same_name n (length pre + 1) x) rest

same_link : (n k : ℕ) (l : Option model.Link) → link_back n k l l ≡ []
same_link n k None = refl
same_link n k (Some l) = rw (eq-eqb l.person l.person refl, own_bytes l.reason) refl

same_mention : (n k : ℕ) (x : model.Mention) → mention_back n k x x ≡ []
same_mention n k x =
    let name = put n (codes "name " ++ decimal k) x.name x.name in
    let role = put n (codes "role " ++ decimal k) (role_word x.role) (role_word x.role) in
    none_both name (role ++ link_back n k x.link x.link) (same_put n (codes "name " ++ decimal k) x.name)
    (none_both role (link_back n k x.link x.link) (same_put n (codes "role " ++ decimal k) (role_word x.role))
    (same_link n k x.link))

same_mentions : (n : ℕ) (pre xs : List model.Mention) → mentions_back n (length pre) xs (pre ++ xs) ≡ []
same_mentions n pre [] = refl
same_mentions n pre (x ∷ xs) =
    let rest : mentions_back n (length pre + 1) xs (pre ++ x ∷ xs) ≡ [] =
    subst (λ k. mentions_back n k xs (pre ++ x ∷ xs) ≡ []) (one_more pre x)
    (subst (λ all. mentions_back n (length (pre ++ x ∷ [])) xs all ≡ []) (append_assoc pre (x ∷ []) xs)
    (same_mentions n (pre ++ x ∷ []) xs)) in
    none_both _ _ (ap (mention_at n (length pre + 1) x) (here pre xs x) ∙ same_mention n (length pre + 1) x) rest

-- ---- members
module _ {A : Type 0} (is : A → A → Bool) (own : (x : A) → is x x ≡ true) (back : List A → A → List Cells)
    (none : (all : List A) (x : A) → list_any (is x) all ≡ true → back all x ≡ []) where
  among : (pre xs : List A) (x : A) → list_any (is x) (pre ++ x ∷ xs) ≡ true
  among [] xs x = ap (λ b. b || list_any (is x) xs) (own x)
  among (p ∷ pre) xs x = ap (λ b. is x p || b) (among pre xs x) ∙ or_true (is x p)
    where
      or_true : (b : Bool) → (b || true) ≡ true
      or_true true = refl
      or_true false = refl

  same_from : (pre xs : List A) → flat_map (back (pre ++ xs)) xs ≡ []
  same_from pre [] = refl
  same_from pre (x ∷ xs) =
      none_both _ _ (none (pre ++ x ∷ xs) x (among pre xs x))
      (subst (λ all. flat_map (back all) xs ≡ []) (append_assoc pre (x ∷ []) xs) (same_from (pre ++ x ∷ []) xs))

  pub same_members : (xs : List A) → flat_map (back xs) xs ≡ []
  same_members xs = same_from [] xs

same_partners : (n : ℕ) (xs : List model.Partner) → flat_map (partner_back n xs) xs ≡ []
same_partners n xs = same_members (λ p q. is_partner p.person q) (λ p. eq-eqb p.person p.person refl) (partner_back n)
    (λ all p has. rw has refl) xs

same_children : (n : ℕ) (xs : List model.Child) → flat_map (child_back n xs) xs ≡ []
same_children n xs = same_members (λ c d. is_child c.person d) (λ c. eq-eqb c.person c.person refl) (child_back n)
    (λ all c has. rw has refl) xs

same_participants : (n : ℕ) (xs : List model.Participant) → flat_map (participant_back n xs) xs ≡ []
same_participants n xs = same_members is_same (λ p. rw (eq-eqb p.person p.person refl, own_bytes p.role) refl)
    (participant_back n) (λ all p has. rw has refl) xs

-- ---- records
same_some : (n : ℕ) (word : List ℕ) (o : Option (List ℕ)) → some_back n word o o ≡ []
same_some n word None = refl
same_some n word (Some x) = same_put n word x

same_held : (n : ℕ) (hs : List model.Holding) → held_put n hs hs ≡ []
same_held n hs = same_put n (codes "repository") (number_cell (held hs))

same_call : (n : ℕ) (hs : List model.Holding) → call_put n hs hs ≡ []
same_call n hs = same_put n (codes "call number") (call_cell hs)

same_holdings : (n : ℕ) (hs : List model.Holding) → holdings_back n hs hs ≡ []
same_holdings n [] = none_both (call_put n [] []) (held_put n [] []) (same_call n []) (same_held n [])
same_holdings n (h ∷ hs) = none_both (held_put n (h ∷ hs) (h ∷ hs)) (call_put n (h ∷ hs) (h ∷ hs))
    (same_held n (h ∷ hs)) (same_call n (h ∷ hs))

same_person : (n : ℕ) (p : model.Person) → person_back n p p ≡ []
same_person n p = none_both (put n (codes "sex") (sex_cell p.sex) (sex_cell p.sex)) (names_back n 0 p.names p.names)
    (same_put n (codes "sex") (sex_cell p.sex)) (same_names n [] p.names)

same_own : (n : ℕ) (e : model.Event) → own_back n e e ≡ []
same_own n e =
    let tag = put n (codes "tag") e.tag e.tag in
    let value = put n (codes "value") e.value e.value in
    let date = put n (codes "date") (date_cell e.date) (date_cell e.date) in
    let place = put n (codes "place") (number_cell (place_of e.place)) (number_cell (place_of e.place)) in
    none_both tag (value ++ (date ++ place)) (same_put n (codes "tag") e.tag)
    (none_both value (date ++ place) (same_put n (codes "value") e.value)
    (none_both date place (same_put n (codes "date") (date_cell e.date))
    (same_put n (codes "place") (number_cell (place_of e.place)))))

same_source : (n : ℕ) (s : model.Source) → source_back n s s ≡ []
same_source n s =
    let title = some_back n (codes "title") s.title s.title in
    let author = put n (codes "author") (text_cell s.author) (text_cell s.author) in
    let publisher = put n (codes "publisher") (text_cell s.publisher) (text_cell s.publisher) in
    let holdings = holdings_back n s.holdings s.holdings in
    none_both title (author ++ (publisher ++ holdings)) (same_some n (codes "title") s.title)
    (none_both author (publisher ++ holdings) (same_put n (codes "author") (text_cell s.author))
    (none_both publisher holdings (same_put n (codes "publisher") (text_cell s.publisher))
    (same_holdings n s.holdings)))

same_citation : (n : ℕ) (c : model.Citation) → citation_back n c c ≡ []
same_citation n c = none_both (put n (codes "page") (text_cell c.page) (text_cell c.page))
    (put n (codes "quality") (quality_cell c.quality) (quality_cell c.quality))
    (same_put n (codes "page") (text_cell c.page)) (same_put n (codes "quality") (quality_cell c.quality))

same_key : (n : ℕ) (e : model.Entry) → key_back n e e ≡ []
same_key n e =
    let item = number_cell (Some e.item.number) in
    none_both (put n (codes "page") e.page e.page) (put n (codes "item") item item)
    (same_put n (codes "page") e.page) (same_put n (codes "item") item)

same_entry : (n : ℕ) (e : model.Entry) → entry_back n e e ≡ []
same_entry n e =
    let date = put n (codes "date") (date_cell e.date) (date_cell e.date) in
    let place = put n (codes "place") (number_cell e.place) (number_cell e.place) in
    let text = put n (codes "text") e.text e.text in
    let mentions = mentions_back n 0 e.mentions e.mentions in
    none_both (key_back n e e) (date ++ (place ++ (text ++ mentions))) (same_key n e)
    (none_both date (place ++ (text ++ mentions)) (same_put n (codes "date") (date_cell e.date))
    (none_both place (text ++ mentions) (same_put n (codes "place") (number_cell e.place))
    (none_both text mentions (same_put n (codes "text") e.text) (same_mentions n [] e.mentions))))

pub nothing_back : (n : ℕ) (r : Record) → rows_back n r r ≡ []
nothing_back n (kind.Person p) = same_person n p
nothing_back n (kind.Family f) = none_both (flat_map (partner_back n f.partners) f.partners)
    (flat_map (child_back n f.children) f.children) (same_partners n f.partners) (same_children n f.children)
nothing_back n (kind.Event e) = none_both (own_back n e e)
    (flat_map (participant_back n e.participants) e.participants) (same_own n e)
    (same_participants n e.participants)
nothing_back n (kind.Place p) = same_put n (codes "name") p.name
nothing_back n (kind.Repo r) = same_some n (codes "name") r.name
nothing_back n (kind.Source s) = same_source n s
nothing_back n (kind.Citation c) = same_citation n c
nothing_back n (kind.Entry e) = same_entry n e
nothing_back n (kind.Other o) = refl
