-- What an import adds: each new record keeps the rules on one record, and no two entries have one key.
use Rattle.std.proofs.Common.{◌≡◌, ℕ, ◌+◌, ◌<◌, ◌≤◌, true, false, List, [], length, refl, sym, ap, ◌∙◌, subst, arith}
use Rattle.std.specs.Prelude.{Option, Some, None, IfSome, map, option_map, bytes_eq, codes}
use Rattle.std.specs.FinMap.{get}
use Rattle.std.specs.List.{slice_get}
use Rattle.stored_lines.specs.Line.{Line, Lines}
use Rattle.stored_lines.specs.Tree.{Tree, label}
use Rattle.record_kinds.specs.Model as model
use Rattle.record_kinds.specs.declared.record.Record.{Record}
use Rattle.record_kinds.specs.declared.record.Record.TheVariants as kind
use Rattle.archive_state.specs.Links.{a_place, a_source, is_wanted}
use Rattle.record_shapes.specs.Forms.{is_some}
use Rattle.record_shapes.specs.Lists.{EachOf}
use Rattle.record_shapes.specs.Paths.{IsWithinLimits, has_part}
use Rattle.record_shapes.specs.Reading.{read}
use Rattle.archive_state.specs.Content.{Content, Records}
use Rattle.archive_state.specs.Known.{path_of}
use Rattle.archive_state.specs.Merging.{entry_with, record_with}
use Rattle.archive_state.specs.Sound.{IsNumber, IsSound, Stands}
use Rattle.archive_state.specs.declared.changes.Numbered.{Numbered}
use Rattle.archive_state.proofs.Changing.{path_within}
use Rattle.archive_state.proofs.Keeping.{KeepsRules, stands_as}
use Rattle.import_definitions.specs.Made.{drawing, lowest_place, second}
use Rattle.import_definitions.specs.Numbers.{
  Drawing,
  Drawn,
  Found,
  Places,
  begun,
  find,
  finished,
  number_found,
  of_file,
  of_path,
  owned_by,
  placed,
}
use Rattle.import_definitions.specs.Positions.{known, known_before, paths, position_of}
use Rattle.import_definitions.specs.Sides.{draft_at}
use Rattle.imports.specs.Read.{IsNode, IsRead, PointsWithin}
use Rattle.imports.proofs.Agreeing.{at_node, f, filed, path_known_too}
use Rattle.imports.proofs.Drawn.{all_up, number_drawn}
use Rattle.imports.proofs.DrawnWell.{Good, IsFileDrawn, IsOwnedAt, roots_good}
use Rattle.imports.proofs.Finding.{first_position_has}
use Rattle.imports.proofs.Going.{goes_itself}
use Rattle.imports.proofs.Judging.{
  IsOwner,
  judge_citation,
  judge_event_none,
  judge_event_some,
  judge_root,
  placeless,
}
use Rattle.imports.proofs.Said.{path_stands}
use Rattle.imports.proofs.SoundKeys.{one_node}
use Rattle.imports.proofs.Links.{NamesAll}
use Rattle.imports.proofs.MadePlaces.{judge_made}
use Rattle.imports.proofs.Rooted.{F, There, all_rooted}
use Rattle.imports.proofs.Settling.{IsDrawnWell, IsPlaceDrawn, found_path}
use Rattle.imports.proofs.SoundStanding.{count_range}
use Rattle.imports.proofs.Targets.{IsThere, apart, tagged_there}
use Rattle.imports.proofs.Within.{file_within, lowest_has}
use Rattle.record_shapes.proofs.Each.{each_zip, each_under}
use Rattle.record_shapes.proofs.Limits.{limits_are}

module _ (c : Content) (sound : IsSound c) (A : Records) (w : Places) (rs : Lines)
    (still : (n : ℕ) (r : Record) → get c.records n ≡ Some r → get A n ≡ Some r)
    (archive_is : (q : List ℕ) (n : ℕ) → w.archive q ≡ Some n → lowest_place c.records q ≡ Some n)
    (file_is : (q : List ℕ) (k : ℕ) → w.file q ≡ Some k → position_of q 0 (paths rs) ≡ Some k)
    (all : EachOf (There A w (drawing c.next w rs)) (drawing c.next w rs).drawn) (zero_none : get A 0 ≡ None)
    (nodes : EachOf (λ t. IsNode t × PointsWithin (length rs) t) rs) where
  abbrev D : Drawing
  D = drawing c.next w rs

  abbrev h : ℕ → ℕ
  h k = f A w c.next rs all zero_none k

  abbrev last : ℕ
  last = D.next

  arch : (q : List ℕ) (n : ℕ) → w.archive q ≡ Some n → (path_of A n ≡ Some q) × (n < c.next)
  arch q n e =
      let path : path_of c.records n ≡ Some q = lowest_has c.records q n (archive_is q n e) in
      let there = stands_as a_place (get c.records n) (path_stands c.records n q path) in (
        sym (path_within c.records A still sound.named n there.0 there.1) ∙ path,
        (sound.rules.numbered n there.0 there.1).1,
      )

  in_file : (k : ℕ) (q : List ℕ) → w.file q ≡ Some k → path_of A (F A w D k) ≡ Some q
  in_file k q e = filed A w c.next rs all zero_none k q (first_position_has q (paths rs) k (file_is q k e))

  abbrev Well : Drawn → Type 0
  Well x = IsDrawnWell A w D all c.next arch in_file (IsFileDrawn A w D all c.next arch in_file rs (length rs)) x

  all_good : Good A w D all c.next arch in_file rs (length rs) D
  all_good = roots_good A w D all c.next arch in_file rs (length rs) nodes (all_rooted A w c.next rs all) 0
      (begun c.next) rs (λ i r at. subst (λ n. slice_get rs n ≡ Some r) (let e : i ≡ 0 + i = omega arith in e) at) nodes
      refl (omega arith) (goes_itself D) (record { drawn = tt; made = λ q n e. absurd cc })

  -- ---- records of the file
  abbrev OfFile : ℕ → ℕ → Record → Option (List ℕ) → Type 0
  OfFile n owner r path = IsFileDrawn A w D all c.next arch in_file rs (length rs) n owner r path

  abbrev Keeps : ℕ → Record → Type 0
  Keeps n r = KeepsRules last A n r

  judge_none : (n owner k : ℕ) (r : Record) (path : Option (List ℕ)) → IsNumber last n
      → IsRead (known_before rs k) (known rs) None r → NamesAll (known rs) (length rs) None path r
      → (t : Tree Line) → slice_get rs k ≡ Some t → n ≡ h k → label (draft_at rs k t) ≡ read r None
      → Keeps n (owned_by owner (placed w D path (record_with h r)))
  judge_none n owner k (kind.Place x) None number is named t at e from =
      judge_root A w c.next rs all zero_none last k n t at e number None (kind.Place x) from is named
  judge_none n owner k (kind.Place x) (Some q) number is named t at e from =
      judge_root A w c.next rs all zero_none last k n t at e number None (kind.Place x) from is named
  judge_none n owner k (kind.Repo x) None number is named t at e from =
      judge_root A w c.next rs all zero_none last k n t at e number None (kind.Repo x) from is named
  judge_none n owner k (kind.Repo x) (Some q) number is named t at e from =
      judge_root A w c.next rs all zero_none last k n t at e number None (kind.Repo x) from is named
  judge_none n owner k (kind.Source x) None number is named t at e from =
      judge_root A w c.next rs all zero_none last k n t at e number None (kind.Source x) from is named
  judge_none n owner k (kind.Source x) (Some q) number is named t at e from =
      judge_root A w c.next rs all zero_none last k n t at e number None (kind.Source x) from is named
  judge_none n owner k (kind.Person x) None number is named t at e from =
      judge_root A w c.next rs all zero_none last k n t at e number None (kind.Person x) from is named
  judge_none n owner k (kind.Person x) (Some q) number is named t at e from =
      judge_root A w c.next rs all zero_none last k n t at e number None (kind.Person x) from is named
  judge_none n owner k (kind.Family x) None number is named t at e from =
      judge_root A w c.next rs all zero_none last k n t at e number None (kind.Family x) from is named
  judge_none n owner k (kind.Family x) (Some q) number is named t at e from =
      judge_root A w c.next rs all zero_none last k n t at e number None (kind.Family x) from is named
  judge_none n owner k (kind.Entry x) None number is named t at e from =
      judge_root A w c.next rs all zero_none last k n t at e number None (kind.Entry x) from is named
  judge_none n owner k (kind.Entry x) (Some q) number is named t at e from =
      judge_root A w c.next rs all zero_none last k n t at e number None (kind.Entry x) from is named
  judge_none n owner k (kind.Other x) None number is named t at e from =
      judge_root A w c.next rs all zero_none last k n t at e number None (kind.Other x) from is named
  judge_none n owner k (kind.Other x) (Some q) number is named t at e from =
      judge_root A w c.next rs all zero_none last k n t at e number None (kind.Other x) from is named
  judge_none n owner k (kind.Event x) path number is named t at e from = absurd
      (let none_is : None ≡ Some true = named.0 in cc)
  judge_none n owner k (kind.Citation x) path number is named t at e from = absurd
      (let none_is : None ≡ Some true = named.0 in cc)

  -- where the place of an event is that was sought
  sought_place : (q : List ℕ) (o : Option Found) → find w None D.made q ≡ o → is_some o ≡ true → has_part q ≡ true
      → (p : List ℕ) × (path_of A (number_found D.roots o) ≡ Some p) × (has_part p ≡ true)
  sought_place q None e some said = absurd cc
  sought_place q (Some x) e some said =
      (q, found_path A w D all c.next arch in_file None D.made last q x all_good.made e, said)

  abbrev Q : Option Record → Option (List ℕ) → Record → Type 0
  Q o path r = NamesAll (known rs) (length rs) o path r

  abbrev Owner : ℕ → Record → Type 0
  Owner owner o = IsOwner A w c.next rs all zero_none last owner o

  abbrev at_no_place : model.Event → Option model.EventPlace → model.Event
  at_no_place e place = placeless A w c.next rs all zero_none last e place

  judge_event : (n owner k : ℕ) (o : Record) (e : model.Event) (place : Option model.EventPlace)
      (path : Option (List ℕ)) → IsNumber last n
      → IsRead (known_before rs k) (known rs) (Some o) (kind.Event (at_no_place e place))
      → Q (Some o) path (kind.Event (at_no_place e place))
      → IfSome path (λ q. is_some (find w None D.made q) ≡ true) → Owner owner o
      → Keeps n (owned_by owner (placed w D path (record_with h (kind.Event (at_no_place e place)))))
  judge_event n owner k o e None None number is named found owned =
      judge_event_none A w c.next rs all zero_none last k n owner o e owned number None is named
  judge_event n owner k o e None (Some q) number is named found owned =
      judge_event_none A w c.next rs all zero_none last k n owner o e owned number (Some q) is named
  judge_event n owner k o e (Some p) None number is named found owned =
      judge_event_some A w c.next rs all zero_none last k n owner o e p (h p.place) owned number None is named (
        named.1.0.0,
        filed A w c.next rs all zero_none p.place named.1.0.0 named.1.0.1,
        named.1.0.2,
      )
  judge_event n owner k o e (Some p) (Some q) number is named found owned =
      judge_event_some A w c.next rs all zero_none last k n owner o e p (number_found D.roots
      (find w None D.made q)) owned
      number (Some q) is named (sought_place q (find w None D.made q) refl found named.1.0.said)

  judge_some : (n owner k : ℕ) (o : Record) (r : Record) (path : Option (List ℕ)) → IsNumber last n
      → IsRead (known_before rs k) (known rs) (Some o) r → Q (Some o) path r
      → IfSome path (λ q. is_some (find w None D.made q) ≡ true) → Owner owner o
      → Keeps n (owned_by owner (placed w D path (record_with h r)))
  judge_some n owner k o (kind.Event e) path number is named found owned =
      judge_event n owner k o e e.place path number is named found owned
  judge_some n owner k o (kind.Citation x) None number is named found owned =
      judge_citation A w c.next rs all zero_none last k n owner o x owned number None is named
  judge_some n owner k o (kind.Citation x) (Some q) number is named found owned =
      judge_citation A w c.next rs all zero_none last k n owner o x owned number (Some q) is named
  judge_some n owner k o (kind.Place x) path number is named found owned = absurd
      (let some_is : Some o ≡ None = named.0 in cc)
  judge_some n owner k o (kind.Repo x) path number is named found owned = absurd
      (let some_is : Some o ≡ None = named.0 in cc)
  judge_some n owner k o (kind.Source x) path number is named found owned = absurd
      (let some_is : Some o ≡ None = named.0 in cc)
  judge_some n owner k o (kind.Person x) path number is named found owned = absurd
      (let some_is : Some o ≡ None = named.0 in cc)
  judge_some n owner k o (kind.Family x) path number is named found owned = absurd
      (let some_is : Some o ≡ None = named.0 in cc)
  judge_some n owner k o (kind.Entry x) path number is named found owned = absurd
      (let some_is : Some o ≡ None = named.0 in cc)
  judge_some n owner k o (kind.Other x) path number is named found owned = absurd
      (let some_is : Some o ≡ None = named.0 in cc)

  judge_file : (n owner k : ℕ) (o : Option Record) (r : Record) (path : Option (List ℕ)) → IsNumber last n
      → IsRead (known_before rs k) (known rs) o r → Q o path r
      → IfSome path (λ q. is_some (find w None D.made q) ≡ true)
      → IsOwnedAt A w D all c.next arch in_file rs (length rs) k n owner o r
      → Keeps n (owned_by owner (placed w D path (record_with h r)))
  judge_file n owner k None r path number is named found (e, (t, at, from)) =
      judge_none n owner k r path number is named t at e from
  judge_file n owner k (Some o) r path number is named found owned =
      judge_some n owner k o r path number is named found owned

  -- ---- all that is new
  abbrev IsPosition : ℕ → Type 0
  IsPosition n = IsThere A w c.next rs all zero_none n

  -- an entry of a file, as what a node is read as
  pub record IsEntryOf (n : ℕ) (e : model.Entry) : Type 0 where
    k : ℕ
    t : Tree Line
    old : model.Entry
    at : slice_get rs k ≡ Some t
    number : n ≡ h k
    from : label (draft_at rs k t) ≡ read (kind.Entry old) None
    is : entry_with h old ≡ e
    source : IsPosition old.source

  -- a new record keeps the rules on one record; the path of a place is within the limits
  pub record IsNew (p : Numbered) : Type 0 where
    pub keeps : Keeps p.number p.«record»
    pub low : c.next ≤ p.number
    pub limits : (path : List ℕ) → path_of A p.number ≡ Some path → IsWithinLimits path
    pub entry : (e : model.Entry) → p.«record» ≡ kind.Entry e → IsEntryOf p.number e

  same_path : (n : ℕ) (a b : List ℕ) → path_of A n ≡ Some a → path_of A n ≡ Some b → a ≡ b
  same_path n a b e d = let both : Some a ≡ Some b = sym e ∙ d in cc

  made_new : (n : ℕ) (name : List ℕ) (parent : Option Found) → IsNumber last n → c.next ≤ n
      → IsPlaceDrawn A w D all c.next arch in_file n name parent → IsNew (finished w D (of_path n name parent))
  made_new n name parent number low d = record {
    keeps = judge_made A w D all c.next arch in_file last n name parent number d;
    low = low;
    limits = λ path e. subst IsWithinLimits (same_path n d.path.0 path d.path.1 e) d.path.2;
    entry = λ e is. absurd cc;
  }

  entry_of_node : {n : ℕ} (k : ℕ) (t : Tree Line) (x : model.Entry) → slice_get rs k ≡ Some t → n ≡ h k
      → label (draft_at rs k t) ≡ read (kind.Entry x) None → (e : model.Entry)
      → kind.Entry (entry_with h x) ≡ kind.Entry e → IsPosition x.source → IsEntryOf n e
  entry_of_node k t x at number_is from e is source =
      let same : entry_with h x ≡ e = cc in
      record { k = k; t = t; old = x; at = at; number = number_is; from = from; is = same; source = source }

  source_there : (n : ℕ) → bytes_eq ((known rs).tag n) (codes "SOUR") ≡ true → IsPosition n
  source_there n e = let there = tagged_there A w c.next rs all zero_none n (codes "SOUR") e refl in (there.0, there.1)

  no_place : (n : ℕ) (r : Record) → get A n ≡ Some r → is_wanted a_place r ≡ false → Stands A (n, a_place) → ⊥
  no_place n r at is stands =
      let one : Some true ≡ Some (is_wanted a_place r) = sym stands ∙ ap (option_map (is_wanted a_place)) at in
      let two : true ≡ is_wanted a_place r = cc in
      let both : true ≡ false = two ∙ is in cc

  -- what is read at a node
  file_new : (n owner : ℕ) (r : Record) (path : Option (List ℕ)) → IsNumber last n → c.next ≤ n → OfFile n owner r path
      → There A w D (of_file n owner r path) → IsNew (finished w D (of_file n owner r path))
  file_new n owner r path number low d there = record {
    keeps = judge_file n owner d.k d.o r path number d.read_well d.named d.found d.owned;
    low = low;
    limits = limits d.k d.o r path d.named d.owned there;
    entry = entry d.k d.o r path d.named d.owned;
  }
    where
      limits : (k : ℕ) (o : Option Record) (r : Record) (path : Option (List ℕ)) → Q o path r
          → IsOwnedAt A w D all c.next arch in_file rs (length rs) k n owner o r
          → get A n ≡ Some (owned_by owner (placed w D path (record_with h r))) → (q : List ℕ) → path_of A n ≡ Some q
          → IsWithinLimits q
      limits k None r path named owned stands q e =
          limits_are q (file_within rs k q (path_known_too A w c.next rs all zero_none k
          ∙ ap (path_of A) (sym owned.0) ∙ e))
      limits k (Some o) (kind.Event x) None named owned stands q e = absurd (no_place n _ stands refl
          (path_stands A n q e))
      limits k (Some o) (kind.Event x) (Some p) named owned stands q e = absurd (no_place n _ stands refl
          (path_stands A n q e))
      limits k (Some o) (kind.Citation x) None named owned stands q e = absurd (no_place n _ stands refl
          (path_stands A n q e))
      limits k (Some o) (kind.Citation x) (Some p) named owned stands q e = absurd (no_place n _ stands refl
          (path_stands A n q e))
      limits k (Some o) (kind.Place x) path named owned stands q e = absurd
          (let some_is : Some o ≡ None = named.0 in cc)
      limits k (Some o) (kind.Repo x) path named owned stands q e = absurd
          (let some_is : Some o ≡ None = named.0 in cc)
      limits k (Some o) (kind.Source x) path named owned stands q e = absurd
          (let some_is : Some o ≡ None = named.0 in cc)
      limits k (Some o) (kind.Person x) path named owned stands q e = absurd
          (let some_is : Some o ≡ None = named.0 in cc)
      limits k (Some o) (kind.Family x) path named owned stands q e = absurd
          (let some_is : Some o ≡ None = named.0 in cc)
      limits k (Some o) (kind.Entry x) path named owned stands q e = absurd
          (let some_is : Some o ≡ None = named.0 in cc)
      limits k (Some o) (kind.Other x) path named owned stands q e = absurd
          (let some_is : Some o ≡ None = named.0 in cc)

      entry : (k : ℕ) (o : Option Record) (r : Record) (path : Option (List ℕ)) → Q o path r
          → IsOwnedAt A w D all c.next arch in_file rs (length rs) k n owner o r → (e : model.Entry)
          → owned_by owner (placed w D path (record_with h r)) ≡ kind.Entry e → IsEntryOf n e
      entry k o (kind.Place x) None named owned e is = absurd cc
      entry k o (kind.Place x) (Some p) named owned e is = absurd cc
      entry k o (kind.Repo x) None named owned e is = absurd cc
      entry k o (kind.Repo x) (Some p) named owned e is = absurd cc
      entry k o (kind.Source x) None named owned e is = absurd cc
      entry k o (kind.Source x) (Some p) named owned e is = absurd cc
      entry k o (kind.Person x) None named owned e is = absurd cc
      entry k o (kind.Person x) (Some p) named owned e is = absurd cc
      entry k o (kind.Family x) None named owned e is = absurd cc
      entry k o (kind.Family x) (Some p) named owned e is = absurd cc
      entry k o (kind.Citation x) None named owned e is = absurd cc
      entry k o (kind.Citation x) (Some p) named owned e is = absurd cc
      entry k o (kind.Event x) None named owned e is = absurd cc
      entry k o (kind.Event x) (Some p) named owned e is = absurd cc
      entry k o (kind.Other x) None named owned e is = absurd cc
      entry k o (kind.Other x) (Some p) named owned e is = absurd cc
      entry k None (kind.Entry x) None named (number_is, (t, at, from)) e is =
          entry_of_node k t x at number_is from e is (source_there x.source named.1.0)
      entry k None (kind.Entry x) (Some p) named (number_is, (t, at, from)) e is =
          entry_of_node k t x at number_is from e is (source_there x.source named.1.0)
      entry k (Some o) (kind.Entry x) path named owned e is = absurd (let some_is : Some o ≡ None = named.0 in cc)

  -- each that is drawn
  drawn_new : (x : Drawn) → (c.next ≤ number_drawn x) × (number_drawn x < last) → Well x → There A w D x
      → IsNew (finished w D x)
  drawn_new (of_file n owner r path) range well there =
      let begun_is : 0 < c.next = sound.begun in
      let low : c.next ≤ n = range.0 in
      file_new n owner r path (omega arith, range.1) range.0 well there
  drawn_new (of_path n name parent) range well there =
      let begun_is : 0 < c.next = sound.begun in
      let low : c.next ≤ n = range.0 in
      made_new n name parent (omega arith, range.1) range.0 well

  pub all_new : EachOf (λ x. IsNew (finished w D x)) D.drawn
  all_new =
      let Range : Drawn → Type 0 = λ x. (c.next ≤ number_drawn x) × (number_drawn x < last) in
      let ranges : EachOf Range D.drawn = each_under (λ n. (c.next ≤ n) × (n < last)) number_drawn D.drawn
      (count_range (map number_drawn D.drawn) c.next last (all_up c.next w rs)) in
      each_zip (λ x. Range x × Well x) (There A w D) (λ x. IsNew (finished w D x))
      (λ x a b. drawn_new x a.0 a.1 b) D.drawn
      (each_zip Range Well (λ x. Range x × Well x) (λ x a b. (a, b)) D.drawn ranges all_good.drawn) all

  -- ---- keys
  module _ (none_second : second rs 0 [] rs ≡ None) where
    pub two_new : (n k : ℕ) (e d : model.Entry) → IsEntryOf n e → IsEntryOf k d → d.source ≡ e.source → d.kind ≡ e.kind
        → d.page ≡ e.page → d.item ≡ e.item → n ≡ k
    two_new n k e d a b source kinds page item =
        let numbers_are : h a.old.source ≡ h b.old.source =
        ap (λ (x : model.Entry). x.source) a.is ∙ sym source ∙ sym (ap (λ (x : model.Entry). x.source) b.is) in
        let same : a.k ≡ b.k = one_node rs none_second a.k b.k a.t b.t a.old b.old a.at b.at a.from b.from
        (apart A w c.next rs all zero_none a.old.source b.old.source a.source b.source numbers_are)
        (ap (λ (x : model.Entry). x.kind) a.is ∙ sym kinds ∙ sym (ap (λ (x : model.Entry). x.kind) b.is))
        (ap (λ (x : model.Entry). x.page) a.is ∙ sym page ∙ sym (ap (λ (x : model.Entry). x.page) b.is))
        (ap (λ (x : model.Entry). x.item) a.is ∙ sym item ∙ sym (ap (λ (x : model.Entry). x.item) b.is)) in
        a.number ∙ ap h same ∙ sym b.number

    -- the source of an old entry is an old record, and that of a new one a new record
    pub old_and_new : (n k : ℕ) (e d : model.Entry) → IsEntryOf n e → get c.records k ≡ Some (kind.Entry d)
        → d.source ≡ e.source → ⊥
    old_and_new n k e d a at source =
        let there = stands_as a_source (get c.records d.source) (sound.named k (kind.Entry d) at).0 in
        let low : d.source < c.next = (sound.rules.numbered d.source there.0 there.1).1 in
        let from : c.next ≤ h a.old.source =
        (at_node A w c.next rs all zero_none a.old.source a.source.0 a.source.1).from in
        let is : h a.old.source ≡ e.source = ap (λ (x : model.Entry). x.source) a.is in
        omega arith
