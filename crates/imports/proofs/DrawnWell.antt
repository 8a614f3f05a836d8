-- All that is drawn: records of the file, each below its owner, and places that are made.
use Rattle.std.proofs.Common.{
  ◌≡◌,
  ℕ,
  ◌+◌,
  zero,
  suc,
  ◌<◌,
  ◌≤◌,
  true,
  List,
  [],
  ◌∷◌,
  ◌++◌,
  length,
  map,
  refl,
  sym,
  ap,
  ◌∙◌,
  subst,
  inl,
  inr,
  arith,
  append_assoc,
  length-append,
}
use Rattle.std.specs.Prelude.{Option, Some, None, IfSome}
use Rattle.std.specs.FinMap.{get}
use Rattle.std.specs.List.{slice_get}
use Rattle.stored_lines.specs.Line.{Line, Lines}
use Rattle.stored_lines.specs.Tree.{Tree, Forest, node, none, more, label}
use Rattle.record_kinds.specs.declared.record.Record.{Record}
use Rattle.record_kinds.specs.declared.record.Record.TheVariants as kind
use Rattle.archive_state.specs.Links.{a_cited, a_holder, is_wanted}
use Rattle.record_shapes.specs.Forms.{is_some}
use Rattle.record_shapes.specs.Levels.{room_below}
use Rattle.record_shapes.specs.Lists.{EachOf}
use Rattle.record_shapes.specs.Paths.{is_within_limits, joined, normal, trimmed}
use Rattle.record_shapes.specs.Reading.{Draft, read, sought}
use Rattle.record_shapes.specs.Tags.{event_tags}
use Rattle.archive_state.specs.Content.{Records}
use Rattle.archive_state.specs.Known.{path_of}
use Rattle.archive_state.specs.Merging.{record_with}
use Rattle.import_definitions.specs.Numbers.{
  Drawing,
  Found,
  Places,
  draw,
  draw_all,
  draw_roots,
  drawn_more,
  find,
  made_within,
  names_of,
  number_at,
  of_file,
  owned_by,
  placed,
  root_drawn,
  settle,
  unless_found,
}
use Rattle.import_definitions.specs.Positions.{known, known_before}
use Rattle.import_definitions.specs.Sides.{draft_at}
use Rattle.imports.specs.Read.{AllRead, EachRead, IsNode, IsRead, PointsWithin}
use Rattle.imports.proofs.Finding.{found_made, found_more}
use Rattle.imports.proofs.Going.{GoesOn, draw_all_goes, draw_goes, goes_then, roots_go}
use Rattle.imports.proofs.Links.{AllNamed, EachNamed, IsPath, IsSought, NamesAll}
use Rattle.imports.proofs.LinksNodes.{node_named}
use Rattle.imports.proofs.Normal.{names_clean}
use Rattle.imports.proofs.ReadNodes.{nodes_are_read}
use Rattle.imports.proofs.Rooted.{F, IsRootAt, There, last_there, draw_roots_same, number_seam}
use Rattle.imports.proofs.RootRecords.{root_is_read}
use Rattle.imports.proofs.Settling.{
  AreNames,
  IsBehind,
  IsDrawnWell,
  IsGood,
  behind_later,
  made_later,
  settled,
}
use Rattle.record_shapes.proofs.Each.{each_both, each_more}
use Rattle.record_shapes.proofs.PathTexts.{parts_some}
use Rattle.record_shapes.proofs.Limits.{limits_are}
use Rattle.record_shapes.proofs.Names.{are_names}

-- a record that counts as much as an owner as another
pub record IsOwnerLike (old r : Record) : Type 0 where
  pub tags : event_tags old ≡ event_tags r
  pub room : room_below (Some old) ≡ room_below (Some r)
  pub holder : is_wanted a_holder old ≡ is_wanted a_holder r
  pub cited : is_wanted a_cited old ≡ is_wanted a_cited r

-- the names of a path by which a place is sought
path_joined : (q : List ℕ) → IsPath q → joined (names_of q) ≡ q
unfolding normal
path_joined q h = h.normal_is

module _ (A : Records) (w : Places) (D : Drawing) (all : EachOf (There A w D) D.drawn) (first : ℕ)
    (arch : (q : List ℕ) (n : ℕ) → w.archive q ≡ Some n → (path_of A n ≡ Some q) × (n < first))
    (filed : (k : ℕ) (q : List ℕ) → w.file q ≡ Some k → path_of A (F A w D k) ≡ Some q)
    (rs : Lines) (count : ℕ) where
  abbrev f : ℕ → ℕ
  f k = F A w D k

  -- ---- owners
  like_finished : (owner : ℕ) (path : Option (List ℕ)) (r : Record)
      → IsOwnerLike r (owned_by owner (placed w D path (record_with f r)))
  like_finished owner None (kind.Place x) = record { tags = refl; room = refl; holder = refl; cited = refl }
  like_finished owner (Some q) (kind.Place x) = record { tags = refl; room = refl; holder = refl; cited = refl }
  like_finished owner None (kind.Repo x) = record { tags = refl; room = refl; holder = refl; cited = refl }
  like_finished owner (Some q) (kind.Repo x) = record { tags = refl; room = refl; holder = refl; cited = refl }
  like_finished owner None (kind.Source x) = record { tags = refl; room = refl; holder = refl; cited = refl }
  like_finished owner (Some q) (kind.Source x) = record { tags = refl; room = refl; holder = refl; cited = refl }
  like_finished owner None (kind.Person x) = record { tags = refl; room = refl; holder = refl; cited = refl }
  like_finished owner (Some q) (kind.Person x) = record { tags = refl; room = refl; holder = refl; cited = refl }
  like_finished owner None (kind.Family x) = record { tags = refl; room = refl; holder = refl; cited = refl }
  like_finished owner (Some q) (kind.Family x) = record { tags = refl; room = refl; holder = refl; cited = refl }
  like_finished owner None (kind.Citation x) = record { tags = refl; room = refl; holder = refl; cited = refl }
  like_finished owner (Some q) (kind.Citation x) = record { tags = refl; room = refl; holder = refl; cited = refl }
  like_finished owner None (kind.Event x) = record { tags = refl; room = refl; holder = refl; cited = refl }
  like_finished owner (Some q) (kind.Event x) = record { tags = refl; room = refl; holder = refl; cited = refl }
  like_finished owner None (kind.Entry x) = record { tags = refl; room = refl; holder = refl; cited = refl }
  like_finished owner (Some q) (kind.Entry x) = record { tags = refl; room = refl; holder = refl; cited = refl }
  like_finished owner None (kind.Other x) = record { tags = refl; room = refl; holder = refl; cited = refl }
  like_finished owner (Some q) (kind.Other x) = record { tags = refl; room = refl; holder = refl; cited = refl }

  -- what a record is below: nothing, where it is what a node of level 0 is read as; or a record that stands
  abbrev pub IsOwnedAt : ℕ → ℕ → ℕ → Option Record → Record → Type 0
  IsOwnedAt k n owner None r = (n ≡ f k) × ((t : Tree Line) × (slice_get rs k ≡ Some t)
      × (label (draft_at rs k t) ≡ read r None))
  IsOwnedAt k n owner (Some o) r = (s : Record) × (get A owner ≡ Some s) × IsOwnerLike o s

  -- a record of the file that is drawn
  pub record IsFileDrawn (n owner : ℕ) (r : Record) (path : Option (List ℕ)) : Type 0 where
    pub k : ℕ
    pub o : Option Record
    pub read_well : IsRead (known_before rs k) (known rs) o r
    pub named : NamesAll (known rs) count o path r
    pub owned : IsOwnedAt k n owner o r
    pub found : IfSome path (λ q. is_some (find w None D.made q) ≡ true)

  abbrev pub Good : Drawing → Type 0
  Good d = IsGood A w D all first arch filed IsFileDrawn d

  abbrev Behind : ℕ → ℕ → Type 0
  Behind k n = IsBehind A w D all first arch filed k n

  -- ---- places that are sought
  are_path_names : (q : List ℕ) → IsPath q → AreNames (names_of q)
  are_path_names q h = record {
    each = are_names q;
    clean = names_clean q h.clean;
    within = limits_are (joined (names_of q)) (ap is_within_limits (path_joined q h) ∙ h.within);
  }

  found_now : (k : ℕ) (name : List ℕ) (names : List (List ℕ)) (d : Drawing)
      → is_some (find w None (settle w None k (name ∷ names) d).0.made (joined (name ∷ names))) ≡ true
  found_now k name names d = by (find w None d.made (joined (name ∷ names))) refl
    where
      by : (o : Option Found) → find w None d.made (joined (name ∷ names)) ≡ o
          → is_some (find w None
          (unless_found o d (made_within (joined (name ∷ names)) name (settle w (Some k) k names d))).0.made
          (joined (name ∷ names))) ≡ true
      by (Some x) e = ap is_some e
      by None e = found_made w None (joined (name ∷ names)) (settle w (Some k) k names d).0.made
          (settle w (Some k) k names d).0.next

  some_names : (q : List ℕ) → (name : List ℕ) × (names : List (List ℕ)) × (names_of q ≡ name ∷ names)
  some_names q = let s = parts_some q in (trimmed s.0, map trimmed s.1, ap (map trimmed) s.2)

  sought_good : (k : ℕ) (d : Drawing) (q : List ℕ) → IsPath q → GoesOn (settle w None k (names_of q) d).0 D
      → Behind k d.next → Good d → Good (settle w None k (names_of q) d).0
  sought_good k d q h goes behind good =
      let s = some_names q in
      let Claim : List (List ℕ) → Type 0 = λ ns. AreNames ns → GoesOn (settle w None k ns d).0 D
      → Good (settle w None k ns d).0 in
      subst Claim (sym s.2) (λ fit on.
      (settled A w D all first arch filed IsFileDrawn k s.0 s.1 d fit on behind good).0)
      (are_path_names q h) goes

  sought_found : (k : ℕ) (d : Drawing) (q : List ℕ) → IsPath q
      → is_some (find w None (settle w None k (names_of q) d).0.made q) ≡ true
  sought_found k d q h =
      let s = some_names q in
      let Claim : List (List ℕ) → Type 0 = λ ns. is_some (find w None (settle w None k ns d).0.made (joined ns))
      ≡ true in
      subst (λ p. is_some (find w None (settle w None k (names_of q) d).0.made p) ≡ true) (path_joined q h)
      (subst Claim (sym s.2) (found_now k s.0 s.1 d))

  -- what is sought below a record is found at the end
  sought_in : (k owner : ℕ) (o : Option Record) (d : Drawing) (g : Forest Draft) (q : List ℕ) → IsSought q g
      → AllNamed (known rs) count o g → GoesOn (draw_all w k owner d g) D → is_some (find w None D.made q) ≡ true
  sought_in k owner o d none q h named goes = absurd h
  sought_in k owner o d (more (node (read r path) u) ts) q h named goes =
      sought_in k owner o (draw w k owner d (node (read r path) u)) ts q h named.1 goes
  sought_in k owner o d (more (node (sought p) u) ts) q (inr h) named goes =
      sought_in k owner o (draw w k owner d (node (sought p) u)) ts q h named.1 goes
  sought_in k owner o d (more (node (sought p) u) ts) q (inl h) named goes =
      let e : Drawing = draw w k owner d (node (sought p) u) in
      let on : GoesOn e D = goes_then e (draw_all w k owner e ts) D (draw_all_goes e w k owner ts) goes in
      subst (λ x. is_some (find w None D.made x) ≡ true) h
      (found_more w None p e.made D.made (on.made p) (sought_found k d p named.0))

  found_if : (path : Option (List ℕ)) (k owner : ℕ) (o : Option Record) (d : Drawing) (g : Forest Draft)
      → IfSome path (λ q. IsSought q g) → AllNamed (known rs) count o g → GoesOn (draw_all w k owner d g) D
      → IfSome path (λ q. is_some (find w None D.made q) ≡ true)
  found_if None k owner o d g h named goes = tt
  found_if (Some q) k owner o d g h named goes = sought_in k owner o d g q h named goes

  -- ---- records
  record_good : (k owner : ℕ) (o : Option Record) (d : Drawing) (r : Record) (path : Option (List ℕ))
      → IsRead (known_before rs k) (known rs) o r → NamesAll (known rs) count o path r
      → IsOwnedAt k d.next owner o r → IfSome path (λ q. is_some (find w None D.made q) ≡ true) → Good d
      → Good (drawn_more d (of_file d.next owner r path))
  record_good k owner o d r path is named owned found good = record {
    drawn = each_both (IsDrawnWell A w D all first arch filed IsFileDrawn) d.drawn
        (of_file d.next owner r path ∷ []) good.drawn (
          record { k = k; o = o; read_well = is; named = named; owned = owned; found = found },
          tt,
        );
    made = made_later A w D all first arch filed d.next (d.next + 1) (omega arith) d.made good.made;
  }

  -- the record that is drawn stands, and counts as an owner as what was read
  stands_as_owner : (k owner : ℕ) (d : Drawing) (r : Record) (path : Option (List ℕ))
      → GoesOn (drawn_more d (of_file d.next owner r path)) D
      → (s : Record) × (get A d.next ≡ Some s) × IsOwnerLike r s
  stands_as_owner k owner d r path goes = (
    owned_by owner (placed w D path (record_with f r)),
    last_there A w D all d.drawn (of_file d.next owner r path) goes.drawn,
    like_finished owner path r,
  )

  abbrev P : ℕ → Option Record → Record → Type 0
  P k = IsRead (known_before rs k) (known rs)

  mutual
    draw_good : (k owner : ℕ) (o : Record) (d : Drawing) (t : Tree Draft) → EachRead (P k) (Some o) t
        → EachNamed (known rs) count (Some o) t → ((s : Record) × (get A owner ≡ Some s) × IsOwnerLike o s)
        → Behind k d.next → GoesOn (draw w k owner d t) D → Good d → Good (draw w k owner d t)
    draw_good k owner o d (node (sought q) u) is named owned behind goes good =
        sought_good k d q named goes behind good
    draw_good k owner o d (node (read r path) u) is named owned behind goes good =
        let e : Drawing = drawn_more d (of_file d.next owner r path) in
        let on : GoesOn e D = goes_then e (draw_all w k d.next e u) D (draw_all_goes e w k d.next u) goes in
        draw_all_good k d.next r e u is.1 named.2 (stands_as_owner k owner d r path on)
        (behind_later A w D all first arch filed k d.next (d.next + 1) (omega arith) behind) goes
        (record_good k owner (Some o) d r path is.0 named.0 owned
        (found_if path k d.next (Some r) e u named.1 named.2 goes) good)

    draw_all_good : (k owner : ℕ) (o : Record) (d : Drawing) (u : Forest Draft) → AllRead (P k) (Some o) u
        → AllNamed (known rs) count (Some o) u → ((s : Record) × (get A owner ≡ Some s) × IsOwnerLike o s)
        → Behind k d.next → GoesOn (draw_all w k owner d u) D → Good d → Good (draw_all w k owner d u)
    draw_all_good k owner o d none is named owned behind goes good = good
    draw_all_good k owner o d (more t ts) is named owned behind goes good =
        let e : Drawing = draw w k owner d t in
        let step : GoesOn d e = draw_goes d w k owner t in
        let on : GoesOn e D = goes_then e (draw_all w k owner e ts) D (draw_all_goes e w k owner ts) goes in
        draw_all_good k owner o e ts is.1 named.1 owned
        (behind_later A w D all first arch filed k d.next e.next step.next behind) goes
        (draw_good k owner o d t is.0 named.0 owned behind on good)

  -- ---- nodes
  module _ (nodes : EachOf (λ t. IsNode t × PointsWithin count t) rs)
      (rooted : (k : ℕ) (r : Tree Line) → slice_get rs k ≡ Some r → IsRootAt A w D rs first k r) where
    root_good : (k : ℕ) (d : Drawing) (r : Tree Line) → slice_get rs k ≡ Some r → IsNode r × PointsWithin count r
        → length d.roots ≡ k → first ≤ d.next → GoesOn (draw w k 0 (root_drawn d) (draft_at rs k r)) D → Good d
        → Good (draw w k 0 (root_drawn d) (draft_at rs k r))
    root_good k d r at fit size from goes good =
        let root = root_is_read rs k r in
        let own : Record = root.own in
        let u : Forest Draft = root.under in
        let d1 : Drawing = root_drawn d in
        let e : Drawing = drawn_more d1 (of_file d.next 0 own None) in
        let ran : GoesOn (draw_all w k d.next e u) D = subst (λ t. GoesOn (draw w k 0 d1 t) D) root.whole goes in
        let on : GoesOn e D = goes_then e (draw_all w k d.next e u) D (draw_all_goes e w k d.next u) ran in
        let is : EachRead (P k) None (node (read own None) u) = subst (EachRead (P k) None) root.whole
        (nodes_are_read rs (each_more (λ t. IsNode t × PointsWithin count t) IsNode (λ t h. h.0) rs nodes) k r fit.0) in
        let named : EachNamed (known rs) count None (node (read own None) u) =
        subst (EachNamed (known rs) count None) root.whole (node_named rs count nodes k r fit) in
        let parts : D.roots ≡ d.roots ++ (d.next ∷ on.roots.rest) =
        on.roots.whole ∙ append_assoc d.roots (d.next ∷ []) on.roots.rest in
        let here : f k ≡ d.next = (λ i. number_at (parts i) (sym size i)) ∙ number_seam d.roots d.next on.roots.rest in
        let stage : IsRootAt A w D rs first k r = rooted k r at in
        let behind : Behind k (d.next + 1) = record {
          low = λ j less. (let low : f j < f k = stage.later j less in omega arith);
          from = omega arith;
        } in
        let begun : Good d1 = record { drawn = good.drawn; made = good.made } in
        subst (λ t. Good (draw w k 0 d1 t)) (sym root.whole)
        (draw_all_good k d.next own e u is.1 named.2 (stands_as_owner k 0 d1 own None on) behind ran
        (record_good k 0 None d1 own None is.0 named.0 (sym here, (r, at, ap label root.whole)) tt begun))

    pub roots_good : (k : ℕ) (d : Drawing) (behind : Lines)
        → ((i : ℕ) (r : Tree Line) → slice_get behind i ≡ Some r → slice_get rs (k + i) ≡ Some r)
        → EachOf (λ t. IsNode t × PointsWithin count t) behind → length d.roots ≡ k → first ≤ d.next
        → GoesOn (draw_roots rs w k d behind) D → Good d → Good (draw_roots rs w k d behind)
    roots_good k d [] at fit size from goes good = good
    roots_good k d (r ∷ behind) at fit size from goes good =
        let e : Drawing = draw w k 0 (root_drawn d) (draft_at rs k r) in
        let step : GoesOn (root_drawn d) e = draw_goes (root_drawn d) w k 0 (draft_at rs k r) in
        let up : d.next ≤ e.next = step.next in
        let on : GoesOn e D = goes_then e (draw_roots rs w (k + 1) e behind) D (roots_go e rs w (k + 1) behind) goes in
        let count_is : length e.roots ≡ length (d.roots ++ d.next ∷ []) =
        ap length (draw_roots_same w k 0 (root_drawn d) (draft_at rs k r)) in
        let one : length (d.roots ++ d.next ∷ []) ≡ length d.roots + 1 = length-append d.roots (d.next ∷ []) in
        let zero_more : k + zero ≡ k = omega arith in
        roots_good (k + 1) e behind (λ i q h. subst (λ n. slice_get rs n ≡ Some q)
        (let s : k + suc i ≡ (k + 1) + i = omega arith in s) (at (suc i) q h)) fit.1 (omega arith) (omega arith) goes
        (root_good k d r (subst (λ n. slice_get rs n ≡ Some r) zero_more (at zero r refl)) fit.0 size from on good)
