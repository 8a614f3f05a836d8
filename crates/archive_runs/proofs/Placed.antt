-- What is kept of a page whose places were made first: the places, one after the other, and then the page.
use Rattle.std.proofs.Common.{
  ◌≡◌,
  ◌∙◌,
  ◌⊎◌,
  ◌++◌,
  ◌+◌,
  ◌<◌,
  ◌∷◌,
  [],
  ℕ,
  Bool,
  List,
  None,
  Ok,
  Err,
  ap,
  append-nil,
  false,
  get_or,
  inl,
  inr,
  length,
  length-append,
  refl,
  subst,
  suc,
  sym,
  take,
  true,
  zero,
}
use Rattle.std.specs.Prelude.{◌||◌, Option, Result, is_some}
use Rattle.std.proofs.Math.Seq.{take-suc}
use Rattle.sqlite.specs.Files.{HoldsDatabase, file_state, over_files}
use Rattle.sqlite.specs.State.{HasCleanDisk}
use Rattle.sqlite.specs.Tree.{Trees}
use Rattle.sqlite_disk.specs.declared.Disk as disk
use Rattle.sqlite_store.specs.declared.store.FileStore.{FileStore}
use Rattle.sqlite_wal.specs.Recovery.{Image}
use Rattle.archive_core.specs.Machine.{Does, Done, Runs}
use Rattle.archive_core.specs.Steps.{Step}
use Rattle.archive_core.specs.declared.request.Request.{Request}
use Rattle.archive_core.proofs.Serving.{joined}
use Rattle.archive_files.specs.Opening.{IsTakenUp}
use Rattle.archive_input.specs.Applying.{PerformsAll, Steps}
use Rattle.archive_output.specs.Reading.{OnlyReads}
use Rattle.archive_state.specs.Content.{Content}
use Rattle.archive_tables.specs.Ends.{OnRead}
use Rattle.archive_tables.specs.Entering.{EntersOf, EntersPage, page_request}
use Rattle.archive_tables.specs.Making.{
  AsksPlace,
  EntersTried,
  HasMade,
  IsAsked,
  IsStopped,
  Made,
  MakesPlace,
  backwards,
  paths_of,
  place_request,
  trial_on,
}
use Rattle.archive_tables.specs.declared.entering.PageEnd.{PageEnd}
use Rattle.archive_tables.specs.declared.entering.PageEnd.TheVariants.{Entered, Unread}
use Rattle.archive_tables.specs.declared.making.MadePlace.{MadePlace}
use Rattle.archive_tables.proofs.Entered.{performs_all, same_shut}
use Rattle.commands.specs.declared.entry_row.EntryRow.{EntryRow}
use Rattle.page_batches.specs.Batches.{rows_on}
use Rattle.page_batches.specs.Placing.{parent_on}
use Rattle.page_batches.specs.Words.{numbers_of}
use Rattle.page_batches.specs.declared.rows.BatchRefusal.{BatchRefusal}
use Rattle.page_entries.specs.Entries.{page_of}
use Rattle.page_entries.specs.declared.entries.PageEntry.{PageEntry}
use Rattle.page_texts.specs.Texts.{page_text}
use Rattle.receipts.specs.declared.answer.Answer.{Answer}
use Rattle.row_references.specs.declared.words.NumberWord.TheVariants.{Number}
use Rattle.record_text.specs.declared.refusal.Refusal.{Refusal}
use Rattle.store.specs.Archives.{HasArchive, IsArchive, LeavesArchive}
use Rattle.store.specs.Calls.{Performs}
use Rattle.store.specs.Earlier.{HoldsArchive}
use Rattle.store.specs.Histories.{Outcome as Answered, in_doubt}
use Rattle.store.specs.Shut.{is_shut}
use Rattle.store.specs.declared.archive.Archive.{Archive}
use Rattle.store.proofs.Histories.{counted}
use Rattle.store.proofs.Viewed.{seen_of}
use Rattle.tasks.specs.Texts.{made_text}
use Rattle.tasks.specs.declared.task.TableForm.{TableForm}
use Rattle.archive_runs.specs.Runs.{ArePlaces, KeepsEntries, KeepsNone, KeepsPlaced, Run, Tells}
use Rattle.archive_runs.proofs.Counted.{IsKept, refused}
use Rattle.archive_runs.proofs.Paging.{same_entries, was_answered, was_refused, ok_is_no_err}

-- ---- runs and lists
abbrev left_by : Content → Step → Content
left_by c (Ok done) = done.0
left_by c (Err e) = c

same_step : (c x y : Content) (r : Request) (o : Answered) → Does c r o x → Does c r o y → x ≡ y
same_step c x y r (Ok answer) h k = ap (left_by c) (sym h ∙ k)
same_step c x y r (Err e) h k = h.0 ∙ sym k.0

-- one request leaves one content
one_end : (d : Done) (c x y : Content) → Runs c (d ∷ []) x → Runs c (d ∷ []) y → x ≡ y
one_end d c x y h k = h.2 ∙ same_step c h.0 k.0 d.0 d.1 h.1 k.1 ∙ sym k.2

or_false : (some lost : Bool) → (some || lost) ≡ false → lost ≡ false
or_false true lost h = absurd cc
or_false false lost h = h

one_longer : (xs : List Done) (ys : List (List ℕ)) (x : Done) (y : List ℕ) → length xs ≡ length ys
    → length (xs ++ x ∷ []) ≡ length (ys ++ y ∷ [])
one_longer xs ys x y e =
    length-append xs (x ∷ []) ∙ ap (λ (n : ℕ). n + 1) e ∙ sym (length-append ys (y ∷ []))

take_all : (ps : List (List ℕ)) → take (length ps) ps ≡ ps
take_all [] = refl
take_all (p ∷ ps) = ap (λ (l : List (List ℕ)). p ∷ l) (take_all ps)

no_next : (x : Done) (xs : List Done) → length (x ∷ xs) ≡ 0 → ⊥
no_next x xs same = absurd cc

no_path : (p : List ℕ) (ps : List (List ℕ)) → 0 ≡ length (p ∷ ps) → ⊥
no_path p ps same = absurd cc

as_many : (x : Done) (xs : List Done) (p : List ℕ) (ps : List (List ℕ)) → length (x ∷ xs) ≡ length (p ∷ ps)
    → length xs ≡ length ps
as_many x xs p ps same = cc

-- ---- places
module _ (token : List ℕ) where
  -- one more
  place_more : (c : Content) (paths : List (List ℕ)) (calls : List Done) (mid : Content) (path : List ℕ)
      (parent : Option ℕ) (answer : Answer) (after : Content) → ArePlaces c token paths calls mid
      → length calls ≡ length paths → parent_on mid path ≡ Ok parent
      → Runs mid ((place_request token path parent, Ok answer) ∷ []) after
      → ArePlaces c token (paths ++ path ∷ []) (calls ++ (place_request token path parent, Ok answer) ∷ []) after
  place_more c [] [] mid path parent answer after are many right runs = (
    parent,
    answer,
    after,
    subst (λ (k : Content). parent_on k path ≡ Ok parent) are right,
    refl,
    subst (λ (k : Content). Runs k ((place_request token path parent, Ok answer) ∷ []) after) are runs,
    refl,
  )
  place_more c [] (x ∷ xs) mid path parent answer after are many right runs = absurd (no_next x xs many)
  place_more c (p ∷ ps) [] mid path parent answer after are many right runs = absurd (no_path p ps many)
  place_more c (p ∷ ps) (x ∷ xs) mid path parent answer after are many right runs = (
    are.0,
    are.1,
    are.2,
    are.3,
    are.4,
    are.5,
    place_more are.2 ps xs mid path parent answer after are.6 (as_many x xs p ps many) right runs,
  )

  -- of the first of these paths
  of_more : (c : Content) (n : ℕ) (paths : List (List ℕ)) (calls : List Done) (found : Content)
      → ArePlaces c token (take n paths) calls found → ArePlaces c token paths calls found
  of_more c n paths [] found are = are
  of_more c zero paths (x ∷ xs) found are = absurd are
  of_more c (suc n) [] (x ∷ xs) found are = absurd are
  of_more c (suc n) (p ∷ ps) (x ∷ xs) found are =
      (are.0, are.1, are.2, are.3, are.4, are.5, of_more are.2 n ps xs found are.6)

-- the paths of places, the last first
abbrev back_paths : List MadePlace → List (List ℕ)
back_paths [] = []
back_paths (m ∷ before) = back_paths before ++ m.path ∷ []

in_front : (before : List MadePlace) (m : MadePlace) → back_paths (before ++ m ∷ []) ≡ m.path ∷ back_paths before
in_front [] m = refl
in_front (x ∷ before) m = ap (λ (ps : List (List ℕ)). ps ++ x.path ∷ []) (in_front before m)

same_paths : (made : List MadePlace) → back_paths (backwards made) ≡ paths_of made
same_paths [] = refl
same_paths (m ∷ made) =
    in_front (backwards made) m ∙ ap (λ (ps : List (List ℕ)). m.path ∷ ps) (same_paths made)

-- ---- what is left, and said
-- so much is kept, and that is found in tables that a crash may leave
abbrev pub LeavesPlaced : List ℕ → Content → List ℕ → ℕ → TableForm → Run → Trees → Type 0
LeavesPlaced society c token source form run left = (kept : List Done) × (found : Content)
    × KeepsPlaced c token source form run kept × Runs c kept found × IsArchive society found left

-- the answer, or nothing
abbrev pub IsTold : Run → Result PageEnd BatchRefusal → Type 0
IsTold run (Ok (Entered answer words)) = Tells run (made_text answer)
IsTold run (Ok (Unread fault)) = KeepsNone run []
IsTold run (Err e) = KeepsNone run []

-- ---- on an archive that was taken up, and looked at
module _ {D : Type 0} {g : disk.Ghosts D} (image : Image) (taken start : Archive (FileStore D g) over_files)
    (held : IsTakenUp image taken) (looked : OnlyReads over_files taken start) (lives : start.is_lost ≡ false)
    (society : List ℕ) (c : Content) (tables : Trees) (holds : HoldsDatabase image tables)
    (had : HoldsArchive society c tables) (token : List ℕ) where
  abbrev At : Type 0
  At = Archive (FileStore D g) over_files

  -- what it holds once places were made, one of each of these paths
  record Holding (paths : List (List ℕ)) (a : At) : Type 0 where
    pub first : HasCleanDisk (file_state start.conn)
    pub calls : List Done
    pub found : Content
    pub are : ArePlaces c token paths calls found
    pub many : length calls ≡ length paths
    pub runs : Runs c calls found
    pub has : HasArchive society found (file_state a.conn)
    pub crash : LeavesArchive (file_state a.conn) society (λ k. k ≡ found)

  record Reached (paths : List (List ℕ)) (a : At) : Type 0 where
    pub takes : is_shut a ≡ false
    pub kept : a.is_lost ≡ false
    pub holding : HasCleanDisk (file_state a.conn) → Holding paths a

  at_start : Reached [] start
  at_start = record {
    takes = same_shut over_files taken start start held.kept looked lives ∙ held.ready;
    kept = lives;
    holding = λ clean.
        let was = looked.still lives clean in
        let had_it = (held.has was.0 society c tables holds had).0 in
        let is = was.1 society c had_it in
        record {
          first = clean;
          calls = [];
          found = c;
          are = refl;
          many = refl;
          runs = refl;
          has = is.0;
          crash = is.1;
        };
  }

  -- ---- a place
  module _ (paths : List (List ℕ)) (mid between new : At) (r : Reached paths mid)
      (reads : OnlyReads over_files mid between) (still : between.is_lost ≡ false) (path : List ℕ) (parent : Option ℕ)
      (right : OnRead (file_state mid.conn) (file_state between.conn) (λ k. parent_on k path ≡ Ok parent)) where
    still_takes : is_shut between ≡ false
    still_takes = same_shut over_files mid between new r.kept reads still ∙ r.takes

    performed : (calls : List Done) → PerformsAll over_files between calls new → HasCleanDisk (file_state new.conn)
        → Performs (file_state mid.conn) calls (file_state new.conn)
    performed calls all clean = performs_all over_files mid between new r.kept reads still calls all clean r.takes

    parent_found : HasCleanDisk (file_state between.conn) → (h : Holding paths mid) → parent_on h.found path ≡ Ok parent
    parent_found clean h = ((right clean).1 h.has.0 h.found h.has.1 (seen_of h.has.2)).0

    one_more : (answer : Answer) → Steps over_files (Ok (place_request token path parent, Ok answer)) between new
        → Reached (paths ++ path ∷ []) new
    one_more answer steps = record {
      takes = steps.1 still_takes;
      kept = or_false (is_some new.import) new.is_lost (steps.1 still_takes);
      holding = λ clean.
          let d : Done = (place_request token path parent, Ok answer) in
          let all = performed (d ∷ []) steps.0 clean in
          let h = r.holding all.clean in
          let did = all.done refl society h.found h.has in
          let is = parent_found (steps.0 clean still_takes).clean h in
          record {
            first = h.first;
            calls = h.calls ++ d ∷ [];
            found = did.0;
            are = place_more token c paths h.calls h.found path parent answer did.0 h.are h.many is did.1;
            many = one_longer h.calls paths d path h.many;
            runs = joined h.calls (d ∷ []) c h.found did.0 h.runs did.1;
            has = did.2;
            crash = λ t may.
                let left = all.crash society h.found h.has t may in
                (left.0, one_end d h.found left.0 did.0 left.1 did.1, left.2);
          };
    }

  asked_more : (paths : List (List ℕ)) (mid new : At) (r : Reached paths mid) (path : List ℕ) (answer : Answer)
      (asks : AsksPlace over_files token path mid (Ok answer) new)
      → IsAsked over_files token path asks.parent asks.between (Ok answer) new → Reached (paths ++ path ∷ []) new
  asked_more paths mid new r path answer asks (inl steps) =
      one_more paths mid asks.between new r asks.reads asks.kept path asks.parent asks.right answer steps
  asked_more paths mid new r path answer asks (inr wants) = absurd cc

  made_more : (paths : List (List ℕ)) (mid new : At) (r : Reached paths mid) (path : List ℕ) (answer : Answer)
      → MakesPlace over_files token path mid (Ok answer) new → Reached (paths ++ path ∷ []) new
  made_more paths mid new r path answer (inl asks) = asked_more paths mid new r path answer asks asks.done
  made_more paths mid new r path answer (inr none) =
      let never : Ok answer ≡ Err (record { kind = none.why; at = None }) = none.is in absurd cc

  reached : (back : List MadePlace) (a : At) → Made over_files token start back a → Reached (back_paths back) a
  reached [] a same = subst (Reached []) (sym same) at_start
  reached (m ∷ before) a did =
      made_more (back_paths before) did.0 a (reached before did.0 did.2) m.path did.1 did.3

  has_reached : (paths : List (List ℕ)) (n : ℕ) (made : List MadePlace) (a : At)
      → HasMade over_files token paths n made start a → Reached (take n paths) a
  has_reached paths n made a has = subst (λ (ps : List (List ℕ)). Reached ps a) (same_paths made ∙ has.first)
      (reached (backwards made) a has.made_so)

  -- ---- how it ended
  module _ (new : At) (clean : HasCleanDisk (file_state new.conn)) (left : Trees)
      (may : (file_state new.conn).may_leave left) (source : ℕ) (form : TableForm) (run : Run)
      (entries : List PageEntry) (read : page_of form.order (page_text form.set run.input) ≡ Ok entries)
      (paths : List (List ℕ))
      (lacking : HasCleanDisk (file_state start.conn) → trial_on c token source entries ≡ Ok paths) where
    abbrev Leaves : Type 0
    Leaves = LeavesPlaced society c token source form run left

    abbrev After : Content → ℕ → List Done → Type 0
    After found many page = KeepsNone run page
        ⊎ ((many ≡ length paths) × KeepsEntries found token source entries run page)

    leaves : (n : ℕ) (a : At) (h : Holding (take n paths) a) (page : List Done) (found : Content)
        → After h.found (length h.calls) page → Runs h.found page found → IsArchive society found left → Leaves
    leaves n a h page found entered runs is = (
      h.calls ++ page,
      found,
      record {
        entries = entries;
        read = read;
        paths = paths;
        lacking = lacking h.first;
        places = h.calls;
        page = page;
        all = refl;
        found = h.found;
        made = of_more token c n paths h.calls h.found h.are;
        entered = entered;
      },
      joined h.calls page c h.found found h.runs runs,
      is,
    )

    -- nothing more was done
    none_more : (n : ℕ) (mid : At) → Reached (take n paths) mid → OnlyReads over_files mid new → KeepsNone run []
        → Leaves
    none_more n mid r reads none =
        let stays = reads.stays clean in
        let h = r.holding stays.clean in
        leaves n mid h [] h.found (inl none) refl
        (h.has.0, stays.crash h.has.0 h.found h.has.1 (seen_of h.has.2) left may, h.has.2)

    same_more : (n : ℕ) (mid : At) → Reached (take n paths) mid → new ≡ mid → KeepsNone run [] → Leaves
    same_more n mid r same none =
        let h = (subst (Reached (take n paths)) (sym same) r).holding clean in
        let found = h.crash left may in
        leaves n new h [] h.found (inl none) refl (subst (λ (k : Content). IsArchive society k left) found.1 found.2)

    -- ---- the page
    page_told : (n : ℕ) (mid : At) (r : Reached (take n paths) mid) → length (take n paths) ≡ length paths
        → (answer : Answer) → EntersOf over_files token source entries mid (Ok answer) new
        → Tells run (made_text answer) → Leaves
    page_told n mid r whole answer (inl e) tells =
        let d : Done = (page_request token source entries e.rows, Ok answer) in
        let all : PerformsAll over_files mid (d ∷ []) new =
        subst (λ (o : Answered). PerformsAll over_files mid ((page_request token source entries e.rows, o) ∷ []) new)
        (was_answered (numbers_of entries) answer e.outcome e.is) e.performed in
        let p = all clean r.takes in
        let h = r.holding p.clean in
        let found = p.crash society h.found h.has left may in
        leaves n mid h (d ∷ []) found.0
        (inr (
          h.many ∙ whole,
          (e.rows, e.right clean h.has.0 h.found h.has.1 (seen_of h.has.2), (answer, refl, tells)),
        ))
        found.1 found.2
    page_told n mid r whole answer (inr bad) tells = absurd (ok_is_no_err answer bad.why bad.is)

    kept_or_not : (n : ℕ) (a : At) (h : Holding (take n paths) a) (rows : List EntryRow) (page : List Done)
        → length (take n paths) ≡ length paths → rows_on h.found token source entries ≡ Ok rows → KeepsNone run []
        → (page ≡ []) ⊎ IsKept (page_request token source entries rows) page → After h.found (length h.calls) page
    kept_or_not n a h rows page whole right none (inl nothing) = inl (nothing, none.1, none.2)
    kept_or_not n a h rows page whole right none (inr one) = inr (
      h.many ∙ whole,
      (
        rows,
        right,
        (
          one.0,
          one.1,
          (
            (made_text one.0, sym (ap (λ (some : List ℕ). some ++ made_text one.0) none.1)),
            λ done. absurd (none.2 done),
          ),
        ),
      ),
    )

    page_untold : (n : ℕ) (mid : At) (r : Reached (take n paths) mid) → length (take n paths) ≡ length paths
        → (why : BatchRefusal) → EntersOf over_files token source entries mid (Err why) new → KeepsNone run []
        → Leaves
    page_untold n mid r whole why (inl e) none =
        let req = page_request token source entries e.rows in
        let was = was_refused (numbers_of entries) why e.outcome e.is in
        let all : PerformsAll over_files mid ((req, Err was.0) ∷ []) new =
        subst (λ (o : Answered). PerformsAll over_files mid ((req, o) ∷ []) new) was.1 e.performed in
        let p = all clean r.takes in
        let h = r.holding p.clean in
        let found = p.crash society h.found h.has left may in
        let counts = counted ((req, Err was.0) ∷ []) h.found found.0 (in_doubt ((req, Err was.0) ∷ [])) refl found.1 in
        let ran = refused req was.0 h.found found.0 counts.0 counts.1 counts.2 in
        leaves n mid h ran.0 found.0
        (kept_or_not n mid h e.rows ran.0 whole (e.right clean h.has.0 h.found h.has.1 (seen_of h.has.2)) none ran.1)
        ran.2 found.2
    page_untold n mid r whole why (inr bad) none = none_more n mid r bad.reads none

    page_ended : (n : ℕ) (mid : At) (r : Reached (take n paths) mid) → length (take n paths) ≡ length paths
        → (result : Result PageEnd BatchRefusal)
        → EntersPage over_files token (Number source) form.order (page_text form.set run.input) mid result new
        → IsTold run result → Leaves
    page_ended n mid r whole (Ok (Entered answer words)) did told = page_told n mid r whole answer
        (subst (λ (es : List PageEntry). EntersOf over_files token source es mid (Ok answer) new)
        (same_entries did.0 entries (sym did.1 ∙ read)) did.2.1) told
    page_ended n mid r whole (Ok (Unread fault)) did none = same_more n mid r did.1 none
    page_ended n mid r whole (Err e) (inl want) none = same_more n mid r want.1 none
    page_ended n mid r whole (Err e) (inr did) none = page_untold n mid r whole e
        (subst (λ (es : List PageEntry). EntersOf over_files token source es mid (Err e) new)
        (same_entries did.0 entries (sym did.1 ∙ read)) did.2) none

    -- ---- a place that was refused, or is in doubt
    module _ (n : ℕ) (mid : At) (r : Reached (take n paths) mid) (path : List ℕ) (less : n < length paths)
        (is : path ≡ get_or paths n path) (none : KeepsNone run []) where
      next_paths : take n paths ++ path ∷ [] ≡ take (suc n) paths
      next_paths = ap (λ (p : List ℕ). take n paths ++ p ∷ []) is ∙ sym (take-suc paths n path less)

      module _ (e : Refusal) (asks : AsksPlace over_files token path mid (Err e) new) where
        abbrev Asked : Request
        Asked = place_request token path asks.parent

        in_time : (h : Holding (take n paths) mid) → HasCleanDisk (file_state asks.between.conn) → (kept : List Done)
            (found : Content) → (kept ≡ []) ⊎ IsKept Asked kept → Runs h.found kept found
            → IsArchive society found left → Leaves
        in_time h was kept found (inl nothing) runs stands = leaves n mid h [] found (inl none)
            (subst (λ (l : List Done). Runs h.found l found) nothing runs) stands
        in_time h was kept found (inr one) runs stands =
            let d : Done = (Asked, Ok one.0) in
            let ran : Runs h.found (d ∷ []) found = subst (λ (l : List Done). Runs h.found l found) one.1 runs in
            let right = parent_found (take n paths) mid asks.between new r asks.reads asks.kept path asks.parent
            asks.right was h in
            let more = place_more token c (take n paths) h.calls h.found path asks.parent one.0 found h.are h.many right
            ran in (
              h.calls ++ d ∷ [],
              found,
              record {
                entries = entries;
                read = read;
                paths = paths;
                lacking = lacking h.first;
                places = h.calls ++ d ∷ [];
                page = [];
                all = sym (append-nil (h.calls ++ d ∷ []));
                found = found;
                made = of_more token c (suc n) paths (h.calls ++ d ∷ []) found
                    (subst (λ (ps : List (List ℕ)). ArePlaces c token ps (h.calls ++ d ∷ []) found) next_paths more);
                entered = inl none;
              },
              joined h.calls (d ∷ []) c h.found found h.runs ran,
              stands,
            )

        asked_not : IsAsked over_files token path asks.parent asks.between (Err e) new → Leaves
        asked_not (inl steps) =
            let p = performed (take n paths) mid asks.between new r asks.reads asks.kept path asks.parent asks.right
            ((Asked, Err e) ∷ []) steps.0 clean in
            let h = r.holding p.clean in
            let found = p.crash society h.found h.has left may in
            let counts =
            counted ((Asked, Err e) ∷ []) h.found found.0 (in_doubt ((Asked, Err e) ∷ [])) refl found.1 in
            let ran = refused Asked e h.found found.0 counts.0 counts.1 counts.2 in
            let takes = still_takes (take n paths) mid asks.between new r asks.reads asks.kept path asks.parent
            asks.right in
            in_time h (steps.0 clean takes).clean ran.0 found.0 ran.1 ran.2 found.2
        asked_not (inr wants) =
            none_more n mid r (subst (OnlyReads over_files mid) (sym wants.1) asks.reads) none

      place_not : (e : Refusal) → MakesPlace over_files token path mid (Err e) new → Leaves
      place_not e (inl asks) = asked_not e asks asks.done
      place_not e (inr bad) = none_more n mid r bad.reads none

      -- it was made, and no more
      place_last : (answer : Answer) → MakesPlace over_files token path mid (Ok answer) new → Leaves
      place_last answer makes =
          let more = subst (λ (ps : List (List ℕ)). Reached ps new) next_paths
          (made_more (take n paths) mid new r path answer makes) in
          same_more (suc n) new more refl none

    stopped : (made : List MadePlace) (e : Refusal) → IsStopped over_files token paths made start e new
        → KeepsNone run [] → Leaves
    stopped made e s none = elim s.why [
      | inl refuses ↦ place_not s.n s.mid (has_reached paths s.n made s.mid s.before) s.path s.within s.is none e
          refuses
      | inr lacks ↦ place_last s.n s.mid (has_reached paths s.n made s.mid s.before) s.path s.within s.is none
          lacks.1 lacks.2
    ]

    pub tried : (made : List MadePlace) (result : Result PageEnd BatchRefusal)
        → EntersTried over_files token source form.order (page_text form.set run.input) paths start made result new
        → IsTold run result → Leaves
    tried made result (inl did) told = page_ended (length paths) did.0
        (has_reached paths (length paths) made did.0 did.1) (ap length (take_all paths)) result did.2 told
    tried made result (inr did) told = stopped made did.0 did.1
        (subst (IsTold run) did.2 told)
