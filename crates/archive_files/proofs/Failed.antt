-- Files that could not be opened, and the database that they held.
use Rattle.std.proofs.Common.{◌≡◌, ◌⊎◌, ◌≤◌, ◌%◌, ◌∙◌, arith, eq-eqb, inl, inr, ne_eqb, refl, sym, subst, ℕ, IsTrue}
use Rattle.std.proofs.Math.Logic.{∥∥₁_map}
use Rattle.std.proofs.lemmas.Bool.{cases_eq}
use Rattle.sqlite.specs.Files.{HoldsDatabase, IsNothing, NamesSize, SaysSums}
use Rattle.sqlite.specs.Opening.{HoldsIn}
use Rattle.sqlite.specs.Tree.{Trees}
use Rattle.sqlite.specs.declared.file.Leftover.{Leftover}
use Rattle.sqlite.specs.declared.file.Leftover.TheVariants as left
use Rattle.sqlite.proofs.FileLemmas.{is_something}
use Rattle.sqlite.proofs.Theorems.{opens_again}
use Rattle.sqlite_catalog.specs.Listing.{IsSound}
use Rattle.sqlite_disk.specs.declared.Disk as disk
use Rattle.sqlite_pool.specs.Stored.{StandsAs, is_summed, reserved, stored_size}
use Rattle.sqlite_pool.proofs.ProbeLemmas.{reserved_word, size_by_file, size_by_log}
use Rattle.sqlite_store.specs.FileStore.{recovers}
use Rattle.sqlite_store.specs.Unopened.{state_of}
use Rattle.sqlite_wal.specs.PageSize.{IsPageSize}
use Rattle.sqlite_wal.specs.Recovery.{Image, IsIgnored}
use Rattle.archive_files.specs.Leaving.{IsTold, MayBeOf}
use Rattle.archive_files.specs.DatabaseOpening.{IsUnopenedOver}

-- a page ends in a sum of eight bytes, or in none
ends_in : (size : ℕ)
    → ((reserved size ≡ 8) × IsTrue (is_summed size)) ⊎ ((reserved size ≡ 0) × ¬ (IsTrue (is_summed size)))
ends_in size = elim (cases_eq (size % 16) 8) [
  | inl same ↦ inl (rw (eq-eqb (size % 16) 8 same) (refl, refl))
  | inr other ↦ inr (rw (ne_eqb (size % 16) 8 other) (refl, λ t. cc))
]

-- pages that are stored in one size, both with sums or both without, are of one size
same_size : (s p : ℕ) → stored_size s ≡ stored_size p → (IsTrue (is_summed p) → IsTrue (is_summed s))
    → (IsTrue (is_summed s) → IsTrue (is_summed p)) → s ≡ p
same_size s p stored back to = elim (ends_in s) [
  | inl sums ↦ elim (ends_in p) [
    | inl also ↦ omega (arith, stored, sums.0, also.0)
    | inr plain ↦ absurd (plain.1 (to sums.1))
  ]
  | inr plain ↦ elim (ends_in p) [
    | inl sums ↦ absurd (plain.1 (back sums.1))
    | inr also ↦ omega (arith, stored, plain.0, also.0)
  ]
]

-- the size that two files name is that of the database that they hold
module _ (image : Image) (t : Trees) (held : HoldsDatabase image t) where
  large : 504 ≤ held.0
  large = let few : reserved held.0 ≤ 8 = grind arith in omega (arith, held.1.0)

  same_stored : (size : ℕ) → NamesSize image size → ¬ (¬ (stored_size held.0 ≡ size))
  same_stored size names never =
      let read = λ (seen : ¬ IsIgnored image.log).
      never (sym (size_by_log held.0 image held.2.pages held.2.found seen) ∙ sym (names.0 seen)) in
      read (λ ignored.
      never (sym (size_by_file held.0 image held.2.pages held.2.found large held.2.ours.file.sound ignored)
      ∙ sym (names.1 ignored)))

  -- files whose first page says so have sums
  summed : SaysSums (stored_size held.0) image → IsTrue (is_summed held.0)
  summed says =
      let word = reserved_word held.0 image held.2.pages held.2.found large held.2.ours.file.sound in
      let sums = says held.2.found.stored word.0 held.2.found.found word.1 word.2 in
      let eight : reserved held.0 ≡ 8 = omega (arith, word.3, sums) in
      eq-eqb (reserved held.0) 8 eight

  sizes : (p : ℕ) → NamesSize image (stored_size p) → (IsTrue (is_summed p) → SaysSums (stored_size p) image)
      → (IsTrue (is_summed held.0) → IsTrue (is_summed p)) → held.0 ≡ p
  sizes p names says told = elim (cases_eq held.0 p) [
    | inl same ↦ same
    | inr other ↦ absurd (same_stored (stored_size p) names (λ stored.
        other (same_size held.0 p stored
        (λ sums. summed (subst (λ n. SaysSums n image) (sym stored) (says sums))) told)))
  ]

-- what stands for the same pages, at that size, holds the database
moved : (s p : ℕ) (image after : Image) (t : Trees) → s ≡ p → IsPageSize (stored_size s) → HoldsIn s image t
    → StandsAs p image after → HoldsDatabase after t
moved s p image after t same valid held stands =
    let at = subst (λ n. HoldsIn n image t) same held in (
      p,
      subst (λ n. IsPageSize (stored_size n)) same valid,
      record {
        pages = at.pages;
        wanted = at.wanted;
        schema = at.schema;
        found = stands.1 at.pages at.found;
        ours = at.ours;
        reads = at.reads;
        sound = at.sound;
      },
    )

pub stays_held : {D : Type 0} {g : disk.Ghosts D} (image after : Image) (rest : Leftover D g) (t : Trees)
    → IsUnopenedOver image rest → IsTold image rest → HoldsDatabase image t → MayBeOf rest after
    → ∥ HoldsDatabase after t ∥₁
stays_held image after (left.Files now) t over told held may =
    ∣ subst (λ i. HoldsDatabase i t) (sym (over.1.kept after (over.2 may.0 after may.1))) held ∣₁
stays_held image after (left.Unopened now) t over told held may = elim (over.2 may.0) [
  | inl none ↦ absurd (is_something image t held (subst IsNothing over.1.seen none.0))
  | inr some ↦
      let size = (state_of now).page_size in
      elim (some.4 after may.1).same [
        | inl old ↦ ∣ subst (λ i. HoldsDatabase i t) (sym (over.1.kept after old)) held ∣₁
        | inr stands ↦
            let names = subst (λ i. NamesSize i (stored_size size)) over.1.seen some.1 in
            let says = λ (sums : IsTrue (is_summed size)).
            subst (SaysSums (stored_size size)) over.1.seen (some.3 sums) in
            let same = sizes image t held size names says (told t held) in
            ∣ moved held.0 size image after t same held.1 held.2
            (subst (λ i. StandsAs size i after) over.1.seen stands) ∣₁
      ]
]
stays_held image after (left.Store now) t over told held may =
    let is : (found : Trees) → recovers now found → found ≡ t =
    λ found leaves. (over.2 may.0 found leaves).1 t (subst (λ i. HoldsDatabase i t) (sym over.1.seen) held) in
    ∥∥₁_map (opens_again now told
    (λ found leaves. (held.2.schema, subst (IsSound held.2.schema) (sym (is found leaves)) held.2.sound)) after may.1)
    (λ f. subst (HoldsDatabase after) (is f.0 f.1) f.2)
