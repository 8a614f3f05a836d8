-- Records that are put where there is room for them are put as they would be without.
use Rattle.std.proofs.Common.{
  ◌≡◌,
  ℕ,
  ◌+◌,
  ◌<◌,
  List,
  [],
  ◌∷◌,
  ◌++◌,
  true,
  false,
  refl,
  sym,
  ap,
  ◌∙◌,
  inl,
  inr,
  length,
  take,
  get_or,
}
use Rattle.std.proofs.lemmas.List.{take_more}
use Rattle.std.specs.Prelude.{◌≢◌, Option, Some, None, is_some, if◌then◌else◌}
use Rattle.std.specs.FinMap.{get, insert, remove, same_map, nat_cmp-IsAntisymmetric}
use Rattle.std.specs.Cmp.{nat_cmp_total}
use Rattle.record_kinds.specs.declared.record.Record.{Record}
use Rattle.archive_state.specs.Content.{Records}
use Rattle.record_shapes.specs.Lists.{EachOf}
use Rattle.archive_state.specs.declared.changes.Numbered.{Numbered}
use Rattle.archive_state.specs.Applied.{with_puts, without}
use Rattle.archive_core.specs.Room.{blank, with_blank, with_room}
use Rattle.archive_state.proofs.Putting.{put_cases, put_here, put_elsewhere}
use Rattle.archive_core.proofs.Undo.{taken_out}
use Rattle.record_shapes.proofs.Each.{each_more}

-- a record is there
abbrev pub IsThere : Records → ℕ → Type 0
IsThere m n = get m n ≢ None

abbrev pub IsThereFor : Records → Numbered → Type 0
IsThereFor m p = IsThere m p.number

-- the number is none of those that are put
abbrev IsApart : ℕ → List Numbered → Type 0
IsApart n puts = EachOf (λ (p : Numbered). n ≢ p.number) puts

-- ---- blank records
blank_elsewhere : (m : Records) (n q : ℕ) → q ≢ n → get (with_blank m n) q ≡ get m q
blank_elsewhere m n q other = elim (is_some (get m n)) as (λ b. get (if b then m else insert m n blank) q ≡ get m q) [
  | true ↦ refl
  | false ↦ put_elsewhere m n blank q other
]

put_stays : (m : Records) (n : ℕ) (r : Record) (q : ℕ) → IsThere m q → IsThere (insert m n r) q
put_stays m n r q there none = elim (put_cases m n r q None none) as (λ _. ⊥) [
  | inl h ↦ let both : Some r ≡ None = h.1 in absurd cc
  | inr h ↦ there h.1
]

blank_stays : (m : Records) (n q : ℕ) → IsThere m q → IsThere (with_blank m n) q
blank_stays m n q there = elim (is_some (get m n)) as (λ b. IsThere (if b then m else insert m n blank) q) [
  | true ↦ there
  | false ↦ put_stays m n blank q there
]

is_there : (o : Option Record) → is_some o ≡ true → o ≢ None
is_there None e none = absurd cc
is_there (Some r) e none = absurd cc

blank_there : (m : Records) (n : ℕ) → IsThere (with_blank m n) n
blank_there m n = elim (is_some (get m n)) as (λ b. is_some (get m n) ≡ b
    → IsThere (if b then m else insert m n blank) n) [
      | true ↦ λ e. is_there (get m n) e
      | false ↦ λ e none. let both : Some blank ≡ None = sym (put_here m n blank) ∙ none in absurd cc
    ] refl

-- ---- room
room_elsewhere : (puts : List Numbered) (m : Records) (q : ℕ) → IsApart q puts → get (with_room m puts) q ≡ get m q
room_elsewhere [] m q apart = refl
room_elsewhere (p ∷ puts) m q apart = room_elsewhere puts (with_blank m p.number) q apart.1
    ∙ blank_elsewhere m p.number q apart.0

room_stays : (puts : List Numbered) (m : Records) (q : ℕ) → IsThere m q → IsThere (with_room m puts) q
room_stays [] m q there = there
room_stays (p ∷ puts) m q there = room_stays puts (with_blank m p.number) q (blank_stays m p.number q there)

-- there is room for each
pub room_there : (m : Records) (puts : List Numbered) → EachOf (IsThereFor (with_room m puts)) puts
room_there m [] = tt
room_there m (p ∷ puts) = (
  room_stays puts (with_blank m p.number) p.number (blank_there m p.number),
  room_there (with_blank m p.number) puts,
)

-- two maps that differ only at the numbers that are put
put_alike : (puts : List Numbered) (m other : Records) → ((q : ℕ) → IsApart q puts → get other q ≡ get m q)
    → with_puts other puts ≡ with_puts m puts
put_alike [] m other alike = same_map nat_cmp_total nat_cmp-IsAntisymmetric _ _ (λ q. alike q tt)
put_alike (p ∷ puts) m other alike = put_alike puts (insert m p.number p.«record»)
    (insert other p.number p.«record») (λ q apart.
    elim (put_cases m p.number p.«record» q (get (insert m p.number p.«record») q) refl) as (λ _. get
    (insert other p.number p.«record») q ≡ get (insert m p.number p.«record») q) [
      | inl h ↦ ap (get (insert other p.number p.«record»)) h.0 ∙ put_here other p.number p.«record» ∙ h.1
      | inr h ↦ put_elsewhere other p.number p.«record» q h.0 ∙ alike q (h.0, apart) ∙ h.1
    ])

-- what is put where there is room is put as it would be without
pub put_in_room : (m : Records) (puts : List Numbered) → with_puts (with_room m puts) puts ≡ with_puts m puts
put_in_room m puts = put_alike puts m (with_room m puts) (room_elsewhere puts m)

-- one more
with_room-push : (m : Records) (puts : List Numbered) (p : Numbered) → with_room m (puts ++ (p ∷ []))
    ≡ with_blank (with_room m puts) p.number
with_room-push m [] p = refl
with_room-push m (x ∷ puts) p = with_room-push (with_blank m x.number) puts p

pub room_for_one_more : (m : Records) (puts : List Numbered) (i : ℕ) (p : Numbered) → i < length puts
    → p ≡ get_or puts i p → with_room m (take (i + 1) puts) ≡ with_blank (with_room m (take i puts)) p.number
room_for_one_more m puts i p h e = ap (with_room m) (take_more puts i p h ∙ ap (λ v. take i puts ++ v ∷ []) (sym e))
    ∙ with_room-push m (take i puts) p

-- ---- what is there stays
pub each_stays : (m : Records) (n : ℕ) (r : Record) (puts : List Numbered) → EachOf (IsThereFor m) puts
    → EachOf (IsThereFor (insert m n r)) puts
each_stays m n r puts = each_more (IsThereFor m) (IsThereFor (insert m n r)) (λ p. put_stays m n r p.number) puts

-- ---- a blank record is removed again
is_none : (o : Option Record) → is_some o ≡ false → o ≡ None
is_none None e = refl
is_none (Some r) e = absurd cc

pub blank_back : (m : Records) (n : ℕ) (ns : List ℕ) → is_some (get m n) ≡ false
    → without (insert m n blank) (n ∷ ns) ≡ without m ns
blank_back m n ns e = ap (λ x. without x ns) (taken_out m n blank (is_none (get m n) e))

pub blank_gone : (m : Records) (n : ℕ) → is_some (get m n) ≡ false → remove (insert m n blank) n ≡ m
blank_gone m n e = taken_out m n blank (is_none (get m n) e)
