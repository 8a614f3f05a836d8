-- Only the bytes decide what they begin with.
use Rattle.std.proofs.Common.{
  ◌≡◌,
  ◌≤◌,
  ◌<◌,
  ℕ,
  List,
  [],
  ◌∷◌,
  length,
  take,
  drop,
  sym,
  ap,
  ◌∙◌,
  arith,
  inl,
  inr,
  refl,
  ◌⊎◌,
}
use Rattle.std.proofs.lemmas.List.{length-append, length-take-le, take-append-drop}
use Rattle.httparse.proofs.GrammarLemmas.{request_unique}
use Rattle.httparse.specs.Grammar.{RequestHead, print_request}
use Rattle.room_requests.specs.Heads.{Begins, BeginsWith, HasManyLines, IsLong, IsRefused, head_limit, head_of}
use Rattle.room_requests.specs.Parts.{Head}
use Rattle.room_requests.specs.declared.head.HeadRead.{HeadRead}
use Rattle.room_requests.specs.declared.head.HeadRead.TheVariants as read
use Rattle.room_requests.proofs.HeadDecided.{front_begins}
use Rattle.room_requests.proofs.Undecided.{empty_has_no_head, longer}

empty_has_none : (h : RequestHead) → ¬ (BeginsWith [] h)
empty_has_none h begins = empty_has_no_head h begins.rest begins.reads

empty_has_few : ¬ (HasManyLines [])
empty_has_few many =
    let (front, rest, none, h, reads, lines) = many.exceeds in
    let size = ap length none in
    let other = ap length reads.1 in
    let one = length-append front (10 ∷ []) in
    let whole = length-append (print_request h) [] in
    omega (arith, longer h, size, other, length-append front rest, one, whole)

long_has_none : (input : List ℕ) → IsLong input → (h : RequestHead) → ¬ (BeginsWith input h)
long_has_none input long h begins =
    let z = front_begins (take head_limit input) (drop head_limit input) (print_request h) begins.rest
    (take-append-drop head_limit input ∙ begins.reads.1)
    (omega (arith, begins.size, long.size, length-take-le head_limit input long.size)) in
    long.none h z.0 (begins.reads.0, z.1)

too_large_has_none : (input : List ℕ) → HasManyLines input ⊎ IsLong input → (h : RequestHead) → ¬ (BeginsWith input h)
too_large_has_none input (inl many) h begins =
    let more : 64 < length h.fields = many.all h begins.rest begins.reads in absurd (omega (arith, begins.lines))
too_large_has_none input (inr long) h begins = long_has_none input long h begins

empty_is_short : ¬ (HasManyLines [] ⊎ IsLong [])
empty_is_short (inl many) = empty_has_few many
empty_is_short (inr long) = let size : 8192 ≤ 0 = long.size in omega arith

abbrev Alike : HeadRead → HeadRead → Type 0
Alike a b = (a ≡ b) ⊎ (IsRefused a × IsRefused b)

turned : (a b : HeadRead) → Alike a b → Alike b a
turned a b (inl same) = inl (sym same)
turned a b (inr both) = inr (both.1, both.0)

empty_begins : (b : HeadRead) → Begins [] b → b ≡ read.Nothing
empty_begins read.Nothing x = refl
empty_begins read.Malformed x = let some : 0 < 0 = x.0 in absurd (omega arith)
empty_begins read.TooLarge x = absurd (empty_is_short x)
empty_begins (read.Whole k) x = absurd (empty_has_none x.0 x.1)

nothing_decides : (input : List ℕ) (b : HeadRead) → input ≡ [] → Begins input b → Alike read.Nothing b
nothing_decides input b none x = inl (sym (empty_begins b (rw none at x)))

head_decides : (input : List ℕ) (head : Head) (b : HeadRead) → Begins input (read.Whole head) → Begins input b
    → Alike (read.Whole head) b
head_decides input head read.Nothing x y = turned _ _ (nothing_decides input (read.Whole head) y x)
head_decides input head read.Malformed x y = absurd (y.1 x.0 x.1.rest x.1.reads)
head_decides input head read.TooLarge x y = absurd (too_large_has_none input y x.0 x.1)
head_decides input head (read.Whole other) x y =
    let one = request_unique input x.0 y.0 x.1.rest y.1.rest x.1.reads y.1.reads in
    inl (ap read.Whole (x.2 ∙ ap head_of one.0 ∙ sym y.2))

pub decide : (input : List ℕ) (a b : HeadRead) → Begins input a → Begins input b → Alike a b
decide input read.Nothing b x y = nothing_decides input b x y
decide input (read.Whole head) b x y = head_decides input head b x y
decide input a read.Nothing x y = turned _ _ (nothing_decides input a y x)
decide input a (read.Whole head) x y = turned _ _ (head_decides input head a y x)
decide input read.Malformed read.Malformed x y = inl refl
decide input read.Malformed read.TooLarge x y = inr (inl refl, inr refl)
decide input read.TooLarge read.Malformed x y = inr (inr refl, inl refl)
decide input read.TooLarge read.TooLarge x y = inl refl
