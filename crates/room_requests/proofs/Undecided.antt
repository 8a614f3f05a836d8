-- Bytes that decide nothing yet.
use Rattle.std.proofs.Common.{
  ◌≡◌,
  ◌≤◌,
  ◌<◌,
  ◌+◌,
  ◌-◌,
  ℕ,
  List,
  [],
  ◌∷◌,
  ◌++◌,
  length,
  take,
  sym,
  ap,
  ◌∙◌,
  arith,
  inl,
  refl,
}
use Rattle.std.proofs.lemmas.List.Elements.{All-nil}
use Rattle.std.proofs.lemmas.List.Sums.{AllPass-from_list_all}
use Rattle.std.proofs.lemmas.List.{append-nil, length-append, length-take-le, take-append-le, take-take}
use Rattle.httparse.specs.Grammar.{
  HasNoRequest,
  IsField,
  IsRequestHead,
  RequestHead,
  is_token_byte,
  is_uri_byte,
  print_request,
}
use Rattle.httparse.specs.Grammar.LineEnd.{lf}
use Rattle.room_requests.specs.Reading.{IsUndecided, before_last}
use borrow.Rule.Slice.PartMut.{put_mid, post_of}

-- a head is longer than one byte
pub longer : (h : RequestHead) → 1 < length (print_request h)
unfolding print_request
longer h = grind (arith, length-append)

-- ---- no byte decides nothing
pub empty_has_no_head : HasNoRequest []
empty_has_no_head h rest reads =
    let size = ap length reads.1 in
    omega (arith, longer h, size, length-append (print_request h) rest)

-- a head of one letter, that asks for the root
abbrev a_head : RequestHead
a_head = record { blank = []; method = 65 ∷ []; target = 47 ∷ []; minor = 1; line_end = lf; fields = []; last = lf }

a_head_is_one : IsRequestHead a_head
unfolding is_token_byte lib.Utf8.encode
a_head_is_one = record {
  method = (omega arith, AllPass-from_list_all is_token_byte (65 ∷ []) refl);
  target = (omega arith, AllPass-from_list_all is_uri_byte (47 ∷ []) refl);
  target_text = (47 ∷ [], (refl, refl));
  minor = omega arith;
  fields = All-nil IsField;
}

pub empty_is_undecided : IsUndecided []
empty_is_undecided =
    (empty_has_no_head, inl (print_request a_head, a_head, (a_head_is_one, sym (append-nil (print_request a_head)))))

-- ---- a buffer that is filled from the front
-- what stood before a place stays there
pub kept_before : (i a k : ℕ) (xs ys : List ℕ) → i ≤ a → a ≤ length xs → take i (put_mid a k xs ys) ≡ take i xs
kept_before i a k xs ys h g =
    take-append-le i (take a xs) (ys ++ post_of a k xs) (omega (arith, h, length-take-le a xs g)) ∙ take-take i a xs h

-- the bytes in front without their last one
pub all_but_last : (n : ℕ) (xs : List ℕ) → n ≤ length xs → before_last (take n xs) ≡ take (n - 1) xs
all_but_last n xs h =
    ap (λ m. take (m - 1) (take n xs)) (length-take-le n xs h) ∙ take-take (n - 1) n xs (omega arith)

-- so the bytes in front stay undecided, whatever is put after a place
pub undecided_front : (m i a k : ℕ) (xs ys : List ℕ) → m ≡ i → i ≤ a → a ≤ length xs → IsUndecided (take i xs)
    → IsUndecided (take m (put_mid a k xs ys))
undecided_front m i a k xs ys is h g found = rw (is, kept_before i a k xs ys h g) found

-- and so do those in front but their last one
pub undecided_before : (n i a k : ℕ) (xs ys : List ℕ) → n ≤ a + length ys → n - 1 ≡ i → i ≤ a → a ≤ length xs
    → IsUndecided (take i xs) → IsUndecided (before_last (take n (put_mid a k xs ys)))
undecided_before n i a k xs ys fits is h g found =
    let size = length-append (take a xs) (ys ++ post_of a k xs) in
    let fit : n ≤ length (put_mid a k xs ys) =
    omega (arith, fits, size, length-take-le a xs g, length-append ys (post_of a k xs)) in
    rw (all_but_last n (put_mid a k xs ys) fit) (undecided_front (n - 1) i a k xs ys is h g found)
