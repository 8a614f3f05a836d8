-- A buffer that is filled from the front.
use Rattle.std.proofs.Common.{◌≡◌, ◌≤◌, ◌+◌, ℕ, List, ◌++◌, length, take, Option, sym, ap, ◌∙◌}
use Rattle.std.proofs.lemmas.List.{length-take-le, take-append-le}
use Rattle.std.proofs.Math.Seq.{take-append-add}
use Rattle.std.proofs.KnownBytes.{Consumes-trans}
use Rattle.std.specs.Io.KnownBytes.{Consumes}
use borrow.Rule.Slice.PartMut.{put_mid, post_of}

-- what stood before a place, and n of what was put there
take_filled : (a k n : ℕ) (xs ys : List ℕ) → a ≤ length xs → n ≤ length ys
    → take (a + n) (put_mid a k xs ys) ≡ take a xs ++ take n ys
take_filled a k n xs ys h g =
    ap (λ m. take (m + n) (put_mid a k xs ys)) (sym (length-take-le a xs h))
    ∙ take-append-add (take a xs) (ys ++ post_of a k xs) n
    ∙ ap (λ zs. take a xs ++ zs) (take-append-le n ys (post_of a k xs) g)

-- n more bytes of an input, put after those that were taken before
pub taken_filled : (old mid new : Option (List ℕ)) (a k n : ℕ) (xs ys : List ℕ) → a ≤ length xs → n ≤ length ys
    → Consumes old mid (take a xs) → Consumes mid new (take n ys)
    → Consumes old new (take (a + n) (put_mid a k xs ys))
taken_filled old mid new a k n xs ys h g x y =
    rw (take_filled a k n xs ys h g) (Consumes-trans old mid new (take a xs) (take n ys) x y)
