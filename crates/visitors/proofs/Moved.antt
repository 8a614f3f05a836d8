-- What a writer has got, and what a reader has given, after one call more.
use Rattle.std.proofs.Common.{◌≡◌, ◌≤◌, ◌+◌, ◌∙◌, ℕ, List, ◌++◌, Option, Some, None, length, take, drop, sym, ap}
use Rattle.std.proofs.KnownBytes.{Appends-trans, Consumes-trans}
use Rattle.std.proofs.Math.Seq.{take-add}
use Rattle.std.specs.Io.KnownBytes.{Appends, Consumes, Keeps}
use Rattle.devices.specs.Devices.{AppendsBeginning}

pub got_more : (a b c : Option (List ℕ)) (answer rest : List ℕ) (written n : ℕ) → Appends a b (take written answer)
    → rest ≡ drop written answer → Appends b c (take n rest) → Appends a c (take (written + n) answer)
got_more a b c answer rest written n got is more =
    rw (take-add) (Appends-trans a b c (take written answer) (take n (drop written answer)) got (rw (← is) more))

pub got_none : (a b c : Option (List ℕ)) (bytes : List ℕ) → Appends a b bytes → Keeps b c → Appends a c bytes
got_none None b c bytes got kept = tt
got_none (Some x) None c bytes got kept = absurd got
got_none (Some x) (Some y) None bytes got kept = absurd kept
got_none (Some x) (Some y) (Some z) bytes got kept = kept ∙ got

pub gave_more : (a b c : Option (List ℕ)) (came piece all : List ℕ) → Consumes a b came → Consumes b c piece
    → all ≡ came ++ piece → Consumes a c all
gave_more a b c came piece all given more is = rw (is) (Consumes-trans a b c came piece given more)

pub gave_none : (a b c : Option (List ℕ)) (bytes : List ℕ) → Consumes a b bytes → Keeps b c → Consumes a c bytes
gave_none None b c bytes got kept = tt
gave_none (Some x) None c bytes got kept = absurd got
gave_none (Some x) (Some y) None bytes got kept = absurd kept
gave_none (Some x) (Some y) (Some z) bytes got kept = got ∙ ap (λ l. bytes ++ l) (sym kept)

pub lost_beginning : (a b c : Option (List ℕ)) (answer : List ℕ) (written : ℕ) → written ≤ length answer
    → Appends a b (take written answer) → Keeps b c → AppendsBeginning a c answer
lost_beginning a b c answer written within got kept =
    (written, within, got_none a b c (take written answer) got kept)
