-- The bytes of a sheet as lines: without a byte order mark before them, and with LF for each CR LF and each CR.
use Rattle.std.specs.Prelude.{ℕ, ◌==◌, ◌&&◌, Bool, true, false, List, [], ◌∷◌, if◌then◌else◌}

abbrev pub without_mark : List ℕ → List ℕ
without_mark (a ∷ b ∷ c ∷ more) = if a == 0xEF && b == 0xBB && c == 0xBF then more else a ∷ b ∷ c ∷ more
without_mark bytes = bytes

-- what follows a CR, or does not
abbrev pub line_feeds : Bool → List ℕ → List ℕ
line_feeds after_cr [] = []
line_feeds after_cr (b ∷ more) =
    if b == 13 then 10 ∷ line_feeds true more
    else if b == 10 && after_cr then line_feeds false more
    else b ∷ line_feeds false more
