-- Worked examples of escapes. The elements are found by hand from the definition; the written forms are what the
-- standard's rule and docs/FORMATS.md give.
use Rattle.std.proofs.Common.{◌≡◌, [], ◌∷◌, refl, arith}
use Rattle.std.specs.Prelude.{codes}
use Rattle.gedcom_line.specs.Escape.{Escape, Byte, Elements, escaped}
use Rattle.gedcom_line.proofs.Elements.{no_at_of, none_but_at, none_begins}

-- the characters @#A@ @#B@ and a space are two escapes
two_escapes : Elements (codes "@#A@ @#B@ ") (Escape (codes "A") ∷ Escape (codes "B") ∷ [])
two_escapes = (
  codes "@#B@ ",
  (
    record { spelled = refl; some = omega arith; plain = no_at_of (codes "A") refl },
    ([], (record { spelled = refl; some = omega arith; plain = no_at_of (codes "B") refl }, refl)),
  ),
)

-- the @ that might end an escape begins one, since no space stands after it
one_escape : Elements (codes "@#A@#B@ ") (Byte 64 ∷ Byte 35 ∷ Byte 65 ∷ Escape (codes "B") ∷ [])
one_escape = (
  none_begins (codes "#A@#B@ ") refl,
  (
    codes "#A@#B@ ",
    (
      refl,
      (
        none_but_at 35 (codes "A@#B@ ") refl,
        (
          codes "A@#B@ ",
          (
            refl,
            (
              none_but_at 65 (codes "@#B@ ") refl,
              (
                codes "@#B@ ",
                (
                  refl,
                  ([], (record { spelled = refl; some = omega arith; plain = no_at_of (codes "B") refl }, refl)),
                ),
              ),
            ),
          ),
        ),
      ),
    ),
  ),
)

two_escapes_written : escaped (codes "@#A@ @#B@ ") ≡ codes "@#A@ @#B@ "
two_escapes_written = refl

one_escape_written : escaped (codes "@#A@#B@ ") ≡ codes "@@#A@#B@ "
one_escape_written = refl

no_character : escaped (codes "@#@ a") ≡ codes "@@#@@ a"
no_character = refl

no_space : escaped (codes "@#D@") ≡ codes "@@#D@@"
no_space = refl

an_at_before : escaped (codes "@@#D@ ") ≡ codes "@@@#D@ "
an_at_before = refl

an_at_behind : escaped (codes "@#D@ @") ≡ codes "@#D@ @@"
an_at_behind = refl
