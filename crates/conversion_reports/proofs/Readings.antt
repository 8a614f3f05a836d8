-- The lines of a file, one after the other.
use Rattle.std.proofs.Common.{
  ◌≡◌,
  ◌∙◌,
  ◌<◌,
  ◌++◌,
  ◌∷◌,
  ◌-◌,
  [],
  Bool,
  List,
  ap,
  append_assoc,
  append-nil,
  arith,
  drop,
  false,
  if◌then◌else◌,
  length,
  refl,
  suc,
  sym,
  take,
  true,
  zero,
  ℕ,
}
use Rattle.character_sets.specs.declared.set.CharacterSet.{CharacterSet}
use Rattle.file_conversion.specs.Conversion.{next_number}
use Rattle.character_sets.specs.Lines.{Line, lines}
use Rattle.character_sets.specs.Moves.{left_over, moved}
use Rattle.std.specs.List.{filter, flat_map}
use Rattle.character_sets.proofs.FirstLines.{none}
use Rattle.conversion_reports.specs.Lines.{LineRead, first_body, has_others, joins_at, lines_read, shown_number}
use Rattle.conversion_reports.specs.Report.{left_if, read_line, read_lines, read_text, text_if}

same : (set : CharacterSet) (a a' m m' : ℕ) (j j' : Bool) (u u' k k' : List ℕ) (ls ls' : List Line) → a ≡ a' → j ≡ j'
    → u ≡ u' → m ≡ m' → k ≡ k' → ls ≡ ls'
    → record { number = a; joins = j; units = u } ∷ lines_read set m k ls
    ≡ record { number = a'; joins = j'; units = u' } ∷ lines_read set m' k' ls'
same set a a' m m' j j' u u' k k' ls ls' ea ej eu em ek el = rw (ea, ej, eu, em, ek, el) refl

-- the first line of units, and those after it
pub first_read : (set : CharacterSet) (n shown number : ℕ) (joins : Bool)
    (us carry body ending units end next rest : List ℕ) (ls : List Line)
    → lines us ≡ record { body = body; ending = ending } ∷ ls
    → moved set carry (lines us) ≡ record { body = units; ending = end } ∷ moved set next (lines rest)
    → next ≡ left_over set carry (lines us) → lines rest ≡ drop 1 (lines us) → shown ≡ shown_number n
    → joins ≡ joins_at carry body → number ≡ next_number n body
    → lines_read set n carry (lines us)
    ≡ record { number = shown; joins = joins; units = units } ∷ lines_read set number next (lines rest)
first_read set n shown number joins us carry body ending units end next rest ls e m k r s j b =
    let l : Line = record { body = body; ending = ending } in
    ap (lines_read set n carry) e
    ∙ same set (shown_number n) shown (next_number n body) number (joins_at carry body) joins
    (first_body (moved set carry (l ∷ ls))) units (left_over set carry (l ∷ ls)) next ls (lines rest) (sym s) (sym j)
    (ap first_body (sym (ap (moved set carry) e) ∙ m)) (sym b) (ap (left_over set carry) (sym e) ∙ sym k)
    (sym (r ∙ ap (drop 1) e))

abbrev is_other : CharacterSet → LineRead → Bool
is_other set l = has_others set l.units

-- a line with other characters than ASCII is the first of those that are left to report
pub one_shown : (set : CharacterSet) (left : ℕ) (l : LineRead) (ls : List LineRead) → has_others set l.units ≡ true
    → 0 < left → read_lines set left (l ∷ ls) ≡ read_line set l ++ read_lines set (left - 1) ls
one_shown set zero l ls e h = absurd (omega (arith, h))
one_shown set (suc n) l ls e h =
    ap (λ (b : Bool). flat_map (read_line set) (take (suc n) (if b then l ∷ filter (is_other set) ls
    else filter (is_other set) ls))) e
    ∙ ap (λ (m : ℕ). read_line set l ++ read_lines set m ls) (omega arith)

pub none_shown : (set : CharacterSet) (left : ℕ) (l : LineRead) (ls : List LineRead) → has_others set l.units ≡ false
    → read_lines set left (l ∷ ls) ≡ read_lines set left ls
none_shown set left l ls e = ap (λ (b : Bool). flat_map (read_line set)
    (take left (if b then l ∷ filter (is_other set) ls else filter (is_other set) ls))) e

-- by whether the line is reported, after what is there
shown_by : (set : CharacterSet) (b : Bool) (left number : ℕ) (joins : Bool) (units old : List ℕ) (ls : List LineRead)
    → has_others set units ≡ b → 0 < left
    → (old ++ text_if b (read_text set number units)) ++ read_lines set (left_if b left) ls
    ≡ old ++ read_lines set left (record { number = number; joins = joins; units = units } ∷ ls)
shown_by set true left number joins units old ls e h =
    let l : LineRead = record { number = number; joins = joins; units = units } in
    append_assoc old (read_line set l) (read_lines set (left - 1) ls)
    ∙ ap (λ t. old ++ t) (sym (one_shown set left l ls e h))
shown_by set false left number joins units old ls e h =
    let l : LineRead = record { number = number; joins = joins; units = units } in
    ap (λ t. t ++ read_lines set left ls) (append-nil old)
    ∙ ap (λ t. old ++ t) (sym (none_shown set left l ls e))

pub shown_next : (set : CharacterSet) (left after number : ℕ) (joins : Bool) (units old new all : List ℕ)
    (read ls : List LineRead) → 0 < left → read ≡ record { number = number; joins = joins; units = units } ∷ ls
    → after ≡ left_if (has_others set units) left
    → new ≡ old ++ text_if (has_others set units) (read_text set number units)
    → old ++ read_lines set left read ≡ all → new ++ read_lines set after ls ≡ all
shown_next set left after number joins units old new all read ls h r a n e =
    ap (λ t. t ++ read_lines set after ls) n
    ∙ (ap (λ m. (old ++ text_if (has_others set units) (read_text set number units)) ++ read_lines set m ls) a
    ∙ (shown_by set (has_others set units) left number joins units old ls refl h
    ∙ (ap (λ x. old ++ read_lines set left x) (sym r) ∙ e)))

nothing : (set : CharacterSet) (left : ℕ) → read_lines set left [] ≡ []
nothing set zero = refl
nothing set (suc n) = refl

nothing_left : (set : CharacterSet) (ls : List LineRead) → read_lines set 0 ls ≡ []
nothing_left set ls = refl

-- no line is left, or none to report
pub all_shown : (set : CharacterSet) (left n : ℕ) (carry us out all : List ℕ) → length us < 1
    → out ++ read_lines set left (lines_read set n carry (lines us)) ≡ all → out ≡ all
all_shown set left n carry us out all h e = sym (append-nil out)
    ∙ (ap (λ t. out ++ t) (sym (nothing set left))
    ∙ (ap (λ ls. out ++ read_lines set left (lines_read set n carry ls)) (sym (none us h)) ∙ e))

pub enough_shown : (set : CharacterSet) (left : ℕ) (ls : List LineRead) (out all : List ℕ) → left ≡ 0
    → out ++ read_lines set left ls ≡ all → out ≡ all
enough_shown set left ls out all z e = sym (append-nil out)
    ∙ (ap (λ t. out ++ t) (sym (nothing_left set ls)) ∙ (ap (λ m. out ++ read_lines set m ls) (sym z) ∙ e))
