-- Words that are taken name a command of the program.
use Rattle.std.proofs.Common.{
  ◌≡◌,
  Bool,
  true,
  false,
  ◌&&◌,
  not,
  cond,
  List,
  [],
  ◌∷◌,
  Option,
  Some,
  None,
  option_map,
  is_some,
  refl,
}
use Rattle.std.specs.List.{list_all}
use Rattle.std.specs.Option.{option_map_or}
use Rattle.std.specs.Prelude.{Box, find}
use Rattle.std.specs.Box.{box_value}
use Rattle.clap.specs.Words.{subcommand_name_of}
use Rattle.clap.specs.Faults.{
  built_fault,
  check_fault,
  defaults_fault,
  entered_fault,
  fault_of,
  level_fault,
  settle_fault,
  walk_fault,
}
use Rattle.clap.specs.Kinds.{Kinds, check_kinds, or_else}
use Rattle.clap.specs.Walk.{Held, Names, Text, answers_to, finished, nothing_held, settled, walk, walk_from}
use Rattle.clap.specs.Simple.{
  App,
  Shape,
  argument_words,
  built,
  entered,
  label_of,
  names_of,
  rows_at,
  subcommand_of,
  subcommand_rows,
  subcommand_rows_of,
}
use Rattle.clap.specs.declared.parser.matches.ArgMatches.{ArgMatches}
use Rattle.clap.specs.declared.parser.matches.ArgMatches.TheViews.{out-ArgMatches, out-SubCommand}
use Rattle.clap.specs.declared.parser.matches.SubCommand.{SubCommand}
use Rattle.clap.proofs.WalkLemmas.{both}
use Rattle.command_line.specs.Asking.{is_of_program}
use Rattle.command_line.specs.Commands.{program}

neither : (a b : Kinds) → or_else a b ≡ [] → (a ≡ []) × (b ≡ [])
neither [] b h = (refl, h)
neither (k ∷ ks) b h = absurd cc

none_wanted : (a b c : Bool) → check_kinds a b c ≡ [] → b ≡ false
none_wanted true b c h = absurd cc
none_wanted false true c h = absurd cc
none_wanted false false c h = refl

there : (has required : Bool) → required ≡ true → (not has && required) ≡ false → has ≡ true
there true required r h = refl
there false required r h = absurd cc

-- where a command wants a subcommand, words without a fault have one
level_has : (s : Shape) (names : Names) (held : Held) (words : List Text) (has : Bool) (below : Kinds)
    → s.subcommand_required ≡ true → level_fault s names held words has below ≡ [] → has ≡ true
level_has s names held words has below r h =
    let end = (walk s.rules names held words).held in
    let rows = finished s.rules end in
    let check = check_fault s rows has in
    let defaults = defaults_fault (settled s.rules end).rows s.rules in
    let settle = settle_fault s.rules s.args_override_self end in
    let behind = (neither (walk_fault s names (walk_from held) words)
    (or_else below (or_else settle (or_else defaults check))) h).1 in
    let last = (neither settle (or_else defaults check)
    (neither below (or_else settle (or_else defaults check)) behind).1).1 in
    there has s.subcommand_required r
    (none_wanted _ (not has && s.subcommand_required) _ (neither defaults check last).1)

built_has : (a : App) (held : Held) (words : List Text) → a.top.subcommand_required ≡ true
    → built_fault a held words ≡ [] → is_some (entered a (walk a.top.rules (names_of a) held words).stopped) ≡ true
built_has a held words r h =
    let stop = (walk a.top.rules (names_of a) held words).stopped in
    level_has a.top (names_of a) held words (is_some (entered a stop)) (entered_fault a stop) r h

-- what is found in a list has what all of the list have
first_has : {A : Type 0} (p : A → Bool) (b : Bool) (x : A) (rest : Option A) → p x ≡ true
    → (is_some rest ≡ true → option_map_or p rest false ≡ true) → is_some (cond b (Some x) rest) ≡ true
    → option_map_or p (cond b (Some x) rest) false ≡ true
first_has p true x rest has others h = has
first_has p false x rest has others h = others h

found_has : {A : Type 0} (p q : A → Bool) (xs : List A) → list_all p xs ≡ true → is_some (find q xs) ≡ true
    → option_map_or p (find q xs) false ≡ true
found_has p q [] all h = absurd cc
found_has p q (x ∷ xs) all h =
    let has = both (p x) (list_all p xs) all in
    first_has p (q x) x (find q xs) has.0 (found_has p q xs has.1) h

-- the shape is that of a command of the program
abbrev is_known : Shape → Bool
is_known s = is_of_program (Some (s.name, []))

rows_known : (o : Option Shape) (words : List Text) → (is_some o ≡ true → option_map_or is_known o false ≡ true)
    → is_some (option_map (λ (s : Shape). rows_at s words) o) ≡ true
    → is_of_program (option_map (λ (s : Shape). rows_at s words) o) ≡ true
rows_known None words known h = absurd cc
rows_known (Some s) words known h = known refl

all_known : list_all is_known (built program).subs ≡ true
all_known = refl

entered_known : (stop : Option (Text × List Text)) → is_some (entered (built program) stop) ≡ true
    → is_of_program (entered (built program) stop) ≡ true
entered_known None h = absurd cc
entered_known (Some p) h =
    rows_known (find (λ s. answers_to p.0 (label_of s)) (built program).subs) p.1
    (found_has is_known (λ s. answers_to p.0 (label_of s)) (built program).subs all_known) h

-- words in which the grammar has no fault to find name a command of the program
pub taken_names : (words : List Text) → fault_of program words ≡ [] → is_of_program (subcommand_of program words) ≡ true
taken_names words h =
    let a = built program in
    let ws = argument_words program words in
    entered_known (walk a.top.rules (names_of a) nothing_held ws).stopped (built_has a nothing_held ws refl h)

-- the name of the subcommand that was found is that of its rows
same_name : {Z : Type 0} (o : Option (Box SubCommand Z)) → option_map (λ b. (out-SubCommand (box_value b)).name.now) o
    ≡ option_map (λ p. p.0) (subcommand_rows o)
same_name None = refl
same_name (Some b) = refl

pub name_of_rows : (m : ArgMatches) → subcommand_name_of m ≡ option_map (λ p. p.0) (subcommand_rows_of m)
name_of_rows m = same_name (out-ArgMatches m).subcommand
