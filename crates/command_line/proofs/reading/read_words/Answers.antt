use Rattle.std.proofs.Common.{
  ◌≡◌,
  ◌⊎◌,
  ◌∙◌,
  [],
  inl,
  inr,
  ap,
  refl,
  subst,
  sym,
  true,
  true≢false,
  option_map,
  map,
  string_bytes,
}
use Rattle.std.specs.Prelude.{List, Option, Some, None, Result, Ok, Err, IfSome, IfOk, IsSome, OnOk}
use Rattle.clap.specs.Words.{
  App,
  Row,
  Text,
  fault_of,
  is_simple,
  is_simple_and_free,
  subcommand_name_of,
  subcommand_of,
  subcommand_rows_of,
}
use Rattle.clap.specs.Kinds.{HasKind, IsAmong, Kinds}
use Rattle.clap.specs.declared.error.kind.ErrorKind.{ErrorKind}
use Rattle.clap.specs.declared.error.kind.ErrorKind.TheVariants as kind
use Rattle.command_line.specs.Asking.{AsksForHelp, HasWords, command_named, is_fit, is_of_program, name_of}
use Rattle.command_line.specs.Commands.{program}
use Rattle.command_line.specs.declared.tasks.Asked.{Asked}
use Rattle.command_line.specs.declared.tasks.Refused.{Refused}
use Rattle.command_line.proofs.Fitting.{asks_if}
use Rattle.command_line.proofs.Taken.{taken_names, name_of_rows}
use Rattle.command_line.proofs.reading.read_words.Goals as goal

-- where no kind may come, out of memory
wanting : (k : ErrorKind) (kinds : Kinds) → kinds ≡ [] → (k ≡ kind.OutOfMemory) ⊎ IsAmong k kinds → k ≡ kind.OutOfMemory
wanting k kinds none (inl h) = h
wanting k kinds none (inr h) = absurd (subst (IsAmong k) none h)

pub returns-in-Ok-clause-asked : goal.returns-in-Ok-clause-asked
returns-in-Ok-clause-asked c =
    let words = map string_bytes c.args.words.now in
    let is = c.in_ok-command.ensures in
    let none : fault_of program words ≡ [] = sym (ap (λ (a : App). fault_of a words) is) ∙ c.in-Ok.ensures.kinds
    (ap is_simple_and_free is) in
    let rows : subcommand_rows_of c.in-Ok.found ≡ subcommand_of program
    words = (c.in-Ok.ensures.matches (ap is_simple is)).1 ∙ ap (λ (a : App). subcommand_of a words) is in
    let name : subcommand_name_of c.in-Ok.found ≡ command_named words = name_of_rows c.in-Ok.found
    ∙ ap (option_map (λ p. p.0)) rows in
    asks_if c.command_found.result words none
    (subst (λ (o : Option Text). IfOk c.command_found.result (λ a. IfSome (name_of a) (λ n. o ≡ Some n))) name
    c.command_found.ensures.asked)
    (subst (λ (found : Option (Text × List Row)). IfOk c.command_found.result (HasWords found)) rows
    c.command_found.ensures.words)

pub returns-in-Ok-clause-taken : goal.returns-in-Ok-clause-taken
returns-in-Ok-clause-taken c = λ taken.
    let words = map string_bytes c.args.words.now in
    let is = c.in_ok-command.ensures in
    let rows : subcommand_rows_of c.in-Ok.found ≡ subcommand_of program
    words = (c.in-Ok.ensures.matches (ap is_simple is)).1 ∙ ap (λ (a : App). subcommand_of a words) is in
    c.command_found.ensures.taken
    (subst (λ (found : Option (Text × List Row)). is_of_program found ≡ true) (sym rows) (taken_names words taken.0))
    (subst (λ (found : Option (Text × List Row)). is_fit found ≡ true) (sym rows) taken.1)

pub returns-in-Err-clause-taken : goal.returns-in-Err-clause-taken
returns-in-Err-clause-taken c = λ taken.
    let words = map string_bytes c.args.words.now in
    let is = c.in_ok-command.ensures in
    let fails = c.in-Err.ensures.kinds (ap is_simple_and_free is) in
    let none = ap (λ (a : App). fault_of a words) is ∙ taken.0 in
    rw (c.text_shown.ensures.memory (wanting _ _ none fails)) refl

-- help and the version are asked for by words of which the grammar says so
shown_by : (k : ErrorKind) (words : List Text) → (k ≡ kind.OutOfMemory) ⊎ IsAmong k (fault_of program words)
    → (k ≡ kind.DisplayHelp) ⊎ (k ≡ kind.DisplayVersion) → AsksForHelp words
shown_by k words (inl want) (inl help) = absurd cc
shown_by k words (inl want) (inr version) = absurd cc
shown_by k words (inr among) (inl help) = inl (subst (λ x. IsAmong x (fault_of program words)) help among)
shown_by k words (inr among) (inr version) = inr (subst (λ x. IsAmong x (fault_of program words)) version among)

none_named : (o : Result Asked Refused) → IfOk o (λ a. IsSome (name_of a)) → (P : Type 0)
    → IfOk o (λ a. name_of a ≡ None → P)
none_named (Ok a) some P = λ none. absurd (true≢false (sym (subst IsSome none some)))
none_named (Err e) some P = tt

any_ok : (o : Result Asked Refused) (P Q : Type 0) → OnOk o P → (P → Q) → IfOk o (λ a. name_of a ≡ None → Q)
any_ok (Ok a) P Q p f = λ none. f p
any_ok (Err e) P Q p f = tt

pub returns-in-Ok-clause-shown : goal.returns-in-Ok-clause-shown
returns-in-Ok-clause-shown c = none_named c.command_found.result c.command_found.ensures.named _

pub returns-in-Err-clause-shown : goal.returns-in-Err-clause-shown
returns-in-Err-clause-shown c =
    let words = map string_bytes c.args.words.now in
    let is = c.in_ok-command.ensures in
    let fails = c.in-Err.ensures.kinds (ap is_simple_and_free is) in
    any_ok c.text_shown.result _ _ c.text_shown.ensures.shown
    (shown_by _ words
    (subst (λ (a : App). HasKind (fault_of a words) c.in-Err.error) is fails))
