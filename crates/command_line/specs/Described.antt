-- What `clap` gets of the tables of commands and of their words.
use Rattle.std.specs.Prelude.{ℕ, Option, Some, None, fold, map}
use Rattle.clap.specs.Lexer.{usize_max}
use Rattle.clap.specs.Words.{Rule, Shape, Text, new_app, new_rule, with_rule}
use Rattle.clap.specs.declared.builder.action.ArgAction.TheVariants.{Append, Set, SetTrue}
use Rattle.clap.specs.declared.builder.value_parser.ValueParser.TheVariants.{Unsigned}
use Rattle.command_line.specs.declared.arguments.Form.{Form}
use Rattle.command_line.specs.declared.arguments.Form.TheVariants.{Flag, Named, Place, Places}
use Rattle.command_line.specs.declared.arguments.Word.{Word}
use Rattle.command_line.specs.declared.subcommands.CommandRow.{CommandRow}

-- the form of a word, whose name is its id
abbrev pub with_form : Form → Text → Rule → Rule
with_form Place id r = record r { action = Some Set }
with_form Places id r = record r {
  action = Some Append;
  range = Some (record { start_inclusive = 1; end_inclusive = usize_max });
}
with_form (Named value) id r = record r { long = Some id; action = Some Set; value_names = 1 }
with_form Flag id r = record r { long = Some id; action = Some SetTrue }

-- the numbers of which it is one, if it is a number
abbrev pub with_numbers : Option (ℕ × ℕ) → Rule → Rule
with_numbers None r = r
with_numbers (Some p) r = record r { parser = Some (Unsigned p.0 p.1) }

-- a word
abbrev pub rule_described : Word → Rule
rule_described w = with_numbers w.numbers
    (record (with_form w.form w.id.now (new_rule w.id.now)) { required = w.needed })

-- a command, with its words in turn
abbrev pub shape_described : CommandRow → Shape
shape_described d = (fold with_rule (new_app d.name.now) (map rule_described d.words.now)).top
