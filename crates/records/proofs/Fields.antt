-- The word of each field is a tag.
use Rattle.std.proofs.Common.{lit<, refl}
use Rattle.record_text.specs.Text.{IsTag}
use Rattle.records.specs.Stored.{word}
use Rattle.records.specs.declared.field.Field.{Field}
use Rattle.records.specs.declared.field.Field.TheVariants as field

pub word_is_tag : (f : Field) → IsTag (word f)
word_is_tag field.Place = record { some = lit< tt; short = lit< tt; words = refl }
word_is_tag field.Repo = record { some = lit< tt; short = lit< tt; words = refl }
word_is_tag field.Source = record { some = lit< tt; short = lit< tt; words = refl }
word_is_tag field.Person = record { some = lit< tt; short = lit< tt; words = refl }
word_is_tag field.Family = record { some = lit< tt; short = lit< tt; words = refl }
word_is_tag field.Citation = record { some = lit< tt; short = lit< tt; words = refl }
word_is_tag field.Author = record { some = lit< tt; short = lit< tt; words = refl }
word_is_tag field.Publisher = record { some = lit< tt; short = lit< tt; words = refl }
word_is_tag field.Holding = record { some = lit< tt; short = lit< tt; words = refl }
word_is_tag field.Quality = record { some = lit< tt; short = lit< tt; words = refl }
word_is_tag field.Name = record { some = lit< tt; short = lit< tt; words = refl }
word_is_tag field.Sex = record { some = lit< tt; short = lit< tt; words = refl }
word_is_tag field.Partner = record { some = lit< tt; short = lit< tt; words = refl }
word_is_tag field.Child = record { some = lit< tt; short = lit< tt; words = refl }
word_is_tag field.Event = record { some = lit< tt; short = lit< tt; words = refl }
word_is_tag field.Date = record { some = lit< tt; short = lit< tt; words = refl }
word_is_tag field.Participant = record { some = lit< tt; short = lit< tt; words = refl }
word_is_tag field.Entry = record { some = lit< tt; short = lit< tt; words = refl }
word_is_tag field.Key = record { some = lit< tt; short = lit< tt; words = refl }
word_is_tag field.Page = record { some = lit< tt; short = lit< tt; words = refl }
word_is_tag field.Item = record { some = lit< tt; short = lit< tt; words = refl }
word_is_tag field.Text = record { some = lit< tt; short = lit< tt; words = refl }
word_is_tag field.Mention = record { some = lit< tt; short = lit< tt; words = refl }
word_is_tag field.Role = record { some = lit< tt; short = lit< tt; words = refl }
word_is_tag field.Reason = record { some = lit< tt; short = lit< tt; words = refl }
word_is_tag field.Other = record { some = lit< tt; short = lit< tt; words = refl }
word_is_tag field.Side = record { some = lit< tt; short = lit< tt; words = refl }
word_is_tag field.Carried = record { some = lit< tt; short = lit< tt; words = refl }
