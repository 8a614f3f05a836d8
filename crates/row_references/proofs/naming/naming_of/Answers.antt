use Rattle.std.proofs.Common.{◌∙◌, Option, ap, get_or, sym, []}
use Rattle.commands.specs.Verbs.{verb_of}
use Rattle.commands.specs.declared.verb.Verb.{Verb}
use Rattle.csv.specs.Records.{fields_of}
use Rattle.row_references.specs.Naming.{naming_by, naming_fields}
use Rattle.row_references.proofs.InPlace.{naming_is, naming_none}
use Rattle.row_references.proofs.naming.naming_of.Goals as goal

pub returns-in-Some : goal.returns-in-Some
returns-in-Some c = c.naming_fields.ensures ∙ ap (naming_fields c.in-Some.verb) c.field_at-in-Some.ensures
    ∙ ap (λ (o : Option Verb). naming_by o (get_or (fields_of c.args.row.now) 3 []))
    (sym c.in-Some.is ∙ c.from_word.ensures ∙ ap verb_of (c.in-Ok.ensures.cases.0 ∙ c.field_at.ensures))
    ∙ naming_is (fields_of c.args.row.now)

pub returns-in-None : goal.returns-in-None
returns-in-None c =
    ap (λ (o : Option Verb). naming_by o (get_or (fields_of c.args.row.now) 3 []))
    (sym c.in-None.is ∙ c.from_word.ensures ∙ ap verb_of (c.in-Ok.ensures.cases.0 ∙ c.field_at.ensures))
    ∙ naming_is (fields_of c.args.row.now)

pub returns-in-Err : goal.returns-in-Err
returns-in-Err c = naming_none (fields_of c.args.row.now) (λ u. c.in-Err.ensures.cases.0 (rw c.field_at.ensures (u)))
