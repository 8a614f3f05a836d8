use Rattle.std.proofs.Common.{ℕ, refl, subst, sym}
use Rattle.std.specs.Prelude.{Option, Some, Err}
use Rattle.record_text.specs.declared.refusal.Refusal.{Refusal}
use Rattle.record_text.specs.declared.refusal.RefusalKind.TheVariants.{NoSuch}
use Rattle.csv.specs.Records.{fields_of}
use Rattle.request_csv.specs.Batches.{SettlesRow}
use Rattle.request_csv.proofs.Placed.{numbered, unnumbered}
use Rattle.request_csv.proofs.batch_rows.referring_entry.Goals as goal

pub returns-in-Some : goal.returns-in-Some
returns-in-Some c = λ has.
    subst (λ (n : Option ℕ). SettlesRow n (fields_of c.args.own.now) c.args.place c.entry_with.result)
    (sym c.in-Some.is)
    (numbered (fields_of c.args.own.now) c.in-Some.number c.args.place c.entry_with.result has
    c.entry_with.ensures.read c.entry_with.ensures.refused)

pub returns-in-None : goal.returns-in-None
returns-in-None c = λ has.
    let why : Refusal = record { kind = NoSuch; at = Some c.args.place } in
    subst (λ (n : Option ℕ). SettlesRow n (fields_of c.args.own.now) c.args.place (Err why)) (sym c.in-None.is)
    (unnumbered (fields_of c.args.own.now) c.args.place why has refl refl)
