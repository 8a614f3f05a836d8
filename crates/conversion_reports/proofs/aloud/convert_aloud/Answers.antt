use Rattle.std.proofs.Common.{inl, subst, sym}
use Rattle.file_conversion.specs.Streams.{NoFileText}
use Rattle.conversion_reports.proofs.Refusals.{kept, not_made}
use Rattle.conversion_reports.proofs.aloud.convert_aloud.Goals as goal

pub returns-in-Err-make-clause-error : goal.returns-in-Err-make-clause-error
returns-in-Err-make-clause-error g c =
    let none = subst (λ b. NoFileText c.args.asked b c.in-Err-make.error) c.deref.ensures.value
    c.in-Err-make.ensures.error in
    let given = subst (λ b. NoFileText c.args.asked b c.in-Err-make.error) (sym c.deref-in-Err-make.ensures.value)
    none in
    let why = subst (λ b. NoFileText c.args.asked b c.hinted.result.error) c.deref-in-Err-make.ensures.value
    (c.hinted.ensures.why c.args.asked given) in
    inl (
      not_made c.args.asked (g.R.Read.remaining c.args.reader.now) c.in-Ok.bytes.items _ c.hinted.result.error
          c.in-Ok.ensures.bytes why,
      kept _,
      kept _,
    )
