use Rattle.earlier_values.proofs.Packing.{refused_too}
use Rattle.earlier_values.proofs.texts.record_of_past.Goals as goal

pub returns-clause-refused : goal.returns-clause-refused
returns-clause-refused c =
    refused_too c.record_in.result c.args.text.now c.deref.result.now c.in_ok-lines.lines.items c.deref.ensures.value
    c.in_ok-lines.ensures.read c.record_in.ensures.refused
