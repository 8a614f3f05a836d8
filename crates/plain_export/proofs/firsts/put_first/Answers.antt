use Rattle.std.proofs.Common.{sym, ap, ◌∙◌, string_bytes}
use Rattle.std.specs.BTreeMap.{get_by_text}
use Rattle.plain_export.proofs.Marking.{adds_new, adds_there, on_ok}
use Rattle.plain_export.proofs.firsts.put_first.Goals as goal

pub returns-in-Some : goal.returns-in-Some
returns-in-Some c =
    let f = get_by_text c.args.numbers.now in
    adds_there f (string_bytes c.args.key) c.in-Some.field-0 c.args.number
    (ap f (sym c.as_str.ensures.value) ∙ sym c.in-Some.ensures)

pub returns-in-None : goal.returns-in-None
returns-in-None c =
    let f = get_by_text c.args.numbers.now in
    on_ok c.put_number.result
    (adds_new f (get_by_text c.put_number.new.numbers) (string_bytes c.args.key) c.args.number
    (ap f (sym c.as_str.ensures.value) ∙ sym c.in-None.ensures))
    c.put_number.ensures
