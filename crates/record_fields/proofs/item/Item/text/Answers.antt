use Rattle.std.proofs.Common.{rules, ◌≡◌, decimal}
use Rattle.record_fields.proofs.Items.{decimal_is_plain}
use Rattle.record_fields.proofs.item.Item.text.Goals as goal

pub of_words-requires : goal.of_words-requires
of_words-requires c =
    let spelt : c.as_str.result.now ≡ decimal c.args.self.number = search rules in
    decimal_is_plain c.args.self.number c.as_str.result.now spelt c.args.self.in_range
