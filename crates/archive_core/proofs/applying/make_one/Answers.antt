use Rattle.std.proofs.Common.{rules, ◌≡◌, ◌∷◌, false, ap, ◌∙◌}
use Rattle.std.specs.Prelude.{is_some}
use Rattle.std.specs.FinMap as map
use Rattle.archive_state.specs.Content.{Records}
use Rattle.archive_state.specs.Applied.{without}
use Rattle.archive_core.specs.Room.{blank}
use Rattle.archive_core.proofs.Room.{blank_back, blank_gone}
use Rattle.archive_core.proofs.applying.make_one.Goals as goal

pub returns-in-Ok-clause-back : goal.returns-in-Ok-clause-back
returns-in-Ok-clause-back c =
    let m : Records = c.args.state.now.records in
    let none : is_some (map.get m c.args.number) ≡ false = search rules in
    let put : c.put_record.new.self.records ≡ map.insert m c.args.number blank = search rules in
    let list : c.push_front.new.self.items ≡ c.args.number ∷ c.args.blanks.now.items = search rules in
    ap (λ x. without x c.push_front.new.self.items) put ∙ ap (without (map.insert m c.args.number blank)) list
    ∙ blank_back m c.args.number c.args.blanks.now.items none

pub returns-in-Err-clause-back : goal.returns-in-Err-clause-back
returns-in-Err-clause-back c =
    let m : Records = c.args.state.now.records in
    let none : is_some (map.get m c.args.number) ≡ false = search rules in
    let gone : c.remove_record.new.self.records ≡ map.remove (map.insert m c.args.number blank)
    c.args.number = search rules in
    let list : c.push_front.new.self.items ≡ c.args.blanks.now.items = search rules in
    ap (λ x. without x c.push_front.new.self.items) (gone ∙ blank_gone m c.args.number none) ∙ ap (without m) list

pub returns-in-Err-clause-err : goal.returns-in-Err-clause-err
returns-in-Err-clause-err c =
    let m : Records = c.args.state.now.records in
    let none : is_some (map.get m c.args.number) ≡ false = search rules in
    let gone : c.remove_record.new.self
    ≡ record c.args.state.now { records = map.remove (map.insert m c.args.number blank) c.args.number } =
    search rules in
    gone ∙ ap (λ x. record c.args.state.now { records = x }) (blank_gone m c.args.number none)
