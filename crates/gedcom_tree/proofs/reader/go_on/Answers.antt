use Rattle.std.proofs.Common.{ℕ, List, [], ◌∷◌, ◌++◌, ◌<◌, length, ap, ◌∙◌, subst}
use Rattle.std.proofs.lemmas.Result.{IfErr-weaker}
use Rattle.gedcom_rules.specs.Pieces.{pieces, from_start}
use Rattle.gedcom_rules.specs.Faults.{max_line}
use Rattle.gedcom_rules.specs.Views.{fault_view}
use Rattle.gedcom_rules.proofs.Walks.{or_err}
use Rattle.gedcom_tree.specs.Lines.{Leads, Refuses}
use Rattle.gedcom_tree.proofs.Behind.{leads_on, refuses_first, refuses_last, refuses_long, blames_open}
use Rattle.gedcom_tree.proofs.reader.go_on.Goals as goal
use Rattle.list_laws.proofs.Outcomes.{any_ok}

pub returns-in-Err-clause-fault : goal.returns-in-Err-clause-fault
returns-in-Err-clause-fault c =
    let x = from_start c.args.is_start (c.args.rest.now.items ++ c.args.head.now) in
    let f = fault_view c.in-Err.fault in
    refuses_first c.args.lines.now (x ∷ []) (pieces c.args.bytes.now).ended (pieces c.args.bytes.now).open_ f
    (or_err (refuses_long c.args.lines.now x f c.requires.sound) c.in-Err.ensures.fault)

pub returns-in-Err-add-clause-fault : goal.returns-in-Err-add-clause-fault
returns-in-Err-add-clause-fault c =
    let x = from_start c.args.is_start (c.args.rest.now.items ++ c.args.head.now) in
    let f = fault_view c.in-Err-add.fault in
    refuses_first c.args.lines.now (x ∷ []) (pieces c.args.bytes.now).ended (pieces c.args.bytes.now).open_ f
    (subst (λ (p : List ℕ). Refuses c.args.lines.now (p ∷ []) f) (c.deref.ensures.value ∙ c.in-Ok.ensures.held)
    c.in-Err-add.ensures.fault)

pub returns-in-Ok-add_all-clause-led : goal.returns-in-Ok-add_all-clause-led
returns-in-Ok-add_all-clause-led c =
    let x = from_start c.args.is_start (c.args.rest.now.items ++ c.args.head.now) in
    any_ok c.hold-in-Ok-add_all.result (leads_on c.args.lines.now c.add.new.self c.add_all.new.self (x ∷ [])
    (pieces c.args.bytes.now).ended
    (subst (λ (p : List ℕ). Leads c.args.lines.now c.add.new.self (p ∷ []))
    (c.deref.ensures.value ∙ c.in-Ok.ensures.held) c.in-Ok-add.ensures.led)
    c.in-Ok-add_all.ensures.led)

pub returns-in-Ok-add_all-clause-fault : goal.returns-in-Ok-add_all-clause-fault
returns-in-Ok-add_all-clause-fault c =
    let x = from_start c.args.is_start (c.args.rest.now.items ++ c.args.head.now) in
    let ps = (pieces c.args.bytes.now).ended in
    let all = leads_on c.args.lines.now c.add.new.self c.add_all.new.self (x ∷ []) ps
    (subst (λ (p : List ℕ). Leads c.args.lines.now c.add.new.self (p ∷ []))
    (c.deref.ensures.value ∙ c.in-Ok.ensures.held) c.in-Ok-add.ensures.led)
    c.in-Ok-add_all.ensures.led in
    let left = ap (λ (t : List ℕ). t ++ c.in-Ok-add_all.behind.now) c.clear.ensures.items
    ∙ c.in-Ok-add_all.ensures.open_ in
    IfErr-weaker c.hold-in-Ok-add_all.result _ _
    (λ f. or_err (λ h next. blames_open c.args.lines.now c.add_all.new.self (x ∷ ps) (pieces c.args.bytes.now).open_
    (fault_view f) next all (h.0, subst (λ (t : List ℕ). max_line < length t) left h.1)))
    c.hold-in-Ok-add_all.ensures.fault

pub returns-in-Err-add_all-clause-fault : goal.returns-in-Err-add_all-clause-fault
returns-in-Err-add_all-clause-fault c =
    let x = from_start c.args.is_start (c.args.rest.now.items ++ c.args.head.now) in
    refuses_last c.args.lines.now c.add.new.self (x ∷ []) (pieces c.args.bytes.now).ended
    (pieces c.args.bytes.now).open_ (fault_view c.in-Err-add_all.fault)
    (subst (λ (p : List ℕ). Leads c.args.lines.now c.add.new.self (p ∷ []))
    (c.deref.ensures.value ∙ c.in-Ok.ensures.held) c.in-Ok-add.ensures.led)
    c.in-Err-add_all.ensures.fault
