use Rattle.std.proofs.Common.{ℕ, List, ◌++◌, ◌<◌, length, sym, ◌∙◌, subst}
use Rattle.std.proofs.lemmas.Result.{IfErr-weaker}
use Rattle.gedcom_rules.specs.Pieces.{pieces, from_start}
use Rattle.gedcom_rules.specs.Faults.{max_line}
use Rattle.gedcom_rules.specs.Views.{fault_view}
use Rattle.gedcom_rules.proofs.Walks.{or_err}
use Rattle.gedcom_rules.proofs.Resumed.{piece-append, start_piece, piece_open, resumed_first}
use Rattle.gedcom_tree.specs.Lines.{Leads}
use Rattle.gedcom_tree.proofs.Behind.{leads_none, blames_open}
use Rattle.gedcom_tree.proofs.reader.take_bytes.Goals as goal
use Rattle.list_laws.proofs.Outcomes.{any_ok, ok_then}

pub go_on-requires-clause-piece : goal.go_on-requires-clause-piece
go_on-requires-clause-piece c = start_piece c.args.is_start (c.args.rest.now.items ++ c.in-Some.head.now)
    (piece-append c.args.rest.now.items c.in-Some.head.now c.requires.piece c.in-Some.ensures.piece)

pub returns-in-None-clause-led : goal.returns-in-None-clause-led
returns-in-None-clause-led c =
    let b = c.args.rest.now.items ++ c.args.bytes.now in
    let o = piece_open (from_start c.args.is_start b)
    (start_piece c.args.is_start b
    (piece-append c.args.rest.now.items c.args.bytes.now c.requires.piece c.in-None.ensures.piece)) in
    any_ok c.hold.result (subst (Leads c.args.lines.now c.args.lines.now) (sym o.0)
    (leads_none c.args.lines.now c.requires.sound))

pub returns-in-None-clause-open_ : goal.returns-in-None-clause-open_
returns-in-None-clause-open_ c =
    let b = c.args.rest.now.items ++ c.args.bytes.now in
    let o = piece_open (from_start c.args.is_start b)
    (start_piece c.args.is_start b
    (piece-append c.args.rest.now.items c.args.bytes.now c.requires.piece c.in-None.ensures.piece)) in
    ok_then c.hold.result (λ h. h ∙ sym o.1) c.hold.ensures.held

pub returns-in-None-clause-fault : goal.returns-in-None-clause-fault
returns-in-None-clause-fault c =
    let b = c.args.rest.now.items ++ c.args.bytes.now in
    let x = from_start c.args.is_start b in
    let o = piece_open x (start_piece c.args.is_start b
    (piece-append c.args.rest.now.items c.args.bytes.now c.requires.piece c.in-None.ensures.piece)) in
    let none = subst (Leads c.args.lines.now c.args.lines.now) (sym o.0)
    (leads_none c.args.lines.now c.requires.sound) in
    IfErr-weaker c.hold.result _ _
    (λ f. or_err (λ h next. blames_open c.args.lines.now c.args.lines.now (pieces x).ended (pieces x).open_
    (fault_view f) next none (h.0, subst (λ (t : List ℕ). max_line < length t) (sym o.1) h.1))) c.hold.ensures.fault

pub returns-in-Some-clause-led : goal.returns-in-Some-clause-led
returns-in-Some-clause-led c =
    let k = resumed_first c.args.is_start c.args.rest.now.items c.args.bytes.now c.in-Some.head.now c.in-Some.behind.now
    c.requires.piece c.in-Some.ensures.piece c.in-Some.ensures.parts in
    ok_then c.go_on.result (subst (Leads c.args.lines.now c.go_on.new.lines) (sym k.0)) c.go_on.ensures.led

pub returns-in-Some-clause-open_ : goal.returns-in-Some-clause-open_
returns-in-Some-clause-open_ c =
    let k = resumed_first c.args.is_start c.args.rest.now.items c.args.bytes.now c.in-Some.head.now c.in-Some.behind.now
    c.requires.piece c.in-Some.ensures.piece c.in-Some.ensures.parts in
    ok_then c.go_on.result (λ h. h ∙ sym k.1) c.go_on.ensures.open_

pub returns-in-Some-clause-fault : goal.returns-in-Some-clause-fault
returns-in-Some-clause-fault c =
    let k = resumed_first c.args.is_start c.args.rest.now.items c.args.bytes.now c.in-Some.head.now c.in-Some.behind.now
    c.requires.piece c.in-Some.ensures.piece c.in-Some.ensures.parts in
    rw (k.0, k.1) c.go_on.ensures.fault
