use Rattle.std.proofs.Common.{◌≡◌, ◌∙◌, ◌++◌, arith, length, inr, Some, None}
use Rattle.gedcom_rules.specs.Judging.{decided}
use Rattle.gedcom_rules.specs.Views.{progress, fault_view}
use Rattle.gedcom_rules.proofs.Walks.{or_err}
use Rattle.gedcom_tree.proofs.Fed.{
  reading_small,
  reading_piece,
  fed_blames,
  fed_decided,
  fed_holds,
  fed_reading,
  going_led,
  going_open,
  going_blames,
  same_open,
}
use Rattle.gedcom_tree.proofs.reader.add.Goals as goal

pub overflow_sub-total : goal.overflow_sub-total
overflow_sub-total c = reading_small c.args.lines.now c.args.rest.now.items c.args.total.now c.requires.reading

pub take_bytes-requires-clause-count : goal.take_bytes-requires-clause-count
take_bytes-requires-clause-count c =
    omega (
      arith,
      reading_small c.args.lines.now c.args.rest.now.items c.args.total.now c.requires.reading,
      c.requires.reading.count,
      c.limited-next.ensures.small,
    )

pub take_bytes-requires-clause-piece : goal.take_bytes-requires-clause-piece
take_bytes-requires-clause-piece c = reading_piece c.args.lines.now c.args.rest.now.items c.args.total.now
    c.requires.reading

pub returns-in-Err-clause-fault : goal.returns-in-Err-clause-fault
returns-in-Err-clause-fault c =
    let s = c.args.lines.now in
    let rest = c.args.rest.now.items in
    let total = c.args.total.now in
    let front = c.limited-next.result.0.now in
    let f = fault_view c.in-Err.fault in
    let size : c.len.result ≡ length rest = omega (arith, c.len.ensures, c.args.rest.now.ok.0) in
    or_err (λ k b h. fed_blames s rest b c.args.piece.now front total f h
    (reading_small s rest total c.requires.reading) c.limited-next.ensures.front k)
    (going_blames s rest front total c.len.result f size c.in-Err.ensures.fault)

pub judge_open-requires : goal.judge_open-requires
judge_open-requires c =
    omega (
      arith,
      reading_small c.args.lines.now c.args.rest.now.items c.args.total.now c.requires.reading,
      c.requires.reading.count,
      c.limited-next.ensures.small,
      c.in-Ok.ensures.count,
    )

pub returns-in-Ok-judge_open-clause-ok : goal.returns-in-Ok-judge_open-clause-ok
returns-in-Ok-judge_open-clause-ok c = λ b h.
    let s = c.args.lines.now in
    let new = c.take_bytes.new.lines in
    let rest = c.args.rest.now.items in
    let left = c.take_bytes.new.rest.items in
    let total = c.args.total.now in
    let front = c.limited-next.result.0.now in
    let size : c.len.result ≡ length rest = omega (arith, c.len.ensures, c.args.rest.now.ok.0) in
    let led = going_led s new rest front total c.len.result size c.in-Ok.ensures.led in
    let open_ = going_open left rest front total c.len.result size c.in-Ok.ensures.open_ in
    let none : decided (b ++ c.args.piece.now) ≡ None = fed_decided s new rest left b c.args.piece.now front total
    c.limited-next.result.1 h (reading_small s rest total c.requires.reading) c.limited-next.ensures.front
    c.limited-next.ensures.next led open_ ∙ same_open left c.deref.result.now c.limited-next.result.1
    (progress new.seen) None c.deref.ensures.value c.in-Ok-judge_open.ensures in
    (fed_holds s new rest left b c.args.piece.now front total h c.limited-next.ensures.front led open_ none, none)

pub returns-in-Ok-judge_open-clause-reading : goal.returns-in-Ok-judge_open-clause-reading
returns-in-Ok-judge_open-clause-reading c =
    let s = c.args.lines.now in
    let new = c.take_bytes.new.lines in
    let rest = c.args.rest.now.items in
    let left = c.take_bytes.new.rest.items in
    let total = c.args.total.now in
    let front = c.limited-next.result.0.now in
    let size : c.len.result ≡ length rest = omega (arith, c.len.ensures, c.args.rest.now.ok.0) in
    let led = going_led s new rest front total c.len.result size c.in-Ok.ensures.led in
    let open_ = going_open left rest front total c.len.result size c.in-Ok.ensures.open_ in
    fed_reading s new rest left c.args.piece.now front total c.limited-next.result.1 c.requires.reading
    c.limited-next.ensures.front c.limited-next.ensures.next led open_
    (same_open left c.deref.result.now c.limited-next.result.1 (progress new.seen) None c.deref.ensures.value
    c.in-Ok-judge_open.ensures) (omega (arith, c.requires.reading.count, c.in-Ok.ensures.count))

pub returns-in-Err-judge_open-clause-fault : goal.returns-in-Err-judge_open-clause-fault
returns-in-Err-judge_open-clause-fault c = inr (λ b h.
    let s = c.args.lines.now in
    let new = c.take_bytes.new.lines in
    let rest = c.args.rest.now.items in
    let left = c.take_bytes.new.rest.items in
    let total = c.args.total.now in
    let front = c.limited-next.result.0.now in
    let size : c.len.result ≡ length rest = omega (arith, c.len.ensures, c.args.rest.now.ok.0) in
    let led = going_led s new rest front total c.len.result size c.in-Ok.ensures.led in
    let open_ = going_open left rest front total c.len.result size c.in-Ok.ensures.open_ in
    fed_decided s new rest left b c.args.piece.now front total c.limited-next.result.1 h
    (reading_small s rest total c.requires.reading) c.limited-next.ensures.front c.limited-next.ensures.next led
    open_ ∙ same_open left c.deref.result.now c.limited-next.result.1 (progress new.seen)
    (Some (fault_view c.in-Err-judge_open.fault)) c.deref.ensures.value c.in-Err-judge_open.ensures)
