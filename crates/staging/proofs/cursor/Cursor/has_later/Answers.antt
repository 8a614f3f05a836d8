use Rattle.std.proofs.Common.{ap, arith, length, refl, true}
use Rattle.staging.specs.Opened.{later_left}
use Rattle.staging.proofs.Cursors.{links_more, some_first, some_spans, soughts_more}
use Rattle.staging.proofs.cursor.Cursor.has_later.Goals as goal

pub returns-then-self-links : goal.returns-then-self-links
returns-then-self-links c =
    let later = c.args.later.now in
    let cursor = c.args.self.now in
    some_first (later_left later cursor) true refl
    (links_more later cursor (omega (arith, c.if-self-links.true, ap length c.as_slice-links.ensures.value)))

pub returns-then-self-soughts : goal.returns-then-self-soughts
returns-then-self-soughts c =
    let later = c.args.later.now in
    let cursor = c.args.self.now in
    some_first (later_left later cursor) true refl
    (soughts_more later cursor (omega (arith, c.if-self-soughts.true, ap length c.as_slice-soughts.ensures.value)))

pub returns : goal.returns
returns c =
    rw c.as_slice-spans.ensures.value (some_spans c.args.later.now c.args.self.now
    (omega (arith, c.if-self-links.false, ap length c.as_slice-links.ensures.value))
    (omega (arith, c.if-self-soughts.false, ap length c.as_slice-soughts.ensures.value)))
