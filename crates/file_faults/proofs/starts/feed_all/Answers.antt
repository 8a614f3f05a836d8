use Rattle.std.proofs.Common.{◌≡◌, ◌∙◌, eqb, false, sym, ap, length, arith}
use Rattle.gedcom_line.proofs.Steps.{eqb_no}
use Rattle.gedcom_rules.specs.Views.{fault_view}
use Rattle.gedcom_tree.proofs.Streamed.{fed_refused, fed_more, fed_small}
use Rattle.file_faults.proofs.starts.feed_all.Goals as goal

pub returns-in-Err-feed-clause-fault : goal.returns-in-Err-feed-clause-fault
returns-in-Err-feed-clause-fault g c =
    fed_refused _ (g.R.Read.remaining c.pieces.reader) (g.R.Read.remaining c.read_piece.new.reader) c.pieces.lines
    c.feed.new.self c.pieces.total c.deref.result.now _ (fault_view c.in-Err-feed.fault) c.pieces.invariant.fed
    (rw c.deref.ensures.value c.in-Ok.ensures.read) c.in-Err-feed.ensures.fed

pub pieces-smaller : goal.pieces-smaller
pieces-smaller g c =
    let size : c.len-total.result ≡ length c.deref.result.now = omega (
      arith,
      c.len-total.ensures,
      c.in-Ok.piece.ok.0,
      ap length c.deref.ensures.value,
    ) in
    let some : eqb c.in-Ok.piece.len 0 ≡ false = sym c.is_empty.ensures ∙ c.if-is_empty.false in
    omega (
      arith,
      fed_small _ _ (g.R.Read.remaining c.read_piece.new.reader) c.pieces.lines c.feed.new.self
          c.pieces.total c.len-total.result c.deref.result.now c.pieces.invariant.fed size c.in-Ok-feed.ensures.fed,
      c.len-total.ensures,
      eqb_no c.in-Ok.piece.len 0 some,
    )

pub pieces-preserved : goal.pieces-preserved
pieces-preserved g c =
    let size : c.len-total.result ≡ length c.deref.result.now = omega (
      arith,
      c.len-total.ensures,
      c.in-Ok.piece.ok.0,
      ap length c.deref.ensures.value,
    ) in
    record {
      fed = fed_more _ (g.R.Read.remaining c.pieces.reader) (g.R.Read.remaining c.read_piece.new.reader) c.pieces.lines
          c.feed.new.self c.pieces.total c.len-total.result c.deref.result.now c.pieces.invariant.fed
          (rw c.deref.ensures.value c.in-Ok.ensures.read) size c.in-Ok-feed.ensures.fed;
      small = fed_small _ _ (g.R.Read.remaining c.read_piece.new.reader) c.pieces.lines c.feed.new.self c.pieces.total
          c.len-total.result c.deref.result.now c.pieces.invariant.fed size c.in-Ok-feed.ensures.fed;
    }
