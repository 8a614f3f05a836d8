use Rattle.std.proofs.Common.{◌≡◌, ◌++◌, [], List, ℕ, Err, append-nil, refl, rules, sym}
use Rattle.gedcom_tree.specs.Text.{line_text, trailer}
use Rattle.node_writing.specs.Header.{header}
use Rattle.node_writing.specs.Pages.{nodes_text}
use Rattle.gedcom_export.specs.Pieces.{kinds_text, ranks}
use Rattle.gedcom_export.proofs.Moving.{at_end, at_start, by_result, ends_between, halts_early, one_further}
use Rattle.gedcom_export.proofs.writing.write_parts.Goals as goal

pub returns-clause-written : goal.returns-clause-written
returns-clause-written g c =
    let a = g.W.Write.contents c.args.writer.now in
    let b = g.W.Write.contents c.begin.new.writer in
    let d = g.W.Write.contents c.write_records.new.writer in
    let e = g.W.Write.contents c.end.new.writer in
    let x = c.args.out.now in
    let y = c.begin.new.out in
    let z = c.write_records.new.out in
    let head : List ℕ = nodes_text 0 (header c.args.society.now) in
    let all : List ℕ = kinds_text c.args.state.now.records c.args.index.now ranks in
    let last : List ℕ = line_text trailer in
    let whole : List ℕ = head ++ (all ++ last) in
    let first = one_further a a b x x y whole whole head (all ++ last) (at_start a x whole) refl
    c.in_ok-begin.ensures.written in
    let second = one_further a b d x y z whole (all ++ last) all last first refl
    c.in_ok-write_records.ensures.written in
    by_result c.end.result
    (λ _ m. at_end a e x c.end.new.out whole []
    (one_further a d e x z c.end.new.out whole last last [] second (sym (append-nil last)) m) refl)
    (λ k h. ends_between a d e x z whole last last [] k second (sym (append-nil last)) h)
    c.end.ensures.written

pub returns-in_err-write_records-clause-written : goal.returns-in_err-write_records-clause-written
returns-in_err-write_records-clause-written g c =
    let a = g.W.Write.contents c.args.writer.now in
    let b = g.W.Write.contents c.begin.new.writer in
    let d = g.W.Write.contents c.write_records.new.writer in
    let x = c.args.out.now in
    let y = c.begin.new.out in
    let head : List ℕ = nodes_text 0 (header c.args.society.now) in
    let all : List ℕ = kinds_text c.args.state.now.records c.args.index.now ranks in
    let last : List ℕ = line_text trailer in
    let whole : List ℕ = head ++ (all ++ last) in
    let first = one_further a a b x x y whole whole head (all ++ last) (at_start a x whole) refl
    c.in_ok-begin.ensures.written in
    let same : c.from_residual-in_err-write_records.result
    ≡ Err c.in_err-write_records.field-0.0 = search rules in
    rw same (ends_between a b d x y whole (all ++ last) all last _ first refl c.in_err-write_records.ensures.written)

pub returns-in_err-begin-clause-written : goal.returns-in_err-begin-clause-written
returns-in_err-begin-clause-written g c =
    let same : c.from_residual.result ≡ Err c.in_err-begin.field-0.0 = search rules in
    rw same (halts_early (g.W.Write.contents c.args.writer.now) (g.W.Write.contents c.begin.new.writer)
    c.args.out.now
    (nodes_text 0 (header c.args.society.now))
    (kinds_text c.args.state.now.records c.args.index.now ranks ++ line_text trailer) _
    c.in_err-begin.ensures.written)
