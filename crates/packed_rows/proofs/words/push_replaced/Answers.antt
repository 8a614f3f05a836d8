use Rattle.std.proofs.Common.{rules, ◌≡◌, OnOk, ◌++◌, string_bytes, ◌∙◌}
use Rattle.list_laws.proofs.Outcomes.{ok_then}
use Rattle.record_text.proofs.Cuts.{turn, last_turn}
use Rattle.record_text.specs.Words.{replaced}
use Rattle.packed_rows.proofs.Found.{without}
use Rattle.packed_rows.proofs.words.push_replaced.Goals as goal

pub front-preserved : goal.front-preserved
front-preserved c = (
  search rules,
  rw (c.in_ok-push_str-2.ensures.bytes, c.in_ok-push_str.ensures.bytes)
      (turn c.args.mark c.args.by.now (string_bytes c.front.out) c.in-Some.front.now c.in-Some.after.now
      c.front.rest.now (string_bytes c.args.out.now ++ replaced c.args.mark c.args.by.now c.args.text.now)
      c.in-Some.ensures.0 (without c.args.mark c.in-Some.front.now c.in-Some.ensures.1) c.front.invariant.1),
)

pub returns : goal.returns
returns c =
    let e : OnOk c.push_str-2.result (string_bytes c.push_str-2.new.self ≡ string_bytes c.front.out ++ c.front.rest.now)
    = search rules in
    ok_then c.push_str-2.result (λ e. e ∙ last_turn c.args.mark c.args.by.now (string_bytes c.front.out)
    c.front.rest.now (string_bytes c.args.out.now ++ replaced c.args.mark c.args.by.now c.args.text.now)
    (without c.args.mark c.front.rest.now c.in_default.ensures) c.front.invariant.1) e
