use Rattle.std.proofs.Common.{rules, ◌≡◌, OnOk, ◌++◌, ◌∷◌, [], string_bytes, ◌∙◌}
use Rattle.record_text.proofs.Cuts.{turn, last_turn}
use Rattle.sheet_lines.specs.Words as words
use Rattle.sheet_lines.proofs.words.push_printed.Goals as goal
use Rattle.list_laws.proofs.Outcomes.{ok_then}

pub front-preserved : goal.front-preserved
front-preserved c = (
  search rules,
  rw (c.in_ok-push_str-2.ensures.bytes, c.in_ok-push_str.ensures.bytes)
      (turn 10 (32 ∷ []) (string_bytes c.front.out) c.in-Some.front.now c.in-Some.after.now
      c.front.rest.now (string_bytes c.args.out.now ++ words.printed c.args.text.now) c.in-Some.ensures.0
      c.in-Some.ensures.1 c.front.invariant.1),
)

pub returns : goal.returns
returns c =
    let e : OnOk c.push_str-2.result (string_bytes c.push_str-2.new.self ≡ string_bytes c.front.out ++ c.front.rest.now)
    = search rules in
    ok_then c.push_str-2.result (λ e. e ∙ last_turn 10 (32 ∷ []) (string_bytes c.front.out) c.front.rest.now
    (string_bytes c.args.out.now ++ words.printed c.args.text.now) c.in_default.ensures c.front.invariant.1) e
