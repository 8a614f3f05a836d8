use Rattle.std.proofs.Common.{◌+◌, ◌∙◌, drop, map, refl, sym, arith}
use Rattle.std.specs.BTreeSet.{contains_text}
use Rattle.imports.specs.Seconds.{said_of}
use Rattle.imports.proofs.Among.{
  begun,
  empty_none,
  ended,
  front_said,
  none_left,
  passed,
  seconds_are,
  stopped,
}
use Rattle.imports.proofs.seconds.second_entry.Goals as goal

pub loop-draft-init : goal.loop-draft-init
loop-draft-init c = record {
  count = refl;
  second = begun (contains_text c.new-keys.result) (map said_of c.args.drafts.now)
      (empty_none c.new-keys.result c.new-keys.ensures.empty);
}

pub loop-draft-preserved : goal.loop-draft-preserved
loop-draft-preserved c =
    let ds = c.args.drafts.now in
    let i = c.loop-draft.draft-index in
    record {
      count = omega (arith, c.loop-draft.invariant.count);
      second = passed c.draft-item.result (map said_of (drop (i + 1) ds)) (map said_of (drop i ds))
          c.loop-draft.position (c.loop-draft.position + 1) (contains_text c.loop-draft.keys)
          (contains_text c.is_second.new.keys) _
          (front_said ds i c.draft-item.result c.loop-draft-test.true c.draft-item.is) refl
          (sym c.in_ok-is_second.ensures.second ∙ c.if-branch.false) c.in_ok-is_second.ensures.keys
          c.loop-draft.invariant.second;
    }

pub returns-then-branch : goal.returns-then-branch
returns-then-branch c =
    let ds = c.args.drafts.now in
    let i = c.loop-draft.draft-index in
    stopped c.draft-item.result (map said_of (drop (i + 1) ds)) (map said_of (drop i ds)) c.loop-draft.position
    (contains_text c.loop-draft.keys) _ (front_said ds i c.draft-item.result c.loop-draft-test.true c.draft-item.is)
    (sym c.in_ok-is_second.ensures.second ∙ c.if-branch.true) c.loop-draft.invariant.second
    ∙ seconds_are (map said_of ds) c.requires

pub returns : goal.returns
returns c =
    let ds = c.args.drafts.now in
    ended (map said_of (drop c.loop-draft.draft-index ds)) c.loop-draft.position (contains_text c.loop-draft.keys) _
    (none_left ds c.loop-draft.draft-index c.loop-draft-test.false) c.loop-draft.invariant.second
    ∙ seconds_are (map said_of ds) c.requires
