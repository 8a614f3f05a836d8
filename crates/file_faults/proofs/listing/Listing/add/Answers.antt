use Rattle.std.proofs.Common.{◌∙◌, ap, arith}
use Rattle.file_faults.specs.Faults.{Faulty}
use Rattle.file_faults.specs.declared.listing.Listing.{Listing}
use Rattle.file_faults.proofs.Listed.{one_counted, one_listed, total_more}
use Rattle.file_faults.proofs.listing.Listing.add.Goals as goal
use Rattle.file_faults.proofs.listing.Listing.add.Goals.{
  then-self-lt-MAX_LISTED+in_ok-push_fault,
  else-self-lt-MAX_LISTED,
}

pub returns-clause-list : goal.returns-clause-list
returns-clause-list c =
    let f : Faulty = record { line = c.args.line; kind = c.args.kind; text = c.args.text.now } in
    let old : Listing = c.args.self.now in
    λ fs h. elim c.if-self-lt-MAX_LISTED.branch [
      | then-self-lt-MAX_LISTED+in_ok-push_fault w ↦ record {
        text = ap (λ (l : Listing). l.text.items) w.self-is
            ∙ one_listed fs f old.text.items w.push_fault.new.out.items old.total h.total
            w.if-self-lt-MAX_LISTED.true h.text w.in_ok-push_fault.ensures;
        total = total_more fs f old.total c.if-self-lt-MAX_LISTED.self.total h.total
            (ap (λ (l : Listing). l.total) w.self-is);
      }
      | else-self-lt-MAX_LISTED w ↦ record {
        text = one_counted fs f old.text.items c.if-self-lt-MAX_LISTED.self.text.items old.total h.total
            (omega (arith, w.if-self-lt-MAX_LISTED.false)) h.text (ap (λ (l : Listing). l.text.items) w.self-is);
        total = total_more fs f old.total c.if-self-lt-MAX_LISTED.self.total h.total
            (ap (λ (l : Listing). l.total) w.self-is);
      }
    ]
