-- The faults of a file that were listed; and its records, where there are none.
use Rattle.std.proofs.Common.{
  ◌≡◌,
  ◌∙◌,
  ◌+◌,
  ◌++◌,
  ℕ,
  List,
  [],
  Some,
  None,
  arith,
  length,
  length-append,
  refl,
  subst,
  sym,
  take,
}
use Rattle.std.proofs.KnownBytes.{Appends-trans}
use Rattle.std.proofs.Math.Seq.{take-append-add}
use Rattle.std.specs.Io.KnownBytes.{Appends}
use Rattle.std.specs.Prelude.{Option, IfSome}
use Rattle.devices.specs.Devices.{AppendsBeginning}
use Rattle.file_faults.proofs.Fronts.{sound_first}
use Rattle.file_faults.specs.Faults.{faults}
use Rattle.file_faults.specs.Shown.{listing}
use Rattle.file_faults.specs.Streams.{IsFirst, Lists}
use Rattle.file_faults.specs.declared.streams.Checked.{Checked}
use Rattle.file_faults.specs.declared.streams.Checked.TheVariants as checked
use Rattle.gedcom_rules.specs.Faults.{Fault}
use Rattle.gedcom_rules.specs.Views.{fault_view}
use Rattle.gedcom_rules.specs.declared.fault.TreeFault.{TreeFault}
use Rattle.gedcom_tree.specs.Streams.{NotWritten}
use Rattle.parish.specs.Ends.{Counted, Counting, IsCount, Listed, records_text}

bare : (known : Option (List ℕ)) (c : Checked) (n : ℕ) (text : List ℕ) → c ≡ checked.Sound n
    → IfSome known (λ b. IsFirst b c) → IfSome known (λ b. text ≡ listing (faults b)) → IfSome known (λ b. text ≡ [])
bare None c n text is first list = tt
bare (Some b) c n text is first list = list ∙ sound_first b c n is first

is_count : (known old new : Option (List ℕ)) (c : Checked) (n : ℕ) → c ≡ checked.Sound n
    → (l : Lists known old new c) → IsCount known (l.text ++ records_text n)
is_count known old new c n is l = record {
  records = n;
  read = subst (λ (k : Checked). IfSome known (λ b. IsFirst b k)) is l.first;
  listed = l.text;
  bare = bare known c n l.text is l.first l.list;
  parts = refl;
}

-- the list of a file with a fault
pub all_listed : (known old new : Option (List ℕ)) (c : Checked) (t : TreeFault) → c ≡ checked.Faulty t
    → Lists known old new c → Listed known old new (fault_view t)
all_listed known old new c t is l = record {
  text = l.text;
  fault = subst (λ (k : Checked). IfSome known (λ b. IsFirst b k)) is l.first;
  list = l.list;
  written = l.written;
}

-- what was listed, and then a prefix of the rest
joined : (old mid new : Option (List ℕ)) (front back : List ℕ) → Appends old mid front
    → AppendsBeginning mid new back → AppendsBeginning old new (front ++ back)
joined old mid new front back one two = (
  length front + two.0,
  omega (arith, two.1, length-append front back),
  subst (Appends old new) (sym (take-append-add front back two.0))
      (Appends-trans old mid new front (take two.0 back) one two.2),
)

pub counted : (known old mid new : Option (List ℕ)) (c : Checked) (n : ℕ) → c ≡ checked.Sound n
    → Lists known old mid c → Appends mid new (records_text n) → Counted known old new
counted known old mid new c n is l told = (
  l.text ++ records_text n,
  is_count known old mid c n is l,
  Appends-trans old mid new l.text (records_text n) l.written told,
)

pub counting : (known old mid new : Option (List ℕ)) (c : Checked) (n : ℕ) (Failed : Type 0) (f : Fault)
    → c ≡ checked.Sound n → Lists known old mid c → NotWritten Failed f → AppendsBeginning mid new (records_text n)
    → Counting known old new Failed f
counting known old mid new c n Failed f is l why told = (
  l.text ++ records_text n,
  is_count known old mid c n is l,
  why,
  joined old mid new l.text (records_text n) l.written told,
)
