-- Parts of a report, one after the other.
use Rattle.std.proofs.Common.{◌≡◌, List, [], ◌++◌, ap, ◌∙◌}
use Rattle.std.proofs.lemmas.List.{append_assoc}
use Rattle.receipts.specs.declared.report.ReportLine.{ReportLine}
use Rattle.gedcom_tree.specs.Forest.{Item}
use Rattle.import_definitions.specs.Lines.{lined_roots, roots}
use Rattle.import_definitions.specs.Nodes.{FileNode}
use Rattle.import_definitions.specs.Reports.{said_of_roots}
use Rattle.import_definitions.specs.Roots.{candidates, kept}
use Rattle.import_definitions.specs.Report.{in_order, report, said_of_lines, said_of_members}

-- a part that is said in other words, and one after it
pub two_parts : {X : Type 0} {a b : List X} (old last mid new : List X) → a ≡ b → mid ≡ old ++ a → new ≡ mid ++ last
    → new ≡ old ++ (b ++ last)
two_parts {X = X} {a = a} {b = b} old last mid new same one two =
    two ∙ ap (λ l. l ++ last) one ∙ append_assoc old a last ∙ ap (λ l. old ++ (l ++ last)) same

-- all that is said of a file, put in order, is its report
pub reported : (f : List Item) (ks : List FileNode) (begun one two out : List ReportLine) → ks ≡ kept (candidates f)
    → begun ≡ [] → one ≡ begun ++ said_of_roots (candidates f)
    → two ≡ one ++ (said_of_members (roots ks) (lined_roots ks) ++ said_of_lines ks) → out ≡ in_order two
    → out ≡ report f
unfolding report
reported f ks begun one two out same none first second last =
    last ∙ ap in_order second
    ∙ ap (λ l. in_order (l ++ (said_of_members (roots ks) (lined_roots ks) ++ said_of_lines ks)))
    (first ∙ ap (λ l. l ++ said_of_roots (candidates f)) none)
    ∙ ap (λ (k : List FileNode). in_order (said_of_roots (candidates f)
    ++ (said_of_members (roots k) (lined_roots k) ++ said_of_lines k))) same
