-- Pieces after pieces: where they lead, and what they are blamed for.
use Rattle.std.proofs.Common.{◌≡◌, ℕ, ◌<◌, List, [], ◌∷◌, ◌++◌, length, sym, ap, ◌∙◌, Option, Some, Err}
use Rattle.gedcom_rules.specs.declared.fault.TreeKind.TheVariants.{TooLong}
use Rattle.gedcom_rules.specs.Faults.{Fault, max_line}
use Rattle.gedcom_rules.specs.Judging.{fault_behind, open_fault}
use Rattle.gedcom_rules.specs.Views.{progress}
use Rattle.gedcom_rules.proofs.Walks.{or_err}
use Rattle.gedcom_tree.specs.Reading.{Nodes, grown, trace_run, traced}
use Rattle.gedcom_tree.specs.declared.ended.Lines.{Lines}
use Rattle.gedcom_tree.specs.Lines.{IsSound, Leads, Refuses, Blames, trace_view, nodes_so_far}
use Rattle.gedcom_tree.proofs.Gathered.{grown-append, grown_nil}
use Rattle.gedcom_tree.proofs.Led.{run_on, run_bad, run_none, run_long, blamed_early, blamed_long}

pub leads_none : (s : Lines) → IsSound s → Leads s s []
leads_none s h = record { trace = run_none (trace_view s); nodes = sym (grown_nil (nodes_so_far s)); sound = h }

pub leads_on : (old mid new : Lines) (xs ys : List (List ℕ)) → Leads old mid xs → Leads mid new ys
    → Leads old new (xs ++ ys)
leads_on old mid new xs ys a b = record {
  trace = run_on (trace_view old) (trace_view mid) xs ys a.trace ∙ b.trace;
  nodes = b.nodes ∙ ap (λ (g : Nodes). grown g ys) a.nodes ∙ sym (grown-append (nodes_so_far old) xs ys);
  sound = b.sound;
}

-- the first pieces are refused, so all are
pub refuses_first : (s : Lines) (xs ys : List (List ℕ)) (rest : List ℕ) (f : Fault) → Refuses s xs f
    → Blames s (xs ++ ys) rest f
refuses_first s xs ys rest f =
    or_err (λ h next. blamed_early (trace_view s) (xs ++ ys) f rest next (run_bad (trace_view s) f xs ys h))

pub refuses_last : (s mid : Lines) (xs ys : List (List ℕ)) (rest : List ℕ) (f : Fault) → Leads s mid xs
    → Refuses mid ys f → Blames s (xs ++ ys) rest f
refuses_last s mid xs ys rest f l =
    or_err (λ h next. blamed_early (trace_view s) (xs ++ ys) f rest next
    (run_on (trace_view s) (trace_view mid) xs ys l.trace ∙ h))

-- a piece is too long
pub refuses_long : (s : Lines) (p : List ℕ) (f : Fault) → IsSound s → (f ≡ fault_behind (progress s.seen).count TooLong)
    × (max_line < length p) → trace_run (trace_view s) (p ∷ []) ≡ Err f
refuses_long s p f h k = run_long (progress s.seen) _ p f h.traced k.0 k.1

-- what is open after the pieces is too long
pub blames_open : (s new : Lines) (ps : List (List ℕ)) (rest : List ℕ) (f : Fault) (next : Option ℕ) → Leads s new ps
    → (f ≡ fault_behind (progress new.seen).count TooLong) × (max_line < length rest)
    → open_fault rest next (traced (trace_run (trace_view s) ps)) ≡ Some f
blames_open s new ps rest f next l k = blamed_long (trace_view s) (progress new.seen) _ ps f rest next l.trace k.0 k.1
