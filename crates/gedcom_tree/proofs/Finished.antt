-- What a reader's fields come to once the line that has not ended is added.
use Rattle.std.proofs.Common.{◌≡◌, ℕ, true, false, List, [], ◌∷◌, refl, sym, ap, ◌∙◌, None, Ok, Err, Result}
use Rattle.gedcom_rules.specs.Rules.{Progress}
use Rattle.gedcom_rules.specs.Faults.{Fault}
use Rattle.gedcom_rules.specs.Judging.{judge, advance, unended}
use Rattle.gedcom_rules.specs.Views.{progress}
use Rattle.gedcom_tree.specs.Forest.{Item}
use Rattle.gedcom_tree.specs.Reading.{
  Nodes,
  Trace,
  grow,
  grown,
  progress_from,
  trace_run,
  traced,
  trace_advance,
  ended,
  finished,
}
use Rattle.gedcom_tree.specs.declared.ended.Lines.{Lines}
use Rattle.gedcom_tree.specs.Lines.{Leads, reader_view, trace_view, nodes_so_far}
use Rattle.gedcom_tree.proofs.Traced.{traced_advance}
use Rattle.gedcom_tree.proofs.Led.{run_one}
use Rattle.gedcom_tree.proofs.Gathered.{grown_nil, grown_cons}

pub grown_one : (g : Nodes) (p : List ℕ) → grow g p ≡ grown g (p ∷ [])
grown_one g p = sym (grown_cons g p [] ∙ grown_nil (grow g p))

judged_one : (t : Trace) (p : List ℕ) (r : Result Trace Fault) → trace_run t (p ∷ []) ≡ r
    → advance (progress_from t) (judge (progress_from t) p) ≡ traced r
judged_one t p r e =
    sym (traced_advance t (judge (progress_from t) p))
    ∙ ap traced (sym (run_one t (progress_from t) p (trace_advance t (judge (progress_from t) p)) refl refl) ∙ e)

finished_run : (s : Lines) (rest : List ℕ) (total : ℕ) (r : Result Trace Fault) → trace_run (trace_view s) (rest ∷ [])
    ≡ r → finished (reader_view s rest total None) ≡ ended (grown (nodes_so_far s) (rest ∷ [])).items (traced r)
unfolding finished
finished_run s rest total r e =
    ap (λ (g : Nodes). ended g.items
    (advance (progress_from (trace_view s)) (judge (progress_from (trace_view s)) rest)))
    (grown_one (nodes_so_far s) rest)
    ∙ ap (ended (grown (nodes_so_far s) (rest ∷ [])).items) (judged_one (trace_view s) rest r e)

pub finished_bad : (s : Lines) (rest : List ℕ) (total : ℕ) (f : Fault) → trace_run (trace_view s) (rest ∷ []) ≡ Err f
    → finished (reader_view s rest total None) ≡ Err f
finished_bad s rest total f e = finished_run s rest total (Err f) e

ended_at : (items : List Item) (p q : Progress) → p ≡ q → ended items (Ok p) ≡ ended items (Ok q)
ended_at items p q e = ap (λ (x : Progress). ended items (Ok x)) e

finished_led : (s new : Lines) (rest : List ℕ) (total : ℕ) → Leads s new (rest ∷ [])
    → finished (reader_view s rest total None) ≡ ended (nodes_so_far new).items (Ok (progress new.seen))
finished_led s new rest total l =
    finished_run s rest total (Ok (trace_view new)) l.trace
    ∙ ap (λ (g : Nodes). ended g.items (Ok (progress_from (trace_view new)))) (sym l.nodes)
    ∙ ended_at (nodes_so_far new).items (progress_from (trace_view new)) (progress new.seen) l.sound.traced

ended_done : (items : List Item) (p : Progress) → p.done ≡ true → ended items (Ok p) ≡ Ok items
ended_done items p d = rw d refl

ended_open : (items : List Item) (p : Progress) (f : Fault) → p.done ≡ false → f ≡ unended p
    → ended items (Ok p) ≡ Err f
ended_open items p f d e = rw d (ap (λ (x : Fault). Err x) (sym e))

pub finished_ok : (s new : Lines) (rest : List ℕ) (total : ℕ) → Leads s new (rest ∷ [])
    → (progress new.seen).done ≡ true → finished (reader_view s rest total None) ≡ Ok (nodes_so_far new).items
finished_ok s new rest total l d = finished_led s new rest total l ∙ ended_done (nodes_so_far new).items
    (progress new.seen) d

pub finished_end : (s new : Lines) (rest : List ℕ) (total : ℕ) (f : Fault) → Leads s new (rest ∷ [])
    → ((progress new.seen).done ≡ false) × (f ≡ unended (progress new.seen))
    → finished (reader_view s rest total None) ≡ Err f
finished_end s new rest total f l d = finished_led s new rest total l ∙ ended_open (nodes_so_far new).items
    (progress new.seen) f d.0 d.1
