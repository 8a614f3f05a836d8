-- The persons that the lines of a family name, one line after the other.
use Rattle.std.proofs.Common.{◌≡◌, ℕ, Bool, true, false, List, [], ◌∷◌, ◌++◌, refl, sym, ap, ◌∙◌, cond, append_assoc}
use Rattle.std.specs.Prelude.{Option, Some, None, is_some, ◌==◌, ◌||◌, map, option_map}
use Rattle.std.specs.BTreeMap.{BTreeMap}
use Rattle.std.specs.List.{flat_map, slice_get}
use Rattle.std.proofs.lemmas.List.{map-append}
use Rattle.std.proofs.lemmas.Option.{slice_get-map}
use Rattle.stored_lines.specs.Tree.{label}
use Rattle.receipts.specs.declared.report.ReportLine.{ReportLine}
use Rattle.import_definitions.specs.Nodes.{FileNode}
use Rattle.import_definitions.specs.Numbers.{or_else}
use Rattle.file_records.specs.Members.{
  doubled,
  doubled_by,
  doubled_in,
  first_as,
  members_told,
  membership,
  membership_of,
  names_as,
  seen_by,
}
use Rattle.file_records.specs.Taken.{named_in}
use Rattle.file_records.specs.Told.{member_told}
use Rattle.file_records.specs.SideViews.{member_at, member_by, member_in}
use Rattle.file_records.specs.declared.told.Told.{Told}
use Rattle.import_definitions.proofs.Firsts.{or_else-assoc, or_else-none}

-- ---- who is named
pub named_step : (ks : List FileNode) (t : FileNode) (rest ts : List FileNode) (old new all : ℕ → Option Bool)
    → ts ≡ t ∷ rest → ((n : ℕ) → new n ≡ or_else (old n) (names_as n (member_told ks t)))
    → ((n : ℕ) → or_else (old n) (first_as n (members_told ks ts)) ≡ all n) → (n : ℕ)
    → or_else (new n) (first_as n (members_told ks rest)) ≡ all n
named_step ks t rest ts old new all e more so n =
    ap (λ o. or_else o (first_as n (members_told ks rest))) (more n)
    ∙ or_else-assoc (old n) (names_as n (member_told ks t)) (first_as n (members_told ks rest))
    ∙ ap (λ us. or_else (old n) (first_as n (members_told ks us))) (sym e) ∙ so n

-- ---- who was named before
if_named : (b old : Bool) (a : Option Bool) (v : Bool) → is_some a ≡ old
    → is_some (or_else a (cond b (Some v) None)) ≡ (b || old)
if_named true old None v e = refl
if_named false old None v e = e
if_named true old (Some w) v e = refl
if_named false old (Some w) v e = e

seen_as : (o : Option Told) (old : ℕ → Option Bool) (n : ℕ)
    → is_some (or_else (old n) (names_as n o)) ≡ seen_by (λ q. is_some (old q)) o n
seen_as None old n = ap is_some (or_else-none (old n))
seen_as (Some t) old n = if_named (t.other == n) (is_some (old n)) (old n) t.as_partner refl

seen_more : (o : Option Told) (old new : ℕ → Option Bool) → ((n : ℕ) → new n ≡ or_else (old n) (names_as n o))
    → ◌≡◌ {A = ℕ → Bool} (λ n. is_some (new n)) (seen_by (λ q. is_some (old q)) o)
seen_more o old new more = λ i n. (ap is_some (more n) ∙ seen_as o old n) i

pub doubled_step : (ks : List FileNode) (t : FileNode) (rest ts : List FileNode) (old new : ℕ → Option Bool)
    (said after all : List ReportLine) → ts ≡ t ∷ rest
    → ((n : ℕ) → new n ≡ or_else (old n) (names_as n (member_told ks t)))
    → after ≡ said ++ doubled_by (λ n. is_some (old n)) (label t) (member_told ks t)
    → said ++ doubled ks (λ n. is_some (old n)) ts ≡ all → after ++ doubled ks (λ n. is_some (new n)) rest ≡ all
doubled_step ks t rest ts old new said after all e more one so =
    let d : List ReportLine = doubled_by (λ n. is_some (old n)) (label t) (member_told ks t) in
    let behind : List ReportLine = doubled ks (seen_by (λ n. is_some (old n)) (member_told ks t)) rest in
    ap (λ us. us ++ doubled ks (λ n. is_some (new n)) rest) one
    ∙ ap (λ seen. (said ++ d) ++ doubled ks seen rest) (seen_more (member_told ks t) old new more)
    ∙ append_assoc said d behind
    ∙ ap (λ us. said ++ doubled ks (λ n. is_some (old n)) us) (sym e) ∙ so

-- ---- all nodes
module _ (ks : List FileNode) where
  -- the map of one more node
  pub maps_step : (t : FileNode) (rest ts : List FileNode) (ms : List (BTreeMap ℕ Bool)) (m : BTreeMap ℕ Bool)
      (all : List (ℕ → Option Bool)) → ts ≡ t ∷ rest → ((n : ℕ) → member_at m n ≡ membership_of ks t n)
      → map member_at ms ++ map (membership_of ks) ts ≡ all
      → map member_at (ms ++ m ∷ []) ++ map (membership_of ks) rest ≡ all
  maps_step t rest ts ms m all e same so =
      let one : member_at m ≡ membership_of ks t = λ i n. same n i in
      ap (λ us. us ++ map (membership_of ks) rest) (map-append member_at ms (m ∷ []))
      ∙ append_assoc (map member_at ms) (member_at m ∷ []) (map (membership_of ks) rest)
      ∙ ap (λ f. map member_at ms ++ f ∷ map (membership_of ks) rest) one
      ∙ ap (λ us. map member_at ms ++ map (membership_of ks) us) (sym e) ∙ so

  pub said_step : (t : FileNode) (rest ts : List FileNode) (said after all : List ReportLine) → ts ≡ t ∷ rest
      → after ≡ said ++ doubled_in ks t → said ++ flat_map (doubled_in ks) ts ≡ all
      → after ++ flat_map (doubled_in ks) rest ≡ all
  said_step t rest ts said after all e one so =
      ap (λ us. us ++ flat_map (doubled_in ks) rest) one
      ∙ append_assoc said (doubled_in ks t) (flat_map (doubled_in ks) rest)
      ∙ ap (λ us. said ++ flat_map (doubled_in ks) us) (sym e) ∙ so

  called : Option (ℕ → Option Bool) → ℕ → Option Bool
  called None n = None
  called (Some f) n = f n

  by_map : (o : Option (BTreeMap ℕ Bool)) (n : ℕ) → member_by o n ≡ called (option_map member_at o) n
  unfolding called
  by_map None n = refl
  by_map (Some m) n = refl

  by_node : (o : Option FileNode) (n : ℕ) → membership ks o n ≡ called (option_map (membership_of ks) o) n
  unfolding called
  by_node None n = refl
  by_node (Some t) n = refl

  -- the members that maps tell are those that the nodes name
  pub are_named : (ms : List (BTreeMap ℕ Bool)) → map member_at ms ≡ map (membership_of ks) ks
      → member_in ms ≡ named_in ks
  are_named ms e = λ i k n. (by_map (slice_get ms k) n
      ∙ ap (λ o. called o n) (sym (slice_get-map member_at ms k) ∙ ap (λ fs. slice_get fs k) e
      ∙ slice_get-map (membership_of ks) ks k)
      ∙ sym (by_node (slice_get ks k) n)) i
