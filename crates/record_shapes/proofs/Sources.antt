-- What is read from the lines of a repository and of a source is that repository and that source.
use Rattle.std.specs.Prelude.{◌≡◌, List, [], ◌∷◌, ◌++◌, map, true, false, Option, None, codes, refl}
use Rattle.std.specs.List.{filter}
use Rattle.std.proofs.Common.{ap, ◌∙◌, append-nil}
use Rattle.std.proofs.lemmas.List.Elements.{filter-append}
use Rattle.stored_lines.specs.Tree.{forest_of, list_of}
use Rattle.stored_lines.proofs.Back.{list_of_forest_of}
use Rattle.record_kinds.specs.Model as model
use Rattle.record_shapes.specs.Lists.{EachOf}
use Rattle.record_shapes.specs.Forms.{Known, is_some}
use Rattle.record_shapes.specs.Fields.{
  Field,
  a_call_number,
  a_holding,
  a_name,
  a_publisher,
  a_title,
  an_author,
  carried,
  holding_field,
  repo_field,
  row,
  source_field,
}
use Rattle.record_shapes.specs.Picking.{all_of, is_left, left, text_at, without_first}
use Rattle.record_shapes.specs.Shapes.{holding_line, repo_lines, source_lines, text_lines}
use Rattle.record_shapes.specs.Reading.{holding_from, repo_from, source_from}
use Rattle.record_shapes.specs.Untaken.{AreUntaken, holding_leaves, repo_leaves, source_leaves}
use Rattle.record_shapes.specs.Readable.{IsReadableHolding, IsReadableSource}
use Rattle.record_shapes.proofs.Picked.{
  Are,
  kept_all,
  kept_none,
  all_skip,
  all_take,
  lacks,
  text_are,
  out_first,
  text_here,
  text_skip,
  left_more,
}

none-of : {A : Type 0} (o : Option A) → o ≡ None → is_some o ≡ false
none-of o e = ap is_some e

-- ---- repositories
repo-kept : (r : model.Repo) (x : Field) → repo_leaves r x ≡ true → is_left (a_name ∷ []) x ≡ true
repo-kept r carried e = refl
repo-kept r a_name e = refl
repo-kept r _ e = absurd cc

pub repo_back : (r : model.Repo) → AreUntaken repo_field (repo_leaves r) r.carried → repo_from (repo_lines r) ≡ r
repo_back r h =
    let no-name : r.name ≡ None → all_of repo_field a_name r.carried ≡ [] = λ e. lacks repo_field
    (repo_leaves r) a_name r.carried h (none-of r.name e) in
    let rest : left repo_field (a_name ∷ []) (repo_lines r) ≡ r.carried =
    ap (filter (λ t. is_left (a_name ∷ []) (repo_field t)))
    (out_first repo_field a_name (codes "NAME") r.name r.carried (λ t e. refl) refl no-name)
    ∙ kept_all repo_field (is_left (a_name ∷ [])) r.carried
    (left_more repo_field (repo_leaves r) (is_left (a_name ∷ [])) r.carried (repo-kept r) h) in
    λ i. record {
      name = text_here repo_field a_name (codes "NAME") r.name r.carried (λ t e. refl) refl no-name i;
      carried = rest i;
    }

-- ---- holdings
holding-kept : (r : model.Holding) (x : Field) → holding_leaves r x ≡ true → is_left (a_call_number ∷ []) x ≡ true
holding-kept r carried e = refl
holding-kept r a_call_number e = refl
holding-kept r _ e = absurd cc

pub holding_back : (h : model.Holding) → AreUntaken holding_field (holding_leaves h) h.carried
    → holding_from (holding_line h) ≡ h
holding_back r h =
    let ls = text_lines (codes "CALN") r.call_number ++ r.carried in
    let flat : list_of (forest_of ls) ≡ ls = list_of_forest_of ls in
    let no-call : r.call_number ≡ None → all_of holding_field a_call_number r.carried ≡ [] = λ e. lacks holding_field
    (holding_leaves r) a_call_number r.carried h (none-of r.call_number e) in
    let rest : left holding_field (a_call_number ∷ []) ls ≡ r.carried =
    ap (filter (λ t. is_left (a_call_number ∷ []) (holding_field t)))
    (out_first holding_field a_call_number (codes "CALN") r.call_number r.carried (λ t e. refl) refl no-call)
    ∙ kept_all holding_field (is_left (a_call_number ∷ [])) r.carried
    (left_more holding_field (holding_leaves r) (is_left (a_call_number ∷ [])) r.carried (holding-kept r) h) in
    λ i. record {
      repo = r.repo;
      call_number = (ap (text_at holding_field a_call_number) flat ∙ text_here holding_field a_call_number
          (codes "CALN") r.call_number r.carried (λ t e. refl) refl no-call) i;
      carried = (ap (left holding_field (a_call_number ∷ [])) flat ∙ rest) i;
    }

holdings-back : (known : Known) (hs : List model.Holding) → EachOf (IsReadableHolding known) hs
    → map holding_from (map holding_line hs) ≡ hs
holdings-back known [] h = refl
holdings-back known (x ∷ xs) h = λ i. holding_back x h.0.1 i ∷ holdings-back known xs h.1 i

holdings-are : (known : Known) (hs : List model.Holding) → EachOf (IsReadableHolding known) hs
    → Are (source_field known) a_holding (map holding_line hs)
holdings-are known [] h = tt
holdings-are known (x ∷ xs) h = (ap (λ b. row b a_holding carried) h.0.0, holdings-are known xs h.1)

-- ---- sources
source-kept : (s : model.Source) (x : Field) → source_leaves s x ≡ true
    → is_left (a_title ∷ an_author ∷ a_publisher ∷ []) x ≡ true
source-kept s carried e = refl
source-kept s a_title e = refl
source-kept s an_author e = refl
source-kept s a_publisher e = refl
source-kept s _ e = absurd cc

pub source_back : (known : Known) (s : model.Source) → IsReadableSource known s → source_from known (source_lines s) ≡ s
source_back known s h =
    let f = source_field known in
    let once = a_title ∷ an_author ∷ a_publisher ∷ [] in
    let hs = map holding_line s.holdings in
    let ps = text_lines (codes "PUBL") s.publisher in
    let as_ = text_lines (codes "AUTH") s.author in
    let ts = text_lines (codes "TITL") s.title in
    let are-hs : Are f a_holding hs = holdings-are known s.holdings h.0 in
    let are-ps : Are f a_publisher ps = text_are f a_publisher (codes "PUBL") s.publisher (λ t e. refl) in
    let are-as : Are f an_author as_ = text_are f an_author (codes "AUTH") s.author (λ t e. refl) in
    let are-ts : Are f a_title ts = text_are f a_title (codes "TITL") s.title (λ t e. refl) in
    let no-publisher : s.publisher ≡ None → all_of f a_publisher (hs ++ s.carried) ≡ [] = λ e.
    all_skip f a_publisher a_holding hs s.carried are-hs refl ∙ lacks f (source_leaves s) a_publisher s.carried h.1
    (none-of s.publisher e) in
    let no-author : s.author ≡ None → all_of f an_author (ps ++ (hs ++ s.carried)) ≡ [] = λ e.
    all_skip f an_author a_publisher ps (hs ++ s.carried) are-ps refl
    ∙ all_skip f an_author a_holding hs s.carried are-hs refl ∙ lacks f (source_leaves s) an_author s.carried h.1
    (none-of s.author e) in
    let no-title : s.title ≡ None → all_of f a_title (as_ ++ (ps ++ (hs ++ s.carried))) ≡ [] = λ e.
    all_skip f a_title an_author as_ (ps ++ (hs ++ s.carried)) are-as refl ∙ all_skip f a_title a_publisher ps
    (hs ++ s.carried) are-ps refl
    ∙ all_skip f a_title a_holding hs s.carried are-hs refl ∙ lacks f (source_leaves s) a_title s.carried h.1
    (none-of s.title e) in
    let title-out : without_first f a_title (source_lines s) ≡ as_ ++ (ps ++ (hs ++ s.carried)) = out_first f a_title
    (codes "TITL") s.title (as_ ++ (ps ++ (hs ++ s.carried))) (λ t e. refl) refl no-title in
    let author-out : without_first f an_author (as_ ++ (ps ++ (hs ++ s.carried))) ≡ ps ++ (hs ++ s.carried) = out_first
    f an_author (codes "AUTH") s.author (ps ++ (hs ++ s.carried)) (λ t e. refl) refl no-author in
    let publisher-out : without_first f a_publisher (ps ++ (hs ++ s.carried)) ≡ hs ++ s.carried = out_first f
    a_publisher (codes "PUBL") s.publisher (hs ++ s.carried) (λ t e. refl) refl no-publisher in
    λ i. record {
      title = text_here f a_title (codes "TITL") s.title (as_ ++ (ps ++ (hs ++ s.carried)))
          (λ t e. refl) refl no-title i;
      author = (text_skip f an_author a_title ts (as_ ++ (ps ++ (hs ++ s.carried))) are-ts refl
          ∙ text_here f an_author (codes "AUTH") s.author (ps ++ (hs ++ s.carried)) (λ t e. refl) refl no-author) i;
      publisher = (text_skip f a_publisher a_title ts (as_ ++ (ps ++ (hs ++ s.carried))) are-ts refl
          ∙ text_skip f a_publisher an_author as_ (ps ++ (hs ++ s.carried)) are-as refl
          ∙ text_here f a_publisher (codes "PUBL") s.publisher (hs ++ s.carried) (λ t e. refl) refl no-publisher) i;
      holdings = (ap (map holding_from) (all_skip f a_holding a_title ts (as_ ++ (ps ++ (hs ++ s.carried))) are-ts refl
          ∙ all_skip f a_holding an_author as_ (ps ++ (hs ++ s.carried)) are-as refl
          ∙ all_skip f a_holding a_publisher ps (hs ++ s.carried) are-ps refl
          ∙ all_take f a_holding hs s.carried are-hs refl (lacks f (source_leaves s) a_holding s.carried h.1 refl)
          ∙ append-nil hs) ∙ holdings-back known s.holdings h.0) i;
      carried = (ap (λ us. filter (λ t. is_left once (f t))
          (without_first f a_publisher (without_first f an_author us))) title-out
          ∙ ap (λ us. filter (λ t. is_left once (f t)) (without_first f a_publisher us)) author-out
          ∙ ap (filter (λ t. is_left once (f t))) publisher-out
          ∙ filter-append (λ t. is_left once (f t)) hs s.carried
          ∙ (λ j. kept_none f (is_left once) a_holding hs are-hs refl j ++ kept_all f (is_left once) s.carried
          (left_more f (source_leaves s) (is_left once) s.carried (source-kept s) h.1) j)) i;
    }
