-- Repositories, sources and citations that are read from lines keep the rules on one record.
use Rattle.std.proofs.Common.{◌≡◌, ℕ, ◌+◌, true, [], ◌∷◌, ◌++◌, refl, sym, subst, arith}
use Rattle.std.specs.Prelude.{Option, Some, None, IfSome, ◌&&◌, codes, option_map}
use Rattle.std.specs.List.{flat_map}
use Rattle.std.proofs.lemmas.Bool.{and_parts}
use Rattle.stored_lines.specs.Tree.{Tree}
use Rattle.stored_lines.specs.Line.{Line, Lines}
use Rattle.record_kinds.specs.Model as model
use Rattle.record_kinds.specs.declared.record.Record.{Record}
use Rattle.record_kinds.specs.declared.record.Record.TheVariants as kind
use Rattle.record_fields.specs.Words.{quality_of}
use Rattle.record_text.specs.Text.{IsText}
use Rattle.record_shapes.specs.declared.field.Field.{Field}
use Rattle.record_shapes.specs.Fields.{
  a_call_number,
  a_holding,
  a_name,
  a_page,
  a_publisher,
  a_quality,
  a_title,
  an_author,
  carried,
  citation_field,
  holding_field,
  is_same,
  repo_field,
  row,
  source_field,
}
use Rattle.record_shapes.specs.Forms.{Known, below, is_bare, is_some, tagged, text_of}
use Rattle.record_shapes.specs.Levels.{AreWithin, room_below}
use Rattle.record_shapes.specs.Lists.{EachOf}
use Rattle.record_shapes.specs.Picking.{all_of, first, is_left}
use Rattle.record_shapes.specs.Reading.{citation_from, holding_from, read_by, repo_from, source_from}
use Rattle.record_shapes.specs.Untaken.{AreUntaken, citation_leaves, holding_leaves, repo_leaves, source_leaves}
use Rattle.archive_state.specs.Texts.{line_texts, there}
use Rattle.imports.specs.Read.{IsLine, IsRead}
use Rattle.imports.proofs.Fine.{
  AreLines,
  below_lines,
  each_left,
  each_of,
  lines_deeper,
  lines_tags,
  lines_texts,
  lines_within,
  mapped_lines,
  text_of_field,
}
use Rattle.imports.proofs.Left.{all_find, first_is, left_untaken, row_is, row_next, some_text}
use Rattle.record_shapes.proofs.Each.{each_both, each_flat}

-- ---- repositories
repo_leaves_it : (r : model.Repo) (x : Field) → is_left (a_name ∷ []) x ≡ true
    → (x ≡ a_name → is_some r.name ≡ true) → repo_leaves r x ≡ true
repo_leaves_it r carried e h = refl
repo_leaves_it r a_name e h = h refl
repo_leaves_it r _ e h = absurd cc

pub repo_read : (earlier known : Known) (owner : Option Record) (ts : Lines) → AreLines 98 ts
    → IsRead earlier known owner (kind.Repo (repo_from ts))
repo_read earlier known owner ts h =
    let r : model.Repo = repo_from ts in
    let lines : AreLines 98 r.carried = each_left (IsLine 98) repo_field (a_name ∷ []) ts h in
    record {
      normal = tt;
      once = tt;
      of_tags = lines_tags 98 r.carried lines;
      trailers = tt;
      of_texts = each_both IsText (there r.name) (flat_map line_texts r.carried)
          (text_of_field 98 repo_field a_name ts h) (lines_texts 98 r.carried lines);
      events = tt;
      mentions = tt;
      untaken = left_untaken repo_field (a_name ∷ []) (repo_leaves r) ts ts
          (λ t finds e. repo_leaves_it r (repo_field t) e
          (λ is. some_text (first (all_of repo_field a_name ts)) (finds a_name is))) (all_find repo_field ts);
      shapes = tt;
      room = lines_within 98 r.carried lines;
    }

-- ---- sources
holding_leaves_it : (r : model.Holding) (x : Field) → is_left (a_call_number ∷ []) x ≡ true
    → (x ≡ a_call_number → is_some r.call_number ≡ true) → holding_leaves r x ≡ true
holding_leaves_it r carried e h = refl
holding_leaves_it r a_call_number e h = h refl
holding_leaves_it r _ e h = absurd cc

holding_untaken : (t : Tree Line)
    → AreUntaken holding_field (holding_leaves (holding_from t)) (holding_from t).carried
holding_untaken t =
    let ts : Lines = below t in
    left_untaken holding_field (a_call_number ∷ []) (holding_leaves (holding_from t)) ts ts
    (λ u finds e. holding_leaves_it (holding_from t) (holding_field u) e
    (λ is. some_text (first (all_of holding_field a_call_number ts)) (finds a_call_number is)))
    (all_find holding_field ts)

holding_lines : (t : Tree Line) → IsLine 98 t → AreLines 97 (holding_from t).carried
holding_lines t h = each_left (IsLine 97) holding_field (a_call_number ∷ []) (below t) (below_lines 97 98 refl t h)

source_leaves_it : (s : model.Source) (x : Field) → is_left (a_title ∷ an_author ∷ a_publisher ∷ []) x ≡ true
    → (x ≡ a_title → is_some s.title ≡ true) → (x ≡ an_author → is_some s.author ≡ true)
    → (x ≡ a_publisher → is_some s.publisher ≡ true) → source_leaves s x ≡ true
source_leaves_it s carried e h k l = refl
source_leaves_it s a_title e h k l = h refl
source_leaves_it s an_author e h k l = k refl
source_leaves_it s a_publisher e h k l = l refl
source_leaves_it s _ e h k l = absurd cc

pub source_read : (earlier known : Known) (owner : Option Record) (ts : Lines) → AreLines 98 ts
    → IsRead earlier known owner (kind.Source (source_from known ts))
source_read earlier known owner ts h =
    let field : Tree Line → Field = source_field known in
    let s : model.Source = source_from known ts in
    let of : Lines = all_of field a_holding ts in
    let kept : AreLines 98 of = each_of (IsLine 98) field a_holding ts h in
    let lines : AreLines 98 s.carried = each_left (IsLine 98) field (a_title ∷ an_author ∷ a_publisher ∷ []) ts h in
    let held : EachOf (λ (x : model.Holding). AreLines 97 x.carried) s.holdings = mapped_lines 98
    (λ (x : model.Holding). AreLines 97 x.carried) holding_from holding_lines of kept in
    let all_held : AreLines 98 (flat_map (λ (x : model.Holding). x.carried) s.holdings) =
    each_flat (IsLine 98) (λ (x : model.Holding). x.carried) s.holdings
    (mapped_lines 98 (λ (x : model.Holding). AreLines 98 x.carried) holding_from
    (λ t k. lines_deeper 97 98 (omega arith) (holding_from t).carried (holding_lines t k)) of kept) in
    let all : AreLines 98 (flat_map (λ (x : model.Holding). x.carried) s.holdings ++ s.carried) =
    each_both (IsLine 98) (flat_map (λ (x : model.Holding). x.carried) s.holdings) s.carried all_held lines in
    let numbers : EachOf IsText (flat_map (λ (x : model.Holding). there x.call_number) s.holdings) =
    each_flat IsText (λ (x : model.Holding). there x.call_number) s.holdings
    (mapped_lines 98 (λ (x : model.Holding). EachOf IsText (there x.call_number)) holding_from
    (λ t k. text_of_field 97 holding_field a_call_number (below t) (below_lines 97 98 refl t k)) of kept) in
    record {
      normal = tt;
      once = tt;
      of_tags = lines_tags 98 _ all;
      trailers = tt;
      of_texts = each_both IsText (there s.title ++ (there s.author
          ++ (there s.publisher ++ flat_map (λ (x : model.Holding). there x.call_number) s.holdings))) _
          (each_both IsText (there s.title) _ (text_of_field 98 field a_title ts h)
          (each_both IsText (there s.author) _ (text_of_field 98 field an_author ts h)
          (each_both IsText (there s.publisher) _ (text_of_field 98 field a_publisher ts h) numbers)))
          (lines_texts 98 _ all);
      events = tt;
      mentions = tt;
      untaken = (
        mapped_lines 98 (λ (x : model.Holding). AreUntaken holding_field (holding_leaves x) x.carried) holding_from
            (λ t k. holding_untaken t) of kept,
        left_untaken field (a_title ∷ an_author ∷ a_publisher ∷ []) (source_leaves s) ts ts
            (λ t finds e. source_leaves_it s (field t) e
            (λ is. some_text (first (all_of field a_title ts)) (finds a_title is))
            (λ is. some_text (first (all_of field an_author ts)) (finds an_author is))
            (λ is. some_text (first (all_of field a_publisher ts)) (finds a_publisher is))) (all_find field ts),
      );
      shapes = tt;
      room = (
        mapped_lines 98 (λ (x : model.Holding). AreWithin 97 x.carried) holding_from
            (λ t k. lines_within 97 (holding_from t).carried (holding_lines t k)) of kept,
        lines_within 98 s.carried lines,
      );
    }

-- ---- citations
-- the word of a quality is one
quality_met : (t : Tree Line) → is_same (citation_field t) a_quality ≡ true → is_some (quality_of (text_of t)) ≡ true
quality_met t e =
    let page = tagged (codes "PAGE") t && is_bare t in
    let quality = tagged (codes "QUAY") t && (is_bare t && is_some (quality_of (text_of t))) in
    let met : quality ≡ true = row_is quality a_quality carried a_quality
    (row_next page a_page (row quality a_quality carried) a_quality e refl) refl in
    (and_parts (is_bare t) (is_some (quality_of (text_of t)))
    (and_parts (tagged (codes "QUAY") t) (is_bare t && is_some (quality_of (text_of t))) met).1).1

quality_there : (o : Option (Tree Line)) → IfSome o (λ t. is_same (citation_field t) a_quality ≡ true)
    → is_some o ≡ true → is_some (read_by quality_of (option_map text_of o)) ≡ true
quality_there None h e = absurd cc
quality_there (Some t) h e = quality_met t h

citation_leaves_it : (c : model.Citation) (x : Field) → is_left (a_page ∷ a_quality ∷ []) x ≡ true
    → (x ≡ a_page → is_some c.page ≡ true) → (x ≡ a_quality → is_some c.quality ≡ true) → citation_leaves c x ≡ true
citation_leaves_it c carried e h k = refl
citation_leaves_it c a_page e h k = h refl
citation_leaves_it c a_quality e h k = k refl
citation_leaves_it c _ e h k = absurd cc

pub citation_read : (earlier known : Known) (owner : Option Record) (n m : ℕ) → room_below owner ≡ n → m ≡ n + 1
    → (t : Tree Line) → IsLine m t → IsRead earlier known owner (kind.Citation (citation_from t))
citation_read earlier known owner n m room e t h =
    let ts : Lines = below t in
    let c : model.Citation = citation_from t in
    let fine : AreLines n ts = below_lines n m e t h in
    let lines : AreLines n c.carried = each_left (IsLine n) citation_field (a_page ∷ a_quality ∷ []) ts fine in
    record {
      normal = tt;
      once = tt;
      of_tags = lines_tags n c.carried lines;
      trailers = tt;
      of_texts = each_both IsText (there c.page) (flat_map line_texts c.carried)
          (text_of_field n citation_field a_page ts fine) (lines_texts n c.carried lines);
      events = tt;
      mentions = tt;
      untaken = left_untaken citation_field (a_page ∷ a_quality ∷ []) (citation_leaves c) ts ts
          (λ u finds k. citation_leaves_it c (citation_field u) k
          (λ is. some_text (first (all_of citation_field a_page ts)) (finds a_page is))
          (λ is. quality_there (first (all_of citation_field a_quality ts)) (first_is citation_field a_quality ts)
          (finds a_quality is))) (all_find citation_field ts);
      shapes = tt;
      room = subst (λ k. AreWithin k c.carried) (sym room) (lines_within n c.carried lines);
    }
