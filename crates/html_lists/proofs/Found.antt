-- What a search finds by the names that were made once.
use Rattle.std.proofs.Common.{◌≡◌, ◌++◌, ℕ, Bool, true, false, List, [], ◌∷◌, map, cond, ap, ap₂, refl, ◌∙◌}
use Rattle.std.specs.Prelude.{Option, Some, None}
use Rattle.std.specs.List.{filter, list_any}
use Rattle.std.proofs.lemmas.List.{map-append}
use Rattle.std.proofs.lemmas.List.Elements.{filter-append}
use Rattle.record_kinds.specs.declared.record.Record.{Record}
use Rattle.searching.specs.Words.{all_occur}
use Rattle.sheets.specs.Gathered.{Gathered}
use Rattle.name_index.specs.Found as index
use Rattle.html_lists.specs.Indexed.{indexed, named, names_at}
use Rattle.html_lists.specs.Searches.{found, found_of, is_found}

-- a record is found by its names
by_names : (words : List (List ℕ)) (r : Option Record) → list_any (all_occur words) (names_at r) ≡ is_found words r
by_names words None = refl
by_names words (Some r) = refl

module _ (g : Gathered) (words : List (List ℕ)) where
  among : (numbers : List ℕ) → index.found_by words (named g numbers) ≡ found_of g words numbers
  among [] = refl
  among (n ∷ ns) = ap (λ (b : Bool). map (λ (e : ℕ × List (List ℕ)). e.0)
      (cond b ((n, names_at (g.at n)) ∷ filter (index.is_named words) (named g ns))
      (filter (index.is_named words) (named g ns)))) (by_names words (g.at n))
      ∙ here (is_found words (g.at n)) (among ns)
    where
      here : (b : Bool) → index.found_by words (named g ns) ≡ found_of g words ns
          → map (λ (e : ℕ × List (List ℕ)). e.0)
          (cond b ((n, names_at (g.at n)) ∷ filter (index.is_named words) (named g ns))
          (filter (index.is_named words) (named g ns))) ≡ cond b (n ∷ found_of g words ns) (found_of g words ns)
      here true rest = ap (λ (l : List ℕ). n ∷ l) rest
      here false rest = rest

  parted : (xs ys : List (ℕ × List (List ℕ)))
      → index.found_by words (xs ++ ys) ≡ index.found_by words xs ++ index.found_by words ys
  parted xs ys = ap (map (λ (e : ℕ × List (List ℕ)). e.0)) (filter-append (index.is_named words) xs ys)
      ∙ map-append (λ (e : ℕ × List (List ℕ)). e.0) (filter (index.is_named words) xs)
      (filter (index.is_named words) ys)

  all : index.found_by words (indexed g)
      ≡ found_of g words g.persons ++ (found_of g words g.sources ++ found_of g words g.entries)
  all = parted (named g g.persons) (named g g.sources ++ named g g.entries)
      ∙ ap₂ ◌++◌ (among g.persons) (parted (named g g.sources) (named g g.entries)
      ∙ ap₂ ◌++◌ (among g.sources) (among g.entries))

-- the index finds what a search finds
pub index_finds : (g : Gathered) (words : List (List ℕ)) → index.found words (indexed g) ≡ found g words
index_finds g [] = refl
index_finds g (word ∷ words) = all g (word ∷ words)
