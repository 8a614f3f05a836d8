-- What is put back of places, repositories, sources and citations: rules of our own.
use Rattle.std.specs.Prelude.{ℕ, List, [], ◌∷◌, ◌++◌, codes, Option, Some, None}
use Rattle.record_fields.specs.Words.{quality_word}
use Rattle.record_fields.specs.declared.words.Quality.{Quality}
use Rattle.record_kinds.specs.Model as model
use Rattle.put_back.specs.Rows.{Cells, number_cell, put, text_cell}

abbrev pub place_back : ℕ → model.Place → model.Place → List Cells
place_back n old now = put n (codes "name") old.name now.name

-- a text that may be missing: no row takes it away where it was missing before
abbrev pub some_back : ℕ → List ℕ → Option (List ℕ) → Option (List ℕ) → List Cells
some_back n word None now = []
some_back n word (Some old) now = put n word old (text_cell now)

abbrev pub repo_back : ℕ → model.Repo → model.Repo → List Cells
repo_back n old now = some_back n (codes "name") old.name now.name

-- ---- sources: of several repositories the first is meant
abbrev pub held : List model.Holding → Option ℕ
held [] = None
held (h ∷ hs) = Some h.repo

abbrev pub call_cell : List model.Holding → List ℕ
call_cell [] = []
call_cell (h ∷ hs) = text_cell h.call_number

abbrev pub held_put : ℕ → List model.Holding → List model.Holding → List Cells
held_put n old now = put n (codes "repository") (number_cell (held old)) (number_cell (held now))

abbrev pub call_put : ℕ → List model.Holding → List model.Holding → List Cells
call_put n old now = put n (codes "call number") (call_cell old) (call_cell now)

-- a call number needs a repository, so that one comes first, and is taken away last
abbrev pub holdings_back : ℕ → List model.Holding → List model.Holding → List Cells
holdings_back n [] now = call_put n [] now ++ held_put n [] now
holdings_back n (h ∷ hs) now = held_put n (h ∷ hs) now ++ call_put n (h ∷ hs) now

abbrev pub source_back : ℕ → model.Source → model.Source → List Cells
source_back n old now = some_back n (codes "title") old.title now.title
    ++ (put n (codes "author") (text_cell old.author) (text_cell now.author)
    ++ (put n (codes "publisher") (text_cell old.publisher) (text_cell now.publisher)
    ++ holdings_back n old.holdings now.holdings))

-- ---- citations
abbrev pub quality_cell : Option Quality → List ℕ
quality_cell None = []
quality_cell (Some q) = quality_word q

abbrev pub citation_back : ℕ → model.Citation → model.Citation → List Cells
citation_back n old now = put n (codes "page") (text_cell old.page) (text_cell now.page)
    ++ put n (codes "quality") (quality_cell old.quality) (quality_cell now.quality)
