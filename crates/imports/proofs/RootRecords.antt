-- The record that a node of level 0 is read as, by its tag.
use Rattle.std.proofs.Common.{◌≡◌, ℕ, Bool, true, false, List, refl, sym, ap, ◌∙◌}
use Rattle.std.specs.Prelude.{Option, Some, None, bytes_eq, codes, if◌then◌else◌}
use Rattle.stored_lines.specs.Line.{Line, Lines}
use Rattle.stored_lines.specs.Tree.{Tree, Forest, node, none, list_of}
use Rattle.stored_lines.specs.declared.carried.Value.{Value}
use Rattle.record_kinds.specs.Model as model
use Rattle.record_kinds.specs.declared.record.Record.{Record}
use Rattle.record_kinds.specs.declared.record.Record.TheVariants as kind
use Rattle.record_fields.specs.Bytes.{bytes_are}
use Rattle.archive_state.specs.Links.{a_person, a_repo, a_source, at_level_0, is_wanted}
use Rattle.record_shapes.specs.Entries.{entry_of}
use Rattle.record_shapes.specs.Forms.{below, tag_of}
use Rattle.record_shapes.specs.Reading.{Draft, entry_or_other, place_from, read, registered}
use Rattle.archive_state.specs.Known.{written_tag}
use Rattle.import_definitions.specs.Positions.{known, known_before}
use Rattle.import_definitions.specs.Sides.{draft_at, root_with_sides}
use Rattle.imports.proofs.ReadNodes.{chosen, no_sides}

-- a record of level 0, by the tag of its node
pub record IsOfTag (rs : Lines) (k : ℕ) (ts : Lines) (tag : List ℕ) (r : Record) : Type 0 where
  pub written : written_tag r ≡ tag
  pub level_0 : is_wanted at_level_0 r ≡ true
  pub loc : bytes_eq tag (codes "_LOC") ≡ true → r ≡ kind.Place (place_from (known_before rs k) ts)
  pub no_loc : bytes_eq tag (codes "_LOC") ≡ false → (p : model.Place) → r ≡ kind.Place p → ⊥
  pub repo : bytes_eq tag (codes "REPO") ≡ true → is_wanted a_repo r ≡ true
  pub source : bytes_eq tag (codes "SOUR") ≡ true → is_wanted a_source r ≡ true
  pub person : bytes_eq tag (codes "INDI") ≡ true → is_wanted a_person r ≡ true

-- what a node is read as: a record of no place that is sought, and what is below it
pub record IsRootOf (rs : Lines) (k : ℕ) (ts : Lines) (tag : List ℕ) (t : Tree Draft) : Type 0 where
  pub own : Record
  pub under : Forest Draft
  pub whole : t ≡ node (read own None) under
  pub fits : IsOfTag rs k ts tag own

true_false : (b : Bool) → b ≡ true → b ≡ false → ⊥
true_false b e f = let no : true ≡ false = sym e ∙ f in cc

-- a text is not two
not_both : (tag a b : List ℕ) → bytes_eq tag a ≡ true → bytes_eq a b ≡ false → bytes_eq tag b ≡ true → ⊥
not_both tag a b e apart f = true_false (bytes_eq a b) (ap (λ t. bytes_eq t b) (sym (bytes_are tag a e)) ∙ f) apart

is_written : (tag word : List ℕ) → bytes_eq tag word ≡ true → word ≡ tag
is_written tag word e = sym (bytes_are tag word e)

other_of_tag : (rs : Lines) (k : ℕ) (ts : Lines) (tag : List ℕ) (v : Value) (b : Bool) (e : Option model.Entry)
    → bytes_eq tag (codes "_REG") ≡ b
    → bytes_eq tag (codes "_LOC") ≡ false → bytes_eq tag (codes "REPO") ≡ false → bytes_eq tag (codes "SOUR") ≡ false
    → bytes_eq tag (codes "INDI") ≡ false → IsOfTag rs k ts tag (entry_or_other tag v ts (if b then e else None))
other_of_tag rs k ts tag v true (Some e) is loc repo source person = record {
  written = is_written tag (codes "_REG") is;
  level_0 = refl;
  loc = λ f. absurd (true_false (bytes_eq tag (codes "_LOC")) f loc);
  no_loc = λ f p h. absurd cc;
  repo = λ f. absurd (true_false (bytes_eq tag (codes "REPO")) f repo);
  source = λ f. absurd (true_false (bytes_eq tag (codes "SOUR")) f source);
  person = λ f. absurd (true_false (bytes_eq tag (codes "INDI")) f person);
}
other_of_tag rs k ts tag v true None is loc repo source person = record {
  written = refl;
  level_0 = refl;
  loc = λ f. absurd (true_false (bytes_eq tag (codes "_LOC")) f loc);
  no_loc = λ f p h. absurd cc;
  repo = λ f. absurd (true_false (bytes_eq tag (codes "REPO")) f repo);
  source = λ f. absurd (true_false (bytes_eq tag (codes "SOUR")) f source);
  person = λ f. absurd (true_false (bytes_eq tag (codes "INDI")) f person);
}
other_of_tag rs k ts tag v false e is loc repo source person = record {
  written = refl;
  level_0 = refl;
  loc = λ f. absurd (true_false (bytes_eq tag (codes "_LOC")) f loc);
  no_loc = λ f p h. absurd cc;
  repo = λ f. absurd (true_false (bytes_eq tag (codes "REPO")) f repo);
  source = λ f. absurd (true_false (bytes_eq tag (codes "SOUR")) f source);
  person = λ f. absurd (true_false (bytes_eq tag (codes "INDI")) f person);
}

pub root_is_read : (rs : Lines) (k : ℕ) (r : Tree Line) → IsRootOf rs k (below r) (tag_of r) (draft_at rs k r)
root_is_read rs k (node l f) =
    let ts : Lines = list_of f in
    let tag : List ℕ = l.tag in
    let Q : Tree Draft → Type 0 = λ t. IsRootOf rs k ts tag (root_with_sides rs k t) in
    chosen Q (bytes_eq tag (codes "_LOC")) _ _ (λ e. record {
      own = kind.Place (place_from (known_before rs k) ts);
      under = none;
      whole = refl;
      fits = record {
        written = is_written tag (codes "_LOC") e;
        level_0 = refl;
        loc = λ f. refl;
        no_loc = λ f. absurd (true_false (bytes_eq tag (codes "_LOC")) e f);
        repo = λ f. absurd (not_both tag (codes "_LOC") (codes "REPO") e refl f);
        source = λ f. absurd (not_both tag (codes "_LOC") (codes "SOUR") e refl f);
        person = λ f. absurd (not_both tag (codes "_LOC") (codes "INDI") e refl f);
      };
    }) (λ loc. chosen Q (bytes_eq tag (codes "REPO")) _ _ (λ e. record {
      own = _;
      under = none;
      whole = refl;
      fits = record {
        written = is_written tag (codes "REPO") e;
        level_0 = refl;
        loc = λ f. absurd (true_false (bytes_eq tag (codes "_LOC")) f loc);
        no_loc = λ f p h. absurd cc;
        repo = λ f. refl;
        source = λ f. absurd (not_both tag (codes "REPO") (codes "SOUR") e refl f);
        person = λ f. absurd (not_both tag (codes "REPO") (codes "INDI") e refl f);
      };
    }) (λ repo. chosen Q (bytes_eq tag (codes "SOUR")) _ _ (λ e. record {
      own = _;
      under = none;
      whole = refl;
      fits = record {
        written = is_written tag (codes "SOUR") e;
        level_0 = refl;
        loc = λ f. absurd (true_false (bytes_eq tag (codes "_LOC")) f loc);
        no_loc = λ f p h. absurd cc;
        repo = λ f. absurd (true_false (bytes_eq tag (codes "REPO")) f repo);
        source = λ f. refl;
        person = λ f. absurd (not_both tag (codes "SOUR") (codes "INDI") e refl f);
      };
    }) (λ source. chosen Q (bytes_eq tag (codes "INDI")) _ _ (λ e. record {
      own = _;
      under = _;
      whole = refl;
      fits = record {
        written = is_written tag (codes "INDI") e;
        level_0 = refl;
        loc = λ f. absurd (true_false (bytes_eq tag (codes "_LOC")) f loc);
        no_loc = λ f p h. absurd cc;
        repo = λ f. absurd (true_false (bytes_eq tag (codes "REPO")) f repo);
        source = λ f. absurd (true_false (bytes_eq tag (codes "SOUR")) f source);
        person = λ f. refl;
      };
    }) (λ person. chosen Q (bytes_eq tag (codes "FAM")) _ _ (λ e. record {
      own = _;
      under = _;
      whole = refl;
      fits = record {
        written = is_written tag (codes "FAM") e;
        level_0 = refl;
        loc = λ f. absurd (true_false (bytes_eq tag (codes "_LOC")) f loc);
        no_loc = λ f p h. absurd cc;
        repo = λ f. absurd (true_false (bytes_eq tag (codes "REPO")) f repo);
        source = λ f. absurd (true_false (bytes_eq tag (codes "SOUR")) f source);
        person = λ f. absurd (true_false (bytes_eq tag (codes "INDI")) f person);
      };
    }) (λ family. record {
      own = registered (known rs) tag l.value ts;
      under = none;
      whole = ap (λ d. node d none) (no_sides rs k (known rs) tag l.value ts);
      fits = other_of_tag rs k ts tag l.value (bytes_eq tag (codes "_REG")) (entry_of (known rs) l.value ts) refl loc
          repo source person;
    })))))
