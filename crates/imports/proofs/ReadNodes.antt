-- Each record that is read at a node of a file, or below it, keeps the rules on one record.
use Rattle.std.proofs.Common.{◌≡◌, ℕ, Bool, true, false, List, refl, sym, subst}
use Rattle.std.specs.Prelude.{Option, Some, None, ◌||◌, bytes_eq, codes, if◌then◌else◌}
use Rattle.stored_lines.specs.Tree.{Tree, node, none, list_of}
use Rattle.stored_lines.specs.Line.{Lines}
use Rattle.stored_lines.specs.declared.carried.Value.{Value}
use Rattle.record_kinds.specs.Model as model
use Rattle.record_kinds.specs.declared.record.Record.{Record}
use Rattle.record_text.specs.Text.{IsText}
use Rattle.record_shapes.specs.Forms.{Known}
use Rattle.record_shapes.specs.Entries.{entry_of}
use Rattle.record_shapes.specs.Reading.{Draft, entry_or_other, read, registered}
use Rattle.archive_state.specs.Texts.{forest_texts, value_texts}
use Rattle.import_definitions.specs.Positions.{known, known_before}
use Rattle.import_definitions.specs.Sides.{root_with_sides, with_sides}
use Rattle.imports.specs.Read.{EachRead, IsRead, NodesAreRead}
use Rattle.imports.proofs.Fine.{AreLines, below_lines}
use Rattle.imports.proofs.ReadEntries.{registered_read}
use Rattle.imports.proofs.ReadFamilies.{family_owned, family_read}
use Rattle.imports.proofs.ReadPersons.{person_owned, person_read}
use Rattle.imports.proofs.ReadPlaces.{place_read}
use Rattle.imports.proofs.ReadSources.{repo_read, source_read}
use Rattle.record_shapes.proofs.Each.{each_front}

-- one of two, by what the test says
pub chosen : {A : Type 0} (Q : A → Type 0) (b : Bool) (x y : A) → (b ≡ true → Q x) → (b ≡ false → Q y)
    → Q (if b then x else y)
chosen Q true x y h k = h refl
chosen Q false x y h k = k refl

none_of_five : (a b c d e : Bool) → a ≡ false → b ≡ false → c ≡ false → d ≡ false → e ≡ false
    → (a || (b || (c || (d || (e || false))))) ≡ false
none_of_five a b c d e p q r s t = λ i. p i || (q i || (r i || (s i || (t i || false))))

-- an entry, or a record of no other kind, has no sides
pub no_sides : (rs : Lines) (k : ℕ) (known : Known) (tag : List ℕ) (v : Value) (ts : Lines)
    → with_sides rs k (read (registered known tag v ts) None) ≡ read (registered known tag v ts) None
no_sides rs k known tag v ts = by (bytes_eq tag (codes "_REG")) (entry_of known v ts)
  where
    by : (b : Bool) (o : Option model.Entry)
        → with_sides rs k (read (entry_or_other tag v ts (if b then o else None)) None)
        ≡ read (entry_or_other tag v ts (if b then o else None)) None
    by true (Some e) = refl
    by true None = refl
    by false o = refl

pub nodes_are_read : NodesAreRead
nodes_are_read rs nodes k (node l f) h =
    let ts : Lines = list_of f in
    let before : Known = known_before rs k in
    let all : Known = known rs in
    let fine : AreLines 98 ts = below_lines 98 99 refl (node l f) h.line in
    let P : Option Record → Record → Type 0 = IsRead before all in
    let Q : Tree Draft → Type 0 = λ t. EachRead P None (root_with_sides rs k t) in
    chosen Q (bytes_eq l.tag (codes "_LOC")) _ _ (λ e. (place_read before all None ts fine, tt)) (λ loc.
    chosen Q (bytes_eq l.tag (codes "REPO")) _ _ (λ e. (repo_read before all None ts fine, tt)) (λ repo.
    chosen Q (bytes_eq l.tag (codes "SOUR")) _ _ (λ e. (source_read before all None ts fine, tt)) (λ source.
    chosen Q (bytes_eq l.tag (codes "INDI")) _ _
    (λ e. (person_read before all None ts fine, person_owned before all _ ts fine)) (λ person.
    chosen Q (bytes_eq l.tag (codes "FAM")) _ _
    (λ e. (family_read before None rs nodes k ts fine, family_owned before all _ ts fine)) (λ family.
    subst (λ d. EachRead P None (node d none)) (sym (no_sides rs k all l.tag l.value ts)) (
      registered_read before all None l.tag l.value ts h.line.of_tags.0 h.own
          (each_front IsText (value_texts l.value) (forest_texts f) h.line.of_texts) fine
          (none_of_five (bytes_eq l.tag (codes "_LOC")) (bytes_eq l.tag (codes "REPO")) (bytes_eq l.tag (codes "SOUR"))
          (bytes_eq l.tag (codes "INDI")) (bytes_eq l.tag (codes "FAM")) loc repo source person family),
      tt,
    ))))))
