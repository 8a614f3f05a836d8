-- The tags of carried lines after a merge.
use Rattle.std.proofs.Common.{◌≡◌, ℕ, List, [], ◌∷◌, ◌++◌, refl, sym, ap, subst, arith}
use Rattle.std.specs.Prelude.{codes, length, Option, Some, None}
use Rattle.stored_lines.specs.Tree.{Tree}
use Rattle.stored_lines.specs.Line.{Line}
use Rattle.record_kinds.specs.Model as model
use Rattle.record_fields.specs.declared.words.Sex.{Sex}
use Rattle.record_kinds.specs.declared.record.Record.{Record}
use Rattle.record_kinds.specs.declared.record.Record.TheVariants as kind
use Rattle.archive_state.specs.Carried.{carried, tags, carried_tags}
use Rattle.record_shapes.specs.Lists.{EachOf}
use Rattle.archive_state.specs.Merging.{once_in, joined_person, second_sex}
use Rattle.archive_state.specs.Sound.{IsOfRecords, own_tags}
use Rattle.record_shapes.proofs.Each.{each_of_flat, each_flat, each_both, each_front, each_back}
use Rattle.merging.proofs.Carrying.{lines_once, lines_joined}

abbrev OfLine : Tree Line → Type 0
OfLine t = EachOf IsOfRecords (tags t)

own_once : (n : ℕ) (r : Record) → own_tags (once_in n r) ≡ own_tags r
own_once n (kind.Family x) = refl
own_once n (kind.Place x) = refl
own_once n (kind.Repo x) = refl
own_once n (kind.Source x) = refl
own_once n (kind.Person x) = refl
own_once n (kind.Citation x) = refl
own_once n (kind.Event x) = refl
own_once n (kind.Entry x) = refl
own_once n (kind.Other x) = refl

pub of_records_once : (n : ℕ) (r : Record) → EachOf IsOfRecords (own_tags r ++ carried_tags r)
    → EachOf IsOfRecords (own_tags (once_in n r) ++ carried_tags (once_in n r))
of_records_once n r h =
    each_both IsOfRecords (own_tags (once_in n r)) (carried_tags (once_in n r))
    (subst (EachOf IsOfRecords) (sym (own_once n r)) (each_front IsOfRecords (own_tags r) (carried_tags r) h))
    (each_flat IsOfRecords tags (carried (once_in n r))
    (lines_once OfLine n r
    (each_of_flat IsOfRecords tags (carried r) (each_back IsOfRecords (own_tags r) (carried_tags r) h))))

-- ---- two persons
first_code : List ℕ → ℕ
first_code [] = 0
first_code (b ∷ bs) = b

sex_tag : IsOfRecords (codes "SEX")
unfolding first_code
sex_tag = (
  (let long : length (codes "SEX") ≡ 3 = refl in record { some = omega arith; short = omega arith; words = refl }),
  (λ (same : codes "SEX" ≡ codes "CONC"). let e : 83 ≡ 67 = ap first_code same in absurd (omega arith)),
  (λ (same : codes "SEX" ≡ codes "CONT"). let e : 83 ≡ 67 = ap first_code same in absurd (omega arith)),
)

sex_lines : (s t : Option Sex) → EachOf OfLine (second_sex s t)
sex_lines None t = tt
sex_lines (Some s) None = tt
sex_lines (Some s) (Some t) = ((sex_tag, tt), tt)

pub of_records_joined : (k g : model.Person) → EachOf IsOfRecords (carried_tags (kind.Person k))
    → EachOf IsOfRecords (carried_tags (kind.Person g)) → EachOf IsOfRecords
    (carried_tags (kind.Person (joined_person k g)))
of_records_joined k g h i =
    each_flat IsOfRecords tags (carried (kind.Person (joined_person k g)))
    (lines_joined OfLine k g (each_of_flat IsOfRecords tags (carried (kind.Person k)) h)
    (each_of_flat IsOfRecords tags (carried (kind.Person g)) i) (sex_lines k.sex g.sex))
