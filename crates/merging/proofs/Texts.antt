-- The texts in a record after a merge.
use Rattle.std.proofs.Common.{◌≡◌, ℕ, List, ◌++◌, refl, sym, subst}
use Rattle.std.specs.Prelude.{map, Option, Some, None}
use Rattle.std.proofs.lemmas.List.{map-append}
use Rattle.stored_lines.specs.Tree.{Tree}
use Rattle.stored_lines.specs.Line.{Line}
use Rattle.record_text.specs.Text.{IsText}
use Rattle.record_kinds.specs.Model as model
use Rattle.record_fields.specs.declared.words.Sex.{Sex}
use Rattle.record_kinds.specs.declared.record.Record.{Record}
use Rattle.record_kinds.specs.declared.record.Record.TheVariants as kind
use Rattle.archive_state.specs.Carried.{carried}
use Rattle.record_shapes.specs.Lists.{EachOf}
use Rattle.archive_state.specs.Merging.{once_in, joined_person, second_sex}
use Rattle.archive_state.specs.Texts.{own_texts, line_texts, carried_texts}
use Rattle.record_shapes.proofs.Each.{each_of_flat, each_flat, each_both, each_front, each_back}
use Rattle.merging.proofs.Carrying.{lines_once, lines_joined}
use Rattle.record_fields.proofs.WordTexts.{sex_text}

abbrev OfLine : Tree Line → Type 0
OfLine t = EachOf IsText (line_texts t)

own_once : (n : ℕ) (r : Record) → own_texts (once_in n r) ≡ own_texts r
own_once n (kind.Family x) = refl
own_once n (kind.Place x) = refl
own_once n (kind.Repo x) = refl
own_once n (kind.Source x) = refl
own_once n (kind.Person x) = refl
own_once n (kind.Citation x) = refl
own_once n (kind.Event x) = refl
own_once n (kind.Entry x) = refl
own_once n (kind.Other x) = refl

pub texts_once : (n : ℕ) (r : Record) → EachOf IsText (own_texts r ++ carried_texts r)
    → EachOf IsText (own_texts (once_in n r) ++ carried_texts (once_in n r))
texts_once n r h =
    each_both IsText (own_texts (once_in n r)) (carried_texts (once_in n r))
    (subst (EachOf IsText) (sym (own_once n r)) (each_front IsText (own_texts r) (carried_texts r) h))
    (each_flat IsText line_texts (carried (once_in n r))
    (lines_once OfLine n r
    (each_of_flat IsText line_texts (carried r) (each_back IsText (own_texts r) (carried_texts r) h))))

-- ---- two persons

sex_lines : (s t : Option Sex) → EachOf OfLine (second_sex s t)
sex_lines None t = tt
sex_lines (Some s) None = tt
sex_lines (Some s) (Some t) = ((sex_text t, tt), tt)

pub texts_joined : (k g : model.Person) → EachOf IsText (own_texts (kind.Person k) ++ carried_texts (kind.Person k))
    → EachOf IsText (own_texts (kind.Person g) ++ carried_texts (kind.Person g))
    → EachOf IsText (own_texts (kind.Person (joined_person k g)) ++ carried_texts (kind.Person (joined_person k g)))
texts_joined k g h i =
    let text_of : model.Name → List ℕ = λ n. n.text in
    let both : model.Person = joined_person k g in
    each_both IsText (own_texts (kind.Person both)) (carried_texts (kind.Person both))
    (subst (EachOf IsText) (sym (map-append text_of k.names g.names))
    (each_both IsText (map text_of k.names) (map text_of g.names)
    (each_front IsText (own_texts (kind.Person k)) (carried_texts (kind.Person k)) h)
    (each_front IsText (own_texts (kind.Person g)) (carried_texts (kind.Person g)) i)))
    (each_flat IsText line_texts (carried (kind.Person both)) (lines_joined OfLine k g
    (each_of_flat IsText line_texts (carried (kind.Person k))
    (each_back IsText (own_texts (kind.Person k)) (carried_texts (kind.Person k)) h))
    (each_of_flat IsText line_texts (carried (kind.Person g))
    (each_back IsText (own_texts (kind.Person g)) (carried_texts (kind.Person g)) i))
    (sex_lines k.sex g.sex)))
