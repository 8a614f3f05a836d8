-- The lines that a field would take, in two persons made one.
use Rattle.std.proofs.Common.{◌≡◌, [], ◌∷◌, ◌++◌, Bool, true, refl, ap, ◌∙◌}
use Rattle.std.specs.Prelude.{Option, Some, None, ◌&&◌}
use Rattle.std.specs.List.{list_all}
use Rattle.std.proofs.lemmas.Bool.{and_parts}
use Rattle.stored_lines.specs.Tree.{Tree}
use Rattle.stored_lines.specs.Line.{Line, Lines}
use Rattle.record_kinds.specs.Model as model
use Rattle.record_fields.specs.declared.words.Sex.{Sex}
use Rattle.record_fields.specs.declared.words.Sex.TheVariants as sex
use Rattle.record_kinds.specs.declared.record.Record.TheVariants as kind
use Rattle.record_shapes.specs.Forms.{Known, is_some}
use Rattle.record_shapes.specs.declared.field.Field.{Field}
use Rattle.record_shapes.specs.Fields as part
use Rattle.record_shapes.specs.Fields.{person_field}
use Rattle.record_shapes.specs.Untaken.{AreUntaken, HasUntaken, person_leaves}
use Rattle.archive_state.specs.Merging.{sex_of_two, second_sex, joined_person}
use Rattle.record_shapes.proofs.Each.{more_leave}

-- ---- two persons
-- what is known of places before a number is nothing to a person
pub untaken_any : (one other known : Known) (p : model.Person) → HasUntaken one known (kind.Person p)
    → HasUntaken other known (kind.Person p)
untaken_any one other known p u = u

all_both : (q : Tree Line → Bool) (ts us : Lines) → list_all q ts ≡ true → list_all q us ≡ true
    → list_all q (ts ++ us) ≡ true
all_both q [] us h k = k
all_both q (t ∷ ts) us h k =
    let both = and_parts (q t) (list_all q ts) h in
    ap (λ x. x && list_all q (ts ++ us)) both.0 ∙ all_both q ts us both.1 k

-- a field that leaves a line of one of the two leaves it where both are one
sex_some : (s t : Option Sex) → is_some s ≡ true → is_some (sex_of_two s t) ≡ true
sex_some None t e = absurd cc
sex_some (Some s) t e = refl

sex_later : (s t : Option Sex) → is_some t ≡ true → is_some (sex_of_two s t) ≡ true
sex_later None t e = e
sex_later (Some s) t e = refl

first_leave : (k g : model.Person) (x : Field) → person_leaves k x ≡ true → person_leaves (joined_person k g) x ≡ true
first_leave k g part.carried e = refl
first_leave k g part.a_sex e = sex_some k.sex g.sex e
first_leave k g _ e = absurd cc

second_leave : (k g : model.Person) (x : Field) → person_leaves g x ≡ true → person_leaves (joined_person k g) x ≡ true
second_leave k g part.carried e = refl
second_leave k g part.a_sex e = sex_later k.sex g.sex e
second_leave k g _ e = absurd cc

-- the line of a second sex is one of a field that the person has
sex_by : (known : Known) (p : model.Person) (s t : Option Sex) → p.sex ≡ sex_of_two s t
    → AreUntaken (person_field known) (person_leaves p) (second_sex s t)
sex_by known p None t e = refl
sex_by known p (Some s) None e = refl
sex_by known p (Some s) (Some sex.Male) e = λ i. is_some (e i) && true
sex_by known p (Some s) (Some sex.Female) e = λ i. is_some (e i) && true
sex_by known p (Some s) (Some sex.Unknown) e = λ i. is_some (e i) && true

sex_left : (known : Known) (k g : model.Person) → AreUntaken (person_field known) (person_leaves (joined_person k g))
    (second_sex k.sex g.sex)
sex_left known k g = sex_by known (joined_person k g) k.sex g.sex refl

pub untaken_joined : (earlier known : Known) (k g : model.Person) → HasUntaken earlier known (kind.Person k)
    → HasUntaken earlier known (kind.Person g) → HasUntaken earlier known (kind.Person (joined_person k g))
untaken_joined earlier known k g h i =
    let q : Tree Line → Bool = λ t. person_leaves (joined_person k g) (person_field known t) in
    all_both q k.carried (g.carried ++ second_sex k.sex g.sex)
    (more_leave (person_field known) (person_leaves k) (person_leaves (joined_person k g))
    (first_leave k g) k.carried h)
    (all_both q g.carried (second_sex k.sex g.sex)
    (more_leave (person_field known) (person_leaves g) (person_leaves (joined_person k g))
    (second_leave k g) g.carried i) (sex_left known k g))
