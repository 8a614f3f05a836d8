-- Small cases of the definitions, by computing.
use Rattle.std.proofs.Common.{◌≡◌, ℕ, [], ◌∷◌, true, false, refl}
use Rattle.std.specs.Prelude.{Some, None, codes}
use Rattle.stored_lines.specs.Tree.{node, none}
use Rattle.stored_lines.specs.Line.{Lines}
use Rattle.stored_lines.specs.declared.carried.Value.TheVariants as value
use Rattle.record_fields.specs.declared.words.Partnership.TheVariants.{Husband}
use Rattle.record_fields.specs.declared.words.Sex.TheVariants.{Male, Female}
use Rattle.record_kinds.specs.Model as model
use Rattle.record_kinds.specs.declared.record.Record.TheVariants as kind
use Rattle.archive_state.specs.Merging.{clashes, merged_record, joined_person}
use Rattle.merging.specs.Merges.{with_number}

husband : ℕ → model.Partner
husband n = record { partnership = Husband; person = n; carried = []; carried_by_person = [] }

child : ℕ → Lines → model.Child
child n ts = record { person = n; carried = ts; carried_by_person = [] }

line : ℕ → Lines
line n = node (record { tag = codes "NOTE"; value = value.Ref n }) none ∷ []

-- husband 1 and child 2 are not merged, nor 2 with 1; two children are; two that are in it otherwise are not looked at
within : clashes 1 2 (kind.Family (record { partners = husband 1 ∷ []; children = child 2 [] ∷ []; carried = [] }))
    ≡ true
unfolding husband child
within = refl

back : clashes 2 1 (kind.Family (record { partners = husband 1 ∷ []; children = child 2 [] ∷ []; carried = [] })) ≡ true
unfolding husband child
back = refl

children : clashes 1 2 (kind.Family (record { partners = []; children = child 1 [] ∷ (child 2 [] ∷ []); carried = [] }))
    ≡ false
unfolding husband child
children = refl

alone : clashes 1 2 (kind.Family (record { partners = husband 1 ∷ []; children = child 3 [] ∷ []; carried = [] }))
    ≡ false
unfolding husband child
alone = refl

-- the first place stays, with the lines of both; a line that named 2 names 1
joined : merged_record 1 2
    (kind.Family (record {
      partners = [];
      children = child 2 (line 4) ∷ (child 3 [] ∷ (child 1 (line 2) ∷ []));
      carried = [];
    }))
    ≡ kind.Family (record {
      partners = [];
      children = record {
        person = 1;
        carried = node (record { tag = codes "NOTE"; value = value.Ref 4 }) none
            ∷ (node (record { tag = codes "NOTE"; value = value.Ref 1 }) none ∷ []);
        carried_by_person = [];
      }
          ∷ (child 3 [] ∷ []);
      carried = [];
    })
unfolding husband child line
joined = refl

-- a second sex is carried, also the same one; the first fills an empty one
same_sex : joined_person (record { names = []; sex = Some Male; carried = [] })
    (record { names = []; sex = Some Male; carried = [] })
    ≡ record {
      names = [];
      sex = Some Male;
      carried = node (record { tag = codes "SEX"; value = value.Text (codes "M") }) none ∷ [];
    }
same_sex = refl

filled : joined_person (record { names = []; sex = None; carried = [] })
    (record { names = []; sex = Some Female; carried = [] }) ≡ record { names = []; sex = Some Female; carried = [] }
filled = refl

-- numbers among those that ascend
between : with_number 4 (2 ∷ (5 ∷ [])) ≡ 2 ∷ (4 ∷ (5 ∷ []))
between = refl

there : with_number 5 (2 ∷ (5 ∷ [])) ≡ 2 ∷ (5 ∷ [])
there = refl
