-- Surnames that are put into a map, and lists of them by letter.
use Rattle.std.proofs.Common.{◌≡◌, ◌∙◌, ◌++◌, ℕ, List, [], ◌∷◌, refl, sym, ap}
use Rattle.std.proofs.lemmas.List.{append_assoc}
use Rattle.std.proofs.lemmas.List.Concat.{flat_map-cons}
use Rattle.std.proofs.lemmas.List.Sums.{fold-append}
use Rattle.std.specs.Prelude.{fold, map, Option, Some}
use Rattle.std.specs.BTreeMap.{insert_entry}
use Rattle.std.specs.Cmp.Lexicographic.{slice_cmp}
use Rattle.std.specs.Global.{Global}
use Rattle.std.specs.List.{flat_map}
use Rattle.std.specs.Ordering.{match_ordering, nat_cmp}
use Rattle.std.specs.String.{string_bytes, string_cmp}
use Rattle.std.specs.declared.cmp.Ordering.TheVariants.{Less, Equal, Greater}
use Rattle.std.specs.declared.string.String.{String}
use Rattle.sheets.specs.Gathered.{Gathered}
use Rattle.html_parts.specs.declared.part.Part.{Part}
use Rattle.html_lists.specs.Letters.{after_parts, letter_of, surname_item, text_entry, turn_parts, with_surname}

-- a text that is put under a text
pub put_text : (es : List (String Global × String Global)) (k v : String Global)
    → map text_entry (insert_entry string_cmp es k v)
    ≡ insert_entry (slice_cmp nat_cmp) (map text_entry es) (string_bytes k) (string_bytes v)
put_text [] k v = refl
put_text (e ∷ es) k v =
    elim (slice_cmp nat_cmp (string_bytes k) (string_bytes e.0)) as (λ o.
    map text_entry (match_ordering o ((k, v) ∷ e ∷ es) ((e.0, v) ∷ es) (e ∷ insert_entry string_cmp es k v))
    ≡ match_ordering o ((string_bytes k, string_bytes v) ∷ map text_entry (e ∷ es))
    ((string_bytes e.0, string_bytes v) ∷ map text_entry es)
    (text_entry e ∷ insert_entry (slice_cmp nat_cmp) (map text_entry es) (string_bytes k) (string_bytes v))) [
      | Less ↦ refl
      | Equal ↦ refl
      | Greater ↦ ap (λ (l : List (List ℕ × List ℕ)). text_entry e ∷ l) (put_text es k v)
    ]

module _ {A : Type 0} (x : A) (rest now : List A) (old new whole : List (List ℕ × List ℕ)) where
  -- the surname of the first name that is left is put
  pub name_added : (f : A → List ℕ) → now ≡ x ∷ rest → new ≡ with_surname old (f x)
      → fold with_surname old (map f now) ≡ whole → fold with_surname new (map f rest) ≡ whole
  name_added f is added h =
      ap (λ (es : List (List ℕ × List ℕ)). fold with_surname es (map f rest)) added
      ∙ (ap (λ (l : List A). fold with_surname old (map f l)) (sym is) ∙ h)

  -- those of the first person who is left are put
  pub person_added : (f : A → List (List ℕ)) → now ≡ x ∷ rest → new ≡ fold with_surname old (f x)
      → fold with_surname old (flat_map f now) ≡ whole → fold with_surname new (flat_map f rest) ≡ whole
  person_added f is added h =
      ap (λ (es : List (List ℕ × List ℕ)). fold with_surname es (flat_map f rest)) added
      ∙ (sym (fold-append with_surname old (f x) (flat_map f rest))
      ∙ (ap (fold with_surname old) (sym (flat_map-cons f x rest))
      ∙ (ap (λ (l : List A). fold with_surname old (flat_map f l)) (sym is) ∙ h)))

-- the first surname that is left is appended
pub surname_after : (g : Gathered) (last : Option ℕ) (letter : ℕ) (s : List ℕ) (rest : List (List ℕ))
    (old turned new whole : List Part) → letter ≡ letter_of s → turned ≡ old ++ turn_parts last letter
    → new ≡ turned ++ surname_item g s → old ++ after_parts g last (s ∷ rest) ≡ whole
    → new ++ after_parts g (Some letter) rest ≡ whole
surname_after g last letter s rest old turned new whole is x y h =
    ap (λ (l : List Part). l ++ after_parts g (Some letter) rest)
    (y ∙ ap (λ (l : List Part). l ++ surname_item g s) x)
    ∙ (append_assoc (old ++ turn_parts last letter) (surname_item g s) (after_parts g (Some letter) rest)
    ∙ (append_assoc old (turn_parts last letter) (surname_item g s ++ after_parts g (Some letter) rest)
    ∙ (ap (λ (c : ℕ). old ++ (turn_parts last c ++ (surname_item g s ++ after_parts g (Some c) rest))) is ∙ h)))
