-- What a merge makes of what stands at a number.
use Rattle.std.proofs.Common.{◌≡◌, ◌⊎◌, ℕ, Bool, true, false, refl, sym, ap, ◌∙◌, subst, inl, inr}
use Rattle.std.specs.Prelude.{Option, Some, None, option_map, ◌==◌, if◌then◌else◌}
use Rattle.std.proofs.lemmas.Bool.{eqb-false, eqb-true}
use Rattle.record_kinds.specs.Model as model
use Rattle.record_kinds.specs.declared.record.Record.{Record}
use Rattle.record_kinds.specs.declared.record.Record.TheVariants as kind
use Rattle.archive_state.specs.Merging.{merged, merged_record, merged_person, joined_person, person_with, renamed}
use Rattle.archive_state.proofs.Keeping.{IsAlike, alike_itself}
use Rattle.merging.proofs.Alike.{persons_alike, alike_merged}
use Rattle.merging.proofs.Once.{number_other}
use Rattle.list_laws.proofs.Numbers.{same_self}

pub renamed_gone : (keep gone : ℕ) → renamed keep gone gone ≡ keep
renamed_gone keep gone = ap (λ b. if b then keep else gone) (same_self gone)

pub renamed_other : (keep gone n : ℕ) → (n ≡ gone → ⊥) → renamed keep gone n ≡ n
renamed_other keep gone n h = ap (λ b. if b then keep else n) (number_other n gone h)

module _ (keep gone : ℕ) (before : ℕ → Option Record) where
  by : Bool → Bool → ℕ → Option Record
  by x y n = if x then None else (if y then merged_person keep gone (before keep) (before gone) else option_map
      (merged_record keep gone) (before n))

  pub at_gone : merged keep gone before gone ≡ None
  unfolding by
  at_gone = ap (λ x. by x (gone == keep) gone) (same_self gone)

  pub at_keep : (keep ≡ gone → ⊥) → merged keep gone before keep ≡ merged_person keep gone (before keep) (before gone)
  unfolding by
  at_keep apart = ap (λ x. by x (keep == keep) keep) (number_other keep gone apart) ∙ ap (λ y. by false y keep)
      (same_self keep)

  pub at_other : (n : ℕ) → (n ≡ gone → ⊥) → (n ≡ keep → ⊥) → merged keep gone before n ≡ option_map
      (merged_record keep gone) (before n)
  unfolding by
  at_other n h k = ap (λ x. by x (n == keep) n) (number_other n gone h) ∙ ap (λ y. by false y n) (number_other n keep k)

-- a number is one of the two, or neither
pub which : (keep gone n : ℕ) → (n ≡ gone) ⊎ (((n ≡ gone → ⊥) × (n ≡ keep)) ⊎ ((n ≡ gone → ⊥) × (n ≡ keep → ⊥)))
which keep gone n = elim (n == gone) as (λ b. (n == gone) ≡ b → (n ≡ gone)
    ⊎ (((n ≡ gone → ⊥) × (n ≡ keep)) ⊎ ((n ≡ gone → ⊥) × (n ≡ keep → ⊥)))) [
      | true ↦ λ e. inl (eqb-true n gone e)
      | false ↦ λ e. elim (n == keep) as (λ b. (n == keep) ≡ b → (n ≡ gone)
          ⊎ (((n ≡ gone → ⊥) × (n ≡ keep)) ⊎ ((n ≡ gone → ⊥) × (n ≡ keep → ⊥)))) [
            | true ↦ λ f. inr (inl (eqb-false n gone e, eqb-true n keep f))
            | false ↦ λ f. inr (inr (eqb-false n gone e, eqb-false n keep f))
          ] refl
    ] refl

pub not_gone : (keep gone n : ℕ) → ((n ≡ gone → ⊥) × (n ≡ keep)) ⊎ ((n ≡ gone → ⊥) × (n ≡ keep → ⊥)) → n ≡ gone → ⊥
not_gone keep gone n (inl i) = i.0
not_gone keep gone n (inr i) = i.0

-- the person that stays is a record of the kind of before
like_two : (keep gone : ℕ) (k g : Option Record) (x : Record) → merged_person keep gone k g ≡ Some x
    → (old : Record) × (k ≡ Some old) × IsAlike old x
like_two keep gone None g x e = (x, e, alike_itself x)
like_two keep gone (Some (kind.Place k)) g x e = (x, e, alike_itself x)
like_two keep gone (Some (kind.Repo k)) g x e = (x, e, alike_itself x)
like_two keep gone (Some (kind.Source k)) g x e = (x, e, alike_itself x)
like_two keep gone (Some (kind.Person k)) None x e = (x, e, alike_itself x)
like_two keep gone (Some (kind.Person k)) (Some (kind.Place g)) x e = (x, e, alike_itself x)
like_two keep gone (Some (kind.Person k)) (Some (kind.Repo g)) x e = (x, e, alike_itself x)
like_two keep gone (Some (kind.Person k)) (Some (kind.Source g)) x e = (x, e, alike_itself x)
like_two keep gone (Some (kind.Person k)) (Some (kind.Person g)) x e =
    let both : model.Person = joined_person (person_with (renamed keep gone) k) (person_with (renamed keep gone) g) in
    let same : kind.Person both ≡ x = cc in
    (kind.Person k, refl, subst (IsAlike (kind.Person k)) same (persons_alike k both))
like_two keep gone (Some (kind.Person k)) (Some (kind.Family g)) x e = (x, e, alike_itself x)
like_two keep gone (Some (kind.Person k)) (Some (kind.Citation g)) x e = (x, e, alike_itself x)
like_two keep gone (Some (kind.Person k)) (Some (kind.Event g)) x e = (x, e, alike_itself x)
like_two keep gone (Some (kind.Person k)) (Some (kind.Entry g)) x e = (x, e, alike_itself x)
like_two keep gone (Some (kind.Person k)) (Some (kind.Other g)) x e = (x, e, alike_itself x)
like_two keep gone (Some (kind.Family k)) g x e = (x, e, alike_itself x)
like_two keep gone (Some (kind.Citation k)) g x e = (x, e, alike_itself x)
like_two keep gone (Some (kind.Event k)) g x e = (x, e, alike_itself x)
like_two keep gone (Some (kind.Entry k)) g x e = (x, e, alike_itself x)
like_two keep gone (Some (kind.Other k)) g x e = (x, e, alike_itself x)

pub map_some : {A B : Type 0} (f : A → B) (o : Option A) (y : B) → option_map f o ≡ Some y
    → (x : A) × (o ≡ Some x) × (f x ≡ y)
map_some f None y e = absurd cc
map_some f (Some x) y e = (x, refl, cc)

-- what stands there after a merge is of the kind of what stood there before
pub alike_before : (keep gone : ℕ) (before : ℕ → Option Record) (n : ℕ) (x : Record)
    → merged keep gone before n ≡ Some x → (old : Record) × (before n ≡ Some old) × IsAlike old x
alike_before keep gone before n x e = elim (which keep gone n) as (λ _. (old : Record) × (before n ≡ Some old)
    × IsAlike old x) [
      | inl h ↦ let no : None ≡ Some x = sym (at_gone keep gone before) ∙ ap (merged keep gone before) (sym h)
          ∙ e in absurd cc
      | inr h ↦ elim h as (λ _. (old : Record) × (before n ≡ Some old) × IsAlike old x) [
        | inl k ↦
            let apart : keep ≡ gone → ⊥ = λ same. k.0 (k.1 ∙ same) in
            let two = like_two keep gone (before keep) (before gone) x
            (sym (at_keep keep gone before apart) ∙ ap (merged keep gone before) (sym k.1) ∙ e) in
            (two.0, ap before k.1 ∙ two.1, two.2)
        | inr k ↦
            let one = map_some (merged_record keep gone) (before n) x (sym (at_other keep gone before n k.0 k.1) ∙ e) in
            (one.0, one.1, subst (IsAlike one.0) one.2 (alike_merged keep gone one.0))
      ]
    ]
