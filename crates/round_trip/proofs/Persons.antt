-- The members of the families of a sound archive are persons.
use Rattle.std.specs.Prelude.{ℕ, ◌≡◌, refl, true, List, [], ◌∷◌, Option, Some, None, option_map}
use Rattle.std.specs.List.{flat_map}
use Rattle.std.specs.FinMap.{get}
use Rattle.record_kinds.specs.Model as model
use Rattle.record_kinds.specs.declared.record.Record.{Record}
use Rattle.record_kinds.specs.declared.record.Record.TheVariants as kind
use Rattle.archive_state.specs.Links.{a_person, child_links, is_wanted, partner_links}
use Rattle.record_shapes.specs.Lists.{EachOf}
use Rattle.archive_state.specs.Content.{Records}
use Rattle.archive_state.specs.Sound as sound
use Rattle.record_shapes.proofs.Each.{each_parts}

module _ (m : Records) where
  abbrev pub PersonAt : ℕ → Type 0
  PersonAt k = (p : model.Person) × (get m k ≡ Some (kind.Person p))

  person_at : (k : ℕ) → sound.Stands m (k, a_person) → PersonAt k
  person_at k h = by (get m k) refl h
    where
      by : (o : Option Record) → get m k ≡ o → option_map (is_wanted a_person) o ≡ Some true → PersonAt k
      by None g e = absurd cc
      by (Some (kind.Person p)) g e = (p, g)
      by (Some _) g e = absurd cc

  pub partners_stand : (ps : List model.Partner) → EachOf (sound.Stands m) (flat_map partner_links ps)
      → EachOf (λ (p : model.Partner). PersonAt p.person) ps
  partners_stand [] h = tt
  partners_stand (p ∷ ps) h =
      let both : EachOf (sound.Stands m) (partner_links p) × EachOf (sound.Stands m) (flat_map partner_links ps) =
      each_parts (sound.Stands m) (partner_links p) (flat_map partner_links ps) h in
      (person_at p.person both.0.0, partners_stand ps both.1)

  pub children_stand : (cs : List model.Child) → EachOf (sound.Stands m) (flat_map child_links cs)
      → EachOf (λ (c : model.Child). PersonAt c.person) cs
  children_stand [] h = tt
  children_stand (c ∷ cs) h =
      let both : EachOf (sound.Stands m) (child_links c) × EachOf (sound.Stands m) (flat_map child_links cs) =
      each_parts (sound.Stands m) (child_links c) (flat_map child_links cs) h in
      (person_at c.person both.0.0, children_stand cs both.1)
