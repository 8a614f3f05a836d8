-- Rows taken from known bytes, one after the other.
use Rattle.std.proofs.Common.{◌≡◌, ◌++◌, ◌∷◌, ℕ, true, false, List, [], Option, None, Some, refl}
use Rattle.csv.specs.Reading.{Reached, ReadRecord, default_config, source_of}
use Rattle.csv.specs.declared.parser.State.{State}
use Rattle.csv.specs.declared.parser.State.TheVariants as st
use Rattle.csv.specs.declared.reader.Reader.{Reader}
use Rattle.csv.proofs.ReadFacts.{rows-more, rows-end}
use Rattle.request_csv.specs.Input.{AreFirstRows, AreRows, Row}

-- these rows were taken, and left the reader in this state with these bytes
abbrev pub Took : Option (List ℕ) → List Row → State → Option (List ℕ) → Type 0
Took None rows s left = Unit {0}
Took (Some bytes) rows s None = ⊥
Took (Some bytes) rows s (Some left) = Reached default_config st.StartRecord bytes rows s left

pub took_none : (known : Option (List ℕ)) → Took known [] st.StartRecord known
unfolding Reached
took_none None = tt
took_none (Some xs) = (refl, refl)

pub took_first : (known left : Option (List ℕ)) (rows : List Row) (s : State) → Took known rows s left
    → AreFirstRows known rows
took_first None left rows s t = tt
took_first (Some xs) None rows s t = absurd t
took_first (Some xs) (Some ys) rows s t = (s, ys, t)

module _ {R : Type 0} (rem : R → Option (List ℕ)) (a b : Reader R) (f : Row) (rows : List Row)
    (config : a.config ≡ default_config) where
  more : (known left : Option (List ℕ)) → source_of rem a ≡ left → ReadRecord rem a b true f
      → Took known rows a.state left → Took known (rows ++ f ∷ []) b.state (source_of rem b)
  more None left e r t = tt
  more (Some xs) None e r t = absurd t
  more (Some xs) (Some ys) e r t = let z = rows-more rem a b f default_config st.StartRecord xs ys rows config e t r in
      rw z.1 z.2

  pub took_more : (known : Option (List ℕ)) → ReadRecord rem a b true f → Took known rows a.state (source_of rem a)
      → Took known (rows ++ f ∷ []) b.state (source_of rem b)
  took_more known r t = more known _ refl r t

  end : (known left : Option (List ℕ)) → source_of rem a ≡ left → ReadRecord rem a b false f
      → Took known rows a.state left → AreRows known rows
  end None left e r t = tt
  end (Some xs) None e r t = absurd t
  end (Some xs) (Some ys) e r t = (a.state, ys, t, rows-end rem a b f default_config ys config e r)

  pub took_all : (known : Option (List ℕ)) → ReadRecord rem a b false f → Took known rows a.state (source_of rem a)
      → AreRows known rows
  took_all known r t = end known _ refl r t
