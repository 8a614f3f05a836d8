-- A file that was just settled reads as what it held, and a crash leaves that.
use Rattle.std.proofs.Common.{◌≡◌, ◌∙◌, ◌∷◌, [], ap, cond, inl, inr, subst, Bool, List, None, Option, Some, ℕ}
use Rattle.std.specs.Prelude.{IfSome}
use Rattle.sqlite_disk.specs.Events.{Event, replay, settled}
use Rattle.sqlite_disk.specs.History.{MayLeave}

abbrev held : List ℕ → List ℕ → Bool → List ℕ
held log db is_log = cond is_log log db

abbrev pub leaves : Bool → List ℕ → List Event → List ℕ → Type 0
leaves mixes start history c = let m = replay start history in MayLeave mixes m.seen m.synced m.steps c

just : (mixes : Bool) (start c : List ℕ) (key : ℕ) → leaves mixes start (settled key ∷ []) c → c ≡ start
just mixes start c key (inl same) = same
just mixes start c key (inr same) = same

pub seen_is : (log db : List ℕ) (is_log which : Bool) (history : List Event) (key : ℕ) → is_log ≡ which
    → history ≡ settled key ∷ [] → (replay (held log db is_log) history).seen ≡ held log db which
seen_is log db is_log which history key is fresh =
    ap (λ (h : List Event). (replay (held log db is_log) h).seen) fresh ∙ ap (held log db) is

pub left_is : (mixes : Bool) (log db : List ℕ) (is_log which : Bool) (history : List Event) (key : ℕ) → is_log ≡ which
    → history ≡ settled key ∷ [] → (c : List ℕ) → leaves mixes (held log db is_log) history c → c ≡ held log db which
left_is mixes log db is_log which history key is fresh c may =
    just mixes (held log db is_log) c key
    (subst (λ (h : List Event). leaves mixes (held log db is_log) h c) fresh may) ∙ ap (held log db) is

pub if_some : {A : Type 0} {P Q : A → Type 0} (o : Option A) → ((x : A) → P x → Q x) → IfSome o P → IfSome o Q
if_some None more has = tt
if_some (Some x) more has = more x has
