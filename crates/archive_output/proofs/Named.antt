-- What is said of an archive of which the society was read first.
use Rattle.std.proofs.Common.{◌≡◌, ◌∙◌, ℕ, true, List, Ok, Err, sym, ap, subst, true≢false}
use Rattle.std.specs.Prelude.{Result, IfErr, IfOk, OnOk}
use Rattle.sqlite.specs.State.{State}
use Rattle.archive_state.specs.Content.{Content}
use Rattle.archive_state.specs.Looks.{is_stop}
use Rattle.record_text.specs.declared.refusal.RefusalKind.{RefusalKind}
use Rattle.record_text.specs.declared.refusal.RefusalKind.TheVariants.{WriteFailed}
use Rattle.store.specs.Archives.{HasArchive}
use Rattle.store_tables.specs.Looking.{IsFailure}
use Rattle.archive_output.specs.Reading.{OnOpen}

of_named : (old mid new : State) (text : List ℕ) (P : List ℕ → Content → Type 0)
    → OnOpen old mid (λ society c. (text ≡ society) × HasArchive society c mid)
    → OnOpen mid new (λ _ c. P text c) → OnOpen old new P
of_named old mid new text P first more clean =
    let at = more clean in
    let was = first at.0 in (
      was.0,
      λ society c has.
          let here = (was.1 society c has).0 in
          let did = at.1 society c here.1 in
          (subst (λ (x : List ℕ). P x c) here.0 did.0, did.1),
    )

-- of a result, and of the society as it is handed on
pub each_of_named : {A : Type 0} (r : Result A RefusalKind) (old mid new : State) (text given : List ℕ)
    (P : A → List ℕ → Content → Type 0) → given ≡ text
    → OnOpen old mid (λ society c. (text ≡ society) × HasArchive society c mid)
    → IfOk r (λ a. OnOpen mid new (λ _ c. P a given c)) → IfOk r (λ a. OnOpen old new (P a))
each_of_named (Ok a) old mid new text given P same first did =
    of_named old mid new text (P a) first (subst (λ (x : List ℕ). OnOpen mid new (λ _ c. P a x c)) same did)
each_of_named (Err kind) old mid new text given P same first did = tt

pub whole_of_named : {A : Type 0} (r : Result A RefusalKind) (old mid new : State) (text given : List ℕ)
    (P : List ℕ → Content → Type 0) → given ≡ text
    → OnOpen old mid (λ society c. (text ≡ society) × HasArchive society c mid)
    → OnOk r (OnOpen mid new (λ _ c. P given c)) → OnOk r (OnOpen old new P)
whole_of_named r old mid new text given P same first did =
    each_of_named r old mid new text given (λ _. P) same first did

pub part_of_named : {A : Type 0} (r : Result A RefusalKind) (old mid new : State) (text given : List ℕ)
    (P : RefusalKind → List ℕ → Content → Type 0) → given ≡ text
    → OnOpen old mid (λ society c. (text ≡ society) × HasArchive society c mid)
    → IfErr r (λ kind. OnOpen mid new (λ _ c. P kind given c)) → IfErr r (λ kind. OnOpen old new (P kind))
part_of_named (Ok a) old mid new text given P same first did = tt
part_of_named (Err kind) old mid new text given P same first did =
    of_named old mid new text (P kind) first (subst (λ (x : List ℕ). OnOpen mid new (λ _ c. P kind x c)) same did)

-- of a result, whatever the society is
after_named : (old mid new : State) (text : List ℕ) (P : List ℕ → Content → Type 0)
    → OnOpen old mid (λ society c. (text ≡ society) × HasArchive society c mid)
    → OnOpen mid new P → OnOpen old new P
after_named old mid new text P first more clean =
    let at = more clean in
    let was = first at.0 in (was.0, λ society c has. at.1 society c (was.1 society c has).0.1)

pub then_each : {A : Type 0} (r : Result A RefusalKind) (old mid new : State) (text : List ℕ)
    (P : A → List ℕ → Content → Type 0) → OnOpen old mid (λ society c. (text ≡ society) × HasArchive society c mid)
    → IfOk r (λ a. OnOpen mid new (P a)) → IfOk r (λ a. OnOpen old new (P a))
then_each (Ok a) old mid new text P first did = after_named old mid new text (P a) first did
then_each (Err kind) old mid new text P first did = tt

pub fails_then : {A : Type 0} (r : Result A RefusalKind) (old mid new : State) (text : List ℕ)
    → OnOpen old mid (λ society c. (text ≡ society) × HasArchive society c mid)
    → IfErr r (λ kind. OnOpen mid new (λ _ _. IsFailure kind))
    → IfErr r (λ kind. OnOpen old new (λ _ _. IsFailure kind))
fails_then (Ok a) old mid new text first did = tt
fails_then (Err kind) old mid new text first did =
    after_named old mid new text (λ _ _. IsFailure kind) first did

-- the writer is not blamed for a read
pub not_blamed : (kind : RefusalKind) (Failed : Type 0) → is_stop kind ≡ true → kind ≡ WriteFailed → Failed
not_blamed kind Failed stops is = absurd (true≢false (sym stops ∙ ap is_stop is))
