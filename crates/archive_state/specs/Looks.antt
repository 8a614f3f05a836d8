-- What a call of a view does, and what is decided over a view.
use Rattle.std.specs.Prelude.{ℕ, ◌≡◌, ◌+◌, ◌≤◌, Result, Ok, Err, Bool, true, false, None}
use Rattle.std.specs.Result.{IfErr}
use Rattle.record_text.specs.declared.refusal.Refusal.{Refusal}
use Rattle.record_text.specs.declared.refusal.RefusalKind.{RefusalKind}
use Rattle.record_text.specs.declared.refusal.RefusalKind.TheVariants.{OutOfMemory, BadStored, Storage}
use Rattle.devices.specs.Devices.{Rose}
use Rattle.archive_state.specs.Content.{Content}

-- the refusals that only a failure of the view's own reads may give: 40 and 80
abbrev pub is_failure : RefusalKind → Bool
is_failure BadStored = true
is_failure Storage = true
is_failure _ = false

-- the refusals that may come in place of any other answer: 1, 40 and 80
abbrev pub is_stop : RefusalKind → Bool
is_stop OutOfMemory = true
is_stop BadStored = true
is_stop Storage = true
is_stop _ = false

-- the count does not fall, and has risen where a failure is answered
abbrev pub CountsFailures : {A : Type 0} → ℕ → ℕ → Result A RefusalKind → Type 0
CountsFailures before after r = (before ≤ after) × IfErr r (λ e. is_failure e ≡ true → Rose before after)

-- the same of a refusal with its place; a stop has none
abbrev pub CountsStops : {A : Type 0} → ℕ → ℕ → Result A Refusal → Type 0
CountsStops before after r = (before ≤ after)
    × IfErr r (λ e. (is_failure e.kind ≡ true → Rose before after) × (is_stop e.kind ≡ true → e.at ≡ None))

-- the same of one call of a view, which counts one failure at the most
abbrev pub CountsOne : {A : Type 0} → ℕ → ℕ → Result A RefusalKind → Type 0
CountsOne before after r = CountsFailures before after r × (after ≤ before + 1)

-- a look: its answer, or a stop
abbrev pub Looked : {A : Type 0} → Result A RefusalKind → (A → Type 0) → Type 0
Looked (Ok a) P = P a
Looked (Err e) P = is_stop e ≡ true

-- a view that is honest at the end was so at the start; what it showed then it shows still, and P holds of the content
-- of that
abbrev pub OnView : {S Held : Type 0} → (S → Type 0) → (S → Held → Type 0) → (Held → Content) → S → S
    → (Content → Type 0) → Type 0
OnView {S} {Held} honest shows content before after P =
    honest after → honest before × ((held : Held) → shows before held → shows after held × P (content held))

-- what code answers is what is right, an answer or a refusal; or it is a stop
abbrev pub Agrees : {A E : Type 0} → (E → Bool) → Result A E → Result A E → Type 0
Agrees stop (Ok a) right = right ≡ Ok a
Agrees stop (Err e) right = stop e ≡ false → right ≡ Err e
