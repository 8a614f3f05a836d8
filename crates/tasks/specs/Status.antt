-- The exit status of a task, and the line of a refusal. Rules of our own.
use Rattle.std.specs.Prelude.{◌≡◌, ◌++◌, ◌∷◌, [], ℕ, Bool, false, List, Option, None, Some, Result, Ok, Err, codes}
use Rattle.std.specs.Fmt.{decimal}
use Rattle.record_text.specs.Refusals.{name_of, number_of, unit_name}
use Rattle.record_text.specs.declared.refusal.RefusalKind.{RefusalKind}
use Rattle.record_text.specs.declared.refusal.RefusalText.{RefusalText}
use Rattle.record_text.specs.declared.refusal.Unit.{Unit as Counted}
use Rattle.record_text.specs.declared.refusal.Unit.TheVariants as unit
use Rattle.store.specs.Histories.{is_storage}
use Rattle.tasks.specs.Faults.{IsReported}
use Rattle.tasks.specs.Hints.{IsHint}

-- what is done, or why it is not, with the place
abbrev pub Outcome : Type 0
Outcome = Result (Unit {0}) RefusalText

-- the same without a place
abbrev pub Plain : Type 0
Plain = Result (Unit {0}) RefusalKind

abbrev pub placeless_text : RefusalKind → RefusalText
placeless_text kind = record { refusal = record { kind = kind; at = None }; unit = unit.Line }

abbrev pub as_text : Plain → Outcome
as_text (Ok done) = Ok done
as_text (Err kind) = Err (placeless_text kind)

-- 80: the database failed
abbrev pub is_80 : Outcome → Bool
is_80 (Ok done) = false
is_80 (Err t) = is_storage t.refusal.kind

-- the number of a refusal and its name: `parish: 22 NoTrailer`
abbrev pub kind_text : RefusalKind → List ℕ
kind_text kind = codes "parish: " ++ (decimal (number_of kind) ++ (codes " " ++ name_of kind))

-- its place: ` at line 4`, ` at row 4`
abbrev pub place_text : Counted → Option ℕ → List ℕ
place_text unit None = []
place_text unit (Some n) = codes " at " ++ (unit_name unit ++ (codes " " ++ decimal n))

-- the line of a refusal, with its place where it has one
abbrev pub refusal_line : RefusalText → List ℕ
refusal_line t = kind_text t.refusal.kind ++ (place_text t.unit t.refusal.at ++ 10 ∷ [])

-- the line of a refusal was written, and then a hint, each whole but where the faults failed, by their count. `said` is
-- what the faults have got, `failed` how often they failed
abbrev pub IsRefused : {F : Type 0} → (F → Option (List ℕ)) → (F → ℕ) → RefusalText → List ℕ → F → F → Type 0
IsRefused {F} said failed refusal hint old new = (between : F)
    × IsReported said failed old between (refusal_line refusal) × IsReported said failed between new hint

-- 0, and nothing more is said on the faults; or 1, with the refusal there and a hint of it
abbrev pub Finishes : {F : Type 0} → (F → Option (List ℕ)) → (F → ℕ) → Outcome → ℕ → F → F → Type 0
Finishes said failed (Ok done) status old new = (status ≡ 0) × (new ≡ old)
Finishes said failed (Err refusal) status old new = (status ≡ 1)
    × ((hint : List ℕ) × IsHint refusal.refusal.kind hint × IsRefused said failed refusal hint old new)
