use Rattle.std.proofs.Common.{inl, inr}
use Rattle.parish.proofs.reporting.cannot_make.Goals as goal

pub returns : goal.returns
returns g c =
    let told = rw c.as_bytes.ensures.value at (rw c.placeless.ensures at c.refuse.ensures.told) in (
      c.refuse.ensures.status,
      elim c.hint_of.ensures [
        | inl there ↦ inl (rw there at told)
        | inr unmade ↦ inr (rw unmade at told)
      ],
    )
