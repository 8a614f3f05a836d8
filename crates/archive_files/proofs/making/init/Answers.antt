use Rattle.std.proofs.Common.{ℕ, List, subst}
use Rattle.std.specs.Prelude.{IfErr, OnOk}
use Rattle.sqlite_wal.specs.Files.{image_at}
use Rattle.archive_files.specs.Made.{IsMadeIn, Unmade}
use Rattle.archive_files.proofs.Refusing.{unnamed}
use Rattle.archive_files.proofs.making.init.Goals as goal

pub returns-in-Ok-clause-made : goal.returns-in-Ok-clause-made
returns-in-Ok-clause-made g c =
    subst (λ (society : List ℕ). OnOk c.init_named.result.0
    (IsMadeIn (image_at g.S.Start) society c.init_named.result.2)) c.in-Ok.ensures.given.0 c.init_named.ensures.made

pub returns-in-Ok-clause-refused : goal.returns-in-Ok-clause-refused
returns-in-Ok-clause-refused g c =
    subst (λ (society : List ℕ). IfErr c.init_named.result.0
    (λ kind. Unmade (image_at g.S.Start) society kind c.init_named.result.2)) c.in-Ok.ensures.given.0
    c.init_named.ensures.refused

pub returns-in-Err-clause-refused : goal.returns-in-Err-clause-refused
returns-in-Err-clause-refused g c = unnamed _ _ c.in-Err.ensures.refused
