use Rattle.std.proofs.Common.{sym, subst}
use Rattle.std.specs.String.{string_bytes}
use Rattle.sqlite.specs.Files.{file_state}
use Rattle.sqlite_wal.specs.Files.{image_at}
use Rattle.archive_files.specs.Made.{IsMadeFor}
use Rattle.archive_files.proofs.Opened.{was_blank}
use Rattle.archive_files.proofs.Refusing.{unmade, unmade_unopened}
use Rattle.archive_files.proofs.making.create.Goals as goal
use Rattle.store.proofs.Opened.{opened_blank}

pub returns-in-Ok-create-clause-made : goal.returns-in-Ok-create-clause-made
returns-in-Ok-create-clause-made g c =
    let made = c.in-Ok-create.ensures in
    let opened = file_state c.in-Ok.conn in
    subst (λ conn. IsMadeFor (image_at g.S.Start) (string_bytes c.args.society) (file_state conn))
    (sym c.into_connection.ensures) (
      c.requires.named,
      (λ clean t holds.
          let o = (c.in-Ok.ensures.opened (made.clean clean)).0 in
          was_blank opened t o.0 o.1 made.named.2 ((c.in-Ok.ensures.opened (made.clean clean)).1.holds t holds)),
      (λ clean.
          let o = (c.in-Ok.ensures.opened (made.clean clean)).0 in
          made.created clean (opened_blank opened o.0 o.1 made.named.2)),
    )

pub returns-in-Err-create-clause-refused : goal.returns-in-Err-create-clause-refused
returns-in-Err-create-clause-refused g c =
    let refused = c.in-Err-create.ensures in
    unmade (image_at g.S.Start) _ c.in-Err-create.kind c.in-Ok.conn c.in-Err-create.conn c.requires.named
    refused.refused refused.back refused.honest
    c.in-Ok.ensures.opened

pub returns-in-Err-clause-refused : goal.returns-in-Err-clause-refused
returns-in-Err-clause-refused g c = unmade_unopened _ _ c.in-Err.left c.requires.named c.in-Err.ensures.unopened
