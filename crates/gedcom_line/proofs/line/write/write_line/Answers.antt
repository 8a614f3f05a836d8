use Rattle.std.proofs.Common.{ℕ, List, [], ◌∷◌, ◌++◌, Option, Bor, option_map}
use Rattle.std.specs.Fmt.{decimal}
use Rattle.gedcom_line.specs.Spelling.{xref_text, raw_text, spelling}
use Rattle.gedcom_line.proofs.Beginnings.{
  err_keeps,
  begun_same,
  begun_part,
  from_level,
  from_xref,
  from_tag,
  from_raw,
  from_end,
}
use Rattle.gedcom_line.proofs.line.write.write_line.Goals as goal
use Rattle.list_laws.proofs.Outcomes.{on_err}
use Rattle.list_laws.proofs.Lists.{behind}

-- a cross reference, as the definition has it
abbrev name : Option (Bor (List ℕ)) → Option (List ℕ)
name x = option_map (λ s. s.now) x

pub returns-in_err-push_str-clause-err : goal.returns-in_err-push_str-clause-err
unfolding spelling
returns-in_err-push_str-clause-err c =
    let d : List ℕ = decimal c.args.level in
    on_err c.from_residual-in_err-push_str.result
    (begun_part _ _ _ d (32 ∷ []) _ _ c.in_ok-push_level.ensures.ok
    (begun_same _ _ (32 ∷ []) c.in_err-push_str.ensures.bytes)
    (from_level d (xref_text (name c.args.xref)) c.args.tag.now (raw_text c.args.raw.now)))

pub returns-in_err-push_xref-clause-err : goal.returns-in_err-push_xref-clause-err
unfolding spelling
returns-in_err-push_xref-clause-err c =
    let d : List ℕ = decimal c.args.level in
    let x : List ℕ = xref_text (name c.args.xref) in
    let m = behind _ _ _ d (32 ∷ []) c.in_ok-push_level.ensures.ok c.in_ok-push_str.ensures.bytes in
    on_err c.from_residual-in_err-push_xref.result
    (begun_part _ _ _ (d ++ 32 ∷ []) x _ _ m c.in_err-push_xref.ensures.err
    (from_xref d x c.args.tag.now (raw_text c.args.raw.now)))

pub returns-in_err-push_str-2-clause-err : goal.returns-in_err-push_str-2-clause-err
unfolding spelling
returns-in_err-push_str-2-clause-err c =
    let d : List ℕ = decimal c.args.level in
    let x : List ℕ = xref_text (name c.args.xref) in
    let m = behind _ _ _ d (32 ∷ []) c.in_ok-push_level.ensures.ok c.in_ok-push_str.ensures.bytes in
    let n = behind _ _ _ (d ++ 32 ∷ []) x m c.in_ok-push_xref.ensures.ok in
    on_err c.from_residual-in_err-push_str-2.result
    (begun_part _ _ _ _ c.args.tag.now _ _ n (begun_same _ _ c.args.tag.now c.in_err-push_str-2.ensures.bytes)
    (from_tag d x c.args.tag.now (raw_text c.args.raw.now)))

pub returns-in_err-push_raw-clause-err : goal.returns-in_err-push_raw-clause-err
unfolding spelling
returns-in_err-push_raw-clause-err c =
    let d : List ℕ = decimal c.args.level in
    let x : List ℕ = xref_text (name c.args.xref) in
    let m = behind _ _ _ d (32 ∷ []) c.in_ok-push_level.ensures.ok c.in_ok-push_str.ensures.bytes in
    let n = behind _ _ _ (d ++ 32 ∷ []) x m c.in_ok-push_xref.ensures.ok in
    let o = behind _ _ _ ((d ++ 32 ∷ []) ++ x) c.args.tag.now n c.in_ok-push_str-2.ensures.bytes in
    on_err c.from_residual-in_err-push_raw.result
    (begun_part _ _ _ _ (raw_text c.args.raw.now) _ _ o c.in_err-push_raw.ensures.err
    (from_raw d x c.args.tag.now (raw_text c.args.raw.now)))

pub returns-clause-err : goal.returns-clause-err
unfolding spelling
returns-clause-err c =
    let d : List ℕ = decimal c.args.level in
    let x : List ℕ = xref_text (name c.args.xref) in
    let m = behind _ _ _ d (32 ∷ []) c.in_ok-push_level.ensures.ok c.in_ok-push_str.ensures.bytes in
    let n = behind _ _ _ (d ++ 32 ∷ []) x m c.in_ok-push_xref.ensures.ok in
    let o = behind _ _ _ ((d ++ 32 ∷ []) ++ x) c.args.tag.now n c.in_ok-push_str-2.ensures.bytes in
    let p = behind _ _ _ (((d ++ 32 ∷ []) ++ x) ++ c.args.tag.now) (raw_text c.args.raw.now) o
    c.in_ok-push_raw.ensures.ok in
    err_keeps c.push_str-3.result _ _ _ c.push_str-3.ensures.bytes
    (λ e. begun_part _ _ _ _ (10 ∷ []) [] _ p (begun_same _ _ (10 ∷ []) e)
    (from_end d x c.args.tag.now (raw_text c.args.raw.now)))
