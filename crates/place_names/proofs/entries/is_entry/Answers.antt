use Rattle.std.proofs.Common.{◌≡◌, true, sym, ap, ◌∙◌}
use Rattle.std.specs.Prelude.{Some, None, bytes_eq, codes}
use Rattle.record_kinds.specs.Model as model
use Rattle.record_shapes.specs.Entries.{entry_of, line_at, number_on}
use Rattle.archive_state.specs.Content.{Content}
use Rattle.place_names.specs.Known.{one_path}
use Rattle.place_names.proofs.Entered.{none_here, one_here}
use Rattle.place_names.proofs.entries.is_entry.Goals as goal

pub returns-in-Some-clause-shows : goal.returns-in-Some-clause-shows
returns-in-Some-clause-shows g c = λ honest.
    let named = c.names_right.ensures.shows honest in (
      named.0,
      λ held shown.
          let before : Content = g.V.View.content held in
          let there = named.1 held shown in
          let tag : bytes_eq c.args.other.now.tag (codes "_REG") ≡ true =
          sym c.is_register.ensures ∙ c.if-not-is_register.false in
          let source : c.source_of.result ≡ number_on (line_at (codes "SOUR") c.args.other.now.carried) =
          c.source_of.ensures ∙ ap (λ ts. number_on (line_at (codes "SOUR") ts))
          (c.deref.ensures.value ∙ ap (λ (x : model.Other). x.carried) c.other.view_is) in
          let read : Some c.in-Some.entry ≡ entry_of (one_path c.args.number c.args.path.now c.source_of.result)
          c.args.other.now.value c.args.other.now.carried =
          sym c.in-Some.is ∙ c.in_ok-entry.ensures
          ∙ ap (λ (x : model.Other). entry_of (one_path c.args.number c.args.path.now c.source_of.result) x.value
          c.deref-2.result.now) c.other.view_is
          ∙ ap (entry_of (one_path c.args.number c.args.path.now c.source_of.result) c.args.other.now.value)
          (c.deref-2.ensures.value ∙ ap (λ (x : model.Other). x.carried) c.other.view_is) in (
            there.0,
            one_here before c.args.number c.args.path.now c.args.other.now tag c.source_of.result source
                c.in-Some.entry read c.names_right.result there.1,
          ),
    )

pub returns-in-None-clause-shows : goal.returns-in-None-clause-shows
returns-in-None-clause-shows g c = λ honest. (
  honest,
  λ held shown.
      let before : Content = g.V.View.content held in
      let tag : bytes_eq c.args.other.now.tag (codes "_REG") ≡ true =
      sym c.is_register.ensures ∙ c.if-not-is_register.false in
      let source : c.source_of.result ≡ number_on (line_at (codes "SOUR") c.args.other.now.carried) =
      c.source_of.ensures ∙ ap (λ ts. number_on (line_at (codes "SOUR") ts))
      (c.deref.ensures.value ∙ ap (λ (x : model.Other). x.carried) c.other.view_is) in
      let read : None ≡ entry_of (one_path c.args.number c.args.path.now c.source_of.result)
      c.args.other.now.value c.args.other.now.carried =
      sym c.in-None.is ∙ c.in_ok-entry.ensures
      ∙ ap (λ (x : model.Other). entry_of (one_path c.args.number c.args.path.now c.source_of.result) x.value
      c.deref-2.result.now) c.other.view_is
      ∙ ap (entry_of (one_path c.args.number c.args.path.now c.source_of.result) c.args.other.now.value)
      (c.deref-2.ensures.value ∙ ap (λ (x : model.Other). x.carried) c.other.view_is) in (
        shown,
        none_here before c.args.number c.args.path.now c.args.other.now tag c.source_of.result source read,
      ),
)
