use Rattle.std.proofs.Common.{List, ap, refl, string_bytes, subst, sym, ◌∙◌, ◌∷◌, ℕ}
use Rattle.std.proofs.lemmas.Map.Text.{btree_map_updates_text}
use Rattle.std.specs.Prelude.{IsSome, Option, Some}
use Rattle.std.specs.BTreeMap.{BTreeMap, get_by_text}
use Rattle.std.specs.Global.{Global, Vec}
use Rattle.std.specs.declared.string.String.{String}
use Rattle.csv.specs.Records.{fields_of}
use Rattle.csv.specs.Writing.{default_writer, row_text}
use Rattle.expected_answers.specs.Expected.{texts_in, turned}
use Rattle.expected_answers.proofs.Left.{changed, texts_of}
use Rattle.expected_answers.proofs.expected.put_under.Goals as goal

pub returns-in-Some : goal.returns-in-Some
returns-in-Some c =
    let m = c.args.texts.now in
    let w = c.put.new.stack in
    let n = c.get_mut.follows.lender w in
    let token = c.args.token.now in
    let text = row_text default_writer (fields_of c.args.row.now) in
    changed (λ (l : List (List ℕ)). text ∷ l) (get_by_text m) (get_by_text n) token token w refl
    (btree_map_updates_text token m n (Some w)
    ((c.get_mut.follows.holds w).3 (subst (λ (o : Option (Vec (Vec ℕ))). IsSome o) c.in-Some.ensures.value refl)))
    (c.in_ok-put.ensures ∙ ap (λ (t : List ℕ). t ∷ texts_in c.in-Some.stack.now) c.in_ok-text.ensures
    ∙ ap (λ (o : Option (Vec (Vec ℕ))). text ∷ texts_of o) c.in-Some.ensures.value)

pub returns : goal.returns
returns c =
    let m = c.get_mut.follows.lender-at-none in
    let same = c.get_mut.follows.holds-at-none in
    let n = c.insert.new.self in
    let key = string_bytes c.in_ok-key.key in
    let text = row_text default_writer (fields_of c.args.row.now) in
    rw (sym same) (changed (λ (l : List (List ℕ)). text ∷ l) (get_by_text m) (get_by_text n) key c.args.token.now
    c.put-2.new.stack c.in_ok-key.ensures.ok
    (btree_map_updates_text key m n (Some c.put-2.new.stack) c.in_ok-insert.ensures.updates)
    (c.in_ok-put-2.ensures ∙ ap (λ (t : List ℕ). t ∷ texts_in c.new-first.result) c.in_ok-text.ensures
    ∙ ap (λ (l : List (Vec ℕ)). text ∷ turned l) c.new-first.ensures.items
    ∙ ap (λ (o : Option (Vec (Vec ℕ))). text ∷ texts_of o)
    (c.in_default.ensures.value ∙ ap (get_by_text c.args.texts.now) (sym c.in_ok-key.ensures.ok)
    ∙ ap (λ (was : BTreeMap (String Global) (Vec (Vec ℕ))). get_by_text was key) (sym same))))
