-- Shallow records are kept as trees that are low enough, and are read again from them, also where lines that are too
-- deep are left out.
use Rattle.std.specs.Prelude.{
  ℕ,
  ◌≡◌,
  ◌≢◌,
  ◌≤◌,
  nat_le,
  List,
  [],
  ◌∷◌,
  ◌++◌,
  map,
  Option,
  Some,
  None,
  option_map,
  true,
  false,
  MatchOption,
  IfOk,
  Result,
  Ok,
  Err,
  cond,
}
use Rattle.std.specs.List.{All}
use Rattle.std.proofs.Common.{ap, sym, ◌∙◌, arith}
use Rattle.std.proofs.lemmas.List.Elements.{All-head, All-tail}
use Rattle.std.proofs.lemmas.Bool.Decides.{nat_tests}
use Rattle.stored_lines.specs.Tree.{Tree, forest_of, flat, relabel}
use Rattle.stored_lines.specs.Levels.{levels, forest_levels, AreShallow, IsLow}
use Rattle.stored_lines.specs.Line.{Label, Lines, Branches, label_of}
use Rattle.stored_lines.proofs.Back.{lines_back, flat_one}
use Rattle.stored_lines.proofs.Levels.{levels-append, levels-map}
use Rattle.record_kinds.specs.Model as model
use Rattle.record_kinds.specs.declared.record.Record.{Record}
use Rattle.record_kinds.specs.declared.record.Record.TheVariants as kind
use Rattle.record_fields.specs.Words.{quality_word, sex_word, role_word}
use Rattle.record_fields.specs.Dated.{date_text}
use Rattle.records.specs.Stored.{
  lines_below,
  text_trees,
  holding_tree,
  name_tree,
  partner_tree,
  child_tree,
  when_trees,
  participant_tree,
  mention_tree,
  link_reason,
  bare_place,
  record_tree,
  stored,
}
use Rattle.records.specs.Reading.{all_lines, shallow_lines, record_from}
use Rattle.records.specs.Shallow.{
  InHolding,
  InName,
  InPartner,
  InChild,
  InPlaceLine,
  InParticipant,
  InRecord,
  IsShallow,
}
use Rattle.records.specs.declared.field.Field.{Field}
use Rattle.records.specs.declared.field.Field.TheVariants as field
use Rattle.records.proofs.Back.{record_back}

-- how many levels the lines below a part have
abbrev Low : Branches → Type 0
Low ts = forest_levels (forest_of ts) ≤ 102

low-lines : (f : Field) (cs : Lines) → AreShallow cs → forest_levels (forest_of (lines_below f cs)) ≤ 100
low-lines f [] k = omega arith
low-lines f (c ∷ cs) k =
    let few : forest_levels (forest_of (c ∷ cs)) ≤ 99 = k in
    omega (arith, levels-map label_of (c ∷ cs))

low-text : (f : Field) (t : Option (List ℕ)) → forest_levels (forest_of (text_trees f t)) ≤ 1
low-text f None = omega arith
low-text f (Some t) = omega arith

lines : (f : Field) (cs : Lines) → AreShallow cs → Low (lines_below f cs)
lines f cs k = omega (arith, low-lines f cs k)

text : (f : Field) (t : Option (List ℕ)) → Low (text_trees f t)
text f t = omega (arith, low-text f t)

both : (ts us : Branches) → Low ts → Low us → Low (ts ++ us)
both ts us h k = omega (arith, levels-append ts us)

parts : {A : Type 0} (kept : A → Tree Label) (Q : A → Type 0) → ((a : A) → Q a → levels (kept a) ≤ 102) → (xs : List A)
    → All Q xs → Low (map kept xs)
parts kept Q low [] k = omega arith
parts kept Q low (x ∷ xs) k = omega (arith, low x (All-head Q x xs k), parts kept Q low xs (All-tail Q x xs k))

holding : (h : model.Holding) → InHolding AreShallow h → levels (holding_tree h) ≤ 102
holding h k = omega (arith, low-lines field.Carried h.carried k)

name : (n : model.Name) → InName AreShallow n → levels (name_tree n) ≤ 102
name n k = omega (arith, low-lines field.Carried n.carried k)

partner : (p : model.Partner) → InPartner AreShallow p → levels (partner_tree p) ≤ 102
partner p k = omega (
  arith,
  levels-append (lines_below field.Side p.carried_by_person)
      (lines_below field.Carried p.carried),
  low-lines field.Side p.carried_by_person k.1,
  low-lines field.Carried p.carried k.0,
)

child : (c : model.Child) → InChild AreShallow c → levels (child_tree c) ≤ 102
child c k = omega (
  arith,
  levels-append (lines_below field.Side c.carried_by_person)
      (lines_below field.Carried c.carried),
  low-lines field.Side c.carried_by_person k.1,
  low-lines field.Carried c.carried k.0,
)

participant : (p : model.Participant) → InParticipant AreShallow p → levels (participant_tree p) ≤ 102
participant p k = omega (arith, low-lines field.Carried p.carried k)

when : (date : Option (List ℕ)) (p : Option model.EventPlace) → InPlaceLine AreShallow p → Low (when_trees date p)
when date None k = text field.Date date
when date (Some p) k = omega (arith, low-lines field.Carried p.carried k)

bare : (p : Option ℕ) → InPlaceLine AreShallow (option_map bare_place p)
bare None = tt
bare (Some n) = omega arith

mention : (m : model.Mention) → levels (mention_tree m) ≤ 102
mention m = omega (
  arith,
  levels-append (text_trees field.Role (Some (role_word m.role)))
      (text_trees field.Reason (option_map link_reason m.link)),
  low-text field.Reason (option_map link_reason m.link),
)

pub low : (r : Record) → IsShallow r → IsLow (record_tree r)
low (kind.Place p) k = omega (arith, lines field.Carried p.carried k)
low (kind.Repo r) k = omega (arith, lines field.Carried r.carried k)
low (kind.Source s) k =
    let hs : Branches = map holding_tree s.holdings in
    let cs : Branches = lines_below field.Carried s.carried in
    omega (
      arith,
      both (text_trees field.Author s.author) (text_trees field.Publisher s.publisher ++ (hs ++ cs))
          (text field.Author s.author)
          (both (text_trees field.Publisher s.publisher) (hs ++ cs) (text field.Publisher s.publisher)
          (both hs cs (parts holding_tree (InHolding AreShallow) holding s.holdings k.0)
          (lines field.Carried s.carried k.1))),
    )
low (kind.Person p) k =
    let ns : Branches = map name_tree p.names in
    let sex = option_map sex_word p.sex in
    let cs : Branches = lines_below field.Carried p.carried in
    omega (
      arith,
      both ns (text_trees field.Sex sex ++ cs) (parts name_tree (InName AreShallow) name p.names k.0)
          (both (text_trees field.Sex sex) cs (text field.Sex sex) (lines field.Carried p.carried k.1)),
    )
low (kind.Family f) k =
    let ps : Branches = map partner_tree f.partners in
    let ks : Branches = map child_tree f.children in
    let cs : Branches = lines_below field.Carried f.carried in
    omega (
      arith,
      both ps (ks ++ cs) (parts partner_tree (InPartner AreShallow) partner f.partners k.0)
          (both ks cs (parts child_tree (InChild AreShallow) child f.children k.1.0)
          (lines field.Carried f.carried k.1.1)),
    )
low (kind.Citation c) k =
    let quality = option_map quality_word c.quality in
    let cs : Branches = lines_below field.Carried c.carried in
    omega (
      arith,
      both (text_trees field.Quality quality) cs (text field.Quality quality)
          (lines field.Carried c.carried k),
    )
low (kind.Event e) k =
    let date = option_map date_text e.date in
    let ps : Branches = map participant_tree e.participants in
    let cs : Branches = lines_below field.Carried e.carried in
    omega (
      arith,
      both (when_trees date e.place) (ps ++ cs) (when date e.place k.0)
          (both ps cs (parts participant_tree (InParticipant AreShallow) participant e.participants k.1.0)
          (lines field.Carried e.carried k.1.1)),
    )
low (kind.Entry e) k =
    let date = option_map date_text e.date in
    let place = option_map bare_place e.place in
    let ms : Branches = map mention_tree e.mentions in
    let words : Branches = text_trees field.Text (Some e.text) in
    omega (
      arith,
      both (when_trees date place) (words ++ ms) (when date place (bare e.place))
          (both words ms (text field.Text (Some e.text))
          (parts mention_tree (λ _. Unit {0}) (λ m _. mention m) e.mentions (λ _ _ _. tt))),
    )
low (kind.Other o) k =
    let few : forest_levels (forest_of o.carried) ≤ 99 = k in
    omega (arith, levels-map label_of o.carried)

-- carried lines that are read
pub lines_read : (ts : Branches) → AreShallow ts → all_lines ts ≡ shallow_lines ts
lines_read ts k =
    let few : nat_le (forest_levels (forest_of ts)) 99 ≡ true = (let h : forest_levels (forest_of ts) ≤ 99 = k in
    grind (arith, nat_tests)) in
    ap (λ b. cond b (all_lines ts) []) (sym few)

pub no_lines_read : (ts : Branches) → (AreShallow ts → ⊥) → [] ≡ shallow_lines ts
no_lines_read ts k =
    let many : nat_le (forest_levels (forest_of ts)) 99 ≡ false = (let h : forest_levels (forest_of ts) ≤ 99 → ⊥ = k in
    grind (arith, nat_tests)) in
    ap (λ b. cond b (all_lines ts) []) (sym many)

shallow_back : (ls : Lines) → AreShallow ls → shallow_lines (map (relabel label_of) ls) ≡ ls
shallow_back ls k =
    let few : forest_levels (forest_of ls) ≤ 99 = k in
    let same : AreShallow (map (relabel label_of) ls) = omega (arith, levels-map label_of ls) in
    sym (lines_read (map (relabel label_of) ls) same) ∙ lines_back ls

read_back : (r : Record) → IsShallow r → record_from shallow_lines (record_tree r) ≡ Some r
read_back r k = record_back shallow_lines AreShallow (omega arith) shallow_back r k

-- nothing asked of carried lines, each record is read again
place-any : (p : Option model.EventPlace) → InPlaceLine (λ _. Unit {0}) p
place-any None = tt
place-any (Some p) = tt

any : (r : Record) → InRecord (λ _. Unit {0}) r
any (kind.Place p) = tt
any (kind.Repo r) = tt
any (kind.Source s) = (λ _ _ _. tt, tt)
any (kind.Person p) = (λ _ _ _. tt, tt)
any (kind.Family f) = (λ _ _ _. (tt, tt), (λ _ _ _. (tt, tt), tt))
any (kind.Citation c) = tt
any (kind.Event e) = (place-any e.place, (λ _ _ _. tt, tt))
any (kind.Entry e) = tt
any (kind.Other o) = tt

whole_back : (r : Record) → record_from all_lines (record_tree r) ≡ Some r
whole_back r = record_back all_lines (λ _. Unit {0}) tt (λ ls _. lines_back ls) r (any r)

-- so do its lines: no other record is kept as them
pub stored_one : (r s : Record) → stored r ≡ stored s → r ≡ s
stored_one r s e = let same : Some r ≡ Some s = sym (whole_back r) ∙ ap (record_from all_lines)
    (flat_one (record_tree r) (record_tree s) e) ∙ whole_back s in cc

pub copied_back : (r : Record) (o : Option Record) → IsShallow r → o ≡ record_from shallow_lines
    (record_tree r) → o ≡ Some r
copied_back r o k e = e ∙ read_back r k

pub copy_is : (r x : Record) (t : Tree Label) (o : Option Record) → IsShallow r → o ≡ record_from shallow_lines t
    → t ≡ record_tree r → o ≡ Some x → x ≡ r
copy_is r x t o k e h is = let same : Some x ≡ Some r = sym is ∙ e ∙ ap (record_from shallow_lines) h
    ∙ read_back r k in cc

-- lines that are not those of the record that is read from their tree are those of no shallow record
found-one : (ls : List (ℕ × Label)) (t : Tree Label) (r : Record) → ls ≡ flat 0 t → ls ≡ stored r → IsShallow r
    → record_from shallow_lines t ≡ Some r
found-one ls t r e f k = ap (record_from shallow_lines) (flat_one t (record_tree r) (sym e ∙ f)) ∙ read_back r k

abbrev IsTree : List (ℕ × Label) → Option (Tree Label) → Type 0
IsTree ls found = MatchOption found ((u : Tree Label) → IsLow u → ls ≢ flat 0 u) (λ u. IsLow u × (ls ≡ flat 0 u))

pub no_tree : (ls : List (ℕ × Label)) (found : Option (Tree Label)) → IsTree ls found → found ≡ None → (r : Record)
    → IsShallow r → ls ≢ stored r
no_tree ls None e is = λ r k f. e (record_tree r) (low r k) f
no_tree ls (Some t) e is = absurd cc

pub no_record : (ls : List (ℕ × Label)) (found : Option (Tree Label)) (t : Tree Label) (o : Option Record)
    → IsTree ls found → found ≡ Some t → o ≡ record_from shallow_lines t → o ≡ None → (r : Record)
    → IsShallow r → ls ≢ stored r
no_record ls None t o e is h n = absurd cc
no_record ls (Some u) t o e is h n = λ r k f.
    let same_tree : u ≡ t = cc in
    let lines_of_t : ls ≡ flat 0 t = e.1 ∙ ap (flat 0) same_tree in
    let same : None ≡ Some r = sym n ∙ h ∙ found-one ls t r lines_of_t f k in
    absurd cc

not_same : (ls : List (ℕ × Label)) (found : Option (Tree Label)) (t : Tree Label) (kept : Option Record) (x : Record)
    → IsTree ls found → found ≡ Some t → kept ≡ record_from shallow_lines t → kept ≡ Some x → t ≢ record_tree x
    → (r : Record) → IsShallow r → ls ≢ stored r
not_same ls None t kept x e is h k differs = absurd cc
not_same ls (Some u) t kept x e is h k differs = λ r shallow f.
    let same_tree : u ≡ t = cc in
    let lines_of_t : ls ≡ flat 0 t = e.1 ∙ ap (flat 0) same_tree in
    let same : Some x ≡ Some r = sym k ∙ h ∙ found-one ls t r lines_of_t f shallow in
    let one : r ≡ x = cc in
    differs (flat_one t (record_tree r) (sym lines_of_t ∙ f) ∙ ap record_tree one)

same_lines : (ls : List (ℕ × Label)) (found : Option (Tree Label)) (t : Tree Label) (s : Record) → IsTree ls found
    → found ≡ Some t → t ≡ record_tree s → ls ≡ stored s
same_lines ls None t s e is h = absurd cc
same_lines ls (Some u) t s e is h =
    let same_tree : u ≡ t = cc in
    e.1 ∙ ap (flat 0) (same_tree ∙ h)

pub one_kept : {E : Type 0} (ls : List (ℕ × Label)) (found : Option (Tree Label)) (t : Tree Label)
    (kept : Option Record) (x : Record) → IsTree ls found → found ≡ Some t → kept ≡ record_from shallow_lines t
    → kept ≡ Some x → (r : Result (Option Record) E)
    → IfOk r (λ o. MatchOption o (t ≢ record_tree x) (λ s. t ≡ record_tree s))
    → IfOk r (λ o. MatchOption o ((s : Record) → IsShallow s → ls ≢ stored s) (λ s. ls ≡ stored s))
one_kept ls found t kept x e is h k (Ok None) differs = not_same ls found t kept x e is h k differs
one_kept ls found t kept x e is h k (Ok (Some s)) same = same_lines ls found t s e is same
one_kept ls found t kept x e is h k (Err _) _ = tt
