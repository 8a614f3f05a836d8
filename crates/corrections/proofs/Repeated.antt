-- Lists of a record and the values of its fields after one correction, and after another one.
use Rattle.std.specs.Prelude.{
  ◌≡◌,
  ℕ,
  zero,
  suc,
  ◌-◌,
  ◌&&◌,
  ◌==◌,
  not,
  nat_le,
  nat_lt,
  Bool,
  true,
  false,
  List,
  [],
  ◌∷◌,
  ◌++◌,
  length,
  Option,
  Some,
  None,
  Result,
  Ok,
  Err,
  refl,
  if◌then◌else◌,
}
use Rattle.std.specs.List.{flat_map, remove}
use Rattle.std.proofs.Common.{ap, ◌∙◌}
use Rattle.record_text.specs.declared.refusal.RefusalKind.{RefusalKind}
use Rattle.record_text.specs.declared.refusal.RefusalKind.TheVariants.{NoSuchField, BadText}
use Rattle.record_fields.specs.Words.{role_of}
use Rattle.record_fields.specs.declared.entry_words.Role.{Role}
use Rattle.record_kinds.specs.Model as model
use Rattle.record_kinds.specs.declared.record.Record.{Record}
use Rattle.record_kinds.specs.declared.record.Record.TheVariants as kind
use Rattle.record_shapes.specs.Forms.{is_empty}
use Rattle.stored_lines.specs.Line.{Lines}
use Rattle.corrections.specs.Corrections.{
  called,
  corrected,
  entry_with,
  has_mention,
  held_at,
  made,
  mention_as,
  mention_named,
  mentions_with,
  names_with,
  or_none,
  person_with,
  place_with,
  renamed,
  role_for,
}
use Rattle.corrections.specs.Laws.{place_carried}
use Rattle.corrections.specs.Lists.{changed_at}
use Rattle.corrections.specs.declared.correction.Correction.TheVariants as value
use Rattle.corrections.specs.declared.field.TextField.TheVariants as text_field
use Rattle.corrections.specs.declared.position.Position.{Position}

-- ---- the carried lines of a list
pub same_carried : {A : Type 0} (below : A → Lines) (f : A → A) → ((a : A) → below (f a) ≡ below a) → (i : ℕ)
    (xs : List A)
    → flat_map below (changed_at i f xs) ≡ flat_map below xs
same_carried below f h i [] = refl
same_carried below f h zero (x ∷ xs) = ap (λ l. l ++ flat_map below xs) (h x)
same_carried below f h (suc i) (x ∷ xs) = ap (λ l. below x ++ l) (same_carried below f h i xs)

names_if : (k : ℕ) (t : List ℕ) (ns : List model.Name) (b : Bool) → b ≡ false
    → flat_map (λ (n : model.Name). n.carried) (if b then remove ns (k - 1) else changed_at (k - 1) (renamed t) ns)
    ≡ flat_map (λ (n : model.Name). n.carried) ns
names_if k t ns true e = absurd cc
names_if k t ns false e = same_carried (λ (n : model.Name). n.carried) (renamed t) (λ _. refl) (k - 1) ns

pub names_carried : (k : ℕ) (t : List ℕ) (ns : List model.Name) → (is_empty t && nat_lt 1 (length ns)) ≡ false
    → flat_map (λ (n : model.Name). n.carried) (names_with k t ns) ≡ flat_map (λ (n : model.Name). n.carried) ns
names_carried k t ns e = names_if k t ns (is_empty t && nat_lt 1 (length ns)) e

pub another_place : (n : ℕ) (o : Option model.EventPlace) → place_carried (place_with (Some n) o) ≡ place_carried o
another_place n None = refl
another_place n (Some p) = refl

pub another_repo : (n : ℕ) (hs : List model.Holding) → flat_map (λ (h : model.Holding). h.carried) (held_at n hs)
    ≡ flat_map (λ (h : model.Holding). h.carried) hs
another_repo n [] = refl
another_repo n (h ∷ hs) = refl

-- ---- a later value of a field of a list
changed_twice : {A : Type 0} (f g : A → A) → ((a : A) → g (f a) ≡ g a) → (i : ℕ) (xs : List A)
    → changed_at i g (changed_at i f xs) ≡ changed_at i g xs
changed_twice f g h i [] = refl
changed_twice f g h zero (x ∷ xs) = ap (λ y. y ∷ xs) (h x)
changed_twice f g h (suc i) (x ∷ xs) = ap (λ ys. x ∷ ys) (changed_twice f g h i xs)

length_changed : {A : Type 0} (f : A → A) (i : ℕ) (xs : List A) → length (changed_at i f xs) ≡ length xs
length_changed f i [] = refl
length_changed f zero (x ∷ xs) = refl
length_changed f (suc i) (x ∷ xs) = ap suc (length_changed f i xs)

remove_changed : {A : Type 0} (f : A → A) (i : ℕ) (xs : List A) → remove (changed_at i f xs) i ≡ remove xs i
remove_changed f i [] = refl
remove_changed f zero (x ∷ xs) = refl
remove_changed f (suc i) (x ∷ xs) = ap (λ ys. x ∷ ys) (remove_changed f i xs)

made_same : {A B : Type 0} (f g : A → B) → ((a : A) → f a ≡ g a) → (o : Result A RefusalKind) → made f o ≡ made g o
made_same f g h (Ok a) = ap Ok (h a)
made_same f g h (Err e) = refl

names_kept : (k : ℕ) (t : List ℕ) (ns : List model.Name) (b : Bool) → b ≡ false
    → (if b then remove ns (k - 1) else changed_at (k - 1) (renamed t) ns) ≡ changed_at (k - 1) (renamed t) ns
names_kept k t ns true e = absurd cc
names_kept k t ns false e = refl

names_later : (k : ℕ) (t u : List ℕ) (ns : List model.Name)
    → names_with k u (changed_at (k - 1) (renamed t) ns) ≡ names_with k u ns
names_later k t u ns =
    let ms : List model.Name = changed_at (k - 1) (renamed t) ns in
    ap (λ n. if is_empty u && nat_lt 1 n then remove ms (k - 1) else changed_at (k - 1) (renamed u) ms)
    (length_changed (renamed t) (k - 1) ns)
    ∙ ap (λ xs. if is_empty u && nat_lt 1 (length ns) then xs else changed_at (k - 1) (renamed u) ms)
    (remove_changed (renamed t) (k - 1) ns)
    ∙ ap (λ xs. if is_empty u && nat_lt 1 (length ns) then remove ns (k - 1) else xs)
    (changed_twice (renamed t) (renamed u) (λ _. refl) (k - 1) ns)

pub name_later : (p : model.Person) (k : Position) (t u : List ℕ) → (is_empty t && nat_lt 1 (length p.names)) ≡ false
    → person_with (value.Text (text_field.NameAt k) u) (record p { names = names_with k.number t p.names })
    ≡ person_with (value.Text (text_field.NameAt k) u) p
name_later p k t u stays =
    let ms : List model.Name = changed_at (k.number - 1) (renamed t) p.names in
    ap (λ ns. person_with (value.Text (text_field.NameAt k) u) (record p { names = ns }))
    (names_kept k.number t p.names (is_empty t && nat_lt 1 (length p.names)) stays)
    ∙ ap (λ n. if nat_le k.number n then Ok (record p { names = names_with k.number u ms }) else Err NoSuchField)
    (length_changed (renamed t) (k.number - 1) p.names)
    ∙ ap (λ ns. if nat_le k.number (length p.names) then Ok (record p { names = ns }) else Err NoSuchField)
    (names_later k.number t u p.names)

-- the mentions of an entry by another change, after a change
mentions_later : (e : model.Entry) (k : ℕ) (f g : model.Mention → model.Mention) → ((m : model.Mention) → g (f m)
    ≡ g m)
    → mentions_with k g (mentions_with k f e) ≡ mentions_with k g e
mentions_later e k f g h = ap (λ ms. record e { mentions = ms }) (changed_twice f g h (k - 1) e.mentions)

pub mention_later : (e : model.Entry) (k : Position) (t u : List ℕ)
    → entry_with (value.Text (text_field.NameAt k) u) (mentions_with k.number (mention_named t) e)
    ≡ entry_with (value.Text (text_field.NameAt k) u) e
mention_later e k t u =
    let s : model.Entry = mentions_with k.number (mention_named t) e in
    ap (λ n. if nat_le k.number n then Ok (mentions_with k.number (mention_named u) s) else Err NoSuchField)
    (length_changed (mention_named t) (k.number - 1) e.mentions)
    ∙ ap (λ x. if has_mention k.number e then Ok x else Err NoSuchField)
    (mentions_later e k.number (mention_named t) (mention_named u) (λ _. refl))

pub role_later : (e : model.Entry) (k : Position) (r : Role) (u : List ℕ)
    → entry_with (value.Text (text_field.RoleAt k) u) (mentions_with k.number (mention_as r) e)
    ≡ entry_with (value.Text (text_field.RoleAt k) u) e
role_later e k r u =
    let s : model.Entry = mentions_with k.number (mention_as r) e in
    let o : Result Role RefusalKind = role_for e.kind (role_of u) in
    ap (λ n. if nat_le k.number n then made (λ q. mentions_with k.number (mention_as q) s) o else Err NoSuchField)
    (length_changed (mention_as r) (k.number - 1) e.mentions)
    ∙ ap (λ x. if has_mention k.number e then x else Err NoSuchField)
    (made_same (λ q. mentions_with k.number (mention_as q) s) (λ q. mentions_with k.number (mention_as q) e)
    (λ q. mentions_later e k.number (mention_as r) (mention_as q) (λ _. refl)) o)

pub place_later : (n : ℕ) (m : Option ℕ) (o : Option model.EventPlace) → place_with m (place_with (Some n) o)
    ≡ place_with m o
place_later n None o = refl
place_later n (Some m) None = refl
place_later n (Some m) (Some p) = refl

pub first_later : (s : model.Source) (n : ℕ) (m : Option ℕ) (hs : List model.Holding)
    → corrected (value.Repository m) (kind.Source (record s { holdings = held_at n hs }))
    ≡ corrected (value.Repository m) (kind.Source (record s { holdings = hs }))
first_later s n None [] = refl
first_later s n None (h ∷ hs) = refl
first_later s n (Some m) [] = refl
first_later s n (Some m) (h ∷ hs) = refl

pub call_later : (s : model.Source) (t u : List ℕ)
    → corrected (value.Text text_field.CallNumber u)
    (kind.Source (record s { holdings = changed_at 0 (called (or_none t)) s.holdings }))
    ≡ corrected (value.Text text_field.CallNumber u) (kind.Source s)
call_later s t u =
    let hs : List model.Holding = changed_at 0 (called (or_none t)) s.holdings in
    let whole : Result model.Source RefusalKind → Result Record RefusalKind = λ o. made (λ x. kind.Source x) o in
    ap (λ n. whole (if not (is_empty u) && n == 0 then Err BadText
    else Ok (record s { holdings = changed_at 0 (called (or_none u)) hs })))
    (length_changed (called (or_none t)) 0 s.holdings)
    ∙ ap (λ xs. whole (if not (is_empty u) && length s.holdings == 0 then Err BadText
    else Ok (record s { holdings = xs })))
    (changed_twice (called (or_none t)) (called (or_none u)) (λ _. refl) 0 s.holdings)
